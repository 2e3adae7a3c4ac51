-- A client holds no page twice; grants of one page name one frame; a held frame is pinned, and no call evicts it: the sequential pool evicts only
-- pages without grants, so the page of a held frame is still there after the call, and its frame is resident. Assumes nothing.
use mathlib.Core.Path.{◌≡◌, refl, sym, ap, ◌∙◌}
use mathlib.Core.Logic.{◌≢◌}
use mathlib.Core.Bool.{Bool, true, false, true≢false}
use mathlib.Core.List.{List}
use Prim.Native.Nat.{ℕ}
use native.Mathlib.Omega.{arith}
use lib.Dec.{eqb}
use lib.ListN.{get_or}
use lib.Seq.{get_or-set_other}
use Rattle.pool.specs.Choose.{member}
use Rattle.pool.specs.State.{none, evicted, slot, pins, client, grant_page, grant_frame}
use Rattle.pool.specs.Grants.{held}
use Rattle.pool.specs.Calls.{call_of}
use Rattle.pool.specs.declared.Pool.{Pool}
use Rattle.pool.specs.declared.Call.{Call}
use Rattle.pool.specs.declared.Answer.{Answer}
use Rattle.invariant.proofs.Reached.{Reached, one, grants_of}
use Rattle.invariant.proofs.Sums.{one_is, sum_has}
use Rattle.invariant.proofs.Facts.{single, grant_pinned}
use Rattle.invariant.proofs.Grants.{not_held}
use Rattle.invariant.proofs.Calls.{reached_call}
use Rattle.guarantee.specs.Runs.{event_of, events, along}
use Rattle.guarantee.specs.Sequential as Plain
use Rattle.guarantee.specs.Sequential.{SeqSlot, SeqClient, Sequential, seq_client, Keeps, StepRule, adds, admits, evicts, answers, continues}
use Rattle.guarantee.specs.Sequential.{refuses, Rule, turns_down, begins, releases, steps}
use Rattle.guarantee.specs.Claims.{OneEach, OneCopy, BecomesEvicted, NoHeldEvicted}
use Rattle.guarantee.proofs.Along.{at_each}
use Rattle.guarantee.proofs.SimulationRelation.{ResidentFrame, is_member, SimulationRelation, view, view_related}
use Rattle.guarantee.proofs.Follow.{Followed, followed}
use Rattle.guarantee.proofs.Frames.{same_frame, Grant, held_grant}
use Rattle.guarantee.proofs.Pages.{page_there, page_resident}

pub one_each : (p : Pool) → Reached p → OneEach p
one_each p r = record {
  held_once = single p r;
  not_begun = λ c i s h. not_held p c (client p c).page (r.singles.wanted_unheld c s) i h;
}

pub one_copy : (p : Pool) → Reached p → OneCopy p
one_copy p r c d i j a b e =
    let u = r.mapping.grant_named c i a in
    let v = r.mapping.grant_named d j b in
    same_frame p r (grant_frame p c i) (grant_frame p d j) (grant_page p d j) u v (omega (arith, r.mapping.grant_mapped c i u)) (r.mapping.grant_mapped d j v)

-- ---- a page with a grant stays

step_keeps : {q : Sequential} {k : SeqClient} {a : Answer} {slots : List SeqSlot} {next : SeqClient} {g f : ℕ} → StepRule q k a slots next
    → (c : ℕ) → member g (seq_client q c).grants ≡ true → Keeps q g f → (i : ℕ) × (get_or slots i Plain.empty ≡ Plain.stores g f)
step_keeps (adds _ _ _) c m h = h
step_keeps (answers _ _) c m h = h
step_keeps (continues _ _ _) c m h = h
step_keeps refuses c m h = h
step_keeps {q} {k} {g = g} (admits {f = x} _ _ _ _ i _ vacant) c m h =
    let other : h.0 ≢ i = λ e. let z : ◌≡◌ {A = ℕ} 0 1 = cc (ap (Plain.seq_slot q) e) in omega arith in
    (h.0, get_or-set_other q.slots i h.0 (Plain.stores k.wants x) Plain.empty other ∙ h.1)
step_keeps {q} {g = g} (evicts {g = y} _ i full unheld) c m h =
    let other : h.0 ≢ i = λ e. let same : y ≡ g = cc (ap (Plain.seq_slot q) e) in true≢false (sym m ∙ rw same at (unheld c)) in
    (h.0, get_or-set_other q.slots i h.0 Plain.empty Plain.empty other ∙ h.1)

rule_keeps : {q next : Sequential} {x : Call} {a : Answer} {g f : ℕ} → Rule q x a next
    → (c : ℕ) → member g (seq_client q c).grants ≡ true → Keeps q g f → Keeps next g f
rule_keeps (turns_down _ _) c m h = h
rule_keeps (begins _) c m h = h
rule_keeps (releases _) c m h = h
rule_keeps (steps _ s) c m h = step_keeps s c m h

-- ---- so a held frame is not evicted

not_evicted : (p : Pool) (x : Call) (f : ℕ) → Reached p → held p f ≡ true → pins (call_of p x).pool f ≢ evicted
unfolding grants_of
not_evicted p x f r h out = v.not_evicted (ap (pins (call_of p x).pool) v.frame ∙ out)
  where
    grant : Grant p f
    grant = held_grant p f h

    c : ℕ
    c = grant.client_of

    i : ℕ
    i = grant.index

    g : ℕ
    g = grant_page p c i

    related : SimulationRelation p (view p)
    related = view_related p r.shape

    named : grant_frame p c i ≢ none
    named = r.mapping.grant_named c i grant.inside

    kept : Keeps (view p) g f
    kept = rw grant.names at (page_there r related named (λ z. omega (arith, grant_pinned p r c i named)) (r.mapping.grant_mapped c i named))

    granted : member g (seq_client (view p) c).grants ≡ true
    granted =
        let n = sum_has (λ j. one (eqb (grant_page p c j) g)) (client p c).held i grant.inside in
        is_member g (seq_client (view p) c).grants (λ z. omega (arith, (related.clients c).grants g, one_is g))

    after : Followed (view p) x (call_of p x)
    after = followed r related x

    still : Keeps after.state g f
    still = rule_keeps after.rule c granted kept

    v : ResidentFrame (call_of p x).pool (slot (call_of p x).pool still.0) g f
    v = page_resident (reached_call p x r) after.related still

pub no_held_evicted : (p : Pool) (calls : List Call) → Reached p → NoHeldEvicted (along (events p calls))
no_held_evicted p calls r f = at_each (BecomesEvicted f) (λ e. held e.before f ≡ false) (λ p x r h. go p x r h (held p f) refl) p calls r
  where
    go : (p : Pool) (x : Call) → Reached p → BecomesEvicted f (event_of p x) → (b : Bool) → held p f ≡ b → b ≡ false
    go p x r h true e = absurd (not_evicted p x f r e h.1)
    go p x r h false e = refl

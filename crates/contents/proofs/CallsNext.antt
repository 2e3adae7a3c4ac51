-- The invariant over calls: each keeps it, and the number of the store's pages. A call keeps what every page holds, but for a write that is done, which
-- makes it its byte at its place; a read that is done answers it. Assumes nothing.
use mathlib.Core.Path.{◌≡◌, refl, sym, ap, subst, ◌∙◌}
use mathlib.Core.Logic.{◌≢◌, ◌⊎◌, inl, inr}
use mathlib.Core.Bool.{true, false, true≢false}
use mathlib.Core.List.{List}
use Prim.Native.Nat.{ℕ, suc, ◌<◌}
use native.Mathlib.Decide.{ℕ_discrete}
use Rattle.pool.specs.State.{none, client}
use Rattle.pool.specs.Table.{lookup}
use Rattle.pool.specs.Grants.{grant_of}
use Rattle.pool.specs.Apply.{apply}
use Rattle.pool.specs.Calls.{caller, refusal, release_move, move_of, call_of}
use Rattle.pool.specs.declared.Pool.{Pool}
use Rattle.pool.specs.declared.Call.{Call}
use Rattle.pool.specs.declared.Call.TheVariants.{Begin, Step, Release}
use Rattle.pool.specs.declared.Move.{Move}
use Rattle.pool.specs.declared.Outcome.{Outcome}
use Rattle.pool.specs.declared.Answer.TheVariants.{Done}
use Rattle.pool.specs.declared.Write.{Write}
use Rattle.pool.specs.declared.Write.TheVariants.{Keep}
use Rattle.laws.specs.Choices.{by_test}
use Rattle.invariant.proofs.Reached.{Reached}
use Rattle.invariant.proofs.Searches.{grant_of_found}
use Rattle.invariant.proofs.Table.{mapped_lookup}
use Rattle.invariant.proofs.Allowed.{allowed, may_step, may_release}
use Rattle.invariant.proofs.Steps.{call_edge}
use Rattle.invariant.proofs.Effects.{Effect, effect}
use Rattle.invariant.proofs.Calls.{call_moves, reached_call}
use Rattle.memory.specs.Memory.{page_bytes, memory_after, store_after, filled_from}
use Rattle.memory.specs.Requests.{Request, Asks, ReadByte, WriteByte, State, Result, outside_at, refusal_on, refused, write_of, held_frame, action_on, call_on}
use Rattle.memory.specs.declared.Memory.{Memory}
use Rattle.contents.specs.Contents.{content_of}
use Rattle.contents.proofs.Kept.{Inside, Marks, Kept}
use Rattle.contents.proofs.Ways.{Goes, goes}
use Rattle.contents.proofs.PagesNext.{pages_inside_next}
use Rattle.contents.proofs.MarksNext.{Carried, carried}
use Rattle.contents.proofs.BytesNext.{FilledOk, filled_ok, WrittenOk, written_ok}
use Rattle.contents.proofs.Passed.{outside_begin, asks_passed, Holds, read_holds, write_holds, call_acts, call_turned}

-- a request to write the byte of page g at offset o
abbrev pub Aims : Request → ℕ → ℕ → Type 0
Aims r g o = (c v : ℕ) × (r ≡ WriteByte c g o v)

-- state y is what request r may leave of state x
pub record After (x : State) (r : Request) (y : State) : Type 0 where
  pub kept : Kept y
  pub pages : y.memory.pages ≡ x.memory.pages
  pub holds : (g o : ℕ) → o < page_bytes → (Aims r g o → ⊥) → content_of y g o ≡ content_of x g o

-- a client that begins wants a page inside the store
begun : (p : Pool) (n : ℕ) (call : Call) → refusal p call ≡ 0 → outside_at n call ≡ 0 → (client p (caller call)).stage ≡ 0
    → (move_of p call).next.stage ≢ 0 → Inside n (move_of p call).next.page
unfolding move_of caller release_move
begun p n (Begin c g) e o _ _ = outside_begin n c g o
begun p n (Step c) e o s _ = absurd (may_step p (client p c) c (allowed p (Step c) e).may s)
begun p n (Release c g) e o s z = absurd (z (by_test (λ (m : Move). m.next.stage ≡ (client p c).stage) (λ _. refl) (λ _. refl) ∙ s))

module _ (x : State) (k : Kept x) where
  abbrev p : Pool
  p = x.pool

  abbrev n : Memory
  n = x.memory

  abbrev s : List ℕ
  s = x.store

  -- ---- begin, step, release

  module _ (call : Call) (e : refusal p call ≡ 0) where
    abbrev c : ℕ
    c = caller call

    abbrev m : Move
    m = move_of p call

    way : Goes p c m
    way = goes p c k.reached (call_edge p call k.reached e).1

    writes_move : write_of p call ≡ m.write
    unfolding write_of
    writes_move = by_test (λ (w : Write). w ≡ m.write) (λ t. go way.told t) (λ _. refl)
      where
        go : (refused m.answer ≡ false) ⊎ (m.write ≡ Keep) → refused (call_of p call).answer ≡ true → Keep ≡ m.write
        go (inl f) t = absurd (true≢false (sym t ∙ ap (λ (o : Outcome). refused o.answer) (call_moves p call k.reached e) ∙ f))
        go (inr w) _ = sym w

    abbrev after : State
    after = record { pool = apply p c m; memory = memory_after p n m.write; store = store_after p n s m.write }

    asked_state : (action_on x (Asks call)).state ≡ after
    unfolding action_on
    asked_state = rw (writes_move, call_moves p call k.reached e) refl

    x_effect : Effect p c m
    x_effect = let w = call_edge p call k.reached e in effect p c w.0 k.reached w.1

    reached_then : Reached (apply p c m)
    reached_then = subst (λ (o : Outcome). Reached o.pool) (call_moves p call k.reached e) (reached_call p call k.reached)

    then : Carried x_effect reached_then n s k.marks k.inside (memory_after p n m.write) (store_after p n s m.write)
    then = carried x_effect reached_then n s k.marks k.inside way.way

    after_ask : outside_at n.pages call ≡ 0 → After x (Asks call) (action_on x (Asks call)).state
    after_ask o =
        subst (After x (Asks call)) (sym asked_state)
        (record {
          kept = record {
            reached = reached_then;
            few = rw then.pages k.few;
            inside = rw then.pages (pages_inside_next x_effect way n.pages k.inside (begun p n.pages call e o));
            marks = then.marks;
          };
          pages = then.pages;
          holds = λ g o l _. then.holds g o l;
        })

  -- ---- read, write

  module _ (c g o : ℕ) (h : Holds x c g o) where
    -- the frame of the client's grant is the one that the page is mapped to
    held : (lookup p g ≡ held_frame p c g) × (held_frame p c g ≢ none)
    unfolding caller
    held =
        let r = k.reached in
        let f = grant_of_found p c g (may_release p (client p c) c g (allowed p (Release c g) h.may).may).1 in
        let z = r.mapping.grant_named c (grant_of p c g) f.0 in
        ((mapped_lookup p r.shape r.mapping.pages_distinct (held_frame p c g) g z (r.mapping.grant_mapped c (grant_of p c g) z ∙ ap suc f.1)).1, z)

    z : lookup p g ≢ none
    z e = held.1 (sym held.0 ∙ e)

    abbrev filled : Memory
    filled = filled_from n s (lookup p g) g

    fi : FilledOk p k.reached s g z n k.marks h.inside
    fi = filled_ok p k.reached s g z n k.marks h.inside

    -- a state that differs in its memory alone
    with_memory : (m : Memory) → m.pages ≡ n.pages → Marks p m s → Kept (record { pool = p; memory = m; store = s })
    with_memory m e w = record { reached = k.reached; few = rw e k.few; inside = rw e k.inside; marks = w }

    after_read : After x (ReadByte c g o) (action_on x (ReadByte c g o)).state
    unfolding action_on
    after_read =
        rw (← held.0)
        (record { kept = with_memory filled fi.pages fi.marks; pages = fi.pages; holds = λ y i l _. fi.holds y i l })

    pub read_answers : (action_on x (ReadByte c g o)).answer ≡ Done (content_of x g o)
    unfolding action_on
    read_answers = rw (← held.0) (ap Done (fi.answers o h.offset))

    module _ (v : ℕ) where
      inside_then : g < filled.pages
      inside_then = rw fi.pages h.inside

      wr : WrittenOk p k.reached s g z filled fi.marks inside_then o v
      wr = written_ok p k.reached s g z filled fi.marks inside_then o v fi.full h.offset

      after_write : After x (WriteByte c g o v) (action_on x (WriteByte c g o v)).state
      unfolding action_on
      after_write =
          rw (← held.0)
          (record {
            kept = with_memory _ (wr.pages ∙ fi.pages) wr.marks;
            pages = wr.pages ∙ fi.pages;
            holds = λ y i l other. wr.holds y i l (λ a b. other (c, v, rw (a, b) refl)) ∙ fi.holds y i l;
          })

      pub write_makes : content_of (action_on x (WriteByte c g o v)).state g o ≡ v
      unfolding action_on
      write_makes = rw (← held.0) wr.makes

  -- ---- any

  pub after_action : (r : Request) → refusal_on x r ≡ 0 → After x r (action_on x r).state
  after_action (Asks call) e = let a = asks_passed x call e in after_ask call a.0 a.1
  after_action (ReadByte c g o) e = after_read c g o (read_holds x c g o e)
  after_action (WriteByte c g o v) e = after_write c g o (write_holds x c g o v e) v

  after_call : (r : Request) → After x r (call_on x r).state
  after_call r = go (ℕ_discrete (refusal_on x r) 0)
    where
      go : Dec (refusal_on x r ≡ 0) → After x r (call_on x r).state
      go (yes e) = subst (λ (o : Result). After x r o.state) (sym (call_acts x r e)) (after_action r e)
      go (no z) =
          subst (λ (o : Result). After x r o.state) (sym (call_turned x r z)) (record { kept = k; pages = refl; holds = λ _ _ _ _. refl })

  pub kept_call : (r : Request) → Kept (call_on x r).state
  kept_call r = (after_call r).kept

  pub pages_call : (r : Request) → (call_on x r).state.memory.pages ≡ x.memory.pages
  pages_call r = (after_call r).pages

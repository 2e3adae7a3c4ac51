-- The loop over the calls: what holds before each record, and that a record's turn keeps it. Assumes nothing.
use mathlib.Core.Path.{◌≡◌, refl, sym, ap, subst, ◌∙◌}
use mathlib.Core.Bool.{false}
use mathlib.Core.List.{List}
use Prim.Native.Nat.{ℕ, suc, ◌+◌, ◌-◌, ◌*◌, ◌≤◌, ◌<◌}
use native.Mathlib.Omega.{arith}
use borrow.Author.Tests.{lt-ltb, ne_eqb}
use lib.Dec.{eqb, ltb}
use lib.ListN.{length, drop, length-drop}
use lib.Seq.{drop-drop}
use mir.Val.{Fits}
use mir.Syntax.{w64}
use Rattle.pool.specs.Choose.{choose, both}
use Rattle.pool.specs.Calls.{SetUp, turned_down, caller, call_of}
use Rattle.pool.specs.Schedule.{Ran, ends, read, length_of, performed, ends_run, named_by, line_for, run_from}
use Rattle.pool.specs.declared.Answer.{Answer}
use Rattle.pool.specs.declared.Call.{Call}
use Rattle.pool.specs.declared.Pool.{Pool}
use Rattle.pool.specs.declared.Reading.{Reading}
use Rattle.pool.specs.declared.Reading.TheVariants.{Asked, Unreadable}
use Rattle.invariant.proofs.Reached.{Reached}
use Rattle.invariant.proofs.Setup.{first_reached}
use Rattle.invariant.proofs.Calls.{reached_call}
use Rattle.schedule.specs.Whole.{read_fits, unread_ends}
use Rattle.schedule.specs.Numbers.{SameNumbers}
use Rattle.schedule.specs.Reports.{Wrote}
use Rattle.schedule.specs.declared.lines.Report.{Report}
use Rattle.schedule.specs.Rest.{answer_line, end_after, report_after, stopped, rest}
use Rattle.schedule.proofs.Runs.{before, from, from_all, ends_on, reports_on}
use Rattle.schedule.proofs.Runs.{stop_line, at_end, no_space, stops, goes_on}
use Rattle.schedule.proofs.Turned as Turned

-- the line of a record that does not end the run
line_of : (records : ℕ) (call : Call) (a : Answer) → ends_run a ≡ false → line_for records (Asked call) a ≡ answer_line records (caller call) a
unfolding line_for named_by choose
line_of records call a e = rw e

-- Before a record: the pool is p, the next record starts at byte `place` of schedule s, the report has come to r, in the space in which it began, and
-- the rest of the run from here comes to what the rest of the run after the setup does.
pub record Going (s : List ℕ) (first : Pool) (began : Report) (p : Pool) (place : ℕ) (r : Report) : Type 0 where
  pub reached : Reached p
  pub numbers : SameNumbers first p
  pub at : place ≡ 8 * r.records + 2
  pub some : 1 ≤ r.records
  pub inside : place ≤ length s
  pub short : length s ≤ 16384
  pub loan : r.space.ghost_name ≡ began.space.ghost_name
  pub end :
      end_after r.bytes (rest s p r.records place (length r.space.now - r.bytes)) ≡
      end_after began.bytes (rest s first 1 10 (length began.space.now - began.bytes))
  pub report :
      report_after r.bytes (rest s p r.records place (length r.space.now - r.bytes)) r.space.now ≡
      report_after began.bytes (rest s first 1 10 (length began.space.now - began.bytes)) began.space.now

-- The rest of the run, once it is known that there is fuel for it.
abbrev onward : List ℕ → Pool → ℕ → ℕ → ℕ → Ran
onward s p records place space = run_from (suc (length s - records)) p records (drop place s) space

pub at_start : {s : List ℕ} {first : Pool} {began : Report} → SetUp first → began.records ≡ 1 → 10 ≤ length s → length s ≤ 16384 →
    Going s first began first 10 began
at_start set one long short =
    record {
      reached = first_reached set;
      numbers = record { size = refl; client_count = refl; cap = refl };
      at = omega arith;
      some = omega arith;
      inside = long;
      short = short;
      loan = refl;
      end = rw one refl;
      report = rw one refl;
    }

module _ {s : List ℕ} {first p : Pool} {began r : Report} {place : ℕ} (g : Going s first began p place r) where
  abbrev records : ℕ
  records = r.records

  -- the report space that is left
  abbrev room : ℕ
  room = length r.space.now - r.bytes

  fuel : length s + 1 - records ≡ suc (length s - records)
  fuel = let a = g.at in let b = g.inside in omega arith

  -- ---- the numbers are small, and one of them falls

  pub few : records ≤ 9999
  few = let a = g.at in let b = g.inside in let c = g.short in omega arith

  pub place_fits : Fits w64 (place + 8)
  place_fits = let a = g.inside in let b = g.short in omega arith

  pub falls : place < length s → length s - (place + 8) < length s - place
  falls here = omega arith

  -- ---- the run from here

  not_first : eqb records 0 ≡ false
  not_first = ne_eqb records 0 (λ e. let a = g.some in omega arith)

  -- what the run comes to, where the rest of it is known
  module _ (ran : Ran) (e : onward s p records place room ≡ ran) where
    the_rest : rest s p records place room ≡ ran
    the_rest = rw fuel e

    pub comes_to : (end_after r.bytes ran ≡ end_after began.bytes (rest s first 1 10 (length began.space.now - began.bytes)))
        × (report_after r.bytes ran r.space.now ≡ report_after began.bytes (rest s first 1 10 (length began.space.now - began.bytes)) began.space.now)
    comes_to = (rw the_rest at g.end, rw the_rest at g.report)

  pub all_read : length s ≤ place → onward s p records place room ≡ ends records 0
  all_read h = at_end (length s - records) p records (drop place s) room g.some (rw length-drop (omega arith))

  module _ (here : place < length s) where
    left : both (ltb 0 records) (eqb (length (drop place s)) 0) ≡ false
    unfolding both choose
    left = rw (lt-ltb 0 records g.some, length-drop) (ne_eqb (length s - place) 0 (λ e. omega arith))

    pub full : room < 24 → onward s p records place room ≡ ends records 2
    full h = no_space (length s - records) p records (drop place s) room left h

    module _ (space_left : 24 ≤ room) where
      reads : {reading : Reading} → read false (from place s) ≡ reading → read (eqb records 0) (drop place s) ≡ reading
      reads e = rw (not_first, ← from_all place s) e

      pub unread : (refusal : ℕ) → read false (from place s) ≡ Unreadable refusal →
          onward s p records place room ≡ stopped records refusal
      unfolding performed
      unread refusal e =
          let last = unread_ends false (from place s) refusal e in
          stops (length s - records) p records (drop place s) room left (Unreadable refusal) (turned_down refusal p) space_left (reads e)
          refl last
          ∙ stop_line records refusal (Unreadable refusal) last

      -- a call's turn
      module _ (call : Call) (e : read false (from place s) ≡ Asked call) where
        pub whole : place + 8 ≤ length s
        unfolding length_of
        whole =
            let fits : length_of (Asked call) ≤ length (drop place s) = rw (reads e) at (read_fits (eqb records 0) (drop place s)) in
            omega (arith, length-drop place s)

        pub next : {a : Answer} {q : Pool} {new : Report} →
            (a ≡ (call_of p call).answer) × (q ≡ (call_of p call).pool) →
            SameNumbers p q →
            Wrote (answer_line records (caller call) a) r new →
            new.records ≡ records + 1 → Going s first began q (place + 8) new
        unfolding performed length_of
        next {a} {q} {new} done same wrote counted =
            let goes = Turned.goes_on p call g.reached in
            let w = answer_line records (caller call) a in
            let its_line : line_for records (Asked call) (call_of p call).answer ≡ w =
            line_of records call _ goes ∙ ap (answer_line records (caller call)) (sym done.0) in
            let onward_then = run_from (length s - records) (call_of p call).pool (records + 1) (drop (place + 8) s) (room - length w) in
            let on : onward s p records place room ≡ before w onward_then =
            goes_on (length s - records) p records (drop place s) room left (Asked call) (call_of p call) space_left (reads e) refl goes
            ∙ rw (its_line, drop-drop) in
            let fuel_left : length s + 1 - (records + 1) ≡ length s - records = omega arith in
            let space_after : length new.space.now - new.bytes ≡ room - length w = omega (arith, wrote.bytes, wrote.size) in
            let same_rest : rest s q new.records (place + 8) (length new.space.now - new.bytes) ≡ onward_then =
            rw (counted, fuel_left, space_after, done.1) in
            let as_before = comes_to _ on in
            record {
              numbers =
                  record { size = same.size ∙ g.numbers.size; client_count = same.client_count ∙ g.numbers.client_count; cap = same.cap ∙ g.numbers.cap };
              reached = subst Reached (sym done.1) (reached_call p call g.reached);
              at = let a = g.at in omega arith;
              some = omega arith;
              inside = whole;
              short = g.short;
              loan = wrote.loan ∙ g.loan;
              end = rw same_rest (ends_on wrote onward_then ∙ as_before.0);
              report = rw same_rest (reports_on wrote onward_then ∙ as_before.1);
            }

-- The definition's fuel: a run does not depend on it, once it is above the number of bytes. Each record that does not end the run takes bytes
-- with it, so the fuel never runs out before the bytes do. Assumes nothing.
use mathlib.Core.Path.{◌≡◌, refl, sym, ap, ◌∙◌}
use mathlib.Core.Bool.{Bool, true, false, true≢false}
use mathlib.Core.List.{List}
use Prim.Native.Nat.{ℕ, zero, suc, ◌+◌, ◌-◌, ◌≤◌, ◌<◌}
use native.Mathlib.Omega.{arith}
use lib.Dec.{eqb, ltb}
use lib.ListN.{length, drop, length-drop}
use Rattle.pool.specs.Choose.{choose, both}
use Rattle.pool.specs.Schedule.{ends, read, length_of, performed, ends_run, line_for, run_from}
use Rattle.pool.specs.declared.Pool.{Pool}
use Rattle.pool.specs.declared.Reading.{Reading}
use Rattle.schedule.specs.Whole.{read_any, refused_ends}
use Rattle.schedule.proofs.Runs.{before}

-- a record that does not end the run has bytes of its own
takes_some : (p : Pool) (first : Bool) (s : List ℕ) → ends_run (performed p (read first s)).answer ≡ false →
    (0 < length_of (read first s)) × (length_of (read first s) ≤ length s)
unfolding performed length_of
takes_some p first s =
    let Takes : Reading → Type 0 = λ (r : Reading). ends_run (performed p r).answer ≡ false → (0 < length_of r) × (length_of r ≤ length s) in
    read_any Takes s (λ long a b c h _. (omega arith, long)) (λ long call _. (omega arith, long))
    (λ n low high e. absurd (true≢false (sym (refused_ends n (omega arith) (omega arith)) ∙ e))) first

choose_same : {A : Type 0} (t : Bool) (a : A) {x y : A} → (t ≡ false → x ≡ y) → choose t a x ≡ choose t a y
unfolding choose
choose_same true a e = refl
choose_same false a e = e refl

pub fuel_enough : (f g : ℕ) (p : Pool) (records : ℕ) (input : List ℕ) (space : ℕ) → length input < f → length input < g →
    run_from f p records input space ≡ run_from g p records input space
unfolding run_from
fuel_enough zero g p records input space a b = absurd (omega arith)
fuel_enough (suc f) zero p records input space a b = absurd (omega arith)
fuel_enough (suc f) (suc g) p records input space a b =
    let reading = read (eqb records 0) input in
    let o = performed p reading in
    let w = line_for records reading o.answer in
    choose_same (both (ltb 0 records) (eqb (length input) 0)) (ends records 0)
    (λ _. choose_same (ltb space 24) (ends records 2)
    (λ _. choose_same (ends_run o.answer) _
    (λ e.
    let some = takes_some p (eqb records 0) input e in
    let left = drop (length_of reading) input in
    ap (before w)
    (fuel_enough f g o.pool (records + 1) left (space - length w) (rw length-drop (omega arith)) (rw length-drop (omega arith))))))

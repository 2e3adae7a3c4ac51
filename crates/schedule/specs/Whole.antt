-- What a record that is read has: the bytes that its kind needs, and where it cannot be read, a refusal that ends the run. Assumes nothing.
use Rattle.std.specs.Prelude.{◌≡◌, Bool, true, false, List, ℕ, ◌≤◌, length}
use Rattle.std.proofs.Common.{sym, ◌∙◌, true≢false, arith, ltb-false, eqb-true, eq-eqb, lt-ltb, le-leb}
use Rattle.pool.specs.Choose.{choose, both, either}
use Rattle.pool.specs.Answers.{refusal_of}
use Rattle.pool.specs.Schedule.{byte, cut, content, read, length_of, ends_run}
use Rattle.pool.specs.declared.Answer.TheVariants.{Refused}
use Rattle.pool.specs.declared.Call.{Call}
use Rattle.pool.specs.declared.Reading.{Reading}
use Rattle.pool.specs.declared.Reading.TheVariants.{Setup, Asked, Unreadable}
use Rattle.laws.specs.Choices.{by_test}

pub whole : (s : List ℕ) → cut s ≡ false → 8 ≤ length s
unfolding cut either
whole s h = by_test (λ (t : Bool). t ≡ false → 8 ≤ length s) (λ _ no. absurd (true≢false no)) (λ e _. ltb-false _ _ e) h

pub whole_setup : (s : List ℕ) → cut s ≡ false → byte s 2 ≡ 0 → 10 ≤ length s
unfolding cut either both
whole_setup s h k =
    let long : Bool → Type 0 = λ (t : Bool). t ≡ false → 10 ≤ length s in
    by_test long (λ _ no. absurd (true≢false no))
    (λ _. by_test long (λ _ no. absurd (true≢false (sym (eq-eqb _ _ k) ∙ no))) (λ e _. ltb-false _ _ e)) h

-- What holds of every setup that has its 10 bytes, every call that has its 8 and every refusal from 3 to 7 holds of what is read.
module _ (P : Reading → Type 0) (s : List ℕ)
    (setup : 10 ≤ length s → (a b c h : ℕ) → P (Setup a b c h))
    (asked : 8 ≤ length s → (call : Call) → P (Asked call))
    (unreadable : (n : ℕ) → 3 ≤ n → n ≤ 7 → P (Unreadable n))
  where
    content_any : cut s ≡ false → P (content s)
    unfolding content
    content_any h =
        by_test P (λ e. setup (whole_setup s h (eqb-true _ _ e)) _ _ _ _)
        (λ _. by_test P (λ _. asked (whole s h) _)
        (λ _. by_test P (λ _. asked (whole s h) _)
        (λ _. by_test P (λ _. asked (whole s h) _) (λ _. unreadable 7 (omega arith) (omega arith)))))

    pub read_any : (first : Bool) → P (read first s)
    unfolding read
    read_any first =
        let six = unreadable 6 (omega arith) (omega arith) in
        by_test P (λ _. unreadable 3 (omega arith) (omega arith))
        (λ h. by_test P (λ _. unreadable 4 (omega arith) (omega arith))
        (λ _. by_test P (λ _. unreadable 5 (omega arith) (omega arith))
        (λ _. by_test P (λ _. by_test P (λ _. content_any h) (λ _. six)) (λ _. by_test P (λ _. six) (λ _. content_any h)))))

-- the record that was read lies in the bytes that are left
pub read_fits : (first : Bool) (s : List ℕ) → length_of (read first s) ≤ length s
unfolding length_of
read_fits first s = read_any (λ (r : Reading). length_of r ≤ length s) s (λ long a b c h. long) (λ long call. long) (λ n a b. omega arith) first

-- SPECIFICATION 10.4
pub refused_ends : (n : ℕ) → 1 ≤ n → n ≤ 8 → ends_run (Refused n) ≡ true
unfolding ends_run refusal_of both choose
refused_ends n low high = simp (lt-ltb 0 n low, le-leb n 8 high)

-- so an unreadable record ends the run
pub unread_ends : (first : Bool) (s : List ℕ) (n : ℕ) → read first s ≡ Unreadable n → ends_run (Refused n) ≡ true
unread_ends first s n =
    read_any (λ (r : Reading). r ≡ Unreadable n → ends_run (Refused n) ≡ true) s
    (λ _ a b c h no. let never : ◌≡◌ {A = ℕ} 0 1 = cc in absurd (omega arith))
    (λ _ call no. let never : ◌≡◌ {A = ℕ} 0 1 = cc in absurd (omega arith))
    (λ m low high e. let same : m ≡ n = cc in refused_ends n (omega arith) (omega arith))
    first

-- What each call of a list does to the content of pages, and with it the claim of reads: the content of a place is its last byte written, or the store's
-- at setup, and a read answers it. Assumes nothing.
use mathlib.Core.Path.{◌≡◌, refl, sym, ap, subst, ◌∙◌}
use mathlib.Core.List.{List, [], ◌∷◌}
use Prim.Native.Nat.{ℕ, zero, suc, ◌<◌}
use native.Mathlib.Omega.{arith}
use native.Mathlib.Decide.{ℕ_discrete}
use Rattle.pool.specs.Answers.{value_of}
use Rattle.pool.specs.declared.Answer.TheVariants.{Done}
use Rattle.guarantee.specs.Runs.{At}
use Rattle.memory.specs.Memory.{page_bytes}
use Rattle.memory.specs.Requests.{Request, ReadByte, WriteByte, State, Result, refusal_on, action_on, call_on}
use Rattle.memory.specs.Happenings.{Happening, happening_of, happenings}
use Rattle.contents.specs.Contents.{Reads, Writes, WritesSome, ClaimReads, content_of, ContentOk, ClaimContent}
use Rattle.contents.proofs.Kept.{Kept}
use Rattle.contents.proofs.Passed.{read_holds, write_holds, call_acts, call_turned, done_acts}
use Rattle.contents.proofs.CallsNext.{read_answers, write_makes, after_action, kept_call}
use Rattle.contents.proofs.SetupKept.{kept_setup, content_setup}

-- ---- one call

module _ (x : State) (k : Kept x) where
  read_is : (c g o b : ℕ) → (call_on x (ReadByte c g o)).answer ≡ Done b → (b ≡ content_of x g o) × (o < page_bytes)
  unfolding value_of
  read_is c g o b a =
      let e = done_acts x (ReadByte c g o) b a in
      let h = read_holds x c g o e in
      (ap value_of (sym a ∙ ap (λ (y : Result). y.answer) (call_acts x (ReadByte c g o) e) ∙ read_answers x k c g o h), h.offset)

  read_now : (r : Request) (g o b : ℕ) → Reads g o b (happening_of x r) → (b ≡ content_of x g o) × (o < page_bytes)
  read_now r g o b (c, e, a) = read_is c g o b (rw e at a)

  write_now : (r : Request) (g o v : ℕ) → Writes g o v (happening_of x r) → content_of (call_on x r).state g o ≡ v
  write_now r g o v (c, e, a) =
      rw e (let z = done_acts x (WriteByte c g o v) g (rw e at a) in
      ap (λ (y : Result). content_of y.state g o) (call_acts x (WriteByte c g o v) z) ∙ write_makes x k c g o (write_holds x c g o v z) v)

  -- a write that acts is done
  write_done : (c g o v : ℕ) → (action_on x (WriteByte c g o v)).answer ≡ Done g
  unfolding action_on
  write_done c g o v = refl

  else_now : (r : Request) (g o : ℕ) → o < page_bytes → (WritesSome g o (happening_of x r) → ⊥) → content_of (call_on x r).state g o ≡ content_of x g o
  else_now r g o low other = go (ℕ_discrete (refusal_on x r) 0)
    where
      go : Dec (refusal_on x r ≡ 0) → content_of (call_on x r).state g o ≡ content_of x g o
      go (no z) = ap (λ (y : Result). content_of y.state g o) (call_turned x r z)
      go (yes e) =
          ap (λ (y : Result). content_of y.state g o) (call_acts x r e) ∙
          (after_action x k r e).holds g o low
          (λ (c, v, w). other
          (v, (c, w, ap (λ (y : Result). y.answer) (call_acts x r e) ∙ ap (λ (y : Request). (action_on x y).answer) w ∙ write_done c g o v)))

  content_ok : (r : Request) → ContentOk (happening_of x r)
  content_ok r =
      record { read = λ g o b w. (read_now r g o b w).0; write = write_now r; else = λ g o low other. else_now r g o (omega arith) other }

-- ---- lists

contents_along : (x : State) → Kept x → (rs : List Request) (n : ℕ) (e : Happening) → At (λ y. y ≡ e) (happenings x rs) n → ContentOk e
unfolding happenings At
contents_along x k [] n e a = absurd a
contents_along x k (r ∷ rs) zero e a = subst ContentOk a (content_ok x k r)
contents_along x k (r ∷ rs) (suc n) e a = contents_along (call_on x r).state (kept_call x k r) rs n e a

module _ (g o b : ℕ) where
  -- where no write of the place is done before it, a read answers what the page held first; and its offset is below 64
  unwritten : (x : State) → Kept x → (rs : List Request) (n : ℕ) → At (Reads g o b) (happenings x rs) n
      → ((j : ℕ) → j < n → At (WritesSome g o) (happenings x rs) j → ⊥) → (b ≡ content_of x g o) × (o < page_bytes)
  unfolding happenings At
  unwritten x k [] n a before = absurd a
  unwritten x k (r ∷ rs) zero a before = read_now x k r g o b a
  unwritten x k (r ∷ rs) (suc n) a before =
      let u = unwritten (call_on x r).state (kept_call x k r) rs n a (λ j l w. before (suc j) (omega arith) w) in
      (u.0 ∙ (content_ok x k r).else g o u.1 (λ w. before 0 (omega arith) w), u.1)

  last : (v : ℕ) (x : State) → Kept x → (rs : List Request) (i n : ℕ) → At (Reads g o b) (happenings x rs) n → i < n
      → At (Writes g o v) (happenings x rs) i → ((j : ℕ) → i < j → j < n → At (WritesSome g o) (happenings x rs) j → ⊥) → b ≡ v
  unfolding happenings At
  last v x k [] i n a l w between = absurd a
  last v x k (r ∷ rs) i zero a l w between = absurd (let y : ⊥ = omega arith in y)
  last v x k (r ∷ rs) zero (suc n) a l w between =
      (unwritten (call_on x r).state (kept_call x k r) rs n a (λ j h u. between (suc j) (omega arith) (omega arith) u)).0 ∙ (content_ok x k r).write g o v w
  last v x k (r ∷ rs) (suc i) (suc n) a l w between =
      last v (call_on x r).state (kept_call x k r) rs i n a (omega arith) w (λ j h d u. between (suc j) (omega arith) (omega arith) u)

pub contents_kept : ClaimContent
contents_kept x u = contents_along x (kept_setup u)

pub reads_last : ClaimReads
reads_last x u rs =
    record {
      last_written = λ g o b v i n a l w between. last g o b v x (kept_setup u) rs i n a l w (λ j h d. between j (omega arith) (omega arith));
      never_written = λ g o b n a before. (unwritten g o b x (kept_setup u) rs n a (λ j h. before j (omega arith))).0 ∙ content_setup u g o;
    }

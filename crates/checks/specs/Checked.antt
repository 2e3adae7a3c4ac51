-- The whole check 8 in place: SPECIFICATION 14.8. Assumes nothing.
use Rattle.std.specs.Prelude.{◌≡◌, refl, Bool, true, false, List, ℕ, ◌*◌, eqb, length}
use Rattle.std.proofs.Common.{ap, ◌∙◌, arith}
use Rattle.pool.specs.Choose.{choose, both}
use Rattle.pool.specs.State.{slot, pins, count, page, entry_page, entry_frame, client, grant_page, grant_frame}
use Rattle.pool.specs.Table.{maps, entry_of}
use Rattle.pool.specs.Grants.{grant_of}
use Rattle.pool.specs.Valid.{client_ok, valid}
use Rattle.pool.specs.declared.Answer.{Answer}
use Rattle.pool.specs.declared.Answer.TheVariants.{Done, Refused}
use Rattle.pool.specs.declared.Pool.{Pool}
use Rattle.memory.specs.Memory.{page_bytes}
use Rattle.memory.specs.Requests.{entry_inside, client_inside, pages_inside, marks_ok, bytes_ok}
use Rattle.memory.specs.declared.Memory.{Memory}

-- SPECIFICATION 14.8: S where pool, bytes and store pass check 8
unfoldable pub checked_of : Pool → Memory → List ℕ → Answer
checked_of p m s = choose (both (both (valid p) (bytes_ok p m)) (eqb (length s) (page_bytes * m.pages))) (Done p.size) (Refused 8)

-- it does not look at the hand
pub any_hand : (p : Pool) (hand : ℕ) (m : Memory) (s : List ℕ) → checked_of p m s ≡ checked_of (record p { hand = hand }) m s
unfolding
    checked_of valid client_ok slot pins count page entry_page entry_frame client grant_page grant_frame maps entry_of grant_of entry_inside client_inside pages_inside
    marks_ok bytes_ok
any_hand p hand m s = refl

-- ---- the answer, by the number that the check is refused by, 0 or 8

module _ (p : Pool) (m : Memory) (s : List ℕ) {n : ℕ}
    (e : n ≡ choose (both (both (valid p) (bytes_ok p m)) (eqb (length s) (page_bytes * m.pages))) 0 8) where
  passes : (t : Bool) → n ≡ choose t 0 8 → n ≡ 0 → Done p.size ≡ choose t (Done p.size) (Refused 8)
  unfolding choose
  passes true f z = refl
  passes false f z = let y : ⊥ = omega arith in absurd y

  refuses : (t : Bool) → n ≡ choose t 0 8 → n ≡ 8 → Refused 8 ≡ choose t (Done p.size) (Refused 8)
  unfolding choose
  refuses true f z = let y : ⊥ = omega arith in absurd y
  refuses false f z = refl

  pub as_done : n ≡ 0 → Done p.size ≡ checked_of p m s
  unfolding checked_of
  as_done = passes _ e

  pub as_refused : n ≡ 8 → Refused n ≡ checked_of p m s
  unfolding checked_of
  as_refused z = ap Refused z ∙ refuses _ e z

-- What an accepted setup gives: its numbers are in range, and its pool is the fresh one of these numbers. So what holds of every such fresh pool
-- holds of every pool that was set up (`of_fresh`). Assumes nothing.
use Rattle.std.specs.Prelude.{◌≡◌, refl, true, ℕ}
use Rattle.std.proofs.Common.{sym, subst, ◌∙◌, arith}
use Rattle.pool.specs.Valid.{numbers_ok}
use Rattle.pool.specs.Calls.{fresh, setup_of, SetUp}
use Rattle.pool.specs.declared.Outcome.{Outcome}
use Rattle.pool.specs.declared.Pool.{Pool}
use Rattle.pool.specs.declared.Answer.TheVariants.{Done}
use Rattle.laws.specs.Choices.{by_test}

-- a setup that is done is an accepted one
pub set_up : (s t c h : ℕ) → (setup_of s t c h).answer ≡ Done s → SetUp (setup_of s t c h).pool
set_up s t c h e = record { size = s; clients = t; cap = c; hand = h; done = e; made = refl }

accepted_fresh : (s t c h : ℕ) → (setup_of s t c h).answer ≡ Done s → (numbers_ok s t c ≡ true) × ((setup_of s t c h).pool ≡ fresh s t c h)
unfolding setup_of
accepted_fresh s t c h =
    by_test (λ (o : Outcome). o.answer ≡ Done s → (numbers_ok s t c ≡ true) × (o.pool ≡ fresh s t c h))
    (λ ok _. (ok, refl)) (λ _ e. let z : ◌≡◌ {A = ℕ} 0 1 = cc in absurd (omega arith))

module _ {p : Pool} (u : SetUp p) where
  pub accepted : numbers_ok u.size u.clients u.cap ≡ true
  accepted = (accepted_fresh _ _ _ _ u.done).0

  pub made_fresh : p ≡ fresh u.size u.clients u.cap u.hand
  made_fresh = sym u.made ∙ (accepted_fresh _ _ _ _ u.done).1

pub of_fresh : (P : Pool → Type 0) → ((s t c h : ℕ) → numbers_ok s t c ≡ true → P (fresh s t c h)) → {p : Pool} → SetUp p → P p
of_fresh P each u = subst P (sym (made_fresh u)) (each _ _ _ _ (accepted u))

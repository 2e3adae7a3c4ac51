-- The moves of a step by what they do to the rank: it ends the request; or nobody sees it, and the client is nearer to its grant; or it spoils what others
-- have read, and the client pays for that. Assumes nothing.
use mathlib.Core.Path.{◌≡◌}
use mathlib.Core.Bool.{Bool, true, false, not}
use Prim.Native.Nat.{ℕ, ◌+◌, ◌≤◌, ◌<◌}
use native.Mathlib.Omega.{arith}
use lib.Dec.{T}
use Rattle.pool.specs.State.{client}
use Rattle.pool.specs.Moves.{works, granted}
use Rattle.pool.specs.Apply.{apply}
use Rattle.pool.specs.declared.Pool.{Pool}
use Rattle.pool.specs.declared.Client.{Client}
use Rattle.pool.specs.declared.Move.{Move}
use Rattle.pool.specs.declared.Answer.{Answer}
use Rattle.pool.specs.declared.Answer.TheVariants.{Done, Working, Granted, Refused}
use Rattle.pool.specs.declared.Counted.{Counted}
use Rattle.pool.specs.declared.Write.{Write}
use Rattle.pool.specs.declared.Write.TheVariants.{Keep}
use Rattle.laws.specs.Choices.{by_test}
use Rattle.invariant.proofs.Reached.{Reached}
use Rattle.invariant.proofs.Writes.{keeps_table}
use Rattle.progress.proofs.Rank.{toll, rank_at, frames, rank}
use Rattle.progress.proofs.Clients.{plain, client_plain}
use Rattle.progress.proofs.Writes.{Acting, actor, Lightens, table_terms}
use Rattle.progress.proofs.Pays.{frames_kept, unseen, spoils, NotSeen}

-- the answer is another stage
abbrev pub goes_on : Answer → Bool
goes_on (Done n) = false
goes_on (Working j) = true
goes_on (Granted f) = false
goes_on (Refused n) = false

-- a move that leads to no other stage, or at which the rank falls
pub data Falls (p : Pool) (c : ℕ) (m : Move) : Type 0 where
  ends : T (not (goes_on m.answer)) → Falls p c m
  lower : (Reached (apply p c m) → rank (apply p c m) < rank p) → Falls p c m

module _ {p : Pool} {c : ℕ} (act : Acting p c) where
  open actor act use {k, s, t}

  -- nobody sees it
  pub quiet : {m : Move} (i : ℕ) → (client p c).stage ≡ i → Lightens act m.write
      → ((d : Client) → NotSeen act m d) → rank_at s t p m.next.stage m.next < rank_at s t p i k → Falls p c m
  quiet {m} i e light not_seen own =
      lower (λ _. omega (arith, unseen act m i 0 1 e (frames_kept act m light) (λ d. not_seen (client p d)) (not_seen m.next) (omega (arith, own))))

  -- nothing is written
  pub goes : {n : Client} (i : ℕ) → (client p c).stage ≡ i → rank_at s t p n.stage n < rank_at s t p i k → Falls p c (works n n.stage Keep)
  goes i e own = quiet i e tt (λ _. tt) own

  -- it spoils what others have read, and leads to a stage that goes by nothing that they can spoil
  pub pays : {n : Client} {w : Write} (i x : ℕ) → (client p c).stage ≡ i → T (keeps_table w) → T (plain n.stage)
      → frames s t (apply p c (works n n.stage w)) + x ≤ frames s t p → rank_at s t p n.stage n + toll s t < rank_at s t p i k + x
      → Falls p c (works n n.stage w)
  pays {n} {w} i x e h l fr own =
      let m : Move = works n n.stage w in
      let mine = client_plain s t p (apply p c m) n.stage n l (table_terms act m w h n.stage n) in
      lower (λ _. omega (arith, spoils act m i x e h fr (omega (arith, own, mine))))

  -- an answer
  pub gives : (f : ℕ) (w : Write) (u : Counted) → Falls p c (granted k f w u)
  unfolding granted
  gives f w u = by_test (Falls p c) (λ _. ends tt) (λ _. ends tt)

-- What each stage answers and where its client stands then, of every pool, a handed one too: one line for each of the 23. `successors` says which stages an
-- answer `Working` leads to and `granting` which stages grant; a fact about these is then checked on the lists alone (`on_successors`, `on_grants`).
-- Assumes nothing.
use Rattle.std.specs.Prelude.{◌≡◌, Bool, true, false, cond, ◌&&◌, ◌||◌, List, [], ◌∷◌, ℕ, suc, T, eqb, get_or}
use Rattle.std.proofs.Math.Path.{refl}
use Rattle.std.proofs.Common.{eqb-true}
use Rattle.pool.specs.Choose.{choose, member}
use Rattle.pool.specs.Moves.{stuck, granted, refused15}
use Rattle.pool.specs.Stages.{busy_visit, evict_own, Stage, no_stage, stages, stage_move, stage1, stage2, stage3, stage4, stage5, stage6, stage7, stage8, stage9}
use Rattle.pool.specs.Stages.{stage10, stage11, stage12, stage13, stage14, stage15, stage16, stage17, stage18, stage19, stage20, stage21, stage22, stage23}
use Rattle.pool.specs.declared.Pool.{Pool}
use Rattle.pool.specs.declared.Client.{Client}
use Rattle.pool.specs.declared.Move.{Move}
use Rattle.pool.specs.declared.Write.{Write}
use Rattle.pool.specs.declared.Answer.TheVariants.{Working, Granted}
use Rattle.pool.specs.declared.Counted.{Counted}
use Rattle.laws.specs.Choices.{by_test}
use Rattle.laws.specs.Scans.{and_parts}
use Rattle.laws.specs.Each.{Each, fin, ◌also◌, each_at}

-- ---- the stages that follow each stage

-- for stage 0, 1, 2 and so on: where an answer `Working` leaves the client
abbrev pub successors : List (List ℕ)
successors =
    [] ∷ (2 ∷ 4 ∷ []) ∷ (3 ∷ 4 ∷ []) ∷ [] ∷ (5 ∷ []) ∷ (6 ∷ 10 ∷ []) ∷ (5 ∷ 7 ∷ []) ∷ (8 ∷ []) ∷ (8 ∷ 9 ∷ []) ∷ (18 ∷ []) ∷ (11 ∷ []) ∷ (11 ∷ 12 ∷ []) ∷
    (11 ∷ 13 ∷ 15 ∷ []) ∷ (11 ∷ 14 ∷ []) ∷ (11 ∷ 15 ∷ []) ∷ (11 ∷ 16 ∷ []) ∷ (17 ∷ []) ∷ (18 ∷ []) ∷
    (19 ∷ []) ∷ (20 ∷ 22 ∷ []) ∷ (21 ∷ []) ∷ [] ∷ (23 ∷ []) ∷ (4 ∷ []) ∷ []

-- the stages that grant
abbrev pub granting : List ℕ
granting = 3 ∷ 18 ∷ 21 ∷ 22 ∷ []

abbrev pub leads : ℕ → ℕ → Bool
leads i j = member j (get_or successors i [])

-- the frame that is granted: at 3 and 21 the one found, at 18 and 22 the own frame
abbrev pub given : ℕ → Client → ℕ
given i k = cond (eqb i 3 || eqb i 21) k.found k.own

-- ---- what holds at each granting stage, and a test that each stage and successor pass

abbrev AllOf : (ℕ → Type 0) → List ℕ → Type 0
AllOf P [] = Unit {0}
AllOf P (x ∷ xs) = P x × AllOf P xs

all_members : (P : ℕ → Type 0) (l : List ℕ) → AllOf P l → (j : ℕ) → T (member j l) → P j
all_members P [] a j h = absurd h
all_members P (x ∷ xs) a j h = go (eqb x j) refl h (all_members P xs a.1 j)
  where
    go : (b : Bool) → eqb x j ≡ b → T (b || member j xs) → (T (member j xs) → P j) → P j
    go true e r ih = rw (eqb-true x j e) at a.0
    go false e r ih = ih r

pub on_grants : (P : ℕ → Type 0) → P 3 → P 18 → P 21 → P 22 → (i : ℕ) → T (member i granting) → P i
on_grants P a b c d i h = all_members P granting (a, (b, (c, (d, tt)))) i h

abbrev for_all : (ℕ → Bool) → List ℕ → Bool
for_all t [] = true
for_all t (x ∷ xs) = t x && for_all t xs

abbrev for_successors : (ℕ → ℕ → Bool) → ℕ → List (List ℕ) → Bool
for_successors t i [] = true
for_successors t i (l ∷ ls) = for_all (t i) l && for_successors t (suc i) ls

all_of : (t : ℕ → Bool) (l : List ℕ) → T (for_all t l) → AllOf (λ x. T (t x)) l
all_of t [] a = tt
all_of t (x ∷ xs) a = let p = and_parts (t x) (for_all t xs) a in (p.0, all_of t xs p.1)

successors_from : (t : ℕ → ℕ → Bool) (ls : List (List ℕ)) (i : ℕ) → T (for_successors t i ls) → Each (λ i l. AllOf (λ x. T (t i x)) l) i ls
successors_from t [] i a = fin
successors_from t (l ∷ ls) i a =
    let p = and_parts (for_all (t i) l) (for_successors t (suc i) ls) a in
    all_of (t i) l p.0 also successors_from t ls (suc i) p.1

pub on_successors : (t : ℕ → ℕ → Bool) → T (for_successors t 0 successors) → (i j : ℕ) → T (leads i j) → T (t i j)
on_successors t a i j h =
    all_members (λ x. T (t i x)) (get_or successors i [])
    (each_at (λ i l. AllOf (λ x. T (t i x)) l) [] (λ _. tt) successors (successors_from t successors 0 a) i) j h

-- ---- the stages

pub data StageAnswer (k : Client) (m : Move) : Type 0 where
  goes : (j : ℕ) → T (leads k.stage j) → m.answer ≡ Working j → m.next.stage ≡ j → StageAnswer k m
  grants : (f : ℕ) → T (member k.stage granting) → f ≡ given k.stage k → m.answer ≡ Granted f → m.next.stage ≡ 0 → StageAnswer k m
  refuses : m ≡ refused15 k → StageAnswer k m
  sticks : m ≡ stuck k → StageAnswer k m

abbrev StageAnswerAt : ℕ → Stage → Type 0
StageAnswerAt i f = (p : Pool) (k : Client) → k.stage ≡ i → StageAnswer k (f p k)

module _ {k : Client} {i : ℕ} (e : k.stage ≡ i) where
  -- the move leads on to stage j
  to : {m : Move} (j : ℕ) → T (leads i j) → m.answer ≡ Working j → m.next.stage ≡ j → StageAnswer k m
  to j h a n = goes j (rw e h) a n

  gives : (f : ℕ) (w : Write) (u : Counted) → T (member i granting) → f ≡ given i k → StageAnswer k (granted k f w u)
  unfolding granted
  gives f w u h g = by_test (StageAnswer k) (λ _. grants f (rw e h) (rw e g) refl refl) (λ _. sticks refl)

  busy : (size : ℕ) → T (leads i 11) → StageAnswer k (busy_visit k size)
  unfolding busy_visit
  busy size h = by_test (StageAnswer k) (λ _. refuses refl) (λ _. to 11 h refl refl)

  evicts : (n j : ℕ) → T (leads i j) → StageAnswer k (evict_own k n j)
  unfolding evict_own
  evicts n j h = by_test (StageAnswer k) (λ _. to j h refl refl) (λ _. to j h refl refl)

fork : {k : Client} (t : Bool) {x y : Move} → StageAnswer k x → StageAnswer k y → StageAnswer k (choose t x y)
fork {k} t a b = by_test (StageAnswer k) (λ _. a) (λ _. b)

stage_answers : Each StageAnswerAt 0 stages
unfolding stage1 stage2 stage3 stage4 stage5 stage6 stage7 stage8 stage9 stage10 stage11 stage12 stage13
    stage14 stage15 stage16 stage17 stage18 stage19 stage20 stage21 stage22 stage23
stage_answers =
    (λ p k e. sticks refl)
    also (λ p k e. fork _ (to e 4 tt refl refl) (to e 2 tt refl refl))
    also (λ p k e. fork _ (to e 4 tt refl refl) (to e 3 tt refl refl))
    also (λ p k e. gives e _ _ _ tt refl)
    also (λ p k e. fork _ (sticks refl) (to e 5 tt refl refl))
    also (λ p k e. fork _ (to e 10 tt refl refl) (to e 6 tt refl refl))
    also (λ p k e. fork _ (fork _ (sticks refl) (to e 7 tt refl refl)) (to e 5 tt refl refl))
    also (λ p k e. to e 8 tt refl refl)
    also (λ p k e. fork _ (to e 9 tt refl refl) (to e 8 tt refl refl))
    also (λ p k e. to e 18 tt refl refl)
    also (λ p k e. to e 11 tt refl refl)
    also (λ p k e. fork _ (busy e _ tt) (to e 12 tt refl refl))
    also (λ p k e. fork _ (to e 15 tt refl refl) (fork _ (to e 13 tt refl refl) (busy e _ tt)))
    also (λ p k e. fork _ (to e 14 tt refl refl) (to e 11 tt refl refl))
    also (λ p k e. fork _ (to e 15 tt refl refl) (to e 11 tt refl refl))
    also (λ p k e. fork _ (to e 16 tt refl refl) (to e 11 tt refl refl))
    also (λ p k e. to e 17 tt refl refl)
    also (λ p k e. fork _ (to e 18 tt refl refl) (to e 18 tt refl refl))
    also (λ p k e. fork _ (fork _ (sticks refl) (gives e _ _ _ tt refl)) (to e 19 tt refl refl))
    also (λ p k e. fork _ (to e 22 tt refl refl) (to e 20 tt refl refl))
    also (λ p k e. evicts e _ 21 tt)
    also (λ p k e. gives e _ _ _ tt refl)
    also (λ p k e. fork _ (gives e _ _ _ tt refl) (to e 23 tt refl refl))
    also (λ p k e. evicts e _ 4 tt)
    also fin

pub stage_answer : (p : Pool) (k : Client) → StageAnswer k (stage_move p k)
unfolding stage_move
stage_answer p k = each_at StageAnswerAt no_stage (λ _ p k _. sticks refl) stages stage_answers k.stage p k refl

-- The sequential pool: SPECIFICATION, section 11. Of the real pool only the names of calls and answers, and the limit of grants, stand in this file.
-- `Rule q x a q'` says that from state q it may answer call x by a and go on as q'. Assumes nothing.
use Rattle.std.specs.Prelude.{◌≡◌, ◌≢◌, Bool, false, not, ◌||◌, ◌&&◌, List, [], ◌∷◌, ℕ, ◌≤◌, ◌<◌, T, eqb, ltb, length, get_or, set, replicate}
use Rattle.pool.specs.Limits.{max_held}
use Rattle.pool.specs.Choose.{choose, member}
use Rattle.pool.specs.declared.Call.{Call}
use Rattle.pool.specs.declared.Call.TheVariants.{Begin, Step, Release}
use Rattle.pool.specs.declared.Answer.{Answer}
use Rattle.pool.specs.declared.Answer.TheVariants.{Done, Working, Granted, Refused}

-- ---- its state

-- SPECIFICATION 11.1: room for one page, which is empty or has a page with its frame
pub data SeqSlot : Type 0 where
  empty : SeqSlot
  stores : (page frame : ℕ) → SeqSlot

-- SPECIFICATION 11.1: a client. Its stage is 0 where it rests; `grants` has the pages of its grants.
pub record SeqClient : Type 0 where
  pub stage : ℕ
  pub wants : ℕ
  pub grants : List ℕ

-- SPECIFICATION 11.1: S slots, so never more than S pages, and T clients
pub record Sequential : Type 0 where
  pub slots : List SeqSlot
  pub clients : List SeqClient

abbrev pub seq_slot : Sequential → ℕ → SeqSlot
seq_slot q i = get_or q.slots i empty

abbrev pub seq_resting : List ℕ → SeqClient
seq_resting grants = record { stage = 0; wants = 0; grants = grants }

abbrev pub seq_client : Sequential → ℕ → SeqClient
seq_client q c = get_or q.clients c (seq_resting [])

-- SPECIFICATION 11.2: s slots without a page, t clients at rest
abbrev pub start : ℕ → ℕ → Sequential
start s t = record { slots = replicate s empty; clients = replicate t (seq_resting []) }

-- a page is there, with a frame; it is absent; no page has the frame
abbrev pub Keeps : Sequential → ℕ → ℕ → Type 0
Keeps q g f = (i : ℕ) × (seq_slot q i ≡ stores g f)

abbrev pub Absent : Sequential → ℕ → Type 0
Absent q g = (f : ℕ) → Keeps q g f → ⊥

abbrev pub Unused : Sequential → ℕ → Type 0
Unused q f = (g : ℕ) → Keeps q g f → ⊥

-- ---- what it turns down

-- the list without its first g; no client of this pool has two
unfoldable pub without : ℕ → List ℕ → List ℕ
without g [] = []
without g (x ∷ xs) = choose (eqb x g) xs (x ∷ without g xs)

-- SPECIFICATION 11.3: the number by which a call is turned down, 0 where it is not
unfoldable pub seq_refusal : Sequential → Call → ℕ
seq_refusal q (Begin c g) =
    let grants = (seq_client q c).grants in
    choose (ltb c (length q.clients))
    (choose (eqb (seq_client q c).stage 0) (choose (ltb (length grants) max_held) (choose (member g grants) 18 0) 12) 10) 9
seq_refusal q (Step c) = choose (ltb c (length q.clients)) (choose (eqb (seq_client q c).stage 0) 11 0) 9
seq_refusal q (Release c g) =
    choose (ltb c (length q.clients)) (choose (eqb (seq_client q c).stage 0) (choose (member g (seq_client q c).grants) 0 13) 10) 9

-- ---- its steps

-- the first two columns of SPECIFICATION 11.6: where the client stood, and the stage that is answered
abbrev pub adding : ℕ → ℕ → Bool
adding i j = (eqb i 2 && eqb j 3) || (eqb i 19 && eqb j 20)

abbrev pub admitting : ℕ → Bool
admitting i = eqb i 18 || eqb i 22

abbrev pub answering : ℕ → Bool
answering i = eqb i 3 || eqb i 21

abbrev pub evicting : ℕ → ℕ → Bool
evicting i j = eqb i 14 && eqb j 15

-- SPECIFICATION 11.6, a rule for each row: a step of client k, the answer, and the slots and the client after it
pub data StepRule (q : Sequential) (k : SeqClient) : Answer → List SeqSlot → SeqClient → Type 0 where
  adds : {j f : ℕ} → T (adding k.stage j) → member k.wants k.grants ≡ false → Keeps q k.wants f
      → StepRule q k (Working j) q.slots (record { stage = j; wants = k.wants; grants = k.wants ∷ k.grants })
  -- fewer than S pages: slot i is empty
  admits : {f : ℕ} → T (admitting k.stage) → member k.wants k.grants ≡ false → Absent q k.wants → Unused q f
      → (i : ℕ) → i < length q.slots → seq_slot q i ≡ empty
      → StepRule q k (Granted f) (set q.slots i (stores k.wants f)) (seq_resting (k.wants ∷ k.grants))
  evicts : {j g f : ℕ} → T (evicting k.stage j) → (i : ℕ) → seq_slot q i ≡ stores g f → ((c : ℕ) → member g (seq_client q c).grants ≡ false)
      → StepRule q k (Working j) (set q.slots i empty) (record { stage = j; wants = k.wants; grants = k.grants })
  answers : {f : ℕ} → T (answering k.stage) → Keeps q k.wants f → StepRule q k (Granted f) q.slots (seq_resting k.grants)
  continues : {j : ℕ} → T (not (adding k.stage j || evicting k.stage j)) → 1 ≤ j → j ≤ 23
      → StepRule q k (Working j) q.slots (record { stage = j; wants = k.wants; grants = k.grants })
  refuses : StepRule q k (Refused 15) q.slots (seq_resting k.grants)

abbrev pub with_seq_client : Sequential → ℕ → SeqClient → Sequential
with_seq_client q c k = record { slots = q.slots; clients = set q.clients c k }

pub data Rule (q : Sequential) : Call → Answer → Sequential → Type 0 where
  -- SPECIFICATION 11.3
  turns_down : {x : Call} {n : ℕ} → seq_refusal q x ≡ n → n ≢ 0 → Rule q x (Refused n) q
  -- SPECIFICATION 11.4
  begins : {c g : ℕ} → seq_refusal q (Begin c g) ≡ 0
      → Rule q (Begin c g) (Done g) (with_seq_client q c (record { stage = 1; wants = g; grants = (seq_client q c).grants }))
  -- SPECIFICATION 11.5
  releases : {c g : ℕ} → seq_refusal q (Release c g) ≡ 0
      → Rule q (Release c g) (Done g) (with_seq_client q c (seq_resting (without g (seq_client q c).grants)))
  -- SPECIFICATION 11.6
  steps : {c : ℕ} {a : Answer} {slots : List SeqSlot} {k : SeqClient} → seq_refusal q (Step c) ≡ 0 → StepRule q (seq_client q c) a slots k
      → Rule q (Step c) a (record { slots = slots; clients = set q.clients c k })

-- What is claimed of the bytes that pages hold, of every list of calls: SPECIFICATION 13.13. Statements only. Assumes nothing.
use Rattle.std.specs.Prelude.{◌≡◌, List, ℕ, ◌<◌}
use Rattle.pool.specs.declared.Answer.TheVariants.{Done, Refused}
use Rattle.memory.specs.Memory.{page_bytes, store_byte, content}
use Rattle.memory.specs.Requests.{Request, ReadByte, WriteByte, State, setup_on, call_on}
use Rattle.memory.specs.Happenings.{Happening, happenings, SetUpOn}
use Rattle.guarantee.specs.Runs.{At}

-- by whichever client: a read of page g at offset o that answers b; a write of byte v there that is done; a write there, of some byte, that is done
abbrev pub Reads : ℕ → ℕ → ℕ → Happening → Type 0
Reads g o b e = (c : ℕ) × (e.asked ≡ ReadByte c g o) × (e.answer ≡ Done b)

abbrev pub Writes : ℕ → ℕ → ℕ → Happening → Type 0
Writes g o v e = (c : ℕ) × (e.asked ≡ WriteByte c g o v) × (e.answer ≡ Done g)

abbrev pub WritesSome : ℕ → ℕ → Happening → Type 0
WritesSome g o e = (v : ℕ) × Writes g o v e

-- of the calls of a list that began with store s
pub record ReadsLast (s : List ℕ) (es : List Happening) : Type 0 where
  -- read n answers the byte of write k, where none of the place is done between them
  pub last_written : (g o b v k n : ℕ) → At (Reads g o b) es n → k < n → At (Writes g o v) es k
      → ((j : ℕ) → k < j → j < n → At (WritesSome g o) es j → ⊥) → b ≡ v
  -- and the first store's byte, where none is done before it
  pub never_written : (g o b n : ℕ) → At (Reads g o b) es n → ((j : ℕ) → j < n → At (WritesSome g o) es j → ⊥) → b ≡ store_byte s g o

-- GUARANTEE 15, SPECIFICATION 13.13: every read that is done, of a list from an accepted setup, answers what was last written there, or what the store came with
abbrev pub ClaimReads : Type 0
ClaimReads = (x : State) → SetUpOn x → (rs : List Request) → ReadsLast x.store (happenings x rs)

-- the byte that page g holds at an offset, in a state
abbrev pub content_of : State → ℕ → ℕ → ℕ
content_of x g o = content x.pool x.memory x.store g o

-- of one call: a read answers what the page holds; a write makes it its byte; every place that the call does not write, by a write that is done, keeps it
pub record ContentOk (e : Happening) : Type 0 where
  pub read : (g o b : ℕ) → Reads g o b e → b ≡ content_of e.before g o
  pub write : (g o v : ℕ) → Writes g o v e → content_of e.next g o ≡ v
  pub else : (g o : ℕ) → o < page_bytes → (WritesSome g o e → ⊥) → content_of e.next g o ≡ content_of e.before g o

-- GUARANTEE 15, SPECIFICATION 13.13: in a list from an accepted setup no call but a write changes what a page holds, whichever frame holds it and wherever it goes
abbrev pub ClaimContent : Type 0
ClaimContent = (x : State) → SetUpOn x → (rs : List Request) (n : ℕ) (e : Happening) → At (λ y. y ≡ e) (happenings x rs) n → ContentOk e

-- GUARANTEE 16, SPECIFICATION 13.12, 13.13: no refusal, 15 included, changes bytes, marks or store, of any state, a handed one too; nor does a refused setup the store
abbrev pub ClaimRefusalsKeep : Type 0
ClaimRefusalsKeep =
    ((x : State) (r : Request) (n : ℕ) → (call_on x r).answer ≡ Refused n
    → ((call_on x r).state.memory ≡ x.memory) × ((call_on x r).state.store ≡ x.store))
    × ((s t c h : ℕ) (store : List ℕ) (n : ℕ) → (setup_on s t c h store).answer ≡ Refused n → (setup_on s t c h store).state.store ≡ store)

-- A read or write that is not turned down, as the code puts it together, is the definition's action. Assumes nothing.
use Rattle.std.specs.Prelude.{◌≡◌, List, ℕ, ◌<◌}
use Rattle.std.proofs.Math.Path.{ap}
use Rattle.std.proofs.Common.{◌∙◌, arith, ltb-true}
use Rattle.pool.specs.declared.Answer.TheVariants.{Done}
use Rattle.pool.specs.declared.Counted.TheVariants.{Nothing}
use Rattle.laws.specs.Choices.{by_test}
use Rattle.memory.specs.Memory.{page_bytes, byte, filled_from, written}
use Rattle.memory.specs.Requests.{ReadByte, WriteByte, State, Result, byte_refusal, held_frame, action_on}
use Rattle.memory.specs.declared.Memory.{Memory}
use Rattle.content.specs.Filling.{bytes_filled, marks_filled, filled_in_parts, byte_in, byte_in_lem, bytes_written, marks_written, written_in_parts}

-- a byte that 17 does not turn down is inside its page
pub low_offset : (n g o : ℕ) → byte_refusal n g o ≡ 0 → o < page_bytes
unfolding byte_refusal
low_offset n g o =
    by_test (λ (y : ℕ). y ≡ 0 → o < page_bytes)
    (λ _. by_test (λ (y : ℕ). y ≡ 0 → o < page_bytes) (λ l _. ltb-true _ _ l) (λ _ e. let z : ⊥ = omega arith in absurd z))
    (λ _ e. let z : ⊥ = omega arith in absurd z)

-- a call that is done, with another memory than state x has
abbrev pub done_with : State → ℕ → Memory → Result
done_with x v m = record { answer = Done v; counted = Nothing; state = record { pool = x.pool; memory = m; store = x.store } }

-- with the frame f of the client's grant of page g filled
module _ (x : State) (c g o : ℕ) {f : ℕ} {bytes filled : List ℕ} (ef : f ≡ held_frame x.pool c g)
    (eb : bytes ≡ bytes_filled x.memory.filled x.memory.pages f g x.memory.bytes x.store)
    (em : filled ≡ marks_filled x.memory.filled x.memory.pages f g) where
  abbrev m : Memory
  m = x.memory

  abbrev now : Memory
  now = record { pages = m.pages; bytes = bytes; filled = filled; changed = m.changed }

  abbrev held : ℕ
  held = held_frame x.pool c g

  full : now ≡ filled_from m x.store held g
  full = rw (eb, em) (filled_in_parts m x.store f g) ∙ ap (λ (h : ℕ). filled_from m x.store h g) ef

  pub reads_as : {v : ℕ} → v ≡ byte_in bytes f o → done_with x v now ≡ action_on x (ReadByte c g o)
  unfolding action_on
  reads_as {v} ev =
      let it : v ≡ byte (filled_from m x.store held g) held o =
      ev ∙ byte_in_lem now f o ∙ ap (λ (k : Memory). byte k f o) full ∙ ap (λ (h : ℕ). byte (filled_from m x.store held g) h o) ef in
      ap (λ (y : ℕ). done_with x y now) it ∙ ap (done_with x (byte (filled_from m x.store held g) held o)) full

  pub writes_as : (v : ℕ) {bytes' changed : List ℕ} → bytes' ≡ bytes_written bytes f o v → changed ≡ marks_written m.changed f o
      → done_with x g (record { pages = m.pages; bytes = bytes'; filled = filled; changed = changed }) ≡ action_on x (WriteByte c g o v)
  unfolding action_on
  writes_as v {bytes'} {changed} eb' ec =
      let it : record { pages = m.pages; bytes = bytes'; filled = filled; changed = changed } ≡ written now f o v = rw (eb', ec) (written_in_parts now f o v) in
      ap (done_with x g) it ∙ ap (λ (k : Memory). done_with x g (written k f o v)) full
      ∙ ap (λ (h : ℕ). done_with x g (written (filled_from m x.store held g) h o v)) ef

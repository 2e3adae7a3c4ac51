-- The memory that marks are lent of, with bytes that check 8 does not look at. Assumes nothing.
use Rattle.std.specs.Prelude.{List, ℕ}
use Rattle.memory.specs.declared.Memory.{Memory}
use Rattle.checks.specs.declared.bytes.Marks.{Marks}

abbrev pub memory_in : Marks → List ℕ → Memory
memory_in m bytes = record { pages = m.pages; bytes = bytes; filled = m.filled.now; changed = m.changed.now }

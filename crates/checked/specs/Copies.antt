-- A turn on a copy of the pool: what it leaves, and what it wrote. Assumes nothing.
use Rattle.std.specs.Prelude.{◌≡◌, ℕ}
use Rattle.pool.specs.State.{number_of_clients}
use Rattle.pool.specs.Apply.{apply}
use Rattle.pool.specs.Calls.{caller}
use Rattle.pool.specs.declared.Call.{Call}
use Rattle.pool.specs.declared.Move.{Move}
use Rattle.pool.specs.declared.Pool.{Pool}
use Rattle.play.specs.Turn.{client_or_first, turn, played}
use Rattle.checked.specs.declared.Made.{Made}

abbrev pub copy_of : Pool → Call → Made
copy_of p call = let o = played p call in record { answer = o.answer; counted = o.counted; write = (turn p call).write; pool = o.pool }

pub as_copied : (p : Pool) (call : Call) {c : ℕ} {m : Move} {q : Pool} → c ≡ client_or_first (number_of_clients p) (caller call) → m ≡ turn p call
    → q ≡ apply p c m → record { answer = m.answer; counted = m.counted; write = m.write; pool = q } ≡ copy_of p call
as_copied p call e t a = simp (a, t, e)

-- The numbers of the answers. Assumes nothing.
use Rattle.std.specs.Prelude.{ℕ, ◌+◌}
use Rattle.pool.specs.declared.Answer.{Answer}
use Rattle.pool.specs.declared.Answer.TheVariants.{Done, Working, Granted, Refused}
use Rattle.pool.specs.declared.Reading.{Reading}
use Rattle.pool.specs.declared.Reading.TheVariants.{Setup, Asked, Unreadable}

-- SPECIFICATION 3.6: code and value
unfoldable pub code_of : Answer → ℕ
code_of (Done n) = 0
code_of (Working stage) = 1
code_of (Granted frame) = 2
code_of (Refused n) = 100 + n

unfoldable pub value_of : Answer → ℕ
value_of (Done n) = n
value_of (Working stage) = stage
value_of (Granted frame) = frame
value_of (Refused n) = 0

-- SPECIFICATION 3.6: the refusal number of an answer, 0 for one that is no refusal
unfoldable pub refusal_of : Answer → ℕ
refusal_of (Done n) = 0
refusal_of (Working stage) = 0
refusal_of (Granted frame) = 0
refusal_of (Refused n) = n

-- the refusal by which a record cannot be read, 0 for one that is read whole
unfoldable pub unread_of : Reading → ℕ
unread_of (Setup s t c h) = 0
unread_of (Asked call) = 0
unread_of (Unreadable n) = n

-- An answer as one number (SPECIFICATION 14.3). Assumes nothing.
use Rattle.std.specs.Prelude.{ℕ, ◌+◌, ◌*◌, Result, Ok, Err}
use Rattle.pool.specs.Answers.{code_of, value_of}
use Rattle.pool.specs.declared.Answer.{Answer}
use Rattle.pool.specs.declared.Answer.TheVariants.{Refused}
use Rattle.answers.specs.declared.refusal.Refusal.{Refusal}
use Rattle.answers.specs.Numbers.{refusal_number}

-- SPECIFICATION 14.3: its code above its value, which has 32 bits
unfoldable pub word_of : Answer → ℕ
word_of a = 4294967296 * code_of a + value_of a

-- the answer of a call that may be refused
abbrev pub answer_of : Result Answer Refusal → Answer
answer_of (Ok a) = a
answer_of (Err r) = Refused (refusal_number r)

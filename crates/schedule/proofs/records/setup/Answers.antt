-- What turns a record of any kind down turns a first one down. Assumes nothing.
use borrow.Author.Rules.{rules}
use mathlib.Core.Bool.{true}
use Rattle.schedule.proofs.records.setup.Goals as goal

pub returns-in_err-kind_of-clause-refused : goal.returns-in_err-kind_of-clause-refused
returns-in_err-kind_of-clause-refused c = let e = c.in_err-kind_of.ensures.refused true in search rules

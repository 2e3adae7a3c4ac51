use Rattle.pool.specs.State.{none, slot}
use Rattle.books.proofs.reading.Books.in_slot.Goals as goal

pub returns : goal.returns
unfolding slot
returns c = λ _. c.has.ensures none

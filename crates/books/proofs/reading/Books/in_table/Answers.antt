use Rattle.std.proofs.Common.{◌∙◌, ap, nat_eq}
use Rattle.pool.specs.Choose.{some}
use Rattle.pool.specs.State.{none, within, entry_frame}
use Rattle.books.proofs.reading.Books.in_table.Goals as goal

pub returns : goal.returns
unfolding entry_frame
returns c =
    λ clients. c.has.ensures none ∙ ap (λ n. some (λ i. nat_eq (within c.args.self.now.table_frames.now n none i) c.args.f) n) c.total.ensures.value

use Rattle.std.proofs.Common.{rules, tests, ◌∙◌, sym, arith}
use Rattle.std.proofs.lemmas.Iterator.{YieldsList-from_range}
use Rattle.std.proofs.lemmas.Iterator.Search.{all_from_yields_List}
use Rattle.memory.specs.Requests.{client_inside}
use Rattle.books.specs.Books.{pool_in}
use Rattle.checks.proofs.Every.{every_range}
use Rattle.checks.proofs.bytes.clients_inside.Goals as goal

pub returns : goal.returns
returns c =
    let a = c.args in
    let p = pool_in a.books.now a.clients.now in
    let n = a.books.now.numbers.client_count in
    all_from_yields_List (client_inside p a.store) _ _ _ c.all.ensures.ran (YieldsList-from_range 0 n n (cc) (omega arith)) (λ x b q k. search (rules, tests))
    ∙ sym (every_range (client_inside p a.store) n)

use Rattle.std.proofs.Common.{◌∙◌}
use Rattle.books.specs.Books.{pool_in}
use Rattle.checks.proofs.Parts.{fails, holds}
use Rattle.checks.proofs.Stored.{inside_is}
use Rattle.checks.proofs.bytes.client_inside.Goals as goal

pub returns-else-wanted_inside : goal.returns-else-wanted_inside
returns-else-wanted_inside c =
    let a = c.args in
    fails _ c.wanted_inside.ensures c.if-wanted_inside.false ∙ inside_is (pool_in a.books.now a.clients.now) a.store a.c c.requires.client

pub returns-then-wanted_inside : goal.returns-then-wanted_inside
returns-then-wanted_inside c =
    let a = c.args in
    c.grants_inside.ensures ∙ holds _ c.wanted_inside.ensures c.if-wanted_inside.true
    ∙ inside_is (pool_in a.books.now a.clients.now) a.store a.c c.requires.client

-- Counts, names and grants, one after the other; the counts that passed bound the grants held by 8. Assumes nothing.
use Rattle.std.proofs.Common.{◌≡◌, ◌∙◌, sym, ap, true≢false, get_or}
use Rattle.pool.specs.Choose.{both}
use Rattle.pool.specs.State.{no_client, total}
use Rattle.pool.specs.Valid.{counts_ok, names_ok}
use Rattle.ranges.specs.Ranges.{counts_in}
use Rattle.books.specs.Books.{pool_in}
use Rattle.checks.proofs.Parts.{fails, holds, client_is}
use Rattle.checks.proofs.whole.client_ok.Goals as goal
use Rattle.checks.proofs.whole.client_ok.Goals.{then-counts_ok, else-counts_ok}

pub grants_ok-requires-clause-few : goal.grants_ok-requires-clause-few
grants_ok-requires-clause-few c =
    elim c.if-counts_ok.branch [
      | then-counts_ok w ↦ (counts_in _ _ (sym c.counts_ok.ensures ∙ w.if-counts_ok.true)).held
      | else-counts_ok w ↦ absurd (true≢false (sym c.if-names_ok.true ∙ w.value-is ∙ w.if-counts_ok.false))
    ]

pub returns-else-names_ok : goal.returns-else-names_ok
returns-else-names_ok c =
    let b = c.args.books.now in
    let k = get_or c.args.clients.now c.args.c no_client in
    let n = total (pool_in b c.args.clients.now) in
    let named : c.if-counts_ok.value ≡ both (counts_ok k b.numbers.size) (names_ok k n) =
    elim c.if-counts_ok.branch [
      | then-counts_ok w ↦ w.value-is ∙ w.names_ok.ensures ∙ ap (names_ok k) w.total.ensures.value ∙ holds _ c.counts_ok.ensures w.if-counts_ok.true
      | else-counts_ok w ↦ w.value-is ∙ fails _ c.counts_ok.ensures w.if-counts_ok.false
    ] in
    fails _ named c.if-names_ok.false ∙ client_is b c.args.clients.now c.args.c c.requires.client

pub returns-then-names_ok : goal.returns-then-names_ok
returns-then-names_ok c =
    let b = c.args.books.now in
    let k = get_or c.args.clients.now c.args.c no_client in
    let n = total (pool_in b c.args.clients.now) in
    let named : c.if-counts_ok.value ≡ both (counts_ok k b.numbers.size) (names_ok k n) =
    elim c.if-counts_ok.branch [
      | then-counts_ok w ↦ w.value-is ∙ w.names_ok.ensures ∙ ap (names_ok k) w.total.ensures.value ∙ holds _ c.counts_ok.ensures w.if-counts_ok.true
      | else-counts_ok w ↦ w.value-is ∙ fails _ c.counts_ok.ensures w.if-counts_ok.false
    ] in
    c.grants_ok.ensures ∙ holds _ named c.if-names_ok.true ∙ client_is b c.args.clients.now c.args.c c.requires.client

-- A pool without a store has no marks; one with a store has a number of pages in range, and all its pages inside. Assumes nothing.
use Rattle.std.proofs.Common.{◌∙◌, ap, refl, not}
use Rattle.std.proofs.lemmas.Bool.{lt-leb}
use Rattle.pool.specs.Choose.{both, every}
use Rattle.memory.specs.Memory.{mark}
use Rattle.memory.specs.Requests.{bytes_ok}
use Rattle.books.specs.Books.{pool_in}
use Rattle.checks.specs.Lent.{memory_in}
use Rattle.checks.proofs.Parts.{fails}
use Rattle.checks.proofs.Stored.{with_store, without_store}
use Rattle.checks.proofs.bytes.bytes_ok.Goals as goal

pub returns-then-marks-eq0 : goal.returns-then-marks-eq0
returns-then-marks-eq0 c =
    let a = c.args in
    λ bytes. c.unmarked.ensures ∙ ap (every (λ f. both (not (mark a.marks.now.filled.now f)) (not (mark a.marks.now.changed.now f)))) c.total.ensures.value
    ∙ without_store (pool_in a.books.now a.clients.now) (memory_in a.marks.now bytes) c.if-marks-eq0.true

pub returns-else-marks-le-MAX_PAGES : goal.returns-else-marks-le-MAX_PAGES
unfolding bytes_ok
returns-else-marks-le-MAX_PAGES c = λ bytes. fails _ refl (lt-leb _ _ c.if-marks-le-MAX_PAGES.false)

pub returns-then-marks-le-MAX_PAGES : goal.returns-then-marks-le-MAX_PAGES
returns-then-marks-le-MAX_PAGES c =
    let a = c.args in
    λ bytes. c.pages_inside.ensures
    ∙ with_store (pool_in a.books.now a.clients.now) (memory_in a.marks.now bytes) c.if-marks-eq0.false c.if-marks-le-MAX_PAGES.true

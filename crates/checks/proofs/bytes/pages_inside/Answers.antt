-- Frames, entries, clients, one after the other. Assumes nothing.
use Rattle.std.proofs.Common.{◌≡◌, ◌∙◌, ap, nat_eq}
use Rattle.pool.specs.Choose.{both, either, every}
use Rattle.pool.specs.State.{none, within, total, page, entry_page, entry_frame}
use Rattle.memory.specs.Requests.{inside, entry_inside, pages_inside}
use Rattle.books.specs.Books.{pool_in}
use Rattle.checks.proofs.Parts.{fails, holds, regroup}
use Rattle.checks.proofs.bytes.pages_inside.Goals as goal
use Rattle.checks.proofs.bytes.pages_inside.Goals.{then-frames_inside, else-frames_inside}

pub returns-else-entries_inside : goal.returns-else-entries_inside
unfolding pages_inside entry_inside page entry_page entry_frame
returns-else-entries_inside c =
    let a = c.args in
    let p = pool_in a.books.now a.clients.now in
    let frames : c.frames_inside.result ≡ every (λ f. inside a.store (page p f)) (total p) =
    c.frames_inside.ensures ∙ ap (λ n. every (λ f. inside a.store (within p.pages n 0 f)) n) c.total-n.ensures.value in
    let entries : c.if-frames_inside.value ≡ both (every (λ f. inside a.store (page p f)) (total p)) (every (entry_inside p a.store) (total p)) =
    elim c.if-frames_inside.branch [
      | then-frames_inside w ↦ w.value-is ∙ w.entries_inside.ensures
          ∙ ap (λ n. every (λ i. either (nat_eq (within p.table_frames n none i) none) (inside a.store (within p.table_pages n 0 i))) n) c.total-n.ensures.value
          ∙ holds _ frames w.if-frames_inside.true
      | else-frames_inside w ↦ w.value-is ∙ fails _ frames w.if-frames_inside.false
    ] in
    fails _ entries c.if-entries_inside.false ∙ regroup _ _ _

pub returns-then-entries_inside : goal.returns-then-entries_inside
unfolding pages_inside entry_inside page entry_page entry_frame
returns-then-entries_inside c =
    let a = c.args in
    let p = pool_in a.books.now a.clients.now in
    let frames : c.frames_inside.result ≡ every (λ f. inside a.store (page p f)) (total p) =
    c.frames_inside.ensures ∙ ap (λ n. every (λ f. inside a.store (within p.pages n 0 f)) n) c.total-n.ensures.value in
    let entries : c.if-frames_inside.value ≡ both (every (λ f. inside a.store (page p f)) (total p)) (every (entry_inside p a.store) (total p)) =
    elim c.if-frames_inside.branch [
      | then-frames_inside w ↦ w.value-is ∙ w.entries_inside.ensures
          ∙ ap (λ n. every (λ i. either (nat_eq (within p.table_frames n none i) none) (inside a.store (within p.table_pages n 0 i))) n) c.total-n.ensures.value
          ∙ holds _ frames w.if-frames_inside.true
      | else-frames_inside w ↦ w.value-is ∙ fails _ frames w.if-frames_inside.false
    ] in
    c.clients_inside.ensures ∙ holds _ entries c.if-entries_inside.true ∙ regroup _ _ _

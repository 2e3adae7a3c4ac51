-- The tests one after the other, as `&&` makes them; together they are check 8. Assumes nothing.
use Rattle.std.proofs.Common.{◌≡◌, ◌∙◌, ap, refl, le-leb}
use Rattle.std.proofs.lemmas.Bool.{lt-leb}
use lib.Dec.{leb}
use Rattle.pool.specs.Choose.{both, every}
use Rattle.pool.specs.State.{none, evicted, within, total}
use Rattle.pool.specs.Valid.{frame_ok, state_ok}
use Rattle.ranges.specs.Ranges.{numbers_in}
use Rattle.books.specs.Books.{pool_in}
use Rattle.checks.proofs.Parts.{fails, holds, slots_of, states_of, entries_of, valid_is}
use Rattle.checks.proofs.whole.books_ok.Goals as goal
use Rattle.checks.proofs.whole.books_ok.Goals.{then-books-size, else-books-size, then-frame_ok, else-frame_ok, then-slots_ok, else-slots_ok, then-states_ok, else-states_ok}

pub clients_ok-requires : goal.clients_ok-requires
clients_ok-requires c = (numbers_in _ _ _ c.requires).clients

pub returns-else-entries_ok : goal.returns-else-entries_ok
returns-else-entries_ok c =
    let b = c.args.books.now in
    let k = c.args.clients.now in
    let first = both (leb b.free b.numbers.size) (frame_ok (total (pool_in b k)) b.last) in
    let taken : c.if-books-size.value ≡ first =
    elim c.if-books-size.branch [
      | then-books-size w ↦ w.value-is ∙ w.frame_ok.ensures ∙ ap (λ n. frame_ok n b.last) c.total-n.ensures.value ∙ holds _ refl (le-leb _ _ w.if-books-size.true)
      | else-books-size w ↦ w.value-is ∙ fails _ refl (lt-leb _ _ w.if-books-size.false)
    ] in
    let slots : c.if-frame_ok.value ≡ both first (slots_of b k) =
    elim c.if-frame_ok.branch [
      | then-frame_ok w ↦ w.value-is ∙ w.slots_ok.ensures ∙ ap (λ n. every (λ i. frame_ok n (within b.slots.now b.numbers.size none i)) b.numbers.size) c.total-n.ensures.value ∙ holds _ taken w.if-frame_ok.true
      | else-frame_ok w ↦ w.value-is ∙ fails _ taken w.if-frame_ok.false
    ] in
    let states : c.if-slots_ok.value ≡ both (both first (slots_of b k)) (states_of b k) =
    elim c.if-slots_ok.branch [
      | then-slots_ok w ↦ w.value-is ∙ w.states_ok.ensures ∙ ap (λ n. every (λ f. state_ok b.numbers.cap (within b.pins.now n evicted f) (within b.counts.now n 0 f)) n) c.total-n.ensures.value ∙ holds _ slots w.if-slots_ok.true
      | else-slots_ok w ↦ w.value-is ∙ fails _ slots w.if-slots_ok.false
    ] in
    let entries : c.if-states_ok.value ≡ both (both (both first (slots_of b k)) (states_of b k)) (entries_of b k) =
    elim c.if-states_ok.branch [
      | then-states_ok w ↦ w.value-is ∙ w.entries_ok.ensures ∙ holds _ states w.if-states_ok.true
      | else-states_ok w ↦ w.value-is ∙ fails _ states w.if-states_ok.false
    ] in
    fails _ entries c.if-entries_ok.false ∙ valid_is b k c.requires

pub returns-then-entries_ok : goal.returns-then-entries_ok
returns-then-entries_ok c =
    let b = c.args.books.now in
    let k = c.args.clients.now in
    let first = both (leb b.free b.numbers.size) (frame_ok (total (pool_in b k)) b.last) in
    let taken : c.if-books-size.value ≡ first =
    elim c.if-books-size.branch [
      | then-books-size w ↦ w.value-is ∙ w.frame_ok.ensures ∙ ap (λ n. frame_ok n b.last) c.total-n.ensures.value ∙ holds _ refl (le-leb _ _ w.if-books-size.true)
      | else-books-size w ↦ w.value-is ∙ fails _ refl (lt-leb _ _ w.if-books-size.false)
    ] in
    let slots : c.if-frame_ok.value ≡ both first (slots_of b k) =
    elim c.if-frame_ok.branch [
      | then-frame_ok w ↦ w.value-is ∙ w.slots_ok.ensures ∙ ap (λ n. every (λ i. frame_ok n (within b.slots.now b.numbers.size none i)) b.numbers.size) c.total-n.ensures.value ∙ holds _ taken w.if-frame_ok.true
      | else-frame_ok w ↦ w.value-is ∙ fails _ taken w.if-frame_ok.false
    ] in
    let states : c.if-slots_ok.value ≡ both (both first (slots_of b k)) (states_of b k) =
    elim c.if-slots_ok.branch [
      | then-slots_ok w ↦ w.value-is ∙ w.states_ok.ensures ∙ ap (λ n. every (λ f. state_ok b.numbers.cap (within b.pins.now n evicted f) (within b.counts.now n 0 f)) n) c.total-n.ensures.value ∙ holds _ slots w.if-slots_ok.true
      | else-slots_ok w ↦ w.value-is ∙ fails _ slots w.if-slots_ok.false
    ] in
    let entries : c.if-states_ok.value ≡ both (both (both first (slots_of b k)) (states_of b k)) (entries_of b k) =
    elim c.if-states_ok.branch [
      | then-states_ok w ↦ w.value-is ∙ w.entries_ok.ensures ∙ holds _ states w.if-states_ok.true
      | else-states_ok w ↦ w.value-is ∙ fails _ states w.if-states_ok.false
    ] in
    c.clients_ok.ensures ∙ holds _ entries c.if-entries_ok.true ∙ valid_is b k c.requires

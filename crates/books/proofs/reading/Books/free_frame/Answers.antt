-- The search tries the frames in the definition's order, and stops at the first that is not named. Assumes nothing.
use Rattle.std.proofs.Common.{◌≡◌, ◌∙◌, sym, ap, ◌+◌, ◌%◌, ◌<◌, not, arith}
use Rattle.std.proofs.Math.Nat.{mod-add-mod, mod-eq_of_lt}
use Rattle.pool.specs.State.{total}
use Rattle.pool.specs.Frames.{referenced, first_tried, free_frame}
use Rattle.laws.specs.Loops.{begins, hit, misses, ends}
use Rattle.books.specs.Books.{pool_in}
use Rattle.books.specs.Named.{first_of}
use Rattle.books.proofs.reading.Books.free_frame.Goals as goal

pub loop-n-init : goal.loop-n-init
unfolding first_tried first_of
loop-n-init c =
    let p = pool_in c.args.self.now c.args.clients.now in
    let frames = c.total-total.ensures.value in
    let first = c.first_tried-next in
    let low : first.result < total p = omega (arith, frames, first.ensures.bound) in
    let start : first.result ≡ first_tried p + 0 = omega (arith, first.ensures.value ∙ ap (first_of p.last) frames) in
    record {
      left = begins _ _ _ _;
      next = sym (mod-eq_of_lt low) ∙ ap (λ n. n % total p) start;
      within = low;
    }

pub returns-then-not-is_named-clause-frame : goal.returns-then-not-is_named-clause-frame
unfolding free_frame
returns-then-not-is_named-clause-frame c =
    let p = pool_in c.args.self.now c.args.clients.now in
    let i = c.loop-n.invariant in
    let h : c.loop-n.n < total p = omega (arith, c.total-total.ensures.value) in
    i.next ∙ hit i.left h (ap not (c.is_named.ensures ∙ ap (referenced p) i.next)) (ap not c.if-not-is_named.true)

pub loop-n-preserved : goal.loop-n-preserved
loop-n-preserved c =
    let p = pool_in c.args.self.now c.args.clients.now in
    let i = c.loop-n.invariant in
    let frames = c.total-total.ensures.value in
    let after = c.tried_after-next.ensures in
    let h : c.loop-n.n < total p = omega (arith, frames) in
    record {
      left = misses i.left h (ap not (c.is_named.ensures ∙ ap (referenced p) i.next)) (ap not c.if-not-is_named.false);
      next =
          after.value ∙ ap (λ m. (c.loop-n.next + 1) % m) frames ∙ ap (λ n. (n + 1) % total p) i.next
          ∙ mod-add-mod (first_tried p + c.loop-n.n) (total p) 1 ∙ ap (λ n. n % total p) (omega arith);
      within = omega (arith, frames, after.bound);
    }

pub returns-clause-frame : goal.returns-clause-frame
unfolding free_frame
returns-clause-frame c = ends c.loop-n.invariant.left (omega (arith, c.total-total.ensures.value))

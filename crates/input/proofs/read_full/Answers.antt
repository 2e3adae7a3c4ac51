-- What a read gives is put behind what was read before, and the reader has lost both. Assumes nothing.
use Rattle.std.proofs.Common.{◌≡◌, ◌∙◌, ◌≤◌, ◌+◌, ◌-◌, ◌++◌, rules, ℕ, List, ap, sym, subst, length, take, drop, drop_at, length-take-le, le_refl}
use Rattle.std.proofs.lemmas.Slice.{take-put_mid_below}
use Rattle.std.specs.Io.KnownBytes.{Consumes}
use Rattle.std.proofs.KnownBytes.{Consumes-trans}
use borrow.Rule.Slice.PartMut.{put_mid, post_of}
use lib.Seq.{take-add, take-append-le}
use Rattle.input.proofs.read_full.Goals as goal

put_behind : (a k n : ℕ) (xs ys : List ℕ) → a ≤ length xs → n ≤ length ys → take a xs ++ take n ys ≡ take (a + n) (put_mid a k xs ys)
put_behind a k n xs ys within fits =
    let all = put_mid a k xs ys in
    let before : take a all ≡ take a xs = take-put_mid_below _ _ _ _ _ (le_refl _) within in
    let from : drop a all ≡ ys ++ post_of a k xs = drop_at (take a xs) (ys ++ post_of a k xs) a (length-take-le a xs within) in
    let behind : take n (drop a all) ≡ take n ys = ap (take n) from ∙ take-append-le n ys (post_of a k xs) fits in
    ap (λ l. l ++ take n ys) (sym before) ∙ ap (λ l. take a all ++ l) (sym behind) ∙ sym (take-add a n all)

pub loop-done-preserved : goal.loop-done-preserved
loop-done-preserved g c =
    let l = c.loop-done in
    let n = c.in_ok-n.n in
    let fits : n ≤ length c.read.new.buf = c.in_ok-n.ensures.bound.0 in
    let room = length l.buffer - l.done in
    let within : l.done ≤ length l.buffer = l.invariant.0 in
    let placed = put_behind l.done room n l.buffer c.read.new.buf within fits in
    (search rules, subst (Consumes _ _) placed (Consumes-trans _ _ _ _ _ l.invariant.1 c.in_ok-n.ensures.bytes.0))

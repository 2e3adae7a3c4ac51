use Rattle.std.proofs.Common.{◌≡◌, take, drop, refl, arith}
use Rattle.content.proofs.Copied.{part_is}
use Rattle.content.proofs.pages.copy_page.Goals as goal

pub returns : goal.returns
returns c =
    let a = c.args in
    let page : c.copy_from_slice.new.self ≡ take 64 (drop a.source a.from.now) = grind (arith, c.copy_from_slice.ensures.after) in
    part_is a.to.now a.at a.from.now a.source c.requires.to c.requires.from page refl (omega arith)

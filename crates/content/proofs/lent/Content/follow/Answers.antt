-- Of the write of the last arm its tag alone is known: `kept` says of it what holds of every write with one of the tags. Assumes nothing.
use borrow.Author.Rules.{rules}
use denote.Enum.Declared.{tag_of}
use mathlib.Core.List.{List, [], ◌∷◌}
use types.Run.{OneOf}
use Prim.Native.Nat.{ℕ}
use Rattle.std.specs.Prelude.{◌≡◌}
use Rattle.pool.specs.contracts.Write as W
use Rattle.content.specs.Effects.{store_in}
use Rattle.content.proofs.Kept.{kept}
use Rattle.content.proofs.lent.Content.follow.Goals as goal

-- the tags of all writes but a frame taken and an entry put
abbrev others : List ℕ
others = 0 ∷ 1 ∷ 2 ∷ 3 ∷ 6 ∷ 7 ∷ []

pub returns-in_default-clause-store : goal.returns-in_default-clause-store
unfolding store_in
returns-in_default-clause-store c =
    let m = c.args.self.now in
    let s = c.args.store.now in
    let one_of_them : OneOf others (tag_of W.the_type c.args.write) = search rules in
    kept (λ w. s ≡ store_in m.pages m.bytes.now m.changed.now s c.args.entry w) c.args.write others one_of_them (search rules)

-- Whether there are `Numbers` is whether S, T and C are in range. Assumes nothing.
use Rattle.std.specs.Prelude.{◌≡◌, Bool, true, false, ℕ, Option, Some, None, MatchOption}
use Rattle.std.proofs.Common.{sym, ◌∙◌}
use Rattle.std.specs.Option.{is_some}
use Rattle.books.specs.declared.numbers.Numbers.{Numbers}

pub numbered : (size count cap : ℕ) (o : Option Numbers) {t b : Bool} →
    MatchOption o (t ≡ false) (λ n. (t ≡ true) × (n.size ≡ size) × (n.client_count ≡ count) × (n.cap ≡ cap)) → b ≡ is_some o → b ≡ t
numbered size count cap None m e = e ∙ sym m
numbered size count cap (Some n) m e = e ∙ sym m.0

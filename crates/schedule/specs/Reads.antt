-- The kinds of records by their bytes. Assumes nothing.
use Rattle.std.specs.Prelude.{◌≡◌, ◌<◌, ℕ, Result, MatchResult}
use Rattle.answers.specs.declared.refusal.Refusal.{Refusal}
use Rattle.answers.specs.declared.refusal.Refusal.TheVariants.{NoSuchKind}
use Rattle.schedule.specs.declared.records.Kind.{Kind}
use Rattle.schedule.specs.declared.records.Kind.TheVariants.{Setup, Begin, Step, Release}

-- SPECIFICATION 9.1
abbrev pub kind_number : Kind → ℕ
kind_number Setup = 0
kind_number Begin = 1
kind_number Step = 2
kind_number Release = 3

-- the kind with a number; refusal 5 where there is none
abbrev pub Numbered : ℕ → Result Kind Refusal → Type 0
Numbered n found = MatchResult found (λ kind. kind_number kind ≡ n) (λ refusal. (3 < n) × (refusal ≡ NoSuchKind))

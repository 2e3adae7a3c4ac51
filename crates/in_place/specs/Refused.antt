-- No refusal has number 0, which stands for none. Assumes nothing.
use Rattle.std.specs.Prelude.{◌≡◌, ◌≢◌, refl, false, eqb}
use Rattle.std.proofs.Common.{◌∙◌, sym, true≢false, eq-eqb}
use Rattle.answers.specs.declared.refusal.Refusal.{Refusal}
use Rattle.answers.specs.declared.refusal.Refusal.TheVariants.{TooLong, ReportFull, Cut, NoMark, NoSuchKind, SetupMisplaced, StepNamesPage, OutOfRange, NoSuchClient, AtWork, AtRest, HasEight, NotHeld, FewRows, AllBusy, OutsideStore, OutsidePage, HeldAlready}
use Rattle.answers.specs.Numbers.{refusal_number}

pub some_number : (e : Refusal) → eqb (refusal_number e) 0 ≡ false
some_number TooLong = refl
some_number ReportFull = refl
some_number Cut = refl
some_number NoMark = refl
some_number NoSuchKind = refl
some_number SetupMisplaced = refl
some_number StepNamesPage = refl
some_number OutOfRange = refl
some_number NoSuchClient = refl
some_number AtWork = refl
some_number AtRest = refl
some_number HasEight = refl
some_number NotHeld = refl
some_number FewRows = refl
some_number AllBusy = refl
some_number OutsideStore = refl
some_number OutsidePage = refl
some_number HeldAlready = refl

pub not_none : (e : Refusal) → refusal_number e ≢ 0
not_none e z = true≢false (sym (eq-eqb _ _ z) ∙ some_number e)

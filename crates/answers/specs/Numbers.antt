-- The numbers that refusals and stages have in answers, reports and records: SPECIFICATION 3.6, sections 4 and 6. Assumes nothing.
use Rattle.std.specs.Prelude.{◌≡◌, ℕ, ◌<◌, ◌⊎◌, Result, Ok, Err}
use Rattle.std.proofs.Common.{arith}
use Rattle.answers.specs.declared.refusal.Refusal.{Refusal}
use Rattle.answers.specs.declared.refusal.Refusal.TheVariants.{TooLong, ReportFull, Cut, NoMark, NoSuchKind, SetupMisplaced, StepNamesPage, OutOfRange, NoSuchClient, AtWork, AtRest, HasEight, NotHeld, FewRows, AllBusy, OutsideStore, OutsidePage, HeldAlready}
use Rattle.answers.specs.declared.stage.Stage.{Stage}
use Rattle.answers.specs.declared.stage.Stage.TheVariants.{LookUp, PinFound, RaiseFound, TakeFrame, ReadFree, LowerFree, ReadHand, FillSlot, MoveHand, StartSweep, LookAtSlot, ReadPins, LowerCount, EvictVictim, ReplaceVictim, PassSlot, RemoveEntry, MapPage, PinMapped, GiveUpToJoin, RaiseJoined, MapAnew, GiveUpToStartAnew}

abbrev pub refusal_number : Refusal → ℕ
refusal_number TooLong = 1
refusal_number ReportFull = 2
refusal_number Cut = 3
refusal_number NoMark = 4
refusal_number NoSuchKind = 5
refusal_number SetupMisplaced = 6
refusal_number StepNamesPage = 7
refusal_number OutOfRange = 8
refusal_number NoSuchClient = 9
refusal_number AtWork = 10
refusal_number AtRest = 11
refusal_number HasEight = 12
refusal_number NotHeld = 13
refusal_number FewRows = 14
refusal_number AllBusy = 15
refusal_number OutsideStore = 16
refusal_number OutsidePage = 17
refusal_number HeldAlready = 18

-- no refusal has the number 0, by which is said that there is none
pub some_refusal : (r : Refusal) → 0 < refusal_number r
some_refusal TooLong = omega arith
some_refusal ReportFull = omega arith
some_refusal Cut = omega arith
some_refusal NoMark = omega arith
some_refusal NoSuchKind = omega arith
some_refusal SetupMisplaced = omega arith
some_refusal StepNamesPage = omega arith
some_refusal OutOfRange = omega arith
some_refusal NoSuchClient = omega arith
some_refusal AtWork = omega arith
some_refusal AtRest = omega arith
some_refusal HasEight = omega arith
some_refusal NotHeld = omega arith
some_refusal FewRows = omega arith
some_refusal AllBusy = omega arith
some_refusal OutsideStore = omega arith
some_refusal OutsidePage = omega arith
some_refusal HeldAlready = omega arith

-- the number that a result is refused by; 0: by none
abbrev pub refused_by : {A : Type 0} → Result A Refusal → ℕ
refused_by (Ok a) = 0
refused_by (Err r) = refusal_number r

abbrev pub stage_number : Stage → ℕ
stage_number LookUp = 1
stage_number PinFound = 2
stage_number RaiseFound = 3
stage_number TakeFrame = 4
stage_number ReadFree = 5
stage_number LowerFree = 6
stage_number ReadHand = 7
stage_number FillSlot = 8
stage_number MoveHand = 9
stage_number StartSweep = 10
stage_number LookAtSlot = 11
stage_number ReadPins = 12
stage_number LowerCount = 13
stage_number EvictVictim = 14
stage_number ReplaceVictim = 15
stage_number PassSlot = 16
stage_number RemoveEntry = 17
stage_number MapPage = 18
stage_number PinMapped = 19
stage_number GiveUpToJoin = 20
stage_number RaiseJoined = 21
stage_number MapAnew = 22
stage_number GiveUpToStartAnew = 23

-- no stage has this number
abbrev pub NoStage : ℕ → Type 0
NoStage n = (n ≡ 0) ⊎ (23 < n)

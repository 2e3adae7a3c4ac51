-- The worked cases P1 to P8 (SPECIFICATION, section 12), and more for mistakes that look right, as one table. A case is a setup, the calls that
-- lead up to it, and then line by line what is called and answered, and what the pool's numbers are. Assumes nothing.
use Rattle.std.specs.Prelude.{◌≡◌, Bool, true, false, List, [], ◌∷◌, ◌++◌, map, ℕ, zero, suc, ◌+◌, eqb, replicate}
use Prim.Native.Char.{code}
use Prim.Native.String.{String, [] as S[], ◌∷◌ as ◌S∷◌}
use Rattle.pool.specs.Choose.{choose}
use Rattle.pool.specs.State.{none, evicted, pinned, slot, pins, count, resting, client}
use Rattle.pool.specs.Table.{lookup, pages_in_table}
use Rattle.pool.specs.Moves.{wanting, standing, with_own, with_found, with_victim, with_seen, with_place, sweeping, completes}
use Rattle.pool.specs.Apply.{apply}
use Rattle.pool.specs.Valid.{valid}
use Rattle.pool.specs.Calls.{fresh, setup_of, caller, call_of, pool_after}
use Rattle.pool.specs.Tallies.{up, tallied}
use Rattle.pool.specs.Holdings.{rows_of, listed, holdings_of}
use Rattle.pool.specs.Schedule.{ran}
use Rattle.pool.specs.declared.Pool.{Pool}
use Rattle.pool.specs.declared.Client.{Client}
use Rattle.pool.specs.declared.Tally.{Tally}
use Rattle.pool.specs.declared.Row.{Row}
use Rattle.pool.specs.declared.Call.{Call}
use Rattle.pool.specs.declared.Call.TheVariants.{Begin, Step, Release}
use Rattle.pool.specs.declared.Counted.{Counted}
use Rattle.pool.specs.declared.Counted.TheVariants.{Nothing, Hit, Join, Admitted, Revived, Drop, Refusal}
use Rattle.pool.specs.declared.Answer.{Answer}
use Rattle.pool.specs.declared.Answer.TheVariants.{Done, Working, Granted, Refused}
use Rattle.pool.specs.declared.GrantChange.{GrantChange}
use Rattle.pool.specs.declared.GrantChange.TheVariants.{Same, Open}
use Rattle.pool.specs.declared.Write.{Write}
use Rattle.pool.specs.declared.Write.TheVariants.{Keep, PutSlot, PutPins, PutCount, TakeFrame, PutEntry, PutFree}

-- a line of a case: a call and its answer, or a number of the pool, as it is by then, and its value
infix 90 ◌gets◌ ◌is◌
pub data Line : Type 0 where
  ◌gets◌ : Call → Answer → Line
  ◌is◌ : (Pool → ℕ) → ℕ → Line

-- the numbers of a setup
pub record Setup : Type 0 where
  pub s : ℕ
  pub t : ℕ
  pub c : ℕ
  pub hand : ℕ

-- what an action counts, and by which stage
infix 90 ◌by◌
pub data Count : Type 0 where
  ◌by◌ : Counted → ℕ → Count

pub record Case : Type 0 where
  pub numbers : Setup
  -- the setup's answer
  pub accepted : Answer
  -- the calls that lead up to the case
  pub before : List Call
  -- how many of the case's own calls are steps up to the first answer to a request
  pub steps : ℕ
  -- what its own calls count, one after the other, and by which stage
  pub counted : List Count
  pub lines : List Line

-- ---- shorthands

abbrev pub setup : ℕ → ℕ → ℕ → ℕ → Setup
setup s t c hand = record { s = s; t = t; c = c; hand = hand }

-- a case whose setup is accepted
infix 10 ◌after◌takes◌counts◌shows◌
abbrev pub ◌after◌takes◌counts◌shows◌ : Setup → List Call → ℕ → List Count → List Line → Case
x after before takes steps counts counted shows lines =
    record { numbers = x; accepted = Done x.s; before = before; steps = steps; counted = counted; lines = lines }

-- ---- calls

abbrev pub steps : ℕ → ℕ → List Call
steps c zero = []
steps c (suc n) = Step c ∷ steps c n

-- a page is admitted to an empty slot that the hand points at; is had again; takes the only slot from a page without grants and of count 1; is refused, since
-- the only slot's page is held, and its request has taken a frame by then
abbrev pub admit : ℕ → List Call
admit g = Begin 0 g ∷ steps 0 8

abbrev pub admit_and_release : ℕ → List Call
admit_and_release g = admit g ++ Release 0 g ∷ []

abbrev pub hit_and_release : ℕ → List Call
hit_and_release g = Begin 0 g ∷ steps 0 3 ++ Release 0 g ∷ []

abbrev pub swap : ℕ → List Call
swap g = Begin 0 g ∷ steps 0 12

abbrev pub ask_in_vain : ℕ → List Call
ask_in_vain g = Begin 0 g ∷ steps 0 6

-- ---- calls with their answers

-- client c steps, and stands at these stages after it
abbrev pub goes : ℕ → List ℕ → List Line
goes c stages = map (λ i. Step c gets Working i) stages

-- it begins on a page, steps, and stands at these stages after it
abbrev pub begins : ℕ → ℕ → List ℕ → List Line
begins c g stages = Begin c g gets Done g ∷ goes c stages

-- a request from its begin to its answer
abbrev pub asks : ℕ → ℕ → List ℕ → Answer → List Line
asks c g stages a = begins c g stages ++ Step c gets a ∷ []

-- clients c and d step in turn, and stand at these stages after it
abbrev pub in_turn : ℕ → ℕ → List ℕ → List Line
in_turn c d [] = []
in_turn c d (i ∷ stages) = Step c gets Working i ∷ in_turn d c stages

-- the stages of a request that fills an empty slot; of one that sweeps, up to its first visit; of a visit that evicts and what follows it
abbrev pub fills : List ℕ
fills = 4 ∷ 5 ∷ 6 ∷ 7 ∷ 8 ∷ 9 ∷ 18 ∷ []

abbrev pub sweeps : List ℕ
sweeps = 4 ∷ 5 ∷ 10 ∷ 11 ∷ []

abbrev pub evicts : List ℕ
evicts = 12 ∷ 13 ∷ 14 ∷ 15 ∷ 16 ∷ 17 ∷ 18 ∷ []

-- ---- numbers of the pool: of a slot, a frame, a page or a client, as in `slot at 0`; and its own

infix 91 ◌at◌
abbrev pub ◌at◌ : (Pool → ℕ → ℕ) → ℕ → Pool → ℕ
◌at◌ number i p = number p i

abbrev pub own : Pool → ℕ → ℕ
own p c = (client p c).own

abbrev pub found : Pool → ℕ → ℕ
found p c = (client p c).found

abbrev pub victim : Pool → ℕ → ℕ
victim p c = (client p c).victim

abbrev pub place : Pool → ℕ → ℕ
place p c = (client p c).place

abbrev pub start : Pool → ℕ → ℕ
start p c = (client p c).start

abbrev pub busy : Pool → ℕ → ℕ
busy p c = (client p c).busy

abbrev pub held : Pool → ℕ → ℕ
held p c = (client p c).held

abbrev pub hand : Pool → ℕ
hand p = p.hand

abbrev pub free : Pool → ℕ
free p = p.free

-- ---- the table

-- The third frame is as at setup.
abbrev pub P1 : Case
P1 =
    setup 1 1 3 0 after [] takes 8 counts Admitted by 18 ∷ [] shows
    asks 0 9 fills (Granted 0) ++ Step 0 gets Refused 11 ∷ Release 0 9 gets Done 9
    ∷ slot at 0 is 0 ∷ free is 0 ∷ hand is 1 ∷ pins at 0 is pinned 0 ∷ lookup at 9 is 0
    ∷ pins at 2 is evicted ∷ count at 2 is 0 ∷ []

abbrev pub P2 : Case
P2 =
    setup 1 1 3 0 after admit_and_release 9 takes 3 counts Hit by 3 ∷ [] shows
    asks 0 9 (2 ∷ 3 ∷ []) (Granted 0) ++ count at 0 is 2 ∷ pins at 0 is pinned 1 ∷ []

abbrev pub P3 : Case
P3 =
    setup 1 1 3 0 after admit_and_release 9 takes 12 counts Drop by 17 ∷ Admitted by 18 ∷ [] shows
    asks 0 5 (sweeps ++ evicts) (Granted 1)
    ++ hand is 2 ∷ slot at 0 is 1 ∷ pins at 0 is evicted ∷ lookup at 9 is none ∷ lookup at 5 is 1 ∷ pages_in_table is 1 ∷ []

-- SPECIFICATION 3.9: the frame that the refused request took keeps what stage 4 gave it, and the next search starts after it.
abbrev pub P4 : Case
P4 =
    setup 1 1 3 0 after admit 9 takes 6 counts Refusal by 12 ∷ [] shows
    asks 0 5 (sweeps ++ 12 ∷ []) (Refused 15) ++ Step 0 gets Refused 11
    ∷ slot at 0 is 0 ∷ pins at 0 is pinned 1 ∷ lookup at 5 is none ∷ held at 0 is 1 ∷ own at 0 is none
    ∷ pins at 1 is pinned 1 ∷ count at 1 is 1 ∷ begins 0 5 (4 ∷ 5 ∷ []) ++ own at 0 is 2 ∷ []

abbrev pub P5 : Case
P5 =
    setup 2 2 3 0 after Begin 0 9 ∷ Begin 1 9 ∷ [] takes 15 counts Admitted by 18 ∷ Join by 21 ∷ [] shows
    in_turn 0 1 (4 ∷ 4 ∷ 5 ∷ 5 ∷ 6 ∷ 6 ∷ 7 ∷ 5 ∷ 8 ∷ 6 ∷ 9 ∷ 7 ∷ 18 ∷ 8 ∷ [])
    ++ Step 0 gets Granted 0 ∷ goes 1 (9 ∷ 18 ∷ 19 ∷ 20 ∷ 21 ∷ []) ++ own at 1 is none ∷ Step 1 gets Granted 0
    ∷ pins at 0 is pinned 2 ∷ count at 0 is 2 ∷ pins at 1 is evicted ∷ free is 0 ∷ slot at 1 is 1 ∷ []

-- Client 1's 17 drops page 5. Client 0's 17 drops nothing: page 9, which it evicted, was revived by then, and stays in the table.
abbrev pub P6 : Case
P6 =
    setup 2 2 3 0 after admit_and_release 9 ++ admit_and_release 5 ++ Begin 0 7 ∷ steps 0 10 takes 15 counts Drop by 17 ∷ Revived by 22 ∷ Admitted by 18 ∷ [] shows
    asks 1 9 (2 ∷ sweeps ++ evicts ++ 19 ∷ 22 ∷ []) (Granted 3) ++ goes 0 (18 ∷ []) ++ victim at 0 is none ∷ Step 0 gets Granted 2
    ∷ lookup at 9 is 3 ∷ lookup at 7 is 2 ∷ lookup at 5 is none ∷ pages_in_table is 2 ∷ slot at 0 is 2 ∷ slot at 1 is 3 ∷ []

abbrev pub P7a : Case
P7a =
    setup 3 1 3 4294967295 after [] takes 8 counts Admitted by 18 ∷ [] shows
    asks 0 9 fills (Granted 0) ++ Release 0 9 gets Done 9 ∷ slot at 0 is 0 ∷ slot at 1 is none ∷ slot at 2 is none ∷ hand is 0 ∷ []

abbrev pub P7b : Case
P7b =
    setup 3 1 3 4294967295 after admit_and_release 9 takes 9 counts Admitted by 18 ∷ [] shows
    asks 0 5 (4 ∷ 5 ∷ 6 ∷ 7 ∷ 8 ∷ 8 ∷ 9 ∷ 18 ∷ []) (Granted 1)
    ++ slot at 0 is 0 ∷ slot at 1 is 1 ∷ slot at 2 is none ∷ hand is 1 ∷ []

-- a setup, and a begin on what it returned
abbrev pub only_setup : Answer → Answer → Setup → Case
only_setup answer then x =
    record { numbers = x; accepted = answer; before = []; steps = 0; counted = []; lines = Begin 0 9 gets then ∷ [] }

abbrev pub P8 : List Case
P8 =
    only_setup (Done 64) (Done 9) (setup 64 16 100 0)
    ∷ map (only_setup (Refused 8) (Refused 8))
    (setup 0 16 100 0 ∷ setup 65 16 100 0 ∷ setup 64 0 100 0 ∷ setup 64 17 100 0 ∷ setup 64 16 0 0 ∷ setup 64 16 101 0 ∷ [])

-- ---- further cases, for mistakes that no P case shows: of one client

-- As P3 with a start of 4,294,967,295, which stage 16 has to reduce before it compares: the hand grows by 1, and goes to 0.
abbrev pub reduced_start : Case
reduced_start =
    setup 1 1 3 4294967294 after admit_and_release 9 takes 12 counts Drop by 17 ∷ Admitted by 18 ∷ [] shows
    asks 0 5 (sweeps ++ evicts) (Granted 1) ++ hand is 0 ∷ []

-- A sweep from hand 5, at slot 2, leaves a count above 0 there and passes on round the end to slot 0, which is below where it started: the hand
-- grows by 2. It forgets its victim where it passes on, and again at 17.
abbrev pub round_the_end : Case
round_the_end =
    setup 3 1 3 2 after admit_and_release 9 ++ hit_and_release 9 ++ admit_and_release 5 ++ admit_and_release 6 takes 15 counts Drop by 17 ∷ Admitted by 18 ∷ [] shows
    begins 0 7 (sweeps ++ 12 ∷ 13 ∷ 11 ∷ []) ++ victim at 0 is none ∷ goes 0 evicts ++ victim at 0 is none ∷ Step 0 gets Granted 3
    ∷ hand is 7 ∷ slot at 0 is 3 ∷ slot at 2 is 0 ∷ count at 0 is 1 ∷ lookup at 5 is none ∷ []

-- A count rises to C and stays there. A sweep lowers it by one each time that it comes round, passes on while it is above 0, and evicts then.
abbrev pub count_at_cap : Case
count_at_cap =
    setup 1 1 3 0 after admit_and_release 9 ++ hit_and_release 9 ++ hit_and_release 9 ++ hit_and_release 9 takes 18 counts Drop by 17 ∷ Admitted by 18 ∷ [] shows
    count at 0 is 3 ∷ begins 0 5 (sweeps ++ 12 ∷ 13 ∷ 11 ∷ []) ++ count at 0 is 2 ∷ goes 0 (12 ∷ 13 ∷ 11 ∷ []) ++ count at 0 is 1 ∷ goes 0 evicts
    ++ count at 0 is 0 ∷ Step 0 gets Granted 1 ∷ []

-- Refusal 15 comes at S busy visits and not before: two held slots, 4 + 2S steps.
abbrev pub two_held : Case
two_held =
    setup 2 1 3 0 after admit 9 ++ admit 5 takes 8 counts Refusal by 12 ∷ [] shows
    asks 0 7 (sweeps ++ 12 ∷ 11 ∷ 12 ∷ []) (Refused 15) ++ held at 0 is 2 ∷ pins at 0 is pinned 1 ∷ pins at 1 is pinned 1 ∷ []

-- The slots' pages are held, not held with count 2, held. The sweep passes the second on after one busy visit, and its run starts anew: two more
-- busy visits are no refusal, and the second slot is taken. A busy visit forgets the victim.
abbrev pub busy_run_reset : Case
busy_run_reset =
    setup 3 1 3 0 after admit 9 ++ admit_and_release 5 ++ hit_and_release 5 ++ admit 6 takes 21 counts Drop by 17 ∷ Admitted by 18 ∷ [] shows
    begins 0 7 (sweeps ++ 12 ∷ 11 ∷ []) ++ victim at 0 is none ∷ busy at 0 is 1 ∷ goes 0 (12 ∷ 13 ∷ 11 ∷ []) ++ busy at 0 is 0
    ∷ goes 0 (12 ∷ 11 ∷ 12 ∷ 11 ∷ []) ++ busy at 0 is 2 ∷ goes 0 evicts ++ Step 0 gets Granted 3 ∷ slot at 1 is 3 ∷ hand is 5 ∷ []

-- ---- and of two

-- Client 1 has read that a slot is free when client 0 claims the only one, and does not fill it yet. Client 1 reads again; its sweep meets the
-- empty slot, which is a busy visit.
abbrev pub claimed_slot : Case
claimed_slot =
    setup 1 2 3 0 after Begin 1 5 ∷ steps 1 3 ++ Begin 0 9 ∷ steps 0 4 takes 4 counts Refusal by 11 ∷ [] shows
    goes 1 (5 ∷ 10 ∷ 11 ∷ []) ++ Step 1 gets Refused 15 ∷ slot at 0 is none ∷ free is 0 ∷ own at 1 is none ∷ goes 0 (8 ∷ 9 ∷ 18 ∷ [])

-- A sweep of three slots from slot 2, which client 1 has claimed and not filled, over slot 0, whose page both clients hold, and slot 1, whose page
-- has one grant: an empty slot and each number of pins above 0 is one busy visit, and the third is refusal 15.
abbrev pub three_busy : Case
three_busy =
    setup 3 2 3 0 after admit 9 ++ Begin 1 9 ∷ steps 1 3 ++ admit 5 ++ Begin 1 6 ∷ steps 1 4 takes 9 counts Refusal by 12 ∷ [] shows
    begins 0 7 (sweeps ++ 11 ∷ []) ++ busy at 0 is 1 ∷ goes 0 (12 ∷ 11 ∷ []) ++ busy at 0 is 2 ∷ goes 0 (12 ∷ []) ++ Step 0 gets Refused 15 ∷ []

-- A client that holds a page cannot begin it once more; another can, and is granted the same frame. Whoever releases the page holds it no longer, may
-- begin it again, and leaves the other's grant.
abbrev pub scanned_twice : Case
scanned_twice =
    setup 1 2 3 0 after admit 9 takes 3 counts Hit by 3 ∷ [] shows
    Begin 0 9 gets Refused 18 ∷ asks 1 9 (2 ∷ 3 ∷ []) (Granted 0) ++ Begin 1 9 gets Refused 18 ∷ held at 0 is 1 ∷ pins at 0 is pinned 2
    ∷ Release 0 9 gets Done 9 ∷ Release 0 9 gets Refused 13 ∷ held at 0 is 0 ∷ held at 1 is 1 ∷ pins at 0 is pinned 1
    ∷ begins 0 9 (2 ∷ []) ++ Begin 1 9 gets Refused 18 ∷ Release 1 9 gets Done 9 ∷ pins at 0 is pinned 0 ∷ []

-- The eighth grant is given; a ninth begin is refused by 12, of a page that the client holds, too. At work it is refused by 10.
abbrev pub eight_grants : Case
eight_grants =
    setup 8 1 3 0 after admit 1 ++ admit 2 ++ admit 3 ++ admit 4 ++ admit 5 ++ admit 6 ++ admit 7 takes 8 counts Admitted by 18 ∷ [] shows
    Begin 0 1 gets Refused 18 ∷ asks 0 8 fills (Granted 7) ++ held at 0 is 8 ∷ Begin 0 9 gets Refused 12 ∷ Begin 0 1 gets Refused 12
    ∷ Release 0 5 gets Done 5 ∷ Begin 0 1 gets Refused 18 ∷ Begin 0 5 gets Done 5 ∷ Begin 0 1 gets Refused 10 ∷ []

-- Refusal 15 comes at S busy visits one after the other, wherever the sweep then stands: client 1 passes slot 0 on with a count above 0, meets
-- slot 1 held, and slot 0 held by then, too, halfway through its second lap.
abbrev pub mid_lap : Case
mid_lap =
    setup 2 2 3 0 after admit_and_release 9 ++ hit_and_release 9 ++ admit 5 ++ Begin 1 7 ∷ steps 1 4 takes 8 counts Hit by 3 ∷ Refusal by 12 ∷ [] shows
    goes 1 (12 ∷ 13 ∷ 11 ∷ 12 ∷ 11 ∷ []) ++ asks 0 9 (2 ∷ 3 ∷ []) (Granted 0) ++ goes 1 (12 ∷ []) ++ Step 1 gets Refused 15 ∷ []

-- Both clients have read slot 1 for their place. Client 1 fills it; client 0's place moves on round the end, to slot 0.
abbrev pub fill_round : Case
fill_round =
    setup 2 2 3 1 after Begin 0 9 ∷ steps 0 5 ++ Begin 1 5 ∷ steps 1 5 takes 3 counts [] shows
    goes 1 (9 ∷ []) ++ goes 0 (8 ∷ 9 ∷ []) ++ slot at 0 is 0 ∷ slot at 1 is 1 ∷ []

-- A frame that a stalled client still names is not taken again: client 1 stalls at 12 with own frame 1 and frame 0 for its victim. Frame 2 is
-- then in the slot, 3 and 4 were taken in vain; the next search starts at 0 and passes over 0, 1 and 2.
abbrev pub stalled_victim : Case
stalled_victim =
    setup 1 2 3 0 after admit_and_release 9 ++ Begin 1 5 ∷ steps 1 5 ++ swap 6 ++ ask_in_vain 7 ++ ask_in_vain 8 takes 2 counts [] shows
    begins 0 9 (4 ∷ 5 ∷ []) ++ own at 0 is 3 ∷ victim at 1 is 0 ∷ own at 1 is 1 ∷ []

-- The same with client 1 stalled at 2, where frame 0 is what it found. It meets the frame evicted, and forgets it.
abbrev pub stalled_found : Case
stalled_found =
    setup 1 2 3 0 after admit_and_release 9 ++ Begin 1 9 ∷ steps 1 1 ++ swap 5 ++ ask_in_vain 6 ++ ask_in_vain 7 ++ ask_in_vain 8
    takes 3 counts [] shows
    begins 0 3 (4 ∷ 5 ∷ []) ++ own at 0 is 2 ∷ goes 1 (4 ∷ []) ++ found at 1 is none ∷ pins at 0 is evicted ∷ []

-- Client 1 stands at 14 when client 0 has its victim's page again, which raises the count from 0: nothing is evicted, and client 1 passes on to the
-- next slot without its victim.
abbrev pub pinned_meanwhile : Case
pinned_meanwhile =
    setup 2 2 3 0 after admit_and_release 9 ++ admit_and_release 5 ++ Begin 1 7 ∷ steps 1 7 takes 3 counts Hit by 3 ∷ [] shows
    asks 0 9 (2 ∷ 3 ∷ []) (Granted 0) ++ goes 1 (11 ∷ [])
    ++ victim at 1 is none ∷ place at 1 is 1 ∷ pins at 0 is pinned 1 ∷ count at 0 is 1 ∷ busy at 1 is 0 ∷ []

-- Client 1 stands at 14 when client 0 evicts its victim: a count of 0 is low enough for 13. Client 1 does not take the slot of a frame that it has
-- not evicted, but passes on. At 16 it moves the hand by 2 from where client 0 left it, and not from where its own sweep started. Both pages are
-- evicted and still in the table: no drop yet.
abbrev pub evicted_meanwhile : Case
evicted_meanwhile =
    setup 2 2 3 0 after admit_and_release 9 ++ admit_and_release 5 ++ Begin 1 7 ∷ steps 1 7 takes 17 counts [] shows
    count at 0 is 0 ∷ begins 0 6 (sweeps ++ 12 ∷ 13 ∷ 14 ∷ 15 ∷ 16 ∷ 17 ∷ []) ++ hand is 3
    ∷ goes 1 (11 ∷ 12 ∷ 13 ∷ 14 ∷ 15 ∷ 16 ∷ 17 ∷ []) ++ hand is 5 ∷ slot at 1 is 2 ∷ pages_in_table is 2 ∷ []

-- Client 0 has evicted the frame in slot 0 and stands at 15. Client 1 meets the frame evicted and puts its own there, so that the drop is client 1's;
-- client 0 then finds another frame in the slot and passes on to the next.
abbrev pub swapped_meanwhile : Case
swapped_meanwhile =
    setup 2 2 3 0 after admit_and_release 9 ++ admit_and_release 5 ++ Begin 0 7 ∷ steps 0 8 takes 10 counts Drop by 17 ∷ Admitted by 18 ∷ [] shows
    asks 1 6 (sweeps ++ 12 ∷ 15 ∷ 16 ∷ 17 ∷ 18 ∷ []) (Granted 3) ++ goes 0 (11 ∷ []) ++ victim at 0 is none ∷ place at 0 is 1 ∷ slot at 0 is 3 ∷ []

-- As P6 up to client 1's 22, but client 0's removal comes first: page 9 is dropped, too, and no longer mapped to the frame that client 1 found. It
-- forgets that frame, gives its own up, which then is evicted, and takes another. Its second sweep starts from the hand as that is now.
abbrev pub found_removed : Case
found_removed =
    setup 2 2 3 0 after admit_and_release 9 ++ admit_and_release 5 ++ Begin 0 7 ∷ steps 0 10 takes 20 counts Drop by 17 ∷ Drop by 17 ∷ [] shows
    begins 1 9 (2 ∷ sweeps ++ evicts ++ 19 ∷ 22 ∷ []) ++ goes 0 (18 ∷ []) ++ goes 1 (23 ∷ []) ++ found at 1 is none ∷ own at 1 is 3
    ∷ goes 1 (4 ∷ []) ++ own at 1 is none ∷ pins at 3 is evicted ∷ goes 1 (5 ∷ []) ++ own at 1 is 4
    ∷ goes 1 (10 ∷ 11 ∷ []) ++ start at 1 is 4 ∷ place at 1 is 0 ∷ pages_in_table is 0 ∷ []

-- ---- index pages beside others

-- A sweep meets index page 3 first, and yet the other page goes; and so with the next sweep. The third takes page 3.
abbrev pub index_outlives : Case
index_outlives =
    setup 2 1 3 0 after admit_and_release 3 ++ admit_and_release 4 takes 15 counts
    Drop by 17 ∷ Admitted by 18 ∷ Drop by 17 ∷ Admitted by 18 ∷ Drop by 17 ∷ Admitted by 18 ∷ [] shows
    count at 0 is 3 ∷ count at 1 is 1 ∷ asks 0 5 (sweeps ++ 12 ∷ 13 ∷ 11 ∷ evicts) (Granted 2) ++ Release 0 5 gets Done 5 ∷ count at 0 is 2 ∷ lookup at 4 is none
    ∷ asks 0 6 (sweeps ++ 12 ∷ 13 ∷ 11 ∷ evicts) (Granted 3) ++ Release 0 6 gets Done 6 ∷ count at 0 is 1 ∷ lookup at 3 is 0 ∷ lookup at 5 is none
    ∷ asks 0 7 (sweeps ++ evicts) (Granted 1) ++ lookup at 3 is none ∷ lookup at 6 is 3 ∷ []

-- A hit raises the count of an index page by one, as that of any other: above 3 where the cap allows it, and from 1, to which a sweep has lowered it, to 2.
abbrev pub index_hit : Case
index_hit =
    setup 1 2 4 0 after admit_and_release 3 takes 3 counts Hit by 3 ∷ Hit by 3 ∷ [] shows
    asks 0 3 (2 ∷ 3 ∷ []) (Granted 0) ++ count at 0 is 4 ∷ Release 0 3 gets Done 3
    ∷ begins 0 5 (sweeps ++ 12 ∷ 13 ∷ 11 ∷ 12 ∷ 13 ∷ 11 ∷ 12 ∷ 13 ∷ 11 ∷ []) ++ count at 0 is 1
    ∷ asks 1 3 (2 ∷ 3 ∷ []) (Granted 0) ++ count at 0 is 2 ∷ []

-- With a cap of 2, page 4 was had again, so that both pages have the count 2, and client 0 evicts index page 3 on its second lap.
abbrev pub index_evicted : List Call
index_evicted = admit_and_release 3 ++ admit_and_release 4 ++ hit_and_release 4 ++ Begin 0 7 ∷ steps 0 16

-- Client 1 has taken a frame for page 3 when client 0's 17 removes the page. It goes from 23 to 4 and takes another, which has the first count again.
abbrev pub index_anew : Case
index_anew =
    setup 2 2 2 0 after index_evicted takes 18 counts Drop by 17 ∷ Drop by 17 ∷ [] shows
    begins 1 3 (2 ∷ 4 ∷ 5 ∷ []) ++ own at 1 is 3 ∷ count at 3 is 2 ∷ goes 1 (10 ∷ 11 ∷ evicts ++ 19 ∷ 22 ∷ []) ++ goes 0 (18 ∷ [])
    ++ goes 1 (23 ∷ 4 ∷ 5 ∷ []) ++ own at 1 is 4 ∷ count at 4 is 2 ∷ []

-- The same without that removal: page 3 is mapped to the frame at 22, whose count is the one that it had since 4.
abbrev pub index_revived : Case
index_revived =
    setup 2 2 2 0 after index_evicted takes 15 counts Drop by 17 ∷ Revived by 22 ∷ [] shows
    asks 1 3 (2 ∷ sweeps ++ evicts ++ 19 ∷ 22 ∷ []) (Granted 3) ++ count at 3 is 2 ∷ []

-- ---- what a case comes to

-- the lines with the answers and values that a pool gives, and what its calls count
pub record Played : Type 0 where
  pub lines : List Line
  pub counted : List Count

-- what a client counts at stage i, if anything, before what comes after it
unfoldable pub noted : ℕ → Counted → List Count → List Count
noted i Nothing rest = rest
noted i Hit rest = Hit by i ∷ rest
noted i Join rest = Join by i ∷ rest
noted i Admitted rest = Admitted by i ∷ rest
noted i Revived rest = Revived by i ∷ rest
noted i Drop rest = Drop by i ∷ rest
noted i Refusal rest = Refusal by i ∷ rest

unfoldable pub played : Pool → List Line → Played
played p [] = record { lines = []; counted = [] }
played p (call gets a ∷ lines) =
    let o = call_of p call in
    let rest = played o.pool lines in
    record { lines = call gets o.answer ∷ rest.lines; counted = noted (client p (caller call)).stage o.counted rest.counted }
played p (number is v ∷ lines) =
    let rest = played p lines in
    record { lines = number is number p ∷ rest.lines; counted = rest.counted }

-- 1 for a step, 0 for another call
unfoldable pub as_step : Call → ℕ
as_step (Begin c g) = 0
as_step (Step c) = 1
as_step (Release c g) = 0

-- whether an answer is one to a request: a grant or refusal 15
unfoldable pub answers_request : Answer → Bool
answers_request (Done n) = false
answers_request (Working n) = false
answers_request (Granted f) = true
answers_request (Refused n) = eqb n 15

unfoldable pub steps_to_answer : List Line → ℕ
steps_to_answer [] = 0
steps_to_answer (call gets a ∷ lines) = let rest = steps_to_answer lines in as_step call + choose (answers_request a) 0 rest
steps_to_answer (number is v ∷ lines) = steps_to_answer lines

-- the case with what the definitions give in place of what it says
unfoldable pub computed : Case → Case
computed x =
    let o = setup_of x.numbers.s x.numbers.t x.numbers.c x.numbers.hand in
    let r = played (pool_after o.pool x.before) x.lines in
    record { numbers = x.numbers; accepted = o.answer; before = x.before; steps = steps_to_answer r.lines; counted = r.counted; lines = r.lines }

abbrev pub Holds : Case → Type 0
Holds x = computed x ≡ x

-- ---- handed pools: as a setup leaves one of two slots, four frames, one client and count cap 3, but for a few numbers

-- another client, another grant of its, another number
abbrev pub handed_on : Pool → Client → GrantChange → Write → Pool
handed_on p k grants write = apply p 0 (completes 0 k grants write)

abbrev pub handed : Client → GrantChange → Write → Pool
handed k grants write = handed_on (fresh 2 1 3 0) k grants write

abbrev pub with_client : Client → Pool
with_client k = handed k Same Keep

abbrev pub with_write : Write → Pool
with_write write = handed (resting 0) Same write

-- a pool whose one client has these grants, the last one first, all of them on frame 0
abbrev pub holder : List ℕ → Pool
holder [] = fresh 2 1 3 0
holder (g ∷ earlier) = let p = holder earlier in let n = (client p 0).held in handed_on p (resting (n + 1)) (Open n g 0) Keep

-- a client that names frame f where its stage uses one: the own frame, the found one, the victim
abbrev pub naming : List (ℕ → Client)
naming =
    (λ f. standing (with_own (resting 0) f) 5)
    ∷ (λ f. standing (with_found (resting 0) f) 2)
    ∷ (λ f. standing (with_victim (with_own (resting 0) 0) f) 12)
    ∷ []

-- clients that name no frame there, and clients that name one that their stage has no use for
abbrev pub lacking : List Client
lacking = map (λ k. k none) naming

abbrev pub keeping : List Client
keeping = with_own (resting 0) 0 ∷ standing (with_found (resting 0) 0) 4 ∷ standing (with_victim (with_own (resting 0) 0) 1) 11 ∷ []

-- a number of a pool, and the largest that check 8 lets through
infix 90 ◌up_to◌
pub data Range : Type 0 where
  ◌up_to◌ : (ℕ → Pool) → ℕ → Range

-- eight different pages, falling but for the last
abbrev pub eight_pages : Pool
eight_pages = holder (8 ∷ 1 ∷ 2 ∷ 3 ∷ 4 ∷ 5 ∷ 6 ∷ 7 ∷ [])

-- The pool's own numbers; the client's; the frames that it names. In the last two the number is the place of a second entry, which may be that of the
-- first, and the page of a second grant, which may not be that of the first.
abbrev pub ranges : List Range
ranges =
    (λ n. with_write (PutFree n)) up_to 2
    ∷ (λ f. with_write (TakeFrame f 9 (pinned 1) 1)) up_to 3
    ∷ (λ f. with_write (PutSlot 1 f)) up_to 3
    ∷ (λ n. with_write (PutPins 3 (pinned n))) up_to 128
    ∷ (λ n. with_write (PutCount 3 n)) up_to 3
    ∷ (λ f. with_write (PutEntry 3 9 f)) up_to 3
    ∷ (λ n. with_client (standing (with_own (resting 0) 0) n)) up_to 23
    ∷ (λ i. with_client (with_place (resting 0) i)) up_to 1
    ∷ (λ n. with_client (sweeping (resting 0) 0 0 n)) up_to 1
    ∷ (λ n. with_client (with_seen (resting 0) n)) up_to 2
    ∷ (λ n. handed_on eight_pages (resting n) Same Keep) up_to 8
    ∷ (λ f. handed (resting 1) (Open 0 9 f) Keep) up_to 3
    ∷ (λ i. handed_on (with_write (PutEntry 0 9 0)) (resting 0) Same (PutEntry i 9 0)) up_to 0
    ∷ (λ g. holder (g ∷ 9 ∷ [])) up_to 8
    ∷ map (λ k. (λ f. with_client (k f)) up_to 3) naming

-- each range's pool at its limit, and one past it
abbrev pub at_limit : Range → Pool
at_limit (pool up_to n) = pool n

abbrev pub past_limit : Range → Pool
past_limit (pool up_to n) = pool (suc n)

abbrev pub sound : List Pool
sound = map at_limit ranges

abbrev pub broken : List Pool
broken = map past_limit ranges ++ map with_client (lacking ++ keeping)

abbrev pub Check8 : List Pool → Bool → Type 0
Check8 pools answer = map valid pools ≡ map (λ _. answer) pools

-- ---- calls on handed pools: one step each, from what no short run leads up to

pub record HandedCase : Type 0 where
  pub pool : Pool
  pub said : Played

infix 10 ◌counts◌plays◌ ◌plays◌
abbrev pub ◌counts◌plays◌ : Pool → List Count → List Line → HandedCase
p counts counted plays lines = record { pool = p; said = record { lines = lines; counted = counted } }

-- one that counts nothing
abbrev pub ◌plays◌ : Pool → List Line → HandedCase
p plays lines = p counts [] plays lines

-- what is said is what the pool gives
abbrev pub Plays : HandedCase → Type 0
Plays x = played x.pool x.said.lines ≡ x.said

-- A frame with 128 pins gets none more: stage 2's action would break a range, so the call is refused as 8 and changes nothing.
abbrev pub fully_pinned : HandedCase
fully_pinned =
    handed (standing (with_found (resting 0) 0) 2) Same (PutPins 0 (pinned 128)) plays
    Step 0 gets Refused 8 ∷ pins at 0 is pinned 128 ∷ found at 0 is 0 ∷ []

-- A working client holds the page that it wants, which check 8 lets through before the action. The grant would make it hold the page twice, so the
-- step is refused by 8 and changes nothing.
abbrev pub holds_wanted : HandedCase
holds_wanted =
    handed (standing (with_found (wanting (resting 1) 9) 0) 3) (Open 0 9 0) Keep plays
    Release 0 9 gets Refused 10 ∷ Step 0 gets Refused 8 ∷ held at 0 is 1 ∷ found at 0 is 0 ∷ []

-- Stage 20 evicts an own frame of one pin; one of two pins it only forgets.
abbrev pub own_pinned_twice : HandedCase
own_pinned_twice =
    handed (standing (with_found (with_own (resting 0) 0) 1) 20) Same (PutPins 0 (pinned 2)) plays
    Step 0 gets Working 21 ∷ pins at 0 is pinned 2 ∷ own at 0 is none ∷ []

-- SPECIFICATION 4.31: where the count cap is C, frame 0 is taken for page g and has the count n then, though it had the count C.
abbrev pub taken_for : ℕ → ℕ → ℕ → HandedCase
taken_for g c n =
    handed_on (fresh 2 1 c 0) (standing (wanting (resting 0) g) 4) Same (PutCount 0 c) plays
    Step 0 gets Working 5 ∷ own at 0 is 0 ∷ count at 0 is n ∷ []

-- The search starts after frame 2, at 3, which slot 0 names, and goes round the end to 0.
abbrev pub searched_round : HandedCase
searched_round =
    handed_on (with_write (TakeFrame 2 9 evicted 0)) (standing (resting 0) 4) Same (PutSlot 0 3) plays
    Step 0 gets Working 5 ∷ own at 0 is 0 ∷ []

-- Stage 21 raises a count by one, as stage 3 does.
abbrev pub join_raises : HandedCase
join_raises =
    handed (standing (with_found (resting 0) 0) 21) Same (PutCount 0 2) counts Join by 21 ∷ [] plays Step 0 gets Granted 0 ∷ count at 0 is 3 ∷ []

-- 14 evicts the frame that page 0 is mapped to. The page stays in the table, and nothing is counted.
abbrev pub only_evicted : HandedCase
only_evicted =
    handed_on (with_write (PutEntry 0 0 1)) (standing (with_victim (with_own (resting 0) 0) 1) 14) Same (PutPins 1 (pinned 0)) plays
    Step 0 gets Working 15 ∷ pins at 1 is evicted ∷ lookup at 0 is 1 ∷ pages_in_table is 1 ∷ []

-- 17 removes the page, which is a drop.
abbrev pub dropped : HandedCase
dropped =
    handed (standing (with_victim (with_own (resting 0) 0) 1) 17) Same (PutEntry 0 0 1) counts Drop by 17 ∷ [] plays
    Step 0 gets Working 18 ∷ lookup at 0 is none ∷ pages_in_table is 0 ∷ []

-- The page is mapped to a third frame, neither the client's own nor the one it found or evicted: 22 does not replace that, and 17 does not remove
-- it, though its frame is evicted, and counts no drop.
abbrev pub not_replaced : HandedCase
not_replaced =
    handed (standing (with_found (with_own (resting 0) 0) 1) 22) Same (PutEntry 0 0 2) plays Step 0 gets Working 23 ∷ lookup at 0 is 2 ∷ []

abbrev pub not_removed : HandedCase
not_removed =
    handed (standing (with_victim (with_own (resting 0) 0) 1) 17) Same (PutEntry 0 0 2) plays
    Step 0 gets Working 18 ∷ lookup at 0 is 2 ∷ pages_in_table is 1 ∷ []

-- ---- holdings

abbrev pub row_of : ℕ → ℕ → Row
row_of g times = record { page = g; times = times }

-- n rows that no client has
abbrev pub filler : ℕ → List Row
filler n = replicate n (row_of 77 7)

-- the largest of all page numbers, 0 and 7, in this order; and their rows
abbrev pub out_of_order : Pool
out_of_order = holder (7 ∷ 0 ∷ 4294967295 ∷ [])

abbrev pub risen : List Row
risen = row_of 0 1 ∷ row_of 7 1 ∷ row_of 4294967295 1 ∷ []

-- a grant on a frame that the pool does not have; a page with two grants
abbrev pub broken_holder : Pool
broken_holder = handed (resting 1) (Open 0 9 4) Keep

abbrev pub twice_holder : Pool
twice_holder = holder (7 ∷ 0 ∷ 7 ∷ [])

-- client c's holdings on a list: the answer, and the list then
abbrev pub Lists : Pool → ℕ → List Row → Answer → List Row → Type 0
Lists p c lent answer left = holdings_of p c lent ≡ listed answer left

-- ---- the tally: each kind raises its own number by one, and no other

abbrev pub tally : ℕ → ℕ → ℕ → ℕ → ℕ → ℕ → Tally
tally h j a v d r = record { hits = h; joins = j; admitted = a; revived = v; drops = d; refused = r }

abbrev pub kinds : List Counted
kinds = Nothing ∷ Hit ∷ Join ∷ Admitted ∷ Revived ∷ Drop ∷ Refusal ∷ []

abbrev pub raised_by_kind : List Tally
raised_by_kind =
    tally 10 20 30 40 50 60 ∷ tally 11 20 30 40 50 60 ∷ tally 10 21 30 40 50 60 ∷ tally 10 20 31 40 50 60
    ∷ tally 10 20 30 41 50 60 ∷ tally 10 20 30 40 51 60 ∷ tally 10 20 30 40 50 61 ∷ []

-- ---- P1 once more, as a file and its report

-- the codes of a text's characters
abbrev pub codes : String → List ℕ
codes S[] = []
codes (c S∷ s) = code c ∷ codes s

-- a record of client 0, with a page below 256
abbrev pub record8 : ℕ → ℕ → List ℕ
record8 kind g = 0x46 ∷ 0x43 ∷ kind ∷ 0 ∷ g ∷ 0 ∷ 0 ∷ 0 ∷ []

abbrev pub step_records : ℕ → List ℕ
step_records zero = []
step_records (suc n) = record8 2 0 ++ step_records n

-- SPECIFICATION 10.6: the example and its report
abbrev pub file : List ℕ
file = 0x46 ∷ 0x43 ∷ 0 ∷ 1 ∷ 1 ∷ 3 ∷ 0 ∷ 0 ∷ 0 ∷ 0 ∷ record8 1 9 ++ step_records 9 ++ record8 3 9

abbrev pub listing : String
listing = "0 0 0 1\n1 0 0 9\n2 0 1 4\n3 0 1 5\n4 0 1 6\n5 0 1 7\n6 0 1 8\n7 0 1 9\n8 0 1 18\n9 0 2 0\n10 0 111 0\n11 0 0 9\n"

-- What is proved of the table: each case holds; check 8 passes the sound pools and no broken one; calls on handed pools answer and count as said; holdings
-- lists rows in page order, or leaves the list as it was; each kind raises its own number of a tally, which stays at its largest value; and the
-- file's run of 12 records has the listing for its report.
pub record Proved : Type 0 where
  pub published : Holds P1 × Holds P2 × Holds P3 × Holds P4 × Holds P5 × Holds P6 × Holds P7a × Holds P7b × (map computed P8 ≡ P8)
  pub of_one : Holds reduced_start × Holds round_the_end × Holds count_at_cap × Holds two_held × Holds busy_run_reset
  pub one_each : Holds scanned_twice × Holds eight_grants
  pub refused_of_two : Holds claimed_slot × Holds three_busy × Holds mid_lap
  pub stalled : Holds fill_round × Holds stalled_victim × Holds stalled_found
  pub meanwhile : Holds pinned_meanwhile × Holds evicted_meanwhile × Holds swapped_meanwhile × Holds found_removed
  pub index_pages : Holds index_outlives × Holds index_hit × Holds index_anew × Holds index_revived
  pub first_counts :
      Plays (taken_for 3 1 1) × Plays (taken_for 3 2 2) × Plays (taken_for 3 3 3) × Plays (taken_for 3 100 3) × Plays (taken_for 0 100 3)
      × Plays (taken_for 1 100 3) × Plays (taken_for 2 100 3) × Plays (taken_for 4 1 1) × Plays (taken_for 4 100 1) × Plays (taken_for 4294967295 100 1)
  pub check8 : Check8 sound true × Check8 broken false
  pub handed_calls :
      Plays fully_pinned × Plays holds_wanted × Plays own_pinned_twice × Plays searched_round × Plays join_raises × Plays only_evicted × Plays dropped
      × Plays not_replaced × Plays not_removed
  pub in_page_order :
      Lists out_of_order 0 (filler 4) (Done 3) (risen ++ filler 1) × Lists out_of_order 0 (filler 3) (Done 3) risen
      × Lists eight_pages 0 (filler 8) (Done 8) (map (λ g. row_of g 1) (1 ∷ 2 ∷ 3 ∷ 4 ∷ 5 ∷ 6 ∷ 7 ∷ 8 ∷ [])) × Lists (holder []) 0 [] (Done 0) []
  pub list_kept :
      Lists out_of_order 0 (filler 2) (Refused 14) (filler 2) × Lists out_of_order 1 (filler 2) (Refused 9) (filler 2)
      × Lists broken_holder 0 [] (Refused 8) [] × Lists broken_holder 1 (filler 2) (Refused 8) (filler 2)
      × Lists twice_holder 0 (filler 3) (Refused 8) (filler 3)
  -- holdings in place, which make no check 8, list a page once all the same
  pub once : rows_of twice_holder 0 ≡ row_of 0 1 ∷ row_of 7 1 ∷ []
  pub raises : map (λ k. tallied k (tally 10 20 30 40 50 60)) kinds ≡ raised_by_kind
  pub largest : (up 4294967294 ≡ 4294967295) × (up 4294967295 ≡ 4294967295)
  pub report : ran file 49152 ≡ record { records = 12; refusal = 0; lines = codes listing }

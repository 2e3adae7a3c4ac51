-- After a request that no check turned down every page number is inside the store again, and without a store no mark is on. Of every state, whatever the
-- lengths of its lists: past a list's end a page number reads 0, which is inside every store, and a client reads as one at rest. Assumes nothing.
use mathlib.Core.Path.{◌≡◌, refl, sym, ap, subst, ◌∙◌}
use mathlib.Core.Logic.{◌≢◌}
use mathlib.Core.Bool.{Bool, true, false, not}
use mathlib.Core.List.{List, [], ◌∷◌}
use Prim.Native.Nat.{ℕ, zero, suc, ◌+◌, ◌-◌, ◌*◌, ◌≤◌, ◌<◌}
use native.Mathlib.Omega.{arith}
use native.Mathlib.Decide.{ℕ_discrete}
use lib.Dec.{T, eqb}
use lib.ListN.{get_or, set}
use borrow.Author.Tests.{lt-ltb, ltb-true}
use Rattle.pool.specs.Limits.{max_held}
use Rattle.pool.specs.Choose.{choose}
use Rattle.pool.specs.State.{none, no_client, resting, number_of_clients, total, within, grant_place, page, entry_page, entry_frame, client, grant_page}
use Rattle.pool.specs.Grants.{grant_of}
use Rattle.pool.specs.Apply.{stored, pages_after, entry_pages_after, entry_frames_after, grant_pages_after, apply}
use Rattle.pool.specs.Valid.{valid}
use Rattle.pool.specs.Calls.{caller, refusal, release_move, move_of}
use Rattle.pool.specs.declared.Pool.{Pool}
use Rattle.pool.specs.declared.Client.{Client}
use Rattle.pool.specs.declared.Move.{Move}
use Rattle.pool.specs.declared.Call.{Call}
use Rattle.pool.specs.declared.Call.TheVariants.{Begin, Step, Release}
use Rattle.pool.specs.declared.GrantChange.TheVariants.{Same, Open, End}
use Rattle.pool.specs.declared.Write.{Write}
use Rattle.pool.specs.declared.Write.TheVariants.{Keep, PutSlot, PutPins, PutCount, TakeFrame, PutEntry, PutHand, PutFree}
use Rattle.laws.specs.Choices.{by_test, chosen, passed as past}
use Rattle.laws.specs.Scans.{both_first}
use Rattle.laws.specs.Elements.{grant_element}
use Rattle.ranges.specs.Ranges.{ranged}
use Rattle.invariant.proofs.After.{EntryPagesStay, EntryFramesStay, entry_in, client_other, entry_page_kept, entry_frame_kept, entry_page_else, entry_frame_else}
use Rattle.invariant.proofs.Searches.{grant_of_found}
use Rattle.invariant.proofs.Allowed.{allowed, may_step, may_release}
use Rattle.guarantee.proofs.TurnedDown.{same_answer, same_pool, turned, one_move, turned_or_move, turned_down_not_15}
use Rattle.memory.specs.Memory.{is_frame, mark, is_filled, is_changed, unmarked, moved, memory_after}
use Rattle.memory.specs.Requests.{Request, Asks, ReadByte, WriteByte, State, Result, bytes_ok, outside_at, refusal_on, write_of, action_on}
use Rattle.memory.specs.Requests.{call_on}
use Rattle.memory.specs.declared.Memory.{Memory}
use Rattle.contents.proofs.Frames.{Off, none_off}
use Rattle.contents.proofs.Kept.{Inside, PagesInside}
use Rattle.contents.proofs.Ways.{apart}
use Rattle.contents.proofs.Passed.{outside_begin, asks_passed, read_holds, write_holds, call_acts}
use Rattle.mixed.specs.Mixed.{IsByte, ClaimInsideAfter}
use Rattle.mixed.proofs.Passes.{bytes_from, Passed, passed, zero_inside}
use Rattle.mixed.proofs.Calls.{byte_leaves, same_length}
use Rattle.mixed.proofs.Answers.{turned_down_on}
use Rattle.mixed.proofs.StageWrites.{Puts, refuses, keeps, takes, removes, admits, remaps, Grants, stay, opens, stage_does}

-- ---- an element of a list with one replaced

module _ {A : Type 0} (P : A → Type 0) where
  set_keeps : (l : List A) (i j : ℕ) (v d : A) → P v → P (get_or l j d) → P (get_or (set l i v) j d)
  set_keeps [] i j v d new old = old
  set_keeps (x ∷ xs) zero zero v d new old = new
  set_keeps (x ∷ xs) zero (suc j) v d new old = old
  set_keeps (x ∷ xs) (suc i) zero v d new old = old
  set_keeps (x ∷ xs) (suc i) (suc j) v d new old = set_keeps xs i j v d new old

  set_at : (l : List A) (i : ℕ) (v d : A) → P v → P d → P (get_or (set l i v) i d)
  set_at [] i v d new past = past
  set_at (x ∷ xs) zero v d new past = new
  set_at (x ∷ xs) (suc i) v d new past = set_at xs i v d new past

module _ (P : ℕ → Type 0) (l : List ℕ) (n i v : ℕ) where
  stored_keeps : (j : ℕ) → P v → P (get_or l j 0) → P (get_or (stored l n i v) j 0)
  unfolding stored
  stored_keeps j new old = by_test (λ (y : List ℕ). P (get_or y j 0)) (λ _. set_keeps P l i j v 0 new old) (λ _. old)

  stored_at : i < n → P v → P 0 → P (get_or (stored l n i v) i 0)
  unfolding stored
  stored_at h new none_there = rw (chosen _ (set l i v) l (lt-ltb i n h)) (set_at P l i v 0 new none_there)

  within_keeps : (d j : ℕ) → P v → P (within l n d j) → P (within (stored l n i v) n d j)
  unfolding within
  within_keeps d j new old =
      by_test P (λ t. stored_keeps j new (subst P (chosen _ _ _ t) old)) (λ t. subst P (past _ _ _ t) old)

  within_at : P v → P 0 → P (within (stored l n i v) n 0 i)
  unfolding within
  within_at new none_there = by_test P (λ t. stored_at (ltb-true _ _ t) new none_there) (λ _. none_there)

-- ---- page numbers

-- the page number that a write brings is inside
unfoldable PageIn : ℕ → Write → Type 0
PageIn n Keep = Unit {0}
PageIn n (PutSlot i f) = Unit {0}
PageIn n (PutPins f x) = Unit {0}
PageIn n (PutCount f x) = Unit {0}
PageIn n (TakeFrame f g x y) = Inside n g
PageIn n (PutEntry i g f) = Inside n g
PageIn n (PutHand h) = Unit {0}
PageIn n (PutFree x) = Unit {0}

apart_in : (n : ℕ) (w : Write) → T (apart w) → PageIn n w
unfolding apart PageIn
apart_in n Keep t = tt
apart_in n (PutSlot i f) t = tt
apart_in n (PutPins f x) t = tt
apart_in n (PutCount f x) t = tt
apart_in n (TakeFrame f g x y) t = absurd t
apart_in n (PutEntry i g f) t = absurd t
apart_in n (PutHand h) t = tt
apart_in n (PutFree x) t = tt

module _ (n : ℕ) (p : Pool) (i : PagesInside n p) (c : ℕ) where
  abbrev k : Client
  k = client p c

  data Changes (m : Move) : Type 0 where
    same : m.grants ≡ Same → m.next.held ≡ k.held → Changes m
    more : (g f : ℕ) → m.grants ≡ Open k.held g f → Inside n g → m.next.held ≡ k.held + 1 → k.held < max_held → Changes m
    less : (j last : ℕ) → m.grants ≡ End j last → last < k.held → m.next.held ≤ k.held → Changes m

  -- what a move brings is inside
  record Brings (m : Move) : Type 0 where
    wants : m.next.stage ≢ 0 → Inside n m.next.page
    write : PageIn n m.write
    grants : Changes m

  module _ (m : Move) (here : c < number_of_clients p) (b : Brings m) where
    abbrev q : Pool
    q = apply p c m

    frames_after : (f : ℕ) → Inside n (page q f)
    unfolding page apply pages_after PageIn
    frames_after f = go m.write b.write (i.frames f)
      where
        go : (w : Write) → PageIn n w → Inside n (within p.pages (total p) 0 f) → Inside n (within (pages_after (total p) p.pages w) (total p) 0 f)
        go Keep e old = old
        go (PutSlot j h) e old = old
        go (PutPins h x) e old = old
        go (PutCount h x) e old = old
        go (TakeFrame h g x y) e old = within_keeps (Inside n) p.pages (total p) h g 0 f e old
        go (PutEntry j g h) e old = old
        go (PutHand h) e old = old
        go (PutFree x) e old = old

    -- the page that an entry was put for
    put_page : (j g f : ℕ) → m.write ≡ PutEntry j g f → Inside n g → Inside n (entry_page q j)
    unfolding entry_page apply entry_pages_after
    put_page j g f e new = rw e (within_at (Inside n) p.table_pages (total p) j g new (zero_inside n))

    entries_after : (j : ℕ) → entry_frame q j ≢ none → Inside n (entry_page q j)
    unfolding entry_pages_after entry_frames_after PageIn
    entries_after j z = go m.write refl b.write
      where
        kept : EntryPagesStay p m.write → EntryFramesStay p m.write → Inside n (entry_page q j)
        kept u v = rw (entry_page_kept p c m u j) (i.entries j (λ o. z (entry_frame_kept p c m v j ∙ o)))

        go : (w : Write) → m.write ≡ w → PageIn n w → Inside n (entry_page q j)
        go Keep e _ = kept (rw e refl) (rw e refl)
        go (PutSlot h f) e _ = kept (rw e refl) (rw e refl)
        go (PutPins h x) e _ = kept (rw e refl) (rw e refl)
        go (PutCount h x) e _ = kept (rw e refl) (rw e refl)
        go (TakeFrame h g x y) e _ = kept (rw e refl) (rw e refl)
        go (PutEntry h g f) e new =
            elim (ℕ_discrete j h) [
              | yes w ↦ rw w (put_page h g f e new)
              | no w ↦
                  rw (entry_page_else p c m h g (rw e refl) j w) (i.entries j (λ o. z (entry_frame_else p c m h f (rw e refl) j w ∙ o)))
            ]
        go (PutHand h) e _ = kept (rw e refl) (rw e refl)
        go (PutFree x) e _ = kept (rw e refl) (rw e refl)

    -- the client's own record, wherever it is read
    client_at : (P : Client → Type 0) → P m.next → P no_client → P (resting 0) → P (client q c)
    unfolding client apply
    client_at P next missing rest = by_test P (λ _. set_at P p.clients c m.next no_client next missing) (λ _. rest)

    wanted_after : (d : ℕ) → (client q d).stage ≢ 0 → Inside n (client q d).page
    wanted_after d =
        elim (ℕ_discrete d c) [
          | yes e ↦
              rw e (client_at (λ a. a.stage ≢ 0 → Inside n a.page) b.wants (λ z. absurd (z refl)) (λ z. absurd (z refl)))
          | no z ↦ rw (client_other p c m d z) (i.wanted d)
        ]

    -- ---- grants

    abbrev places : ℕ
    places = max_held * number_of_clients p

    abbrev after : List ℕ
    after = grant_pages_after places c p.grant_pages m.grants

    old : (d j : ℕ) → j < (client p d).held → Inside n (get_or p.grant_pages (grant_place d j) 0)
    unfolding grant_page
    old d j l = rw (grant_element p.grant_pages d (client p d).held 0 j l) at (i.grants d j l)

    -- a place that held a page inside does so after
    place_after : (a : ℕ) → Inside n (get_or p.grant_pages a 0) → Inside n (get_or after a 0)
    unfolding grant_pages_after within
    place_after a was =
        elim b.grants [
          | same e _ ↦ rw e was
          | more g f e new _ _ ↦ rw e (stored_keeps (Inside n) p.grant_pages places _ g a new was)
          | less j last e l _ ↦
              rw e (stored_keeps (Inside n) p.grant_pages places _ _ a
              (by_test (Inside n) (λ _. old c last l) (λ _. zero_inside n)) was)
        ]

    own_after : (j : ℕ) → j < m.next.held → Inside n (get_or after (grant_place c j) 0)
    unfolding grant_pages_after
    own_after j l =
        elim b.grants [
          | same _ h ↦ place_after _ (old c j (omega arith))
          | less _ _ _ _ h ↦ place_after _ (old c j (omega arith))
          | more g f e new h low ↦
              elim (ℕ_discrete j k.held) [
                | no z ↦ place_after _ (old c j (omega arith))
                | yes w ↦ rw (e, w) (stored_at (Inside n) p.grant_pages places (grant_place c k.held) g (omega arith) new (zero_inside n))
              ]
        ]

    grant_read : (d j : ℕ) → j < (client q d).held → Inside n (get_or after (grant_place d j) 0) → Inside n (grant_page q d j)
    unfolding grant_page apply
    grant_read d j l v = rw (grant_element after d (client q d).held 0 j l) v

    grants_after : (d j : ℕ) → j < (client q d).held → Inside n (grant_page q d j)
    grants_after d j l = go d l (ℕ_discrete d c)
      where
        go : (d : ℕ) → j < (client q d).held → Dec (d ≡ c) → Inside n (grant_page q d j)
        go d l (no z) = grant_read d j l (place_after _ (old d j (subst (λ (a : Client). j < a.held) (client_other p c m d z) l)))
        go d l (yes e) =
            grant_read d j l (rw e (client_at (λ a. j < a.held → Inside n (get_or after (grant_place c j) 0)) (own_after j)
            (λ w. absurd (let y : ⊥ = omega arith in y)) (λ w. absurd (let y : ⊥ = omega arith in y))
            (subst (λ (d : ℕ). j < (client q d).held) e l)))

    pages_after_lem : PagesInside n q
    pages_after_lem = record { frames = frames_after; entries = entries_after; wanted = wanted_after; grants = grants_after }

-- ---- what each call brings

puts_in : (n : ℕ) (p : Pool) → PagesInside n p → (k : Client) → Inside n k.page → (m : Move) → Puts p k m → PageIn n m.write
unfolding PageIn
puts_in n p i k w m (refuses _ e) = rw e tt
puts_in n p i k w m (keeps t _) = apart_in n m.write t
puts_in n p i k w m (takes _ e) = rw e w
puts_in n p i k w m (removes _ _ e) = rw e (i.frames k.victim)
puts_in n p i k w m (admits _ _ _ e) = rw e w
puts_in n p i k w m (remaps _ _ e) = rw e w

grants_in : (n : ℕ) (p : Pool) (i : PagesInside n p) (c : ℕ) → Inside n (client p c).page → (m : Move) → Grants p (client p c) m → Changes n p i c m
grants_in n p i c w m (stay e h) = same e h
grants_in n p i c w m (opens f e h l) = more (client p c).page f e w h l

step_brings : (n : ℕ) (p : Pool) (i : PagesInside n p) (c : ℕ) → (client p c).stage ≢ 0 → Brings n p i c (move_of p (Step c))
unfolding move_of
step_brings n p i c z =
    let w = i.wanted c z in
    let d = stage_does p (client p c) in
    record { wants = λ y. rw (d.wants y) w; write = puts_in n p i (client p c) w _ d.puts; grants = grants_in n p i c w _ d.grants }

release_brings : (n : ℕ) (p : Pool) (i : PagesInside n p) (c g : ℕ) → grant_of p c g < (client p c).held → Brings n p i c (move_of p (Release c g))
unfolding move_of release_move PageIn
release_brings n p i c g l =
    by_test (Brings n p i c) (λ _. record { wants = i.wanted c; write = tt; grants = same refl refl })
    (λ _. record { wants = i.wanted c; write = tt; grants = less (grant_of p c g) ((client p c).held - 1) refl (omega arith) (omega arith) })

begin_brings : (n : ℕ) (p : Pool) (i : PagesInside n p) (c g : ℕ) → Inside n g → Brings n p i c (move_of p (Begin c g))
unfolding move_of PageIn
begin_brings n p i c g w = record { wants = λ _. w; write = tt; grants = same refl refl }

brings : (n : ℕ) (p : Pool) (i : PagesInside n p) (call : Call) → refusal p call ≡ 0 → outside_at n call ≡ 0 → Brings n p i (caller call) (move_of p call)
unfolding caller
brings n p i (Begin c g) e o = begin_brings n p i c g (outside_begin n c g o)
brings n p i (Step c) e o = step_brings n p i c (may_step p (client p c) c (allowed p (Step c) e).may)
brings n p i (Release c g) e o =
    release_brings n p i c g (grant_of_found p c g (may_release p (client p c) c g (allowed p (Release c g) e).may).1).0

-- ---- marks

-- a byte that is no mark
abbrev NoMark : ℕ → Type 0
NoMark v = not (eqb v 0) ≡ false

mark_stays : (l : List ℕ) (j f v : ℕ) → NoMark v → mark l f ≡ false → mark (set l j v) f ≡ false
unfolding mark choose
mark_stays l j f v new old = go (is_frame f) old
  where
    go : (t : Bool) → choose t (not (eqb (get_or l f 0) 0)) false ≡ false → choose t (not (eqb (get_or (set l j v) f 0) 0)) false ≡ false
    go true e = set_keeps NoMark l j f v 0 new e
    go false e = refl

-- the byte of frame e, which has no mark, moves to h
mark_moves : (l : List ℕ) (e h f : ℕ) → is_frame e ≡ true → mark l e ≡ false → mark l f ≡ false → mark (set (set l e 0) h (get_or l e 0)) f ≡ false
unfolding mark
mark_moves l e h f t from old = mark_stays (set l e 0) h f (get_or l e 0) (sym (chosen _ _ _ t) ∙ from) (mark_stays l e f 0 refl old)

module _ (p : Pool) (m : Memory) (ok : valid p ≡ true) (off : (f : ℕ) → f < total p → Off m f) where
  -- the frame that an entry names, if it names one
  entry_off : (i : ℕ) → Off m (entry_frame p i)
  entry_off i =
      elim (ℕ_discrete (entry_frame p i) none) [
        | yes e ↦ rw e (none_off m)
        | no z ↦ off (entry_frame p i) ((ranged p ok).entry i (entry_in p i z) z)
      ]

  unmarked_off : (h f : ℕ) → Off m f → Off (unmarked m h) f
  unfolding unmarked is_filled is_changed
  unmarked_off h f o =
      by_test (λ (y : Memory). Off y f)
      (λ _. record { filled = mark_stays m.filled h f 0 refl o.filled; changed = mark_stays m.changed h f 0 refl o.changed })
      (λ _. o)

  moved_off : (e h f : ℕ) → Off m e → Off m f → Off (moved m e h) f
  unfolding moved is_filled is_changed
  moved_off e h f from o =
      by_test (λ (y : Memory). Off y f)
      (λ t. let frame = both_first _ _ t in record {
        filled = mark_moves m.filled e h f frame from.filled o.filled;
        changed = mark_moves m.changed e h f frame from.changed o.changed;
      })
      (λ _. o)

  marks_after : (w : Write) (f : ℕ) → f < total p → Off (memory_after p m w) f
  unfolding memory_after
  marks_after Keep f l = off f l
  marks_after (PutSlot i h) f l = off f l
  marks_after (PutPins h x) f l = off f l
  marks_after (PutCount h x) f l = off f l
  marks_after (TakeFrame h g x y) f l = unmarked_off h f (off f l)
  marks_after (PutEntry i g h) f l = moved_off (entry_frame p i) h f (entry_off i) (off f l)
  marks_after (PutHand h) f l = off f l
  marks_after (PutFree x) f l = off f l

-- ---- the claim

module _ (x : State) where
  abbrev n : ℕ
  n = x.memory.pages

  -- a state with as many pages in its store
  again : (q : Pool) (m : Memory) → Passed x → m.pages ≡ n → PagesInside n q → (n ≡ 0 → (f : ℕ) → f < total q → Off m f)
      → bytes_ok q m ≡ true
  again q m a e i off = bytes_from q m (rw e a.few) (rw e i) (λ z. off (sym e ∙ z))

  after_ask : (call : Call) → refusal_on x (Asks call) ≡ 0 → bytes_ok (call_on x (Asks call)).state.pool (call_on x (Asks call)).state.memory ≡ true
  unfolding action_on apply
  after_ask call ok =
      let a = passed x (Asks call) ok in
      let acts = call_acts x (Asks call) ok in
      let o = asks_passed x call ok in
      elim (turned_or_move x.pool call) [
        | turned j w e ↦
            let stays = (turned_down_on x (Asks call) j (ap (λ (y : Result). y.answer) acts ∙ same_answer e) (turned_down_not_15 x.pool call j w)).0 in
            rw stays (again x.pool x.memory a refl a.inside a.unmarked)
        | one_move _ _ e ↦
            rw (ap (λ (y : Result). y.state.pool) acts ∙ same_pool e)
            (again (apply x.pool (caller call) (move_of x.pool call)) _ a (same_length x (Asks call)).0
            (pages_after_lem n x.pool a.inside (caller call) (move_of x.pool call) (allowed x.pool call o.0).here
            (brings n x.pool a.inside call o.0 o.1))
            (λ z f l. subst (λ (y : Memory). Off y f) (sym (ap (λ (y : Result). y.state.memory) acts))
            (marks_after x.pool x.memory (allowed x.pool call o.0).ok (a.unmarked z) (write_of x.pool call) f l)))
      ]

  -- a read or write passes only where there is a store
  after_byte : (r : Request) → IsByte r → refusal_on x r ≡ 0 → n ≢ 0 → bytes_ok (call_on x r).state.pool (call_on x r).state.memory ≡ true
  after_byte r b ok z =
      let a = passed x r ok in
      rw (byte_leaves x r b).0 (again x.pool (call_on x r).state.memory a (same_length x r).0 a.inside (λ e. absurd (z e)))

  some_store : {g : ℕ} → g < n → n ≢ 0
  some_store l z = let y : ⊥ = omega arith in y

pub inside_after : ClaimInsideAfter
unfolding IsByte
inside_after x (Asks call) ok = after_ask x call ok
inside_after x (ReadByte c g o) ok = after_byte x (ReadByte c g o) tt ok (some_store x (read_holds x c g o ok).inside)
inside_after x (WriteByte c g o v) ok = after_byte x (WriteByte c g o v) tt ok (some_store x (write_holds x c g o v ok).inside)

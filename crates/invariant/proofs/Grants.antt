-- The clients' grants after a move, and how many there are on a frame or of a page. Pages and frames stand in two lists of one shape, and a move
-- stores the same place in both, so what is opened or ended is worked out once, for a list. A grant that ends is replaced by the client's last one:
-- the order changes, and the number on each frame and of each page falls by one where the ended one stood. Assumes nothing.
use mathlib.Core.Path.{◌≡◌, refl, sym, ap, ◌∙◌}
use mathlib.Core.Logic.{◌≢◌}
use mathlib.Core.List.{List}
use Prim.Native.Nat.{ℕ, suc, ◌+◌, ◌-◌, ◌*◌, ◌≤◌, ◌<◌}
use native.Mathlib.Numerals.{add-one}
use native.Mathlib.Omega.{arith}
use native.Mathlib.Decide.{ℕ_discrete, dec_lt}
use lib.Dec.{eqb, ltb}
use lib.ListN.{length, get_or}
use borrow.Author.Tests.{lt-ltb, le-ltb, eq-eqb, ne_eqb}
use Rattle.pool.specs.Limits.{max_held}
use Rattle.pool.specs.Choose.{choose}
use Rattle.pool.specs.State.{none, number_of_clients, within, client, grant_place, of_client, grant_page, grant_frame}
use Rattle.pool.specs.Apply.{stored, grant_pages_after, grant_frames_after, apply}
use Rattle.pool.specs.declared.Pool.{Pool}
use Rattle.pool.specs.declared.Client.{Client}
use Rattle.pool.specs.declared.Move.{Move}
use Rattle.pool.specs.declared.GrantChange.TheVariants.{Same, Open, End}
use Rattle.pool.specs.Grants.{grant_of}
use Rattle.laws.specs.Choices.{chosen, passed}
use Rattle.laws.specs.Scans.{first_none}
use Rattle.invariant.proofs.Reached.{Shape, one, sum_to, grants_of, grants_on}
use Rattle.invariant.proofs.After.{within_in, raw_here, raw_else, client_same, client_other}
use Rattle.invariant.proofs.Searches.{grant_of_found}
use Rattle.invariant.proofs.Sums.{sum_same, sum_put, sum_zero, sum_has}

-- what the search for a grant of page g finds

module _ (p : Pool) (c g : ℕ) where
  pub ungranted : (client p c).held ≤ max_held → grant_of p c g ≡ none → grants_of p c g ≡ 0
  unfolding grant_of grants_of
  ungranted few e =
      sum_zero _ (client p c).held (λ i h. ap one (first_none (λ j. eqb (grant_page p c j) g) (client p c).held (omega arith) e i h))

  -- where there is none, no grant is of the page
  pub not_held : grants_of p c g ≡ 0 → (i : ℕ) → i < (client p c).held → grant_page p c i ≢ g
  unfolding grants_of
  not_held e i h w =
      let n = sum_has (λ i. one (eqb (grant_page p c i) g)) (client p c).held i h in
      let y : ⊥ = omega (arith, ap one (eq-eqb _ _ w)) in
      y

  pub granted : grant_of p c g ≢ none → 1 ≤ grants_of p c g
  unfolding grants_of
  granted z =
      let f = grant_of_found p c g z in
      let h = sum_has (λ i. one (eqb (grant_page p c i) g)) (client p c).held (grant_of p c g) f.0 in
      omega (arith, ap one (eq-eqb _ _ f.1))

-- what a move does to the acting client's grants
pub data GrantsOk (p : Pool) (c : ℕ) (m : Move) : Type 0 where
  grants_stay : m.grants ≡ Same → m.next.held ≡ (client p c).held → GrantsOk p c m
  grant_opens : (g f : ℕ) → m.grants ≡ Open (client p c).held g f → m.next.held ≡ (client p c).held + 1 → (client p c).held < max_held → GrantsOk p c m
  grant_ends : (i : ℕ) → m.grants ≡ End i ((client p c).held - 1) → m.next.held ≡ (client p c).held - 1 → i < (client p c).held → GrantsOk p c m

-- ---- one list, l before a move and m after it: N places in all, client c's first n of them hold its grants' numbers, and d stands past them

of_in : (l : List ℕ) (c n d i : ℕ) → i < n → of_client l c n d i ≡ get_or l (grant_place c i) 0
unfolding of_client
of_in l c n d i h = chosen _ _ _ (lt-ltb i n h)

of_else : (l m : List ℕ) (c n d i : ℕ) → (i < n → get_or m (grant_place c i) 0 ≡ get_or l (grant_place c i) 0) → of_client m c n d i ≡ of_client l c n d i
unfolding of_client
of_else l m c n d i e = go (dec_lt i n)
  where
    go : Dec (i < n) → choose (ltb i n) (get_or m (grant_place c i) 0) d ≡ choose (ltb i n) (get_or l (grant_place c i) 0) d
    go (yes h) = ap (λ (x : ℕ). choose (ltb i n) x d) (e h)
    go (no h) = let o = le-ltb i n (omega arith) in passed _ _ _ o ∙ sym (passed _ _ _ o)

-- how many of the client's numbers are x
abbrev many : List ℕ → ℕ → ℕ → ℕ → ℕ → ℕ
many l c n d x = sum_to (λ i. one (eqb (of_client l c n d i) x)) n

module _ (N c : ℕ) (l m : List ℕ) where
  -- at most one place is written, and it is one of client c's
  data Put : Type 0 where
    unput : m ≡ l → Put
    put : (a v : ℕ) → a < max_held → m ≡ stored l N (grant_place c a) v → Put

  -- so another place, of client c or another, reads as it did
  elsewhere : (a v : ℕ) → a < max_held → m ≡ stored l N (grant_place c a) v → (d i : ℕ) → i < max_held → (d ≡ c → i ≢ a)
      → get_or m (grant_place d i) 0 ≡ get_or l (grant_place d i) 0
  elsewhere a v few e d i h q = raw_else l m N (grant_place c a) v e (grant_place d i) (λ w. let s : d ≡ c = omega arith in q s (omega arith))

  others : Put → (d : ℕ) → d ≢ c → (n z i : ℕ) → n ≤ max_held → of_client m d n z i ≡ of_client l d n z i
  others (unput e) d o n z i r = rw e refl
  others (put a v few e) d o n z i r = of_else l m d n z i (λ h. elsewhere a v few e d i (omega arith) (λ w. absurd (o w)))

  module _ (d n : ℕ) (mine : c * 8 + 8 ≤ N) (long : N ≤ length l) where
    -- one more: v
    module _ (v : ℕ) (e : m ≡ stored l N (grant_place c n) v) (room : n < max_held) where
      open_old : (j : ℕ) → j < n → of_client m c (n + 1) d j ≡ of_client l c n d j
      open_old j h =
          of_in m c (n + 1) d j (omega arith) ∙ elsewhere n v room e c j (omega arith) (λ _ w. let z : ⊥ = omega arith in z) ∙ sym (of_in l c n d j h)

      open_new : of_client m c (n + 1) d n ≡ v
      open_new = of_in m c (n + 1) d n (omega arith) ∙ raw_here l m N (grant_place c n) v e (omega arith) long

      many_open : (x : ℕ) → many m c (n + 1) d x ≡ many l c n d x + one (eqb v x)
      unfolding sum_to
      many_open x =
          let g : (ℕ → ℕ) = λ i. one (eqb (of_client m c (n + 1) d i) x) in
          let old = sum_same (λ i. one (eqb (of_client l c n d i) x)) g n (λ i h. ap (λ (y : ℕ). one (eqb y x)) (open_old i h)) in
          ap (sum_to g) (add-one n) ∙ omega (arith, old, ap (λ (y : ℕ). one (eqb y x)) open_new)

    -- the one at a ends, and the last one moves there
    module _ (a : ℕ) (e : m ≡ stored l N (grant_place c a) (within l N 0 (grant_place c (n - 1)))) (low : a < n) (few : n ≤ max_held) where
      end_old : (j : ℕ) → j < n - 1 → j ≢ a → of_client m c (n - 1) d j ≡ of_client l c n d j
      end_old j h o = of_in m c (n - 1) d j h ∙ elsewhere a _ (omega arith) e c j (omega arith) (λ _. o) ∙ sym (of_in l c n d j (omega arith))

      end_moved : a < n - 1 → of_client m c (n - 1) d a ≡ of_client l c n d (n - 1)
      end_moved h =
          of_in m c (n - 1) d a h ∙ raw_here l m N (grant_place c a) _ e (omega arith) long ∙ within_in l N 0 (grant_place c (n - 1)) (omega arith)
          ∙ sym (of_in l c n d (n - 1) (omega arith))

      many_end : (x : ℕ) → many m c (n - 1) d x + one (eqb (of_client l c n d a) x) ≡ many l c n d x
      unfolding sum_to
      many_end x = go (ℕ_discrete a (n - 1))
        where
          g : ℕ → ℕ
          g j = one (eqb (of_client l c n d j) x)

          h : ℕ → ℕ
          h j = one (eqb (of_client m c (n - 1) d j) x)

          other : (j : ℕ) → j < n - 1 → j ≢ a → h j ≡ g j
          other j r w = ap (λ (y : ℕ). one (eqb y x)) (end_old j r w)

          whole : sum_to g n ≡ sum_to g (n - 1) + g (n - 1)
          whole = let s : n ≡ suc (n - 1) = omega arith in ap (sum_to g) s

          go : Dec (a ≡ n - 1) → sum_to h (n - 1) + g a ≡ sum_to g n
          go (yes w) = omega (arith, whole, ap g w, sum_same g h (n - 1) (λ j r. other j r (λ v. let z : ⊥ = omega arith in z)))
          go (no w) =
              let moved : h a ≡ g (n - 1) = ap (λ (y : ℕ). one (eqb y x)) (end_moved (omega arith)) in
              omega (arith, whole, moved, sum_put g h (n - 1) a (omega arith) other)

-- ---- the two lists of a pool

module _ (p : Pool) (c : ℕ) (m : Move) (shape : Shape p) (here : c < number_of_clients p) (few : (d : ℕ) → (client p d).held ≤ max_held) where
  abbrev q : Pool
  q = apply p c m

  -- how many grants the client has, how many places there are for grants, and that the client's are among them
  abbrev n : ℕ
  n = (client p c).held

  abbrev N : ℕ
  N = max_held * number_of_clients p

  mine : c * 8 + 8 ≤ N
  mine = omega arith

  pages_long : N ≤ length p.grant_pages
  pages_long = let a = shape.grant_pages in let b = shape.clients_high in omega arith

  frames_long : N ≤ length p.grant_frames
  frames_long = let a = shape.grant_frames in let b = shape.clients_high in omega arith

  pub held_next : (client q c).held ≡ m.next.held
  held_next = ap (λ (k : Client). k.held) (client_same p c m shape here)

  -- ---- the acting client's: none changes

  module _ (e : m.grants ≡ Same) (s : m.next.held ≡ n) where
    pub keep_page : (j : ℕ) → grant_page q c j ≡ grant_page p c j
    unfolding apply grant_pages_after grant_page
    keep_page j = rw (held_next, s, e) refl

    pub keep_frame : (j : ℕ) → grant_frame q c j ≡ grant_frame p c j
    unfolding apply grant_frames_after grant_frame
    keep_frame j = rw (held_next, s, e) refl

    pub grants_on_keeps : (f : ℕ) → grants_on q c f ≡ grants_on p c f
    unfolding grants_on
    grants_on_keeps f = rw (held_next ∙ s) (sum_same _ _ n (λ i _. ap (λ (x : ℕ). one (eqb x f)) (keep_frame i)))

    pub grants_of_keeps : (g : ℕ) → grants_of q c g ≡ grants_of p c g
    unfolding grants_of
    grants_of_keeps g = rw (held_next ∙ s) (sum_same _ _ n (λ i _. ap (λ (x : ℕ). one (eqb x g)) (keep_page i)))

  -- ---- one is opened

  module _ (g f : ℕ) (e : m.grants ≡ Open n g f) (s : m.next.held ≡ n + 1) (room : n < max_held) where
    page_opened : q.grant_pages ≡ stored p.grant_pages N (grant_place c n) g
    unfolding apply grant_pages_after
    page_opened = rw e refl

    frame_opened : q.grant_frames ≡ stored p.grant_frames N (grant_place c n) f
    unfolding apply grant_frames_after
    frame_opened = rw e refl

    pub page_open_old : (j : ℕ) → j < n → grant_page q c j ≡ grant_page p c j
    unfolding grant_page
    page_open_old j h = rw (held_next ∙ s) (open_old N c _ _ 0 n mine pages_long g page_opened room j h)

    pub frame_open_old : (j : ℕ) → j < n → grant_frame q c j ≡ grant_frame p c j
    unfolding grant_frame
    frame_open_old j h = rw (held_next ∙ s) (open_old N c _ _ none n mine frames_long f frame_opened room j h)

    pub page_open_new : grant_page q c n ≡ g
    unfolding grant_page
    page_open_new = rw (held_next ∙ s) (open_new N c _ _ 0 n mine pages_long g page_opened room)

    pub frame_open_new : grant_frame q c n ≡ f
    unfolding grant_frame
    frame_open_new = rw (held_next ∙ s) (open_new N c _ _ none n mine frames_long f frame_opened room)

    pub grants_on_opens : (x : ℕ) → grants_on q c x ≡ grants_on p c x + one (eqb f x)
    unfolding grants_on grant_frame
    grants_on_opens x = rw (held_next ∙ s) (many_open N c _ _ none n mine frames_long f frame_opened room x)

    pub grants_of_opens : (x : ℕ) → grants_of q c x ≡ grants_of p c x + one (eqb g x)
    unfolding grants_of grant_page
    grants_of_opens x = rw (held_next ∙ s) (many_open N c _ _ 0 n mine pages_long g page_opened room x)

  -- ---- the one at a ends

  module _ (a : ℕ) (e : m.grants ≡ End a (n - 1)) (s : m.next.held ≡ n - 1) (low : a < n) where
    page_ended : q.grant_pages ≡ stored p.grant_pages N (grant_place c a) (within p.grant_pages N 0 (grant_place c (n - 1)))
    unfolding apply grant_pages_after
    page_ended = rw e refl

    frame_ended : q.grant_frames ≡ stored p.grant_frames N (grant_place c a) (within p.grant_frames N 0 (grant_place c (n - 1)))
    unfolding apply grant_frames_after
    frame_ended = rw e refl

    pub page_end_old : (j : ℕ) → j < n - 1 → j ≢ a → grant_page q c j ≡ grant_page p c j
    unfolding grant_page
    page_end_old j h o = rw (held_next ∙ s) (end_old N c _ _ 0 n mine pages_long a page_ended low (few c) j h o)

    pub frame_end_old : (j : ℕ) → j < n - 1 → j ≢ a → grant_frame q c j ≡ grant_frame p c j
    unfolding grant_frame
    frame_end_old j h o = rw (held_next ∙ s) (end_old N c _ _ none n mine frames_long a frame_ended low (few c) j h o)

    pub page_end_moved : a < n - 1 → grant_page q c a ≡ grant_page p c (n - 1)
    unfolding grant_page
    page_end_moved h = rw (held_next ∙ s) (end_moved N c _ _ 0 n mine pages_long a page_ended low (few c) h)

    pub frame_end_moved : a < n - 1 → grant_frame q c a ≡ grant_frame p c (n - 1)
    unfolding grant_frame
    frame_end_moved h = rw (held_next ∙ s) (end_moved N c _ _ none n mine frames_long a frame_ended low (few c) h)

    pub grants_on_ends : (x : ℕ) → grants_on q c x + one (eqb (grant_frame p c a) x) ≡ grants_on p c x
    unfolding grants_on grant_frame
    grants_on_ends x = rw (held_next ∙ s) (many_end N c _ _ none n mine frames_long a frame_ended low (few c) x)

    pub grants_of_ends : (x : ℕ) → grants_of q c x + one (eqb (grant_page p c a) x) ≡ grants_of p c x
    unfolding grants_of grant_page
    grants_of_ends x = rw (held_next ∙ s) (many_end N c _ _ 0 n mine pages_long a page_ended low (few c) x)

  -- ---- the others' grants stay

  module _ (how : GrantsOk p c m) (d : ℕ) (other : d ≢ c) where
    pub held_other : (client q d).held ≡ (client p d).held
    held_other = ap (λ (k : Client). k.held) (client_other p c m d other)

    pages_put : GrantsOk p c m → Put N c p.grant_pages q.grant_pages
    unfolding apply grant_pages_after
    pages_put (grants_stay e _) = unput (rw e refl)
    pages_put (grant_opens g f e s r) = put n g r (page_opened g f e s r)
    pages_put (grant_ends a e s r) = put a _ (omega (arith, few c)) (page_ended a e s r)

    frames_put : GrantsOk p c m → Put N c p.grant_frames q.grant_frames
    unfolding apply grant_frames_after
    frames_put (grants_stay e _) = unput (rw e refl)
    frames_put (grant_opens g f e s r) = put n f r (frame_opened g f e s r)
    frames_put (grant_ends a e s r) = put a _ (omega (arith, few c)) (frame_ended a e s r)

    pub grant_page_other : (i : ℕ) → grant_page q d i ≡ grant_page p d i
    unfolding grant_page
    grant_page_other i = rw held_other (others N c _ _ (pages_put how) d other (client p d).held 0 i (few d))

    pub grant_frame_other : (i : ℕ) → grant_frame q d i ≡ grant_frame p d i
    unfolding grant_frame
    grant_frame_other i = rw held_other (others N c _ _ (frames_put how) d other (client p d).held none i (few d))

    pub grants_on_other : (f : ℕ) → grants_on q d f ≡ grants_on p d f
    unfolding grants_on
    grants_on_other f = rw held_other (sum_same _ _ (client p d).held (λ i _. ap (λ (x : ℕ). one (eqb x f)) (grant_frame_other i)))

    pub grants_of_other : (g : ℕ) → grants_of q d g ≡ grants_of p d g
    unfolding grants_of
    grants_of_other g = rw held_other (sum_same _ _ (client p d).held (λ i _. ap (λ (x : ℕ). one (eqb x g)) (grant_page_other i)))

  -- ---- where the acting client's grant at a place comes from

  pub data GrantFrom (j : ℕ) : Type 0 where
    old : (i : ℕ) → i < n → grant_page q c j ≡ grant_page p c i → grant_frame q c j ≡ grant_frame p c i → GrantFrom j
    new : (g f : ℕ) → m.grants ≡ Open n g f → grant_page q c j ≡ g → grant_frame q c j ≡ f → GrantFrom j
    past : m.next.held ≤ j → GrantFrom j

  pub grant_from : GrantsOk p c m → (j : ℕ) → GrantFrom j
  grant_from how j = by (dec_lt j m.next.held)
    where
      opened : (g f : ℕ) (e : m.grants ≡ Open n g f) (s : m.next.held ≡ n + 1) (r : n < max_held) → j < m.next.held → Dec (j ≡ n) → GrantFrom j
      opened g f e s r h (yes w) = rw w (new g f e (page_open_new g f e s r) (frame_open_new g f e s r))
      opened g f e s r h (no w) = let l : j < n = omega arith in old j l (page_open_old g f e s r j l) (frame_open_old g f e s r j l)

      ended : (a : ℕ) (e : m.grants ≡ End a (n - 1)) (s : m.next.held ≡ n - 1) (r : a < n) → j < m.next.held → Dec (j ≡ a) → GrantFrom j
      ended a e s r h (yes w) =
          let l : a < n - 1 = omega arith in rw w (old (n - 1) (omega arith) (page_end_moved a e s r l) (frame_end_moved a e s r l))
      ended a e s r h (no w) = let l : j < n - 1 = omega arith in old j (omega arith) (page_end_old a e s r j l w) (frame_end_old a e s r j l w)

      how_to : j < m.next.held → GrantsOk p c m → GrantFrom j
      how_to h (grants_stay e s) = old j (omega arith) (keep_page e s j) (keep_frame e s j)
      how_to h (grant_opens g f e s r) = opened g f e s r h (ℕ_discrete j n)
      how_to h (grant_ends a e s r) = ended a e s r h (ℕ_discrete j a)

      by : Dec (j < m.next.held) → GrantFrom j
      by (yes h) = how_to h how
      by (no h) = past (omega arith)

-- a client that has no grant on a frame
pub grants_on_none : (p : Pool) (c f : ℕ) → ((i : ℕ) → grant_frame p c i ≢ f) → grants_on p c f ≡ 0
unfolding grants_on
grants_on_none p c f o = sum_zero _ (client p c).held (λ i h. ap one (ne_eqb _ _ (o i)))

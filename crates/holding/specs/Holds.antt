-- What turns a read or write in place down, by what its code has tested, and the frame of the client's grant. Assumes nothing.
use Rattle.std.specs.Prelude.{◌≡◌, ◌≢◌, false, refl, List, ℕ, ◌+◌, ◌*◌, ◌≤◌, ◌<◌, eqb, length, get_or, Result, Err, IfOk}
use Rattle.std.proofs.Math.Path.{sym}
use Rattle.std.proofs.Common.{ap, subst, ◌∙◌}
use native.Mathlib.Omega.{arith}
use borrow.Author.Tests.{eq-eqb, ne_eqb, le-leb, lt-leb, le-ltb, lt-ltb}
use Rattle.pool.specs.Limits.{max_clients, max_held}
use Rattle.pool.specs.Choose.{choose, both}
use Rattle.pool.specs.State.{none, no_client, number_of_clients, client, grant_frame}
use Rattle.pool.specs.Grants.{grant_of}
use Rattle.pool.specs.Calls.{caller, refusal_at, turned_by}
use Rattle.pool.specs.declared.Call.TheVariants.{Release}
use Rattle.pool.specs.declared.Client.{Client}
use Rattle.pool.specs.declared.Pool.{Pool}
use Rattle.laws.specs.Choices.{chosen, passed}
use Rattle.laws.specs.Elements.{client_of_pool, grant_element}
use Rattle.laws.specs.Scans.{both_yes}
use Rattle.books.specs.Lists.{grant_in, grant_in_lem}
use Rattle.answers.specs.declared.refusal.Refusal.{Refusal}
use Rattle.answers.specs.Numbers.{refused_by, refusal_number}
use Rattle.memory.specs.Memory.{page_bytes}
use Rattle.memory.specs.Requests.{State, first_of, byte_refusal, held_frame}
use Rattle.client_arrays.specs.Arrays.{client_from, clients_from, client_from_lem}
use Rattle.in_place.specs.Held.{holder_fits, byte_held_refusal}

-- the clients and grants of pool p lie in these arrays
pub record Keeps (p : Pool) (count : ℕ) (client_bytes client_words grant_pages' grant_frames' : List ℕ) : Type 0 where
  pub client_count : number_of_clients p ≡ count
  pub clients : p.clients ≡ clients_from client_bytes client_words
  pub grant_pages : p.grant_pages ≡ grant_pages'
  pub grant_frames : p.grant_frames ≡ grant_frames'

-- what a call of client c for a byte at offset o of page g is told
pub record HeldBy (x : State) (c g o : ℕ) (r : Result ℕ Refusal) : Type 0 where
  pub refusal : refused_by r ≡ byte_held_refusal x c g o
  pub frame : IfOk r (λ f. f ≡ held_frame x.pool c g)

-- ---- by what the code has tested

module _ (x : State) (c g o : ℕ) where
  abbrev p : Pool
  p = x.pool

  abbrev n : ℕ
  n = x.memory.pages

  unfit : both (eqb (length x.store) (page_bytes * n)) (holder_fits p c) ≡ false → byte_held_refusal x c g o ≡ 8
  unfolding byte_held_refusal
  unfit e = passed _ _ _ e

  pub wrong_length : length x.store ≢ page_bytes * n → byte_held_refusal x c g o ≡ 8
  unfolding both
  wrong_length e = unfit (passed _ _ _ (ne_eqb _ _ e))

  module _ (long : length x.store ≡ page_bytes * n) where
    not_holder : holder_fits p c ≡ false → byte_held_refusal x c g o ≡ 8
    unfolding both
    not_holder e = unfit (chosen _ _ _ (eq-eqb _ _ long) ∙ e)

    pub many_clients : max_clients < number_of_clients p → byte_held_refusal x c g o ≡ 8
    unfolding holder_fits both
    many_clients h = not_holder (passed _ _ _ (lt-leb _ _ h))

    module _ (few : number_of_clients p ≤ max_clients) where
      pub many_grants : max_held < (client p c).held → byte_held_refusal x c g o ≡ 8
      unfolding holder_fits both
      many_grants h = not_holder (chosen _ _ _ (le-leb _ _ few) ∙ lt-leb _ _ h)

      module _ (low : (client p c).held ≤ max_held) where
        number : byte_held_refusal x c g o ≡ first_of (turned_by p (Release c g)) (byte_refusal n g o)
        unfolding byte_held_refusal holder_fits
        number = chosen _ _ _ (both_yes _ _ (eq-eqb _ _ long) (both_yes _ _ (le-leb _ _ few) (le-leb _ _ low)))

        pub by_release : {t : ℕ} → t ≡ turned_by p (Release c g) → t ≢ 0 → byte_held_refusal x c g o ≡ t
        unfolding first_of
        by_release e z = number ∙ passed _ _ _ (ne_eqb _ _ (λ w. z (e ∙ w))) ∙ sym e

        pub by_byte : turned_by p (Release c g) ≡ 0 → byte_held_refusal x c g o ≡ byte_refusal n g o
        unfolding first_of
        by_byte z = number ∙ chosen _ _ _ (eq-eqb _ _ z)

      -- there is no such client
      pub nobody : number_of_clients p ≤ c → byte_held_refusal x c g o ≡ 9
      unfolding client caller
      nobody h = by_release none_held (sym nine) (λ z. let y : ⊥ = omega arith in y)
        where
          nine : turned_by p (Release c g) ≡ 9
          nine = passed _ _ _ (le-ltb _ _ h)

          none_held : (client p c).held ≤ max_held
          none_held = subst (λ (k : Client). k.held ≤ max_held) (sym (passed _ _ _ (le-ltb c (number_of_clients p) h))) (omega arith)

-- ---- the client's record r, as it was read, and the frame of its grant

module _ {p : Pool} {count : ℕ} {client_bytes client_words grant_pages' grant_frames' : List ℕ} (k : Keeps p count client_bytes client_words grant_pages' grant_frames')
    (c : ℕ) (few : count ≤ max_clients) (h : c < count) (g : ℕ) {r : Client} (e : r ≡ client_from client_bytes client_words c) where
  pub its_record : client p c ≡ r
  its_record =
      client_of_pool p c (omega (arith, h, k.client_count)) ∙ ap (λ (l : List Client). get_or l c no_client) k.clients
      ∙ client_from_lem client_bytes client_words c (omega (arith, h, few)) ∙ sym e

  turned_as : turned_by p (Release c g) ≡ refusal_at p r (Release c g)
  unfolding caller
  turned_as = chosen _ _ _ (lt-ltb _ _ (omega (arith, h, k.client_count))) ∙ ap (λ (r : Client). refusal_at p r (Release c g)) its_record

  its_grant : grant_of p c g ≡ grant_in grant_pages' c r.held g
  its_grant = sym (grant_in_lem p c g) ∙ rw (its_record, k.grant_pages) refl

  pub at_work : r.stage ≢ 0 → turned_by p (Release c g) ≡ 10
  unfolding refusal_at
  at_work z = turned_as ∙ passed _ _ _ (ne_eqb _ _ z)

  by_grant : r.stage ≡ 0 → turned_by p (Release c g) ≡ choose (eqb (grant_in grant_pages' c r.held g) none) 13 0
  unfolding refusal_at
  by_grant s = turned_as ∙ chosen _ _ _ (eq-eqb _ _ s) ∙ ap (λ (i : ℕ). choose (eqb i none) 13 0) its_grant

  pub not_held : r.stage ≡ 0 → none ≡ grant_in grant_pages' c r.held g → turned_by p (Release c g) ≡ 13
  not_held s n = by_grant s ∙ chosen _ _ _ (eq-eqb _ _ (sym n))

  module _ {i : ℕ} (n : i ≡ grant_in grant_pages' c r.held g) (in_range : i < r.held) where
    pub is_held : r.held ≤ max_held → r.stage ≡ 0 → turned_by p (Release c g) ≡ 0
    is_held low s = by_grant s ∙ passed _ _ _ (ne_eqb _ _ (λ z. let y : ⊥ = omega (arith, n, z, low) in y))

    -- the frame that is read, of the place that was found
    pub frame_is : get_or grant_frames' (max_held * c + i) 0 ≡ held_frame p c g
    unfolding grant_frame
    frame_is =
        sym (grant_element grant_frames' c r.held none i in_range)
        ∙ rw (its_grant, its_record, ← n, k.grant_frames) refl

-- ---- what a call is told, by the record r that was read

-- turned down
pub told : {x : State} {c g o : ℕ} (e : Refusal) → byte_held_refusal x c g o ≡ refusal_number e → HeldBy x c g o (Err e)
told e f = record { refusal = sym f; frame = tt }

module _ (x : State) {count : ℕ} {client_bytes client_words grant_pages' grant_frames' : List ℕ}
    (k : Keeps x.pool count client_bytes client_words grant_pages' grant_frames')
    (c g o : ℕ) (long : length x.store ≡ page_bytes * x.memory.pages) (few : count ≤ max_clients) (h : c < count)
    {r : Client} (e : r ≡ client_from client_bytes client_words c) where
  its : client x.pool c ≡ r
  its = its_record k c few h g e

  few_clients : number_of_clients x.pool ≤ max_clients
  few_clients = omega (arith, k.client_count, few)

  pub too_many : max_held < r.held → byte_held_refusal x c g o ≡ 8
  too_many b = many_grants x c g o long few_clients (rw its b)

  module _ (low : r.held ≤ max_held) where
    low_held : (client x.pool c).held ≤ max_held
    low_held = rw its low

    pub works : r.stage ≢ 0 → byte_held_refusal x c g o ≡ 10
    works z = by_release x c g o long few_clients low_held (sym (at_work k c few h g e z)) (λ z. let y : ⊥ = omega arith in y)

    module _ (rests : r.stage ≡ 0) where
      pub has_none : none ≡ grant_in grant_pages' c r.held g → byte_held_refusal x c g o ≡ 13
      has_none n = by_release x c g o long few_clients low_held (sym (not_held k c few h g e rests n)) (λ z. let y : ⊥ = omega arith in y)

      pub has_one : {i : ℕ} → i ≡ grant_in grant_pages' c r.held g → i < r.held → byte_held_refusal x c g o ≡ byte_refusal x.memory.pages g o
      has_one n b = by_byte x c g o long few_clients low_held (is_held k c few h g e n b low rests)

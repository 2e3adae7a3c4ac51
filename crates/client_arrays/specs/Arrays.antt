-- Clients that lie in two arrays of numbers (SPECIFICATION 14.2), and that one record put there is one client replaced. Assumes nothing.
use Rattle.std.specs.Prelude.{◌≡◌, refl, ◌≢◌, List, [], ◌∷◌, ℕ, zero, suc, ◌+◌, ◌*◌, ◌<◌, length, set}
use Rattle.std.proofs.Common.{sym, ap, ◌∙◌, arith, add-zero, add-suc, suc-add, not-suc-le-zero, le_of_suc-le-suc, length-set, ext_get_or, get_or-set_same, get_or-set_other}
use Rattle.std.proofs.Math.Decide.{ℕ_discrete}
use Rattle.std.proofs.Math.ListN.{get_or}
use Rattle.pool.specs.Limits.{max_clients}
use Rattle.pool.specs.State.{no_client}
use Rattle.pool.specs.declared.Client.{Client}
use Rattle.memory.specs.Memory.{copied}
use Rattle.memory.specs.Copying.{copied_length, copied_in, copied_out}

-- ---- the numbers of one client

abbrev pub client_bytes : Client → List ℕ
client_bytes k = k.stage ∷ k.own ∷ k.found ∷ k.victim ∷ k.seen ∷ k.place ∷ k.busy ∷ k.held ∷ []

abbrev pub client_words : Client → List ℕ
client_words k = k.page ∷ k.start ∷ []

-- how many these are, and those of all clients
abbrev pub per_bytes : ℕ
per_bytes = 8

abbrev pub per_words : ℕ
per_words = 2

abbrev pub bytes_long : ℕ
bytes_long = 128

abbrev pub words_long : ℕ
words_long = 32

-- ---- reading

-- SPECIFICATION 14.2: client c
unfoldable pub client_from : List ℕ → List ℕ → ℕ → Client
client_from bytes words c =
    let i = per_bytes * c in
    let j = per_words * c in
    record {
      stage = get_or bytes (i + 0) 0;
      page = get_or words (j + 0) 0;
      own = get_or bytes (i + 1) 0;
      found = get_or bytes (i + 2) 0;
      victim = get_or bytes (i + 3) 0;
      seen = get_or bytes (i + 4) 0;
      place = get_or bytes (i + 5) 0;
      start = get_or words (j + 1) 0;
      busy = get_or bytes (i + 6) 0;
      held = get_or bytes (i + 7) 0;
    }

-- f of the n numbers from i on
abbrev listed_from : {A : Type 0} → (ℕ → A) → ℕ → ℕ → List A
listed_from f i zero = []
listed_from f i (suc n) = f i ∷ listed_from f (suc i) n

-- SPECIFICATION 14.2: all of them
unfoldable pub clients_from : List ℕ → List ℕ → List Client
clients_from bytes words = listed_from (client_from bytes words) 0 max_clients

-- ---- putting back

unfoldable pub bytes_with : List ℕ → ℕ → Client → List ℕ
bytes_with bytes c k = copied per_bytes bytes (per_bytes * c) (client_bytes k) 0

unfoldable pub words_with : List ℕ → ℕ → Client → List ℕ
words_with words c k = copied per_words words (per_words * c) (client_words k) 0

-- ---- laws

listed_long : {A : Type 0} (f : ℕ → A) (i n : ℕ) → length (listed_from f i n) ≡ n
listed_long f i zero = refl
listed_long f i (suc n) = ap suc (listed_long f (suc i) n)

listed_at : {A : Type 0} (f : ℕ → A) (i n j : ℕ) (d : A) → j < n → get_or (listed_from f i n) j d ≡ f (i + j)
listed_at f i zero j d h = absurd (not-suc-le-zero h)
listed_at f i (suc n) zero d h = ap f (sym (add-zero i))
listed_at f i (suc n) (suc j) d h = listed_at f (suc i) n j d (le_of_suc-le-suc h) ∙ ap f (suc-add i j ∙ sym (add-suc i j))

pub clients_long : (bytes words : List ℕ) → length (clients_from bytes words) ≡ max_clients
unfolding clients_from
clients_long bytes words = listed_long (client_from bytes words) 0 max_clients

pub client_from_lem : (bytes words : List ℕ) (c : ℕ) → c < max_clients → get_or (clients_from bytes words) c no_client ≡ client_from bytes words c
unfolding clients_from
client_from_lem bytes words c h = listed_at (client_from bytes words) 0 max_clients c no_client h ∙ ap (client_from bytes words) (omega arith)

module _ (bytes words : List ℕ) (c : ℕ) (k : Client) where
  -- another client's numbers stay
  other_byte : (d o : ℕ) → d ≢ c → o < per_bytes → get_or (bytes_with bytes c k) (per_bytes * d + o) 0 ≡ get_or bytes (per_bytes * d + o) 0
  unfolding bytes_with
  other_byte d o apart low = copied_out bytes (per_bytes * c) (client_bytes k) 0 per_bytes (per_bytes * d + o) (λ l b e. apart (omega arith))

  other_word : (d o : ℕ) → d ≢ c → o < per_words → get_or (words_with words c k) (per_words * d + o) 0 ≡ get_or words (per_words * d + o) 0
  unfolding words_with
  other_word d o apart low = copied_out words (per_words * c) (client_words k) 0 per_words (per_words * d + o) (λ l b e. apart (omega arith))

  pub other : (d : ℕ) → d ≢ c → client_from (bytes_with bytes c k) (words_with words c k) d ≡ client_from bytes words d
  unfolding client_from
  other d n =
      let b : (o : ℕ) → o < per_bytes → get_or (bytes_with bytes c k) (per_bytes * d + o) 0 ≡ get_or bytes (per_bytes * d + o) 0 = λ o low. other_byte d o n low in
      let w : (o : ℕ) → o < per_words → get_or (words_with words c k) (per_words * d + o) 0 ≡ get_or words (per_words * d + o) 0 = λ o low. other_word d o n low in
      rw (
        b 0 (omega arith),
        b 1 (omega arith),
        b 2 (omega arith),
        b 3 (omega arith),
        b 4 (omega arith),
        b 5 (omega arith),
        b 6 (omega arith),
        b 7 (omega arith),
        w 0 (omega arith),
        w 1 (omega arith),
      )

  pub bytes_stay : length (bytes_with bytes c k) ≡ length bytes
  unfolding bytes_with
  bytes_stay = copied_length bytes (per_bytes * c) (client_bytes k) 0 per_bytes

  pub words_stay : length (words_with words c k) ≡ length words
  unfolding words_with
  words_stay = copied_length words (per_words * c) (client_words k) 0 per_words

  module _ (lb : length bytes ≡ bytes_long) (lw : length words ≡ words_long) (h : c < max_clients) where
    pub here : client_from (bytes_with bytes c k) (words_with words c k) c ≡ k
    unfolding client_from bytes_with words_with
    here =
        let b : (o : ℕ) → o < per_bytes → get_or (copied per_bytes bytes (per_bytes * c) (client_bytes k) 0) (per_bytes * c + o) 0 ≡ get_or (client_bytes k) (0 + o) 0
        = λ o low. copied_in bytes (per_bytes * c) (client_bytes k) 0 per_bytes o (omega arith) low in
        let w : (o : ℕ) → o < per_words → get_or (copied per_words words (per_words * c) (client_words k) 0) (per_words * c + o) 0 ≡ get_or (client_words k) (0 + o) 0
        = λ o low. copied_in words (per_words * c) (client_words k) 0 per_words o (omega arith) low in
        rw (
          b 0 (omega arith),
          b 1 (omega arith),
          b 2 (omega arith),
          b 3 (omega arith),
          b 4 (omega arith),
          b 5 (omega arith),
          b 6 (omega arith),
          b 7 (omega arith),
          w 0 (omega arith),
          w 1 (omega arith),
        )

    -- THE LAW: a record put there is a client replaced
    pub put_back : clients_from (bytes_with bytes c k) (words_with words c k) ≡ set (clients_from bytes words) c k
    put_back =
        ext_get_or no_client _ _ (clients_long _ _ ∙ sym (length-set (clients_from bytes words) c k ∙ clients_long bytes words))
        (λ d b. at d (omega (arith, b, clients_long (bytes_with bytes c k) (words_with words c k))) (ℕ_discrete d c))
      where
        at : (d : ℕ) → d < max_clients → Dec (d ≡ c)
            → get_or (clients_from (bytes_with bytes c k) (words_with words c k)) d no_client ≡ get_or (set (clients_from bytes words) c k) d no_client
        at d low (yes same) =
            client_from_lem _ _ d low ∙ ap (client_from (bytes_with bytes c k) (words_with words c k)) same ∙ here
            ∙ sym (ap (λ (n : ℕ). get_or (set (clients_from bytes words) c k) n no_client) same
            ∙ get_or-set_same (clients_from bytes words) c k no_client (omega (arith, h, clients_long bytes words)))
        at d low (no apart) =
            client_from_lem _ _ d low ∙ other d apart
            ∙ sym (get_or-set_other (clients_from bytes words) c d k no_client apart ∙ client_from_lem bytes words d low)

    -- the same, where each array is known by an equation
    pub put_as : {b w : List ℕ} → b ≡ bytes_with bytes c k → w ≡ words_with words c k → clients_from b w ≡ set (clients_from bytes words) c k
    put_as e f = rw (e, f) put_back

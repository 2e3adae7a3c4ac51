-- What each contract says, by computation; and that a program's memory can hold what a call leaves: the clients' arrays have room for the record that is
-- put back. Assumes nothing.
use mathlib.Core.Path.{◌≡◌, refl, sym, ◌∙◌}
use mathlib.Core.Bool.{Bool, true, false}
use mathlib.Core.List.{List, [], ◌∷◌, ◌++◌}
use Prim.Native.Nat.{ℕ, zero, suc, ◌<◌, ◌/◌}
use native.Mathlib.Omega.{arith}
use native.Mathlib.Decide.{ℕ_discrete}
use contract.Lifetimes.{Lfts}
use lib.ListN.{length, replicate}
use borrow.Author.Tests.{eqb-true}
use Rattle.pool.specs.Limits.{max_clients}
use Rattle.pool.specs.State.{resting, number_of_clients, client, grant_page, grant_frame}
use Rattle.pool.specs.Grants.{grant_of}
use Rattle.pool.specs.Answers.{code_of, value_of}
use Rattle.pool.specs.Valid.{numbers_ok}
use Rattle.pool.specs.Apply.{apply}
use Rattle.pool.specs.Calls.{caller, refusal_at, turned_by, move_of, fresh}
use Rattle.pool.specs.Tallies.{tallied}
use Rattle.pool.specs.declared.Answer.TheVariants.{Done, Refused}
use Rattle.pool.specs.declared.Call.{Call}
use Rattle.pool.specs.declared.Call.TheVariants.{Begin, Step, Release}
use Rattle.pool.specs.declared.Move.{Move}
use Rattle.pool.specs.declared.Pool.{Pool}
use Rattle.pool.specs.declared.Tally.{Tally}
use Rattle.laws.specs.Choices.{by_test}
use Rattle.laws.specs.Scans.{both_first, both_yes}
use Rattle.ranges.specs.Ranges.{numbers_in}
use Rattle.memory.specs.Memory.{page_bytes, blank}
use Rattle.memory.specs.Orders.{order_none}
use Rattle.memory.specs.Requests.{Request, Asks, ReadByte, WriteByte, State, Result, length_ok, outside_at, held_frame}
use Rattle.memory.specs.declared.Memory.{Memory}
use Rattle.client_arrays.specs.Arrays.{client_bytes, client_words, client_from, clients_from, bytes_with, words_with, put_back, bytes_stay, words_stay}
use Rattle.content.specs.Filling.{bytes_filled, marks_filled, byte_in, bytes_written, marks_written}
use Rattle.play.specs.Turn.{is_client}
use Rattle.play.specs.Parts.{same_clients}
use Rattle.in_place.specs.Held.{Held, fits, held_refusal, held_of, holder_fits, byte_held_refusal, held_on, duty_on, state_from}
use Rattle.counting.specs.Counts.{tally_from}
use Rattle.mixed.proofs.Calls.{after_pages}
use Rattle.served.specs.Words.{word_of}
use Rattle.served.specs.Served.{accepted, refuses, sets_up, read_turned, reads, write_turned, writes}
use Rattle.served_tie.specs.Promises.{Books, Frames, Server, pool_in, state_in, with_books, with_all, Loans, SetupSays}
use Rattle.served_tie.specs.Serving.{Serves, begin, release, step, read, write, OneTally, ServesAll, at_end, at_request, Accepted, KeptBy, Readings}
use Rattle.served_tie.specs.Serving.{Long, Spans, Answerable}

pub readings : Readings
readings =
    record {
      setup = λ κs l s t c h x r y. refl;
      begin = λ κs l c g x r b. refl;
      release = λ κs l c g x r b. refl;
      step = λ κs l c x t e r b f s u d. refl;
      read = λ κs l c g o x r bytes filled. refl;
      write = λ κs l c g o v x r f. refl;
      holdings = λ κs l c x t u r. refl;
      check = λ κs l x r. refl;
    }

-- ---- memory for what a call leaves

-- a call that acts is one of a client that the arrays have
low_caller : (p : Pool) (n : ℕ) (call : Call) → held_refusal p n call ≡ 0 → caller call < max_clients
unfolding held_refusal fits
low_caller p n call =
    by_test (λ (k : ℕ). k ≡ 0 → caller call < max_clients)
    (λ t e.
    let r = numbers_in p.size (number_of_clients p) p.cap (both_first _ _ t) in
    omega (arith, r.clients, is_client p call (order_none (turned_by p call) (outside_at n call) e).0))
    (λ _ e. absurd (let y : ⊥ = omega arith in y))

module _ (x : Server) (long : Long x) where
  record Room (q : Pool) : Type 0 where
    books : Books
    holds : pool_in (with_books x books) ≡ q
    as_long : Long (with_books x books)

  same : Room (pool_in x)
  same = record { books = x.books; holds = refl; as_long = long }

  moved : (c : ℕ) → c < max_clients → (m : Move) → Room (apply (pool_in x) c m)
  unfolding apply
  moved c h m =
      let q = apply (pool_in x) c m in
      let kb = x.books.client_bytes in
      let kw = x.books.client_words in
      record {
        books = record {
          hand = q.hand;
          free = q.free;
          last = q.last;
          slots = q.slots;
          pages = q.pages;
          pins = q.pins;
          counts = q.counts;
          table_pages = q.table_pages;
          table_frames = q.table_frames;
          client_bytes = bytes_with kb c m.next;
          client_words = words_with kw c m.next;
          grant_pages = q.grant_pages;
          grant_frames = q.grant_frames;
        };
        holds = same_clients (put_back kb kw c m.next long.0 long.1 h) refl;
        as_long = (bytes_stay kb kw c m.next ∙ long.0, words_stay kb kw c m.next ∙ long.1);
      }

  room : (n : ℕ) (call : Call) → Room (held_of (pool_in x) n call).pool
  unfolding held_of
  room n call =
      by_test (λ (h : Held). Room h.pool) (λ t. moved (caller call) (low_caller (pool_in x) n call (eqb-true _ _ t)) (move_of (pool_in x) call)) (λ _. same)

-- ---- a step

whole : {q q' : Pool} {n : ℕ} (m : Memory) {s : List ℕ} → q ≡ q' → n ≡ m.pages
    → ◌≡◌ {A = State} (record { pool = q; memory = record { pages = n; bytes = m.bytes; filled = m.filled; changed = m.changed }; store = s })
    (record { pool = q'; memory = m; store = s })
whole m e f = rw (e, f)

-- a tally in numbers
abbrev numbers_of : Tally → List ℕ
numbers_of t = t.hits ∷ t.joins ∷ t.admitted ∷ t.revived ∷ t.drops ∷ t.refused ∷ []

module _ (x : Server) (long : Long x) (c : ℕ) where
  abbrev h : Result
  h = held_on (state_in x) (Asks (Step c))

  step_room : Room x long h.state.pool
  unfolding held_on
  step_room = by_test (λ (o : Result). Room x long o.state.pool) (λ _. room x long x.pages (Step c)) (λ _. same x long)

  step_pages : h.state.memory.pages ≡ x.pages
  unfolding held_on
  step_pages = by_test (λ (o : Result). o.state.memory.pages ≡ x.pages) (λ _. after_pages (pool_in x) (state_in x).memory _) (λ _. refl)

-- ---- a read or write looks at clients and grants alone

module _ (x : Server) (p : Pool) (k : KeptBy p x) (c g : ℕ) where
  same_client : client p c ≡ client (pool_in x) c
  unfolding client
  same_client = rw (k.client_count, k.clients)

  same_grant : grant_of p c g ≡ grant_of (pool_in x) c g
  unfolding grant_of grant_page
  same_grant = rw (same_client, k.grant_pages)

  same_frame : held_frame p c g ≡ held_frame (pool_in x) c g
  unfolding grant_frame
  same_frame = rw (same_grant, same_client, k.grant_frames)

  same_number : (o : ℕ) (changed : List ℕ) →
      byte_held_refusal (state_from p x.pages x.frames.bytes x.frames.filled changed x.store) c g o ≡ byte_held_refusal (state_in x) c g o
  unfolding byte_held_refusal holder_fits refusal_at caller
  same_number o changed = rw (same_grant, same_client, k.client_count)

-- ---- one request

-- what a request on x, lent the numbers t, is answered and leaves
record Answered (x : Server) (t : List ℕ) (q : Request) : Type 0 where
  answer : ℕ
  left : Server
  tally : List ℕ
  allowed : Serves x t q answer left tally
  as_long : Long left

module _ (spans : Spans) (l : Loans) (x : Server) (long : Long x) (t : List ℕ) where
  read_answered : (c g o : ℕ) → Dec (byte_held_refusal (state_in x) c g o ≡ 0) → Answered x t (ReadByte c g o)
  read_answered c g o (yes z) =
      let f = held_frame (pool_in x) c g in
      let filled = marks_filled x.frames.filled x.pages f g in
      let bytes = bytes_filled x.frames.filled x.pages f g x.frames.bytes x.store in
      record {
        answer = word_of (Done (byte_in bytes f o));
        left = _;
        tally = t;
        allowed = read spans.reads l bytes filled (λ p changed k. reads _ c g o (same_number x p k c g o changed ∙ z) (sym (same_frame x p k c g)) refl refl refl refl);
        as_long = long;
      }
  read_answered c g o (no z) =
      record {
        answer = word_of (Refused (byte_held_refusal (state_in x) c g o));
        left = _;
        tally = t;
        allowed = read spans.reads l x.frames.bytes x.frames.filled (λ p changed k. read_turned _ c g o (same_number x p k c g o changed) z refl);
        as_long = long;
      }

  write_answered : (c g o v : ℕ) → Dec (byte_held_refusal (state_in x) c g o ≡ 0) → Answered x t (WriteByte c g o v)
  write_answered c g o v (yes z) =
      let f = held_frame (pool_in x) c g in
      let filled = marks_filled x.frames.filled x.pages f g in
      let bytes = bytes_filled x.frames.filled x.pages f g x.frames.bytes x.store in
      let frames : Frames = record { bytes = bytes_written bytes f o v; filled = filled; changed = marks_written x.frames.changed f o } in
      record {
        answer = word_of (Done g);
        left = _;
        tally = t;
        allowed = write spans.writes l frames (λ p k. writes _ c g o (same_number x p k c g o x.frames.changed ∙ z) (sym (same_frame x p k c g)) refl refl v refl refl refl);
        as_long = long;
      }
  write_answered c g o v (no z) =
      record {
        answer = word_of (Refused (byte_held_refusal (state_in x) c g o));
        left = _;
        tally = t;
        allowed = write spans.writes l x.frames (λ p k. write_turned _ c g o v (same_number x p k c g o x.frames.changed) z refl);
        as_long = long;
      }

  answered : (q : Request) → Answered x t q
  answered (Asks (Begin c g)) =
      let m = room x long x.pages (Begin c g) in
      record {
        answer = word_of (held_of (pool_in x) x.pages (Begin c g)).answer;
        left = with_books x m.books;
        tally = t;
        allowed = begin spans.calls l m.books (refl, m.holds);
        as_long = m.as_long;
      }
  answered (Asks (Release c g)) =
      let m = room x long 0 (Release c g) in
      record {
        answer = word_of (held_of (pool_in x) 0 (Release c g)).answer;
        left = with_books x m.books;
        tally = t;
        allowed = release spans.calls l m.books (refl, m.holds);
        as_long = m.as_long;
      }
  answered (Asks (Step c)) =
      let o = held_on (state_in x) (Asks (Step c)) in
      let m = step_room x long c in
      let f : Frames = record { bytes = o.state.memory.bytes; filled = o.state.memory.filled; changed = o.state.memory.changed } in
      record {
        answer = word_of o.answer;
        left = with_all x m.books f o.state.store;
        tally = numbers_of (tallied o.counted (tally_from t));
        allowed = step spans.steps l m.books f o.state.store 0 (duty_on (state_in x) c)
            (refl, whole o.state.memory m.holds (sym (step_pages x long c)), refl, refl);
        as_long = m.as_long;
      }
  answered (ReadByte c g o) = read_answered c g o (ℕ_discrete _ 0)
  answered (WriteByte c g o v) = write_answered c g o v (ℕ_discrete _ 0)

-- ---- a list

list_answered : Spans → Loans → (x : Server) → Long x → (t : List ℕ) (qs : List Request)
    → (rs : List ℕ) × (z : Server) × (u : List ℕ) × ServesAll OneTally x t qs rs z u × Long z
list_answered spans l x long t [] = ([], x, t, at_end, long)
list_answered spans l x long t (q ∷ qs) =
    let a = answered spans l x long t q in
    let more = list_answered spans l a.left a.as_long a.tally qs in
    (a.answer ∷ more.0, more.1, more.2, at_request refl a.allowed refl more.3, more.4)

-- ---- a setup

copies : ℕ → List ℕ → List ℕ
copies zero l = []
copies (suc n) l = l ++ copies n l

-- all clients at rest, as numbers
rest_bytes : List ℕ
rest_bytes = copies max_clients (client_bytes (resting 0))

rest_words : List ℕ
rest_words = copies max_clients (client_words (resting 0))

all_rest : clients_from rest_bytes rest_words ≡ replicate max_clients (resting 0)
unfolding clients_from client_from rest_bytes rest_words copies
all_rest = refl

module _ (s t c h : ℕ) (x : Server) where
  made : Server
  made =
      let p = fresh s t c h in
      let m = blank (length x.store / page_bytes) in
      record {
        size = s;
        clients = t;
        cap = c;
        pages = m.pages;
        books = record {
          hand = h;
          free = p.free;
          last = p.last;
          slots = p.slots;
          pages = p.pages;
          pins = p.pins;
          counts = p.counts;
          table_pages = p.table_pages;
          table_frames = p.table_frames;
          client_bytes = rest_bytes;
          client_words = rest_words;
          grant_pages = p.grant_pages;
          grant_frames = p.grant_frames;
        };
        frames = record { bytes = m.bytes; filled = m.filled; changed = m.changed };
        store = x.store;
      }

  made_long : Long made
  unfolding made rest_bytes rest_words copies
  made_long = (refl, refl)

  module _ (κs : Lfts 21) (l : Loans) where
    makes : accepted s t c h x.store ≡ true → SetupSays κs l s t c h x (word_of (Done s)) made
    unfolding made
    makes e = sets_up s t c h x.store (state_in x) e refl refl all_rest

    setup_answered : Long x → (b : Bool) → accepted s t c h x.store ≡ b
        → (r : ℕ) × (y : Server) × SetupSays κs l s t c h x r y × (y.store ≡ x.store) × Long y
    unfolding made
    setup_answered long true e = (word_of (Done s), made, makes e, refl, made_long)
    setup_answered long false e = (word_of (Refused 8), x, refuses s t c h x.store e refl, refl, long)

    is_accepted : numbers_ok s t c ≡ true → length_ok (length x.store) ≡ true → (y : Server) × Accepted x y × Long y
    unfolding made word_of code_of value_of
    is_accepted e f = (
      made,
      record {
        lifetimes = κs;
        loans = l;
        size = s;
        clients = t;
        cap = c;
        hand = h;
        answer = word_of (Done s);
        says = makes (both_yes _ _ e f);
        done = omega (arith, (numbers_in s t c e).slots);
        store = refl;
      },
      made_long,
    )

pub answerable : Answerable
answerable =
    record {
      setup = λ κs l s t c h x long. setup_answered s t c h x κs l long (accepted s t c h x.store) refl;
      accepted = λ κs l s t c h x e f. is_accepted s t c h x κs l e f;
      list = λ spans l x long t qs. list_answered spans l x long t qs;
    }

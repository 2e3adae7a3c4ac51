-- What each function for other languages promises, and how each way out of its code is that. Assumes nothing.
use Rattle.std.specs.Prelude.{Result as Outcome}
use Rattle.std.specs.Prelude.{◌≡◌, ◌≢◌, Bool, true, false, Ok, Err, List, ℕ, ◌*◌, ◌/◌, length, replicate}
use Rattle.std.proofs.Math.Path.{refl, sym, ap}
use Rattle.std.proofs.Common.{◌∙◌}
use borrow.Author.Tests.{eq-eqb, ne_eqb}
use Rattle.pool.specs.Choose.{choose, both, either}
use Rattle.pool.specs.Limits.{max_clients}
use Rattle.pool.specs.State.{none, number_of_clients, resting}
use Rattle.pool.specs.Calls.{fresh}
use Rattle.pool.specs.Valid.{numbers_ok, valid}
use Rattle.pool.specs.Tallies.{tallied}
use Rattle.pool.specs.declared.Answer.{Answer}
use Rattle.pool.specs.declared.Answer.TheVariants.{Done, Refused}
use Rattle.pool.specs.declared.Call.{Call}
use Rattle.pool.specs.declared.Call.TheVariants.{Step}
use Rattle.pool.specs.declared.Client.{Client}
use Rattle.pool.specs.declared.Counted.TheVariants.{Nothing}
use Rattle.pool.specs.declared.Pool.{Pool}
use Rattle.pool.specs.declared.Tally.{Tally}
use Rattle.pool.specs.declared.Write.TheVariants.{Keep}
use Rattle.laws.specs.Choices.{chosen, passed}
use Rattle.answers.specs.declared.refusal.Refusal.{Refusal}
use Rattle.memory.specs.Memory.{page_bytes, blank, memory_after, store_after}
use Rattle.memory.specs.Requests.{Request, Asks, ReadByte, WriteByte, State, Result, turned_back, lent, store_ok, length_ok, setup_on, held_frame, action_on}
use Rattle.memory.specs.declared.Memory.{Memory}
use Rattle.content.specs.Effects.{marks_after, bytes_after, store_in, replaced_in, replaced_of, memory_in_parts, store_in_parts}
use Rattle.content.specs.Filling.{bytes_filled, marks_filled, byte_in, bytes_written, marks_written}
use Rattle.content.specs.Acting.{reads_as, writes_as}
use Rattle.in_place.specs.Held.{Held, turned_away, held_of, byte_held_refusal, byte_held, held_on, held_state, duty_of, duty_on, state_from}
use Rattle.in_place.specs.Acts.{held_by, ActsTo, no_numbers}
use Rattle.in_place.specs.declared.acting.Acted.{Acted}
use Rattle.listing.specs.Listed.{HeldRows}
use Rattle.checks.specs.Checked.{checked_of}
use Rattle.play.specs.Parts.{pool_of}
use Rattle.served.specs.Words.{word_of}

-- SPECIFICATION 14.5: a setup from state x answers r and leaves state y: the pool that is set up, or x where it is refused
abbrev pub SetsUp : (s t c h : ℕ) → List ℕ → ℕ → State → State → Type 0
SetsUp s t c h store r x y =
    let o = setup_on s t c h store in
    (r ≡ word_of o.answer) × (y ≡ choose (both (numbers_ok s t c) (length_ok (length store))) o.state x)

-- a begin or release answers r and leaves pool q
abbrev pub CallsTo : Held → ℕ → Pool → Type 0
CallsTo h r q = (r ≡ word_of h.answer) × (q ≡ h.pool)

-- a step of client c from state x, lent tally t, answers r, and leaves tally u, duty d and state y
abbrev pub StepsTo : (c r : ℕ) → (t u : Tally) → (d : ℕ) → State → State → Type 0
StepsTo c r t u d x y =
    let h = held_on x (Asks (Step c)) in (r ≡ word_of h.answer) × (y ≡ h.state) × (u ≡ tallied h.counted t) × (d ≡ duty_on x c)

-- a read or write from state x answers r and leaves state y
abbrev pub BytesTo : Request → ℕ → State → State → Type 0
BytesTo q r x y = let h = held_on x q in (r ≡ word_of h.answer) × (y ≡ h.state)

-- holdings answer r and leave the numbers u
abbrev pub ListsTo : HeldRows → ℕ → List ℕ → Type 0
ListsTo h r u = (r ≡ word_of h.answer) × (u ≡ h.numbers)

-- the whole check 8 of a state
abbrev pub checked_state : State → Answer
checked_state x = checked_of x.pool x.memory x.store

-- S, T or C is out of range
pub no_numbers_checked : (x : State) → numbers_ok x.pool.size (number_of_clients x.pool) x.pool.cap ≡ false → checked_state x ≡ Refused 8
unfolding checked_of valid both choose
no_numbers_checked x e = rw e refl

-- a pool with other clients
abbrev pub with_clients : Pool → List Client → Pool
with_clients p clients =
    pool_of p.size p.client_count p.cap p.hand p.free p.last p.slots p.pages p.pins p.counts p.table_pages
    p.table_frames clients p.grant_pages p.grant_frames

-- ---- begin, release

pub calls_as : {h k : Held} {r : ℕ} {q : Pool} → h ≡ k → r ≡ word_of h.answer → q ≡ h.pool → CallsTo k r q
calls_as e f g = (f ∙ ap (λ (h : Held). word_of h.answer) e, g ∙ ap (λ (h : Held). h.pool) e)

left : (a : Outcome Acted Refusal) {q : Pool} → q ≡ (held_by a q).pool
left (Ok a) = refl
left (Err e) = refl

pub calls : {p : Pool} {n : ℕ} {call : Call} {a : Outcome Acted Refusal} {q : Pool} {r : ℕ} →
    ActsTo p n call a q → r ≡ word_of (held_by a q).answer → CallsTo (held_of p n call) r q
calls {a = a} t e = calls_as t.held e (left a)

-- S, T or C is out of range
pub calls_away : (p : Pool) (n : ℕ) (call : Call) {r : ℕ} → numbers_ok p.size (number_of_clients p) p.cap ≡ false → r ≡ word_of (Refused 8)
    → CallsTo (held_of p n call) r p
calls_away p n call e = calls (no_numbers p n call e)

-- ---- setup

module _ (s t c h : ℕ) (store : List ℕ) where
  abbrev pub accepted : Bool
  accepted = both (numbers_ok s t c) (length_ok (length store))

  pub refuses : {r : ℕ} {x : State} → accepted ≡ false → r ≡ word_of (Refused 8) → SetsUp s t c h store r x x
  unfolding setup_on
  refuses e f = (f ∙ sym (ap (λ (o : Result). word_of o.answer) (passed _ _ _ e)), sym (passed _ _ _ e))

  -- the pool's parts are stored one by one; of the clients it is known that all rest
  pub sets_up : (x : State) {r n : ℕ} {clients : List Client} → accepted ≡ true → r ≡ word_of (Done s) → n ≡ length store / page_bytes
      → clients ≡ replicate max_clients (resting 0)
      → SetsUp s t c h store r x (record { pool = with_clients (fresh s t c h) clients; memory = blank n; store = store })
  unfolding setup_on
  sets_up x e f g k = (
    f ∙ sym (ap (λ (o : Result). word_of o.answer) (chosen _ _ _ e)),
    rw (g, k) (sym (chosen _ _ _ e ∙ ap (λ (o : Result). o.state) (chosen _ _ _ e))),
  )

-- ---- step

module _ (x : State) (c : ℕ) where
  pub wrong_store : {t : Tally} {r d : ℕ} → length x.store ≢ page_bytes * x.memory.pages → r ≡ word_of (Refused 8) → d ≡ 0 → StepsTo c r t t d x x
  unfolding held_on duty_on store_ok lent either choose tallied
  wrong_store e f g = rw (ne_eqb _ _ e) (f, refl, refl, g)

  -- a call that does what a is, and leaves pool q
  module _ (long : length x.store ≡ page_bytes * x.memory.pages) (a : Acted) (q : Pool) (held : held_by (Ok a) q ≡ held_of x.pool x.memory.pages (Step c))
      (entry : a.entry ≡ replaced_of x.pool a.write) where
    abbrev p : Pool
    p = x.pool

    abbrev m : Memory
    m = x.memory

    abbrev h : Held
    h = held_of p m.pages (Step c)

    right_store : store_ok x (Asks (Step c)) ≡ true
    unfolding store_ok lent either choose
    right_store = eq-eqb _ _ long

    is_held : held_on x (Asks (Step c)) ≡ record { answer = h.answer; counted = h.counted; state = held_state x h }
    unfolding held_on
    is_held = chosen _ _ _ right_store

    wrote : a.write ≡ h.write
    wrote = ap (λ (o : Held). o.write) held

    memory_is : {bytes filled changed : List ℕ} → bytes ≡ bytes_after m.bytes a.entry a.write
        → filled ≡ marks_after m.filled a.entry a.write → changed ≡ marks_after m.changed a.entry a.write
        → record { pages = m.pages; bytes = bytes; filled = filled; changed = changed } ≡ memory_after p m h.write
    memory_is eb ef ec = rw (eb, ef, ec, entry) (memory_in_parts p m a.write) ∙ ap (memory_after p m) wrote

    store_is : {s : List ℕ} → s ≡ store_in m.pages m.bytes m.changed x.store a.entry a.write → s ≡ store_after p m x.store h.write
    store_is e = e ∙ rw entry (store_in_parts p m x.store a.write) ∙ ap (store_after p m x.store) wrote

    duty_is : {d : ℕ} → d ≡ duty_of a.entry a.write → d ≡ duty_on x c
    unfolding duty_on
    duty_is e = e ∙ rw (entry, wrote) refl ∙ sym (chosen _ _ _ right_store)

    pub steps : (t : Tally) {u : Tally} {r d : ℕ} {bytes filled changed s : List ℕ} → bytes ≡ bytes_after m.bytes a.entry a.write
        → filled ≡ marks_after m.filled a.entry a.write → changed ≡ marks_after m.changed a.entry a.write
        → s ≡ store_in m.pages m.bytes m.changed x.store a.entry a.write
        → u ≡ tallied a.counted t → d ≡ duty_of a.entry a.write → r ≡ word_of a.answer
        → StepsTo c r t u d x (record { pool = q; memory = record { pages = m.pages; bytes = bytes; filled = filled; changed = changed }; store = s })
    steps t eb ef ec es et ed er = (
      er ∙ ap (λ (o : Held). word_of o.answer) held ∙ sym (ap (λ (o : Result). word_of o.answer) is_held),
      whole (ap (λ (o : Held). o.pool) held) (memory_is eb ef ec) (store_is es) ∙ sym (ap (λ (o : Result). o.state) is_held),
      et ∙ ap (λ (o : Held). tallied o.counted t) held ∙ sym (ap (λ (o : Result). tallied o.counted t) is_held),
      duty_is ed,
    )
      where
        whole : {q q' : Pool} {m m' : Memory} {s s' : List ℕ} → q ≡ q' → m ≡ m' → s ≡ s'
            → ◌≡◌ {A = State} (record { pool = q; memory = m; store = s }) (record { pool = q'; memory = m'; store = s' })
        whole e f g = rw (e, f, g)

  -- a call that is turned down by n, and leaves pool q
  pub steps_away : (long : length x.store ≡ page_bytes * x.memory.pages) (n : ℕ) (q : Pool)
      → turned_away n q ≡ held_of x.pool x.memory.pages (Step c) → (t : Tally) {r d : ℕ} → r ≡ word_of (Refused n) → d ≡ 0
      → StepsTo c r t t d x (record { pool = q; memory = x.memory; store = x.store })
  unfolding bytes_after marks_after store_in replaced_in duty_of tallied
  steps_away long n q e t f g =
      steps long (record { answer = Refused n; counted = Nothing; write = Keep; entry = none }) q e refl t refl refl refl refl refl g f

-- ---- read, write

module _ (x : State) (c g o : ℕ) where
  turned : (q : Request) {n : ℕ} → byte_held_refusal x c g o ≡ n → n ≢ 0 → byte_held x q (byte_held_refusal x c g o) ≡ turned_back n x
  turned q e z = ap (byte_held x q) e ∙ passed _ _ _ (ne_eqb _ _ z)

  goes_on : (q : Request) → byte_held_refusal x c g o ≡ 0 → byte_held x q (byte_held_refusal x c g o) ≡ action_on x q
  goes_on q z = chosen _ _ _ (eq-eqb _ _ z)

  -- from what is done to what is promised
  done : {r : ℕ} {y : State} (a : Answer) {k : Result} (l : Result) → l ≡ k → r ≡ word_of a → record { answer = a; counted = Nothing; state = y } ≡ k
      → (r ≡ word_of l.answer) × (y ≡ l.state)
  done a l e f d = (f ∙ ap (λ (w : Result). word_of w.answer) (d ∙ sym e), ap (λ (w : Result). w.state) (d ∙ sym e))

  pub read_turned : {n r : ℕ} → byte_held_refusal x c g o ≡ n → n ≢ 0 → r ≡ word_of (Refused n) → BytesTo (ReadByte c g o) r x x
  unfolding held_on
  read_turned {n} e z f = done (Refused n) _ (turned (ReadByte c g o) e z) f refl

  pub write_turned : (v : ℕ) {n r : ℕ} → byte_held_refusal x c g o ≡ n → n ≢ 0 → r ≡ word_of (Refused n) → BytesTo (WriteByte c g o v) r x x
  unfolding held_on
  write_turned v {n} e z f = done (Refused n) _ (turned (WriteByte c g o v) e z) f refl

  -- f is the frame of the client's grant
  module _ (z : byte_held_refusal x c g o ≡ 0) {f : ℕ} (h : f ≡ held_frame x.pool c g) {bytes filled : List ℕ}
      (eb : bytes ≡ bytes_filled x.memory.filled x.memory.pages f g x.memory.bytes x.store)
      (em : filled ≡ marks_filled x.memory.filled x.memory.pages f g) where
    pub reads : {r v : ℕ} → v ≡ byte_in bytes f o → r ≡ word_of (Done v)
        → BytesTo (ReadByte c g o) r x (state_from x.pool x.memory.pages bytes filled x.memory.changed x.store)
    unfolding held_on
    reads {v = v} ev e = done (Done v) _ (goes_on (ReadByte c g o) z) e (reads_as x c g o h eb em ev)

    pub writes : (v : ℕ) {r : ℕ} {bytes' changed : List ℕ} → bytes' ≡ bytes_written bytes f o v → changed ≡ marks_written x.memory.changed f o
        → r ≡ word_of (Done g)
        → BytesTo (WriteByte c g o v) r x (state_from x.pool x.memory.pages bytes' filled changed x.store)
    unfolding held_on
    writes v eb' ec e = done (Done g) _ (goes_on (WriteByte c g o v) z) e (writes_as x c g o h eb em v eb' ec)

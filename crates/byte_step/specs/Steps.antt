-- A step of a pool that has bytes, as the code puts it together. Assumes nothing.
use Rattle.std.proofs.Math.Path.{◌≡◌, refl, sym}
use Rattle.std.proofs.Common.{ap, subst, ◌∙◌, eq-eqb, ne_eqb}
use Rattle.std.specs.Prelude.{◌≢◌, true, false, List, ℕ, ◌*◌, length, Result, Ok, Err}
use Rattle.pool.specs.Choose.{choose, both, either}
use Rattle.pool.specs.Valid.{valid}
use Rattle.pool.specs.Answers.{refusal_of}
use Rattle.pool.specs.Tallies.{tallied}
use Rattle.pool.specs.declared.Answer.{Answer}
use Rattle.pool.specs.declared.Answer.TheVariants.{Refused}
use Rattle.pool.specs.declared.Call.TheVariants.{Step}
use Rattle.pool.specs.declared.Counted.{Counted}
use Rattle.pool.specs.declared.Pool.{Pool}
use Rattle.pool.specs.declared.Tally.{Tally}
use Rattle.answers.specs.Among.{Among}
use Rattle.answers.specs.Numbers.{refusal_number}
use Rattle.answers.specs.Refusals.{by_step}
use Rattle.answers.specs.declared.refusal.Refusal.{Refusal}
use Rattle.answers.specs.declared.refusal.Refusal.TheVariants.{OutOfRange}
use Rattle.memory.specs.Memory.{page_bytes, memory_after, store_after}
use Rattle.memory.specs.Requests.{Asks, turned_back, bytes_ok, lent, store_ok, outside_at, write_of, action_on, call_on, state_of, tallying}
use Rattle.memory.specs.Requests.{Result as Left}
use Rattle.memory.specs.declared.BufferPool.{BufferPool}
use Rattle.memory.specs.declared.Memory.{Memory}
use Rattle.memory.specs.declared.Tallied.{Tallied}
use Rattle.content.specs.Effects.{replaced_of, marks_after, bytes_after, store_in, memory_in_parts, store_in_parts}
use Rattle.checked.specs.Ways.{made_of}
use Rattle.checked.specs.declared.Made.{Made}
use Rattle.buffered.specs.Ways.{sound, Passes, unsound, wrong_store, asks}
use Rattle.buffered.specs.Refusals.{step_refusals}

-- what a step leaves, by why it is refused, or else what it answers and is counted as, and by pool and store after it
abbrev pub left : Result (Answer × Counted) Refusal → BufferPool → List ℕ → Left
left (Ok a) b s = record { answer = a.0; counted = a.1; state = state_of b s }
left (Err e) b s = turned_back (refusal_number e) (state_of b s)

-- refused by 8
abbrev pub turned_tally : BufferPool → Tally → Tallied
turned_tally b t = record { answer = Refused 8; tally = t; pool = b }

-- what a step promises of its result and of the store that it leaves
abbrev pub StepsTo : BufferPool → ℕ → Tally → List ℕ → Tallied → List ℕ → Type 0
StepsTo b c t s r left =
    ((r ≡ tallying t (call_on (state_of b s) (Asks (Step c)))) × (left ≡ (call_on (state_of b s) (Asks (Step c))).state.store))
    × Among by_step (refusal_of r.answer)

-- ---- by what is left of pool and store

module _ (b : BufferPool) (c : ℕ) (s : List ℕ) where
  -- ---- refused by 8

  pub left_unsound : {e : Refusal} → (e ≡ OutOfRange) × (sound b ≡ false) → left (Err e) b s ≡ call_on (state_of b s) (Asks (Step c))
  left_unsound h = rw (h.0) (sym (unsound (state_of b s) (Asks (Step c)) h.1))

  pub left_not_long : length s ≢ page_bytes * b.memory.pages → left (Err OutOfRange) b s ≡ call_on (state_of b s) (Asks (Step c))
  unfolding store_ok lent either choose
  left_not_long n = sym (wrong_store (state_of b s) (Asks (Step c)) (ne_eqb _ _ n))

  -- ---- the action

  -- of what the call made of the pool, and the frame of the entry that its write replaced
  module _ {q : Pool} (h : Passes q b) (long : length s ≡ page_bytes * b.memory.pages) {made : Made} (em : made ≡ made_of q (Step c))
      {e : ℕ} (ee : e ≡ replaced_of b.pool made.write) where
    acts : call_on (state_of b s) (Asks (Step c)) ≡ action_on (state_of b s) (Asks (Step c))
    unfolding outside_at store_ok lent either choose
    acts = asks (state_of b s) (Step c) h.1 (eq-eqb _ _ long) refl

    abbrev m : Memory
    m = b.memory

    made_is : made ≡ made_of b.pool (Step c)
    made_is = em ∙ ap (λ (p : Pool). made_of p (Step c)) h.0

    write_is : made.write ≡ write_of b.pool (Step c)
    write_is = ap (λ (y : Made). y.write) made_is

    memory_is : {bytes filled changed : List ℕ} → bytes ≡ bytes_after m.bytes e made.write
        → filled ≡ marks_after m.filled e made.write → changed ≡ marks_after m.changed e made.write
        → record { pages = m.pages; bytes = bytes; filled = filled; changed = changed } ≡ memory_after b.pool m (write_of b.pool (Step c))
    memory_is eb ef ec = rw (eb, ef, ec, ee) (memory_in_parts b.pool m made.write) ∙ ap (memory_after b.pool m) write_is

    store_is : {t : List ℕ} → t ≡ store_in m.pages m.bytes m.changed s e made.write → t ≡ store_after b.pool m s (write_of b.pool (Step c))
    store_is es = es ∙ rw ee (store_in_parts b.pool m s made.write) ∙ ap (store_after b.pool m s) write_is

    pub left_step : {bytes filled changed t : List ℕ} → bytes ≡ bytes_after m.bytes e made.write → filled ≡ marks_after m.filled e made.write
        → changed ≡ marks_after m.changed e made.write → t ≡ store_in m.pages m.bytes m.changed s e made.write
        → left (Ok (made.answer, made.counted))
        (record { pool = made.pool; memory = record { pages = m.pages; bytes = bytes; filled = filled; changed = changed } }) t
        ≡ call_on (state_of b s) (Asks (Step c))
    unfolding action_on
    left_step eb ef ec es = simp (memory_is eb ef ec, store_is es, made_is) (sym acts)

-- ---- with the tally

module _ (b : BufferPool) (c : ℕ) (t : Tally) (s : List ℕ) where
  few : {r : Tallied} {left : List ℕ} → r ≡ tallying t (call_on (state_of b s) (Asks (Step c)))
      → left ≡ (call_on (state_of b s) (Asks (Step c))).state.store → StepsTo b c t s r left
  few e f = ((e, f), subst (λ (z : Tallied). Among by_step (refusal_of z.answer)) (sym e) (step_refusals (state_of b s) c))

  -- of what is left of pool and store
  pub counts : {a : Answer} {k : Counted} {q : BufferPool} {l : List ℕ} → left (Ok (a, k)) q l ≡ call_on (state_of b s) (Asks (Step c))
      → {u : Tally} → u ≡ tallied k t → StepsTo b c t s (record { answer = a; tally = u; pool = q }) l
  counts {a} {k} {q} e f =
      let its : Tally → Tallied = λ u. record { answer = a; tally = u; pool = q } in
      few (ap its f ∙ ap (tallying t) e) (ap (λ (o : Left). o.state.store) e)

  pub counts_not : (n : Refusal) {q : BufferPool} {l : List ℕ} → left (Err n) q l ≡ call_on (state_of b s) (Asks (Step c))
      → {a : Answer} → a ≡ Refused (refusal_number n) → StepsTo b c t s (record { answer = a; tally = t; pool = q }) l
  unfolding tallied
  counts_not n {q} e f =
      let its : Answer → Tallied = λ a. record { answer = a; tally = t; pool = q } in
      few (ap its f ∙ ap (tallying t) e) (ap (λ (o : Left). o.state.store) e)

  -- ---- refused by 8

  refused : call_on (state_of b s) (Asks (Step c)) ≡ turned_back 8 (state_of b s) → {r : Tallied} → r ≡ turned_tally b t → StepsTo b c t s r s
  unfolding tallied
  refused e f = few (f ∙ sym (ap (tallying t) e)) (sym (ap (λ (o : Left). o.state.store) e))

  pub not_sound : both (valid b.pool) (bytes_ok b.pool b.memory) ≡ false → {r : Tallied} → r ≡ turned_tally b t → StepsTo b c t s r s
  not_sound e = refused (unsound (state_of b s) (Asks (Step c)) e)

  pub not_long : length s ≢ page_bytes * b.memory.pages → {r : Tallied} → r ≡ turned_tally b t → StepsTo b c t s r s
  not_long e = refused (sym (left_not_long b c s e))

  -- ---- the action

  module _ (passes : both (valid b.pool) (bytes_ok b.pool b.memory) ≡ true) (long : length s ≡ page_bytes * b.memory.pages) where
    -- what the call wrote, and the frame of the entry that it replaced
    module _ {made : Made} (em : made ≡ made_of b.pool (Step c)) {e : ℕ} (ee : e ≡ replaced_of b.pool made.write) where
      pub steps : {bytes filled changed left : List ℕ} {u : Tally}
          → bytes ≡ bytes_after b.memory.bytes e made.write → filled ≡ marks_after b.memory.filled e made.write
          → changed ≡ marks_after b.memory.changed e made.write → left ≡ store_in b.memory.pages b.memory.bytes b.memory.changed s e made.write
          → u ≡ tallied made.counted t
          → StepsTo b c t s
          (record {
            answer = made.answer;
            tally = u;
            pool = record { pool = made.pool; memory = record { pages = b.memory.pages; bytes = bytes; filled = filled; changed = changed } };
          })
          left
      steps eb ef ec es eu = counts (left_step b c s (refl, passes) long em ee eb ef ec es) eu

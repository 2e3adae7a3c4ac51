-- What a call in place comes to, by what its code has tested. Assumes nothing.
use Rattle.std.specs.Prelude.{◌≡◌, Bool, true, false, List, ℕ, ◌<◌, ◌≤◌, leb, Result, Ok, Err, IfOk, IfErr}
use Rattle.std.proofs.Common.{◌∙◌, sym, ap, refl, arith, le-ltb, lt-ltb, le-leb}
use Rattle.pool.specs.Limits.{max_held, max_pins}
use Rattle.pool.specs.Choose.{choose, both, either, every}
use Rattle.pool.specs.State.{none, pinned, number_of_clients, total, resting, pins, client, within}
use Rattle.pool.specs.Valid.{numbers_ok}
use Rattle.pool.specs.Apply.{apply}
use Rattle.pool.specs.Calls.{caller, turned_by, move_of}
use Rattle.pool.specs.declared.Call.{Call}
use Rattle.pool.specs.declared.Client.{Client}
use Rattle.pool.specs.declared.Move.{Move}
use Rattle.pool.specs.declared.Pool.{Pool}
use Rattle.laws.specs.Choices.{chosen, passed}
use Rattle.laws.specs.Elements.{client_in}
use Rattle.laws.specs.Scans.{both_yes}
use Rattle.ranges.specs.Ranges.{Numbers, numbers_in}
use Rattle.answers.specs.declared.refusal.Refusal.{Refusal}
use Rattle.answers.specs.declared.refusal.Refusal.TheVariants.{OutOfRange, NoSuchClient}
use Rattle.answers.specs.Numbers.{refusal_number}
use Rattle.memory.specs.Orders.{order_some, order_alone}
use Rattle.memory.specs.Requests.{in_order, outside_at}
use Rattle.content.specs.Effects.{replaced_of}
use Rattle.play.specs.Decides.{Decides}
use Rattle.in_place.specs.Held.{Held, client_fits, search_fits, fits, held_refusal, held_of, turned_away}
use Rattle.in_place.specs.Refused.{some_number}
use Rattle.in_place.specs.declared.acting.Acted.{Acted}

-- no client of the first n of a list has more than eight grants
abbrev pub helds : List Client → ℕ → Bool
helds clients n = every (λ c. leb (client_in clients n c).held max_held) n

-- what a call that is answered so does, and leaves pool q
abbrev pub held_by : Result Acted Refusal → Pool → Held
held_by (Ok a) q = record { answer = a.answer; counted = a.counted; write = a.write; pool = q }
held_by (Err r) q = turned_away (refusal_number r) q

-- a call of pool p beside a store of n pages returns r and leaves pool q, as the definition has it
pub record ActsTo (p : Pool) (n : ℕ) (call : Call) (r : Result Acted Refusal) (q : Pool) : Type 0 where
  pub held : held_by r q ≡ held_of p n call
  pub entry : IfOk r (λ a. a.entry ≡ replaced_of p a.write)

-- m is the move of a call that nothing turns down
pub record IsMove (p : Pool) (n : ℕ) (call : Call) (m : Move) : Type 0 where
  pub client : caller call < number_of_clients p
  pub refused : held_refusal p n call ≡ 0
  pub move : m ≡ move_of p call

-- ---- what a call comes to

module _ (p : Pool) (n : ℕ) (call : Call) where
  pub away : (e : Refusal) → held_refusal p n call ≡ refusal_number e → ActsTo p n call (Err e) p
  unfolding held_of
  away e h = record { held = sym (rw h (passed _ _ _ (some_number e))); entry = tt }

  -- the move that nothing turns down, put into the pool
  pub moved : (m : Move) (q : Pool) → held_refusal p n call ≡ 0 → m ≡ move_of p call → q ≡ apply p (caller call) m
      → record { answer = m.answer; counted = m.counted; write = m.write; pool = q } ≡ held_of p n call
  unfolding held_of choose
  moved m q h e f = rw (h, f, e) refl

  pub acts : {m : Move} {e : ℕ} {q : Pool} → IsMove p n call m → e ≡ replaced_of p m.write → q ≡ apply p (caller call) m
      → ActsTo p n call (Ok (record { answer = m.answer; counted = m.counted; write = m.write; entry = e })) q
  acts i ee eq = record { held = moved _ _ i.refused i.move eq; entry = ee }

  -- ---- refused by 8

  by_fits : fits p (caller call) ≡ false → held_refusal p n call ≡ 8
  unfolding held_refusal
  by_fits e = passed _ _ _ e

  unfit : fits p (caller call) ≡ false → ActsTo p n call (Err OutOfRange) p
  unfit e = away OutOfRange (by_fits e)

  abbrev k : Client
  k = client p (caller call)

  pub no_numbers : numbers_ok p.size (number_of_clients p) p.cap ≡ false → ActsTo p n call (Err OutOfRange) p
  unfolding fits both choose
  no_numbers e = unfit (rw e refl)

  module _ (numbers : numbers_ok p.size (number_of_clients p) p.cap ≡ true) where
    pub by_client : client_fits p.size (pins p k.found) k ≡ false → held_refusal p n call ≡ 8
    unfolding fits both choose
    by_client e = by_fits (rw (numbers, e) refl)

    pub no_client_fits : client_fits p.size (pins p k.found) k ≡ false → ActsTo p n call (Err OutOfRange) p
    no_client_fits e = away OutOfRange (by_client e)

    -- ---- refused by 9

    in_range : Numbers p.size (number_of_clients p) p.cap
    in_range = numbers_in p.size (number_of_clients p) p.cap numbers

    nobody : number_of_clients p ≤ caller call → k ≡ resting 0
    unfolding client
    nobody h = passed _ _ _ (le-ltb _ _ h)

    nobody_pins : pins p none ≡ 0
    unfolding pins within
    nobody_pins = let r = in_range in passed _ _ _ (le-ltb none (total p) (omega (arith, r.slots, r.clients)))

    nobody_fits : number_of_clients p ≤ caller call → fits p (caller call) ≡ true
    unfolding fits search_fits client_fits either choose
    nobody_fits h =
        let r = in_range in
        rw (numbers, nobody h, nobody_pins)
        (both_yes _ _ refl (both_yes _ _
        (both_yes _ _ (lt-ltb _ _ r.some_slot) (both_yes _ _ (lt-ltb _ _ r.some_slot) (both_yes _ _ (le-leb 0 max_held (omega arith)) (le-leb 0 (pinned max_pins) (omega arith)))))
        refl))

    pub by_9 : number_of_clients p ≤ caller call → held_refusal p n call ≡ 9
    unfolding held_refusal
    by_9 h =
        chosen _ _ _ (nobody_fits h) ∙ ap (λ (t : ℕ). in_order t (outside_at n call)) (passed _ _ _ (le-ltb _ _ h))
        ∙ order_some 9 _ (λ z. let y : ⊥ = omega arith in y) (λ z. let y : ⊥ = omega arith in y)

    pub no_such : number_of_clients p ≤ caller call → ActsTo p n call (Err NoSuchClient) p
    no_such h = away NoSuchClient (by_9 h)

    module _ (its : client_fits p.size (pins p k.found) k ≡ true) where
      pub by_search : search_fits p k ≡ false → held_refusal p n call ≡ 8
      unfolding fits both choose
      by_search e = by_fits (rw (numbers, its, e) refl)

      pub no_search : search_fits p k ≡ false → ActsTo p n call (Err OutOfRange) p
      no_search e = away OutOfRange (by_search e)

      module _ (searches : search_fits p k ≡ true) where
        all_fits : fits p (caller call) ≡ true
        unfolding fits both choose
        all_fits = rw (numbers, its, searches) refl

        pub by_number : held_refusal p n call ≡ in_order (turned_by p call) (outside_at n call)
        unfolding held_refusal
        by_number = chosen _ _ _ all_fits

        -- ---- refused by 16, or by what comes before it

        pub outside : outside_at n call ≡ 16 → {t : ℕ} {e : Refusal} → t ≡ turned_by p call → refusal_number e ≡ in_order t 16 → ActsTo p n call (Err e) p
        outside o f g = away _ (by_number ∙ rw (o, ← f) (sym g))

        -- ---- the turn

        module _ (within : outside_at n call ≡ 0) (h : caller call < number_of_clients p) where
          number : held_refusal p n call ≡ turned_by p call
          number = by_number ∙ order_alone _ _ within

          pub turned_away_by : (r : Result Move Refusal) → Decides p call r → IfErr r (λ e. ActsTo p n call (Err e) p)
          turned_away_by (Ok m) d = tt
          turned_away_by (Err e) d = away e (number ∙ d)

          pub moves_on : (r : Result Move Refusal) → Decides p call r → IfOk r (IsMove p n call)
          moves_on (Ok m) d = record { client = h; refused = number ∙ d.0; move = d.1 }
          moves_on (Err e) d = tt

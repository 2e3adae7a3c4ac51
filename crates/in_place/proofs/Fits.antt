-- A client that fits can act. Assumes nothing.
use Rattle.std.specs.Prelude.{◌≡◌, true, List, ℕ, ◌<◌, ◌≤◌}
use Rattle.std.proofs.Common.{subst}
use borrow.Author.Tests.{leb-true, ltb-true}
use Rattle.pool.specs.Limits.{max_held, max_pins}
use Rattle.pool.specs.State.{pinned, pins}
use Rattle.pool.specs.declared.Client.{Client}
use Rattle.laws.specs.Scans.{both_true}
use Rattle.books.specs.declared.reading.Books.{Books}
use Rattle.books.specs.Books.{pool_in}
use Rattle.play.specs.Playable.{CanAct}
use Rattle.in_place.specs.Held.{client_fits}

module _ (size its_pins : ℕ) (k : Client) (fit : client_fits size its_pins k ≡ true) where
  record Fitting : Type 0 where
    place : k.place < size
    busy : k.busy < size
    held : k.held ≤ max_held
    pins : its_pins ≤ pinned max_pins

  fitting : Fitting
  unfolding client_fits
  fitting =
      let a = both_true _ _ fit in
      let b = both_true _ _ a.1 in
      let d = both_true _ _ b.1 in
      record { place = ltb-true _ _ a.0; busy = ltb-true _ _ b.0; held = leb-true _ _ d.0; pins = leb-true _ _ d.1 }

  pub few_held : k.held ≤ max_held
  few_held = fitting.held

  -- of books with this size, whatever clients stand beside them
  pub decidable : (b : Books) → size ≡ b.numbers.size → ((clients : List Client) → its_pins ≡ pins (pool_in b clients) k.found) → CanAct b k
  decidable b e f =
      record {
        busy = subst (λ (n : ℕ). k.busy < n) e fitting.busy;
        held = few_held;
        pins = λ clients. subst (λ (n : ℕ). n ≤ pinned max_pins) (f clients) fitting.pins;
      }

-- The ways out of `collect` and of `holdings`: which refusal it is, or none, and what is left of the lent numbers. Assumes nothing.
use Rattle.std.proofs.Common.{◌≡◌, true, ℕ, ◌*◌, ◌<◌, ◌≤◌, List, ◌++◌, length, get_or, drop, refl, ap, sym, ◌∙◌, lt-ltb, le-ltb, le-leb, arith}
use Rattle.std.proofs.lemmas.Bool.{lt-leb}
use Rattle.pool.specs.Limits.{max_clients, max_held}
use Rattle.pool.specs.Choose.{choose, both}
use Rattle.pool.specs.State.{no_client, number_of_clients}
use Rattle.pool.specs.Holdings.{rows_of}
use Rattle.pool.specs.declared.Answer.{Answer}
use Rattle.pool.specs.declared.Answer.TheVariants.{Done, Refused}
use Rattle.pool.specs.declared.Client.{Client}
use Rattle.pool.specs.declared.Pool.{Pool}
use Rattle.pool.specs.declared.Row.{Row}
use Rattle.laws.specs.Elements.{page_of}
use Rattle.answers.specs.Numbers.{refusal_number}
use Rattle.answers.specs.declared.refusal.Refusal.{Refusal}
use Rattle.holdings.specs.Refusals.{numbered}
use Rattle.holdings.specs.Rows.{rows_at}
use Rattle.holdings.specs.ReadRows.{held_in, same_held, same_rows}
use Rattle.client_arrays.specs.Arrays.{client_from, clients_from, client_from_lem}
use Rattle.in_place.specs.Held.{holder_fits}
use Rattle.listing.specs.Listed.{row_numbers, listing_refusal, held_listing, may_list, nobody_held}

-- ---- of `collect`

module _ (p : Pool) (c room : ℕ) where
  pub many_clients : max_clients < number_of_clients p → 8 ≡ listing_refusal p c room
  unfolding listing_refusal holder_fits both choose
  many_clients h = rw (lt-leb (number_of_clients p) max_clients h) refl

  module _ (few : number_of_clients p ≤ max_clients) where
    pub no_such_client : number_of_clients p ≤ c → 9 ≡ listing_refusal p c room
    unfolding listing_refusal choose
    no_such_client h = rw (may_list p c few (nobody_held p c h), le-ltb c (number_of_clients p) h) refl

    -- of a client that the pool has, where it lies
    module _ (h : c < number_of_clients p) (bytes words : List ℕ) (there : p.clients ≡ clients_from bytes words) {k : Client} (read : k ≡ client_from bytes words c) where
      held_read : held_in p c ≡ k.held
      held_read = let low : c < max_clients = omega arith in ap (λ (l : List Client). (get_or l c no_client).held) there ∙ ap (λ (k : Client). k.held) (client_from_lem bytes words c low ∙ sym read)

      pub many_held : max_held < k.held → 8 ≡ listing_refusal p c room
      unfolding listing_refusal holder_fits both choose
      many_held m = rw (le-leb (number_of_clients p) max_clients few, same_held p c h, held_read, lt-leb k.held max_held m) refl

      -- with the rows that were gathered
      module _ (less : k.held ≤ max_held) {pages : List ℕ} (grants : p.grant_pages ≡ pages) {rows : List Row} (made : rows ≡ rows_at (page_of pages c) k.held) where
        gathered : rows ≡ rows_of p c
        gathered = rw (← same_rows p c h, held_read, grants) made

        fits : holder_fits p c ≡ true
        fits = may_list p c few (rw (same_held p c h, held_read) less)

        pub few_rows : room < 2 * length rows → 14 ≡ listing_refusal p c room
        unfolding listing_refusal choose
        few_rows short = rw (fits, lt-ltb _ _ h, lt-leb _ _ (rw gathered at short)) refl

        pub enough : 2 * length rows ≤ room → (0 ≡ listing_refusal p c room) × (rows ≡ rows_of p c)
        unfolding listing_refusal choose
        enough le = (rw (fits, lt-ltb _ _ h, le-leb _ _ (rw gathered at le)) refl, gathered)

-- ---- of `holdings`

module _ (p : Pool) (c : ℕ) (lent : List ℕ) where
  abbrev pub Leaves : Answer → List ℕ → Type 0
  Leaves r left = let h = held_listing p c lent in (r ≡ h.answer) × (left ≡ h.numbers)

  pub lists : 0 ≡ listing_refusal p c (length lent) → {rows : List Row} → rows ≡ rows_of p c
      → Leaves (Done (length rows)) (row_numbers rows ++ drop (2 * length rows) lent)
  unfolding held_listing choose
  lists none all = rw (← none, all) (refl, refl)

  pub away : (r : Refusal) → refusal_number r ≡ listing_refusal p c (length lent) → Leaves (Refused (refusal_number r)) lent
  unfolding held_listing choose
  away r e = rw (← e, numbered r) (refl, refl)

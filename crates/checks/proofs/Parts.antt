-- A test of several parts, as `&&` makes it one after the other; and the parts of check 8. Assumes nothing.
use Rattle.std.proofs.Common.{◌≡◌, ◌≢◌, ◌∙◌, sym, ap, refl, ℕ, ◌<◌, Bool, true, false, List, [], get_or, Option, Some, None, unwrap_or, nat_eq, ne_eqb}
use Rattle.std.specs.Option.{option_eq}
use lib.Dec.{leb}
use Rattle.pool.specs.Choose.{choose, both, every}
use Rattle.pool.specs.State.{none, no_client, total, within, evicted, slot, pins, count, entry_page, entry_frame, grant_page, grant_frame}
use Rattle.pool.specs.Table.{maps, entry_of}
use Rattle.pool.specs.Grants.{grant_of}
use Rattle.pool.specs.Valid.{numbers_ok, frame_ok, state_ok, counts_ok, names_ok, client_ok, valid}
use Rattle.pool.specs.declared.Client.{Client}
use Rattle.pool.specs.declared.Pool.{Pool}
use Rattle.laws.specs.Choices.{passed}
use Rattle.laws.specs.Elements.{client_of_pool}
use Rattle.books.specs.Books.{pool_in}
use Rattle.books.specs.Lists.{maps_in, entry_in, grant_in}
use Rattle.books.specs.Lent.{pool_lent}
use Rattle.books.specs.declared.parts.Parts.{Parts}
use Rattle.books.specs.declared.reading.Books.{Books}
use Rattle.checks.specs.Places.{entry_ok_in, entries_ok_in, grant_ok_in, grants_ok_in}

-- ---- b is the test a as the code made it

module _ {a b : Bool} (rest : Bool) (e : b ≡ a) where
  pub fails : b ≡ false → b ≡ both a rest
  unfolding both choose
  fails f = rw (← e, f)

  pub holds : b ≡ true → rest ≡ both a rest
  unfolding both choose
  holds t = rw (← e, t)

-- what a search found, compared with a place
pub is_place : (o : Option ℕ) (i : ℕ) {first : ℕ} → i ≢ none → unwrap_or o none ≡ first → option_eq nat_eq o (Some i) ≡ nat_eq first i
is_place (Some k) i z e = rw e refl
is_place None i z e = rw (← e) (sym (ne_eqb none i (λ w. z (sym w))))

-- `&&` groups its tests from the left, the definitions from the right
pub regroup : (t u rest : Bool) → both (both t u) rest ≡ both t (both u rest)
unfolding both choose
regroup true u rest = refl
regroup false u rest = refl

-- ---- the parts

module _ (b : Books) (clients : List Client) where
  abbrev p : Pool
  p = pool_in b clients

  pub client_is : (c : ℕ) → c < b.numbers.client_count → let k = get_or clients c no_client in
      both (both (counts_ok k b.numbers.size) (names_ok k (total p))) (grants_ok_in b.grant_pages.now b.grant_frames.now c k.held (total p)) ≡ client_ok p c
  unfolding client_ok grants_ok_in grant_ok_in grant_in grant_of grant_frame grant_page
  client_is c h =
      regroup _ _ _
      ∙ ap (λ (k : Client). both (counts_ok k b.numbers.size) (both (names_ok k (total p)) (grants_ok_in b.grant_pages.now b.grant_frames.now c k.held (total p))))
      (sym (client_of_pool p c h))

  abbrev pub slots_of : Bool
  slots_of = every (λ i. frame_ok (total p) (within b.slots.now b.numbers.size none i)) b.numbers.size

  abbrev pub states_of : Bool
  states_of = every (λ f. state_ok b.numbers.cap (within b.pins.now (total p) evicted f) (within b.counts.now (total p) 0 f)) (total p)

  abbrev pub entries_of : Bool
  entries_of = entries_ok_in b.table_pages.now b.table_frames.now (total p)

  abbrev from_slots : Bool
  from_slots = both slots_of (both states_of (both entries_of (every (client_ok p) b.numbers.client_count)))

  past_numbers : numbers_ok b.numbers.size b.numbers.client_count b.numbers.cap ≡ true → both (both (leb b.free b.numbers.size) (frame_ok (total p) b.last)) from_slots ≡ valid p
  unfolding valid slot pins count entries_ok_in entry_ok_in entry_in maps_in entry_of maps entry_page entry_frame
  past_numbers h = holds _ refl h

  pub valid_is :
      numbers_ok b.numbers.size b.numbers.client_count b.numbers.cap ≡ true →
      both (both (both (both (both (leb b.free b.numbers.size) (frame_ok (total p) b.last)) slots_of) states_of) entries_of)
      (every (client_ok p) b.numbers.client_count) ≡ valid p
  valid_is h = regroup _ _ _ ∙ regroup _ _ _ ∙ regroup _ _ _ ∙ past_numbers h

-- ---- parts with any numbers

pub in_range_of : (b : Books) (parts : Parts) → ((clients : List Client) → pool_in b clients ≡ pool_lent parts clients) →
    numbers_ok parts.size parts.client_count parts.cap ≡ true → numbers_ok b.numbers.size b.numbers.client_count b.numbers.cap ≡ true
in_range_of b parts same e = ap (λ (p : Pool). numbers_ok p.size p.client_count p.cap) (same []) ∙ e

pub out_of_range : (p : Pool) → numbers_ok p.size p.client_count p.cap ≡ false → valid p ≡ false
unfolding valid both
out_of_range p e = passed _ _ _ e

-- The parts of check 8 of the bytes. Assumes nothing.
use Rattle.std.proofs.Common.{◌≡◌, ◌≢◌, ◌∙◌, sym, ap, refl, ℕ, ◌<◌, ◌≤◌, Bool, true, false, not, ◌&&◌, List, get_or, nat_eq, eq-eqb, ne_eqb, le-leb, arith}
use Rattle.std.proofs.Math.Decide.{ℕ_discrete}
use Rattle.pool.specs.Limits.{max_frames}
use Rattle.pool.specs.Choose.{choose, both, either, every}
use Rattle.pool.specs.State.{no_client, number_of_clients, total, page, entry_page, client, grant_page, of_client}
use Rattle.pool.specs.Valid.{valid}
use Rattle.pool.specs.declared.Client.{Client}
use Rattle.pool.specs.declared.Pool.{Pool}
use Rattle.laws.specs.Elements.{client_of_pool}
use Rattle.laws.specs.Scans.{both_yes, every_yes}
use Rattle.ranges.specs.Ranges.{ranged}
use Rattle.books.specs.Named.{FewGrants}
use Rattle.memory.specs.Memory.{max_pages, mark, is_filled, is_changed}
use Rattle.memory.specs.Marks.{mark_on, mark_off}
use Rattle.memory.specs.Requests.{inside, entry_inside, client_inside, pages_inside, unmarked_at, marks_ok, bytes_ok}
use Rattle.memory.specs.declared.Memory.{Memory}

-- a pool that passes check 8 has few grants of each client
pub few_grants : (p : Pool) → valid p ≡ true → FewGrants (number_of_clients p) p.clients
few_grants p v =
    let r = ranged p v in
    record { room = r.numbers.clients; each = λ c h. rw (client_of_pool p c h) at ((r.client c h).counts.held) }

-- ---- pool, bytes and store together

pub passed_both : {a b : Bool} → a ≡ true → b ≡ true → ◌≡◌ {A = ℕ} 0 (choose (both a b) 0 8)
unfolding both choose
passed_both s t = rw (s, t) refl

pub failed_first : {a : Bool} (b : Bool) → a ≡ false → ◌≡◌ {A = ℕ} 8 (choose (both a b) 0 8)
unfolding both choose
failed_first b s = rw s refl

pub failed_second : {a b : Bool} → a ≡ true → b ≡ false → ◌≡◌ {A = ℕ} 8 (choose (both a b) 0 8)
unfolding both choose
failed_second s t = rw (s, t) refl

-- ---- marks

-- as books.proofs.First has it, which is not handed to other crates
both_is : (a b : Bool) → both a b ≡ a && b
unfolding both choose
both_is true b = refl
both_is false b = refl

off : (l : List ℕ) (f : ℕ) → f < max_frames → not (mark l f) ≡ nat_eq (get_or l f 0) 0
off l f low = by_mark (ℕ_discrete (get_or l f 0) 0)
  where
    by_mark : Dec (get_or l f 0 ≡ 0) → not (mark l f) ≡ nat_eq (get_or l f 0) 0
    by_mark (yes e) = ap not (mark_off l f low e) ∙ sym (eq-eqb _ _ e)
    by_mark (no z) = ap not (mark_on l f low z) ∙ sym (ne_eqb _ _ z)

pub both_off : (filled changed : List ℕ) (f : ℕ) → f < max_frames →
    both (not (mark filled f)) (not (mark changed f)) ≡ nat_eq (get_or filled f 0) 0 && nat_eq (get_or changed f 0) 0
both_off filled changed f low =
    both_is _ _ ∙ ap (λ a. a && not (mark changed f)) (off filled f low) ∙ ap (λ b. nat_eq (get_or filled f 0) 0 && b) (off changed f low)

-- ---- a client that is there, from its record

pub inside_is : (p : Pool) (n c : ℕ) → c < number_of_clients p → let k = get_or p.clients c no_client in
    both (either (nat_eq k.stage 0) (inside n k.page)) (every (λ i. inside n (of_client p.grant_pages c k.held 0 i)) k.held) ≡ client_inside p n c
unfolding client_inside grant_page
inside_is p n c h =
    ap (λ (k : Client). both (either (nat_eq k.stage 0) (inside n k.page)) (every (λ i. inside n (of_client p.grant_pages c k.held 0 i)) k.held))
    (sym (client_of_pool p c h))

-- ---- a pool without a store: every page is inside it

outer : (g : ℕ) → inside 0 g ≡ true
unfolding inside either choose
outer g = refl

either_way : (t a : Bool) → a ≡ true → either t a ≡ true
unfolding either choose
either_way true a e = refl
either_way false a e = e

all_inside : (p : Pool) → pages_inside p 0 ≡ true
unfolding pages_inside entry_inside client_inside
all_inside p =
    both_yes _ _ (every_yes _ (total p) (λ f _. outer (page p f)))
    (both_yes _ _ (every_yes _ (total p) (λ i _. either_way _ _ (outer (entry_page p i))))
    (every_yes _ (number_of_clients p)
    (λ c _. both_yes _ _ (either_way _ _ (outer (client p c).page)) (every_yes _ (client p c).held (λ i _. outer (grant_page p c i))))))

-- ---- the cases, of a memory with so many pages and these marks

pub with_store : (p : Pool) (m : Memory) → m.pages ≢ 0 → m.pages ≤ max_pages → pages_inside p m.pages ≡ bytes_ok p m
unfolding bytes_ok both marks_ok either choose
with_store p m some few = sym (rw (le-leb _ _ few, ne_eqb _ _ some) (alone (pages_inside p m.pages)))
  where
    alone : (a : Bool) → choose a true false ≡ a
    alone true = refl
    alone false = refl

pub without_store : (p : Pool) (m : Memory) → m.pages ≡ 0 → every (λ f. both (not (mark m.filled f)) (not (mark m.changed f))) (total p) ≡ bytes_ok p m
unfolding bytes_ok both marks_ok either choose unmarked_at is_filled is_changed
without_store p m e = sym (rw (e, le-leb 0 max_pages (omega arith), all_inside p, eq-eqb 0 0 refl) refl)

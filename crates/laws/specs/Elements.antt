-- The pool's guarded reads at a place in range, where the guard falls away: an element of the first n of a list, a grant of a client's first n,
-- a client of the first n; and what is read compared with a number. Assumes nothing.
use Rattle.std.specs.Prelude.{◌≡◌, true, false, List, ℕ, ◌<◌, eqb, ltb, get_or}
use Rattle.std.proofs.Common.{sym, ◌∙◌, lt-ltb, eq-eqb, ne_eqb}
use Rattle.pool.specs.Choose.{choose}
use Rattle.pool.specs.State.{no_client, number_of_clients, resting, within, of_client, grant_place, client}
use Rattle.pool.specs.declared.Client.{Client}
use Rattle.pool.specs.declared.Pool.{Pool}
use Rattle.laws.specs.Choices.{chosen}

pub element : (l : List ℕ) (n d i : ℕ) → i < n → within l n d i ≡ get_or l i 0
unfolding within
element l n d i h = chosen _ _ _ (lt-ltb i n h)

pub grant_element : (l : List ℕ) (c n d i : ℕ) → i < n → of_client l c n d i ≡ get_or l (grant_place c i) 0
unfolding of_client
grant_element l c n d i h = chosen _ _ _ (lt-ltb i n h)

-- the page of client c's grant i, in the list of all grants' pages
abbrev pub page_of : List ℕ → ℕ → ℕ → ℕ
page_of pages c i = get_or pages (grant_place c i) 0

-- client c of the first n of a list
unfoldable pub client_in : List Client → ℕ → ℕ → Client
client_in l n c = choose (ltb c n) (get_or l c no_client) (resting 0)

pub client_element : (l : List Client) (n c : ℕ) → c < n → client_in l n c ≡ get_or l c no_client
unfolding client_in
client_element l n c h = chosen _ _ _ (lt-ltb c n h)

pub client_of_pool : (p : Pool) (c : ℕ) → c < number_of_clients p → client p c ≡ get_or p.clients c no_client
unfolding client client_in
client_of_pool p c h = client_element p.clients (number_of_clients p) c h

-- ---- what is read, x, compared with a number v, and the definition's y compared with it

pub reads_as : {x y v : ℕ} → y ≡ x → x ≡ v → eqb y v ≡ true
reads_as e same = eq-eqb _ _ (e ∙ same)

pub reads_other : {x y v : ℕ} → y ≡ x → (x ≡ v → ⊥) → eqb y v ≡ false
reads_other e other = ne_eqb _ _ (λ same. other (sym e ∙ same))

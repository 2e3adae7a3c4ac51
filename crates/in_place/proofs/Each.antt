-- The definition's `every` over the first clients of a list is the library's `list_all`. Assumes nothing.
use Rattle.std.proofs.Common.{◌≡◌, ◌∙◌, sym, ap, refl, ℕ, suc, ◌+◌, ◌<◌, ◌≤◌, Bool, true, false, not, ◌&&◌, List, [], ◌∷◌, length, get_or, take, arith, ne_eqb}
use Rattle.std.specs.Prelude.{leb}
use Rattle.std.specs.List.{list_all}
use Rattle.std.proofs.lemmas.List.{get_or-take, length-take-le}
use Rattle.pool.specs.Limits.{max_held}
use Rattle.pool.specs.State.{no_client, number_of_clients, client}
use Rattle.pool.specs.Choose.{choose, either, scan}
use Rattle.pool.specs.declared.Client.{Client}
use Rattle.pool.specs.declared.Pool.{Pool}
use Rattle.laws.specs.Elements.{client_in, client_element}
use Rattle.in_place.specs.Held.{search_fits}
use Rattle.in_place.specs.Acts.{helds}

and_is : (a b : Bool) → choose (not a) false b ≡ a && b
unfolding choose
and_is true b = refl
and_is false b = refl

-- from place i on
all_scan : (test : ℕ → Bool) (q : Client → Bool) (xs : List Client) (i : ℕ) → ((j : ℕ) → j < length xs → test (i + j) ≡ q (get_or xs j no_client)) →
    scan (λ i. not (test i)) (λ _. false) true i (length xs) ≡ list_all q xs
unfolding scan
all_scan test q [] i e = refl
all_scan test q (x ∷ xs) i e =
    let here : test i ≡ q x = ap test (omega arith) ∙ e 0 (omega arith) in
    let rest = all_scan test q xs (i + 1) (λ j b. ap test (omega arith) ∙ e (suc j) (omega arith)) in
    and_is (test i) (scan (λ i. not (test i)) (λ _. false) true (i + 1) (length xs))
    ∙ ap (λ a. a && scan (λ i. not (test i)) (λ _. false) true (i + 1) (length xs)) here ∙ ap (λ b. q x && b) rest

pub helds_is : (l : List Client) (n : ℕ) → n ≤ length l → helds l n ≡ list_all (λ k. leb k.held max_held) (take n l)
helds_is l n h =
    let long = length-take-le n l h in
    let fits : Client → Bool = λ k. leb k.held max_held in
    ap (λ k. scan (λ c. not (fits (client_in l n c))) (λ _. false) true 0 k) (sym long)
    ∙ all_scan (λ c. fits (client_in l n c)) fits (take n l) 0
    (λ j b.
    let lt : j < n = omega (arith, long) in
    ap (λ c. fits (client_in l n c)) (omega arith) ∙ ap fits (client_element l n j lt ∙ sym (get_or-take n l j no_client lt)))

-- the test before the search
pub search_of : (p : Pool) (k : Client) → k.stage ≡ 4 → search_fits p k ≡ helds p.clients (number_of_clients p)
unfolding search_fits either choose client client_in
search_of p k e = rw e refl

pub no_search : (p : Pool) (k : Client) → (k.stage ≡ 4 → ⊥) → search_fits p k ≡ true
unfolding search_fits either choose
no_search p k z = rw (ne_eqb k.stage 4 z) refl

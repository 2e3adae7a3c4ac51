-- The definitions' `some` over the first numbers of a list is the library's `list_any`; and who names a frame, thing by thing. Assumes nothing.
use Rattle.std.proofs.Common.{◌≡◌, ◌∙◌, sym, ap, refl, ℕ, suc, ◌+◌, ◌*◌, ◌<◌, ◌≤◌, Bool, true, false, ◌||◌, List, [], ◌∷◌, length, get_or, take, drop, arith, nat_eq, length-drop}
use Rattle.std.specs.List.{list_any}
use Rattle.std.proofs.lemmas.List.{get_or-take, get_or-drop, length-take-le}
use Rattle.pool.specs.Choose.{choose, either, scan, some}
use Rattle.pool.specs.State.{none, no_client, within, of_client, number_of_clients, total, slot, entry_frame, grant_frame}
use Rattle.pool.specs.Grants.{holds}
use Rattle.pool.specs.Frames.{names, referenced}
use Rattle.pool.specs.declared.Pool.{Pool}
use Rattle.pool.specs.declared.Client.{Client}
use Rattle.laws.specs.Elements.{element, grant_element, client_of_pool}
use Rattle.books.specs.Named.{names_in}

either_is : (a b : Bool) → choose a true b ≡ a || b
unfolding choose
either_is true b = refl
either_is false b = refl

-- from place i on
any_scan : (test : ℕ → Bool) (q : ℕ → Bool) (xs : List ℕ) (i : ℕ) → ((j : ℕ) → j < length xs → test (i + j) ≡ q (get_or xs j 0)) →
    scan test (λ _. true) false i (length xs) ≡ list_any q xs
unfolding scan
any_scan test q [] i e = refl
any_scan test q (x ∷ xs) i e =
    let here : test i ≡ q x = ap test (omega arith) ∙ e 0 (omega arith) in
    let rest = any_scan test q xs (i + 1) (λ j b. ap test (omega arith) ∙ e (suc j) (omega arith)) in
    either_is (test i) (scan test (λ _. true) false (i + 1) (length xs)) ∙ ap (λ a. a || scan test (λ _. true) false (i + 1) (length xs)) here ∙ ap (λ b. q x || b) rest

pub some_is : (l : List ℕ) (n d f : ℕ) → n ≤ length l → some (λ i. nat_eq (within l n d i) f) n ≡ list_any (λ x. nat_eq x f) (take n l)
some_is l n d f h =
    let long = length-take-le n l h in
    ap (λ k. scan (λ i. nat_eq (within l n d i) f) (λ _. true) false 0 k) (sym long)
    ∙ any_scan (λ i. nat_eq (within l n d i) f) (λ x. nat_eq x f) (take n l) 0
    (λ j b.
    let lt : j < n = omega (arith, long) in
    ap (λ i. nat_eq (within l n d i) f) (omega arith) ∙ ap (λ x. nat_eq x f) (element l n d j lt ∙ sym (get_or-take n l j 0 lt)))

pub grants_are : (l : List ℕ) (c n f : ℕ) → 8 * c + n ≤ length l → some (λ i. nat_eq (of_client l c n none i) f) n ≡ list_any (λ x. nat_eq x f) (take n (drop (8 * c) l))
grants_are l c n f h =
    let part = drop (8 * c) l in
    let long : length (take n part) ≡ n = length-take-le n part (omega (arith, length-drop (8 * c) l)) in
    ap (λ k. scan (λ i. nat_eq (of_client l c n none i) f) (λ _. true) false 0 k) (sym long)
    ∙ any_scan (λ i. nat_eq (of_client l c n none i) f) (λ x. nat_eq x f) (take n part) 0
    (λ j b.
    let lt : j < n = omega (arith, long) in
    ap (λ i. nat_eq (of_client l c n none i) f) (omega arith)
    ∙ ap (λ x. nat_eq x f) (grant_element l c n none j lt ∙ sym (get_or-take n part j 0 lt ∙ get_or-drop (8 * c) l j 0)))

-- ---- who names a frame

-- of a client that is there, from its record
pub names_is : (p : Pool) (f c : ℕ) (k : Client) → c < number_of_clients p → get_or p.clients c no_client ≡ k → names p f c ≡ names_in k p.grant_frames c f
unfolding names_in names holds grant_frame
names_is p f c k h e = ap (λ k. names_in k p.grant_frames c f) (client_of_pool p c h ∙ e)

-- where no slot and no entry does
pub rest_named : (p : Pool) (f : ℕ) → some (λ i. nat_eq (slot p i) f) p.size ≡ false → some (λ i. nat_eq (entry_frame p i) f) (total p) ≡ false →
    referenced p f ≡ some (names p f) (number_of_clients p)
unfolding referenced either choose
rest_named p f a b = rw (a, b)

pub slot_named : (p : Pool) (f : ℕ) → some (λ i. nat_eq (slot p i) f) p.size ≡ true → true ≡ referenced p f
unfolding referenced either choose
slot_named p f a = rw a

pub entry_named : (p : Pool) (f : ℕ) → some (λ i. nat_eq (slot p i) f) p.size ≡ false → some (λ i. nat_eq (entry_frame p i) f) (total p) ≡ true → true ≡ referenced p f
unfolding referenced either choose
entry_named p f a b = rw (a, b)

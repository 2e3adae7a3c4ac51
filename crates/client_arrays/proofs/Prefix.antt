-- A loop that sets a list's elements one after the other to another list's. Assumes nothing.
use Rattle.std.proofs.Common.{◌≡◌, ◌∙◌, sym, refl, ℕ, ◌+◌, ◌<◌, ◌≤◌, List, length, get_or, set, take}
use Rattle.std.proofs.lemmas.List.{take_more, take_more_set, take_all}

pub one_more : {A : Type 0} (l ys : List A) (c : ℕ) (k d : A) → c < length l → c < length ys → take c l ≡ take c ys → k ≡ get_or ys c d
    → take (c + 1) (set l c k) ≡ take (c + 1) ys
one_more l ys c k d h b so_far e = take_more_set l c k h ∙ rw (so_far, e) refl ∙ sym (take_more ys c d b)

pub whole : {A : Type 0} (l ys : List A) (c : ℕ) → length l ≤ c → length ys ≤ c → take c l ≡ take c ys → l ≡ ys
whole l ys c h b e = sym (take_all c l h) ∙ e ∙ take_all c ys b

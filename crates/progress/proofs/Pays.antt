-- A client of a reached pool makes a move, and the rank falls, in one of two ways: nobody else sees the move, and the client is nearer to its grant
-- (`unseen`); or the move spoils what others have read, and the client pays a toll for it (`spoils`). Assumes nothing.
use mathlib.Core.Path.{◌≡◌, sym, ap, subst, ◌∙◌}
use mathlib.Core.Logic.{◌≢◌}
use Prim.Native.Nat.{ℕ, ◌+◌, ◌-◌, ◌*◌, ◌≤◌, ◌<◌}
use native.Mathlib.Omega.{arith}
use native.Mathlib.Nat.{mul-le-mul_left}
use lib.Dec.{T}
use Rattle.pool.specs.State.{total, client}
use Rattle.pool.specs.Apply.{free_after, apply}
use Rattle.pool.specs.declared.Pool.{Pool}
use Rattle.pool.specs.declared.Client.{Client}
use Rattle.pool.specs.declared.Move.{Move}
use Rattle.pool.specs.declared.Write.TheVariants.{PutFree}
use Rattle.invariant.proofs.After.{client_same, client_other}
use Rattle.invariant.proofs.Writes.{keeps_table}
use Rattle.invariant.proofs.Sums.{sum_below, sum_rise}
use Rattle.progress.proofs.Rank.{detour, toll, rank_at, client_rank, frame_rank, frames, rank_of, rank}
use Rattle.progress.proofs.Weights.{lowered, toll_is}
use Rattle.progress.proofs.Clients.{client_spoilt}
use Rattle.progress.proofs.Writes.{Acting, actor, Lightens, Unseen, frame_after, free_after_lem, client_after, table_terms}

module _ {p : Pool} {c : ℕ} (act : Acting p c) where
  open actor act use {here, r, s, t}

  module _ (m : Move) where
    abbrev q : Pool
    q = apply p c m

    each_frame : Lightens act m.write → (f : ℕ) → f < total p → frame_rank s t q f ≤ frame_rank s t p f
    each_frame h = frame_after act m m.write h

    free_less : Lightens act m.write → toll s t * q.free ≤ toll s t * p.free
    unfolding apply
    free_less h = mul-le-mul_left (toll s t) (free_after_lem act m m.write h)

    pub frames_kept : Lightens act m.write → frames s t q + 0 ≤ frames s t p
    frames_kept h = omega (arith, free_less h, sum_below (frame_rank s t q) (frame_rank s t p) (s + 2 * t) (each_frame h))

    -- one of them weighs x less
    pub frames_one : (f x : ℕ) → f < total p → frame_rank s t q f + x ≤ frame_rank s t p f → Lightens act m.write → frames s t q + x ≤ frames s t p
    frames_one f x l e h =
        omega (arith, e, free_less h, sum_rise (frame_rank s t p) (frame_rank s t q) (s + 2 * t) f 0 l (λ g i _. omega (arith, each_frame h g i)))

    -- a free slot less
    pub frames_free : m.write ≡ PutFree (p.free - 1) → p.free ≢ 0 → frames s t q + toll s t ≤ frames s t p
    unfolding apply free_after
    frames_free e z =
        let light : Lightens act m.write = rw e (let l : p.free - 1 ≤ p.free = omega arith in l) in
        let free : free_after p.free m.write ≡ p.free - 1 = ap (free_after p.free) e in
        let less : toll s t * free_after p.free m.write + toll s t ≡ toll s t * p.free =
        ap (λ (x : ℕ). toll s t * x + toll s t) free ∙ lowered (toll s t) p.free z in
        omega (arith, less, sum_below (frame_rank s t q) (frame_rank s t p) (s + 2 * t) (each_frame light))

    -- the frames' part falls by x, each other client's rises by at most b, and the client that acts pays for it: so the rank falls by z
    changes : (i x b z : ℕ) → (client p c).stage ≡ i → frames s t q + x ≤ frames s t p
        → ((d : ℕ) → d ≢ c → client_rank s t q (client p d) ≤ client_rank s t p (client p d) + b)
        → client_rank s t q m.next + b * t + z ≤ rank_at s t p i (client p c) + x + b → rank q + z ≤ rank p
    unfolding rank_of apply
    changes i x b z e fr others own =
        let at : client_rank s t p (client p c) ≡ rank_at s t p i (client p c) = ap (λ (j : ℕ). rank_at s t p j (client p c)) e in
        let mine : client_rank s t q (client q c) ≡ client_rank s t q m.next =
        ap (λ (n : Client). client_rank s t q n) (client_same p c m r.shape here) in
        let sum = sum_rise (λ d. client_rank s t p (client p d)) (λ d. client_rank s t q (client q d)) t c b here
        (λ d _ n. subst (λ (k : Client). client_rank s t q k ≤ client_rank s t p (client p d) + b) (sym (client_other p c m d n)) (others d n)) in
        omega (arith, fr, own, at, mine, sum)

    -- client k does not see the move
    abbrev pub NotSeen : Client → Type 0
    NotSeen k = Unseen act m k m.write

    not_seen : (i : ℕ) (k : Client) → NotSeen k → rank_at s t q i k ≤ rank_at s t p i k
    not_seen i k = client_after act m i k m.write

    pub unseen : (i x z : ℕ) → (client p c).stage ≡ i → frames s t q + x ≤ frames s t p → ((d : ℕ) → NotSeen (client p d)) → NotSeen m.next
        → client_rank s t p m.next + z ≤ rank_at s t p i (client p c) + x → rank q + z ≤ rank p
    unseen i x z e fr others mine own =
        changes i x 0 z e fr (λ d _. omega (arith, not_seen (client p d).stage (client p d) (others d)))
        (omega (arith, own, not_seen m.next.stage m.next mine))

    pub spoils : (i x : ℕ) → (client p c).stage ≡ i → T (keeps_table m.write) → frames s t q + x ≤ frames s t p
        → client_rank s t q m.next + toll s t < rank_at s t p i (client p c) + x → rank q + 1 ≤ rank p
    spoils i x e h fr own =
        changes i x (detour s) 1 e fr
        (λ d _. client_spoilt s t p q (client p d).stage (client p d)
        (table_terms act m m.write h (client p d).stage (client p d)))
        (omega (arith, own, toll_is s t r.shape.clients_low))

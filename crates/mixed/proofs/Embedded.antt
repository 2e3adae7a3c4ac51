-- A list with reads and writes that has a list of calls in it: without reads, writes and begins that 16 turned down its events are those of the calls.
-- Where each of these stands in the longer list, which properties go there and back, and that both tally alike. Assumes nothing.
use mathlib.Core.Path.{◌≡◌, refl, sym, ap, subst, ◌∙◌}
use mathlib.Core.Logic.{◌⊎◌, inl, inr}
use mathlib.Core.List.{List, [], ◌∷◌}
use Prim.Native.Nat.{ℕ, zero, suc, ◌≤◌, ◌<◌}
use native.Mathlib.Omega.{arith}
use native.Mathlib.Decide.{dec_lt}
use Rattle.pool.specs.Tallies.{tallied}
use Rattle.pool.specs.declared.Call.{Call}
use Rattle.pool.specs.declared.Call.TheVariants.{Begin}
use Rattle.pool.specs.declared.Answer.TheVariants.{Refused}
use Rattle.pool.specs.declared.Tally.{Tally}
use Rattle.pool.specs.declared.Counted.{Counted}
use Rattle.guarantee.specs.Runs.{Event, At, along, IsCall}
use Rattle.guarantee.specs.Claims.{tally_of}
use Rattle.memory.specs.Requests.{Request, Asks, ReadByte, WriteByte}
use Rattle.memory.specs.Happenings.{Happening}
use Rattle.mixed.specs.Mixed.{event_at, of_call, OfCall, amid, IsByte, LeavesPool, tally_on}

-- a begin that 16 turned down
pub record Idle (e : Event) : Type 0 where
  pub client_of : ℕ
  pub page : ℕ
  pub asked : e.asked ≡ Begin client_of page
  pub answer : e.answer ≡ Refused 16
  pub leaves : e.next ≡ e.before

pub record Skipped (h : Happening) : Type 0 where
  pub leaves : LeavesPool h
  pub kind : IsByte h.asked ⊎ ((c : ℕ) × (g : ℕ) × (h.asked ≡ Asks (Begin c g)) × (h.answer ≡ Refused 16))

pub data Embedded : List Happening → List Event → Type 0 where
  ends : Embedded [] []
  skips : {h : Happening} {hs : List Happening} {es : List Event} → Skipped h → Embedded hs es → Embedded (h ∷ hs) es
  keeps : {h : Happening} {hs : List Happening} {e : Event} {es : List Event} (call : Call) → h.asked ≡ Asks call → event_at h call ≡ e
      → Embedded hs es → Embedded (h ∷ hs) (e ∷ es)

-- where event n of the calls stands
unfoldable pub up : {hs : List Happening} {es : List Event} → Embedded hs es → ℕ → ℕ
up ends n = n
up (skips _ s) n = suc (up s n)
up (keeps _ _ _ s) zero = 0
up (keeps _ _ _ s) (suc n) = suc (up s n)

-- ---- the order stays

pub up_less : {hs : List Happening} {es : List Event} (s : Embedded hs es) (m n : ℕ) → m < n → up s m < up s n
unfolding up
up_less ends m n h = h
up_less (skips _ s) m n h = let r = up_less s m n h in omega arith
up_less (keeps _ _ _ s) m zero h = absurd (let y : ⊥ = omega arith in y)
up_less (keeps _ _ _ s) zero (suc n) h = omega arith
up_less (keeps _ _ _ s) (suc m) (suc n) h = let r = up_less s m n (omega arith) in omega arith

module _ {hs : List Happening} {es : List Event} (s : Embedded hs es) (m n : ℕ) where
  pub up_le_back : up s m ≤ up s n → m ≤ n
  up_le_back h =
      elim (dec_lt n m) [ yes l ↦ absurd (let r = up_less s n m l in let y : ⊥ = omega arith in y) | no l ↦ omega arith ]

  pub up_le : m ≤ n → up s m ≤ up s n
  up_le h =
      elim (dec_lt m n) [
        | yes l ↦ let r = up_less s m n l in omega arith
        | no l ↦ let e : m ≡ n = omega arith in let r : up s m ≡ up s n = ap (up s) e in omega arith
      ]

  pub up_less_back : up s m < up s n → m < n
  up_less_back h =
      let l = up_le_back (omega arith) in
      elim (dec_lt m n) [
        | yes k ↦ k
        | no k ↦ absurd (let e : m ≡ n = omega arith in let r : up s m ≡ up s n = ap (up s) e in let y : ⊥ = omega arith in y)
      ]

-- ---- properties go there and back

no_byte : (P : Event → Type 0) (h : Happening) (r : Request) → IsByte r → of_call P h r → ⊥
unfolding of_call IsByte
no_byte P h (Asks call) b w = b
no_byte P h (ReadByte c g o) b w = w
no_byte P h (WriteByte c g o v) b w = w

module _ (P : Event → Type 0) where
  -- a call that is skipped is a begin that 16 turned down
  skipped_idle : (h : Happening) → Skipped h → OfCall P h → (e : Event) × Idle e × P e
  unfolding of_call
  skipped_idle h k w =
      elim k.kind [
        | inl b ↦ absurd (no_byte P h h.asked b w)
        | inr (c, g, a, b) ↦
            (event_at h (Begin c g), record { client_of = c; page = g; asked = refl; answer = b; leaves = k.leaves.0 }, subst (of_call P h) a w)
      ]

  skipped_has : ((e : Event) → Idle e → P e) → (h : Happening) → Skipped h → OfCall (λ _. Unit {0}) h → OfCall P h
  unfolding of_call
  skipped_has idles h k w =
      elim k.kind [
        | inl b ↦ absurd (no_byte (λ _. Unit {0}) h h.asked b w)
        | inr (c, g, a, b) ↦
            subst (of_call P h) (sym a)
            (idles (event_at h (Begin c g)) (record { client_of = c; page = g; asked = refl; answer = b; leaves = k.leaves.0 }))
      ]

  kept_to : (h : Happening) (call : Call) (e : Event) → h.asked ≡ Asks call → event_at h call ≡ e → OfCall P h → P e
  unfolding of_call
  kept_to h call e a b w = subst P b (subst (of_call P h) a w)

  kept_from : (h : Happening) (call : Call) (e : Event) → h.asked ≡ Asks call → event_at h call ≡ e → P e → OfCall P h
  unfolding of_call
  kept_from h call e a b w = subst (of_call P h) (sym a) (subst P (sym b) w)

  pub at_up : {hs : List Happening} {es : List Event} (s : Embedded hs es) (n : ℕ) → along es P n → amid hs P (up s n)
  unfolding At up
  at_up ends n a = absurd a
  at_up (skips _ s) n a = at_up s n a
  at_up (keeps {h} {hs} {e} x i j s) zero a = kept_from h x e i j a
  at_up (keeps _ _ _ s) (suc n) a = at_up s n a

  pub at_back : {hs : List Happening} {es : List Event} (s : Embedded hs es) (n : ℕ) → amid hs P (up s n) → along es P n
  unfolding At up
  at_back ends n a = absurd a
  at_back (skips _ s) n a = at_back s n a
  at_back (keeps {h} {hs} {e} x i j s) zero a = kept_to h x e i j a
  at_back (keeps _ _ _ s) (suc n) a = at_back s n a

  -- an event of the longer list is one of the calls, at some place, or was turned down by 16
  pub data From {hs : List Happening} {es : List Event} (s : Embedded hs es) (n : ℕ) : Type 0 where
    of_calls : (m : ℕ) → up s m ≡ n → along es P m → From s n
    idle : (e : Event) → Idle e → P e → From s n

  pub at_from : {hs : List Happening} {es : List Event} (s : Embedded hs es) (n : ℕ) → amid hs P n → From s n
  unfolding At up
  at_from ends n a = absurd a
  at_from (skips {h} k s) zero a = let i = skipped_idle h k a in idle i.0 i.1 i.2
  at_from (skips k s) (suc n) a = elim (at_from s n a) [ of_calls m e w ↦ of_calls m (ap suc e) w | idle e i w ↦ idle e i w ]
  at_from (keeps {h} {hs} {e} x i j s) zero a = of_calls 0 refl (kept_to h x e i j a)
  at_from (keeps x i j s) (suc n) a = elim (at_from s n a) [ of_calls m e w ↦ of_calls (suc m) (ap suc e) w | idle e i w ↦ idle e i w ]

  -- what every such begin has and every call of the list, each call of the longer one has
  pub at_each : ((e : Event) → Idle e → P e) → {hs : List Happening} {es : List Event} → Embedded hs es
      → ((m : ℕ) → IsCall (along es) m → along es P m) → (n : ℕ) → IsCall (amid hs) n → amid hs P n
  unfolding At
  at_each idles ends f n a = absurd a
  at_each idles (skips {h} k s) f zero a = skipped_has idles h k a
  at_each idles (skips k s) f (suc n) a = at_each idles s f n a
  at_each idles (keeps {h} {hs} {e} x i j s) f zero a = kept_from h x e i j (f 0 tt)
  at_each idles (keeps x i j s) f (suc n) a = at_each idles s (λ m w. f (suc m) w) n a

-- ---- the tally

pub tally_same : {hs : List Happening} {es : List Event} → Embedded hs es → (t : Tally) → tally_on t hs ≡ tally_of t es
unfolding tally_on tally_of tallied
tally_same ends t = refl
tally_same (skips {h} {hs} k s) t = ap (λ (u : Counted). tally_on (tallied u t) hs) k.leaves.1 ∙ tally_same s t
tally_same (keeps {h} {hs} {e} x i j s) t =
    ap (λ (u : Counted). tally_on (tallied u t) hs) (ap (λ (y : Event). y.counted) j) ∙ tally_same s (tallied e.counted t)

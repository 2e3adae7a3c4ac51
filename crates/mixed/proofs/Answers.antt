-- Of every state, a handed one too: each answer is listed or 8, a refusal by another number than 15 changes nothing, and 15 puts its client to rest and
-- changes nothing else. A kept state never answers 8. Assumes nothing.
use mathlib.Core.Path.{◌≡◌, refl, sym, ap, subst, ◌∙◌}
use mathlib.Core.Logic.{◌≢◌, ◌⊎◌, inl, inr}
use Prim.Native.Nat.{ℕ}
use lib.Dec.{T}
use Rattle.pool.specs.Choose.{member}
use Rattle.pool.specs.Answers.{refusal_of}
use Rattle.pool.specs.State.{resting, client}
use Rattle.pool.specs.Calls.{refusal}
use Rattle.pool.specs.declared.Pool.{Pool}
use Rattle.pool.specs.declared.Call.{Call}
use Rattle.pool.specs.declared.Call.TheVariants.{Begin, Step, Release}
use Rattle.pool.specs.declared.Answer.{Answer}
use Rattle.pool.specs.declared.Answer.TheVariants.{Refused}
use Rattle.pool.specs.declared.Counted.TheVariants.{Nothing, Refusal}
use Rattle.laws.specs.Choices.{by_test}
use Rattle.invariant.proofs.StageTests.{differ}
use Rattle.invariant.proofs.Allowed.{refusal_not_15}
use Rattle.invariant.proofs.Calls.{refusal_not_8}
use Rattle.guarantee.specs.Claims.{Listed, with_client}
use Rattle.guarantee.proofs.TurnedDown.{same_answer, other_answer}
use Rattle.guarantee.proofs.Listed.{not_8}
use Rattle.guarantee.proofs.Guaranteed.{guarantee}
use Rattle.memory.specs.Requests.{Request, Asks, ReadByte, WriteByte, State, Result, first_of, byte_refusal, turned_away_by, refusal_on, action_on}
use Rattle.memory.specs.Requests.{call_on}
use Rattle.contents.proofs.Kept.{Kept}
use Rattle.contents.proofs.Passed.{call_turned}
use Rattle.contents.proofs.Refusals.{refusals_keep}
use Rattle.mixed.specs.Mixed.{IsByte, byte_numbers, ListedOn, ClaimListedOn, ClaimTurnedDownOn, ClaimRefusedOn}
use Rattle.mixed.proofs.Passes.{turned_away}
use Rattle.mixed.proofs.Calls.{by_call, Goes, acts, refused as turned, outside, goes, eight_or, same, turned16, as_call, ByteNumber, turned_number}

-- ---- listed answers

abbrev Fine : State → Request → Answer → Type 0
Fine x r a = (a ≡ Refused 8) ⊎ ListedOn x.pool r a

still_listed : (p : Pool) (call : Call) (a : Answer) → Listed p call a → ListedOn p (Asks call) a
unfolding ListedOn
still_listed p (Begin c g) a h = inl h
still_listed p (Step c) a h = h
still_listed p (Release c g) a h = h

begin_16 : (x : State) (c g : ℕ) (a : Answer) → a ≡ Refused 16 → ListedOn x.pool (Asks (Begin c g)) a
unfolding ListedOn
begin_16 x c g a e = inr e

listed_ask : (x : State) (call : Call) → Fine x (Asks call) (call_on x (Asks call)).answer
listed_ask x call = go (eight_or x (Asks call))
  where
    a : Answer
    a = (call_on x (Asks call)).answer

    go : (refusal_on x (Asks call) ≡ 8) ⊎ (refusal_on x (Asks call) ≡ turned_away_by x (Asks call)) → Fine x (Asks call) a
    go (inl e) =
        inl (ap (λ (o : Result). o.answer) (call_turned x (Asks call) (λ w. differ 8 0 tt (sym e ∙ w))) ∙ ap Refused e)
    go (inr e) =
        elim (as_call x call e) [
          | same o ↦
              elim (guarantee.listed x.pool call) [
                | inl w ↦ inl (same_answer o ∙ w)
                | inr w ↦ inr (still_listed x.pool call a (subst (Listed x.pool call) (sym (same_answer o)) w))
              ]
          | turned16 c g w _ t ↦
              inr (subst (λ (y : Call). ListedOn x.pool (Asks y) a) (sym w) (begin_16 x c g a (ap (λ (o : Result). o.answer) t)))
        ]

acted_byte : (x : State) (r : Request) → IsByte r → Fine x r (action_on x r).answer
unfolding ListedOn IsByte action_on
acted_byte x (Asks call) b = absurd b
acted_byte x (ReadByte c g o) b = inr (inl (_, refl))
acted_byte x (WriteByte c g o v) b = inr (inl refl)

turned_byte : (x : State) (r : Request) → IsByte r → (n : ℕ) → n ≢ 0 → ByteNumber n → Fine x r (Refused n)
unfolding ListedOn IsByte
turned_byte x r b n z (inl e) = inl (ap Refused e)
turned_byte x r b n z (inr (inl e)) = absurd (z e)
turned_byte x (Asks call) b n z (inr (inr m)) = absurd b
turned_byte x (ReadByte c g o) b n z (inr (inr m)) = inr (inr (n, refl, m))
turned_byte x (WriteByte c g o v) b n z (inr (inr m)) = inr (inr (n, refl, m))

listed_byte : (x : State) (r : Request) → IsByte r → Fine x r (call_on x r).answer
listed_byte x r b = by_call x r (λ o. Fine x r o.answer) (λ _. acted_byte x r b) (λ z. turned_byte x r b _ z (turned_number x r b))

pub listed_on : ClaimListedOn
unfolding IsByte
listed_on x (Asks call) = listed_ask x call
listed_on x (ReadByte c g o) = listed_byte x (ReadByte c g o) tt
listed_on x (WriteByte c g o v) = listed_byte x (WriteByte c g o v) tt

-- ---- refusals that change nothing

-- bytes, marks and store stay in any case; the pool, by what the claims of crate `guarantee` say of it
abbrev Unchanged : State → ℕ → Result → Type 0
Unchanged x n o = o.answer ≡ Refused n → n ≢ 15 → (o.state.pool ≡ x.pool) × (o.counted ≡ Nothing)

acted_refused : (x : State) (r : Request) (n : ℕ) → Unchanged x n (action_on x r)
unfolding action_on
acted_refused x (Asks call) n e z = guarantee.turned_down x.pool call n e z
acted_refused x (ReadByte c g o) n e z = other_answer e tt
acted_refused x (WriteByte c g o v) n e z = other_answer e tt

pub turned_down_on : ClaimTurnedDownOn
turned_down_on x r n e z =
    let b = refusals_keep.0 x r n e in
    let a = by_call x r (Unchanged x n) (λ _. acted_refused x r n) (λ _ _ _. (refl, refl)) e z in
    ((λ i. record { pool = a.0 i; memory = b.0 i; store = b.1 i }), a.1)

-- ---- refusal 15

abbrev Rests : State → Request → Result → Type 0
Rests x r o =
    o.answer ≡ Refused 15
    → (c : ℕ) × (r ≡ Asks (Step c)) × (o.state.pool ≡ with_client x.pool c (resting (client x.pool c).held)) × (o.counted ≡ Refusal)

acted_15 : (x : State) (r : Request) → Rests x r (action_on x r)
unfolding action_on
acted_15 x (Asks call) e = let a = guarantee.refused x.pool call e in (a.0, ap Asks a.1, a.2, a.3)
acted_15 x (ReadByte c g o) e = other_answer e tt
acted_15 x (WriteByte c g o v) e = other_answer e tt

-- no check turns down by 15
number_not_15 : {n : ℕ} → ByteNumber n → n ≢ 15
number_not_15 (inl e) w = differ 8 15 tt (sym e ∙ w)
number_not_15 (inr (inl e)) w = differ 0 15 tt (sym e ∙ w)
number_not_15 (inr (inr m)) w = subst (λ (n : ℕ). T (member n byte_numbers)) w m

ask_not_15 : (x : State) (call : Call) → refusal_on x (Asks call) ≢ 15
ask_not_15 x call w = elim (eight_or x (Asks call)) [ inl e ↦ differ 8 15 tt (sym e ∙ w) | inr e ↦ go (goes x call) (sym e ∙ w) ]
  where
    go : {n : ℕ} → Goes x call n → n ≢ 15
    go (acts e) v = differ 0 15 tt (sym e ∙ v)
    go (turned _ e) v = refusal_not_15 x.pool call (sym e ∙ v)
    go (outside _ _ _ _ e) v = differ 16 15 tt (sym e ∙ v)

not_15 : (x : State) (r : Request) → refusal_on x r ≢ 15
unfolding IsByte
not_15 x (Asks call) = ask_not_15 x call
not_15 x (ReadByte c g o) = number_not_15 (turned_number x (ReadByte c g o) tt)
not_15 x (WriteByte c g o v) = number_not_15 (turned_number x (WriteByte c g o v) tt)

pub refused_on : ClaimRefusedOn
unfolding refusal_of
refused_on x r e =
    let b = refusals_keep.0 x r 15 e in
    let a = by_call x r (Rests x r) (λ _. acted_15 x r) (λ _ w. absurd (not_15 x r (ap refusal_of w))) e in
    (a.0, a.1, (λ i. record { pool = a.2 i; memory = b.0 i; store = b.1 i }), a.3)

-- ---- never 8

module _ (x : State) (k : Kept x) where
  byte_not_8 : (n g o : ℕ) → byte_refusal n g o ≢ 8
  unfolding byte_refusal
  byte_not_8 n g o =
      by_test (λ (m : ℕ). m ≢ 8) (λ _. by_test (λ (m : ℕ). m ≢ 8) (λ _. differ 0 8 tt) (λ _. differ 17 8 tt)) (λ _. differ 16 8 tt)

  number_not_8 : (c g o : ℕ) → first_of (refusal x.pool (Release c g)) (byte_refusal x.memory.pages g o) ≢ 8
  unfolding first_of
  number_not_8 c g o =
      by_test (λ (m : ℕ). m ≢ 8) (λ _. byte_not_8 x.memory.pages g o) (λ _. refusal_not_8 x.pool (Release c g) k.reached)

  byte_never_8 : (r : Request) → IsByte r → turned_away_by x r ≢ 8
  unfolding turned_away_by IsByte
  byte_never_8 (Asks call) b = absurd b
  byte_never_8 (ReadByte c g o) b = number_not_8 c g o
  byte_never_8 (WriteByte c g o v) b = number_not_8 c g o

  acted_never_8 : (r : Request) → IsByte r → (action_on x r).answer ≢ Refused 8
  unfolding action_on IsByte
  acted_never_8 (Asks call) b e = b
  acted_never_8 (ReadByte c g o) b e = other_answer e tt
  acted_never_8 (WriteByte c g o v) b e = other_answer e tt

  bytes_never_8 : (r : Request) → IsByte r → (call_on x r).answer ≢ Refused 8
  unfolding refusal_of
  bytes_never_8 r b =
      by_call x r (λ o. o.answer ≢ Refused 8) (λ _. acted_never_8 r b) (λ _ e. byte_never_8 r b (sym (turned_away x k r) ∙ ap refusal_of e))

  pub never_8 : (r : Request) → (call_on x r).answer ≢ Refused 8
  unfolding refusal_of IsByte
  never_8 (Asks call) e =
      elim (as_call x call (turned_away x k (Asks call))) [
        | same o ↦ not_8 x.pool call k.reached (sym (same_answer o) ∙ e)
        | turned16 c g w _ t ↦ differ 16 8 tt (ap refusal_of (ap (λ (o : Result). o.answer) (sym t) ∙ e))
      ]
  never_8 (ReadByte c g o) e = bytes_never_8 (ReadByte c g o) tt e
  never_8 (WriteByte c g o v) e = bytes_never_8 (WriteByte c g o v) tt e

  pub listed_now : (r : Request) → ListedOn x.pool r (call_on x r).answer
  listed_now r = elim (listed_on x r) [ inl e ↦ absurd (never_8 r e) | inr h ↦ h ]

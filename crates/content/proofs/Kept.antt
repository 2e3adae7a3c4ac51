-- The last arm of a match on a write, `_`: what holds of each of the writes that the arm stands for holds of the write. A write is known there
-- by its tag, its place among the eight. Assumes nothing.
use mathlib.Core.List.{List, [], ◌∷◌}
use mathlib.Core.Path.{subst, sym}
use mathlib.Core.Logic.{inl, inr}
use Prim.Native.Nat.{ℕ, zero, suc}
use types.Run.{OneOf}
use denote.Enum.Declared.{tag_of}
use Rattle.pool.specs.contracts.Write as W
use Rattle.pool.specs.declared.Write.{Write}
use Rattle.pool.specs.declared.Write.TheVariants.{Keep, PutSlot, PutPins, PutCount, TakeFrame, PutEntry, PutHand, PutFree}

-- P of every write with a tag
abbrev At : (Write → Type 0) → ℕ → Type 0
At P zero = P Keep
At P (suc zero) = (i f : ℕ) → P (PutSlot i f)
At P (suc (suc zero)) = (f n : ℕ) → P (PutPins f n)
At P (suc (suc (suc zero))) = (f n : ℕ) → P (PutCount f n)
At P (suc (suc (suc (suc zero)))) = (f g n x : ℕ) → P (TakeFrame f g n x)
At P (suc (suc (suc (suc (suc zero))))) = (i g f : ℕ) → P (PutEntry i g f)
At P (suc (suc (suc (suc (suc (suc zero)))))) = (h : ℕ) → P (PutHand h)
At P (suc (suc (suc (suc (suc (suc (suc n))))))) = (x : ℕ) → P (PutFree x)

-- P of every write with one of the tags
abbrev Each : (Write → Type 0) → List ℕ → Type 0
Each P [] = Unit {0}
Each P (t ∷ ts) = At P t × Each P ts

of_tag : (P : Write → Type 0) (w : Write) → At P (tag_of W.the_type w) → P w
of_tag P Keep a = a
of_tag P (PutSlot i f) a = a i f
of_tag P (PutPins f n) a = a f n
of_tag P (PutCount f n) a = a f n
of_tag P (TakeFrame f g n x) a = a f g n x
of_tag P (PutEntry i g f) a = a i g f
of_tag P (PutHand h) a = a h
of_tag P (PutFree x) a = a x

one_of : (P : Write → Type 0) (ts : List ℕ) (x : ℕ) → OneOf ts x → Each P ts → At P x
one_of P [] x r each = absurd r
one_of P (t ∷ []) x e each = subst (At P) (sym e) each.0
one_of P (t ∷ u ∷ ts) x (inl e) each = subst (At P) (sym e) each.0
one_of P (t ∷ u ∷ ts) x (inr r) each = one_of P (u ∷ ts) x r each.1

pub kept : (P : Write → Type 0) (w : Write) (ts : List ℕ) → OneOf ts (tag_of W.the_type w) → Each P ts → P w
kept P w ts r each = of_tag P w (one_of P ts _ r each)

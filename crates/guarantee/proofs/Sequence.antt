-- The sequential pool follows every list of calls: it is related to the fresh pool when both are empty, and each call leaves two pools that are related again
-- (`Follow`). Assumes nothing.
use mathlib.Core.Path.{◌≡◌, refl, ap}
use mathlib.Core.Bool.{true}
use mathlib.Core.List.{List, [], ◌∷◌}
use Prim.Native.Nat.{ℕ, zero, suc}
use lib.ListN.{replicate}
use Rattle.pool.specs.Choose.{choose}
use Rattle.pool.specs.State.{number_of_clients, slot, client, grant_page}
use Rattle.pool.specs.Valid.{numbers_ok}
use Rattle.pool.specs.Calls.{fresh, SetUp, call_of}
use Rattle.pool.specs.declared.Pool.{Pool}
use Rattle.pool.specs.declared.Call.{Call}
use Rattle.laws.specs.Setups.{of_fresh}
use Rattle.invariant.proofs.Reached.{Reached}
use Rattle.invariant.proofs.Setup.{setup_evicted, setup_rests, reached_setup, first_reached}
use Rattle.invariant.proofs.Calls.{reached_call}
use Rattle.guarantee.specs.Sequential.{Sequential, empty, seq_resting, start}
use Rattle.guarantee.specs.Claims.{Follows, at_end, at_call}
use Rattle.guarantee.proofs.SimulationRelation.{view_frame, view_evicted, SimulationRelation, up_to, down_from, view_client, view, view_related}
use Rattle.guarantee.proofs.Pages.{same_pages}
use Rattle.guarantee.proofs.Follow.{followed}

-- from any two pools that are related
follows_on : {p : Pool} {q : Sequential} (calls : List Call) → Reached p → SimulationRelation p q → Follows p q calls
follows_on [] r related = at_end (same_pages r related) (λ c. (related.clients c).stage)
follows_on {p} {q} (x ∷ calls) r related =
    let f = followed r related x in
    at_call (same_pages r related) (λ c. (related.clients c).stage) f.rule (follows_on {p = (call_of p x).pool} calls (reached_call p x r) f.related)

-- ---- from setup

all_same : {A : Type 0} (f : ℕ → A) (n : ℕ) (a : A) → ((i : ℕ) → f i ≡ a) → up_to f n ≡ replicate n a
unfolding up_to
all_same f zero a e = refl
all_same f (suc n) a e = rw (e 0) (ap (λ (l : List _). a ∷ l) (all_same (λ i. f (suc i)) n a (λ i. e (suc i))))

view_start : (s t c h : ℕ) → numbers_ok s t c ≡ true → view (fresh s t c h) ≡ start s t
unfolding view view_client down_from choose
view_start s t c h ok = λ i. record { slots = all_same _ s empty vacant i; clients = all_same _ t (seq_resting []) idle i }
  where
    p : Pool
    p = fresh s t c h

    vacant : (i : ℕ) → view_frame p (slot p i) ≡ empty
    vacant i = view_evicted p (slot p i) (setup_evicted s t c h ok (slot p i))

    idle : (d : ℕ) → view_client (client p d) (down_from (grant_page p d) (client p d).held) ≡ seq_resting []
    idle d = rw (setup_rests s t c h ok d) refl

abbrev pub started : Pool → Sequential
started p = start p.size (number_of_clients p)

-- a pool that was set up is related to the sequential pool that has just started
pub start_related : {p : Pool} → SetUp p → SimulationRelation p (started p)
start_related =
    of_fresh (λ p. SimulationRelation p (started p))
    (λ s t c h ok. rw (view_start s t c h ok) at (view_related (fresh s t c h) (reached_setup s t c h ok).shape))

pub sequential : {p : Pool} → SetUp p → (calls : List Call) → Follows p (started p) calls
sequential u calls = follows_on calls (first_reached u) (start_related u)

-- All that `Mixed.antt` states, put together: a state that was set up is kept, and its pool is what a setup without a store makes. Assumes nothing.
use mathlib.Core.Path.{◌≡◌, ap}
use mathlib.Core.List.{List, []}
use Prim.Native.Nat.{ℕ, ◌*◌}
use native.Mathlib.Omega.{arith}
use lib.ListN.{length}
use Rattle.memory.specs.Memory.{page_bytes}
use Rattle.memory.specs.Requests.{State}
use Rattle.memory.specs.Happenings.{SetUpOn, state_after}
use Rattle.contents.proofs.SetupKept.{kept_setup, pool_setup}
use Rattle.mixed.specs.Mixed.{GuaranteeOn}
use Rattle.mixed.proofs.Passes.{holdings_same, check_8}
use Rattle.mixed.proofs.Calls.{same_length}
use Rattle.mixed.proofs.Answers.{listed_on, turned_down_on, refused_on}
use Rattle.mixed.proofs.Lists.{throughout_on, kept_after}
use Rattle.mixed.proofs.Runs.{point3_from, busy_sweep_from, lasts_from, gets_through_from, sum_from, counts_pages, answers_from, limits_from, as_before_from}
use Rattle.mixed.proofs.InsideAfter.{inside_after}
use Rattle.mixed.proofs.ByStage.{by_stage}

-- an empty store has no pages
no_pages : {x : State} → SetUpOn x → x.store ≡ [] → x.memory.pages ≡ 0
no_pages {x} u e =
    let long : length x.store ≡ page_bytes * x.memory.pages = (kept_setup u).marks.store_long in
    let z : length x.store ≡ 0 = ap (λ (s : List ℕ). length s) e in
    omega (arith, long, z)

pub guarantee_on : GuaranteeOn
guarantee_on =
    record {
      point3 = λ x u rs. point3_from x (kept_setup u) (pool_setup u) rs;
      listed = listed_on;
      answers = λ x u rs. answers_from x (kept_setup u) rs;
      turned_down = turned_down_on;
      refused = refused_on;
      busy_sweep = λ x u rs. busy_sweep_from x (kept_setup u) (pool_setup u) rs;
      lasts = λ x u rs. lasts_from x (kept_setup u) (pool_setup u) rs;
      progress = λ x u rs. gets_through_from x (kept_setup u) (pool_setup u) rs;
      drops = λ x u rs r. counts_pages (state_after x rs) (kept_after x (kept_setup u) rs) r;
      sum = λ x u rs. sum_from x (kept_setup u) (pool_setup u) rs;
      limits = λ x u rs. limits_from x (kept_setup u) (pool_setup u) rs;
      holdings = λ x u rs. throughout_on _ (λ y k. holdings_same y k) x (kept_setup u) rs;
      as_before = λ x u e calls. as_before_from x (kept_setup u) (no_pages u e) calls;
      same_length = same_length;
      check_8 = check_8;
      inside_after = inside_after;
      by_stage = by_stage;
    }

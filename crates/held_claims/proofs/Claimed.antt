-- All that is claimed of calls in place. Assumes nothing.
use Rattle.held_claims.specs.HeldClaims.{HeldClaims}
use Rattle.held_claims.proofs.Same.{same}
use Rattle.held_claims.proofs.TurnedAway.{turned_away_lem}
use Rattle.held_claims.proofs.Busy.{busy}
use Rattle.held_claims.proofs.Duty.{duty, no_duty}

pub held_claims : HeldClaims
held_claims = record { same = same; turned_away = turned_away_lem; busy = busy; duty = duty; no_duty = no_duty }

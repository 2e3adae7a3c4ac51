-- No contract has a `requires`, so nothing is asked; each function's proof is the one that its crate made, and the toolchain's own theorem `known`
-- takes it to what a caller learns. Assumes nothing.
use mathlib.Core.Path.{refl}
use Rattle.calls.proofs.setup.Reads as setup
use Rattle.calls.proofs.setup.Met as setup-met
use Rattle.calls.proofs.begin.Reads as begin
use Rattle.calls.proofs.begin.Met as begin-met
use Rattle.calls.proofs.release.Reads as release
use Rattle.calls.proofs.release.Met as release-met
use Rattle.calls.proofs.step_tallied.Reads as step_tallied
use Rattle.calls.proofs.step_tallied.Met as step-tallied-met
use Rattle.step.proofs.step_of.Reads as step_of
use Rattle.step.proofs.step_of.Met as step-of-met
use Rattle.step.proofs.step.Met as step-met
use Rattle.holdings.proofs.holdings_on.Reads as holdings_on
use Rattle.holdings.proofs.holdings_on.Met as holdings-on-met
use Rattle.holdings.proofs.holdings_of.Reads as holdings_of_call
use Rattle.holdings.proofs.holdings_of.Met as holdings-of-met
use Rattle.holdings.proofs.holdings.Met as holdings-met
use Rattle.tie.specs.Promises.{Unasked, Kept}

pub unasked : Unasked
unasked =
    record {
      setup = λ s t c h. tt;
      begin = λ p c g. tt;
      release = λ p c g. tt;
      step_tallied = λ p c t. tt;
      step_of = λ p c t. tt;
      step = λ w κs p c tally. refl;
      holdings_on = λ p c rows. tt;
      holdings_of_call = λ p c. tt;
      holdings = λ w κs p c rows. refl;
    }

pub kept : Kept
kept =
    record {
      setup = λ w wired names k e. setup.known w names k _ e (setup-met.met w.𝓤 w.𝓛 w.𝓜 w.𝓡 wired);
      begin = λ w wired names k e. begin.known w names k _ e (begin-met.met w.𝓤 w.𝓛 w.𝓜 w.𝓡 wired);
      release = λ w wired names k e. release.known w names k _ e (release-met.met w.𝓤 w.𝓛 w.𝓜 w.𝓡 wired);
      step_tallied = λ w wired names k e. step_tallied.known w names k _ e (step-tallied-met.met w.𝓤 w.𝓛 w.𝓜 w.𝓡 wired);
      step_of = λ w wired names k e. step_of.known w names k _ e (step-of-met.met w.𝓤 w.𝓛 w.𝓜 w.𝓡 wired);
      holdings_on = λ w wired names k e. holdings_on.known w names k _ e (holdings-on-met.met w.𝓤 w.𝓛 w.𝓜 w.𝓡 wired);
      holdings_of_call = λ w wired names k e. holdings_of_call.known w names k _ e (holdings-of-met.met w.𝓤 w.𝓛 w.𝓜 w.𝓡 wired);
      step_says = λ w κs p c lent pool client tally r. refl;
      step = step-met.met;
      holdings_says = λ w κs p c lent pool client rows a. refl;
      holdings = holdings-met.met;
    }

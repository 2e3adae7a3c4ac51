-- No contract has a `requires`, so nothing is asked; each function's proof is the one that its crate made, and the toolchain's own theorem `known`
-- takes it to what a caller learns. Assumes nothing.
use mathlib.Core.Path.{refl}
use Rattle.buffered.proofs.setup.Reads as setup
use Rattle.buffered.proofs.setup.Met as setup-met
use Rattle.buffered.proofs.begin.Reads as begin
use Rattle.buffered.proofs.begin.Met as begin-met
use Rattle.buffered.proofs.release.Reads as release
use Rattle.buffered.proofs.release.Met as release-met
use Rattle.byte_step.proofs.step_tallied.Reads as step_tallied
use Rattle.byte_step.proofs.step_tallied.Met as step-tallied-met
use Rattle.byte_lent.proofs.step.Met as step-met
use Rattle.byte_calls.proofs.read.Reads as read
use Rattle.byte_calls.proofs.read.Met as read-met
use Rattle.byte_calls.proofs.write.Reads as write
use Rattle.byte_calls.proofs.write.Met as write-met
use Rattle.byte_holdings.proofs.holdings_on.Reads as holdings_on_call
use Rattle.byte_holdings.proofs.holdings_on.Met as holdings-on-met
use Rattle.byte_holdings.proofs.holdings.Met as holdings-met
use Rattle.byte_tie.specs.Promises.{Unasked, Kept}

pub unasked : Unasked
unasked =
    record {
      setup = λ l s t c h store. tt;
      begin = λ b c g. tt;
      release = λ b c g. tt;
      step_tallied = λ l b c t store. tt;
      step = λ w κs b c tally store. refl;
      read = λ l b c g o store. tt;
      write = λ l b c g o v store. tt;
      holdings_on_call = λ b c rows. tt;
      holdings = λ w κs b c rows. refl;
    }

pub kept : Kept
kept =
    record {
      setup = λ w wired names k e. setup.known w names k _ e (setup-met.met w.𝓤 w.𝓛 w.𝓜 w.𝓡 wired);
      begin = λ w wired names k e. begin.known w names k _ e (begin-met.met w.𝓤 w.𝓛 w.𝓜 w.𝓡 wired);
      release = λ w wired names k e. release.known w names k _ e (release-met.met w.𝓤 w.𝓛 w.𝓜 w.𝓡 wired);
      step_tallied = λ w wired names k e. step_tallied.known w names k _ e (step-tallied-met.met w.𝓤 w.𝓛 w.𝓜 w.𝓡 wired);
      step_says = λ w κs b c t s pool client tally store r. refl;
      step = step-met.met;
      read = λ w wired names k e. read.known w names k _ e (read-met.met w.𝓤 w.𝓛 w.𝓜 w.𝓡 wired);
      write = λ w wired names k e. write.known w names k _ e (write-met.met w.𝓤 w.𝓛 w.𝓜 w.𝓡 wired);
      holdings_on_call = λ w wired names k e. holdings_on_call.known w names k _ e (holdings-on-met.met w.𝓤 w.𝓛 w.𝓜 w.𝓡 wired);
      holdings_says = λ w κs b c l pool client rows a. refl;
      holdings = holdings-met.met;
    }

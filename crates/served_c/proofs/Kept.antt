-- Each export's proof is the one that this crate made of its own clause, and the toolchain's theorem `known` takes it to what a caller learns; that
-- computes to what the function within says. Assumes nothing.
use Rattle.std.proofs.Math.Path.{refl}
use Rattle.served_c.proofs.foqheran_parts_setup.Reads as setup
use Rattle.served_c.proofs.foqheran_parts_setup.Met as setup-met
use Rattle.served_c.proofs.foqheran_parts_begin.Reads as begin
use Rattle.served_c.proofs.foqheran_parts_begin.Met as begin-met
use Rattle.served_c.proofs.foqheran_parts_release.Reads as release
use Rattle.served_c.proofs.foqheran_parts_release.Met as release-met
use Rattle.served_c.proofs.foqheran_parts_step.Reads as step
use Rattle.served_c.proofs.foqheran_parts_step.Met as step-met
use Rattle.served_c.proofs.foqheran_parts_read.Reads as read
use Rattle.served_c.proofs.foqheran_parts_read.Met as read-met
use Rattle.served_c.proofs.foqheran_parts_write.Reads as write
use Rattle.served_c.proofs.foqheran_parts_write.Met as write-met
use Rattle.served_c.proofs.foqheran_parts_holdings.Reads as holdings
use Rattle.served_c.proofs.foqheran_parts_holdings.Met as holdings-met
use Rattle.served_c.proofs.foqheran_parts_check.Reads as check
use Rattle.served_c.proofs.foqheran_parts_check.Met as check-met
use Rattle.served_c.proofs.Exported.{Alike, Exported}

pub alike : Alike
alike =
    record {
      setup = (refl, refl);
      begin = (refl, refl);
      release = (refl, refl);
      step = (refl, refl);
      read = (refl, refl);
      write = (refl, refl);
      holdings = (refl, refl);
      check = (refl, refl);
    }

pub exported : Exported
exported =
    record {
      setup = λ w wired names k e. setup.known w names k _ e (setup-met.met w.𝓤 w.𝓛 w.𝓜 w.𝓡 wired);
      begin = λ w wired names k e. begin.known w names k _ e (begin-met.met w.𝓤 w.𝓛 w.𝓜 w.𝓡 wired);
      release = λ w wired names k e. release.known w names k _ e (release-met.met w.𝓤 w.𝓛 w.𝓜 w.𝓡 wired);
      step = λ w wired names k e. step.known w names k _ e (step-met.met w.𝓤 w.𝓛 w.𝓜 w.𝓡 wired);
      read = λ w wired names k e. read.known w names k _ e (read-met.met w.𝓤 w.𝓛 w.𝓜 w.𝓡 wired);
      write = λ w wired names k e. write.known w names k _ e (write-met.met w.𝓤 w.𝓛 w.𝓜 w.𝓡 wired);
      holdings = λ w wired names k e. holdings.known w names k _ e (holdings-met.met w.𝓤 w.𝓛 w.𝓜 w.𝓡 wired);
      check = λ w wired names k e. check.known w names k _ e (check-met.met w.𝓤 w.𝓛 w.𝓜 w.𝓡 wired);
    }

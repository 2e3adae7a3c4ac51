-- The functions for other languages as they are exported: each asks and promises what the function of its name in crate `served` does, no less and no
-- more, and its code keeps that contract. So what crate `served_tie` says of the contracts holds of the exports. Statements only. Assumes nothing.
use Rattle.std.specs.Prelude.{◌≡◌, List, ℕ}
use borrow.Fn.Kinds.{ParamKind, ResultKind, In, Out}
use Rattle.walks.specs.Teaching.{Teaches}
use Rattle.served.proofs.foqheran_parts_setup.Reads as setup
use Rattle.served.proofs.foqheran_parts_setup.Kinds as setup-kinds
use Rattle.served_c.proofs.foqheran_parts_setup.Reads as setup-export
use Rattle.served_c.proofs.foqheran_parts_setup.Symbol as setup-code
use Rattle.served.proofs.foqheran_parts_begin.Reads as begin
use Rattle.served.proofs.foqheran_parts_begin.Kinds as begin-kinds
use Rattle.served_c.proofs.foqheran_parts_begin.Reads as begin-export
use Rattle.served_c.proofs.foqheran_parts_begin.Symbol as begin-code
use Rattle.served.proofs.foqheran_parts_release.Reads as release
use Rattle.served.proofs.foqheran_parts_release.Kinds as release-kinds
use Rattle.served_c.proofs.foqheran_parts_release.Reads as release-export
use Rattle.served_c.proofs.foqheran_parts_release.Symbol as release-code
use Rattle.served.proofs.foqheran_parts_step.Reads as step
use Rattle.served.proofs.foqheran_parts_step.Kinds as step-kinds
use Rattle.served_c.proofs.foqheran_parts_step.Reads as step-export
use Rattle.served_c.proofs.foqheran_parts_step.Symbol as step-code
use Rattle.served.proofs.foqheran_parts_read.Reads as read
use Rattle.served.proofs.foqheran_parts_read.Kinds as read-kinds
use Rattle.served_c.proofs.foqheran_parts_read.Reads as read-export
use Rattle.served_c.proofs.foqheran_parts_read.Symbol as read-code
use Rattle.served.proofs.foqheran_parts_write.Reads as write
use Rattle.served.proofs.foqheran_parts_write.Kinds as write-kinds
use Rattle.served_c.proofs.foqheran_parts_write.Reads as write-export
use Rattle.served_c.proofs.foqheran_parts_write.Symbol as write-code
use Rattle.served.proofs.foqheran_parts_holdings.Reads as holdings
use Rattle.served.proofs.foqheran_parts_holdings.Kinds as holdings-kinds
use Rattle.served_c.proofs.foqheran_parts_holdings.Reads as holdings-export
use Rattle.served_c.proofs.foqheran_parts_holdings.Symbol as holdings-code
use Rattle.served.proofs.foqheran_parts_check.Reads as check
use Rattle.served.proofs.foqheran_parts_check.Kinds as check-kinds
use Rattle.served_c.proofs.foqheran_parts_check.Reads as check-export
use Rattle.served_c.proofs.foqheran_parts_check.Symbol as check-code

-- two contracts ask the same and say the same
abbrev pub Same : (n : ℕ) (ps : List (ParamKind n)) (r : ResultKind n) → In n ps → In n ps → Out n ps r → Out n ps r → Type 1
Same n ps r asked asked' learnt learnt' = (asked ≡ asked') × (learnt ≡ learnt')

-- the contracts
pub record Alike : Type 1 where
  pub setup : Same 21 setup-kinds.ps setup-kinds.r setup.Asked setup-export.Asked setup.Learnt setup-export.Learnt
  pub begin : Same 13 begin-kinds.ps begin-kinds.r begin.Asked begin-export.Asked begin.Learnt begin-export.Learnt
  pub release : Same 13 release-kinds.ps release-kinds.r release.Asked release-export.Asked release.Learnt release-export.Learnt
  pub step : Same 19 step-kinds.ps step-kinds.r step.Asked step-export.Asked step.Learnt step-export.Learnt
  pub read : Same 4 read-kinds.ps read-kinds.r read.Asked read-export.Asked read.Learnt read-export.Learnt
  pub write : Same 5 write-kinds.ps write-kinds.r write.Asked write-export.Asked write.Learnt write-export.Learnt
  pub holdings : Same 2 holdings-kinds.ps holdings-kinds.r holdings.Asked holdings-export.Asked holdings.Learnt holdings-export.Learnt
  pub check : Same 1 check-kinds.ps check-kinds.r check.Asked check-export.Asked check.Learnt check-export.Learnt

-- the code
pub record Exported : Type 2 where
  pub setup : Teaches 21 setup-kinds.ps setup-kinds.r setup.Asked setup.Learnt setup-code.code setup-code.name
  pub begin : Teaches 13 begin-kinds.ps begin-kinds.r begin.Asked begin.Learnt begin-code.code begin-code.name
  pub release : Teaches 13 release-kinds.ps release-kinds.r release.Asked release.Learnt release-code.code release-code.name
  pub step : Teaches 19 step-kinds.ps step-kinds.r step.Asked step.Learnt step-code.code step-code.name
  pub read : Teaches 4 read-kinds.ps read-kinds.r read.Asked read.Learnt read-code.code read-code.name
  pub write : Teaches 5 write-kinds.ps write-kinds.r write.Asked write.Learnt write-code.code write-code.name
  pub holdings : Teaches 2 holdings-kinds.ps holdings-kinds.r holdings.Asked holdings.Learnt holdings-code.code holdings-code.name
  pub check : Teaches 1 check-kinds.ps check-kinds.r check.Asked check.Learnt check-code.code check-code.name

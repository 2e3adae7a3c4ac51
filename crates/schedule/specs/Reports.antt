-- Text written into a report. Assumes nothing.
use Rattle.std.specs.Prelude.{◌≡◌, ℕ, List, ◌+◌, ◌++◌, length}
use Rattle.std.proofs.Common.{◌∙◌, arith, length-append}
use Rattle.schedule.specs.Rest.{laid_at, laid_both}
use Rattle.schedule.specs.declared.lines.Report.{Report}

-- the text stands after what was written before, in the same space
pub record Wrote (text : List ℕ) (old new : Report) : Type 0 where
  pub loan : new.space.ghost_name ≡ old.space.ghost_name
  pub bytes : new.bytes ≡ old.bytes + length text
  pub space : new.space.now ≡ laid_at old.bytes text old.space.now
  pub size : length new.space.now ≡ length old.space.now

-- one text after the other
pub both : {a b : List ℕ} {r s t : Report} → Wrote a r s → Wrote b s t → Wrote (a ++ b) r t
both {a} {b} {r} first then =
    record {
      loan = then.loan ∙ first.loan;
      bytes = rw length-append (omega arith);
      space = rw (then.space, first.space, first.bytes) (laid_both _ a b _ r.within);
      size = then.size ∙ first.size;
    }

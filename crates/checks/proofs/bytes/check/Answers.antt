use Rattle.std.proofs.Common.{◌≡◌, ◌≢◌, ◌∙◌, sym, ◌*◌, length, eq-eqb, ne_eqb, arith}
use Rattle.memory.specs.Memory.{page_bytes}
use Rattle.checks.proofs.Stored.{passed_both, failed_first, failed_second}
use Rattle.checks.proofs.bytes.check.Goals as goal
use Rattle.checks.proofs.bytes.check.Goals.{else-parts_sound-via-then-parts_sound+else-as_long, else-parts_sound-via-else-parts_sound}

pub returns-then-as_long-clause-number : goal.returns-then-as_long-clause-number
returns-then-as_long-clause-number c =
    λ bytes store long. let same : length store ≡ page_bytes * c.args.marks.now.pages = omega (arith, long, c.from.ensures, c.if-as_long.true) in
    passed_both (sym (c.parts_sound.ensures.whole bytes) ∙ c.if-parts_sound.true) (eq-eqb _ _ same)

pub returns-else-parts_sound-clause-number : goal.returns-else-parts_sound-clause-number
returns-else-parts_sound-clause-number c =
    λ bytes store long. elim c.else-parts_sound.branch [
      | else-parts_sound-via-then-parts_sound+else-as_long w ↦
          let other : length store ≢ page_bytes * c.args.marks.now.pages =
          λ same. let z : ⊥ = omega (arith, long, c.from.ensures, w.if-as_long.false, same) in z in
          failed_second (sym (c.parts_sound.ensures.whole bytes) ∙ w.if-parts_sound.true) (ne_eqb _ _ other)
      | else-parts_sound-via-else-parts_sound w ↦ failed_first _ (sym (c.parts_sound.ensures.whole bytes) ∙ w.if-parts_sound.false)
    ]

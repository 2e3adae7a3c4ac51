-- The parts are books where their numbers are in range, and pass nothing where they are not. Assumes nothing.
use Rattle.std.proofs.Common.{◌∙◌, sym, ap, refl, []}
use Rattle.pool.specs.Choose.{both}
use Rattle.pool.specs.Valid.{valid}
use Rattle.pool.specs.declared.Pool.{Pool}
use Rattle.memory.specs.Requests.{bytes_ok}
use Rattle.books.specs.Lent.{pool_lent}
use Rattle.checks.specs.Lent.{memory_in}
use Rattle.checks.specs.Parts.{of_sound}
use Rattle.checks.proofs.Parts.{fails, in_range_of, out_of_range}
use Rattle.checks.proofs.bytes.parts_sound.Goals as goal

pub books_sound-requires : goal.books_sound-requires
books_sound-requires c = in_range_of c.in-Some.books c.args.parts.now c.in-Some.ensures.1 c.in-Some.ensures.0

pub returns-in-Some-clause-parts : goal.returns-in-Some-clause-parts
returns-in-Some-clause-parts c =
    let p = pool_lent c.args.parts.now c.args.clients.now in
    let m = memory_in c.args.marks.now [] in
    c.books_sound.ensures [] ∙ ap (λ (p : Pool). both (valid p) (bytes_ok p m)) (c.in-Some.ensures.1 c.args.clients.now) ∙ sym (of_sound p m)

pub returns-in-Some-clause-whole : goal.returns-in-Some-clause-whole
returns-in-Some-clause-whole c =
    λ bytes.
    c.books_sound.ensures bytes
    ∙ ap (λ (p : Pool). both (valid p) (bytes_ok p (memory_in c.args.marks.now bytes))) (c.in-Some.ensures.1 c.args.clients.now)

pub returns-in-None-clause-parts : goal.returns-in-None-clause-parts
returns-in-None-clause-parts c =
    let p = pool_lent c.args.parts.now c.args.clients.now in
    fails _ (sym (out_of_range p c.in-None.ensures)) refl ∙ sym (of_sound p (memory_in c.args.marks.now []))

pub returns-in-None-clause-whole : goal.returns-in-None-clause-whole
returns-in-None-clause-whole c = λ bytes. fails _ (sym (out_of_range (pool_lent c.args.parts.now c.args.clients.now) c.in-None.ensures)) refl

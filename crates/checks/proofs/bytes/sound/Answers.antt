-- What passed as a pool has its bytes tested by its own books. Assumes nothing.
use Rattle.std.proofs.Common.{rules, tests, ◌≡◌, ◌∙◌, sym, ap, subst, refl, ℕ, Bool, false, List}
use Rattle.pool.specs.Choose.{choose, both}
use Rattle.pool.specs.State.{number_of_clients}
use Rattle.pool.specs.Valid.{valid}
use Rattle.pool.specs.declared.Pool.{Pool}
use Rattle.memory.specs.Requests.{bytes_ok}
use Rattle.memory.specs.declared.Memory.{Memory}
use Rattle.books.specs.Books.{pool_in}
use Rattle.books.specs.Named.{FewGrants}
use Rattle.books.specs.declared.checked.Checked.{Checked}
use Rattle.books.specs.declared.reading.Books.{Books}
use Rattle.checks.specs.Lent.{memory_in}
use Rattle.checks.specs.declared.bytes.Marks.{Marks}
use Rattle.checks.proofs.Parts.{holds}
use Rattle.checks.proofs.Stored.{few_grants}
use Rattle.checks.proofs.bytes.sound.Goals as goal

module _ (v w : Bool) where
  both_false : v ≡ false → both v w ≡ false
  unfolding both choose
  both_false e = rw e

module _ {p : Pool} {m : Memory} {t : Bool} (k : Checked) (b : Books) (marks : Marks) (same : k.pool.now ≡ p)
    (books : pool_in b k.pool.now.clients ≡ k.pool.now) (lent : memory_in marks m.bytes ≡ m)
    (tested : (bytes : List ℕ) → t ≡ bytes_ok (pool_in b p.clients) (memory_in marks bytes)) where
  sound_is : both (valid p) (bytes_ok p m) ≡ t
  sound_is =
      let whole : pool_in b p.clients ≡ p = rw same at books in
      let passed : t ≡ bytes_ok p m = tested m.bytes ∙ ap (λ q. bytes_ok q (memory_in marks m.bytes)) whole ∙ ap (bytes_ok p) lent in
      sym (passed ∙ holds _ refl (ap valid (sym same) ∙ k.valid))

pub returns-in_err-checked : goal.returns-in_err-checked
returns-in_err-checked c = search (rules, tests, both_false)

pub bytes_ok-requires : goal.bytes_ok-requires
bytes_ok-requires c =
    let p = c.args.pool.now.pool in
    let k = c.in_ok-checked.checked in
    let same : k.pool.now ≡ p = c.in_ok-checked.ensures in
    let there : c.books.result.numbers.client_count ≡ number_of_clients p =
    c.books.ensures.numbers.1 ∙ k.client_count ∙ ap (λ (q : Pool). q.client_count) same in
    subst (λ (n : ℕ). FewGrants n p.clients) (sym there) (few_grants p (ap valid (sym same) ∙ k.valid))

pub returns-then-bytes_ok : goal.returns-then-bytes_ok
returns-then-bytes_ok c =
    (search rules, sound_is c.in_ok-checked.checked c.books.result c.of.result c.in_ok-checked.ensures c.books.ensures.pool c.of.ensures c.bytes_ok.ensures ∙ c.if-bytes_ok.true)

pub returns-else-bytes_ok : goal.returns-else-bytes_ok
returns-else-bytes_ok c =
    (refl, sound_is c.in_ok-checked.checked c.books.result c.of.result c.in_ok-checked.ensures c.books.ensures.pool c.of.ensures c.bytes_ok.ensures ∙ c.if-bytes_ok.false)

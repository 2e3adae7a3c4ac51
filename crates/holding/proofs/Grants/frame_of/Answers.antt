-- Each test is the definition's, of the record that is read. Assumes nothing.
use Rattle.std.proofs.Common.{◌≡◌, ◌∙◌, sym, ap, ℕ, ◌+◌, ◌*◌, length, get_or, arith}
use Rattle.std.proofs.lemmas.Result.{err_from_is_err_and}
use Rattle.answers.specs.Numbers.{refusal_number}
use Rattle.answers.specs.declared.refusal.Refusal.TheVariants.{OutOfRange, NoSuchClient, AtWork, NotHeld}
use Rattle.books.specs.Lists.{grant_in}
use Rattle.memory.specs.Memory.{page_bytes}
use Rattle.memory.specs.Requests.{State, byte_refusal}
use Rattle.content.specs.Acting.{low_offset}
use Rattle.client_arrays.specs.Arrays.{client_from}
use Rattle.holding.specs.Holds.{told, wrong_length, many_clients, nobody, too_many, works, has_none, has_one, frame_is}
use Rattle.holding.proofs.Grants.frame_of.Goals as goal
use Rattle.holding.proofs.Grants.frame_of.Goals.{After-get-its}

its_length : (c : After-get-its) (x : State) → x.memory.pages ≡ c.args.store_pages → length x.store ≡ c.args.lent → length x.store ≡ page_bytes * x.memory.pages
its_length c x n l = omega (arith, n, l, c.from-long.ensures, c.if-lent-long.false)

its_record : (c : After-get-its) → c.get-its.result ≡ client_from c.args.self.now.clients.bytes.now c.args.self.now.clients.words.now c.args.client
its_record c = c.get-its.ensures ∙ ap (client_from c.args.self.now.clients.bytes.now c.args.self.now.clients.words.now) c.from-c.ensures

its_place : (c : After-get-its) {i : ℕ} → i ≡ grant_in c.args.self.now.pages.now c.from-c.result c.get-its.result.held c.args.page
    → i ≡ grant_in c.args.self.now.pages.now c.args.client c.get-its.result.held c.args.page
its_place c e = e ∙ ap (λ j. grant_in c.args.self.now.pages.now j c.get-its.result.held c.args.page) c.from-c.ensures

pub returns-then-lent-long-clause-held_by : goal.returns-then-lent-long-clause-held_by
returns-then-lent-long-clause-held_by c =
    λ x k n l. told OutOfRange (wrong_length x c.args.client c.args.page c.args.offset (λ e. c.if-lent-long.true (omega (arith, e, n, l, c.from-long.ensures))))

pub returns-then-self-gt-MAX_CLIENTS-clause-held_by : goal.returns-then-self-gt-MAX_CLIENTS-clause-held_by
returns-then-self-gt-MAX_CLIENTS-clause-held_by c =
    λ x k n l.
    told OutOfRange
    (many_clients x c.args.client c.args.page c.args.offset (omega (arith, n, l, c.from-long.ensures, c.if-lent-long.false)) (omega (arith, k.client_count, c.if-self-gt-MAX_CLIENTS.true)))

pub returns-then-client-self-clause-held_by : goal.returns-then-client-self-clause-held_by
returns-then-client-self-clause-held_by c =
    λ x k n l.
    told NoSuchClient
    (nobody x c.args.client c.args.page c.args.offset (omega (arith, n, l, c.from-long.ensures, c.if-lent-long.false)) (omega (arith, k.client_count, c.if-self-gt-MAX_CLIENTS.false))
    (omega (arith, k.client_count, c.if-client-self.true)))

pub returns-then-its-gt-MAX_HELD-clause-held_by : goal.returns-then-its-gt-MAX_HELD-clause-held_by
returns-then-its-gt-MAX_HELD-clause-held_by c =
    λ x k n l.
    let t = (goal.at.returns-then-its-gt-MAX_HELD-clause-held_by c).After-get-its in
    told OutOfRange
    (too_many x k c.args.client c.args.page c.args.offset (its_length t x n l) c.if-self-gt-MAX_CLIENTS.false c.if-client-self.false (its_record t) c.if-its-gt-MAX_HELD.true)

pub returns-then-its-ne0-clause-held_by : goal.returns-then-its-ne0-clause-held_by
returns-then-its-ne0-clause-held_by c =
    λ x k n l.
    let t = (goal.at.returns-then-its-ne0-clause-held_by c).After-get-its in
    told AtWork
    (works x k c.args.client c.args.page c.args.offset (its_length t x n l) c.if-self-gt-MAX_CLIENTS.false c.if-client-self.false (its_record t) c.if-its-gt-MAX_HELD.false c.if-its-ne0.true)

pub returns-in_default-clause-held_by : goal.returns-in_default-clause-held_by
returns-in_default-clause-held_by c =
    λ x k n l.
    let t = (goal.at.returns-in_default-clause-held_by c).After-get-its in
    told NotHeld
    (has_none x k c.args.client c.args.page c.args.offset (its_length t x n l) c.if-self-gt-MAX_CLIENTS.false c.if-client-self.false (its_record t) c.if-its-gt-MAX_HELD.false
    c.if-its-ne0.false (its_place t c.in_default.ensures.first))

pub returns-in_err-outside-clause-held_by : goal.returns-in_err-outside-clause-held_by
returns-in_err-outside-clause-held_by c =
    λ x k n l.
    let t = (goal.at.returns-in_err-outside-clause-held_by c).After-get-its in
    let e = err_from_is_err_and c.from_residual.result c.from_residual.ensures.1 in
    rw e.1
    (told e.0
    (has_one x k c.args.client c.args.page c.args.offset (its_length t x n l) c.if-self-gt-MAX_CLIENTS.false c.if-client-self.false (its_record t) c.if-its-gt-MAX_HELD.false
    c.if-its-ne0.false (its_place t c.in-Some.ensures.first) c.in-Some.ensures.bound
    ∙ ap (λ n. byte_refusal n c.args.page c.args.offset) n ∙ sym c.in_err-outside.ensures ∙ ap refusal_number (sym e.2)))

pub returns-clause-held_by : goal.returns-clause-held_by
returns-clause-held_by c =
    λ x k n l.
    let t = (goal.at.returns-clause-held_by c).After-get-its in
    let place = its_place t c.in-Some.ensures.first in
    let at : 8 * c.from-c.result + c.from.result ≡ 8 * c.args.client + c.in-Some.i = omega (arith, c.from-c.ensures, c.from.ensures) in
    record {
      refusal = sym (has_one x k c.args.client c.args.page c.args.offset (its_length t x n l) c.if-self-gt-MAX_CLIENTS.false c.if-client-self.false (its_record t)
          c.if-its-gt-MAX_HELD.false c.if-its-ne0.false place c.in-Some.ensures.bound
          ∙ ap (λ n. byte_refusal n c.args.page c.args.offset) n ∙ sym c.in_ok-outside.ensures);
      frame = ap (λ j. get_or c.args.self.now.frames.now j 0) at
          ∙ frame_is k c.args.client c.if-self-gt-MAX_CLIENTS.false c.if-client-self.false c.args.page (its_record t) place c.in-Some.ensures.bound;
    }

pub returns-clause-lent_value : goal.returns-clause-lent_value
returns-clause-lent_value c = (omega (arith, c.from-long.ensures, c.if-lent-long.false), low_offset c.args.store_pages c.args.page c.args.offset (sym c.in_ok-outside.ensures))

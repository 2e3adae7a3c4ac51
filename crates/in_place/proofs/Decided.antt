-- What is known of the client whose record was read. Assumes nothing.
use Rattle.std.proofs.Common.{◌≡◌, ◌∙◌, sym, ap, ℕ, ◌<◌, ◌≤◌, Bool, arith}
use Rattle.pool.specs.Limits.{max_clients}
use Rattle.pool.specs.State.{number_of_clients, client, pins}
use Rattle.pool.specs.Calls.{caller}
use Rattle.pool.specs.declared.Call.{Call}
use Rattle.pool.specs.declared.Client.{Client}
use Rattle.pool.specs.declared.Pool.{Pool}
use Rattle.laws.specs.Elements.{client_of_pool}
use Rattle.books.specs.declared.reading.Books.{Books}
use Rattle.books.specs.Books.{pool_in}
use Rattle.client_arrays.specs.declared.Clients.{Clients}
use Rattle.client_arrays.specs.Arrays.{client_from, client_from_lem}
use Rattle.client_arrays.specs.Loans.{clients_in}
use Rattle.in_place.specs.Held.{client_fits, search_fits}

-- the record r that was read at place n
module _ (b : Books) (l : Clients) (call : Call) {c n : ℕ} {r : Client} (at : n ≡ c) (is : c ≡ caller call) (h : c < b.numbers.client_count)
    (few : b.numbers.client_count ≤ max_clients) (e : r ≡ client_from l.bytes.now l.words.now n) where
  pub there : caller call < number_of_clients (pool_in b (clients_in l))
  there = omega (arith, is, h)

  pub its_record : client (pool_in b (clients_in l)) (caller call) ≡ r
  its_record =
      client_of_pool (pool_in b (clients_in l)) (caller call) there
      ∙ client_from_lem l.bytes.now l.words.now (caller call) (omega (arith, there, few))
      ∙ ap (client_from l.bytes.now l.words.now) (sym (at ∙ is)) ∙ sym e

-- its tests are those of the client that calls
module _ (p : Pool) {k r : Client} (its : k ≡ r) {t : Bool} where
  pub client_test : t ≡ client_fits p.size (pins p r.found) r → client_fits p.size (pins p k.found) k ≡ t
  client_test e = ap (λ (k : Client). client_fits p.size (pins p k.found) k) its ∙ sym e

  pub search_test : search_fits p r ≡ t → search_fits p k ≡ t
  search_test e = ap (search_fits p) its ∙ e

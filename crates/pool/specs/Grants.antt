-- Open grants. Assumes nothing.
use Rattle.std.specs.Prelude.{Bool, ℕ, eqb}
use Rattle.pool.specs.Choose.{scan, some}
use Rattle.pool.specs.State.{none, number_of_clients, client, grant_page, grant_frame}
use Rattle.pool.specs.declared.Pool.{Pool}

-- SPECIFICATION 2.2: the place of a page among client c's grants, or none; the first, where check 8 was not made and it stands there twice
unfoldable pub grant_of : Pool → ℕ → ℕ → ℕ
grant_of p c g = scan (λ i. eqb (grant_page p c i) g) (λ i. i) none 0 (client p c).held

-- SPECIFICATION 2.3: whether client c has an open grant on frame f, and whether any client has
unfoldable pub holds : Pool → ℕ → ℕ → Bool
holds p f c = some (λ i. eqb (grant_frame p c i) f) (client p c).held

unfoldable pub held : Pool → ℕ → Bool
held p f = some (holds p f) (number_of_clients p)

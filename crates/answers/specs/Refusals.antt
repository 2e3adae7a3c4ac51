-- By which numbers each call, and the reading of a record, can be refused. 0 stands for no refusal. Assumes nothing.
use Rattle.std.specs.Prelude.{List, [], ◌∷◌, ℕ}

abbrev pub by_setup : List ℕ
by_setup = 0 ∷ 8 ∷ []

abbrev pub by_begin : List ℕ
by_begin = 0 ∷ 8 ∷ 9 ∷ 10 ∷ 12 ∷ 18 ∷ []

-- with bytes
abbrev pub by_begin_on : List ℕ
by_begin_on = 0 ∷ 8 ∷ 9 ∷ 10 ∷ 12 ∷ 16 ∷ 18 ∷ []

abbrev pub by_byte : List ℕ
by_byte = 0 ∷ 8 ∷ 9 ∷ 10 ∷ 13 ∷ 16 ∷ 17 ∷ []

abbrev pub by_step : List ℕ
by_step = 0 ∷ 8 ∷ 9 ∷ 11 ∷ 15 ∷ []

abbrev pub by_release : List ℕ
by_release = 0 ∷ 8 ∷ 9 ∷ 10 ∷ 13 ∷ []

abbrev pub by_holdings : List ℕ
by_holdings = 0 ∷ 8 ∷ 9 ∷ 14 ∷ []

abbrev pub by_record : List ℕ
by_record = 0 ∷ 3 ∷ 4 ∷ 5 ∷ 6 ∷ 7 ∷ []

-- Reading the pool. Each accessor looks only at the part of an array that the pool has, by its own S and T, and gives a neutral value past
-- it: no frame, an evicted frame, a resting client without grants. Assumes nothing.
use Rattle.std.specs.Prelude.{List, ℕ, ◌+◌, ◌*◌, ltb, get_or}
use Rattle.pool.specs.Limits.{max_held}
use Rattle.pool.specs.Choose.{choose}
use Rattle.pool.specs.declared.Pool.{Pool}
use Rattle.pool.specs.declared.Client.{Client}

-- the code's NONE: no frame, no place
abbrev pub none : ℕ
none = 255

-- SPECIFICATION 1.2. Pins are stored as one more than they are, so that evicted, -1, is 0.
abbrev pub evicted : ℕ
evicted = 0

abbrev pub pinned : ℕ → ℕ
pinned n = n + 1

-- SPECIFICATION 1.1: T
abbrev pub number_of_clients : Pool → ℕ
number_of_clients p = p.client_count

-- SPECIFICATION 1.2: how many frames there are, S + 2T. The table has as many places.
abbrev pub total : Pool → ℕ
total p = p.size + 2 * number_of_clients p

-- element i of the first n of a list, d past them
unfoldable pub within : List ℕ → ℕ → ℕ → ℕ → ℕ
within l n d i = choose (ltb i n) (get_or l i 0) d

-- SPECIFICATION 1.3: the frame in slot i; none where it is empty
unfoldable pub slot : Pool → ℕ → ℕ
slot p i = within p.slots p.size none i

-- SPECIFICATION 1.2: a frame's page, its pins as they are stored, its reference count
unfoldable pub page : Pool → ℕ → ℕ
page p f = within p.pages (total p) 0 f

unfoldable pub pins : Pool → ℕ → ℕ
pins p f = within p.pins (total p) evicted f

unfoldable pub count : Pool → ℕ → ℕ
count p f = within p.counts (total p) 0 f

-- the page and the frame at a place of the table; the place is unused where the frame is none
unfoldable pub entry_page : Pool → ℕ → ℕ
entry_page p i = within p.table_pages (total p) 0 i

unfoldable pub entry_frame : Pool → ℕ → ℕ
entry_frame p i = within p.table_frames (total p) none i

-- SPECIFICATION 1.8, 2.5: a client at rest with n grants
abbrev pub resting : ℕ → Client
resting n = record { stage = 0; page = 0; own = none; found = none; victim = none; seen = 0; place = 0; start = 0; busy = 0; held = n }

-- what a read past the end of the array of clients gives, all numbers 0 as the language has it; `client` never reads there
abbrev pub no_client : Client
no_client = record { stage = 0; page = 0; own = 0; found = 0; victim = 0; seen = 0; place = 0; start = 0; busy = 0; held = 0 }

-- SPECIFICATION 2.1: client c
unfoldable pub client : Pool → ℕ → Client
client p c = choose (ltb c (number_of_clients p)) (get_or p.clients c no_client) (resting 0)

-- where client c's grant i stands
abbrev pub grant_place : ℕ → ℕ → ℕ
grant_place c i = max_held * c + i

-- of client c's places in a list, the i-th of the first n, d past them
unfoldable pub of_client : List ℕ → ℕ → ℕ → ℕ → ℕ → ℕ
of_client l c n d i = choose (ltb i n) (get_or l (grant_place c i) 0) d

-- SPECIFICATION 2.2: the page and the frame of client c's grant i
unfoldable pub grant_page : Pool → ℕ → ℕ → ℕ
grant_page p c i = of_client p.grant_pages c (client p c).held 0 i

unfoldable pub grant_frame : Pool → ℕ → ℕ → ℕ
grant_frame p c i = of_client p.grant_frames c (client p c).held none i

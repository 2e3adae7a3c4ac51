-- The largest pool, and the index pages. Each number has a name here, and the code has a constant of that name (pins it stores as one more). Assumes
-- nothing.
use Rattle.std.specs.Prelude.{ℕ, ◌+◌, ◌*◌}

-- SPECIFICATION 1.1: the most slots, the most clients, the highest count cap
abbrev pub max_size : ℕ
max_size = 64

abbrev pub max_clients : ℕ
max_clients = 16

abbrev pub max_cap : ℕ
max_cap = 100

-- SPECIFICATION 2.2: the most grants of one client
abbrev pub max_held : ℕ
max_held = 8

-- SPECIFICATION 5.3: the most pins that check 8 lets a frame have; in a run there are at most as many as clients
abbrev pub max_pins : ℕ
max_pins = max_clients * max_held

-- SPECIFICATION 4.31: how many pages the index has, from page 0 on; the count that they start with, where the cap allows it
abbrev pub index_pages : ℕ
index_pages = 4

abbrev pub index_count : ℕ
index_count = 3

-- how many frames, and places of the table, and how many grants the largest pool has
abbrev pub max_frames : ℕ
max_frames = max_size + 2 * max_clients

abbrev pub max_grants : ℕ
max_grants = max_clients * max_held

-- The two halves of `apply`: the write to what the clients share, and what becomes of the grants of the client that acts. Assumes nothing.
use Rattle.std.specs.Prelude.{ℕ, ◌*◌}
use Rattle.pool.specs.Limits.{max_held}
use Rattle.pool.specs.State.{number_of_clients, total}
use Rattle.pool.specs.Apply.{slots_after, pages_after, pins_after, counts_after, entry_pages_after, entry_frames_after, hand_after, free_after, last_after, grant_pages_after, grant_frames_after}
use Rattle.pool.specs.declared.Pool.{Pool}
use Rattle.pool.specs.declared.Write.{Write}
use Rattle.pool.specs.declared.GrantChange.{GrantChange}

abbrev pub written : Pool → Write → Pool
written p w =
    record p {
      hand = hand_after p.hand w;
      free = free_after p.free w;
      last = last_after p.last w;
      slots = slots_after p.size p.slots w;
      pages = pages_after (total p) p.pages w;
      pins = pins_after (total p) p.pins w;
      counts = counts_after (total p) p.counts w;
      table_pages = entry_pages_after (total p) p.table_pages w;
      table_frames = entry_frames_after (total p) p.table_frames w;
    }

abbrev pub granted : Pool → ℕ → GrantChange → Pool
granted p c g =
    record p {
      grant_pages = grant_pages_after (max_held * number_of_clients p) c p.grant_pages g;
      grant_frames = grant_frames_after (max_held * number_of_clients p) c p.grant_frames g;
    }

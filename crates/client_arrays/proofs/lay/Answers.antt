-- The numbers are stored one after the other, as a copy lays them. Assumes nothing.
use Rattle.std.proofs.Common.{add-zero}
use Rattle.memory.specs.Memory.{copied}
use Rattle.client_arrays.specs.Arrays.{bytes_with, words_with, put_as}
use Rattle.client_arrays.proofs.lay.Goals as goal

pub returns-clause-clients : goal.returns-clause-clients
unfolding bytes_with words_with copied
returns-clause-clients c =
    put_as c.args.bytes.now c.args.words.now c.args.c c.args.client c.told-bytes c.told-words c.requires (simp add-zero) (simp add-zero)

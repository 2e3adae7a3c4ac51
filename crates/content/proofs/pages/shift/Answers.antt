-- What `taken` found is what `copy_page` lays over the other frame's bytes. Assumes nothing.
use Rattle.content.proofs.Copied.{by_page}
use Rattle.content.proofs.pages.shift.Goals as goal

pub returns : goal.returns
returns c = by_page _ _ _ _ _ c.copy_page.ensures c.taken-page.ensures

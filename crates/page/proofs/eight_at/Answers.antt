-- `page::eight_at` meets its contract. Assumes nothing.
use Rattle.page.specs.Lanes.{ones_at}
use Rattle.page.proofs.Ones.{ones_eight}
use Rattle.page.proofs.eight_at.Goals as goal

pub returns : goal.returns
unfolding ones_at
returns c =
    let b = c.fits-page in
    ones_eight _ _ _ _ _ _ _ _ _ (b _) (b _) (b _) (b _) (b _) (b _) (b _) c.from_le_bytes.ensures

-- The library promises the same. Stated here, so that a call of it with other arguments is refused for what it promises.
use Rattle.reach_table_c.proofs.reach_fits.Goals as goal

pub returns : goal.returns
returns c = c.reach_fits.ensures

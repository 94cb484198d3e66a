-- The library promises the same. Stated here, so that a call of it with other arguments is refused for what it promises.
use Rattle.labels_c.proofs.labels_holds.Goals as goal

pub returns : goal.returns
returns c = c.labels_holds.ensures

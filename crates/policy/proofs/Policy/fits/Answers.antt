-- `Policy::fits` meets its contract: its tests are those of the definition.
use Rattle.labels.proofs.Membership.{told_none}
use Rattle.machine.specs.Policy.{fits}
use Rattle.policy.proofs.Policy.fits.Goals as goal

pub returns : goal.returns
unfolding fits
returns g c =
    rw (told_none _ _ _ c.fit_missing_reader.ensures c.is_none.ensures, told_none _ _ _ c.fit_missing_writer.ensures c.is_none-2.ensures)

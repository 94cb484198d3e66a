-- `Policy::may_send` meets its contract: its tests are those of the definition.
use Rattle.prelude.proofs.Kit.{arith, and_assoc}
use Rattle.labels.proofs.Membership.{told_none, none_unheld}
use Rattle.machine.specs.Policy.{url_event, may_send}
use Rattle.policy.proofs.Policy.may_send.Goals as goal

pub returns : goal.returns
unfolding may_send
returns g c =
    simp and_assoc
    (rw
    (told_none _ _ _ c.event_missing.ensures c.is_none.ensures, told_none _ _ _ c.reach_missing_writer.ensures c.is_none-2.ensures, c.within.ensures, c.within-2.ensures, c.fits.ensures, c.script_readers-readers.ensures, c.connection_writers-writers.ensures, c.connection_readers.ensures, c.connection_writers.ensures, none_unheld _ (url_event c.args.self.words.now c.args.url) (omega arith)))

-- `check::no_partners` meets its contract: the flag is the test of the URLs passed.
use Rattle.prelude.proofs.Kit.{arith, ◌≡◌}
use Rattle.labels.proofs.Below.{all_none, all_next}
use Rattle.machine.specs.Policy.{url_rows}
use Rattle.policy.proofs.Partners.{none_listed}
use Rattle.policy.proofs.check.no_partners.Goals as goal

pub loop-url-init : goal.loop-url-init
loop-url-init c = all_none _

pub loop-url-preserved : goal.loop-url-preserved
loop-url-preserved c =
    rw (none_listed c.args.policy.now c.loop-url.url c.is_none-passed.result _ c.requires c.url_partner.ensures.some c.is_none-passed.ensures, c.loop-url.invariant) (all_next _ _)

pub returns : goal.returns
returns c = let past : c.loop-url.url ≡ url_rows = omega arith in rw past at c.loop-url.invariant

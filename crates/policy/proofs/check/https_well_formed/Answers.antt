-- `check::https_well_formed` meets its contract: where no host is listed the word of hosts is 0, and has no other bit.
use Rattle.prelude.proofs.Kit.{◌≡◌, sym, ◌∙◌}
use Rattle.machine.specs.Policy.{https_hosts}
use Rattle.policy.proofs.check.https_well_formed.Goals as goal

pub returns-then-hosts-eq0 : goal.returns-then-hosts-eq0
returns-then-hosts-eq0 g c = let none : https_hosts c.args.policy.now ≡ 0 = sym c.https_word-hosts.ensures ∙ c.if-hosts-eq0.true in rw none c.no_partners.ensures

pub returns : goal.returns
returns g c = rw (c.partners_well_formed.ensures, c.https_word-hosts.ensures)

-- `Policy::upgraded` meets its contract: its tests are those of the definition.
use Rattle.prelude.proofs.Kit.{le-ltb, ◌∙◌}
use Rattle.prelude.specs.Choice.{branch}
use Rattle.machine.specs.Policy.{url_rows, upgraded}
use Rattle.policy.proofs.Partners.{upgraded_row}
use Rattle.policy.proofs.Policy.upgraded.Goals as goal

pub returns-then-url-ge-URL_ROWS : goal.returns-then-url-ge-URL_ROWS
unfolding upgraded branch
returns-then-url-ge-URL_ROWS g c = rw (le-ltb c.args.url url_rows c.if-url-ge-URL_ROWS.true)

pub returns : goal.returns
returns g c =
    c.unwrap_or.ensures ∙ upgraded_row c.args.self.words.now c.args.url c.url_partner.result c.if-url-ge-URL_ROWS.false c.url_partner.ensures.told c.url_partner.ensures.some

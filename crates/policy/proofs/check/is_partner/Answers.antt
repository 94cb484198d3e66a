-- `check::is_partner` meets its contract: a row that has an address is not empty.
use Rattle.prelude.proofs.Kit.{sym, ◌∙◌}
use borrow.Author.Tests.{leb-true, leb-false}
use Rattle.labels.specs.Membership.{endpoints}
use Rattle.machine.specs.Policy.{url_address}
use Rattle.policy.proofs.Partners.{partner_beyond, partner_unnamed, partner_row}
use Rattle.policy.proofs.check.is_partner.Goals as goal

pub returns-then-partner-ge-URL_ROWS : goal.returns-then-partner-ge-URL_ROWS
returns-then-partner-ge-URL_ROWS c = partner_beyond c.args.policy.now c.args.url c.args.partner c.if-partner-ge-URL_ROWS.true

pub returns-then-lacks_address : goal.returns-then-lacks_address
returns-then-lacks_address c =
    partner_unnamed c.args.policy.now c.args.url c.args.partner (leb-true endpoints _ (sym c.lacks_address.ensures ∙ c.if-lacks_address.true))

pub returns : goal.returns
returns c =
    let named = leb-false endpoints (url_address c.args.policy.now c.args.partner) (sym c.lacks_address.ensures ∙ c.if-lacks_address.false) in
    rw (c.url_address.ensures, c.url_address-2.ensures) (partner_row c.args.policy.now c.args.url c.args.partner c.if-partner-ge-URL_ROWS.false named)

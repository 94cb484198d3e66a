-- `check::row_well_formed` meets its contract: whether there is an address settles which of the two tests of a row is asked.
use Rattle.prelude.proofs.Kit.{sym, ◌∙◌}
use borrow.Author.Tests.{leb-true, leb-false}
use Rattle.labels.specs.Membership.{endpoints}
use Rattle.machine.specs.Policy.{url_address}
use Rattle.policy.proofs.Rows.{row_named, row_unnamed}
use Rattle.policy.proofs.check.row_well_formed.Goals as goal

pub returns-then-lacks_address : goal.returns-then-lacks_address
returns-then-lacks_address g c =
    c.row_empty.ensures ∙ row_unnamed c.args.policy.now c.args.url (leb-true endpoints _ (sym c.lacks_address.ensures ∙ c.if-lacks_address.true))

pub returns : goal.returns
returns g c =
    let named = leb-false endpoints (url_address c.args.policy.now c.args.url) (sym c.lacks_address.ensures ∙ c.if-lacks_address.false) in
    rw (c.within.ensures, c.url_readers.ensures, c.event_set.ensures, c.url_address.ensures) (row_named c.args.policy.now c.args.url named)

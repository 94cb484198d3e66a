-- `check::is_replaced` meets its contract: the scheme is asked first, and the event endpoint is the host's.
use Rattle.prelude.proofs.Kit.{sym, ◌∙◌}
use borrow.Author.Tests.{ltb-true, ltb-false}
use Rattle.labels.specs.Addresses.{hosts}
use Rattle.machine.specs.Policy.{url_address}
use Rattle.policy.proofs.Partners.{kept_https, replaced_http}
use Rattle.policy.proofs.check.is_replaced.Goals as goal

pub returns-then-not-by_http : goal.returns-then-not-by_http
returns-then-not-by_http g c = kept_https c.args.policy.now c.args.url (ltb-false _ hosts (sym c.by_http.ensures ∙ c.if-not-by_http.true))

pub returns : goal.returns
returns g c =
    let http = ltb-true (url_address c.args.policy.now c.args.url) hosts (sym c.by_http.ensures ∙ c.if-not-by_http.false) in
    rw (c.within.ensures, c.https_hosts.ensures, c.event_set.ensures, c.url_address.ensures) (replaced_http c.args.policy.now c.args.url http)

-- `Policy::is_url` meets its contract: whether there is an address settles whether a row is empty.
use Rattle.prelude.proofs.Kit.{false≢true, le-ltb}
use Rattle.machine.specs.Policy.{url_rows}
use Rattle.policy.proofs.Rows.{url_beyond, url_named, url_given}
use Rattle.policy.proofs.Policy.is_url.Goals as goal

pub returns-then-url-lt-URL_ROWS : goal.returns-then-url-lt-URL_ROWS
returns-then-url-lt-URL_ROWS g c =
    let p = c.args.self.words.now in
    let l = c.if-url-lt-URL_ROWS.true in
    rw c.lacks_address.ensures (url_named p c.args.url c.args.self.formed.formed l, url_given p c.args.url l)

pub returns-else-url-lt-URL_ROWS : goal.returns-else-url-lt-URL_ROWS
returns-else-url-lt-URL_ROWS g c =
    rw (le-ltb c.args.url url_rows c.if-url-lt-URL_ROWS.false) (url_beyond c.args.self.words.now c.args.url c.if-url-lt-URL_ROWS.false, λ e. absurd (false≢true e))

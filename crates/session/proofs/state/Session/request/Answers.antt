-- `Session::request` meets its contract: the fields are those of the definition.
use Rattle.session.proofs.Made.{made}
use Rattle.session.proofs.state.Session.request.Goals as goal

pub returns : goal.returns
returns g c =
    let s = c.args.self.now in
    made s.policy.words.now s.words.now c.args.connection c.args.kind c.args.handler c.args.url c.from-page.ensures c.url_host.ensures.0
    c.attached_keys-keys.ensures c.attached_values-cookies.ensures c.request_map.ensures

-- `kinds::is_script` meets its contract: kind and origin are a range, and the other two tests are the shape's own.
use Rattle.machine.specs.Session.{handler_of, url_of}
use Rattle.session.proofs.ConnectionTests.{script_ranges}
use Rattle.session.proofs.kinds.is_script.Goals as goal

pub returns : goal.returns
unfolding handler_of url_of
returns c = rw c.from-first.ensures (script_ranges c.args.word)

-- `Session::send_word` meets its contract: the connection has the very word.
use Rattle.session.proofs.state.Session.send_word.Goals as goal

pub returns-clause-words : goal.returns-clause-words
returns-clause-words g c = c.set_connection.ensures

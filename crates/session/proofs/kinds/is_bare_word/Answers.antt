-- `kinds::is_bare_word` meets its contract: the word is in a range.
use Rattle.session.specs.Kinds.{number_of}
use Rattle.session.proofs.ConnectionTests.{bare_range}
use Rattle.session.proofs.kinds.is_bare_word.Goals as goal

pub returns : goal.returns
returns c = rw c.from-first.ensures (bare_range (number_of c.args.kind) c.args.word)

-- `kinds::is_bare` meets its contract: a document's word, or a picture's.
use Rattle.prelude.proofs.Kit.{◌||◌, ◌∙◌, ap₂}
use Rattle.session.proofs.ConnectionTests.{either_bare}
use Rattle.session.proofs.kinds.is_bare.Goals as goal

pub returns : goal.returns
returns c = ap₂ ◌||◌ c.is_bare_word.ensures c.is_bare_word-2.ensures ∙ either_bare c.args.word

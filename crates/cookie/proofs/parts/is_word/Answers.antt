-- The small letters of a text are compared with those of the word.
use Rattle.std.proofs.Common.{rules}
use Rattle.prelude.proofs.Kit.{◌∙◌, ne_eqb}
use Rattle.std.proofs.lemmas.Iterator.{YieldsList-from_slice, YieldsList-from_zip}
use Rattle.std.proofs.lemmas.Iterator.Search.{all_from_yields_List}
use borrow.Author.Tests.{tests}
use Rattle.cookie.proofs.Comparing.{letters, is_word_by_letters, is_word_not}
use Rattle.cookie.proofs.parts.is_word.Goals as goal

pub returns-then-text-word : goal.returns-then-text-word
returns-then-text-word c =
    all_from_yields_List letters c.all.new.self _ c.all.result c.all.ensures.ran
    (YieldsList-from_zip (YieldsList-from_slice c.args.text.now (search rules)) (YieldsList-from_slice c.args.word.now (search rules))) (λ x b q k. search (rules, tests))
    ∙ is_word_by_letters _ _ c.if-text-word.true

pub returns-else-text-word : goal.returns-else-text-word
returns-else-text-word c = rw (ne_eqb _ _ c.if-text-word.false) (is_word_not _ _ c.if-text-word.false)

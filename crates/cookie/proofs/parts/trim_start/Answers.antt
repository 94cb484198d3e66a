-- It starts at the first byte that is no blank.
use Rattle.std.proofs.Common.{rules}
use Rattle.std.proofs.lemmas.Iterator.{YieldsList-from_slice}
use Rattle.std.proofs.lemmas.Iterator.Search.{position_from_yields_List}
use borrow.Author.Tests.{tests}
use Rattle.cookie.proofs.Trimming.{is_other, starts_at, starts_nowhere}
use Rattle.cookie.proofs.parts.trim_start.Goals as goal

pub returns-in-Some : goal.returns-in-Some
returns-in-Some c =
    starts_at _ _ (position_from_yields_List is_other _ _ _ c.position.ensures.ran (YieldsList-from_slice c.args.text.now c.iter.ensures.rest) (λ x b q k. search (rules, tests))) c.in-Some.is

pub returns-in-None : goal.returns-in-None
returns-in-None c =
    starts_nowhere _ _ (position_from_yields_List is_other _ _ _ c.position.ensures.ran (YieldsList-from_slice c.args.text.now c.iter.ensures.rest) (λ x b q k. search (rules, tests))) c.in-None.is

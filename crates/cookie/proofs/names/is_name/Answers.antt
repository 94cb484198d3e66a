-- A key's bytes up to the first zero are compared with the name.
use Rattle.std.proofs.Common.{rules}
use Rattle.prelude.proofs.Kit.{◌∙◌, ap}
use Rattle.std.proofs.lemmas.Iterator.{YieldsList-from_slice}
use Rattle.std.proofs.lemmas.Iterator.Search.{YieldsList-from_take_while}
use borrow.Author.Tests.{tests}
use Rattle.prelude.specs.Lists.{same_numbers}
use Rattle.cookie.proofs.Comparing.{is_some, up_to_zero}
use Rattle.cookie.proofs.EqualItems.{eq_from_yields_List}
use Rattle.cookie.proofs.names.is_name.Goals as goal

pub returns : goal.returns
returns c =
    eq_from_yields_List c.eq.result c.eq.ensures.ran
    (YieldsList-from_take_while _ is_some (YieldsList-from_slice c.args.field.now (search rules)) c.take_while.ensures.closure c.take_while.ensures.done (λ x b q k. search (rules, tests)))
    (λ it b. YieldsList-from_slice c.args.name.now b.0)
    (λ x y. search rules)
    ∙ ap (λ l. same_numbers l c.args.name.now) (up_to_zero c.args.field.now)

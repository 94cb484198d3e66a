-- The strides before the first that has the byte, or all of them.
use Rattle.std.proofs.Common.{rules, arith, eqb}
use Rattle.std.specs.List.{list_any}
use Rattle.std.proofs.lemmas.Iterator.{YieldsList-from_slice}
use Rattle.std.proofs.lemmas.Iterator.Search.{position_from_yields_List}
use borrow.Author.Tests.{tests}
use Rattle.cookie.proofs.Strides.{strides_lack}
use Rattle.cookie.proofs.parts.strides_without.Goals as goal

pub returns : goal.returns
returns c =
    let found = position_from_yields_List (list_any (λ x. eqb x c.args.byte)) _ _ _ c.position.ensures.ran (YieldsList-from_slice c.as_chunks.result.0.now c.iter.ensures.rest) (λ x b q k. search (rules, tests)) in
    strides_lack _ _ _ _ c.as_chunks.ensures.front (omega arith) _ found _ c.unwrap_or.ensures

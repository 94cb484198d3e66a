-- The first of the eight fields that is the name.
use Rattle.std.proofs.Common.{rules}
use Rattle.std.proofs.lemmas.Iterator.{YieldsList-from_slice}
use Rattle.std.proofs.lemmas.Iterator.Search.{position_from_yields_List}
use borrow.Author.Tests.{tests}
use Rattle.cookie.proofs.Naming.{has_name, named_first}
use Rattle.cookie.proofs.names.key_named.Goals as goal

pub returns : goal.returns
returns c =
    let name = c.args.name.now in
    named_first c.args.names.now name c.requires.1 _ c.as_chunks.ensures.front c.requires.0 _
    (position_from_yields_List (has_name c.args.names.now name c.requires.1) _ _ c.position.result c.position.ensures.ran
    (YieldsList-from_slice c.as_chunks.result.0.now c.iter.ensures.rest) (λ x b q k. search (rules, tests)))

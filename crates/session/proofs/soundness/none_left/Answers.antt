-- `soundness::none_left` meets its contract: the words joined are 0 just where each is.
use Rattle.prelude.proofs.Kit.{◌≡◌, rules, bit_or}
use Rattle.std.specs.Prelude.{fold}
use Rattle.session.proofs.Strays.{all_joined}
use Rattle.session.proofs.soundness.none_left.Goals as goal

pub returns : goal.returns
returns c = let joined : c.fold.result ≡ fold bit_or 0 c.args.strays = search rules in rw joined (all_joined 0 c.args.strays)

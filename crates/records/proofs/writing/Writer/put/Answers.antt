use Rattle.prelude.proofs.Kit.{arith, refl}
use Rattle.records.proofs.InTurn.{wrote, copied}
use Rattle.records.proofs.writing.Writer.put.Goals as goal

pub returns-clause-wrote : goal.returns-clause-wrote
returns-clause-wrote c =
    let at = c.args.self.now.at in
    let out = c.args.self.now.out.now in
    let bytes = c.args.bytes.now in
    wrote at out bytes refl (copied at out bytes _ _ c.requires (omega arith) c.copy_from_slice.ensures.after)

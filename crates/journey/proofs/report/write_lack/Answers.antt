-- `report::write_lack` meets its contract: the endpoint, and the set that lacks it.
use Rattle.prelude.proofs.Kit.{arith}
use Rattle.text.specs.Text.{ascii}
use Rattle.text.proofs.Writing.{writes_then}
use Rattle.journey.proofs.Room.{labelled_room, owner_room}
use Rattle.journey.proofs.report.write_lack.Goals as goal

pub write_bytes-requires : goal.write_bytes-requires
write_bytes-requires c = omega (arith, labelled_room (ascii "): endpoint ") c.missing.result)

pub write_owner-requires : goal.write_owner-requires
write_owner-requires c = omega (arith, labelled_room (ascii "): endpoint ") c.missing.result)

pub write_bytes-requires-2 : goal.write_bytes-requires-2
write_bytes-requires-2 c =
    let f = c.args.failure in
    omega (arith, labelled_room (ascii "): endpoint ") c.missing.result, owner_room f.of_url f.url c.args.connection)

pub returns : goal.returns
returns c =
    let endpoint = rw c.missing.ensures at c.write_labelled.ensures in
    let set = rw c.set_words.ensures.set at c.write_bytes.ensures in
    writes_then endpoint (writes_then set (writes_then c.write_owner.ensures c.write_bytes-2.ensures))

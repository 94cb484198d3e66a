-- `Writer::record` meets its contract: the six parts are written in turn, and there is room for each.
use Rattle.prelude.proofs.Kit.{◌+◌, ◌*◌, arith, ◌≡◌, rules, length}
use Rattle.records.specs.Bytes.{bit, digits}
use Rattle.records.specs.Layout.{join}
use Rattle.records.specs.Codec.{bytes_of}
use Rattle.records.specs.Places.{cookie_widths}
use Rattle.records.proofs.InTurn.{wrote_twice, in_turn, turns_long}
use Rattle.records.proofs.writing.Writer.record.Goals.{Start}
use Rattle.records.proofs.writing.Writer.record.Goals as goal

long : (s : Start) → let r = s.args.fields in
    length (bytes_of r) ≡ 3 + (length (digits (bit r.map 2) r.keys) + (length (join (cookie_widths r.keys) r.cookies)
    + (length (digits (bit r.map 3) r.script) + (length (digits (4 * bit r.map 4) r.value) + length (digits (bit r.map 5) r.target)))))
long s = turns_long s.args.fields (search rules) s.requires.front.0 s.requires.front.1 (omega arith) (omega arith)

pub put-requires : goal.put-requires
put-requires c = omega (arith, long (goal.at.put-requires c).Start, c.requires.room)

pub byte-requires : goal.byte-requires
byte-requires c = rw c.is_set.ensures (omega (arith, long (goal.at.byte-requires c).Start, c.requires.room))

pub cookies-requires : goal.cookies-requires
cookies-requires c = omega (arith, long (goal.at.cookies-requires c).Start, c.requires.room, c.put.ensures.wrote.place, c.put.ensures.wrote.long, rw c.is_set.ensures at c.byte.ensures.wrote.place)

pub byte-requires-2 : goal.byte-requires-2
byte-requires-2 c = rw c.is_set-2.ensures (omega (arith, long (goal.at.byte-requires-2 c).Start, c.requires.room, c.put.ensures.wrote.place, c.put.ensures.wrote.long, rw c.is_set.ensures at c.byte.ensures.wrote.place, c.byte.ensures.wrote.long, c.cookies.ensures.wrote.place, c.cookies.ensures.wrote.long))

pub word-requires : goal.word-requires
word-requires c = rw c.is_set-3.ensures (omega (arith, long (goal.at.word-requires c).Start, c.requires.room, c.put.ensures.wrote.place, c.put.ensures.wrote.long, rw c.is_set.ensures at c.byte.ensures.wrote.place, c.byte.ensures.wrote.long, c.cookies.ensures.wrote.place, c.cookies.ensures.wrote.long, rw c.is_set-2.ensures at c.byte-2.ensures.wrote.place, c.byte-2.ensures.wrote.long))

pub byte-requires-3 : goal.byte-requires-3
byte-requires-3 c = rw c.is_set-4.ensures (omega (arith, long (goal.at.byte-requires-3 c).Start, c.requires.room, c.put.ensures.wrote.place, c.put.ensures.wrote.long, rw c.is_set.ensures at c.byte.ensures.wrote.place, c.byte.ensures.wrote.long, c.cookies.ensures.wrote.place, c.cookies.ensures.wrote.long, rw c.is_set-2.ensures at c.byte-2.ensures.wrote.place, c.byte-2.ensures.wrote.long, rw c.is_set-3.ensures at c.word.ensures.wrote.place, c.word.ensures.wrote.long))

pub returns-clause-wrote : goal.returns-clause-wrote
returns-clause-wrote c =
    let r = c.args.fields in
    let turns = in_turn r (search rules) c.requires.front.0 c.requires.front.1 (omega arith) (omega arith) in
    let key_map = rw c.is_set.ensures at c.byte.ensures.wrote in
    let script = rw c.is_set-2.ensures at c.byte-2.ensures.wrote in
    let value = rw c.is_set-3.ensures at c.word.ensures.wrote in
    let target = rw c.is_set-4.ensures at c.byte-3.ensures.wrote in
    rw turns
    (wrote_twice _ _ _ _ c.put.ensures.wrote
    (wrote_twice _ _ _ _ key_map
    (wrote_twice _ _ _ _ c.cookies.ensures.wrote
    (wrote_twice _ _ _ _ script
    (wrote_twice _ _ _ _ value target)))))

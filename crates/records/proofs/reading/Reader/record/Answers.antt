use Rattle.prelude.proofs.Kit.{◌-◌, arith, ◌≡◌, length, take, drop}
use Rattle.std.proofs.lemmas.List.{take_rest}
use Rattle.records.specs.Reading.{record_at}
use Rattle.records.proofs.Decoding.{map_empty, map_unknown_lem, map_known}
use Rattle.records.proofs.reading.Reader.record.Goals as goal

pub returns : goal.returns
unfolding record_at
returns c =
    let all = c.args.self.now.rest.now in
    let rest : take (length all - 1) (drop 1 all) ≡ drop 1 all = take_rest all 1 in
    rw (map_known c.args.direction all (λ e. omega (arith, e, c.in-len1-up.len_at_least)) (rw (← c.has_map.ensures) c.if-not-has_map.false))
    (rw rest at c.fields.ensures)

pub returns-in_default : goal.returns-in_default
unfolding record_at
returns-in_default c = rw (map_empty c.args.direction c.args.self.now.rest.now (omega (arith, c.in_default.len_below)))

pub returns-then-not-has_map : goal.returns-then-not-has_map
unfolding record_at
returns-then-not-has_map c = rw (map_unknown_lem c.args.direction c.args.self.now.rest.now (rw (← c.has_map.ensures) c.if-not-has_map.true))

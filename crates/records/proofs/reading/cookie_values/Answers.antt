-- `cookie_values` meets its contract: the values so far and those to come make all.
use Rattle.prelude.proofs.Kit.{◌*◌, arith, ◌≡◌, sym, ◌∙◌, ap, take, drop}
use Rattle.std.proofs.lemmas.List.{set-get_or}
use Rattle.records.specs.Reading.{on}
use Rattle.records.specs.Bytes.{bit, number}
use Rattle.records.proofs.Cookies.{sum_from, reading_begins, reading_goes_on, reading_passes, reading_ends}
use Rattle.records.proofs.reading.cookie_values.Goals.{then-is_set, else-is_set}
use Rattle.records.proofs.reading.cookie_values.Goals as goal

pub loop-key-init : goal.loop-key-init
loop-key-init c = reading_begins c.args.bytes.now c.args.keys c.requires

pub split_at-requires : goal.split_at-requires
split_at-requires c =
    let at = c.loop-key in
    let one : bit c.args.keys at.key ≡ 1 = sym c.is_set.ensures ∙ ap on c.if-is_set.true in
    omega (arith, one, at.invariant.room, sum_from c.args.keys at.key c.loop-key-test.true)

pub loop-key-preserved : goal.loop-key-preserved
loop-key-preserved c =
    let at = c.loop-key in
    let bytes = c.args.bytes.now in
    let keys = c.args.keys in
    elim c.if-is_set.branch [
      | then-is_set w ↦
          let one : bit keys at.key ≡ 1 = sym c.is_set.ensures ∙ ap on w.if-is_set.true in
          let value : w.word.result ≡ number (take (4 * bit keys at.key) at.rest.now) = rw one (w.word.ensures ∙ ap number w.split_at.ensures.front) in
          let after : w.split_at.result.1.now ≡ drop (4 * bit keys at.key) at.rest.now = rw one w.split_at.ensures.back in
          rw (w.value-items-is, w.rest-is) (reading_goes_on bytes keys at.value-items at.rest.now _ at.key _ c.loop-key-test.true at.invariant value after)
      | else-is_set w ↦
          rw (w.value-items-is, w.rest-is, set-get_or at.value-items at.key 0)
          (reading_passes bytes keys at.value-items at.rest.now at.key c.loop-key-test.true at.invariant (sym c.is_set.ensures ∙ ap on w.if-is_set.false))
    ]

pub returns : goal.returns
returns c =
    let at = c.loop-key in
    let all : at.key ≡ 8 = omega arith in
    reading_ends c.args.bytes.now c.args.keys at.value-items at.rest.now (rw all at at.invariant)

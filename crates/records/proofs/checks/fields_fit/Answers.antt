-- `checks::fields_fit` meets its contract: what must be 0 of each field, joined, is 0.
use Rattle.prelude.proofs.Kit.{◌<◌, ◌^◌, arith, ◌≡◌, rules, length}
use Rattle.records.proofs.Encoding.{all_fit}
use Rattle.records.proofs.checks.fields_fit.Goals.{Start}
use Rattle.records.proofs.checks.fields_fit.Goals as goal

eight : (s : Start) → length s.args.fields.cookies ≡ 8
eight s = search rules

bounds : (s : Start) → (s.args.fields.url < 256) × (s.args.fields.connection < 256) × (s.args.fields.keys < 256)
    × (s.args.fields.script < 256) × (s.args.fields.value < 256 ^ 4) × (s.args.fields.target < 256)
bounds s = omega arith

pub returns : goal.returns
returns c =
    let s = (goal.at.returns c).Start in
    let b = bounds s in
    all_fit c.args.fields (eight s) c.requires b.0 b.1 _ _ _ _ _
    (rw (c.from.ensures, c.is_set.ensures) at (c.stray.ensures 1 (rw c.from.ensures b.2)))
    c.stray_cookies.ensures
    (rw (c.from-2.ensures, c.is_set-2.ensures) at (c.stray-2.ensures 1 (rw c.from-2.ensures b.3)))
    (rw c.is_set-3.ensures at (c.stray-3.ensures 4 b.4))
    (rw (c.from-3.ensures, c.is_set-4.ensures) at (c.stray-4.ensures 1 (rw c.from-3.ensures b.5)))

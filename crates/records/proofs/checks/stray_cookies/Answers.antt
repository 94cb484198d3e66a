-- `checks::stray_cookies` meets its contract: what was met so far is 0 and the values from a key on fit, just where all do.
use Rattle.prelude.proofs.Kit.{arith, ◌≡◌, rules}
use Rattle.records.proofs.Cookies.{testing_goes_on, testing_ends}
use Rattle.records.proofs.checks.stray_cookies.Goals as goal

pub loop-key-preserved : goal.loop-key-preserved
loop-key-preserved c =
    let at = c.loop-key in
    testing_goes_on c.args.keys c.args.values at.all at.key c.stray-all.result c.loop-key-test.true at.invariant
    (rw c.is_set.ensures at (c.stray-all.ensures 4 (search rules)))

pub returns : goal.returns
returns c =
    let at = c.loop-key in
    let all : at.key ≡ 8 = omega arith in
    testing_ends c.args.keys c.args.values at.all (rw all at at.invariant)

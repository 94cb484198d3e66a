-- Each attribute in turn raises its flag, until none is left.
use Rattle.prelude.proofs.Kit.{ap, arith}
use Rattle.std.specs.Option.{option_copied}
use Rattle.cookie.proofs.Flagging.{behind_shorter, nothing_left, flagging_begins, flagging_goes_on, flagging_ends}
use Rattle.cookie.proofs.attributes.flags_of.Goals as goal

pub loop-left-init : goal.loop-left-init
loop-left-init c = flagging_begins _ c.default-flags.ensures.0 c.default-flags.ensures.1 c.cut.ensures.back

pub loop-left-smaller : goal.loop-left-smaller
loop-left-smaller c = rw (c.in-Some.is, c.cut-in-Some.ensures.back) (omega (arith, behind_shorter c.in-Some.rest.now))

pub loop-left-preserved : goal.loop-left-preserved
loop-left-preserved c =
    flagging_goes_on _ c.loop-left.invariant (ap option_copied c.in-Some.is) c.cut-in-Some.ensures.front c.cut-in-Some.ensures.back c.with-flags.ensures

pub returns : goal.returns
returns c = flagging_ends _ c.loop-left.invariant (nothing_left _ c.in_default.not-Some)

-- The first bytes are looked at one by one, then strides, then what is left.
use Rattle.prelude.proofs.Kit.{◌∙◌}
use Rattle.cookie.proofs.Strides.{found_near, found_far, found_nowhere}
use Rattle.cookie.proofs.parts.position.Goals as goal

pub returns-in-Some : goal.returns-in-Some
returns-in-Some c = found_near _ _ _ _ c.split_at.ensures.front c.split_at.ensures.back c.if-text-le-STRIDE.false _ c.find-2.ensures c.in-Some.is

pub returns-in_err-find_in_rest : goal.returns-in_err-find_in_rest
returns-in_err-find_in_rest c =
    c.from_residual.ensures
    ∙ found_nowhere _ _ _ _ c.split_at.ensures.front c.split_at.ensures.back c.if-text-le-STRIDE.false _ c.find-2.ensures c.in_default.not-Some c.strides_without.ensures _ c.find_in_rest.ensures c.in_err-find_in_rest.was

pub returns : goal.returns
returns c =
    found_far _ _ _ _ c.split_at.ensures.front c.split_at.ensures.back c.if-text-le-STRIDE.false _ c.find-2.ensures c.in_default.not-Some c.strides_without.ensures _ c.find_in_rest.ensures c.in_ok-find_in_rest.was

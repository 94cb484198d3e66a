-- The next line is cut off what is left.
use Rattle.prelude.proofs.Kit.{sym, ◌∙◌, refl, ap, arith, length}
use Rattle.std.proofs.lemmas.Bool.{eqb-true}
use Rattle.import.proofs.Splitting.{no_line, line_cut}
use Rattle.import.proofs.lines.LinesIterator.next.Goals as goal

pub returns-then-is_empty-clause-steps : goal.returns-then-is_empty-clause-steps
returns-then-is_empty-clause-steps c =
    let none = no_line c.args.self.now.left.now (eqb-true _ _ (sym c.is_empty.ensures ∙ c.if-is_empty.true)) in (none, none)

pub returns-clause-steps : goal.returns-clause-steps
returns-clause-steps c = line_cut _ _ _ (sym c.is_empty.ensures ∙ c.if-is_empty.false) c.cut.ensures.front c.cut.ensures.back c.unwrap_or-self.ensures refl

pub returns-clause-goes : goal.returns-clause-goes
returns-clause-goes c =
    let cut = line_cut _ _ _ (sym c.is_empty.ensures ∙ c.if-is_empty.false) c.cut.ensures.front c.cut.ensures.back c.unwrap_or-self.ensures refl in
    record { on = λ f. (tt, tt, omega (arith, ap length cut)); keeps = tt; rests = λ f. tt }

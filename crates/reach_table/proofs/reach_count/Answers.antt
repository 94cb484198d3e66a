-- `reach_count` meets its contract: a policy that is not well formed is refused, and the counts of any other are answered with their sum.
use Rattle.std.proofs.Common.{rules, ◌≡◌, sym, ◌∙◌, ap, arith, Bool, false, not, List, map, get_or, is_some}
use Rattle.prelude.proofs.Kit.{subst, T}
use Rattle.prelude.specs.Lists.{numbers}
use Rattle.machine.specs.Policy.{connections}
use Rattle.reach_table.specs.Reach.{reach}
use Rattle.reach_table.proofs.Reaching.{reach_most, count_at, tabled_refused, is_table_lem}
use Rattle.reach_table.proofs.reach_count.Goals as goal

pub returns-in_default : goal.returns-in_default
returns-in_default c =
    let none : is_some c.parse.result ≡ false = search rules in
    sym (tabled_refused c.args.policy.now (subst (λ (b : Bool). T (not b)) (sym none ∙ c.parse.ensures.formed) tt))

pub total-all-requires : goal.total-all-requires
total-all-requires c = λ n l.
    let p = c.in-Some.policy.words.now in omega (arith, ap (λ (us : List _). get_or us n 0) c.reach_of_each-urls.ensures, count_at p n l, reach_most p n)

pub returns : goal.returns
returns c =
    let told = c.in-Some.ensures in
    is_table_lem c.args.policy.now _ _ (subst T told.formed tt)
    (c.reach_of_each-urls.ensures ∙ ap (λ p. map (reach p) (numbers 0 connections)) told.words)
    c.total-all.ensures

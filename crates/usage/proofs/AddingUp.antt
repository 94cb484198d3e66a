-- Each line of a tally has the figures of its URL's requests, and the lines add up to the totals, which are those of the list.
use Rattle.prelude.proofs.Kit.{ℕ, ◌<◌, ◌+◌, suc, zero, add-zero, zero-add, zero-lt-suc, arith, true, Bool, false, List, ◌∷◌, [], map, ◌≡◌, sym, ◌∙◌}
use Rattle.prelude.proofs.Kit.{refl, ap, T, eqb, ltb, and_r, length, subst}
use Prim.Native.Nat.{suc-le-suc}
use borrow.Author.Tests.{ltb-false}
use Rattle.prelude.specs.Choice.{branch, keep}
use Rattle.prelude.specs.Lists.{numbers}
use Rattle.prelude.specs.Refusals.{accepted, first_of}
use Rattle.prelude.proofs.Choices.{passes}
use Rattle.prelude.proofs.Refusals.{none_applied, number_of_lem}
use Rattle.records.specs.declared.Direction.TheVariants.{Request}
use Rattle.records.specs.declared.Record.{Record}
use Rattle.records.specs.Layout.{sum}
use Rattle.records.specs.Codec.{read_run}
use Rattle.machine.specs.Policy.{url_rows}
use Rattle.usage.specs.declared.Tally.{Tally}
use Rattle.usage.specs.Tally.{cookies_in, requests_to, urls, counts, all_in_range, good, list_refusals, refused, tallied}
use Rattle.usage.specs.Lines.{Line, line_of, has_any, lines_of, lines, figures, LinesAreFigures, LinesAddUp}
use Rattle.usage.proofs.Weights.{weight, one, length_weight, at_url, parts_weigh}
use Rattle.usage.proofs.Carried.{carried}

-- ---- a list that is not refused

module _ (requests : List ℕ) where
  number : ℕ
  number = first_of (list_refusals requests) accepted

  -- its number is that of the first refusal
  number_is : (tallied requests).number ≡ number
  unfolding tallied counts number
  number_is = number_of_lem (λ (t : Tally). t.number) (counts (read_run Request requests).records) refused number refl refl

  module _ (ok : (tallied requests).number ≡ accepted) where
    none : number ≡ accepted
    none = sym number_is ∙ ok

    is_counts : tallied requests ≡ counts (read_run Request requests).records
    unfolding tallied number
    is_counts = rw none

    in_range_lem : T (all_in_range (read_run Request requests).records)
    unfolding good number
    in_range_lem =
        let run = read_run Request requests in
        and_r (eqb (length run.left) 0) (all_in_range run.records) (passes (good run) (none_applied (list_refusals requests) tt none).1.0)

-- ---- the lines

-- what is made of numbers in a row is the same where it is the same at each of them
map_same : {A : Type 0} (f g : ℕ → A) (n from : ℕ) → ((k : ℕ) → k < n → f (from + k) ≡ g (from + k)) → map f (numbers from n) ≡ map g (numbers from n)
unfolding numbers
map_same f g zero from e = refl
map_same f g (suc n) from e =
    let here = subst (λ (k : ℕ). f k ≡ g k) (add-zero from) (e 0 (zero-lt-suc n)) in
    let rest = map_same f g n (suc from) (λ k l. subst (λ (j : ℕ). f j ≡ g j) (omega arith) (e (suc k) (suc-le-suc l))) in
    λ i. here i ∷ rest i

abbrev line_of_lem : List Record → ℕ → Line
line_of_lem rs u = line_of (counts rs).records (counts rs).cookies u

lines_are : (rs : List Record) → lines (counts rs) ≡ keep has_any (map (figures rs) urls)
unfolding lines_of counts urls
lines_are rs = ap (keep has_any) (map_same (line_of_lem rs) (figures rs) url_rows 0 (λ k l. subst (λ (j : ℕ). line_of_lem rs j ≡ figures rs j) (sym (zero-add k)) (at k l)))
  where
    at : (k : ℕ) → k < url_rows → line_of_lem rs k ≡ figures rs k
    at k l =
        let records = at_url (λ u. length (requests_to u rs)) k l in
        let cookies = at_url (λ u. cookies_in (requests_to u rs)) k l in
        λ i. record { url = k; records = records i; cookies = cookies i }

pub lines_are_figures : LinesAreFigures
lines_are_figures requests ok = ap lines (is_counts requests ok) ∙ lines_are (read_run Request requests).records

-- lines that have no request add nothing
sum_kept : (v : Line → ℕ) (g : ℕ → Line) → ((u : ℕ) → has_any (g u) ≡ false → v (g u) ≡ 0) → (us : List ℕ)
    → sum (map v (keep has_any (map g us))) ≡ sum (map (λ u. v (g u)) us)
unfolding keep branch
sum_kept v g zeros [] = refl
sum_kept v g zeros (u ∷ us) = go (has_any (g u)) refl (sum_kept v g zeros us)
  where
    rest : List Line
    rest = keep has_any (map g us)

    go : (b : Bool) → has_any (g u) ≡ b → sum (map v rest) ≡ sum (map (λ u. v (g u)) us)
        → sum (map v (branch b (g u ∷ rest) rest)) ≡ v (g u) + sum (map (λ u. v (g u)) us)
    go true e same = ap (λ (n : ℕ). v (g u) + n) same
    go false e same = omega (arith, same, zeros u e)

no_cookies : (rs : List Record) → length rs ≡ 0 → cookies_in rs ≡ 0
unfolding cookies_in
no_cookies [] e = refl
no_cookies (r ∷ rs) e = absurd (omega arith)

no_requests : (n : ℕ) → ltb 0 n ≡ false → n ≡ 0
no_requests n e = omega (arith, ltb-false 0 n e)

-- the figures of each URL add up to those of the list
module _ (rs : List Record) (range : T (all_in_range rs)) where
  abbrev kept : List Line
  kept = keep has_any (map (figures rs) urls)

  records_add_up : sum (map (λ l. l.records) kept) ≡ length rs
  records_add_up =
      let weighed : sum (map (λ u. length (requests_to u rs)) urls) ≡ sum (map (λ u. weight one (requests_to u rs)) urls) =
      λ i. sum (map (λ u. sym (length_weight (requests_to u rs)) i) urls) in
      sum_kept (λ l. l.records) (figures rs) (λ u e. no_requests (length (requests_to u rs)) e) urls ∙ weighed ∙ parts_weigh one rs range ∙ length_weight rs

  cookies_add_up : sum (map (λ l. l.cookies) kept) ≡ cookies_in rs
  unfolding cookies_in
  cookies_add_up =
      sum_kept (λ l. l.cookies) (figures rs) (λ u e. no_cookies (requests_to u rs) (no_requests (length (requests_to u rs)) e)) urls ∙ parts_weigh carried rs range

pub lines_add_up : LinesAddUp
unfolding counts
lines_add_up requests ok =
    let rs = (read_run Request requests).records in
    let range = in_range_lem requests ok in
    let are = lines_are_figures requests ok in (
      ap (λ (t : Tally). t.all_records) (is_counts requests ok),
      ap (λ (t : Tally). t.all_cookies) (is_counts requests ok),
      ap (λ (ls : List Line). sum (map (λ l. l.records) ls)) are ∙ records_add_up rs range,
      ap (λ (ls : List Line). sum (map (λ l. l.cookies) ls)) are ∙ cookies_add_up rs range,
    )

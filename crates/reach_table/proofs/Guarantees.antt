-- The counts are those of the cells; and a change of one row moves each count by at most 1, a change of one connection no count but its own.
use Rattle.prelude.proofs.Kit.{ℕ, ◌<◌, arith, List, ◌≡◌, sym, ◌∙◌, ap, T, get_or, lt-ltb}
use mathlib.Core.Logic.{inl, inr}
use lib.ListN.{get_or-replicate}
use Rattle.prelude.specs.Sums.{sum_below, AtMostApart}
use Rattle.prelude.proofs.Choices.{either, is_true, is_false}
use Rattle.prelude.proofs.Sums.{sum_none_of, sum_same, sum_each, sum_but_one, count_none_of, count_same, count_but_one}
use Rattle.machine.specs.Policy.{url_rows, connections, url_address, is_entry, empty_row, is_url, well_formed, fit_missing_reader, fit_missing_writer, fits}
use Rattle.reach_table.specs.declared.ReachTable.{ReachTable}
use Rattle.reach_table.specs.Reach.{reaches, reach, total_reach, tabled, in_table}
use Rattle.reach_table.specs.Guarantees.{count_of, CellsAddUp, SameRow, SameConnection, RowMoves, ConnectionMoves}
use Rattle.reach_table.proofs.Reaching.{reach_is, reach_most, count_at, tabled_refused, tabled_counted, cell_refused, cell_reached}

-- ---- a policy that is well formed

module _ (p : List ℕ) (t : T (well_formed p)) where
  counted : (n : ℕ) → n < connections → count_of p n ≡ reach p n
  counted n l = ap (λ (r : ReachTable). get_or r.urls n 0) (tabled_counted p t) ∙ count_at p n l

  total_is : (tabled p).all ≡ sum_below connections (reach p)
  unfolding total_reach
  total_is = ap (λ (r : ReachTable). r.all) (tabled_counted p t)

-- ---- cells

pub cells_add_up : CellsAddUp
cells_add_up p = elim (either (well_formed p)) [
  | inl t ↦ (
    λ n l. counted p t n l ∙ sym (reach_is p n) ∙ count_same (reaches p n) (in_table p n) url_rows (λ u _. cell_reached p n u (is_true (well_formed p) t) (lt-ltb n connections l)),
    total_is p t ∙ sum_same (reach p) (count_of p) connections (λ n l. sym (counted p t n l)),
  )
  | inr t ↦
      let none : (n : ℕ) → n < connections → count_of p n ≡ 0 = λ n l. ap (λ (r : ReachTable). get_or r.urls n 0) (tabled_refused p t) ∙ get_or-replicate {A = ℕ} connections n 0 0 l in (
        λ n l. none n l ∙ sym (count_none_of (in_table p n) url_rows (λ u _. sym (cell_refused p n u (is_false (well_formed p) t)))),
        ap (λ (r : ReachTable). r.all) (tabled_refused p t) ∙ sym (sum_none_of (count_of p) connections none),
      )
]

-- ---- changes

-- what a connection reaches is settled by its own words and the row's
same_reached : (p q : List ℕ) (n u : ℕ) → SameRow p q u → SameConnection p q n → reaches p n u ≡ reaches q n u
unfolding reaches is_url empty_row fits fit_missing_reader fit_missing_writer url_address is_entry
same_reached p q n u row connection = rw (row.0, row.1, row.2, connection.0, connection.1)

-- counts by what is reached, in two well formed policies
module _ (p q : List ℕ) (tp : T (well_formed p)) (tq : T (well_formed q)) where
  counts_apart : (most n : ℕ) → n < connections → AtMostApart most (reach p n) (reach q n) → AtMostApart most (count_of p n) (count_of q n)
  counts_apart most n l h =
      let e = counted p tp n l in
      let f = counted q tq n l in
      (omega (arith, e, f, h.0), omega (arith, e, f, h.1))

  totals_apart : (most : ℕ) → AtMostApart most (sum_below connections (reach p)) (sum_below connections (reach q)) → AtMostApart most (tabled p).all (tabled q).all
  totals_apart most h =
      let e = total_is p tp in
      let f = total_is q tq in
      (omega (arith, e, f, h.0), omega (arith, e, f, h.1))

pub row_moves : RowMoves
unfolding reach
row_moves p q u tp tq (rows, same) =
    (totals_apart p q tp tq 32 (sum_each (reach p) (reach q) connections reach_apart), λ n l. counts_apart p q tp tq 1 n l (reach_apart n l))
  where
    reach_apart : (n : ℕ) → n < connections → AtMostApart 1 (reach p n) (reach q n)
    reach_apart n l = count_but_one (reaches p n) (reaches q n) u url_rows (λ v h ne. same_reached p q n v (rows v h ne) (same n l))

pub connection_moves : ConnectionMoves
connection_moves p q n tp tq (rows, others) = (
  totals_apart p q tp tq 64 (sum_but_one (reach p) (reach q) 64 n connections others_same (omega (arith, reach_most p n), omega (arith, reach_most q n))),
  λ m l ne. counted p tp m l ∙ others_same m l ne ∙ sym (counted q tq m l),
)
  where
    others_same : (m : ℕ) → m < connections → (m ≡ n → ⊥) → reach p m ≡ reach q m
    others_same m l ne =
        sym (reach_is p m) ∙ count_same (reaches p m) (reaches q m) url_rows (λ u h. same_reached p q m u (rows u h) (others m l ne)) ∙ reach_is q m

-- What a connection reaches, by the tests that code makes; and what is answered, by whether the policy is well formed.
use Rattle.prelude.proofs.Kit.{ℕ, ◌≤◌, ◌<◌, true, false, not, List, map, ◌≡◌, sym, ◌∙◌, ap, zero-add, T, get_or}
use Rattle.prelude.specs.Lists.{numbers}
use Rattle.prelude.specs.Refusals.{accepted}
use Rattle.prelude.specs.Sums.{sum_below, count_below}
use Rattle.prelude.proofs.Choices.{branch_true, branch_false}
use Rattle.prelude.proofs.Lists.{map_at}
use Rattle.prelude.proofs.Sums.{count_most, sum_same}
use Rattle.machine.specs.Policy.{url_rows, connections, is_connection, is_url, well_formed, fits}
use Rattle.machine.specs.Machine.{policy_bad}
use Rattle.reach_table.specs.Reach.{reaches, reach, total_reach, table, refused, tabled, in_table}

module _ (p : List ℕ) where
  module _ (n u : ℕ) where
    pub no_url : is_url p u ≡ false → false ≡ reaches p n u
    unfolding reaches
    no_url e = rw e

    pub url_reached : is_url p u ≡ true → fits p n u ≡ reaches p n u
    unfolding reaches
    url_reached e = rw e

  pub reach_is : (n : ℕ) → count_below url_rows (reaches p n) ≡ reach p n
  unfolding reach
  reach_is n = λ i. count_below url_rows (reaches p n)

  pub reach_most : (n : ℕ) → reach p n ≤ url_rows
  unfolding reach
  reach_most n = count_most (reaches p n) url_rows

  -- the counts, in their list
  pub count_at : (n : ℕ) → n < connections → get_or (map (reach p) (numbers 0 connections)) n 0 ≡ reach p n
  count_at n l = map_at (reach p) connections 0 n l ∙ ap (reach p) (zero-add n)

  total_of : sum_below connections (λ n. get_or (map (reach p) (numbers 0 connections)) n 0) ≡ total_reach p
  unfolding total_reach
  total_of = sum_same (λ n. get_or (map (reach p) (numbers 0 connections)) n 0) (reach p) connections count_at

  -- ---- what is answered

  pub tabled_refused : T (not (well_formed p)) → tabled p ≡ refused policy_bad
  unfolding tabled
  tabled_refused t = branch_false (well_formed p) (table p) (refused policy_bad) t

  pub tabled_counted : T (well_formed p) → tabled p ≡ table p
  unfolding tabled
  tabled_counted t = branch_true (well_formed p) (table p) (refused policy_bad) t

  pub is_table_lem : (urls : List ℕ) (all : ℕ) → T (well_formed p) → urls ≡ map (reach p) (numbers 0 connections)
      → all ≡ sum_below connections (λ n. get_or urls n 0) → record { number = accepted; urls = urls; all = all } ≡ tabled p
  is_table_lem urls all t e f =
      let sums : all ≡ total_reach p = f ∙ ap (λ (us : List ℕ). sum_below connections (λ n. get_or us n 0)) e ∙ total_of in
      (λ i. record { number = accepted; urls = e i; all = sums i }) ∙ sym (tabled_counted t)

  -- ---- a cell

  module _ (n u : ℕ) where
    pub cell_refused : well_formed p ≡ false → false ≡ in_table p n u
    unfolding in_table
    cell_refused e = rw e

    pub cell_nowhere : well_formed p ≡ true → is_connection n ≡ false → false ≡ in_table p n u
    unfolding in_table
    cell_nowhere e f = rw (e, f)

    pub cell_reached : well_formed p ≡ true → is_connection n ≡ true → reaches p n u ≡ in_table p n u
    unfolding in_table
    cell_reached e f = rw (e, f)

-- The worked cases hold: they are computed. And the bounds on what a change moves are reached.
use Rattle.prelude.proofs.Kit.{ℕ, ◌<◌, Bool, ◌&&◌, ◌||◌, List, ◌≡◌, refl, T, eqb, eqb→eq, and_l, and_r}
use mathlib.Core.Logic.{inl, inr}
use Rattle.prelude.specs.Lists.{numbers}
use Rattle.prelude.specs.Sums.{sum_below, count_below}
use Rattle.labels.specs.Membership.{all_below}
use Rattle.labels.proofs.Below.{all_at, or_cases}
use Rattle.machine.specs.Policy.{url_rows, connections, address_word, url_readers, url_writers, connection_readers, connection_writers}
use Rattle.machine.proofs.Cases.{cases}
use Rattle.reach_table.specs.Reach.{reaches, reach, total_reach, tabled, in_table}
use Rattle.reach_table.specs.Guarantees.{SameRow, SameConnection}
use Rattle.reach_table.specs.Cases.{answers, each_below, fewer, one_page, unreached, one_connection, ReachCases, BoundsReached}

pub reach_cases : ReachCases
unfolding cases numbers sum_below count_below reaches reach total_reach tabled in_table answers each_below
reach_cases = tt

-- ---- that two policies are the same but for a row or a connection, as tests

module _ (p q : List ℕ) where
  abbrev same_row : ℕ → Bool
  same_row u = eqb (address_word p u) (address_word q u) && (eqb (url_readers p u) (url_readers q u) && eqb (url_writers p u) (url_writers q u))

  abbrev same_connection : ℕ → Bool
  same_connection n = eqb (connection_readers p n) (connection_readers q n) && eqb (connection_writers p n) (connection_writers q n)

  row_of : (u : ℕ) → T (same_row u) → SameRow p q u
  row_of u t =
      let rest = and_r (eqb (address_word p u) (address_word q u)) _ t in (
        eqb→eq (address_word p u) (address_word q u) (and_l (eqb (address_word p u) (address_word q u)) _ t),
        eqb→eq (url_readers p u) (url_readers q u) (and_l (eqb (url_readers p u) (url_readers q u)) _ rest),
        eqb→eq (url_writers p u) (url_writers q u) (and_r (eqb (url_readers p u) (url_readers q u)) _ rest),
      )

  connection_of_lem : (n : ℕ) → T (same_connection n) → SameConnection p q n
  connection_of_lem n t = (
    eqb→eq (connection_readers p n) (connection_readers q n) (and_l (eqb (connection_readers p n) (connection_readers q n)) _ t),
    eqb→eq (connection_writers p n) (connection_writers q n) (and_r (eqb (connection_readers p n) (connection_readers q n)) _ t),
  )

-- a test that passes at every number but one
others_pass : (n j : ℕ) (test : ℕ → Bool) → T (all_below n (λ i. eqb i j || test i)) → (i : ℕ) → i < n → (i ≡ j → ⊥) → T (test i)
others_pass n j test t i l ne = elim (or_cases (eqb i j) (test i) (all_at n (λ i. eqb i j || test i) t i l)) [
  | inl e ↦ absurd (ne (eqb→eq i j e))
  | inr h ↦ h
]

pub bounds_reached : BoundsReached
unfolding cases numbers sum_below count_below reaches reach total_reach tabled each_below
bounds_reached = (
  (
    tt,
    tt,
    (
      λ v l ne. row_of fewer one_page v (others_pass url_rows 5 (same_row fewer one_page) tt v l ne),
      λ n l. connection_of_lem fewer one_page n (all_at connections (same_connection fewer one_page) tt n l),
    ),
    refl,
  ),
  (
    tt,
    tt,
    (
      λ u l. row_of unreached one_connection u (all_at url_rows (same_row unreached one_connection) tt u l),
      λ m l ne. connection_of_lem unreached one_connection m (others_pass connections 7 (same_connection unreached one_connection) tt m l ne),
    ),
    refl,
  ),
)

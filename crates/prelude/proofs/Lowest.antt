-- The lowest number that passes a test: how a search comes to it, and what it is.
use Rattle.prelude.proofs.Kit.{ℕ, ◌≤◌, ◌<◌, ◌+◌, ◌-◌, suc, zero, add-one, arith, true, Bool, false, not, List, ◌∷◌, ◌≡◌, sym, ◌∙◌, refl, ap, subst}
use Rattle.prelude.proofs.Kit.{T, get_or, ℕ_discrete}
use native.Mathlib.Nat.{le_refl}
use Rattle.prelude.specs.Choice.{branch, keep}
use Rattle.prelude.specs.Lists.{numbers, lowest}
use Rattle.prelude.proofs.Choices.{is_false, is_true}

module _ (n : ℕ) (test : ℕ → Bool) where
  -- the lowest from a number on
  pub lowest_from : ℕ → ℕ
  lowest_from k = get_or (keep test (numbers k (n - k))) 0 n

  pub lowest_of_all : lowest_from 0 ≡ lowest n test
  unfolding lowest_from lowest
  lowest_of_all = let all : n - 0 ≡ n = omega arith in rw all

  pub lowest_of_none : (k : ℕ) → n ≤ k → lowest_from k ≡ n
  unfolding lowest_from keep numbers
  lowest_of_none k l = let none : n - k ≡ 0 = omega arith in rw none

  module _ (k : ℕ) (l : k < n) where
    left : n - k ≡ suc (n - suc k)
    left = omega arith

    pub lowest_here : test k ≡ true → lowest_from k ≡ k
    unfolding lowest_from keep numbers branch
    lowest_here e = rw (left, e)

    pub lowest_later : test k ≡ false → lowest_from k ≡ lowest_from (k + 1)
    unfolding lowest_from keep numbers branch
    lowest_later e = rw (left, e, add-one k)

  passed : (k : ℕ) → k ≤ n → ((j : ℕ) → j < k → T (not (test j))) → lowest n test ≡ lowest_from k
  passed k most none = sym lowest_of_all ∙ reaches k (le_refl k)
    where
      reaches : (j : ℕ) → j ≤ k → lowest_from 0 ≡ lowest_from j
      reaches zero h = refl
      reaches (suc j) h = reaches j (omega (arith, h)) ∙ lowest_later j (omega (arith, h, most)) (is_false (test j) (none j h)) ∙ ap lowest_from (add-one j)

  -- a number that passes, where no lower one does, is the lowest
  pub lowest_is : (k : ℕ) → k < n → T (test k) → ((j : ℕ) → j < k → T (not (test j))) → lowest n test ≡ k
  lowest_is k l t none = passed k (omega arith) none ∙ lowest_here k l (is_true (test k) t)

  -- the bound is told where none passes
  pub lowest_none : ((j : ℕ) → j < n → T (not (test j))) → lowest n test ≡ n
  lowest_none none = passed n (le_refl n) none ∙ lowest_of_none n (le_refl n)

  -- what the lowest from a number on is
  abbrev Lowest : ℕ → ℕ → Type 0
  Lowest from k = (k ≤ n) × (k < n → T (test k)) × ((j : ℕ) → from ≤ j → j < k → T (not (test j)))

  lowest_has : (m from : ℕ) → from + m ≡ n → Lowest from (get_or (keep test (numbers from m)) 0 n)
  unfolding keep numbers branch
  lowest_has zero from e = (le_refl n, λ l. absurd (omega arith), λ j l h. absurd (omega (arith, l, h, e)))
  lowest_has (suc m) from e = go (keep test (numbers (suc from) m)) (test from) refl (lowest_has m (suc from) (omega (arith, e)))
    where
      go : (later : List ℕ) (b : Bool) → test from ≡ b → Lowest (suc from) (get_or later 0 n) → Lowest from (get_or (branch b (from ∷ later) later) 0 n)
      go later true q rest = (omega (arith, e), λ l. subst T (sym q) tt, λ j l h. absurd (omega (arith, l, h)))
      go later false q rest = (
        rest.0,
        rest.1,
        λ j l h. elim (ℕ_discrete j from) [
          | yes s ↦ subst (λ (b : Bool). T (not b)) (sym (ap test s ∙ q)) tt
          | no d ↦ rest.2 j (omega (arith, l, d)) h
        ],
      )

  told : Lowest 0 (lowest n test)
  unfolding lowest
  told = lowest_has n 0 (omega arith)

  pub lowest_most : lowest n test ≤ n
  lowest_most = told.0

  pub lowest_passes : lowest n test < n → T (test (lowest n test))
  lowest_passes = told.1

  pub below_lowest : (j : ℕ) → j < lowest n test → T (not (test j))
  below_lowest j l = told.2 j (omega arith) l

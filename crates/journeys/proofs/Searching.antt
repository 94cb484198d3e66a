-- What `all` and `find` over a range answer, by the definitions' own searches.
use Rattle.std.proofs.Common.{ℕ, ◌≤◌, ◌<◌, zero-le, Bool, true, false, not, Option, Some, None, MatchOption, unwrap_or, ◌≡◌, sym, T, ◌↔◌, IsTrue}
use Rattle.std.proofs.lemmas.Bool.{true≢false, false≢true}
use Rattle.prelude.specs.Lists.{lowest}
use Rattle.prelude.proofs.Choices.{is_true}
use Rattle.prelude.proofs.Lowest.{lowest_is, lowest_none}
use Rattle.labels.specs.Membership.{all_below}
use Rattle.labels.proofs.Below.{same, all_at, all_of}

passed : (b : Bool) → b ≡ true → T b
passed true e = tt
passed false e = absurd (false≢true e)

failed : (b : Bool) → b ≡ false → T (not b)
failed true e = absurd (true≢false e)
failed false e = tt

module _ (n : ℕ) (test : ℕ → Bool) where
  pub all_is : (b : Bool) → (IsTrue b ↔ ((i : ℕ) → i < n → test i ≡ true)) → b ≡ all_below n test
  all_is b h = same b (all_below n test)
      (λ t. all_of n test (λ i l. passed (test i) (h.0 (is_true b t) i l)))
      (λ t. passed b (h.1 (λ i l. is_true (test i) (all_at n test t i l))))

  -- what `first_from_Range` says of `find` over the numbers below n
  pub first_is_lowest : (r : Option ℕ)
      → MatchOption r ((k : ℕ) → 0 ≤ k → k < n → test k ≡ false) (λ i. (0 ≤ i) × (i < n) × (test i ≡ true) × ((k : ℕ) → 0 ≤ k → k < i → test k ≡ false))
      → unwrap_or r n ≡ lowest n test
  first_is_lowest None h = sym (lowest_none n test (λ k l. failed (test k) (h k zero-le l)))
  first_is_lowest (Some i) h = sym (lowest_is n test i h.1 (passed (test i) h.2) (λ k l. failed (test k) (h.3 k zero-le l)))

-- A map of keys has just the keys that its test passes, and no other bit.
use Rattle.prelude.proofs.Kit.{ℕ, ◌<◌, ◌+◌, suc, ◌^◌, zero, ◌*◌, ◌%◌, ◌/◌, le_of_suc-le-suc, not-suc-le-zero, arith, true, Bool, false, ◌≡◌}
use Rattle.prelude.proofs.Kit.{sym, ◌∙◌, ap, subst, eqb}
use native.Mathlib.Nat.{pow-suc}
use Rattle.prelude.specs.Choice.{branch}
use Rattle.prelude.proofs.Choices.{one}
use Rattle.prelude.proofs.Bits.{half_bit}
use Rattle.machine.specs.Session.{has, map_below}

-- the lowest bit, and the others
lowest : (b : Bool) (m : ℕ) → eqb ((branch b 1 0 + 2 * m) / 1 % 2) 1 ≡ b
unfolding branch
lowest true m = let e : (1 + 2 * m) / 1 % 2 ≡ 1 = omega arith in ap (λ (x : ℕ). eqb x 1) e
lowest false m = let e : (0 + 2 * m) / 1 % 2 ≡ 0 = omega arith in ap (λ (x : ℕ). eqb x 1) e

digit : (b : Bool) → branch b 1 0 < 2
digit b = one (λ (x : ℕ). x < 2) b (λ _. omega arith) (λ _. omega arith)

higher : (b : Bool) (m k : ℕ) → (branch b 1 0 + 2 * m) / 2 ^ suc k % 2 ≡ m / 2 ^ k % 2
higher b m k =
    sym (half_bit (branch b 1 0 + 2 * m) k) ∙ ap (λ (x : ℕ). x / 2 ^ k % 2) (half (branch b 1 0) m (digit b))
  where
    half : (d m : ℕ) → d < 2 → (d + 2 * m) / 2 ≡ m
    half d m l = omega arith

pub has_map : (n : ℕ) (test : ℕ → Bool) (k : ℕ) → k < n → has (map_below n test) k ≡ test k
unfolding has map_below
has_map zero test k l = absurd (not-suc-le-zero l)
has_map (suc n) test zero l = lowest (test 0) (map_below n (λ k. test (suc k)))
has_map (suc n) test (suc k) l =
    ap (λ (x : ℕ). eqb x 1) (higher (test 0) (map_below n (λ k. test (suc k))) k) ∙ has_map n (λ k. test (suc k)) k (le_of_suc-le-suc l)

pub map_below_lem : (n : ℕ) (test : ℕ → Bool) → map_below n test < 2 ^ n
unfolding map_below
map_below_lem zero test = omega arith
map_below_lem (suc n) test =
    subst (λ (x : ℕ). branch (test 0) 1 0 + 2 * map_below n (λ k. test (suc k)) < x) (sym (pow-suc 2 n))
    (bound (branch (test 0) 1 0) (map_below n (λ k. test (suc k))) (2 ^ n) (digit (test 0)) (map_below_lem n (λ k. test (suc k))))
  where
    bound : (d m x : ℕ) → d < 2 → m < x → d + 2 * m < x * 2
    bound d m x l k = omega arith

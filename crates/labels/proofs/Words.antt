-- The laws of sets that are words: bits against membership, the word of a membership, and the empty set, all endpoints and singletons.
use Rattle.prelude.proofs.Kit.{ℕ, ◌<◌, ◌+◌, ◌-◌, ◌*◌, suc, ◌^◌, zero, ◌%◌, ◌/◌, zero-lt-suc, div-one, add-zero, zero-add, add-one, arith}
use Rattle.prelude.proofs.Kit.{true, Bool, false, not, cond, ⊎_elim, ◌≡◌, sym, ◌∙◌, lt-ltb, le-ltb, ◌≤◌, one-mul, lit<}
use Rattle.prelude.proofs.Kit.{refl, ap, subst, T, T_not, not_T, eqb, ltb, eqb→eq, ltb→lt, lt→ltb, and_i, and_r, and_l, le_of_suc-le-suc, not-suc-le-zero}
use Prim.Native.Nat.{min, suc-le-suc}
use native.Mathlib.Nat.{zero-div}
use lib.Arith.{lt-one}
use lib.Pow.{shr_lt, shl_exact}
use lib.Bits.{bit_and, and_le_r}
use Rattle.std.proofs.Common.{w32}
use Rattle.std.specs.Int.{bit_not}
use Rattle.std.proofs.lemmas.Nat.Bits.{bit_at_and, bit_at_not, bit_at-zero, bit_at-trailing_zeros}
use Rattle.std.proofs.lemmas.Bool.{cases_lt, agree_below, agree_below_at}
use lib.Count.{count_trailing_zeros}
use Rattle.prelude.proofs.Bits.{half_bit}
use Rattle.prelude.proofs.Choices.{either, is_true, is_false}
use Rattle.labels.specs.Membership.{Membership, endpoints, all_below, is_missing, is_lowest_missing, lowest_missing, missing_one, subset}
use Rattle.labels.specs.Sets.{holds, within, missing, empty, all, only, word_from, word_of}
use Rattle.labels.proofs.Below.{all_at, all_of, same}
use Rattle.labels.proofs.Membership.{Bounded, subset_holds, holds_subset, none_lowest, lowest_is, one_missing, one_subset}

-- what a set holds is an endpoint
pub holds_below : (s : ℕ) → Bounded (holds s)
unfolding holds
holds_below s a h = ltb→lt a endpoints (and_l (ltb a endpoints) (eqb (s / 2 ^ a % 2) 1) h)

bit_of_lem : (s a : ℕ) → T (holds s a) → s / 2 ^ a % 2 ≡ 1
unfolding holds
bit_of_lem s a h = eqb→eq (s / 2 ^ a % 2) 1 (and_r (ltb a endpoints) (eqb (s / 2 ^ a % 2) 1) h)

of_bit : (s a : ℕ) → a < endpoints → s / 2 ^ a % 2 ≡ 1 → T (holds s a)
unfolding holds
of_bit s a l e = and_i (ltb a endpoints) (eqb (s / 2 ^ a % 2) 1) (lt→ltb a endpoints l) (subst (λ (x : ℕ). T (eqb x 1)) (sym e) tt)

-- a bit that is not 1 is 0
unheld_bit : (t a : ℕ) → a < endpoints → T (not (holds t a)) → t / 2 ^ a % 2 ≡ 0
unheld_bit t a l n = not_one (t / 2 ^ a % 2) (omega arith) (λ e. T_not (holds t a) n (of_bit t a l e))
  where
    not_one : (x : ℕ) → x < 2 → (x ≡ 1 → ⊥) → x ≡ 0
    not_one zero l f = refl
    not_one (suc zero) l f = absurd (f refl)
    not_one (suc (suc x)) l f = absurd (omega arith)

-- ---- s & !t is what is left over: its bits are the endpoints of s that are missing in t

abbrev left_over : ℕ → ℕ → ℕ
left_over s t = bit_and s (bit_not w32 t)

-- the bits of !t are those that t lacks
left_bit : (s t a : ℕ) → t < 2 ^ 32 → a < endpoints → left_over s t / 2 ^ a % 2 ≡ min (s / 2 ^ a % 2) (1 - t / 2 ^ a % 2)
left_bit s t a l k = bit_at_and s (bit_not w32 t) a ∙ ap (min (s / 2 ^ a % 2)) (bit_at_not w32 t a l k)

left_missing : (s t a : ℕ) → t < 2 ^ 32 → a < endpoints → T (is_missing (holds s) (holds t) a) → left_over s t / 2 ^ a % 2 ≡ 1
left_missing s t a l k m =
    left_bit s t a l k ∙ rw (bit_of_lem s a (and_l (holds s a) (not (holds t a)) m), unheld_bit t a k (and_r (holds s a) (not (holds t a)) m)) refl

left_not : (s t a : ℕ) → t < 2 ^ 32 → a < endpoints → T (not (is_missing (holds s) (holds t) a)) → left_over s t / 2 ^ a % 2 ≡ 0
left_not s t a l k n =
    ⊎_elim (λ h. left_bit s t a l k ∙ rw (bit_of_lem t a h) (omega arith))
    (λ h. left_bit s t a l k ∙ rw (unheld_bit s a k (not_T (holds s a) (λ m. T_not (is_missing (holds s) (holds t) a) n (and_i (holds s a) (not (holds t a)) m h)))) (omega arith))
    (either (holds t a))

-- the question of the code: the zeros below the lowest bit of what is left over
pub zeros_missing : (s t : ℕ) → t < 2 ^ 32 → count_trailing_zeros 32 (left_over s t) ≡ missing s t
unfolding is_lowest_missing count_trailing_zeros
zeros_missing s t l = ⊎_elim found none (cases_lt 0 (left_over s t))
  where
    absent : (a : ℕ) → a < endpoints → left_over s t / 2 ^ a % 2 ≡ 0 → T (not (is_missing (holds s) (holds t) a))
    absent a k e = not_T (is_missing (holds s) (holds t) a) (λ m. omega (arith, e, left_missing s t a l k m))

    present : (a : ℕ) → a < endpoints → left_over s t / 2 ^ a % 2 ≡ 1 → T (is_missing (holds s) (holds t) a)
    present a k e = ⊎_elim (λ m. m) (λ n. absurd (omega (arith, e, left_not s t a l k n))) (either (is_missing (holds s) (holds t) a))

    none : left_over s t ≤ 0 → count_trailing_zeros 32 (left_over s t) ≡ missing s t
    none h =
        let empty : left_over s t ≡ 0 = omega (arith, h) in
        rw empty refl ∙ none_lowest (holds s) (holds t) (λ a k. absent a k (rw empty (bit_at-zero a)))

    found : 0 < left_over s t → count_trailing_zeros 32 (left_over s t) ≡ missing s t
    found some =
        let at = bit_at-trailing_zeros w32 (left_over s t) some (omega (arith, and_le_r s (bit_not w32 t))) in
        let a = count_trailing_zeros 32 (left_over s t) in
        sym (lowest_is (holds s) (holds t) a at.0 (and_i (is_missing (holds s) (holds t) a) _ (present a at.0 at.1) (all_of a (λ b. not (is_missing (holds s) (holds t) b)) (λ b k. absent b (omega (arith, k, at.0)) (at.2 b k)))))

pub empty_word : empty ≡ 0
unfolding empty
empty_word = refl

-- no endpoint is in the empty set, and each is in the set of all
pub empty_holds : (a : ℕ) → T (holds empty a) → ⊥
unfolding empty
empty_holds a h = let e = bit_of_lem empty a h in omega (arith, rw zero-div at e)

pub all_holds : (a : ℕ) → a < endpoints → T (holds all a)
unfolding holds all all_below
all_holds = all_at endpoints (holds all) tt

-- only the empty set, which the code has as 0, is within the empty set
pub within_none : (s : ℕ) → s < 2 ^ 32 → within s 0 ≡ eqb s 0
unfolding empty
within_none s l =
    same (within s 0) (eqb s 0)
    (λ w. rw (no_bits endpoints s l (λ a k. unheld_bit s a k (not_T (holds s a) (λ h. empty_holds a (subset_holds (holds s) (holds 0) w a k h))))) tt)
    (λ e. holds_subset (holds s) (holds 0) (λ a k h. subst (λ (x : ℕ). T (holds x a)) (eqb→eq s 0 e) h))
  where
    no_bits : (n s : ℕ) → s < 2 ^ n → ((a : ℕ) → a < n → s / 2 ^ a % 2 ≡ 0) → s ≡ 0
    no_bits zero s l f = lt-one l
    no_bits (suc n) s l f =
        let rest = no_bits n (s / 2) (shr_lt n 1 (rw add-one l)) (λ a k. half_bit s a ∙ f (suc a) (suc-le-suc k)) in
        let low = rw div-one at (f zero (zero-lt-suc n)) in
        omega (arith, rest, low)

-- a singleton holds its endpoint and no other: one computed test of all 32 by 32
right : ℕ → Bool
right a = agree_below (holds (only a)) (eqb a) endpoints

computed : T (all_below endpoints right)
unfolding right all_below holds only
computed = tt

pub only_holds : (a b : ℕ) → a < endpoints → b < endpoints → holds (only a) b ≡ eqb a b
unfolding right
only_holds a b l k = agree_below_at (holds (only a)) (eqb a) endpoints b (is_true _ (all_at endpoints right computed a l)) k

-- the singleton that code shifts a one for, and the one of a number above 31
pub only_shifted : (a : ℕ) → a < endpoints → 1 * 2 ^ a % 2 ^ 32 ≡ only a
unfolding only
only_shifted a l = shl_exact 1 a endpoints (lit< tt) (omega arith) ∙ one-mul (2 ^ a) ∙ rw (lt-ltb a endpoints l)

pub only_above : (a : ℕ) → endpoints ≤ a → empty ≡ only a
unfolding only
only_above a l = rw (le-ltb a endpoints l)

-- so what is missing of a singleton is its endpoint, just where a set does not hold it
pub only_missing : (a : ℕ) (t : Membership) → a < endpoints → lowest_missing (holds (only a)) t ≡ missing_one t a
only_missing a t l = one_missing (holds (only a)) a l (λ b k. only_holds a b l k) t

-- and it is within just the sets that hold its endpoint
pub only_within : (a : ℕ) (t : Membership) → a < endpoints → subset (holds (only a)) t ≡ t a
only_within a t l = one_subset (holds (only a)) a l (λ b k. only_holds a b l k) t

-- ---- the word of a set that is given by membership

module _ (s : Membership) where
  abbrev bit_at : ℕ → ℕ
  bit_at a = cond (s a) 1 0

  low : (b : Bool) (w : ℕ) → (cond b 1 0 + 2 * w) % 2 ≡ cond b 1 0
  low true w = omega arith
  low false w = omega arith

  high : (b : Bool) (w : ℕ) → (cond b 1 0 + 2 * w) / 2 ≡ w
  high true w = omega arith
  high false w = omega arith

  bits_are : (n a k : ℕ) → k < n → word_from n a s / 2 ^ k % 2 ≡ bit_at (a + k)
  unfolding word_from
  bits_are zero a k l = absurd (not-suc-le-zero l)
  bits_are (suc n) a zero l = rw (div-one, add-zero) (low (s a) (word_from n (suc a) s))
  bits_are (suc n) a (suc k) l =
      sym (half_bit (bit_at a + 2 * word_from n (suc a) s) k) ∙ ap (λ (x : ℕ). x / 2 ^ k % 2) (high (s a) (word_from n (suc a) s))
      ∙ bits_are n (suc a) k (le_of_suc-le-suc l) ∙ ap bit_at (omega arith)

  bits_make : (n a w : ℕ) → w < 2 ^ n → ((k : ℕ) → k < n → w / 2 ^ k % 2 ≡ bit_at (a + k)) → w ≡ word_from n a s
  unfolding word_from
  bits_make zero a w l f = lt-one l
  bits_make (suc n) a w l f =
      let rest = bits_make n (suc a) (w / 2) (shr_lt n 1 (rw add-one l)) (λ k h. half_bit w k ∙ f (suc k) (suc-le-suc h) ∙ ap bit_at (omega arith)) in
      let lowest : w % 2 ≡ bit_at a = rw (div-one, add-zero) at (f zero (zero-lt-suc n)) in
      omega (arith, rest, lowest)

  -- it holds the endpoints that are in the set
  pub word_holds : (a : ℕ) → a < endpoints → holds (word_of s) a ≡ s a
  unfolding holds word_of
  word_holds a l = rw (lt-ltb a endpoints l, bits_are endpoints 0 a l, zero-add) (go (s a))
    where
      go : (b : Bool) → eqb (cond b 1 0) 1 ≡ b
      go true = refl
      go false = refl

  -- and any word that holds just these is it
  pub word_is : (w : ℕ) → w < 2 ^ 32 → ((a : ℕ) → a < endpoints → holds w a ≡ s a) → w ≡ word_of s
  unfolding word_of
  word_is w l f =
      bits_make endpoints 0 w l (λ a h. ⊎_elim
      (λ t. bit_of_lem w a t ∙ bit_is a true (sym (f a h) ∙ is_true (holds w a) t))
      (λ t. unheld_bit w a h t ∙ bit_is a false (sym (f a h) ∙ is_false (holds w a) t))
      (either (holds w a)))
    where
      bit_is : (a : ℕ) (b : Bool) → s a ≡ b → cond b 1 0 ≡ bit_at (0 + a)
      bit_is a b e = rw (zero-add, e)

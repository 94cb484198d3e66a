-- A name, an equals sign and a number in decimal, read back: the parts of such a line are these, and the digits make the number.
use Rattle.prelude.proofs.Kit.{ℕ, ◌≤◌, ◌<◌, ◌+◌, ◌-◌, ◌*◌, ◌/◌, ◌%◌, ◌^◌, suc, zero, arith, true, Bool, false, true≢false, ◌&&◌, ◌||◌, cond, List, ◌∷◌, [], ◌++◌}
use Rattle.prelude.proofs.Kit.{◌≡◌, sym, ◌∙◌, refl, ap, subst, eqb, ltb, length, length-append, eq-eqb, ne_eqb, lt-ltb, zero-lt-suc}
use native.Mathlib.Nat.{pow-suc, div-lt_iff_lt-mul}
use lib.Dec.{leb}
use borrow.Author.Tests.{le-leb, leb-true, ltb-true}
use Rattle.prelude.specs.Choice.{branch, every}
use Rattle.prelude.specs.Lists.{same_numbers}
use Rattle.text.specs.Text.{decimal, decimal_within, digit}
use Rattle.cookie.specs.Parts.{has, before, after, is_blank, trim_start, trim_end, trim}
use Rattle.text.proofs.Decimals.{decimal_ten}
use Rattle.std.specs.Prelude.{Some}
use Rattle.text.specs.Numbers.{is_digit, number_after, number_of, most_digits, largest, is_number, number_read}

-- ---- a byte between two texts

module _ (byte : ℕ) where
  has_both : (xs ys : List ℕ) → has byte (xs ++ ys) ≡ has byte xs || has byte ys
  unfolding has
  has_both [] ys = refl
  has_both (x ∷ xs) ys = rw (has_both xs ys) (go (eqb x byte))
    where
      go : (b : Bool) → b || (has byte xs || has byte ys) ≡ (b || has byte xs) || has byte ys
      go true = refl
      go false = refl

  module _ (ys : List ℕ) where
    itself : eqb byte byte ≡ true
    itself = eq-eqb byte byte refl

    pub stands_between : (xs : List ℕ) → has byte (xs ++ (byte ∷ ys)) ≡ true
    unfolding has
    stands_between xs = has_both xs (byte ∷ ys) ∙ rw itself (go (has byte xs))
      where
        go : (b : Bool) → b || true ≡ true
        go true = refl
        go false = refl

    pub before_it : (xs : List ℕ) → has byte xs ≡ false → before byte (xs ++ (byte ∷ ys)) ≡ xs
    unfolding has before branch
    before_it [] e = rw itself
    before_it (x ∷ xs) e = go (eqb x byte) e (before_it xs)
      where
        go : (b : Bool) → b || has byte xs ≡ false → (has byte xs ≡ false → before byte (xs ++ (byte ∷ ys)) ≡ xs)
            → branch b [] (x ∷ before byte (xs ++ (byte ∷ ys))) ≡ x ∷ xs
        go true e f = absurd (true≢false e)
        go false e f = ap (λ (l : List ℕ). x ∷ l) (f e)

    pub after_it : (xs : List ℕ) → has byte xs ≡ false → after byte (xs ++ (byte ∷ ys)) ≡ ys
    unfolding has after branch
    after_it [] e = rw itself
    after_it (x ∷ xs) e = go (eqb x byte) e (after_it xs)
      where
        go : (b : Bool) → b || has byte xs ≡ false → (has byte xs ≡ false → after byte (xs ++ (byte ∷ ys)) ≡ ys)
            → branch b (xs ++ (byte ∷ ys)) (after byte (xs ++ (byte ∷ ys))) ≡ ys
        go true e f = absurd (true≢false e)
        go false e f = f e

pub has_neither : (byte : ℕ) (xs ys : List ℕ) → has byte xs ≡ false → has byte ys ≡ false → has byte (xs ++ ys) ≡ false
has_neither byte xs ys e f = has_both byte xs ys ∙ rw (e, f)

pub same_itself : (xs : List ℕ) → same_numbers xs xs ≡ true
unfolding same_numbers
same_itself [] = refl
same_itself (x ∷ xs) = rw (eq-eqb x x refl, same_itself xs)

-- ---- digits

digits_join : (xs ys : List ℕ) → every is_digit xs ≡ true → every is_digit ys ≡ true → every is_digit (xs ++ ys) ≡ true
unfolding every
digits_join [] ys e f = f
digits_join (x ∷ xs) ys e f = go (is_digit x) e (digits_join xs ys)
  where
    go : (b : Bool) → b && every is_digit xs ≡ true → (every is_digit xs ≡ true → every is_digit ys ≡ true → every is_digit (xs ++ ys) ≡ true) → b && every is_digit (xs ++ ys) ≡ true
    go true e h = h e f
    go false e h = absurd (true≢false (sym e))

number_join : (xs ys : List ℕ) (n : ℕ) → number_after n (xs ++ ys) ≡ number_after (number_after n xs) ys
unfolding number_after
number_join [] ys n = refl
number_join (x ∷ xs) ys n = number_join xs ys (n * 10 + (x - 0x30))

-- a number in decimal is digits, and they make it
is_one : (d : ℕ) → d < 10 → is_digit (digit d) ≡ true
is_one d l = rw (le-leb 0x30 (digit d) (omega arith), le-leb (digit d) 0x39 (omega arith))

Reads : List ℕ → ℕ → Type 0
Reads ds n = (every is_digit ds ≡ true) × (number_of ds ≡ n) × (0 < length ds)

one : (n : ℕ) → n < 10 → Reads (digit n ∷ []) n
unfolding Reads every number_after
one n l = (rw (is_one n l), omega arith, omega arith)

one_more : (ds : List ℕ) (q r : ℕ) → r < 10 → Reads ds q → Reads (ds ++ (digit r ∷ [])) (q * 10 + r)
unfolding Reads every number_after
one_more ds q r l (all, e, some) = (
  digits_join ds (digit r ∷ []) all (rw (is_one r l)),
  number_join ds (digit r ∷ []) 0 ∙ omega (arith, e),
  omega (arith, length-append ds (digit r ∷ [])),
)

within : (most n : ℕ) → n < 10 ^ suc most → Reads (decimal_within (suc most) n) n
unfolding decimal_within
within zero n h = rw (lt-ltb n 10 h) (one n h)
within (suc most) n h = go (ltb n 10) refl (within most (n / 10))
  where
    go : (b : Bool) → ltb n 10 ≡ b → (n / 10 < 10 ^ suc most → Reads (decimal_within (suc most) (n / 10)) (n / 10))
        → Reads (cond b (digit n ∷ []) (decimal_within (suc most) (n / 10) ++ (digit (n % 10) ∷ []))) n
    go true e later = one n (ltb-true n 10 e)
    go false e later =
        let tenth : n / 10 < 10 ^ suc most = (div-lt_iff_lt-mul {k = 10} {x = n} {y = 10 ^ suc most} (zero-lt-suc 9)).1 (rw (pow-suc 10 (suc most)) at h) in
        let whole : n / 10 * 10 + n % 10 ≡ n = omega arith in
        subst (Reads (decimal_within (suc most) (n / 10) ++ (digit (n % 10) ∷ []))) whole
        (one_more (decimal_within (suc most) (n / 10)) (n / 10) (n % 10) (omega arith) (later tenth))

reads : (n : ℕ) → n ≤ largest → Reads (decimal n) n
unfolding decimal
reads n l = within 9 n (omega arith)

-- so it is read as that number
pub decimal_is_read : (n : ℕ) → n ≤ largest → number_read (decimal n) ≡ Some n
unfolding is_number Reads
decimal_is_read n l =
    let r = reads n l in
    rw (
      ne_eqb (length (decimal n)) 0 (λ e. omega (arith, e, r.2)),
      le-leb (length (decimal n)) most_digits (decimal_ten n),
      r.0,
      le-leb (number_of (decimal n)) largest (omega (arith, r.1, l)),
      r.1,
    )

-- ---- what digits are not

digit_from : (x : ℕ) → is_digit x ≡ true → 0x30 ≤ x
digit_from x e = leb-true 0x30 x (go (leb 0x30 x) (leb x 0x39) e)
  where
    go : (a b : Bool) → a && b ≡ true → a ≡ true
    go true b e = refl
    go false b e = e

module _ (n : ℕ) (l : n ≤ largest) where
  all_digits : every is_digit (decimal n) ≡ true
  unfolding Reads
  all_digits = (reads n l).0

  pub decimal_lacks : (byte : ℕ) → is_digit byte ≡ false → has byte (decimal n) ≡ false
  unfolding has every
  decimal_lacks byte other = lacks (decimal n) all_digits
    where
      lacks : (ds : List ℕ) → every is_digit ds ≡ true → has byte ds ≡ false
      lacks [] e = refl
      lacks (x ∷ xs) e = go (is_digit x) refl e (lacks xs)
        where
          go : (b : Bool) → is_digit x ≡ b → b && every is_digit xs ≡ true → (every is_digit xs ≡ true → has byte xs ≡ false) → eqb x byte || has byte xs ≡ false
          go true q e f = rw (ne_eqb x byte (λ s. true≢false (sym q ∙ ap is_digit s ∙ other)), f e)
          go false q e f = absurd (true≢false (sym e))

  pub decimal_untrimmed : trim (decimal n) ≡ decimal n
  unfolding trim trim_start trim_end every branch
  decimal_untrimmed = ap (trim_end is_blank) (start (decimal n) all_digits) ∙ end (decimal n) all_digits
    where
      no_blank : (x : ℕ) → is_digit x ≡ true → is_blank x ≡ false
      no_blank x e = rw (ne_eqb x 0x20 (λ s. omega (arith, s, digit_from x e)), ne_eqb x 0x09 (λ s. omega (arith, s, digit_from x e)))

      first : (b c : Bool) → b && c ≡ true → (b ≡ true) × (c ≡ true)
      first true c e = (refl, e)
      first false c e = absurd (true≢false (sym e))

      start : (ds : List ℕ) → every is_digit ds ≡ true → trim_start ds ≡ ds
      start [] e = refl
      start (x ∷ xs) e = rw (no_blank x (first (is_digit x) (every is_digit xs) e).0)

      end : (ds : List ℕ) → every is_digit ds ≡ true → trim_end is_blank ds ≡ ds
      end [] e = refl
      end (x ∷ xs) e =
          let f = first (is_digit x) (every is_digit xs) e in
          rw (no_blank x f.0) (ap (λ (l : List ℕ). x ∷ l) (end xs f.1))

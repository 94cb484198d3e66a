-- Digits are read one after another: what they write so far and those that are left make the number.
use Rattle.prelude.proofs.Kit.{ℕ, ◌≤◌, ◌<◌, ◌+◌, ◌-◌, ◌*◌, ◌^◌, add-one, zero-lt-suc, arith, true, false, List, ◌≡◌, sym, ◌∙◌, refl, length, drop, get_or, drop-cons}
use native.Mathlib.Nat.{pow-suc, pow-le-pow_right}
use mathlib.Core.Bool.{and-false}
use lib.Seq.{drop-length}
use borrow.Author.Tests.{le-leb, lt-leb, eq-eqb, ne_eqb}
use Rattle.prelude.specs.Choice.{every}
use Rattle.std.specs.Prelude.{Some, None}
use Rattle.text.specs.Numbers.{is_digit, number_after, number_of, most_digits, largest, is_number, number_read}

at_most_nine : (x : ℕ) → is_digit x ≡ true → x ≤ 0x39
at_most_nine x e = grind (arith, e)

-- digits before place i wrote n
pub record Reading (text : List ℕ) (n i : ℕ) : Type 0 where
  pub short : length text ≤ most_digits
  pub some : 0 < length text
  pub few : i ≤ length text
  pub small : n < 10 ^ i
  pub digits : every is_digit (drop i text) ≡ every is_digit text
  pub number : number_after n (drop i text) ≡ number_of text

module _ (text : List ℕ) where
  pub reading_begins : 0 < length text → length text ≤ most_digits → Reading text 0 0
  reading_begins p l = record { short = l; some = p; few = omega arith; small = omega arith; digits = refl; number = refl }

  -- what is no number
  module _ (no : every is_digit text ≡ false) where
    pub no_digits : number_read text ≡ None
    unfolding is_number
    no_digits = rw (no, and-false, and-false)

  pub no_text : length text ≡ 0 → number_read text ≡ None
  unfolding is_number
  no_text e = rw (eq-eqb (length text) 0 e)

  pub too_many : most_digits < length text → number_read text ≡ None
  unfolding is_number
  too_many l = rw (lt-leb (length text) most_digits l, and-false)

  module _ {n i : ℕ} (r : Reading text n i) where
    -- ten digits make less than 2 ^ 64
    pub below : n < 10000000000
    below = omega (arith, r.small, pow-le-pow_right {n = 10} (zero-lt-suc 9) {i = i} {j = 10} (omega (arith, r.few, r.short)))

    module _ (l : i < length text) where
      abbrev next : ℕ
      next = get_or text i 0

      pub reading_stops : is_digit next ≡ false → number_read text ≡ None
      unfolding every
      reading_stops e = no_digits (sym r.digits ∙ rw (drop-cons text i 0 l, e))

      pub reading_goes_on : is_digit next ≡ true → {d : ℕ} → d ≡ next - 0x30 → Reading text (n * 10 + d) (i + 1)
      unfolding every number_after
      reading_goes_on e k = record {
        short = r.short;
        some = r.some;
        few = omega (arith, l);
        small = rw (add-one i, pow-suc 10 i) (omega (arith, r.small, k, at_most_nine next e));
        digits = rw (add-one i) (sym (rw (drop-cons text i 0 l, e)) ∙ r.digits);
        number = rw (add-one i, k) (sym (rw (drop-cons text i 0 l)) ∙ r.number);
      }

    module _ (e : i ≡ length text) where
      all_digits : every is_digit text ≡ true
      unfolding every
      all_digits = sym r.digits ∙ rw (e, drop-length text)

      pub read_all : n ≡ number_of text
      unfolding number_after
      read_all = rw (e, drop-length text) at r.number

      pub too_large : largest < n → number_read text ≡ None
      unfolding is_number
      too_large k =
          rw (ne_eqb (length text) 0 (λ z. omega (arith, z, r.some)), le-leb (length text) most_digits r.short, all_digits, lt-leb (number_of text) largest (omega (arith, k, read_all)))

      pub is_read : n ≤ largest → number_read text ≡ Some n
      unfolding is_number
      is_read k =
          rw (ne_eqb (length text) 0 (λ z. omega (arith, z, r.some)), le-leb (length text) most_digits r.short, all_digits, le-leb (number_of text) largest (omega (arith, k, read_all)), sym read_all)

-- for the check: what each way out of the loop leaves
pub ruleset read_or_not = (no_text, too_many, reading_stops, too_large, is_read)

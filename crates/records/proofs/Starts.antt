-- Where the fields begin, each after the one before it; and the count of ones of the key map is the number of values.
use Rattle.prelude.proofs.Kit.{ℕ, ◌<◌, ◌+◌, ◌^◌, ◌*◌, ◌/◌, div-one, arith, map, ◌≡◌, sym, ◌∙◌, ap}
use native.Mathlib.Nat.{div-eq_of_lt}
use lib.Count.{ones, ones_step}
use lib.Pow.{shr-shr}
use Rattle.records.specs.Bytes.{bit}
use Rattle.records.specs.Layout.{key_numbers, widths, start, sum, size}
use Rattle.records.specs.Places.{cookie_widths}

-- the ones of the digits from j on: digit j, and those after it
ones_from : (n j : ℕ) → ones (n / 2 ^ j) ≡ bit n j + ones (n / 2 ^ (j + 1))
ones_from n j = ones_step (n / 2 ^ j) ∙ ap (λ (x : ℕ). bit n j + ones x) (shr-shr n j 1)

pub ones_keys : (keys : ℕ) → keys < 256 → ones keys ≡ sum (map (bit keys) key_numbers)
unfolding ones
ones_keys keys h =
    let counted : ones (keys / 1) ≡ sum (map (bit keys) key_numbers) =
    rw (ones_from keys 0, ones_from keys 1, ones_from keys 2, ones_from keys 3, ones_from keys 4, ones_from keys 5, ones_from keys 6, ones_from keys 7, div-eq_of_lt h) in
    ap ones (sym (div-one keys)) ∙ counted

pub values_size : (keys : ℕ) → keys < 256 → 4 * ones keys ≡ sum (cookie_widths keys)
unfolding cookie_widths widths
values_size keys h = omega (arith, ones_keys keys h)

-- the front is map, URL and connection, where the map has both
module _ (m keys : ℕ) where
  pub starts : (start 2 m 0 ≡ 1 + bit m 0 + bit m 1) × (start 3 m keys ≡ 1 + bit m 0 + bit m 1 + bit m 2)
      × (start 12 m keys ≡ start 11 m keys + bit m 3) × (start 13 m keys ≡ start 12 m keys + 4 * bit m 4)
      × (size m keys ≡ start 13 m keys + bit m 5)
  unfolding start size widths
  starts = omega arith

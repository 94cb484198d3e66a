-- The loops over the eight keys: what remains to be done from a key on, with the laws of its first key and of the rest.
use Rattle.std.specs.Prelude.{replicate}
use Rattle.std.proofs.lemmas.List.{set-get_or, get_or-set_other}
use Rattle.prelude.proofs.Kit.{ℕ, ◌≤◌, ◌<◌, ◌+◌, suc, zero, subst, ◌^◌, ◌*◌, zero-add, add-one, arith}
use Rattle.prelude.proofs.Kit.{◌&&◌, and_assoc, and-true, List, ◌∷◌, ◌++◌, append_assoc, append-nil, ◌≡◌, sym, ◌∙◌, refl, ap}
use Rattle.prelude.proofs.Kit.{bit_or, eqb, ltb, length, take, drop, get_or, set, length-set, length-drop, sets, take_all, drop-cons}
use lib.Seq.{take-suc-set, length-sets}
use Rattle.prelude.proofs.Bits.{or_zero}
use Rattle.prelude.specs.Lists.{numbers}
use Rattle.prelude.proofs.Lists.{sets_append, map_at}
use Rattle.records.specs.Bytes.{bit, number, digits}
use Rattle.records.specs.Layout.{key_numbers, widths, sum, join, split, fit_widths}
use Rattle.records.specs.Places.{cookie_widths}
use Rattle.records.specs.Writing.{Room, Wrote}
use Rattle.records.proofs.Digits.{length_digits}
use Rattle.records.proofs.Joining.{length_join}

-- the keys from one on: itself, and those after it
pub keys_from : (key : ℕ) → key < 8 → drop key key_numbers ≡ key ∷ drop (suc key) key_numbers
unfolding numbers
keys_from key l =
    drop-cons key_numbers key 0 l ∙ ap (λ (k : ℕ). k ∷ drop (suc key) key_numbers) (map_at (λ k. k) 8 0 key l ∙ zero-add key)

module _ (keys key : ℕ) (l : key < 8) where
  -- the widths from a key on: its own, and those after it
  pub widths_from : drop key (cookie_widths keys) ≡ 4 * bit keys key ∷ drop (suc key) (cookie_widths keys)
  unfolding cookie_widths widths numbers
  widths_from =
      drop-cons (cookie_widths keys) key 0 l
      ∙ ap (λ (w : ℕ). w ∷ drop (suc key) (cookie_widths keys))
      (map_at (λ k. 4 * bit keys k) 8 0 key l ∙ ap (λ (k : ℕ). 4 * bit keys k) (zero-add key))

  pub sum_from : sum (drop key (cookie_widths keys)) ≡ 4 * bit keys key + sum (drop (suc key) (cookie_widths keys))
  sum_from = ap sum widths_from

all_zero : (n k : ℕ) → get_or {A = ℕ} (replicate n 0) k 0 ≡ 0
all_zero zero k = refl
all_zero (suc n) zero = refl
all_zero (suc n) (suc k) = all_zero n k

-- reading: the values so far, and those that are read from here on, are all of them
pub record Reading (bytes : List ℕ) (keys : ℕ) (values rest : List ℕ) (key : ℕ) : Type 0 where
  pub below : key ≤ 8
  pub eight : length values ≡ 8
  pub zeros : (k : ℕ) → key ≤ k → get_or values k 0 ≡ 0
  pub room : sum (drop key (cookie_widths keys)) ≤ length rest
  pub remains : take key values ++ split (drop key (cookie_widths keys)) rest ≡ split (cookie_widths keys) bytes

module _ (bytes : List ℕ) (keys : ℕ) where
  pub reading_begins : sum (cookie_widths keys) ≤ length bytes → Reading bytes keys (replicate 8 0) bytes 0
  reading_begins r = record { below = omega arith; eight = refl; zeros = λ k _. all_zero 8 k; room = r; remains = refl }

  -- a key that is read; where it is not set, no byte is
  pub reading_goes_on : (values rest after : List ℕ) (key v : ℕ) → key < 8 → Reading bytes keys values rest key
      → v ≡ number (take (4 * bit keys key) rest) → after ≡ drop (4 * bit keys key) rest → Reading bytes keys (set values key v) after (key + 1)
  unfolding split
  reading_goes_on values rest after key v l r e d =
      rw (add-one key) (record {
        below = l;
        eight = length-set values key v ∙ r.eight;
        zeros = λ k h. get_or-set_other values key k v 0 (λ e. omega (arith, e, h)) ∙ r.zeros k (omega (arith, h));
        room = rw d (simp length-drop (omega (arith, r.room, sum_from keys key l)));
        remains =
            rw (take-suc-set values key v (rw r.eight l), e, d, append_assoc (take key values))
            (rw (widths_from keys key l) at r.remains);
      })

  -- a key that is not set keeps its 0
  pub reading_passes : (values rest : List ℕ) (key : ℕ) → key < 8 → Reading bytes keys values rest key → bit keys key ≡ 0 → Reading bytes keys values rest (key + 1)
  unfolding number
  reading_passes values rest key l r none =
      subst (λ (vs : List ℕ). Reading bytes keys vs rest (key + 1)) (ap (set values key) (sym (r.zeros key (omega arith))) ∙ set-get_or values key 0)
      (reading_goes_on values rest rest key 0 l r (rw none refl) (rw none refl))

  pub reading_ends : (values rest : List ℕ) → Reading bytes keys values rest 8 → values ≡ split (cookie_widths keys) bytes
  unfolding split cookie_widths widths
  reading_ends values rest r = sym (append-nil (take 8 values) ∙ take_all 8 values (omega (arith, r.eight))) ∙ r.remains

-- writing: what is written from here on leads to where all leads
pub record Writing (before : List ℕ) (at keys : ℕ) (values out : List ℕ) (next key : ℕ) : Type 0 where
  pub below : key ≤ 8
  pub eight : length values ≡ 8
  pub long : length out ≡ length before
  pub room : at + sum (cookie_widths keys) ≤ length before
  pub place : next + sum (drop key (cookie_widths keys)) ≡ at + sum (cookie_widths keys)
  pub remains : sets out next (join (drop key (cookie_widths keys)) (drop key values)) ≡ sets before at (join (cookie_widths keys) values)

module _ (before : List ℕ) (at keys : ℕ) (values : List ℕ) where
  pub writing_begins : length values ≡ 8 → Room at before (join (cookie_widths keys) values) → Writing before at keys values before at 0
  unfolding cookie_widths widths
  writing_begins e r =
      let all = length_join (cookie_widths keys) values e in
      record { below = omega arith; eight = e; long = refl; room = omega (arith, r, all); place = refl; remains = refl }

  module _ (out : List ℕ) (next key : ℕ) (l : key < 8) (w : Writing before at keys values out next key) where
    abbrev value : List ℕ
    value = digits (4 * bit keys key) (get_or values key 0)

    pub writing_fits : Room next out value
    writing_fits = omega (arith, w.place, w.room, w.long, sum_from keys key l, length_digits (4 * bit keys key) (get_or values key 0))

    pub writing_goes_on : (after : List ℕ) (place : ℕ) → Wrote next out value place after → Writing before at keys values after place (key + 1)
    unfolding join
    writing_goes_on after place wrote =
        let wide = length_digits (4 * bit keys key) (get_or values key 0) in
        rw (add-one key) (record {
          below = l;
          eight = w.eight;
          long = rw wrote.held (length-sets out next value ∙ w.long);
          room = w.room;
          place = omega (arith, w.place, sum_from keys key l, wrote.place, wide);
          remains =
              rw (wrote.held, wrote.place, wide)
              (rw (sets_append value, wide)
              at (rw (widths_from keys key l, drop-cons values key 0 (rw w.eight l)) at w.remains));
        })

  pub writing_ends : (out : List ℕ) (next : ℕ) → Writing before at keys values out next 8 → Wrote at before (join (cookie_widths keys) values) next out
  unfolding join cookie_widths widths
  writing_ends out next w =
      let all = length_join (cookie_widths keys) values w.eight in
      record { place = omega (arith, w.place, all); held = w.remains; long = w.long }

-- testing: what was met so far is 0 and the values from here on fit, just where all do
pub record Testing (keys : ℕ) (values : List ℕ) (met key : ℕ) : Type 0 where
  pub below : key ≤ 8
  pub eight : length values ≡ 8
  pub remains : eqb met 0 && fit_widths (drop key (cookie_widths keys)) (drop key values) ≡ fit_widths (cookie_widths keys) values

module _ (keys : ℕ) (values : List ℕ) where
  pub testing_goes_on : (met key stray : ℕ) → key < 8 → Testing keys values met key
      → eqb stray 0 ≡ ltb (get_or values key 0) (256 ^ (4 * bit keys key)) → Testing keys values (bit_or met stray) (key + 1)
  unfolding fit_widths
  testing_goes_on met key stray l t e =
      rw (add-one key) (record {
        below = l;
        eight = t.eight;
        remains =
            rw (or_zero met stray, e, and_assoc (eqb met 0))
            (rw (widths_from keys key l, drop-cons values key 0 (rw t.eight l)) at t.remains);
      })

  pub testing_ends : (met : ℕ) → Testing keys values met 8 → eqb met 0 ≡ fit_widths (cookie_widths keys) values
  unfolding fit_widths cookie_widths widths
  testing_ends met t = sym (and-true (eqb met 0)) ∙ t.remains

-- What encoding answers at each of its tests. No record is longer than the longest, and the code's test of the fields is the definition's.
use Rattle.prelude.proofs.Kit.{ℕ, ◌≤◌, ◌<◌, ◌+◌, ◌^◌, ◌*◌, pred, zero-add, arith, true, ◌&&◌, Bool, false, not, ◌||◌, and_assoc, and-true}
use Rattle.prelude.proofs.Kit.{List, ◌∷◌, [], ◌++◌, map, ◌≡◌, sym, ◌∙◌, refl, ap, subst, ap₂, le-ltb, lt-ltb, bit_or, T, eqb, ltb, eqb→eq}
use Rattle.prelude.proofs.Kit.{length, drop, and_r, and_l}
use lib.Dec.{leb, leb→le}
use lib.Seq.{sets-eq}
use Rattle.prelude.specs.Refusals.{accepted}
use Rattle.prelude.proofs.Refusals.{first_is, none_applies}
use Rattle.prelude.proofs.Bits.{or_zero}
use Rattle.records.specs.declared.Direction.{Direction}
use Rattle.records.specs.declared.Direction.TheVariants.{Input, Request}
use Rattle.records.specs.declared.Record.{Record}
use Rattle.records.specs.Bytes.{bit}
use Rattle.records.specs.Layout.{key_numbers, maps, longest, widths, sum, fit_widths, values, size}
use Rattle.records.specs.Codec.{no_room, not_carriable, is_one_of, no_key_set, carriable, bytes_of, write_refusals, write_refusal, encoded}
use Rattle.records.specs.Places.{front_widths, cookie_widths, back_widths}
use Rattle.records.specs.Writing.{Wrote}
use Rattle.records.proofs.Joining.{length_join}
use Rattle.records.proofs.InTurn.{widths_split, values_split, size_split, front_sum, front_count, cookie_count, back_count}

pub counted : (r : Record) → length (values r) ≡ length (widths r.map r.keys)
unfolding values widths
counted r = refl

pub bytes_length : (r : Record) → length (bytes_of r) ≡ size r.map r.keys
unfolding bytes_of size
bytes_length r = omega (arith, length_join (widths r.map r.keys) (values r) (counted r))

-- ---- the longest record

cookies_room : (keys : ℕ) (ks : List ℕ) → sum (map (λ k. 4 * bit keys k) ks) ≤ 4 * length ks
cookies_room keys [] = omega arith
cookies_room keys (k ∷ ks) = omega (arith, cookies_room keys ks)

within : ℕ → ℕ → Bool
within n m = leb (1 + sum (front_widths m) + 32 + sum (back_widths m)) n

every : (ℕ → Bool) → List ℕ → Bool
every f [] = true
every f (m ∷ ms) = f m && every f ms

all_within : (d : Direction) → T (every (within (longest d)) (maps d))
unfolding every within front_widths back_widths widths longest
all_within Input = tt
all_within Request = tt

either_way : {P : Type 0} (x y : Bool) → (T x → P) → (T y → P) → T (x || y) → P
either_way true y f g t = f tt
either_way false y f g t = g t

every_at : (f : ℕ → Bool) (ms : List ℕ) (m : ℕ) → T (every f ms) → T (is_one_of m ms) → T (f m)
unfolding every is_one_of
every_at f [] m h o = absurd o
every_at f (k ∷ ms) m h o =
    either_way (eqb m k) (is_one_of m ms) (λ e. subst (λ (x : ℕ). T (f x)) (sym (eqb→eq m k e)) (and_l (f k) (every f ms) h))
    (λ o'. every_at f ms m (and_r (f k) (every f ms) h) o') o

pub size_longest : (d : Direction) (m keys : ℕ) → T (is_one_of m (maps d)) → size m keys ≤ longest d
unfolding within cookie_widths widths
size_longest d m keys h =
    let l = leb→le (1 + sum (front_widths m) + 32 + sum (back_widths m)) (longest d) (every_at (within (longest d)) (maps d) m (all_within d) h) in
    omega (arith, l, size_split m keys, front_sum m keys, cookies_room keys key_numbers)

-- ---- the test of the fields

fits_append : (ws us vs xs : List ℕ) → length vs ≡ length ws → fit_widths (ws ++ us) (vs ++ xs) ≡ fit_widths ws vs && fit_widths us xs
unfolding fit_widths
fits_append [] us [] xs e = refl
fits_append [] us (v ∷ vs) xs e = absurd (omega arith)
fits_append (w ∷ ws) us [] xs e = absurd (omega arith)
fits_append (w ∷ ws) us (v ∷ vs) xs e = rw (fits_append ws us vs xs (ap pred e)) (sym (and_assoc (ltb v (256 ^ w)) (fit_widths ws vs) (fit_widths us xs)))

module _ (r : Record) (eight : length r.cookies ≡ 8) where
  abbrev m : ℕ
  m = r.map

  in_three : fit_widths (widths m r.keys) (values r)
      ≡ fit_widths (front_widths m) (r.url ∷ r.connection ∷ r.keys ∷ [])
      && (fit_widths (cookie_widths r.keys) r.cookies && fit_widths (back_widths m) (r.script ∷ r.value ∷ r.target ∷ []))
  unfolding fit_widths
  in_three =
      rw (widths_split m r.keys, values_split r eight, fits_append (front_widths m) (cookie_widths r.keys ++ (back_widths m ++ (0 ∷ []))) (r.url ∷ r.connection ∷ r.keys ∷ []) (r.cookies ++ (r.script ∷ r.value ∷ r.target ∷ 0 ∷ [])) (front_count r eight), fits_append (cookie_widths r.keys) (back_widths m ++ (0 ∷ [])) r.cookies (r.script ∷ r.value ∷ r.target ∷ 0 ∷ []) (cookie_count r eight), fits_append (back_widths m) (0 ∷ []) (r.script ∷ r.value ∷ r.target ∷ []) (0 ∷ []) (back_count r eight), and-true)

  pub all_fit : (bit m 0 ≡ 1) × (bit m 1 ≡ 1) → r.url < 256 → r.connection < 256 → (k cs s v t : ℕ)
      → eqb k 0 ≡ ltb r.keys (256 ^ (1 * bit m 2))
      → eqb cs 0 ≡ fit_widths (cookie_widths r.keys) r.cookies
      → eqb s 0 ≡ ltb r.script (256 ^ (1 * bit m 3))
      → eqb v 0 ≡ ltb r.value (256 ^ (4 * bit m 4))
      → eqb t 0 ≡ ltb r.target (256 ^ (1 * bit m 5))
      → eqb (bit_or (bit_or (bit_or (bit_or k cs) s) v) t) 0 ≡ fit_widths (widths m r.keys) (values r)
  unfolding fit_widths front_widths back_widths widths
  all_fit front u c k cs s v t ek ecs es ev et =
      rw in_three (simp (or_zero, front.0, front.1, lt-ltb r.url 256 u, lt-ltb r.connection 256 c, ek, ecs, es, ev, et, and_assoc, and-true))

-- ---- the answers

-- the three tests of what is carriable
module _ (d : Direction) (r : Record) (ok : T (carriable d r)) where
  pub known : T (is_one_of r.map (maps d))
  unfolding carriable
  known = and_l (is_one_of r.map (maps d)) (not (no_key_set r.map r.keys) && fit_widths (widths r.map r.keys) (values r)) ok

  others : T (not (no_key_set r.map r.keys) && fit_widths (widths r.map r.keys) (values r))
  unfolding carriable
  others = and_r (is_one_of r.map (maps d)) (not (no_key_set r.map r.keys) && fit_widths (widths r.map r.keys) (values r)) ok

  pub keyed : T (not (no_key_set r.map r.keys))
  keyed = and_l (not (no_key_set r.map r.keys)) (fit_widths (widths r.map r.keys) (values r)) others

  pub fitting : T (fit_widths (widths r.map r.keys) (values r))
  fitting = and_r (not (no_key_set r.map r.keys)) (fit_widths (widths r.map r.keys) (values r)) others

module _ (d : Direction) (r : Record) (out : List ℕ) where
  pub no_room_lem : length out < longest d → record { number = no_room; length = 0; buffer = out } ≡ encoded d r out
  unfolding encoded write_refusal
  no_room_lem l = rw (first_is accepted 0 (write_refusals d r out) tt (lt-ltb (length out) (longest d) l))

  pub not_carriable_lem : longest d ≤ length out → carriable d r ≡ false → record { number = not_carriable; length = 0; buffer = out } ≡ encoded d r out
  unfolding encoded write_refusal
  not_carriable_lem l e = rw (first_is accepted 1 (write_refusals d r out) (le-ltb (length out) (longest d) l, tt) (rw e))

  pub no_write_refusal : longest d ≤ length out → carriable d r ≡ true → write_refusal d r out ≡ accepted
  unfolding write_refusal
  no_write_refusal l e = none_applies accepted (write_refusals d r out) (le-ltb (length out) (longest d) l, (rw e, tt))

  pub encoded_accepted : write_refusal d r out ≡ accepted
      → encoded d r out ≡ record { number = accepted; length = length (bytes_of r); buffer = bytes_of r ++ drop (length (bytes_of r)) out }
  unfolding encoded
  encoded_accepted e = rw e

  pub room_left : longest d ≤ length out → carriable d r ≡ true → 0 + length (bytes_of r) ≤ length out
  room_left l e = omega (arith, l, size_longest d r.map r.keys (known d r (subst T (sym e) tt)), bytes_length r)

  pub written_whole : {n : ℕ} {after : List ℕ} → longest d ≤ length out → carriable d r ≡ true → Wrote 0 out (bytes_of r) n after
      → record { number = accepted; length = n; buffer = after } ≡ encoded d r out
  written_whole {n} {after} l e w =
      let same_length : n ≡ length (bytes_of r) = omega (arith, w.place) in
      let whole : after ≡ bytes_of r ++ drop (length (bytes_of r)) out =
      w.held ∙ sets-eq (bytes_of r) out 0 (room_left l e) ∙ ap (λ (k : ℕ). bytes_of r ++ drop k out) (zero-add (length (bytes_of r))) in
      ap₂ (λ (k : ℕ) (b : List ℕ). record { number = accepted; length = k; buffer = b }) same_length whole
      ∙ sym (encoded_accepted (no_write_refusal l e))

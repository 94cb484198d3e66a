-- Values laid out by widths, and bytes taken apart by them: each is had back from the other. So are a record and its values.
use Rattle.prelude.proofs.Kit.{ℕ, ◌≤◌, ◌<◌, ◌+◌, suc, ◌^◌, zero, pred, mod-eq_of_lt, arith, List, ◌∷◌, [], ◌++◌, append_assoc, ◌≡◌, ◌∙◌}
use Rattle.prelude.proofs.Kit.{refl, ap, subst, ap₂, T, ltb, ltb→lt, lt→ltb, and_i, length, take, drop, get_or, length-append, length-drop}
use Rattle.prelude.proofs.Kit.{are_bytes, length-take-le, and_r, and_l}
use lib.ListN.{take-append-drop}
use lib.Seq.{take_at, drop_at}
use Rattle.records.specs.declared.Record.{Record}
use Rattle.records.specs.Bytes.{number, digits}
use Rattle.records.specs.Layout.{sum, join, split, fit_widths, values, from_values}
use Rattle.records.proofs.Digits.{length_digits, number_digits, number_lt, digits_number}

-- bytes of a part of a list of bytes
take_bytes : (n : ℕ) (bytes : List ℕ) → T (are_bytes bytes) → T (are_bytes (take n bytes))
take_bytes zero bytes h = tt
take_bytes (suc n) [] h = tt
take_bytes (suc n) (b ∷ bytes) h =
    and_i (ltb b 256) (are_bytes (take n bytes)) (and_l (ltb b 256) (are_bytes bytes) h) (take_bytes n bytes (and_r (ltb b 256) (are_bytes bytes) h))

pub drop_bytes : (n : ℕ) (bytes : List ℕ) → T (are_bytes bytes) → T (are_bytes (drop n bytes))
drop_bytes zero bytes h = h
drop_bytes (suc n) [] h = tt
drop_bytes (suc n) (b ∷ bytes) h = drop_bytes n bytes (and_r (ltb b 256) (are_bytes bytes) h)

pub length_join : (ws vs : List ℕ) → length vs ≡ length ws → length (join ws vs) ≡ sum ws
unfolding join
length_join [] vs e = refl
length_join (w ∷ ws) [] e = absurd (omega arith)
length_join (w ∷ ws) (v ∷ vs) e =
    rw (length-append (digits w v) (join ws vs), length_digits w v) (ap (λ (n : ℕ). w + n) (length_join ws vs (ap pred e)))

pub length_split : (ws bytes : List ℕ) → length (split ws bytes) ≡ length ws
unfolding split
length_split [] bytes = refl
length_split (w ∷ ws) bytes = ap suc (length_split ws (drop w bytes))

pub split_join : (ws vs rest : List ℕ) → length vs ≡ length ws → T (fit_widths ws vs) → split ws (join ws vs ++ rest) ≡ vs
unfolding split join fit_widths
split_join [] [] rest e h = refl
split_join [] (v ∷ vs) rest e h = absurd (omega arith)
split_join (w ∷ ws) [] rest e h = absurd (omega arith)
split_join (w ∷ ws) (v ∷ vs) rest e h =
    rw (append_assoc (digits w v) (join ws vs) rest, take_at (digits w v) (join ws vs ++ rest) w (length_digits w v), drop_at (digits w v) (join ws vs ++ rest) w (length_digits w v))
    (ap₂ ◌∷◌ (number_digits w v ∙ mod-eq_of_lt (ltb→lt v (256 ^ w) (and_l (ltb v (256 ^ w)) (fit_widths ws vs) h)))
    (split_join ws vs rest (ap pred e) (and_r (ltb v (256 ^ w)) (fit_widths ws vs) h)))

module _ (w : ℕ) (ws bytes : List ℕ) (h : T (are_bytes bytes)) (l : w + sum ws ≤ length bytes) where
  head_length : length (take w bytes) ≡ w
  head_length = length-take-le w bytes (omega arith)

  head_fits : number (take w bytes) < 256 ^ w
  head_fits = subst (λ (n : ℕ). number (take w bytes) < 256 ^ n) head_length (number_lt (take w bytes) (take_bytes w bytes h))

  head_digits : digits w (number (take w bytes)) ≡ take w bytes
  head_digits = subst (λ (n : ℕ). digits n (number (take w bytes)) ≡ take w bytes) head_length (digits_number (take w bytes) (take_bytes w bytes h))

  tail_length : sum ws ≤ length (drop w bytes)
  tail_length = simp length-drop (omega arith)

pub join_split : (ws bytes : List ℕ) → T (are_bytes bytes) → sum ws ≡ length bytes → join ws (split ws bytes) ≡ bytes
unfolding split join
join_split [] [] h e = refl
join_split [] (b ∷ bytes) h e = absurd (omega arith)
join_split (w ∷ ws) bytes h e =
    ap₂ ◌++◌ (head_digits w ws bytes h (omega arith)) (join_split ws (drop w bytes) (drop_bytes w bytes h) (simp length-drop (omega arith)))
    ∙ take-append-drop w bytes

pub fits_split : (ws bytes : List ℕ) → T (are_bytes bytes) → sum ws ≤ length bytes → T (fit_widths ws (split ws bytes))
unfolding split fit_widths
fits_split [] bytes h l = tt
fits_split (w ∷ ws) bytes h l =
    and_i (ltb (number (take w bytes)) (256 ^ w)) (fit_widths ws (split ws (drop w bytes)))
    (lt→ltb (number (take w bytes)) (256 ^ w) (head_fits w ws bytes h l))
    (fits_split ws (drop w bytes) (drop_bytes w bytes h) (tail_length w ws bytes h l))

-- A list of n elements, element by element: as it stands here, what is defined by its elements computes.
unfoldable pub spelt : ℕ → List ℕ → List ℕ
spelt zero l = []
spelt (suc n) l = get_or l 0 0 ∷ spelt n (drop 1 l)

pub spelt_is : (n : ℕ) (l : List ℕ) → length l ≡ n → spelt n l ≡ l
unfolding spelt
spelt_is zero [] e = refl
spelt_is zero (x ∷ l) e = absurd (omega arith)
spelt_is (suc n) [] e = absurd (omega arith)
spelt_is (suc n) (x ∷ l) e = ap (λ (t : List ℕ). x ∷ t) (spelt_is n l (ap pred e))

-- a record with other cookie values
unfoldable pub with_cookies_lem : Record → List ℕ → Record
with_cookies_lem r cs = record { map = r.map; url = r.url; connection = r.connection; keys = r.keys; cookies = cs; script = r.script; value = r.value; target = r.target }

pub from_values_lem : (r : Record) → length r.cookies ≡ 8 → from_values r.map (values r) ≡ r
unfolding values from_values spelt with_cookies_lem
from_values_lem r e =
    subst (λ (l : List ℕ). from_values r.map (values (with_cookies_lem r l)) ≡ with_cookies_lem r l) (spelt_is 8 r.cookies e) refl

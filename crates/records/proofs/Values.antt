-- The fields of a record that is taken apart: each is read at its place.
use Rattle.prelude.proofs.Kit.{ℕ, suc, zero, ◌*◌, one-mul, List, ◌∷◌, [], ◌≡◌, sym, ◌∙◌, refl, ap, subst, ap₂, length, take, drop, get_or}
use Rattle.prelude.proofs.Kit.{drop-drop}
use Rattle.records.specs.declared.Record.{Record}
use Rattle.records.specs.Bytes.{bit, number}
use Rattle.records.specs.Layout.{widths, start, sum, split, from_values}
use Rattle.records.specs.Codec.{map_of, keys_of, fields_of}
use Rattle.records.specs.Places.{cookie_widths}
use Rattle.records.proofs.Joining.{length_split, spelt, spelt_is}

-- what is taken apart, from field i on
split_from : (ws bytes : List ℕ) (i : ℕ) → drop i (split ws bytes) ≡ split (drop i ws) (drop (sum (take i ws)) bytes)
unfolding split
split_from ws bytes zero = refl
split_from [] bytes (suc i) = refl
split_from (w ∷ ws) bytes (suc i) = split_from ws (drop w bytes) i ∙ ap (split (drop i ws)) (drop-drop (sum (take i ws)) w bytes)

split_take : (ws bytes : List ℕ) (n : ℕ) → take n (split ws bytes) ≡ split (take n ws) bytes
unfolding split
split_take ws bytes zero = refl
split_take [] bytes (suc n) = refl
split_take (w ∷ ws) bytes (suc n) = ap (λ (vs : List ℕ). number (take w bytes) ∷ vs) (split_take ws (drop w bytes) n)

split_at : (ws bytes : List ℕ) (i : ℕ) → get_or (split ws bytes) i 0 ≡ number (take (get_or ws i 0) (drop (sum (take i ws)) bytes))
unfolding split number
split_at [] bytes i = refl
split_at (w ∷ ws) bytes zero = refl
split_at (w ∷ ws) bytes (suc i) =
    split_at ws (drop w bytes) i ∙ ap (λ (l : List ℕ). number (take (get_or ws i 0) l)) (drop-drop (sum (take i ws)) w bytes)

-- a record, field by field
abbrev pub made : (m u c k : ℕ) (cs : List ℕ) (s v t : ℕ) → Record
made m u c k cs s v t = record { map = m; url = u; connection = c; keys = k; cookies = cs; script = s; value = v; target = t }

-- its fields among its values
abbrev among : ℕ → List ℕ → Record
among m vs = made m (get_or vs 0 0) (get_or vs 1 0) (get_or vs 2 0) (take 8 (drop 3 vs)) (get_or vs 11 0) (get_or vs 12 0) (get_or vs 13 0)

by_place : (m : ℕ) (vs : List ℕ) → length vs ≡ 15 → from_values m vs ≡ among m vs
unfolding from_values spelt
by_place m vs e = subst (λ (l : List ℕ). from_values m l ≡ among m l) (spelt_is 15 vs e) refl

-- the key map is read alike whatever keys are taken to be set, since it comes before them
pub keys_first : (m keys : ℕ) (bytes : List ℕ) → (from_values m (split (widths m 0) bytes)).keys ≡ (from_values m (split (widths m keys) bytes)).keys
unfolding split from_values widths
keys_first m keys bytes = refl

pub same_keys : (bytes : List ℕ) → (fields_of bytes).keys ≡ keys_of bytes
unfolding fields_of keys_of
same_keys bytes = sym (keys_first (map_of bytes) (keys_of bytes) (drop 1 bytes))

-- value i is the number of its bytes, at its place
module _ (bytes : List ℕ) (m keys : ℕ) where
  at_start : (i : ℕ) → drop (sum (take i (widths m keys))) (drop 1 bytes) ≡ drop (start i m keys) bytes
  unfolding start
  at_start i = drop-drop (sum (take i (widths m keys))) 1 bytes

  value_at : (i w v : ℕ) → get_or (widths m keys) i 0 ≡ w → v ≡ number (take w (drop (start i m keys) bytes)) → v ≡ get_or (split (widths m keys) (drop 1 bytes)) i 0
  value_at i w v e h = rw (split_at (widths m keys) (drop 1 bytes) i, at_start i, e) h

  cookies_at : (cs : List ℕ) → cs ≡ split (cookie_widths keys) (drop (start 3 m keys) bytes) → cs ≡ take 8 (drop 3 (split (widths m keys) (drop 1 bytes)))
  unfolding widths cookie_widths
  cookies_at cs h = rw (split_from (widths m keys) (drop 1 bytes) 3, at_start 3, split_take (drop 3 (widths m keys)) (drop (start 3 m keys) bytes) 8) h

  placed : from_values m (split (widths m keys) (drop 1 bytes)) ≡ among m (split (widths m keys) (drop 1 bytes))
  unfolding widths
  placed = by_place m (split (widths m keys) (drop 1 bytes)) (length_split (widths m keys) (drop 1 bytes))

keys_of_lem : (bytes : List ℕ) (m keys : ℕ) → m ≡ map_of bytes → keys_of bytes ≡ get_or (split (widths m keys) (drop 1 bytes)) 2 0
unfolding keys_of
keys_of_lem bytes m keys em =
    keys_first (map_of bytes) keys (drop 1 bytes)
    ∙ ap (λ (x : ℕ). (from_values x (split (widths x keys) (drop 1 bytes))).keys) (sym em)
    ∙ ap (λ (r : Record). r.keys) (placed bytes m keys)

pub keys_read : (bytes : List ℕ) (m k : ℕ) → m ≡ map_of bytes → k ≡ number (take (bit m 2) (drop (start 2 m 0) bytes)) → k ≡ keys_of bytes
unfolding widths
keys_read bytes m k em h = value_at bytes m 0 2 (bit m 2) k (one-mul (bit m 2)) h ∙ sym (keys_of_lem bytes m 0 em)

-- the fields, with a map and a key map that are those of the bytes
pub fields_read : (bytes : List ℕ) (m keys : ℕ) → m ≡ map_of bytes → keys ≡ keys_of bytes → {u c s v t : ℕ} {cs : List ℕ}
    → u ≡ number (take (bit m 0) (drop 1 bytes))
    → c ≡ number (take (bit m 1) (drop (start 1 m keys) bytes))
    → cs ≡ split (cookie_widths keys) (drop (start 3 m keys) bytes)
    → s ≡ number (take (bit m 3) (drop (start 11 m keys) bytes))
    → v ≡ number (take (4 * bit m 4) (drop (start 12 m keys) bytes))
    → t ≡ number (take (bit m 5) (drop (start 13 m keys) bytes))
    → made m u c keys cs s v t ≡ fields_of bytes
unfolding fields_of widths start
fields_read bytes m keys em ek {u} {c} {s} {v} {t} {cs} hu hc hcs hs hv ht =
    let vs = split (widths m keys) (drop 1 bytes) in
    let pu = value_at bytes m keys 0 (bit m 0) u (one-mul (bit m 0)) hu in
    let pc = value_at bytes m keys 1 (bit m 1) c (one-mul (bit m 1)) hc in
    let pk = ek ∙ keys_of_lem bytes m keys em in
    let pcs = cookies_at bytes m keys cs hcs in
    let ps = value_at bytes m keys 11 (bit m 3) s (one-mul (bit m 3)) hs in
    let pv = value_at bytes m keys 12 (4 * bit m 4) v refl hv in
    let pt = value_at bytes m keys 13 (bit m 5) t (one-mul (bit m 5)) ht in
    let all : made m u c keys cs s v t ≡ among m vs = λ i. made m (pu i) (pc i) (pk i) (pcs i) (ps i) (pv i) (pt i) in
    all ∙ sym (placed bytes m keys) ∙ ap₂ (λ (x y : ℕ). from_values x (split (widths x y) (drop 1 bytes))) em ek

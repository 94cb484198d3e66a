-- The policy's words, each of four bytes, most significant first; and the policy of an input, by its length.
use Rattle.prelude.proofs.Kit.{ℕ, ◌≤◌, ◌<◌, ◌+◌, suc, zero, ◌*◌, arith, List, ◌∷◌, [], ◌≡◌, sym, ◌∙◌, refl, ap, length, take, drop, get_or, drop-drop, length-drop, length-take-le, not-suc-le-zero, le_of_suc-le-suc}
use lib.Seq.{ext_get_or}
use Rattle.std.specs.Int.{w32, from_be_bytes}
use Rattle.std.specs.Simd.{first_chunks}
use Rattle.records.specs.Bytes.{number}
use Rattle.transcript.specs.Input.{words_of}

-- four bytes make the same number in std's words
four_bytes : (bytes : List ℕ) → length bytes ≡ 4 → from_be_bytes w32 bytes ≡ number bytes
unfolding number
four_bytes (a ∷ b ∷ c ∷ d ∷ []) e = omega arith
four_bytes bytes e = absurd (omega arith)

-- a chunk of four bytes
chunk_at : (n i : ℕ) (input d : List ℕ) → i < n → get_or (first_chunks 4 n input) i d ≡ take 4 (drop (4 * i) input)
chunk_at zero i input d l = absurd (not-suc-le-zero l)
chunk_at (suc n) zero input d l = refl
chunk_at (suc n) (suc i) input d l =
    let next : 4 + 4 * i ≡ 4 * suc i = omega arith in
    chunk_at n i (drop 4 input) d (le_of_suc-le-suc l) ∙ ap (take 4) (drop-drop (4 * i) 4 input ∙ ap (λ k. drop k input) next)

words_long : (n : ℕ) (bytes : List ℕ) → length (words_of n bytes) ≡ n
unfolding words_of
words_long zero bytes = refl
words_long (suc n) bytes = ap suc (words_long n (drop 4 bytes))

words_at : (n k : ℕ) (bytes : List ℕ) → k < n → get_or (words_of n bytes) k 0 ≡ number (take 4 (drop (4 * k) bytes))
unfolding words_of
words_at zero k bytes l = absurd (not-suc-le-zero l)
words_at (suc n) zero bytes l = refl
words_at (suc n) (suc k) bytes l =
    let next : 4 + 4 * k ≡ 4 * suc k = omega arith in
    words_at n k (drop 4 bytes) (le_of_suc-le-suc l) ∙ ap (λ i. number (take 4 i)) (drop-drop (4 * k) 4 bytes ∙ ap (λ i. drop i bytes) next)

module _ (input : List ℕ) where
  -- the number that a chunk makes
  pub word_there : {n i v : ℕ} {quads : List (List ℕ)} (d : List ℕ) → quads ≡ first_chunks 4 n input → i < n → 4 * i + 4 ≤ length input
      → v ≡ from_be_bytes w32 (get_or quads i d) → v ≡ number (take 4 (drop (4 * i) input))
  word_there {n} {i} d e l h f =
      let quad : get_or (first_chunks 4 n input) i d ≡ take 4 (drop (4 * i) input) = chunk_at n i input d l in
      f ∙ ap (λ qs. from_be_bytes w32 (get_or qs i d)) e ∙ ap (from_be_bytes w32) quad
      ∙ four_bytes (take 4 (drop (4 * i) input)) (length-take-le 4 (drop (4 * i) input) (omega (arith, length-drop (4 * i) input)))

  pub words_there : {n : ℕ} {words : List ℕ} → length words ≡ n → ((k : ℕ) → k < n → get_or words k 0 ≡ number (take 4 (drop (4 * k) input))) → words ≡ words_of n input
  words_there {n} {words} e each =
      ext_get_or 0 words (words_of n input) (e ∙ sym (words_long n input)) (λ k l. each k (omega (arith, l, e)) ∙ sym (words_at n k input (omega (arith, l, e))))

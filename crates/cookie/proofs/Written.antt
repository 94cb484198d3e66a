-- The number that digits write, in decimal: zeros, and then the number itself.
use Rattle.prelude.proofs.Kit.{ℕ, ◌≤◌, ◌<◌, ◌+◌, ◌-◌, ◌*◌, ◌/◌, ◌%◌, ◌^◌, suc, zero, add-one, arith, cond, List, ◌∷◌, [], ◌++◌, append_assoc, append-nil}
use Rattle.prelude.proofs.Kit.{◌≡◌, sym, ◌∙◌, refl, ap, ap₂, subst, T, eqb, eqb·suc_zero, and_l, and_r, length, ne_eqb}
use lib.Dec.{leb, leb→le}
use lib.ListN.{replicate, replicate-append-replicate}
use Rattle.prelude.specs.Choice.{every}
use Rattle.text.specs.Text.{decimal, digit}
use Rattle.text.proofs.Decimals.{decimal_one, decimal_more}
use Rattle.text.specs.Numbers.{is_digit, number_after}

-- a text writes a number: zeros, then the number's digits; 0 has none of its own
significant : ℕ → List ℕ
significant n = cond (eqb n 0) [] (decimal n)

pub Writes : List ℕ → ℕ → Type 0
Writes text n = (zeros : ℕ) × (text ≡ replicate zeros (digit 0) ++ significant n)

pub nothing_written : Writes [] 0
unfolding Writes significant
nothing_written = (0, refl)

-- one digit more
writes_more : (text : List ℕ) (n d : ℕ) → d < 10 → n * 10 + d < 2 ^ 32 → Writes text n → Writes (text ++ (digit d ∷ [])) (n * 10 + d)
unfolding Writes significant
writes_more text zero zero l small (zeros, e) = (
  zeros + 1,
  ap (λ (t : List ℕ). t ++ (digit 0 ∷ [])) (e ∙ append-nil (replicate zeros (digit 0))) ∙ replicate-append-replicate zeros 1 (digit 0)
      ∙ sym (append-nil (replicate (zeros + 1) (digit 0))),
)
writes_more text zero (suc d) l small (zeros, e) =
    let m : 0 * 10 + suc d ≡ suc d = omega arith in (
      zeros,
      rw (m, eqb·suc_zero d, decimal_one (suc d) l) (ap (λ (t : List ℕ). t ++ (digit (suc d) ∷ [])) (e ∙ append-nil (replicate zeros (digit 0)))),
    )
writes_more text (suc n) d l small (zeros, e) =
    let m = suc n * 10 + d in
    let tenth : m / 10 ≡ suc n = omega arith in
    let last : m % 10 ≡ d = omega arith in
    let more : decimal m ≡ decimal (suc n) ++ (digit d ∷ []) = decimal_more m (omega arith) small ∙ ap₂ (λ (q r : ℕ). decimal q ++ (digit r ∷ [])) tenth last in (
      zeros,
      rw (ne_eqb m 0 (λ z. omega (arith, z)), more)
          (ap (λ (t : List ℕ). t ++ (digit d ∷ [])) (rw (eqb·suc_zero n) at e) ∙ append_assoc (replicate zeros (digit 0)) (decimal (suc n)) (digit d ∷ [])),
    )

-- what stands before digits is no more than what they make of it
grows : (ds : List ℕ) (n : ℕ) → n ≤ number_after n ds
unfolding number_after
grows [] n = omega arith
grows (d ∷ ds) n = omega (arith, grows ds (n * 10 + (d - 0x30)))

pub writes_all : (text ds : List ℕ) (n : ℕ) → T (every is_digit ds) → number_after n ds < 2 ^ 32 → Writes text n → Writes (text ++ ds) (number_after n ds)
unfolding number_after every
writes_all text [] n t small w = subst (λ (l : List ℕ). Writes l n) (sym (append-nil text)) w
writes_all text (d ∷ ds) n t small w =
    let is = and_l (is_digit d) (every is_digit ds) t in
    let low = leb→le 0x30 d (and_l (leb 0x30 d) (leb d 0x39) is) in
    let high = leb→le d 0x39 (and_r (leb 0x30 d) (leb d 0x39) is) in
    let own : digit (d - 0x30) ≡ d = omega (arith, low) in
    let m = n * 10 + (d - 0x30) in
    let next : Writes (text ++ (d ∷ [])) m =
    subst (λ (x : ℕ). Writes (text ++ (x ∷ [])) m) own (writes_more text n (d - 0x30) (omega (arith, low, high)) (omega (arith, grows ds m, small)) w) in
    subst (λ (l : List ℕ). Writes l (number_after m ds)) (append_assoc text (d ∷ []) ds) (writes_all (text ++ (d ∷ [])) ds m (and_r (is_digit d) (every is_digit ds) t) small next)

-- where there is a digit, also 0 is written by one
pub in_decimal : (text : List ℕ) (n : ℕ) → 0 < length text → Writes text n → (zeros : ℕ) × (text ≡ replicate zeros (digit 0) ++ decimal n)
unfolding Writes significant
in_decimal text zero p (zero, e) = absurd (omega (arith, p, ap length e))
in_decimal text zero p (suc zeros, e) = (
  zeros,
  e ∙ append-nil (replicate (suc zeros) (digit 0)) ∙ ap (λ (k : ℕ). replicate k (digit 0)) (sym (add-one zeros))
      ∙ sym (replicate-append-replicate zeros 1 (digit 0)) ∙ ap (λ (l : List ℕ). replicate zeros (digit 0) ++ l) (sym (decimal_one 0 (omega arith))),
)
in_decimal text (suc n) p (zeros, e) = (zeros, rw (eqb·suc_zero n) at e)

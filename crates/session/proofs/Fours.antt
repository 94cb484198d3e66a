-- Connections four at a time: four words that are 0, and that free connections are sound.
use Rattle.prelude.proofs.Kit.{ℕ, ◌+◌, ◌-◌, ◌<◌, ◌≤◌, arith, true, false, ◌&&◌, Bool, and_assoc, List, ◌≡◌, sym, subst, T, eqb, eqb→eq}
use Rattle.prelude.proofs.Choices.{is_true}
use Rattle.labels.specs.Membership.{all_below}
use Rattle.labels.proofs.Below.{all_at, all_of, four, one_passed, one_failed}
use Rattle.machine.specs.Session.{free, connection_word, connection_sound}
use Rattle.session.proofs.ConnectionTests.{free_sound}

-- four words that are 0, by twos
pub four_free : (n : ℕ) (f : ℕ → ℕ) → (eqb (f n) 0 && eqb (f (n + 1)) 0) && (eqb (f (n + 2)) 0 && eqb (f (n + 2 + 1)) 0) ≡ all_below 4 (λ i. eqb (f (n + i)) 0)
four_free n f =
    let third : n + 2 + 1 ≡ n + 3 = omega arith in
    rw (third, ← and_assoc (eqb (f n) 0 && eqb (f (n + 1)) 0) (eqb (f (n + 2)) 0) (eqb (f (n + 3)) 0)) (four n (λ i. eqb (f i) 0))

-- free connections are sound
pub free_passed : (p s : List ℕ) (n m : ℕ) → all_below m (λ i. eqb (connection_word s (n + i)) free) ≡ true
    → true ≡ all_below m (λ i. connection_sound p (n + i) (connection_word s (n + i)))
free_passed p s n m e =
    sym (is_true (all_below m sounds) (all_of m sounds (λ i l. subst T (free_sound p (n + i) (word i) (eqb→eq (word i) free (all_at m (λ i. eqb (word i) free) (subst T (sym e) tt) i l))) tt)))
  where
    word : ℕ → ℕ
    word i = connection_word s (n + i)

    sounds : ℕ → Bool
    sounds i = connection_sound p (n + i) (word i)

-- four connections one by one, from the first on
module _ (p s : List ℕ) (first n : ℕ) (low : first ≤ n) where
  abbrev sounds : ℕ → Bool
  sounds i = connection_sound p (first + i) (connection_word s (first + i))

  here : first + (n - first) ≡ n
  here = omega arith

  pub next_sound : true ≡ connection_sound p n (connection_word s n) → true ≡ all_below (n - first) sounds → true ≡ all_below (n + 1 - first) sounds
  next_sound e f =
      let more : n - first + 1 ≡ n + 1 - first = omega arith in
      rw (← more) (one_passed (n - first) sounds (rw here e) f)

  pub next_unsound : n < first + 4 → false ≡ connection_sound p n (connection_word s n) → false ≡ all_below 4 sounds
  next_unsound l e = one_failed 4 (n - first) sounds (omega arith) (rw here e)

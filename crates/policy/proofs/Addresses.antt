-- The word of a URL's address: how the code's tests of the word are those of the definitions.
use Rattle.prelude.proofs.Kit.{ℕ, ◌≤◌, ◌<◌, ◌-◌, ◌/◌, ◌%◌, arith, ◌&&◌, not, List, ⊎_elim, ◌≡◌, eq-eqb, le-ltb}
use Rattle.prelude.proofs.Kit.{T, eqb, ltb, eqb→eq, ltb→lt, lt→ltb, T_not, and_i}
use borrow.Author.Tests.{le-leb, lt-leb}
use lib.Dec.{leb, leb→le, le→leb, nltb→le}
use Rattle.prelude.proofs.Choices.{parts, either, one}
use Rattle.labels.specs.Membership.{endpoints}
use Rattle.labels.specs.Addresses.{hosts}
use Rattle.labels.proofs.Below.{same}
use Rattle.machine.specs.Policy.{address_word, is_entry, url_address}

module _ (p : List ℕ) (u : ℕ) where
  abbrev word : ℕ
  word = address_word p u

  -- the address is the word, or 32 less where that is 32 to 63
  address : (P : ℕ → Type 0) → (word < 32 → P word) → (32 ≤ word → word < 64 → P (word - 32)) → (64 ≤ word → P word) → P (url_address p u)
  unfolding url_address is_entry
  address P plain entry none =
      one P (is_entry p u) (λ t. entry (leb→le 32 word (search parts)) (ltb→lt word 64 (search parts)))
      (λ t. ⊎_elim (λ l. plain (ltb→lt word 32 l)) (λ l. none (past t (nltb→le word 32 l))) (either (ltb word 32)))
    where
      past : T (not (leb 32 word && ltb word 64)) → 32 ≤ word → 64 ≤ word
      past t l =
          ⊎_elim (λ h. absurd (T_not (leb 32 word && ltb word 64) t (and_i (leb 32 word) (ltb word 64) (le→leb 32 word l) h))) (λ h. nltb→le word 64 h)
          (either (ltb word 64))

  pub is_entry_lem : eqb (word / 32) 1 ≡ is_entry p u
  unfolding is_entry
  is_entry_lem =
      same (eqb (word / 32) 1) (leb 32 word && ltb word 64)
      (λ t. let e = eqb→eq (word / 32) 1 t in and_i (leb 32 word) (ltb word 64) (le→leb 32 word (omega arith)) (lt→ltb word 64 (omega arith)))
      (λ t. let l = leb→le 32 word (search parts) in let h = ltb→lt word 64 (search parts) in rw (eq-eqb (word / 32) 1 (omega arith)) tt)

  pub lacks_address : leb 64 word ≡ leb endpoints (url_address p u)
  lacks_address =
      address (λ a. leb 64 word ≡ leb 32 a) (λ l. rw (lt-leb 64 word (omega arith), lt-leb 32 word l))
      (λ l h. rw (lt-leb 64 word h, lt-leb 32 (word - 32) (omega arith)))
      (λ l. rw (le-leb 64 word l, le-leb 32 word (omega arith)))

  -- http and https take turns, 16 words each
  pub by_http : not (leb endpoints (url_address p u)) && eqb (word / 16 % 2) 0 ≡ ltb (url_address p u) hosts
  by_http =
      address (λ a. not (leb 32 a) && eqb (word / 16 % 2) 0 ≡ ltb a 16) (λ l. rw (lt-leb 32 word l) (turns word (omega arith) (omega arith)))
      (λ l h. rw (lt-leb 32 (word - 32) (omega arith)) (turns (word - 32) (omega arith) (omega arith)))
      (λ l. rw (le-leb 32 word (omega arith), le-ltb word 16 (omega arith)))
    where
      turns : (a : ℕ) → a < 32 → word / 16 % 2 ≡ a / 16 → eqb (word / 16 % 2) 0 ≡ ltb a 16
      turns a l e =
          same (eqb (word / 16 % 2) 0) (ltb a 16) (λ t. lt→ltb a 16 (omega (arith, eqb→eq (word / 16 % 2) 0 t)))
          (λ t. rw (eq-eqb (word / 16 % 2) 0 (omega (arith, ltb→lt a 16 t))) tt)

  pub address_word_lem : url_address p u < endpoints → word < 64
  address_word_lem = address (λ a. a < 32 → word < 64) (λ l a. omega arith) (λ l h a. h) (λ l a. absurd (omega arith))

  pub address_rest : url_address p u < endpoints → word % 32 ≡ url_address p u
  address_rest = address (λ a. a < 32 → word % 32 ≡ a) (λ l a. omega arith) (λ l h a. omega arith) (λ l a. absurd (omega arith))

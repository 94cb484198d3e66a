-- Strays as they are gathered: a value joined to them leaves none just where none were left and it is 0. So the two tests at the end are
-- the hosts' own.
use Rattle.prelude.proofs.Kit.{ℕ, ◌<◌, ◌+◌, suc, zero, le_of_suc-le-suc, not-suc-le-zero, arith, true, ◌&&◌, Bool, and_assoc}
use Rattle.prelude.proofs.Kit.{and-true, List, ◌∷◌, [], ◌≡◌, refl, sym, ◌∙◌, bit_or, and_le_r, eqb, ltb, ltb→lt, lt→ltb, and_i, length, get_or, set}
use Rattle.prelude.proofs.Kit.{and_r, and_l}
use Rattle.std.specs.Prelude.{fold}
use lib.Bits.{or_lt, or_add_and, and_le_l}
use Rattle.prelude.proofs.Bits.{or_zero}
use Rattle.prelude.proofs.Choices.{joined}
use Rattle.labels.specs.Membership.{all_below}
use Rattle.labels.proofs.Below.{same, all_next, all_eight}
use Rattle.machine.specs.Policy.{host_keys}
use Rattle.machine.specs.Session.{presence, has, cookie_sound, host_sound}
use Rattle.session.specs.Strays.{none_left}

sooner : (a b c : Bool) → a && (b && c) ≡ b && (a && c)
sooner a b c = same (a && (b && c)) (b && (a && c)) (λ t. search joined) (λ t. search joined)

-- one value joined
value_joined : (strays : List ℕ) (key v : ℕ) → key < length strays
    → none_left (set strays key (bit_or (get_or strays key 0) v)) ≡ eqb v 0 && none_left strays
unfolding none_left
value_joined [] key v l = absurd (not-suc-le-zero l)
value_joined (word ∷ strays) zero v l = rw (or_zero word v, and_assoc (eqb word 0)) (sooner (eqb word 0) (eqb v 0) (none_left strays))
value_joined (word ∷ strays) (suc key) v l =
    rw (value_joined strays key v (le_of_suc-le-suc l)) (sooner (eqb word 0) (eqb v 0) (none_left strays))

-- the value of one key more
pub key_joined : (s : List ℕ) (h key v : ℕ) (strays all : List ℕ) → length all ≡ host_keys → key < host_keys → eqb v 0 ≡ cookie_sound s h key
    → none_left all ≡ all_below key (cookie_sound s h) && none_left strays
    → none_left (set all key (bit_or (get_or all key 0) v)) ≡ all_below (key + 1) (cookie_sound s h) && none_left strays
key_joined s h key v strays all eight l e f =
    rw (value_joined all key v (rw eight l), e, f, ← all_next key (cookie_sound s h), and_assoc (cookie_sound s h key))

-- a host with every key
pub all_present : (s : List ℕ) (h : ℕ) → presence s h ≡ 255 → all_below host_keys (cookie_sound s h) ≡ true
unfolding cookie_sound has
all_present s h e = all_eight (cookie_sound s h) (rw e) (rw e) (rw e) (rw e) (rw e) (rw e) (rw e) (rw e)

-- two words joined have no bit above the eight just where neither has
or_below : (a b : ℕ) → ltb (bit_or a b) 256 ≡ ltb a 256 && ltb b 256
or_below a b =
    same (ltb (bit_or a b) 256) (ltb a 256 && ltb b 256)
    (λ t. let l = ltb→lt (bit_or a b) 256 t in
    and_i (ltb a 256) (ltb b 256) (lt→ltb a 256 (omega (arith, or_add_and a b, and_le_r a b))) (lt→ltb b 256 (omega (arith, or_add_and a b, and_le_l a b))))
    (λ t. lt→ltb (bit_or a b) 256 (or_lt 8 a b (ltb→lt a 256 (and_l (ltb a 256) (ltb b 256) t)) (ltb→lt b 256 (and_r (ltb a 256) (ltb b 256) t))))

host_first : (a b c d : Bool) → (a && b) && (c && d) ≡ (b && c) && (a && d)
host_first a b c d = same ((a && b) && (c && d)) ((b && c) && (a && d)) (λ t. search joined) (λ t. search joined)

-- one host more
pub host_joined : (s : List ℕ) (h bits : ℕ) (strays after : List ℕ) → ltb bits 256 && none_left strays ≡ all_below h (host_sound s)
    → none_left after ≡ all_below host_keys (cookie_sound s h) && none_left strays
    → ltb (bit_or bits (presence s h)) 256 && none_left after ≡ all_below (h + 1) (host_sound s)
unfolding host_sound
host_joined s h bits strays after e f =
    rw (f, or_below bits (presence s h), host_first (ltb bits 256) (ltb (presence s h) 256) (all_below host_keys (cookie_sound s h)) (none_left strays), e)
    (all_next h (host_sound s))

-- the strays of all keys are joined
pub all_joined : (all : ℕ) (strays : List ℕ) → eqb (fold bit_or all strays) 0 ≡ eqb all 0 && none_left strays
unfolding none_left
all_joined all [] = sym (and-true (eqb all 0))
all_joined all (word ∷ strays) = all_joined (bit_or all word) strays ∙ rw (or_zero all word, and_assoc (eqb all 0)) refl

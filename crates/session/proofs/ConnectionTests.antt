-- The word of a connection test by test: the shapes as ranges of words, and the tests of a word that is not free, in the code's order.
use Rattle.prelude.proofs.Kit.{ℕ, ◌<◌, ◌+◌, ◌*◌, ◌%◌, ◌/◌, arith, true, ◌&&◌, Bool, false, ◌||◌, and_assoc, and-true, List, ◌≡◌, sym, ◌∙◌, ap, ne_eqb, lt-ltb, eq-eqb, T, eqb}
use Rattle.prelude.proofs.Kit.{ltb, eqb→eq, ltb→lt, lt→ltb, and_i}
use mathlib.Core.Bool.{and-false, and-or_distrib_right}
use lib.Dec.{leb, leb→le, le→leb}
use Rattle.prelude.proofs.Choices.{parts}
use Rattle.labels.proofs.Below.{same}
use Rattle.machine.specs.Policy.{url_rows, is_url, fits}
use Rattle.machine.specs.Session.{free, packed, document_kind, script_kind, picture_kind, script_count, kind_of, origin_of, handler_of, url_of, bare_fields, kind_sound, url_sound, connection_sound}
use Rattle.session.specs.Kinds.{bare_shape, bare_word, script_shape}

-- ---- shapes

-- a word is made of its fields
pub packed_fields : (w : ℕ) → w ≡ packed (kind_of w) (origin_of w) (handler_of w) (url_of w)
unfolding packed kind_of origin_of handler_of url_of
packed_fields w = omega arith

pub bare_range : (k w : ℕ) → leb (k * 0x100_0000) w && ltb w (k * 0x100_0000 + 64) ≡ bare_word k w
unfolding bare_word packed kind_of origin_of handler_of url_of
bare_range k w =
    same (leb (k * 0x100_0000) w && ltb w (k * 0x100_0000 + 64)) (bare_word k w)
    (λ t. let low = leb→le (k * 0x100_0000) w (search parts) in
    let high = ltb→lt w (k * 0x100_0000 + 64) (search parts) in
    rw (eq-eqb (kind_of w) k (omega arith), eq-eqb (origin_of w) 0 (omega arith), eq-eqb (handler_of w) 0 (omega arith), lt-ltb (url_of w) url_rows (omega arith)) tt)
    (λ t. let kind = eqb→eq (kind_of w) k (search parts) in
    let origin = eqb→eq (origin_of w) 0 (search parts) in
    let handler = eqb→eq (handler_of w) 0 (search parts) in
    let url = ltb→lt (url_of w) url_rows (search parts) in
    and_i (leb (k * 0x100_0000) w) (ltb w (k * 0x100_0000 + 64)) (le→leb (k * 0x100_0000) w (omega arith)) (lt→ltb w (k * 0x100_0000 + 64) (omega (arith, packed_fields w))))

-- the words of a document and of a picture differ in the kind alone
pub either_bare : (w : ℕ) → bare_word document_kind w || bare_word picture_kind w ≡ bare_shape w
unfolding bare_word bare_shape
either_bare w =
    let d = eqb (kind_of w) document_kind in
    let q = eqb (kind_of w) picture_kind in
    let o = eqb (origin_of w) 0 in
    let h = eqb (handler_of w) 0 in
    let u = ltb (url_of w) url_rows in
    sym (and-or_distrib_right d q (o && (h && u))) ∙ ap (λ (b : Bool). (d || q) && b) (sym (and_assoc o h u)) ∙ sym (and_assoc (d || q) (o && h) u)

script_range : (w : ℕ) → leb 0x200_0000 w && ltb w 0x240_0000 ≡ eqb (kind_of w) script_kind && ltb (origin_of w) url_rows
unfolding packed kind_of origin_of handler_of url_of
script_range w =
    same (leb 0x200_0000 w && ltb w 0x240_0000) (eqb (kind_of w) script_kind && ltb (origin_of w) url_rows)
    (λ t. let low = leb→le 0x200_0000 w (search parts) in
    let high = ltb→lt w 0x240_0000 (search parts) in
    rw (eq-eqb (kind_of w) script_kind (omega arith), lt-ltb (origin_of w) url_rows (omega arith)) tt)
    (λ t. let kind = eqb→eq (kind_of w) script_kind (search parts) in
    let origin = ltb→lt (origin_of w) url_rows (search parts) in
    and_i (leb 0x200_0000 w) (ltb w 0x240_0000) (le→leb 0x200_0000 w (omega arith)) (lt→ltb w 0x240_0000 (omega (arith, packed_fields w))))

pub script_ranges : (w : ℕ) → ((leb 0x200_0000 w && ltb w 0x240_0000) && ltb (handler_of w) script_count) && ltb (url_of w) url_rows ≡ script_shape w
unfolding script_shape
script_ranges w = rw (script_range w, and_assoc (eqb (kind_of w) script_kind && ltb (origin_of w) url_rows), and_assoc (eqb (kind_of w) script_kind))

-- ---- the tests

-- a number above 63 is no URL: the test of a byte is that it is not above, and that its low six bits pass
low_bits : (test : ℕ → Bool) → ((u : ℕ) → T (test u) → u < url_rows) → (x : ℕ) → test (x % 256) ≡ ltb (x % 256) url_rows && test (x % 64)
low_bits test below x =
    same (test (x % 256)) (ltb (x % 256) url_rows && test (x % 64))
    (λ t. let small : x % 256 ≡ x % 64 = omega (arith, below (x % 256) t) in
    and_i (ltb (x % 256) url_rows) (test (x % 64)) (lt→ltb (x % 256) url_rows (below (x % 256) t)) (rw small at t))
    (λ t. let small : x % 256 ≡ x % 64 = omega (arith, ltb→lt (x % 256) url_rows (search parts)) in rw small (search parts))

url_below : (p : List ℕ) (u : ℕ) → T (is_url p u) → u < url_rows
unfolding is_url
url_below p u t = ltb→lt u url_rows (search parts)

-- the URL is tested first, and once, and a script's origin last: u and l are the two tests of the URL, and x that of the origin
in_turn : (b d e f x l u : Bool) → (b || d && ((e && x) && f)) && (l && u) ≡ u && (b && l || (d && (e && (f && l))) && x)
in_turn b d e f x l false = simp and-false
in_turn b d e f x false true = simp and-false
in_turn b d e f false true true = simp (and-true, and-false)
in_turn b d e f true true true = simp and-true

pub free_sound : (p : List ℕ) (n w : ℕ) → w ≡ free → true ≡ connection_sound p n w
unfolding connection_sound
free_sound p n w e = rw (eq-eqb w free e)

module _ (p : List ℕ) (n w : ℕ) where
  url_low : url_sound p n (url_of w) ≡ ltb (url_of w) url_rows && url_sound p n (w % 64)
  unfolding url_of url_sound
  url_low = low_bits (url_sound p n) (λ u t. url_below p u (search parts)) w

  origin_low : is_url p (origin_of w) ≡ ltb (origin_of w) url_rows && is_url p (w / 0x1_0000 % 64)
  unfolding origin_of
  origin_low = low_bits (is_url p) (url_below p) (w / 0x1_0000)

  module _ (ne : w ≡ free → ⊥) where
    open_tests : connection_sound p n w ≡ url_sound p n (w % 64) && (bare_shape w || (script_shape w && is_url p (w / 0x1_0000 % 64)))
    unfolding connection_sound kind_sound bare_shape script_shape
    open_tests =
        rw (ne_eqb w free ne, url_low, origin_low)
        (in_turn (bare_fields (kind_of w) (origin_of w) (handler_of w)) (eqb (kind_of w) script_kind) (ltb (origin_of w) url_rows) (ltb (handler_of w) script_count) (is_url p (w / 0x1_0000 % 64)) (ltb (url_of w) url_rows) (url_sound p n (w % 64)))

    pub no_url : is_url p (w % 64) ≡ false → false ≡ connection_sound p n w
    unfolding url_sound
    no_url e = rw (open_tests, e)

    module _ (e : is_url p (w % 64) ≡ true) where
      pub misfit : fits p n (w % 64) ≡ false → false ≡ connection_sound p n w
      unfolding url_sound
      misfit f = rw (open_tests, e, f)

      module _ (f : fits p n (w % 64) ≡ true) where
        pub bare : bare_shape w ≡ true → true ≡ connection_sound p n w
        unfolding url_sound
        bare d = rw (open_tests, e, f, d)

        pub neither : bare_shape w ≡ false → script_shape w ≡ false → false ≡ connection_sound p n w
        unfolding url_sound
        neither d s = rw (open_tests, e, f, d, s)

        pub script : bare_shape w ≡ false → script_shape w ≡ true → is_url p (w / 0x1_0000 % 64) ≡ connection_sound p n w
        unfolding url_sound
        script d s = rw (open_tests, e, f, d, s)

-- The statements of specs/Guarantees.antt hold.
use Rattle.prelude.proofs.Kit.{ℕ, ◌≤◌, ◌<◌, arith, true, Bool, false, not, ◌&&◌, cond, List, ◌∷◌, [], ◌++◌}
use Rattle.prelude.proofs.Kit.{◌≡◌, sym, ◌∙◌, refl, ap, ap₂, subst, T, eqb, ltb, ltb→lt, and_l, and_r, length}
use lib.Dec.{leb, leb→le}
use lib.ListN.{replicate}
use borrow.Author.Tests.{eqb-false}
use Rattle.prelude.specs.Choice.{every}
use Rattle.prelude.specs.Lists.{is_empty}
use Rattle.prelude.specs.Refusals.{accepted, first_of}
use Rattle.prelude.proofs.Choices.{is_false, passes}
use Rattle.prelude.proofs.Lowest.{lowest_is, lowest_most, lowest_passes, below_lowest}
use Rattle.prelude.proofs.Refusals.{NoneOf, none_applied, number_of_lem}
use Rattle.labels.specs.Sets.{holds}
use Rattle.labels.specs.Addresses.{hosts, host_endpoints}
use Rattle.labels.proofs.Endpoints.{host_word}
use Rattle.machine.specs.Policy.{host_keys}
use Rattle.text.specs.Text.{decimal, digit}
use Rattle.cookie.specs.declared.Imported.{Imported}
use Rattle.cookie.specs.declared.attributes.Flags.{Flags}
use Rattle.std.specs.Prelude.{Some}
use Rattle.cookie.specs.Parts.{has, trim}
use Rattle.cookie.specs.SetCookie.{semicolon, equals, pair_of, name_of, value_of, some_called, flags_of}
use Rattle.text.specs.Numbers.{is_digit, number_of, most_digits, largest, is_number, number_read}
use Rattle.cookie.specs.Import.{key_name, is_named, key_named, import_refusals, refused, answer, imported}
use Rattle.cookie.specs.Guarantees.{NoAttributesNoFlags, OtherAttributesChangeNothing, PairDecides, RefusalIsZeros, ValueIsWritten, WrittenIsRead, LowestKeyIsTold, ReadersAreTheHosts}
use Rattle.cookie.proofs.Adding.{no_attributes, whole_before, pair_more, flags_more}
use Rattle.cookie.proofs.Answers.{is_number_lem}
use Rattle.cookie.proofs.ReadBack.{stands_between, before_it, after_it, has_neither, same_itself, decimal_is_read, decimal_lacks, decimal_untrimmed}
use Rattle.cookie.proofs.Written.{nothing_written, writes_all, in_decimal}

-- by what a line is answered: its pair and its flags
answered : ℕ → List ℕ → List ℕ → Flags → Imported
answered host names pair flags =
    let n = first_of (import_refusals host names pair) accepted in
    cond (eqb n accepted) (answer host (key_named names (name_of pair)) (number_of (value_of pair)) flags) (refused n)

by_parts : (host : ℕ) (names line : List ℕ) → imported host names line ≡ answered host names (pair_of line) (flags_of line)
unfolding imported answered
by_parts host names line = refl

-- a line without `;` has no flags
pub no_attributes_no_flags : NoAttributesNoFlags
unfolding imported flags_of some_called
no_attributes_no_flags host names line t =
    rw (no_attributes line (is_false (has semicolon line) t)) (go (eqb (first_of (import_refusals host names (pair_of line)) accepted) accepted))
  where
    go : (b : Bool)
        → let r = cond b (answer host (key_named names (name_of (pair_of line))) (number_of (value_of (pair_of line))) (record { secure = false; http_only = false }))
        (refused (first_of (import_refusals host names (pair_of line)) accepted)) in
        (r.secure ≡ false) × (r.http_only ≡ false)
    go true = (refl, refl)
    go false = (refl, refl)

-- an attribute that is neither changes nothing
pub other_attributes_change_nothing : OtherAttributesChangeNothing
other_attributes_change_nothing host names line attribute rest none s h t =
    by_parts host names (line ++ ((semicolon ∷ attribute) ++ rest))
    ∙ ap₂ (answered host names) (pair_more line attribute rest none t) (flags_more line attribute rest none t s h)
    ∙ sym (by_parts host names (line ++ rest))

-- the pair alone decides, and a refusal is zeros
by_pair : (host : ℕ) (names pair : List ℕ) (f g : Flags)
    → ((answered host names pair f).number ≡ (answered host names pair g).number)
    × ((answered host names pair f).key ≡ (answered host names pair g).key)
    × ((answered host names pair f).value ≡ (answered host names pair g).value)
unfolding answered
by_pair host names pair f g = go (eqb (first_of (import_refusals host names pair) accepted) accepted)
  where
    done : Flags → Imported
    done flags = answer host (key_named names (name_of pair)) (number_of (value_of pair)) flags

    n : ℕ
    n = first_of (import_refusals host names pair) accepted

    go : (b : Bool) → ((cond b (done f) (refused n)).number ≡ (cond b (done g) (refused n)).number)
        × ((cond b (done f) (refused n)).key ≡ (cond b (done g) (refused n)).key)
        × ((cond b (done f) (refused n)).value ≡ (cond b (done g) (refused n)).value)
    go true = (refl, refl, refl)
    go false = (refl, refl, refl)

pub pair_decides : PairDecides
pair_decides host names line other e =
    rw (by_parts host names line, by_parts host names other, e) (by_pair host names (pair_of other) (flags_of line) (flags_of other))

pub refusal_is_zeros : RefusalIsZeros
unfolding imported
refusal_is_zeros host names line ne = go (eqb n accepted) ne
  where
    pair : List ℕ
    pair = pair_of line

    n : ℕ
    n = first_of (import_refusals host names pair) accepted

    done : Imported
    done = answer host (key_named names (name_of pair)) (number_of (value_of pair)) (flags_of line)

    go : (b : Bool) → ((cond b done (refused n)).number ≡ accepted → ⊥) → cond b done (refused n) ≡ refused (cond b done (refused n)).number
    go true ne = absurd (ne refl)
    go false ne = refl

-- ---- what holds of an accepted line

module _ (host : ℕ) (names line : List ℕ) (ok : (imported host names line).number ≡ accepted) where
  abbrev pair : List ℕ
  pair = pair_of line

  first : first_of (import_refusals host names pair) accepted ≡ accepted
  unfolding imported
  first =
      let done = answer host (key_named names (name_of pair)) (number_of (value_of pair)) (flags_of line) in
      sym (number_of_lem (λ (r : Imported). r.number) done refused (first_of (import_refusals host names pair) accepted) refl refl) ∙ ok

  is_answer : imported host names line ≡ answer host (key_named names (name_of pair)) (number_of (value_of pair)) (flags_of line)
  unfolding imported
  is_answer = rw first

  none : NoneOf (import_refusals host names pair)
  none = none_applied (import_refusals host names pair) tt first

  host_known : host < hosts
  host_known = ltb→lt host hosts (passes (ltb host hosts) none.0)

  key_known : key_named names (name_of pair) ≡ host_keys → ⊥
  key_known = eqb-false (key_named names (name_of pair)) host_keys none.1.1.1.1.0

  number_known : T (is_number (value_of pair))
  number_known = passes (is_number (value_of pair)) none.1.1.1.1.1.0

-- readers
pub readers_are_the_hosts : ReadersAreTheHosts
readers_are_the_hosts host names line ok = (
  host_known host names line ok,
  λ a. subst (λ (r : Imported). holds r.readers a ≡ host_endpoints host r.secure a) (sym (is_answer host names line ok))
      (host_word host (host_known host names line ok) (flags_of line).secure a),
)

-- the lowest key
pub lowest_key_is_told : LowestKeyIsTold
lowest_key_is_told host names line ok =
    let named = is_named names (name_of (pair_of line)) in
    let below : key_named names (name_of (pair_of line)) < host_keys = omega (arith, lowest_most host_keys named, key_known host names line ok) in
    subst (λ (r : Imported). (r.key < host_keys) × T (is_named names (name_of (pair_of line)) r.key) × ((j : ℕ) → j < r.key → T (not (is_named names (name_of (pair_of line)) j))))
    (sym (is_answer host names line ok)) (below, lowest_passes host_keys named below, below_lowest host_keys named)

-- the number that digits write
pub value_is_written : ValueIsWritten
unfolding is_number
value_is_written host names line ok =
    let v = value_of (pair_of line) in
    let is = number_known host names line ok in
    let sized = and_r (not (is_empty v)) (leb (length v) most_digits && (every is_digit v && leb (number_of v) largest)) is in
    let written = and_r (leb (length v) most_digits) (every is_digit v && leb (number_of v) largest) sized in
    let small = leb→le (number_of v) largest (and_r (every is_digit v) (leb (number_of v) largest) written) in
    let some = is_false (is_empty v) (and_l (not (is_empty v)) (leb (length v) most_digits && (every is_digit v && leb (number_of v) largest)) is) in
    subst (λ (r : Imported). (r.value ≤ largest) × ((zeros : ℕ) × (v ≡ replicate zeros (digit 0) ++ decimal r.value))) (sym (is_answer host names line ok)) (
      small,
      in_decimal v (number_of v) (omega (arith, eqb-false (length v) 0 some))
          (writes_all [] v 0 (and_l (every is_digit v) (leb (number_of v) largest) written) (omega (arith, small)) (nothing_written)),
    )

-- what is written is read
module _ (name : List ℕ) (n : ℕ) (small : n ≤ largest) (no_equals : has equals name ≡ false) (no-semicolon : has semicolon name ≡ false)
    (trimmed : trim name ≡ name) where
  abbrev written : List ℕ
  written = name ++ (equals ∷ decimal n)

  one_pair : has semicolon written ≡ false
  unfolding has
  one_pair = has_neither semicolon name (equals ∷ decimal n) no-semicolon (decimal_lacks n small semicolon refl)

  pair_is : pair_of written ≡ written
  pair_is = whole_before written one_pair

  has_equals : has equals (pair_of written) ≡ true
  has_equals = ap (has equals) pair_is ∙ stands_between equals (decimal n) name

  name_is : name_of (pair_of written) ≡ name
  name_is = ap name_of pair_is ∙ ap trim (before_it equals (decimal n) name no_equals) ∙ trimmed

  value_is_lem : number_read (value_of (pair_of written)) ≡ Some n
  value_is_lem =
      ap number_read (ap value_of pair_is ∙ ap trim (after_it equals (decimal n) name no_equals) ∙ decimal_untrimmed n small)
      ∙ decimal_is_read n small

  no_flags : flags_of written ≡ record { secure = false; http_only = false }
  unfolding flags_of some_called
  no_flags = rw (no_attributes written one_pair)

pub written_is_read : WrittenIsRead
written_is_read host names k n lh ln lk small some no_equals no-semicolon trimmed lowest =
    let name = key_name names k in
    let q = is_false (has equals name) no_equals in
    let s = is_false (has semicolon name) no-semicolon in
    let e = is_false (is_empty name) some in
    let named : is_named names name k ≡ true = rw (e, same_itself name) in
    let key : key_named names (name_of (pair_of (written name n small q s trimmed))) ≡ k = ap (key_named names) (name_is name n small q s trimmed) ∙ lowest_is host_keys (is_named names name) k lk (subst T (sym named) tt) lowest in
    is_number_lem host names (written name n small q s trimmed) lh (has_equals name n small q s trimmed)
    (λ z. eqb-false (length name) 0 e (ap length (sym (name_is name n small q s trimmed)) ∙ z)) ln (λ z. omega (arith, key, z, lk)) n (value_is_lem name n small q s trimmed)
    ∙ ap₂ (λ (at : ℕ) (flags : Flags). answer host at n flags) key (no_flags name n small q s trimmed)

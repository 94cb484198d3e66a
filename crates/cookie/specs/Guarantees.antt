-- What the definitions come to: statements about `imported` that a reader can hold against what was wanted. The proofs are in
-- proofs/Guarantees.antt.
use Rattle.std.specs.Prelude.{ℕ, ◌<◌, ◌≤◌, Bool, true, false, not, List, [], ◌∷◌, ◌++◌, ◌≡◌, T, eqb, length, replicate}
use Rattle.prelude.specs.Lists.{is_empty}
use Rattle.prelude.specs.Refusals.{accepted}
use Rattle.labels.specs.Sets.{holds}
use Rattle.labels.specs.Addresses.{hosts, host_endpoints}
use Rattle.machine.specs.Policy.{host_keys}
use Rattle.text.specs.Text.{decimal, digit}
use Rattle.cookie.specs.Parts.{has, trim}
use Rattle.cookie.specs.SetCookie.{semicolon, equals, pair_of, name_of, value_of, secure_word, http_only_word, is_called}
use Rattle.cookie.specs.Import.{names_bytes, key_name, is_named, refused, answer, imported}

-- A line without `;` has no attributes, and so no flags, whatever else it says.
abbrev pub NoAttributesNoFlags : Type 0
NoAttributesNoFlags =
    (host : ℕ) (names line : List ℕ) → T (not (has semicolon line))
    → ((imported host names line).secure ≡ false) × ((imported host names line).http_only ≡ false)

-- the end of a line, or an attribute and what follows it
abbrev pub ends_or_goes_on : List ℕ → Bool
ends_or_goes_on [] = true
ends_or_goes_on (x ∷ xs) = eqb x semicolon

-- An attribute that is neither Secure nor HttpOnly changes nothing: what is answered is the same with it and without it, wherever it is added, at
-- the end of a line or before another attribute, and whatever the line is.
abbrev pub OtherAttributesChangeNothing : Type 0
OtherAttributesChangeNothing =
    (host : ℕ) (names line attribute rest : List ℕ)
    → T (not (has semicolon attribute)) → T (not (is_called secure_word attribute)) → T (not (is_called http_only_word attribute))
    → T (ends_or_goes_on rest)
    → imported host names (line ++ ((semicolon ∷ attribute) ++ rest)) ≡ imported host names (line ++ rest)

-- The value is the number that its digits write: of an accepted line, it is at most 4,294,967,295, and the value's text is that number in decimal,
-- after some zeros or none.
abbrev pub ValueIsWritten : Type 0
ValueIsWritten =
    (host : ℕ) (names line : List ℕ) → (imported host names line).number ≡ accepted
    → let value = (imported host names line).value in
    (value ≤ 4294967295) × ((zeros : ℕ) × (value_of (pair_of line) ≡ replicate zeros (digit 0) ++ decimal value))

-- And what is written is read: the name of a key, an equals sign and a number in decimal are accepted as that key and number, without flags. The name
-- is one that a line can have (not empty, without `=` and `;`, without blanks at its ends), and no lower key has it.
abbrev pub WrittenIsRead : Type 0
WrittenIsRead =
    (host : ℕ) (names : List ℕ) (k n : ℕ) → host < hosts → length names ≡ names_bytes → k < host_keys → n ≤ 4294967295
    → let name = key_name names k in
    T (not (is_empty name)) → T (not (has equals name)) → T (not (has semicolon name)) → trim name ≡ name
    → ((j : ℕ) → j < k → T (not (is_named names name j)))
    → imported host names (name ++ (equals ∷ decimal n)) ≡ answer host k n (record { secure = false; http_only = false })

-- The pair alone decides whether a line is accepted, and its key and value: lines that differ behind their first `;` differ in flags and readers alone.
abbrev pub PairDecides : Type 0
PairDecides =
    (host : ℕ) (names line other : List ℕ) → pair_of line ≡ pair_of other
    → let r = imported host names line in
    let s = imported host names other in
    (r.number ≡ s.number) × (r.key ≡ s.key) × (r.value ≡ s.value)

-- A refused line has zeros, whatever it says.
abbrev pub RefusalIsZeros : Type 0
RefusalIsZeros =
    (host : ℕ) (names line : List ℕ) → ((imported host names line).number ≡ accepted → ⊥)
    → imported host names line ≡ refused (imported host names line).number

-- The key that is told for an accepted line has the line's name, and no lower key has it.
abbrev pub LowestKeyIsTold : Type 0
LowestKeyIsTold =
    (host : ℕ) (names line : List ℕ) → (imported host names line).number ≡ accepted
    → let k = (imported host names line).key in
    (k < host_keys) × T (is_named names (name_of (pair_of line)) k)
    × ((j : ℕ) → j < k → T (not (is_named names (name_of (pair_of line)) j)))

-- The readers of an accepted line are endpoints of its host: https is always one of them, and http just where the line is not Secure.
abbrev pub ReadersAreTheHosts : Type 0
ReadersAreTheHosts =
    (host : ℕ) (names line : List ℕ) → (imported host names line).number ≡ accepted
    → (host < hosts) × ((a : ℕ) → holds (imported host names line).readers a ≡ host_endpoints host (imported host names line).secure a)

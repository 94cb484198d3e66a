-- What is imported of a Set-Cookie line (document 01, "Take in Set-Cookie lines"): the key that has its name, its value as a number, its flags, and who
-- may read it; or the first refusal that fits, with zeros.
use Rattle.std.specs.Prelude.{ℕ, ◌*◌, Bool, false, not, ◌&&◌, cond, List, [], ◌∷◌, ltb, eqb, length, take, drop, Option, Some, None, Result, Ok, Err}
use Rattle.prelude.specs.Lists.{is_empty, lowest, same_numbers}
use Rattle.prelude.specs.Refusals.{accepted, Refusal, refuse, first_of}
use Rattle.labels.specs.Sets.{word_of}
use Rattle.labels.specs.Addresses.{hosts, host_endpoints}
use Rattle.machine.specs.Policy.{host_keys}
use Rattle.text.specs.Numbers.{number_of, is_number}
use Rattle.cookie.specs.declared.Cookie.{Cookie}
use Rattle.cookie.specs.declared.Imported.{Imported}
use Rattle.cookie.specs.declared.ImportError.{ImportError}
use Rattle.cookie.specs.declared.ImportError.TheVariants.{HostUnknown, NoName, NoKey, NoNumber}
use Rattle.cookie.specs.declared.attributes.Flags.{Flags}
use Rattle.cookie.specs.Parts.{has, before}
use Rattle.cookie.specs.SetCookie.{equals, pair_of, name_of, value_of, flags_of}

-- ---- names

-- a name has at most 16 bytes, and the names of a host's eight keys follow one another
abbrev pub name_bytes : ℕ
name_bytes = 16

abbrev pub names_bytes : ℕ
names_bytes = host_keys * name_bytes

-- the name of a key ends before its first zero byte, or has all 16
abbrev pub key_name : List ℕ → ℕ → List ℕ
key_name names k = before 0 (take name_bytes (drop (k * name_bytes) names))

-- it is compared byte for byte; an empty one is nobody's
abbrev pub is_named : List ℕ → List ℕ → ℕ → Bool
is_named names name k = not (is_empty (key_name names k)) && same_numbers (key_name names k) name

-- the lowest key that has the name, or 8 where there is none
abbrev pub key_named : List ℕ → List ℕ → ℕ
key_named names name = lowest host_keys (is_named names name)

-- the same as an Option
abbrev pub key_of_name : List ℕ → List ℕ → Option ℕ
key_of_name names name = let k = key_named names name in cond (eqb k host_keys) None (Some k)

-- ---- refusals

abbrev pub host_unknown : ℕ
host_unknown = 6

abbrev pub no_name : ℕ
no_name = 14

abbrev pub no_key : ℕ
no_key = 15

abbrev pub no_number : ℕ
no_number = 16

abbrev pub number_of_error : ImportError → ℕ
number_of_error HostUnknown = host_unknown
number_of_error NoName = no_name
number_of_error NoKey = no_key
number_of_error NoNumber = no_number

-- 6: there is no such host. 14: the pair has no `=`, or an empty name. 15: the names are not 128 bytes, or none of them is the name. 16: the value
-- is no number.
abbrev pub import_refusals : ℕ → List ℕ → List ℕ → List (Refusal ℕ)
import_refusals host names pair =
    refuse host_unknown (not (ltb host hosts))
    ∷ refuse no_name (not (has equals pair))
    ∷ refuse no_name (is_empty (name_of pair))
    ∷ refuse no_key (not (eqb (length names) names_bytes))
    ∷ refuse no_key (eqb (key_named names (name_of pair)) host_keys)
    ∷ refuse no_number (not (is_number (value_of pair)))
    ∷ []

-- a refused line: everything else is 0
abbrev pub refused : ℕ → Imported
refused n = record { number = n; key = 0; value = 0; secure = false; http_only = false; readers = 0 }

-- ---- what is answered

-- readers are the host's endpoints: https alone with Secure, both without. HttpOnly is only reported.
abbrev pub answer : ℕ → ℕ → ℕ → Flags → Imported
answer host key value flags = record {
  number = accepted;
  key = key;
  value = value;
  secure = flags.secure;
  http_only = flags.http_only;
  readers = word_of (host_endpoints host flags.secure);
}

unfoldable pub imported : ℕ → List ℕ → List ℕ → Imported
imported host names line =
    let pair = pair_of line in
    let n = first_of (import_refusals host names pair) accepted in
    cond (eqb n accepted) (answer host (key_named names (name_of pair)) (number_of (value_of pair)) (flags_of line)) (refused n)

-- what a reading of a line tells C
abbrev pub told : Result Cookie ImportError → Imported
told (Ok cookie) = record {
  number = accepted;
  key = cookie.key;
  value = cookie.value;
  secure = cookie.flags.secure;
  http_only = cookie.flags.http_only;
  readers = cookie.readers;
}
told (Err error) = refused (number_of_error error)

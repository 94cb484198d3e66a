-- Worked cases: lines with all that is answered.
use Rattle.std.specs.Prelude.{ℕ, ◌-◌, ◌+◌, ◌^◌, Bool, cond, List, [], ◌∷◌, ◌++◌, map, T, length, replicate, take}
use Rattle.prelude.specs.Choice.{every}
use Rattle.prelude.specs.Lists.{numbers, same_numbers}
use Rattle.text.specs.Text.{ascii}
use Rattle.cookie.specs.Import.{name_bytes, host_unknown, no_name, no_key, no_number, imported}

pub record Case : Type 0 where
  pub host : ℕ
  pub names : List ℕ
  pub line : List ℕ
  -- number, key, value, Secure, HttpOnly, readers; a flag is 1 where it stands
  pub answer : List ℕ

abbrev pub flag : Bool → ℕ
flag b = cond b 1 0

unfoldable pub gives : Case → Bool
gives c =
    let r = imported c.host c.names c.line in
    same_numbers (r.number ∷ r.key ∷ r.value ∷ flag r.secure ∷ flag r.http_only ∷ r.readers ∷ []) c.answer

-- ---- names

abbrev pub field : List ℕ → List ℕ
field name = name ++ replicate (name_bytes - length name) 0

-- Key 2 has no name. Keys 3 and 4 have names of 15 and 16 bytes, key 5 that of key 0, key 6 one with a byte above 127, and key 7 that of key 0 in
-- another case.
abbrev pub names : List ℕ
names =
    field (ascii "sid")
    ++ (field (ascii "lang")
    ++ (field []
    ++ (field (ascii "fifteen-letters")
    ++ (field (ascii "sixteen--letters")
    ++ (field (ascii "sid")
    ++ (field (0x63 ∷ 0x61 ∷ 0x66 ∷ 0xe9 ∷ [])
    ++ field (ascii "Sid")))))))

-- Key 0 has no name, since a zero byte is its first; the name of key 1 ends before one, whatever follows it. Key 2 is named as an attribute is. No line
-- has the names of keys 3 and 4, since one begins with a blank and one has an equals sign.
abbrev pub odd_names : List ℕ
odd_names =
    field (0x00 ∷ ascii "sid")
    ++ (field (ascii "sid" ++ (0x00 ∷ ascii "x"))
    ++ (field (ascii "Secure")
    ++ (field (ascii " lang")
    ++ (field (ascii "lang=")
    ++ (field (ascii "lang x")
    ++ (field (ascii "__Secure-a")
    ++ field (ascii "lang" ++ (0xff ∷ []))))))))

-- ---- lines of host 3: http there is bit 3, https bit 19

abbrev pub both : ℕ
both = 0x00080008

abbrev pub https : ℕ
https = 0x00080000

abbrev pub of : ℕ → List ℕ → ℕ → ℕ → ℕ → ℕ → ℕ → Case
of number line key value secure http_only_at readers =
    record { host = 3; names = names; line = line; answer = number ∷ key ∷ value ∷ secure ∷ http_only_at ∷ readers ∷ [] }

-- key and value of a line without flags
abbrev pub plain : List ℕ → ℕ → ℕ → Case
plain line key value = of 0 line key value 0 0 both

abbrev pub secure : List ℕ → ℕ → ℕ → Case
secure line key value = of 0 line key value 1 0 https

abbrev pub http_only_at : List ℕ → ℕ → ℕ → Case
http_only_at line key value = of 0 line key value 0 1 both

abbrev pub with_both : List ℕ → ℕ → ℕ → Case
with_both line key value = of 0 line key value 1 1 https

abbrev pub refusal : ℕ → List ℕ → Case
refusal number line = of number line 0 0 0 0 0

-- the same of any host and names
abbrev pub refused_for : ℕ → List ℕ → ℕ → List ℕ → Case
refused_for host names number line = record { host = host; names = names; line = line; answer = number ∷ 0 ∷ 0 ∷ 0 ∷ 0 ∷ 0 ∷ [] }

abbrev pub tab : List ℕ
tab = 0x09 ∷ []

abbrev pub return : List ℕ
return = 0x0d ∷ []

abbrev pub quote : List ℕ
quote = 0x22 ∷ []

abbrev pub blanks : List ℕ
blanks = 0x20 ∷ 0x09 ∷ 0x20 ∷ []

-- a line that is read with the other names
abbrev pub odd : ℕ → List ℕ → ℕ → ℕ → ℕ → Case
odd number line key value readers =
    record { host = 3; names = odd_names; line = line; answer = number ∷ key ∷ value ∷ 0 ∷ 0 ∷ readers ∷ [] }

abbrev pub import_cases : List Case
import_cases =
    -- pairs
    plain (ascii "sid=7") 0 7
    ∷ secure (ascii " sid = 7 ; Secure") 0 7
    ∷ secure (tab ++ (ascii "sid" ++ (tab ++ (ascii "=" ++ (tab ++ (ascii "7" ++ (tab ++ (ascii ";" ++ (tab ++ (ascii "Secure" ++ tab)))))))))) 0 7
    ∷ refusal no_name (ascii "sid")
    ∷ refusal no_name (ascii "=7")
    ∷ refusal no_name (ascii " =7")
    ∷ refusal no_name []
    ∷ refusal no_name (ascii ";Secure")
    ∷ secure (blanks ++ (ascii "sid" ++ (blanks ++ (ascii "=" ++ (blanks ++ (ascii "7" ++ (blanks
    ++ (ascii ";" ++ (blanks ++ (ascii "Secure" ++ blanks)))))))))) 0 7
    ∷ refusal no_name (ascii "sid;a=7")
    ∷ refusal no_name (ascii ";sid=7")
    ∷ refusal no_name (ascii "sid:7")
    ∷ plain (ascii "lang=7") 1 7
    -- names: byte for byte, the lowest of equal ones, 15 and 16 bytes and one more, a byte above 127, a zero byte, a carriage return
    ∷ plain (ascii "Sid=7") 7 7
    ∷ refusal no_key (ascii "SID=7")
    ∷ refusal no_key (ascii "si=7")
    ∷ refusal no_key (ascii "sids=7")
    ∷ refusal no_key (ascii "s id=7")
    ∷ refusal no_key (ascii "dis=7")
    ∷ refusal no_key (ascii "0sid=7")
    ∷ refusal no_key (ascii "sid0=7")
    ∷ refusal no_key (ascii "Set-Cookie: sid=7")
    ∷ refusal no_key (quote ++ (ascii "sid" ++ (quote ++ ascii "=7")))
    ∷ refusal no_key (ascii "%73id=7")
    ∷ refusal no_key (0xef ∷ 0xbb ∷ 0xbf ∷ ascii "sid=7")
    ∷ plain (ascii "fifteen-letters=7") 3 7
    ∷ plain (ascii "sixteen--letters=7") 4 7
    ∷ refusal no_key (ascii "fifteen-letter=7")
    ∷ refusal no_key (ascii "sixteen--letters-=7")
    ∷ refusal no_key (ascii "sixteen--letterz=7")
    ∷ refusal no_key (ascii "sixteen-:letters=7")
    ∷ refusal no_key ((0x63 ∷ 0x61 ∷ 0x66 ∷ 0xe8 ∷ []) ++ ascii "=7")
    ∷ plain ((0x63 ∷ 0x61 ∷ 0x66 ∷ 0xe9 ∷ []) ++ ascii "=7") 6 7
    ∷ refusal no_key ((0x63 ∷ 0x61 ∷ 0x66 ∷ 0x69 ∷ []) ++ ascii "=7")
    ∷ refusal no_key (ascii "sid" ++ (0x00 ∷ ascii "=7"))
    ∷ refusal no_key (return ++ ascii "sid=7")
    -- values
    ∷ refusal no_number (ascii "sid=")
    ∷ refusal no_number (ascii "sid= ")
    ∷ plain (ascii "sid=0") 0 0
    ∷ plain (ascii "sid=4294967295") 0 4294967295
    ∷ refusal no_number (ascii "sid=4294967296")
    ∷ refusal no_number (ascii "sid=9999999999")
    ∷ plain (ascii "sid=0000000007") 0 7
    ∷ refusal no_number (ascii "sid=00000000007")
    ∷ plain (ascii "sid=010") 0 10
    ∷ plain (ascii "sid=0123456789") 0 123456789
    ∷ refusal no_number (ascii "sid=+7")
    ∷ refusal no_number (ascii "sid=-7")
    ∷ refusal no_number (ascii "sid=7 7")
    ∷ refusal no_number (ascii "sid=7=7")
    ∷ refusal no_number (ascii "sid==7")
    ∷ refusal no_number (ascii "sid=7/")
    ∷ refusal no_number (ascii "sid=:7")
    ∷ refusal no_number (ascii "sid=0x7")
    ∷ refusal no_number (ascii "sid=7" ++ return)
    ∷ refusal no_number (ascii "sid=7" ++ (return ++ (0x0a ∷ [])))
    ∷ refusal no_number (ascii "sid=" ++ (quote ++ (ascii "7" ++ quote)))
    ∷ refusal no_number (ascii "sid=%37")
    ∷ refusal no_number (ascii "sid=7, Secure")
    ∷ refusal no_number (ascii "sid=" ++ (0xd9 ∷ 0xa7 ∷ []))
    ∷ refusal no_number (ascii "sid=" ++ (0xb7 ∷ []))
    -- attributes
    ∷ with_both (ascii "sid=7;secure;HTTPONLY") 0 7
    ∷ with_both (ascii "sid=7; HttpOnly; Secure") 0 7
    ∷ http_only_at (ascii "sid=7; HttpOnly") 0 7
    ∷ http_only_at (ascii "sid=7;httpONLY=no") 0 7
    ∷ secure (ascii "sid=7; Secure=false") 0 7
    ∷ secure (ascii "sid=7; Path=/; Secure ") 0 7
    ∷ secure (ascii "sid=7;SeCuRe = ") 0 7
    ∷ secure (ascii "sid=7; Secure=a=b") 0 7
    ∷ with_both (ascii "sid=7; SECURE; httponly") 0 7
    ∷ with_both (ascii "sid=7; Secure=0; HttpOnly=0") 0 7
    ∷ with_both (ascii "sid=7;Secure;HttpOnly;Secure;HttpOnly") 0 7
    ∷ with_both (ascii "sid=7; Expires=Wed, 09 Jun 2021 10:18:14 GMT; Path=/; ; =; x; y=; Secure; HttpOnly; SameSite=Lax; z") 0 7
    ∷ secure (ascii "sid=7; Secure=" ++ replicate 1025 0x61) 0 7
    ∷ secure (ascii "sid=7; Path=/" ++ (replicate 300 0x61 ++ ascii "; Secure")) 0 7
    ∷ secure (ascii "sid=7; Path=" ++ (quote ++ (ascii "; Secure; " ++ quote))) 0 7
    ∷ secure (ascii "sid=7; a" ++ (0x00 ∷ 0x0d ∷ 0x0a ∷ ascii "b; Secure")) 0 7
    ∷ plain (ascii "sid=7;") 0 7
    ∷ secure (ascii "sid=7;;Secure") 0 7
    ∷ secure (ascii "sid=7;Secure;") 0 7
    ∷ plain (ascii "sid=7; Secured") 0 7
    ∷ plain (ascii "sid=7; Secur") 0 7
    ∷ plain (ascii "sid=7; Se cure") 0 7
    ∷ plain (ascii "sid=7; =Secure") 0 7
    ∷ plain (ascii "sid=7; Path=Secure") 0 7
    ∷ plain (ascii "sid=7; Secure HttpOnly") 0 7
    ∷ plain (ascii "sid=7; HttpOnly1; 0Secure; Secure0") 0 7
    ∷ plain (ascii "sid=7; InSecure; cure; NotHttpOnly; Only; HttpOnl; SameSite=None") 0 7
    ∷ plain (ascii "sid=7; Sfdure; eSCURE; aecure; Sacure; Seaure; Secare; Secuae; Secura") 0 7
    ∷ plain (ascii "sid=7; HttpOnyl; attpOnly; HatpOnly; HtapOnly; HttaOnly; Httpanly; HttpOaly; HttpOnay; HttpOnla") 0 7
    ∷ plain (ascii "sid=7; a,Secure; a&Secure; a:Secure; a/Secure; Secure:a; Secure,a; " ++ (quote ++ (ascii "Secure" ++ quote))) 0 7
    ∷ plain (ascii "sid=7; a" ++ (0x00 ∷ (ascii "Secure; Secure" ++ (0x00 ∷ (ascii "a; a" ++ (0x0a ∷ ascii "Secure")))))) 0 7
    ∷ plain (ascii "sid=7; " ++ (0xc5 ∷ 0xbf ∷ ascii "ecure")) 0 7
    ∷ plain (ascii "sid=7; Secure" ++ return) 0 7
    ∷ plain (ascii "sid=7; " ++ (0xd3 ∷ ascii "ecure")) 0 7
    -- the names of keys: zero bytes, blanks, and the words of attributes
    ∷ odd 0 (ascii "sid=7") 1 7 both
    ∷ odd no_key (ascii "sid" ++ (0x00 ∷ ascii "x=7")) 0 0 0
    ∷ odd 0 (ascii "Secure=7") 2 7 both
    ∷ odd no_key (ascii "lang=7") 0 0 0
    ∷ odd 0 (ascii "lang x=7") 5 7 both
    ∷ odd 0 (ascii "__Secure-a=7") 6 7 both
    -- the first refusal that fits: the host, then the pair, then the names, then the value
    ∷ refused_for 16 [] host_unknown []
    ∷ refused_for 4294967295 names host_unknown (ascii "sid=7;Secure")
    ∷ refused_for 16 names host_unknown (ascii "Sid=7;Secure;HttpOnly")
    ∷ refused_for 65539 names host_unknown (ascii "sid=7")
    ∷ refusal no_name (ascii "Sid;Secure;HttpOnly")
    ∷ refusal no_number (ascii "Sid=x;Secure;HttpOnly")
    ∷ refused_for 3 [] no_name (ascii "cid;Secure")
    ∷ refused_for 3 [] no_name (ascii "=x;Secure")
    ∷ refused_for 3 (take 127 names) no_key (ascii "sid=x;Secure")
    ∷ refused_for 3 (names ++ (0 ∷ [])) no_key (ascii "Sid=7;Secure;HttpOnly")
    ∷ refused_for 3 (take 16 names) no_key (ascii "sid=7")
    ∷ refused_for 3 (names ++ replicate 256 0) no_key (ascii "sid=7")
    ∷ refused_for 3 names no_key (ascii "cid=x;Secure")
    ∷ refused_for 3 (replicate 128 0) no_key (ascii "sid=7")
    ∷ []

-- ---- every byte in each place, and every host

-- all bytes but digits, blanks, `;` and `=`
abbrev pub others : List ℕ
others = numbers 0x00 9 ++ (numbers 0x0a 22 ++ (numbers 0x21 15 ++ (0x3a ∷ 0x3c ∷ numbers 0x3e 194)))

abbrev pub byte_cases : List Case
byte_cases =
    map (λ x. refusal no_key (x ∷ ascii "sid=7")) others
    ++ (map (λ x. refusal no_key (ascii "sid" ++ (x ∷ ascii "=7"))) others
    ++ (map (λ x. refusal no_number (ascii "sid=" ++ (x ∷ ascii "7"))) others
    ++ (map (λ x. refusal no_number (ascii "sid=7" ++ (x ∷ []))) others
    ++ (map (λ x. plain (ascii "sid=7;" ++ (x ∷ ascii "Secure")) 0 7) others
    ++ map (λ x. plain (ascii "sid=7;Secure" ++ (x ∷ [])) 0 7) others))))

abbrev pub from_host : List ℕ → ℕ → ℕ → ℕ → Case
from_host line secure readers h = record { host = h; names = names; line = line; answer = 0 ∷ 0 ∷ 7 ∷ secure ∷ 0 ∷ readers ∷ [] }

abbrev pub host_cases : List Case
host_cases =
    map (λ h. from_host (ascii "sid=7") 0 (2 ^ h + 2 ^ (16 + h)) h) (numbers 0 16)
    ++ map (λ h. from_host (ascii "sid=7;Secure") 1 (2 ^ (16 + h)) h) (numbers 0 16)

abbrev pub ImportCases : Type 0
ImportCases = T (every gives (import_cases ++ (byte_cases ++ host_cases)))

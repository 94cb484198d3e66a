-- The layout of a record: one description, from which decoding and encoding are both defined (document 01, "Records").
use Rattle.std.specs.Prelude.{ℕ, ◌+◌, ◌*◌, ◌^◌, max, Bool, true, ◌&&◌, cond, List, [], ◌∷◌, ◌++◌, map, ltb, eqb, get_or, take, drop}
use Rattle.records.specs.declared.Direction.{Direction}
use Rattle.records.specs.declared.Direction.TheVariants.{Input, Request}
use Rattle.records.specs.declared.Record.{Record}
use Rattle.records.specs.Bytes.{bit, number, digits}

-- What a record carries after its map byte. Document 01 calls a connection a lane. That the record is a picture's is carried without a byte.
pub data Part : Type 0 where
  url connection key_map script value target picture : Part
  cookie : ℕ → Part

-- A field is carried where a bit is set: of the map, or of the key map.
pub data Guard : Type 0 where
  map_bit key_bit : ℕ → Guard

pub record Field : Type 0 where
  pub part : Part
  pub guard : Guard
  pub width : ℕ

abbrev field : Part → Guard → ℕ → Field
field p g w = record { part = p; guard = g; width = w }

-- the eight keys of a host's cookies
abbrev pub key_numbers : List ℕ
key_numbers = 0 ∷ 1 ∷ 2 ∷ 3 ∷ 4 ∷ 5 ∷ 6 ∷ 7 ∷ []

abbrev pub cookie_field : ℕ → Field
cookie_field k = field (cookie k) (key_bit k) 4

-- the bit of the map that says that cookies follow
abbrev pub cookies_bit : ℕ
cookies_bit = 2

-- THE LAYOUT: which part, the bit that says that it is carried, and how many bytes it has; in the order of the bytes.
abbrev pub layout : List Field
layout =
    field url (map_bit 0) 1
    ∷ field connection (map_bit 1) 1
    ∷ field key_map (map_bit cookies_bit) 1
    ∷ (map cookie_field key_numbers
    ++ (field script (map_bit 3) 1
    ∷ field value (map_bit 4) 4
    ∷ field target (map_bit 5) 1
    ∷ field picture (map_bit 6) 0
    ∷ []))

-- The map bytes. Inputs: document 01's load; document answer, script answer, redirect and picture answer, each with cookies or without.
abbrev pub load : ℕ
load = 0x03

abbrev pub document_response : ℕ
document_response = 0x0b

abbrev pub script_response : ℕ
script_response = 0x13

abbrev pub redirect : ℕ
redirect = 0x23

abbrev pub picture_response : ℕ
picture_response = 0x43

-- requests: document request, script request and picture request, each with cookies or without
abbrev pub document_request : ℕ
document_request = 0x03

abbrev pub script_request : ℕ
script_request = 0x0b

abbrev pub picture_request : ℕ
picture_request = 0x43

abbrev pub with_cookies : ℕ → ℕ
with_cookies m = m + 2 ^ cookies_bit

abbrev pub maps : Direction → List ℕ
maps Input =
    load
    ∷ document_response
    ∷ with_cookies document_response
    ∷ script_response
    ∷ with_cookies script_response
    ∷ redirect
    ∷ with_cookies redirect
    ∷ picture_response
    ∷ with_cookies picture_response
    ∷ []
maps Request =
    document_request
    ∷ with_cookies document_request
    ∷ script_request
    ∷ with_cookies script_request
    ∷ picture_request
    ∷ with_cookies picture_request
    ∷ []

-- 1 where a field is carried, 0 where not
abbrev pub carried : Guard → ℕ → ℕ → ℕ
carried (map_bit b) m keys = bit m b
carried (key_bit k) m keys = bit keys k

-- how many bytes each field has under a map and a key map: none where it is not carried
unfoldable pub widths : ℕ → ℕ → List ℕ
widths m keys = map (λ f. f.width * carried f.guard m keys) layout

abbrev pub sum : List ℕ → ℕ
sum [] = 0
sum (n ∷ ns) = n + sum ns

-- the place where field i of the layout begins: after the map byte and the fields before it
unfoldable pub start : ℕ → ℕ → ℕ → ℕ
start i m keys = 1 + sum (take i (widths m keys))

-- the place of the key map byte, which is field 2; no key moves it
abbrev pub key_map_at : ℕ → ℕ
key_map_at m = start 2 m 0

-- how many bytes a record with this map and key map has, the map byte included
unfoldable pub size : ℕ → ℕ → ℕ
size m keys = 1 + sum (widths m keys)

abbrev largest : List ℕ → ℕ
largest [] = 0
largest (n ∷ ns) = max n (largest ns)

-- how many bytes the longest record has: with the map, and every key, that make it longest; 40 for an input and 37 for a request
unfoldable pub longest : Direction → ℕ
unfolding size widths
longest d = largest (map (λ m. size m (0xff * bit m cookies_bit)) (maps d))

-- values laid out by widths, and bytes taken apart by them
unfoldable pub join : List ℕ → List ℕ → List ℕ
join [] vs = []
join (w ∷ ws) [] = []
join (w ∷ ws) (v ∷ vs) = digits w v ++ join ws vs

unfoldable pub split : List ℕ → List ℕ → List ℕ
split [] bytes = []
split (w ∷ ws) bytes = number (take w bytes) ∷ split ws (drop w bytes)

-- each value fits its width; one that is not carried has width 0, and so is 0
unfoldable pub fit_widths : List ℕ → List ℕ → Bool
fit_widths [] vs = true
fit_widths (w ∷ ws) [] = true
fit_widths (w ∷ ws) (v ∷ vs) = ltb v (256 ^ w) && fit_widths ws vs

-- the value of a part; what has no byte has only 0
abbrev value_of : Record → Part → ℕ
value_of r url = r.url
value_of r connection = r.connection
value_of r key_map = r.keys
value_of r script = r.script
value_of r value = r.value
value_of r target = r.target
value_of r picture = 0
value_of r (cookie k) = get_or r.cookies k 0

-- a record's values in the order of the layout
unfoldable pub values : Record → List ℕ
values r = map (λ f. value_of r f.part) layout

-- a number for each part, to tell them apart
abbrev code : Part → ℕ
code url = 0
code connection = 1
code key_map = 2
code script = 3
code value = 4
code target = 5
code picture = 6
code (cookie k) = 7 + k

-- the value of a part among values in the order of the layout
abbrev among : List Field → List ℕ → Part → ℕ
among [] vs p = 0
among (f ∷ fs) [] p = 0
among (f ∷ fs) (v ∷ vs) p = cond (eqb (code f.part) (code p)) v (among fs vs p)

-- the record with a map and values in the order of the layout
unfoldable pub from_values : ℕ → List ℕ → Record
from_values m vs = record {
  map = m;
  url = among layout vs url;
  connection = among layout vs connection;
  keys = among layout vs key_map;
  cookies = map (λ k. among layout vs (cookie k)) key_numbers;
  script = among layout vs script;
  value = among layout vs value;
  target = among layout vs target;
}

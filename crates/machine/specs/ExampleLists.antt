-- Lists of records, and what is compared of them, as numbers: with these the examples of the claims about whole lists are told.
use Rattle.std.specs.Prelude.{ℕ, List, [], ◌∷◌, ◌++◌, map, length, replicate}
use Rattle.records.specs.declared.Record.{Record}
use Rattle.records.specs.Codec.{bytes_of}
use Rattle.machine.specs.Session.{Cookie}
use Rattle.machine.specs.Machine.{Arrived, DocumentResponse, ScriptResponse, PictureResponse, Redirect, Event, Load, Arrival}
use Rattle.machine.specs.Runs.{Item, Observation}

-- a list of records, with a byte that fills buffers of a length
abbrev pub items : ℕ → ℕ → List (List ℕ) → List Item
items room filler records = map (λ r. record { bytes = r; buffer = replicate room filler }) records

-- Different events have different lists: a number for each kind, then its fields, with the count of cookies before them.
abbrev pub cookie_numbers : List Cookie → List ℕ
cookie_numbers [] = []
cookie_numbers (c ∷ cs) = c.key ∷ c.value ∷ cookie_numbers cs

abbrev pub arrived_numbers : Arrived → List ℕ
arrived_numbers (DocumentResponse x) = 1 ∷ x ∷ []
arrived_numbers (ScriptResponse v) = 2 ∷ v ∷ []
arrived_numbers PictureResponse = 3 ∷ []
arrived_numbers (Redirect t) = 4 ∷ t ∷ []

abbrev pub event_numbers : Event → List ℕ
event_numbers (Load u n) = 0 ∷ u ∷ n ∷ []
event_numbers (Arrival u n cs what) = arrived_numbers what ++ (u ∷ n ∷ length cs ∷ cookie_numbers cs)

abbrev pub events_numbers : List Event → List ℕ
events_numbers [] = []
events_numbers (e ∷ es) = event_numbers e ++ events_numbers es

-- and so have different observations
abbrev pub observation_numbers : Observation → List ℕ
observation_numbers v = v.kind ∷ v.url ∷ v.connection ∷ v.handler ∷ length v.cookies ∷ cookie_numbers v.cookies

abbrev pub observations_numbers : List Observation → List ℕ
observations_numbers [] = []
observations_numbers (v ∷ vs) = observation_numbers v ++ observations_numbers vs

-- the bytes of requests
abbrev pub sent_bytes : List Record → List ℕ
sent_bytes [] = []
sent_bytes (r ∷ rs) = bytes_of r ++ sent_bytes rs

-- ---- what two sessions send, of the examples of secrecy; a list of requests is counted by other crates too

abbrev pub sent_with_hidden : List ℕ
sent_with_hidden =
    0x03 ∷ 0x01 ∷ 0x01
    ∷ 0x03 ∷ 0x00 ∷ 0x00
    ∷ 0x0f ∷ 0x00 ∷ 0x00 ∷ 0x01 ∷ 0x00 ∷ 0x00 ∷ 0x00 ∷ 0x09 ∷ 0x00
    ∷ 0x0f ∷ 0x01 ∷ 0x01 ∷ 0x01 ∷ 0x00 ∷ 0x00 ∷ 0x00 ∷ 0x07 ∷ 0x00
    ∷ 0x07 ∷ 0x02 ∷ 0x01 ∷ 0x02 ∷ 0x00 ∷ 0x00 ∷ 0x00 ∷ 0x08
    ∷ []

abbrev pub sent_with_hidden_picture : List ℕ
sent_with_hidden_picture =
    0x03 ∷ 0x01 ∷ 0x01
    ∷ 0x03 ∷ 0x00 ∷ 0x00
    ∷ 0x43 ∷ 0x00 ∷ 0x00
    ∷ 0x43 ∷ 0x01 ∷ 0x01
    ∷ 0x07 ∷ 0x01 ∷ 0x01 ∷ 0x01 ∷ 0x00 ∷ 0x00 ∷ 0x00 ∷ 0x07
    ∷ []

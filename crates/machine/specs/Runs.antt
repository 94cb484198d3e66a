-- What the claims about whole lists of records share (document 01, "The secrecy rule"): how a list is fed, what remains of it, and a request as it is
-- compared. The claims are in Secrecy.antt and Integrity.antt.
use Rattle.std.specs.Prelude.{ℕ, ◌≤◌, Bool, ◌&&◌, List, [], ◌∷◌, ◌++◌, ◌≡◌, T, eqb, length, take}
use Rattle.std.proofs.Math.Pow.{are_bytes}
use Rattle.prelude.specs.Refusals.{accepted}
use Rattle.prelude.specs.Choice.{branch, keep}
use Rattle.records.specs.declared.Direction.TheVariants.{Input, Request}
use Rattle.records.specs.declared.Record.{Record}
use Rattle.records.specs.Codec.{decoded, read_run}
use Rattle.machine.specs.Policy.{cookie_index, url_host, well_formed}
use Rattle.machine.specs.Session.{empty_state, Cookie}
use Rattle.machine.specs.Machine.{Event, plain_map, event_in, named, output_room, feed}

-- ---- a run (how document 01 feeds a list)

-- a record, and the output buffer that it is given
pub record Item : Type 0 where
  pub bytes : List ℕ
  pub buffer : List ℕ

-- Each record is bytes, and its buffer is one that 1 does not refuse. How long the buffers are and what they hold may differ from item to
-- item, and from list to list.
abbrev pub Feedable : List Item → Type 0
Feedable [] = Unit {0}
Feedable (i ∷ is) = T (are_bytes i.bytes) × (output_room ≤ length i.buffer) × Feedable is

-- what a run leaves: its requests, what could not be read as requests, and the state after it
pub record Trace : Type 0 where
  pub requests : List Record
  pub unread : List ℕ
  pub state : List ℕ

-- Each record gets the state as the last one left it, accepted or refused. The requests are, for each record in turn, the bytes that its
-- answer counts, read as request records and joined.
unfoldable pub feed_all : List ℕ → List ℕ → List ℕ → List Item → Trace
feed_all p scripts s [] = record { requests = []; unread = []; state = s }
feed_all p scripts s (i ∷ is) =
    let fed = feed p scripts s i.bytes i.buffer in
    let read = read_run Request (take fed.bytes fed.buffer) in
    let rest = feed_all p scripts fed.state is in
    record { requests = read.records ++ rest.requests; unread = read.left ++ rest.unread; state = rest.state }

-- from the empty state
unfoldable pub run : List ℕ → List ℕ → List Item → Trace
run p scripts is = feed_all p scripts empty_state is

-- Beside every claim: the bytes that a run counts are wholly request records.
abbrev pub NothingUnread : Type 0
NothingUnread = (p scripts : List ℕ) (is : List Item) → T (are_bytes scripts) → Feedable is → (run p scripts is).unread ≡ []

-- ---- what remains of a list, where a claim says what is left of an event
-- It is a list of events. An event has the record's fields and no more, but that a load's URL and a redirect's target are those that are asked for.
-- So equal records leave equal events, a load goes by the URL that is sent, and a record that names the partner leaves the same.

-- of cookies for a URL, those that pass a test; it is asked of the cookie with the key at the URL's host
unfoldable pub cookies_where : (ℕ → Bool) → List ℕ → ℕ → List Cookie → List Cookie
cookies_where test p u cs = keep (λ c. test (cookie_index (url_host p u) c.key)) cs

-- a malformed record is struck, and one that 6 fits
unfoldable pub left_of_record : (Event → List Event) → List ℕ → List ℕ → List Event
left_of_record left p bytes =
    let event = event_in p bytes in
    branch (eqb (decoded Input bytes).number accepted && named p event) (left event) []

-- what is left of each record, in order
unfoldable pub left_of_records : (Event → List Event) → List ℕ → List Item → List Event
left_of_records left p [] = []
left_of_records left p (i ∷ is) = left_of_record left p i.bytes ++ left_of_records left p is

-- under a policy that 2 refuses, nothing remains
unfoldable pub remaining : (Event → List Event) → List ℕ → List Item → List Event
remaining left p is = branch (well_formed p) (left_of_records left p is) []

-- ---- a request as it is compared

-- Its kind, document, script or picture, is the map byte without the bit for cookies. Which of its cookies are compared a claim says.
pub record Observation : Type 0 where
  pub kind : ℕ
  pub url : ℕ
  pub connection : ℕ
  pub handler : ℕ
  pub cookies : List Cookie

abbrev pub observed : List Cookie → Record → Observation
observed cookies r = record { kind = plain_map r.map; url = r.url; connection = r.connection; handler = r.script; cookies = cookies }

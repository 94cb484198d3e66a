-- What the definitions come to: statements about `found` and `stopped` that a reader can hold against what was wanted, and what the monitor itself
-- does with a journey. The proofs are in proofs/Guarantees.antt, proofs/Stopping.antt, proofs/Taking.antt and proofs/Naming.antt.
use Rattle.std.specs.Prelude.{ℕ, zero, suc, ◌<◌, ◌≤◌, not, cond, List, [], ◌∷◌, ◌≡◌, T, eqb, length, get_or}
use Rattle.prelude.specs.Refusals.{accepted}
use Rattle.labels.specs.Membership.{endpoints}
use Rattle.labels.specs.Sets.{holds}
use Rattle.records.specs.Layout.{load, redirect}
use Rattle.machine.specs.Policy.{connections, well_formed, url_readers, url_writers, connection_readers, connection_writers, url_message, url_event}
use Rattle.machine.specs.Session.{empty_state, document_kind, packed, connection_word}
use Rattle.machine.specs.Scripts.{table_bytes}
use Rattle.machine.specs.Machine.{policy_bad, readers_forbid, Verdict, output_room, Fed, feed}
use Rattle.machine.specs.Guarantees.{told_in}
use Rattle.journeys.specs.Journey.{url_at, judged, takes, carries, journey_bad, is_journey, refused, told, found, fails_at}
use Rattle.journeys.specs.Journey.{of_url_number, stop_at, no_stop, connection_unknown, refused_stop, stopped}

-- ---- which connection is told

-- what neither 2 nor 17 refuses
abbrev pub Asked : List ℕ → List ℕ → Type 0
Asked p urls = T (well_formed p) × T (is_journey p urls)

-- Connection c is told just where it carries the journey and no lower one does.
abbrev pub LowestCarries : List ℕ → List ℕ → ℕ → Type 0
LowestCarries p urls c = T (carries p urls c) × ((d : ℕ) → d < c → T (not (carries p urls d)))

abbrev pub LowestIsTold : Type 0
LowestIsTold =
    (p urls : List ℕ) (c : ℕ) → c < connections
    → (found p urls ≡ told c → Asked p urls × LowestCarries p urls c) × (Asked p urls → LowestCarries p urls c → found p urls ≡ told c)

-- None is told just where each of the 32 connections fails on some URL of the journey.
abbrev pub Fails : List ℕ → List ℕ → ℕ → Type 0
Fails p urls c = (i : ℕ) × (i < length urls) × T (not (takes p urls c i))

abbrev pub EachFails : List ℕ → List ℕ → Type 0
EachFails p urls = (c : ℕ) → c < connections → Fails p urls c

abbrev pub NoneIsTold : Type 0
NoneIsTold =
    (p urls : List ℕ)
    → (found p urls ≡ told connections → Asked p urls × EachFails p urls) × (Asked p urls → EachFails p urls → found p urls ≡ told connections)

-- 2 is told just where the policy is not well formed, and 17 just where it is and the journey is none, both with zeros. So there are no answers but
-- these four.
abbrev pub RefusedInOrder : Type 0
RefusedInOrder =
    (p urls : List ℕ)
    → (T (not (well_formed p)) → found p urls ≡ refused policy_bad)
    × (T (well_formed p) → T (not (is_journey p urls)) → found p urls ≡ refused journey_bad)

-- ---- where a connection stops

-- A connection that carries the journey stops nowhere. Any other stops at the first place that it does not take, which is below the length.
abbrev pub StopsWhereItFails : Type 0
StopsWhereItFails =
    (p urls : List ℕ) (c : ℕ) → c < connections → Asked p urls
    → (T (carries p urls c) → stopped p urls c ≡ no_stop urls)
    × (T (not (carries p urls c)) → (fails_at p urls c < length urls) × (stopped p urls c ≡ stop_at p urls c (fails_at p urls c)))

-- So the place tells whether it carries the journey, and connection c is told by `found` just where it is the lowest whose place is the length.
abbrev pub LowestUnstopped : List ℕ → List ℕ → ℕ → Type 0
LowestUnstopped p urls c = ((stopped p urls c).place ≡ length urls) × ((d : ℕ) → d < c → (stopped p urls d).place < length urls)

abbrev pub LowestIsUnstopped : Type 0
LowestIsUnstopped =
    (p urls : List ℕ) (c : ℕ) → c < connections → Asked p urls
    → (found p urls ≡ told c → LowestUnstopped p urls c) × (LowestUnstopped p urls c → found p urls ≡ told c)

-- 2 and 17 are told as of a journey, and 6 where neither is and the connection is none of the 32, each with zeros.
abbrev pub StoppedInOrder : Type 0
StoppedInOrder =
    (p urls : List ℕ) (c : ℕ)
    → (T (not (well_formed p)) → stopped p urls c ≡ refused_stop policy_bad)
    × (T (well_formed p) → T (not (is_journey p urls)) → stopped p urls c ≡ refused_stop journey_bad)
    × (Asked p urls → connections ≤ c → stopped p urls c ≡ refused_stop connection_unknown)

-- ---- what the monitor does with a journey

-- The records of a journey on connection c: a load of its first URL, then redirects without cookies. A redirect names the URL that the connection
-- then holds, which is the former one after its replacement; and the next one as the journey has it.
abbrev pub record_at : List ℕ → List ℕ → ℕ → ℕ → List ℕ
record_at p urls c zero = load ∷ get_or urls 0 0 ∷ c ∷ []
record_at p urls c (suc i) = redirect ∷ url_at p urls i ∷ c ∷ get_or urls (suc i) 0 ∷ []

-- They are fed one after another, from the empty state: each gets the state as the last one left it, and a buffer of its own.
abbrev pub state_at : List ℕ → List ℕ → List ℕ → ℕ → (ℕ → List ℕ) → ℕ → List ℕ
state_at p scripts urls c buffers zero = empty_state
state_at p scripts urls c buffers (suc i) = (feed p scripts (state_at p scripts urls c buffers i) (record_at p urls c i) (buffers i)).state

abbrev pub fed_at : List ℕ → List ℕ → List ℕ → ℕ → (ℕ → List ℕ) → ℕ → Fed
fed_at p scripts urls c buffers i = feed p scripts (state_at p scripts urls c buffers i) (record_at p urls c i) (buffers i)

-- A connection that is told takes the journey. Under any script table of 2,048 bytes and with buffers that 1 does not refuse, whatever they hold, the
-- load and then each redirect is accepted, and after each the connection waits for the document of its URL.
abbrev pub ToldIsTaken : Type 0
ToldIsTaken =
    (p scripts urls : List ℕ) (c : ℕ) (buffers : ℕ → List ℕ)
    → length scripts ≡ table_bytes → ((i : ℕ) → output_room ≤ length (buffers i))
    → c < connections → found p urls ≡ told c
    → (i : ℕ) → i < length urls
    → ((fed_at p scripts urls c buffers i).number ≡ accepted)
    × (connection_word (state_at p scripts urls c buffers (suc i)) c ≡ packed document_kind 0 0 (url_at p urls i))

-- And whether or not a connection is told, the monitor says what `judged` says, the missing endpoint too: of the first URL, and of each further one
-- where those before it were taken.
abbrev pub FedAsJudged : Type 0
FedAsJudged =
    (p scripts urls : List ℕ) (c : ℕ) (buffers : ℕ → List ℕ)
    → length scripts ≡ table_bytes → ((i : ℕ) → output_room ≤ length (buffers i))
    → c < connections → Asked p urls
    → (i : ℕ) → i < length urls → ((j : ℕ) → j < i → T (takes p urls c j))
    → told_in (fed_at p scripts urls c buffers i) ≡ judged p urls c i

-- So a connection that does not carry the journey fails in the monitor where and as `stopped` tells it, and the program `journey` prints it: what is
-- before that place is accepted, and what is there refused, by that number and for that endpoint.
abbrev pub RefusedAsTold : Type 0
RefusedAsTold =
    (p scripts urls : List ℕ) (c : ℕ) (buffers : ℕ → List ℕ)
    → length scripts ≡ table_bytes → ((i : ℕ) → output_room ≤ length (buffers i))
    → c < connections → Asked p urls → T (not (carries p urls c))
    → let i = fails_at p urls c in
    (i < length urls)
    × ((j : ℕ) → j < i → (fed_at p scripts urls c buffers j).number ≡ accepted)
    × ((fed_at p scripts urls c buffers i).number ≡ accepted → ⊥)
    × (told_in (fed_at p scripts urls c buffers i) ≡ judged p urls c i)

-- ---- the set that lacks the endpoint

-- the readers by 8 and the writers by 9, of a URL and of a connection; and the endpoint of the URL for which the connection's are asked
abbrev pub url_set : List ℕ → ℕ → Verdict → ℕ
url_set p u v = cond (eqb v.number readers_forbid) (url_readers p u) (url_writers p u)

abbrev pub connection_set : List ℕ → ℕ → Verdict → ℕ
connection_set p c v = cond (eqb v.number readers_forbid) (connection_readers p c) (connection_writers p c)

abbrev pub asked_for : List ℕ → ℕ → Verdict → ℕ
asked_for p u v = cond (eqb v.number readers_forbid) (url_event p u) (url_message p u)

-- the set that is named
abbrev pub named_set : List ℕ → ℕ → ℕ → Verdict → ℕ
named_set p c u v = cond (of_url_number p c u v) (url_set p u v) (connection_set p c v)

-- Of each connection that does not carry a journey, its stop, and its line in what `journey` prints, names an endpoint, 0 to 31, and a set that lacks
-- it: of the connection, or of the URL that is asked for at the first place that it does not take. It is the URL's set where the connection's has the
-- endpoint, and the connection's where the endpoint is the URL's own event or message endpoint.
abbrev pub NamedSetLacksIt : Type 0
NamedSetLacksIt =
    (p urls : List ℕ) (c : ℕ) → Asked p urls → c < connections → T (not (carries p urls c))
    → let i = fails_at p urls c in
    let v = judged p urls c i in
    let u = url_at p urls i in
    (v.missing < endpoints)
    × T (not (holds (named_set p c u v) v.missing))
    × T (cond (of_url_number p c u v) (holds (connection_set p c v) v.missing) (eqb v.missing (asked_for p u v)))

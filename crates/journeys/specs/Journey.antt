-- A journey (document 01, "Find a lane for a journey"): URLs that are gone to one after another on one connection, document 01's lane, the first by a
-- load and each further one by a redirect from the one before. Which connection carries it is asked by the monitor's own questions.
use Rattle.std.specs.Prelude.{ℕ, zero, suc, Bool, not, ◌&&◌, cond, List, [], ◌∷◌, ◌++◌, leb, eqb, ltb, length, get_or}
use Rattle.prelude.specs.Choice.{branch}
use Rattle.prelude.specs.Lists.{is_empty, lowest}
use Rattle.prelude.specs.Refusals.{accepted, Refusal, refuse, first_of}
use Rattle.labels.specs.Membership.{none_missing, all_below}
use Rattle.machine.specs.Policy.{connections, well_formed, is_url, upgraded, fit_missing_reader, fit_missing_writer}
use Rattle.machine.specs.Machine.{Redirect, Event, Load, Arrival, policy_bad, readers_forbid, Verdict, plain, label_refusals}
use Rattle.journeys.specs.declared.Found.{Found}
use Rattle.journeys.specs.declared.Stop.{Stop}

-- ---- what the monitor says

-- the URL that is asked for at a place of the journey, where its number gives way to a partner that it has; places are counted from 0
abbrev pub url_at : List ℕ → List ℕ → ℕ → ℕ
url_at p urls i = upgraded p (get_or urls i 0)

-- What the monitor is fed at a place, on connection c: a load, or a redirect from the URL that the connection then holds, without cookies.
abbrev pub event_at : List ℕ → List ℕ → ℕ → ℕ → Event
event_at p urls c zero = Load (url_at p urls 0) c
event_at p urls c (suc i) = Arrival (url_at p urls i) c [] (Redirect (url_at p urls (suc i)))

-- what labels say of it: 8 or 9 with the endpoint that is missing, or 0
unfoldable pub judged : List ℕ → List ℕ → ℕ → ℕ → Verdict
judged p urls c i = first_of (label_refusals p (event_at p urls c i)) (plain accepted)

abbrev pub takes : List ℕ → List ℕ → ℕ → ℕ → Bool
takes p urls c i = eqb (judged p urls c i).number accepted

-- a connection carries a journey where it takes each of its URLs
unfoldable pub carries : List ℕ → List ℕ → ℕ → Bool
carries p urls c = all_below (length urls) (takes p urls c)

-- ---- refusals

abbrev pub journey_bad : ℕ
journey_bad = 17

-- the most URLs of a journey
abbrev pub most_urls : ℕ
most_urls = 16

-- one to 16 numbers, each of which names a URL
unfoldable pub is_journey : List ℕ → List ℕ → Bool
is_journey p urls = not (is_empty urls) && (leb (length urls) most_urls && all_below (length urls) (λ i. is_url p (get_or urls i 0)))

abbrev pub journey_refusals : List ℕ → List ℕ → List (Refusal ℕ)
journey_refusals p urls =
    refuse policy_bad (not (well_formed p))
    ∷ refuse journey_bad (not (is_journey p urls))
    ∷ []

-- ---- what is answered

-- the lowest connection that carries the journey; 32 where none does, which is an answer and no refusal
abbrev pub carrier : List ℕ → List ℕ → ℕ
carrier p urls = lowest connections (carries p urls)

abbrev pub refused : ℕ → Found
refused n = record { number = n; connection = 0 }

abbrev pub told : ℕ → Found
told c = record { number = accepted; connection = c }

unfoldable pub found : List ℕ → List ℕ → Found
found p urls = let n = first_of (journey_refusals p urls) accepted in cond (eqb n accepted) (told (carrier p urls)) (refused n)

-- ---- why a connection does not carry a journey

-- the first place whose URL it does not take; the length where it takes each
unfoldable pub fails_at : List ℕ → List ℕ → ℕ → ℕ
fails_at p urls c = lowest (length urls) (λ i. not (takes p urls c i))

-- Whether the endpoint is missing in a set of the URL, and not of the connection. By 8 it is where it is what is missing for the connection to fit the
-- URL; else it is the URL's event endpoint, which the connection's readers lack. By 9 it is where it is not what is missing for the connection to
-- fit the URL, which is the URL's message endpoint.
unfoldable pub of_url_number : List ℕ → ℕ → ℕ → Verdict → Bool
of_url_number p c u v =
    cond (eqb v.number readers_forbid) (eqb v.missing (fit_missing_reader p c u)) (not (eqb v.missing (fit_missing_writer p c u)))

-- a stop at a place: what labels say there, the URL that is asked for, and 1 where the set that lacks the endpoint is the URL's
abbrev pub stop_at : List ℕ → List ℕ → ℕ → ℕ → Stop
stop_at p urls c i =
    let v = judged p urls c i in
    let u = url_at p urls i in
    record { number = accepted; place = i; refusal = v.number; missing = v.missing; url = u; of_url = branch (of_url_number p c u v) 1 0 }

-- none: the length, and nothing that is missing
abbrev pub no_stop : List ℕ → Stop
no_stop urls = record { number = accepted; place = length urls; refusal = accepted; missing = none_missing; url = 0; of_url = 0 }

-- a connection that does not carry the journey stops at the first place whose URL it does not take
unfoldable pub stop : List ℕ → List ℕ → ℕ → Stop
stop p urls c = cond (carries p urls c) (no_stop urls) (stop_at p urls c (fails_at p urls c))

abbrev pub connection_unknown : ℕ
connection_unknown = 6

-- of the policy and the journey as before, then of the connection
abbrev pub stop_refusals : List ℕ → List ℕ → ℕ → List (Refusal ℕ)
stop_refusals p urls c = journey_refusals p urls ++ (refuse connection_unknown (not (ltb c connections)) ∷ [])

abbrev pub refused_stop : ℕ → Stop
refused_stop n = record { number = n; place = 0; refusal = 0; missing = 0; url = 0; of_url = 0 }

unfoldable pub stopped : List ℕ → List ℕ → ℕ → Stop
stopped p urls c = let n = first_of (stop_refusals p urls c) accepted in cond (eqb n accepted) (stop p urls c) (refused_stop n)

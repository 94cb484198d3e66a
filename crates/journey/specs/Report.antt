-- What journey prints: the connection that carries a journey; or `none`, and for each connection the first URL that it does not take, and why; or a
-- refusal.
use Rattle.std.specs.Prelude.{ℕ, ◌+◌, ◌*◌, ◌<◌, Bool, false, cond, List, [], ◌∷◌, ◌++◌, ◌≡◌, eqb, length, get_or}
use Prim.Native.String.{String}
use Rattle.prelude.specs.Refusals.{accepted}
use Rattle.text.specs.Text.{ascii, decimal, pieces_below}
use Rattle.machine.specs.Policy.{connections}
use Rattle.machine.specs.Machine.{readers_forbid, policy_bad, Verdict}
use Rattle.transcript.specs.Input.{policy_in}
use Rattle.journeys.specs.declared.Found.{Found}
use Rattle.journeys.specs.Journey.{url_at, judged, carries, found, fails_at, of_url_number}

-- ---- why a connection fails

-- words, and a number behind them
abbrev pub labelled : String → ℕ → List ℕ
labelled words n = ascii words ++ decimal n

-- `0: refused 9`
abbrev pub head_text : ℕ → ℕ → List ℕ
head_text c number = (decimal c ++ (0x3a ∷ [])) ++ labelled " refused " number

-- ` at URL 5 (2 of 3)`, but for the bracket that closes
abbrev pub place_text : ℕ → ℕ → ℕ → List ℕ
place_text u nth count = labelled " at URL " u ++ (labelled " (" nth ++ labelled " of " count)

abbrev pub set_text : ℕ → List ℕ
set_text number = cond (eqb number readers_forbid) (ascii " is missing among the readers of ") (ascii " is missing among the writers of ")

-- whose set it is: the URL's, or the connection's
abbrev pub owner_text : Bool → ℕ → ℕ → List ℕ
owner_text url u c = cond url (labelled "URL " u) (labelled "connection " c)

-- `): endpoint 17 is missing among the writers of connection 0`
abbrev pub lack_text : Verdict → Bool → ℕ → ℕ → List ℕ
lack_text v url u c = labelled "): endpoint " v.missing ++ (set_text v.number ++ (owner_text url u c ++ ascii "\n"))

-- where it fails on URL u, the nth of so many, in whose place another may be asked for
abbrev pub why_text : ℕ → ℕ → ℕ → ℕ → Verdict → Bool → ℕ → List ℕ
why_text c u nth count v url asked = head_text c v.number ++ (place_text u nth count ++ lack_text v url asked c)

unfoldable pub failure_text : List ℕ → List ℕ → ℕ → List ℕ
failure_text p urls c =
    let i = fails_at p urls c in
    let v = judged p urls c i in
    why_text c (get_or urls i 0) (i + 1) (length urls) v (of_url_number p c (url_at p urls i) v) (url_at p urls i)

-- ---- all that is printed

abbrev pub refusal_text : ℕ → List ℕ
refusal_text n =
    cond (eqb n policy_bad) (ascii "refused 2: the policy has the wrong length or is not well formed\n")
    (ascii "refused 17: the journey is empty, longer than 16 URLs, or names a URL without a row\n")

-- a line for each connection, in rising order
abbrev pub none_text : List ℕ → List ℕ → List ℕ
none_text p urls = ascii "none\n" ++ pieces_below connections (failure_text p urls)

abbrev pub found_text : List ℕ → List ℕ → Found → List ℕ
found_text p urls r =
    cond (eqb r.number accepted)
    (cond (eqb r.connection connections) (none_text p urls) (decimal r.connection ++ (0x0a ∷ [])))
    (refusal_text r.number)

-- of a policy and a journey
unfoldable pub report : List ℕ → List ℕ → List ℕ
report p urls = found_text p urls (found p urls)

-- of an input, and the URLs that the arguments name
abbrev pub printed : List ℕ → List ℕ → List ℕ
printed input urls = report (policy_in input) urls

-- ---- for the contracts of the functions within the crate

-- no connection carries the journey
abbrev pub NoneCarries : List ℕ → List ℕ → Type 0
NoneCarries p urls = (c : ℕ) → c < connections → carries p urls c ≡ false

-- room for the line of a connection: seven numbers of at most ten digits, and the words
abbrev pub line_room : ℕ
line_room = 160

abbrev pub report_room : ℕ
report_room = 5 + line_room * connections

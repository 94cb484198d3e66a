-- Worked cases of journeys: under document 01's small post, and under a policy with canteen and bank.
use Rattle.std.specs.Prelude.{ℕ, Bool, true, ◌&&◌, List, [], ◌∷◌, ◌++◌, T, eqb, replicate, take}
use Rattle.machine.specs.Machine.{Verdict}
use Rattle.machine.specs.Cases.{with, url, connection, always_https, partner, policy_with, policy_p}
use Rattle.journeys.specs.declared.Found.{Found}
use Rattle.journeys.specs.declared.Stop.{Stop}
use Rattle.journeys.specs.Journey.{judged, found, fails_at, refused_stop, stopped}

-- ---- how a case is told

-- a journey, and the number and the connection that are answered
pub record Case : Type 0 where
  pub urls : List ℕ
  pub number : ℕ
  pub connection : ℕ

abbrev pub on : ℕ → List ℕ → Case
on c urls = record { urls = urls; number = 0; connection = c }

abbrev pub none : List ℕ → Case
none urls = on 32 urls

abbrev pub refused_by : ℕ → List ℕ → Case
refused_by n urls = record { urls = urls; number = n; connection = 0 }

-- a connection, and the place, number and missing endpoint where it fails on a journey
pub record Failure : Type 0 where
  pub connection : ℕ
  pub place : ℕ
  pub number : ℕ
  pub missing : ℕ

abbrev pub fails : ℕ → ℕ → ℕ → ℕ → Failure
fails c i number missing = record { connection = c; place = i; number = number; missing = missing }

-- a connection, and what is told of where it stops on a journey
pub record Stopping : Type 0 where
  pub connection : ℕ
  pub stop : Stop

-- at a place, by a number, for a missing endpoint, on a URL; by the URL's set, or by the connection's
abbrev pub by_url : ℕ → ℕ → ℕ → ℕ → ℕ → Stopping
by_url c i number missing u = record {
  connection = c;
  stop = record { number = 0; place = i; refusal = number; missing = missing; url = u; of_url = 1 };
}

abbrev pub by_connection : ℕ → ℕ → ℕ → ℕ → ℕ → Stopping
by_connection c i number missing u = record {
  connection = c;
  stop = record { number = 0; place = i; refusal = number; missing = missing; url = u; of_url = 0 };
}

-- nowhere on a journey of so many URLs
abbrev pub nowhere : ℕ → ℕ → Stopping
nowhere c n = record { connection = c; stop = record { number = 0; place = n; refusal = 0; missing = 32; url = 0; of_url = 0 } }

abbrev pub unasked : ℕ → ℕ → Stopping
unasked c number = record { connection = c; stop = refused_stop number }

unfoldable pub answers : Found → Case → Bool
answers got c = eqb got.number c.number && eqb got.connection c.connection

unfoldable pub all_found : List ℕ → List Case → Bool
all_found p [] = true
all_found p (c ∷ cs) = answers (found p c.urls) c && all_found p cs

unfoldable pub judged_so : Verdict → Failure → Bool
judged_so v f = eqb v.number f.number && eqb v.missing f.missing

unfoldable pub all_fail : List ℕ → List ℕ → List Failure → Bool
all_fail p urls [] = true
all_fail p urls (f ∷ fs) =
    eqb (fails_at p urls f.connection) f.place
    && (judged_so (judged p urls f.connection f.place) f
    && all_fail p urls fs)

unfoldable pub same_stop : Stop → Stop → Bool
same_stop a b =
    eqb a.number b.number
    && (eqb a.place b.place
    && (eqb a.refusal b.refusal
    && (eqb a.missing b.missing && (eqb a.url b.url && eqb a.of_url b.of_url))))

unfoldable pub all_stop : List ℕ → List ℕ → List Stopping → Bool
all_stop p urls [] = true
all_stop p urls (s ∷ ss) = same_stop (stopped p urls s.connection) s.stop && all_stop p urls ss

-- ---- the small post

abbrev pub cases_p : List Case
cases_p =
    on 0 (0 ∷ [])
    ∷ on 0 (0 ∷ 0 ∷ [])
    ∷ on 1 (1 ∷ [])
    ∷ on 1 (1 ∷ 1 ∷ [])
    ∷ on 3 (3 ∷ [])
    -- connection 0 takes URL 0 and fails on URL 3
    ∷ on 3 (0 ∷ 3 ∷ [])
    -- URL 0 can be loaded on connection 3, and not led to on it
    ∷ none (3 ∷ 0 ∷ [])
    ∷ none (0 ∷ 1 ∷ [])
    -- document 01's case i
    ∷ none (1 ∷ 2 ∷ [])
    ∷ on 1 (2 ∷ [])
    -- no URL; an empty row, alone, first and in the middle; no row
    ∷ refused_by 17 []
    ∷ refused_by 17 (4 ∷ [])
    ∷ refused_by 17 (4 ∷ 0 ∷ [])
    ∷ refused_by 17 (0 ∷ 4 ∷ 0 ∷ [])
    ∷ refused_by 17 (64 ∷ [])
    ∷ refused_by 17 (0 ∷ 255 ∷ [])
    ∷ []

-- ---- canteen and bank

-- The canteen is host 0, which is always https, the bank host 1, the caterer host 3. Bit h is http at host h, bit 16 + h https there.
abbrev pub policy_c : List ℕ
policy_c = policy_with (
    -- the canteen's top-up page, the bank's payment page, the canteen's receipt
    url 0 16 0x00030003 0x00030000
    ∷ url 1 17 0x00030003 0x00030000
    ∷ url 2 16 0x00030003 0x00030000
    -- the top-up page by http, which everybody may shape
    ∷ url 3 0 0xffffffff 0xffffffff
    -- the bank's front page, which the bank alone may shape: an entry, and the same page as none
    ∷ url 4 49 0x00030003 0x00020000
    ∷ url 5 17 0x00030003 0x00020000
    -- a page of which the bank may not learn; the canteen by http, of which it may not, while the partner is the top-up page; and by http, of which
    -- it may, while the partner is the page of which it may not
    ∷ url 6 16 0x00010001 0x00010000
    ∷ url 8 0 0x00000001 0xffffffff
    ∷ url 9 0 0xffffffff 0xffffffff
    -- the caterer
    ∷ url 7 19 0x00080008 0x00080000
    ∷ url 63 19 0x00080008 0x00080000
    ∷ always_https 0x1
    ∷ partner 3 0
    ∷ partner 8 0
    ∷ partner 9 6
    -- for the canteen alone; with the bank as reader; with the bank as writer too, and one more such
    ∷ connection 0 0x00010001 0x00010001 0x00010000
    ∷ connection 1 0x00030003 0x00030003 0x00010000
    ∷ connection 2 0x00030003 0x00030003 0x00030000
    ∷ connection 3 0x00030003 0x00030003 0x00030000
    -- for the caterer: without readers, and with
    ∷ connection 30 0 0 0x00080000
    ∷ connection 31 0x00080008 0x00080008 0x00080000
    ∷ [])

abbrev pub payment : List ℕ
payment = 0 ∷ 1 ∷ 2 ∷ []

abbrev pub cases_c : List Case
cases_c =
    -- canteen, bank, canteen: connections 0 and 1 take the first URL and fail on the second
    on 2 payment
    ∷ on 0 (0 ∷ [])
    ∷ on 0 (0 ∷ 2 ∷ [])
    -- connection 0 fails on the last URL only
    ∷ on 2 (0 ∷ 2 ∷ 1 ∷ [])
    -- sixteen, and one more; sixteen of which connection 0 fails on the last only
    ∷ on 2 (payment ++ payment ++ payment ++ payment ++ payment ++ (0 ∷ []))
    ∷ on 2 (replicate 15 0 ++ (1 ∷ []))
    ∷ on 0 (replicate 16 0)
    ∷ refused_by 17 (replicate 17 0)
    ∷ refused_by 17 (payment ++ payment ++ payment ++ payment ++ payment ++ (0 ∷ 1 ∷ []))
    -- an http row of a listed host, first, in the middle and last: its partner is asked for, which the connection fits
    ∷ on 2 (3 ∷ 1 ∷ 3 ∷ [])
    ∷ on 2 (1 ∷ 3 ∷ 1 ∷ [])
    ∷ on 0 (3 ∷ [])
    -- the row itself has few readers, and its partner has enough; the row has enough, and its partner few
    ∷ on 2 (1 ∷ 8 ∷ 1 ∷ [])
    ∷ none (1 ∷ 9 ∷ 1 ∷ [])
    ∷ on 0 (0 ∷ 9 ∷ [])
    ∷ none (9 ∷ 1 ∷ [])
    -- an entry in the middle, and the same page as none: the canteen may lead to the first alone. Either can be loaded
    ∷ on 2 (0 ∷ 4 ∷ 0 ∷ [])
    ∷ none (0 ∷ 5 ∷ 0 ∷ [])
    ∷ on 2 (4 ∷ 0 ∷ [])
    ∷ on 2 (5 ∷ 0 ∷ [])
    ∷ none (5 ∷ 5 ∷ [])
    -- connection 30 has no readers: a page can be loaded on it, and nothing led to. Connection 31 alone, also with the last row
    ∷ on 30 (7 ∷ [])
    ∷ on 31 (7 ∷ 7 ∷ [])
    ∷ on 31 (7 ∷ 63 ∷ 7 ∷ [])
    ∷ on 31 (replicate 16 63)
    -- each URL has a connection, and the journey none
    ∷ none (0 ∷ 7 ∷ [])
    ∷ none (7 ∷ 0 ∷ [])
    ∷ none (replicate 15 7 ++ (0 ∷ []))
    ∷ []

-- The same with more pages and connections.
abbrev pub policy_d : List ℕ
policy_d = with (
    -- pages of the canteen: one to which nobody may lead; an entry of which the bank may not learn
    url 10 16 0x00030003 0
    ∷ url 11 48 0x00010001 0
    -- by http: no entry, whose partner is one; an entry, whose partner is none
    ∷ url 12 0 0xffffffff 0xffffffff
    ∷ url 13 32 0xffffffff 0xffffffff
    ∷ partner 12 11
    ∷ partner 13 10
    -- an entry of the caterer; a page of which nobody may learn by https
    ∷ url 14 51 0x00080008 0
    ∷ url 15 16 0x00000003 0x00030000
    -- fewer script readers than readers; two writers of which the canteen is none; seen at the bank alone; everybody as writer
    ∷ connection 0 0x00010001 0x00010000 0x00010000
    ∷ connection 27 0x00030003 0x00030003 0x00060000
    ∷ connection 28 0x00000002 0 0x00030000
    ∷ connection 29 0x00030003 0x00030003 0xffffffff
    ∷ [])
    policy_c

abbrev pub cases_d : List Case
cases_d =
    -- what a redirect alone is asked for fails at the third URL, and at the last of sixteen
    none (0 ∷ 0 ∷ 5 ∷ [])
    ∷ none (replicate 15 0 ++ (5 ∷ []))
    -- the partner is the entry, or the row alone is
    ∷ on 0 (0 ∷ 12 ∷ [])
    ∷ none (0 ∷ 13 ∷ [])
    ∷ on 0 (13 ∷ [])
    -- an entry is excused from nothing else, led to and loaded; and to leave one excuses nothing
    ∷ on 31 (7 ∷ 14 ∷ [])
    ∷ none (1 ∷ 11 ∷ [])
    ∷ none (11 ∷ 1 ∷ [])
    ∷ none (4 ∷ 5 ∷ [])
    -- nor is the URL's own message endpoint excused, among writers or among readers
    ∷ none (0 ∷ 10 ∷ [])
    ∷ on 28 (15 ∷ [])
    ∷ on 28 (15 ∷ 1 ∷ [])
    ∷ refused_by 17 (replicate 257 0)
    ∷ []

-- a policy without its last word, with one word more, without words; with a row that lacks its event endpoint, with script readers of connection 31
-- that are no readers, with a listed host that there is not, with a partner of an empty row
abbrev pub cases_bad : List ℕ → List Case → Bool
cases_bad p cs =
    all_found (take 608 p) cs
    && (all_found (p ++ (0 ∷ [])) cs
    && (all_found [] cs
    && (all_found (policy_with (url 0 0 0 0 ∷ [])) cs
    && (all_found (policy_with (connection 31 0 1 0 ∷ [])) cs
    && (all_found (policy_with (always_https 0x10000 ∷ [])) cs
    && all_found (policy_with (partner 63 0 ∷ [])) cs)))))

-- whatever the journey is: 2 comes before 17
abbrev pub any_journeys : List Case
any_journeys = refused_by 2 payment ∷ refused_by 2 [] ∷ refused_by 2 (64 ∷ []) ∷ refused_by 2 (replicate 17 0) ∷ []

-- ---- where and why each connection fails

-- canteen, bank, canteen; places are counted from 0
abbrev pub failures_c : Bool
failures_c =
    all_fail policy_c payment (fails 0 1 8 1 ∷ fails 1 1 9 17 ∷ fails 4 0 9 16 ∷ fails 30 0 9 16 ∷ fails 31 0 8 3 ∷ [])
    -- a further URL whose event endpoint is missing, though the page could be loaded; the first that the caterer's connection has and the URL lacks
    && (all_fail policy_c (7 ∷ 7 ∷ []) (fails 30 1 8 3 ∷ fails 0 0 8 0 ∷ [])
    -- the writers of the connection may not lead there; the same page as an entry
    && (all_fail policy_c (0 ∷ 5 ∷ 0 ∷ []) (fails 2 1 9 16 ∷ fails 1 1 9 17 ∷ [])
    -- judged by the partner: its readers lack the bank
    && all_fail policy_c (9 ∷ 1 ∷ []) (fails 2 0 8 1 ∷ fails 1 0 8 1 ∷ fails 0 1 8 1 ∷ [])))

-- of two conditions that fail the first tells, whichever endpoint is lower; of several endpoints the lowest; at a place behind the second
abbrev pub failures_d : Bool
failures_d =
    all_fail policy_d (0 ∷ 7 ∷ []) (fails 2 1 8 3 ∷ [])
    && (all_fail policy_d (7 ∷ 0 ∷ []) (fails 31 1 8 0 ∷ [])
    && (all_fail policy_d (1 ∷ 0 ∷ []) (fails 27 1 9 16 ∷ [])
    && (all_fail policy_d (0 ∷ 10 ∷ []) (fails 2 1 9 16 ∷ fails 4 0 9 16 ∷ [])
    && all_fail policy_d (0 ∷ 2 ∷ 1 ∷ []) (fails 0 2 8 1 ∷ []))))

-- ---- where each connection stops

abbrev pub stops : Bool
stops =
    -- Canteen, bank, canteen: the bank's event endpoint is no reader of connection 0, its message endpoint no writer of 1; the caterer reads on 31
    -- and may not learn of the canteen; 2 and 3 carry it.
    all_stop policy_c payment (by_connection 0 1 8 1 1 ∷ by_connection 1 1 9 17 1 ∷ nowhere 2 3 ∷ nowhere 3 3 ∷ by_connection 4 0 9 16 0 ∷ by_url 31 0 8 3 0 ∷ [])
    -- the same number and endpoint: the canteen may not lead to URL 10, and is no writer of connection 4
    && (all_stop policy_d (0 ∷ 10 ∷ []) (by_url 2 1 9 16 10 ∷ by_connection 4 0 9 16 0 ∷ [])
    -- at the first of two places, and at the last of sixteen
    && (all_stop policy_c (0 ∷ 5 ∷ 7 ∷ []) (by_url 2 1 9 16 5 ∷ [])
    && (all_stop policy_c (replicate 15 0 ++ (1 ∷ [])) (by_connection 0 15 8 1 1 ∷ nowhere 2 16 ∷ [])
    -- the partner is asked for and named, at the first place and at a further one; and where it is taken
    && (all_stop policy_c (9 ∷ 1 ∷ []) (by_url 2 0 8 1 6 ∷ by_connection 0 1 8 1 1 ∷ [])
    && (all_stop policy_c (1 ∷ 9 ∷ 1 ∷ []) (by_url 2 1 8 1 6 ∷ [])
    && (all_stop policy_c (3 ∷ 1 ∷ 3 ∷ []) (nowhere 2 3 ∷ by_connection 0 1 8 1 1 ∷ [])
    -- no connection; no journey, which comes first; no policy, which comes before both
    && (all_stop policy_c payment (unasked 32 6 ∷ unasked 33 6 ∷ unasked 255 6 ∷ unasked 4294967295 6 ∷ [])
    && (all_stop policy_c [] (unasked 0 17 ∷ unasked 32 17 ∷ [])
    && (all_stop policy_c (0 ∷ 64 ∷ []) (unasked 2 17 ∷ unasked 32 17 ∷ [])
    && (all_stop policy_c (replicate 17 0) (unasked 0 17 ∷ [])
    && (all_stop (take 608 policy_c) payment (unasked 2 2 ∷ unasked 32 2 ∷ [])
    && all_stop (policy_with (url 0 0 0 0 ∷ [])) (64 ∷ []) (unasked 0 2 ∷ unasked 32 2 ∷ []))))))))))))

abbrev pub JourneyCases : Type 0
JourneyCases =
    T (
    all_found policy_p cases_p
    && (all_found policy_c cases_c && (all_found policy_d cases_d && (cases_bad policy_c any_journeys && (failures_c && (failures_d && stops)))))
    )

-- Worked cases of the reach table: document 01's small post, a policy with partners, the narrowest and the widest; and the bounds on what a change
-- moves are reached.
use Rattle.std.specs.Prelude.{ℕ, zero, suc, ◌+◌, Bool, not, ◌&&◌, List, [], ◌∷◌, ◌++◌, ◌≡◌, T, eqb, replicate, take}
use Rattle.prelude.specs.Lists.{same_numbers}
use Rattle.machine.specs.Policy.{url_rows, connections, well_formed}
use Rattle.machine.specs.Cases.{Words, words, with, url, cookie_label, connection, always_https, partner, policy_with, policy_p}
use Rattle.reach_table.specs.Reach.{tabled, in_table}
use Rattle.reach_table.specs.Guarantees.{SameButForRow, SameButForConnection}

-- ---- how a case is told

-- the counts of the connections that are named; of the others they are 0
abbrev pub counts : List Words → List ℕ
counts cs = with cs (replicate connections 0)

-- what is answered: number, counts, total
unfoldable pub answers : List ℕ → ℕ → List ℕ → ℕ → Bool
answers p number urls all = eqb (tabled p).number number && (same_numbers (tabled p).urls urls && eqb (tabled p).all all)

abbrev pub is_table : List ℕ → List ℕ → ℕ → Bool
is_table p urls all = answers p 0 urls all

abbrev pub is_refused : List ℕ → Bool
is_refused p = answers p 2 (counts []) 0

-- ---- the tables

-- Host 0 is always https. Bit h of a set is http at host h, bit 16 + h https there.
abbrev pub policy_h : List ℕ
policy_h = policy_with (
    -- by https; by http, seen by all, and by http, seen at the host alone, whose partner is the first
    url 0 16 0x00010001 0
    ∷ url 1 0 0xffffffff 0
    ∷ url 2 0 0x00000001 0
    ∷ partner 1 0
    ∷ partner 2 0
    ∷ always_https 0x1
    -- an entry by https; the last row, by https at host 1
    ∷ url 3 48 0x00010001 0
    ∷ url 63 17 0x00020002 0
    -- read by all; by both at host 0, with https as writer; by none; by none, with host 1 as writer; by http at host 0, with http as writer
    ∷ connection 0 0xffffffff 0 0x00010001
    ∷ connection 1 0x00010001 0x00010001 0x00010000
    ∷ connection 2 0 0 0x00010001
    ∷ connection 3 0 0 0x00020000
    ∷ connection 31 0x00000001 0 0x00000001
    ∷ [])

-- each of the numbers below a bound has such words
unfoldable pub each_below : ℕ → (ℕ → Words) → List Words
each_below zero f = []
each_below (suc n) f = f n ∷ each_below n f

-- a page by https at host 0, of which the host may learn, and a connection that fits it
abbrev pub page : ℕ → Words
page u = url u 16 0x00010001 0

abbrev pub wide : ℕ → Words
wide n = connection n 0x00010001 0x00010001 0x00010000

abbrev pub only_pages : List ℕ
only_pages = policy_with (each_below url_rows page)

abbrev pub only_connections : List ℕ
only_connections = policy_with (each_below connections wide)

abbrev pub everything : List ℕ
everything = with (each_below connections wide) only_pages

abbrev pub tables : Bool
tables =
    -- connection 0 reaches URL 0; 1 reaches 1 and 2; 2 reaches 0; 3 reaches 0 and 3
    is_table policy_p (counts (words 0 (1 ∷ 2 ∷ 1 ∷ 2 ∷ []) ∷ [])) 6
    -- Connection 0 reaches URL 1, and not its partner; 1 reaches the partner of URLs 1 and 2, and the entry, and neither of the two; 2 reaches all of
    -- host 0, 3 the last row, 31 what is by http.
    && (is_table policy_h (counts (words 0 (1 ∷ 2 ∷ 4 ∷ 1 ∷ []) ∷ words 31 (2 ∷ []) ∷ [])) 10
    && (is_table everything (replicate 32 64) 2048
    && (is_table only_pages (counts []) 0
    && (is_table only_connections (counts []) 0
    && is_table (policy_with []) (counts []) 0))))

-- without its last word, also where a 0 in its place would do; with one word more, without words; a row that lacks its event endpoint, an address that
-- there is not, an empty row with readers; script readers of connection 31 that are no readers; a listed host that there is not; a partner of an empty
-- row; and of an http row of a listed host none, one at another host, one by http
abbrev pub refusals : Bool
refusals =
    is_refused (take 608 policy_p)
    && (is_refused (take 608 (with (url 63 0 0x00010001 0 ∷ partner 63 0 ∷ []) policy_h))
    && (is_refused (policy_p ++ (0 ∷ []))
    && (is_refused []
    && (is_refused (with (url 0 0 0 0 ∷ []) policy_p)
    && (is_refused (with (url 63 64 1 0 ∷ []) policy_p)
    && (is_refused (with (url 63 255 1 0 ∷ []) policy_p)
    && (is_refused (with (connection 31 0 1 0 ∷ []) policy_p)
    && (is_refused (with (always_https 0x10000 ∷ []) policy_p)
    && (is_refused (with (partner 63 0 ∷ []) policy_p)
    && (is_refused (with (partner 2 255 ∷ []) policy_h)
    && (is_refused (with (partner 2 63 ∷ []) policy_h)
    && is_refused (with (partner 2 1 ∷ []) policy_h))))))))))))

-- cells: set and not; an empty row, no row, no connection, though the words that follow the connections' would fit; under a policy that is refused
abbrev pub cells : Bool
cells =
    in_table policy_h 0 1
    && (not (in_table policy_h 0 0)
    && (in_table policy_h 3 63
    && (in_table policy_h 1 3
    && (not (in_table policy_h 2 4)
    && (not (in_table policy_h 2 64)
    && (not (in_table policy_p 32 1)
    && not (in_table (take 608 policy_h) 0 1)))))))

abbrev pub ReachCases : Type 0
ReachCases = T (tables && (refusals && cells))

-- ---- the bounds are reached

-- In either pair the words that the table does not look at differ too: cookie labels, script readers, a host that is always https, and a partner.

-- connections that reach neither of two rows, by http and by https at host 1; then with a row more, which all of them reach
abbrev pub fewer : List ℕ
fewer = with (url 1 1 0x2 0 ∷ url 2 17 0x2 0 ∷ []) only_connections

abbrev pub one_page : List ℕ
one_page = with (page 5 ∷ cookie_label 0 0 0x1 0x1 ∷ connection 3 0x00010001 0 0x00010000 ∷ always_https 0x2 ∷ partner 1 2 ∷ []) fewer

-- pages of host 0, the last by http, and a connection that reaches none of them; then with a connection that reaches all
abbrev pub unreached : List ℕ
unreached = with (url 63 0 0x00010001 0 ∷ connection 8 0x4 0 0 ∷ []) only_pages

abbrev pub one_connection : List ℕ
one_connection =
    with (connection 7 0x00010001 0x00010001 0x00010001 ∷ cookie_label 0 0 0x1 0x1 ∷ connection 8 0x4 0x4 0 ∷ always_https 0x1 ∷ partner 63 0 ∷ [])
    unreached

abbrev pub BoundsReached : Type 0
BoundsReached =
    (T (well_formed fewer) × T (well_formed one_page) × SameButForRow fewer one_page 5
    × ((tabled one_page).all ≡ (tabled fewer).all + 32))
    × (T (well_formed unreached) × T (well_formed one_connection) × SameButForConnection unreached one_connection 7
    × ((tabled one_connection).all ≡ (tabled unreached).all + 64))

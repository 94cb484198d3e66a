-- The policy (document 01, "The policy"): its 609 words by name, when it is well formed, and the questions that are asked of it.
-- A connection is document 01's lane; readers and writers are its readers and authors.
use Rattle.std.specs.Prelude.{ℕ, ◌+◌, ◌-◌, ◌*◌, ◌^◌, Bool, not, ◌&&◌, ◌||◌, List, ltb, leb, eqb, length, get_or}
use Rattle.prelude.specs.Choice.{branch}
use Rattle.labels.specs.Membership.{endpoints, all_below, none_missing, is_none}
use Rattle.labels.specs.Sets.{holds, within, missing, unheld}
use Rattle.labels.specs.Addresses.{hosts, host_of, message_endpoint, event_endpoint}

-- ---- the words

abbrev pub url_rows : ℕ
url_rows = 64

-- the keys of a host's cookies are 0 to 7
abbrev pub host_keys : ℕ
host_keys = 8

abbrev pub connections : ℕ
connections = 32

abbrev pub cookie_labels_at : ℕ
cookie_labels_at = 3 * url_rows

abbrev pub connection_labels_at : ℕ
connection_labels_at = cookie_labels_at + 2 * (hosts * host_keys)

abbrev pub https_hosts_at : ℕ
https_hosts_at = connection_labels_at + 3 * connections

abbrev pub partners_at : ℕ
partners_at = https_hosts_at + 1

abbrev pub policy_words : ℕ
policy_words = partners_at + url_rows

-- words 0 to 191: URL u has the words address, readers, writers
abbrev pub address_word : List ℕ → ℕ → ℕ
address_word p u = get_or p (3 * u) 0

-- an entry, a URL to which anyone may lead (002's trusted entry points), has 32 more than its address there
unfoldable pub is_entry : List ℕ → ℕ → Bool
is_entry p u = leb endpoints (address_word p u) && ltb (address_word p u) (endpoints + endpoints)

-- the address; any word from 64 on stays what it is, and is none
unfoldable pub url_address : List ℕ → ℕ → ℕ
url_address p u = branch (is_entry p u) (address_word p u - endpoints) (address_word p u)

abbrev pub url_readers : List ℕ → ℕ → ℕ
url_readers p u = get_or p (3 * u + 1) 0

abbrev pub url_writers : List ℕ → ℕ → ℕ
url_writers p u = get_or p (3 * u + 2) 0

-- the cookie with key k of host h
abbrev pub cookie_index : ℕ → ℕ → ℕ
cookie_index h k = host_keys * h + k

-- words 192 to 447: a cookie has the words readers, writers
abbrev pub cookie_readers : List ℕ → ℕ → ℕ
cookie_readers p c = get_or p (cookie_labels_at + 2 * c) 0

abbrev pub cookie_writers : List ℕ → ℕ → ℕ
cookie_writers p c = get_or p (cookie_labels_at + 2 * c + 1) 0

-- words 448 to 543: connection n has the words readers, script readers, writers
abbrev pub connection_readers : List ℕ → ℕ → ℕ
connection_readers p n = get_or p (connection_labels_at + 3 * n) 0

abbrev pub script_readers : List ℕ → ℕ → ℕ
script_readers p n = get_or p (connection_labels_at + 3 * n + 1) 0

abbrev pub connection_writers : List ℕ → ℕ → ℕ
connection_writers p n = get_or p (connection_labels_at + 3 * n + 2) 0

-- word 544: the hosts that are always https, bit h for host h; so it is the set of their http endpoints
abbrev pub https_hosts : List ℕ → ℕ
https_hosts p = get_or p https_hosts_at 0

-- words 545 to 608: the partner of URL u, or 255 where it has none
abbrev pub url_partner : List ℕ → ℕ → ℕ
url_partner p u = get_or p (partners_at + u) 0

abbrev pub no_partner : ℕ
no_partner = 255

-- a URL's host and endpoints are those of its address
abbrev pub url_host : List ℕ → ℕ → ℕ
url_host p u = host_of (url_address p u)

abbrev pub url_message : List ℕ → ℕ → ℕ
url_message p u = message_endpoint (url_address p u)

abbrev pub url_event : List ℕ → ℕ → ℕ
url_event p u = event_endpoint (url_address p u)

-- ---- well formed

-- an empty row is 255, 0, 0
abbrev pub no_address : ℕ
no_address = 255

unfoldable pub empty_row : List ℕ → ℕ → Bool
empty_row p u = eqb (address_word p u) no_address && (eqb (url_readers p u) 0 && eqb (url_writers p u) 0)

-- a number that names a URL: it has a row that is not empty
unfoldable pub is_url : List ℕ → ℕ → Bool
is_url p u = ltb u url_rows && not (empty_row p u)

unfoldable pub row_well_formed : List ℕ → ℕ → Bool
row_well_formed p u = empty_row p u || (ltb (url_address p u) endpoints && holds (url_readers p u) (url_event p u))

unfoldable pub connection_well_formed : List ℕ → ℕ → Bool
connection_well_formed p n = within (script_readers p n) (connection_readers p n)

-- by http, at a host that is always https
unfoldable pub is_replaced : List ℕ → ℕ → Bool
is_replaced p u = ltb (url_address p u) hosts && holds (https_hosts p) (url_host p u)

-- a URL by https at the host of u, which is by http
unfoldable pub is_partner : List ℕ → ℕ → ℕ → Bool
is_partner p u v = is_url p v && eqb (url_address p v) (hosts + url_host p u)

-- such a URL names a partner, and every other row has none, an empty one too
unfoldable pub partner_well_formed : List ℕ → ℕ → Bool
partner_well_formed p u = branch (is_replaced p u) (is_partner p u (url_partner p u)) (eqb (url_partner p u) no_partner)

-- the word of hosts has no bit but theirs
unfoldable pub well_formed : List ℕ → Bool
well_formed p =
    eqb (length p) policy_words
    && (all_below url_rows (row_well_formed p)
    && (all_below connections (connection_well_formed p)
    && (ltb (https_hosts p) (2 ^ hosts)
    && all_below url_rows (partner_well_formed p))))

-- ---- the questions

-- What is asked for in place of a number: the partner of a URL that has one (RFC 6797, 8.3). A number without a row stays, and names nothing.
-- Loads, redirects and the steps that send ask for it before anything else is asked; what arrives names its URL as the connection holds it.
unfoldable pub upgraded : List ℕ → ℕ → ℕ
upgraded p u = branch (ltb u url_rows && not (eqb (url_partner p u) no_partner)) (url_partner p u) u

abbrev pub is_connection : ℕ → Bool
is_connection n = ltb n connections

-- Connection n fits URL u (002, T-LOAD) where none of its readers is missing among the URL's, nor the URL's message endpoint among its writers.
unfoldable pub fit_missing_reader : List ℕ → ℕ → ℕ → ℕ
fit_missing_reader p n u = missing (connection_readers p n) (url_readers p u)

unfoldable pub fit_missing_writer : List ℕ → ℕ → ℕ → ℕ
fit_missing_writer p n u = unheld (connection_writers p n) (url_message p u)

unfoldable pub fits : List ℕ → ℕ → ℕ → Bool
fits p n u = is_none (fit_missing_reader p n u) && is_none (fit_missing_writer p n u)

-- a cookie that a response or redirect on connection n delivers is stored
unfoldable pub may_store : List ℕ → ℕ → ℕ → Bool
may_store p n c = within (cookie_readers p c) (connection_readers p n) && within (connection_writers p n) (cookie_writers p c)

-- a request to u may carry the cookies of u's host whose readers hold u's message endpoint
unfoldable pub may_carry : List ℕ → ℕ → ℕ → Bool
may_carry p u k = holds (cookie_readers p (cookie_index (url_host p u) k)) (url_message p u)

-- The script of a response on connection n has that connection's script readers and writers: document 01's S and J.

-- step 3: it reads a cookie
unfoldable pub may_read : List ℕ → ℕ → ℕ → Bool
may_read p n c = within (script_readers p n) (cookie_readers p c) && within (cookie_writers p c) (connection_writers p n)

-- step 4: it writes a cookie
unfoldable pub may_write : List ℕ → ℕ → ℕ → Bool
may_write p n c = within (cookie_readers p c) (script_readers p n) && within (connection_writers p n) (cookie_writers p c)

-- Writers may lead to URL u, by a redirect or by a script's request, where they are among its own, or it is an entry. Told is the lowest of them that
-- is missing among its own, and none for an entry.
unfoldable pub reach_missing_writer : List ℕ → ℕ → ℕ → ℕ
reach_missing_writer p writers u = branch (is_entry p u) none_missing (missing writers (url_writers p u))

-- steps 5 and 7: it requests URL u on connection m
unfoldable pub may_send : List ℕ → ℕ → ℕ → ℕ → Bool
may_send p n u m =
    holds (script_readers p n) (url_event p u)
    && (within (connection_readers p m) (script_readers p n)
    && (fits p m u
    && (within (connection_writers p n) (connection_writers p m)
    && is_none (reach_missing_writer p (connection_writers p n) u))))

-- What 8 and 9 ask is told by the endpoint that is missing, and holds where none is. Of a load of u on connection n they ask whether n fits u; of a
-- redirect of connection n to t, besides, for t's event endpoint, and whether n's writers may lead to t. Of two conditions the first that fails
-- tells.
unfoldable pub first_missing : ℕ → ℕ → ℕ
first_missing m next = branch (is_none m) next m

unfoldable pub redirect_missing_reader : List ℕ → ℕ → ℕ → ℕ
redirect_missing_reader p n t = first_missing (unheld (connection_readers p n) (url_event p t)) (fit_missing_reader p n t)

unfoldable pub redirect_missing_writer : List ℕ → ℕ → ℕ → ℕ
redirect_missing_writer p n t = first_missing (fit_missing_writer p n t) (reach_missing_writer p (connection_writers p n) t)

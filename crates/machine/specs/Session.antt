-- The session (document 01, "The state" and "What each accepted record does"): the 176 words by name, when they are sound, and what
-- is done to them: cookies stored, connections opened and freed, requests made.
use Rattle.std.specs.Prelude.{ℕ, zero, suc, ◌+◌, ◌*◌, ◌/◌, ◌%◌, ◌^◌, Bool, ◌&&◌, ◌||◌, List, [], ◌∷◌, map, ltb, eqb, length, get_or, set, replicate}
use Rattle.prelude.specs.Choice.{branch}
use Rattle.labels.specs.Membership.{all_below}
use Rattle.labels.specs.Addresses.{hosts}
use Rattle.records.specs.declared.Record.{Record}
use Rattle.records.specs.Bytes.{bit}
use Rattle.records.specs.Layout.{key_numbers, document_request, script_request, picture_request, with_cookies}
use Rattle.machine.specs.Policy.{host_keys, connections, cookie_index, url_host, is_url, fits, may_store, may_carry}

-- ---- the words

abbrev pub presence_at : ℕ
presence_at = hosts * host_keys

abbrev pub connections_at : ℕ
connections_at = presence_at + hosts

abbrev pub state_words : ℕ
state_words = connections_at + connections

-- the empty state: all zeros
abbrev pub empty_state : List ℕ
empty_state = replicate state_words 0

-- words 0 to 127 are the cookies' values
abbrev pub cookie_value : List ℕ → ℕ → ℕ
cookie_value s c = get_or s c 0

-- words 128 to 143 give, for each host, the keys that are present
abbrev pub presence : List ℕ → ℕ → ℕ
presence s h = get_or s (presence_at + h) 0

-- words 144 to 175 are the connections
abbrev pub connection_word : List ℕ → ℕ → ℕ
connection_word s n = get_or s (connections_at + n) 0

-- key k is in a map of keys
unfoldable pub has : ℕ → ℕ → Bool
has keys k = eqb (bit keys k) 1

abbrev pub present : List ℕ → ℕ → ℕ → Bool
present s h k = has (presence s h) k

-- the map of the keys that pass a test, bit k for key k
unfoldable pub map_below : ℕ → (ℕ → Bool) → ℕ
map_below zero test = 0
map_below (suc n) test = branch (test 0) 1 0 + 2 * map_below n (λ k. test (suc k))

abbrev pub key_map : (ℕ → Bool) → ℕ
key_map test = map_below host_keys test

-- ---- the word of a connection: kind, origin, handler, URL

-- the word of a free connection; no other word of kind 0 is sound
abbrev pub free : ℕ
free = 0

unfoldable pub packed : ℕ → ℕ → ℕ → ℕ → ℕ
packed kind origin handler url = kind * 16777216 + origin * 65536 + handler * 256 + url

unfoldable pub kind_of : ℕ → ℕ
kind_of w = w / 16777216

unfoldable pub origin_of : ℕ → ℕ
origin_of w = w / 65536 % 256

unfoldable pub handler_of : ℕ → ℕ
handler_of w = w / 256 % 256

unfoldable pub url_of : ℕ → ℕ
url_of w = w % 256

-- ---- the kinds of an open connection: the number of each, its origin and handler, and its request

abbrev pub document_kind : ℕ
document_kind = 1

-- a script's request
abbrev pub script_kind : ℕ
script_kind = 2

abbrev pub picture_kind : ℕ
picture_kind = 3

-- scripts, and so handlers, are 0 to 15
abbrev pub script_count : ℕ
script_count = 16

-- a script's request has the page that sent it, and the script that handles its response
abbrev pub script_fields : List ℕ → ℕ → ℕ → ℕ → Bool
script_fields p kind origin handler = eqb kind script_kind && (is_url p origin && ltb handler script_count)

-- a document and a picture have neither
abbrev pub bare_fields : ℕ → ℕ → ℕ → Bool
bare_fields kind origin handler = (eqb kind document_kind || eqb kind picture_kind) && (eqb origin 0 && eqb handler 0)

unfoldable pub kind_sound : List ℕ → ℕ → ℕ → ℕ → Bool
kind_sound p kind origin handler = bare_fields kind origin handler || script_fields p kind origin handler

-- the map byte of a kind's request, where no cookies follow
unfoldable pub plain_request : ℕ → ℕ
plain_request kind =
    branch (eqb kind script_kind) script_request
    (branch (eqb kind picture_kind) picture_request
    document_request)

-- ---- sound

-- an absent cookie's value is 0
unfoldable pub cookie_sound : List ℕ → ℕ → ℕ → Bool
cookie_sound s h k = present s h k || eqb (cookie_value s (cookie_index h k)) 0

-- no presence bit but the eight keys'
unfoldable pub host_sound : List ℕ → ℕ → Bool
host_sound s h = ltb (presence s h) (2 ^ host_keys) && all_below host_keys (cookie_sound s h)

-- an open connection's URL has a row, which the connection fits
unfoldable pub url_sound : List ℕ → ℕ → ℕ → Bool
url_sound p n u = is_url p u && fits p n u

unfoldable pub connection_sound : List ℕ → ℕ → ℕ → Bool
connection_sound p n w = eqb w free || (kind_sound p (kind_of w) (origin_of w) (handler_of w) && url_sound p n (url_of w))

unfoldable pub sound : List ℕ → List ℕ → Bool
sound p s =
    eqb (length s) state_words
    && (all_below hosts (host_sound s)
    && all_below connections (λ n. connection_sound p n (connection_word s n)))

-- ---- cookies

pub record Cookie : Type 0 where
  pub key : ℕ
  pub value : ℕ

-- a host's cookie gets a value, and is present
unfoldable pub set_cookie : ℕ → ℕ → ℕ → List ℕ → List ℕ
set_cookie h k v s = set (set s (cookie_index h k) v) (presence_at + h) (key_map (λ j. eqb j k || present s h j))

-- Cookies that came on connection n for host h are stored one by one; one that may not be stored is passed over.
unfoldable pub store_cookie : List ℕ → ℕ → ℕ → Cookie → List ℕ → List ℕ
store_cookie p n h c s = branch (may_store p n (cookie_index h c.key)) (set_cookie h c.key c.value s) s

unfoldable pub store_cookies : List ℕ → ℕ → ℕ → List Cookie → List ℕ → List ℕ
store_cookies p n h [] s = s
store_cookies p n h (c ∷ cs) s = store_cookies p n h cs (store_cookie p n h c s)

-- a request to u carries the present cookies of u's host that it may carry
unfoldable pub attaches : List ℕ → List ℕ → ℕ → ℕ → Bool
attaches p s u k = present s (url_host p u) k && may_carry p u k

-- ---- connections and requests

unfoldable pub set_connection : ℕ → ℕ → List ℕ → List ℕ
set_connection n w s = set s (connections_at + n) w

-- the map byte of a request of a kind, with cookies where any key is set
unfoldable pub request_map : ℕ → ℕ → ℕ
request_map kind keys = branch (eqb keys 0) (plain_request kind) (with_cookies (plain_request kind))

-- the request to u on connection n: a document's, a picture's, or a script's with its handler
unfoldable pub request : List ℕ → List ℕ → ℕ → ℕ → ℕ → ℕ → Record
request p s n kind handler u =
    let attached = attaches p s u in
    record {
      map = request_map kind (key_map attached);
      url = u;
      connection = n;
      keys = key_map attached;
      cookies = map (λ k. branch (attached k) (cookie_value s (cookie_index (url_host p u) k)) 0) key_numbers;
      script = handler;
      value = 0;
      target = 0;
    }

-- what was done: how many script steps were run, the requests sent, and the state after
pub record Effects : Type 0 where
  pub steps : ℕ
  pub sent : List Record
  pub state : List ℕ

-- A connection is opened or moved, whatever was pending on it, and its request goes out.
unfoldable pub send : List ℕ → ℕ → ℕ → ℕ → ℕ → ℕ → List ℕ → Effects
send p n kind origin handler u s = record {
  steps = 0;
  sent = request p s n kind handler u ∷ [];
  state = set_connection n (packed kind origin handler u) s;
}

-- The endpoints of an address and of a host (document 01, "Marks and sets"; 002, section V: msg_label and evt_label).
-- An address is 0 to 31: the host, 0 to 15, for http, and 16 + host for https.
use Rattle.std.specs.Prelude.{ℕ, ◌+◌, ◌%◌, Bool, not, ◌&&◌, ◌||◌, cond, ltb, eqb}
use Rattle.labels.specs.Membership.{Membership, endpoints}
use Rattle.labels.specs.Sets.{only, empty}

-- hosts are 0 to 15
abbrev pub hosts : ℕ
hosts = 16

abbrev pub host_of : ℕ → ℕ
host_of address = address % hosts

-- the message endpoint (message mark) is the address itself; the event endpoint (event mark) is the http address of its host
abbrev pub message_endpoint : ℕ → ℕ
message_endpoint address = address

abbrev pub event_endpoint : ℕ → ℕ
event_endpoint address = host_of address

-- each as a set; a number above 31 is no address, and has the empty set
unfoldable pub message_set : ℕ → ℕ
message_set address = cond (ltb address endpoints) (only (message_endpoint address)) empty

unfoldable pub event_set : ℕ → ℕ
event_set address = cond (ltb address endpoints) (only (event_endpoint address)) empty

-- The endpoints of a host, by membership: https there, and http unless https alone is asked for. A number above 15 is no host, and has none.
unfoldable pub host_endpoints : ℕ → Bool → Membership
host_endpoints host https_alone a = ltb host hosts && (eqb a (hosts + host) || (not https_alone && eqb a host))

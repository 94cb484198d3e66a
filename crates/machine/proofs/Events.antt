-- What holds of each cookie of a record, and of its value, holds of what its event brings. The keys of an event's cookies are below 8, what it asks
-- for is asked for in place of some number, and where its numbers name something its connection is below 32.
use Rattle.prelude.proofs.Kit.{ℕ, ◌<◌, arith, List, ◌≡◌, refl, T, ltb→lt, get_or}
use Rattle.prelude.specs.Choice.{keep}
use Rattle.prelude.proofs.Choices.{parts, one}
use Rattle.records.specs.declared.Record.{Record}
use Rattle.records.specs.Layout.{key_numbers}
use Rattle.machine.specs.Policy.{host_keys, connections, upgraded}
use Rattle.machine.specs.Session.{has, Cookie}
use Rattle.machine.specs.Machine.{Arrived, DocumentResponse, ScriptResponse, PictureResponse, Redirect, Event, Load, Arrival, cookies_of, arrived_of, event_of, named}
use Rattle.machine.proofs.Lists.{Each, each_map, each_keep}

abbrev pub EventCookies : (Cookie → Type 0) → Event → Type 0
EventCookies P (Load u n) = Unit {0}
EventCookies P (Arrival u n cs what) = Each P cs

-- the value of a script's response
abbrev pub ArrivedValue : (ℕ → Type 0) → Arrived → Type 0
ArrivedValue Q (DocumentResponse x) = Unit {0}
ArrivedValue Q (ScriptResponse v) = Q v
ArrivedValue Q PictureResponse = Unit {0}
ArrivedValue Q (Redirect t) = Unit {0}

abbrev pub EventValue : (ℕ → Type 0) → Event → Type 0
EventValue Q (Load u n) = Unit {0}
EventValue Q (Arrival u n cs what) = ArrivedValue Q what

-- a URL that is asked for in place of a number; a load and a redirect have one
abbrev pub Asked : List ℕ → ℕ → Type 0
Asked p u = (v : ℕ) × (u ≡ upgraded p v)

abbrev pub ArrivedAsks : List ℕ → Arrived → Type 0
ArrivedAsks p (DocumentResponse x) = Unit {0}
ArrivedAsks p (ScriptResponse v) = Unit {0}
ArrivedAsks p PictureResponse = Unit {0}
ArrivedAsks p (Redirect t) = Asked p t

abbrev pub EventAsks : List ℕ → Event → Type 0
EventAsks p (Load u n) = Asked p u
EventAsks p (Arrival u n cs what) = ArrivedAsks p what

module _ (p : List ℕ) (r : Record) where
  abbrev cookie : ℕ → Cookie
  cookie k = record { key = k; value = get_or r.cookies k 0 }

  cookies_each : (P : Cookie → Type 0) → Each (λ k. P (cookie k)) key_numbers → Each P (cookies_of r)
  unfolding cookies_of
  cookies_each P all = each_map P cookie (keep (has r.keys) key_numbers) (each_keep (λ k. P (cookie k)) (has r.keys) key_numbers all)

  pub event_cookies : (P : Cookie → Type 0) → Each (λ k. P (cookie k)) key_numbers → EventCookies P (event_of p r)
  unfolding event_of
  event_cookies P all = one (EventCookies P) _ (λ _. tt) (λ _. cookies_each P all)

  arrived_value : (Q : ℕ → Type 0) → Q r.value → ArrivedValue Q (arrived_of p r)
  unfolding arrived_of
  arrived_value Q q = one (ArrivedValue Q) _ (λ _. tt) (λ _. one (ArrivedValue Q) _ (λ _. q) (λ _. one (ArrivedValue Q) _ (λ _. tt) (λ _. tt)))

  pub event_value : (Q : ℕ → Type 0) → Q r.value → EventValue Q (event_of p r)
  unfolding event_of
  event_value Q q = one (EventValue Q) _ (λ _. tt) (λ _. arrived_value Q q)

  arrived_asks : ArrivedAsks p (arrived_of p r)
  unfolding arrived_of
  arrived_asks = one (ArrivedAsks p) _ (λ _. tt) (λ _. one (ArrivedAsks p) _ (λ _. tt) (λ _. one (ArrivedAsks p) _ (λ _. tt) (λ _. (r.target, refl))))

  pub event_asks : EventAsks p (event_of p r)
  unfolding event_of
  event_asks = one (EventAsks p) _ (λ _. (r.url, refl)) (λ _. arrived_asks)

-- the keys
abbrev pub KeysBelow : List Cookie → Type 0
KeysBelow = Each (λ (c : Cookie). c.key < host_keys)

abbrev pub EventKeys : Event → Type 0
EventKeys = EventCookies (λ (c : Cookie). c.key < host_keys)

pub event_keys : (p : List ℕ) (r : Record) → EventKeys (event_of p r)
event_keys p r = event_cookies p r (λ (c : Cookie). c.key < host_keys) (omega arith)

-- the connection
abbrev pub connection_of : Event → ℕ
connection_of (Load u n) = n
connection_of (Arrival u n cs what) = n

pub connection_below : (p : List ℕ) (e : Event) → T (named p e) → connection_of e < connections
unfolding named
connection_below p (Load u n) t = ltb→lt n connections (search parts)
connection_below p (Arrival u n cs what) t = ltb→lt n connections (search parts)

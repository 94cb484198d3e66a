-- Demand 3 (document 01, "The secrecy rule"): one claim about two whole lists of records, in which the machine is `feed` and nothing else.
-- A set of endpoints is whoever watches: an attacker, a host, or all of them together. The proof is in proofs/Secrecy.antt.
use Rattle.std.specs.Prelude.{ℕ, ◌<◌, not, List, [], ◌∷◌, map, ◌≡◌, T}
use Rattle.std.proofs.Math.Pow.{are_bytes}
use Rattle.prelude.specs.Choice.{branch, keep}
use Rattle.labels.specs.Sets.{holds, meets}
use Rattle.labels.specs.Addresses.{hosts}
use Rattle.records.specs.declared.Record.{Record}
use Rattle.machine.specs.Policy.{host_keys, connections, cookie_index, url_readers, cookie_readers, connection_readers}
use Rattle.machine.specs.Policy.{url_message, url_event, well_formed}
use Rattle.machine.specs.Session.{cookie_value, present, connection_word, Cookie}
use Rattle.machine.specs.Machine.{Event, Load, Arrival, cookies_of}
use Rattle.machine.specs.Runs.{Item, Feedable, Trace, run, cookies_where, remaining, Observation, observed}

-- ---- what is hidden from a set is struck (document 01's list of what is hidden)

-- the cookies of a URL's host whose readers meet the set
unfoldable pub shown_cookies : ℕ → List ℕ → ℕ → List Cookie → List Cookie
shown_cookies set p u cs = cookies_where (λ c. meets (cookie_readers p c) set) p u cs

-- A load goes by its URL's readers; a response or redirect by its connection's, and it loses the cookies whose readers miss the set.
-- With none left it is the one without cookies.
unfoldable pub shown : ℕ → List ℕ → Event → List Event
shown set p (Load u n) = branch (meets (url_readers p u) set) (Load u n ∷ []) []
shown set p (Arrival u n cs what) = branch (meets (connection_readers p n) set) (Arrival u n (shown_cookies set p u cs) what ∷ []) []

-- ---- what a set sees of a run
-- Document 01 compares requests, cookies and connections. Which requests a set sees, and which cookies of them, is said in 002, Table I: a
-- request by its event endpoint, its cookies by its message endpoint.

-- the cookies show where the set holds the URL's message endpoint
unfoldable pub observation_of : ℕ → List ℕ → Record → Observation
observation_of set p r = observed (branch (holds set (url_message p r.url)) (cookies_of r) []) r

-- the requests whose event endpoint is in the set, in order
unfoldable pub observations : ℕ → List ℕ → List Record → List Observation
observations set p rs = map (observation_of set p) (keep (λ r. holds set (url_event p r.url)) rs)

-- Two runs look the same to a set: the requests that it sees; the cookies (presence and value) and the connections (the whole word) whose
-- readers meet it. Under a policy that 2 refuses, neither sends anything and the whole states are equal.
pub record SameView (set : ℕ) (p : List ℕ) (a b : Trace) : Type 0 where
  pub same_requests : observations set p a.requests ≡ observations set p b.requests
  pub same_cookies :
      (h k : ℕ) → h < hosts → k < host_keys → T (meets (cookie_readers p (cookie_index h k)) set)
      → (present a.state h k ≡ present b.state h k)
      × (cookie_value a.state (cookie_index h k) ≡ cookie_value b.state (cookie_index h k))
  pub same_connections :
      (n : ℕ) → n < connections → T (meets (connection_readers p n) set)
      → connection_word a.state n ≡ connection_word b.state n
  pub refused_policy : T (not (well_formed p)) → (a.requests ≡ []) × (b.requests ≡ []) × (a.state ≡ b.state)

-- ---- DEMAND 3

-- For every set, policy and script table: two lists of records that are equal once what is hidden from the set is struck from both give
-- the set the same view. The script table is bytes, as its type in the code says. Nothing is asked of the policy or of the set.
abbrev pub Secrecy : Type 0
Secrecy =
    (set : ℕ) (p scripts : List ℕ) (is js : List Item) → T (are_bytes scripts) → Feedable is → Feedable js
    → remaining (shown set p) p is ≡ remaining (shown set p) p js → SameView set p (run p scripts is) (run p scripts js)

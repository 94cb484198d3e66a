-- What forgers cannot cause: one claim about two whole lists of records, in which the machine is `feed` and nothing else. A set of endpoints is
-- whoever forges: a host, whoever holds its wire, or several together. Where its endpoints are among the writers of something, it may have shaped
-- it. The proof is in proofs/Integrity.antt.
use Rattle.std.specs.Prelude.{ℕ, ◌<◌, Bool, not, ◌&&◌, List, [], ◌∷◌, map, ◌≡◌, T, eqb}
use Rattle.std.proofs.Math.Pow.{are_bytes}
use Rattle.prelude.specs.Choice.{branch, keep}
use Rattle.labels.specs.Sets.{holds, meets, misses}
use Rattle.labels.specs.Addresses.{hosts}
use Rattle.records.specs.declared.Record.{Record}
use Rattle.machine.specs.Policy.{host_keys, connections, cookie_index, is_entry, url_writers, cookie_writers, connection_writers, url_message, well_formed}
use Rattle.machine.specs.Session.{free, cookie_value, present, connection_word, url_of, sound, Cookie}
use Rattle.machine.specs.Machine.{Event, Load, Arrival, cookies_of}
use Rattle.machine.specs.Runs.{Item, Feedable, Trace, run, cookies_where, remaining, Observation, observed}

-- ---- what the set may forge is struck

-- the cookies of a URL's host whose writers miss the set
unfoldable pub honest_cookies : ℕ → List ℕ → ℕ → List Cookie → List Cookie
honest_cookies set p u cs = cookies_where (λ c. misses (cookie_writers p c) set) p u cs

-- A load stays: it is made at the post, and by no host. A response or redirect goes by its connection's writers, and it loses the cookies whose
-- writers meet the set. With none left it is the one without cookies.
unfoldable pub unforged : ℕ → List ℕ → Event → List Event
unforged set p (Load u n) = Load u n ∷ []
unforged set p (Arrival u n cs what) = branch (misses (connection_writers p n) set) (Arrival u n (honest_cookies set p u cs) what ∷ []) []

-- ---- what the set must not cause

-- A URL is guarded from the set where the set may not have shaped what leads to it: its writers miss the set, and it is no entry, to which anyone
-- may lead.
unfoldable pub guarded : ℕ → List ℕ → ℕ → Bool
guarded set p u = not (is_entry p u) && misses (url_writers p u) set

-- the requests to guarded URLs, in order, each with those of its cookies whose writers miss the set
unfoldable pub guarded_requests : ℕ → List ℕ → List Record → List Observation
guarded_requests set p rs = map (λ r. observed (honest_cookies set p r.url (cookies_of r)) r) (keep (λ r. guarded set p r.url) rs)

-- Two runs make the same guarded requests. Under a policy that 2 refuses, all requests are the same.
pub record SameGuarded (set : ℕ) (p : List ℕ) (a b : Trace) : Type 0 where
  pub same_requests : guarded_requests set p a.requests ≡ guarded_requests set p b.requests
  pub refused_policy : T (not (well_formed p)) → a.requests ≡ b.requests

-- ---- THE CLAIM

-- For every set, policy and script table: two lists of records that are equal once what the set may forge is struck from both make the same guarded
-- requests. The script table is bytes, as its type in the code says. Nothing is asked of the policy or of the set.
abbrev pub Integrity : Type 0
Integrity =
    (set : ℕ) (p scripts : List ℕ) (is js : List Item) → T (are_bytes scripts) → Feedable is → Feedable js
    → remaining (unforged set p) p is ≡ remaining (unforged set p) p js → SameGuarded set p (run p scripts is) (run p scripts js)

-- ---- beside it

-- The states after are the same where the set may not have shaped them: the cookies (presence and value) and the connections (the whole word) whose
-- writers miss it; under a policy that 2 refuses, the whole states.
pub record SameHonest (set : ℕ) (p s t : List ℕ) : Type 0 where
  pub same_cookies :
      (h k : ℕ) → h < hosts → k < host_keys → T (misses (cookie_writers p (cookie_index h k)) set)
      → (present s h k ≡ present t h k) × (cookie_value s (cookie_index h k) ≡ cookie_value t (cookie_index h k))
  pub same_connections : (n : ℕ) → n < connections → T (misses (connection_writers p n) set) → connection_word s n ≡ connection_word t n
  pub refused_policy : T (not (well_formed p)) → s ≡ t

abbrev pub HonestState : Type 0
HonestState =
    (set : ℕ) (p scripts : List ℕ) (is js : List Item) → T (are_bytes scripts) → Feedable is → Feedable js
    → remaining (unforged set p) p is ≡ remaining (unforged set p) p js → SameHonest set p (run p scripts is).state (run p scripts js).state

-- What a forger answers is struck wherever it is waited for: of a connection that is open in a sound state, as every state of a run is, whoever holds
-- the message endpoint of its URL, and so can respond for it, is a writer.
abbrev pub ResponderIsWriter : Type 0
ResponderIsWriter =
    (set : ℕ) (p s : List ℕ) (n : ℕ) → T (well_formed p) → T (sound p s) → n < connections → T (not (eqb (connection_word s n) free))
    → T (holds set (url_message p (url_of (connection_word s n)))) → T (meets (connection_writers p n) set)

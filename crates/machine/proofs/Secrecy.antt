-- Demand 3: the general theorem at the observer that is a set of readers.
use Rattle.prelude.proofs.Kit.{ℕ, true, Bool, false, List, ◌∷◌, [], map, ◌≡◌, sym, ◌∙◌, refl, ap, ap₂}
use Rattle.prelude.specs.Choice.{branch, keep}
use Rattle.labels.specs.Sets.{holds}
use Rattle.records.specs.declared.Record.{Record}
use Rattle.machine.specs.Policy.{url_message, url_event}
use Rattle.machine.specs.Session.{Cookie}
use Rattle.machine.specs.Machine.{Event, Load, Arrival, cookies_of}
use Rattle.machine.specs.Runs.{run, observed}
use Rattle.machine.specs.Secrecy.{shown_cookies, shown, observation_of, observations, Secrecy}
use Rattle.machine.proofs.Runs.{policy_refused}
use Rattle.machine.proofs.Observer.{observation_by, observations_by}
use Rattle.machine.proofs.Reactions.{sees_event, seen_of, seen}
use Rattle.machine.proofs.Noninterference.{same_to}
use Rattle.machine.proofs.Readers.{readers, readers_laws}

-- ---- what the set sees is what the observer sees

-- a test that does not look keeps all or nothing
keep_all : {A : Type 0} (b : Bool) (xs : List A) → keep (λ _. b) xs ≡ branch b xs []
unfolding keep branch
keep_all true [] = refl
keep_all false [] = refl
keep_all true (x ∷ xs) = ap (λ l. x ∷ l) (keep_all true xs)
keep_all false (x ∷ xs) = keep_all false xs

map_alike : {A B : Type 0} (f g : A → B) → ((a : A) → f a ≡ g a) → (xs : List A) → map f xs ≡ map g xs
map_alike f g e [] = refl
map_alike f g e (x ∷ xs) = ap₂ (λ y l. y ∷ l) (e x) (map_alike f g e xs)

module _ (set : ℕ) (p : List ℕ) where
  same_observation : (r : Record) → observation_by (readers set p) r ≡ observation_of set p r
  unfolding observation_by observation_of readers
  same_observation r = ap (λ (cs : List Cookie). observed cs r) (keep_all (holds set (url_message p r.url)) (cookies_of r))

  same_observations : (rs : List Record) → observations_by (readers set p) rs ≡ observations set p rs
  unfolding observations_by observations readers
  same_observations rs = map_alike (observation_by (readers set p)) (observation_of set p) same_observation (keep (λ r. holds set (url_event p r.url)) rs)

  same_shown : (e : Event) → shown set p e ≡ seen p (readers set p) e
  unfolding seen sees_event seen_of shown shown_cookies readers
  same_shown (Load u n) = refl
  same_shown (Arrival u n cs what) = refl

-- ---- the theorem

pub secrecy : Secrecy
unfolding readers
secrecy set p scripts is js typed fi fj e =
    let same = same_to p scripts (readers set p) (shown set p) (same_shown set p) (readers_laws set p) is js typed fi fj e in
    record {
      same_requests = sym (same_observations set p (run p scripts is).requests) ∙ same.requests ∙ same_observations set p (run p scripts js).requests;
      same_cookies = same.states.cookies;
      same_connections = same.states.words;
      refused_policy = λ bad. rw (policy_refused p scripts bad is, policy_refused p scripts bad js) (refl, refl, refl);
    }

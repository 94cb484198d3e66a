-- What forgers cannot cause: the general theorem at the observer that is everything which a set of writers may not have shaped.
use Rattle.prelude.proofs.Kit.{ℕ, List, ◌≡◌, sym, ◌∙◌, refl, T, are_bytes}
use Rattle.prelude.specs.Choice.{branch}
use Rattle.prelude.proofs.Choices.{parts}
use Rattle.labels.specs.Sets.{holds}
use Rattle.labels.proofs.Membership.{share_member}
use Rattle.labels.proofs.Words.{holds_below}
use Rattle.records.specs.declared.Record.{Record}
use Rattle.machine.specs.Policy.{connection_writers, url_message, fits}
use Rattle.machine.specs.Session.{connection_word, url_of, url_sound}
use Rattle.machine.specs.Machine.{Event, Load, Arrival}
use Rattle.machine.specs.Runs.{Item, Feedable, run, cookies_where, remaining}
use Rattle.machine.specs.Integrity.{honest_cookies, unforged, guarded_requests, Integrity, HonestState, ResponderIsWriter}
use Rattle.machine.proofs.Missing.{message_held}
use Rattle.machine.proofs.SoundStates.{sound_of, word_fields}
use Rattle.machine.proofs.Runs.{policy_refused}
use Rattle.machine.proofs.Observer.{observation_by, observations_by}
use Rattle.machine.proofs.Reactions.{sees_event, seen_of, seen}
use Rattle.machine.proofs.Noninterference.{SameTo, same_to}
use Rattle.machine.proofs.Writers.{writers, writers_laws}

-- ---- what is compared is what the observer sees

module _ (set : ℕ) (p : List ℕ) where
  same_requests_lem : (rs : List Record) → observations_by (writers set p) rs ≡ guarded_requests set p rs
  unfolding observations_by observation_by guarded_requests honest_cookies cookies_where writers
  same_requests_lem rs = refl

  same_unforged : (e : Event) → unforged set p e ≡ seen p (writers set p) e
  unfolding seen sees_event seen_of unforged honest_cookies writers branch
  same_unforged (Load u n) = refl
  same_unforged (Arrival u n cs what) = refl

-- ---- the theorems

told_alike : (set : ℕ) (p scripts : List ℕ) (is js : List Item) → T (are_bytes scripts) → Feedable is → Feedable js
    → remaining (unforged set p) p is ≡ remaining (unforged set p) p js → SameTo (writers set p) (run p scripts is) (run p scripts js)
told_alike set p scripts = same_to p scripts (writers set p) (unforged set p) (same_unforged set p) (λ _. writers_laws set p)

pub integrity : Integrity
integrity set p scripts is js typed fi fj e = record {
  same_requests =
      sym (same_requests_lem set p (run p scripts is).requests) ∙ (told_alike set p scripts is js typed fi fj e).requests
      ∙ same_requests_lem set p (run p scripts js).requests;
  refused_policy = λ bad. rw (policy_refused p scripts bad is, policy_refused p scripts bad js) refl;
}

pub honest_state : HonestState
unfolding writers
honest_state set p scripts is js typed fi fj e =
    let same = (told_alike set p scripts is js typed fi fj e).states in
    record {
      same_cookies = same.cookies;
      same_connections = same.words;
      refused_policy = λ bad. rw (policy_refused p scripts bad is, policy_refused p scripts bad js) refl;
    }

pub responder_is_writer : ResponderIsWriter
unfolding url_sound fits
responder_is_writer set p s n good ok l opened responds =
    let w = connection_word s n in
    let open-fields = word_fields p n w ((sound_of p (λ _. Unit {0}) s ok (λ c m. tt)).words n l) opened in
    share_member (holds (connection_writers p n)) (holds set) (holds_below (connection_writers p n)) (url_message p (url_of w))
    (message_held p good n (url_of w) (search parts) (search parts)) responds

-- The theorems at the lists of their examples. That the lists are fed as is asked, and leave the same, is computed.
use Rattle.prelude.proofs.Kit.{arith, ◌&&◌, Bool, not, List, ◌∷◌, [], ◌≡◌, refl, T, ltb, ltb→lt, length, are_bytes}
use Rattle.prelude.specs.Choice.{every}
use Rattle.prelude.proofs.Choices.{parts}
use Rattle.labels.specs.Sets.{misses}
use Rattle.machine.specs.Policy.{cookie_index, cookie_writers, connection_writers, well_formed}
use Rattle.machine.specs.Machine.{output_room}
use Rattle.machine.specs.Runs.{Item, Feedable, remaining}
use Rattle.machine.specs.Secrecy.{shown}
use Rattle.machine_cases.specs.SecrecyExamples.{http_host_one, policy_two_hosts, scripts_two_hosts, with_hidden, without_hidden}
use Rattle.machine.specs.Integrity.{unforged}
use Rattle.machine.proofs.Secrecy.{secrecy}
use Rattle.machine.proofs.Integrity.{integrity, honest_state}
use Rattle.machine_cases.proofs.SecrecyExamples.{examples as secrecy_examples}
use Rattle.machine_cases.specs.IntegrityExamples.{forger, policy_top_up, scripts_top_up, refused_policy, forger_at_work, forger_elsewhere}
use Rattle.machine_cases.specs.Instances.{SecrecySpeaks, IntegritySpeaks, HonestStateSpeaks}
use Rattle.machine_cases.proofs.IntegrityExamples.{examples as integrity_examples}

-- ---- fed as is asked

abbrev ready : Item → Bool
ready i = are_bytes i.bytes && ltb 1183 (length i.buffer)

room : output_room ≡ 1184
unfolding secrecy_examples
room = refl

feedable : (is : List Item) → T (every ready is) → Feedable is
unfolding every
feedable [] t = tt
feedable (i ∷ is) t = (search parts, omega (arith, room, ltb→lt 1183 (length i.buffer) (search parts)), feedable is (search parts))

-- ---- secrecy

scripts_two_hosts_lem : T (are_bytes scripts_two_hosts)
unfolding secrecy_examples
scripts_two_hosts_lem = tt

with_hidden_lem : T (every ready with_hidden)
unfolding secrecy_examples every
with_hidden_lem = tt

without_hidden_lem : T (every ready without_hidden)
unfolding secrecy_examples every
without_hidden_lem = tt

same_shown :
    remaining (shown http_host_one policy_two_hosts) policy_two_hosts with_hidden ≡ remaining (shown http_host_one policy_two_hosts) policy_two_hosts without_hidden
unfolding secrecy_examples
same_shown = refl

pub secrecy_speaks : SecrecySpeaks
secrecy_speaks =
    (secrecy http_host_one policy_two_hosts scripts_two_hosts with_hidden without_hidden scripts_two_hosts_lem
    (feedable with_hidden with_hidden_lem) (feedable without_hidden without_hidden_lem) same_shown).same_requests

-- ---- integrity

scripts_top_up_lem : T (are_bytes scripts_top_up)
unfolding integrity_examples
scripts_top_up_lem = tt

at_work : T (every ready forger_at_work)
unfolding integrity_examples every
at_work = tt

elsewhere : T (every ready forger_elsewhere)
unfolding integrity_examples every
elsewhere = tt

same_unforged :
    remaining (unforged forger policy_top_up) policy_top_up forger_at_work ≡ remaining (unforged forger policy_top_up) policy_top_up forger_elsewhere
unfolding integrity_examples
same_unforged = refl

none_unforged :
    remaining (unforged forger refused_policy) refused_policy forger_at_work ≡ remaining (unforged forger refused_policy) refused_policy forger_elsewhere
unfolding integrity_examples
none_unforged = refl

refused : T (not (well_formed refused_policy))
unfolding integrity_examples
refused = tt

honest_cookie : T (misses (cookie_writers policy_top_up (cookie_index 2 3)) forger)
unfolding integrity_examples
honest_cookie = tt

honest_connection : T (misses (connection_writers policy_top_up 8) forger)
unfolding integrity_examples
honest_connection = tt

fed : Feedable forger_at_work
fed = feedable forger_at_work at_work

fed_elsewhere : Feedable forger_elsewhere
fed_elsewhere = feedable forger_elsewhere elsewhere

pub integrity_speaks : IntegritySpeaks
integrity_speaks = (
  (integrity forger policy_top_up scripts_top_up forger_at_work forger_elsewhere scripts_top_up_lem fed fed_elsewhere same_unforged).same_requests,
  (integrity forger refused_policy scripts_top_up forger_at_work forger_elsewhere scripts_top_up_lem fed fed_elsewhere none_unforged).refused_policy refused,
)

pub honest_state_speaks : HonestStateSpeaks
honest_state_speaks =
    let same = honest_state forger policy_top_up scripts_top_up forger_at_work forger_elsewhere scripts_top_up_lem fed fed_elsewhere same_unforged in
    let none = honest_state forger refused_policy scripts_top_up forger_at_work forger_elsewhere scripts_top_up_lem fed fed_elsewhere none_unforged in
    let (presence, value) = same.same_cookies 2 3 (omega arith) (omega arith) honest_cookie in
    (presence, value, same.same_connections 8 (omega arith) honest_connection, none.refused_policy refused)

-- The refusals of the code by their numbers, and as the definitions have them.
use Rattle.std.specs.Prelude.{ℕ, Option, Some, None, unwrap_or}
use Rattle.labels.specs.Membership.{none_missing}
use Rattle.records.specs.Results.{decode_number}
use Rattle.machine.specs.Machine.{Verdict, output_short, policy_bad, scripts_bad, state_unsound, name_unknown, not_awaited}
use Rattle.policy.specs.Forbidden.{forbids}
use Rattle.monitor.specs.declared.refusal.Refusal.{Refusal}
use Rattle.monitor.specs.declared.refusal.Refusal.TheVariants.{OutputShort, PolicyBad, ScriptsBad, StateUnsound, Malformed, NameUnknown, NotAwaited, Labels}

abbrev pub number_of : Refusal → ℕ
number_of OutputShort = output_short
number_of PolicyBad = policy_bad
number_of ScriptsBad = scripts_bad
number_of StateUnsound = state_unsound
number_of (Malformed error) = decode_number error
number_of NameUnknown = name_unknown
number_of NotAwaited = not_awaited
number_of (Labels refused) = (forbids refused).number

abbrev pub missing_of : Refusal → Option ℕ
missing_of OutputShort = None
missing_of PolicyBad = None
missing_of ScriptsBad = None
missing_of StateUnsound = None
missing_of (Malformed error) = None
missing_of NameUnknown = None
missing_of NotAwaited = None
missing_of (Labels refused) = Some (forbids refused).missing

abbrev pub verdict_of : Refusal → Verdict
verdict_of e = record { number = number_of e; missing = unwrap_or (missing_of e) none_missing }

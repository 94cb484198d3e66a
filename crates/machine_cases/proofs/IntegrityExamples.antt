-- The examples beside the claim about forgers hold: they are computed.
use Rattle.prelude.specs.Lists.{same_numbers}
use Rattle.machine.specs.Cases.{with, empty_rows, policy_with, step_bytes, steps_bytes, scripts_with}
use Rattle.machine.specs.Runs.{feed_all, run, cookies_where, left_of_record, left_of_records, remaining}
use Rattle.machine.specs.Integrity.{honest_cookies, unforged, guarded, guarded_requests}
use Rattle.machine_cases.specs.IntegrityExamples.{runs, forger_in_vain, causes, entry_is_excused, told_apart, honest_tells, refused_records_remain, fewest_and_most, refused_policy_silent, guarded_without_entry}
use Rattle.machine_cases.specs.IntegrityExamples.{ForgersInVain, EntryIsExcused, HonestTells, RefusedRecordsRemain, OtherForgers}
use Rattle.machine.proofs.Computing.{machine}

-- what the examples are told with, opened too
unfoldable pub examples : Unit {0}
unfolding machine with empty_rows policy_with step_bytes steps_bytes scripts_with same_numbers
    feed_all run cookies_where left_of_record left_of_records remaining honest_cookies unforged guarded guarded_requests
    runs forger_in_vain causes entry_is_excused told_apart honest_tells refused_records_remain fewest_and_most refused_policy_silent guarded_without_entry
examples = tt

pub forgers_in_vain : ForgersInVain
unfolding examples
forgers_in_vain = tt

pub entry_is_excused_lem : EntryIsExcused
unfolding examples
entry_is_excused_lem = tt

pub honest_tells_lem : HonestTells
unfolding examples
honest_tells_lem = tt

pub refused_records_remain_lem : RefusedRecordsRemain
unfolding examples
refused_records_remain_lem = tt

pub other_forgers : OtherForgers
unfolding examples
other_forgers = tt

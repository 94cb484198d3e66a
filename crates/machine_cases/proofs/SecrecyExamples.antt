-- The examples beside demand 3 hold: they are computed.
use Rattle.prelude.specs.Lists.{same_numbers}
use Rattle.machine.specs.Cases.{with, empty_rows, policy_with, step_bytes, steps_bytes, scripts_with}
use Rattle.machine.specs.Runs.{feed_all, run, cookies_where, left_of_record, left_of_records, remaining}
use Rattle.machine.specs.Secrecy.{shown_cookies, shown, observation_of, observations}
use Rattle.machine_cases.specs.SecrecyExamples.{hidden_unseen, hidden_picture_unseen, hidden_then_shown, shown_then_hidden, told_apart}
use Rattle.machine_cases.specs.SecrecyExamples.{says_something, says_something_of_pictures, says_something_of_upgrading, SaysSomething, PicturesSaySomething, UpgradingSaysSomething}
use Rattle.machine.proofs.Computing.{machine}

-- what the examples are told with, opened too
unfoldable pub examples : Unit {0}
unfolding machine with empty_rows policy_with step_bytes steps_bytes scripts_with same_numbers
    feed_all run cookies_where left_of_record left_of_records remaining shown_cookies shown observation_of observations
    hidden_unseen hidden_picture_unseen hidden_then_shown shown_then_hidden told_apart says_something says_something_of_pictures says_something_of_upgrading
examples = tt

pub says_something_lem : SaysSomething
unfolding examples
says_something_lem = tt

pub pictures_say_something : PicturesSaySomething
unfolding examples
pictures_say_something = tt

pub upgrading_says_something : UpgradingSaysSomething
unfolding examples
upgrading_says_something = tt

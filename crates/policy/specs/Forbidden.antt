-- What labels forbid of a load and of a redirect: the verdict of a refusal as the code has it, and the first that applies.
use Rattle.std.specs.Prelude.{ℕ, [], ◌∷◌, Result, Ok, Err}
use Rattle.prelude.specs.Refusals.{accepted, first_of}
use Rattle.machine.specs.Machine.{readers_forbid, writers_forbid, Verdict, plain, forbid}
use Rattle.policy.specs.declared.label_refusal.LabelRefusal.{LabelRefusal}
use Rattle.policy.specs.declared.label_refusal.LabelRefusal.TheVariants.{ReadersForbid, WritersForbid}

abbrev pub forbids : LabelRefusal → Verdict
forbids (ReadersForbid e) = record { number = readers_forbid; missing = e }
forbids (WritersForbid e) = record { number = writers_forbid; missing = e }

abbrev pub verdict : Result (Unit {0}) LabelRefusal → Verdict
verdict (Ok u) = plain accepted
verdict (Err f) = forbids f

-- by the endpoints that are missing among readers and among writers
abbrev pub first_forbidden : ℕ → ℕ → Verdict
first_forbidden reader writer = first_of (forbid readers_forbid reader ∷ forbid writers_forbid writer ∷ []) (plain accepted)

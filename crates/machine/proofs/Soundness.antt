-- Every record keeps the state sound, and the empty state is sound.
use Rattle.prelude.proofs.Kit.{T}
use Rattle.machine.specs.Session.{empty_state, sound, Effects}
use Rattle.machine.specs.Scripts.{stopped}
use Rattle.machine.specs.Machine.{event_in, feed, perform}
use Rattle.machine.specs.Guarantees.{SoundKept, EmptySound}
use Rattle.machine.proofs.Accepted.{either_way}
use Rattle.machine.proofs.SoundStates.{of_sound, empty_good}
use Rattle.machine.proofs.Kept.{Any, accepted_good}

pub empty_sound : EmptySound
empty_sound p = of_sound p Any empty_state (empty_good p Any tt)

pub sound_kept : SoundKept
unfolding feed stopped
sound_kept p scripts s bytes out t =
    either_way (λ (e : Effects). T (sound p e.state)) p scripts s bytes out
    (λ ok. of_sound p Any (perform p scripts s (event_in p bytes)).state
    (accepted_good p Any Any (record { none = tt; wrapped = λ x. tt; asked = λ s n k o h u g l t a. tt }) scripts s bytes out
    (λ x i. tt) (λ c l. tt) (search) tt ok).0) t

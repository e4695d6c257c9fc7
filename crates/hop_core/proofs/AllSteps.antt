-- What every event keeps, and every list of events.
use Rattle.std.proofs.Common.{◌≡◌, false, List, [], ◌∷◌}
use Rattle.steer_base.specs.Counters.{rounded_up}
use Rattle.steer_base.specs.Sets.{has}
use Rattle.hop_model.specs.Hop.{HopState}
use Rattle.hop_model.specs.Events.{happens, MayAsk, AllMayAsk, run}
use Rattle.hop_model.specs.declared.event.HopEvent.{HopEvent}
use Rattle.hop_model.specs.declared.event.HopEvent.TheVariants as event
use Rattle.hop_model.specs.Sound.{Sound}
use Rattle.hop_core.proofs.Cases.{Enabled, by_cases}
use Rattle.hop_core.proofs.ProducerSteps.{Sound-arrive, Sound-take, Sound-weigh, emptied-all}
use Rattle.hop_core.proofs.PutSteps.{Sound-put}
use Rattle.hop_core.proofs.LaneSteps.{Sound-pull, Sound-deliver, Sound-retire}
use Rattle.hop_core.proofs.GateSteps.{Sound-enter, Sound-leave, Sound-close, Sound-reopen}
use Rattle.hop_core.proofs.GateSteps.{Sound-resize}

sound-enabled : (s : HopState) (e : HopEvent) → MayAsk s e → Sound s → Enabled Sound s e
sound-enabled s (event.Arrive p id) m h = Sound-arrive s p id m.producer m.below m.fresh h
sound-enabled s (event.Take p) m h = λ free more. Sound-take s p m free more h
sound-enabled s (event.Enter a) m h = λ out' open'. Sound-enter s a m out' open' h
sound-enabled s (event.Leave a) m h = λ inside done. Sound-leave s a m inside done h
sound-enabled s (event.Weigh p class want desired online) m h =
    λ inside more. Sound-weigh s p class want desired online m.producer m.lane
    (emptied-all s h (λ d. has online d ≡ false) m.drained) inside more h
sound-enabled s (event.Put p hash) m h = λ inside more. Sound-put s p hash m inside more h
sound-enabled s (event.Pull c) m h = λ free more. Sound-pull s c m free more h
sound-enabled s (event.Deliver c o) m h = λ more. Sound-deliver s c o m.lane m.out more h
sound-enabled s (event.Retire c) m h = λ more. Sound-retire s c m more h
sound-enabled s (event.Resize p count) m h =
    Sound-resize s p (rounded_up count) m.producer m.closed (λ d. emptied-all s h (λ _. Unit {0})
    (λ c lt _. m.drained c lt) d tt) h
sound-enabled s event.Close m h = λ none. Sound-close s none h
sound-enabled s event.Reopen m h = Sound-reopen s h

pub Sound-happens : (s : HopState) (e : HopEvent) → MayAsk s e → Sound s → Sound (happens s e).0
Sound-happens s e m h = by_cases Sound s e h (sound-enabled s e m h)

pub Sound-run : (es : List HopEvent) (s : HopState) → AllMayAsk es s → Sound s → Sound (run es s)
Sound-run [] s m h = h
Sound-run (e ∷ es) s m h = Sound-run es (happens s e).0 m.1 (Sound-happens s e m.0 h)

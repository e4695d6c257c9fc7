-- What a hop is asked to weigh a packet with.
use Rattle.std.specs.Prelude.{ℕ}
use Rattle.hop_model.specs.declared.event.HopEvent.{HopEvent}
use Rattle.hop_model.specs.declared.event.HopEvent.TheVariants as event
use Rattle.steer_core.specs.declared.actors.Weighing.{Weighing}

-- producer p weighs its packet with this
abbrev pub weigh_event : ℕ → Weighing → HopEvent
weigh_event p w = event.Weigh p w.class w.want w.desired w.online

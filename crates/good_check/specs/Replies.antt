-- What the rule is asked with for the replies of an application.
use Rattle.std.specs.Prelude.{ℕ, ◌≡◌, Bool, true, ◌==◌, Option, Some, slice_index, slice_index_or}
use Rattle.std.specs.List.{list_all}
use Rattle.std.specs.Option.{option_map}
use Rattle.steer_base.specs.Counters.{number}
use Rattle.steer_base.specs.Entries.{position}
use Rattle.steer_base.specs.declared.choice.Chosen.{Chosen}
use Rattle.dev_flow_table.specs.Tables.{cleared}
use Rattle.xps_map.specs.Maps.{picked}
use Rattle.history.specs.Lists.{list_at, no_arrival}
use Rattle.history.specs.declared.history.History.{History}
use Rattle.history.specs.declared.sent.Sent.{Sent}
use Rattle.steer_model.specs.Good.Choices.{accepted_in}
use Rattle.steer_model.specs.State.Settings.{Settings}
use Rattle.steer_model.specs.State.Setup.{Setup, flow_number_of, packet_hash}
use Rattle.steer_model.specs.Steps.Applications.{everyone}
use Rattle.rule_check.specs.Turns.{AreByTurns, Questions}

-- the position at which the transmit queue of a choice accepted its reply
abbrev pub tx_position : History → Chosen → Option ℕ
tx_position h c = option_map (number h.start) (position (accepted_in h.tx_lanes) c)

-- the transmit queue that the maps pick for the reply of an application to a packet: by the queue
-- at which the packet arrived and the processor of the application
abbrev pub reply_pick : Setup → Settings → History → ℕ → ℕ → ℕ
reply_pick p s h a x =
    picked s.maps (slice_index_or h.arrivals x no_arrival).queue (slice_index s.stands a)
    (packet_hash p x)

-- For a transmit choice of an application the rule is asked with the flow number of its packet as
-- class, with the pick of the maps as want and as desired queue, and with all queues online.
abbrev pub tx_questions : Setup → Settings → History → ℕ → Questions
tx_questions p s h a =
    record {
      class = λ c. Some (flow_number_of p c.id);
      want = λ c. Some (reply_pick p s h a c.id);
      desired = λ c. reply_pick p s h a c.id;
      position = tx_position h;
      online = everyone;
    }

-- whether a reply keeps this processor
abbrev pub is_from : ℕ → Sent → Bool
is_from cpu s = s.cpu == cpu

-- Each reply of an application keeps the processor of the application, and each of its transmit
-- choices is by the rule over the table of this many classes that the choices before it left.
pub record HasReplied (p : Setup) (s : Settings) (h : History) (flows a : ℕ) : Type 0 where
  pub stood : list_all (is_from (slice_index s.stands a)) (list_at h.sent a) ≡ true
  pub turns : AreByTurns (tx_questions p s h a) (cleared flows h.start true)
      (list_at h.tx_choices a)

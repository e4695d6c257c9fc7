-- What the rule is asked with for the choices of a receive queue.
use Rattle.std.specs.Prelude.{ℕ, ◌≡◌, Option, false, length, slice_index}
use Rattle.std.specs.Option.{option_map}
use Rattle.steer_base.specs.Choices.{desired_cpu}
use Rattle.steer_base.specs.Counters.{number}
use Rattle.steer_base.specs.Entries.{position}
use Rattle.steer_base.specs.declared.choice.Chosen.{Chosen}
use Rattle.dev_flow_table.specs.Tables.{cleared}
use Rattle.history.specs.Lists.{list_at}
use Rattle.history.specs.declared.history.History.{History}
use Rattle.steer_model.specs.Good.Choices.{accepted_in}
use Rattle.steer_model.specs.State.Settings.{Settings, class_at, plain_lane}
use Rattle.steer_model.specs.State.Setup.{Setup}
use Rattle.rule_check.specs.Turns.{AreByTurns, Questions}

-- the position at which the processor of a choice accepted its packet
abbrev pub rx_position : History → Chosen → Option ℕ
rx_position h c = option_map (number h.start) (position (accepted_in h.lanes) c)

-- For a choice of a receive queue the rule is asked with the class of its packet, with the want
-- that the choice keeps, and with the desired processor that these give.
abbrev pub rx_questions : Setup → Settings → History → ℕ → Questions
rx_questions p s h q =
    record {
      class = λ c. class_at p s q c.id;
      want = λ c. c.choice.want;
      desired = λ c. desired_cpu (class_at p s q c.id) c.choice.want s.online
          (plain_lane p s q c.id);
      position = rx_position h;
      online = s.online;
    }

-- A queue has one choice for each packet that was taken, each by the rule over the table that the
-- choices before it left.
pub record HasChosen (p : Setup) (s : Settings) (h : History) (q : ℕ) : Type 0 where
  pub count : length (list_at h.choices q) ≡ slice_index h.taken q
  pub turns : AreByTurns (rx_questions p s h q) (cleared (slice_index s.counts q) h.start false)
      (list_at h.choices q)

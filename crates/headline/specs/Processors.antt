-- When a flow changes its processor (kernel scaling chapter, sections RPS and RFS).
use Rattle.std.specs.Prelude.{ℕ, ◌≡◌, ◌≢◌, ◌↔◌, Bool, List, Option, Some, drop, slice_get, take}
use Rattle.std.specs.Prelude.{length, unwrap_or}
use Rattle.history.specs.Lists.{list_at, packet_at}
use Rattle.history.specs.declared.history.History.{History}
use Rattle.history.specs.declared.lane_list.LaneList.{LaneList}
use Rattle.steer_base.specs.Choices.{class_of, desired_cpu}
use Rattle.steer_base.specs.Entries.{entry}
use Rattle.steer_base.specs.Moves.{MayLeave}
use Rattle.steer_base.specs.Sets.{has}
use Rattle.steer_base.specs.declared.choice.Choice.{Choice}
use Rattle.steer_base.specs.declared.choice.Chosen.{Chosen}
use Rattle.steer_base.specs.declared.choice.Entry.{Entry}
use Rattle.steer_model.specs.Good.Choices.{IsByRule, WasWritten, accepted_in}
use Rattle.steer_model.specs.Good.Inputs.{Input, Prefixes, settings_at, setup_in, since_at}
use Rattle.steer_model.specs.State.Settings.{Settings, plain_lane}

-- The entry of a class before choice k of a list: the lane that the class has, if it has one, and
-- its recorded tail, by the choices from `since` on.
abbrev pub entry_before : (start : ℕ) → List LaneList → List Chosen → (since index class : ℕ)
    → Entry
entry_before start lanes choices since k class =
    entry start (accepted_in lanes) (drop since (take k choices)) class

-- A choice gives a class another lane than the one that it had just where the class may leave its
-- lane by the manual's three conditions: it has none, or another than the desired one that is
-- offline or whose head has reached the recorded tail. Then it goes to the desired one.
pub record ChangesByThree (c : Choice) (desired : ℕ) (online : ℕ → Bool) (before : Entry)
    : Type 0 where
  pub just_where : Some c.lane ≢ before.lane
      ↔ MayLeave desired before.tail (λ lane. unwrap_or c.head 0) online before.lane
  pub to : Some c.lane ≢ before.lane → c.lane ≡ desired

-- The desired processor of packet x of queue q, with this class and want.
abbrev pub desired_for : Input → Settings → ℕ → ℕ → Option ℕ → Option ℕ → ℕ
desired_for i s q x class want =
    desired_cpu class want s.online (plain_lane (setup_in i) s q x)

-- Choice k of queue q, with these settings: it is the migration rule over the entry of its class,
-- with the want and the head that it keeps, and a want was written to the socket flow table by an
-- application, at the place of the packet's hash. So the flow changes its processor by the manual's
-- three conditions.
pub record IsChosen (i : Input) (h : History) (q k : ℕ) (c : Chosen) (s : Settings) (since : ℕ)
    : Type 0 where
  pub rule : IsByRule i h q k s since
  pub moves : (class : ℕ) → c.choice.class ≡ Some class
      → ChangesByThree c.choice (desired_for i s q c.id (Some class) c.choice.want) (has s.online)
      (entry_before h.start h.lanes (list_at h.choices q) since k class)
  pub want : (cpu : ℕ) → c.choice.want ≡ Some cpu
      → (place : ℕ) × (class_of s.sock (packet_at i.packets c.id).hash ≡ Some place)
      × WasWritten h (record { entry = place; cpu = cpu })

-- Each choice of a processor is by the rule, with the settings after the commands that were given
-- before it: `at` of them, no fewer than before the choice before it.
pub record ProcessorsAreChosen (i : Input) (h : History) (at : ℕ → ℕ → ℕ) : Type 0 where
  pub moments : (q : ℕ) → Prefixes (length (list_at h.choices q)) (length h.commands) (at q)
  pub each : (q k : ℕ) (c : Chosen) → slice_get (list_at h.choices q) k ≡ Some c
      → IsChosen i h q k c (settings_at i h (at q k)) (since_at h.commands q (at q) k)

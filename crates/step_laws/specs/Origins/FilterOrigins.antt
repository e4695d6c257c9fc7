-- Where the filters in force come from (kernel scaling chapter, section accelerated RFS).
use Rattle.std.specs.Prelude.{ℕ, ◌+◌, ◌<◌, ◌≤◌, ◌≡◌, true, List, Option, Some, length, slice_get}
use Rattle.steer_base.specs.Filters.{filter_written}
use Rattle.steer_base.specs.HashTables.{place_in_rows}
use Rattle.steer_base.specs.declared.choice.Chosen.{Chosen}
use Rattle.steer_base.specs.declared.filter.Filter.{Filter}
use Rattle.steer_base.specs.declared.packet.Packet.{Packet}
use Rattle.steer_base.specs.declared.step.Step.{Step}
use Rattle.history.specs.Finding.{is_in}
use Rattle.hop_model.specs.Hop.{HopState, accepted_at, choices_of, placed_of, taken_of}
use Rattle.plan_reader.specs.declared.plan.Plan.{Plan}
use Rattle.steer_model.specs.State.Machine.{Machine, last_chosen, note_of}
use Rattle.steer_model.specs.Steps.Pollers.{filter_for}
use Rattle.steer_model.specs.State.Setup.{packet_hash}
use Rattle.steer_model.specs.State.Start.{new_machine}
use Rattle.step_laws.specs.Origins.TableWrites.{filter_at}
use Rattle.steer_model.specs.Steps.CompoundSteps.{after}
use Rattle.steer_model.specs.declared.note.Note.TheVariants as note

-- The chosen lane of a choice, if there is such a lane, accepted its packet.
abbrev pub WasAccepted : HopState → Chosen → Type 0
WasAccepted s c =
    c.choice.lane < length s.bare.accepted → is_in c.id (accepted_at s.bare c.choice.lane) ≡ true

-- A producer has at most one packet in hand, and weighs none that it did not take.
abbrev pub HoldOne : HopState → Type 0
HoldOne s =
    (q : ℕ) → (length (choices_of s q) ≤ taken_of s q) × (taken_of s q ≤ placed_of s q + 1)

-- A filter at a place is the one that is written after a choice of some queue, at some position:
-- the choice moved to a processor that is home to the filter's queue, its packet was accepted
-- there, and the hash of the packet has this place.
pub record FilterIsFrom (m : Machine) (place : ℕ) (f : Filter) : Type 0 where
  pub queue : ℕ
  pub choice : Chosen
  pub position : ℕ
  pub chosen : (k : ℕ) × (slice_get (choices_of m.rx queue) k ≡ Some choice)
  pub written : filter_written m.setup.homes choice.choice.why choice.choice.lane position ≡ Some f
  pub accepted : WasAccepted m.rx choice
  pub there : place_in_rows m.filters (packet_hash m.setup choice.id) ≡ Some place

-- Each filter that is set is from a choice, and each that a poller asks for is from its last
-- choice, whose packet was accepted.
pub record FiltersAreFrom (m : Machine) : Type 0 where
  pub filters : (place : ℕ) (f : Filter) → filter_at place m ≡ Some f → FilterIsFrom m place f
  pub asking : (q : ℕ) (f : Filter) → note_of m q ≡ note.Asking f
      → (position : ℕ)
      × (filter_for m.setup.homes (length m.filters) (last_chosen m.rx q).choice position ≡ Some f)
      × WasAccepted m.rx (last_chosen m.rx q)
  pub hands : HoldOne m.rx

-- Filters are from choices in the machine that a plan starts, and after any steps from there.
pub record FiltersAreFromChoices : Type 0 where
  pub start : (plan : Plan) (packets : List Packet) (cut : Option ℕ)
      → FiltersAreFrom (new_machine plan packets cut)
  pub later : (ss : List Step) (m : Machine) → FiltersAreFrom m → FiltersAreFrom (after ss m)

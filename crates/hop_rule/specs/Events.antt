-- The bare hop that an order of steps shows, and the event of it that each step is.
use Rattle.std.specs.Prelude.{◌≡◌, ℕ, zero, suc, ◌+◌, true, List, [], ◌∷◌, length, map, nat_lt}
use Rattle.std.specs.List.{range_with_len}
use Rattle.linearization.specs.Orders.{StepBy, step_by}
use Rattle.hop_model.specs.BareEvents.{BareEvent, MayBe, bare_after, nothing, enters, leaves}
use Rattle.hop_model.specs.BareEvents.{closes}
use Rattle.hop_model.specs.BareEvents.{opens, offers, pulls, delivers, retires}
use Rattle.hop_model.specs.Hop.{Fixed, Bare}
use Rattle.hop_model.specs.Shape.{fresh_hop}
use Rattle.hop_rule.specs.Boards.{lanes_of, gates_of, lane_at, IsLawful, visit_of}
use Rattle.hop_rule.specs.Deliveries.{delivered_from}
use Rattle.hop_rule.specs.Gates as gates
use Rattle.hop_rule.specs.Lanes as lanes
use Rattle.hop_rule.specs.declared.sizes.BoardSizes.{BoardSizes}
use Rattle.hop_rule.specs.declared.step.BoardStep.{BoardStep}
use Rattle.hop_rule.specs.declared.step.BoardStep.TheVariants.{Lane, Gate}
use Rattle.hop_rule.specs.declared.step.Change.{Change}
use Rattle.hop_rule.specs.declared.step.Change.TheVariants.{Nothing, Offered, Pulled}
use Rattle.hop_rule.specs.declared.step.GateStep.{GateStep}
use Rattle.hop_rule.specs.declared.step.GateStep.TheVariants.{Entered, Left, Shut, Opened}
use Rattle.hop_rule.specs.declared.step.LaneStep.{LaneStep}
use Rattle.hop_rule.specs.declared.step.LaneStep.TheVariants.{Freed, Given, Retired}

-- The sum of f over the numbers below n.
abbrev pub sum_below : (ℕ → ℕ) → ℕ → ℕ
sum_below f zero = 0
sum_below f (suc n) = sum_below f n + f n

-- 1 for a seat inside the gate, 0 for one outside or backing out.
abbrev pub is_in : gates.Visit → ℕ
is_in gates.outside = 0
is_in gates.inside = 1
is_in gates.backing = 0

-- ---- the bare hop

module _ (about : BoardSizes) where
  -- The fixed numbers of the bare hop that a board of these sizes shows.
  abbrev pub fixed : Fixed
  fixed =
      record {
        limit = about.limit;
        room = about.room;
        start = about.start;
        exact = true;
        limited = about.limited;
      }

  -- The list of f over the middle lanes.
  abbrev pub of_lanes : {X : Type 0} → (ℕ → X) → List X
  of_lanes f = map f (range_with_len 0 about.lanes)

  -- The number of seats inside the gate.
  abbrev pub inside_count : List (StepBy BoardStep) → ℕ
  inside_count es = sum_below (λ p. is_in (visit_of about p es)) about.seats

  -- The bare hop of an order: each of its lists is read from the order.
  abbrev pub bare : List (StepBy BoardStep) → Bare
  bare es =
      record {
        accepted = of_lanes (λ l. (lane_at about es l).accepted);
        offers = of_lanes (λ l. (lane_at about es l).offers);
        drops = of_lanes (λ l. (lane_at about es l).drops);
        pulled = of_lanes (λ l. (lane_at about es l).pulled);
        delivered = of_lanes (λ l. length (delivered_from l (lanes_of es)));
        retired = of_lanes (λ l. lanes.retired l (lanes_of es));
        outs = map (λ o. lanes.out o (lanes_of es)) (range_with_len 0 about.outs);
        inside = inside_count es;
        closed = nat_lt 0 (gates.all_closed (gates_of es));
      }

-- ---- the event that a step is

-- The event of the bare hop that a release of the middle lane l is, by its change.
abbrev pub release_event : ℕ → Change → BareEvent
release_event l Nothing = nothing
release_event l (Offered id hash answer) = offers l id hash
release_event l (Pulled id) = pulls l

-- The event of the bare hop that a step at a lane is.
abbrev pub lane_event : LaneStep → BareEvent
lane_event (Freed l c) = release_event l c
lane_event (Given o from id place) = delivers from o
lane_event (Retired l w) = retires l
lane_event _ = nothing

-- The event of a step that ends a visit: a leave of a seat that is inside, nothing of one that
-- backs out.
abbrev pub leave_event : gates.Visit → BareEvent
leave_event gates.inside = leaves
leave_event _ = nothing

-- The event of the bare hop that a step at the gate is, by where its seat is.
abbrev pub gate_event : gates.Visit → GateStep → BareEvent
gate_event v (Entered w) = enters
gate_event v Left = leave_event v
gate_event v (Shut w) = closes
gate_event v Opened = opens
gate_event v _ = nothing

-- The event of the bare hop that a step is: a put, a pull, a delivery, a retire, an entry, a leave,
-- a close, an opening, or nothing.
abbrev pub step_event : gates.Visit → BoardStep → BareEvent
step_event v (Lane d) = lane_event d
step_event v (Gate d) = gate_event v d
step_event v _ = nothing

-- ---- laws

-- Before any step the bare hop of a board is that of a hop in which nothing has happened.
abbrev pub BeginsFresh : Type 0
BeginsFresh =
    (about : BoardSizes) (counts : List ℕ) (guests : ℕ)
    → bare about [] ≡ (fresh_hop (fixed about) counts guests about.lanes about.outs).bare

-- Each step of a lawful order is an event that may happen in the bare hop before it, and the bare
-- hop after it is what the event leaves.
abbrev pub EachStepIsAnEvent : Type 0
EachStepIsAnEvent =
    (about : BoardSizes) (p : ℕ) (d : BoardStep) (es : List (StepBy BoardStep))
    → IsLawful about (step_by p d ∷ es)
    → MayBe (bare about es) (step_event (visit_of about p es) d)
    × (bare about (step_by p d ∷ es)
    ≡ bare_after (fixed about) (bare about es) (step_event (visit_of about p es) d))

-- The machine of a plan in memory is that of its definition.
use Rattle.std.proofs.Common.{ℕ, ◌+◌, ◌≡◌, true, false, List, [], ◌∷◌, Option, length}
use Rattle.std.proofs.Common.{map, max, replicate, suc, zero}
use Rattle.std.proofs.Common.{refl, ap, ◌∙◌, sym, subst}
use Rattle.std.specs.Prelude.{Result, Ok, Err, IfOk}
use Rattle.steer_base.specs.Counters.{rounded_up}
use Rattle.steer_base.specs.Journals.{Journal, Journals, journal, new_journals}
use Rattle.steer_base.specs.declared.filter.Filter.{Filter}
use Rattle.steer_base.specs.declared.packet.Packet.{Packet}
use Rattle.hop_model.specs.Hop.{HopState}
use Rattle.hop_model.specs.Shape.{classes_for, fresh_hop}
use Rattle.accel_filter.specs.Table as table
use Rattle.sock_flow_table.specs.Sockets as sockets
use Rattle.history.specs.declared.arrival.Arrival.{Arrival}
use Rattle.history.specs.declared.commanded.Commanded.{Commanded}
use Rattle.history.specs.declared.sent.Sent.{Sent}
use Rattle.history.specs.declared.sock_write.SockWrite.{SockWrite}
use Rattle.plan_reader.specs.Plans.{step_count}
use Rattle.plan_reader.specs.declared.plan.Plan.{Plan}
use Rattle.plan_reader.specs.declared.plan.QueuePlan.{QueuePlan}
use Rattle.steer_model.specs.Capture.FlowCounts.{flow_count}
use Rattle.steer_model.specs.State.Settings.{Settings}
use Rattle.steer_model.specs.State.Setup.{Setup}
use Rattle.steer_model.specs.State.Start.{fresh_rx, fresh_tx, initial_settings, setup_of}
use Rattle.steer_model.specs.declared.note.Note.{Note}
use Rattle.steer_model.specs.declared.note.Note.TheVariants as note
use Rattle.steer_invariant.specs.InvariantLaws.{MayStart}
use Rattle.steer_invariant.proofs.Invariant.StartLemmas.{held-new}
use Rattle.steer_core.specs.Running.{IsRunning, Parts, running_parts, running}
use Rattle.steer_core.specs.Starting.{started}

-- a result that is one value is any that is equal to it
pub ok-same : {X E : Type 0} (r : Result X E) (a b : X) → a ≡ b → IfOk r (λ x. x ≡ a)
    → IfOk r (λ x. x ≡ b)
ok-same (Ok x) a b e is = is ∙ e
ok-same (Err why) a b e is = tt

-- ---- the hops

rounded-flows : (queues : List QueuePlan)
    → map (classes_for false) (map (λ queue. queue.flows) queues) ≡ map
    (λ queue. rounded_up queue.flows) queues
rounded-flows [] = refl
rounded-flows (q ∷ qs) = ap (λ ns. rounded_up q.flows ∷ ns) (rounded-flows qs)

exact-counts : (n count : ℕ) → map (classes_for true) (replicate n count) ≡ replicate n count
exact-counts zero count = refl
exact-counts (suc n) count = ap (λ ns. count ∷ ns) (exact-counts n count)

pub rx-is : (plan : Plan) (packets : List Packet) (counts : List ℕ) (apps room : ℕ)
    → counts ≡ map (λ queue. queue.flows) plan.queues → apps ≡ length plan.apps
    → room ≡ length packets
    → fresh_hop
    (record {
      limit = plan.backlog;
      room = room;
      start = plan.start;
      exact = false;
      limited = plan.limited;
    })
    (map (classes_for false) counts) (apps + 1) plan.cpus apps
    ≡ fresh_rx plan packets
rx-is plan packets counts apps room c a r = rw (c, a, r, rounded-flows plan.queues) refl

pub tx-is : (plan : Plan) (packets : List Packet) (counts : List ℕ) (txs room : ℕ)
    → counts ≡ replicate (length plan.apps) (max 1 (flow_count packets)) → txs ≡ length plan.tx
    → room ≡ length packets
    → fresh_hop
    (record {
      limit = 262144;
      room = room;
      start = plan.start;
      exact = true;
      limited = record { 0 = 0 };
    })
    (map (classes_for true) counts) 0 txs 1
    ≡ fresh_tx plan packets
tx-is plan packets counts txs room c t r =
    rw (c, t, r, exact-counts (length plan.apps) (max 1 (flow_count packets))) refl

-- ---- the machine

-- its parts, as they are made
abbrev new_parts : Plan → List Packet → Option ℕ → Parts
new_parts plan packets cut =
    running_parts (setup_of plan packets cut) (initial_settings plan)
    (sockets.unset (initial_settings plan).sock)
    (table.unset plan.filters) (replicate (length plan.queues) note.Nothing) (fresh_rx plan packets)
    (fresh_tx plan packets) (journal [] (length packets)) (new_journals (length plan.apps)
    (length packets))
    (new_journals (length plan.apps) (step_count plan + length packets))
    (journal [] (step_count plan))

pub are_new : (plan : Plan) (packets : List Packet) (cut : Option ℕ) (given : Setup)
    (settings : Settings)
    (socket : List (Option ℕ)) (filters : List (Option Filter)) (notes : List Note)
    (rx tx : HopState)
    (arrivals : Journal Arrival) (sent : Journals Sent) (writes : Journals SockWrite)
    (commands : Journal Commanded)
    → given ≡ setup_of plan packets cut → settings ≡ initial_settings plan → socket ≡ sockets.unset
    (initial_settings plan).sock
    → filters ≡ table.unset plan.filters → notes ≡ replicate (length plan.queues) note.Nothing
    → rx ≡ fresh_rx plan packets → tx ≡ fresh_tx plan packets → arrivals ≡ journal []
    (length packets)
    → sent ≡ new_journals (length plan.apps) (length packets)
    → writes ≡ new_journals (length plan.apps) (step_count plan + length packets)
    → commands ≡ journal [] (step_count plan)
    → running_parts given settings socket filters notes rx tx arrivals sent writes
    commands ≡ new_parts
    plan packets cut
are_new plan packets cut given settings socket filters notes rx tx arrivals sent writes commands a b
    c d e f g h i j k =
    rw (a, b, c, d, e, f, g, h, i, j, k) refl

-- so they are sound, and the machine is the plan's
pub is_made : (plan : Plan) (packets : List Packet) (cut : Option ℕ) (p : Parts)
    → MayStart plan packets
    → p ≡ new_parts plan packets cut → IsRunning p × (running p ≡ started plan packets cut)
is_made plan packets cut p may is = (
  subst IsRunning (sym is)
      (held-new plan packets cut may, record { arrivals_room = refl; sent_room = refl }),
  ap running is,
)

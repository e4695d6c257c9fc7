-- What the history of a machine is counted in is small.
use Rattle.std.proofs.Common.{ℕ, ◌^◌, ◌≤◌, ◌<◌, ◌≡◌, List, [], length, get_or, map, arith, ◌∙◌}
use Rattle.std.specs.Prelude.{count_by, filter, sum, ◌==◌}
use Rattle.std.proofs.Math.Nat.{mul-le-mul_right}
use Rattle.std.proofs.lemmas.List.{length-map}
use Rattle.std.proofs.lemmas.List.Elements.{All-from_get_or}
use Rattle.std.proofs.lemmas.List.FromFn.{length-map-range_with_len}
use Rattle.std.proofs.lemmas.List.Sums.{count_by-le-length, length-filter, sum-map, sum_by-le}
use Rattle.history.specs.Lists.{arrivals_at, list_at, no_lane}
use Rattle.history.specs.declared.arrival.Arrival.{Arrival}
use Rattle.history.specs.declared.history.History.{History}
use Rattle.history.proofs.BoundLemmas.{short-lists}
use Rattle.steer_base.specs.Choices.{has_moved}
use Rattle.steer_base.specs.declared.choice.Chosen.{Chosen}
use Rattle.steer_base.specs.declared.packet.Packet.{Packet}
use Rattle.steer_model.specs.State.Machine.{Machine, history_of, lane_list}
use Rattle.steer_invariant.specs.Invariant.{Invariant}
use Rattle.steer_invariant.specs.InvariantLaws.{IsReportable}
use Rattle.replay.specs.Counts.{IsCountable}

-- the sum of few small numbers is small
small : {X : Type 0} (f : X → ℕ) (xs : List X) (d : X) → length xs ≤ 32
    → ((i : ℕ) → i < length xs → f (get_or xs i d) ≤ 2 ^ 32) → sum (map f xs) < 2 ^ 64
small f xs d few each =
    let all = sum_by-le f (2 ^ 32) xs (All-from_get_or (λ x. f x ≤ 2 ^ 32) xs d each) in
    let least = mul-le-mul_right (2 ^ 32) few in
    rw (sum-map f xs) (omega (arith, all, least))

abbrev moves : List Chosen → ℕ
moves choices = count_by (λ chosen. has_moved chosen.choice.why) choices

-- no more packets arrived at a queue than at all queues
few_arrivals : (arrivals : List Arrival) (q : ℕ) → length (arrivals_at arrivals q) ≤ length arrivals
few_arrivals arrivals q =
    let here = filter (λ a. a.queue == q) arrivals in
    omega (
      arith,
      length-map here (λ a. a.id),
      length-filter (λ a. a.queue == q) arrivals,
      count_by-le-length (λ a. a.queue == q) arrivals,
    )

-- the moves of a queue are at most the packets that arrived
few_moves : (packets : List Packet) (apps : ℕ) (h : History) → IsReportable packets apps h → (q : ℕ)
    → moves (list_at h.choices q) ≤ 262144
few_moves packets apps h r q =
    let a = r.regular.arrived in
    omega (
      arith,
      count_by-le-length (λ chosen. has_moved chosen.choice.why) (list_at h.choices q),
      a.chosen_taken q,
      a.taken q,
      few_arrivals h.arrivals q,
      r.few_arrivals,
    )

pub countable : (m : Machine) → Invariant m → IsReportable m.setup.packets m.setup.apps
    (history_of m)
    → IsCountable (history_of m)
countable m held r =
    let h = history_of m in
    let g = held.kept.given in
    let z = held.kept.rx.sizes in
    let w = held.kept.rx.sound.wide in
    let short = short-lists m.setup.packets m.setup.apps h r.regular r.few_packets in
    let lanes : length h.lanes ≡ m.setup.cpus =
    length-map-range_with_len (lane_list m.rx.bare) 0 (length m.rx.bare.accepted) ∙ z.cpus in
    record {
      delivered = small (λ inbox. length inbox) h.inboxes [] (omega (arith, z.apps, g.few_apps))
          (λ a l. omega (arith, short.inboxes a));
      dropped = small (λ lane. length lane.drops) h.lanes no_lane (omega (arith, lanes, g.few_cpus))
          (λ c l. omega (arith, short.dropped c));
      moved = small moves h.choices [] (omega (arith, w.choices, z.queues, g.few_queues))
          (λ q l. omega (arith, few_moves m.setup.packets m.setup.apps h r q));
    }

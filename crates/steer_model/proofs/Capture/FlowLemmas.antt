-- How many flows numbered packets have.
use Rattle.std.proofs.Common.{ℕ, zero, suc, ◌+◌, ◌≤◌, ◌<◌, ◌≡◌, ◌⊎◌, inl, inr, List, [], ◌∷◌}
use Rattle.std.proofs.Common.{length, fold, map, max, refl, arith}
use Rattle.std.proofs.lemmas.Bool.{cases_lt}
use Rattle.history.specs.Lists.{packet_at}
use Rattle.steer_base.specs.declared.packet.Packet.{Packet}
use Rattle.steer_model.specs.Capture.FlowCounts.{FlowsAreCounted, flow_count}
use Rattle.steer_model.specs.State.Ranges.{AreOfFlows}

-- the greatest number so far, and those of more packets
abbrev greatest : ℕ → List Packet → ℕ
greatest most packets =
    fold (λ least count. max least count) most (map (λ packet. packet.flow_number + 1) packets)

grows : (packets : List Packet) (most : ℕ) → most ≤ greatest most packets
grows [] most = omega arith
grows (p ∷ ps) most = omega (arith, grows ps (max most (p.flow_number + 1)))

below : (packets : List Packet) (most x : ℕ) → x < length packets
    → (packet_at packets x).flow_number < greatest most packets
below [] most x lt = absurd (omega arith)
below (p ∷ ps) most zero lt = omega (arith, grows ps (max most (p.flow_number + 1)))
below (p ∷ ps) most (suc x) lt = below ps (max most (p.flow_number + 1)) x (omega arith)

-- the packet of the greatest number, where there is a greater one than before
pub record Reaches (packets : List Packet) (n : ℕ) : Type 0 where
  pub at : ℕ
  pub within : at < length packets
  pub is : (packet_at packets at).flow_number + 1 ≡ n

reached : (packets : List Packet) (most : ℕ)
    → (greatest most packets ≡ most) ⊎ Reaches packets (greatest most packets)
reached [] most = inl refl
reached (p ∷ ps) most =
    elim (reached ps (max most (p.flow_number + 1))) [
      | inl same ↦
          elim (cases_lt most (p.flow_number + 1)) [
            | inl l ↦ inr (record { at = 0; within = omega arith; is = omega (arith, same) })
            | inr l ↦ inl (omega (arith, same))
          ]
      | inr r ↦ inr (record { at = suc r.at; within = omega (arith, r.within); is = r.is })
    ]

pub below_count : (packets : List Packet) (x : ℕ) → x < length packets
    → (packet_at packets x).flow_number < flow_count packets
below_count packets x lt = below packets 0 x lt

-- no flow number is above the number of packets, so there are at most as many flows
pub count_within : (packets : List Packet) → AreOfFlows packets
    → flow_count packets ≤ length packets
count_within packets are =
    elim (reached packets 0) [
      | inl none ↦ omega (arith, none)
      | inr r ↦ let lt = are.below r.at r.within in omega (arith, r.is, lt)
    ]

pub flows_are_counted : FlowsAreCounted
flows_are_counted packets numbered =
    record {
      below = λ x lt. below packets 0 x lt;
      each = λ number lt.
          elim (reached packets 0) [
            | inl none ↦ absurd (omega (arith, none, lt))
            | inr r ↦
                elim (cases_lt number (packet_at packets r.at).flow_number) [
                  | inl l ↦
                      let first = numbered.first r.at number r.within l in
                      (first.0, omega (arith, first.1, r.within), first.2)
                  | inr l ↦ (r.at, r.within, omega (arith, r.is, lt))
                ]
          ];
    }

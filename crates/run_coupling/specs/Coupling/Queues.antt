-- What the workers keep of the receive queues whose packets they steer.
use Rattle.std.specs.Prelude.{◌≡◌, ℕ, ◌%◌, ◌^◌, ◌<◌, ◌≤◌, List, Some, length, slice_index}
use Rattle.steer_base.specs.Counters.{rounded_up}
use Rattle.steer_base.specs.declared.limits.TheConstants.{MAX_FLOW_COUNT, MAX_SOCKET_SIZE}
use Rattle.history.specs.Lists.{arrivals_at, list_at}
use Rattle.history.specs.declared.history.History.{History}
use Rattle.hop_rule.specs.Moments.{nth_step}
use Rattle.hop_rule.specs.declared.sizes.BoardSizes.{BoardSizes}
use Rattle.hop_rule.specs.declared.step.BoardStep.{BoardStep}
use Rattle.hop_delivery.specs.Closings.TurnReads.{HasSeen, Knows}
use Rattle.hop_delivery.specs.Orders.ReceiveSettings.{Queues, flows_word, mask_word, online_word}
use Rattle.hop_delivery.specs.Orders.ReceiveSettings.{receive_steering, socket_word}
use Rattle.hop_delivery.specs.Orders.Runs.{Execution, turns_of}
use Rattle.hop_delivery.specs.Orders.Turns.{Turn}
use Rattle.steer_model.specs.Good.Inputs.{Input, setup_in}
use Rattle.steer_model.specs.State.Setup.{packet_hash}
use Rattle.run_coupling.specs.Coupling.Inputs.{receive_queues}
use Rattle.run_coupling.specs.Coupling.OwnTables.{IsByTable}
use Rattle.run_coupling.specs.Coupling.Turns.{KeepsTurns}

-- The words of a receive queue are within the ranges of what they say: a set of processors, a
-- rounded flow count below the number of its changes, a socket size, and a set of the board's
-- processors.
pub record FitReceiveWords (q : Queues) (cpus p : ℕ) (s : ℕ → ℕ) : Type 0 where
  pub mask : s (mask_word q p) < 2 ^ cpus
  pub flows : s (flows_word q p) % 2 ^ 32 ≤ MAX_FLOW_COUNT
  pub rounded : rounded_up (s (flows_word q p) % 2 ^ 32) ≡ s (flows_word q p) % 2 ^ 32
  pub sock : s (socket_word q) ≤ MAX_SOCKET_SIZE
  pub online : s (online_word q) < 2 ^ cpus

module _ (i : Input) (h : History) (about : BoardSizes) (own : ℕ → List BoardStep) where
  -- The journals of the receive queues, by the turns that explain the workers' own lists. The k-th
  -- turn of a queue knows its settings; if they are within their ranges, its choice is by the
  -- queue's own table. Each packet is put with its hash.
  pub record KeepsQueues (t : Execution) (seen : ℕ → ℕ → ℕ → ℕ) : Type 0 where
    pub turns : KeepsTurns own t
    pub choice_lists : length h.choices ≡ length i.plan.queues
    pub taken_lists : length h.taken ≡ length i.plan.queues
    pub arrivals : (p : ℕ) → t.arrivals p ≡ arrivals_at h.arrivals p
    pub choices : (p : ℕ) → list_at h.choices p ≡ t.choices p
    pub taken : (p : ℕ) → slice_index h.taken p ≡ length (t.choices p)
    pub hashes : (p k : ℕ) (u : Turn) → nth_step (turns_of t p) k ≡ Some u
        → u.hash ≡ packet_hash (setup_in i) u.chosen.id
    pub knows : (p k : ℕ) (u : Turn) → nth_step (turns_of t p) k ≡ Some u
        → HasSeen (own (t.seat p)) (receive_queues i) p u (seen p k)
    pub knows_sock : (p k : ℕ) (u : Turn) → nth_step (turns_of t p) k ≡ Some u
        → Knows (own (t.seat p)) u (socket_word (receive_queues i))
        (seen p k (socket_word (receive_queues i)))
    pub by_table : (p k : ℕ) (u : Turn) → nth_step (turns_of t p) k ≡ Some u
        → FitReceiveWords (receive_queues i) i.plan.cpus p (seen p k)
        → IsByTable about.start t (receive_steering (receive_queues i)) (seen p) p k u

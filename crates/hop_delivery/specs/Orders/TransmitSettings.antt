-- How a transmit board steers: each reply is to go to the queue that was picked for it (kernel
-- scaling chapter, section XPS). The producers are the applications, the lanes are the transmit
-- queues, and the only out lane is the port. Each flow is a class, and nothing goes offline.
use Rattle.std.specs.Option.{unwrap_or}
use Rattle.std.specs.Prelude.{ℕ, ◌+◌, true, false, Option, Some}
use Rattle.steer_base.specs.{Sends.pick_of, Sets.has, Sets.has_queue}
use Rattle.hop_delivery.specs.Orders.{ReceiveSettings.mask, Runs.Steering}

-- How a transmit board steers, by the flow of each packet: what is wanted of a reply is the queue
-- that was picked.
abbrev pub transmit_steering : (ℕ → ℕ) → Steering
transmit_steering flow = record {
  flow = flow;
  to = λ f. 0;
  shape = λ s p. 0;
  class = λ shape f. Some f;
  plain = λ s p f. 0;
  desired = λ s p f want. unwrap_or want 0;
  online = λ s l. true;
  affects = λ s w v l. false;
}

-- The transmit queue that is picked by settings: the words are the processor masks of the transmit
-- queues, then their receive-queue masks.
abbrev pub pick_by : (count : ℕ) → (ℕ → ℕ) → (rxq cpu : ℕ) → Option ℕ → ℕ
pick_by count s rxq cpu hash =
    pick_of count (λ tx q. has_queue (s (count + tx)) q) (λ tx c. has (mask (s tx)) c) rxq cpu hash

-- Transmit boards steer as the law of delivery in order asks.
use Rattle.hop_delivery.proofs.Names.{ℕ, refl, true≢false, IsSteering}
use Rattle.hop_delivery.specs.Orders.TransmitSettings.{transmit_steering}

pub transmit_steers : (flow : ℕ → ℕ) (lanes : ℕ) → IsSteering lanes (transmit_steering flow)
transmit_steers flow lanes = record {
  off = λ s w v l less on gone. absurd (true≢false gone);
  moves = λ s w v p f ne. absurd (ne refl);
  resizes = λ s w v p l less ne. absurd (ne refl);
}

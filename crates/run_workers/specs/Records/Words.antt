-- What a seat keeps of its own steps at the words of packets. Lists of steps have the newest first.
use Rattle.std.specs.Prelude.{ℕ, ◌≡◌, ◌≢◌, ◌<◌, List, Some}
use Rattle.history.specs.declared.sock_write.SockWrite.{SockWrite}
use Rattle.hint_words.specs.declared.step.HintStep.{HintStep}
use Rattle.hint_words.specs.declared.step.HintStep.TheVariants.{Load}
use Rattle.hop_rule.specs.Moments.{nth_step}

-- The step by which a packet was marked as steered, by the number of the seat's steps before it.
pub record Mark : Type 0 where
  pub packet : ℕ
  pub number : ℕ

-- A write to the socket flow table, with the packet for which it was made.
pub record Note : Type 0 where
  pub packet : ℕ
  pub write : SockWrite

-- Before the step n this word was loaded, and it was set.
pub record FoundBefore (steps : List HintStep) (word n : ℕ) : Type 0 where
  pub step : ℕ
  pub earlier : step < n
  pub value : ℕ
  pub loads : nth_step steps step ≡ Some (Load word value)
  pub set : value ≢ 0

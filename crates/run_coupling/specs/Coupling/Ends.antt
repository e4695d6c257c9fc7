-- What the end of the sweep has found: equal counts.
use Rattle.std.specs.Prelude.{◌≡◌, ℕ, ◌<◌, List, length, map}
use Rattle.std.specs.List.{range_with_len}
use Rattle.history.specs.Lists.{list_at}
use Rattle.history.specs.declared.history.History.{History}
use Rattle.hop_rule.specs.Events.{sum_below}
use Rattle.hop_rule.specs.Sizes.{puller}
use Rattle.hop_rule.specs.declared.sizes.BoardSizes.{BoardSizes}
use Rattle.hop_rule.specs.declared.step.BoardStep.{BoardStep}
use Rattle.board_api.specs.OwnSteps.{accepted_by, given_to, retired_by}
use Rattle.steer_model.specs.Good.Inputs.{Input}

-- All packets of the capture arrived, in their order.
abbrev pub AllArrived : Input → History → Type 0
AllArrived i h = map (λ a. a.id) h.arrivals ≡ range_with_len 0 (length i.packets)

module _ (about : BoardSizes) (own : ℕ → List BoardStep) where
  -- The packets of all seats that the lane accepted.
  abbrev pub accepted_count : ℕ → ℕ
  accepted_count l = sum_below (λ q. length (accepted_by l (own q))) about.seats

  -- The packets that the lane's seat has retired.
  abbrev pub retired_count : ℕ → ℕ
  retired_count l = length (retired_by l (own (puller about l)))

  -- Of each lane its seat has retired as many packets as all seats' puts were accepted.
  abbrev pub AllRetired : Type 0
  AllRetired = (l : ℕ) → l < about.lanes → accepted_count l ≡ retired_count l

  -- The same of all lanes together.
  abbrev pub TotalsRetired : Type 0
  TotalsRetired = sum_below accepted_count about.lanes ≡ sum_below retired_count about.lanes

  -- All applications together have begun as many replies as all lanes retired packets.
  abbrev pub TotalsReplied : History → Type 0
  TotalsReplied h =
      sum_below (λ a. length (list_at h.sent a)) about.outs
      ≡ sum_below retired_count about.lanes

  -- Each application has begun as many replies as all seats delivered packets to it.
  abbrev pub AllReplied : History → Type 0
  AllReplied h =
      (a : ℕ) → a < about.outs
      → length (list_at h.sent a) ≡ sum_below (λ q. length (given_to a (own q))) about.seats

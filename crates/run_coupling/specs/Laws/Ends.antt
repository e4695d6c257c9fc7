-- The end of a run by equal counts, for the eighth clause of a good history.
use Rattle.std.specs.Prelude.{◌≡◌, ◌⊎◌, ℕ, ◌<◌, ◌++◌, true, List, [], ◌∷◌, Option, Some, length}
use Rattle.std.specs.Prelude.{map, slice_get}
use Rattle.std.specs.Prelude.{All}
use Rattle.steer_base.specs.Orders.{IsPrefix}
use Rattle.steer_base.specs.declared.choice.Chosen.{Chosen}
use Rattle.steer_base.specs.declared.put.Put.{Put}
use Rattle.history.specs.Finding.{is_in}
use Rattle.history.specs.Lists.{arrivals_at, drop_ids, lane_at, list_at}
use Rattle.history.specs.declared.arrival.Arrival.{Arrival}
use Rattle.history.specs.declared.history.History.{History}
use Rattle.history.specs.declared.sent.Sent.{Sent}
use Rattle.hop_rule.specs.Events.{sum_below}
use Rattle.hop_rule.specs.Sizes.{puller}
use Rattle.hop_rule.specs.declared.sizes.BoardSizes.{BoardSizes}
use Rattle.hop_rule.specs.declared.step.BoardStep.{BoardStep}
use Rattle.hop_rule.specs.declared.step.BoardStep.TheVariants.{Lane}
use Rattle.hop_rule.specs.declared.step.LaneStep.TheVariants.{Given}
use Rattle.board_api.specs.OwnSteps.{Has, put_step}
use Rattle.board_api.specs.declared.lists.BoardLists.{BoardLists}
use Rattle.steer_model.specs.Good.Deliveries.{IsDone}
use Rattle.run_coupling.specs.Coupling.Ends.{AllReplied, AllRetired, TotalsReplied, TotalsRetired}

module _ (about : BoardSizes) (own : ℕ → List BoardStep) (lists : BoardLists) where
  -- If all lanes together have retired what they accepted, each lane has.
  abbrev pub TotalsSuffice : Type 0
  TotalsSuffice = TotalsRetired about own → AllRetired about own

  -- If each lane has retired what it accepted, each has pulled and delivered it too.
  abbrev pub LanesAreDone : Type 0
  LanesAreDone = AllRetired about own → All IsDone lists.lanes

  -- The packet of the lane was delivered to an out lane, where it stands.
  pub record WasDelivered (l id : ℕ) : Type 0 where
    pub to : ℕ
    pub index : ℕ
    pub step : ℕ
    pub place : ℕ
    pub does : Has (own (puller about l)) step (Lane (Given to l id place))
    pub stands : slice_get (list_at lists.outs to) index ≡ Some id

  -- If each lane has retired what it accepted, each packet that was put stands in an out lane or
  -- was
  -- dropped.
  abbrev pub PutsEnd : Type 0
  PutsEnd =
      AllRetired about own → (q k l id : ℕ) (hash : Option ℕ) (answer : Put)
      → Has (own q) k (put_step l id hash answer)
      → WasDelivered l id ⊎ (is_in id (drop_ids (lane_at lists.lanes l)) ≡ true)

  -- If each lane has retired what it accepted, each application replied to a front of its inbox,
  -- and
  -- all applications together replied as often as packets were retired, each replied as often as
  -- packets were delivered to it.
  abbrev pub RepliesSuffice : Type 0
  RepliesSuffice =
      AllRetired about own → (h : History) → h.inboxes ≡ lists.outs
      → ((a : ℕ) → IsPrefix (map (λ s. s.id) (list_at h.sent a)) (list_at h.inboxes a))
      → TotalsReplied about own h → AllReplied about own h

  -- If an application replied to a front of its inbox and as often as packets were delivered to it,
  -- it replied to the whole.
  abbrev pub AllAreSent : Type 0
  AllAreSent =
      (h : History) (a : ℕ) → a < about.outs → h.inboxes ≡ lists.outs
      → IsPrefix (map (λ s. s.id) (list_at h.sent a)) (list_at h.inboxes a)
      → AllReplied about own h
      → map (λ s. s.id) (list_at h.sent a) ≡ list_at h.inboxes a

-- If the choices of each queue are for its first arrivals, in order, and all queues together have
-- as
-- many choices as packets arrived, each arrival has its choice.
abbrev pub ChoicesSuffice : Type 0
ChoicesSuffice =
    (count : ℕ) (arrivals : List Arrival) (choices : ℕ → List Chosen)
    → All (λ (a : Arrival). a.queue < count) arrivals
    → ((p : ℕ) → IsPrefix (map (λ c. c.id) (choices p)) (arrivals_at arrivals p))
    → sum_below (λ p. length (choices p)) count ≡ length arrivals
    → (p : ℕ) → p < count → map (λ c. c.id) (choices p) ≡ arrivals_at arrivals p

-- If an application notes a reply and its choice together, each of its replies has its choice, in
-- order.
abbrev pub RepliesKeepChoices : Type 0
RepliesKeepChoices =
    (sent : List Sent) (choices : List Chosen) (s : Sent) (c : Chosen) → c.id ≡ s.id
    → map (λ c. c.id) choices ≡ map (λ s. s.id) sent
    → map (λ c. c.id) (choices ++ c ∷ []) ≡ map (λ s. s.id) (sent ++ s ∷ [])

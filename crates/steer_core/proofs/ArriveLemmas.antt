-- The arrival of the next packet, by the numbers that the code has.
use Rattle.std.proofs.Common.{ℕ, ◌<◌, ◌≡◌, [], ◌∷◌, ◌++◌, length, ap, ◌∙◌, sym, subst}
use Rattle.hop_model.specs.declared.event.HopEvent.TheVariants as event
use Rattle.hop_model.specs.Events.{MayAsk, happens}
use Rattle.hop_model.specs.Hop.{HopState}
use Rattle.history.specs.declared.arrival.Arrival.{Arrival}
use Rattle.steer_model.specs.State.Machine.{Machine}
use Rattle.steer_invariant.specs.Invariant.{Invariant}
use Rattle.steer_invariant.proofs.Invariant.RowLemmas.{held_arrive}
use Rattle.steer_invariant.proofs.StepInvariant.ArrivalLemmas.{may_arrive, next_arrival, next_queue}

module _ (m : Machine) (a : Arrival) (q n : ℕ) (which : a ≡ next_arrival m) (queue : q ≡ a.queue)
    (next : n ≡ length m.arrivals) (few : length m.arrivals < length m.setup.packets)
    (h : Invariant m) where
  named : q < length m.setup.homes
  named =
      let e : q ≡ (next_arrival m).queue = queue ∙ ap (λ (b : Arrival). b.queue) which in
      subst (λ x. x < length m.setup.homes) (sym e) (next_queue m h.kept)

  pub may_come : MayAsk m.rx (event.Arrive q n)
  may_come = subst (λ x. MayAsk m.rx (event.Arrive q x)) (sym next)
      (may_arrive m q named few h.kept)

  pub held_come : (t : HopState) → t ≡ (happens m.rx (event.Arrive q n)).0
      → Invariant (record m { rx = t; arrivals = m.arrivals ++ a ∷ [] })
  held_come t is =
      let id : n ≡ a.id = next ∙ sym (ap (λ (b : Arrival). b.id) which) in
      held_arrive m a t which few
      (is ∙ ap (λ x. (happens m.rx (event.Arrive x n)).0) queue
      ∙ ap (λ x. (happens m.rx (event.Arrive a.queue x)).0) id)
      h

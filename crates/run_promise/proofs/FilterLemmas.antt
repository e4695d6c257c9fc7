-- A filter by which a packet came was set by the move of a packet that arrived before it: the wire
-- looked for the filter before it announced that packet or a later one.
use Rattle.std.proofs.Common.{◌≡◌, inl, inr, ℕ, ◌<◌, ◌≤◌, List, Some}
use Rattle.std.proofs.Common.{length, ap, subst, arith}
use Rattle.std.proofs.lemmas.Bool.{cases_lt}
use Rattle.hint_words.specs.declared.step.HintStep.TheVariants.{Store}
use Rattle.history.specs.declared.history.History.{History}
use Rattle.hop_rule.specs.Moments.{nth_step}
use Rattle.hop_rule.specs.declared.step.BoardStep.{BoardStep}
use Rattle.board_api.specs.Closings.Closings.{own_in}
use Rattle.hop_delivery.specs.Orders.Runs.{turns_of}
use Rattle.hop_delivery.specs.Orders.Turns.{Turn}
use Rattle.steer_model.specs.Good.Arrivals.{FilterFrom}
use Rattle.steer_model.specs.Good.Inputs.{Input}
use Rattle.run_coupling.specs.Coupling.Runs.{IsRun}
use Rattle.run_goodness.proofs.Runs.HintLemmas.{class-below, filter-of}
use Rattle.run_goodness.proofs.Runs.ReceiveLemmas as receives
use Rattle.run_goodness.proofs.Runs.RunLemmas as runs
use Rattle.headline.specs.OrdersOfWords.{FiltersAreOlder}
use Rattle.run_promise.proofs.WordLemmas.{found-stored, in-turn, moment, was-stored}

module _ (i : Input) (h : History) (run : IsRun i h) where
  abbrev rx_own : ℕ → List BoardStep
  rx_own = own_in run.rx_seats

  turn-known : (q k : ℕ) (u : Turn)
      → nth_step (turns_of run.queues q) k ≡ Some u
      → u.chosen.id < length i.packets
  turn-known =
      (receives.choices i h run.rx rx_own run.rx_lists (runs.rx-facts i h run) run.tries run.queues
      run.queues_seen run.input run.commands run.received).known

  pub filters-are-older : FiltersAreOlder i h
  filters-are-older a hash queue arrived has came =
      let wire = run.marks.wire in
      let look = wire.looks a hash queue arrived has came in
      let n : ℕ = wire.look a.id in
      let store = was-stored run.hint_seats run.hints_ended wire.wire n
      (run.codes.filter look.place) (run.codes.filter_value look.filter) wire.among look.loads
      (run.codes.filter_is_set look.filter) in
      let set = run.marks.filters store.seat store.step look.place look.filter store.among
      (class-below i.plan.filters (Some hash) look.place look.here) look.queue_within
      look.cpu_within store.stores in
      let x : ℕ = set.0.turn.chosen.id in
      let told = found-stored run.hint_seats run.hints_ended store.seat (run.codes.packet x)
      store.step
      (Store (run.codes.filter look.place) (run.codes.filter_value look.filter)) store.among set.1
      store.stores in
      let from = filter-of i h run hash look.place look.filter.queue set.0 look.here in
      let circle : a.id ≤ x → ⊥ = λ le.
      (let t = wire.tells told.seat a.id x told.step set.1.value hash told.among le
      (turn-known set.0.producer set.0.index set.0.turn set.0.is) has told.stores in
      let same : moment run.hint_seats run.hints_ended told.seat.number n
      ≡ moment run.hint_seats run.hints_ended wire.wire.number n =
      ap (λ s. moment run.hint_seats run.hints_ended s.number n) {x = told.seat} t.0 in
      let later = in-turn run.hint_seats run.hints_ended told.seat n told.step
      (Store (run.codes.packet x) set.1.value) told.among t.1 told.stores in
      let one = told.before in
      let two = store.before in
      omega (arith, one, two, later, same)) in
      elim (cases_lt x a.id) [
        | inl less ↦
            subst (λ m. (f : FilterFrom i h hash m) × (f.choice.id < a.id)) look.queue_is
            (from.0, (let is = from.1 in omega (arith, is, less)))
        | inr le ↦ absurd (circle le)
      ]

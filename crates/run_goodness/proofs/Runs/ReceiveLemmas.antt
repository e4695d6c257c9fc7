-- The receive side of a good history, from what the threads keep at the receive board.
use Rattle.std.specs.Prelude.{slice_index}
use Rattle.std.proofs.Math.Seq.{take_all}
use Rattle.history.specs.Finding.{is_among}
use Rattle.history.specs.Lists.{accepted_lists, app_at, drop_ids, dropped_lists}
use Rattle.history.specs.Places.{AreInOnePlace}
use Rattle.history.specs.Regular.{AreDelivered, AreSteered, HaveArrived}
use Rattle.hop_rule.specs.Sizes.{puller}
use Rattle.hop_delivery.specs.Orders.Premises.{MeetsPremises}
use Rattle.hop_delivery.proofs.Orders.ReceiveSettingLemmas.{receive_steers}
use Rattle.steer_model.specs.Good.Choices.{ChoicesAreByRule}
use Rattle.steer_model.specs.Good.Deliveries.{IsDeliveredInOrder}
use Rattle.run_coupling.specs.Laws.Choices.{ChoicesHaveTurns}
use Rattle.run_coupling.specs.Coupling.Runs.{IsOfInput, KeepsCommands, ReceiveCoupling}
use Rattle.hop_delivery.specs.Closings.PutPlaces.{AreTurnsOf}
use Rattle.run_goodness.proofs.Names.{◌≡◌, ℕ, suc, ◌<◌, true, List, [], ◌∷◌, ◌++◌, Some, length}
use Rattle.run_goodness.proofs.Names.{map, take, All, sym, refl, ap, ◌∙◌, subst, arith, slice_get}
use Rattle.run_goodness.proofs.Names.{length-map, Chosen, is_in, arrivals_at, lane_at, list_at}
use Rattle.run_goodness.proofs.Names.{History, BoardSizes, BoardStep, BoardLists, accepted_left}
use Rattle.run_goodness.proofs.Names.{receive_steering, Execution, Input, setup_in, app_for}
use Rattle.run_goodness.proofs.Names.{commands_before, receive_queues, Try, StandOnce, at_in}
use Rattle.run_goodness.proofs.Names.{BoardFacts, IsWithinPlan}
use Rattle.run_goodness.proofs.Ends.{inboxes_follow}
use Rattle.run_coupling.proofs.Lists.PlaceLemmas.{AreNumbered, apart_from, once_from}
use Rattle.run_coupling.proofs.Runs.QueueLemmas as queues
use Rattle.run_coupling.proofs.Runs.StandLemmas as stand
use Rattle.run_coupling.proofs.Tries.GivenLemmas.{all_within}
use Rattle.run_goodness.proofs.Turns.ChoiceLemmas.{choices_of_closing}

module _ (i : Input) (h : History) (about : BoardSizes) (own : ℕ → List BoardStep)
    (lists : BoardLists) (facts : BoardFacts about own lists) (tries : List Try) (t : Execution)
    (seen : ℕ → ℕ → ℕ → ℕ) (input : IsOfInput i h) (commands : KeepsCommands i h tries)
    (coupling : ReceiveCoupling i h about own lists tries t seen) where
  pub within : All (λ (t : Try). IsWithinPlan i.plan t.given.command) tries
  within = all_within i.plan tries h.commands coupling.tries_are.commands commands.given

  -- ---- the turns

  pub turns : AreTurnsOf own t
  turns =
      queues.are-turns i h about own lists facts tries t seen input.hashes coupling.board
      coupling.tries_are
      within commands.answered coupling.finds coupling.right input.arrived coupling.queues

  pub premises : MeetsPremises about own (accepted_left lists) t
      (receive_steering (receive_queues i))
  premises =
      queues.meets-premises i h about own lists facts tries t seen input.hashes coupling.board
      coupling.tries_are within commands.answered coupling.finds coupling.right input.arrived
      coupling.queues

  pub choices : ChoicesHaveTurns i h about own lists t
  choices =
      queues.choices-have-turns i h about own lists facts tries t seen input.hashes coupling.board
      coupling.tries_are within commands.answered coupling.finds coupling.right input.arrived
      coupling.queues

  pub once : (p q j k x : ℕ) → slice_get (t.arrivals p) j ≡ Some x
      → slice_get (t.arrivals q) k ≡ Some x → (p ≡ q) × (j ≡ k)
  once =
      queues.arrival-once i h about own lists facts tries t seen input.hashes coupling.board
      coupling.tries_are within commands.answered coupling.finds coupling.right input.arrived
      coupling.queues

  pub known : (p j x : ℕ) → slice_get (t.arrivals p) j ≡ Some x → x < length i.packets
  known =
      queues.arrival-known i h about own lists facts tries t seen input.hashes coupling.board
      coupling.tries_are within commands.answered coupling.finds coupling.right input.arrived
      coupling.queues

  pub numbered : AreNumbered 0 h.arrivals
  numbered =
      queues.numbered i h about own lists facts tries t seen input.hashes coupling.board
      coupling.tries_are
      within commands.answered coupling.finds coupling.right input.arrived coupling.queues

  counted : length h.arrivals ≡ length i.packets
  counted =
      queues.arrivals-counted i h about own lists facts tries t seen input.hashes coupling.board
      coupling.tries_are within commands.answered coupling.finds coupling.right input.arrived
      coupling.queues

  -- ---- the choices

  -- the choices of a queue are of all its arrivals
  pub all-chosen : (p : ℕ)
      → map (λ (c : Chosen). c.id) (list_at h.choices p) ≡ arrivals_at h.arrivals p
  all-chosen p =
      ap (map (λ (c : Chosen). c.id)) (coupling.queues.choices p)
      ∙ (coupling.queues.turns.all_chosen p ∙ coupling.queues.arrivals p)

  choice-count : (p : ℕ) → slice_index h.taken p ≡ length (arrivals_at h.arrivals p)
  choice-count p =
      coupling.queues.taken p
      ∙ (sym (length-map (t.choices p) (λ (c : Chosen). c.id))
      ∙ ap length (coupling.queues.turns.all_chosen p ∙ coupling.queues.arrivals p))

  pub have-arrived : HaveArrived i.packets h
  have-arrived = record {
    numbered = numbered;
    of_the_capture = (let n = counted in omega arith);
    taken = λ q. (let n = choice-count q in omega arith);
    chosen = λ q. (
      [],
      append-none (map (λ (c : Chosen). c.id) (list_at h.choices q)) ∙ all-chosen q,
    );
    chosen_taken = λ q.
        (let n = coupling.queues.taken q in
        let m = ap length (coupling.queues.choices q) in omega arith);
  }
    where
      append-none : {A : Type 0} (xs : List A) → xs ++ [] ≡ xs
      append-none [] = refl
      append-none (x ∷ xs) = ap (λ r. x ∷ r) (append-none xs)

  pub choices-by-rule : ChoicesAreByRule i h (commands_before tries t)
  choices-by-rule = record {
    all = λ q.
        all-chosen q
        ∙ sym (ap (λ n. take n (arrivals_at h.arrivals q)) (choice-count q)
        ∙ take_all (length (arrivals_at h.arrivals q)) (arrivals_at h.arrivals q)
        (omega arith));
    by_rule =
        choices_of_closing about own lists facts.visits i h tries t input.hashes coupling.board
        coupling.tries_are (queues.all_name_queues i tries within) choices;
  }

  -- ---- where packets stand

  pub are-steered : AreSteered h
  are-steered = record {
    accepted = λ c x is.
        stand.accepted-choice about own lists facts t coupling.queues.turns turns once h.choices
        coupling.queues.choices c x (ap (λ ls. is_in x (lane_at ls c).accepted)
        (sym coupling.board.lanes)
        ∙ is);
    dropped = λ c x is.
        stand.dropped-choice about own lists facts t coupling.queues.turns turns once h.choices
        coupling.queues.choices c x
        (ap (λ ls. is_in x (drop_ids (lane_at ls c)))
        (sym coupling.board.lanes) ∙ is);
    once =
        apart_from (accepted_lists h.lanes ++ dropped_lists h.lanes)
        (subst (λ ls. StandOnce (accepted_lists ls ++ dropped_lists ls)) (sym
        coupling.board.lanes)
        (stand.all-stand about own lists facts t coupling.queues.turns turns once h.choices
        coupling.queues.choices));
  }

  inbox-app : (a x : ℕ) → is_in x (list_at lists.outs a) ≡ true
      → app_at i.packets (length i.plan.apps) x ≡ a
  inbox-app a x is =
      let n = at_in x (list_at lists.outs a) is in
      let f = stand.came-from about own lists facts t coupling.queues.turns turns once h.choices
      coupling.queues.choices a n.0 x n.1 in
      sym (stand.delivered-to about own lists facts (app_for (setup_in i)) coupling.right
      (puller about f.lane) f.step a f.lane x (suc n.0) f.does)

  pub are-delivered : AreDelivered i.packets (length i.plan.apps) h
  are-delivered = record {
    accepted = λ a x is.
        subst (λ ls. (c : ℕ) × (is_in x (lane_at ls c).accepted ≡ true)) (sym
        coupling.board.lanes)
        (stand.out-accepted about own lists facts t coupling.queues.turns turns once h.choices
        coupling.queues.choices a x (ap (λ ls. is_in x (list_at ls a)) (sym
        coupling.board.inboxes)
        ∙ is));
    own = λ a x is. inbox-app a x
        (ap (λ ls. is_in x (list_at ls a)) (sym coupling.board.inboxes) ∙ is);
    once = λ a.
        once_from (list_at h.inboxes a)
        (λ j k x at there.
        (subst StandOnce (sym coupling.board.inboxes)
        (stand.outs-stand about own lists facts t coupling.queues.turns turns once h.choices
        coupling.queues.choices) a a j k x at there).1);
  }

  pub one-place : AreInOnePlace h
  one-place = record {
    lanes = are-steered.once;
    inboxes =
        apart_from h.inboxes
        (subst StandOnce (sym coupling.board.inboxes)
        (stand.outs-stand about own lists facts t coupling.queues.turns turns once h.choices
        coupling.queues.choices));
    delivered = λ a x is.
        subst (λ ls.
        (c : ℕ) × (is_among (lane_at ls c).delivered x (lane_at ls c).accepted ≡ true))
        (sym coupling.board.lanes)
        (stand.out-among about own lists facts t coupling.queues.turns turns once h.choices
        coupling.queues.choices a x (ap (λ ls. is_in x (list_at ls a)) (sym
        coupling.board.inboxes)
        ∙ is));
  }

  pub in-order : IsDeliveredInOrder i h
  in-order =
      inboxes_follow about own lists facts.order
      (λ i. receive_steers (receive_queues i) about.lanes)
      i h t input.hashes coupling.board coupling.queues.arrivals premises

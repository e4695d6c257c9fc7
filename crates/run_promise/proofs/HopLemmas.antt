-- The lists of a hop are those of the order of its board, where each choice has its turn.
use Rattle.std.proofs.Common.{◌≡◌, ℕ, ◌/◌, ◌^◌, ◌<◌, ◌≤◌, List, Option, Some, length, sym, ap}
use Rattle.std.proofs.Common.{◌∙◌, subst, arith, length-append}
use Rattle.std.specs.Prelude.{slice_get}
use Rattle.linearization.specs.Orders.{step_by}
use Rattle.history.specs.Lists.{lane_at, list_at}
use Rattle.hop_model.specs.Hop.{chosen_at}
use Rattle.steer_base.specs.Counters.{distance}
use Rattle.steer_base.specs.declared.choice.Chosen.{Chosen}
use Rattle.steer_base.specs.declared.put.LaneDrop.{LaneDrop}
use Rattle.steer_base.specs.declared.put.Put.{Put}
use Rattle.steer_base.specs.declared.command.Command.{Command}
use Rattle.hop_rule.specs.Boards.{gate_steps}
use Rattle.hop_rule.specs.Gates.{openings}
use Rattle.hop_rule.specs.Moments.{moment_of, nth_step}
use Rattle.hop_rule.specs.Sizes.{closer}
use Rattle.hop_rule.specs.declared.sizes.BoardSizes.{BoardSizes}
use Rattle.hop_rule.specs.declared.step.BoardStep.{BoardStep}
use Rattle.hop_rule.specs.declared.step.BoardStep.TheVariants.{Weighed}
use Rattle.hop_rule.proofs.Moments.{nth-some, step-inside}
use Rattle.hop_rule.proofs.Parts.{at_moment, moments_rise}
use Rattle.board_api.specs.Laws.Puts.{WasPut}
use Rattle.board_api.specs.OwnSteps.{Has, put_step}
use Rattle.board_api.specs.declared.lists.BoardLists.{BoardLists}
use Rattle.hop_delivery.specs.Closings.FlowLaw.{accepted_left}
use Rattle.hop_delivery.specs.Closings.PutPlaces.{AreTurnsOf}
use Rattle.hop_delivery.specs.Orders.Commands.{SettingChange}
use Rattle.hop_delivery.specs.Orders.Runs.{Execution, IsByRule, Steering, turns_of, word_of}
use Rattle.hop_delivery.specs.Orders.Turns.{Turn}
use Rattle.hop_delivery.proofs.Closings.PutPlaceLemmas.{turns_put_once}
use Rattle.hop_delivery.proofs.Orders.TurnLemmas.{Places, turns_have_places}
use Rattle.steer_model.specs.Good.Choices.{lane_seen}
use Rattle.run_coupling.specs.Coupling.Tries.{AllSetByAnswer, Try, openings_by, steps_of_tries}
use Rattle.run_coupling.specs.Coupling.Tries.{tries_up_to}
use Rattle.run_coupling.specs.Coupling.Turns.{KeepsTurns}
use Rattle.run_coupling.proofs.Runs.FactLemmas.{BoardFacts}
use Rattle.run_coupling.proofs.Runs.PutTurnLemmas.{turn-at}
use Rattle.run_coupling.proofs.Runs.TurnListLemmas.{turn-chosen, turns-counted}
use Rattle.run_coupling.proofs.Tries.TryLemmas.{openings-makings, tries-grow}
use Rattle.run_coupling.proofs.Turns.TableEntryLemmas.{nth-moment}
use Rattle.run_goodness.proofs.Turns.HeadLemmas as heads
use Rattle.headline.specs.HopOrders.{AcceptedAs, AcceptsAt, AreWithin, DeliveredAs, DeliversAt}
use Rattle.headline.specs.HopOrders.{DroppedAs, DropsAt, HopLists, HopOrder, SawHead, SeesAt}
use Rattle.run_promise.specs.BoardOrders.{BoardOrder}

module _ (about : BoardSizes) (own : ℕ → List BoardStep) (lists : BoardLists)
    (facts : BoardFacts about own lists) (board : BoardOrder about own lists) (t : Execution)
    (keeps : KeepsTurns own t) (turns : AreTurnsOf own t) where
  -- ---- the puts of turns

  abbrev places : (p : ℕ) → Places (own (t.seat p)) (t.turns (t.seat p))
  places p = turns_have_places (own (t.seat p)) (t.turns (t.seat p)) (keeps.explained (t.seat p))

  -- the number of a turn among all of its seat
  abbrev turn-number : ℕ → ℕ → ℕ
  turn-number p k = moment_of p (t.turns (t.seat p)) k

  -- the step of the put of a choice
  abbrev put-number : ℕ → ℕ → ℕ
  put-number p k = (places p).put (turn-number p k)

  -- the moment of the put of a choice
  abbrev pub put-moment : ℕ → ℕ → ℕ
  put-moment p k = board.moment (t.seat p) (put-number p k)

  puts : (p k : ℕ) (u : Turn) → nth_step (turns_of t p) k ≡ Some u
      → Has (own (t.seat p)) (put-number p k)
      (put_step u.chosen.choice.lane u.chosen.id u.hash u.answer)
  puts p k u is =
      ((places p).visits (turn-number p k) (step_by p u)
      (nth-moment (t.turns (t.seat p)) (turn-number p k) p u
      (at_moment p (t.turns (t.seat p)) k u is))).puts

  turn-inside : (p k : ℕ) (u : Turn) → nth_step (turns_of t p) k ≡ Some u
      → turn-number p k < length (t.turns (t.seat p))
  turn-inside p k u is =
      step-inside (t.turns (t.seat p)) (turn-number p k) p u
      (at_moment p (t.turns (t.seat p)) k u is)

  -- a put comes before the entry of the next turn
  before-entry : (p j k : ℕ) → j < k → k < length (t.choices p)
      → put-number p j < (places p).entered (turn-number p k)
  before-entry p j k less within =
      let many = turns-counted own t keeps p in
      let u = nth-some (turns_of t p) k (omega arith) in
      (places p).in_order (turn-number p j) (turn-number p k)
      (moments_rise p (t.turns (t.seat p)) j k less (omega arith)) (turn-inside p k u.0 u.1)

  pub puts-rise : (p j k : ℕ) → j < k → k < length (t.choices p) → put-moment p j < put-moment p k
  puts-rise p j k less within =
      let many = turns-counted own t keeps p in
      let u = nth-some (turns_of t p) k (omega arith) in
      let up = before-entry p j k less within in
      let v = (places p).visits (turn-number p k) (step_by p u.0)
      (nth-moment (t.turns (t.seat p)) (turn-number p k) p u.0
      (at_moment p (t.turns (t.seat p)) k u.0 u.1)) in
      let more = v.after in
      board.in_turn (t.seat p) (put-number p j) (put-number p k)
      (put_step u.0.chosen.choice.lane u.0.chosen.id u.0.hash u.0.answer) (omega arith)
      (puts p k u.0 u.1)

  -- ---- the settings of turns

  module _ (tries : List Try) (at : Try → List BoardStep)
      (sets : (ℕ → ℕ) → Command → List SettingChange)
      (own_list : own (closer about) ≡ steps_of_tries at tries)
      (are : AllSetByAnswer about sets at tries) where
    -- how many commands had come at a moment
    abbrev pub given-at : ℕ → ℕ
    given-at m = length (tries_up_to at (board.openings m) tries)

    pub given-rise : (m n : ℕ) → m ≤ n → given-at m ≤ given-at n
    given-rise m n le =
        let most = board.openings_within n in
        let is : openings (gate_steps (own (closer about))) ≡ openings_by at tries =
        ap (λ ds. openings (gate_steps ds)) own_list
        ∙ openings-makings (gate_steps (steps_of_tries at tries)) in
        let up = board.openings_rise m n le in
        let g = tries-grow about sets at (board.openings m) (board.openings n) tries are up
        (omega arith) in
        let a = ap length g.1 in
        let b = length-append g.0 (tries_up_to at (board.openings m) tries) in
        omega arith

    -- so many had come at the put of a choice
    pub came-at : (p k : ℕ) → k < length (t.choices p)
        → length (tries_up_to at (word_of (nth_step (turns_of t p) k) / 2 ^ 32) tries)
        ≡ given-at (put-moment p k)
    came-at p k within =
        let many = turns-counted own t keeps p in
        let u = nth-some (turns_of t p) k (omega arith) in
        let q : ℕ = t.seat p in
        let v = (places p).visits (turn-number p k) (step_by p u.0)
        (nth-moment (t.turns q) (turn-number p k) p u.0 (at_moment p (t.turns q) k u.0 u.1)) in
        ap (λ n. length (tries_up_to at n tries))
        (ap (λ o. word_of o / 2 ^ 32) u.1
        ∙ board.visits q ((places p).entered (turn-number p k)) (put-number p k)
        u.0.chosen.choice.lane u.0.chosen.id u.0.word u.0.hash u.0.answer v.after v.enters
        (puts p k u.0 u.1) v.stays)

  -- a put of the packet of a choice is the choice's own
  own-put : (p k l q n : ℕ) (c : Chosen) (hash : Option ℕ) (answer : Put)
      → slice_get (t.choices p) k ≡ Some c → Has (own q) n (put_step l c.id hash answer)
      → put-moment p k ≡ board.moment q n
  own-put p k l q n c hash answer at does =
      let u = turn-at own t keeps p k c at in
      let here : Has (own (t.seat p)) (put-number p k)
      (put_step u.0.chosen.choice.lane c.id u.0.hash u.0.answer) =
      subst (λ (x : ℕ). Has (own (t.seat p)) (put-number p k)
      (put_step u.0.chosen.choice.lane x u.0.hash u.0.answer))
      (ap (λ (z : Chosen). z.id) u.2) (puts p k u.0 u.1) in
      let same = turns_put_once own t turns (t.seat p) q (put-number p k) n
      u.0.chosen.choice.lane l c.id u.0.hash hash u.0.answer answer here does in
      λ i. board.moment (same.0 i) (same.1 i)

  -- ---- the lists of the hop

  module _ (o : HopLists) (start : o.start ≡ about.start) (lanes : o.lanes ≡ lists.lanes)
      (outs : (n : ℕ) → list_at o.outs n ≡ list_at lists.outs n)
      (out_count : length o.outs ≡ about.outs)
      (journals : (p : ℕ) → list_at o.choices p ≡ t.choices p) (r : Steering)
      (by_rule : (p k : ℕ) (u : Turn) → nth_step (turns_of t p) k ≡ Some u
      → IsByRule about own (accepted_left lists) t r p k u) where
    chosen-at : (p k : ℕ) (c : Chosen) → slice_get (list_at o.choices p) k ≡ Some c
        → slice_get (t.choices p) k ≡ Some c
    chosen-at p k c at = ap (λ cs. slice_get cs k) (sym (journals p)) ∙ at

    stands-at : (l n x : ℕ) → slice_get (lane_at o.lanes l).accepted n ≡ Some x
        → slice_get (accepted_left lists l) n ≡ Some x
    stands-at l n x at = ap (λ ls. slice_get (lane_at ls l).accepted n) (sym lanes) ∙ at

    -- ---- what was accepted or dropped

    pub was-put : (p k l n : ℕ) (a : AcceptedAs o p k l n)
        → WasPut about own lists l n a.chosen.id
    was-put p k l n a = facts.accepted l n a.chosen.id (stands-at l n a.chosen.id a.stands)

    pub put-is : (p k l n : ℕ) (a : AcceptedAs o p k l n)
        → put-moment p k ≡ board.moment (was-put p k l n a).seat (was-put p k l n a).step
    put-is p k l n a =
        let w = was-put p k l n a in
        own-put p k l w.seat w.step a.chosen w.hash w.answer (chosen-at p k a.chosen a.choice)
        w.does

    pub accepts : (p k l n : ℕ) → AcceptedAs o p k l n → AcceptsAt board.at (put-moment p k) l n
    accepts p k l n a =
        subst (λ (m : ℕ). AcceptsAt board.at m l n) (sym (put-is p k l n a))
        (board.accepts l n a.chosen.id (was-put p k l n a))

    pub drops : (p k l j : ℕ) (d : LaneDrop) → DroppedAs o p k l j d
        → DropsAt board.at (put-moment p k) l j d
    drops p k l j d a =
        let at : slice_get (lane_at lists.lanes l).drops j ≡ Some d =
        ap (λ ls. slice_get (lane_at ls l).drops j) (sym lanes) ∙ a.falls in
        let w = facts.dropped l j d at in
        let does : Has (own w.seat) w.step (put_step l a.chosen.id w.hash w.answer) =
        subst (λ (x : ℕ). Has (own w.seat) w.step (put_step l x w.hash w.answer)) a.same w.does in
        subst (λ (m : ℕ). DropsAt board.at m l j d)
        (sym (own-put p k l w.seat w.step a.chosen w.hash w.answer
        (chosen-at p k a.chosen a.choice) does))
        (board.drops l j d w)

    -- ---- heads

    pub sees : (p k l count : ℕ) → SawHead o p k l count
        → SeesAt board.at (put-moment p) k l count
    sees p k l count s =
        let q : ℕ = t.seat p in
        let cs : list_at o.choices p ≡ t.choices p = journals p in
        let size = ap length cs in
        let within = s.within in
        let less : k < length (t.choices p) = omega arith in
        let x = heads.load about own lists facts.fit facts.heads facts.turn t r p
        (keeps.explained q) (turns-counted own t keeps p) (turn-chosen own t keeps p) (by_rule p)
        k s.number l less
        (ap (λ (zs : List Chosen). (chosen_at zs k).choice.head) (sym cs) ∙ s.sees)
        (ap (λ (zs : List Chosen). lane_seen zs k) (sym cs) ∙ s.lane) in
        let c = heads.counted about own lists facts.fit facts.heads facts.turn t r p
        (keeps.explained q) (turns-counted own t keeps p) (turn-chosen own t keeps p) (by_rule p)
        k s.number l x in
        let shows = c.0 in
        let base = c.2 in
        let counts : count ≡ distance s.number about.start =
        s.counts ∙ ap (distance s.number) start in
        let word = board.loads q x.step l x.word x.does in
        let u = nth-some (turns_of t p) k (let many = turns-counted own t keeps p in omega arith)
        in
        record {
          look = board.moment q x.step;
          after = λ j before.
              (let up = before-entry p j k before less in
              let more = x.after in
              board.in_turn q (put-number p j) x.step (Weighed l x.word) (omega arith) x.does);
          before =
              board.in_turn q x.step (put-number p k)
              (put_step u.0.chosen.choice.lane u.0.chosen.id u.0.hash u.0.answer) x.before
              (puts p k u.0 u.1);
          sees = omega arith;
        }

    -- ---- deliveries

    pub deliveries : (l n out place : ℕ) → DeliveredAs o l n out place
        → DeliversAt board.at l n out place
    deliveries l n out place d =
        let g = facts.places.given out place d.id
        (ap (λ xs. slice_get xs place) (sym (outs out)) ∙ d.lies) in
        let v = board.gives g.seat g.step out g.from d.id place g.does in
        let same = (facts.packets t turns).accepted_once g.from l v.index n d.id v.stands
        (stands-at l n d.id d.stands) in
        subst (λ (z : ℕ × ℕ). DeliversAt board.at z.0 z.1 out place)
        (λ i. (same.0 i, same.1 i)) v.delivers

    -- ---- the order

    pub within : (m : ℕ) → AreWithin o (board.at m)
    within m =
        let count = ap length lanes ∙ facts.counted.lanes in
        record {
          accepted = λ l less.
              (let is = ap (λ ls. length (lane_at ls l).accepted) lanes in
              let most = board.accepted_within m l (omega arith) in omega arith);
          dropped = λ l less.
              (let is = ap (λ ls. length (lane_at ls l).drops) lanes in
              let most = board.dropped_within m l (omega arith) in omega arith);
          delivered = λ out less.
              (let is = ap length (outs out) in
              let size = out_count in
              let most = board.delivered_within m out (omega arith) in omega arith);
        }

    abbrev pub hop-order : HopOrder o
    hop-order =
        record {
          at = board.at;
          rise = board.rise;
          served = board.served;
          within = within;
          put = put-moment;
          in_turn = λ p j k less inside.
              (let size = ap length (journals p) in puts-rise p j k less (omega arith));
          accepts = accepts;
          drops = drops;
          heads = sees;
          deliveries = deliveries;
        }

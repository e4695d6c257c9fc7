-- What one try of the controller keeps of the coupling invariants.
use Rattle.steer_base.specs.Sets.{has}
use Rattle.steer_base.specs.declared.command.Answer.TheVariants as says
use Rattle.steer_base.specs.declared.command.Command.TheVariants as give
use Rattle.steer_base.specs.declared.command.Refused.{Refused}
use Rattle.steer_base.specs.declared.command.Refused.TheVariants as refused
use Rattle.history.specs.declared.lane_list.LaneList.{LaneList}
use Rattle.hop_rule.specs.declared.step.GateStep.{GateStep}
use Rattle.hop_rule.specs.declared.step.GateStep.TheVariants.{Entered, Left}
use Rattle.steer_model.specs.Good.Commands.{IsEnd}
use Rattle.steer_model.specs.Steps.Commands.{affects, refused_answer}
use Rattle.run_words.specs.Values.{place_word}
use Rattle.run_words.specs.declared.hint_word.HintWord.TheVariants as word
use Rattle.run_coupling.specs.Coupling.Answers.{IsAnswered, IsBusy, IsBusyAt}
use Rattle.run_coupling.specs.Coupling.EmptiedLanes.{FindsAllEmpty, NoSets}
use Rattle.run_coupling.specs.Coupling.Inputs.{receive_queues}
use Rattle.run_coupling.specs.Coupling.Tries.{SetsByAnswer, sets_and_openings}
use Rattle.run_controller.specs.Gated.{KeepsTry}
use Rattle.run_controller.specs.Attempts.{DoesAtOnce, TriesAtReceive, TriesAtTransmit, TriesBy}
use Rattle.run_controller.specs.Laws.{AreBoards}
use Rattle.run_controller.proofs.Names.{◌≡◌, ◌⊎◌, inl, inr, ℕ, ◌+◌, ◌<◌, ◌≤◌, Bool, true, false}
use Rattle.run_controller.proofs.Names.{List, [], ◌∷◌, ◌++◌, Option, Some, None, length, refl, sym}
use Rattle.run_controller.proofs.Names.{ap, subst, ◌∙◌, arith, append_assoc, Contains, Answer}
use Rattle.run_controller.proofs.Names.{Inside, NotEmpty, Command, CpuMask, ClearIf, Store}
use Rattle.run_controller.proofs.Names.{Commanded, History, BoardSizes, BoardStep, Gate}
use Rattle.run_controller.proofs.Names.{BoardSeatView, BoardView, SettingChange, received_sets}
use Rattle.run_controller.proofs.Names.{sent_sets, Queues, queues, Input, setup_in, is_done}
use Rattle.run_controller.proofs.Names.{hint_number, Shared, NamesReceiveQueues, Try}
use Rattle.run_controller.proofs.Names.{GatedTriesKeep, IsGated, after_step, TriesUnless}
use Rattle.run_controller.proofs.Names.{KnownSettings, receive_change, transmit_change, Stage}
use Rattle.run_controller.proofs.Names.{stage, Change, Seats}
use Rattle.run_controller.proofs.AgreeLemmas.{Agrees, as_set, at-receive, at-transmit, receive-none}
use Rattle.run_controller.proofs.AgreeLemmas.{receive-set, sent-set}
use Rattle.run_controller.proofs.HintLemmas.{ClearsFilters, IsStoredBy, StoresFor, behind-clears}
use Rattle.run_controller.proofs.HintLemmas.{behind-stores, clears-more, clears-none, past-step}
use Rattle.run_controller.proofs.HintLemmas.{store-no-clear, stores-none, value_of, word_of}
use Rattle.run_controller.proofs.ListLemmas.{contains-cases}
use Rattle.run_controller.proofs.LoopLemmas.{few_expired}
use Rattle.run_controller.proofs.SeatLemmas.{Glance, expired_steps, first_glances, glances}

-- ---- steps that set nothing

-- a try without steps, where its command makes no setting or it was not done
sets-none : (w : ℕ → ℕ) (sets : (ℕ → ℕ) → Command → List SettingChange) (g : Commanded)
    → (is_done g.answer ≡ false) ⊎ (sets w g.command ≡ []) → (ds : List GateStep) → ds ≡ []
    → SetsByAnswer w sets g ds
sets-none w sets g why ds none = by_done (is_done g.answer) refl
  where
    by_done : (b : Bool) → is_done g.answer ≡ b → SetsByAnswer w sets g ds
    by_done false is = inr (inr (is, inl none))
    by_done true is = elim why [
      | inl fails ↦ absurd (apart (sym is ∙ fails))
      | inr quiet ↦ inr (inl (is, quiet, none))
    ]
      where
        apart : true ≡ false → ⊥
        apart e = absurd (cc)

glances-set : (xs : List Glance) (ds : List BoardStep)
    → sets_and_openings (glances xs ++ ds) ≡ sets_and_openings ds
glances-set [] ds = refl
glances-set (x ∷ xs) ds = glances-set xs ds

glances-none : (xs : List Glance) (ds : List BoardStep) → NoSets ds → NoSets (glances xs ++ ds)
glances-none [] ds none = none
glances-none (x ∷ xs) ds none = (refl, (refl, glances-none xs ds none))

-- ---- one try

abbrev tried : Command → Answer → List BoardStep → List BoardStep → Try
tried c answer rx_steps tx_steps = record {
  given = record { command = c; answer = answer };
  rx_steps = rx_steps;
  tx_steps = tx_steps;
}

module _ (i : Input) (h : History) (hints : Shared) (rx tx : BoardView) where
  abbrev q : Queues
  q = receive_queues i

  abbrev txs : ℕ
  txs = length i.plan.tx

  -- the stage of this input
  abbrev pub stage_in : Stage
  stage_in =
      stage (record hints { given = setup_in i; filters = i.plan.filters }) rx tx

  -- what one try keeps, by the words of the receive board and the reason to refuse it
  pub record Kept (words : ℕ → ℕ) (why : Option Refused) (g : Commanded) (old new : Seats)
      : Type 0 where
    pub rx_steps : List BoardStep
    pub tx_steps : List BoardStep
    pub rx_are : new.rx.steps ≡ rx_steps ++ old.rx.steps
    pub tx_are : new.tx.steps ≡ tx_steps ++ old.tx.steps
    pub rx_sets : SetsByAnswer words (received_sets q) g (sets_and_openings rx_steps)
    pub tx_sets : (w : ℕ → ℕ)
        → SetsByAnswer w (λ w c. sent_sets txs c) g (sets_and_openings tx_steps)
    pub finds : NoSets rx_steps
        ⊎ ((m : SettingChange) × (received_sets q words g.command ≡ m ∷ [])
        × FindsAllEmpty rx.sizes q.homes i.plan.cpus txs g.command m rx_steps)
    pub answered : IsAnswered i h
        (record { given = g; rx_steps = rx_steps; tx_steps = tx_steps }) why
    pub stored : StoresFor g old.hint new.hint
    pub cleared : ClearsFilters i.plan.filters old.hint new.hint

  -- a try that did nothing
  refused_kept : (words : ℕ → ℕ) (c : Command) (why : Refused) (answer : Answer) (old new : Seats)
      → answer ≡ refused_answer why → new ≡ old
      → Kept words (Some why) (record { command = c; answer = answer }) old new
  refused_kept words c why answer old new is same =
      record {
        rx_steps = [];
        tx_steps = [];
        rx_are = ap (λ (s : Seats). s.rx.steps) same;
        tx_are = ap (λ (s : Seats). s.tx.steps) same;
        rx_sets = sets-none words (received_sets q) _ (inl fails) [] refl;
        tx_sets = λ w. sets-none w (λ w c. sent_sets txs c) _ (inl fails) [] refl;
        finds = inl tt;
        answered = is;
        stored = stores-none _ old.hint new.hint (ap (λ (s : Seats). s.hint) same);
        cleared = clears-none i.plan.filters old.hint new.hint (ap (λ (s : Seats). s.hint) same);
      }
    where
      none-done : (why : Refused) → is_done (refused_answer why) ≡ false
      none-done (refused.CpuInUse user) = refl
      none-done refused.CpuOffline = refl
      none-done refused.AlreadyOnline = refl

      fails : is_done answer ≡ false
      fails = ap is_done is ∙ none-done why

  module _ (boards : AreBoards i h rx.sizes tx.sizes) (keep : GatedTriesKeep) where
    few-lanes : (about : BoardSizes) (lanes : ℕ) → about.lanes ≡ lanes → lanes ≤ 32
        → (c : Command) (m : _)
        → ((lane : ℕ) → lane < 32 → has m lane ≡ affects (setup_in i) c lane)
        → (lane : ℕ) → lane < about.lanes → has m lane ≡ affects (setup_in i) c lane
    few-lanes about lanes is few c m all lane less = all lane (omega arith)

    -- the answer of a gated try at one of the boards, which has these lanes
    gated_answered : (about : BoardSizes) (left : List LaneList) (c : Command) (lanes : CpuMask)
        (m : SettingChange) (answer : Answer) (old new : BoardSeatView)
        (steps rx_steps tx_steps : List BoardStep) → about.seats ≡ i.plan.workers + 1
        → IsEnd i c says.Done → IsGated about lanes m.word m.value old new answer
        → KeepsTry i about left c m answer steps
        → (IsBusyAt i left steps (record { command = c; answer = answer })
        → IsBusy i h (tried c answer rx_steps tx_steps))
        → IsAnswered i h (tried c answer rx_steps tx_steps) None
    gated_answered about left c lanes m says.Done old new steps rx_steps tx_steps seats ends gated
        k busy = inl ends
    gated_answered about left c lanes m (says.Busy (Inside n)) old new steps rx_steps tx_steps seats
        ends gated k busy =
        let is = k.inside n refl in
        let few = is.few in
        inr (busy (inl (
          n,
          refl,
          record {
            word = is.word;
            are = is.are;
            counts = is.counts;
            some = is.some;
            few = omega (arith, seats, few);
          },
        )))
    gated_answered about left c lanes m (says.Busy (NotEmpty lane head tail)) old new steps rx_steps
        tx_steps seats ends gated k busy =
        inr (busy (inr (lane, head, tail, refl, k.busy lane head tail refl)))
    gated_answered about left c lanes m (says.Expired n) old new steps rx_steps tx_steps seats ends
        gated k busy = absurd gated
    gated_answered about left c lanes m (says.Idle why) old new steps rx_steps tx_steps seats ends
        gated k busy = absurd gated
    gated_answered about left c lanes m (says.CpuInUse user) old new steps rx_steps tx_steps seats
        ends gated k busy = absurd gated
    gated_answered about left c lanes m says.CpuOffline old new steps rx_steps tx_steps seats ends
        gated k busy = absurd gated

    module _ (words : ℕ → ℕ) (k : KnownSettings) (agree : Agrees q words k) where
      receive_kept : (c : Command) (m : Change) (answer : Answer) (old new : Seats)
          → NamesReceiveQueues (queues q) c → receive_change (queues q) k c ≡ Some m
          → TriesAtReceive (setup_in i) rx.sizes c m answer old new
          → Kept words None (record { command = c; answer = answer }) old new
      receive_kept c m answer old new names is a =
          let one = receive-set q words k agree c m names is in
          let at = at-receive h (queues q) txs k c m is in
          let few = i.plan.within.cpus_within in
          let t = keep i rx.sizes h.lanes a.gated.0 c (as_set m) answer old.rx new.rx
          boards.rx_left
          (few-lanes rx.sizes i.plan.cpus boards.rx_lanes few c a.gated.0 a.gated.1)
          a.gated.2 in
          record {
            rx_steps = t.0;
            tx_steps = [];
            rx_are = t.1;
            tx_are = ap (λ (s : BoardSeatView). s.steps) a.tx;
            rx_sets = t.2.sets words (received_sets q) one;
            tx_sets = λ w. sets-none w (λ w c. sent_sets txs c) _ (inr at.sent) [] refl;
            finds = elim t.2.finds [
              | inl none ↦ inl none
              | inr found ↦ inr (as_set m, one, found)
            ];
            answered = gated_answered rx.sizes h.lanes c a.gated.0 (as_set m) answer old.rx new.rx
                t.0 t.0 [] boards.rx_seats (at.ends i) a.gated.2 t.2 (λ b. inl (at.lanes, b));
            stored = behind-stores c answer old.hint new.hint a.hint;
            cleared = behind-clears i.plan.filters c answer old.hint new.hint a.hint;
          }

      transmit_kept : (c : Command) (m : Change) (answer : Answer) (old new : Seats)
          → receive_change (queues q) k c ≡ None → transmit_change txs c ≡ Some m
          → TriesAtTransmit (setup_in i) tx.sizes c m answer old new
          → Kept words None (record { command = c; answer = answer }) old new
      transmit_kept c m answer old new none is a =
          let one = sent-set txs c m is in
          let at = at-transmit h txs c m is in
          let few = i.plan.within.tx_length.at_most in
          let t = keep i tx.sizes h.tx_lanes a.gated.0 c (as_set m) answer old.tx new.tx
          boards.tx_left
          (few-lanes tx.sizes txs boards.tx_lanes few c a.gated.0 a.gated.1) a.gated.2 in
          record {
            rx_steps = [];
            tx_steps = t.0;
            rx_are = ap (λ (s : BoardSeatView). s.steps) a.rx;
            tx_are = t.1;
            rx_sets = sets-none words (received_sets q) _
                (inr (receive-none q words k agree c none)) [] refl;
            tx_sets = λ w. t.2.sets w (λ w c. sent_sets txs c) one;
            finds = inl tt;
            answered = gated_answered tx.sizes h.tx_lanes c a.gated.0 (as_set m) answer old.tx
                new.tx t.0 [] t.0 boards.tx_seats (at.ends i) a.gated.2 t.2
                (λ b. inr (at.lanes, b));
            stored = stores-none _ old.hint new.hint a.hint;
            cleared = clears-none i.plan.filters old.hint new.hint a.hint;
          }

      -- a command that one store does
      store_kept : (c : Command) (number value : ℕ) (answer : Answer) (old new : Seats)
          → received_sets q words c ≡ [] → sent_sets txs c ≡ [] → IsEnd i c answer
          → ((n v : ℕ) → n ≡ number → v ≡ value
          → IsStoredBy (record { command = c; answer = answer }) n v)
          → new ≡ record old { hint = after_step (Store number value) old.hint }
          → Kept words None (record { command = c; answer = answer }) old new
      store_kept c number value answer old new received sent ends by is =
          record {
            rx_steps = [];
            tx_steps = [];
            rx_are = ap (λ (s : Seats). s.rx.steps) is;
            tx_are = ap (λ (s : Seats). s.tx.steps) is;
            rx_sets = sets-none words (received_sets q) _ (inr received) [] refl;
            tx_sets = λ w. sets-none w (λ w c. sent_sets txs c) _ (inr sent) [] refl;
            finds = inl tt;
            answered = inl ends;
            stored = λ n v has.
                elim (contains-cases (Store number value) old.hint.steps (Store n v)
                (subst (λ (s : Seats). Contains s.hint.steps (Store n v)) is has)) [
                  | inl e ↦ inr (by n v (sym (ap word_of e)) (sym (ap value_of e)))
                  | inr older ↦ inl older
                ];
            cleared = λ n v done has.
                inl (past-step (Store number value) (ClearIf n v done) old.hint.steps
                (store-no-clear number value n v done)
                (subst (λ (s : Seats). Contains s.hint.steps (ClearIf n v done)) is has));
          }

      at_once_kept : (c : Command) (answer : Answer) (old new : Seats)
          → DoesAtOnce stage_in.shared c answer old new
          → Kept words None (record { command = c; answer = answer }) old new
      at_once_kept (give.Reta entry r) answer old new (done, is) =
          store_kept (give.Reta entry r) (hint_number (word.Redirection entry)) (place_word r)
          answer old new refl refl done
          (λ n v number value. inl (
            entry,
            r,
            number,
            value,
            ap (λ (a : Answer). record { command = give.Reta entry r; answer = a }) done,
          )) is
      at_once_kept (give.Stand app cpu) answer old new (done, is) =
          store_kept (give.Stand app cpu) (hint_number (word.Stand app)) (place_word cpu)
          answer old new refl refl done
          (λ n v number value. inr (inl (
            app,
            cpu,
            number,
            value,
            ap (λ (a : Answer). record { command = give.Stand app cpu; answer = a }) done,
          ))) is
      at_once_kept give.Expire answer old new (count, done, same, e) =
          let given : Commanded = record { command = give.Expire; answer = answer } in
          let x = expired_steps stage_in.shared old.rx new.rx old.hint new.hint count e in
          let entered : List BoardStep = Gate (Entered x.1) ∷ [] in
          let g = first_glances stage_in.shared e.all.outcomes e.first e.last old.hint new.hint
          e.all.expires in
          let few = few_expired stage_in.shared i.plan.filters count e.first e.last old.hint
          new.hint e.all in
          record {
            rx_steps = Gate Left ∷ (glances x.0 ++ entered);
            tx_steps = [];
            rx_are = x.2 ∙ ap (λ ds. Gate Left ∷ ds)
                (sym (append_assoc (glances x.0) entered old.rx.steps));
            tx_are = ap (λ (s : BoardSeatView). s.steps) same;
            rx_sets = sets-none words (received_sets q) given (inr refl)
                (sets_and_openings (Gate Left ∷ (glances x.0 ++ entered)))
                (glances-set x.0 entered);
            tx_sets = λ w. sets-none w (λ w c. sent_sets txs c) given (inr refl) [] refl;
            finds = inl (refl, glances-none x.0 entered (refl, tt));
            answered = inl (count, done, few);
            stored = λ n v has. inl (g.stored n v has);
            cleared = clears-more (length e.all.outcomes) i.plan.filters old.hint new.hint
                (let n = e.all.all in omega (arith, n)) g.cleared;
          }
      at_once_kept (give.Mask r mask) answer old new none = absurd none
      at_once_kept (give.Flows r count) answer old new none = absurd none
      at_once_kept (give.Sock size) answer old new none = absurd none
      at_once_kept (give.Offline cpu) answer old new none = absurd none
      at_once_kept (give.Online cpu) answer old new none = absurd none
      at_once_kept (give.XCpus t mask) answer old new none = absurd none
      at_once_kept (give.XQueues t rxqs) answer old new none = absurd none

      tries_kept : (c : Command) (r t : Option Change) (answer : Answer) (old new : Seats)
          → NamesReceiveQueues (queues q) c → receive_change (queues q) k c ≡ r
          → transmit_change txs c ≡ t → TriesBy stage_in c r t answer old new
          → Kept words None (record { command = c; answer = answer }) old new
      tries_kept c (Some m) t answer old new names is other a =
          receive_kept c m answer old new names is a
      tries_kept c None (Some m) answer old new names none is a =
          transmit_kept c m answer old new none is a
      tries_kept c None None answer old new names none other a =
          at_once_kept c answer old new a

      pub attempt_kept : (c : Command) (why : Option Refused) (answer : Answer) (old new : Seats)
          → NamesReceiveQueues (queues q) c → TriesUnless stage_in k c why answer old new
          → Kept words why (record { command = c; answer = answer }) old new
      attempt_kept c (Some why) answer old new names (is, same) =
          refused_kept words c why answer old new is same
      attempt_kept c None answer old new names a =
          tries_kept c (receive_change (queues q) k c) (transmit_change txs c) answer old new names
          refl refl a

-- A step of one event or a command is one of a few kinds, as far as its history grows: what holds
-- after each kind holds after the step.
use Rattle.std.proofs.Common.{ℕ, ◌+◌, ◌<◌, ◌≡◌, true, false, not, cond, List, [], ◌∷◌}
use Rattle.std.proofs.Common.{Option, Some, None, length, refl, ap, ◌∙◌, sym, subst, arith, get_or}
use Rattle.std.proofs.Common.{inl, inr}
use Rattle.std.specs.Prelude.{◌%◌, nat_lt, slice_set}
use Rattle.std.proofs.Math.ListN.{get_or-eq_default, length-set}
use Rattle.std.proofs.lemmas.Bool.{cases_lt, ltb-true, not-false}
use Rattle.std.proofs.lemmas.List.{get_or-set_other}
use Rattle.std.proofs.lemmas.Nat.{mod_below}
use Rattle.steer_base.specs.Choices.{class_of, desired_cpu}
use Rattle.steer_base.specs.HashTables.{with_row}
use Rattle.steer_base.specs.declared.choice.Choice.{Choice}
use Rattle.steer_base.specs.declared.command.Answer.TheVariants as says
use Rattle.steer_base.specs.declared.command.Command.{Command}
use Rattle.steer_base.specs.declared.filter.Filter.{Filter}
use Rattle.steer_base.specs.declared.idle.Idle.TheVariants as idle
use Rattle.steer_base.specs.declared.step.Step.{Step}
use Rattle.steer_base.specs.declared.step.Step.TheVariants as act
use Rattle.hop_model.specs.declared.event.HopEvent.{HopEvent}
use Rattle.hop_model.specs.declared.event.HopEvent.TheVariants as event
use Rattle.hop_model.specs.Events.{AllMayAsk, MayAsk, happens, run}
use Rattle.hop_model.specs.Hop.{HopState, choice_of, choices_of, chose, inside_of, next_of}
use Rattle.hop_model.specs.Hop.{placed_of, taken_of}
use Rattle.hop_core.specs.Leaves.{Field, changes}
use Rattle.hop_model.specs.Reads.{to_weigh}
use Rattle.hop_core.proofs.Cases.{by_cases}
use Rattle.hop_core.proofs.Leaves.{each_leaves}
use Rattle.history.specs.declared.sent.Sent.{Sent}
use Rattle.steer_model.specs.Steps.Applications.{everyone, in_lane, in_reply, next_in, pick_for}
use Rattle.steer_model.specs.Steps.Applications.{record_by, reply_to, send_by, sending, sends}
use Rattle.steer_model.specs.Steps.Applications.{visited, write_of, wrote}
use Rattle.steer_model.specs.Steps.Commands.{answer_to, given}
use Rattle.steer_model.specs.State.Machine.{Machine, last_chosen, note_of}
use Rattle.steer_model.specs.State.Notes.{asking, is_asking, is_nothing}
use Rattle.steer_model.specs.Steps.Outcomes.{StepOutcome, by_rx, by_tx, idle_step}
use Rattle.steer_model.specs.Steps.Pollers.{arrives, ask_by, filter_for, look_by, with_note}
use Rattle.steer_model.specs.Steps.Pollers.{put_position}
use Rattle.steer_model.specs.Steps.Pollers.{poller_after_put, putting, seen_by, weigh_by, weighing}
use Rattle.steer_model.specs.Steps.Pollers.{with_filter}
use Rattle.steer_model.specs.State.Settings.{class_at, plain_lane}
use Rattle.steer_model.specs.State.Setup.{app_for, flow_hash, flow_number_of, packet_hash}
use Rattle.steer_model.specs.Steps.SingleSteps.{simple}
use Rattle.steer_model.specs.declared.note.Note.{Note}
use Rattle.steer_model.specs.declared.note.Note.TheVariants as note
use Rattle.steer_invariant.specs.EventPremises.{AsksRx, AsksTx}
use Rattle.steer_invariant.specs.Invariant.{Invariant}
use Rattle.steer_invariant.specs.StepInvariant.{IsCommandNamed, IsNamed}
use Rattle.steer_invariant.proofs.EitherLemmas.{either}
use Rattle.steer_invariant.proofs.Invariant.EventPremiseLemmas.{asks_rx, asks_tx}
use Rattle.steer_invariant.proofs.StepInvariant.ArrivalLemmas.{next_arrival}
use Rattle.steer_invariant.proofs.StepInvariant.SingleStepLemmas.{weighs-is}
use Rattle.steer_properties.proofs.Histories.ExtendLemmas.{extends-push, extends-set}
use Rattle.steer_properties.proofs.Commands.GivingLemmas.{given-is}
use Rattle.steer_properties.proofs.Histories.LastingLemmas.{Given, InsideStays, Lasts, MakesNoTurn}
use Rattle.steer_properties.proofs.Histories.LastingLemmas.{Quiet}
use Rattle.steer_properties.proofs.Histories.LastingLemmas.{Still, lasts-self, still-noted}
use Rattle.steer_properties.proofs.Histories.LastingLemmas.{still-rx, still-self}
use Rattle.steer_properties.proofs.Histories.LastingLemmas.{still-tx, turns-happens, turns-run}
use Rattle.steer_properties.proofs.Histories.HopGrowthLemmas.{Stays, stays-happens, stays-run}

-- ---- the kinds

-- the choice for the next packet of a queue, with what was seen in the socket flow table
abbrev pub new_choice : Machine → ℕ → Option ℕ → Choice
new_choice m q want =
    let x = next_of m.rx q in
    choice_of m.rx q (class_at m.setup m.settings q x) want
    (desired_cpu (class_at m.setup m.settings q x) want m.settings.online
    (plain_lane m.setup m.settings q x))
    m.settings.online

-- the machine after it
abbrev pub weighed : Machine → ℕ → Option ℕ → Machine
weighed m q want =
    record (with_note m q note.Nothing) { rx = chose m.rx q (new_choice m q want) }

-- the choice for the next reply of an application, and the machine after it
abbrev pub new_tx_choice : Machine → ℕ → Choice
new_tx_choice m a =
    let r = in_reply m a in
    choice_of m.tx a (Some (flow_number_of m.setup r.id)) (Some (pick_for m r))
    (pick_for m r) everyone

abbrev pub tx_weighed : Machine → ℕ → Machine
tx_weighed m a = record m { tx = chose m.tx a (new_tx_choice m a) }

-- What holds after each kind of step: one by which the lists do not grow; an arrival; a look; a
-- choice; a write to the socket flow table; a reply that is begun; its choice; and a command.
pub record Kinds (m : Machine) (s : Step) (Q : Machine → Type 0) : Type 0 where
  pub quiet : (n : Machine) → Quiet m n → Q n
  pub arrive : length m.arrivals < length m.setup.packets → Still m (arrives m (next_arrival m))
      → Q (arrives m (next_arrival m))
  pub look : (q : ℕ) → q < length m.setup.homes → inside_of m.rx q ≡ true
      → length (choices_of m.rx q) < taken_of m.rx q
      → Q (with_note m q (note.Looked (seen_by m q (next_of m.rx q))))
  pub weigh : (q : ℕ) (want : Option ℕ) → q < length m.setup.homes
      → note_of m q ≡ note.Looked want → length (choices_of m.rx q) < taken_of m.rx q
      → Lasts m (weighed m q want) → Q (weighed m q want)
  pub write : (flow hash : ℕ) → flow_hash m.setup flow ≡ Some (Some hash)
      → 0 < length m.socket
      → Still m (wrote (visited m (hash % m.setup.apps)) (hash % m.setup.apps) hash)
      → Q (wrote (visited m (hash % m.setup.apps)) (hash % m.setup.apps) hash)
  pub send : (a x : ℕ) → a < m.setup.apps → next_in m a ≡ Some x → Still m (sends m a x)
      → Q (sends m a x)
  pub tx_weigh : (a : ℕ) → a < m.setup.apps → length (choices_of m.tx a) < taken_of m.tx a
      → Lasts m (tx_weighed m a) → Q (tx_weighed m a)
  pub give : (c : Command) → s ≡ act.Give c → IsCommandNamed m.setup c
      → Given m c (answer_to m c) (given m c).0 → Q (given m c).0

-- ---- what a poller has to weigh

weighs-more : (s : HopState) (q x : ℕ) → to_weigh s q ≡ Some x
    → length (choices_of s q) < taken_of s q
weighs-more s q x =
    either (λ o. o ≡ Some x → length (choices_of s q) < taken_of s q)
    (nat_lt (length (choices_of s q)) (taken_of s q)) (Some (next_of s q)) None
    (λ more e. ltb-true _ _ more) (λ none e. absurd (cc))

-- ---- who is inside

enter-inside : (s : HopState) (a q : ℕ) → inside_of s q ≡ true
    → inside_of (happens s (event.Enter a)).0 q ≡ true
enter-inside s a q is =
    by_cases (λ t. inside_of t q ≡ true) s (event.Enter a) is
    (λ out' open'. get_or-set_other s.visits a q true false (λ e. (
    let f : inside_of s q ≡ inside_of s a = ap (inside_of s) e in
    let g : true ≡ false = sym is ∙ f ∙ out' in cc)) ∙ is)

leave-inside : (s : HopState) (a q : ℕ) → (q ≡ a → ⊥) → inside_of s q ≡ true
    → inside_of (happens s (event.Leave a)).0 q ≡ true
leave-inside s a q other is =
    by_cases (λ t. inside_of t q ≡ true) s (event.Leave a) is
    (λ in' done. get_or-set_other s.visits a q false false other ∙ is)

same-inside : (s : HopState) (e : HopEvent) (q : ℕ) → changes e Field.visits ≡ false
    → inside_of s q ≡ true → inside_of (happens s e).0 q ≡ true
same-inside s e q off is = ap (λ l. get_or l q false) (each_leaves s e Field.visits off) ∙ is

-- ---- steps by which the lists do not grow

module _ (m : Machine) (h : Invariant m) where
  asks : AsksRx m
  asks = asks_rx m h.kept

  tx_asks : AsksTx m
  tx_asks = asks_tx m h.kept

  -- a poller that looked is one of the queues
  looked-below : (q : ℕ) (want : Option ℕ) → note_of m q ≡ note.Looked want
      → q < length m.setup.homes
  looked-below q want is =
      let l = h.kept.lists in
      elim (cases_lt q (length m.notes)) [
        | inl lt ↦ omega (arith, lt, l.notes_long)
        | inr le ↦ absurd (
            let e : note_of m q ≡ note.Nothing = get_or-eq_default m.notes note.Nothing le in
            let f : note.Looked want ≡ note.Nothing = sym is ∙ e in cc)
      ]

  -- an event of the receive hop, and one of the transmit hop
  event-rx : (e : HopEvent) → MakesNoTurn e → MayAsk m.rx e → InsideStays m (happens m.rx e).0
      → Still m (record m { rx = (happens m.rx e).0 })
  event-rx e off may inside =
      let k = h.kept in
      still-rx m (happens m.rx e).0 (stays-happens m.rx e may k.rx.sound)
      (turns-happens m.rx e off) inside

  event-tx : (e : HopEvent) → MakesNoTurn e → MayAsk m.tx e
      → Quiet m (record m { tx = (happens m.tx e).0 })
  event-tx e off may =
      let k = h.kept in
      assumption (
      still-tx m (happens m.tx e).0 (stays-happens m.tx e may k.tx.sound) (turns-happens m.tx e
      off))

  -- an event of the receive hop by which nobody enters or leaves
  beside-rx : (e : HopEvent) → MakesNoTurn e → changes e Field.visits ≡ false → MayAsk m.rx e
      → Quiet m (record m { rx = (happens m.rx e).0 })
  beside-rx e off same may =
      assumption (event-rx e off may (λ q want is. same-inside m.rx e q same))

  quiet-self : Quiet m m
  quiet-self = record { still = still-self m; arrivals = refl; sent = refl; writes = refl }

  quiet-enter : (q : ℕ) → q < length m.setup.homes
      → Quiet m (record m { rx = (happens m.rx (event.Enter q)).0 })
  quiet-enter q named =
      assumption (
      event-rx (event.Enter q) (refl, refl) (asks.enter q named) (λ p want is. enter-inside m.rx
      q p))

  quiet-leave : (q : ℕ) → q < length m.setup.homes → is_nothing (note_of m q) ≡ true
      → Quiet m (record m { rx = (happens m.rx (event.Leave q)).0 })
  quiet-leave q named nothing =
      assumption (
      event-rx (event.Leave q) (refl, refl) (asks.leave q named) (λ p want is. leave-inside m.rx
      q p (λ e. (let f : note_of m q ≡ note.Looked want = ap (note_of m) (sym e) ∙ is in let g :
      true ≡ false = sym nothing ∙ ap is_nothing f in cc))))

  -- a note that is no look
  quiet-noted : (n : Machine) (q : ℕ) (x : Note) (filters : List (Option Filter)) → Quiet m n
      → ((want : Option ℕ) → x ≡ note.Looked want → ⊥) → length filters ≡ length n.filters
      → Quiet m (record n { notes = slice_set n.notes q x; filters = filters })
  quiet-noted n q x filters k other same =
      assumption (still-noted m n q x filters k.still other same)

-- ---- notes that are no look, and filters

asking-other : (o : Option Filter) (want : Option ℕ) → asking o ≡ note.Looked want → ⊥
asking-other None want e = cc
asking-other (Some f) want e = cc

filters-long : (filters : List (Option Filter)) (hash : Option ℕ) (f : Filter)
    → length (with_filter filters hash f) ≡ length filters
filters-long filters None f = refl
filters-long filters (Some hash) f = row-long (class_of (length filters) (Some hash))
  where
    row-long : (place : Option ℕ) → length (with_row filters place (Some f)) ≡ length filters
    row-long None = refl
    row-long (Some place) = length-set filters place (Some f)

-- ---- the walk

module _ (m : Machine) (h : Invariant m) (Q : Machine → Type 0) (this : Step)
    (kinds : Kinds m this Q)
  where
    abbrev Then : StepOutcome → Type 0
    Then o = Q o.0

    self : Q m
    self = kinds.quiet m (quiet-self m h)

    at-arrive : Then (simple m act.Arrive)
    at-arrive =
        let a = next_arrival m in
        either Then (nat_lt (length m.arrivals) (length m.setup.packets))
        (arrives m a, says.Done) (idle_step m idle.NothingLeft)
        (λ few. (
        let lt = ltb-true (length m.arrivals) (length m.setup.packets) few in
        let s = event-rx m h (event.Arrive a.queue a.id) (refl, refl)
        ((asks m h).arrive lt)
        (λ q want is. same-inside m.rx (event.Arrive a.queue a.id) q refl) in
        let l = s.lasts in
        kinds.arrive lt (assumption (extends-push m.arrivals a))))
        (λ _. self)

    at-look : (q : ℕ) (x : Option ℕ) → to_weigh m.rx q ≡ x → q < length m.setup.homes
        → inside_of m.rx q ≡ true → Then (look_by m q x)
    at-look q None is named inside = self
    at-look q (Some x) is named inside =
        subst (λ y. Q (with_note m q (note.Looked (seen_by m q y)))) (sym (weighs-is m q x is))
        (kinds.look q named inside (weighs-more m.rx q x is))

    at-weigh : (q : ℕ) (n : Note) (x : Option ℕ) → note_of m q ≡ n → to_weigh m.rx q ≡ x
        → q < length m.setup.homes → Then (weigh_by m q n x)
    at-weigh q note.Nothing x note is named = self
    at-weigh q (note.Asking filter) x note is named = self
    at-weigh q (note.Looked want) None note is named = self
    at-weigh q (note.Looked want) (Some x) noted-is is named =
        let k = h.kept in
        let e : HopEvent = weighing m q (next_of m.rx q) want in
        let may : MayAsk m.rx e = (asks m h).weigh q want named in
        let stays = stays-happens m.rx e may k.rx.sound in
        let more = weighs-more m.rx q x is in
        let l = lasts-self m in
        subst (λ y. Q
        (record (with_note m q note.Nothing) { rx = (happens m.rx (weighing m q y want)).0 }))
        (sym (weighs-is m q x is))
        (by_cases (λ t. Stays m.rx t → Q (record (with_note m q note.Nothing) { rx = t })) m.rx e
        (λ same. kinds.quiet (with_note m q note.Nothing)
        (quiet-noted m h m q note.Nothing m.filters (quiet-self m h) (λ w f. cc) refl))
        (λ inside enough stay. kinds.weigh q want named noted-is more
        (assumption (stay)))
        stays)

    at-put : (q : ℕ) (position : Option ℕ) → q < length m.setup.homes
        → Then (poller_after_put (by_rx m (putting m q)).0 q position
        (happens m.rx (putting m q)).1)
    at-put q position named =
        put-rest position
        (beside-rx m h (putting m q) (refl, refl) refl
        ((asks m h).put q (packet_hash m.setup (last_chosen m.rx q).id) named))
      where
        put-rest : (position : Option ℕ) → Quiet m (by_rx m (putting m q)).0
            → Then (poller_after_put (by_rx m (putting m q)).0 q position
            (happens m.rx (putting m q)).1)
        put-rest None k = kinds.quiet (by_rx m (putting m q)).0 k
        put-rest (Some position) k =
            let n : Machine = (by_rx m (putting m q)).0 in
            let asked : Option Filter =
            filter_for n.setup.homes (length n.filters) (last_chosen n.rx q).choice position in
            kinds.quiet (with_note n q (asking asked))
            (quiet-noted m h n q (asking asked) n.filters k (asking-other asked) refl)

    at-ask : (q : ℕ) (n : Note) → Then (ask_by m q n)
    at-ask q note.Nothing = self
    at-ask q (note.Looked want) = self
    at-ask q (note.Asking filter) =
        let hash = packet_hash m.setup (last_chosen m.rx q).id in
        kinds.quiet (ask_by m q (note.Asking filter)).0
        (quiet-noted m h m q note.Nothing (with_filter m.filters hash filter) (quiet-self m h)
        (λ w f. cc) (filters-long m.filters hash filter))

    at-write : (flow : ℕ) (hash : Option (Option ℕ)) → flow_hash m.setup flow ≡ hash
        → Then (record_by m hash)
    at-write flow None is = self
    at-write flow (Some None) is = self
    at-write flow (Some (Some hash)) is =
        let a : ℕ = hash % m.setup.apps in
        let g : ℕ = length m.setup.homes + a in
        let k = h.kept in
        let below : a < m.setup.apps = mod_below hash m.setup.apps k.given.some_app in
        let es : List HopEvent = event.Enter g ∷ event.Leave g ∷ [] in
        let may : AllMayAsk es m.rx = (asks m h).visit a below in
        let s = still-rx m (run es m.rx) (stays-run es m.rx may k.rx.sound)
        (turns-run es m.rx ((refl, refl), ((refl, refl), tt)))
        (λ q want is in'. leave-inside (happens m.rx (event.Enter g)).0 g q (λ e. (
        let lt = looked-below m h q want is in omega (arith, lt, e)))
        (enter-inside m.rx g q in')) in
        let l = s.lasts in
        either Then (nat_lt 0 (length m.socket)) (wrote (visited m a) a hash, says.Done)
        (idle_step m idle.NoTable)
        (λ some. kinds.write flow hash is (ltb-true 0 (length m.socket) some) (record {
          lasts = record {
            setup = refl;
            rx = l.rx;
            tx = l.tx;
            filters = refl;
            arrivals = l.arrivals;
            sent = l.sent;
            writes = λ b. extends-set m.writes a b (write_of m a hash);
            commands = l.commands;
          };
          rx = s.rx;
          tx = s.tx;
          settings = refl;
          commands = refl;
          looked = s.looked;
        }))
        (λ _. self)

    at-send : (a : ℕ) (x : Option ℕ) → next_in m a ≡ x → a < m.setup.apps → Then (send_by m a x)
    at-send a None is named = self
    at-send a (Some x) is named =
        let k = h.kept in
        let es : List HopEvent = event.Arrive a x ∷ event.Take a ∷ [] in
        let may : AllMayAsk es m.tx = (tx_asks m h).send a x named is in
        let s = still-tx m (run es m.tx) (stays-run es m.tx may k.tx.sound)
        (turns-run es m.tx ((refl, refl), ((refl, refl), tt))) in
        let l = s.lasts in
        kinds.send a x named is (record {
          lasts = record {
            setup = refl;
            rx = l.rx;
            tx = l.tx;
            filters = refl;
            arrivals = l.arrivals;
            sent = λ b. extends-set m.sent a b (reply_to m a x);
            writes = l.writes;
            commands = l.commands;
          };
          rx = s.rx;
          tx = s.tx;
          settings = refl;
          commands = refl;
          looked = s.looked;
        })

    at-tx_weigh : (a : ℕ) → a < m.setup.apps → Then (simple m (act.TWeigh a))
    at-tx_weigh a named =
        let k = h.kept in
        let r : Sent = in_reply m a in
        let e : HopEvent = sending m a r in
        let may : MayAsk m.tx e = (tx_asks m h).weigh a r named in
        let stays = stays-happens m.tx e may k.tx.sound in
        let l = lasts-self m in
        by_cases (λ t. Stays m.tx t → Q (record m { tx = t })) m.tx e (λ same. self)
        (λ inside more stay. kinds.tx_weigh a named more
        (assumption (stay)))
        stays

    -- an event of the transmit hop alone
    by-tx : (e : HopEvent) → MakesNoTurn e → MayAsk m.tx e → Then (by_tx m e)
    by-tx e off may = kinds.quiet (by_tx m e).0 (event-tx m h e off may)

    beside : (e : HopEvent) → MakesNoTurn e → changes e Field.visits ≡ false → MayAsk m.rx e
        → Then (by_rx m e)
    beside e off same may = kinds.quiet (by_rx m e).0 (beside-rx m h e off same may)

    walk-by : (s : Step) → this ≡ s → IsNamed m.setup s → Q (simple m s).0
    walk-by act.Arrive is named = at-arrive
    walk-by (act.Take q) is named =
        either Then (is_asking (note_of m q)) (idle_step m idle.HandFull) (by_rx m (event.Take q))
        (λ _. self)
        (λ _. beside (event.Take q) (refl, refl) refl ((asks m h).take q (ltb-true _ _ named)))
    walk-by (act.Enter q) is named =
        kinds.quiet (by_rx m (event.Enter q)).0 (quiet-enter m h q (ltb-true _ _ named))
    walk-by (act.Look q) is named =
        let seen : StepOutcome = look_by m q (to_weigh m.rx q) in
        let early : StepOutcome = idle_step m idle.WrongStage in
        either Then (not (inside_of m.rx q)) (idle_step m idle.NotInside)
        (cond (is_nothing (note_of m q)) seen early) (λ _. self)
        (λ inside. either Then (is_nothing (note_of m q)) seen early
        (λ _. at-look q (to_weigh m.rx q) refl (ltb-true _ _ named) (not-false _ inside))
        (λ _. self))
    walk-by (act.Weigh q) is named =
        either Then (not (inside_of m.rx q)) (idle_step m idle.NotInside)
        (weigh_by m q (note_of m q) (to_weigh m.rx q)) (λ _. self)
        (λ _. at-weigh q (note_of m q) (to_weigh m.rx q) refl refl (ltb-true _ _ named))
    walk-by (act.Put q) is named =
        at-put q (put_position (happens m.rx (putting m q)).1) (ltb-true _ _ named)
    walk-by (act.Ask q) is named =
        either Then (not (inside_of m.rx q)) (idle_step m idle.NotInside) (ask_by m q (note_of m q))
        (λ _. self) (λ _. at-ask q (note_of m q))
    walk-by (act.Leave q) is named =
        let gone : StepOutcome = by_rx m (event.Leave q) in
        let early : StepOutcome = idle_step m idle.MidPacket in
        either Then (not (inside_of m.rx q)) (idle_step m idle.NotInside)
        (cond (is_nothing (note_of m q)) gone early) (λ _. self)
        (λ _. either Then (is_nothing (note_of m q)) gone early
        (λ nothing. kinds.quiet gone.0 (quiet-leave m h q (ltb-true _ _ named) nothing))
        (λ _. self))
    walk-by (act.Pull c) is named =
        beside (event.Pull c) (refl, refl) refl ((asks m h).pull c (ltb-true _ _ named))
    walk-by (act.Deliver c) is named =
        beside (event.Deliver c (app_for m.setup (in_lane m.rx c))) (refl, refl) refl
        ((asks m h).deliver c (in_lane m.rx c) (ltb-true _ _ named))
    walk-by (act.Retire c) is named =
        beside (event.Retire c) (refl, refl) refl ((asks m h).retire c (ltb-true _ _ named))
    walk-by (act.Record flow) is named = at-write flow (flow_hash m.setup flow) refl
    walk-by (act.Send a) is named =
        either Then (nat_lt (placed_of m.tx a) (taken_of m.tx a)) (idle_step m idle.HandFull)
        (send_by m a (next_in m a)) (λ _. self)
        (λ _. at-send a (next_in m a) refl (ltb-true _ _ named))
    walk-by (act.TEnter a) is named =
        by-tx (event.Enter a) (refl, refl) ((tx_asks m h).enter a (ltb-true _ _ named))
    walk-by (act.TLeave a) is named =
        by-tx (event.Leave a) (refl, refl) ((tx_asks m h).leave a (ltb-true _ _ named))
    walk-by (act.TWeigh a) is named = at-tx_weigh a (ltb-true _ _ named)
    walk-by (act.TPut a) is named =
        let hash = packet_hash m.setup (last_chosen m.tx a).id in
        by-tx (event.Put a hash) (refl, refl) ((tx_asks m h).put a hash (ltb-true _ _ named))
    walk-by (act.TPull t) is named =
        by-tx (event.Pull t) (refl, refl) ((tx_asks m h).pull t (ltb-true _ _ named))
    walk-by (act.TDeliver t) is named =
        by-tx (event.Deliver t 0) (refl, refl) ((tx_asks m h).deliver t (ltb-true _ _ named))
    walk-by (act.TRetire t) is named =
        by-tx (event.Retire t) (refl, refl) ((tx_asks m h).retire t (ltb-true _ _ named))
    walk-by (act.Give c) is named = kinds.give c is named (given-is m c h.kept named)
    walk-by (act.Poll q) is named = self
    walk-by (act.Drain c) is named = self
    walk-by (act.Reply a) is named = self
    walk-by (act.Serve a) is named = self
    walk-by (act.Ship t) is named = self
    walk-by act.Sweep is named = self

pub walk : (m : Machine) (h : Invariant m) (Q : Machine → Type 0) (s : Step) → Kinds m s Q
    → IsNamed m.setup s → Q (simple m s).0
walk m h Q s kinds named = walk-by m h Q s kinds s refl named

-- ---- what lasts through every step

pub lasts-noted : (m : Machine) (q : ℕ) (x : Note) → Lasts m (with_note m q x)
lasts-noted m q x =
    let l = lasts-self m in
    assumption

pub lasts-simple : (m : Machine) (s : Step) → Invariant m → IsNamed m.setup s
    → Lasts m (simple m s).0
lasts-simple m s h named =
    walk m h (Lasts m) s
    (record {
      quiet = λ n k. k.still.lasts;
      arrive = λ few k. k.lasts;
      look = λ q in' inside more. lasts-noted m q
          (note.Looked (seen_by m q (next_of m.rx q)));
      weigh = λ q want in' is more l. l;
      write = λ flow hash is some k. k.lasts;
      send = λ a x in' is k. k.lasts;
      tx_weigh = λ a in' more l. l;
      give = λ c is in' g. g.lasts;
    }) named

-- Every step of one event and every command keeps the order of flows and the causes of drops, and a
-- new machine has nothing out of order.
use Rattle.std.proofs.Common.{ℕ, ◌+◌, ◌<◌, ◌≡◌, true, not, cond, List, [], ◌∷◌, Option, Some, None}
use Rattle.std.proofs.Common.{length, max, refl, sym, subst, arith, replicate}
use Rattle.std.specs.Prelude.{◌%◌, nat_lt}
use Rattle.std.proofs.lemmas.Bool.{ltb-true}
use Rattle.std.proofs.lemmas.Nat.{mod_below}
use Rattle.steer_base.specs.declared.command.Answer.TheVariants as says
use Rattle.steer_base.specs.declared.command.Command.{Command}
use Rattle.steer_base.specs.declared.command.Command.TheVariants as give
use Rattle.steer_base.specs.declared.idle.Idle.TheVariants as idle
use Rattle.steer_base.specs.declared.packet.Packet.{Packet}
use Rattle.steer_base.specs.declared.step.Step.{Step}
use Rattle.steer_base.specs.declared.step.Step.TheVariants as act
use Rattle.hop_model.specs.declared.event.HopEvent.{HopEvent}
use Rattle.hop_model.specs.declared.event.HopEvent.TheVariants as event
use Rattle.hop_model.specs.Events.{AllMayAsk, MayAsk, happens, run}
use Rattle.hop_model.specs.Hop.{Fixed, HopState, choices_of, inside_of, next_of, placed_of}
use Rattle.hop_model.specs.Hop.{taken_of}
use Rattle.hop_model.specs.Reads.{to_weigh}
use Rattle.hop_core.proofs.BareEvents.{fresh_drops_rise}
use Rattle.hop_core.proofs.Drops.{fresh_is_explained}
use Rattle.hop_core.proofs.New.{Ordered-fresh}
use Rattle.history.proofs.SamePlaces.{some_same}
use Rattle.plan_reader.specs.declared.plan.Plan.{Plan}
use Rattle.steer_model.specs.Steps.Applications.{in_lane, in_reply, next_in, record_by, send_by}
use Rattle.steer_model.specs.Steps.Applications.{sending}
use Rattle.steer_model.specs.Steps.Applications.{visited, wrote}
use Rattle.steer_model.specs.Steps.Commands.{answer_to, is_done, set_by}
use Rattle.steer_model.specs.Capture.FlowCounts.{flow_count}
use Rattle.steer_model.specs.State.Machine.{Machine, last_chosen, note_of}
use Rattle.steer_model.specs.State.Notes.{is_asking, is_nothing}
use Rattle.steer_model.specs.Steps.Outcomes.{StepOutcome, by_rx, by_tx, idle_step}
use Rattle.steer_model.specs.Steps.Pollers.{arrives, ask_by, look_by, put_position}
use Rattle.steer_model.specs.Steps.Pollers.{poller_after_put, putting}
use Rattle.steer_model.specs.Steps.Pollers.{weigh_by, weighing}
use Rattle.steer_model.specs.State.Setup.{app_for, flow_hash, packet_hash}
use Rattle.steer_model.specs.State.Start.{fresh_rx, fresh_tx, new_machine, initial_settings}
use Rattle.steer_model.specs.Steps.SingleSteps.{simple}
use Rattle.steer_model.specs.declared.note.Note.{Note}
use Rattle.steer_model.specs.declared.note.Note.TheVariants as note
use Rattle.steer_invariant.specs.EventPremises.{AsksRx, AsksTx}
use Rattle.steer_properties.proofs.Delivery.HopDelivery.{Delivers}
use Rattle.steer_invariant.specs.Invariant.{Invariant}
use Rattle.steer_invariant.specs.StepInvariant.{IsCommandNamed, IsNamed}
use Rattle.steer_invariant.proofs.BelowLemmas.{both-below}
use Rattle.steer_properties.proofs.Delivery.EventLemmas.{ArePlain, IsPlain, rx-deliver, rx-plain}
use Rattle.steer_properties.proofs.Delivery.EventLemmas.{rx-put}
use Rattle.steer_properties.proofs.Delivery.EventLemmas.{rx-run, tx-deliver, tx-plain, tx-put}
use Rattle.steer_properties.proofs.Delivery.EventLemmas.{tx-run}
use Rattle.steer_invariant.proofs.EitherLemmas.{either}
use Rattle.steer_invariant.proofs.Invariant.EventPremiseLemmas.{asks_rx, asks_tx}
use Rattle.steer_invariant.proofs.StepInvariant.ArrivalLemmas.{next_arrival}

-- what a poller has to weigh is the next packet
weighs-next : (s : HopState) (q x : ℕ) → to_weigh s q ≡ Some x → x ≡ next_of s q
weighs-next s q x =
    either (λ o. o ≡ Some x → x ≡ next_of s q) (nat_lt (length (choices_of s q)) (taken_of s q))
    (Some (next_of s q)) None (λ _ e. sym (some_same (next_of s q) x e)) (λ _ e. absurd (cc))

module _ (f : Fixed) (m : Machine) (h : Invariant m) (d : Delivers f m) where
  abbrev Then : StepOutcome → Type 0
  Then o = Delivers f o.0

  asks : AsksRx m
  asks = asks_rx m h.kept

  tx_asks : AsksTx m
  tx_asks = asks_tx m h.kept

  -- ---- events that neither put nor deliver

  plain-rx : (e : HopEvent) → IsPlain e → MayAsk m.rx e
      → Delivers f (record m { rx = (happens m.rx e).0 })
  plain-rx e plain may =
      let k = h.kept in
      record { rx = rx-plain m.setup f m.rx e plain may k.rx.sound d.rx; tx = d.tx }

  plain-tx : (e : HopEvent) → IsPlain e → MayAsk m.tx e → Then (by_tx m e)
  plain-tx e plain may =
      let k = h.kept in
      record { rx = d.rx; tx = tx-plain m.setup m.tx e plain may k.tx.sound d.tx }

  run-rx : (es : List HopEvent) → ArePlain es → AllMayAsk es m.rx
      → Delivers f (record m { rx = run es m.rx })
  run-rx es plain may =
      let k = h.kept in
      record { rx = rx-run m.setup f es m.rx plain may k.rx.sound d.rx; tx = d.tx }

  -- ---- the steps

  at-arrive : Then (simple m act.Arrive)
  at-arrive =
      either Then (nat_lt (length m.arrivals) (length m.setup.packets))
      (arrives m (next_arrival m), says.Done) (idle_step m idle.NothingLeft)
      (λ few. (
      let n = plain-rx (event.Arrive (next_arrival m).queue (length m.arrivals)) tt
      (asks.arrive (ltb-true _ _ few)) in
      record { rx = n.rx; tx = n.tx }))
      (λ _. d)

  at-look : (q : ℕ) (x : Option ℕ) → Then (look_by m q x)
  at-look q None = d
  at-look q (Some x) = record { rx = d.rx; tx = d.tx }

  at-weigh : (q : ℕ) (n : Note) (x : Option ℕ) → to_weigh m.rx q ≡ x → q < length m.setup.homes
      → Then (weigh_by m q n x)
  at-weigh q note.Nothing x is named = d
  at-weigh q (note.Asking filter) x is named = d
  at-weigh q (note.Looked want) None is named = d
  at-weigh q (note.Looked want) (Some x) is named =
      let may : MayAsk m.rx (weighing m q x want) =
      subst (λ y. MayAsk m.rx (weighing m q y want)) (sym (weighs-next m.rx q x is))
      (asks.weigh q want named) in
      let n = plain-rx (weighing m q x want) tt may in
      record { rx = n.rx; tx = n.tx }

  put-rx : (q : ℕ) → q < length m.setup.homes → Then (by_rx m (putting m q))
  put-rx q named =
      let k = h.kept in
      record {
        rx = rx-put m.setup m.settings f m.rx q k.given
            (asks.put q (packet_hash m.setup (last_chosen m.rx q).id) named) k.rx.sound k.by.settled
            d.rx;
        tx = d.tx;
      }

  at-put : (q : ℕ) (position : Option ℕ) → q < length m.setup.homes
      → Then (poller_after_put (by_rx m (putting m q)).0 q position (happens m.rx (putting m q)).1)
  at-put q None named = put-rx q named
  at-put q (Some position) named = let n = put-rx q named in record { rx = n.rx; tx = n.tx }

  at-ask : (q : ℕ) (n : Note) → Then (ask_by m q n)
  at-ask q note.Nothing = d
  at-ask q (note.Looked want) = d
  at-ask q (note.Asking filter) = record { rx = d.rx; tx = d.tx }

  at-deliver : (c : ℕ) → c < m.setup.cpus → Then (simple m (act.Deliver c))
  at-deliver c named =
      let k = h.kept in
      record {
        rx = rx-deliver m.setup f m.rx c k.given (asks.deliver c (in_lane m.rx c) named) k.rx.sound
            d.rx;
        tx = d.tx;
      }

  at-record : (hash : Option (Option ℕ)) → Then (record_by m hash)
  at-record None = d
  at-record (Some None) = d
  at-record (Some (Some hash)) =
      let a : ℕ = hash % m.setup.apps in
      let g : ℕ = length m.setup.homes + a in
      let k = h.kept in
      let below : a < m.setup.apps = mod_below hash m.setup.apps k.given.some_app in
      either Then (nat_lt 0 (length m.socket)) (wrote (visited m a) a hash, says.Done)
      (idle_step m idle.NoTable)
      (λ _. (
      let n = run-rx (event.Enter g ∷ event.Leave g ∷ []) (tt, (tt, tt)) (asks.visit a below) in
      record { rx = n.rx; tx = n.tx }))
      (λ _. d)

  at-send : (a : ℕ) (x : Option ℕ) → next_in m a ≡ x → a < m.setup.apps → Then (send_by m a x)
  at-send a None is named = d
  at-send a (Some x) is named =
      let k = h.kept in
      record {
        rx = d.rx;
        tx = tx-run m.setup (event.Arrive a x ∷ event.Take a ∷ []) m.tx (tt, (tt, tt))
            (tx_asks.send a x named is) k.tx.sound d.tx;
      }

  at-tput : (a : ℕ) → a < m.setup.apps → Then (simple m (act.TPut a))
  at-tput a named =
      let k = h.kept in let r = h.recorded in
      let hash : Option ℕ = packet_hash m.setup (last_chosen m.tx a).id in
      record {
        rx = d.rx;
        tx = tx-put m.setup m.tx a hash (tx_asks.put a hash named) k.tx.sound r.weighed d.tx;
      }

  at-tdeliver : (t : ℕ) → t < m.setup.txs → Then (simple m (act.TDeliver t))
  at-tdeliver t named =
      let k = h.kept in
      record {
        rx = d.rx;
        tx = tx-deliver m.setup m.tx t (tx_asks.deliver t named) k.tx.sound d.tx;
      }

  at-set : (c : Command) → IsCommandNamed m.setup c → is_done (answer_to m c) ≡ true
      → Delivers f (set_by m c)
  at-set (give.Mask q mask) named done = record { rx = d.rx; tx = d.tx }
  at-set (give.Flows q count) named done =
      let w = both-below q (length m.setup.homes) count 32769 named in
      let few = w.1 in
      let n = run-rx (event.Close ∷ event.Resize q count ∷ event.Reopen ∷ []) (tt, (tt, (tt, tt)))
      (asks.flows q count w.0 (omega (arith, few)) done) in
      record { rx = n.rx; tx = n.tx }
  at-set (give.Sock size) named done = record { rx = d.rx; tx = d.tx }
  at-set (give.Offline cpu) named done = record { rx = d.rx; tx = d.tx }
  at-set (give.Online cpu) named done = record { rx = d.rx; tx = d.tx }
  at-set (give.XCpus tx mask) named done = record { rx = d.rx; tx = d.tx }
  at-set (give.XQueues tx queues) named done = record { rx = d.rx; tx = d.tx }
  at-set (give.Reta place q) named done = record { rx = d.rx; tx = d.tx }
  at-set (give.Stand app cpu) named done = record { rx = d.rx; tx = d.tx }
  at-set give.Expire named done = record { rx = d.rx; tx = d.tx }

  pub delivers-simple : (s : Step) → IsNamed m.setup s → Delivers f (simple m s).0
  delivers-simple act.Arrive named = at-arrive
  delivers-simple (act.Take q) named =
      either Then (is_asking (note_of m q)) (idle_step m idle.HandFull) (by_rx m (event.Take q))
      (λ _. d) (λ _. plain-rx (event.Take q) tt (asks.take q (ltb-true _ _ named)))
  delivers-simple (act.Enter q) named =
      plain-rx (event.Enter q) tt (asks.enter q (ltb-true _ _ named))
  delivers-simple (act.Look q) named =
      let seen : StepOutcome = look_by m q (to_weigh m.rx q) in
      let early : StepOutcome = idle_step m idle.WrongStage in
      either Then (not (inside_of m.rx q)) (idle_step m idle.NotInside)
      (cond (is_nothing (note_of m q)) seen early) (λ _. d)
      (λ _. either Then (is_nothing (note_of m q)) seen early
      (λ _. at-look q (to_weigh m.rx q)) (λ _. d))
  delivers-simple (act.Weigh q) named =
      either Then (not (inside_of m.rx q)) (idle_step m idle.NotInside)
      (weigh_by m q (note_of m q) (to_weigh m.rx q)) (λ _. d)
      (λ _. at-weigh q (note_of m q) (to_weigh m.rx q) refl (ltb-true _ _ named))
  delivers-simple (act.Put q) named =
      at-put q (put_position (happens m.rx (putting m q)).1) (ltb-true _ _ named)
  delivers-simple (act.Ask q) named =
      either Then (not (inside_of m.rx q)) (idle_step m idle.NotInside) (ask_by m q (note_of m q))
      (λ _. d) (λ _. at-ask q (note_of m q))
  delivers-simple (act.Leave q) named =
      let gone : StepOutcome = by_rx m (event.Leave q) in
      let early : StepOutcome = idle_step m idle.MidPacket in
      either Then (not (inside_of m.rx q)) (idle_step m idle.NotInside)
      (cond (is_nothing (note_of m q)) gone early) (λ _. d)
      (λ _. either Then (is_nothing (note_of m q)) gone early
      (λ _. plain-rx (event.Leave q) tt (asks.leave q (ltb-true _ _ named))) (λ _. d))
  delivers-simple (act.Pull c) named =
      plain-rx (event.Pull c) tt (asks.pull c (ltb-true _ _ named))
  delivers-simple (act.Deliver c) named = at-deliver c (ltb-true _ _ named)
  delivers-simple (act.Retire c) named =
      plain-rx (event.Retire c) tt (asks.retire c (ltb-true _ _ named))
  delivers-simple (act.Record flow) named = at-record (flow_hash m.setup flow)
  delivers-simple (act.Send a) named =
      either Then (nat_lt (placed_of m.tx a) (taken_of m.tx a)) (idle_step m idle.HandFull)
      (send_by m a (next_in m a)) (λ _. d)
      (λ _. at-send a (next_in m a) refl (ltb-true _ _ named))
  delivers-simple (act.TEnter a) named =
      plain-tx (event.Enter a) tt (tx_asks.enter a (ltb-true _ _ named))
  delivers-simple (act.TLeave a) named =
      plain-tx (event.Leave a) tt (tx_asks.leave a (ltb-true _ _ named))
  delivers-simple (act.TWeigh a) named =
      plain-tx (sending m a (in_reply m a)) tt
      (tx_asks.weigh a (in_reply m a) (ltb-true _ _ named))
  delivers-simple (act.TPut a) named = at-tput a (ltb-true _ _ named)
  delivers-simple (act.TPull t) named =
      plain-tx (event.Pull t) tt (tx_asks.pull t (ltb-true _ _ named))
  delivers-simple (act.TDeliver t) named = at-tdeliver t (ltb-true _ _ named)
  delivers-simple (act.TRetire t) named =
      plain-tx (event.Retire t) tt (tx_asks.retire t (ltb-true _ _ named))
  delivers-simple (act.Give c) named =
      let n = either (λ (n : Machine). Delivers f n) (is_done (answer_to m c)) (set_by m c) m
      (λ done. at-set c named done) (λ _. d) in
      record { rx = n.rx; tx = n.tx }
  delivers-simple (act.Poll q) named = d
  delivers-simple (act.Drain c) named = d
  delivers-simple (act.Reply a) named = d
  delivers-simple (act.Serve a) named = d
  delivers-simple (act.Ship t) named = d
  delivers-simple act.Sweep named = d

-- ---- a new machine

pub delivers-new : (plan : Plan) (packets : List Packet) (cut : Option ℕ)
    → Delivers (fresh_rx plan packets).fixed (new_machine plan packets cut)
delivers-new plan packets cut =
    let s : HopState = fresh_rx plan packets in
    let t : HopState = fresh_tx plan packets in
    let counts : List ℕ = (initial_settings plan).counts in
    let apps : ℕ = length plan.apps in
    let classes : List ℕ = replicate apps (max 1 (flow_count packets)) in
    let m : Machine = new_machine plan packets cut in
    record {
      rx = record {
        fixed = refl;
        order = λ q x lt set within mine.
            Ordered-fresh s.fixed counts (apps + 1) plan.cpus apps set q (app_for m.setup x);
        causes = fresh_is_explained (packet_hash m.setup) s.fixed counts (apps + 1) plan.cpus apps;
        counts = fresh_drops_rise s.fixed counts (apps + 1) plan.cpus apps;
      };
      tx = λ a x lt set within mine.
          Ordered-fresh t.fixed classes 0 (length plan.tx) 1 set a 0;
    }

-- Each step of one event, and each command, keeps the machine's invariant and what never changes.
use Rattle.std.proofs.Common.{ℕ, ◌+◌, ◌≤◌, ◌<◌, ◌≡◌, true, not, cond, [], ◌∷◌, ◌++◌, Option, Some}
use Rattle.std.proofs.Common.{None, length, refl, ap, sym, subst, arith}
use Rattle.std.specs.Prelude.{◌%◌, nat_lt}
use Rattle.std.proofs.lemmas.Bool.{ltb-false, ltb-true}
use Rattle.std.proofs.lemmas.Nat.{mod_below}
use Rattle.steer_base.specs.declared.command.Answer.TheVariants as says
use Rattle.steer_base.specs.declared.command.Command.{Command}
use Rattle.steer_base.specs.declared.command.Command.TheVariants as give
use Rattle.steer_base.specs.declared.idle.Idle.TheVariants as idle
use Rattle.steer_base.specs.declared.step.Step.{Step}
use Rattle.steer_base.specs.declared.step.Step.TheVariants as act
use Rattle.hop_model.specs.declared.event.HopEvent.{HopEvent}
use Rattle.hop_model.specs.declared.event.HopEvent.TheVariants as event
use Rattle.hop_model.specs.Events.{happens}
use Rattle.hop_model.specs.Hop.{HopState, choices_of, inside_of, next_of, placed_of, taken_of}
use Rattle.hop_model.specs.Reads.{to_weigh}
use Rattle.history.specs.Lists.{list_at}
use Rattle.history.specs.declared.arrival.Arrival.{Arrival}
use Rattle.steer_model.specs.Steps.Applications.{in_lane, in_reply, next_in, record_by, reply_to}
use Rattle.steer_model.specs.Steps.Applications.{send_by}
use Rattle.steer_model.specs.Steps.Applications.{sending, stand_of, visited, write_of, wrote}
use Rattle.steer_model.specs.Steps.Commands.{answer_to, given, is_done, set_by}
use Rattle.steer_model.specs.State.Machine.{Machine, last_chosen, note_of}
use Rattle.steer_model.specs.State.Notes.{is_asking, is_nothing}
use Rattle.steer_model.specs.Steps.Outcomes.{StepOutcome, by_rx, idle_step}
use Rattle.steer_model.specs.Steps.Pollers.{arrives, ask_by, look_by, put_position}
use Rattle.steer_model.specs.Steps.Pollers.{poller_after_put, putting}
use Rattle.steer_model.specs.Steps.Pollers.{seen_by, weigh_by, weighing, with_filter}
use Rattle.steer_model.specs.State.Setup.{app_for, flow_hash, packet_hash}
use Rattle.steer_model.specs.Steps.SingleSteps.{simple}
use Rattle.steer_model.specs.declared.note.Note.{Note}
use Rattle.steer_model.specs.declared.note.Note.TheVariants as note
use Rattle.steer_invariant.specs.StepInvariant.{IsCommandNamed, IsNamed, StepInvariant}
use Rattle.steer_invariant.proofs.BelowLemmas.{both-below}
use Rattle.steer_invariant.proofs.EitherLemmas.{either}
use Rattle.steer_invariant.proofs.StepInvariant.ArrivalLemmas.{kept_arrive, next_arrival}
use Rattle.steer_invariant.proofs.StepInvariant.FlowCountLemmas.{kept_flows}
use Rattle.steer_invariant.proofs.StepInvariant.CommandLemmas.{StepInvariant-listed, kept_set}
use Rattle.steer_invariant.proofs.StepInvariant.HotplugLemmas.{kept_offline, kept_online}
use Rattle.steer_invariant.proofs.StepInvariant.PollerLemmas.{kept_deliver, kept_enter, kept_leave}
use Rattle.steer_invariant.proofs.StepInvariant.PollerLemmas.{kept_look}
use Rattle.steer_invariant.proofs.StepInvariant.PollerLemmas.{kept_pull, kept_retire, kept_take}
use Rattle.steer_invariant.proofs.StepInvariant.PutLemmas.{kept_ask, kept_asking, kept_put}
use Rattle.steer_invariant.proofs.StepInvariant.RecordLemmas.{kept_visited, kept_wrote, noted-long}
use Rattle.steer_invariant.proofs.StepInvariant.ReplyLemmas.{kept_send, kept_tdeliver, kept_tenter}
use Rattle.steer_invariant.proofs.StepInvariant.ReplyLemmas.{kept_tleave}
use Rattle.steer_invariant.proofs.StepInvariant.ReplyLemmas.{kept_tpull, kept_tput, kept_tretire}
use Rattle.steer_invariant.proofs.StepInvariant.ReplyLemmas.{kept_tweigh}
use Rattle.steer_invariant.proofs.StepInvariant.WeighLemmas.{kept_weigh}

-- the packet that was found to be weighed next
pub weighs-is : (m : Machine) (q x : ℕ) → to_weigh m.rx q ≡ Some x → x ≡ next_of m.rx q
weighs-is m q x =
    either (λ o. o ≡ Some x
    → x ≡ next_of m.rx q) (nat_lt (length (choices_of m.rx q)) (taken_of m.rx q))
    (Some (next_of m.rx q)) None
    (λ more e. ap (λ (o : Option ℕ). some_or o x) (sym e)) (λ none e. absurd (cc))
  where
    some_or : Option ℕ → ℕ → ℕ
    some_or None d = d
    some_or (Some y) d = y

-- the machine after a step has the same setup, and the invariant
pub record Goes (m : Machine) (o : StepOutcome) : Type 0 where
  pub setup : o.0.setup ≡ m.setup
  pub kept : StepInvariant o.0

module _ (m : Machine) (k : StepInvariant m) where
  stays : (o : StepOutcome) → o.0 ≡ m → Goes m o
  stays o e =
      record {
        setup = ap (λ (n : Machine). n.setup) e;
        kept = subst (λ (n : Machine). StepInvariant n)
            (sym e) k;
      }

  -- ---- the wire and the pollers

  goes-arrive : Goes m (simple m act.Arrive)
  goes-arrive =
      let a : Arrival = next_arrival m in
      either (Goes m) (nat_lt (length m.arrivals) (length m.setup.packets)) (arrives m a, says.Done)
      (idle_step m idle.NothingLeft)
      (λ few. record {
        setup = refl;
        kept = kept_arrive m a (happens m.rx (event.Arrive a.queue a.id)).0 refl
            (ltb-true _ _ few) refl k;
      })
      (λ none. stays (idle_step m idle.NothingLeft) refl)

  goes-take : (q : ℕ) → q < length m.setup.homes → Goes m (simple m (act.Take q))
  goes-take q named =
      either (Goes m) (is_asking (note_of m q)) (idle_step m idle.HandFull) (by_rx m (event.Take q))
      (λ asks. stays (idle_step m idle.HandFull) refl)
      (λ quiet. record {
        setup = refl;
        kept = kept_take m q
            (happens m.rx (event.Take q)).0 named quiet refl k;
      })

  goes-look : (q : ℕ) (x : Option ℕ) → to_weigh m.rx q ≡ x → q < length m.setup.homes
      → Goes m (look_by m q x)
  goes-look q None is named = stays (look_by m q None) refl
  goes-look q (Some x) is named =
      record { setup = refl; kept = kept_look m q x (seen_by m q x) named is k }

  goes-weigh : (q : ℕ) (n : Note) (x : Option ℕ) → to_weigh m.rx q ≡ x → q < length m.setup.homes
      → Goes m (weigh_by m q n x)
  goes-weigh q note.Nothing x is named = stays (weigh_by m q note.Nothing x) refl
  goes-weigh q (note.Asking filter) x is named = stays (weigh_by m q (note.Asking filter) x) refl
  goes-weigh q (note.Looked want) None is named = stays (weigh_by m q (note.Looked want) None) refl
  goes-weigh q (note.Looked want) (Some x) is named =
      record {
        setup = refl;
        kept = kept_weigh m q want (happens m.rx (weighing m q x want)).0 named
            (ap (λ y. (happens m.rx (weighing m q y want)).0) (weighs-is m q x is)) k;
      }

  goes-put : (q : ℕ) (position : Option ℕ) → put_position (happens m.rx (putting m q)).1 ≡ position
      → q < length m.setup.homes
      → Goes m (poller_after_put (by_rx m (putting m q)).0 q position
      (happens m.rx (putting m q)).1)
  goes-put q None is named =
      record {
        setup = refl;
        kept = kept_put m q (packet_hash m.setup (last_chosen m.rx q).id)
            (happens m.rx (putting m q)).0 named refl k;
      }
  goes-put q (Some position) is named =
      let t : HopState = (happens m.rx (putting m q)).0 in
      record {
        setup = refl;
        kept = kept_asking m q (packet_hash m.setup (last_chosen m.rx q).id) t position
            (length m.filters)
            (last_chosen t q).choice
            named refl is k;
      }

  goes-ask : (q : ℕ) (n : Note) → note_of m q ≡ n → q < length m.setup.homes → Goes m (ask_by m q n)
  goes-ask q note.Nothing is named = stays (ask_by m q note.Nothing) refl
  goes-ask q (note.Looked want) is named = stays (ask_by m q (note.Looked want)) refl
  goes-ask q (note.Asking filter) is named =
      let hash : Option ℕ = packet_hash m.setup (last_chosen m.rx q).id in
      record {
        setup = refl;
        kept = kept_ask m q filter hash
            (with_filter m.filters hash filter) named is refl k;
      }

  goes-leave : (q : ℕ) → q < length m.setup.homes → Goes m (simple m (act.Leave q))
  goes-leave q named =
      let rest : StepOutcome =
      cond (is_nothing (note_of m q)) (by_rx m (event.Leave q)) (idle_step m idle.MidPacket) in
      either (Goes m) (not (inside_of m.rx q)) (idle_step m idle.NotInside) rest
      (λ out'. stays (idle_step m idle.NotInside) refl)
      (λ in'. either (Goes m) (is_nothing (note_of m q)) (by_rx m (event.Leave q))
      (idle_step m idle.MidPacket)
      (λ quiet. record {
        setup = refl;
        kept = kept_leave m q
            (happens m.rx (event.Leave q)).0 named refl k;
      })
      (λ busy. stays (idle_step m idle.MidPacket) refl))

  -- ---- applications

  goes-record : (hash : Option (Option ℕ)) → Goes m (record_by m hash)
  goes-record None = stays (record_by m None) refl
  goes-record (Some None) = stays (record_by m (Some None)) refl
  goes-record (Some (Some hash)) =
      let a : ℕ = hash % m.setup.apps in
      let g : ℕ = length m.setup.homes + a in
      let some = k.given.some_app in
      let t : HopState = (happens m.rx (event.Enter g)).0 in
      let n : Machine = visited m a in
      either (Goes m) (nat_lt 0 (length m.socket)) (wrote n a hash, says.Done)
      (idle_step m idle.NoTable)
      (λ full. record {
        setup = refl;
        kept = kept_wrote n (wrote n a hash).socket a (list_at n.writes a ++ write_of n a hash ∷ [])
            (noted-long n.socket hash (stand_of n a))
            (kept_visited m a t (happens t (event.Leave g)).0
            (mod_below hash m.setup.apps some) refl refl k);
      })
      (λ empty. stays (idle_step m idle.NoTable) refl)

  goes-send : (a : ℕ) (x : Option ℕ) → next_in m a ≡ x → a < m.setup.apps
      → taken_of m.tx a ≤ placed_of m.tx a → Goes m (send_by m a x)
  goes-send a None is named free = stays (send_by m a None) refl
  goes-send a (Some x) is named free =
      let t : HopState = (happens m.tx (event.Arrive a x)).0 in
      record {
        setup = refl;
        kept = kept_send m a x (reply_to m a x) t
            (happens t (event.Take a)).0 named free is refl refl refl k;
      }

  -- ---- commands

  pub kept-done : (c : Command) → IsCommandNamed m.setup c → is_done (answer_to m c) ≡ true
      → StepInvariant (set_by m c)
  kept-done (give.Flows q count) named done =
      let w = both-below q (length m.setup.homes) count 32769 named in
      let lt = w.1 in
      let t : HopState = (happens m.rx event.Close).0 in
      let u : HopState = (happens t (event.Resize q count)).0 in
      kept_flows m q count t u (happens u event.Reopen).0 w.0
      (omega (arith, lt)) done refl refl refl k
  kept-done (give.Offline cpu) named done = kept_offline m cpu (ltb-true _ _ named) done k
  kept-done (give.Online cpu) named done = kept_online m cpu (ltb-true _ _ named) done k
  kept-done (give.Mask q mask) named done = kept_set m (give.Mask q mask) tt named done k
  kept-done (give.Sock size) named done = kept_set m (give.Sock size) tt named done k
  kept-done (give.XCpus tx mask) named done = kept_set m (give.XCpus tx mask) tt named done k
  kept-done (give.XQueues tx queues) named done =
      kept_set m (give.XQueues tx queues) tt named done k
  kept-done (give.Reta place q) named done = kept_set m (give.Reta place q) tt named done k
  kept-done (give.Stand app cpu) named done = kept_set m (give.Stand app cpu) tt named done k
  kept-done give.Expire named done = kept_set m give.Expire tt named done k

  setup-done : (c : Command) → (set_by m c).setup ≡ m.setup
  setup-done (give.Flows q count) = refl
  setup-done (give.Offline cpu) = refl
  setup-done (give.Online cpu) = refl
  setup-done (give.Mask q mask) = refl
  setup-done (give.Sock size) = refl
  setup-done (give.XCpus tx mask) = refl
  setup-done (give.XQueues tx queues) = refl
  setup-done (give.Reta place q) = refl
  setup-done (give.Stand app cpu) = refl
  setup-done give.Expire = refl

  goes-give : (c : Command) → IsCommandNamed m.setup c → Goes m (given m c)
  goes-give c named =
      record {
        setup = either (λ (n : Machine). n.setup ≡ m.setup) (is_done (answer_to m c)) (set_by m c) m
            (λ done. setup-done c) (λ refused. refl);
        kept = StepInvariant-listed (cond (is_done (answer_to m c)) (set_by m c) m) c
            (answer_to m c)
            (either StepInvariant (is_done (answer_to m c)) (set_by m c) m
            (λ done. kept-done c named done)
            (λ refused. k));
      }

  -- ---- all of them

  pub goes-simple : (s : Step) → IsNamed m.setup s → Goes m (simple m s)
  goes-simple act.Arrive named = goes-arrive
  goes-simple (act.Take q) named = goes-take q (ltb-true _ _ named)
  goes-simple (act.Enter q) named =
      record {
        setup = refl;
        kept = kept_enter m q (happens m.rx (event.Enter q)).0
            (ltb-true _ _ named) refl k;
      }
  goes-simple (act.Look q) named =
      let rest : StepOutcome =
      cond (is_nothing (note_of m q)) (look_by m q (to_weigh m.rx q))
      (idle_step m idle.WrongStage) in
      either (Goes m) (not (inside_of m.rx q)) (idle_step m idle.NotInside) rest
      (λ out'. stays (idle_step m idle.NotInside) refl)
      (λ in'. either (Goes m) (is_nothing (note_of m q)) (look_by m q (to_weigh m.rx q))
      (idle_step m idle.WrongStage)
      (λ quiet. goes-look q (to_weigh m.rx q) refl (ltb-true _ _ named))
      (λ busy. stays (idle_step m idle.WrongStage) refl))
  goes-simple (act.Weigh q) named =
      either (Goes m) (not (inside_of m.rx q)) (idle_step m idle.NotInside)
      (weigh_by m q (note_of m q) (to_weigh m.rx q))
      (λ out'. stays (idle_step m idle.NotInside) refl)
      (λ in'. goes-weigh q (note_of m q) (to_weigh m.rx q) refl (ltb-true _ _ named))
  goes-simple (act.Put q) named =
      goes-put q (put_position (happens m.rx (putting m q)).1) refl (ltb-true _ _ named)
  goes-simple (act.Ask q) named =
      either (Goes m) (not (inside_of m.rx q)) (idle_step m idle.NotInside)
      (ask_by m q (note_of m q))
      (λ out'. stays (idle_step m idle.NotInside) refl)
      (λ in'. goes-ask q (note_of m q) refl (ltb-true _ _ named))
  goes-simple (act.Leave q) named = goes-leave q (ltb-true _ _ named)
  goes-simple (act.Pull c) named =
      record {
        setup = refl;
        kept = kept_pull m c (happens m.rx (event.Pull c)).0
            (ltb-true _ _ named) refl k;
      }
  goes-simple (act.Deliver c) named =
      let e : HopEvent = event.Deliver c (app_for m.setup (in_lane m.rx c)) in
      record {
        setup = refl;
        kept = kept_deliver m c (in_lane m.rx c) e (happens m.rx e).0
            (ltb-true _ _ named) refl refl k;
      }
  goes-simple (act.Retire c) named =
      record {
        setup = refl;
        kept = kept_retire m c (happens m.rx (event.Retire c)).0
            (ltb-true _ _ named) refl k;
      }
  goes-simple (act.Record flow) named = goes-record (flow_hash m.setup flow)
  goes-simple (act.Send a) named =
      either (Goes m) (nat_lt (placed_of m.tx a) (taken_of m.tx a)) (idle_step m idle.HandFull)
      (send_by m a (next_in m a))
      (λ full. stays (idle_step m idle.HandFull) refl)
      (λ free. goes-send a (next_in m a) refl (ltb-true _ _ named) (ltb-false _ _ free))
  goes-simple (act.TEnter a) named =
      record {
        setup = refl;
        kept = kept_tenter m a (happens m.tx (event.Enter a)).0
            (ltb-true _ _ named) refl k;
      }
  goes-simple (act.TLeave a) named =
      record {
        setup = refl;
        kept = kept_tleave m a (happens m.tx (event.Leave a)).0
            (ltb-true _ _ named) refl k;
      }
  goes-simple (act.TWeigh a) named =
      let e : HopEvent = sending m a (in_reply m a) in
      record {
        setup = refl;
        kept = kept_tweigh m a (in_reply m a) e (happens m.tx e).0
            (ltb-true _ _ named) refl refl k;
      }
  goes-simple (act.TPut a) named =
      let hash : Option ℕ = packet_hash m.setup (last_chosen m.tx a).id in
      record {
        setup = refl;
        kept = kept_tput m a hash (happens m.tx (event.Put a hash)).0
            (ltb-true _ _ named) refl k;
      }
  goes-simple (act.TPull t) named =
      record {
        setup = refl;
        kept = kept_tpull m t (happens m.tx (event.Pull t)).0
            (ltb-true _ _ named) refl k;
      }
  goes-simple (act.TDeliver t) named =
      record {
        setup = refl;
        kept = kept_tdeliver m t (happens m.tx (event.Deliver t 0)).0
            (ltb-true _ _ named) refl k;
      }
  goes-simple (act.TRetire t) named =
      record {
        setup = refl;
        kept = kept_tretire m t (happens m.tx (event.Retire t)).0
            (ltb-true _ _ named) refl k;
      }
  goes-simple (act.Give c) named = goes-give c named
  goes-simple (act.Poll q) named = stays (simple m (act.Poll q)) refl
  goes-simple (act.Drain c) named = stays (simple m (act.Drain c)) refl
  goes-simple (act.Reply a) named = stays (simple m (act.Reply a)) refl
  goes-simple (act.Serve a) named = stays (simple m (act.Serve a)) refl
  goes-simple (act.Ship t) named = stays (simple m (act.Ship t)) refl
  goes-simple act.Sweep named = stays (simple m act.Sweep) refl

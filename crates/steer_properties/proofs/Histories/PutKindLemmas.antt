-- A step of one event or a command puts nothing, or a packet to a processor, or a reply to a
-- transmit queue: what holds after each of these holds after the step.
use Rattle.std.proofs.Common.{ℕ, ◌+◌, ◌≤◌, ◌<◌, ◌≡◌, false, not, cond, List, [], ◌∷◌, Option}
use Rattle.std.proofs.Common.{Some, None, length, refl, ◌∙◌, sym, subst, arith}
use Rattle.std.specs.Prelude.{◌%◌, nat_lt}
use Rattle.steer_base.specs.Drops.{bucket_of, lane_drop_cause}
use Rattle.steer_base.specs.declared.command.Answer.TheVariants as says
use Rattle.steer_base.specs.declared.command.Command.{Command}
use Rattle.steer_base.specs.declared.command.Command.TheVariants as give
use Rattle.steer_base.specs.declared.idle.Idle.TheVariants as idle
use Rattle.steer_base.specs.declared.put.DropCause.{DropCause}
use Rattle.steer_base.specs.declared.step.Step.{Step}
use Rattle.steer_base.specs.declared.step.Step.TheVariants as act
use Rattle.hop_model.specs.declared.event.HopAnswer.{HopAnswer}
use Rattle.hop_model.specs.declared.event.HopEvent.{HopEvent}
use Rattle.hop_model.specs.declared.event.HopEvent.TheVariants as event
use Rattle.hop_model.specs.Events.{happens, run}
use Rattle.hop_model.specs.Hop.{HopState, choices_of, in_hand, inside_of, lane_of, placed_of}
use Rattle.hop_model.specs.Hop.{pulled_at, put_one, taken_of}
use Rattle.hop_core.specs.Leaves.{Field, changes}
use Rattle.hop_model.specs.Reads.{to_weigh}
use Rattle.hop_core.proofs.Cases.{Enabled, by_cases}
use Rattle.hop_core.proofs.Leaves.{each_leaves}
use Rattle.hop_core.proofs.PutSteps.{put_as}
use Rattle.steer_model.specs.State.Machine.{Machine, last_chosen, note_of}
use Rattle.steer_model.specs.State.Notes.{is_asking, is_nothing}
use Rattle.steer_model.specs.State.Setup.{app_for, flow_hash, packet_hash}
use Rattle.steer_model.specs.Steps.Applications.{in_lane, in_reply, next_in, record_by, send_by}
use Rattle.steer_model.specs.Steps.Applications.{sending, visited, wrote}
use Rattle.steer_model.specs.Steps.Commands.{answer_to, given, is_done, set_by}
use Rattle.steer_model.specs.Steps.Outcomes.{StepOutcome, by_rx, by_tx, idle_step}
use Rattle.steer_model.specs.Steps.Pollers.{arrives, ask_by, look_by, poller_after_put}
use Rattle.steer_model.specs.Steps.Pollers.{put_position, putting, weigh_by, weighing}
use Rattle.steer_model.specs.Steps.SingleSteps.{simple}
use Rattle.steer_model.specs.declared.note.Note.{Note}
use Rattle.steer_model.specs.declared.note.Note.TheVariants as note
use Rattle.steer_invariant.proofs.EitherLemmas.{either}
use Rattle.steer_invariant.proofs.StepInvariant.ArrivalLemmas.{next_arrival}
use Rattle.steer_properties.proofs.Histories.HopGrowthLemmas.{count-risen}

-- ---- the kinds

-- no lane of a hop accepted or dropped a packet, and none has fewer pulled
pub record LanesStay (s t : HopState) : Type 0 where
  pub accepted : t.bare.accepted ≡ s.bare.accepted
  pub drops : t.bare.drops ≡ s.bare.drops
  pub pulled : (c : ℕ) → pulled_at s.bare c ≤ pulled_at t.bare c

-- no lane of either hop did
pub record NothingIsPut (m n : Machine) : Type 0 where
  pub rx : LanesStay m.rx n.rx
  pub tx : LanesStay m.tx n.tx

-- the hash with which the last choice of a producer is put
abbrev pub put_hash : Machine → HopState → ℕ → Option ℕ
put_hash m s p = packet_hash m.setup (last_chosen s p).id

-- What holds after each kind of step: one that puts nothing; a put to a processor; and one to a
-- transmit queue.
pub record PutKinds (m : Machine) (Q : Machine → Type 0) : Type 0 where
  pub nothing : (n : Machine) → NothingIsPut m n → Q n
  pub put : (q : ℕ) (n : Machine) → placed_of m.rx q < length (choices_of m.rx q)
      → n.rx ≡ put_one m.rx q (put_hash m m.rx q) → LanesStay m.tx n.tx → Q n
  pub tx_put : (a : ℕ) (n : Machine) → placed_of m.tx a < length (choices_of m.tx a)
      → n.tx ≡ put_one m.tx a (put_hash m m.tx a) → LanesStay m.rx n.rx → Q n

-- ---- events that put nothing

-- what a lane pulled only rises
abbrev pub PulledRise : HopState → HopState → Type 0
PulledRise s t = (c : ℕ) → pulled_at s.bare c ≤ pulled_at t.bare c

rise-put : (s : HopState) (p : ℕ) (cause : Option DropCause) (bucket : Option ℕ)
    → PulledRise s (put_as s p cause bucket)
rise-put s p None bucket c = omega arith
rise-put s p (Some cause) bucket c = omega arith

rise-enabled : (s : HopState) (e : HopEvent) → Enabled (PulledRise s) s e
rise-enabled s (event.Put p hash) =
    λ _ _. rise-put s p (lane_drop_cause (lane_of s.fixed s.bare (in_hand s p).choice.lane) hash)
    (bucket_of hash)
rise-enabled s (event.Pull c) = λ _ _ d. count-risen s.bare.pulled c d
rise-enabled s (event.Arrive p x) = λ c. omega arith
rise-enabled s (event.Take p) = λ _ _ c. omega arith
rise-enabled s (event.Enter a) = λ _ _ c. omega arith
rise-enabled s (event.Leave a) = λ _ _ c. omega arith
rise-enabled s (event.Weigh p class want desired online) = λ _ _ c. omega arith
rise-enabled s (event.Deliver c o) = λ _ d. omega arith
rise-enabled s (event.Retire c) = λ _ d. omega arith
rise-enabled s (event.Resize p count) = λ c. omega arith
rise-enabled s event.Close = λ _ c. omega arith
rise-enabled s event.Reopen = λ c. omega arith

stays-as : (s : HopState) → LanesStay s s
stays-as s = record { accepted = refl; drops = refl; pulled = λ c. omega arith }

abbrev pub PutsNothing : HopEvent → Type 0
PutsNothing e = (changes e Field.accepted ≡ false) × (changes e Field.drops ≡ false)

stay-happens : (s : HopState) (e : HopEvent) → PutsNothing e → LanesStay s (happens s e).0
stay-happens s e off =
    record {
      accepted = each_leaves s e Field.accepted off.0;
      drops = each_leaves s e Field.drops off.1;
      pulled = by_cases (PulledRise s) s e (λ c. omega arith) (rise-enabled s e);
    }

stay-more : (s t u : HopState) → LanesStay s t → LanesStay t u → LanesStay s u
stay-more s t u a b =
    record {
      accepted = b.accepted ∙ a.accepted;
      drops = b.drops ∙ a.drops;
      pulled = λ c. (let x = a.pulled c in let y = b.pulled c in omega (arith, x, y));
    }

abbrev pub PutNothing : List HopEvent → Type 0
PutNothing [] = Unit {0}
PutNothing (e ∷ es) = PutsNothing e × PutNothing es

stay-run : (es : List HopEvent) (s : HopState) → PutNothing es → LanesStay s (run es s)
stay-run [] s off = stays-as s
stay-run (e ∷ es) s off =
    stay-more s (happens s e).0 (run es (happens s e).0) (stay-happens s e off.0)
    (stay-run es (happens s e).0 off.1)

-- ---- the walk

module _ (m : Machine) (Q : Machine → Type 0) (kinds : PutKinds m Q) where
  abbrev Then : StepOutcome → Type 0
  Then o = Q o.0

  -- a machine whose hops have the same lanes
  quiet : (n : Machine) → LanesStay m.rx n.rx → LanesStay m.tx n.tx → Q n
  quiet n rx tx = kinds.nothing n (record { rx = rx; tx = tx })

  self : Q m
  self = quiet m (stays-as m.rx) (stays-as m.tx)

  by-rx : (e : HopEvent) → PutsNothing e → Then (by_rx m e)
  by-rx e off = quiet (by_rx m e).0 (stay-happens m.rx e off) (stays-as m.tx)

  by-tx : (e : HopEvent) → PutsNothing e → Then (by_tx m e)
  by-tx e off = quiet (by_tx m e).0 (stays-as m.rx) (stay-happens m.tx e off)

  at-arrive : Then (simple m act.Arrive)
  at-arrive =
      let a = next_arrival m in
      either Then (nat_lt (length m.arrivals) (length m.setup.packets))
      (arrives m a, says.Done) (idle_step m idle.NothingLeft)
      (λ _. quiet (arrives m a) (stay-happens m.rx (event.Arrive a.queue a.id) (refl, refl))
      (stays-as m.tx))
      (λ _. self)

  at-look : (q : ℕ) (x : Option ℕ) → Then (look_by m q x)
  at-look q None = self
  at-look q (Some x) = quiet (look_by m q (Some x)).0 (stays-as m.rx) (stays-as m.tx)

  at-weigh : (q : ℕ) (n : Note) (x : Option ℕ) → Then (weigh_by m q n x)
  at-weigh q note.Nothing x = self
  at-weigh q (note.Asking filter) x = self
  at-weigh q (note.Looked want) None = self
  at-weigh q (note.Looked want) (Some x) =
      quiet (weigh_by m q (note.Looked want) (Some x)).0
      (stay-happens m.rx (weighing m q x want) (refl, refl)) (stays-as m.tx)

  -- a put of the receive hop, whatever else the step does to the machine
  puts-rx : (q : ℕ) (n : Machine) → n.rx ≡ (happens m.rx (putting m q)).0 → LanesStay m.tx n.tx
      → Q n
  puts-rx q n is tx =
      by_cases (λ t. n.rx ≡ t → Q n) m.rx (putting m q)
      (λ same. quiet n (subst (LanesStay m.rx) (sym same) (stays-as m.rx)) tx)
      (λ inside more made. kinds.put q n more made tx)
      is

  at-put : (q : ℕ) (position : Option ℕ) (a : HopAnswer)
      → Then (poller_after_put (by_rx m (putting m q)).0 q position a)
  at-put q None a = puts-rx q (by_rx m (putting m q)).0 refl (stays-as m.tx)
  at-put q (Some position) a =
      puts-rx q (poller_after_put (by_rx m (putting m q)).0 q (Some position) a).0 refl
      (stays-as m.tx)

  at-ask : (q : ℕ) (n : Note) → Then (ask_by m q n)
  at-ask q note.Nothing = self
  at-ask q (note.Looked want) = self
  at-ask q (note.Asking filter) =
      quiet (ask_by m q (note.Asking filter)).0 (stays-as m.rx) (stays-as m.tx)

  at-record : (hash : Option (Option ℕ)) → Then (record_by m hash)
  at-record None = self
  at-record (Some None) = self
  at-record (Some (Some hash)) =
      let a : ℕ = hash % m.setup.apps in
      let g : ℕ = length m.setup.homes + a in
      either Then (nat_lt 0 (length m.socket)) (wrote (visited m a) a hash, says.Done)
      (idle_step m idle.NoTable)
      (λ _. quiet (wrote (visited m a) a hash)
      (stay-run (event.Enter g ∷ event.Leave g ∷ []) m.rx ((refl, refl), ((refl, refl), tt)))
      (stays-as m.tx))
      (λ _. self)

  at-send : (a : ℕ) (x : Option ℕ) → Then (send_by m a x)
  at-send a None = self
  at-send a (Some x) =
      quiet (send_by m a (Some x)).0 (stays-as m.rx)
      (stay-run (event.Arrive a x ∷ event.Take a ∷ []) m.tx ((refl, refl), ((refl, refl), tt)))

  at-tput : (a : ℕ) → Then (simple m (act.TPut a))
  at-tput a =
      let n : Machine = (simple m (act.TPut a)).0 in
      by_cases (λ t. n.tx ≡ t → Q n) m.tx (event.Put a (put_hash m m.tx a))
      (λ same. quiet n (stays-as m.rx)
      (subst (LanesStay m.tx) (sym same) (stays-as m.tx)))
      (λ inside more made. kinds.tx_put a n more made (stays-as m.rx))
      refl

  stay-set : (c : Command) → NothingIsPut m (set_by m c)
  stay-set (give.Flows q count) =
      record {
        rx = stay-run (event.Close ∷ event.Resize q count ∷ event.Reopen ∷ []) m.rx
            ((refl, refl), ((refl, refl), ((refl, refl), tt)));
        tx = stays-as m.tx;
      }
  stay-set (give.Mask q mask) = record { rx = stays-as m.rx; tx = stays-as m.tx }
  stay-set (give.Sock size) = record { rx = stays-as m.rx; tx = stays-as m.tx }
  stay-set (give.Offline cpu) = record { rx = stays-as m.rx; tx = stays-as m.tx }
  stay-set (give.Online cpu) = record { rx = stays-as m.rx; tx = stays-as m.tx }
  stay-set (give.XCpus tx mask) = record { rx = stays-as m.rx; tx = stays-as m.tx }
  stay-set (give.XQueues tx queues) = record { rx = stays-as m.rx; tx = stays-as m.tx }
  stay-set (give.Reta place q) = record { rx = stays-as m.rx; tx = stays-as m.tx }
  stay-set (give.Stand app cpu) = record { rx = stays-as m.rx; tx = stays-as m.tx }
  stay-set give.Expire = record { rx = stays-as m.rx; tx = stays-as m.tx }

  at-give : (c : Command) → Then (given m c)
  at-give c =
      let w = either (NothingIsPut m) (is_done (answer_to m c)) (set_by m c) m
      (λ _. stay-set c)
      (λ _. record { rx = stays-as m.rx; tx = stays-as m.tx }) in
      quiet (given m c).0 w.rx w.tx

  pub walk_puts : (s : Step) → Q (simple m s).0
  walk_puts act.Arrive = at-arrive
  walk_puts (act.Take q) =
      either Then (is_asking (note_of m q)) (idle_step m idle.HandFull) (by_rx m (event.Take q))
      (λ _. self) (λ _. by-rx (event.Take q) (refl, refl))
  walk_puts (act.Enter q) = by-rx (event.Enter q) (refl, refl)
  walk_puts (act.Look q) =
      let seen : StepOutcome = look_by m q (to_weigh m.rx q) in
      let early : StepOutcome = idle_step m idle.WrongStage in
      either Then (not (inside_of m.rx q)) (idle_step m idle.NotInside)
      (cond (is_nothing (note_of m q)) seen early) (λ _. self)
      (λ _. either Then (is_nothing (note_of m q)) seen early
      (λ _. at-look q (to_weigh m.rx q)) (λ _. self))
  walk_puts (act.Weigh q) =
      either Then (not (inside_of m.rx q)) (idle_step m idle.NotInside)
      (weigh_by m q (note_of m q) (to_weigh m.rx q)) (λ _. self)
      (λ _. at-weigh q (note_of m q) (to_weigh m.rx q))
  walk_puts (act.Put q) =
      at-put q (put_position (happens m.rx (putting m q)).1) (happens m.rx (putting m q)).1
  walk_puts (act.Ask q) =
      either Then (not (inside_of m.rx q)) (idle_step m idle.NotInside) (ask_by m q (note_of m q))
      (λ _. self) (λ _. at-ask q (note_of m q))
  walk_puts (act.Leave q) =
      let gone : StepOutcome = by_rx m (event.Leave q) in
      let early : StepOutcome = idle_step m idle.MidPacket in
      either Then (not (inside_of m.rx q)) (idle_step m idle.NotInside)
      (cond (is_nothing (note_of m q)) gone early) (λ _. self)
      (λ _. either Then (is_nothing (note_of m q)) gone early
      (λ _. by-rx (event.Leave q) (refl, refl)) (λ _. self))
  walk_puts (act.Pull c) = by-rx (event.Pull c) (refl, refl)
  walk_puts (act.Deliver c) =
      by-rx (event.Deliver c (app_for m.setup (in_lane m.rx c))) (refl, refl)
  walk_puts (act.Retire c) = by-rx (event.Retire c) (refl, refl)
  walk_puts (act.Record flow) = at-record (flow_hash m.setup flow)
  walk_puts (act.Send a) =
      either Then (nat_lt (placed_of m.tx a) (taken_of m.tx a)) (idle_step m idle.HandFull)
      (send_by m a (next_in m a)) (λ _. self) (λ _. at-send a (next_in m a))
  walk_puts (act.TEnter a) = by-tx (event.Enter a) (refl, refl)
  walk_puts (act.TLeave a) = by-tx (event.Leave a) (refl, refl)
  walk_puts (act.TWeigh a) = by-tx (sending m a (in_reply m a)) (refl, refl)
  walk_puts (act.TPut a) = at-tput a
  walk_puts (act.TPull t) = by-tx (event.Pull t) (refl, refl)
  walk_puts (act.TDeliver t) = by-tx (event.Deliver t 0) (refl, refl)
  walk_puts (act.TRetire t) = by-tx (event.Retire t) (refl, refl)
  walk_puts (act.Give c) = at-give c
  walk_puts (act.Poll q) = self
  walk_puts (act.Drain c) = self
  walk_puts (act.Reply a) = self
  walk_puts (act.Serve a) = self
  walk_puts (act.Ship t) = self
  walk_puts act.Sweep = self

-- ---- what the processors have pulled only rises

put-rises : (m n : Machine) (q : ℕ) (hash : Option ℕ) → n.rx ≡ put_one m.rx q hash
    → PulledRise m.rx n.rx
put-rises m n q hash is =
    subst (PulledRise m.rx) (sym is)
    (rise-put m.rx q
    (lane_drop_cause (lane_of m.rx.fixed m.rx.bare (in_hand m.rx q).choice.lane) hash)
    (bucket_of hash))

pub pulled-rises : (m : Machine) (s : Step) (c : ℕ)
    → pulled_at m.rx.bare c ≤ pulled_at (simple m s).0.rx.bare c
pulled-rises m =
    walk_puts m (λ n. PulledRise m.rx n.rx)
    (record {
      nothing = λ n stay. stay.rx.pulled;
      put = λ q n more is tx. put-rises m n q (put_hash m m.rx q) is;
      tx_put = λ a n more is rx. rx.pulled;
    })

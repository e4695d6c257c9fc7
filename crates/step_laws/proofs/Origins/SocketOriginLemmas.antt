-- Each entry of the socket flow table that is set is a write of the history.
use Rattle.std.proofs.Common.{ℕ, ◌%◌, ◌<◌, ◌≡◌, ◌∙◌, sym, ap, refl, Bool, true, false, List, []}
use Rattle.std.proofs.Common.{◌∷◌, ◌++◌}
use Rattle.std.proofs.Common.{Option, Some, None, length, subst, inl, inr, unwrap_or, slice_get}
use Rattle.std.specs.Prelude.{if◌then◌else◌, nat_lt, not, ◌==◌, slice_index_or, slice_set, suc}
use Rattle.std.specs.Prelude.{zero}
use Rattle.std.proofs.lemmas.Bool.{cases_eq, eq-eqb, ltb-true, ne_eqb}
use Rattle.std.proofs.lemmas.List.{get_or-set_same, get_or-set_other, length-replicate, length-set}
use Rattle.std.proofs.lemmas.Option.{same_Some}
use Rattle.std.proofs.Math.Nat.{mod-lt}
use Rattle.steer_base.specs.Counters.{rounded_up}
use Rattle.steer_base.specs.declared.command.Answer.TheVariants as says
use Rattle.steer_base.specs.declared.command.Command.{Command}
use Rattle.steer_base.specs.declared.command.Command.TheVariants as give
use Rattle.steer_base.specs.declared.idle.Idle.TheVariants as idle
use Rattle.steer_base.specs.declared.packet.Packet.{Packet}
use Rattle.steer_base.specs.declared.step.Step.{Step}
use Rattle.steer_base.specs.declared.step.Step.TheVariants as act
use Rattle.history.specs.Lists.{list_at}
use Rattle.history.specs.declared.sock_write.SockWrite.{SockWrite}
use Rattle.hop_model.specs.declared.event.HopAnswer.{HopAnswer}
use Rattle.hop_model.specs.Hop.{inside_of, placed_of, taken_of}
use Rattle.hop_model.specs.Reads.{to_weigh}
use Rattle.plan_reader.specs.declared.plan.Plan.{Plan}
use Rattle.sock_flow_table.specs.Sockets.{unset}
use Rattle.steer_model.specs.Steps.Applications.{next_in, record_by, send_by, stand_of, visited}
use Rattle.steer_model.specs.Steps.Applications.{wrote}
use Rattle.steer_model.specs.Steps.Commands.{answer_to, is_done, set_by}
use Rattle.steer_model.specs.Good.Choices.{WasWritten}
use Rattle.steer_model.specs.State.Machine.{Machine, history_of, note_of}
use Rattle.steer_model.specs.State.Notes.{is_asking, is_nothing}
use Rattle.steer_model.specs.Steps.Outcomes.{StepOutcome, by_rx}
use Rattle.steer_model.specs.Steps.Pollers.{ask_by, look_by, poller_after_put, putting, weigh_by}
use Rattle.steer_model.specs.State.Setup.{Setup, flow_hash}
use Rattle.steer_model.specs.State.Start.{new_machine}
use Rattle.steer_model.specs.Steps.SingleSteps.{simple}
use Rattle.step_laws.specs.Origins.SocketOrigins.{EntriesAreWritten, SocketIsWritten}
use Rattle.step_laws.specs.Origins.TableWrites.{socket_at}
use Rattle.steer_model.specs.declared.note.Note.{Note}
use Rattle.steer_model.specs.declared.note.Note.TheVariants as note
use Rattle.step_laws.proofs.LiftLemmas.{after-keeps}
use Rattle.step_laws.proofs.Origins.TableWriteLemmas.{no-rows, set-at}

-- ---- events that leave the table

record Same (m n : Machine) : Type 0 where
  setup : n.setup ≡ m.setup
  socket : n.socket ≡ m.socket
  writes : n.writes ≡ m.writes
  sock : n.settings.sock ≡ m.settings.sock

keeps : (m n : Machine) → Same m n → SocketIsWritten m → SocketIsWritten n
keeps m n same w =
    record {
      size = ap (λ s. length s) same.socket ∙ w.size ∙ sym same.sock;
      written = written;
      some_app = subst (λ (p : Setup). 0 < p.apps) (sym same.setup) w.some_app;
      lists = ap (λ l. length l) same.writes ∙ w.lists ∙ ap (λ (p : Setup). p.apps)
          (sym same.setup);
    }
  where
    written : (place cpu : ℕ) → socket_at place n ≡ Some cpu
        → WasWritten (history_of n) (record { entry = place; cpu = cpu })
    written place cpu is =
        let old = w.written place cpu (ap (λ s. slice_index_or s place None) (sym same.socket)
        ∙ is) in
        (old.0, old.1, ap (λ l. slice_get (list_at l old.0) old.1) same.writes ∙ old.2)

-- ---- a write more

get-last : {A : Type 0} (xs : List A) (x : A) → slice_get (xs ++ x ∷ []) (length xs) ≡ Some x
get-last [] x = refl
get-last (y ∷ ys) x = get-last ys x

pub get-more : {A : Type 0} (xs : List A) (x y : A) (i : ℕ) → slice_get xs i ≡ Some y
    → slice_get (xs ++ x ∷ []) i ≡ Some y
get-more [] x y i is = cc
get-more (z ∷ zs) x y zero is = is
get-more (z ∷ zs) x y (suc i) is = get-more zs x y i is

list-set : {A : Type 0} (ls : List (List A)) (a : ℕ) (x : A) → a < length ls
    → list_at (slice_set ls a (list_at ls a ++ x ∷ [])) a ≡ list_at ls a ++ x ∷ []
list-set ls a x lt = get_or-set_same ls a (list_at ls a ++ x ∷ []) [] lt

list-more : {A : Type 0} (ls : List (List A)) (a b i : ℕ) (x y : A) → a < length ls
    → slice_get (list_at ls b) i ≡ Some y
    → slice_get (list_at (slice_set ls a (list_at ls a ++ x ∷ [])) b) i ≡ Some y
list-more ls a b i x y lt is =
    elim (cases_eq b a) [
      | inl e ↦
          ap (λ k. slice_get (list_at (slice_set ls a (list_at ls a ++ x ∷ [])) k) i) e
          ∙ ap (λ l. slice_get l i) (list-set ls a x lt)
          ∙ get-more (list_at ls a) x y i (ap (λ k. slice_get (list_at ls k) i) (sym e) ∙ is)
      | inr ne ↦ ap (λ l. slice_get l i) (get_or-set_other ls a b (list_at ls a ++ x ∷ []) [] ne)
          ∙ is
    ]

wrote-once : (m : Machine) (hash : ℕ) → nat_lt 0 (length m.socket) ≡ true → SocketIsWritten m
    → SocketIsWritten (wrote (visited m (hash % m.setup.apps)) (hash % m.setup.apps) hash)
wrote-once m hash some w =
    record {
      size = rw some (length-set m.socket at (Some cpu)) ∙ w.size;
      written = written;
      some_app = w.some_app;
      lists = length-set m.writes app (list_at m.writes app ++ new ∷ []) ∙ w.lists;
    }
  where
    app : ℕ
    app = hash % m.setup.apps

    cpu : ℕ
    cpu = stand_of m app

    at : ℕ
    at = hash % length m.socket

    new : SockWrite
    new = record { entry = at; cpu = cpu }

    there : app < length m.writes
    there = subst (λ n. app < n) (sym w.lists) (mod-lt hash w.some_app)

    is_one : (place other : ℕ)
        → unwrap_or (if place == at then Some (Some cpu) else None) (socket_at place m) ≡ Some other
        → WasWritten (history_of (wrote (visited m app) app hash))
        (record { entry = place; cpu = other })
    is_one place other is =
        elim (cases_eq place at) [
          | inl e ↦
              let same : Some cpu ≡ Some other =
              ap (λ b. unwrap_or (if b then Some (Some cpu) else None) (socket_at place m))
              (sym (eq-eqb place at e)) ∙ is in (
                app,
                length (list_at m.writes app),
                ap (λ l. slice_get l (length (list_at m.writes app)))
                    (list-set m.writes app new there)
                    ∙ get-last (list_at m.writes app) new
                    ∙ ap (λ k. Some (record { entry = k; cpu = cpu })) (sym e)
                    ∙ ap (λ k. Some (record { entry = place; cpu = k })) (same_Some cpu other same),
              )
          | inr ne ↦
              let old : WasWritten (history_of m) (record { entry = place; cpu = other }) =
              w.written place other
              (ap (λ b. unwrap_or (if b then Some (Some cpu) else None) (socket_at place m))
              (sym (ne_eqb place at ne)) ∙ is) in (
                old.0,
                old.1,
                list-more m.writes app old.0 old.1 new
                    (record { entry = place; cpu = other }) there old.2,
              )
        ]

    written : (place other : ℕ) → socket_at place (wrote (visited m app) app hash) ≡ Some other
        → WasWritten (history_of (wrote (visited m app) app hash))
        (record { entry = place; cpu = other })
    written place other is =
        is_one place other (sym (set-in place) ∙ is)
      where
        set-in : (place : ℕ)
            → socket_at place (wrote (visited m app) app hash)
            ≡ unwrap_or (if place == at then Some (Some cpu) else None) (socket_at place m)
        set-in place =
            rw some (set-at m.socket at place cpu (mod-lt hash (ltb-true 0 (length m.socket) some)))

written-if : (b : Bool) (x y : StepOutcome) → (b ≡ true → SocketIsWritten x.0) → SocketIsWritten y.0
    → SocketIsWritten (if b then x else y).0
written-if true x y p q = p refl
written-if false x y p q = q

written-record : (m : Machine) (hash : Option (Option ℕ)) → SocketIsWritten m → SocketIsWritten
    (record_by m hash).0
written-record m None w = w
written-record m (Some None) w = w
written-record m (Some (Some hash)) w =
    written-if (nat_lt 0 (length m.socket))
    (wrote (visited m (hash % m.setup.apps)) (hash % m.setup.apps) hash, says.Done)
    (m, says.Idle idle.NoTable)
    (λ some. wrote-once m hash some w) w

-- ---- commands

no-note : (n place cpu : ℕ) → slice_index_or (unset n) place None ≡ Some cpu → ⊥
no-note n place cpu is = is-none (sym (no-rows n place) ∙ is)
  where
    is-none : None ≡ Some cpu → ⊥
    is-none e = cc

written-set : (m : Machine) (c : Command) → SocketIsWritten m → SocketIsWritten (set_by m c)
written-set m (give.Sock size) w =
    record {
      size = length-replicate (rounded_up size) None;
      written = λ place cpu is. absurd (no-note (rounded_up size) place cpu is);
      some_app = w.some_app;
      lists = w.lists;
    }
written-set m (give.Mask q mask) w =
    keeps m _ (record { setup = refl; socket = refl; writes = refl; sock = refl }) w
written-set m (give.Flows q count) w =
    keeps m _ (record { setup = refl; socket = refl; writes = refl; sock = refl }) w
written-set m (give.Offline cpu) w =
    keeps m _ (record { setup = refl; socket = refl; writes = refl; sock = refl }) w
written-set m (give.Online cpu) w =
    keeps m _ (record { setup = refl; socket = refl; writes = refl; sock = refl }) w
written-set m (give.XCpus tx mask) w =
    keeps m _ (record { setup = refl; socket = refl; writes = refl; sock = refl }) w
written-set m (give.XQueues tx queues) w =
    keeps m _ (record { setup = refl; socket = refl; writes = refl; sock = refl }) w
written-set m (give.Reta at q) w =
    keeps m _ (record { setup = refl; socket = refl; writes = refl; sock = refl }) w
written-set m (give.Stand app cpu) w =
    keeps m _ (record { setup = refl; socket = refl; writes = refl; sock = refl }) w
written-set m give.Expire w =
    keeps m _ (record { setup = refl; socket = refl; writes = refl; sock = refl }) w

written-given : (m : Machine) (c : Command) (b : Bool) → SocketIsWritten m → SocketIsWritten
    (if b then set_by m c else m)
written-given m c true w = written-set m c w
written-given m c false w = w

-- ---- one event

same-if : (m : Machine) (b : Bool) (x y : StepOutcome) → Same m x.0 → Same m y.0
    → Same m (if b then x else y).0
same-if m true x y p q = p
same-if m false x y p q = q

stays : (m : Machine) → Same m m
stays m = record { setup = refl; socket = refl; writes = refl; sock = refl }

same-look : (m : Machine) (q : ℕ) (x : Option ℕ) → Same m (look_by m q x).0
same-look m q (Some x) = record { setup = refl; socket = refl; writes = refl; sock = refl }
same-look m q None = stays m

same-weigh : (m : Machine) (q : ℕ) (n : Note) (x : Option ℕ) → Same m (weigh_by m q n x).0
same-weigh m q (note.Looked want) (Some x) = record {
  setup = refl;
  socket = refl;
  writes = refl;
  sock = refl;
}
same-weigh m q (note.Looked want) None = stays m
same-weigh m q note.Nothing x = stays m
same-weigh m q (note.Asking filter) x = stays m

same-put : (m n : Machine) (q : ℕ) (x : Option ℕ) (a : HopAnswer) → Same m n
    → Same m (poller_after_put n q x a).0
same-put m n q (Some x) a same =
    record { setup = same.setup; socket = same.socket; writes = same.writes; sock = same.sock }
same-put m n q None a same = same

same-ask : (m : Machine) (q : ℕ) (n : Note) → Same m (ask_by m q n).0
same-ask m q note.Nothing = stays m
same-ask m q (note.Looked want) = stays m
same-ask m q (note.Asking filter) = record {
  setup = refl;
  socket = refl;
  writes = refl;
  sock = refl;
}

same-send : (m : Machine) (a : ℕ) (x : Option ℕ) → Same m (send_by m a x).0
same-send m a (Some x) = record { setup = refl; socket = refl; writes = refl; sock = refl }
same-send m a None = stays m

written-simple : (m : Machine) (e : Step) → SocketIsWritten m → SocketIsWritten (simple m e).0
written-simple m act.Arrive =
    keeps m _ (same-if m (nat_lt (length m.arrivals) (length m.setup.packets)) _ _
    (record { setup = refl; socket = refl; writes = refl; sock = refl }) (stays m))
written-simple m (act.Take q) =
    keeps m _ (same-if m (is_asking (note_of m q)) _ _ (stays m)
    (record { setup = refl; socket = refl; writes = refl; sock = refl }))
written-simple m (act.Look q) =
    keeps m _
    (same-if m (not (inside_of m.rx q)) _ _ (stays m)
    (same-if m (is_nothing (note_of m q)) _ _ (same-look m q (to_weigh m.rx q)) (stays m)))
written-simple m (act.Weigh q) =
    keeps m _
    (same-if m (not (inside_of m.rx q)) _ _ (stays m) (same-weigh m q (note_of m q)
    (to_weigh m.rx q)))
written-simple m (act.Put q) =
    keeps m _ (same-put m (by_rx m (putting m q)).0 q _ _ (record {
      setup = refl;
      socket = refl;
      writes = refl;
      sock = refl;
    }))
written-simple m (act.Ask q) =
    keeps m _ (same-if m (not (inside_of m.rx q)) _ _ (stays m) (same-ask m q (note_of m q)))
written-simple m (act.Leave q) =
    keeps m _
    (same-if m (not (inside_of m.rx q)) _ _ (stays m)
    (same-if m (is_nothing (note_of m q)) _ _ (record {
      setup = refl;
      socket = refl;
      writes = refl;
      sock = refl;
    }) (stays m)))
written-simple m (act.Record flow) = written-record m (flow_hash m.setup flow)
written-simple m (act.Send a) =
    keeps m _
    (same-if m (nat_lt (placed_of m.tx a) (taken_of m.tx a)) _ _ (stays m)
    (same-send m a (next_in m a)))
written-simple m (act.Give c) = λ w.
    let done : Bool = is_done (answer_to m c) in
    keeps (if done then set_by m c else m) _ (record {
      setup = refl;
      socket = refl;
      writes = refl;
      sock = refl;
    }) (written-given m c done w)
written-simple m (act.Enter q) = keeps m _ (record {
  setup = refl;
  socket = refl;
  writes = refl;
  sock = refl;
})
written-simple m (act.Pull c) = keeps m _ (record {
  setup = refl;
  socket = refl;
  writes = refl;
  sock = refl;
})
written-simple m (act.Deliver c) = keeps m _ (record {
  setup = refl;
  socket = refl;
  writes = refl;
  sock = refl;
})
written-simple m (act.Retire c) = keeps m _ (record {
  setup = refl;
  socket = refl;
  writes = refl;
  sock = refl;
})
written-simple m (act.TEnter a) = keeps m _ (record {
  setup = refl;
  socket = refl;
  writes = refl;
  sock = refl;
})
written-simple m (act.TLeave a) = keeps m _ (record {
  setup = refl;
  socket = refl;
  writes = refl;
  sock = refl;
})
written-simple m (act.TWeigh a) = keeps m _ (record {
  setup = refl;
  socket = refl;
  writes = refl;
  sock = refl;
})
written-simple m (act.TPut a) = keeps m _ (record {
  setup = refl;
  socket = refl;
  writes = refl;
  sock = refl;
})
written-simple m (act.TPull t) = keeps m _ (record {
  setup = refl;
  socket = refl;
  writes = refl;
  sock = refl;
})
written-simple m (act.TDeliver t) = keeps m _ (record {
  setup = refl;
  socket = refl;
  writes = refl;
  sock = refl;
})
written-simple m (act.TRetire t) = keeps m _ (record {
  setup = refl;
  socket = refl;
  writes = refl;
  sock = refl;
})
written-simple m (act.Poll q) = λ w. w
written-simple m (act.Drain c) = λ w. w
written-simple m (act.Reply a) = λ w. w
written-simple m (act.Serve a) = λ w. w
written-simple m (act.Ship t) = λ w. w
written-simple m act.Sweep = λ w. w

-- ---- the law

written-new : (plan : Plan) (packets : List Packet) (cut : Option ℕ) → 0 < length plan.apps
    → SocketIsWritten (new_machine plan packets cut)
written-new plan packets cut some =
    record {
      size = length-replicate (rounded_up plan.sock) None;
      written = λ place cpu is. absurd (no-note (rounded_up plan.sock) place cpu is);
      some_app = some;
      lists = length-replicate (length plan.apps) [];
    }

pub entries_are_written : EntriesAreWritten
entries_are_written =
    record {
      start = written-new;
      later = λ ss m w. after-keeps SocketIsWritten written-simple ss m w;
    }

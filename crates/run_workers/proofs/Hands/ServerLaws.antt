-- What an application's calls leave as it was.
use Rattle.hop_rule.specs.Owns.{puts_of}
use Rattle.hop_delivery.specs.Orders.Turns.{turn_put}
use Rattle.hop_delivery.proofs.Orders.TurnLemmas.{explained_turn}
use Rattle.run_workers.specs.Hands.Laws.{ApplicationsExplain, ApplicationsLeaveDrains}
use Rattle.run_workers.specs.Hands.Laws.{ApplicationsStay}
use Rattle.run_workers.proofs.Names.{◌≡◌, ◌⊎◌, inl, inr, ℕ, Bool, true, false, List, [], ◌∷◌}
use Rattle.run_workers.proofs.Names.{Option, None, Some, IfSome, refl, sym, ap, subst, ◌∙◌}
use Rattle.run_workers.proofs.Names.{append_assoc, step_by, SeatView, Journal, Arrival, SockWrite}
use Rattle.run_workers.proofs.Names.{HintStep, BoardSizes, BoardStep, Gate, Entered, Left, Read}
use Rattle.run_workers.proofs.Names.{Turned, BoardSeatView, Adds, Explained, visit_with}
use Rattle.run_workers.proofs.Names.{explained_more, Setup, LeavesLane, IsDrain, StaysApplication}
use Rattle.run_workers.proofs.Names.{BacksOut, LeavesInbox, Queued, RepliesOrKeeps, TakesNext}
use Rattle.run_workers.proofs.Names.{TakesOrLeaves, Writes, Drain, Server}
use Rattle.run_workers.proofs.Hands.DrainLemmas.{stays_drain}
use Rattle.run_workers.proofs.Hands.DeltaLemmas.{without_reasons}
use Rattle.run_workers.proofs.Hands.WaitLemmas.{leaves_at_board, leaves_there}

abbrev Hint : Type 0
Hint = SeatView HintStep

-- ---- steps that put nothing and leave each lane, at a seat that stays

record Calm (old new : BoardSeatView) : Type 0 where
  added : List BoardStep
  adds : Adds added old new
  puts : puts_of added ≡ []
  leaves : (l : ℕ) → LeavesLane l added

calm_explains : (old new : BoardSeatView) → Calm old new → (ts : _) → Explained old.steps ts
    → Explained new.steps ts
calm_explains old new c ts is =
    subst (λ ds. Explained ds ts) (sym (ap (λ (v : BoardSeatView). v.steps) c.adds))
    (explained_more c.added old.steps ts c.puts is)

calm_drain : (given : Setup) (d : Drain) (old new : BoardSeatView) → Calm old new
    → IsDrain given d old.steps → IsDrain given d new.steps
calm_drain given d old new c is =
    subst (IsDrain given d) (sym (ap (λ (v : BoardSeatView). v.steps) c.adds))
    (stays_drain given d c.added old.steps (c.leaves d.lane) is)

calm_none : (old new : BoardSeatView) → new ≡ old → Calm old new
calm_none old new same =
    record {
      added = [];
      adds = same;
      puts = refl;
      leaves = λ l. record { hand = λ own. refl; retires = refl; deliveries = refl };
    }

calm_out : (old new : BoardSeatView) → BacksOut old new → Calm old new
calm_out old new out =
    record {
      added = Gate Left ∷ Gate (Turned out.0) ∷ [];
      adds = out.1;
      puts = refl;
      leaves = λ l. record { hand = λ own. refl; retires = refl; deliveries = refl };
    }

calm_gate : (old new : BoardSeatView) → (new ≡ old) ⊎ BacksOut old new → Calm old new
calm_gate old new (inl same) = calm_none old new same
calm_gate old new (inr out) = calm_out old new out

calm_record : (word size q : ℕ) (old new : BoardSeatView)
    → Adds (Gate Left ∷ Gate (Read q size) ∷ Gate (Entered word) ∷ []) old new → Calm old new
calm_record word size q old new adds =
    record {
      added = Gate Left ∷ Gate (Read q size) ∷ Gate (Entered word) ∷ [];
      adds = adds;
      puts = refl;
      leaves = λ l. record { hand = λ own. refl; retires = refl; deliveries = refl };
    }

-- ---- taking

module _ (about : BoardSizes) (given : Setup) (s t : Server) (old new : BoardSeatView)
    (hint_old hint_new : Hint) where
  left_calm : (x : LeavesInbox about s t old new hint_old hint_new) → Calm x.mid new
  left_calm x = calm_gate x.mid new (leaves_at_board about s t old new hint_old hint_new x)

  left_drain : (d : Drain) → LeavesInbox about s t old new hint_old hint_new
      → IsDrain given d old.steps → IsDrain given d new.steps
  left_drain d x is =
      calm_drain given d x.mid new (left_calm x)
      (calm_drain given d old x.mid (record {
        added = x.looks.added;
        adds = x.looks.adds;
        puts = x.looks.only.quiet.puts;
        leaves = λ l. x.looks.only.others l refl;
      }) is)

  left_explains : LeavesInbox about s t old new hint_old hint_new → (ts : _)
      → Explained old.steps ts → Explained new.steps ts
  left_explains x ts is =
      calm_explains x.mid new (left_calm x) ts
      (calm_explains old x.mid (record {
        added = x.looks.added;
        adds = x.looks.adds;
        puts = x.looks.only.quiet.puts;
        leaves = λ l. x.looks.only.others l refl;
      }) ts is)

  took_drain : (d : Drain) → TakesNext about given s t old new hint_old hint_new
      → IsDrain given d old.steps → IsDrain given d new.steps
  took_drain d x is =
      calm_drain given d x.mid new (calm_record x.records.word x.records.size _ x.mid new
      x.records.adds)
      (calm_drain given d old x.mid (record {
        added = x.peeks.added;
        adds = x.peeks.adds;
        puts = x.peeks.only.quiet.puts;
        leaves = λ l. x.peeks.only.others l refl;
      }) is)

  took_explains : TakesNext about given s t old new hint_old hint_new → (ts : _)
      → Explained old.steps ts → Explained new.steps ts
  took_explains x ts is =
      calm_explains x.mid new (calm_record x.records.word x.records.size _ x.mid new
      x.records.adds) ts
      (calm_explains old x.mid (record {
        added = x.peeks.added;
        adds = x.peeks.adds;
        puts = x.peeks.only.quiet.puts;
        leaves = λ l. x.peeks.only.others l refl;
      }) ts is)

takes_drain : (about : BoardSizes) (given : Setup) (d : Drain) (s t : Server) (took : Bool)
    (old new : BoardSeatView) (hint_old hint_new : Hint)
    → TakesOrLeaves about given s t old new hint_old hint_new took → IsDrain given d old.steps
    → IsDrain given d new.steps
takes_drain about given d s t true old new hint_old hint_new x is =
    took_drain about given s t old new hint_old hint_new d x is
takes_drain about given d s t false old new hint_old hint_new x is =
    left_drain about given s t old new hint_old hint_new d x is

takes_explain : (about : BoardSizes) (given : Setup) (s t : Server) (took : Bool)
    (old new : BoardSeatView) (hint_old hint_new : Hint)
    → TakesOrLeaves about given s t old new hint_old hint_new took
    → (ts : _) → Explained old.steps ts → Explained new.steps ts
takes_explain about given s t true old new hint_old hint_new x ts is =
    took_explains about given s t old new hint_old hint_new x ts is
takes_explain about given s t false old new hint_old hint_new x ts is =
    left_explains about given s t old new hint_old hint_new x ts is

-- ---- replies

replies_drain : (given : Setup) (late : List Arrival) (d : Drain) (s t : Server) (sent : Bool)
    (old new : BoardSeatView) (hint_old hint_new : Hint)
    → RepliesOrKeeps given late s t old new hint_old hint_new sent → IsDrain given d old.steps
    → IsDrain given d new.steps
replies_drain given late d s t true old new hint_old hint_new x is =
    subst (IsDrain given d) (sym (ap (λ (v : BoardSeatView). v.steps) x.replies.adds))
    (stays_drain given d (visit_with x.turn [] []) old.steps (x.replies.leaves d.lane) is)
replies_drain given late d s t false old new hint_old hint_new x is =
    calm_drain given d old new (calm_gate old new (without_reasons x.gate)) is

pub applications_leave_drains : ApplicationsLeaveDrains
applications_leave_drains = record { takes = takes_drain; replies = replies_drain }

pub applications_explain : ApplicationsExplain
applications_explain =
    record {
      takes = takes_explain;
      keeps = λ queues late s t old new hint_old hint_new x ts is.
          calm_explains old new (calm_gate old new (without_reasons x.gate)) ts is;
      replies = λ given a home sent before after turn old new hint_old hint_new x ts is.
          subst (λ ds. Explained ds (step_by a turn ∷ ts))
          (sym (ap (λ (v : BoardSeatView). v.steps) x.adds
          ∙ ap (λ ds. Gate Left ∷ turn_put turn ∷ ds)
          (append_assoc turn.early (Gate (Entered turn.word) ∷ []) old.steps)))
          (explained_turn (step_by a turn) [] old.steps ts (record { puts = refl; visits = refl })
          x.quiet is);
    }

-- ---- seats

writes_there : (cpus app home : ℕ) (entry : Option ℕ) (before after : Journal SockWrite)
    (old new : Hint) → Writes cpus app home entry before after old new → new.table ≡ old.table
writes_there cpus app home None before after old new w = ap (λ (h : Hint). h.table) w.1
writes_there cpus app home (Some entry) before after old new w =
    ap (λ (h : Hint). h.table) w.3 ∙ ap (λ (h : Hint). h.table) w.2.2

kept_hint : (queues : ℕ) (late : List Arrival) (hand : Option ℕ) (old new : Hint)
    (queue : Option ℕ) → IfSome hand (λ id. Queued queues id late old new queue)
    → (hand ≡ None → new ≡ old) → new.table ≡ old.table
kept_hint queues late None old new queue q none = ap (λ (h : Hint). h.table) (none refl)
kept_hint queues late (Some id) old new queue q none = ap (λ (h : Hint). h.table) q.2

gate_table : (old new : BoardSeatView) → Calm old new → new.table ≡ old.table
gate_table old new c = ap (λ (v : BoardSeatView). v.table) c.adds

gate_number : (old new : BoardSeatView) → Calm old new → new.number ≡ old.number
gate_number old new c = ap (λ (v : BoardSeatView). v.number) c.adds

takes_stay : (about : BoardSizes) (given : Setup) (s t : Server) (took : Bool)
    (old new : BoardSeatView) (hint_old hint_new : Hint)
    → TakesOrLeaves about given s t old new hint_old hint_new took
    → StaysApplication s t old new hint_old hint_new
takes_stay about given s t true old new hint_old hint_new x =
    record {
      app = ap (λ (v : Server). v.app) x.same;
      home = ap (λ (v : Server). v.home) x.same;
      start = ap (λ (v : Server). v.start) x.same;
      room = ap (λ (v : Server). v.sent.room) x.same;
      table = ap (λ (v : BoardSeatView). v.table) x.records.adds
          ∙ ap (λ (v : BoardSeatView). v.table) x.peeks.adds;
      number = ap (λ (v : BoardSeatView). v.number) x.records.adds
          ∙ ap (λ (v : BoardSeatView). v.number) x.peeks.adds;
      hint_table = writes_there given.cpus s.app s.home _ s.writes t.writes x.hint_mid hint_new
          x.records.writes
          ∙ ap (λ (h : Hint). h.table) x.loads;
    }
takes_stay about given s t false old new hint_old hint_new x =
    record {
      app = ap (λ (v : Server). v.app) x.same;
      home = ap (λ (v : Server). v.home) x.same;
      start = ap (λ (v : Server). v.start) x.same;
      room = ap (λ (v : Server). v.sent.room) x.same;
      table = gate_table x.mid new (left_calm about given s t old new hint_old hint_new x)
          ∙ ap (λ (v : BoardSeatView). v.table) x.looks.adds;
      number = gate_number x.mid new (left_calm about given s t old new hint_old hint_new x)
          ∙ ap (λ (v : BoardSeatView). v.number) x.looks.adds;
      hint_table = leaves_there about s t old new hint_old hint_new x;
    }

replies_stay : (given : Setup) (late : List Arrival) (s t : Server) (sent : Bool)
    (old new : BoardSeatView) (hint_old hint_new : Hint)
    → RepliesOrKeeps given late s t old new hint_old hint_new sent
    → StaysApplication s t old new hint_old hint_new
replies_stay given late s t true old new hint_old hint_new x =
    record {
      app = ap (λ (v : Server). v.app) x.same;
      home = ap (λ (v : Server). v.home) x.same;
      start = ap (λ (v : Server). v.start) x.same;
      room = ap (λ j. j.room) x.notes_sent;
      table = ap (λ (v : BoardSeatView). v.table) x.replies.adds;
      number = ap (λ (v : BoardSeatView). v.number) x.replies.adds;
      hint_table = ap (λ (h : Hint). h.table) x.replies.stands.2
          ∙ ap (λ (h : Hint). h.table) x.queued.2;
    }
replies_stay given late s t false old new hint_old hint_new x =
    record {
      app = ap (λ (v : Server). v.app) x.same;
      home = ap (λ (v : Server). v.home) x.same;
      start = ap (λ (v : Server). v.start) x.same;
      room = ap (λ (v : Server). v.sent.room) x.same;
      table = gate_table old new (calm_gate old new (without_reasons x.gate));
      number = gate_number old new (calm_gate old new (without_reasons x.gate));
      hint_table = kept_hint _ late s.hand hint_old hint_new x.queue x.hint x.untouched;
    }

-- an application that takes a packet or none keeps its maps
maps_stay : (about : BoardSizes) (given : Setup) (s t : Server) (took : Bool)
    (old new : BoardSeatView) (hint_old hint_new : Hint)
    → TakesOrLeaves about given s t old new hint_old hint_new took → t.kept ≡ s.kept
maps_stay about given s t true old new hint_old hint_new x = ap (λ (z : Server). z.kept) x.same
maps_stay about given s t false old new hint_old hint_new x = ap (λ (z : Server). z.kept) x.same

pub applications_stay : ApplicationsStay
applications_stay = record { takes = takes_stay; replies = replies_stay; maps = maps_stay }

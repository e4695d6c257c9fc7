-- An office after each call.
use Rattle.std.proofs.Common.{◌≡◌, ◌≢◌, ◌⊎◌, inl, inr, ℕ, ◌+◌, ◌*◌, ◌<◌, ◌≤◌, Bool, true}
use Rattle.std.proofs.Common.{false, List, [], ◌∷◌, None, Some, refl, sym, ap, subst, ◌∙◌}
use Rattle.std.proofs.Common.{length, arith}
use Rattle.linearization.specs.Seats.{SeatView}
use Rattle.history.specs.declared.arrival.Arrival.{Arrival}
use Rattle.hint_words.specs.declared.step.HintStep.{HintStep}
use Rattle.steer_base.specs.declared.cpu_mask.CpuMask.{CpuMask}
use Rattle.hop_rule.specs.Boards.{gate_steps}
use Rattle.hop_rule.specs.Gates.{closed, visit}
use Rattle.hop_rule.specs.declared.sizes.BoardSizes.{BoardSizes}
use Rattle.hop_rule.specs.declared.step.BoardStep.TheVariants.{Gate}
use Rattle.hop_rule.specs.declared.step.GateStep.TheVariants.{Entered, Left, Read, Turned}
use Rattle.board_api.specs.Calls.Results.{BackTells, Took}
use Rattle.board_api.specs.Calls.Rights.{HasOpen, IsOutside}
use Rattle.board_api.specs.Seats.{BoardSeatView}
use Rattle.board_api.specs.Views.{BoardView}
use Rattle.board_api.specs.declared.held_lane.HeldLane.{HeldLane}
use Rattle.board_api.specs.declared.held_lane.HeldLane.TheVariants as held
use Rattle.board_api.specs.declared.held_lane.LaneId.TheVariants as id
use Rattle.hop_delivery.specs.Orders.Turns.{visit_with}
use Rattle.steer_model.specs.State.Setup.{Setup}
use Rattle.run_words.specs.Numbers.{word_count}
use Rattle.run_workers.specs.Hands.KeptMaps.{Kept}
use Rattle.run_workers.specs.Hands.Servers.{KeepsMaps}
use Rattle.run_workers.specs.Hands.Deltas.{no_lane}
use Rattle.run_controller.specs.Gates.{ClosesEmpty, SetsAndOpens}
use Rattle.run_workers.specs.Hands.Servers.{BacksOut, HasNoNext, IsServer, LoadsMark, Peeks}
use Rattle.run_workers.specs.Hands.Servers.{RepliesOrKeeps, TakesOrLeaves}
use Rattle.run_workers.specs.declared.server.Server.{Server}
use Rattle.run_words.specs.declared.shared.Shared.{Shared}
use Rattle.run_workers.proofs.Hands.ServerLaws.{applications_stay}
use Rattle.hand_tests.specs.Benches.{Rests, opened_by}
use Rattle.hand_tests.specs.Offices.{IsClerk, IsDesk, IsOffice}
use Rattle.hand_tests.proofs.hands.Closing.{RestsOpened, made_rests}
use Rattle.hand_tests.proofs.hands.Resting.{back_rests, rests_on, serves_rest}

abbrev pub Seat : Type 0
Seat = BoardSeatView

abbrev pub Hint : Type 0
Hint = SeatView HintStep

-- ---- the seat of an application

module _ (board : BoardView) (number : ℕ) (old new : Seat) where
  out_rests : Rests board number old → BacksOut old new → Rests board number new
  out_rests r (word, adds) =
      rests_on no_lane board number old new (Gate Left ∷ Gate (Turned word) ∷ []) r adds
      (ap (λ (s : Seat). visit (gate_steps s.steps)) adds)
      (ap (λ (s : Seat). closed (gate_steps s.steps)) adds ∙ r.gate)
      r.lanes r.outs (λ l other. refl)

  gate_rests : {A B : Type 0} → Rests board number old
      → (A × (new ≡ old)) ⊎ (B × BacksOut old new) → Rests board number new
  gate_rests r (inl same) = subst (Rests board number) (sym same.1) r
  gate_rests r (inr out) = out_rests r out.1

takes_rest : (board : BoardView) (number : ℕ) (about : BoardSizes) (given : Setup) (s t : Server)
    (took : Bool) (old new : Seat) (hint_old hint_new : Hint) → Rests board number old
    → TakesOrLeaves about given s t old new hint_old hint_new took → Rests board number new
takes_rest board number about given s t true old new hint_old hint_new r x =
    let mid = serves_rest no_lane board number old x.mid r (record {
      added = x.peeks.added;
      only = x.peeks.only;
      adds = x.peeks.adds;
    }) in
    rests_on no_lane board number x.mid new
    (Gate Left ∷ Gate (Read (2 * length given.homes) x.records.size)
    ∷ Gate (Entered x.records.word) ∷ []) mid x.records.adds
    (ap (λ (s : Seat). visit (gate_steps s.steps)) x.records.adds)
    (ap (λ (s : Seat). closed (gate_steps s.steps)) x.records.adds ∙ mid.gate)
    mid.lanes mid.outs (λ l other. refl)
takes_rest board number about given s t false old new hint_old hint_new r x = by_gate x.gate
  where
    here : Rests board number x.mid
    here = serves_rest no_lane board number old x.mid r x.looks

    by_gate : (HasNoNext about s old x.mid × (hint_new ≡ hint_old) × (new ≡ x.mid))
        ⊎ ((id : ℕ) × (word : ℕ)
        × Peeks about s.app (length s.sent.items) (Some id) old x.mid
        × LoadsMark id word hint_old hint_new
        × (((word ≡ 0) × (new ≡ x.mid)) ⊎ ((word ≢ 0) × BacksOut x.mid new)))
        → Rests board number new
    by_gate (inl none) = subst (Rests board number) (sym none.2) here
    by_gate (inr (id, word, peeks, loads, gate)) = gate_rests board number x.mid new here gate

replies_rest : (board : BoardView) (number : ℕ) (given : Setup) (late : List Arrival)
    (s t : Server) (sent : Bool) (old new : Seat) (hint_old hint_new : Hint)
    → Rests board number old → RepliesOrKeeps given late s t old new hint_old hint_new sent
    → IsOutside new.steps → HasOpen new.steps → Rests board number new
replies_rest board number given late s t true old new hint_old hint_new r x outside unclosed =
    let v = x.replies in
    rests_on no_lane board number old new (visit_with x.turn [] []) r v.adds outside unclosed
    (λ l. v.holds.lanes l old.steps (r.lanes l))
    (λ o. v.holds.outs o old.steps (r.outs o))
    (λ l other. (v.leaves l).hand old.steps)
replies_rest board number given late s t false old new hint_old hint_new r x outside unclosed =
    gate_rests board number old new r x.gate

-- an out lane that the closer took and gave back
open_as_before : (about : BoardSizes) (o : ℕ) (a b c : Seat) (h : HeldLane)
    → Took about (id.Out o) a b h → BackTells about h b c → opened_by c ≡ opened_by a
open_as_before about o a b c (held.Out i x) t told = ap opened_by told ∙ ap opened_by t.1.step
open_as_before about o a b c (held.Middle i x) t told = absurd t

-- ---- a desk

module _ (number : ℕ) (board : BoardView) (seat closer : Seat) (k : ℕ)
    (x : IsDesk number board seat closer k) where
  seat_moves : (new : Seat) → Rests board number new → IsDesk number board new closer k
  seat_moves new r =
      record {
        seats = x.seats;
        settings = x.settings;
        rests = r;
        closer_rests = x.closer_rests;
        opened = x.opened;
      }

  closer_moves : (new : Seat) → Rests board (number + 1) new → opened_by new ≡ opened_by closer
      → IsDesk number board seat new k
  closer_moves new r few =
      record {
        seats = x.seats;
        settings = x.settings;
        rests = x.rests;
        closer_rests = r;
        opened = omega (arith, few, x.opened);
      }

  desk_opened : (new : Seat) → RestsOpened no_lane board (number + 1) closer new
      → IsDesk number board seat new (k + 1)
  desk_opened new r =
      record {
        seats = x.seats;
        settings = x.settings;
        rests = x.rests;
        closer_rests = r.rests;
        opened = omega (arith, r.opened, x.opened);
      }

  desk_later : IsDesk number board seat closer (k + 1)
  desk_later =
      record {
        seats = x.seats;
        settings = x.settings;
        rests = x.rests;
        closer_rests = x.closer_rests;
        opened = omega (arith, x.opened);
      }

-- ---- an office

module _ (shared : Shared) (hint : Hint) (s : Server) (rb : BoardView) (rs rc : Seat)
    (tb : BoardView) (ts tc : Seat) (k : ℕ)
    (x : IsOffice shared hint s rb rs rc tb ts tc k) where
  clerk_moves : (hint_new : Hint) (t : Server) → hint_new.table ≡ hint.table → t.app ≡ s.app
      → t.sent.room ≡ s.sent.room → IsServer shared.given t
      → IsClerk rb.sizes tb.sizes shared hint_new t
  clerk_moves hint_new t table app room is =
      record {
        hint_table = table ∙ x.clerk.hint_table;
        words = subst (λ n. word_count n ≤ shared.hints.words) (sym room) x.clerk.words;
        app = subst (λ n. n < rb.sizes.outs) (sym app) x.clerk.app;
        settings = x.clerk.settings;
        room = room ∙ x.clerk.room;
        maps = x.clerk.maps;
        reply_room = room ∙ x.clerk.reply_room;
        is = is;
      }

  pub took : (t : Server) (did : Bool) (seat : Seat) (hint_new : Hint)
      → TakesOrLeaves rb.sizes shared.given s t rs seat hint hint_new did
      → IsServer shared.given t → IsOffice shared hint_new t rb seat rc tb ts tc k
  took t did seat hint_new takes is =
      let stays = applications_stay.takes rb.sizes shared.given s t did rs seat hint hint_new
      takes in
      record {
        clerk = clerk_moves hint_new t stays.hint_table stays.app stays.room is;
        takes = seat_moves 2 rb rs rc k x.takes seat
            (takes_rest rb 2 rb.sizes shared.given s t did rs seat hint hint_new x.takes.rests
            takes);
        replies = x.replies;
        kept = subst (λ (z : Kept). KeepsMaps shared.given z ts.steps)
            (sym (applications_stay.maps rb.sizes shared.given s t did rs seat hint hint_new takes))
            x.kept;
      }

  pub replied : (late : List Arrival) (t : Server) (did : Bool) (seat : Seat) (hint_new : Hint)
      → RepliesOrKeeps shared.given late s t ts seat hint hint_new did
      → IsServer shared.given t → KeepsMaps shared.given t.kept seat.steps → IsOutside seat.steps
      → HasOpen seat.steps → IsOffice shared hint_new t rb rs rc tb seat tc k
  replied late t did seat hint_new replies is kept outside unclosed =
      let stays = applications_stay.replies shared.given late s t did ts seat hint hint_new
      replies in
      record {
        clerk = clerk_moves hint_new t stays.hint_table stays.app stays.room is;
        takes = x.takes;
        replies = seat_moves 0 tb ts tc k x.replies seat
            (replies_rest tb 0 shared.given late s t did ts seat hint hint_new x.replies.rests
            replies outside unclosed);
        kept = kept;
      }

  pub given_back : (o : ℕ) (h : HeldLane) (mid new : Seat) → Took rb.sizes (id.Out o) rc mid h
      → BackTells rb.sizes h mid new → IsOffice shared hint s rb rs new tb ts tc k
  given_back o h mid new t told =
      record {
        clerk = x.clerk;
        takes = closer_moves 2 rb rs rc k x.takes new
            (back_rests rb 3 rc mid new (id.Out o) h x.takes.closer_rests t told)
            (open_as_before rb.sizes o rc mid new h t told);
        replies = x.replies;
        kept = x.kept;
      }

  pub receive_opened : (lanes : CpuMask) (mid new : Seat) (i v : ℕ)
      → ClosesEmpty rb.sizes lanes rc mid None → SetsAndOpens i v mid new
      → IsOffice shared hint s rb rs new tb ts tc (k + 1)
  receive_opened lanes mid new i v closes sets =
      record {
        clerk = x.clerk;
        takes = desk_opened 2 rb rs rc k x.takes new
            (made_rests no_lane rb 3 rb.sizes lanes rc new mid i v x.takes.closer_rests closes
            sets);
        replies = desk_later 0 tb ts tc k x.replies;
        kept = x.kept;
      }

  pub transmit_opened : (lanes : CpuMask) (mid new : Seat) (i v : ℕ)
      → ClosesEmpty tb.sizes lanes tc mid None → SetsAndOpens i v mid new
      → IsOffice shared hint s rb rs rc tb ts new (k + 1)
  transmit_opened lanes mid new i v closes sets =
      record {
        clerk = x.clerk;
        takes = desk_later 2 rb rs rc k x.takes;
        replies = desk_opened 0 tb ts tc k x.replies new
            (made_rests no_lane tb 1 tb.sizes lanes tc new mid i v x.replies.closer_rests closes
            sets);
        kept = x.kept;
      }

-- The controller's seats and its journal after tries.
use Rattle.steer_base.specs.Commands.{refusal}
use Rattle.steer_base.specs.declared.command.Answer.TheVariants as says
use Rattle.steer_base.specs.declared.command.Command.TheVariants as give
use Rattle.steer_base.specs.declared.command.Refused.{Refused}
use Rattle.run_controller.specs.Attempts.{Attempts, ClearsByAnswer, DoesAtOnce, HintsBehind}
use Rattle.run_controller.specs.Attempts.{TriesBy}
use Rattle.run_controller.proofs.Names.{◌≡◌, ℕ, ◌+◌, ◌∷◌, Option, Some, None, length, ap, ◌∙◌}
use Rattle.run_controller.proofs.Names.{arith, Answer, Command, Store, HintView, TriesUnless}
use Rattle.run_controller.proofs.Names.{KnownSettings, receive_change, transmit_change, AreSeated}
use Rattle.run_controller.proofs.Names.{Stage, Change, Seats}
use Rattle.run_controller.proofs.SeatLemmas.{StaysOut, expired_stays, first_glances, gated_stays}
use Rattle.run_controller.proofs.SeatLemmas.{same_stays, stays_seated}

-- ---- the hint seat keeps its table

clears_table : (answer : Answer) (old new : HintView) → ClearsByAnswer answer old new
    → new.table ≡ old.table
clears_table says.Done old new (stores, are, all, is) = ap (λ (s : HintView). s.table) is
clears_table (says.Busy why) old new is = ap (λ (s : HintView). s.table) is
clears_table (says.Expired n) old new is = ap (λ (s : HintView). s.table) is
clears_table (says.Idle why) old new is = ap (λ (s : HintView). s.table) is
clears_table (says.CpuInUse user) old new is = ap (λ (s : HintView). s.table) is
clears_table says.CpuOffline old new is = ap (λ (s : HintView). s.table) is

behind_table : (c : Command) (answer : Answer) (old new : HintView) → HintsBehind c answer old new
    → new.table ≡ old.table
behind_table (give.Sock size) answer old new is = clears_table answer old new is
behind_table (give.Mask q mask) answer old new is = ap (λ (s : HintView). s.table) is
behind_table (give.Flows q count) answer old new is = ap (λ (s : HintView). s.table) is
behind_table (give.Offline cpu) answer old new is = ap (λ (s : HintView). s.table) is
behind_table (give.Online cpu) answer old new is = ap (λ (s : HintView). s.table) is
behind_table (give.XCpus tx mask) answer old new is = ap (λ (s : HintView). s.table) is
behind_table (give.XQueues tx rxqs) answer old new is = ap (λ (s : HintView). s.table) is
behind_table (give.Reta entry q) answer old new is = ap (λ (s : HintView). s.table) is
behind_table (give.Stand app cpu) answer old new is = ap (λ (s : HintView). s.table) is
behind_table give.Expire answer old new is = ap (λ (s : HintView). s.table) is

-- ---- seats after a try

-- each seat stays where it was
pub record AllStay (old new : Seats) : Type 0 where
  pub rx : StaysOut old.rx new.rx
  pub tx : StaysOut old.tx new.tx
  pub hint : new.hint.table ≡ old.hint.table

all_same : (old new : Seats) → new ≡ old → AllStay old new
all_same old new same =
    record {
      rx = same_stays old.rx new.rx (ap (λ (s : Seats). s.rx) same);
      tx = same_stays old.tx new.tx (ap (λ (s : Seats). s.tx) same);
      hint = ap (λ (s : Seats). s.hint.table) same;
    }

stored_stay : (number value : ℕ) (old new : Seats)
    → new ≡ record old { hint = record old.hint { steps = Store number value ∷ old.hint.steps } }
    → AllStay old new
stored_stay number value old new is =
    record {
      rx = same_stays old.rx new.rx (ap (λ (s : Seats). s.rx) is);
      tx = same_stays old.tx new.tx (ap (λ (s : Seats). s.tx) is);
      hint = ap (λ (s : Seats). s.hint.table) is;
    }

module _ (s : Stage) (most : ℕ) (old new : Seats) (seated : AreSeated s most old) where
  at_once_stay : (c : Command) (answer : Answer) → DoesAtOnce s.shared c answer old new
      → AllStay old new
  at_once_stay (give.Reta entry q) answer (done, is) = stored_stay _ _ old new is
  at_once_stay (give.Stand app cpu) answer (done, is) = stored_stay _ _ old new is
  at_once_stay give.Expire answer (count, done, tx, e) =
      record {
        rx = expired_stays s.shared old.rx new.rx old.hint new.hint count seated.rx.outside e;
        tx = same_stays old.tx new.tx tx;
        hint = (first_glances s.shared e.all.outcomes e.first e.last old.hint new.hint
            e.all.expires).hint_table;
      }
  at_once_stay (give.Mask q mask) answer none = absurd none
  at_once_stay (give.Flows q count) answer none = absurd none
  at_once_stay (give.Sock size) answer none = absurd none
  at_once_stay (give.Offline cpu) answer none = absurd none
  at_once_stay (give.Online cpu) answer none = absurd none
  at_once_stay (give.XCpus tx mask) answer none = absurd none
  at_once_stay (give.XQueues tx rxqs) answer none = absurd none

  tries_stay : (c : Command) (r t : Option Change) (answer : Answer)
      → TriesBy s c r t answer old new → AllStay old new
  tries_stay c (Some m) t answer a =
      record {
        rx = gated_stays s.rx.sizes a.gated.0 m.number m.value answer old.rx new.rx a.gated.2;
        tx = same_stays old.tx new.tx a.tx;
        hint = behind_table c answer old.hint new.hint a.hint;
      }
  tries_stay c None (Some m) answer a =
      record {
        rx = same_stays old.rx new.rx a.rx;
        tx = gated_stays s.tx.sizes a.gated.0 m.number m.value answer old.tx new.tx a.gated.2;
        hint = ap (λ (h : HintView). h.table) a.hint;
      }
  tries_stay c None None answer a = at_once_stay c answer a

  unless_stay : (k : KnownSettings) (c : Command) (why : Option Refused) (answer : Answer)
      → TriesUnless s k c why answer old new → AllStay old new
  unless_stay k c (Some why) answer (is, same) = all_same old new same
  unless_stay k c None answer a =
      tries_stay c (receive_change (length s.shared.given.homes) k c)
      (transmit_change s.shared.given.txs c) answer a

  pub attempt_seated : (k : KnownSettings) (c : Command) (answer : Answer)
      → Attempts s k c answer old new → AreSeated s (most + 1) new
  attempt_seated k c answer a =
      let stay = unless_stay k c
      (refusal k.settings.online c s.shared.given.homes k.settings.stands) answer a in
      let rx_few = stay.rx.opened in
      let tx_few = stay.tx.opened in
      let rx_most = seated.rx_opened in
      let tx_most = seated.tx_opened in
      record {
        rx = stays_seated s.rx old.rx new.rx stay.rx seated.rx;
        tx = stays_seated s.tx old.tx new.tx stay.tx seated.tx;
        hint = stay.hint ∙ seated.hint;
        rx_opened = omega (arith, rx_few, rx_most);
        tx_opened = omega (arith, tx_few, tx_most);
      }

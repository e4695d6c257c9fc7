-- What a poller's seat has read of the settings, now and while it goes on.
use Rattle.hop_rule.specs.Gates.{visit_number}
use Rattle.board_api.proofs.NumberedSteps.{numbered_reads_stay, reads_are_numbered}
use Rattle.run_workers.specs.Hands.Pollers.{AreRead, KeepsReading, read_steps}
use Rattle.run_workers.specs.declared.poller.KeptReading.{KeptReading}
use Rattle.run_workers.specs.declared.poller.Reading.{Reading}
use Rattle.run_workers.proofs.Names.{◌≡◌, ℕ, ◌+◌, ◌*◌, List, [], ◌∷◌, ◌++◌, Option, None, Some}
use Rattle.run_workers.proofs.Names.{IfSome, ◌∙◌, Table}
use Rattle.run_workers.proofs.Names.{sym, ap, subst, gate_steps, BoardStep, Gate, Read, IsInside}
use Rattle.run_workers.proofs.Names.{BoardSeatView, Adds, Poller, Grows}

module _ (queues q : ℕ) (r : Reading) (number : ℕ) where
  are_more : (added own : List BoardStep) → AreRead queues q r own number
      → AreRead queues q r (added ++ own) number
  are_more added own x =
      record {
        mask = numbered_reads_stay added own number q r.mask x.mask;
        flows = numbered_reads_stay added own number (queues + q) r.flows x.flows;
        socket = numbered_reads_stay added own number (2 * queues) r.socket x.socket;
        online = numbered_reads_stay added own number (2 * queues + 1) r.online x.online;
      }

  pub are_grown : (before after : List BoardStep) → Grows before after
      → AreRead queues q r before number → AreRead queues q r after number
  are_grown before after grow x =
      subst (λ ds. AreRead queues q r ds number) (sym grow.1) (are_more grow.0 before x)

  pub are_added : (added : List BoardStep) (old new : BoardSeatView) → Adds added old new
      → AreRead queues q r old.steps number → AreRead queues q r new.steps number
  are_added added old new adds x =
      are_grown old.steps new.steps (added, ap (λ (v : BoardSeatView). v.steps) adds) x

-- what is read inside is read in a visit with the number of the seat's visit
module _ (queues q : ℕ) (r : Reading) (own : List BoardStep) where
  abbrev mask : BoardStep
  mask = Gate (Read q r.mask)

  abbrev flows : BoardStep
  flows = Gate (Read (queues + q) r.flows)

  abbrev socket : BoardStep
  socket = Gate (Read (2 * queues) r.socket)

  abbrev online : BoardStep
  online = Gate (Read (2 * queues + 1) r.online)

  abbrev number : ℕ
  number = visit_number (gate_steps own)

  reads_inside : IsInside own → AreRead queues q r (read_steps queues q r ++ own) number
  reads_inside inside =
      record {
        mask = numbered_reads_stay (online ∷ socket ∷ flows ∷ []) (mask ∷ own) number q r.mask
            (reads_are_numbered own q r.mask inside);
        flows = numbered_reads_stay (online ∷ socket ∷ []) (flows ∷ mask ∷ own) number
            (queues + q) r.flows (reads_are_numbered (mask ∷ own) (queues + q) r.flows inside);
        socket = numbered_reads_stay (online ∷ []) (socket ∷ flows ∷ mask ∷ own) number
            (2 * queues) r.socket
            (reads_are_numbered (flows ∷ mask ∷ own) (2 * queues) r.socket inside);
        online = reads_are_numbered (socket ∷ flows ∷ mask ∷ own) (2 * queues + 1) r.online
            inside;
      }

pub read_inside : (queues q : ℕ) (r : Reading) (old new : BoardSeatView) → IsInside old.steps
    → Adds (read_steps queues q r) old new
    → AreRead queues q r new.steps (visit_number (gate_steps old.steps))
read_inside queues q r old new inside adds =
    subst (λ ds. AreRead queues q r ds (visit_number (gate_steps old.steps)))
    (sym (ap (λ (v : BoardSeatView). v.steps) adds)) (reads_inside queues q r old.steps inside)

-- ---- what is kept

-- a poller that has read and then told its table of a choice
pub reread_same : (p a : Poller) (word : ℕ) (between table : Table)
    → a ≡ record p { flows = word; table = between; kept = a.kept }
    → record a { table = table } ≡ record p { flows = a.flows; table = table; kept = a.kept }
reread_same p a word between table same =
    ap (λ (z : Poller). record z { table = table }) same
    ∙ ap (λ (n : ℕ). record p { flows = n; table = table; kept = a.kept })
    (sym (ap (λ (z : Poller). z.flows) same))

pub kept_grown : (queues : ℕ) (p : Poller) (before after : List BoardStep) → Grows before after
    → KeepsReading queues p before → KeepsReading queues p after
kept_grown queues p before after grow is = by_kept p.kept is
  where
    by_kept : (o : Option KeptReading)
        → IfSome o (λ k. AreRead queues p.queue k.reading before k.visit)
        → IfSome o (λ k. AreRead queues p.queue k.reading after k.visit)
    by_kept None is = tt
    by_kept (Some k) is = are_grown queues p.queue k.reading k.visit before after grow is

pub kept_added : (queues : ℕ) (p : Poller) (added : List BoardStep) (old new : BoardSeatView)
    → Adds added old new → KeepsReading queues p old.steps → KeepsReading queues p new.steps
kept_added queues p added old new adds is =
    kept_grown queues p old.steps new.steps (added, ap (λ (v : BoardSeatView). v.steps) adds) is

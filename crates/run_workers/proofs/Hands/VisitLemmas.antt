-- A visit in which a packet was steered is a turn.
use Rattle.hop_rule.specs.declared.step.BoardStep.TheVariants.{Weighed}
use Rattle.board_api.specs.StepWords.{is_marked, openings_in}
use Rattle.hop_rule.specs.Gates.{visit_number}
use Rattle.hop_delivery.specs.Orders.Turns.{turn_put}
use Rattle.hop_delivery.proofs.Orders.TurnLemmas.{explained_turn}
use Rattle.run_workers.specs.Hands.Laws.{PollsLeaveDrains, ServesExplain, VisitsExplain}
use Rattle.run_workers.specs.Hands.Pollers.{AreRead, KeepsReading, LoadedHead, LoadsHead, Steers}
use Rattle.run_workers.specs.Hands.Pollers.{class_read, desired_read}
use Rattle.run_workers.specs.Hands.Pollers.{online_read, put_of, read_steps}
use Rattle.run_workers.specs.declared.poller.Reading.{Reading}
use Rattle.run_workers.proofs.Names.{◌≡◌, ℕ, List, [], ◌∷◌, ◌++◌, Option, None, Some, IfSome, refl}
use Rattle.run_workers.proofs.Names.{sym, ap, ◌⊎◌, inl, inr, false, subst, ◌∙◌, unwrap_or, length}
use Rattle.run_workers.proofs.Names.{append_assoc, Contains-append_left, Contains-append_right}
use Rattle.run_workers.proofs.Names.{Contains-push, step_by, SeatView, has, Choice, Chosen}
use Rattle.run_workers.proofs.Names.{table_after, Table, weighed, HintStep, gate_steps, closed}
use Rattle.run_workers.proofs.Names.{visit, BoardStep, Gate, Entered, Left, Turned, HasOpen}
use Rattle.run_workers.proofs.Names.{IsInside, BoardSeatView, Adds, quiet_steps_stay, AreQuiet}
use Rattle.run_workers.proofs.Names.{Explained, Turn, visit_with, explained_more, Setup}
use Rattle.run_workers.proofs.Names.{packet_hash, HoldsNoMore, LeavesLane, IsDrain, FindsClosed}
use Rattle.run_workers.proofs.Names.{SteersHand, Waits, Visits, refreshed, Drain, Poller}
use Rattle.run_workers.proofs.Hands.ChoiceLemmas.{class_stays}
use Rattle.run_workers.proofs.Hands.DrainLemmas.{stays_drain}
use Rattle.run_workers.proofs.Hands.DeltaLemmas.{adds_both, holds_both, leaves_both, quiet_both}
use Rattle.run_workers.proofs.Hands.ReadLemmas.{are_added, kept_added}
use Rattle.run_workers.proofs.Hands.WaitLemmas.{waits_at_board}

-- steps at the gate and of loads hold and serve nothing
pub record AreIdle (added : List BoardStep) : Type 0 where
  pub holds : HoldsNoMore added
  pub leaves : (l : ℕ) → LeavesLane l added

pub idle_both : (ds es : List BoardStep) → AreIdle ds → AreIdle es → AreIdle (ds ++ es)
idle_both ds es d e =
    record {
      holds = holds_both ds es d.holds e.holds;
      leaves = λ l. leaves_both l ds es (d.leaves l) (e.leaves l);
    }

pub idle_none : AreIdle []
idle_none =
    record {
      holds = record { lanes = λ l own e. e; outs = λ o own e. e };
      leaves = λ l. record { hand = λ own. refl; retires = refl; deliveries = refl };
    }

idle_weighed : (l w : ℕ) → AreIdle (Weighed l w ∷ [])
idle_weighed l w =
    record {
      holds = record { lanes = λ i own e. e; outs = λ o own e. e };
      leaves = λ i. record { hand = λ own. refl; retires = refl; deliveries = refl };
    }

idle_reads : (queues q : ℕ) (r : Reading) → AreIdle (read_steps queues q r)
idle_reads queues q r =
    record {
      holds = record { lanes = λ i own e. e; outs = λ o own e. e };
      leaves = λ i. record { hand = λ own. refl; retires = refl; deliveries = refl };
    }

pub idle_entered : (w : ℕ) → AreIdle (Gate (Entered w) ∷ [])
idle_entered w =
    record {
      holds = record { lanes = λ i own e. e; outs = λ o own e. e };
      leaves = λ i. record { hand = λ own. refl; retires = refl; deliveries = refl };
    }

pub idle_left : AreIdle (Gate Left ∷ [])
idle_left =
    record {
      holds = record { lanes = λ i own e. e; outs = λ o own e. e };
      leaves = λ i. record { hand = λ own. refl; retires = refl; deliveries = refl };
    }

-- ---- the head that was loaded

pub record HeadSteps (table : Table) (class head : Option ℕ) (old new : BoardSeatView)
    : Type 0 where
  pub added : List BoardStep
  pub adds : Adds added old new
  pub quiet : AreQuiet added
  pub idle : AreIdle added
  pub loads : IfSome head (LoadedHead table class added)

pub head_steps : (table : Table) (class head : Option ℕ) (old new : BoardSeatView)
    → LoadsHead table class old new head → HeadSteps table class head old new
head_steps table class None old new is =
    record {
      added = [];
      adds = is;
      quiet = record { puts = refl; visits = refl };
      idle = idle_none;
      loads = tt;
    }
head_steps table None (Some n) old new is = absurd is
head_steps table (Some k) (Some n) old new is =
    record {
      added = Weighed is.0 is.1 ∷ [];
      adds = is.4;
      quiet = record { puts = refl; visits = refl };
      idle = idle_weighed is.0 is.1;
      loads = (is.0, is.1, is.2, is.3, Contains-push [] (Weighed is.0 is.1));
    }

loads_more : (table : Table) (class : Option ℕ) (front xs back : List BoardStep) (n : ℕ)
    → LoadedHead table class xs n → LoadedHead table class (front ++ (xs ++ back)) n
loads_more table None front xs back n is = absurd is
loads_more table (Some k) front xs back n is = (
  is.0,
  is.1,
  is.2,
  is.3,
  Contains-append_right front (xs ++ back) (Weighed is.0 is.1)
      (Contains-append_left xs back (Weighed is.0 is.1) is.4),
)

pub loads_if : (table : Table) (class head : Option ℕ) (front xs back : List BoardStep)
    → IfSome head (LoadedHead table class xs)
    → IfSome head (LoadedHead table class (front ++ (xs ++ back)))
loads_if table class None front xs back is = tt
loads_if table class (Some n) front xs back is = loads_more table class front xs back n is

-- ---- the settings that were read

pub record SettingSteps (old new : BoardSeatView) : Type 0 where
  pub added : List BoardStep
  pub adds : Adds added old new
  pub quiet : AreQuiet added
  pub idle : AreIdle added

setting_steps : (queues q : ℕ) (r : Reading) (old new : BoardSeatView)
    → (new ≡ old) ⊎ Adds (read_steps queues q r) old new → SettingSteps old new
setting_steps queues q r old new (inl same) =
    record {
      added = [];
      adds = same;
      quiet = record { puts = refl; visits = refl };
      idle = idle_none;
    }
setting_steps queues q r old new (inr adds) =
    record {
      added = read_steps queues q r;
      adds = adds;
      quiet = record { puts = refl; visits = refl };
      idle = idle_reads queues q r;
    }

-- what a poller keeps, after the head was loaded
pub kept_loaded : (queues : ℕ) (p : Poller) (table : Table) (class head : Option ℕ)
    (old new : BoardSeatView) → LoadsHead table class old new head
    → KeepsReading queues p old.steps → KeepsReading queues p new.steps
kept_loaded queues p table class head old new loads is =
    let steps = head_steps table class head old new loads in
    kept_added queues p steps.added old new steps.adds is

-- ---- inside

module _ (given : Setup) (filters q flows seen : ℕ) (before after : Table)
    (count_old count_new : ℕ) (chosen : Chosen) (old new : BoardSeatView)
    (hint_old hint_new : SeatView HintStep)
    (s : Steers given filters q flows seen before after count_old count_new chosen old new
    hint_old hint_new) where
  abbrev reading : Reading
  reading = s.chooses.reading

  abbrev table : Table
  table = refreshed flows reading.flows before

  abbrev class : Option ℕ
  class = class_read given chosen.id table

  pub head : HeadSteps table class s.chooses.head s.chooses.mid s.mid
  head = head_steps table class s.chooses.head s.chooses.mid s.mid s.chooses.loads

  pub reads : SettingSteps old s.chooses.mid
  reads = setting_steps (length given.homes) q reading old s.chooses.mid s.chooses.reads.steps

  abbrev put : BoardStep
  put = put_of given chosen.choice.lane chosen.id s.answer

  abbrev early : List BoardStep
  early = s.puts.early ++ (head.added ++ reads.added)

  quiet : AreQuiet early
  quiet = quiet_both s.puts.early (head.added ++ reads.added) s.puts.quiet
      (quiet_both head.added reads.added head.quiet reads.quiet)

  idle : AreIdle (put ∷ early)
  idle = idle_both (put ∷ s.puts.early) (head.added ++ reads.added)
      (record { holds = s.puts.holds; leaves = s.puts.leaves })
      (idle_both head.added reads.added head.idle reads.idle)

  adds : Adds (put ∷ early) old new
  adds = adds_both old s.mid new (put ∷ s.puts.early) (head.added ++ reads.added)
      (adds_both old s.chooses.mid s.mid head.added reads.added reads.adds head.adds) s.puts.adds

  pub stays_inside : IsInside old.steps → IsInside new.steps
  stays_inside is =
      ap (λ (v : BoardSeatView). visit (gate_steps v.steps)) adds
      ∙ ((quiet_steps_stay (put ∷ early) old.steps quiet.visits).place ∙ is)

  pub stays_open : HasOpen old.steps → HasOpen new.steps
  stays_open is =
      ap (λ (v : BoardSeatView). closed (gate_steps v.steps)) adds
      ∙ ((quiet_steps_stay (put ∷ early) old.steps quiet.visits).gate ∙ is)

  same_class : chosen.choice.class ≡ class
  same_class =
      ap (λ (c : Choice). c.class) s.chooses.rule
      ∙ class_stays class s.chooses.want
      (desired_read given q chosen.id reading table s.chooses.want) table
      (λ _. unwrap_or s.chooses.head 0) (has (online_read given q chosen.id reading table))

  told : after ≡ table_after (weighed table chosen.choice.class chosen.choice)
      chosen.choice.class (Some s.answer)
  told =
      s.puts.table
      ∙ ap (λ (t : Table). table_after t chosen.choice.class (Some s.answer))
      (s.chooses.table ∙ ap (λ (k : Option ℕ). weighed table k chosen.choice) (sym same_class))

  -- the turn of a visit whose entry found this word
  abbrev pub turn : ℕ → Turn
  turn w =
      record {
        chosen = chosen;
        word = w;
        early = early;
        hash = packet_hash given chosen.id;
        answer = s.answer;
      }

  module _ (first last : BoardSeatView) (w : ℕ) (unmarked : is_marked w ≡ false)
      (enters : Adds (Gate (Entered w) ∷ []) first old) (leaves : Adds (Gate Left ∷ []) new last)
    where
      all : AreIdle (visit_with (turn w) [] [])
      all = idle_both (Gate Left ∷ []) ((put ∷ early) ++ Gate (Entered w) ∷ []) idle_left
          (idle_both (put ∷ early) (Gate (Entered w) ∷ []) idle (idle_entered w))

      -- the settings are as they were read in a visit with this number
      known : AreRead (length given.homes) q reading last.steps (openings_in w)
      known =
          let number : visit_number (gate_steps old.steps) ≡ openings_in w =
          ap (λ (v : BoardSeatView). visit_number (gate_steps v.steps)) enters in
          are_added (length given.homes) q reading (openings_in w) (Gate Left ∷ []) new last leaves
          (are_added (length given.homes) q reading (openings_in w) (put ∷ s.puts.early) s.mid new
          s.puts.adds
          (are_added (length given.homes) q reading (openings_in w) head.added s.chooses.mid s.mid
          head.adds
          (subst (AreRead (length given.homes) q reading s.chooses.mid.steps) number
          s.chooses.reads.are)))

      pub visits : Visits given filters q flows seen before after count_old count_new (turn w) first
          last hint_old hint_new
      visits =
          record {
            adds = adds_both first new last (Gate Left ∷ [])
                ((put ∷ early) ++ Gate (Entered w) ∷ [])
                (adds_both first old new (put ∷ early) (Gate (Entered w) ∷ []) enters adds) leaves;
            gate = unmarked;
            quiet = quiet;
            holds = all.holds;
            leaves = all.leaves;
            hash = refl;
            reading = reading;
            want = s.chooses.want;
            head = s.chooses.head;
            hint_mid = s.hint_mid;
            hint_marked = s.hint_marked;
            reads = known;
            looks = s.chooses.looks;
            loads = loads_if table class s.chooses.head s.puts.early head.added reads.added
                head.loads;
            looked = s.chooses.looked;
            rule = s.chooses.rule;
            table = told;
            word = s.chooses.word;
            count = s.puts.count;
            marks = s.marks;
            asks = s.puts.asks;
          }

-- ---- turns that explain a seat's list

pub visits_explain : VisitsExplain
visits_explain given filters q flows seen before after count_old count_new turn old new hint_old
    hint_new v ts is =
    subst (λ ds. Explained ds (step_by q turn ∷ ts))
    (sym (ap (λ (s : BoardSeatView). s.steps) v.adds ∙ whole))
    (explained_turn (step_by q turn) [] old.steps ts (record { puts = refl; visits = refl })
    v.quiet is)
  where
    whole : visit_with turn [] [] ++ old.steps ≡ visit_with turn [] old.steps
    whole = ap (λ ds. Gate Left ∷ turn_put turn ∷ ds)
        (append_assoc turn.early (Gate (Entered turn.word) ∷ []) old.steps)

pub serves_explain : ServesExplain
serves_explain served old new s ts is =
    subst (λ ds. Explained ds ts) (sym (ap (λ (v : BoardSeatView). v.steps) s.adds))
    (explained_more s.added old.steps ts s.only.quiet.puts is)

-- ---- polls leave drains

idle_turned : (w : ℕ) → AreIdle (Gate Left ∷ Gate (Turned w) ∷ [])
idle_turned w =
    record {
      holds = record { lanes = λ i own e. e; outs = λ o own e. e };
      leaves = λ i. record { hand = λ own. refl; retires = refl; deliveries = refl };
    }

leaves_drain : (given : Setup) (d : Drain) (added : List BoardStep) (old new : BoardSeatView)
    → Adds added old new → LeavesLane d.lane added → IsDrain given d old.steps
    → IsDrain given d new.steps
leaves_drain given d added old new adds leaves is =
    subst (IsDrain given d) (sym (ap (λ (v : BoardSeatView). v.steps) adds))
    (stays_drain given d added old.steps leaves is)

pub polls_leave : PollsLeaveDrains
polls_leave given d filters p q old new hint_old hint_new polls is = by_case polls.steers
  where
    by_steps : (new ≡ old) ⊎ FindsClosed old new → IsDrain given d new.steps
    by_steps (inl same) =
        subst (λ (v : BoardSeatView). IsDrain given d v.steps) (sym same) is
    by_steps (inr (word, adds)) =
        leaves_drain given d (Gate Left ∷ Gate (Turned word) ∷ []) old new adds
        ((idle_turned word).leaves d.lane) is

    by_case : Waits polls.mid q old new hint_old hint_new
        ⊎ ((id : ℕ) × (polls.mid.hand ≡ Some id)
        × SteersHand given filters id polls.mid q old new hint_old hint_new)
        → IsDrain given d new.steps
    by_case (inl waits) = by_steps (waits_at_board polls.mid q old new hint_old hint_new waits)
    by_case (inr (id, hand, steers)) =
        leaves_drain given d (visit_with steers.turn [] []) old new steers.visit.adds
        (steers.visit.leaves d.lane) is

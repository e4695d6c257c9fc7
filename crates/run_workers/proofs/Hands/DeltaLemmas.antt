-- Steps that a hand adds, and steps one after another.
use Rattle.hop_rule.specs.Owns.{puts_of, visits_of, put_in, visit_in}
use Rattle.hop_rule.specs.declared.step.BoardStep.TheVariants.{Counted, LaneOut}
use Rattle.hop_rule.specs.declared.step.Change.TheVariants.{Nothing}
use Rattle.hop_rule.specs.declared.step.LaneStep.TheVariants.{Held, Missed, OutMissed}
use Rattle.board_api.specs.OwnSteps.{delivered_by, delivered_in, retired_by, retired_in}
use Rattle.board_api.specs.declared.held_lane.HeldLane.TheVariants as held
use Rattle.board_api.specs.declared.held_lane.LaneId.TheVariants as id
use Rattle.run_workers.specs.Hands.Drains.{Looks}
use Rattle.run_workers.proofs.Names.{◌≡◌, ◌⊎◌, inl, inr, ℕ, ◌==◌, List, [], ◌∷◌, ◌++◌, None, Some}
use Rattle.run_workers.proofs.Names.{Option, refl, sym, ap, subst, ◌∙◌, true, false, Bool}
use Rattle.run_workers.proofs.Names.{if◌then◌else◌, append_assoc, filter_map-append, LaneLists}
use Rattle.run_workers.proofs.Names.{lane_steps, out_slot, holding, out_holding, phase, OutList}
use Rattle.run_workers.proofs.Names.{BoardSizes, BoardStep, Lane, LaneIn, OutHeld, OutFreed, Took}
use Rattle.run_workers.proofs.Names.{BackTells, released, BoardSeatView, Adds, HeldLane, AreQuiet}
use Rattle.run_workers.proofs.Names.{HoldsNoMore, LeavesLane, OnlyServes, Serves}

-- what is None in both cases
pub none_either : {A : Type 0} (b : Bool) (x y : Option A) → x ≡ None
    → (if b then None else (if b then y else x)) ≡ None
none_either true x y e = refl
none_either false x y e = e

-- what was left or done, without the reasons
pub without_reasons : {A B C E : Type 0} → (A × B) ⊎ (C × E) → B ⊎ E
without_reasons (inl both) = inl both.1
without_reasons (inr both) = inr both.1

-- ---- steps of one hold

-- the steps by which a middle lane and an out lane were taken
abbrev pub held_steps : ℕ → ℕ → LaneLists → List BoardStep
held_steps l w x = LaneOut l ∷ Lane (Held l w x) ∷ []

abbrev pub out_held_steps : ℕ → ℕ → ℕ → OutList → List BoardStep
out_held_steps slot o w x = LaneOut slot ∷ Lane (OutHeld o w x) ∷ []

-- steps with one list of lanes in which nothing was done
pub leaves_each : (added : List BoardStep)
    → ((l : ℕ) (own : List BoardStep)
    → phase l (lane_steps (added ++ own)) ≡ phase l (lane_steps own))
    → ((l : ℕ) → retired_by l added ≡ []) → ((l : ℕ) → delivered_by l added ≡ [])
    → (served : ℕ → Bool) (l : ℕ) → served l ≡ false → LeavesLane l added
leaves_each added hand retires deliveries served l other =
    record { hand = hand l; retires = retires l; deliveries = deliveries l }

module _ (served : ℕ → Bool) where
  pub serve_none : OnlyServes served []
  serve_none =
      record {
        quiet = record { puts = refl; visits = refl };
        holds = record { lanes = λ l own e. e; outs = λ o own e. e };
        others = leaves_each [] (λ l own. refl) (λ l. refl) (λ l. refl) served;
      }

  serve_counted : (l w : ℕ) → OnlyServes served (Counted l w ∷ [])
  serve_counted l w =
      record {
        quiet = record { puts = refl; visits = refl };
        holds = record { lanes = λ i own e. e; outs = λ o own e. e };
        others = leaves_each (Counted l w ∷ []) (λ i own. refl) (λ i. refl) (λ i. refl) served;
      }

  pub serve_missed : (l w : ℕ) → OnlyServes served (Lane (Missed l w) ∷ [])
  serve_missed l w =
      record {
        quiet = record { puts = refl; visits = refl };
        holds = record { lanes = λ i own e. e; outs = λ o own e. e };
        others = leaves_each (Lane (Missed l w) ∷ []) (λ i own. refl) (λ i. refl) (λ i. refl)
            served;
      }

  pub serve_out_missed : (o w : ℕ) → OnlyServes served (Lane (OutMissed o w) ∷ [])
  serve_out_missed o w =
      record {
        quiet = record { puts = refl; visits = refl };
        holds = record { lanes = λ i own e. e; outs = λ i own e. e };
        others = leaves_each (Lane (OutMissed o w) ∷ []) (λ i own. refl) (λ i. refl) (λ i. refl)
            served;
      }

  -- a middle lane that was taken and given back as it was
  pub serve_back : (l w : ℕ) (x : LaneLists)
      → OnlyServes served (released l Nothing ++ held_steps l w x)
  serve_back l w x =
      record {
        quiet = record { puts = refl; visits = refl };
        holds = record {
          lanes = λ i own e. none_either (l == i) (holding i (lane_steps own)) (Some x) e;
          outs = λ o own e. e;
        };
        others = leaves_each (released l Nothing ++ held_steps l w x) (λ i own. refl)
            (λ i. refl) (λ i. refl) served;
      }

  -- an out lane that was taken and given back as it was
  pub serve_out_back : (slot o w : ℕ) (x : OutList)
      → OnlyServes served (Lane (OutFreed o) ∷ LaneIn slot ∷ out_held_steps slot o w x)
  serve_out_back slot o w x =
      record {
        quiet = record { puts = refl; visits = refl };
        holds = record {
          lanes = λ i own e. e;
          outs = λ i own e. none_either (o == i) (out_holding i (lane_steps own)) (Some x) e;
        };
        others = leaves_each (Lane (OutFreed o) ∷ LaneIn slot ∷ out_held_steps slot o w x)
            (λ i own. refl) (λ i. refl) (λ i. refl) served;
      }

-- ---- one after another

-- one list of steps after another
pub adds_both : (before mid after : BoardSeatView) (ds es : List BoardStep) → Adds es before mid
    → Adds ds mid after → Adds (ds ++ es) before after
adds_both before mid after ds es e d =
    d ∙ (ap (λ (s : BoardSeatView). record s { steps = ds ++ s.steps }) e
    ∙ ap (λ xs. record before { steps = xs }) (sym (append_assoc ds es before.steps)))

pub quiet_both : (ds es : List BoardStep) → AreQuiet ds → AreQuiet es → AreQuiet (ds ++ es)
quiet_both ds es d e =
    record {
      puts = filter_map-append put_in ds es ∙ (ap (λ xs. xs ++ puts_of es) d.puts ∙ e.puts);
      visits = filter_map-append visit_in ds es
          ∙ (ap (λ xs. xs ++ visits_of es) d.visits ∙ e.visits);
    }

pub holds_both : (ds es : List BoardStep) → HoldsNoMore ds → HoldsNoMore es → HoldsNoMore (ds ++ es)
holds_both ds es d e =
    record {
      lanes = λ l own none.
          ap (λ xs. holding l (lane_steps xs)) (append_assoc ds es own)
          ∙ d.lanes l (es ++ own) (e.lanes l own none);
      outs = λ o own none.
          ap (λ xs. out_holding o (lane_steps xs)) (append_assoc ds es own)
          ∙ d.outs o (es ++ own) (e.outs o own none);
    }

pub leaves_both : (l : ℕ) (ds es : List BoardStep) → LeavesLane l ds → LeavesLane l es
    → LeavesLane l (ds ++ es)
leaves_both l ds es d e =
    record {
      hand = λ own.
          ap (λ xs. phase l (lane_steps xs)) (append_assoc ds es own)
          ∙ (d.hand (es ++ own) ∙ e.hand own);
      retires = filter_map-append (retired_in l) ds es
          ∙ (ap (λ xs. xs ++ retired_by l es) d.retires ∙ e.retires);
      deliveries = filter_map-append (delivered_in l) ds es
          ∙ (ap (λ xs. xs ++ delivered_by l es) d.deliveries ∙ e.deliveries);
    }

module _ (served : ℕ → Bool) where
  pub serve_both : (ds es : List BoardStep) → OnlyServes served ds → OnlyServes served es
      → OnlyServes served (ds ++ es)
  serve_both ds es d e =
      record {
        quiet = quiet_both ds es d.quiet e.quiet;
        holds = holds_both ds es d.holds e.holds;
        others = λ l other. leaves_both l ds es (d.others l other) (e.others l other);
      }

  pub stays : (a : BoardSeatView) → Serves served a a
  stays a = record { added = []; only = serve_none served; adds = refl }

  pub serves_next : (a b c : BoardSeatView) → Serves served a b → Serves served b c
      → Serves served a c
  serves_next a b c s t =
      record {
        added = t.added ++ s.added;
        only = serve_both t.added s.added t.only s.only;
        adds = adds_both a b c t.added s.added s.adds t.adds;
      }

  pub serves_look : (l : ℕ) (a b : BoardSeatView) → Looks l a b → Serves served a b
  serves_look l a b looks =
      record {
        added = Counted l looks.0 ∷ [];
        only = serve_counted served l looks.0;
        adds = looks.1;
      }

  pub serves_missed : (l w : ℕ) (a b : BoardSeatView) → Adds (Lane (Missed l w) ∷ []) a b
      → Serves served a b
  serves_missed l w a b adds =
      record { added = Lane (Missed l w) ∷ []; only = serve_missed served l w; adds = adds }

  pub serves_out_missed : (o w : ℕ) (a b : BoardSeatView) → Adds (Lane (OutMissed o w) ∷ []) a b
      → Serves served a b
  serves_out_missed o w a b adds =
      record { added = Lane (OutMissed o w) ∷ []; only = serve_out_missed served o w; adds = adds }

  -- a lane that was taken and given back
  pub serves_back : (about : BoardSizes) (l : ℕ) (a b c : BoardSeatView) (h : HeldLane)
      → Took about (id.Middle l) a b h → BackTells about h b c → Serves served a c
  serves_back about l a b c (held.Middle i content) took told =
      let t = took.1 in
      let back : Adds (released l Nothing) b c =
      subst (λ (k : ℕ). Adds (released k Nothing) b c) took.0 told in
      record {
        added = released l Nothing ++ held_steps l t.word content;
        only = serve_back served l t.word content;
        adds = adds_both a b c (released l Nothing) (held_steps l t.word content) t.step back;
      }
  serves_back about l a b c (held.Out i content) took told = absurd took

  pub serves_out_back : (about : BoardSizes) (o : ℕ) (a b c : BoardSeatView) (h : HeldLane)
      → Took about (id.Out o) a b h → BackTells about h b c → Serves served a c
  serves_out_back about o a b c (held.Out i content) took told =
      let t = took.1 in
      let slot : ℕ = out_slot about o in
      let ends : List BoardStep = Lane (OutFreed o) ∷ LaneIn slot ∷ [] in
      let back : Adds ends b c =
      subst (λ (k : ℕ). Adds (Lane (OutFreed k) ∷ LaneIn (out_slot about k) ∷ []) b c)
      took.0 told in
      record {
        added = ends ++ out_held_steps slot o t.word content;
        only = serve_out_back served slot o t.word content;
        adds = adds_both a b c ends (out_held_steps slot o t.word content) t.step back;
      }
  serves_out_back about o a b c (held.Middle i content) took told = absurd took

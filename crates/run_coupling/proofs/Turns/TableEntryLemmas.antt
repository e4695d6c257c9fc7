-- A producer's own table, told of its turns, has the entries of the lists.
use Rattle.linearization.specs.Orders.{step_by}
use Rattle.steer_base.specs.Entries.{entry}
use Rattle.dev_flow_table.specs.Folds.{Agrees, TableIsEntries, Placement}
use Rattle.hop_rule.specs.Moments.{IsStep, moment_of, past}
use Rattle.hop_rule.proofs.Moments.{past-next}
use Rattle.hop_rule.proofs.Parts.{at_moment}
use Rattle.hop_delivery.proofs.Orders.TurnLemmas.{turns_have_places}
use Rattle.hop_delivery.specs.Closings.PutPlaces.{AnswersArePlaces}
use Rattle.hop_delivery.proofs.Closings.PutPlaceLemmas.{turns_put_once}
use Rattle.run_coupling.specs.Laws.OwnTables.{TablesAreEntries}
use Rattle.run_coupling.specs.Coupling.OwnTables.{as_told}
use Rattle.run_coupling.specs.Coupling.Turns.{IsTurnOf}
use Rattle.run_coupling.proofs.Names.{◌≡◌, ℕ, List, [], ◌∷◌, Some, map, All, sym, refl, ap, ◌∙◌}
use Rattle.run_coupling.proofs.Names.{slice_get, All-cons, All-head, All-nil, All-tail, StepBy}
use Rattle.run_coupling.proofs.Names.{nth_step, BoardSizes, BoardStep, nth-some, BoardLists, Turn}
use Rattle.run_coupling.proofs.Names.{accepted_left}

head-same : {A : Type 0} (xs ys : List A) (x y : A) → x ∷ xs ≡ y ∷ ys → Some x ≡ Some y
head-same xs ys x y e = ap (λ zs. slice_get zs 0) e

pub nth-moment : (xs : List (StepBy Turn)) (n p : ℕ) (u : Turn) → IsStep xs n p u
    → nth_step xs n ≡ Some (step_by p u)
nth-moment xs n p u is =
    let inside = Rattle.hop_rule.proofs.Moments.step-inside xs n p u is in
    let y = nth-some xs n inside in
    let z = past-next xs n y.0 y.1 in
    y.1 ∙ head-same (past n xs) (past n xs) y.0 (step_by p u) (sym z ∙ is)

-- ---- the worker's own table

pub tables_are_entries : (about : BoardSizes) (own : ℕ → List BoardStep) (lists : BoardLists)
    → TableIsEntries → AnswersArePlaces about own lists → TablesAreEntries about own lists
tables_are_entries about own lists law places_law t a p count exact us class all less =
    law about.start count exact (accepted_left lists) (map as_told us) class (agrees us all) less
    ∙ ap (λ cs. entry about.start (accepted_left lists) cs class) (chosen-told us)
  where
    chosen-told : (us : List Turn)
        → map (λ (x : Placement). x.chosen) (map as_told us) ≡ map (λ (u : Turn). u.chosen) us
    chosen-told [] = refl
    chosen-told (u ∷ us) = ap (λ cs. u.chosen ∷ cs) (chosen-told us)

    agree : (u : Turn) → IsTurnOf t p u → Agrees about.start (accepted_left lists) (as_told u)
    agree u (i, at) =
        let q : ℕ = t.seat p in
        let x = at_moment p (t.turns q) i u at in
        let m : ℕ = moment_of p (t.turns q) i in
        let e = nth-moment (t.turns q) m p u x in
        let ps = turns_have_places (own q) (t.turns q) (a.explained q) in
        let v = ps.visits m (step_by p u) e in
        places_law (turns_put_once own t a) q (ps.put m) u.chosen.choice.lane u.chosen.id u.hash
        u.answer v.puts

    agrees : (us : List Turn) → All (IsTurnOf t p) us
        → All (Agrees about.start (accepted_left lists)) (map as_told us)
    agrees [] all = All-nil (Agrees about.start (accepted_left lists))
    agrees (u ∷ us) all =
        All-cons (Agrees about.start (accepted_left lists)) (as_told u) (map as_told us)
        (agree u (All-head (IsTurnOf t p) u us all)) (agrees us (All-tail (IsTurnOf t p) u us all))

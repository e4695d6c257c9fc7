-- The forms of a try from what its calls add.
use Rattle.board_api.specs.Calls.Results.{looking}
use Rattle.run_coupling.proofs.Names.{List, [], ◌∷◌, ◌++◌, refl, ap, ◌∙◌, filter_map, BoardStep}
use Rattle.run_coupling.proofs.Names.{Gate, Opened, Set, Shut, sets_and_openings}
use Rattle.run_coupling.proofs.Tries.EmptiedLemmas.{gates-looking, looking-split, no-sets-looking}
use Rattle.run_coupling.specs.Laws.Calls.{BusyCallsLook, DoneCallsSet, InsideCallsNone}
use Rattle.run_coupling.specs.Coupling.Tries.{set_or_opening}

pub done_calls : DoneCallsSet
done_calls about homes cpus txs c m steps f =
    ap sets_and_openings f.are
    ∙ ap (λ gs. Opened ∷ Set m.word m.value ∷ filter_map set_or_opening gs)
    (gates-looking f.looked (Gate (Shut f.word) ∷ []))

pub busy_calls : BusyCallsLook
busy_calls looked last word =
    let base : List BoardStep = Gate (Shut word) ∷ [] in
    record {
      opens =
          ap (λ gs. Opened ∷ filter_map set_or_opening gs)
          (gates-looking (looked ++ last ∷ []) base);
      none = (refl, no-sets-looking (looked ++ last ∷ []) base (refl, tt));
      newer = Gate Opened ∷ [];
      between = [];
      older = looking looked base;
      are = ap (λ ds. Gate Opened ∷ ds) (looking-split looked last [] base);
    }

pub inside_calls : InsideCallsNone
inside_calls word = (refl, (refl, tt))

-- An out lane is the sum of all deliveries to it, and as many lanes are left as the board has.
use Rattle.std.proofs.lemmas.List.{length-map}
use Rattle.std.proofs.lemmas.List.FromFn.{length-range_with_len}
use Rattle.board_api.specs.Closings.Finals.{lane_list}
use Rattle.board_api.specs.Laws.Lanes.{ListsAreCounted, OutsAreSums}
use Rattle.board_api.specs.OwnSteps.{given_in}
use Rattle.board_api.proofs.Names.{◌≡◌, ℕ, ◌+◌, List, [], ◌∷◌, ◌++◌, length, length-append, Some}
use Rattle.board_api.proofs.Names.{None, refl, ap, ◌∙◌, arith, range_with_len, dite, ℕ_discrete}
use Rattle.board_api.proofs.Names.{StepBy, step_by, if_same, if_other, IsLawful, MayCome, out}
use Rattle.board_api.proofs.Names.{own_of, BoardSizes, BoardStep, Lane, Given, lists_of}
use Rattle.board_api.proofs.Left.{out_is}
use Rattle.board_api.proofs.Sums.{gained, is_sum}

module _ (about : BoardSizes) (o : ℕ) where
  adds : (q : ℕ) (d : BoardStep) (es : List (StepBy BoardStep)) → IsLawful about es
      → MayCome about q es d
      → length (out about (step_by q d ∷ es) o) ≡ gained (given_in o d) + length (out about es o)
  adds q (Lane (Given i from id place)) es lawful may =
      let xs : List ℕ = out about es o in
      let more = length-append xs (id ∷ []) in
      dite (ℕ_discrete i o)
      (λ e.
      let a = ap length (if_same i o (xs ++ id ∷ []) xs e) in
      let b = ap gained (if_same i o (Some id) None e) in omega arith)
      (λ ne.
      let a = ap length (if_other i o (xs ++ id ∷ []) xs ne) in
      let b = ap gained (if_other i o (Some id) None ne) in omega arith)
  adds q d es lawful may = omega arith

pub outs_are_sums : (about : BoardSizes) (order : List (StepBy BoardStep)) → IsLawful about order
    → OutsAreSums about (own_of order) (lists_of about order)
outs_are_sums about order lawful o within =
    ap length (out_is about order o within)
    ∙ is_sum about (given_in o) (λ es. length (out about es o)) refl (adds about o) order lawful

pub lists_are_counted : (about : BoardSizes) (own : ℕ → List BoardStep)
    (order : List (StepBy BoardStep)) → ListsAreCounted about own (lists_of about order)
lists_are_counted about own order =
    record {
      lanes =
          length-map (range_with_len 0 about.lanes) (lane_list about order)
          ∙ length-range_with_len 0 about.lanes;
      outs =
          length-map (range_with_len 0 about.outs) (out about order)
          ∙ length-range_with_len 0 about.outs;
    }

-- What a word is after an order of steps.
use Rattle.std.proofs.Common.{◌≡◌, ◌⊎◌, inl, inr, ℕ, List, [], ◌∷◌, ◌++◌, Option, None, Some, refl}
use Rattle.std.proofs.Common.{ap, ◌∙◌}
use Rattle.std.specs.Option.{unwrap_or}
use Rattle.std.proofs.lemmas.List.Elements.{All-nil, All-cons, All-head, All-tail}
use Rattle.linearization.specs.Orders.{StepBy}
use Rattle.hint_words.specs.declared.step.HintStep.{HintStep}
use Rattle.hint_words.specs.Steps.{value_written, word_after, NoneWrites, IsWrittenLast}

module _ (i : ℕ) where
  abbrev Silent : StepBy HintStep → Type 0
  Silent e = value_written i e.step ≡ None

  behind : (newer older : List (StepBy HintStep)) → NoneWrites i newer → word_after i
      (newer ++ older) ≡ word_after i older
  behind [] older none = refl
  behind (e ∷ newer) older none = ap (λ (o : Option ℕ). unwrap_or o (word_after i (newer ++ older)))
      (All-head Silent e newer none) ∙ behind newer older (All-tail Silent e newer none)

  pub unwritten : (order : List (StepBy HintStep)) → NoneWrites i order → word_after i order ≡ 0
  unwritten [] none = refl
  unwritten (e ∷ order) none = ap (λ (o : Option ℕ). unwrap_or o (word_after i order))
      (All-head Silent e order none) ∙ unwritten order (All-tail Silent e order none)

  pub last_is : (n : ℕ) (order : List (StepBy HintStep)) → IsWrittenLast i order n
      → word_after i order ≡ n
  last_is n order w = ap (word_after i) w.cut ∙ (behind w.newer (w.last ∷ w.older) w.none_newer
      ∙ ap (λ (o : Option ℕ). unwrap_or o (word_after i w.older)) w.writes)

  by_newest : (e : StepBy HintStep) (order : List (StepBy HintStep)) (o : Option ℕ)
      → value_written i e.step ≡ o → NoneWrites i order ⊎ IsWrittenLast i order (word_after i order)
      → NoneWrites i (e ∷ order) ⊎ IsWrittenLast i (e ∷ order) (unwrap_or o (word_after i order))
  by_newest e order (Some n) is before =
      inr (record {
        newer = [];
        last = e;
        older = order;
        cut = refl;
        none_newer = All-nil Silent;
        writes = is;
      })
  by_newest e order None is (inl none) = inl (All-cons Silent e order is none)
  by_newest e order None is (inr w) =
      inr (record {
        newer = e ∷ w.newer;
        last = w.last;
        older = w.older;
        cut = ap (λ l. e ∷ l) w.cut;
        none_newer = All-cons Silent e w.newer is w.none_newer;
        writes =
            w.writes;
      })

  pub either_way : (order : List (StepBy HintStep)) → NoneWrites i order ⊎ IsWrittenLast i order
      (word_after i order)
  either_way [] = inl (All-nil Silent)
  either_way (e ∷ order) = by_newest e order (value_written i e.step) refl (either_way order)

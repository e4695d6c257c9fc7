-- The current lanes after one more choice.
use Rattle.std.proofs.Common.{ℕ, ◌≡◌, ◌++◌, true, false, List, [], ◌∷◌, Option, Some}
use Rattle.std.proofs.Common.{None, ap, ◌∙◌, sym, inl, inr, cond}
use Rattle.std.specs.Prelude.{◌==◌}
use Rattle.std.proofs.lemmas.Bool.{cases_eq, eq-eqb, ne_eqb}
use Rattle.steer_base.specs.Entries.{current_lane, is_class, of_class}
use Rattle.steer_base.specs.declared.choice.Chosen.{Chosen}
use Rattle.steer_base.proofs.EntriesLemmas.{current_lane-push, of_class-no, of_class-yes}

-- a choice without a class changes no lane
pub current-plain : (class : ℕ) (cs : List Chosen) (c : Chosen) → c.choice.class ≡ None
    → current_lane (of_class class (cs ++ c ∷ [])) ≡ current_lane (of_class class cs)
current-plain class cs c e =
    ap current_lane (of_class-no class cs c (ap (is_class class) e))

-- a choice of a class is its last one, and leaves the others
pub current-noted : (class k : ℕ) (cs : List Chosen) (c : Chosen) (old new : Option ℕ)
    → c.choice.class ≡ Some k → new ≡ cond (k == class) (Some c.choice.lane) old
    → old ≡ current_lane (of_class class cs)
    → new ≡ current_lane (of_class class (cs ++ c ∷ []))
current-noted class k cs c old new e n o = elim (cases_eq class k) [
  | inl same ↦
      let t : is_class class c.choice.class ≡ true =
      ap (is_class class) e ∙ eq-eqb class k same in
      let b : (k == class) ≡ true = eq-eqb k class (sym same) in
      n ∙ ap (λ b. cond b (Some c.choice.lane) old) b
      ∙ sym (ap current_lane (of_class-yes class cs c t)
      ∙ current_lane-push (of_class class cs) c)
  | inr ne ↦
      let f : is_class class c.choice.class ≡ false =
      ap (is_class class) e ∙ ne_eqb class k ne in
      let b : (k == class) ≡ false = ne_eqb k class (λ x. ne (sym x)) in
      n ∙ ap (λ b. cond b (Some c.choice.lane) old) b ∙ o
      ∙ sym (ap current_lane (of_class-no class cs c f))
]

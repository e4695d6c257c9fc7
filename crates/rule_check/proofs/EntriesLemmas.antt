-- Turn by turn over a table, or each by the entries of the lists before it: the same.
use Rattle.std.proofs.Common.{ℕ, zero, suc, ◌≡◌, ◌<◌, ◌++◌, Bool, List, [], ◌∷◌, Some}
use Rattle.std.proofs.Common.{length, take, map, refl, ap, ◌∙◌, sym, arith, get_or, subst}
use Rattle.std.proofs.Common.{append_assoc, append-nil}
use Rattle.std.specs.Prelude.{unwrap_or}
use Rattle.std.specs.List.{All, fold}
use Rattle.std.specs.Option.{option_map}
use Rattle.std.proofs.lemmas.List.{map-append}
use Rattle.std.proofs.lemmas.List.Sums.{fold-append}
use Rattle.steer_base.specs.Choices.{migrate}
use Rattle.steer_base.specs.Entries.{entry}
use Rattle.steer_base.specs.Entries.{position as place_of}
use Rattle.steer_base.specs.Sets.{has}
use Rattle.steer_base.specs.declared.choice.Chosen.{Chosen}
use Rattle.steer_base.specs.declared.put.Put.TheVariants.{At}
use Rattle.dev_flow_table.specs.Folds.{Agrees, IsPutAt, Placement, TableIsEntries, after_turn}
use Rattle.dev_flow_table.specs.Tables.{Table, cleared, entries}
use Rattle.rule_check.specs.Rules.{placed_at}
use Rattle.rule_check.specs.Turns.{AreByTurns, Questions}
use Rattle.rule_check.proofs.RulesLemmas.{migrate-at}

module _ (law : TableIsEntries) (start count : ℕ) (exact : Bool) (accepted : ℕ → List ℕ)
    (asks : Questions)
    (agrees : (c : Chosen)
    → IsPutAt start (place_of accepted c) (option_map (λ p. At p) (asks.position c)))
    (below : (c : Chosen) (k : ℕ) → asks.class c ≡ Some k → k < count) where
  abbrev placements : List Chosen → List Placement
  placements cs = map (λ c. placed_at c (asks.position c)) cs

  abbrev table-after : List Chosen → Table
  table-after cs = fold after_turn (cleared count start exact) (placements cs)

  all-agree : (cs : List Chosen) → All (Agrees start accepted) (placements cs)
  all-agree [] k d l = absurd (omega (arith, l))
  all-agree (c ∷ cs) zero d l = agrees c
  all-agree (c ∷ cs) (suc k) d l = all-agree cs k d (omega (arith, l))

  same-chosen : (cs : List Chosen) → map (λ t. t.chosen) (placements cs) ≡ cs
  same-chosen [] = refl
  same-chosen (c ∷ cs) = ap (λ l. c ∷ l) (same-chosen cs)

  entry-of : (cs : List Chosen) (k : ℕ) → k < count
      → entries (table-after cs) k ≡ entry start accepted cs k
  entry-of cs k l =
      law start count exact accepted (placements cs) k (all-agree cs) l
      ∙ ap (λ xs. entry start accepted xs k) (same-chosen cs)

  -- a choice by the rule over the entries that the choices before it give
  abbrev pub ByEntry : List Chosen → Chosen → Type 0
  ByEntry before c =
      c.choice ≡ migrate (asks.class c) (asks.want c) (asks.desired c) (entry start accepted before)
      (λ lane. unwrap_or c.choice.head 0) (has asks.online)

  at_entry : (before : List Chosen) (c : Chosen)
      → migrate (asks.class c) (asks.want c) (asks.desired c) (entries (table-after before))
      (λ lane. unwrap_or c.choice.head 0) (has asks.online)
      ≡ migrate (asks.class c) (asks.want c) (asks.desired c) (entry start accepted before)
      (λ lane. unwrap_or c.choice.head 0) (has asks.online)
  at_entry before c =
      migrate-at (asks.class c) (asks.want c) (asks.desired c) (entries (table-after before))
      (entry start accepted before) (λ lane. unwrap_or c.choice.head 0) (has asks.online)
      (λ k h. entry-of before k (below c k h))

  next : (before : List Chosen) (c : Chosen)
      → table-after (before ++ (c ∷ []))
      ≡ after_turn (table-after before) (placed_at c (asks.position c))
  next before c =
      ap (λ ts. fold after_turn (cleared count start exact) ts)
      (map-append (λ c. placed_at c (asks.position c)) before (c ∷ []))
      ∙ fold-append after_turn (cleared count start exact) (placements before)
      (placed_at c (asks.position c) ∷ [])

  all-to-from : (before rest : List Chosen) → AreByTurns asks (table-after before) rest
      → (k : ℕ) (d : Chosen) → k < length rest → ByEntry (before ++ take k rest) (get_or rest k d)
  all-to-from before [] h k d l = absurd (omega (arith, l))
  all-to-from before (c ∷ cs) h zero d l =
      subst (λ b. ByEntry b c) (sym (append-nil before)) (h.0 ∙ at_entry before c)
  all-to-from before (c ∷ cs) h (suc k) d l =
      subst (λ b. ByEntry b (get_or cs k d)) (append_assoc before (c ∷ []) (take k cs))
      (all-to-from (before ++ (c ∷ [])) cs
      (subst (λ t. AreByTurns asks t cs) (sym (next before c)) h.1) k d (omega (arith, l)))

  all-from-to : (before rest : List Chosen)
      → ((k : ℕ) (d : Chosen) → k < length rest → ByEntry (before ++ take k rest) (get_or rest k d))
      → AreByTurns asks (table-after before) rest
  all-from-to before [] h = tt
  all-from-to before (c ∷ cs) h =
      let first : ByEntry before c = subst (λ b. ByEntry b c) (append-nil before)
      (h 0 c (omega arith)) in
      let rest : AreByTurns asks (table-after (before ++ (c ∷ []))) cs =
      all-from-to (before ++ (c ∷ [])) cs (λ k d l. subst (λ b. ByEntry b (get_or cs k d))
      (sym (append_assoc before (c ∷ []) (take k cs))) (h (suc k) d (omega (arith, l)))) in (
        first ∙ sym (at_entry before c),
        subst (λ t. AreByTurns asks t cs) (next before c) rest,
      )

  -- choices by turns from a cleared table on are each by the entries of those before
  pub all-to : (cs : List Chosen) → AreByTurns asks (cleared count start exact) cs
      → (k : ℕ) (d : Chosen) → k < length cs → ByEntry (take k cs) (get_or cs k d)
  all-to cs h k d l = all-to-from [] cs h k d l

  pub all-from : (cs : List Chosen)
      → ((k : ℕ) (d : Chosen) → k < length cs → ByEntry (take k cs) (get_or cs k d))
      → AreByTurns asks (cleared count start exact) cs
  all-from cs h = all-from-to [] cs h

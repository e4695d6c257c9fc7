-- Every step keeps each transmit choice of each application by the rule.
use Rattle.std.proofs.Common.{ℕ, ◌<◌, ◌≡◌, List, [], ◌∷◌, ◌++◌, length, refl, ap, ◌∙◌}
use Rattle.std.proofs.Common.{sym, subst, arith, inl, inr, get_or}
use Rattle.std.proofs.lemmas.Bool.{cases_eq}
use Rattle.hop_model.specs.Hop.{choices_of, next_of, taken_of}
use Rattle.hop_core.proofs.Lists.{Changed-set}
use Rattle.steer_base.specs.declared.choice.Chosen.{Chosen}
use Rattle.steer_base.specs.declared.step.Step.{Step}
use Rattle.steer_model.specs.Good.Inputs.{Input, setup_in}
use Rattle.steer_model.specs.State.Machine.{Machine}
use Rattle.steer_model.specs.State.Start.{new_machine}
use Rattle.steer_model.specs.Steps.SingleSteps.{simple}
use Rattle.steer_invariant.specs.Invariant.{Invariant}
use Rattle.steer_invariant.specs.StepInvariant.{IsNamed}
use Rattle.steer_properties.proofs.Histories.ExtendLemmas.{blank-at}
use Rattle.steer_properties.proofs.Histories.LastingLemmas.{Lasts, SameTurns}
use Rattle.steer_properties.proofs.Histories.MomentLemmas.{then_at}
use Rattle.steer_properties.proofs.Choices.RuleStepLemmas.{Follows}
use Rattle.steer_properties.proofs.Choices.ReplyRuleLemmas.{SameStart, TxRuled, TxRules}
use Rattle.steer_properties.proofs.Choices.ReplyRuleLemmas.{tx-ruled-chosen}
use Rattle.steer_properties.proofs.Choices.ReplyRuleLemmas.{tx-ruled-stays}
use Rattle.steer_properties.proofs.Histories.StepKindLemmas.{lasts-noted, new_tx_choice, tx_weighed}
use Rattle.steer_properties.proofs.Histories.StepKindLemmas.{walk}

-- both hops number from one start as long as they last
start-lasts : (m n : Machine) → Lasts m n → SameStart m → SameStart n
start-lasts m n l start =
    ap (λ f. f.start) l.tx.fixed ∙ start ∙ sym (ap (λ f. f.start) l.rx.fixed)

-- a step by which no transmit choice is made
tx-rules-stay : (i : Input) (m n : Machine) → Invariant m → Invariant n → SameStart m → Lasts m n
    → SameTurns m.tx n.tx → TxRules i m → TxRules i n
tx-rules-stay i m n h g start l turns old =
    let k = h.kept in let j = g.kept in
    record {
      each = λ a. (
        (old.each a).0,
        tx-ruled-stays i m n k.tx.sound j.tx.sound l start (start-lasts m n l start) a
            (old.each a).0 (old.each a).1
            (ap (λ (c : List (List Chosen)). get_or c a []) turns.choices),
      );
      unsized = λ a. ap (λ c. get_or c a 0) turns.since ∙ old.unsized a;
    }

tx-rules-weighed : (i : Input) (m : Machine) (a : ℕ) → m.setup ≡ setup_in i → Follows i m
    → SameStart m → Invariant m → Invariant (tx_weighed m a) → a < m.setup.apps
    → length (choices_of m.tx a) < taken_of m.tx a → Lasts m (tx_weighed m a) → TxRules i m
    → TxRules i (tx_weighed m a)
tx-rules-weighed i m a setup follows start h g in' more l old =
    record { each = each; unsized = old.unsized }
  where
    long : a < length m.tx.choices
    long =
        let k = h.kept in let z = k.tx.sizes in let w = k.tx.sound.wide in
        omega (arith, in', z.apps, w.choices)

    each : (b : ℕ) → (at : ℕ → ℕ) × TxRuled i (tx_weighed m a) b at
    each b =
        let k = h.kept in let j = g.kept in
        elim (cases_eq b a) [
          | inl e ↦
              let at = (old.each a).0 in let r = (old.each a).1 in
              let one : (bt : ℕ → ℕ) × TxRuled i (tx_weighed m a) a bt = (
                then_at (length (choices_of m.tx a)) (length m.commands) at,
                tx-ruled-chosen i m a setup follows k j.tx.sound long more l start
                    (old.unsized a) at r,
              ) in
              subst (λ n. (bt : ℕ → ℕ) × TxRuled i (tx_weighed m a) n bt) (sym e) one
          | inr ne ↦
              let at = (old.each b).0 in let r = (old.each b).1 in
              let new : Chosen = record { id = next_of m.tx a; choice = new_tx_choice m a } in
              let ch = Changed-set m.tx.choices a (choices_of m.tx a ++ new ∷ []) [] long in (
                at,
                tx-ruled-stays i m (tx_weighed m a) k.tx.sound j.tx.sound l start start b at r
                    (ch.there b ne),
              )
        ]

pub tx-rules-simple : (i : Input) (m : Machine) (s : Step) → m.setup ≡ setup_in i → Follows i m
    → SameStart m → Invariant m → Invariant (simple m s).0 → IsNamed m.setup s → TxRules i m
    → TxRules i (simple m s).0
tx-rules-simple i m s setup follows start h g named old =
    walk m h (λ n. Invariant n → TxRules i n) s
    (record {
      quiet = λ n k g. tx-rules-stay i m n h g start k.still.lasts k.still.tx old;
      arrive = λ few k g. tx-rules-stay i m _ h g start k.lasts k.tx old;
      look = λ q in' inside more g. tx-rules-stay i m _ h g start (lasts-noted m q _)
          (record { choices = refl; since = refl }) old;
      weigh = λ q want in' is more l g. tx-rules-stay i m _ h g start l
          (record { choices = refl; since = refl }) old;
      write = λ flow hash is some k g. tx-rules-stay i m _ h g start k.lasts k.tx old;
      send = λ a x in' is k g. tx-rules-stay i m _ h g start k.lasts k.tx old;
      tx_weigh = λ a in' more l g.
          tx-rules-weighed i m a setup follows start h g in' more l old;
      give = λ c is in' d g. tx-rules-stay i m _ h g start d.lasts d.tx old;
    }) named g

-- ---- a new machine

pub tx-rules-new : (i : Input) → TxRules i (new_machine i.plan i.packets i.cut)
tx-rules-new i =
    let m : Machine = new_machine i.plan i.packets i.cut in
    let many : ℕ = length m.tx.counts in
    record {
      each = λ a. (
        λ k. 0,
        (let none : choices_of m.tx a ≡ [] = blank-at many a [] in
            let long : length (choices_of m.tx a) ≡ 0 = ap length none in
            record {
              prefixes = record {
                within = λ k lt. omega arith;
                grow = λ k lt. omega arith;
              };
              each = λ k lt. absurd (omega (arith, lt, long));
            }),
      );
      unsized = λ a. blank-at many a 0;
    }

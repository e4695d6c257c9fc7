-- A clause by its number.
use Rattle.std.proofs.Common.{ℕ, ◌≡◌, ◌≤◌, ◌<◌, ◌+◌, List, [], ◌∷◌, Option, ap, sym, arith, inl}
use Rattle.std.proofs.Common.{inr, length, refl, subst}
use Rattle.std.proofs.lemmas.Bool.{cases_eq, cases_lt}
use Rattle.steer_base.specs.declared.packet.Packet.{Packet}
use Rattle.history.specs.declared.history.History.{History}
use Rattle.plan_reader.specs.declared.plan.Plan.{Plan}
use Rattle.steer_model.specs.Good.GoodHistory.{Clause}
use Rattle.steer_model.specs.Good.Inputs.{Input}
use Rattle.steer_model.specs.State.Setup.{Setup}
use Rattle.steer_model.specs.State.Start.{setup_of}
use Rattle.good_check.specs.Cases.{input}
use Rattle.good_check.specs.Faults.{HoldBefore}

-- a number that is none of the clauses asks nothing
pub clause-outside : (n : ℕ) (i : Input) (h : History)
    → ((k : ℕ) → 1 ≤ k → k ≤ 11 → n ≡ k → ⊥) → Clause n i h
clause-outside n i h out = record {
  arrived = λ e. absurd (out 1 (omega arith) (omega arith) e);
  queues = λ e. absurd (out 2 (omega arith) (omega arith) e);
  choices = λ e. absurd (out 3 (omega arith) (omega arith) e);
  wants = λ e. absurd (out 4 (omega arith) (omega arith) e);
  heads = λ e. absurd (out 5 (omega arith) (omega arith) e);
  drops = λ e. absurd (out 6 (omega arith) (omega arith) e);
  steered = λ e. absurd (out 7 (omega arith) (omega arith) e);
  swept = λ e. absurd (out 8 (omega arith) (omega arith) e);
  writes = λ e. absurd (out 9 (omega arith) (omega arith) e);
  commands = λ e. absurd (out 10 (omega arith) (omega arith) e);
  replies = λ e. absurd (out 11 (omega arith) (omega arith) e);
}

-- one clause more holds, and at last all do
pub hold-next : (n : ℕ) (i : Input) (h : History) → HoldBefore n i h → Clause n i h
    → HoldBefore (n + 1) i h
hold-next n i h before own m some l = elim (cases_eq m n) [
  | inl e ↦ subst (λ k. Clause k i h) (sym e) own
  | inr ne ↦ before m some (omega (arith, l, ne))
]

pub all-hold : (n : ℕ) (i : Input) (h : History) → 11 < n → HoldBefore n i h
    → (m : ℕ) → Clause m i h
all-hold n i h l before m = elim (cases_lt m n) [
  | inl k ↦ elim (cases_lt 0 m) [
    | inl some ↦ before m some k
    | inr none ↦ clause-outside m i h (λ k some few e. omega (arith, none, some, e))
  ]
  | inr k ↦ clause-outside m i h (λ j some few e. omega (arith, l, k, few, e))
]

-- a list without items
pub none-there : {A : Type 0} (xs : List A) → length xs ≤ 0 → xs ≡ []
none-there [] l = refl
none-there (x ∷ xs) l = absurd (omega (arith, l))

-- the input of a case is that of its plan and its capture
pub same-input : (plan : Plan) (packets : List Packet) (cut : Option ℕ) (given : Setup)
    → given ≡ setup_of plan packets cut
    → input plan given.packets given.cut ≡ input plan packets cut
same-input plan packets cut given e = ap (λ p. input plan p.packets p.cut) e

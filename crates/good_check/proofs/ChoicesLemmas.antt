-- Choices by the rule over a table are those of a good history without commands.
use Rattle.std.proofs.Common.{ℕ, zero, suc, ◌≡◌, ◌<◌, ◌≤◌, ◌++◌, ◌%◌, true, false, List, []}
use Rattle.std.proofs.Common.{◌∷◌, Option, Some, None, length, map, take, refl, ap, ◌∙◌, sym, arith}
use Rattle.std.proofs.Common.{inl, inr, get_or, subst}
use Rattle.std.specs.Prelude.{nat_lt, slice_index}
use Rattle.std.specs.Option.{option_map}
use Rattle.std.proofs.Math.ListN.{get_or-eq_default}
use Rattle.std.proofs.lemmas.Bool.{cases_lt}
use Rattle.std.proofs.lemmas.List.{get_or-map, get_or_default, length-map, length-replicate}
use Rattle.std.proofs.lemmas.Nat.{mod_below}
use Rattle.steer_base.specs.Choices.{class_of}
use Rattle.steer_base.specs.Counters.{number, rounded_up}
use Rattle.steer_base.specs.Entries.{position as place_of}
use Rattle.steer_base.specs.Orders.{IsPrefix}
use Rattle.steer_base.specs.declared.choice.Chosen.{Chosen}
use Rattle.steer_base.specs.declared.put.Put.TheVariants.{At}
use Rattle.dev_flow_table.specs.Folds.{IsPutAt}
use Rattle.dev_flow_table.specs.Tables.{IsClassOf, Table, cleared, unset}
use Rattle.dev_flow_table.proofs.FoldsLemmas.{table_is_entries}
use Rattle.hop_model.specs.Hop.{nobody}
use Rattle.history.specs.Lists.{arrivals_at, list_at}
use Rattle.history.specs.Regular.{Regular}
use Rattle.history.specs.declared.history.History.{History}
use Rattle.plan_reader.specs.declared.plan.Plan.{Plan}
use Rattle.plan_reader.specs.declared.plan.QueuePlan.{QueuePlan}
use Rattle.rule_check.specs.Turns.{AreByTurns, Questions}
use Rattle.rule_check.proofs.EntriesLemmas.{ByEntry, all-from, all-to}
use Rattle.steer_model.specs.Good.Choices.{ChoicesAreByRule, IsByRule, accepted_in}
use Rattle.steer_model.specs.Good.GoodHistory.{never}
use Rattle.steer_model.specs.Good.Inputs.{Input, settings_at, setup_in, since_at}
use Rattle.steer_model.specs.State.Settings.{Settings}
use Rattle.steer_model.specs.State.Start.{initial_settings}
use Rattle.good_check.specs.Choices.{HasChosen, rx_questions}
use Rattle.good_check.proofs.DropsLemmas.{taken-count}
use Rattle.good_check.proofs.WantsLemmas.{settings-now}

-- a place and its number
pub put-agrees : (start : ℕ) (o : Option ℕ)
    → IsPutAt start o (option_map (λ p. At p) (option_map (number start) o))
put-agrees start None = refl
put-agrees start (Some n) = (n, refl, refl)

-- a class is below the number of classes
pub class-below : (count : ℕ) (hash : Option ℕ) (k : ℕ) → class_of count hash ≡ Some k → k < count
class-below count None k e = absurd (cc)
class-below count (Some hash) k e = elim (cases_lt 0 count) [
  | inl l ↦
      let b : nat_lt 0 count ≡ true = grind arith in
      let f : class_of count (Some hash) ≡ Some (hash % count) = rw b refl in
      let g : Some (hash % count) ≡ Some k = sym f ∙ e in
      let same : hash % count ≡ k = cc in
      let less : hash % count < count = mod_below hash count l in
      omega (arith, same, less)
  | inr l ↦
      let b : nat_lt 0 count ≡ false = grind arith in
      let f : class_of count (Some hash) ≡ None = rw b refl in
      let g : None ≡ Some k = sym f ∙ e in absurd (cc)
]

-- the class of a hash is one of a table with so many rows
pub is-class : (table : Table) (count : ℕ) (hash : Option ℕ) → length table.rows ≡ count
    → IsClassOf table (class_of count hash)
is-class table count hash e = below-rows (class_of count hash) refl
  where
    below-rows : (o : Option ℕ) → class_of count hash ≡ o → IsClassOf table o
    below-rows None f = tt
    below-rows (Some k) f = omega (arith, e, class-below count hash k f)

-- the rows of a queue's table are its flow count
pub rows-are : (table : Table) (plan : Plan) (settings : Settings) (start q at : ℕ)
    (queue : QueuePlan) → settings ≡ initial_settings plan → at ≡ q → q < length plan.queues
    → queue ≡ get_or plan.queues at queue
    → table ≡ cleared (rounded_up queue.flows) start false
    → (length table.rows ≡ slice_index settings.counts q)
    × (table ≡ cleared (slice_index settings.counts q) start false)
rows-are table plan settings start q at queue is same l here t =
    let count : slice_index settings.counts q ≡ rounded_up queue.flows =
    ap (λ s. slice_index s.counts q) is
    ∙ get_or-map (λ queue. rounded_up queue.flows) plan.queues q queue 0 l
    ∙ ap (λ n. rounded_up (get_or plan.queues n queue).flows) (sym same)
    ∙ ap (λ k. rounded_up k.flows) (sym here) in
    let rows : length table.rows ≡ rounded_up queue.flows =
    ap (λ t. length t.rows) t ∙ length-replicate (rounded_up queue.flows) (unset start) in
    (rows ∙ sym count, t ∙ ap (λ n. cleared n start false) (sym count))

-- without commands no size was changed
since-empty : (q k : ℕ) → since_at [] q (never q) k ≡ 0
since-empty q zero = refl
since-empty q (suc k) = since-empty q k

take-front : (xs ys : List ℕ) → take (length xs) (xs ++ ys) ≡ xs
take-front [] [] = refl
take-front [] (y ∷ ys) = refl
take-front (x ∷ xs) ys = ap (λ l. x ∷ l) (take-front xs ys)

-- a beginning of a list is its first items, as many as it has
front-to : (xs ys : List ℕ) (n : ℕ) → IsPrefix xs ys → length xs ≡ n → xs ≡ take n ys
front-to xs ys n p e =
    sym (ap (λ m. take m ys) (sym e) ∙ ap (take (length xs)) (sym p.1) ∙ take-front xs p.0)

module _ (i : Input) (h : History) (none : h.commands ≡ [])
    (regular : Regular i.packets (length i.plan.apps) h) where
  abbrev plan_settings : Settings
  plan_settings = initial_settings i.plan

  abbrev asks : ℕ → Questions
  asks q = rx_questions (setup_in i) plan_settings h q

  abbrev Holds : ℕ → Type 0
  Holds q = HasChosen (setup_in i) plan_settings h q

  since-none : (q k : ℕ) → since_at h.commands q (never q) k ≡ 0
  since-none q k = ap (λ cs. since_at cs q (never q) k) none ∙ since-empty q k

  below : (q : ℕ) (c : Chosen) (k : ℕ) → (asks q).class c ≡ Some k
      → k < slice_index plan_settings.counts q
  below q c k e = class-below (slice_index plan_settings.counts q) _ k e

  agrees : (q : ℕ) (c : Chosen) → IsPutAt h.start (place_of (accepted_in h.lanes) c)
      (option_map (λ p. At p) ((asks q).position c))
  agrees q c = put-agrees h.start (place_of (accepted_in h.lanes) c)

  rule-to : (q k : ℕ) → Holds q → k < length (list_at h.choices q)
      → IsByRule i h q k (settings_at i h 0) (since_at h.commands q (never q) k)
  rule-to q k holds l =
      let one : IsByRule i h q k plan_settings 0 =
      all-to table_is_entries h.start (slice_index plan_settings.counts q) false
      (accepted_in h.lanes) (asks q) (agrees q) (below q) (list_at h.choices q) holds.turns k nobody
      l in
      subst (λ s. IsByRule i h q k s (since_at h.commands q (never q) k))
      (sym (settings-now i h none))
      (subst (λ n. IsByRule i h q k plan_settings n) (sym (since-none q k)) one)

  rule-from : (q : ℕ) → ((k : ℕ) → k < length (list_at h.choices q)
      → IsByRule i h q k (settings_at i h 0) (since_at h.commands q (never q) k))
      → length (list_at h.choices q) ≡ slice_index h.taken q → Holds q
  rule-from q each count = record {
    count = count;
    turns = all-from table_is_entries h.start (slice_index plan_settings.counts q) false
        (accepted_in h.lanes) (asks q) (agrees q) (below q) (list_at h.choices q) (λ k d l.
        let one : IsByRule i h q k plan_settings 0 =
        subst (λ n. IsByRule i h q k plan_settings n) (since-none q k)
        (subst (λ s. IsByRule i h q k s (since_at h.commands q (never q) k))
        (settings-now i h none) (each k l)) in
        subst (λ c. ByEntry table_is_entries h.start (slice_index plan_settings.counts q) false
        (accepted_in h.lanes) (asks q) (agrees q) (below q) (take k (list_at h.choices q)) c)
        (get_or_default (list_at h.choices q) k nobody d l) one);
  }

  all-to-list : (q : ℕ) → length (list_at h.choices q) ≡ slice_index h.taken q
      → map (λ c. c.id) (list_at h.choices q)
      ≡ take (slice_index h.taken q) (arrivals_at h.arrivals q)
  all-to-list q e =
      front-to (map (λ c. c.id) (list_at h.choices q)) (arrivals_at h.arrivals q)
      (slice_index h.taken q) (regular.arrived.chosen q)
      (length-map (list_at h.choices q) (λ c. c.id) ∙ e)

  all-from-list : (q : ℕ) → map (λ c. c.id) (list_at h.choices q)
      ≡ take (slice_index h.taken q) (arrivals_at h.arrivals q)
      → length (list_at h.choices q) ≡ slice_index h.taken q
  all-from-list q e =
      sym (length-map (list_at h.choices q) (λ c. c.id)) ∙ ap length e
      ∙ taken-count (slice_index h.taken q) (arrivals_at h.arrivals q) (regular.arrived.taken q)

  -- past the last queue there are no choices, and none was taken
  past-last : (q : ℕ) → length h.taken ≤ q → list_at h.choices q ≡ []
  past-last q l =
      get_or-eq_default h.choices [] (omega (arith, regular.matched.choices, l))

  holds-past : (q : ℕ) → length h.taken ≤ q → Holds q
  holds-past q l =
      let cs : list_at h.choices q ≡ [] = past-last q l in
      let zero-taken : slice_index h.taken q ≡ 0 = get_or-eq_default h.taken 0 l in
      record {
        count = ap length cs ∙ sym zero-taken;
        turns = subst (λ xs. AreByTurns (asks q)
            (cleared (slice_index plan_settings.counts q) h.start false) xs) (sym cs) tt;
      }

  pub choices-to : ((q : ℕ) → q < length h.taken → Holds q) → ChoicesAreByRule i h never
  choices-to all =
      let every : (q : ℕ) → Holds q = λ q. elim (cases_lt q (length h.taken)) [
        | inl l ↦ all q l
        | inr l ↦ holds-past q l
      ] in
      record {
        all = λ q. all-to-list q (every q).count;
        by_rule = record {
          prefixes = λ q. record {
            within = λ k l. omega arith;
            grow = λ k l. omega arith;
          };
          each = λ q k l. rule-to q k (every q) l;
        };
      }

  pub choices-from : ChoicesAreByRule i h never → (q : ℕ) → Holds q
  choices-from r q = rule-from q (λ k l. r.by_rule.each q k l) (all-from-list q (r.all q))

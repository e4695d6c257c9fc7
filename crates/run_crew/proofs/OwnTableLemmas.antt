-- The table that a poller keeps is the one that its turns give.
use Rattle.std.proofs.Common.{append_assoc}
use Rattle.std.proofs.lemmas.List.{drop_all, length-set}
use Rattle.steer_base.specs.Counters.{rounded_up}
use Rattle.dev_flow_table.specs.Folds.{Placement, table_after}
use Rattle.dev_flow_table.specs.Tables.{weighed}
use Rattle.dev_flow_table.proofs.WalksLemmas.{since_is_last_change}
use mathlib.Core.Logic.{dite}
use native.Mathlib.Decide.{ℕ_discrete}
use Rattle.run_words.specs.Values.{flows_in}
use Rattle.run_workers.specs.Hands.Pollers.{as_told, refreshed}
use Rattle.run_workers.specs.Records.Polling.{AllPolled, IsPolled, last_flows, polled_table}
use Rattle.run_workers.specs.Records.Polling.{table_of_turn}
use Rattle.run_crew.proofs.Names.{◌≡◌, ◌≢◌, ℕ, suc, ◌≤◌, ◌==◌, Bool, true, false, List, [], ◌∷◌}
use Rattle.run_crew.proofs.Names.{◌++◌, Option, None, Some, if◌then◌else◌, length, map, drop, sym}
use Rattle.run_crew.proofs.Names.{refl, ap, ◌∙◌, arith, fold, length-map, Choice, Put, At, Dropped}
use Rattle.run_crew.proofs.Names.{after_turn, Table, cleared, since_resize, if_same, if_other}
use Rattle.run_crew.proofs.Names.{BoardStep, HintStep, Setup, oldest_first, PolledTurn, turns_in}
use Rattle.run_crew.proofs.TurnListLemmas.{length_turned, since_more}

-- ---- a turn among all

module _ (first start : ℕ) (given : Setup) (packets q : ℕ) (rx : List BoardStep)
    (hints : List HintStep) where
  pub all_at : (newer : List PolledTurn) (s : PolledTurn) (older : List PolledTurn)
      → AllPolled first start given packets q rx hints (newer ++ s ∷ older)
      → IsPolled first start given packets q rx hints older s
  all_at [] s older all = all.0
  all_at (x ∷ newer) s older all = all_at newer s older all.1

-- ---- the own table

after_start : (class : Option ℕ) (put : Option Put) (choice : Choice) (table : Table)
    → (table_after (weighed table class choice) class put).start ≡ table.start
after_start None put choice table = refl
after_start (Some k) None choice table = refl
after_start (Some k) (Some (At position)) choice table = refl
after_start (Some k) (Some (Dropped number accepted pulled cause)) choice table = refl

weighed_rows : (table : Table) (class : Option ℕ) (choice : Choice)
    → length (weighed table class choice).rows ≡ length table.rows
weighed_rows table None choice = refl
weighed_rows table (Some class) choice = length-set table.rows class _

told_rows : (table : Table) (class : Option ℕ) (put : Option Put)
    → length (table_after table class put).rows ≡ length table.rows
told_rows table None put = refl
told_rows table (Some k) None = refl
told_rows table (Some k) (Some (At position)) = length-set table.rows k _
told_rows table (Some k) (Some (Dropped number accepted pulled cause)) = refl

after_rows : (table : Table) (t : Placement)
    → length (after_turn table t).rows ≡ length table.rows
after_rows table t =
    told_rows (weighed table t.chosen.choice.class t.chosen.choice) t.chosen.choice.class t.put
    ∙ weighed_rows table t.chosen.choice.class t.chosen.choice

pub fold_rows : (table : Table) (ts : List Placement)
    → length (fold after_turn table ts).rows ≡ length table.rows
fold_rows table [] = refl
fold_rows table (t ∷ ts) = fold_rows (after_turn table t) ts ∙ after_rows table t

pub since_same : (size : ℕ → ℕ) (k : ℕ) → size k ≡ size (suc k)
    → since_resize size (suc k) ≡ since_resize size k
unfolding since_resize
since_same size k e = if_same (size k) (size (suc k)) (since_resize size k) (suc k) e

since_other : (size : ℕ → ℕ) (k : ℕ) → size k ≢ size (suc k)
    → since_resize size (suc k) ≡ suc k
unfolding since_resize
since_other size k ne = if_other (size k) (size (suc k)) (since_resize size k) (suc k) ne

-- these are the sizes of the turns: the flow words that they have read
abbrev pub AreSizes : (ℕ → ℕ) → List PolledTurn → Type 0
AreSizes size [] = Unit {0}
AreSizes size (s ∷ ss) = (size (length ss) ≡ s.reading.flows) × AreSizes size ss

module _ (first start : ℕ) (size : ℕ → ℕ) where
  -- the table told of the turns since one, after these turns
  abbrev told : ℕ → ℕ → List PolledTurn → Table
  told flows since ss =
      fold after_turn (cleared (rounded_up (flows_in flows)) start false)
      (map as_told (drop since (oldest_first (turns_in ss))))

  started : (ss : List PolledTurn) → (polled_table first start ss).start ≡ start
  started [] = refl
  started (s ∷ ss) =
      after_start s.turn.chosen.choice.class (Some s.turn.answer) s.turn.chosen.choice
      (table_of_turn first start ss s)
      ∙ by_word (started ss) (last_flows first start ss == s.reading.flows)
    where
      by_word : (polled_table first start ss).start ≡ start → (b : Bool)
          → (if b then polled_table first start ss
          else cleared (rounded_up (flows_in s.reading.flows))
          (polled_table first start ss).start false).start ≡ start
      by_word same true = same
      by_word same false = same

  told_none : (flows since : ℕ) (ss : List PolledTurn) → length ss ≤ since
      → told flows since ss ≡ cleared (rounded_up (flows_in flows)) start false
  told_none flows since ss le =
      let n = length_turned (turns_in ss) in
      let m = length-map ss (λ (s : PolledTurn). s.turn) in
      ap (λ zs. fold after_turn (cleared (rounded_up (flows_in flows)) start false)
      (map as_told zs))
      (drop_all since (oldest_first (turns_in ss)) (omega (arith, n, m, le)))

  -- the table of a turn with this flow word, after these turns
  pub own_table : (ss : List PolledTurn) (flows : ℕ) → AreSizes size ss → size (length ss) ≡ flows
      → refreshed (last_flows first start ss) flows (polled_table first start ss)
      ≡ told flows (since_resize size (length ss)) ss
  own_table [] flows sizes is =
      dite (ℕ_discrete first flows)
      (λ e.
      if_same first flows (cleared (rounded_up (flows_in first)) start false) _ e
      ∙ ap (λ n. cleared (rounded_up (flows_in n)) start false) e)
      (λ ne.
      if_other first flows (cleared (rounded_up (flows_in first)) start false) _ ne)
      ∙ sym (told_none flows (since_resize size 0) [] (omega arith))
  own_table (s ∷ ss) flows sizes is =
      let k : ℕ = length ss in
      let le = (since_is_last_change size k).0 in
      dite (ℕ_discrete s.reading.flows flows)
      (λ e.
      if_same s.reading.flows flows (polled_table first start (s ∷ ss)) _ e
      ∙ (ap (λ z. after_turn z (as_told s.turn)) (own_table ss s.reading.flows sizes.1 sizes.0)
      ∙ (sym (since_more (cleared (rounded_up (flows_in s.reading.flows)) start false)
      (since_resize size k) (turns_in ss) s.turn
      (let m = length-map ss (λ (s : PolledTurn). s.turn) in omega (arith, le, m)))
      ∙ (ap (λ n. told n (since_resize size k) (s ∷ ss)) e
      ∙ ap (λ n. told flows n (s ∷ ss)) (sym (since_same size k (sizes.0 ∙ (e ∙ sym is))))))))
      (λ ne.
      if_other s.reading.flows flows (polled_table first start (s ∷ ss)) _ ne
      ∙ (ap (λ n. cleared (rounded_up (flows_in flows)) n false) (started (s ∷ ss))
      ∙ (sym (told_none flows (suc k) (s ∷ ss) (omega arith))
      ∙ ap (λ n. told flows n (s ∷ ss))
      (sym (since_other size k (λ e. ne (sym sizes.0 ∙ (e ∙ is))))))))

module _ (polled : List PolledTurn) (size : ℕ → ℕ)
    (size_is : (newer : List PolledTurn) (s : PolledTurn) (older : List PolledTurn)
    → polled ≡ newer ++ s ∷ older → size (length older) ≡ s.reading.flows) where
  pub sizes : (newer ss : List PolledTurn) → polled ≡ newer ++ ss → AreSizes size ss
  sizes newer [] are = tt
  sizes newer (s ∷ ss) are = (
    size_is newer s ss are,
    sizes (newer ++ s ∷ []) ss (are ∙ sym (append_assoc newer (s ∷ []) ss)),
  )

  -- the table of a turn is the one that was told of the turns since its size changed
  pub table_is : (first start : ℕ) (newer : List PolledTurn) (s : PolledTurn)
      (older : List PolledTurn) → polled ≡ newer ++ s ∷ older
      → table_of_turn first start older s
      ≡ told first start size s.reading.flows (since_resize size (length older)) older
  table_is first start newer s older are =
      own_table first start size older s.reading.flows
      (sizes (newer ++ s ∷ []) older (are ∙ sym (append_assoc newer (s ∷ []) older)))
      (size_is newer s older are)

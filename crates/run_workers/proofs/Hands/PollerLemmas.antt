-- A poller's record after a packet was steered.
use Rattle.run_workers.proofs.Names.{◌≡◌, ◌≤◌, ℕ, ◌+◌, [], ◌∷◌, ◌++◌, Option, None, Some, refl, sym}
use Rattle.run_workers.proofs.Names.{ap, subst, ◌∙◌, false, length, length-append, arith, Journal}
use Rattle.run_workers.proofs.Names.{grown, Chosen, Put, At, Dropped, table_after, IsClassOf, Table}
use Rattle.run_workers.proofs.Names.{HasLanesBelow, IsPoller, count_after, Poller}
use Rattle.run_workers.proofs.Hands.ChoiceLemmas.{told_below}

told_exact : (table : Table) (class : Option ℕ) (answer : Put)
    → (table_after table class (Some answer)).exact ≡ table.exact
told_exact table None answer = refl
told_exact table (Some class) (At position) = refl
told_exact table (Some class) (Dropped number accepted pulled cause) = refl

one_more : (count : ℕ) (answer : Put) → count_after count answer ≤ count + 1
one_more count (At position) = omega arith
one_more count (Dropped number accepted pulled cause) = omega arith

-- p before, a after the choice and b after the put
pub steered_is : (cpus : ℕ) (p a b : Poller) (class : Option ℕ) (answer : Put) (x : Chosen)
    (journal : Journal Chosen) → IsPoller cpus p → a.accepted ≡ p.accepted
    → a.choices ≡ p.choices → HasLanesBelow cpus a.table → a.table.exact ≡ false
    → IsClassOf a.table class → b.table ≡ table_after a.table class (Some answer)
    → b.accepted ≡ count_after a.accepted answer → b.choices ≡ a.choices
    → journal ≡ grown b.choices x
    → IsPoller cpus (record b { hand = None; choices = journal })
steered_is cpus p a b class answer x journal is count choices below exact inside told counted
    kept pushed =
    let items : journal.items ≡ p.choices.items ++ x ∷ [] =
    ap (λ (j : Journal Chosen). j.items) pushed
    ∙ (ap (λ (j : Journal Chosen). j.items ++ x ∷ []) (kept ∙ choices)) in
    let longer : length journal.items ≡ length p.choices.items + 1 =
    ap length items ∙ length-append p.choices.items (x ∷ []) in
    let more : count_after a.accepted answer ≤ a.accepted + 1 = one_more a.accepted answer in
    let low = is.count in
    record {
      few = subst (λ (j : Journal Chosen). j.room ≤ 262144)
          (sym (pushed ∙ ap (λ (j : Journal Chosen). grown j x) (kept ∙ choices))) is.few;
      hand = tt;
      room = tt;
      lanes = subst (HasLanesBelow cpus) (sym told)
          (told_below cpus a.table class answer inside below);
      rounded = ap (λ (t : Table). t.exact) told ∙ (told_exact a.table class answer ∙ exact);
      count = omega (arith, longer, more, counted, count, low);
    }

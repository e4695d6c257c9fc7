-- Choices by own tables are choices by the lists.
use Rattle.std.proofs.lemmas.List.{drop-map, take-map}
use Rattle.std.specs.List.Sorted.{IsNonDecreasingBy}
use Rattle.std.proofs.lemmas.Option.{get_or_from_slice_get, slice_get_within}
use Rattle.steer_base.specs.Choices.{by_entry, migrate}
use Rattle.steer_base.specs.Entries.{entry}
use Rattle.steer_base.specs.declared.choice.Entry.{Entry}
use Rattle.backlog.specs.Offers.{AllExplained}
use Rattle.dev_flow_table.specs.Tables.{entries}
use Rattle.dev_flow_table.specs.Walks.{since_resize}
use Rattle.history.specs.Lists.{no_lane}
use Rattle.board_api.specs.Laws.Puts.{DropsHaveCauses}
use Rattle.board_api.specs.Laws.Puts as puts
use Rattle.hop_delivery.specs.Closings.TurnReads.{before_seen, class_seen, goal_seen, shape_seen}
use Rattle.steer_model.specs.Good.Drops as good
use Rattle.steer_model.specs.State.Setup.{packet_hash}
use Rattle.run_coupling.specs.Laws.Drops.{DropsFollow}
use Rattle.run_coupling.specs.Laws.OwnTables.{TablesAreEntries, TablesRule}
use Rattle.run_coupling.specs.Coupling.OwnTables.{table_before}
use Rattle.run_coupling.specs.Coupling.Turns.{IsTurnOf}
use Rattle.run_coupling.proofs.Names.{◌≡◌, ℕ, zero, suc, ◌+◌, ◌≤◌, Bool, List, [], ◌∷◌, ◌++◌}
use Rattle.run_coupling.proofs.Names.{Option, Some, None, length, map, take, drop, All, sym, refl}
use Rattle.run_coupling.proofs.Names.{ap, ◌∙◌, subst, arith, All-cons, All-from_get_or, All-head}
use Rattle.run_coupling.proofs.Names.{All-nil, All-tail, slice_get, LaneDrop, has, lane_at}
use Rattle.run_coupling.proofs.Names.{nth_step, BoardSizes, BoardStep, nth-inside, nth-last}
use Rattle.run_coupling.proofs.Names.{nth-old, ListsAreCounted, BoardLists, turns_of, Turn}
use Rattle.run_coupling.proofs.Names.{accepted_left, setup_in, oldest_first}

migrate-entries : (class want : Option ℕ) (desired : ℕ) (xs ys : ℕ → Entry) (head : ℕ → ℕ)
    (online : ℕ → Bool) → ((k : ℕ) → class ≡ Some k → xs k ≡ ys k)
    → migrate class want desired xs head online ≡ migrate class want desired ys head online
migrate-entries None want desired xs ys head online same = refl
migrate-entries (Some k) want desired xs ys head online same =
    ap (λ (e : Entry). by_entry k want desired e.tail head online e.lane) (same k refl)

module _ {A : Type 0} where
  all-nth : (P : A → Type 0) (xs : List A) → ((k : ℕ) (x : A) → nth_step xs k ≡ Some x → P x)
      → All P xs
  all-nth P [] each = All-nil P
  all-nth P (x ∷ xs) each =
      All-cons P x xs (each (length xs) x (nth-last x xs))
      (all-nth P xs (λ k y at. each k y (nth-old (x ∷ []) xs k (nth-inside xs k y at) ∙ at)))

  all-append : (P : A → Type 0) (xs ys : List A) → All P xs → All P ys → All P (xs ++ ys)
  all-append P [] ys a b = b
  all-append P (x ∷ xs) ys a b =
      All-cons P x (xs ++ ys) (All-head P x xs a) (all-append P xs ys (All-tail P x xs a) b)

  all-turned : (P : A → Type 0) (xs : List A) → All P xs → All P (oldest_first xs)
  all-turned P [] all = All-nil P
  all-turned P (x ∷ xs) all =
      all-append P (oldest_first xs) (x ∷ []) (all-turned P xs (All-tail P x xs all))
      (All-cons P x [] (All-head P x xs all) (All-nil P))

  all-some : (P : A → Type 0) (n : ℕ) (xs : List A) → All P xs → All P (take n xs)
  all-some P zero [] all = All-nil P
  all-some P zero (x ∷ xs) all = All-nil P
  all-some P (suc n) [] all = All-nil P
  all-some P (suc n) (x ∷ xs) all =
      All-cons P x (take n xs) (All-head P x xs all) (all-some P n xs (All-tail P x xs all))

  all-rest : (P : A → Type 0) (n : ℕ) (xs : List A) → All P xs → All P (drop n xs)
  all-rest P zero [] all = all
  all-rest P zero (x ∷ xs) all = all
  all-rest P (suc n) [] all = All-nil P
  all-rest P (suc n) (x ∷ xs) all = all-rest P n xs (All-tail P x xs all)

pub tables_rule : (about : BoardSizes) (own : ℕ → List BoardStep) (lists : BoardLists)
    → TablesAreEntries about own lists → TablesRule about own lists
tables_rule about own lists law t r seen p i u turns_are journal goal_online b =
    let accepted : ℕ → List ℕ = accepted_left lists in
    let n : ℕ = since_resize (shape_seen about accepted t r seen p) i in
    let us : List Turn = drop n (take i (oldest_first (turns_of t p))) in
    let all : All (IsTurnOf t p) us =
    all-rest (IsTurnOf t p) n (take i (oldest_first (turns_of t p)))
    (all-some (IsTurnOf t p) i (oldest_first (turns_of t p))
    (all-turned (IsTurnOf t p) (turns_of t p)
    (all-nth (IsTurnOf t p) (turns_of t p) (λ k x at. (k, at))))) in
    let cs : map (λ (u : Turn). u.chosen) us ≡ before_seen about accepted t r seen p i =
    sym (ap (λ zs. drop n (take i zs)) journal
    ∙ (ap (drop n) (take-map (λ (u : Turn). u.chosen) i (oldest_first (turns_of t p)))
    ∙ drop-map (λ (u : Turn). u.chosen) n (take i (oldest_first (turns_of t p))))) in
    let same : (k : ℕ) → class_seen about accepted t r seen p i u ≡ Some k
    → entries (table_before about.start t r seen b.count b.exact p i) k
    ≡ entry about.start accepted (before_seen about accepted t r seen p i) k =
    λ k is. (
    law t turns_are p b.count b.exact us k all (b.rows k is)
    ∙ ap (λ zs. entry about.start accepted zs k) cs) in
    record {
      head = b.head;
      rule =
          b.rule ∙ migrate-entries (class_seen about accepted t r seen p i u) u.chosen.choice.want
          (goal_seen about accepted t r seen p i u)
          (entries (table_before about.start t r seen b.count b.exact p i))
          (entry about.start accepted (before_seen about accepted t r seen p i)) (λ _. b.head)
          (r.online (seen i)) same;
      loaded = λ k l is lane head.
          b.loaded k l is (ap (λ (e : Entry). e.lane) (same k is) ∙ lane) head;
      goal_online = goal_online;
    }

-- ---- drops

next-two : (xs : List LaneDrop) (k : ℕ) (d e : LaneDrop) → slice_get xs k ≡ Some d
    → slice_get xs (k + 1) ≡ Some e → IsNonDecreasingBy (λ (d : LaneDrop). d.accepted) xs
    → IsNonDecreasingBy (λ (d : LaneDrop). d.pulled) xs
    → (d.accepted ≤ e.accepted) × (d.pulled ≤ e.pulled)
next-two xs k d e at next accepted pulled =
    let inside = slice_get_within xs (k + 1) e next in
    let x = get_or_from_slice_get xs k d d at in
    let y = get_or_from_slice_get xs (k + 1) e d next in
    let le : k ≤ k + 1 = omega arith in
    subst (λ (z : LaneDrop × LaneDrop). (z.0.accepted ≤ z.1.accepted) × (z.0.pulled ≤ z.1.pulled))
    (λ i. (x i, y i)) (accepted k (k + 1) d le inside, pulled k (k + 1) d le inside)

pub drops_follow : (about : BoardSizes) (own : ℕ → List BoardStep) (lists : BoardLists)
    → DropsHaveCauses about own lists → puts.DropsRise about own lists
    → ListsAreCounted about own lists → DropsFollow about own lists
drops_follow about own lists causes rise counted i h limits hashes =
    record {
      causes = λ c.
          subst (AllExplained (packet_hash (setup_in i)))
          (λ j. record {
            accepted = (lane_at (sym limits.lanes j) c).accepted;
            offers = [];
            drops = (lane_at (sym limits.lanes j) c).drops;
            pulled = (lane_at (sym limits.lanes j) c).pulled;
            limit = limits.limit j;
            room = limits.room j;
            start = limits.start j;
            limited = has (limits.limited j) c;
          })
          (causes (packet_hash (setup_in i)) hashes c);
      counts =
          subst (All good.DropsRise) (sym limits.lanes)
          (All-from_get_or good.DropsRise lists.lanes no_lane (λ l less.
          (let n = counted.lanes in
          let a = rise l (omega arith) in
          record {
            accepted = a.accepted_within;
            pulled = a.pulled_within;
            rise = λ k d e at next.
                next-two (lane_at lists.lanes l).drops k d e at next a.accepted a.pulled;
          })));
    }

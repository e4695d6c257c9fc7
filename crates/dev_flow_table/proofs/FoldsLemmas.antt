-- The entries of a table that is told of each choice and each put.
use Rattle.std.proofs.Common.{ℕ, zero, suc, ◌≡◌, ◌<◌, Bool, true, false, cond, List, [], ◌∷◌, ◌++◌}
use Rattle.std.proofs.Common.{Option, Some, None, map, length, refl, sym, ap, ◌∙◌, inl, inr, get_or}
use Rattle.std.proofs.Common.{set, replicate, append_assoc}
use Rattle.std.specs.Prelude.{◌==◌, if◌then◌else◌}
use Rattle.std.specs.List.{All, fold}
use Rattle.std.proofs.Math.ListN.{length-replicate, length-set}
use Rattle.std.proofs.lemmas.Bool.{cases_Bool, cases_eq, eq-eqb, ne_eqb}
use Rattle.std.proofs.lemmas.List.{append-nil, get_or-set_other, get_or-set_same}
use Rattle.std.proofs.lemmas.List.Elements.{All-head, All-tail}
use Rattle.steer_base.specs.Choices.{has_moved}
use Rattle.steer_base.specs.Counters.{number}
use Rattle.steer_base.specs.Entries.{current_lane, entry, is_class, of_class, position}
use Rattle.steer_base.specs.Entries.{recorded_count}
use Rattle.steer_base.specs.declared.choice.Choice.{Choice}
use Rattle.steer_base.specs.declared.choice.Chosen.{Chosen}
use Rattle.steer_base.specs.declared.choice.Entry.{Entry}
use Rattle.steer_base.specs.declared.put.Put.{Put}
use Rattle.steer_base.specs.declared.put.Put.TheVariants.{At, Dropped}
use Rattle.steer_base.proofs.EntriesLemmas.{current_lane-push, of_class-no, of_class-yes}
use Rattle.steer_base.proofs.EntriesLemmas.{recorded_count-accept, recorded_count-push}
use Rattle.dev_flow_table.specs.Folds.{Agrees, IsPutAt, TableIsEntries, Placement, after_turn}
use Rattle.dev_flow_table.specs.Folds.{table_after_put}
use Rattle.dev_flow_table.specs.Folds.{table_after}
use Rattle.dev_flow_table.specs.Tables.{Table, cleared, entries, entry_after, unset, weighed}

-- ---- one entry

-- an entry after a put
abbrev put_in : Option Put → Entry → Entry
put_in None e = e
put_in (Some (At position)) e = record e { tail = position }
put_in (Some (Dropped number accepted pulled cause)) e = e

abbrev entry_of : Option ℕ → ℕ → Entry
entry_of lane tail = record { lane = lane; tail = tail }

module _ (start : ℕ) (accepted : ℕ → List ℕ) where
  -- the entry that choices of one class leave
  abbrev left_by : List Chosen → Entry
  left_by cs = entry_of (current_lane cs) (number start (recorded_count accepted cs))

  not_put : (cs : List Chosen) (c : Chosen) → position accepted c ≡ None → entry_after start
      (left_by cs) c.choice ≡ left_by (cs ++ c ∷ [])
  not_put cs c none =
      rw (current_lane-push cs c) (rw (recorded_count-push accepted cs c none)
      (elim (has_moved c.choice.why) as (λ b. entry_of (Some c.choice.lane)
      (if b then number start 0 else number start (recorded_count accepted cs))
      ≡ entry_of (Some c.choice.lane) (number start (cond b 0 (recorded_count accepted cs))))
      [ true ↦ refl | false ↦ refl ]))

  one : (cs : List Chosen) (c : Chosen) (put : Option Put) → IsPutAt start (position accepted c) put
      → put_in put (entry_after start (left_by cs) c.choice) ≡ left_by (cs ++ c ∷ [])
  one cs c None none = not_put cs c none
  one cs c (Some (At shown)) (n, place, is) = rw (current_lane-push cs c)
      (rw (recorded_count-accept accepted cs c n place) (rw is refl))
  one cs c (Some (Dropped number' taken pulled cause)) none = not_put cs c none

-- ---- one row of a table

row : (rows : List Entry) (c k : ℕ) (d : Entry) (f : Entry → Entry) → k < length rows
    → get_or (set rows c (f (get_or rows c d))) k d ≡ cond (k == c) (f (get_or rows k d))
    (get_or rows k d)
row rows c k d f in' =
    elim (cases_eq k c) [
      | inl e ↦ rw (eq-eqb k c e) (rw e (get_or-set_same rows c (f (get_or rows c d)) d
          (rw e at in')))
      | inr ne ↦ rw (ne_eqb k c ne) (get_or-set_other rows c k (f (get_or rows c d)) d ne)
    ]

twice : (b : Bool) (f g : Entry → Entry) (e : Entry) → cond b (g (cond b (f e) e))
    (cond b (f e) e) ≡ cond b (g (f e)) e
twice true f g e = refl
twice false f g e = refl

-- a table with one row changed
told-row : (t : Table) (class k : ℕ) (choice : Choice) (put : Option Put) → k < length t.rows
    → entries (table_after_put (weighed t (Some class) choice) class put) k
    ≡ cond (k == class) (put_in put (entry_after t.start (entries t k) choice)) (entries t k)
told-row t class k choice None in' = row t.rows class k (unset t.start)
    (λ e. entry_after t.start e choice) in'
told-row t class k choice (Some (Dropped number' accepted pulled cause)) in' =
    row t.rows class k (unset t.start) (λ e. entry_after t.start e choice) in'
told-row t class k choice (Some (At position)) in' =
    let f : Entry → Entry = λ e. entry_after t.start e choice in
    let g : Entry → Entry = λ (e : Entry). record e { tail = position } in
    let d : Entry = unset t.start in
    let rows : List Entry = set t.rows class (f (get_or t.rows class d)) in
    let long : k < length rows = rw length-set in' in
    let before = row t.rows class k d f in' in
    row rows class k d g long
    ∙ ap (λ (e : Entry). cond (k == class) (g e) e) before
    ∙ twice (k == class) f g (get_or t.rows k d)

turn-row : (t : Table) (class : Option ℕ) (k : ℕ) (choice : Choice) (put : Option Put)
    → k < length t.rows
    → entries (table_after (weighed t class choice) class put) k
    ≡ cond (is_class k class) (put_in put (entry_after t.start (entries t k) choice)) (entries t k)
turn-row t None k choice put in' = refl
turn-row t (Some class) k choice put in' = told-row t class k choice put in'

-- ---- what no turn changes

told-start : (t : Table) (class : ℕ) (put : Option Put)
    → (table_after_put t class put).start ≡ t.start
told-start t class None = refl
told-start t class (Some (At position)) = refl
told-start t class (Some (Dropped number' accepted pulled cause)) = refl

told-long : (t : Table) (class : ℕ) (put : Option Put)
    → length (table_after_put t class put).rows ≡ length t.rows
told-long t class None = refl
told-long t class (Some (At position)) = length-set _ _ _
told-long t class (Some (Dropped number' accepted pulled cause)) = refl

turn-start : (t : Table) (class : Option ℕ) (choice : Choice) (put : Option Put)
    → (table_after (weighed t class choice) class put).start ≡ t.start
turn-start t None choice put = refl
turn-start t (Some class) choice put = told-start (weighed t (Some class) choice) class put

turn-long : (t : Table) (class : Option ℕ) (choice : Choice) (put : Option Put)
    → length (table_after (weighed t class choice) class put).rows ≡ length t.rows
turn-long t None choice put = refl
turn-long t (Some class) choice put = told-long (weighed t (Some class) choice) class put
    ∙ length-set _ _ _

-- ---- all turns

module _ (start k : ℕ) (accepted : ℕ → List ℕ) where
  next : (t : Table) (cs : List Chosen) (turn : Placement) → t.start ≡ start → k < length t.rows
      → entries t k ≡ entry start accepted cs k
      → Agrees start accepted turn → entries (after_turn t turn) k ≡ entry start accepted
      (cs ++ turn.chosen ∷ []) k
  next t cs turn begun in' is agrees =
      let c : Chosen = turn.chosen in
      let now : entries (after_turn t turn) k ≡ cond (is_class k c.choice.class)
      (put_in turn.put (entry_after start (entry start accepted cs k) c.choice))
      (entry start accepted cs k) =
      turn-row t c.choice.class k c.choice turn.put in'
      ∙ ap (λ (e : Entry). cond (is_class k c.choice.class)
      (put_in turn.put (entry_after t.start e c.choice)) e) is
      ∙ ap (λ (n : ℕ). cond (is_class k c.choice.class)
      (put_in turn.put (entry_after n (entry start accepted cs k) c.choice))
      (entry start accepted cs k)) begun in
      elim (cases_Bool (is_class k c.choice.class)) [
        | inl mine ↦ (
            now ∙ ap (λ (b : Bool). cond b
            (put_in turn.put (entry_after start (entry start accepted cs k) c.choice))
            (entry start accepted cs k)) mine
            ∙ one start accepted (of_class k cs) c turn.put agrees
            ∙ sym (ap (left_by start accepted) (of_class-yes k cs c mine)))
        | inr other ↦ (
            now ∙ ap (λ (b : Bool). cond b
            (put_in turn.put (entry_after start (entry start accepted cs k) c.choice))
            (entry start accepted cs k)) other
            ∙ sym (ap (left_by start accepted) (of_class-no k cs c other)))
      ]

  all : (t : Table) (cs : List Chosen) (turns : List Placement) → t.start ≡ start
      → k < length t.rows
      → entries t k ≡ entry start accepted cs k
      → All (Agrees start accepted) turns
      → entries (fold after_turn t turns) k ≡ entry start accepted
      (cs ++ map (λ t. t.chosen) turns) k
  all t cs [] begun in' is agree = is ∙ sym (ap (λ (l : List Chosen). entry start accepted l k)
      (append-nil cs))
  all t cs (turn ∷ turns) begun in' is agree =
      let c : Chosen = turn.chosen in
      let same = turn-start t c.choice.class c.choice turn.put in
      let long = turn-long t c.choice.class c.choice turn.put in
      all (after_turn t turn) (cs ++ c ∷ []) turns (same ∙ begun) (rw long in')
      (next t cs turn begun in' is (All-head (Agrees start accepted) turn turns agree))
      (All-tail (Agrees start accepted) turn turns agree)
      ∙ ap (λ (l : List Chosen). entry start accepted l k) (append_assoc cs (c ∷ [])
      (map (λ t. t.chosen) turns))

get_or-replicate : (n k : ℕ) (x : Entry) → get_or (replicate n x) k x ≡ x
get_or-replicate zero k x = refl
get_or-replicate (suc n) zero x = refl
get_or-replicate (suc n) (suc k) x = get_or-replicate n k x

pub table_is_entries : TableIsEntries
table_is_entries start count exact accepted turns class agree in' =
    all start class accepted (cleared count start exact) [] turns refl (rw length-replicate in')
    (get_or-replicate count class (unset start)) agree

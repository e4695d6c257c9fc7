-- The flow tables hold the entries of the lists after each event that changes these.
use Rattle.std.proofs.Common.{ℕ, ◌+◌, ◌<◌, ◌≡◌, true, false, cond, List, [], ◌∷◌, ◌++◌, Option}
use Rattle.std.proofs.Common.{Some, None, length, refl, ap, ◌∙◌, sym, subst, arith, inl, inr}
use Rattle.std.proofs.Common.{get_or, set, take, drop, replicate, eqb}
use Rattle.std.specs.Prelude.{slice_index, slice_index_or}
use Rattle.std.proofs.Math.ListN.{length-replicate, length-set}
use Rattle.std.proofs.Math.Seq.{drop-length}
use Rattle.std.proofs.lemmas.Bool.{cases_eq, cases_Bool, eq-eqb, ne_eqb}
use Rattle.std.proofs.lemmas.List.{drop-append-le, get_or-replicate, get_or-set_other}
use Rattle.std.proofs.lemmas.List.{get_or-set_same, get_or-take, length-take-le, set-get_or}
use Rattle.std.proofs.lemmas.List.Elements.{All-drop, All-filter, All-from_get_or}
use Rattle.backlog.specs.Puts.{answer_by}
use Rattle.dev_flow_table.specs.Tables.{IsClassOf, Table, entries, unset, weighed}
use Rattle.steer_base.specs.Choices.{by_entry, has_moved, migrate}
use Rattle.steer_base.specs.Counters.{number}
use Rattle.steer_base.specs.Entries.{current_lane, entry, is_class, of_class, position}
use Rattle.steer_base.specs.Entries.{recorded_count}
use Rattle.steer_base.specs.Sets.{has}
use Rattle.steer_base.specs.declared.choice.Choice.{Choice}
use Rattle.steer_base.specs.declared.choice.Chosen.{Chosen}
use Rattle.steer_base.specs.declared.choice.Entry.{Entry}
use Rattle.steer_base.specs.declared.cpu_mask.CpuMask.{CpuMask}
use Rattle.steer_base.specs.declared.put.DropCause.{DropCause}
use Rattle.steer_base.specs.declared.put.Put.TheVariants.{At, Dropped}
use Rattle.hop_model.specs.Events.{IsClassBelow}
use Rattle.hop_core.specs.FlowTables.{FlowTables, IsSet, LanesBelow, noted, table_at, with_rows}
use Rattle.hop_model.specs.Hop.{HopState, accepted_at, choice_of, choices_of, chose, head_at}
use Rattle.hop_model.specs.Hop.{in_hand, lane_of, next_of, nobody, placed_of, recent, resized}
use Rattle.hop_model.specs.Hop.{retired_at, since_of, taken_of}
use Rattle.hop_model.specs.Sound.{Sound}
use Rattle.hop_core.specs.Whole.{Tabled}
use Rattle.hop_core.proofs.Choices.{put_positions}
use Rattle.steer_base.proofs.EntriesLemmas.{current_lane-push, place_in-new, recorded_count-accept}
use Rattle.steer_base.proofs.EntriesLemmas.{recorded_count-push, recorded_count-same}
use Rattle.hop_core.proofs.Gathered.{Added}
use Rattle.hop_core.proofs.Lists.{Changed, Changed-set, chosen-push_front, chosen-push_last}
use Rattle.hop_core.proofs.Lists.{front_and_last, length-push, place_in-none}
use Rattle.hop_core.proofs.ProducerSteps.{in_hand_absent, new_absent}
use Rattle.hop_core.proofs.PutSteps.{put_as}
use Rattle.hop_core.proofs.Standing.{current_lane-in}
use Rattle.steer_base.proofs.RuleLemmas.{by_entry-class}
use Rattle.hop_core.proofs.Stands.{positions}
use Rattle.steer_base.proofs.EntriesLemmas.{of_class-no, of_class-yes}

abbrev pub entry_with : Option ℕ → ℕ → Entry
entry_with lane tail = record { lane = lane; tail = tail }

-- a class below the count is one of the table's
pub class-of_table : (table : Table) (count : ℕ) (class : Option ℕ) → length table.rows ≡ count
    → IsClassBelow count class → IsClassOf table class
class-of_table table count None long ok = tt
class-of_table table count (Some k) long ok = rw long ok

-- ---- a put

noted-dropped : (table : Table) (class : Option ℕ) (number accepted pulled : ℕ) (cause : DropCause)
    → noted table class (Dropped number accepted pulled cause) ≡ table
noted-dropped table None n a p cause = refl
noted-dropped table (Some k) n a p cause = refl

noted-long : (table : Table) (class : Option ℕ) (n : ℕ)
    → length (noted table class (At n)).rows ≡ length table.rows
noted-long table None n = refl
noted-long table (Some k) n = length-set table.rows k (record (entries table k) { tail = n })

noted-entries : (table : Table) (class : Option ℕ) (n k : ℕ) → IsClassOf table class
    → slice_index_or (noted table class (At n)).rows k (unset table.start) ≡ cond (is_class k class)
    (record (entries table k) { tail = n }) (entries table k)
noted-entries table None n k ok = refl
noted-entries table (Some j) n k ok =
    elim (cases_eq k j) [
      | inl same ↦ rw (same, eq-eqb j j refl) (get_or-set_same table.rows j
          (record (entries table j) { tail = n }) (unset table.start) ok)
      | inr ne ↦ rw (ne_eqb k j ne) (get_or-set_other table.rows j k
          (record (entries table j) { tail = n }) (unset table.start) ne)
    ]

-- the packet in hand is of the last choice
recent-last : (s : HopState) (p : ℕ) → placed_of s p < length (choices_of s p) → Sound s
    → recent s p ≡ drop (since_of s p) (take (placed_of s p) (choices_of s p)) ++ in_hand s p ∷ []
recent-last s p more h =
    let c : Chosen = in_hand s p in
    let one = h.hands.one p in let ch = h.hands.chosen p in let past = h.hands.past p in
    let front : List Chosen = take (placed_of s p) (choices_of s p) in
    let is : choices_of s p ≡ front ++ c ∷ [] = front_and_last (choices_of s p)
    (placed_of s p) nobody (omega arith) in
    let len : length front ≡ placed_of s p = length-take-le (placed_of s p) (choices_of s p)
    (omega arith) in
    rw (← is) at (drop-append-le (since_of s p) front (c ∷ []) (omega arith))

-- the entries of the lists after an accepted put
entry-accept : (s : HopState) (p : ℕ) → Sound s → placed_of s p < length (choices_of s p)
    → (new : ℕ → List ℕ)
    → Added (accepted_at s.bare) new (in_hand s p).choice.lane (in_hand s p).id → (q k : ℕ)
    → entry s.fixed.start new (recent s q) k
    ≡ cond (eqb q p) (cond (is_class k (in_hand s p).choice.class)
    (entry_with (current_lane (of_class k (recent s q)))
    (number s.fixed.start (length (accepted_at s.bare (in_hand s p).choice.lane) + 1)))
    (entry s.fixed.start (accepted_at s.bare) (recent s q) k))
    (entry s.fixed.start (accepted_at s.bare) (recent s q) k)
entry-accept s p h more new added q k =
    let c : Chosen = in_hand s p in
    let old : ℕ → List ℕ = accepted_at s.bare in
    let n : ℕ = length (old c.choice.lane) + 1 in
    elim (cases_eq q p) [
      | inr ne ↦ (
          let same = recorded_count-same old new (of_class k (recent s q))
          (positions old new (choices_of s q) (since_of s q) k
          (λ i iq. put_positions s p h more new added q i iq (λ e. absurd (ne e)))) in
          rw (ne_eqb q p ne) (ap (λ t. entry_with (current_lane (of_class k (recent s q)))
          (number s.fixed.start t)) same))
      | inl e ↦ rw (e, eq-eqb p p refl) (
          let one = h.hands.one p in let ch = h.hands.chosen p in let past = h.hands.past p in
          let front : List Chosen = take (placed_of s p) (choices_of s p) in
          let len : length front ≡ placed_of s p = length-take-le (placed_of s p) (choices_of s p)
          (omega arith) in
          let cell : recent s p ≡ drop (since_of s p) front ++ c ∷ [] = recent-last s p more h in
          let absent : position old c ≡ None = place_in-none c.id (old c.choice.lane)
          (in_hand_absent s old h h.puts p (placed_of s p) (omega arith) more c.choice.lane) in
          let here : position new c ≡ Some n =
          rw added.here (place_in-new c.id (old c.choice.lane) absent) in
          let mine = positions old new front (since_of s p) k
          (λ i lt. rw (get_or-take (placed_of s p) (choices_of s p) i nobody (omega arith))
          (put_positions s p h more new added p i (omega arith) (λ e f. omega arith))) in
          elim (cases_Bool (is_class k c.choice.class)) [
            | inl y ↦ (
                let cs : of_class k (recent s p) ≡ of_class k (drop (since_of s p) front) ++ c
                ∷ [] = rw (cell, of_class-yes k (drop (since_of s p) front) c y) refl in
                let tail : recorded_count new (of_class k (recent s p)) ≡ n =
                rw cs (recorded_count-accept new (of_class k (drop (since_of s p) front)) c n
                here) in
                rw y (ap (λ t. entry_with (current_lane (of_class k (recent s p)))
                (number s.fixed.start t)) tail))
            | inr no' ↦ (
                let cs : of_class k (recent s p) ≡ of_class k (drop (since_of s p) front) =
                rw (cell, of_class-no k (drop (since_of s p) front) c no') refl in
                let tail : recorded_count new (of_class k (recent s p)) ≡ recorded_count old
                (of_class k (recent s p)) =
                rw cs (recorded_count-same old new (of_class k (drop (since_of s p) front))
                mine) in
                rw no' (ap (λ t. entry_with (current_lane (of_class k (recent s p)))
                (number s.fixed.start t)) tail))
          ])
    ]

pub Tabled-put : (s : HopState) (p : ℕ) (cause : Option DropCause) (bucket : Option ℕ)
    (tables : FlowTables) → p < length s.arrivals
    → placed_of s p < length (choices_of s p) → Sound s → Tabled s tables
    → Tabled (put_as s p cause bucket)
    (with_rows tables p (noted (table_at tables p) (in_hand s p).choice.class
    (answer_by cause (lane_of s.fixed s.bare (in_hand s p).choice.lane))).rows)
Tabled-put s p (Some cause) bucket tables named more h t =
    let c : Chosen = in_hand s p in
    let same = noted-dropped (table_at tables p) c.choice.class
    (length (slice_index_or s.bare.drops c.choice.lane []) + 1)
    (length (accepted_at s.bare c.choice.lane)) (slice_index s.bare.pulled c.choice.lane) cause in
    subst (λ table. Tabled (put_as s p (Some cause) bucket) (with_rows tables p table.rows))
    (sym same)
    (rw (set-get_or tables.rows p []) (record {
      start = t.start;
      many = t.many;
      long = t.long;
      rows = t.rows;
      classes = t.classes;
    }))
Tabled-put s p None bucket tables named more h t =
    let c : Chosen = in_hand s p in
    let n : ℕ = number s.fixed.start (length (accepted_at s.bare c.choice.lane) + 1) in
    let new : ℕ → List ℕ =
    λ d. get_or (set s.bare.accepted c.choice.lane (accepted_at s.bare c.choice.lane ++ c.id
    ∷ [])) d [] in
    let cha = Changed-set s.bare.accepted c.choice.lane (accepted_at s.bare c.choice.lane ++ c.id
    ∷ []) [] (h.lanes p (placed_of s p) more) in
    let added : Added (accepted_at s.bare) new c.choice.lane c.id =
    record { here = cha.here; there = cha.there } in
    let rows : List Entry = (noted (table_at tables p) c.choice.class (At n)).rows in
    let cht : Changed (λ q. slice_index_or tables.rows q [])
    (λ q. slice_index_or (set tables.rows p rows) q []) p rows =
    Changed-set tables.rows p rows [] (let m = t.many in omega arith) in
    let ok : IsClassOf (table_at tables p) c.choice.class =
    class-of_table (table_at tables p) (slice_index s.counts p) c.choice.class (t.long p)
    (t.classes p (placed_of s p) (h.hands.past p) more) in
    record {
      start = t.start;
      many = length-set tables.rows p rows ∙ t.many;
      long = λ q. elim (cases_eq q p) [
        | inl e ↦ rw (e, cht.here) (noted-long (table_at tables p) c.choice.class n ∙ t.long p)
        | inr ne ↦ rw (cht.there q ne) (t.long q)
      ];
      rows = λ q k kc. elim (cases_eq q p) [
        | inl e ↦ rw (e, entry-accept s p h more new added p k, eq-eqb p p refl, cht.here)
            (noted-entries (table_at tables p) c.choice.class n k ok
            ∙ elim (cases_Bool (is_class k c.choice.class)) [
              | inl y ↦ rw y (ap (λ r. entry_with r.lane n) (t.rows p k (rw e at kc)))
              | inr no' ↦ rw no' (t.rows p k (rw e at kc))
            ])
        | inr ne ↦ rw (entry-accept s p h more new added q k, ne_eqb q p ne, cht.there q ne)
            (t.rows q k kc)
      ];
      classes = t.classes;
    }

-- the class of the packet in hand is one of its table's
pub IsClassOf-in_hand : (s : HopState) (p : ℕ) (tables : FlowTables) → placed_of s p < length
    (choices_of s p) → Sound s → Tabled s tables
    → IsClassOf (table_at tables p) (in_hand s p).choice.class
IsClassOf-in_hand s p tables more h t =
    class-of_table (table_at tables p) (slice_index s.counts p) (in_hand s p).choice.class
    (t.long p) (t.classes p (placed_of s p) (h.hands.past p) more)

is_set-class : (s : HopState) (p : ℕ) (tables : FlowTables) (class : Option ℕ)
    → (in_hand s p).choice.class ≡ class
    → placed_of s p < length (choices_of s p) → Sound s → Tabled s tables
    → IsSet (table_at tables p) class
is_set-class s p tables None e more h t = tt
is_set-class s p tables (Some k) e more h t =
    let c : Chosen = in_hand s p in
    let front : List Chosen = drop (since_of s p) (take (placed_of s p) (choices_of s p)) in
    let y : is_class k c.choice.class ≡ true = rw (e, eq-eqb k k refl) refl in
    let cs : of_class k (recent s p) ≡ of_class k front ++ c ∷ [] =
    rw (recent-last s p more h, of_class-yes k front c y) refl in
    let ok : IsClassBelow (slice_index s.counts p) (Some k) =
    rw e at (t.classes p (placed_of s p) (h.hands.past p) more) in
    let lane : (entries (table_at tables p) k).lane ≡ Some c.choice.lane =
    ap (λ r. r.lane) (t.rows p k ok) ∙ ap current_lane cs ∙ current_lane-push
    (of_class k front) c in
    rw lane refl

-- the class of the packet in hand has an entry with a lane
pub IsSet-in_hand : (s : HopState) (p : ℕ) (tables : FlowTables) → placed_of s p < length
    (choices_of s p) → Sound s → Tabled s tables
    → IsSet (table_at tables p) (in_hand s p).choice.class
IsSet-in_hand s p tables more h t =
    is_set-class s p tables (in_hand s p).choice.class refl more h t

-- ---- a weigh

-- each current lane is a lane
pub LanesBelow-tables : (s : HopState) (p : ℕ) (tables : FlowTables) → Sound s → Tabled s tables
    → LanesBelow (table_at tables p) (length s.bare.retired)
LanesBelow-tables s p tables h t k l kl e =
    let P : ℕ → Type 0 = λ l. l < length s.bare.accepted in
    let ck : k < slice_index s.counts p = (let a = t.long p in omega arith) in
    let cs : List Chosen = of_class k (recent s p) in
    let f : current_lane cs ≡ Some l = sym (ap (λ r. r.lane) (t.rows p k ck)) ∙ e in
    let g = current_lane-in P cs
    (All-filter (λ c. is_class k c.choice.class) (λ c. P c.choice.lane) (recent s p)
    (All-drop (λ c. P c.choice.lane) (since_of s p) (choices_of s p)
    (All-from_get_or (λ c. P c.choice.lane) (choices_of s p) nobody (λ i lt. h.lanes p i lt))))
    l f in
    let w = h.wide.retired in
    omega arith

-- the choice by the table is the choice by the lists
pub choice-by_table : (s : HopState) (p : ℕ) (tables : FlowTables) → Tabled s tables
    → (class want : Option ℕ) (desired : ℕ) (online : CpuMask)
    → IsClassBelow (slice_index s.counts p) class
    → migrate class want desired (entries (table_at tables p)) (λ lane. number tables.start
    (retired_at s.bare lane)) (has online)
    ≡ choice_of s p class want desired online
choice-by_table s p tables t None want desired online ok = refl
choice-by_table s p tables t (Some k) want desired online ok =
    rw t.start (ap (λ r. by_entry k want desired r.tail (head_at s.fixed.start s.bare)
    (has online) r.lane) (rw t.start at (t.rows p k ok)))

choice-class : (s : HopState) (p : ℕ) (class want : Option ℕ) (desired : ℕ) (online : CpuMask)
    → (choice_of s p class want desired online).class ≡ class
choice-class s p None want desired online = refl
choice-class s p (Some k) want desired online = by_entry-class k want desired _
    (head_at s.fixed.start s.bare) (has online) _

-- a chosen packet that is accepted nowhere changes its class's entry alone
entry-weigh : (start : ℕ) (accepted : ℕ → List ℕ) (cs : List Chosen) (c : Chosen) (k : ℕ)
    → position accepted c ≡ None
    → entry start accepted (cs ++ c ∷ []) k
    ≡ cond (is_class k c.choice.class) (entry_with (Some c.choice.lane)
    (cond (has_moved c.choice.why) (number start 0) (entry start accepted cs k).tail))
    (entry start accepted cs k)
entry-weigh start accepted cs c k absent =
    elim (cases_Bool (is_class k c.choice.class)) [
      | inl y ↦ (
          let tail : number start (cond (has_moved c.choice.why) 0 (recorded_count accepted
          (of_class k cs)))
          ≡ cond (has_moved c.choice.why) (number start 0)
          (number start (recorded_count accepted (of_class k cs))) =
          elim (cases_Bool (has_moved c.choice.why)) [ inl m ↦ rw m refl | inr m ↦ rw m refl ] in
          rw (
            of_class-yes k cs c y,
            y,
            current_lane-push (of_class k cs) c,
            recorded_count-push accepted (of_class k cs) c absent,
          )
          (ap (entry_with (Some c.choice.lane)) tail))
      | inr n ↦ rw (of_class-no k cs c n, n) refl
    ]

weighed-long : (table : Table) (class : Option ℕ) (c : Choice)
    → length (weighed table class c).rows ≡ length table.rows
weighed-long table None c = refl
weighed-long table (Some k) c =
    length-set table.rows k (entry_with (Some c.lane) (cond (has_moved c.why) (number table.start 0)
    (entries table k).tail))

weighed-entries : (accepted : ℕ → List ℕ) (cs : List Chosen) (c : Chosen) (table : Table)
    (class : Option ℕ) (k : ℕ) → k < length table.rows
    → c.choice.class ≡ class → position accepted c ≡ None
    → entries table k ≡ entry table.start accepted cs k
    → slice_index_or (weighed table class c.choice).rows k (unset table.start) ≡ entry table.start
    accepted (cs ++ c ∷ []) k
weighed-entries accepted cs c table None k kl named absent e =
    let n : is_class k c.choice.class ≡ false = rw named refl in
    rw (entry-weigh table.start accepted cs c k absent, n) e
weighed-entries accepted cs c table (Some j) k kl named absent e =
    let v : Entry = entry_with (Some c.choice.lane) (cond (has_moved c.choice.why)
    (number table.start 0) (entries table j).tail) in
    elim (cases_eq k j) [
      | inl same ↦ (
          let y : is_class k c.choice.class ≡ true = rw (named, same, eq-eqb j j refl) refl in
          let here : slice_index_or (set table.rows j v) k (unset table.start) ≡ v =
          rw same (get_or-set_same table.rows j v (unset table.start) (rw same at kl)) in
          let f : (entries table j).tail ≡ (entry table.start accepted cs k).tail =
          rw (← same) (ap (λ r. r.tail) e) in
          rw (entry-weigh table.start accepted cs c k absent, y)
          (here ∙ ap (λ t. entry_with (Some c.choice.lane) (cond (has_moved c.choice.why)
          (number table.start 0) t)) f))
      | inr ne ↦ (
          let n : is_class k c.choice.class ≡ false = rw (named, ne_eqb k j ne) refl in
          rw (entry-weigh table.start accepted cs c k absent, n) (get_or-set_other table.rows j k v
          (unset table.start) ne ∙ e))
    ]

weighed-entries_from : (start : ℕ) (accepted : ℕ → List ℕ) (cs : List Chosen) (c : Chosen)
    (table : Table) (class : Option ℕ) (k : ℕ) → k < length table.rows
    → c.choice.class ≡ class → position accepted c ≡ None → table.start ≡ start
    → entries table k ≡ entry start accepted cs k
    → slice_index_or (weighed table class c.choice).rows k
    (unset table.start) ≡ entry start accepted (cs ++ c ∷ []) k
weighed-entries_from start accepted cs c table class k kl named absent same e =
    subst (λ b. slice_index_or (weighed table class c.choice).rows k
    (unset table.start) ≡ entry b accepted (cs ++ c ∷ []) k) same
    (weighed-entries accepted cs c table class k kl named absent
    (subst (λ b. entries table k ≡ entry b accepted cs k) (sym same) e))

pub Tabled-weigh : (s : HopState) (p : ℕ) (class want : Option ℕ) (desired : ℕ) (online : CpuMask)
    (tables : FlowTables) → p < length s.arrivals
    → IsClassBelow (slice_index s.counts p) class → length (choices_of s p) < taken_of s p → Sound s
    → Tabled s tables
    → Tabled (chose s p (choice_of s p class want desired online))
    (with_rows tables p (weighed (table_at tables p) class
    (choice_of s p class want desired online)).rows)
Tabled-weigh s p class want desired online tables named ok more h t =
    let w = h.wide in
    let choice : Choice = choice_of s p class want desired online in
    let c : Chosen = record { id = next_of s p; choice = choice } in
    let later : HopState = chose s p choice in
    let ch : Changed (choices_of s) (choices_of later) p (choices_of s p ++ c ∷ []) =
    Changed-set s.choices p (choices_of s p ++ c ∷ []) [] (omega arith) in
    let rows : List Entry = (weighed (table_at tables p) class choice).rows in
    let cht : Changed (λ q. slice_index_or tables.rows q [])
    (λ q. slice_index_or (set tables.rows p rows) q []) p rows =
    Changed-set tables.rows p rows [] (let m = t.many in omega arith) in
    let a = h.hands.put p in let b = h.hands.past p in
    let absent : position (accepted_at s.bare) c ≡ None =
    place_in-none c.id (accepted_at s.bare c.choice.lane)
    (new_absent s h p more c.choice.lane) in
    let rest : recent later p ≡ recent s p ++ c ∷ [] =
    rw ch.here (drop-append-le (since_of s p) (choices_of s p) (c ∷ []) (omega arith)) in
    let is : choice.class ≡ class = choice-class s p class want desired online in
    record {
      start = t.start;
      many = length-set tables.rows p rows ∙ t.many;
      long = λ q. elim (cases_eq q p) [
        | inl e ↦ rw (e, cht.here) (weighed-long (table_at tables p) class choice ∙ t.long p)
        | inr ne ↦ rw (cht.there q ne) (t.long q)
      ];
      rows = λ q k kc. elim (cases_eq q p) [
        | inl e ↦ (
            let lt : k < length (slice_index_or tables.rows p []) =
            (let f : k < slice_index s.counts p = rw e at kc in
            let l = t.long p in omega arith) in
            rw (e, cht.here, rest)
            (weighed-entries_from s.fixed.start (accepted_at s.bare) (recent s p) c
            (table_at tables p) class k lt is absent t.start (t.rows p k (rw e at kc))))
        | inr ne ↦ rw (cht.there q ne, ch.there q ne) (t.rows q k kc)
      ];
      classes = λ q i late lt. elim (cases_eq q p) [
        | inl e ↦ (
            let f : choices_of later q ≡ choices_of s p ++ c ∷ [] = rw e ch.here in
            let l : i < length (choices_of s p) + 1 = rw (f, length-push) at lt in
            rw (f, e) (elim (cases_eq i (length (choices_of s p))) [
              | inl last ↦ rw (last, chosen-push_last (choices_of s p) c nobody) (rw is ok)
              | inr ne ↦ (let early : i < length (choices_of s p) = omega arith in
                  rw (chosen-push_front (choices_of s p) c nobody i early)
                  (t.classes p i (rw e at late) early))
            ]))
        | inr ne ↦ rw (ch.there q ne) (t.classes q i late (rw (ch.there q ne) at lt))
      ];
    }

-- ---- a resize

pub Tabled-resize : (s : HopState) (p count : ℕ) (tables : FlowTables) → p < length s.arrivals
    → Sound s → Tabled s tables
    → Tabled (resized s p count) (with_rows tables p (replicate count (unset tables.start)))
Tabled-resize s p count tables named h t =
    let w = h.wide in
    let later : HopState = resized s p count in
    let none : Entry = unset tables.start in
    let chs = Changed-set s.since p (length (choices_of s p)) 0 (omega arith) in
    let chc = Changed-set s.counts p count 0 (omega arith) in
    let cht : Changed (λ q. slice_index_or tables.rows q [])
    (λ q. slice_index_or (set tables.rows p (replicate count none)) q []) p
    (replicate count none) =
    Changed-set tables.rows p (replicate count none) [] (let m = t.many in omega arith) in
    record {
      start = t.start;
      many = length-set tables.rows p (replicate count none) ∙ t.many;
      long = λ q. elim (cases_eq q p) [
        | inl e ↦ rw (e, cht.here, chc.here) (length-replicate count none)
        | inr ne ↦ rw (cht.there q ne, chc.there q ne) (t.long q)
      ];
      rows = λ q k kc. elim (cases_eq q p) [
        | inl e ↦ (
            let f : k < slice_index later.counts q = kc in
            let g : k < slice_index later.counts p = rw e at f in
            let lt : k < count = rw chc.here at g in
            rw (e, cht.here, chs.here, drop-length (choices_of s p), ← t.start)
            (get_or-replicate count k none none lt))
        | inr ne ↦ rw (cht.there q ne, chs.there q ne) (t.rows q k (rw (chc.there q ne) at kc))
      ];
      classes = λ q i late lt. elim (cases_eq q p) [
        | inl e ↦ absurd (let f : since_of later q ≡ length (choices_of s q) = rw e chs.here in
            omega arith)
        | inr ne ↦ rw (chc.there q ne) (t.classes q i (rw (chs.there q ne) at late) lt)
      ];
    }

-- The parts of a hop stay whole in each event.
use Rattle.std.proofs.Common.{ap, ℕ, ◌+◌, ◌≤◌, ◌<◌, ◌≡◌, ◌≢◌, Bool, true, false, cond, List, []}
use Rattle.std.proofs.Common.{◌∷◌, ◌++◌, Option, Some, None, length, refl, ◌∙◌, sym, subst, arith}
use Rattle.std.proofs.Common.{inl, inr, get_or, set, replicate, map, zero, suc}
use Rattle.std.specs.Prelude.{◌^◌, nat_lt, slice_index, slice_index_or, slice_set, unwrap_or}
use Rattle.std.proofs.Math.ListN.{length-replicate, length-set}
use Rattle.std.proofs.lemmas.Bool.{cases_Bool, lt-ltb, ltb-true}
use Rattle.std.proofs.lemmas.List.{get_or_default, length-map, set-get_or}
use Rattle.backlog.specs.Puts.{after_put, after_take, answer_by, put_answer, put_by, put_count}
use Rattle.dev_flow_table.specs.Tables.{unset, weighed}
use Rattle.steer_base.specs.Drops.{bucket_of, lane_drop_cause}
use Rattle.steer_base.specs.Sets.{has}
use Rattle.steer_base.specs.declared.choice.Chosen.{Chosen}
use Rattle.steer_base.specs.declared.cpu_mask.CpuMask.{CpuMask}
use Rattle.steer_base.specs.declared.put.DropCause.{DropCause}
use Rattle.steer_base.specs.declared.put.Put.{Put}
use Rattle.hop_model.specs.Events.{IsClassBelow, IsEmptied, happens, put}
use Rattle.hop_core.specs.FlowTables.{FlowTables, new_tables, noted, table_at, with_rows}
use Rattle.hop_model.specs.Hop.{HopState, arrivals_of, choice_of, choices_of, delivered_at, in_hand}
use Rattle.hop_model.specs.Hop.{inside_of, next_of, next_out, placed_of, pulled_at, retired_at}
use Rattle.hop_model.specs.Hop.{taken_of}
use Rattle.steer_base.specs.Journals.{Journals, list_at, new_journals, pushed}
use Rattle.hop_core.specs.LaneTable.{LaneTable, lane_at, new_lanes, with_lane}
use Rattle.hop_model.specs.Reads.{to_put, to_weigh}
use Rattle.hop_model.specs.Shape.{IsShape, classes_for, new_hop}
use Rattle.hop_core.specs.Sizes.{SameSizes}
use Rattle.hop_model.specs.Sound.{Sound}
use Rattle.hop_core.specs.View.{HopParts, state_of}
use Rattle.hop_core.specs.Whole.{IsWhole, Tabled}
use Rattle.hop_model.specs.declared.event.HopEvent.{HopEvent}
use Rattle.hop_model.specs.declared.shape.HopShape.{HopShape}
use Rattle.hop_core.proofs.Drops.{room-put}
use Rattle.hop_core.proofs.Fits.{fits_room, room-arrive, room-deliver, room-weigh}
use Rattle.hop_core.proofs.LaneSteps.{Sound-deliver, Sound-pull, Sound-retire}
use Rattle.hop_core.proofs.GateSteps.{Sound-resize}
use Rattle.hop_core.proofs.New.{Sound-new, at_new}
use Rattle.hop_core.proofs.ProducerSteps.{Sound-arrive, Sound-weigh, emptied-all}
use Rattle.hop_core.proofs.PutSteps.{Sound-put, put_as}
use Rattle.hop_core.proofs.Sizes.{Sizes-happens}
use Rattle.hop_core.proofs.TableSteps.{Tabled-put, Tabled-resize, Tabled-weigh}

-- ---- what is read of the parts, with the default that the definitions have

pub read-placed : (h : HopParts) (p x : ℕ) → IsWhole h → p < length h.arrivals.lists
    → x ≡ get_or h.placed p x → x ≡ placed_of (state_of h) p
read-placed h p x w named at =
    let l = w.sound.wide in at ∙ get_or_default h.placed p x 0 (omega arith)

pub read-visit : (h : HopParts) (p : ℕ) (x : Bool) → IsWhole h → p < length h.arrivals.lists
    → x ≡ get_or h.visits p x → x ≡ inside_of (state_of h) p
read-visit h p x w named at = let l = w.sound.wide in at ∙ get_or_default h.visits p x false
    (omega arith)

pub read-delivered : (h : HopParts) (c x : ℕ) → IsWhole h → c < length h.lanes.accepted
    → x ≡ get_or h.delivered c x → x ≡ delivered_at (state_of h).bare c
read-delivered h c x w named at = let l = w.sound.wide in at ∙ get_or_default h.delivered c x 0
    (omega arith)

pub read-retired : (h : HopParts) (c x : ℕ) → IsWhole h → c < length h.lanes.accepted
    → x ≡ get_or h.retired c x → x ≡ retired_at (state_of h).bare c
read-retired h c x w named at = let l = w.sound.wide in at ∙ get_or_default h.retired c x 0
    (omega arith)

-- an option that is there holds what it is made of
found_if : {X : Type 0} (b : Bool) (x y : X) → Some x ≡ cond b (Some y) None → (b ≡ true) × (x ≡ y)
found_if true x y e = (refl, ap (λ o. unwrap_or o x) e)
found_if false x y e = absurd cc

-- ---- an arrival

pub fits-arrive : (h : HopParts) (p x : ℕ) → p < length h.arrivals.lists → x < h.lanes.room
    → ((q i : ℕ) → i < length (arrivals_of (state_of h) q) → slice_index
    (arrivals_of (state_of h) q) i ≢ x)
    → IsWhole h → length (list_at h.arrivals p) < h.arrivals.room
fits-arrive h p x named below fresh w =
    rw w.arrivals_room (room-arrive (state_of h) p x named below fresh w.sound)

pub whole-arrive : (h : HopParts) (p x : ℕ) → p < length h.arrivals.lists → x < h.lanes.room
    → ((q i : ℕ) → i < length (arrivals_of (state_of h) q) → slice_index
    (arrivals_of (state_of h) q) i ≢ x)
    → IsWhole h → IsWhole (record h { arrivals = pushed h.arrivals p x })
whole-arrive h p x named below fresh w =
    let t = w.tabled in
    assumption (
      Sound-arrive (state_of h) p x named below fresh w.sound,
      t.many ∙ sym (length-set h.arrivals.lists p (list_at h.arrivals p ++ x ∷ [])),
    )

-- ---- a weigh

-- what a weigh finds: a packet that was taken up and not weighed
pub weigh_finds : (h : HopParts) (p x : ℕ) → IsWhole h → Some x ≡ to_weigh (state_of h) p
    → (length (choices_of (state_of h) p) < taken_of (state_of h) p) × (x ≡ next_of (state_of h) p)
weigh_finds h p x w is =
    let s : HopState = state_of h in
    let found = found_if (nat_lt (length (choices_of s p)) (taken_of s p)) x (next_of s p) is in
    (ltb-true (length (choices_of s p)) (taken_of s p) found.0, found.1)

pub fits-weigh : (h : HopParts) (p : ℕ) → length (list_at h.choices p) < taken_of (state_of h) p
    → IsWhole h → length (list_at h.choices p) < h.choices.room
fits-weigh h p more w = rw w.choices_room (room-weigh (state_of h) p more w.sound)

pub whole-weigh : (h : HopParts) (p : ℕ) (class want : Option ℕ) (desired : ℕ) (online : CpuMask)
    → p < length h.arrivals.lists
    → desired < length h.lanes.accepted → IsClassBelow (slice_index h.counts p) class
    → ((c : ℕ) → c < length h.lanes.accepted → has online c ≡ false → IsEmptied (state_of h).bare c)
    → inside_of (state_of h) p ≡ true → length (choices_of (state_of h) p) < taken_of (state_of h) p
    → IsWhole h
    → IsWhole (record h {
      choices = pushed h.choices p (record {
        id = next_of (state_of h) p;
        choice = choice_of
            (state_of h) p class want desired online;
      });
      tables = with_rows h.tables p (weighed (table_at h.tables p) class
          (choice_of (state_of h) p class want desired online)).rows;
    })
whole-weigh h p class want desired online named lane ok empty inside more w =
    let s : HopState = state_of h in
    assumption (
      Sound-weigh s p class want desired online named lane (emptied-all s w.sound (λ c. has
          online c ≡ false) empty) inside more w.sound,
      Tabled-weigh s p class want desired online h.tables named ok more w.sound w.tabled,
    )

-- ---- a put

pub fits-put : (h : HopParts) (p c : ℕ) → placed_of (state_of h) p < length
    (choices_of (state_of h) p) → IsWhole h → put_count (lane_at h.lanes c) < h.lanes.room
fits-put h p c more w = rw length-map at (room-put (state_of h) p w.sound more c)

-- what a put finds: a packet in hand, chosen and not put
pub record Finds (h : HopParts) (p n : ℕ) (x : Chosen) : Type 0 where
  pub placed : n ≡ placed_of (state_of h) p
  pub more : placed_of (state_of h) p < length (choices_of (state_of h) p)
  pub chosen : x ≡ in_hand (state_of h) p
  pub fits : n + 1 < 2 ^ 32

pub put_finds : (h : HopParts) (p n : ℕ) (x : Chosen) → IsWhole h → p < length h.arrivals.lists
    → n ≡ get_or h.placed p n
    → Some x ≡ to_put (state_of h) p → Finds h p n x
put_finds h p n x w named at is =
    let s : HopState = state_of h in
    let found = found_if (nat_lt (placed_of s p) (length (choices_of s p))) x (in_hand s p) is in
    let placed : n ≡ placed_of s p = read-placed h p n w named at in
    let more : placed_of s p < length (choices_of s p) =
    ltb-true (placed_of s p) (length (choices_of s p)) found.0 in
    let fits = (fits_room s w.sound).choices p in
    let small = w.sound.small.room in
    record { placed = placed; more = more; chosen = found.1; fits = omega arith }

-- the parts after a put, whatever the cause of a drop
abbrev pub put_parts : HopParts → ℕ → Option DropCause → Option ℕ → HopParts
put_parts h p cause bucket =
    let c : Chosen = in_hand (state_of h) p in
    record h {
      placed = slice_set h.placed p (slice_index h.placed p + 1);
      tables = with_rows h.tables p (noted (table_at h.tables p) c.choice.class
          (answer_by cause (lane_at h.lanes c.choice.lane))).rows;
      lanes = with_lane h.lanes c.choice.lane
          (put_by cause (lane_at h.lanes c.choice.lane) c.id bucket);
    }

pub state_of-put : (h : HopParts) (p : ℕ) (cause : Option DropCause) (bucket : Option ℕ)
    → state_of (put_parts h p cause bucket) ≡ put_as (state_of h) p cause bucket
state_of-put h p None bucket =
    let c : ℕ = (in_hand (state_of h) p).choice.lane in
    rw (set-get_or h.lanes.drops c [], set-get_or h.lanes.pulled c 0) refl
state_of-put h p (Some cause) bucket =
    let c : ℕ = (in_hand (state_of h) p).choice.lane in
    rw (set-get_or h.lanes.accepted c [], set-get_or h.lanes.pulled c 0) refl

state_of-put_enabled : (h : HopParts) (p : ℕ) (hash : Option ℕ) → inside_of (state_of h) p ≡ true
    → placed_of (state_of h) p < length (choices_of (state_of h) p)
    → state_of (put_parts h p
    (lane_drop_cause (lane_at h.lanes (in_hand (state_of h) p).choice.lane) hash)
    (bucket_of hash)) ≡ (put (state_of h) p hash).0
state_of-put_enabled h p hash inside more =
    rw (inside, lt-ltb (placed_of (state_of h) p) (length (choices_of (state_of h) p)) more)
    (state_of-put h p (lane_drop_cause (lane_at h.lanes (in_hand (state_of h) p).choice.lane) hash)
    (bucket_of hash))

put-lanes : (h : HopParts) (p : ℕ) (cause : Option DropCause) (bucket : Option ℕ)
    → length (put_parts h p cause bucket).lanes.accepted ≡ length h.lanes.accepted
put-lanes h p cause bucket =
    let c : Chosen = in_hand (state_of h) p in
    length-set h.lanes.accepted c.choice.lane
    (put_by cause (lane_at h.lanes c.choice.lane) c.id bucket).accepted

whole-put : (h : HopParts) (p : ℕ) (hash : Option ℕ) → p < length h.arrivals.lists → inside_of
    (state_of h) p ≡ true
    → placed_of (state_of h) p < length (choices_of (state_of h) p) → IsWhole h
    → IsWhole (put_parts h p (lane_drop_cause (lane_at h.lanes (in_hand (state_of h) p).choice.lane)
    hash) (bucket_of hash))
whole-put h p hash named inside more w =
    let s : HopState = state_of h in
    let cause : Option DropCause =
    lane_drop_cause (lane_at h.lanes (in_hand s p).choice.lane) hash in
    let bucket : Option ℕ = bucket_of hash in
    let new : HopParts = put_parts h p cause bucket in
    let is = sym (state_of-put h p cause bucket) in
    record {
      sound = subst Sound is (Sound-put s p hash named inside more w.sound);
      tabled = subst (λ t. Tabled t new.tables) is
          (Tabled-put s p cause bucket h.tables named more w.sound w.tabled);
      actors = w.actors;
      lanes = rw (put-lanes h p cause bucket) w.lanes;
      arrivals_room = w.arrivals_room;
      choices_room = w.choices_room;
      outs_room = w.outs_room;
    }

-- What a put leaves is whole, and stands for the state after the put.
pub put_leaves : (h : HopParts) (p n : ℕ) (hash : Option ℕ) (inside : Bool) (x : Chosen)
    (lanes : LaneTable) (went : Put) (tables : FlowTables)
    → IsWhole h → p < length h.arrivals.lists → inside ≡ get_or h.visits p inside → inside ≡ true
    → Finds h p n x
    → lanes ≡ with_lane h.lanes x.choice.lane (after_put (lane_at h.lanes x.choice.lane) x.id hash)
    → went ≡ put_answer (lane_at h.lanes x.choice.lane) hash
    → tables ≡ with_rows h.tables p (noted (table_at h.tables p) x.choice.class went).rows
    → IsWhole (record h { placed = slice_set h.placed p (n + 1); tables = tables; lanes = lanes })
    × (state_of (record h {
      placed = slice_set h.placed p (n + 1);
      tables = tables;
      lanes = lanes;
    }) ≡ (put (state_of h) p hash).0)
put_leaves h p n hash inside x lanes went tables w named at here found put_lanes answer put_tables =
    let s : HopState = state_of h in
    let visit : inside_of s p ≡ true = sym (read-visit h p inside w named at) ∙ here in
    let new : HopParts =
    put_parts h p (lane_drop_cause (lane_at h.lanes (in_hand s p).choice.lane) hash)
    (bucket_of hash) in
    let is : record h {
      placed = slice_set h.placed p (n + 1);
      tables = tables;
      lanes = lanes;
    } ≡ new =
    rw (put_tables, put_lanes, answer, found.chosen, found.placed) refl in (
      subst IsWhole (sym is) (whole-put h p hash named visit found.more w),
      ap state_of is ∙ state_of-put_enabled h p hash visit found.more,
    )

-- ---- a pull, a delivery and a retirement

take-lanes : (t : LaneTable) (c : ℕ) → with_lane t c (after_take (lane_at t c))
    ≡ cond (nat_lt (slice_index t.pulled c) (length (slice_index_or t.accepted c [])))
    (record t { pulled = set t.pulled c (slice_index t.pulled c + 1) }) t
take-lanes t c =
    elim (cases_Bool (nat_lt (slice_index t.pulled c) (length (slice_index_or t.accepted c [])))) [
      | inl e ↦ rw (
        e,
        set-get_or t.accepted c [],
        set-get_or t.offers c [],
        set-get_or t.drops c [],
      ) refl
      | inr e ↦ rw (
        e,
        set-get_or t.accepted c [],
        set-get_or t.offers c [],
        set-get_or t.drops c [],
        set-get_or t.pulled c 0,
      ) refl
    ]

cond_cases : (P : LaneTable → Type 0) (t u : LaneTable) (b : Bool) → (b ≡ true → P u) → P t
    → P (cond b u t)
cond_cases P t u true f h = f refl
cond_cases P t u false f h = h

pub whole-pull : (h : HopParts) (c : ℕ) → c < length h.lanes.accepted
    → slice_index h.lanes.pulled c ≤ slice_index h.retired c → IsWhole h
    → IsWhole (record h { lanes = with_lane h.lanes c (after_take (lane_at h.lanes c)) })
whole-pull h c named free w =
    let t = w.tabled in
    let P : LaneTable → Type 0 = λ l. IsWhole (record h { lanes = l }) in
    subst P (sym (take-lanes h.lanes c))
    (cond_cases P h.lanes
    (record h.lanes { pulled = set h.lanes.pulled c (slice_index h.lanes.pulled c + 1) })
    (nat_lt (slice_index h.lanes.pulled c) (length (slice_index_or h.lanes.accepted c [])))
    (λ e. record {
      sound = Sound-pull (state_of h) c named free (ltb-true (slice_index h.lanes.pulled c)
          (length (slice_index_or h.lanes.accepted c [])) e) w.sound;
      tabled = record {
        start = t.start;
        many = t.many;
        long = t.long;
        rows = t.rows;
        classes = t.classes;
      };
      actors = w.actors;
      lanes = w.lanes;
      arrivals_room = w.arrivals_room;
      choices_room = w.choices_room;
      outs_room = w.outs_room;
    }) w)

pub fits-deliver : (h : HopParts) (c o : ℕ) → c < length h.lanes.accepted → o < length h.outs.lists
    → delivered_at (state_of h).bare c < pulled_at (state_of h).bare c → IsWhole h
    → length (list_at h.outs o) < h.outs.room
fits-deliver h c o named out more w =
    rw w.outs_room (room-deliver (state_of h) c o named out more w.sound)

pub whole-deliver : (h : HopParts) (c o : ℕ) → c < length h.lanes.accepted → o < length h.outs.lists
    → delivered_at (state_of h).bare c < pulled_at (state_of h).bare c → IsWhole h
    → IsWhole (record h {
      delivered = slice_set h.delivered c (slice_index h.delivered c + 1);
      outs = pushed h.outs o (next_out (state_of h).bare c);
    })
whole-deliver h c o named out more w =
    let t = w.tabled in
    assumption (Sound-deliver (state_of h) c o named out more w.sound)

pub whole-retire : (h : HopParts) (c : ℕ) → c < length h.lanes.accepted → retired_at
    (state_of h).bare c < delivered_at (state_of h).bare c → IsWhole h
    → IsWhole (record h { retired = slice_set h.retired c (slice_index h.retired c + 1) })
whole-retire h c named more w =
    let t = w.tabled in
    assumption (Sound-retire (state_of h) c named more w.sound)

-- ---- a resize

pub whole-resize : (h : HopParts) (p count : ℕ) → p < length h.arrivals.lists → h.closed ≡ true
    → ((c : ℕ) → c < length h.lanes.accepted → IsEmptied (state_of h).bare c) → IsWhole h
    → IsWhole (record h {
      since = slice_set h.since p (length (list_at h.choices p));
      counts = slice_set h.counts p count;
      tables = with_rows h.tables p (replicate count (unset h.tables.start));
    })
whole-resize h p count named shut empty w =
    let s : HopState = state_of h in
    assumption (
      Sound-resize s p count named shut (λ c. emptied-all s w.sound (λ c. Unit {0}) (λ c lt _.
          empty c lt) c tt) w.sound,
      Tabled-resize s p count h.tables named w.sound w.tabled,
    )

-- ---- a new hop

-- the parts of a hop in which nothing has happened
abbrev pub new_parts : HopShape → HopParts
new_parts shape =
    record {
      arrivals = new_journals shape.producers shape.room;
      taken = replicate shape.producers 0;
      choices = new_journals shape.producers shape.room;
      placed = replicate shape.producers 0;
      since = replicate shape.producers 0;
      visits = replicate (shape.producers + shape.guests) false;
      counts = map (classes_for shape.exact) shape.counts.items;
      tables = new_tables shape.counts.items shape.start shape.exact;
      lanes = new_lanes shape.lanes shape.limit shape.room shape.start shape.limited;
      delivered = replicate shape.lanes 0;
      retired = replicate shape.lanes 0;
      outs = new_journals shape.outs shape.room;
      inside = 0;
      closed = false;
    }

new-rows : (counts : List ℕ) (start : ℕ) (exact : Bool) (p : ℕ)
    → get_or (new_tables counts start exact).rows p [] ≡ replicate
    (get_or (map (classes_for exact) counts) p 0) (unset start)
new-rows [] start exact p = refl
new-rows (n ∷ ns) start exact zero = refl
new-rows (n ∷ ns) start exact (suc p) = new-rows ns start exact p

-- they stand for the new hop of the shape
pub state_of-new : (shape : HopShape) → IsShape shape → state_of (new_parts shape) ≡ new_hop shape
state_of-new shape is = rw (length-map, is.counts) refl

whole-new : (shape : HopShape) → IsShape shape → IsWhole (new_parts shape)
whole-new shape is =
    let s : HopState = state_of (new_parts shape) in
    let choices : (p : ℕ) → choices_of s p ≡ [] = λ p. at_new shape.producers p [] in
    let rows : (p : ℕ) → get_or (new_tables shape.counts.items shape.start shape.exact).rows p
    [] ≡ replicate (slice_index s.counts p) (unset shape.start) =
    λ p. new-rows shape.counts.items shape.start shape.exact p in
    record {
      sound = subst Sound (sym (state_of-new shape is)) (Sound-new shape is);
      tabled = record {
        start = refl;
        many = rw (length-map, length-replicate) is.counts;
        long = λ p. rw rows (length-replicate (slice_index s.counts p) (unset shape.start));
        rows = λ p k lt. rw (rows p, choices p, at_new {X = ℕ} shape.producers p 0)
            (at_new (slice_index s.counts p) k (unset shape.start));
        classes = λ p i late lt. absurd (let e : length (choices_of s p) ≡ 0 = rw
            (choices p) refl in omega arith);
      };
      actors = rw length-replicate (let p = is.few_producers in let g = is.guests in omega arith);
      lanes = rw length-replicate is.few_lanes;
      arrivals_room = refl;
      choices_room = refl;
      outs_room = refl;
    }

-- an event leaves the sizes
pub sizes_stay : (s t : HopState) (e : HopEvent) → t ≡ (happens s e).0 → SameSizes s t
sizes_stay s t e is = rw is (Sizes-happens s e)

-- parts that are made one by one
pub are_new : (shape : HopShape) → (arrivals : Journals ℕ) (taken : List ℕ)
    (choices : Journals Chosen)
    (placed since : List ℕ) (visits : List Bool) (counts : List ℕ) (tables : FlowTables)
    (lanes : LaneTable)
    (delivered retired : List ℕ) (outs : Journals ℕ) (inside : ℕ) (closed : Bool)
    → arrivals ≡ new_journals shape.producers shape.room → taken ≡ replicate shape.producers 0
    → choices ≡ new_journals shape.producers shape.room
    → placed ≡ replicate shape.producers 0 → since ≡ replicate shape.producers 0
    → visits ≡ replicate (shape.producers + shape.guests) false
    → counts ≡ map (classes_for shape.exact) shape.counts.items
    → tables ≡ new_tables shape.counts.items shape.start shape.exact
    → lanes ≡ new_lanes shape.lanes shape.limit shape.room shape.start shape.limited
    → delivered ≡ replicate shape.lanes 0
    → retired ≡ replicate shape.lanes 0 → outs ≡ new_journals shape.outs shape.room → inside ≡ 0
    → closed ≡ false
    → record {
      arrivals = arrivals;
      taken = taken;
      choices = choices;
      placed = placed;
      since = since;
      visits = visits;
      counts = counts;
      tables = tables;
      lanes = lanes;
      delivered = delivered;
      retired = retired;
      outs = outs;
      inside = inside;
      closed = closed;
    } ≡ new_parts shape
are_new shape arrivals taken choices placed since visits counts tables lanes delivered retired outs
    inside closed a b c d e f g h i j k l m n =
    rw (a, b, c, d, e, f, g, h, i, j, k, l, m, n) refl

pub whole-made : (shape : HopShape) → IsShape shape → (h : HopParts) → h ≡ new_parts shape
    → IsWhole h × (state_of h ≡ new_hop shape)
whole-made shape is h new = (
  subst IsWhole (sym new) (whole-new shape is),
  ap state_of new
      ∙ state_of-new shape is,
)

-- What the slots of an index have after a pass over a list, and over the lists of lists one by one.
use Rattle.std.proofs.Common.{ℕ, ◌+◌, ◌<◌, ◌≡◌, List, [], ◌∷◌, Option, Some, None, map, length}
use Rattle.std.proofs.Common.{take, replicate, refl, ap, ◌∙◌, sym, arith, suc, zero, inl, inr}
use Rattle.std.proofs.Common.{get_or, subst}
use Rattle.std.specs.Prelude.{◌==◌, if◌then◌else◌}
use Rattle.std.specs.Option.{option_or, option_map, option_and_then}
use Rattle.std.proofs.lemmas.Bool.{cases_Bool, cases_eq, ne_eqb, eq-eqb}
use Rattle.std.proofs.lemmas.List.{get_or-set_same, get_or-set_other, get_or-replicate, length-set}
use Rattle.std.proofs.lemmas.List.{length-replicate}
use Rattle.steer_base.specs.Entries.{place_in}
use Rattle.steer_base.specs.declared.choice.Chosen.{Chosen}
use Rattle.steer_base.specs.declared.put.LaneDrop.{LaneDrop}
use Rattle.steer_base.specs.declared.put.Put.TheVariants.{Dropped}
use Rattle.history.specs.Finding.{found, first_some}
use Rattle.history.specs.Index.{noted, noted_by, IsIndex}
use Rattle.history.specs.Lines.{choice_in, drop_in, dropped_as}
use Rattle.history.specs.declared.lane_list.LaneList.{LaneList}

-- what a list has of a packet: the value of the first item with this key, the items counted from i
abbrev pub value_at : {A T : Type 0} → (A → ℕ) → (ℕ → A → T) → ℕ → ℕ → List A → Option T
value_at key value i x [] = None
value_at key value i x (a ∷ rest) = if x == key a then Some (value i a) else value_at key value
    (suc i) x rest

or-none : {T : Type 0} (o : Option T) → option_or o None ≡ o
or-none None = refl
or-none (Some a) = refl

pub or-assoc : {T : Type 0} (o p q : Option T) → option_or (option_or o p) q ≡ option_or o
    (option_or p q)
or-assoc None p q = refl
or-assoc (Some a) p q = refl

length-noted : {T : Type 0} (slots : List (Option T)) (x : ℕ) (v : T)
    → length (noted slots x v) ≡ length slots
length-noted slots x v = length-set slots x (option_or (get_or slots x None) (Some v))

pub length-noted_by : {A T : Type 0} (key : A → ℕ) (value : ℕ → A → T) (i : ℕ)
    (slots : List (Option T)) (list : List A) → length (noted_by key value i slots list) ≡ length
    slots
length-noted_by key value i slots [] = refl
length-noted_by key value i slots (a ∷ rest) = length-noted_by key value (suc i)
    (noted slots (key a) (value i a)) rest ∙ length-noted slots (key a) (value i a)

-- a slot has what it had, or else what was noted
get-noted : {T : Type 0} (slots : List (Option T)) (k x : ℕ) (v : T) → x < length slots
    → get_or (noted slots k v) x None ≡ option_or (get_or slots x None)
    (if x == k then Some v else None)
get-noted slots k x v l =
    elim (cases_eq x k) [
      | inl e ↦
          let s : get_or (noted slots k v) k None ≡ option_or (get_or slots k None) (Some v) =
          get_or-set_same slots k (option_or (get_or slots k None) (Some v)) None
          (omega arith) in
          rw (eq-eqb x k e, e) s
      | inr ne ↦
          let s : get_or (noted slots k v) x None ≡ get_or slots x None = get_or-set_other slots k x
          (option_or (get_or slots k None) (Some v)) None ne in
          rw (ne_eqb x k ne) (s ∙ sym (or-none (get_or slots x None)))
    ]

pub get-noted_by : {A T : Type 0} (key : A → ℕ) (value : ℕ → A → T) (i : ℕ)
    (slots : List (Option T)) (list : List A) (x : ℕ) → x < length slots
    → get_or (noted_by key value i slots list) x None ≡ option_or (get_or slots x None)
    (value_at key value i x list)
get-noted_by key value i slots [] x l = sym (or-none (get_or slots x None))
get-noted_by key value i slots (a ∷ rest) x l =
    let more = noted slots (key a) (value i a) in
    let ih = get-noted_by key value (suc i) more rest x
    (omega (arith, length-noted slots (key a) (value i a))) in
    ih ∙ ap (λ o. option_or o (value_at key value (suc i) x rest)) (get-noted slots (key a) x
    (value i a) l)
    ∙ or-assoc (get_or slots x None) (if x == key a then Some (value i a) else None)
    (value_at key value (suc i) x rest)
    ∙ ap (λ o. option_or (get_or slots x None) o)
    (elim (cases_Bool (x == key a)) [ inl t ↦ rw t refl | inr t ↦ rw t refl ])

pub first_some-take : {A T : Type 0} (look : A → Option T) (xs : List A) (i : ℕ) (d : A)
    → i < length xs
    → first_some look (take (suc i) xs) ≡ option_or (first_some look (take i xs))
    (look (get_or xs i d))
first_some-take look [] i d l = absurd (omega arith)
first_some-take look (a ∷ rest) zero d l = or-none (look a)
first_some-take look (a ∷ rest) (suc i) d l =
    ap (λ o. option_or (look a) o) (first_some-take look rest i d (omega arith))
    ∙ sym (or-assoc (look a) (first_some look (take i rest)) (look (get_or rest i d)))

-- The pass over one list more.
module _ {A B T : Type 0} (key : A → ℕ) (value : ℕ → A → T) (of : B → List A) (look : ℕ → B
    → Option T) (agrees : (x : ℕ) (b : B) → value_at key value 0 x (of b) ≡ look x b) where
  pub index-next : (count i j : ℕ) (slots more : List (Option T)) (items lists : List B) (b : B)
      → items ≡ lists → i < length items → b ≡ get_or items i b → j ≡ suc i
      → more ≡ noted_by key value 0 slots (of b) → IsIndex count slots (λ x. first_some (look x)
      (take i lists)) → IsIndex count more (λ x. first_some (look x) (take j lists))
  index-next count i j slots more items lists b same l here next m before =
      let below : i < length lists = subst (λ xs. i < length xs) same l in
      let at : b ≡ get_or lists i b = subst (λ xs. b ≡ get_or xs i b) same here in
      record {
        width = ap length m ∙ length-noted_by key value 0 slots (of b) ∙ before.width;
        slot = λ x k.
            ap (λ s. get_or s x None) m ∙ get-noted_by key value 0 slots (of b) x
            (omega (arith, before.width))
            ∙ ap (λ o. option_or o (value_at key value 0 x (of b))) (before.slot x k)
            ∙ ap (λ o. option_or (first_some (look x) (take i lists)) o)
            (agrees x b ∙ ap (look x) at)
            ∙ sym (first_some-take (look x) lists i b below)
            ∙ ap (λ n. first_some (look x) (take n lists)) (sym next);
      }

-- What a list has of a packet, in the words of a line.
pub value_at-lanes : (x : ℕ) (cs : List Chosen) (i : ℕ) → value_at (λ c. c.id)
    (λ i c. c.choice.lane) i x cs ≡ option_map (λ c. c.lane) (choice_in x cs)
value_at-lanes x [] i = refl
value_at-lanes x (c ∷ cs) i = elim (cases_Bool (x == c.id)) [
  | inl t ↦ rw t refl
  | inr t ↦ rw t (value_at-lanes x cs (suc i))
]

pub value_at-mapped : {A T : Type 0} (f : A → T) (key : A → ℕ) (x : ℕ) (xs : List A) (i : ℕ)
    → value_at key (λ i a. f a) i x xs ≡ option_map f (found key x xs)
value_at-mapped f key x [] i = refl
value_at-mapped f key x (a ∷ rest) i = elim (cases_Bool (x == key a)) [
  | inl t ↦ rw t refl
  | inr t ↦ rw t (value_at-mapped f key x rest (suc i))
]

map-or : {T U : Type 0} (f : T → U) (o p : Option T)
    → option_or (option_map f o) (option_map f p) ≡ option_map f (option_or o p)
map-or f None p = refl
map-or f (Some a) p = refl

first_some-map : {A T U : Type 0} (f : T → U) (look : A → Option T) (xs : List A)
    → first_some (λ a. option_map f (look a)) xs ≡ option_map f (first_some look xs)
first_some-map f look [] = refl
first_some-map f look (a ∷ rest) =
    ap (option_or (option_map f (look a))) (first_some-map f look rest)
    ∙ map-or f (look a) (first_some look rest)

-- the index of a part of what is found, after the passes over all lists
pub index-mapped : {A T U : Type 0} (f : T → U) (look : ℕ → A → Option T) (count : ℕ)
    (slots : List (Option U)) (some all : List A) → some ≡ all
    → IsIndex count slots (λ x. first_some (λ a. option_map f (look x a)) some)
    → IsIndex count slots (λ x. option_map f (first_some (look x) all))
index-mapped f look count slots some all same is = record {
  width = is.width;
  slot = λ x l. is.slot x l ∙ first_some-map f (look x) some
      ∙ ap (λ xs. option_map f (first_some (look x) xs)) same;
}

map-suc : {T : Type 0} (f : ℕ → T) (i : ℕ) (o : Option ℕ) → option_map
    (λ n. f (suc i + n)) o ≡ option_map (λ n. f (i + n)) (option_map suc o)
map-suc f i None = refl
map-suc f i (Some n) = let e : suc i + n ≡ i + suc n = omega arith in ap (λ m. Some (f m)) e

map-zero : {T : Type 0} (f : ℕ → T) (o : Option ℕ) → option_map (λ n. f (0 + n)) o ≡ option_map f o
map-zero f None = refl
map-zero f (Some n) = let e : 0 + n ≡ n = omega arith in ap (λ m. Some (f m)) e

map-same : (o : Option ℕ) → option_map (λ n. n) o ≡ o
map-same None = refl
map-same (Some n) = refl

value_at-places_from : (x : ℕ) (xs : List ℕ) (i : ℕ) → value_at (λ y. y)
    (λ i y. i + 1) i x xs ≡ option_map (λ n. i + n) (place_in x xs)
value_at-places_from x [] i = refl
value_at-places_from x (y ∷ ys) i =
    elim (cases_Bool (x == y)) [
      | inl t ↦ rw t refl
      | inr t ↦ rw t (value_at-places_from x ys (suc i)
          ∙ map-suc (λ n. n) i (place_in x ys))
    ]

pub value_at-places : (x : ℕ) (xs : List ℕ) → value_at (λ y. y)
    (λ i y. i + 1) 0 x xs ≡ place_in x xs
value_at-places x xs = value_at-places_from x xs 0 ∙ map-zero (λ n. n) (place_in x xs)
    ∙ map-same (place_in x xs)

value_at-drops_from : (x : ℕ) (ds : List LaneDrop) (i : ℕ)
    → value_at (λ d. d.id) (λ i d. Dropped (i + 1) d.accepted d.pulled d.cause) i x ds
    ≡ option_and_then (λ d. option_map (λ n. dropped_as d (i + n))
    (place_in x (map (λ e. e.id) ds))) (found (λ d. d.id) x ds)
value_at-drops_from x [] i = refl
value_at-drops_from x (d ∷ ds) i =
    elim (cases_Bool (x == d.id)) [
      | inl t ↦ rw t refl
      | inr t ↦ rw t (value_at-drops_from x ds (suc i)
          ∙ (elim (found (λ d. d.id) x ds) as
          (λ o. option_and_then (λ d. option_map (λ n. dropped_as d (suc i + n))
          (place_in x (map (λ e. e.id) ds))) o
          ≡ option_and_then (λ d. option_map (λ n. dropped_as d (i + n))
          (option_map suc (place_in x (map (λ e. e.id) ds)))) o)
          [ None ↦ refl | Some e ↦ map-suc (dropped_as e) i (place_in x (map (λ e. e.id) ds)) ]))
    ]

fall-zero : (o : Option LaneDrop) (p : Option ℕ) → option_and_then
    (λ d. option_map (λ n. dropped_as d (0 + n)) p) o ≡ option_and_then
    (λ d. option_map (dropped_as d) p) o
fall-zero None p = refl
fall-zero (Some d) p = map-zero (dropped_as d) p

pub value_at-drops : (x : ℕ) (lane : LaneList) → value_at (λ d. d.id)
    (λ i d. Dropped (i + 1) d.accepted d.pulled d.cause) 0 x lane.drops ≡ drop_in x lane
value_at-drops x lane = value_at-drops_from x lane.drops 0 ∙ fall-zero
    (found (λ d. d.id) x lane.drops) (place_in x (map (λ e. e.id) lane.drops))

-- The pass over one list.
pub index-list : (count : ℕ) (slots more : List (Option ℕ)) (list : List ℕ)
    → slots ≡ replicate count None → more ≡ noted_by (λ y. y) (λ i y. i + 1) 0 slots list
    → IsIndex count more (λ x. place_in x list)
index-list count slots more list e m =
    let w : length slots ≡ count = ap length e ∙ length-replicate count None in
    record {
      width = ap length m ∙ length-noted_by (λ y. y) (λ i y. i + 1) 0 slots list ∙ w;
      slot = λ x k.
          ap (λ s. get_or s x None) m ∙ get-noted_by (λ y. y) (λ i y. i + 1) 0 slots list x
          (omega arith)
          ∙ ap (λ o. option_or o (value_at (λ y. y) (λ i y. i + 1) 0 x list))
          (ap (λ s. get_or s x None) e ∙ get_or-replicate count x None None k)
          ∙ value_at-places x list;
    }

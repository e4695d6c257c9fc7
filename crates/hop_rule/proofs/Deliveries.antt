-- Deliveries in a lawful order of steps: what comes later has a higher place.
use Rattle.hop_rule.specs.Lanes.{retired, retired_after, out, Phase, idle, has_pulled, gave}
use Rattle.hop_rule.specs.Lanes.{phase_after, phase, MayCome}
use Rattle.hop_rule.specs.Deliveries.{given_after}
use Rattle.hop_rule.proofs.Names.{◌≡◌, ℕ, zero, suc, ◌+◌, ◌-◌, ◌<◌, ◌≤◌, List, [], ◌∷◌, ◌++◌}
use Rattle.hop_rule.proofs.Names.{length, sym, refl, ap, ◌∙◌, subst, arith, length-append, Option}
use Rattle.hop_rule.proofs.Names.{Some, None, slice_get, dite, ℕ_discrete, LaneLists, bucket_of}
use Rattle.hop_rule.proofs.Names.{lane_drop_cause, DropCause, put_by, after_put, StepBy, step_by}
use Rattle.hop_rule.proofs.Names.{steps_of, steps_of_own, if_same, if_other, OutList, BoardSizes}
use Rattle.hop_rule.proofs.Names.{Change, Nothing, Offered, Pulled, LaneStep, Held, Missed, Freed}
use Rattle.hop_rule.proofs.Names.{OutHeld, OutMissed, OutFreed, Given, Retired, puller}
use Rattle.hop_rule.proofs.Names.{lane_changed, lane_after_step, out_after, lane, AreLawful}
use Rattle.hop_rule.proofs.Names.{Delivery, delivery, delivered_from, nth_step}
use Rattle.hop_rule.proofs.Moments.{nth-inside, nth-old, nth-some}
use Rattle.hop_rule.proofs.Cases.{pick}
use Rattle.hop_rule.proofs.Lists.{some-is, none-some, get-inside}
use Rattle.hop_rule.proofs.Lanes.{holds, out_holds, phase_same, counted, count}

get-more : (xs ys : List ℕ) (i x : ℕ) → slice_get xs i ≡ Some x → slice_get (xs ++ ys) i ≡ Some x
get-more [] ys i x e = none-some x e
get-more (y ∷ xs) ys zero x e = e
get-more (y ∷ xs) ys (suc i) x e = get-more xs ys i x e

get-last : (xs : List ℕ) (x : ℕ) → slice_get (xs ++ x ∷ []) (length xs) ≡ Some x
get-last [] x = refl
get-last (y ∷ xs) x = get-last xs x

module _ (about : BoardSizes) where
  abbrev Order : Type 0
  Order = List (StepBy LaneStep)

  -- ---- lanes and out lanes grow

  put_grows : (x : LaneLists) (id : ℕ) (hash : Option ℕ) → (more : List ℕ)
      × ((after_put x id hash).accepted ≡ x.accepted ++ more)
  put_grows x id hash = by_cause (lane_drop_cause x hash)
    where
      by_cause : (cause : Option DropCause) → (more : List ℕ)
          × ((put_by cause x id (bucket_of hash)).accepted ≡ x.accepted ++ more)
      by_cause None = (id ∷ [], refl)
      by_cause (Some cause) = ([], sym (Rattle.std.proofs.lemmas.List.append-nil x.accepted))

  changed_grows : (c : Change) (x : LaneLists) → (more : List ℕ)
      × ((lane_changed c x).accepted ≡ x.accepted ++ more)
  changed_grows Nothing x = ([], sym (Rattle.std.proofs.lemmas.List.append-nil x.accepted))
  changed_grows (Offered id hash answer) x = put_grows x id hash
  changed_grows (Pulled id) x = ([], sym (Rattle.std.proofs.lemmas.List.append-nil x.accepted))

  -- what a lane accepted stands there after more steps
  abbrev Keeps : List ℕ → List ℕ → Type 0
  Keeps xs ys = (length xs ≤ length ys)
      × ((i x : ℕ) → slice_get xs i ≡ Some x → slice_get ys i ≡ Some x)

  keeps-refl : (xs : List ℕ) → Keeps xs xs
  keeps-refl xs = (omega arith, λ i x e. e)

  keeps-more : (xs ys more : List ℕ) → ys ≡ xs ++ more → Keeps xs ys
  keeps-more xs ys more e = let n = ap length e in let m = length-append xs more in
      (omega arith, λ i x at. ap (λ l. slice_get l i) e ∙ get-more xs more i x at)

  lane_keeps : (l : ℕ) (d : LaneStep) (x : LaneLists) → Keeps x.accepted
      (lane_after_step l d x).accepted
  lane_keeps l (Held i w y) x = keeps-refl x.accepted
  lane_keeps l (Missed i w) x = keeps-refl x.accepted
  lane_keeps l (Freed i c) x = pick i l (lane_changed c x) x
      (λ (y : LaneLists). Keeps x.accepted y.accepted)
      (λ _. let g = changed_grows c x in keeps-more x.accepted (lane_changed c x).accepted g.0 g.1)
      (λ _. keeps-refl x.accepted)
  lane_keeps l (OutHeld i w y) x = keeps-refl x.accepted
  lane_keeps l (OutMissed i w) x = keeps-refl x.accepted
  lane_keeps l (OutFreed i) x = keeps-refl x.accepted
  lane_keeps l (Given i from id place) x = keeps-refl x.accepted
  lane_keeps l (Retired i f) x = keeps-refl x.accepted

  out_keeps : (o : ℕ) (d : LaneStep) (xs : List ℕ) → Keeps xs (out_after o d xs)
  out_keeps o (Held i w y) xs = keeps-refl xs
  out_keeps o (Missed i w) xs = keeps-refl xs
  out_keeps o (Freed i c) xs = keeps-refl xs
  out_keeps o (OutHeld i w y) xs = keeps-refl xs
  out_keeps o (OutMissed i w) xs = keeps-refl xs
  out_keeps o (OutFreed i) xs = keeps-refl xs
  out_keeps o (Given i from id place) xs = pick i o (xs ++ id ∷ []) xs (Keeps xs)
      (λ _. keeps-more xs (xs ++ id ∷ []) (id ∷ []) refl) (λ _. keeps-refl xs)
  out_keeps o (Retired i f) xs = keeps-refl xs

  keeps-on : (xs ys zs : List ℕ) → Keeps xs ys → Keeps ys zs → Keeps xs zs
  keeps-on xs ys zs a b = let n = a.0 in let m =
      b.0 in (omega arith, λ i x at. b.1 i x (a.1 i x at))

  pub lanes_grow : (new old : Order) (l : ℕ) → Keeps (lane about l old).accepted
      (lane about l (new ++ old)).accepted
  lanes_grow [] old l = keeps-refl (lane about l old).accepted
  lanes_grow (e ∷ es) old l = keeps-on (lane about l old).accepted
      (lane about l (es ++ old)).accepted _ (lanes_grow es old l)
      (lane_keeps l e.step (lane about l (es ++ old)))

  pub outs_grow : (new old : Order) (o : ℕ) → Keeps (out o old) (out o (new ++ old))
  outs_grow [] old o = keeps-refl (out o old)
  outs_grow (e ∷ es) old o = keeps-on (out o old) (out o (es ++ old)) _ (outs_grow es old o)
      (out_keeps o e.step (out o (es ++ old)))

  pub lawful_before : (new old : Order) → AreLawful about (new ++ old) → AreLawful about old
  lawful_before [] old lawful = lawful
  lawful_before (e ∷ es) old lawful = lawful_before es old lawful.1

  -- ---- each delivery

  -- the delivery stands at its place of its out lane
  abbrev Stands : Order → Delivery → Type 0
  Stands es g = (0 < g.place) × (slice_get (out g.to es) (g.place - 1) ≡ Some g.id)

  abbrev pub Each : (Delivery → Type 0) → List Delivery → Type 0
  Each P [] = Unit {0}
  Each P (g ∷ gs) = P g × Each P gs

  each-weaker : (P Q : Delivery → Type 0) → ((g : Delivery) → P g → Q g) → (gs : List Delivery)
      → Each P gs → Each Q gs
  each-weaker P Q f [] t = tt
  each-weaker P Q f (g ∷ gs) t = (f g t.0, each-weaker P Q f gs t.1)

  given_place : (p o from id place : ℕ) (es : Order) → AreLawful about es → MayCome about p es
      (Given o from id place) → place ≡ length (out o es) + 1
  given_place p o from id place es lawful may = let found =
      (out_holds about es lawful o p may.2.0 may.2.1).1 in may.2.3
      ∙ ap (λ (z : OutList). length z.items + 1) (sym found)

  stands_more : (e : StepBy LaneStep) (es : Order) (g : Delivery) → Stands es g → Stands (e ∷ es) g
  stands_more e es g t = (t.0, (out_keeps g.to e.step (out g.to es)).1 (g.place - 1) g.id t.1)

  pub stands : (es : Order) → AreLawful about es → (l : ℕ) → Each (Stands es) (delivered_from l es)
  stands [] lawful l = tt
  stands (e ∷ es) lawful l = by_step e.by e.step lawful.0 (stands es lawful.1 l)
    where
      by_step : (p : ℕ) (d : LaneStep) → MayCome about p es d → Each (Stands es)
          (delivered_from l es)
          → Each (Stands (step_by p d ∷ es)) (given_after l d (delivered_from l es))
      by_step p (Held i w x) may t = each-weaker (Stands es) (Stands (step_by p (Held i w x) ∷ es))
          (stands_more (step_by p (Held i w x)) es) (delivered_from l es) t
      by_step p (Missed i w) may t = each-weaker (Stands es) (Stands (step_by p (Missed i w) ∷ es))
          (stands_more (step_by p (Missed i w)) es) (delivered_from l es) t
      by_step p (Freed i c) may t = each-weaker (Stands es) (Stands (step_by p (Freed i c) ∷ es))
          (stands_more (step_by p (Freed i c)) es) (delivered_from l es) t
      by_step p (OutHeld i w x) may t = each-weaker (Stands es)
          (Stands (step_by p (OutHeld i w x) ∷ es)) (stands_more (step_by p (OutHeld i w x)) es)
          (delivered_from l es) t
      by_step p (OutMissed i w) may t = each-weaker (Stands es)
          (Stands (step_by p (OutMissed i w) ∷ es)) (stands_more (step_by p (OutMissed i w)) es)
          (delivered_from l es) t
      by_step p (OutFreed i) may t = each-weaker (Stands es) (Stands (step_by p (OutFreed i) ∷ es))
          (stands_more (step_by p (OutFreed i)) es) (delivered_from l es) t
      by_step p (Retired i f) may t = each-weaker (Stands es)
          (Stands (step_by p (Retired i f) ∷ es)) (stands_more (step_by p (Retired i f)) es)
          (delivered_from l es) t
      by_step p (Given o from id place) may t =
          let rest = each-weaker (Stands es) (Stands (step_by p (Given o from id place) ∷ es))
          (stands_more (step_by p (Given o from id place)) es) (delivered_from l es) t in
          let at = given_place p o from id place es lawful.1 may in
          let index : place - 1 ≡ length (out o es) = omega arith in
          let here : slice_get (out o (step_by p (Given o from id place) ∷ es)) (place - 1) ≡ Some
          id = (λ k. slice_get (if_same o o (out o es ++ id ∷ []) (out o es) refl k) (index k))
          ∙ get-last (out o es) id in
          pick from l (delivery o id place ∷ delivered_from l es) (delivered_from l es)
          (Each (Stands (step_by p (Given o from id place) ∷ es)))
          (λ _. ((omega arith, here), rest)) (λ _. rest)

  -- ---- the n-th delivery is of the n-th accepted packet

  abbrev pub waiting : Phase → ℕ
  waiting idle = 0
  waiting (has_pulled id) = 1
  waiting gave = 0

  abbrev pub gone : Phase → ℕ
  gone idle = 0
  gone (has_pulled id) = 0
  gone gave = 1

  abbrev pub IdsAre : List Delivery → List ℕ → Type 0
  IdsAre [] acc = Unit {0}
  IdsAre (g ∷ gs) acc = (slice_get acc (length gs) ≡ Some g.id) × IdsAre gs acc

  abbrev pub Waits : List Delivery → Phase → List ℕ → Type 0
  Waits gs idle acc = Unit {0}
  Waits gs (has_pulled id) acc = slice_get acc (length gs) ≡ Some id
  Waits gs gave acc = Unit {0}

  abbrev Ok : List Delivery → Phase → ℕ → LaneLists → Type 0
  Ok gs o r x = (x.pulled ≡ length gs + waiting o) × (length gs ≡ r + gone o) × IdsAre gs x.accepted
      × Waits gs o x.accepted

  abbrev pub Facts : ℕ → Order → Type 0
  Facts l es = Ok (delivered_from l es) (phase l (steps_of (puller about l) es)) (retired l es)
      (lane about l es)

  ids_more : (gs : List Delivery) (xs ys : List ℕ) → Keeps xs ys → IdsAre gs xs → IdsAre gs ys
  ids_more [] xs ys k t = tt
  ids_more (g ∷ gs) xs ys k t = (k.1 (length gs) g.id t.0, ids_more gs xs ys k t.1)

  waits_more : (gs : List Delivery) (o : Phase) (xs ys : List ℕ) → Keeps xs ys → Waits gs o xs
      → Waits gs o ys
  waits_more gs idle xs ys k t = tt
  waits_more gs (has_pulled i) xs ys k t = k.1 (length gs) i t
  waits_more gs gave xs ys k t = tt

  put_pulled : (x : LaneLists) (id : ℕ) (hash : Option ℕ) → (after_put x id hash).pulled ≡ x.pulled
  put_pulled x id hash = by_cause (lane_drop_cause x hash)
    where
      by_cause : (cause : Option DropCause) → (put_by cause x id (bucket_of hash)).pulled ≡ x.pulled
      by_cause None = refl
      by_cause (Some cause) = refl

  -- a step that neither pulls from, delivers from nor retires at the lane l
  quiet : (l q : ℕ) (d : LaneStep) (es : Order) → ((o : Phase) → phase_after l d o ≡ o)
      → given_after l d (delivered_from l es) ≡ delivered_from l es → retired_after l d
      (retired l es) ≡ retired l es
      → (lane_after_step l d (lane about l es)).pulled ≡ (lane about l es).pulled → Facts l es
      → Facts l (step_by q d ∷ es)
  quiet l q d es a b c same t =
      let y : LaneLists = lane_after_step l d (lane about l es) in
      let k = lane_keeps l d (lane about l es) in
      let now :
      Ok (delivered_from l es) (phase l (steps_of (puller about l) es)) (retired l es) y = (
        same ∙ t.0,
        t.1,
        ids_more (delivered_from l es) (lane about l es).accepted y.accepted k t.2,
        waits_more (delivered_from l es) (phase l (steps_of (puller about l) es))
            (lane about l es).accepted y.accepted k t.3,
      ) in
      subst (λ (z : Phase × (List Delivery × ℕ)). Ok z.1.0 z.0 z.1.1 y)
      (λ i. (sym (phase_same about l q d es a) i, (sym b i, sym c i))) now

  facts_step : (l q : ℕ) (d : LaneStep) (es : Order) → MayCome about q es d → AreLawful about es
      → Facts l es → Facts l (step_by q d ∷ es)
  facts_step l q (Held i w x) es may lawful t = quiet l q (Held i w x) es (λ _. refl) refl refl refl
      t
  facts_step l q (Missed i w) es may lawful t = quiet l q (Missed i w) es (λ _. refl) refl refl refl
      t
  facts_step l q (Freed i Nothing) es may lawful t = quiet l q (Freed i Nothing) es (λ _. refl) refl
      refl (pick i l (lane about l es) (lane about l es)
      (λ (x : LaneLists). x.pulled ≡ (lane about l es).pulled) (λ _. refl) (λ _. refl)) t
  facts_step l q (Freed i (Offered id hash answer)) es may lawful t = quiet l q
      (Freed i (Offered id hash answer)) es (λ _. refl) refl refl
      (pick i l (after_put (lane about l es) id hash) (lane about l es)
      (λ (x : LaneLists). x.pulled ≡ (lane about l es).pulled)
      (λ _. put_pulled (lane about l es) id hash) (λ _. refl)) t
  facts_step l q (Freed i (Pulled id)) es may lawful t = dite (ℕ_discrete i l)
      (λ e.
      let found = (holds about es lawful i q may.1.0 may.1.1).1 in let x : LaneLists =
      lane about l es in
      let same : x ≡ may.1.0 = ap (λ (z : ℕ). lane about z es) (sym e) ∙ found in
      let by : q ≡ puller about l = sym may.1.2.0 ∙ ap (puller about) e in
      let was : phase l (steps_of (puller about l) es) ≡ idle =
      (λ k. phase (sym e k) (steps_of (sym by k) es)) ∙ may.1.2.2 in
      let now : phase l (steps_of (puller about l) (step_by q (Freed i (Pulled id)) ∷ es)) ≡
      has_pulled id = ap (phase l) (steps_of_own (puller about l) q (Freed i (Pulled id)) es by)
      ∙ if_same i l (has_pulled id) (phase l (steps_of (puller about l) es)) e in
      let a : x.pulled ≡ length (delivered_from l es) + 0 =
      t.0 ∙ ap (λ o. length (delivered_from l es) + waiting o)
      was in
      let b : length (delivered_from l es) ≡ retired l es + 0 =
      t.1 ∙ ap (λ o. retired l es + gone o) was in
      let there : slice_get x.accepted x.pulled ≡ Some id =
      subst (λ (z : LaneLists). slice_get z.accepted z.pulled ≡ Some id) (sym same) may.1.2.1 in
      let n : length (delivered_from l es) ≡ x.pulled = omega arith in
      let here : slice_get x.accepted (length (delivered_from l es)) ≡ Some id =
      ap (slice_get x.accepted) n
      ∙ there in
      subst (λ (z : Phase × LaneLists). Ok (delivered_from l es) z.0 (retired l es) z.1)
      (λ k. (sym now k, sym (if_same i l (lane_changed (Pulled id) x) x e) k))
      (omega arith, omega arith, t.2, here))
      (λ ne. quiet l q (Freed i (Pulled id)) es (λ o. if_other i l (has_pulled id) o ne) refl refl
      (ap (λ (x : LaneLists). x.pulled) (if_other i l (lane_changed (Pulled id) (lane about l es))
      (lane about l es) ne)) t)
  facts_step l q (OutHeld i w x) es may lawful t = quiet l q (OutHeld i w x) es (λ _. refl) refl
      refl refl t
  facts_step l q (OutMissed i w) es may lawful t = quiet l q (OutMissed i w) es (λ _. refl) refl
      refl refl t
  facts_step l q (OutFreed i) es may lawful t = quiet l q (OutFreed i) es (λ _. refl) refl refl refl
      t
  facts_step l q (Given i from id place) es may lawful t = dite (ℕ_discrete from l)
      (λ e.
      let x : LaneLists = lane about l es in let g : Delivery = delivery i id place in
      let by : q ≡ puller about l = sym may.2.4 ∙ ap (puller about) e in
      let was : phase l (steps_of (puller about l) es) ≡ has_pulled id =
      (λ k. phase (sym e k) (steps_of (sym by k) es)) ∙ may.2.5 in
      let now : phase l (steps_of (puller about l) (step_by q (Given i from id place) ∷ es)) ≡
      gave = ap (phase l) (steps_of_own (puller about l) q (Given i from id place) es by)
      ∙ if_same from l gave (phase l (steps_of (puller about l) es)) e in
      let a : x.pulled ≡ length (delivered_from l es) + 1 =
      t.0 ∙ ap (λ o. length (delivered_from l es) + waiting o)
      was in
      let b : length (delivered_from l es) ≡ retired l es + 0 =
      t.1 ∙ ap (λ o. retired l es + gone o) was in
      let w : slice_get x.accepted (length (delivered_from l es)) ≡ Some id =
      subst (λ (o : Phase). Waits (delivered_from l es) o x.accepted) was t.3 in
      subst (λ (z : Phase × List Delivery). Ok z.1 z.0 (retired l es) x)
      (λ k. (sym now k, sym (if_same from l (g ∷ delivered_from l es) (delivered_from l es) e) k))
      (omega arith, omega arith, (w, t.2), tt))
      (λ ne. quiet l q (Given i from id place) es (λ o. if_other from l gave o ne)
      (if_other from l (delivery i id place ∷ delivered_from l es) (delivered_from l es) ne) refl
      refl t)
  facts_step l q (Retired i f) es may lawful t = dite (ℕ_discrete i l)
      (λ e.
      let x : LaneLists = lane about l es in
      let by : q ≡ puller about l = sym may.2 ∙ ap (puller about) e in
      let was : phase l (steps_of (puller about l) es) ≡ gave =
      (λ k. phase (sym e k) (steps_of (sym by k) es)) ∙ may.3 in
      let now : phase l (steps_of (puller about l) (step_by q (Retired i f) ∷ es)) ≡ idle =
      ap (phase l) (steps_of_own (puller about l) q (Retired i f) es by) ∙ if_same i l idle
      (phase l (steps_of (puller about l) es)) e in
      let a : x.pulled ≡ length (delivered_from l es) + 0 =
      t.0 ∙ ap (λ o. length (delivered_from l es) + waiting o)
      was in
      let b : length (delivered_from l es) ≡ retired l es + 1 =
      t.1 ∙ ap (λ o. retired l es + gone o) was in
      subst (λ (z : Phase × ℕ). Ok (delivered_from l es) z.0 z.1 x)
      (λ k. (sym now k, sym (if_same i l (retired l es + 1) (retired l es) e) k))
      (omega arith, omega arith, t.2, tt))
      (λ ne. quiet l q (Retired i f) es (λ o. if_other i l idle o ne) refl
      (if_other i l (retired l es + 1) (retired l es) ne) refl t)

  pub facts : (es : Order) → AreLawful about es → (l : ℕ) → Facts l es
  facts [] lawful l = (refl, refl, tt, tt)
  facts (e ∷ es) lawful l = facts_step l e.by e.step es lawful.0 lawful.1 (facts es lawful.1 l)

  -- ---- what is delivered after some steps has a place above all that lay in its out lane then

  abbrev Above : Order → Delivery → Type 0
  Above old g = length (out g.to old) < g.place

  abbrev Later : Order → Order → ℕ → Type 0
  Later new old l = (more : List Delivery) × (delivered_from l (new ++ old) ≡ more
      ++ delivered_from l old)
      × Each (Above old) more

  pub later : (new old : Order) → AreLawful about (new ++ old) → (l : ℕ) → Later new old l
  later [] old lawful l = ([], refl, tt)
  later (e ∷ es) old lawful l = by_step e.by e.step lawful.0 (later es old lawful.1 l)
    where
      by_step : (p : ℕ) (d : LaneStep) → MayCome about p (es ++ old) d → Later es old l
          → (more : List Delivery) × (given_after l d (delivered_from l (es ++ old)) ≡ more
          ++ delivered_from l old)
          × Each (Above old) more
      by_step p (Held i w x) may t = t
      by_step p (Missed i w) may t = t
      by_step p (Freed i c) may t = t
      by_step p (OutHeld i w x) may t = t
      by_step p (OutMissed i w) may t = t
      by_step p (OutFreed i) may t = t
      by_step p (Retired i f) may t = t
      by_step p (Given o from id place) may t = dite (ℕ_discrete from l)
          (λ same. let g : Delivery = delivery o id place in
          let at = given_place p o from id place (es ++ old) lawful.1 may in let more =
          (outs_grow es old o).0 in (
            g ∷ t.0,
            if_same from l (g ∷ delivered_from l (es ++ old)) (delivered_from l (es ++ old)) same
                ∙ ap (λ gs. g ∷ gs) t.1,
            (omega arith, t.2),
          ))
          (λ other. (
            t.0,
            if_other from l (delivery o id place ∷ delivered_from l (es ++ old))
                (delivered_from l (es ++ old)) other ∙ t.1,
            t.2,
          ))

module _ (about : BoardSizes) (P : Delivery → Type 0) where
  pub nth-each : (gs : List Delivery) → Each about P gs → (k : ℕ) (g : Delivery)
      → nth_step gs k ≡ Some g → P g
  nth-each [] all k g at = none-some g at
  nth-each (x ∷ xs) all k g at = dite (ℕ_discrete (length xs) k)
      (λ e. subst P (some-is x g (sym (if_same (length xs) k (Some x) (nth_step xs k) e) ∙ at))
      all.0)
      (λ ne. nth-each xs all.1 k g (sym (if_other (length xs) k (Some x) (nth_step xs k) ne) ∙ at))

  nth-new : (more gs : List Delivery) → Each about P more → (k : ℕ) (g : Delivery)
      → nth_step (more ++ gs) k ≡ Some g → length gs ≤ k → P g
  nth-new [] gs all k g at l = let r = nth-inside gs k g at in absurd (omega arith)
  nth-new (x ∷ xs) gs all k g at l = dite (ℕ_discrete (length (xs ++ gs)) k)
      (λ e. subst P (some-is x g
      (sym (if_same (length (xs ++ gs)) k (Some x) (nth_step (xs ++ gs) k) e) ∙ at)) all.0)
      (λ ne. nth-new xs gs all.1 k g
      (sym (if_other (length (xs ++ gs)) k (Some x) (nth_step (xs ++ gs) k) ne) ∙ at) l)

module _ (about : BoardSizes) where
  -- the packet of the delivery k of a lane is its accepted packet k
  pub ids_at : (gs : List Delivery) (acc : List ℕ) → IdsAre about gs acc → (k : ℕ) (g : Delivery)
      → nth_step gs k ≡ Some g → slice_get acc k ≡ Some g.id
  ids_at [] acc t k g at = none-some g at
  ids_at (x ∷ xs) acc t k g at = dite (ℕ_discrete (length xs) k)
      (λ e. ap (slice_get acc) (sym e)
      ∙ (t.0 ∙ ap (λ (d : Delivery). Some d.id)
      (some-is x g (sym (if_same (length xs) k (Some x) (nth_step xs k) e) ∙ at))))
      (λ ne. ids_at xs acc t.1 k g (sym (if_other (length xs) k (Some x) (nth_step xs k) ne) ∙ at))

  -- The head of the lane a showed over j retires after the steps `old`. A packet at the place k of
  -- a lane b that was not
  -- there then has in its out lane a higher place than the packet j of a, which was delivered.
  pub passing : (new old : List (StepBy LaneStep)) → AreLawful about (new ++ old)
      → (a b k j : ℕ) (g : Delivery)
      → count about b old ≤ k → nth_step (delivered_from b (new ++ old)) k ≡ Some g
      → j < retired a old
      → (g' : Delivery) × (nth_step (delivered_from a (new ++ old)) j ≡ Some g')
      × (g'.to ≡ g.to → g'.place < g.place)
  passing new old lawful a b k j g since at gone_j =
      let before = lawful_before about new old lawful in
      let more_a = later about new old lawful a in let more_b = later about new old lawful b in
      let fb = facts about old before b in let fa = facts about old before a in let cb =
      counted about old before b in
      let pulled_b = fb.0 in let within_b = cb.1 in let old_b : length (delivered_from b old) ≤ k =
      omega arith in
      let high = nth-new about (λ (d : Delivery). length (out d.to old) < d.place) more_b.0
      (delivered_from b old) more_b.2 k g (ap (λ l. nth_step l k) (sym more_b.1) ∙ at) old_b in
      let gone_a = fa.1 in let old_a : j < length (delivered_from a old) = omega arith in
      let one = nth-some (delivered_from a old) j old_a in
      let g' : Delivery = one.0 in
      let stood = nth-each about
      (λ (d : Delivery). (0 < d.place) × (slice_get (out d.to old) (d.place - 1) ≡ Some d.id))
      (delivered_from a old) (stands about old before a) j g' one.1 in
      let low = (get-inside (out g'.to old) (g'.place - 1) g'.id stood.1).0 in
      let pos = stood.0 in (
        g',
        ap (λ l. nth_step l j) more_a.1 ∙ (nth-old more_a.0 (delivered_from a old) j old_a ∙ one.1),
        λ same. let high' : length (out g'.to old) < g.place =
            subst (λ (o : ℕ). length (out o old) < g.place) (sym same) high in omega arith,
      )

  -- along the deliveries of one lane the places in one out lane rise
  abbrev Below : Delivery → Delivery → Type 0
  Below g d = d.to ≡ g.to → d.place < g.place

  abbrev pub Rises : List Delivery → Type 0
  Rises [] = Unit {0}
  Rises (g ∷ gs) = Each about (Below g) gs × Rises gs

  pub rises : (es : List (StepBy LaneStep)) → AreLawful about es → (l : ℕ)
      → Rises (delivered_from l es)
  rises [] lawful l = tt
  rises (e ∷ es) lawful l = by_step e.by e.step lawful.0 (rises es lawful.1 l)
    where
      by_step : (p : ℕ) (d : LaneStep) → MayCome about p es d → Rises (delivered_from l es)
          → Rises (given_after l d (delivered_from l es))
      by_step p (Held i w x) may t = t
      by_step p (Missed i w) may t = t
      by_step p (Freed i c) may t = t
      by_step p (OutHeld i w x) may t = t
      by_step p (OutMissed i w) may t = t
      by_step p (OutFreed i) may t = t
      by_step p (Retired i f) may t = t
      by_step p (Given o from id place) may t = let g : Delivery = delivery o id place in
          let at = given_place about p o from id place es lawful.1 may in
          pick from l (g ∷ delivered_from l es) (delivered_from l es) Rises
          (λ _. (
            each-weaker about (λ (d : Delivery). (0 < d.place)
                × (slice_get (out d.to es) (d.place - 1) ≡ Some d.id)) (Below g)
                (λ d stood same. let low =
                (get-inside (out d.to es) (d.place - 1) d.id stood.1).0 in let pos = stood.0 in
                let low' : d.place - 1 < length (out o es) =
                subst (λ (z : ℕ). d.place - 1 < length (out z es)) same low in omega arith)
                (delivered_from l es) (stands about es lawful.1 l),
            t,
          ))
          (λ _. t)

  -- of two packets of one lane the earlier was delivered too, with the lower place in one out lane
  pub same_lane : (gs : List Delivery) → Rises gs → (j k : ℕ) (g : Delivery) → j < k
      → nth_step gs k ≡ Some g → (g' : Delivery) × (nth_step gs j ≡ Some g')
      × (g'.to ≡ g.to → g'.place < g.place)
  same_lane [] r j k g l at = none-some g at
  same_lane (x ∷ xs) r j k g l at = dite (ℕ_discrete (length xs) k)
      (λ e. let is : x ≡ g = some-is x g (sym (if_same (length xs) k (Some x) (nth_step xs k) e)
      ∙ at) in
      let one = nth-some xs j (omega arith) in
      let low = nth-each about (Below x) xs r.0 j one.0 one.1 in (
        one.0,
        if_other (length xs) j (Some x) (nth_step xs j) (λ h. absurd (omega arith)) ∙ one.1,
        λ same. subst (λ (z : Delivery). one.0.place < z.place) is
            (low (same ∙ ap (λ (z : Delivery). z.to) (sym is))),
      ))
      (λ ne. let at' = sym (if_other (length xs) k (Some x) (nth_step xs k) ne) ∙ at in let inside =
      nth-inside xs k g at' in
      let t = same_lane xs r.1 j k g l at' in
      (t.0, if_other (length xs) j (Some x) (nth_step xs j) (λ h. absurd (omega arith)) ∙ t.1, t.2))

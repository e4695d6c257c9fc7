-- A put keeps the offers of a lane and the causes of its drops.
use Rattle.std.proofs.Common.{ℕ, suc, ◌+◌, ◌<◌, ◌≤◌, ◌≡◌, ◌≢◌, Bool, true, false, List, [], ◌∷◌}
use Rattle.std.proofs.Common.{◌++◌, length, slice_get, Option, Some, None, arith, refl, sym, ap}
use Rattle.std.proofs.Common.{◌∙◌, subst, inl, inr, length-append, append_assoc}
use Rattle.std.specs.Prelude.{nat_lt, if◌then◌else◌}
use Rattle.std.specs.List.{All}
use Rattle.std.proofs.lemmas.Bool.{eq-eqb, ne_eqb}
use Rattle.std.proofs.lemmas.Bool.Decides.{eqb_tells}
use Rattle.std.proofs.lemmas.List.{map-append, take-append-le, take_all}
use Rattle.std.proofs.lemmas.List.Elements.{All-append}
use Rattle.std.proofs.lemmas.Option.{slice_get_within, get_or_from_slice_get}
use Rattle.circular_buffer.proofs.Places.{below_or_not, slice_get-append_left, slice_get-last}
use Rattle.steer_base.specs.Drops.{bucket_of, dropped_after, lane_drop_cause, offers_from}
use Rattle.steer_base.specs.Drops.{offers_of}
use Rattle.steer_base.specs.Lanes.{LaneLists}
use Rattle.steer_base.specs.declared.put.DropCause.{DropCause}
use Rattle.steer_base.specs.declared.put.LaneDrop.{LaneDrop}
use Rattle.backlog.specs.Offers.{AllExplained, AreOffers, IsExplained, buckets_of}
use Rattle.backlog.specs.Puts.{after_take, put_by}

-- no drop counted n packets
none_after : (n : ℕ) (drops : List LaneDrop) → All (λ d. d.accepted < n) drops
    → dropped_after n drops ≡ []
none_after n [] few = refl
none_after n (d ∷ ds) few =
    let here : d.accepted < n = few 0 d (omega arith) in
    let rest : All (λ e. e.accepted < n) ds = λ k e h. few (suc k) e (omega arith) in
    rw (ne_eqb d.accepted n (λ e. omega arith)) (none_after n ds rest)

-- a packet more is accepted after all drops
offers_from-accepted : (n x : ℕ) (xs : List ℕ) (drops : List LaneDrop)
    → All (λ d. d.accepted < n + length xs + 1) drops
    → offers_from n (xs ++ x ∷ []) drops ≡ offers_from n xs drops ++ x ∷ []
offers_from-accepted n x [] drops few =
    let few' : All (λ d. d.accepted < n + 1) drops = λ k d h. omega (arith, few k d h) in
    ap (λ l. dropped_after n drops ++ x ∷ l) (none_after (n + 1) drops few')
offers_from-accepted n x (y ∷ ys) drops few =
    let few' : All (λ d. d.accepted < n + 1 + length ys + 1) drops =
    λ k d h. omega (arith, few k d h) in
    ap (λ l. dropped_after n drops ++ y ∷ l) (offers_from-accepted (n + 1) x ys drops few')
    ∙ sym (append_assoc (dropped_after n drops) (y ∷ offers_from (n + 1) ys drops) (x ∷ []))

dropped_after-other : (n : ℕ) (drops : List LaneDrop) (d : LaneDrop) → d.accepted ≢ n
    → dropped_after n (drops ++ d ∷ []) ≡ dropped_after n drops
dropped_after-other n [] d ne = rw (ne_eqb d.accepted n ne) refl
dropped_after-other n (e ∷ es) d ne =
    elim (eqb_tells e.accepted n) [
      | inl t ↦ rw t.0 (ap (λ l. e.id ∷ l) (dropped_after-other n es d ne))
      | inr t ↦ rw t.0 (dropped_after-other n es d ne)
    ]

dropped_after-same : (n : ℕ) (drops : List LaneDrop) (d : LaneDrop) → d.accepted ≡ n
    → dropped_after n (drops ++ d ∷ []) ≡ dropped_after n drops ++ d.id ∷ []
dropped_after-same n [] d e = rw (eq-eqb d.accepted n e) refl
dropped_after-same n (b ∷ bs) d e =
    elim (eqb_tells b.accepted n) [
      | inl t ↦ rw t.0 (ap (λ l. b.id ∷ l) (dropped_after-same n bs d e))
      | inr t ↦ rw t.0 (dropped_after-same n bs d e)
    ]

-- a packet more is dropped after all that are accepted
offers_from-dropped : (n : ℕ) (xs : List ℕ) (drops : List LaneDrop) (d : LaneDrop)
    → d.accepted ≡ n + length xs
    → offers_from n xs (drops ++ d ∷ []) ≡ offers_from n xs drops ++ d.id ∷ []
offers_from-dropped n [] drops d e = dropped_after-same n drops d (omega arith)
offers_from-dropped n (x ∷ xs) drops d e =
    rw (dropped_after-other n drops d (λ same. omega arith))
    (ap (λ l. dropped_after n drops ++ x ∷ l) (offers_from-dropped (n + 1) xs drops d (omega arith))
    ∙ sym (append_assoc (dropped_after n drops) (x ∷ offers_from (n + 1) xs drops) (d.id ∷ [])))

within_counts : (hash : ℕ → Option ℕ) (l : LaneLists) (k : ℕ) (d : LaneDrop) → AreOffers hash l
    → slice_get l.drops k ≡ Some d
    → d.accepted ≤ length l.accepted
within_counts hash l k d h e =
    let P : LaneDrop → Type 0 = λ b. b.accepted ≤ length l.accepted in
    subst P (get_or_from_slice_get l.drops k d d e) (h.counts k d (slice_get_within l.drops k d e))

pub AreOffers-put : (hash : ℕ → Option ℕ) (l : LaneLists) (id : ℕ) (cause : Option DropCause)
    → AreOffers hash l
    → AreOffers hash (put_by cause l id (bucket_of (hash id)))
AreOffers-put hash l id None h = record {
  buckets =
      ap (λ offers. offers ++ bucket_of (hash id) ∷ []) h.buckets
      ∙ sym (map-append (λ x. bucket_of (hash x)) (offers_of l.accepted l.drops) (id ∷ []))
      ∙ sym (ap (buckets_of hash) (offers_from-accepted 0 id l.accepted l.drops
      (λ k d less. omega (arith, h.counts k d less))));
  counts = λ k d less. omega (arith, h.counts k d less, length-append l.accepted (id ∷ []));
}
AreOffers-put hash l id (Some cause) h =
    let fell : LaneDrop = record {
      id = id;
      accepted = length l.accepted;
      pulled = l.pulled;
      cause = cause;
    } in
    record {
      buckets =
          ap (λ offers. offers ++ bucket_of (hash id) ∷ []) h.buckets
          ∙ sym (map-append (λ x. bucket_of (hash x)) (offers_of l.accepted l.drops) (id ∷ []))
          ∙ sym (ap (buckets_of hash) (offers_from-dropped 0 l.accepted l.drops fell
          (omega arith)));
      counts = All-append (λ d. d.accepted ≤ length l.accepted) l.drops (fell ∷ []) h.counts
          (one fell (omega arith));
    }
  where
    one : (fell : LaneDrop) → fell.accepted ≤ length l.accepted
        → All (λ d. d.accepted ≤ length l.accepted) (fell ∷ [])
    one fell small = λ k d less. let first : k ≡ 0 = omega arith in rw first small

-- a drop of before has the offers before it that it had
still_explained : (hash : ℕ → Option ℕ) (l : LaneLists) (k : ℕ) (d : LaneDrop) (more : List ℕ)
    (fell : List LaneDrop)
    (offers : List (Option ℕ)) → d.accepted ≤ length l.accepted → k ≤ length l.drops
    → IsExplained hash l k d
    → IsExplained hash (record l {
      accepted = l.accepted ++ more;
      drops = l.drops ++ fell;
      offers = offers;
    }) k d
still_explained hash l k d more fell offers few less is =
    rw (take-append-le d.accepted l.accepted more few, take-append-le k l.drops fell less) is

pub AllExplained-put : (hash : ℕ → Option ℕ) (l : LaneLists) (id : ℕ) (cause : Option DropCause)
    → lane_drop_cause l (hash id) ≡ cause
    → AreOffers hash l → AllExplained hash l → AllExplained hash
    (put_by cause l id (bucket_of (hash id)))
AllExplained-put hash l id None is h all = λ k d e.
    rw (take-append-le d.accepted l.accepted (id ∷ []) (within_counts hash l k d h e)) (all k d e)
AllExplained-put hash l id (Some cause) is h all = λ k d e.
    let fell : LaneDrop = record {
      id = id;
      accepted = length l.accepted;
      pulled = l.pulled;
      cause = cause;
    } in
    elim (below_or_not k (length l.drops)) [
      | inl less ↦
          let was : slice_get l.drops k ≡ Some d =
          sym (slice_get-append_left l.drops (fell ∷ []) k less) ∙ e in
          rw (take-append-le k l.drops (fell ∷ []) (omega arith)) (all k d was)
      | inr more ↦
          let within : k < length (l.drops ++ fell ∷ []) =
          slice_get_within (l.drops ++ fell ∷ []) k d e in
          let last : k ≡ length l.drops = omega (arith, length-append l.drops (fell ∷ [])) in
          let this : Some fell ≡ Some d = sym (slice_get-last l.drops fell k last) ∙ e in
          let same : fell ≡ d = cc in
          subst (IsExplained hash (put_by (Some cause) l id (bucket_of (hash id))) k) same
          (rw (
            take-append-le k l.drops (fell ∷ []) (omega arith),
            take_all k l.drops (omega arith),
            take_all (length l.accepted) l.accepted (omega arith),
            ← h.buckets,
          ) is)
    ]

taken : (hash : ℕ → Option ℕ) (l : LaneLists) (some : Bool) → AllExplained hash l
    → AllExplained hash (if some then record l { pulled = l.pulled + 1 } else l)
taken hash l true all = all
taken hash l false all = all

pub AllExplained-take : (hash : ℕ → Option ℕ) (l : LaneLists) → AllExplained hash l
    → AllExplained hash (after_take l)
AllExplained-take hash l all = taken hash l (nat_lt l.pulled (length l.accepted)) all

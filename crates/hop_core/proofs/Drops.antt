-- Each drop has its cause, and ample lanes drop nothing.
use Rattle.std.proofs.Common.{ℕ, ◌+◌, ◌-◌, ◌<◌, ◌≡◌, ◌≢◌, Bool, false, List, [], ◌∷◌, ◌++◌, Option}
use Rattle.std.proofs.Common.{Some, None, length, refl, ◌∙◌, sym, subst, arith, inl, inr, get_or}
use Rattle.std.proofs.Common.{map}
use Rattle.std.specs.Option.{option_map}
use Rattle.std.specs.Prelude.{slice_index}
use Rattle.std.proofs.lemmas.Bool.{cases_eq, ne_eqb}
use Rattle.std.proofs.Math.ListN.{length-replicate}
use Rattle.steer_base.specs.Drops.{bucket_count, bucket_of, drop_cause, flow_cause, lane_drop_cause}
use Rattle.steer_base.specs.Lanes.{LaneLists}
use Rattle.steer_base.specs.Sets.{has}
use Rattle.steer_base.specs.declared.put.DropCause.{DropCause}
use Rattle.steer_base.specs.declared.put.LaneDrop.{LaneDrop}
use Rattle.backlog.specs.Offers.{AreOffers, AllExplained}
use Rattle.backlog.specs.Puts.{put_by}
use Rattle.backlog.proofs.ExplainedLemmas.{AreOffers-put, AllExplained-put}
use Rattle.hop_model.specs.declared.event.HopEvent.{HopEvent}
use Rattle.hop_model.specs.declared.event.HopEvent.TheVariants as event
use Rattle.hop_model.specs.Hop.{Fixed, Bare, HopState, accepted_at, offers_at, drops_at, fell_at}
use Rattle.hop_model.specs.Hop.{pulled_at, arrivals_of, choices_of, placed_of, in_hand, lane_of}
use Rattle.hop_model.specs.Hop.{landed}
use Rattle.hop_model.specs.Events.{happens, AllMayAsk, run}
use Rattle.hop_model.specs.Shape.{classes_for, fixed_of, fresh_hop, new_hop}
use Rattle.hop_model.specs.Sound.{Puts, Sound}
use Rattle.hop_core.specs.Laws.{IsHashed, AllHashed, DropsExplained, ExplainsDrops}
use Rattle.hop_core.specs.Laws.{EachExplainsDrops, NeverDrops, Ample, EachKeepsAmple, FreshIsAmple}
use Rattle.hop_core.specs.Laws.{FreshIsExplained}
use Rattle.hop_core.proofs.Lists.{Changed-set}
use Rattle.hop_core.proofs.Cases.{Enabled, by_cases}
use Rattle.hop_core.proofs.ProducerSteps.{in_hand_absent}
use Rattle.hop_core.proofs.PutSteps.{put_as}
use Rattle.hop_core.proofs.Rooms.{room_for}
use Rattle.hop_core.proofs.New.{at_new, Sound-new}
use Rattle.hop_core.proofs.Sizes.{Sizes-happens}
use Rattle.hop_core.proofs.AllSteps.{Sound-happens}

-- ---- the lane that is put to, and the others

pub lane-landed : (f : Fixed) (b : Bare) (cause : Option DropCause) (c x : ℕ) (bucket : Option ℕ)
    → c < length b.accepted
    → length b.offers ≡ length b.accepted → length b.drops ≡ length b.accepted
    → lane_of f (landed cause b c x bucket) c ≡ put_by cause (lane_of f b c) x bucket
lane-landed f b None c x bucket in' offers drops =
    let a = (Changed-set b.accepted c (accepted_at b c ++ x ∷ []) [] in').here in
    let o = (Changed-set b.offers c (offers_at b c ++ bucket ∷ []) [] (omega arith)).here in
    rw (a, o) refl
lane-landed f b (Some cause) c x bucket in' offers drops =
    let r : LaneDrop = record {
      id = x;
      accepted = length (accepted_at b c);
      pulled = pulled_at b c;
      cause = cause;
    } in
    let d = (Changed-set b.drops c (drops_at b c ++ r ∷ []) [] (omega arith)).here in
    let o = (Changed-set b.offers c (offers_at b c ++ bucket ∷ []) [] (omega arith)).here in
    rw (d, o) refl

pub lane-other : (f : Fixed) (b : Bare) (cause : Option DropCause) (c x : ℕ) (bucket : Option ℕ)
    → c < length b.accepted
    → length b.offers ≡ length b.accepted → length b.drops ≡ length b.accepted
    → (d : ℕ) → d ≢ c → lane_of f (landed cause b c x bucket) d ≡ lane_of f b d
lane-other f b None c x bucket in' offers drops d ne =
    let a = (Changed-set b.accepted c (accepted_at b c ++ x ∷ []) [] in').there d ne in
    let o = (Changed-set b.offers c (offers_at b c ++ bucket ∷ []) [] (omega arith)).there d ne in
    rw (a, o) refl
lane-other f b (Some cause) c x bucket in' offers drops d ne =
    let r : LaneDrop = record {
      id = x;
      accepted = length (accepted_at b c);
      pulled = pulled_at b c;
      cause = cause;
    } in
    let e = (Changed-set b.drops c (drops_at b c ++ r ∷ []) [] (omega arith)).there d ne in
    let o = (Changed-set b.offers c (offers_at b c ++ bucket ∷ []) [] (omega arith)).there d ne in
    rw (e, o) refl

-- ---- each drop has its cause

explained-landed : (hash : ℕ → Option ℕ) (s : HopState) (p : ℕ) (cause : Option DropCause) → Sound s
    → placed_of s p < length (choices_of s p)
    → lane_drop_cause (lane_of s.fixed s.bare (in_hand s p).choice.lane)
    (hash (in_hand s p).id) ≡ cause
    → DropsExplained hash s → DropsExplained hash
    (put_as s p cause (bucket_of (hash (in_hand s p).id)))
explained-landed hash s p cause h more is all =
    let c : ℕ = (in_hand s p).choice.lane in
    let x : ℕ = (in_hand s p).id in
    let l : LaneLists = lane_of s.fixed s.bare c in
    let lane : c < length s.bare.accepted = h.lanes p (placed_of s p) more in
    let here = lane-landed s.fixed s.bare cause c x (bucket_of (hash x)) lane h.wide.offers
    h.wide.drops in
    let there = lane-other s.fixed s.bare cause c x (bucket_of (hash x)) lane h.wide.offers
    h.wide.drops in
    record {
      offers = λ d. elim (cases_eq d c) [
        | inl e ↦ rw e (subst (AreOffers hash) (sym here) (AreOffers-put hash l x cause
            (all.offers c)))
        | inr ne ↦ subst (AreOffers hash) (sym (there d ne)) (all.offers d)
      ];
      causes = λ d. elim (cases_eq d c) [
        | inl e ↦ rw e (subst (AllExplained hash) (sym here) (AllExplained-put hash l x cause is
            (all.offers c) (all.causes c)))
        | inr ne ↦ subst (AllExplained hash) (sym (there d ne)) (all.causes d)
      ];
    }

explained-put : (hash : ℕ → Option ℕ) (s : HopState) (p : ℕ) (h : Option ℕ) → Sound s
    → placed_of s p < length (choices_of s p) → h ≡ hash (in_hand s p).id
    → DropsExplained hash s → DropsExplained hash
    (put_as s p (lane_drop_cause (lane_of s.fixed s.bare (in_hand s p).choice.lane) h)
    (bucket_of h))
explained-put hash s p h sound more own all =
    subst (λ g. DropsExplained hash
    (put_as s p (lane_drop_cause (lane_of s.fixed s.bare (in_hand s p).choice.lane) g)
    (bucket_of g))) (sym own)
    (explained-landed hash s p (lane_drop_cause (lane_of s.fixed s.bare (in_hand s p).choice.lane)
    (hash (in_hand s p).id)) sound more refl all)

-- a lane with the same lists, whatever was pulled
same_lists : (hash : ℕ → Option ℕ) (s t : HopState) → t.fixed ≡ s.fixed
    → t.bare.accepted ≡ s.bare.accepted → t.bare.offers ≡ s.bare.offers
    → t.bare.drops ≡ s.bare.drops
    → DropsExplained hash s → DropsExplained hash t
same_lists hash s t f a o d all =
    record {
      offers = λ c. record {
        buckets = rw (a, o, d) (all.offers c).buckets;
        counts = rw (a, d) (all.offers c).counts;
      };
      causes = λ c. rw (f, a, d) (all.causes c);
    }

explained-enabled : (hash : ℕ → Option ℕ) (s : HopState) (e : HopEvent) → IsHashed hash s e
    → Sound s → DropsExplained hash s
    → Enabled (DropsExplained hash) s e
explained-enabled hash s (event.Arrive p id) own h all = same_lists hash s _ refl refl refl refl all
explained-enabled hash s (event.Take p) own h all =
    λ _ _. same_lists hash s _ refl refl refl refl all
explained-enabled hash s (event.Enter a) own h all =
    λ _ _. same_lists hash s _ refl refl refl refl all
explained-enabled hash s (event.Leave a) own h all =
    λ _ _. same_lists hash s _ refl refl refl refl all
explained-enabled hash s (event.Weigh p class want desired online) own h all =
    λ _ _. same_lists hash s _ refl refl refl refl all
explained-enabled hash s (event.Pull c) own h all =
    λ _ _. same_lists hash s _ refl refl refl refl all
explained-enabled hash s (event.Deliver c o) own h all =
    λ _. same_lists hash s _ refl refl refl refl all
explained-enabled hash s (event.Retire c) own h all =
    λ _. same_lists hash s _ refl refl refl refl all
explained-enabled hash s (event.Resize p count) own h all =
    same_lists hash s _ refl refl refl refl all
explained-enabled hash s event.Close own h all = λ _. same_lists hash s _ refl refl refl refl all
explained-enabled hash s event.Reopen own h all = same_lists hash s _ refl refl refl refl all
explained-enabled hash s (event.Put p g) own h all = λ _ more. explained-put hash s p g h more
    (own more) all

pub each_explains_drops : EachExplainsDrops
each_explains_drops hash s e own h all = by_cases (DropsExplained hash) s e all
    (explained-enabled hash s e own h all)

explained-run : (hash : ℕ → Option ℕ) (es : List HopEvent) (s : HopState) → AllMayAsk es s
    → AllHashed hash es s → Sound s → DropsExplained hash s → DropsExplained hash (run es s)
explained-run hash [] s m own h all = all
explained-run hash (e ∷ es) s m own h all =
    explained-run hash es (happens s e).0 m.1 own.1 (Sound-happens s e m.0 h)
    (each_explains_drops hash s e own.0 h all)

pub fresh_is_explained : FreshIsExplained
fresh_is_explained hash fixed classes guests lanes outs =
    let s : HopState = fresh_hop fixed classes guests lanes outs in
    let a : (c : ℕ) → accepted_at s.bare c ≡ [] = λ c. at_new lanes c [] in
    let o : (c : ℕ) → offers_at s.bare c ≡ [] = λ c. at_new lanes c [] in
    let d : (c : ℕ) → drops_at s.bare c ≡ [] = λ c. at_new lanes c [] in
    record {
      offers = λ c. record {
        buckets = rw (a c, o c, d c) refl;
        counts = rw (a c, d c)
            (λ k e lt. absurd (omega arith));
      };
      causes = λ c k r at. absurd (let f = rw (d c) at at in cc);
    }

pub explains_drops : ExplainsDrops
explains_drops hash shape es is m own =
    explained-run hash es (new_hop shape) m own (Sound-new shape is)
    (fresh_is_explained hash (fixed_of shape) (map (classes_for shape.exact) shape.counts.items)
    shape.guests shape.lanes shape.outs)

-- ---- ample lanes drop nothing

-- a put has its place: what the lane accepted and dropped is less than the room
pub room-put : (s : HopState) (p : ℕ) → Sound s → placed_of s p < length (choices_of s p) → (c : ℕ)
    → length (accepted_at s.bare c) + length (fell_at s.bare c) < s.fixed.room
room-put s p h more c =
    let below : (lists : ℕ → List ℕ) → Puts lists (choices_of s) (placed_of s) → (j : ℕ)
    → j < length (lists c) → get_or (lists c) j 0 < s.fixed.room =
    λ lists puts j jn. (
    let w = puts c j jn in let a = h.hands.put w.0 in let b = h.hands.chosen w.0 in
    let e = h.hands.arrived w.0 in let lt = w.2 in
    let same : slice_index (arrivals_of s w.0) w.1 ≡ get_or (lists c) j 0 =
    sym (h.hands.of_arrivals w.0 w.1 (omega arith)) ∙ w.3 in
    rw same at (h.small.below w.0 w.1 (omega arith))) in
    let a = h.hands.chosen p in let b = h.hands.arrived p in
    let mine : (in_hand s p).id < s.fixed.room = rw (h.hands.of_arrivals p (placed_of s p) more)
    (h.small.below p (placed_of s p) (omega arith)) in
    room_for (in_hand s p).id s.fixed.room (accepted_at s.bare c) (fell_at s.bare c) mine
    (below (accepted_at s.bare) h.puts) (below (fell_at s.bare) h.falls)
    (in_hand_absent s (accepted_at s.bare) h h.puts p (placed_of s p) (omega arith) more c)
    (in_hand_absent s (fell_at s.bare) h h.falls p (placed_of s p) (omega arith) more c)
    (λ i j x y e. (h.places.once c c i j x y e).1)
    (λ i j x y e. (h.places.fell_once c c i j x y e).1)
    (λ i j x y. h.places.never_both c c i j x y)

no_flow_cause : (limit waiting : ℕ) (count : Option ℕ) → flow_cause false limit waiting count ≡ None
no_flow_cause limit waiting None = refl
no_flow_cause limit waiting (Some n) = refl

no_cause : (limited : Bool) (limit waiting : ℕ) (offers : List (Option ℕ)) (hash : Option ℕ)
    → limited ≡ false → waiting < limit
    → drop_cause limited limit waiting offers hash ≡ None
no_cause limited limit waiting offers hash off less =
    rw (ne_eqb waiting limit (λ e. omega arith), off) (no_flow_cause limit waiting
    (option_map (bucket_count offers) (bucket_of hash)))

ample-landed : (s : HopState) (p : ℕ) (cause : Option DropCause) (bucket : Option ℕ) → cause ≡ None
    → Ample s → (c : ℕ) → drops_at (put_as s p cause bucket).bare c ≡ []
ample-landed s p None bucket is a = a.none
ample-landed s p (Some cause) bucket is a = absurd cc

ample-put : (s : HopState) (p : ℕ) (hash : Option ℕ) → Sound s → placed_of s p < length
    (choices_of s p) → Ample s
    → (c : ℕ) → drops_at
    (put_as s p (lane_drop_cause (lane_of s.fixed s.bare (in_hand s p).choice.lane) hash)
    (bucket_of hash)).bare c ≡ []
ample-put s p hash h more a =
    let c : ℕ = (in_hand s p).choice.lane in
    let lane : c < length s.bare.accepted = h.lanes p (placed_of s p) more in
    let room = room-put s p h more c in let ample = a.room in
    ample-landed s p (lane_drop_cause (lane_of s.fixed s.bare c) hash) (bucket_of hash)
    (no_cause (has s.fixed.limited c) s.fixed.limit
    (length (accepted_at s.bare c) - pulled_at s.bare c) (offers_at s.bare c) hash
    (a.unlimited c lane) (omega arith)) a

-- whatever is not put leaves the drops
record NoDrops (s : HopState) : Type 0 where
  none : (c : ℕ) → drops_at s.bare c ≡ []

ample-enabled : (s : HopState) (e : HopEvent) → Sound s → Ample s → Enabled NoDrops s e
ample-enabled s (event.Arrive p id) h a = record { none = a.none }
ample-enabled s (event.Take p) h a = λ _ _. record { none = a.none }
ample-enabled s (event.Enter actor) h a = λ _ _. record { none = a.none }
ample-enabled s (event.Leave actor) h a = λ _ _. record { none = a.none }
ample-enabled s (event.Weigh p class want desired online) h a = λ _ _. record { none = a.none }
ample-enabled s (event.Pull c) h a = λ _ _. record { none = a.none }
ample-enabled s (event.Deliver c o) h a = λ _. record { none = a.none }
ample-enabled s (event.Retire c) h a = λ _. record { none = a.none }
ample-enabled s (event.Resize p count) h a = record { none = a.none }
ample-enabled s event.Close h a = λ _. record { none = a.none }
ample-enabled s event.Reopen h a = record { none = a.none }
ample-enabled s (event.Put p hash) h a = λ _ more. record { none = ample-put s p hash h more a }

pub each_keeps_ample : EachKeepsAmple
each_keeps_ample s e h a =
    let size = Sizes-happens s e in
    let none = by_cases NoDrops s e (record { none = a.none }) (ample-enabled s e h a) in
    record {
      room = rw size.fixed a.room;
      unlimited = λ c lt. rw size.fixed (a.unlimited c (rw size.lanes at lt));
      none = none.none;
    }

ample-run : (es : List HopEvent) (s : HopState) → AllMayAsk es s → Sound s → Ample s
    → Ample (run es s)
ample-run [] s m h a = a
ample-run (e ∷ es) s m h a = ample-run es (happens s e).0 m.1 (Sound-happens s e m.0 h)
    (each_keeps_ample s e h a)

pub fresh_is_ample : FreshIsAmple
fresh_is_ample fixed classes guests lanes outs ample off =
    record {
      room = ample;
      unlimited = λ c lt. off c (rw length-replicate at lt);
      none = λ c. at_new lanes c [];
    }

pub never_drops : NeverDrops
never_drops shape es is ample off m =
    (ample-run es (new_hop shape) m (Sound-new shape is)
    (fresh_is_ample (fixed_of shape) (map (classes_for shape.exact) shape.counts.items) shape.guests
    shape.lanes shape.outs ample off)).none

-- An event leaves the other producers and the other lanes.
use Rattle.std.proofs.Common.{ℕ, ◌≢◌, [], Option, Some, None, refl, ap, sym}
use Rattle.std.proofs.lemmas.List.{get_or-set_other}
use Rattle.steer_base.specs.Drops.{bucket_of, lane_drop_cause}
use Rattle.steer_base.specs.declared.put.DropCause.{DropCause}
use Rattle.hop_model.specs.declared.event.HopEvent.{HopEvent}
use Rattle.hop_model.specs.declared.event.HopEvent.TheVariants as event
use Rattle.hop_model.specs.Hop.{HopState, in_hand, lane_of}
use Rattle.hop_core.specs.Others.{EachLeavesLanes, EachLeavesProducers, SameLane, SameProducer}
use Rattle.hop_core.specs.Others.{changed_lane, producer_of}
use Rattle.hop_core.proofs.Cases.{Enabled, by_cases}
use Rattle.hop_core.proofs.PutSteps.{put_as}

producer_self : (q : ℕ) (s : HopState) → SameProducer q s s
producer_self q s = record {
  arrivals = refl;
  taken = refl;
  choices = refl;
  placed = refl;
  since = refl;
  count = refl;
}

producer-landed : (s : HopState) (p : ℕ) (cause : Option DropCause) (bucket : Option ℕ) (q : ℕ)
    → Some p ≢ Some q → SameProducer q s (put_as s p cause bucket)
producer-landed s p None bucket q ne = record {
  arrivals = refl;
  taken = refl;
  choices = refl;
  placed = get_or-set_other s.placed p q _ 0 (λ e. ne (ap Some (sym e)));
  since = refl;
  count =
      refl;
}
producer-landed s p (Some cause) bucket q ne = record {
  arrivals = refl;
  taken = refl;
  choices = refl;
  placed = get_or-set_other s.placed p q _ 0 (λ e. ne (ap Some (sym e)));
  since =
      refl;
  count = refl;
}

producers : (s : HopState) (e : HopEvent) (q : ℕ) → producer_of e ≢ Some q
    → Enabled (SameProducer q s) s e
producers s (event.Arrive p x) q ne = record {
  arrivals = get_or-set_other s.arrivals p q _ []
      (λ e. ne (ap Some (sym e)));
  taken = refl;
  choices = refl;
  placed = refl;
  since = refl;
  count =
      refl;
}
producers s (event.Take p) q ne =
    λ _ _. record {
      arrivals = refl;
      taken = get_or-set_other s.taken p q _ 0
          (λ e. ne (ap Some (sym e)));
      choices = refl;
      placed = refl;
      since = refl;
      count = refl;
    }
producers s (event.Enter a) q ne = λ _ _. record {
  arrivals = refl;
  taken = refl;
  choices = refl;
  placed = refl;
  since = refl;
  count = refl;
}
producers s (event.Leave a) q ne = λ _ _. record {
  arrivals = refl;
  taken = refl;
  choices = refl;
  placed = refl;
  since = refl;
  count = refl;
}
producers s (event.Weigh p class want desired online) q ne =
    λ _ _. record {
      arrivals = refl;
      taken = refl;
      choices = get_or-set_other s.choices p q _ []
          (λ e. ne (ap Some (sym e)));
      placed = refl;
      since = refl;
      count = refl;
    }
producers s (event.Put p hash) q ne = λ _ _. producer-landed s p
    (lane_drop_cause (lane_of s.fixed s.bare (in_hand s p).choice.lane) hash) (bucket_of hash) q ne
producers s (event.Pull c) q ne = λ _ _. record {
  arrivals = refl;
  taken = refl;
  choices = refl;
  placed = refl;
  since = refl;
  count = refl;
}
producers s (event.Deliver c o) q ne = λ _. record {
  arrivals = refl;
  taken = refl;
  choices = refl;
  placed = refl;
  since = refl;
  count = refl;
}
producers s (event.Retire c) q ne = λ _. record {
  arrivals = refl;
  taken = refl;
  choices = refl;
  placed = refl;
  since = refl;
  count = refl;
}
producers s (event.Resize p count) q ne = record {
  arrivals = refl;
  taken = refl;
  choices = refl;
  placed = refl;
  since = get_or-set_other s.since p q _ 0 (λ e. ne (ap Some (sym e)));
  count =
      get_or-set_other s.counts p q _ 0 (λ e. ne (ap Some (sym e)));
}
producers s event.Close q ne = λ _. record {
  arrivals = refl;
  taken = refl;
  choices = refl;
  placed = refl;
  since = refl;
  count = refl;
}
producers s event.Reopen q ne = record {
  arrivals = refl;
  taken = refl;
  choices = refl;
  placed = refl;
  since = refl;
  count = refl;
}

pub each_leaves_producers : EachLeavesProducers
each_leaves_producers s e q ne = by_cases (SameProducer q s) s e (producer_self q s)
    (producers s e q ne)

lane_self : (d : ℕ) (s : HopState) → SameLane d s s
lane_self d s = record {
  accepted = refl;
  offers = refl;
  drops = refl;
  pulled = refl;
  delivered = refl;
  retired = refl;
}

lane-landed : (s : HopState) (p : ℕ) (cause : Option DropCause) (bucket : Option ℕ) (d : ℕ)
    → Some (in_hand s p).choice.lane ≢ Some d → SameLane d s (put_as s p cause bucket)
lane-landed s p None bucket d ne =
    record {
      accepted = get_or-set_other s.bare.accepted (in_hand s p).choice.lane d _ []
          (λ e. ne (ap Some (sym e)));
      offers = get_or-set_other s.bare.offers
          (in_hand s p).choice.lane d _ [] (λ e. ne (ap Some (sym e)));
      drops = refl;
      pulled =
          refl;
      delivered = refl;
      retired = refl;
    }
lane-landed s p (Some cause) bucket d ne =
    record {
      accepted = refl;
      offers = get_or-set_other s.bare.offers
          (in_hand s p).choice.lane d _ [] (λ e. ne (ap Some (sym e)));
      drops =
          get_or-set_other s.bare.drops (in_hand s p).choice.lane d _ []
          (λ e. ne (ap Some (sym e)));
      pulled = refl;
      delivered = refl;
      retired = refl;
    }

lanes : (s : HopState) (e : HopEvent) (d : ℕ) → changed_lane s e ≢ Some d
    → Enabled (SameLane d s) s e
lanes s (event.Arrive p x) d ne = record {
  accepted = refl;
  offers = refl;
  drops = refl;
  pulled = refl;
  delivered = refl;
  retired = refl;
}
lanes s (event.Take p) d ne = λ _ _. record {
  accepted = refl;
  offers = refl;
  drops = refl;
  pulled = refl;
  delivered = refl;
  retired = refl;
}
lanes s (event.Enter a) d ne = λ _ _. record {
  accepted = refl;
  offers = refl;
  drops = refl;
  pulled = refl;
  delivered = refl;
  retired = refl;
}
lanes s (event.Leave a) d ne = λ _ _. record {
  accepted = refl;
  offers = refl;
  drops = refl;
  pulled = refl;
  delivered = refl;
  retired = refl;
}
lanes s (event.Weigh p class want desired online) d ne =
    λ _ _. record {
      accepted = refl;
      offers = refl;
      drops = refl;
      pulled = refl;
      delivered = refl;
      retired = refl;
    }
lanes s (event.Put p hash) d ne =
    λ _ _. lane-landed s p (lane_drop_cause (lane_of s.fixed s.bare (in_hand s p).choice.lane) hash)
    (bucket_of hash) d ne
lanes s (event.Pull c) d ne = λ _ _. record {
  accepted = refl;
  offers = refl;
  drops = refl;
  pulled = get_or-set_other s.bare.pulled c d _ 0 (λ e. ne (ap Some (sym e)));
  delivered =
      refl;
  retired = refl;
}
lanes s (event.Deliver c o) d ne = λ _. record {
  accepted = refl;
  offers = refl;
  drops = refl;
  pulled = refl;
  delivered = get_or-set_other s.bare.delivered c d _ 0
      (λ e. ne (ap Some (sym e)));
  retired = refl;
}
lanes s (event.Retire c) d ne = λ _. record {
  accepted = refl;
  offers = refl;
  drops = refl;
  pulled = refl;
  delivered = refl;
  retired = get_or-set_other s.bare.retired c d _ 0
      (λ e. ne (ap Some (sym e)));
}
lanes s (event.Resize p count) d ne = record {
  accepted = refl;
  offers = refl;
  drops = refl;
  pulled = refl;
  delivered = refl;
  retired = refl;
}
lanes s event.Close d ne = λ _. record {
  accepted = refl;
  offers = refl;
  drops = refl;
  pulled = refl;
  delivered = refl;
  retired = refl;
}
lanes s event.Reopen d ne = record {
  accepted = refl;
  offers = refl;
  drops = refl;
  pulled = refl;
  delivered = refl;
  retired = refl;
}

pub each_leaves_lanes : EachLeavesLanes
each_leaves_lanes s e d ne = by_cases (SameLane d s) s e (lane_self d s) (lanes s e d ne)

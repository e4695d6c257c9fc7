-- No event changes the sizes of a hop.
use Rattle.std.proofs.Common.{ℕ, List, [], ◌∷◌, Option, Some, None, refl, ◌∙◌}
use Rattle.std.proofs.Math.ListN.{length-set}
use Rattle.steer_base.specs.Drops.{bucket_of, lane_drop_cause}
use Rattle.steer_base.specs.declared.put.DropCause.{DropCause}
use Rattle.hop_model.specs.declared.event.HopEvent.{HopEvent}
use Rattle.hop_model.specs.declared.event.HopEvent.TheVariants as event
use Rattle.hop_model.specs.Hop.{HopState, in_hand, lane_of}
use Rattle.hop_model.specs.Events.{happens, run}
use Rattle.hop_core.specs.Sizes.{SameSizes}
use Rattle.hop_core.proofs.Cases.{Enabled, by_cases}
use Rattle.hop_core.proofs.PutSteps.{put_as}

pub SameSizes-refl : (s : HopState) → SameSizes s s
SameSizes-refl s = record {
  fixed = refl;
  producers = refl;
  actors = refl;
  lanes = refl;
  outs = refl;
}

pub SameSizes-then : (s t u : HopState) → SameSizes s t → SameSizes t u → SameSizes s u
SameSizes-then s t u a b =
    record {
      fixed = b.fixed ∙ a.fixed;
      producers = b.producers ∙ a.producers;
      actors = b.actors
          ∙ a.actors;
      lanes = b.lanes ∙ a.lanes;
      outs = b.outs ∙ a.outs;
    }

sizes-landed : (s : HopState) (p : ℕ) (cause : Option DropCause) (bucket : Option ℕ) → SameSizes s
    (put_as s p cause bucket)
sizes-landed s p None bucket = record {
  fixed = refl;
  producers = refl;
  actors = refl;
  lanes = length-set _ _ _;
  outs = refl;
}
sizes-landed s p (Some cause) bucket = record {
  fixed = refl;
  producers = refl;
  actors = refl;
  lanes = refl;
  outs = refl;
}

sizes-enabled : (s : HopState) (e : HopEvent) → Enabled (SameSizes s) s e
sizes-enabled s (event.Arrive p id) = record {
  fixed = refl;
  producers = length-set _ _ _;
  actors = refl;
  lanes = refl;
  outs = refl;
}
sizes-enabled s (event.Take p) = λ _ _. record {
  fixed = refl;
  producers = refl;
  actors = refl;
  lanes = refl;
  outs = refl;
}
sizes-enabled s (event.Enter a) = λ _ _. record {
  fixed = refl;
  producers = refl;
  actors = length-set _ _ _;
  lanes = refl;
  outs = refl;
}
sizes-enabled s (event.Leave a) = λ _ _. record {
  fixed = refl;
  producers = refl;
  actors = length-set _ _ _;
  lanes = refl;
  outs = refl;
}
sizes-enabled s (event.Weigh p class want desired online) =
    λ _ _. record { fixed = refl; producers = refl; actors = refl; lanes = refl; outs = refl }
sizes-enabled s (event.Put p hash) =
    λ _ _. sizes-landed s p (lane_drop_cause (lane_of s.fixed s.bare (in_hand s p).choice.lane)
    hash) (bucket_of hash)
sizes-enabled s (event.Pull c) = λ _ _. record {
  fixed = refl;
  producers = refl;
  actors = refl;
  lanes = refl;
  outs = refl;
}
sizes-enabled s (event.Deliver c o) = λ _. record {
  fixed = refl;
  producers = refl;
  actors = refl;
  lanes = refl;
  outs = length-set _ _ _;
}
sizes-enabled s (event.Retire c) = λ _. record {
  fixed = refl;
  producers = refl;
  actors = refl;
  lanes = refl;
  outs = refl;
}
sizes-enabled s (event.Resize p count) = record {
  fixed = refl;
  producers = refl;
  actors = refl;
  lanes = refl;
  outs = refl;
}
sizes-enabled s event.Close = λ _. record {
  fixed = refl;
  producers = refl;
  actors = refl;
  lanes = refl;
  outs = refl;
}
sizes-enabled s event.Reopen = record {
  fixed = refl;
  producers = refl;
  actors = refl;
  lanes = refl;
  outs = refl;
}

pub Sizes-happens : (s : HopState) (e : HopEvent) → SameSizes s (happens s e).0
Sizes-happens s e = by_cases (SameSizes s) s e (SameSizes-refl s) (sizes-enabled s e)

pub Sizes-run : (es : List HopEvent) (s : HopState) → SameSizes s (run es s)
Sizes-run [] s = SameSizes-refl s
Sizes-run (e ∷ es) s = SameSizes-then s (happens s e).0 (run es (happens s e).0) (Sizes-happens s e)
    (Sizes-run es (happens s e).0)

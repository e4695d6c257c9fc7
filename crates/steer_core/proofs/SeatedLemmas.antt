-- Each filter that is set names a processor and a queue that there are.
use Rattle.std.proofs.Common.{ℕ, ◌≡◌, List, Option, Some, None, length, ap, ◌∙◌}
use Rattle.std.specs.Prelude.{slice_index_or}
use Rattle.std.specs.List.{All}
use Rattle.std.proofs.lemmas.List.{get_or_default}
use Rattle.steer_base.specs.declared.filter.Filter.{Filter}
use Rattle.steer_model.specs.State.Machine.{Machine}
use Rattle.steer_invariant.specs.Invariant.{Invariant}
use Rattle.steer_invariant.proofs.Invariant.EventPremiseLemmas.{held_is_seated}
use Rattle.steer_core.specs.OldFilters.{FilterIsSeated}

seated-if : (m : Machine) (i : ℕ) (o : Option Filter) → slice_index_or m.filters i None ≡ o
    → Invariant m
    → FilterIsSeated m.rx m.settings o
seated-if m i None is h = tt
seated-if m i (Some filter) is h =
    let s = held_is_seated m h i filter is in (s.processor, s.queue)

pub seated : (m : Machine) → Invariant m → All (FilterIsSeated m.rx m.settings) m.filters
seated m h i d lt = seated-if m i _ (get_or_default m.filters i None d lt) h

-- there is a flow count for each queue
pub counted : (m : Machine) → Invariant m → length m.settings.counts ≡ length m.setup.homes
counted m h =
    ap (λ (l : List ℕ). length l) h.kept.by.counts ∙ h.kept.rx.sound.wide.counts
    ∙ h.kept.rx.sizes.queues

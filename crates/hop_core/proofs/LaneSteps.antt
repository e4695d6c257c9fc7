-- What the steps of a lane keep: a pull, a delivery and a retire.
use Rattle.std.proofs.Common.{ℕ, ◌+◌, ◌≤◌, ◌<◌, ◌≡◌, List, [], ◌∷◌, ◌++◌, length, arith, inl, inr}
use Rattle.std.proofs.Common.{refl, ◌∙◌}
use Rattle.std.specs.Prelude.{slice_index, slice_index_or}
use Rattle.std.proofs.Math.ListN.{length-set}
use Rattle.std.proofs.lemmas.Bool.{cases_eq}
use Rattle.hop_model.specs.Hop.{Bare, HopState, accepted_at, fell_at, out_at, next_out, pulled_at}
use Rattle.hop_model.specs.Hop.{delivered_at, retired_at, choices_of, since_of, pull_at, deliver_at}
use Rattle.hop_model.specs.Hop.{retire_at, with_bare}
use Rattle.hop_model.specs.Sound.{Counts, Past, Places, Sound, Stands}
use Rattle.hop_core.proofs.Lists.{Changed-set}
use Rattle.hop_core.proofs.Sound.{Counts-pull, Counts-deliver, Counts-retire}
use Rattle.hop_core.proofs.Puts.{Places-deliver}
use Rattle.hop_core.proofs.Stands.{Stands-retire, Past-retire}

-- other counts and other out lanes behind the same producers
abbrev moved : HopState → List ℕ → List ℕ → List ℕ → List (List ℕ) → HopState
moved s pulled delivered retired outs =
    with_bare s (record s.bare {
      pulled = pulled;
      delivered = delivered;
      retired = retired;
      outs = outs;
    })

Sound-lanes : (s : HopState) (pulled delivered retired : List ℕ) (outs : List (List ℕ))
    → length pulled ≡ length s.bare.pulled → length delivered ≡ length s.bare.delivered
    → length retired ≡ length s.bare.retired
    → Counts (accepted_at s.bare) (slice_index pulled) (slice_index delivered) (slice_index retired)
    → Places (accepted_at s.bare) (fell_at s.bare) (slice_index delivered)
    (λ o. slice_index_or outs o [])
    → Stands (accepted_at s.bare) (slice_index retired) (choices_of s) (since_of s)
    → Past (accepted_at s.bare) (slice_index retired) (choices_of s) (since_of s)
    → Sound s → Sound (moved s pulled delivered retired outs)
Sound-lanes s pulled delivered retired outs many_pulled many_delivered many_retired counts places
    stands past h =
    let w = h.wide in
    assumption (
      many_pulled ∙ w.pulled,
      many_delivered ∙ w.delivered,
      many_retired ∙ w.retired,
      counts,
      places,
      stands,
      past,
    )

pub Sound-pull : (s : HopState) (c : ℕ) → c < length s.bare.accepted
    → pulled_at s.bare c ≤ retired_at s.bare c → pulled_at s.bare c < length (accepted_at s.bare c)
    → Sound s → Sound (with_bare s (pull_at s.bare c))
Sound-pull s c in' free more h =
    let w = h.wide in
    let b : Bare = pull_at s.bare c in
    let ch = Changed-set s.bare.pulled c (pulled_at s.bare c + 1) 0 (omega arith) in
    Sound-lanes s b.pulled s.bare.delivered s.bare.retired s.bare.outs (length-set s.bare.pulled c
    (pulled_at s.bare c + 1)) refl refl
    (Counts-pull (accepted_at s.bare) (pulled_at s.bare) (pulled_at b) (delivered_at s.bare)
    (retired_at s.bare) c ch free more h.counts)
    h.places h.stands h.past h

pub Sound-deliver : (s : HopState) (c o : ℕ) → c < length s.bare.accepted → o < length s.bare.outs
    → delivered_at s.bare c < pulled_at s.bare c
    → Sound s → Sound (with_bare s (deliver_at s.bare c o))
Sound-deliver s c o in' out' more h =
    let w = h.wide in
    let b : Bare = deliver_at s.bare c o in
    let ch = Changed-set s.bare.delivered c (delivered_at s.bare c + 1) 0 (omega arith) in
    let cho = Changed-set s.bare.outs o (out_at s.bare o ++ next_out s.bare c ∷ []) [] out' in
    Sound-lanes s s.bare.pulled b.delivered s.bare.retired b.outs refl
    (length-set s.bare.delivered c (delivered_at s.bare c + 1)) refl
    (Counts-deliver (accepted_at s.bare) (pulled_at s.bare) (delivered_at s.bare) (delivered_at b)
    (retired_at s.bare) c ch more h.counts)
    (Places-deliver (accepted_at s.bare) (fell_at s.bare) (delivered_at s.bare) (delivered_at b)
    (out_at s.bare) (out_at b) c o ch
    (λ d. let a = h.counts.delivered_first d in let b = h.counts.pulled_first d in omega arith)
    (let b = h.counts.pulled_first c in omega arith)
    (record { here = cho.here; there = cho.there }) h.places)
    h.stands h.past h

-- a retire only raises the heads
pub retired_rises : (s : HopState) (c : ℕ) → c < length s.bare.retired → (d : ℕ)
    → retired_at s.bare d ≤ retired_at (retire_at s.bare c) d
retired_rises s c in' d =
    let ch = Changed-set s.bare.retired c (retired_at s.bare c + 1) 0 in' in
    elim (cases_eq d c) [
      | inl e ↦ rw (e, ch.here) (omega arith)
      | inr ne ↦ rw (ch.there d ne)
          (omega arith)
    ]

pub Sound-retire : (s : HopState) (c : ℕ) → c < length s.bare.accepted
    → retired_at s.bare c < delivered_at s.bare c
    → Sound s → Sound (with_bare s (retire_at s.bare c))
Sound-retire s c in' more h =
    let w = h.wide in
    let b : Bare = retire_at s.bare c in
    let il : c < length s.bare.retired = omega arith in
    let ch = Changed-set s.bare.retired c (retired_at s.bare c + 1) 0 il in
    let up : (d : ℕ) → retired_at s.bare d ≤ retired_at b d = retired_rises s c il in
    Sound-lanes s s.bare.pulled s.bare.delivered b.retired s.bare.outs refl refl
    (length-set s.bare.retired c (retired_at s.bare c + 1))
    (Counts-retire (accepted_at s.bare) (pulled_at s.bare) (delivered_at s.bare) (retired_at s.bare)
    (retired_at b) c ch more h.counts)
    h.places (Stands-retire (accepted_at s.bare) (retired_at s.bare) (retired_at b) (choices_of s)
    (since_of s) up h.stands)
    (Past-retire (accepted_at s.bare) (retired_at s.bare) (retired_at b) (choices_of s)
    (since_of s) up h.past) h

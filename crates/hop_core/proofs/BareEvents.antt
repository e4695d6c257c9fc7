-- Each event is one of the bare part, which does to each lane what the lane's own calls do.
use Rattle.std.proofs.Common.{ℕ, ◌+◌, ◌<◌, ◌≡◌, ◌≢◌, ◌⊎◌, Bool, true, false, cond, [], Option, Some}
use Rattle.std.proofs.Common.{None, length, refl, ap, ◌∙◌, sym, subst, arith, inl, inr}
use Rattle.std.specs.Prelude.{◌==◌, nat_lt}
use Rattle.std.proofs.Math.ListN.{length-set}
use Rattle.std.proofs.lemmas.Bool.{cases_eq, eq-eqb, lt-ltb, ne_eqb}
use Rattle.steer_base.specs.Drops.{bucket_of, lane_drop_cause}
use Rattle.steer_base.specs.Lanes.{LaneLists}
use Rattle.steer_base.specs.Sets.{has}
use Rattle.steer_base.specs.declared.put.DropCause.{DropCause}
use Rattle.backlog.specs.Puts.{after_put, after_take, new_lane}
use Rattle.backlog.specs.Rising.{AreRising}
use Rattle.backlog.proofs.RisingLemmas.{AreRising-new, AreRising-put, AreRising-take}
use Rattle.hop_model.specs.declared.event.HopEvent.{HopEvent}
use Rattle.hop_model.specs.declared.event.HopEvent.TheVariants as event
use Rattle.hop_model.specs.BareEvents.{BareEvent, BareKeepsLanes, EachIsBare, EachKeepsDropsRising}
use Rattle.hop_model.specs.BareEvents.{EachLaneIsItsOwn, HasLanes, MayBe, FreshDropsRise}
use Rattle.hop_model.specs.BareEvents.{SoundHasLanes, bare_after, bare_event, lane_after}
use Rattle.hop_model.specs.BareEvents as bare
use Rattle.hop_model.specs.Events.{MayAsk, happens}
use Rattle.hop_model.specs.Hop.{Bare, Fixed, HopState, accepted_at, drops_at, lane_of, landed}
use Rattle.hop_model.specs.Hop.{offers_at, placed_of, pull_at, pulled_at, put_at}
use Rattle.hop_model.specs.Shape.{fresh_hop}
use Rattle.hop_model.specs.Sound.{Sound}
use Rattle.hop_core.proofs.Cases.{Enabled, by_cases}
use Rattle.hop_core.proofs.Drops.{lane-landed, lane-other}
use Rattle.hop_core.proofs.GateSteps.{count_some}
use Rattle.hop_core.proofs.Lists.{Changed-set}
use Rattle.hop_core.proofs.New.{at_new}
use Rattle.hop_core.proofs.Sizes.{Sizes-happens}

-- ---- which event it is

abbrev IsBare : HopState → HopEvent → HopState → Type 0
IsBare s e t =
    (MayBe s.bare (bare_event s e) × (t.bare ≡ bare_after s.fixed s.bare (bare_event s e)))
    ⊎ (t ≡ s)

bare-enabled : (s : HopState) (e : HopEvent) → MayAsk s e → Sound s → Enabled (IsBare s e) s e
bare-enabled s (event.Arrive p x) m h = inl (tt, refl)
bare-enabled s (event.Take p) m h = λ _ _. inl (tt, refl)
bare-enabled s (event.Enter a) m h = λ out' open'. inl (open', refl)
bare-enabled s (event.Leave a) m h =
    λ inside done. inl (rw h.gate.inside (count_some s.visits a inside), refl)
bare-enabled s (event.Weigh p class want desired online) m h = λ _ _. inl (tt, refl)
bare-enabled s (event.Put p hash) m h = λ inside more. inl (h.lanes p (placed_of s p) more, refl)
bare-enabled s (event.Pull c) m h = λ free more. inl ((m, free, more), refl)
bare-enabled s (event.Deliver c o) m h = λ more. inl ((m.lane, m.out, more), refl)
bare-enabled s (event.Retire c) m h = λ more. inl ((m, more), refl)
bare-enabled s (event.Resize p count) m h = inl (tt, refl)
bare-enabled s event.Close m h = λ none. inl (none, refl)
bare-enabled s event.Reopen m h = inl (m, refl)

pub each_is_bare : EachIsBare
each_is_bare s e m h = by_cases (IsBare s e) s e (inr refl) (bare-enabled s e m h)

-- ---- the lanes

pick : (d c : ℕ) (x a b : LaneLists) → (d ≡ c → x ≡ a) → (d ≢ c → x ≡ b) → x ≡ cond (d == c) a b
pick d c x a b here there = elim (cases_eq d c) [
  | inl e ↦ rw (eq-eqb d c e) (here e)
  | inr ne ↦ rw (ne_eqb d c ne) (there ne)
]

lane-pulled : (f : Fixed) (b : Bare) (c : ℕ) → c < length b.pulled → pulled_at b c < length
    (accepted_at b c)
    → lane_of f (pull_at b c) c ≡ after_take (lane_of f b c)
lane-pulled f b c in' more =
    let l : LaneLists = lane_of f b c in
    let ch = Changed-set b.pulled c (pulled_at b c + 1) 0 in' in
    let test : nat_lt l.pulled (length l.accepted) ≡ true =
    lt-ltb (pulled_at b c) (length (accepted_at b c)) more in
    ap (λ (n : ℕ). record l { pulled = n }) ch.here
    ∙ sym (ap (λ (t : Bool). cond t (record l { pulled = l.pulled + 1 }) l) test)

pub each_lane_is_its_own : EachLaneIsItsOwn
each_lane_is_its_own f b bare.nothing w m d = refl
each_lane_is_its_own f b bare.enters w m d = refl
each_lane_is_its_own f b bare.leaves w m d = refl
each_lane_is_its_own f b bare.closes w m d = refl
each_lane_is_its_own f b bare.opens w m d = refl
each_lane_is_its_own f b (bare.offers c id hash) w m d =
    let cause : Option DropCause = lane_drop_cause (lane_of f b c) hash in
    pick d c (lane_of f (put_at f b c id hash) d) (after_put (lane_of f b d) id hash)
    (lane_of f b d)
    (λ e. subst (λ k. lane_of f (put_at f b c id hash) k ≡ after_put (lane_of f b k) id hash)
    (sym e)
    (lane-landed f b cause c id (bucket_of hash) m w.offers_long w.drops_long))
    (λ ne. lane-other f b cause c id (bucket_of hash) m w.offers_long w.drops_long d ne)
each_lane_is_its_own f b (bare.pulls c) w m d =
    let in' : c < length b.pulled = (let i = m.0 in let l = w.pulled_long in omega arith) in
    let ch = Changed-set b.pulled c (pulled_at b c + 1) 0 in' in
    pick d c (lane_of f (pull_at b c) d) (after_take (lane_of f b d)) (lane_of f b d)
    (λ e. subst (λ k. lane_of f (pull_at b c) k ≡ after_take (lane_of f b k)) (sym e)
    (lane-pulled f b c in' m.2))
    (λ ne. ap (λ (n : ℕ). record (lane_of f b d) { pulled = n }) (ch.there d ne))
each_lane_is_its_own f b (bare.delivers c o) w m d = refl
each_lane_is_its_own f b (bare.retires c) w m d = refl

pub sound_has_lanes : SoundHasLanes
sound_has_lanes s h = record {
  offers_long = h.wide.offers;
  drops_long = h.wide.drops;
  pulled_long = h.wide.pulled;
}

lanes-landed : (b : Bare) (cause : Option DropCause) (c x : ℕ) (bucket : Option ℕ) → HasLanes b
    → HasLanes (landed cause b c x bucket)
lanes-landed b None c x bucket w =
    record {
      offers_long = rw (length-set, length-set) w.offers_long;
      drops_long = rw length-set w.drops_long;
      pulled_long = rw length-set w.pulled_long;
    }
lanes-landed b (Some cause) c x bucket w =
    record {
      offers_long = rw length-set w.offers_long;
      drops_long = rw length-set w.drops_long;
      pulled_long = w.pulled_long;
    }

pub bare_keeps_lanes : BareKeepsLanes
bare_keeps_lanes f b (bare.offers c id hash) w =
    lanes-landed b (lane_drop_cause (lane_of f b c) hash) c id (bucket_of hash) w
bare_keeps_lanes f b (bare.pulls c) w = record {
  offers_long = w.offers_long;
  drops_long = w.drops_long;
  pulled_long = rw length-set w.pulled_long;
}
bare_keeps_lanes f b bare.nothing w = w
bare_keeps_lanes f b bare.enters w = record {
  offers_long = w.offers_long;
  drops_long = w.drops_long;
  pulled_long = w.pulled_long;
}
bare_keeps_lanes f b bare.leaves w = record {
  offers_long = w.offers_long;
  drops_long = w.drops_long;
  pulled_long = w.pulled_long;
}
bare_keeps_lanes f b bare.closes w = record {
  offers_long = w.offers_long;
  drops_long = w.drops_long;
  pulled_long = w.pulled_long;
}
bare_keeps_lanes f b bare.opens w = record {
  offers_long = w.offers_long;
  drops_long = w.drops_long;
  pulled_long = w.pulled_long;
}
bare_keeps_lanes f b (bare.delivers c o) w = record {
  offers_long = w.offers_long;
  drops_long = w.drops_long;
  pulled_long = w.pulled_long;
}
bare_keeps_lanes f b (bare.retires c) w = record {
  offers_long = w.offers_long;
  drops_long = w.drops_long;
  pulled_long = w.pulled_long;
}

-- ---- the counts of drops

both : (t : Bool) (x y : LaneLists) → AreRising x → AreRising y → AreRising (cond t x y)
both true x y hx hy = hx
both false x y hx hy = hy

rising-after : (e : BareEvent) (d : ℕ) (l : LaneLists) → AreRising l → AreRising (lane_after e d l)
rising-after (bare.offers c id hash) d l h = both (d == c) (after_put l id hash) l
    (AreRising-put l id hash h) h
rising-after (bare.pulls c) d l h = both (d == c) (after_take l) l (AreRising-take l h) h
rising-after bare.nothing d l h = h
rising-after bare.enters d l h = h
rising-after bare.leaves d l h = h
rising-after bare.closes d l h = h
rising-after bare.opens d l h = h
rising-after (bare.delivers c o) d l h = h
rising-after (bare.retires c) d l h = h

pub fresh_drops_rise : FreshDropsRise
fresh_drops_rise fixed counts guests lanes outs c =
    let s : HopState = fresh_hop fixed counts guests lanes outs in
    let a : accepted_at s.bare c ≡ [] = at_new lanes c [] in
    let o : offers_at s.bare c ≡ [] = at_new lanes c [] in
    let d : drops_at s.bare c ≡ [] = at_new lanes c [] in
    let p : pulled_at s.bare c ≡ 0 = at_new lanes c 0 in
    let is : lane_of s.fixed s.bare c ≡ new_lane fixed.limit fixed.room fixed.start
    (has fixed.limited c) = rw (a, o, d, p) refl in
    subst AreRising (sym is) (AreRising-new fixed.limit fixed.room fixed.start
    (has fixed.limited c))

pub each_keeps_drops_rising : EachKeepsDropsRising
each_keeps_drops_rising s e m h all c =
    let t : HopState = (happens s e).0 in
    let b : BareEvent = bare_event s e in
    elim (each_is_bare s e m h) [
      | inl w ↦ (
          let same : lane_of t.fixed t.bare c ≡ lane_of s.fixed (bare_after s.fixed s.bare b) c =
          ap (λ (f : Fixed). lane_of f t.bare c) (Sizes-happens s e).fixed
          ∙ ap (λ (x : Bare). lane_of s.fixed x c) w.1 in
          let is : lane_of t.fixed t.bare c ≡ lane_after b c (lane_of s.fixed s.bare c) =
          same ∙ each_lane_is_its_own s.fixed s.bare b (sound_has_lanes s h) w.0 c in
          subst AreRising (sym is) (rising-after b c (lane_of s.fixed s.bare c) (all c)))
      | inr e ↦ subst (λ (u : HopState). AreRising (lane_of u.fixed u.bare c)) (sym e) (all c)
    ]

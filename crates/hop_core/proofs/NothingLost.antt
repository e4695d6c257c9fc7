-- No event loses a packet.
use Rattle.std.proofs.Common.{ℕ, ◌+◌, ◌≤◌, ◌<◌, ◌≡◌, List, [], ◌∷◌, ◌++◌, Option, Some, None}
use Rattle.std.proofs.Common.{length, ◌∙◌, sym, ap, arith, inl, inr, get_or, set, map, refl}
use Rattle.std.specs.Prelude.{slice_index}
use Rattle.std.specs.List.{Contains}
use Rattle.std.proofs.lemmas.Bool.{cases_eq, cases_lt}
use Rattle.std.proofs.lemmas.List.{get_or_default, get_or_past, map-append}
use Rattle.std.proofs.lemmas.List.Elements.{Contains-append_left, Contains-push}
use Rattle.steer_base.specs.Drops.{bucket_of, lane_drop_cause}
use Rattle.steer_base.specs.declared.choice.Chosen.{Chosen}
use Rattle.steer_base.specs.declared.put.DropCause.{DropCause}
use Rattle.steer_base.specs.declared.put.LaneDrop.{LaneDrop}
use Rattle.hop_model.specs.declared.event.HopEvent.{HopEvent}
use Rattle.hop_model.specs.declared.event.HopEvent.TheVariants as event
use Rattle.hop_model.specs.Events.{AllMayAsk, MayAsk, happens, run}
use Rattle.hop_model.specs.Hop.{HopState, accepted_at, choices_of, chosen_at, choice_of, deliver_at}
use Rattle.hop_model.specs.Hop.{delivered_at, drops_at, fell_at, in_hand, lane_of, next_of}
use Rattle.hop_model.specs.Hop.{next_out}
use Rattle.hop_model.specs.Hop.{nobody, out_at, placed_of, pulled_at}
use Rattle.hop_core.specs.NothingLost.{EachLosesNothing, EachPutIsOnce, IsOnceIn, IsInOutLane}
use Rattle.hop_core.specs.NothingLost.{LosesNothing, FreshLosesNothing, NothingLost, WasLeft}
use Rattle.hop_model.specs.Shape.{classes_for, fixed_of, fresh_hop, new_hop}
use Rattle.hop_model.specs.Sound.{Sound}
use Rattle.hop_core.proofs.AllSteps.{Sound-happens}
use Rattle.hop_core.proofs.Cases.{Enabled, by_cases}
use Rattle.hop_core.proofs.Gathered.{Added}
use Rattle.hop_core.proofs.Lists.{Changed, Changed-set, chosen-push_front}
use Rattle.hop_core.proofs.New.{Sound-new, at_new}
use Rattle.hop_core.proofs.Puts.{kept_at}
use Rattle.hop_core.proofs.PutSteps.{put_as}

-- ---- lists with one packet more

still_in : (old new : ℕ → List ℕ) (c x : ℕ) → Added old new c x → (d y : ℕ) → Contains (old d) y
    → Contains (new d) y
still_in old new c x added d y h =
    elim (cases_eq d c) [
      | inl e ↦ (let f : new d ≡ old d ++ x ∷ [] = rw e added.here in
          rw f (Contains-append_left (old d) (x ∷ []) y h))
      | inr ne ↦ rw (added.there d ne) h
    ]

now_in : (old new : ℕ → List ℕ) (c x : ℕ) → Added old new c x → Contains (new c) x
now_in old new c x added = rw added.here (Contains-push (old c) x)

still_left : (accepted accepted' fell fell' : ℕ → List ℕ) (c : Chosen)
    → ((d y : ℕ) → Contains (accepted d) y → Contains (accepted' d) y)
    → ((d y : ℕ) → Contains (fell d) y → Contains (fell' d) y) → WasLeft accepted fell c
    → WasLeft accepted' fell' c
still_left accepted accepted' fell fell' c kept lost h =
    elim h [ inl a ↦ inl (kept c.choice.lane c.id a) | inr b ↦ inr (lost c.choice.lane c.id b) ]

-- ---- puts

-- one more is put, and left somewhere
left-put : (accepted accepted' fell fell' : ℕ → List ℕ) (choices : ℕ → List Chosen)
    (placed later : ℕ → ℕ) (p : ℕ)
    → Changed placed later p (placed p + 1)
    → ((d y : ℕ) → Contains (accepted d) y → Contains (accepted' d) y)
    → ((d y : ℕ) → Contains (fell d) y → Contains (fell' d) y)
    → WasLeft accepted' fell' (chosen_at (choices p) (placed p))
    → ((q i : ℕ) → i < placed q → WasLeft accepted fell (chosen_at (choices q) i))
    → (q i : ℕ) → i < later q → WasLeft accepted' fell' (chosen_at (choices q) i)
left-put accepted accepted' fell fell' choices placed later p ch kept lost now h q i lt =
    elim (cases_eq q p) [
      | inl e ↦ (
          let l : i < placed p + 1 = (let f : later q ≡ placed p + 1 = rw e ch.here in
          omega arith) in
          elim (cases_lt i (placed p)) [
            | inl less ↦
                (let b : i < placed q = rw e less in still_left accepted accepted' fell fell'
                (chosen_at (choices q) i) kept lost (h q i b))
            | inr ge ↦ (let is : i ≡ placed p = omega arith in rw (e, is) now)
          ])
      | inr ne ↦ still_left accepted accepted' fell fell' (chosen_at (choices q) i) kept lost
          (h q i (rw (ch.there q ne) at lt))
    ]

-- who has a choice to put is a producer
in_placed : (s : HopState) (p : ℕ) → Sound s → placed_of s p < length (choices_of s p)
    → p < length s.placed
in_placed s p h more =
    let w = h.wide in
    elim (cases_lt p (length s.choices)) [
      | inl lt ↦ omega arith
      | inr ge ↦ absurd (let z : choices_of s p ≡ [] = get_or_past s.choices p [] ge in
          let n : length (choices_of s p) ≡ 0 = ap (λ cs. length cs) z in omega arith)
    ]

lost-landed : (s : HopState) (p : ℕ) (cause : Option DropCause) (bucket : Option ℕ) → Sound s
    → placed_of s p < length (choices_of s p)
    → NothingLost s → NothingLost (put_as s p cause bucket)
lost-landed s p None bucket h more g =
    let c : Chosen = in_hand s p in
    let lane : c.choice.lane < length s.bare.accepted = h.lanes p (placed_of s p) more in
    let named : p < length s.placed = in_placed s p h more in
    let chp = Changed-set s.placed p (placed_of s p + 1) 0 named in
    let new : ℕ → List ℕ =
    λ d. get_or (set s.bare.accepted c.choice.lane (accepted_at s.bare c.choice.lane ++ c.id
    ∷ [])) d [] in
    let cha = Changed-set s.bare.accepted c.choice.lane (accepted_at s.bare c.choice.lane ++ c.id
    ∷ []) [] lane in
    let added : Added (accepted_at s.bare) new c.choice.lane c.id =
    record { here = cha.here; there = cha.there } in
    record {
      put = left-put (accepted_at s.bare) new (fell_at s.bare) (fell_at s.bare) (choices_of s)
          (placed_of s)
          (λ q. get_or (set s.placed p (placed_of s p + 1)) q 0) p chp
          (still_in (accepted_at s.bare) new c.choice.lane c.id added) (λ d y b. b)
          (inl (now_in (accepted_at s.bare) new c.choice.lane c.id added)) g.put;
      delivered = λ d i lt. (
          let a = h.counts.delivered_first d in let b = h.counts.pulled_first d in
          rw (kept_at (accepted_at s.bare) new c.choice.lane c.id added d i (omega arith))
          (g.delivered d i lt));
    }
lost-landed s p (Some cause) bucket h more g =
    let w = h.wide in
    let c : Chosen = in_hand s p in
    let lane : c.choice.lane < length s.bare.accepted = h.lanes p (placed_of s p) more in
    let named : p < length s.placed = in_placed s p h more in
    let chp = Changed-set s.placed p (placed_of s p + 1) 0 named in
    let r : LaneDrop = record {
      id = c.id;
      accepted = length (accepted_at s.bare c.choice.lane);
      pulled = pulled_at s.bare c.choice.lane;
      cause = cause;
    } in
    let ch = Changed-set s.bare.drops c.choice.lane (drops_at s.bare c.choice.lane ++ r ∷ []) []
    (omega arith) in
    let new : ℕ → List ℕ =
    λ d. map (λ d. d.id) (get_or (set s.bare.drops c.choice.lane (drops_at s.bare c.choice.lane
    ++ r ∷ [])) d []) in
    let added : Added (fell_at s.bare) new c.choice.lane c.id = record {
      here = rw ch.here (map-append (λ d. d.id) (drops_at s.bare c.choice.lane) (r ∷ []));
      there = λ d ne. rw (ch.there d ne) refl;
    } in
    record {
      put = left-put (accepted_at s.bare) (accepted_at s.bare) (fell_at s.bare) new (choices_of s)
          (placed_of s)
          (λ q. get_or (set s.placed p (placed_of s p + 1)) q 0) p chp
          (λ d y b. b) (still_in (fell_at s.bare) new c.choice.lane c.id added)
          (inr (now_in (fell_at s.bare) new c.choice.lane c.id added)) g.put;
      delivered = g.delivered;
    }

-- ---- the other events

left-weigh : (accepted fell : ℕ → List ℕ) (choices later : ℕ → List Chosen) (placed : ℕ → ℕ) (p : ℕ)
    (c : Chosen)
    → Changed choices later p (choices p ++ c ∷ []) → ((q : ℕ) → placed q ≤ length (choices q))
    → ((q i : ℕ) → i < placed q → WasLeft accepted fell (chosen_at (choices q) i))
    → (q i : ℕ) → i < placed q → WasLeft accepted fell (chosen_at (later q) i)
left-weigh accepted fell choices later placed p c ch within h q i lt =
    let a = within q in
    elim (cases_eq q p) [
      | inl e ↦ (
          let f : later q ≡ choices q ++ c ∷ [] = rw e ch.here in
          rw (f, chosen-push_front (choices q) c nobody i (omega arith)) (h q i lt))
      | inr ne ↦ rw (ch.there q ne) (h q i lt)
    ]

out-deliver : (accepted : ℕ → List ℕ) (delivered later : ℕ → ℕ) (old new : ℕ → List ℕ) (c o : ℕ)
    → Changed delivered later c (delivered c + 1) → Added old new o (slice_index (accepted c)
    (delivered c))
    → ((d i : ℕ) → i < delivered d → IsInOutLane old (slice_index (accepted d) i))
    → (d i : ℕ) → i < later d → IsInOutLane new (slice_index (accepted d) i)
out-deliver accepted delivered later old new c o ch added h d i lt =
    let x : ℕ = slice_index (accepted c) (delivered c) in
    let still : (y : ℕ) → IsInOutLane old y → IsInOutLane new y =
    λ y w. (w.0, still_in old new o x added w.0 y w.1) in
    elim (cases_eq d c) [
      | inl e ↦ (
          let l : i < delivered c + 1 = (let f : later d ≡ delivered c + 1 = rw e ch.here in
          omega arith) in
          elim (cases_lt i (delivered c)) [
            | inl less ↦ (let b : i < delivered d = rw e less in still (slice_index (accepted d) i)
                (h d i b))
            | inr ge ↦ (let is : i ≡ delivered c = omega arith in rw (e, is)
                (o, now_in old new o x added))
          ])
      | inr ne ↦ still (slice_index (accepted d) i) (h d i (rw (ch.there d ne) at lt))
    ]

lost-enabled : (s : HopState) (e : HopEvent) → MayAsk s e → Sound s → NothingLost s
    → Enabled NothingLost s e
lost-enabled s (event.Arrive p id) m h g = record { put = g.put; delivered = g.delivered }
lost-enabled s (event.Take p) m h g = λ _ _. record { put = g.put; delivered = g.delivered }
lost-enabled s (event.Enter a) m h g = λ _ _. record { put = g.put; delivered = g.delivered }
lost-enabled s (event.Leave a) m h g = λ _ _. record { put = g.put; delivered = g.delivered }
lost-enabled s (event.Weigh p class want desired online) m h g = λ _ _. (
    let w = h.wide in let named = m.producer in
    let c : Chosen =
    record { id = next_of s p; choice = choice_of s p class want desired online } in
    record {
      put = left-weigh (accepted_at s.bare) (fell_at s.bare) (choices_of s)
          (λ q. get_or (set s.choices p (choices_of s p ++ c ∷ [])) q []) (placed_of s) p c
          (Changed-set s.choices p (choices_of s p ++ c ∷ []) [] (omega arith)) h.hands.put g.put;
      delivered = g.delivered;
    })
lost-enabled s (event.Put p hash) m h g = λ _ more.
    lost-landed s p (lane_drop_cause (lane_of s.fixed s.bare (in_hand s p).choice.lane) hash)
    (bucket_of hash) h more g
lost-enabled s (event.Pull c) m h g = λ _ _. record { put = g.put; delivered = g.delivered }
lost-enabled s (event.Deliver c o) m h g = λ _. (
    let w = h.wide in let named = m.lane in
    let x : ℕ = next_out s.bare c in
    let cho = Changed-set s.bare.outs o (out_at s.bare o ++ x ∷ []) [] m.out in
    record {
      put = g.put;
      delivered = out-deliver (accepted_at s.bare) (delivered_at s.bare)
          (delivered_at (deliver_at s.bare c o)) (out_at s.bare)
          (out_at (deliver_at s.bare c o)) c o
          (Changed-set s.bare.delivered c (delivered_at s.bare c + 1) 0 (omega arith))
          (record { here = cho.here; there = cho.there }) g.delivered;
    })
lost-enabled s (event.Retire c) m h g = λ _. record { put = g.put; delivered = g.delivered }
lost-enabled s (event.Resize p count) m h g = record { put = g.put; delivered = g.delivered }
lost-enabled s event.Close m h g = λ _. record { put = g.put; delivered = g.delivered }
lost-enabled s event.Reopen m h g = record { put = g.put; delivered = g.delivered }

pub each_loses_nothing : EachLosesNothing
each_loses_nothing s e m h g = by_cases NothingLost s e g (lost-enabled s e m h g)

pub fresh_loses_nothing : FreshLosesNothing
fresh_loses_nothing fixed counts guests lanes outs =
    let s : HopState = fresh_hop fixed counts guests lanes outs in
    record {
      put = λ p i lt. absurd (let z : placed_of s p ≡ 0 = at_new {X = ℕ} (length counts) p 0 in
          omega arith);
      delivered = λ c i lt. absurd (let z : delivered_at s.bare c ≡ 0 = at_new {X = ℕ} lanes c 0 in
          omega arith);
    }

lost-run : (es : List HopEvent) (s : HopState) → AllMayAsk es s → Sound s → NothingLost s
    → NothingLost (run es s)
lost-run [] s m h g = g
lost-run (e ∷ es) s m h g = lost-run es (happens s e).0 m.1 (Sound-happens s e m.0 h)
    (each_loses_nothing s e m.0 h g)

pub loses_nothing : LosesNothing
loses_nothing shape es is m = lost-run es (new_hop shape) m (Sound-new shape is)
    (fresh_loses_nothing (fixed_of shape) (map (classes_for shape.exact) shape.counts.items)
    shape.guests shape.lanes shape.outs)

-- ---- exactly one place

once_in : (lists others : ℕ → List ℕ) (lane x : ℕ) → Contains (lists lane) x
    → ((p q i j : ℕ) → i < length (lists p) → j < length (lists q) → slice_index
    (lists p) i ≡ slice_index (lists q) j → (p ≡ q) × (i ≡ j))
    → ((p q i j : ℕ) → i < length (lists p) → j < length (others q) → slice_index
    (others q) j ≡ slice_index (lists p) i → ⊥)
    → IsOnceIn lists others lane x
once_in lists others lane x w once never =
    let is : slice_index (lists lane) w.0 ≡ x = get_or_default (lists lane) w.0 0 x w.1 ∙ w.2 in
    record {
      at = w.0;
      within = w.1;
      is = is;
      once = λ d k lt e. once d lane k w.0 lt w.1 (e ∙ sym is);
      not_other = λ d k lt e. never lane d w.0 k w.1 lt (e ∙ sym is);
    }

pub each_put_is_once : EachPutIsOnce
each_put_is_once s h g p i lt =
    let c : Chosen = chosen_at (choices_of s p) i in
    elim (g.put p i lt) [
      | inl a ↦ inl (once_in (accepted_at s.bare) (fell_at s.bare) c.choice.lane c.id a
          h.places.once
          (λ p q i j ip jq e. h.places.never_both p q i j ip jq (sym e)))
      | inr b ↦ inr (once_in (fell_at s.bare) (accepted_at s.bare) c.choice.lane c.id b
          h.places.fell_once
          (λ p q i j ip jq e. h.places.never_both q p j i jq ip e))
    ]

-- Every event keeps a hop settled, and in a settled hop puts are allowed for the flows that the
-- settings treat alike.
use Rattle.std.proofs.Common.{ℕ, ◌+◌, ◌≤◌, ◌<◌, ◌≡◌, ◌≢◌, ◌⊎◌, Bool, true, List, [], ◌∷◌, ◌++◌}
use Rattle.std.proofs.Common.{Option, Some, None, length, refl, ap, ◌∙◌, sym, arith, suc, inl, inr}
use Rattle.std.proofs.Common.{get_or, set}
use Rattle.std.proofs.lemmas.Bool.{cases_lt}
use Rattle.std.proofs.lemmas.List.{get_or-drop, get_or_past, length-drop}
use Rattle.std.proofs.lemmas.List.Elements.{All-from_get_or}
use Rattle.steer_base.specs.Choices.{migrate}
use Rattle.steer_base.specs.Counters.{rounded_up}
use Rattle.steer_base.specs.Drops.{bucket_of, lane_drop_cause}
use Rattle.steer_base.specs.Entries.{entry, position}
use Rattle.steer_base.specs.Sets.{has}
use Rattle.steer_base.specs.declared.choice.Chosen.{Chosen}
use Rattle.steer_base.specs.declared.choice.Entry.{Entry}
use Rattle.steer_base.specs.declared.put.DropCause.{DropCause}
use Rattle.hop_model.specs.declared.event.HopEvent.{HopEvent}
use Rattle.hop_model.specs.declared.event.HopEvent.TheVariants as event
use Rattle.hop_model.specs.Events.{MayAsk}
use Rattle.hop_core.specs.Flows.{FlowAt}
use Rattle.hop_model.specs.Hop.{HopState, accepted_at, arrivals_of, choice_of, choices_of}
use Rattle.hop_model.specs.Hop.{chosen_at}
use Rattle.hop_model.specs.Hop.{head_at, in_hand, lane_of, next_of, nobody, placed_of, recent}
use Rattle.hop_model.specs.Hop.{resized, retire_at, retired_at, since_of, taken_of}
use Rattle.hop_core.specs.Order.{OneClass}
use Rattle.hop_core.specs.Settled.{AreAlike, EachKeepsSettled, IsBySettings, FreshIsSettled}
use Rattle.hop_core.specs.Settled.{ResetSettles, ResizeSettles, SettledAllowsPuts, SettledIn}
use Rattle.hop_model.specs.Shape.{fresh_hop}
use Rattle.hop_model.specs.Sound.{Sound}
use Rattle.hop_core.proofs.Alone.{place_in-at}
use Rattle.hop_core.proofs.Cases.{Enabled, by_cases}
use Rattle.hop_core.proofs.GateSteps.{all_placed}
use Rattle.hop_core.proofs.LaneSteps.{retired_rises}
use Rattle.hop_core.proofs.Lists.{Changed-set}
use Rattle.hop_core.proofs.New.{at_new}
use Rattle.hop_core.proofs.PutSteps.{put_as}
use Rattle.hop_core.proofs.SettledParts.{Settled-put, Settled-resize, Settled-retire, Settled-set}
use Rattle.hop_core.proofs.SettledParts.{Settled-weigh, positions_stay}
use Rattle.hop_core.proofs.Sound.{same_choice}
use Rattle.steer_base.proofs.RuleLemmas.{by_entry-class}

-- ---- events

migrate-class : (class want : Option ℕ) (desired : ℕ) (entries : ℕ → Entry) (heads : ℕ → ℕ)
    (online : ℕ → Bool)
    → (migrate class want desired entries heads online).class ≡ class
migrate-class None want desired entries heads online = refl
migrate-class (Some k) want desired entries heads online = by_entry-class k want desired
    (entries k).tail heads online (entries k).lane

migrate-plain : (class want : Option ℕ) (desired : ℕ) (entries : ℕ → Entry) (heads : ℕ → ℕ)
    (online : ℕ → Bool) → class ≡ None
    → (migrate class want desired entries heads online).lane ≡ desired
migrate-plain class want desired entries heads online e = rw e refl

settled-landed : (class_of : ℕ → ℕ → Option ℕ) (plain : ℕ → ℕ → ℕ) (s : HopState) (q : ℕ)
    (cause : Option DropCause) (bucket : Option ℕ)
    → q < length s.arrivals → Sound s → placed_of s q < length (choices_of s q)
    → SettledIn class_of plain s → SettledIn class_of plain (put_as s q cause bucket)
settled-landed class_of plain s q (Some cause) bucket in' h more g =
    let w = h.wide in
    let chp = Changed-set s.placed q (placed_of s q + 1) 0 (omega arith) in
    Settled-put (arrivals_of s) (taken_of s) (choices_of s) (since_of s) (placed_of s)
    (λ p. get_or (set s.placed q (placed_of s q + 1)) p 0)
    (accepted_at s.bare) (accepted_at s.bare) (retired_at s.bare) class_of plain q h.hands more chp
    (λ p i lt n at. at) g
settled-landed class_of plain s q None bucket in' h more g =
    let w = h.wide in
    let c : Chosen = in_hand s q in
    let lane : c.choice.lane < length s.bare.accepted = h.lanes q (placed_of s q) more in
    let chp = Changed-set s.placed q (placed_of s q + 1) 0 (omega arith) in
    let new : ℕ → List ℕ =
    λ d. get_or (set s.bare.accepted c.choice.lane (accepted_at s.bare c.choice.lane ++ c.id
    ∷ [])) d [] in
    let cha = Changed-set s.bare.accepted c.choice.lane (accepted_at s.bare c.choice.lane ++ c.id
    ∷ []) [] lane in
    Settled-put (arrivals_of s) (taken_of s) (choices_of s) (since_of s) (placed_of s)
    (λ p. get_or (set s.placed q (placed_of s q + 1)) p 0)
    (accepted_at s.bare) new (retired_at s.bare) class_of plain q h.hands more chp
    (positions_stay (arrivals_of s) (taken_of s) (choices_of s) (since_of s) (placed_of s)
    (accepted_at s.bare) new q h.hands h.once more
    (record { here = cha.here; there = cha.there })) g

-- with every packet put, a resize leaves other classes to its producer alone
settled-resize : (class_of now_class_of : ℕ → ℕ → Option ℕ) (plain : ℕ → ℕ → ℕ) (s : HopState)
    (p count n : ℕ) → MayAsk s (event.Resize p count)
    → Sound s → ((q x : ℕ) → q ≢ p → now_class_of q x ≡ class_of q x) → SettledIn class_of plain s
    → SettledIn now_class_of plain (resized s p n)
settled-resize class_of now_class_of plain s p count n m h same g =
    let w = h.wide in let named = m.producer in
    Settled-resize (choices_of s) (since_of s)
    (λ q. get_or (set s.since p (length (choices_of s p))) q 0) (placed_of s)
    (accepted_at s.bare) (retired_at s.bare)
    class_of now_class_of plain p (λ q. let a = all_placed s h m.closed q in
    omega arith) h.hands.put
    (Changed-set s.since p (length (choices_of s p)) 0 (omega arith)) same g

settled-enabled : (class_of : ℕ → ℕ → Option ℕ) (plain : ℕ → ℕ → ℕ) (s : HopState) (e : HopEvent)
    → MayAsk s e → Sound s
    → IsBySettings class_of plain s e → SettledIn class_of plain s
    → Enabled (SettledIn class_of plain) s e
settled-enabled class_of plain s (event.Arrive p x) m h by g = g
settled-enabled class_of plain s (event.Take p) m h by g = λ _ _. g
settled-enabled class_of plain s (event.Enter a) m h by g = λ _ _. g
settled-enabled class_of plain s (event.Leave a) m h by g = λ _ _. g
settled-enabled class_of plain s (event.Weigh p class want desired online) m h by g =
    λ inside more. (
    let w = h.wide in let one = h.hands.one p in let named = m.producer in
    let c : Chosen =
    record { id = next_of s p; choice = choice_of s p class want desired online } in
    let es : ℕ → Entry = entry s.fixed.start (accepted_at s.bare) (recent s p) in
    let hs : ℕ → ℕ = head_at s.fixed.start s.bare in
    let same : c.choice.class ≡ class = migrate-class class want desired es hs (has online) in
    Settled-weigh (choices_of s) (λ q. get_or (set s.choices p (choices_of s p ++ c ∷ [])) q [])
    (since_of s) (placed_of s) (accepted_at s.bare) (retired_at s.bare)
    class_of plain p c (Changed-set s.choices p (choices_of s p ++ c ∷ []) [] (omega arith))
    h.hands.put (omega arith)
    (same ∙ (by more).0)
    (λ none. migrate-plain class want desired es hs (has online) (sym same ∙ none) ∙ (by more).1
    (sym same ∙ none)) g)
settled-enabled class_of plain s (event.Put p hash) m h by g = λ inside more.
    settled-landed class_of plain s p
    (lane_drop_cause (lane_of s.fixed s.bare (in_hand s p).choice.lane) hash)
    (bucket_of hash) m h more g
settled-enabled class_of plain s (event.Pull c) m h by g = λ _ _. g
settled-enabled class_of plain s (event.Deliver c o) m h by g = λ _. g
settled-enabled class_of plain s (event.Retire c) m h by g = λ less. (
    let w = h.wide in
    Settled-retire (choices_of s) (since_of s) (placed_of s) (accepted_at s.bare)
    (retired_at s.bare) (retired_at (retire_at s.bare c)) class_of plain
    (retired_rises s c (omega arith)) g)
settled-enabled class_of plain s (event.Resize p count) m h by g =
    settled-resize class_of class_of plain s p count (rounded_up count) m h (λ q x ne. refl) g
settled-enabled class_of plain s event.Close m h by g = λ _. g
settled-enabled class_of plain s event.Reopen m h by g = g

pub each_keeps_settled : EachKeepsSettled
each_keeps_settled class_of plain s e m h by g = by_cases (SettledIn class_of plain) s e g
    (settled-enabled class_of plain s e m h by g)

pub resize_settles : ResizeSettles
resize_settles class_of now_class_of plain s p count m h same g =
    settled-resize class_of now_class_of plain s p count (rounded_up count) m h same g

pub fresh_is_settled : FreshIsSettled
fresh_is_settled class_of plain fixed counts guests lanes outs =
    let s : HopState = fresh_hop fixed counts guests lanes outs in
    let none : (p : ℕ) → choices_of s p ≡ [] = λ p. at_new (length counts) p [] in
    let zero : (p : ℕ) → placed_of s p ≡ 0 = λ p. at_new (length counts) p 0 in
    record {
      classes = λ p i from in'. absurd (let e : length (choices_of s p) ≡ 0 = ap (λ cs. length cs)
          (none p) in omega (arith, in', e));
      stands = λ p i from was free. absurd (let e = zero p in omega (arith, was, e));
      goes = λ p lt free. absurd (let e : length (choices_of s p) ≡ 0 = ap (λ cs. length cs)
          (none p) in omega (arith, lt, e));
    }

pub reset_settles : ResetSettles
reset_settles class_of now_class_of plain now_plain s h may g =
    let w = h.wide in
    Settled-set (choices_of s) (since_of s) (placed_of s) (accepted_at s.bare)
    (retired_at s.bare) class_of now_class_of plain now_plain (length s.arrivals)
    h.hands.put (λ p le. ap (λ cs. length cs) (get_or_past s.choices p [] (omega arith))) may.hands
    may.classes may.lanes g

-- ---- puts of a flow

tight_by : (test : ℕ → Bool) (p : ℕ) (s : HopState) (class_of : ℕ → ℕ → Option ℕ) (plain : ℕ → ℕ
    → ℕ) (o : Option ℕ) → class_of p (in_hand s p).id ≡ o
    → AreAlike class_of plain test p → Sound s → SettledIn class_of plain s → placed_of s p < length
    (choices_of s p) → test (in_hand s p).id ≡ true
    → ((k : ℕ) × OneClass test (recent s p) k) ⊎ FlowAt test p (in_hand s p).choice.lane s
tight_by test p s class_of plain (Some k) is alike h settled more member =
    inl (
      k,
      All-from_get_or (λ c. test c.id ≡ true → c.choice.class ≡ Some k) (recent s p) nobody
          (λ i in' t.
          let l = length-drop (since_of s p) (choices_of s p) in
          let e : get_or (recent s p) i nobody ≡ chosen_at (choices_of s p) (since_of s p + i) =
          get_or-drop (since_of s p) (choices_of s p) i nobody in
          let t2 : test (chosen_at (choices_of s p) (since_of s p + i)).id ≡ true = rw e at t in
          rw e (settled.classes p (since_of s p + i) (omega arith) (omega arith)
          ∙ (alike (chosen_at (choices_of s p) (since_of s p + i)).id
          (in_hand s p).id t2 member).0 ∙ is)),
    )
tight_by test p s class_of plain None is alike h settled more member =
    inr (λ d j i dry jn ip same t.
    let c : Chosen = chosen_at (choices_of s p) i in
    let w = h.puts d j jn in
    let put = h.hands.put p in let put2 = h.hands.put w.0 in let lt = w.2 in
    let f = same_choice (arrivals_of s) (taken_of s) (choices_of s) (placed_of s)
    (since_of s) h.hands h.once w.0 p w.1 i (omega arith) (omega arith) (w.3 ∙ sym same) in
    let cc' : chosen_at (choices_of s w.0) w.1 ≡ c = ap (λ q. chosen_at (choices_of s q) w.1) f.0
    ∙ ap (λ k. chosen_at (choices_of s p) k) f.1 in
    let lane : c.choice.lane ≡ d = sym (ap (λ c. c.choice.lane) cc') ∙ w.4 in
    let place : position (accepted_at s.bare) c ≡ Some (suc j) =
    rw (same, lane) (place_in-at (accepted_at s.bare d) j jn
    (λ k kj e. let g = h.places.once d d k j (omega arith) jn e in omega (arith, g.1))) in
    elim (cases_lt i (since_of s p)) [
      | inl before ↦ absurd (let f : suc j ≤ retired_at s.bare c.choice.lane = h.past p i
          (suc j) before place in let g : suc j ≤ retired_at s.bare d = rw lane at f in omega arith)
      | inr after ↦ (
          let tc : test c.id ≡ true = rw same t in
          let ac = alike c.id (in_hand s p).id tc member in
          let none : c.choice.class ≡ None = settled.classes p i after (omega arith) ∙ ac.0 ∙ is in
          let mine : (in_hand s p).choice.class ≡ None = settled.classes p (placed_of s p)
          (h.hands.past p) more ∙ is in
          sym lane ∙ settled.stands p i after ip none (suc j) place (rw lane (omega arith)) ∙ ac.1
          ∙ sym (settled.goes p more mine))
    ])

pub settled_allows_puts : SettledAllowsPuts
settled_allows_puts class_of plain test p o q hash s alike h g = λ own more member.
    tight_by test p s class_of plain (class_of p (in_hand s p).id) refl alike h g more member

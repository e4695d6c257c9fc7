-- Events leave the choices that were made, and the entries that they were made by.
use Rattle.std.proofs.Common.{ℕ, ◌<◌, ◌≡◌, ◌≢◌, Bool, List, [], ◌∷◌, ◌++◌, Option, Some, None}
use Rattle.std.proofs.Common.{length, refl, ap, ◌∙◌, sym, subst, arith, inl, inr, get_or}
use Rattle.std.proofs.Common.{set as set_list, take, drop}
use Rattle.std.proofs.lemmas.List.{get_or-take, length-take-le, take-append-le}
use Rattle.std.proofs.Math.Seq.{take-append_seam}
use Rattle.std.proofs.lemmas.Bool.{cases_eq, lt-ltb}
use Rattle.steer_base.specs.Choices.{migrate, by_entry}
use Rattle.steer_base.specs.Counters.{number}
use Rattle.steer_base.specs.Drops.{bucket_of, lane_drop_cause}
use Rattle.steer_base.specs.Entries.{position, entry, of_class, current_lane}
use Rattle.steer_base.specs.Sets.{has}
use Rattle.steer_base.specs.declared.choice.Chosen.{Chosen}
use Rattle.steer_base.specs.declared.choice.Choice.{Choice}
use Rattle.steer_base.specs.declared.choice.Entry.{Entry}
use Rattle.steer_base.specs.declared.cpu_mask.CpuMask.{CpuMask}
use Rattle.steer_base.specs.declared.put.DropCause.{DropCause}
use Rattle.hop_model.specs.declared.event.HopEvent.{HopEvent}
use Rattle.hop_model.specs.declared.event.HopEvent.TheVariants as event
use Rattle.hop_model.specs.Hop.{nobody, HopState, accepted_at, head_at, arrivals_of, choices_of}
use Rattle.hop_model.specs.Hop.{chosen_at, taken_of, placed_of, since_of, in_hand, next_of, lane_of}
use Rattle.hop_model.specs.Hop.{choice_of, chose}
use Rattle.hop_model.specs.Events.{happens, MayAsk, AllMayAsk, run}
use Rattle.hop_model.specs.Sound.{Sound}
use Rattle.hop_core.specs.Laws.{entries_before, ChoicesStay, ChoiceIsByTheRule}
use Rattle.hop_core.proofs.Lists.{Changed-set, chosen-push_front, chosen-push_last, length-push}
use Rattle.steer_base.proofs.EntriesLemmas.{recorded_count-same}
use Rattle.hop_core.proofs.Gathered.{Added}
use Rattle.hop_core.proofs.Sound.{same_choice, position-added}
use Rattle.hop_core.proofs.Stands.{positions}
use Rattle.hop_core.proofs.Cases.{Enabled, by_cases}
use Rattle.hop_core.proofs.PutSteps.{put_as}
use Rattle.hop_core.proofs.AllSteps.{Sound-happens}

-- an accepted put leaves the position of every other choice
pub put_positions : (s : HopState) (p : ℕ) → Sound s → placed_of s p < length (choices_of s p)
    → (new : ℕ → List ℕ)
    → Added (accepted_at s.bare) new (in_hand s p).choice.lane (in_hand s p).id
    → (q i : ℕ) → i < length (choices_of s q) → ((q ≡ p) → i ≢ placed_of s p)
    → position new (chosen_at (choices_of s q) i) ≡ position (accepted_at s.bare)
    (chosen_at (choices_of s q) i)
put_positions s p h more new added q i iq other =
    position-added (accepted_at s.bare) new (in_hand s p).choice.lane (in_hand s p).id
    (chosen_at (choices_of s q) i) added
    (λ e. let g = same_choice (arrivals_of s) (taken_of s) (choices_of s) (placed_of s)
    (since_of s) h.hands h.once q p i (placed_of s p) iq more e in
    other g.0 g.1)

abbrev entry_with : Option ℕ → ℕ → ℕ → Entry
entry_with lane start count = record { lane = lane; tail = number start count }

-- and so the entries before every choice
pub entry-put : (s : HopState) (p : ℕ) → Sound s → placed_of s p < length (choices_of s p)
    → (new : ℕ → List ℕ)
    → Added (accepted_at s.bare) new (in_hand s p).choice.lane (in_hand s p).id
    → (q i from k : ℕ) → i < length (choices_of s q)
    → entry s.fixed.start new (drop from (take i (choices_of s q))) k ≡ entry s.fixed.start
    (accepted_at s.bare) (drop from (take i (choices_of s q))) k
entry-put s p h more new added q i from k iq =
    let cs : List Chosen = take i (choices_of s q) in
    let l : length cs ≡ i = length-take-le i (choices_of s q) (omega arith) in
    let one = h.hands.one q in let ch = h.hands.chosen q in
    let same = recorded_count-same (accepted_at s.bare) new (of_class k (drop from cs))
    (positions (accepted_at s.bare) new cs from k
    (λ j jl. let jc : j < length cs = jl in let ji : j < i = omega arith in
    rw (get_or-take i (choices_of s q) j nobody ji) (put_positions s p h more new added q j
    (omega arith)
    (λ e f. let g : placed_of s q ≡ placed_of s p = ap (placed_of s) e in omega arith)))) in
    ap (λ t. entry_with (current_lane (of_class k (drop from cs))) s.fixed.start t) same

-- what later states keep of a choice and of those before it
record StaysAt (s t : HopState) (p i : ℕ) : Type 0 where
  longer : i < length (choices_of t p)
  choice : chosen_at (choices_of t p) i ≡ chosen_at (choices_of s p) i
  entries : (from k : ℕ) → entries_before t p from i k ≡ entries_before s p from i k

stays-landed : (s : HopState) (q : ℕ) (cause : Option DropCause) (bucket : Option ℕ) → Sound s
    → placed_of s q < length (choices_of s q)
    → (p i : ℕ) → i < length (choices_of s p) → StaysAt s (put_as s q cause bucket) p i
stays-landed s q (Some cause) bucket h more p i ip = record {
  longer = ip;
  choice = refl;
  entries = λ from k. refl;
}
stays-landed s q None bucket h more p i ip =
    let c : Chosen = in_hand s q in
    let cha = Changed-set s.bare.accepted c.choice.lane (accepted_at s.bare c.choice.lane ++ c.id
    ∷ []) [] (h.lanes q (placed_of s q) more) in
    record {
      longer = ip;
      choice = refl;
      entries = λ from k. entry-put s q h more (λ d. get_or (set_list s.bare.accepted c.choice.lane
          (accepted_at s.bare c.choice.lane ++ c.id ∷ [])) d [])
          (record { here = cha.here; there = cha.there }) p i from k ip;
    }

stays-weigh : (s : HopState) (q : ℕ) (choice : Choice) → q < length s.choices → (p i : ℕ)
    → i < length (choices_of s p) → StaysAt s (chose s q choice) p i
stays-weigh s q choice in' p i ip =
    let c : Chosen = record { id = next_of s q; choice = choice } in
    let ch = Changed-set s.choices q (choices_of s q ++ c ∷ []) [] in' in
    elim (cases_eq p q) [
      | inl e ↦ (
          let f : choices_of (chose s q choice) p ≡ choices_of s p ++ c ∷ [] = rw e ch.here in
          record {
            longer = rw (f, length-push) (omega arith);
            choice = rw f (chosen-push_front (choices_of s p) c nobody i ip);
            entries = λ from k. rw (f, take-append-le i (choices_of s p) (c ∷ []) (omega arith))
                refl;
          })
      | inr ne ↦ (
          let f : choices_of (chose s q choice) p ≡ choices_of s p = ch.there p ne in
          record { longer = rw f ip; choice = rw f refl; entries = λ from k. rw f refl })
    ]

stays-enabled : (s : HopState) (e : HopEvent) → MayAsk s e → Sound s → (p i : ℕ) → i < length
    (choices_of s p) → Enabled (λ t. StaysAt s t p i) s e
stays-enabled s (event.Arrive q id) m h p i ip = record {
  longer = ip;
  choice = refl;
  entries = λ from k. refl;
}
stays-enabled s (event.Take q) m h p i ip = λ _ _. record {
  longer = ip;
  choice = refl;
  entries = λ from k. refl;
}
stays-enabled s (event.Enter a) m h p i ip = λ _ _. record {
  longer = ip;
  choice = refl;
  entries = λ from k. refl;
}
stays-enabled s (event.Leave a) m h p i ip = λ _ _. record {
  longer = ip;
  choice = refl;
  entries = λ from k. refl;
}
stays-enabled s (event.Weigh q class want desired online) m h p i ip =
    λ _ _. stays-weigh s q (choice_of s q class want desired online) (let w = h.wide in
    let a = m.producer in omega arith) p i ip
stays-enabled s (event.Put q hash) m h p i ip =
    λ _ more. stays-landed s q (lane_drop_cause (lane_of s.fixed s.bare (in_hand s q).choice.lane)
    hash) (bucket_of hash) h more p i ip
stays-enabled s (event.Pull c) m h p i ip = λ _ _. record {
  longer = ip;
  choice = refl;
  entries = λ from k. refl;
}
stays-enabled s (event.Deliver c o) m h p i ip = λ _. record {
  longer = ip;
  choice = refl;
  entries = λ from k. refl;
}
stays-enabled s (event.Retire c) m h p i ip = λ _. record {
  longer = ip;
  choice = refl;
  entries = λ from k. refl;
}
stays-enabled s (event.Resize q count) m h p i ip = record {
  longer = ip;
  choice = refl;
  entries = λ from k. refl;
}
stays-enabled s event.Close m h p i ip = λ _. record {
  longer = ip;
  choice = refl;
  entries = λ from k. refl;
}
stays-enabled s event.Reopen m h p i ip = record {
  longer = ip;
  choice = refl;
  entries = λ from k. refl;
}

stays-run : (es : List HopEvent) (s : HopState) → Sound s → AllMayAsk es s → (p i : ℕ) → i < length
    (choices_of s p) → StaysAt s (run es s) p i
stays-run [] s h m p i ip = record { longer = ip; choice = refl; entries = λ from k. refl }
stays-run (e ∷ es) s h m p i ip =
    let one = by_cases (λ t. StaysAt s t p i) s e (record {
      longer = ip;
      choice = refl;
      entries = λ from k. refl;
    }) (stays-enabled s e m.0 h p i ip) in
    let rest = stays-run es (happens s e).0 (Sound-happens s e m.0 h) m.1 p i one.longer in
    record {
      longer = rest.longer;
      choice = rest.choice ∙ one.choice;
      entries = λ from k. rest.entries from k ∙ one.entries from k;
    }

pub choices_stay : ChoicesStay
choices_stay s es h m p i ip = let r = stays-run es s h m p i ip in (r.choice, r.entries)

-- the rule sees the entry of the class alone
migrate-same : (class want : Option ℕ) (desired : ℕ) (old new : ℕ → Entry) (head : ℕ → ℕ)
    (online : ℕ → Bool) → ((k : ℕ) → new k ≡ old k)
    → migrate class want desired old head online ≡ migrate class want desired new head online
migrate-same None want desired old new head online same = refl
migrate-same (Some k) want desired old new head online same =
    ap (λ r. by_entry k want desired r.tail head online r.lane) (sym (same k))

rule_from : (s : HopState) (p : ℕ) (class want : Option ℕ) (desired : ℕ) (online : CpuMask)
    (es : List HopEvent) → p < length s.choices
    → Sound (chose s p (choice_of s p class want desired online)) → AllMayAsk es
    (chose s p (choice_of s p class want desired online))
    → (chosen_at (choices_of (run es (chose s p (choice_of s p class want desired online))) p)
    (length (choices_of s p))).choice
    ≡ migrate class want desired
    (entries_before (run es (chose s p (choice_of s p class want desired online))) p
    (since_of s p) (length (choices_of s p)))
    (head_at s.fixed.start s.bare) (has online)
rule_from s p class want desired online es in' h m =
    let c : Chosen =
    record { id = next_of s p; choice = choice_of s p class want desired online } in
    let t : HopState = chose s p (choice_of s p class want desired online) in
    let i : ℕ = length (choices_of s p) in
    let here : choices_of t p ≡ choices_of s p ++ c ∷ [] =
    (Changed-set s.choices p (choices_of s p ++ c ∷ []) [] in').here in
    let longer : i < length (choices_of t p) = rw (here, length-push) (omega arith) in
    let stays = stays-run es t h m p i longer in
    let mine : chosen_at (choices_of t p) i ≡ c =
    rw here (chosen-push_last (choices_of s p) c nobody) in
    let before : (k : ℕ) → entries_before t p (since_of s p) i k ≡ entry s.fixed.start
    (accepted_at s.bare) (drop (since_of s p) (choices_of s p)) k =
    λ k. rw (here, take-append_seam (choices_of s p) (c ∷ [])) refl in
    ap (λ d. d.choice) (stays.choice ∙ mine)
    ∙ migrate-same class want desired _ _ (head_at s.fixed.start s.bare) (has online)
    (λ k. stays.entries (since_of s p) k ∙ before k)

pub choice_is_by_the_rule : ChoiceIsByTheRule
choice_is_by_the_rule s p class want desired online es h m inside more after =
    let is : (happens s (event.Weigh p class want desired online)).0 ≡ chose s p
    (choice_of s p class want desired online) =
    rw (inside, lt-ltb (length (choices_of s p)) (taken_of s p) more) refl in
    let sound = Sound-happens s (event.Weigh p class want desired online) m h in
    subst (λ t. (chosen_at (choices_of (run es t) p) (length (choices_of s p))).choice
    ≡ migrate class want desired (entries_before (run es t) p (since_of s p)
    (length (choices_of s p))) (head_at s.fixed.start s.bare) (has online))
    (sym is)
    (rule_from s p class want desired online es (let w = h.wide in
    let a = m.producer in omega arith) (subst Sound is sound) (subst (AllMayAsk es) is after))

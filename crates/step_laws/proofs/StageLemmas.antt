-- After any steps each hand of a machine has at most one packet.
use Rattle.std.proofs.Common.{ℕ, ◌+◌, ◌%◌, ◌<◌, ◌≤◌, ◌≡◌, ◌⊎◌, Bool, true, false, List, [], ◌∷◌}
use Rattle.std.proofs.Common.{◌++◌, Option, Some, None}
use Rattle.std.proofs.Common.{length, refl, ap, ◌∙◌, sym, arith, inl, inr, get_or, set, zero, suc}
use Rattle.std.specs.Prelude.{if◌then◌else◌, nat_lt, not}
use Rattle.std.proofs.Math.ListN.{length-replicate, length-set}
use Rattle.std.proofs.lemmas.Bool.{cases_eq, false≢true, ltb-true}
use Rattle.std.proofs.lemmas.List.{get_or-set_other, get_or-set_same}
use Rattle.steer_base.specs.declared.choice.Chosen.{Chosen}
use Rattle.steer_base.specs.declared.command.Answer.TheVariants as says
use Rattle.steer_base.specs.declared.command.Command.{Command}
use Rattle.steer_base.specs.declared.command.Command.TheVariants as give
use Rattle.steer_base.specs.declared.filter.Filter.{Filter}
use Rattle.steer_base.specs.declared.idle.Idle.TheVariants as idle
use Rattle.steer_base.specs.declared.packet.Packet.{Packet}
use Rattle.steer_base.specs.declared.put.DropCause.{DropCause}
use Rattle.steer_base.specs.declared.put.Put.{Put}
use Rattle.steer_base.specs.declared.put.Put.TheVariants as went
use Rattle.steer_base.specs.declared.step.Step.{Step}
use Rattle.steer_base.specs.declared.step.Step.TheVariants as act
use Rattle.plan_reader.specs.declared.plan.Plan.{Plan}
use Rattle.backlog.specs.Puts.{put_answer}
use Rattle.hop_model.specs.declared.event.HopAnswer.TheVariants as answer
use Rattle.hop_model.specs.declared.event.HopEvent.{HopEvent}
use Rattle.hop_model.specs.declared.event.HopEvent.TheVariants as event
use Rattle.hop_model.specs.Events.{Outcome as HopOutcome, happens}
use Rattle.hop_model.specs.Hop.{Bare, Fixed, HopState, landed, put_one}
use Rattle.hop_model.specs.Hop.{in_hand, inside_of, lane_of, next_of, placed_of, taken_of}
use Rattle.hop_model.specs.Shape.{fresh_hop}
use Rattle.hop_model.specs.Reads.{to_weigh}
use Rattle.hop_core.proofs.Cases.{Answered, by_outcomes}
use Rattle.hop_core.proofs.Lists.{length-push}
use Rattle.hop_core.proofs.New.{at_new}
use Rattle.history.specs.declared.arrival.Arrival.{Arrival}
use Rattle.steer_model.specs.Steps.Applications.{in_lane, in_reply, next_in, record_by, send_by}
use Rattle.steer_model.specs.Steps.Applications.{sending}
use Rattle.steer_model.specs.Steps.Applications.{visited, wrote}
use Rattle.steer_model.specs.Steps.Commands.{answer_to, given, is_done, listed, set_by}
use Rattle.steer_model.specs.State.Machine.{Machine, last_chosen, note_of}
use Rattle.steer_model.specs.State.Notes.{asking, is_asking, is_nothing}
use Rattle.steer_model.specs.Steps.Outcomes.{StepOutcome, by_rx, by_tx}
use Rattle.steer_model.specs.Steps.Pollers.{arrival_by, arrives, ask_by, look_by, route_by}
use Rattle.steer_model.specs.Steps.Pollers.{with_note}
use Rattle.steer_model.specs.Steps.Pollers.{put_position, poller_after_put, putting, weigh_by}
use Rattle.steer_model.specs.Steps.Pollers.{weighing}
use Rattle.step_laws.specs.IdleReasons.{AreStaged, IsStaged, weighs_next}
use Rattle.steer_model.specs.State.Setup.{app_for, flow_hash, packet_hash}
use Rattle.steer_model.specs.State.Start.{new_machine}
use Rattle.steer_model.specs.Steps.SingleSteps.{simple}
use Rattle.steer_model.specs.Steps.CompoundSteps.{after}
use Rattle.steer_model.specs.declared.note.Note.{Note}
use Rattle.steer_model.specs.declared.note.Note.TheVariants as note
use Rattle.step_laws.proofs.LiftLemmas.{after-keeps}

-- ---- lists

-- a value of a list is what it was, or it is the one that was set
set-cases : {X : Type 0} (xs : List X) (p q : ℕ) (v d : X)
    → (get_or (set xs p v) q d ≡ get_or xs q d) ⊎ ((q ≡ p) × (get_or (set xs p v) q d ≡ v))
set-cases [] p q v d = inl refl
set-cases (x ∷ xs) zero zero v d = inr (refl, refl)
set-cases (x ∷ xs) zero (suc q) v d = inl refl
set-cases (x ∷ xs) (suc p) zero v d = inl refl
set-cases (x ∷ xs) (suc p) (suc q) v d =
    elim (set-cases xs p q v d) [ inl e ↦ inl e | inr w ↦ inr (ap suc w.0, w.1) ]

set-default : {X : Type 0} (xs : List X) (p : ℕ) (d : X) → get_or (set xs p d) p d ≡ d
set-default [] p d = refl
set-default (x ∷ xs) zero d = refl
set-default (x ∷ xs) (suc p) d = set-default xs p d

full-in_range : {X : Type 0} (xs : List (List X)) (p : ℕ) → 0 < length (get_or xs p [])
    → p < length xs
full-in_range [] p h = absurd (omega arith)
full-in_range (x ∷ xs) zero h = omega arith
full-in_range (x ∷ xs) (suc p) h = let i = full-in_range xs p h in omega arith

-- ---- a hop

record Producers (taken placed : List ℕ) (choices : List (List Chosen)) : Type 0 where
  put : (p : ℕ) → get_or placed p 0 ≤ length (get_or choices p [])
  chosen : (p : ℕ) → length (get_or choices p []) ≤ get_or taken p 0
  one : (p : ℕ) → get_or taken p 0 ≤ get_or placed p 0 + 1
  even : length placed ≡ length choices

record Lanes (pulled delivered retired : List ℕ) : Type 0 where
  delivered_first : (c : ℕ) → get_or delivered c 0 ≤ get_or pulled c 0
  retired_first : (c : ℕ) → get_or retired c 0 ≤ get_or delivered c 0
  one : (c : ℕ) → get_or pulled c 0 ≤ get_or retired c 0 + 1

record Staged (s : HopState) : Type 0 where
  hands : Producers s.taken s.placed s.choices
  lanes : Lanes s.bare.pulled s.bare.delivered s.bare.retired

abbrev StagedOutcome : HopOutcome → Type 0
StagedOutcome o = Staged o.0

producers-take : (taken placed : List ℕ) (choices : List (List Chosen)) (p : ℕ)
    → get_or taken p 0 ≤ get_or placed p 0
    → Producers taken placed choices → Producers (set taken p (get_or taken p 0 + 1)) placed choices
producers-take taken placed choices p free h =
    record {
      put = h.put;
      chosen = λ q. (let old = h.chosen q in elim (set-cases taken p q (get_or taken p 0 + 1) 0) [
        | inl e ↦ rw e old
        | inr w ↦ rw w.1 (let t : get_or taken q 0 ≡ get_or taken p 0 = rw w.0 refl in omega arith)
      ]);
      one = λ q. (let old = h.one q in elim (set-cases taken p q (get_or taken p 0 + 1) 0) [
        | inl e ↦ rw e old
        | inr w ↦ rw w.1 (let t : get_or placed q 0 ≡ get_or placed p 0 = rw w.0 refl in
            omega arith)
      ]);
      even = h.even;
    }

producers-weigh : (taken placed : List ℕ) (choices : List (List Chosen)) (p : ℕ) (c : Chosen)
    → length (get_or choices p []) < get_or taken p 0
    → Producers taken placed choices → Producers taken placed
    (set choices p (get_or choices p [] ++ c ∷ []))
producers-weigh taken placed choices p c more h =
    let new : List Chosen = get_or choices p [] ++ c ∷ [] in
    let long : length new ≡ length (get_or choices p []) + 1 =
    length-push (get_or choices p []) c in
    record {
      put = λ q. (let old = h.put q in elim (set-cases choices p q new []) [
        | inl e ↦ rw e old
        | inr w ↦ rw w.1 (let t : length (get_or choices q []) ≡ length (get_or choices p []) =
            rw w.0 refl in omega arith)
      ]);
      chosen = λ q. (let old = h.chosen q in elim (set-cases choices p q new []) [
        | inl e ↦ rw e old
        | inr w ↦ rw w.1 (let t : get_or taken q 0 ≡ get_or taken p 0 = rw w.0 refl in omega arith)
      ]);
      one = h.one;
      even = h.even ∙ sym (length-set choices p new);
    }

producers-put : (taken placed : List ℕ) (choices : List (List Chosen)) (p : ℕ)
    → get_or placed p 0 < length (get_or choices p [])
    → Producers taken placed choices → Producers taken (set placed p (get_or placed p 0 + 1))
    choices
producers-put taken placed choices p more h =
    record {
      put = λ q. (let old = h.put q in elim (set-cases placed p q (get_or placed p 0 + 1) 0) [
        | inl e ↦ rw e old
        | inr w ↦ rw w.1 (let t : length (get_or choices q []) ≡ length (get_or choices p []) =
            rw w.0 refl in omega arith)
      ]);
      chosen = h.chosen;
      one = λ q. (let old = h.one q in elim (set-cases placed p q (get_or placed p 0 + 1) 0) [
        | inl e ↦ rw e old
        | inr w ↦ rw w.1 (let t : get_or placed q 0 ≡ get_or placed p 0 = rw w.0 refl in
            omega arith)
      ]);
      even = length-set placed p (get_or placed p 0 + 1) ∙ h.even;
    }

lanes-landed : (b : Bare) (cause : Option DropCause) (c x : ℕ) (bucket : Option ℕ)
    → Lanes b.pulled b.delivered b.retired
    → Lanes (landed cause b c x bucket).pulled (landed cause b c x bucket).delivered
    (landed cause b c x bucket).retired
lanes-landed b None c x bucket h = h
lanes-landed b (Some cause) c x bucket h = h

lanes-pull : (pulled delivered retired : List ℕ) (c : ℕ) → get_or pulled c 0 ≤ get_or retired c 0
    → Lanes pulled delivered retired → Lanes (set pulled c (get_or pulled c 0 + 1)) delivered
    retired
lanes-pull pulled delivered retired c free h =
    record {
      delivered_first =
          λ d. (let old = h.delivered_first d in
          elim (set-cases pulled c d (get_or pulled c 0 + 1) 0) [
            | inl e ↦ rw e old
            | inr w ↦ rw w.1 (let t : get_or pulled d 0 ≡ get_or pulled c 0 = rw w.0 refl in
                omega arith)
          ]);
      retired_first = h.retired_first;
      one = λ d. (let old = h.one d in elim (set-cases pulled c d (get_or pulled c 0 + 1) 0) [
        | inl e ↦ rw e old
        | inr w ↦ rw w.1 (let t : get_or retired d 0 ≡ get_or retired c 0 = rw w.0 refl in
            omega arith)
      ]);
    }

lanes-deliver : (pulled delivered retired : List ℕ) (c : ℕ)
    → get_or delivered c 0 < get_or pulled c 0
    → Lanes pulled delivered retired → Lanes pulled (set delivered c (get_or delivered c 0 + 1))
    retired
lanes-deliver pulled delivered retired c more h =
    record {
      delivered_first =
          λ d. (let old = h.delivered_first d in
          elim (set-cases delivered c d (get_or delivered c 0 + 1) 0) [
            | inl e ↦ rw e old
            | inr w ↦ rw w.1 (let t : get_or pulled d 0 ≡ get_or pulled c 0 = rw w.0 refl in
                omega arith)
          ]);
      retired_first =
          λ d. (let old = h.retired_first d in
          elim (set-cases delivered c d (get_or delivered c 0 + 1) 0) [
            | inl e ↦ rw e old
            | inr w ↦ rw w.1 (let t : get_or delivered d 0 ≡ get_or delivered c 0 = rw w.0 refl in
                omega arith)
          ]);
      one = h.one;
    }

lanes-retire : (pulled delivered retired : List ℕ) (c : ℕ)
    → get_or retired c 0 < get_or delivered c 0
    → Lanes pulled delivered retired → Lanes pulled delivered
    (set retired c (get_or retired c 0 + 1))
lanes-retire pulled delivered retired c more h =
    record {
      delivered_first = h.delivered_first;
      retired_first =
          λ d. (let old = h.retired_first d in
          elim (set-cases retired c d (get_or retired c 0 + 1) 0) [
            | inl e ↦ rw e old
            | inr w ↦ rw w.1 (let t : get_or delivered d 0 ≡ get_or delivered c 0 = rw w.0 refl in
                omega arith)
          ]);
      one = λ d. (let old = h.one d in elim (set-cases retired c d (get_or retired c 0 + 1) 0) [
        | inl e ↦ rw e old
        | inr w ↦ rw w.1 (let t : get_or retired d 0 ≡ get_or retired c 0 = rw w.0 refl in
            omega arith)
      ]);
    }

staged-happens : (s : HopState) (e : HopEvent) → Staged s → Staged (happens s e).0
staged-happens s (event.Arrive p id) h = record { hands = h.hands; lanes = h.lanes }
staged-happens s (event.Take p) h =
    by_outcomes StagedOutcome s (event.Take p) (λ why. h)
    (λ free more. record {
      hands = producers-take s.taken s.placed s.choices p free h.hands;
      lanes = h.lanes;
    })
staged-happens s (event.Enter a) h =
    by_outcomes StagedOutcome s (event.Enter a) (λ why. h)
    ((λ closed. h), (λ outside opened. record { hands = h.hands; lanes = h.lanes }))
staged-happens s (event.Leave a) h =
    by_outcomes StagedOutcome s (event.Leave a) (λ why. h)
    (λ inside put. record { hands = h.hands; lanes = h.lanes })
staged-happens s (event.Weigh p class want desired online) h =
    by_outcomes StagedOutcome s (event.Weigh p class want desired online) (λ why. h)
    (λ inside more. record {
      hands = producers-weigh s.taken s.placed s.choices p _ more h.hands;
      lanes = h.lanes;
    })
staged-happens s (event.Put p hash) h =
    by_outcomes StagedOutcome s (event.Put p hash) (λ why. h)
    (λ inside more. record {
      hands = producers-put s.taken s.placed s.choices p more h.hands;
      lanes = lanes-landed s.bare _ _ _ _ h.lanes;
    })
staged-happens s (event.Pull c) h =
    by_outcomes StagedOutcome s (event.Pull c) (λ why. h)
    (λ free more. record {
      hands = h.hands;
      lanes = lanes-pull s.bare.pulled s.bare.delivered s.bare.retired c free h.lanes;
    })
staged-happens s (event.Deliver c o) h =
    by_outcomes StagedOutcome s (event.Deliver c o) (λ why. h)
    (λ more. record {
      hands = h.hands;
      lanes = lanes-deliver s.bare.pulled s.bare.delivered s.bare.retired c more h.lanes;
    })
staged-happens s (event.Retire c) h =
    by_outcomes StagedOutcome s (event.Retire c) (λ why. h)
    (λ more. record {
      hands = h.hands;
      lanes = lanes-retire s.bare.pulled s.bare.delivered s.bare.retired c more h.lanes;
    })
staged-happens s (event.Resize p count) h = record { hands = h.hands; lanes = h.lanes }
staged-happens s event.Close h =
    by_outcomes StagedOutcome s event.Close (λ why. h)
    (h, (λ empty. record { hands = h.hands; lanes = h.lanes }))
staged-happens s event.Reopen h = record { hands = h.hands; lanes = h.lanes }

staged-fresh : (fixed : Fixed) (counts : List ℕ) (guests lanes outs : ℕ)
    → Staged (fresh_hop fixed counts guests lanes outs)
staged-fresh fixed counts guests lanes outs =
    let n : ℕ = length counts in
    record {
      hands = record {
        put = λ p. rw (at_new {X = ℕ} n p 0) (omega arith);
        chosen = λ p. rw (at_new {X = List Chosen} n p [], at_new {X = ℕ} n p 0) (omega arith);
        one = λ p. rw (at_new {X = ℕ} n p 0) (omega arith);
        even = rw (length-replicate, length-replicate) refl;
      };
      lanes = record {
        delivered_first = λ c. rw (at_new {X = ℕ} lanes c 0) (omega arith);
        retired_first = λ c. rw (at_new {X = ℕ} lanes c 0) (omega arith);
        one = λ c. rw (at_new {X = ℕ} lanes c 0) (omega arith);
      };
    }

is-staged : (s : HopState) → Staged s → IsStaged s
is-staged s h =
    record {
      weighed = h.hands.put;
      taken = h.hands.chosen;
      one = h.hands.one;
      delivered = h.lanes.delivered_first;
      retired = h.lanes.retired_first;
      one_pulled = h.lanes.one;
      counted = h.hands.even;
    }

of-staged : (s : HopState) → IsStaged s → Staged s
of-staged s h =
    record {
      hands = record { put = h.weighed; chosen = h.taken; one = h.one; even = h.counted };
      lanes = record {
        delivered_first = h.delivered;
        retired_first = h.retired;
        one = h.one_pulled;
      };
    }

-- ---- the notes of the pollers

-- who looked has a packet to weigh, and who asks has put what it took
record Noted (notes : List Note) (taken placed : List ℕ) (choices : List (List Chosen)) : Type 0
  where
    looked : (q : ℕ) (want : Option ℕ) → get_or notes q note.Nothing ≡ note.Looked want
        → length (get_or choices q []) < get_or taken q 0
    asked : (q : ℕ) (filter : Filter) → get_or notes q note.Nothing ≡ note.Asking filter
        → get_or taken q 0 ≤ get_or placed q 0

abbrev NotedIn : List Note → HopState → Type 0
NotedIn notes s = Noted notes s.taken s.placed s.choices

looked-nothing : (n : Note) (want : Option ℕ) → n ≡ note.Nothing → n ≡ note.Looked want → ⊥
looked-nothing n want e f = cc

asking-nothing : (n : Note) (filter : Filter) → n ≡ note.Nothing → n ≡ note.Asking filter → ⊥
asking-nothing n filter e f = cc

noted-clear : (notes : List Note) (taken placed : List ℕ) (choices : List (List Chosen)) (p : ℕ)
    → Noted notes taken placed choices → Noted (set notes p note.Nothing) taken placed choices
noted-clear notes taken placed choices p h =
    record {
      looked = λ q want e. elim (set-cases notes p q note.Nothing note.Nothing) [
        | inl same ↦ h.looked q want (sym same ∙ e)
        | inr w ↦ absurd (looked-nothing (get_or (set notes p note.Nothing) q note.Nothing) want w.1
            e)
      ];
      asked = λ q filter e. elim (set-cases notes p q note.Nothing note.Nothing) [
        | inl same ↦ h.asked q filter (sym same ∙ e)
        | inr w ↦ absurd (asking-nothing (get_or (set notes p note.Nothing) q note.Nothing) filter
            w.1 e)
      ];
    }

noted-look : (notes : List Note) (taken placed : List ℕ) (choices : List (List Chosen)) (p : ℕ)
    (want : Option ℕ)
    → length (get_or choices p []) < get_or taken p 0
    → Noted notes taken placed choices → Noted (set notes p (note.Looked want)) taken placed choices
noted-look notes taken placed choices p want more h =
    record {
      looked = λ q other e. elim (set-cases notes p q (note.Looked want) note.Nothing) [
        | inl same ↦ h.looked q other (sym same ∙ e)
        | inr w ↦ rw w.0 more
      ];
      asked = λ q filter e. elim (set-cases notes p q (note.Looked want) note.Nothing) [
        | inl same ↦ h.asked q filter (sym same ∙ e)
        | inr w ↦ absurd (looked-asking want filter (sym w.1 ∙ e))
      ];
    }
  where
    looked-asking : (want : Option ℕ) (filter : Filter) → note.Looked want ≡ note.Asking filter → ⊥
    looked-asking want filter e = cc

noted-ask : (notes : List Note) (taken placed : List ℕ) (choices : List (List Chosen)) (p : ℕ)
    (ask : Filter)
    → get_or taken p 0 ≤ get_or placed p 0
    → Noted notes taken placed choices → Noted (set notes p (note.Asking ask)) taken placed choices
noted-ask notes taken placed choices p ask put h =
    record {
      looked = λ q want e. elim (set-cases notes p q (note.Asking ask) note.Nothing) [
        | inl same ↦ h.looked q want (sym same ∙ e)
        | inr w ↦ absurd (asking-looked want (sym w.1 ∙ e))
      ];
      asked = λ q filter e. elim (set-cases notes p q (note.Asking ask) note.Nothing) [
        | inl same ↦ h.asked q filter (sym same ∙ e)
        | inr w ↦ rw w.0 put
      ];
    }
  where
    asking-looked : (want : Option ℕ) → note.Asking ask ≡ note.Looked want → ⊥
    asking-looked want e = cc

noted-take : (notes : List Note) (taken placed : List ℕ) (choices : List (List Chosen)) (p : ℕ)
    → is_asking (get_or notes p note.Nothing) ≡ false
    → Noted notes taken placed choices → Noted notes (set taken p (get_or taken p 0 + 1)) placed
    choices
noted-take notes taken placed choices p free h =
    record {
      looked = λ q want e. (let old = h.looked q want e in
          elim (set-cases taken p q (get_or taken p 0 + 1) 0) [
            | inl same ↦ rw same old
            | inr w ↦ rw w.1 (let t : get_or taken q 0 ≡ get_or taken p 0 = rw w.0 refl in
                omega arith)
          ]);
      asked = λ q filter e. (let old = h.asked q filter e in
          elim (set-cases taken p q (get_or taken p 0 + 1) 0) [
            | inl same ↦ rw same old
            | inr w ↦ absurd (asks-not filter (rw w.0 free) e)
          ]);
    }
  where
    asks-not : {n : Note} (filter : Filter) → is_asking n ≡ false → n ≡ note.Asking filter → ⊥
    asks-not filter e f = false≢true (sym e ∙ ap is_asking f)

noted-weigh : (notes : List Note) (taken placed : List ℕ) (choices : List (List Chosen)) (p : ℕ)
    (new : List Chosen)
    → Noted notes taken placed choices → Noted (set notes p note.Nothing) taken placed
    (set choices p new)
noted-weigh notes taken placed choices p new h =
    record {
      looked = λ q want e. elim (cases_eq q p) [
        | inl same ↦ absurd (looked-nothing (get_or (set notes p note.Nothing) q note.Nothing) want
            (rw same (set-default notes p note.Nothing)) e)
        | inr ne ↦ rw (get_or-set_other choices p q new [] ne)
            (h.looked q want (sym (get_or-set_other notes p q note.Nothing note.Nothing ne) ∙ e))
      ];
      asked = (noted-clear notes taken placed choices p h).asked;
    }

noted-put : (notes : List Note) (taken placed : List ℕ) (choices : List (List Chosen)) (p : ℕ)
    → Noted notes taken placed choices → Noted notes taken (set placed p (get_or placed p 0 + 1))
    choices
noted-put notes taken placed choices p h =
    record {
      looked = h.looked;
      asked = λ q filter e. (let old = h.asked q filter e in
          elim (set-cases placed p q (get_or placed p 0 + 1) 0) [
            | inl same ↦ rw same old
            | inr w ↦ rw w.1 (let t : get_or placed q 0 ≡ get_or placed p 0 = rw w.0 refl in
                omega arith)
          ]);
    }

-- a packet that is put was the one that was taken
all-put : (taken placed : List ℕ) (choices : List (List Chosen)) (p : ℕ)
    → get_or placed p 0 < length (get_or choices p [])
    → Producers taken placed choices → get_or taken p 0 ≤ get_or
    (set placed p (get_or placed p 0 + 1)) p 0
all-put taken placed choices p more h =
    let within : p < length choices = full-in_range choices p (omega arith) in
    let old = h.one p in
    rw (get_or-set_same placed p (get_or placed p 0 + 1) 0 (omega (arith, h.even))) old

-- ---- the machine

record Good (m : Machine) : Type 0 where
  rx : Staged m.rx
  tx : Staged m.tx
  notes : NotedIn m.notes m.rx

-- whether an event changes no hand of a producer
abbrev keeps_hands : HopEvent → Bool
keeps_hands (event.Take p) = false
keeps_hands (event.Weigh p class want desired online) = false
keeps_hands (event.Put p hash) = false
keeps_hands _ = true

noted-happens : (notes : List Note) (s : HopState) (e : HopEvent) → keeps_hands e ≡ true
    → NotedIn notes s
    → NotedIn notes (happens s e).0
noted-happens notes s e k h = by_outcomes (λ o. NotedIn notes o.0) s e (λ why. h) (kept e k)
  where
    kept : (e : HopEvent) → keeps_hands e ≡ true → Answered (λ o. NotedIn notes o.0) s e
    kept (event.Arrive p id) k = h
    kept (event.Take p) k = absurd (false≢true k)
    kept (event.Enter a) k = ((λ closed. h), (λ outside opened. h))
    kept (event.Leave a) k = λ inside put. h
    kept (event.Weigh p class want desired online) k = absurd (false≢true k)
    kept (event.Put p hash) k = absurd (false≢true k)
    kept (event.Pull c) k = λ free more. h
    kept (event.Deliver c o) k = λ more. h
    kept (event.Retire c) k = λ more. h
    kept (event.Resize p count) k = h
    kept event.Close k = (h, (λ empty. h))
    kept event.Reopen k = h

good-rx : (m : Machine) (e : HopEvent) → keeps_hands e ≡ true → Good m → Good (by_rx m e).0
good-rx m e k h =
    record {
      rx = staged-happens m.rx e h.rx;
      tx = h.tx;
      notes = noted-happens m.notes m.rx e k h.notes;
    }

good-tx : (m : Machine) (e : HopEvent) → Good m → Good (by_tx m e).0
good-tx m e h = record { rx = h.rx; tx = staged-happens m.tx e h.tx; notes = h.notes }

good-if : (b : Bool) (x y : StepOutcome) → (b ≡ true → Good x.0) → (b ≡ false → Good y.0)
    → Good (if b then x else y).0
good-if true x y p q = p refl
good-if false x y p q = q refl

good-take : (m : Machine) (q : ℕ) → is_asking (note_of m q) ≡ false → Good m
    → Good (by_rx m (event.Take q)).0
good-take m q free h =
    record {
      rx = staged-happens m.rx (event.Take q) h.rx;
      tx = h.tx;
      notes = by_outcomes (λ o. NotedIn m.notes o.0) m.rx (event.Take q) (λ why. h.notes)
          (λ empty more. noted-take m.notes m.rx.taken m.rx.placed m.rx.choices q free h.notes);
    }

good-look : (m : Machine) (q x : ℕ) (t : Bool) → weighs_next m.rx q ≡ t → Good m
    → Good (look_by m q (if t then Some x else None)).0
good-look m q x true more h =
    record {
      rx = h.rx;
      tx = h.tx;
      notes = noted-look m.notes m.rx.taken m.rx.placed m.rx.choices q _
          (ltb-true _ _ more) h.notes;
    }
good-look m q x false more h = h

good-weigh : (m : Machine) (q : ℕ) (n : Note) (x : Option ℕ) → Good m → Good (weigh_by m q n x).0
good-weigh m q note.Nothing x h = h
good-weigh m q (note.Asking filter) x h = h
good-weigh m q (note.Looked want) None h = h
good-weigh m q (note.Looked want) (Some x) h =
    record {
      rx = staged-happens m.rx (weighing m q x want) h.rx;
      tx = h.tx;
      notes = by_outcomes (λ o. NotedIn (set m.notes q note.Nothing) o.0) m.rx (weighing m q x want)
          (λ why. noted-clear m.notes m.rx.taken m.rx.placed m.rx.choices q h.notes)
          (λ inside more. noted-weigh m.notes m.rx.taken m.rx.placed m.rx.choices q _ h.notes);
    }

-- what a put leaves of the machine, by what happens at the hop
abbrev PutLeaves : Machine → ℕ → HopOutcome → Type 0
PutLeaves m q o = Good (poller_after_put (record m { rx = o.0 }) q (put_position o.1) o.1).0

good-asking : (m : Machine) (q : ℕ) (wish : Option Filter) → taken_of m.rx q ≤ placed_of m.rx q
    → Good m
    → Good (with_note m q (asking wish))
good-asking m q None put h =
    record {
      rx = h.rx;
      tx = h.tx;
      notes = noted-clear m.notes m.rx.taken m.rx.placed m.rx.choices q
          h.notes;
    }
good-asking m q (Some filter) put h =
    record {
      rx = h.rx;
      tx = h.tx;
      notes = noted-ask m.notes m.rx.taken m.rx.placed m.rx.choices q
          filter put h.notes;
    }

good-put : (m : Machine) (q : ℕ) → Good m → PutLeaves m q (happens m.rx (putting m q))
good-put m q h =
    let hash : Option ℕ = packet_hash m.setup (last_chosen m.rx q).id in
    by_outcomes (PutLeaves m q) m.rx (putting m q) (λ why. h) (λ inside more.
    let rx : Staged (put_one m.rx q hash) = record {
      hands = producers-put m.rx.taken m.rx.placed m.rx.choices q more h.rx.hands;
      lanes = lanes-landed m.rx.bare _ _ _ _ h.rx.lanes;
    } in
    went-on {n = record m { rx = put_one m.rx q hash }}
    (put_answer (lane_of m.rx.fixed m.rx.bare (in_hand m.rx q).choice.lane) hash)
    (all-put m.rx.taken m.rx.placed m.rx.choices q more h.rx.hands)
    (record {
      rx = rx;
      tx = h.tx;
      notes = noted-put m.notes m.rx.taken m.rx.placed m.rx.choices q
          h.notes;
    }))
  where
    went-on : {n : Machine} (w : Put) → taken_of n.rx q ≤ placed_of n.rx q → Good n
        → Good (poller_after_put n q (put_position (answer.Went w)) (answer.Went w)).0
    went-on {n} (went.At position) put good = good-asking n q _ put good
    went-on (went.Dropped number accepted pulled cause) put good = good

good-ask : (m : Machine) (q : ℕ) (n : Note) → Good m → Good (ask_by m q n).0
good-ask m q note.Nothing h = h
good-ask m q (note.Looked want) h = h
good-ask m q (note.Asking filter) h =
    record {
      rx = h.rx;
      tx = h.tx;
      notes = noted-clear m.notes m.rx.taken m.rx.placed m.rx.choices q
          h.notes;
    }

good-record : (m : Machine) (hash : Option (Option ℕ)) → Good m → Good (record_by m hash).0
good-record m None h = h
good-record m (Some None) h = h
good-record m (Some (Some hash)) h =
    let a : ℕ = hash % m.setup.apps in
    let guest : ℕ = length m.setup.homes + a in
    let inside : HopState = (happens m.rx (event.Enter guest)).0 in
    good-if (nat_lt 0 (length m.socket)) (wrote (visited m a) a hash, says.Done) _ (λ some. record {
      rx = staged-happens inside (event.Leave guest) (staged-happens m.rx (event.Enter guest) h.rx);
      tx = h.tx;
      notes = noted-happens m.notes inside (event.Leave guest) refl (noted-happens m.notes m.rx
          (event.Enter guest) refl h.notes);
    }) (λ none. h)

good-send : (m : Machine) (a : ℕ) (x : Option ℕ) → Good m → Good (send_by m a x).0
good-send m a None h = h
good-send m a (Some x) h =
    record {
      rx = h.rx;
      tx = staged-happens _ (event.Take a) (staged-happens m.tx (event.Arrive a x) h.tx);
      notes = h.notes;
    }

good-set_by : (m : Machine) (c : Command) → Good m → Good (set_by m c)
good-set_by m (give.Flows q count) h =
    let shut : HopState = (happens m.rx event.Close).0 in
    let sized : HopState = (happens shut (event.Resize q count)).0 in
    record {
      rx = staged-happens sized event.Reopen
          (staged-happens shut (event.Resize q count) (staged-happens m.rx event.Close h.rx));
      tx = h.tx;
      notes = noted-happens m.notes sized event.Reopen refl
          (noted-happens m.notes shut (event.Resize q count) refl
          (noted-happens m.notes m.rx event.Close refl h.notes));
    }
good-set_by m (give.Mask q mask) h = record { rx = h.rx; tx = h.tx; notes = h.notes }
good-set_by m (give.Sock size) h = record { rx = h.rx; tx = h.tx; notes = h.notes }
good-set_by m (give.Offline cpu) h = record { rx = h.rx; tx = h.tx; notes = h.notes }
good-set_by m (give.Online cpu) h = record { rx = h.rx; tx = h.tx; notes = h.notes }
good-set_by m (give.XCpus tx mask) h = record { rx = h.rx; tx = h.tx; notes = h.notes }
good-set_by m (give.XQueues tx queues) h = record { rx = h.rx; tx = h.tx; notes = h.notes }
good-set_by m (give.Reta place q) h = record { rx = h.rx; tx = h.tx; notes = h.notes }
good-set_by m (give.Stand app cpu) h = record { rx = h.rx; tx = h.tx; notes = h.notes }
good-set_by m give.Expire h = record { rx = h.rx; tx = h.tx; notes = h.notes }

good-given : (m : Machine) (c : Command) → Good m → Good (given m c).0
good-given m c h = set-or (is_done (answer_to m c))
  where
    set-or : (b : Bool) → Good (listed (if b then set_by m c else m) c (answer_to m c))
    set-or true = (let g = good-set_by m c h in record { rx = g.rx; tx = g.tx; notes = g.notes })
    set-or false = record { rx = h.rx; tx = h.tx; notes = h.notes }

good-simple : (m : Machine) (s : Step) → Good m → Good (simple m s).0
good-simple m act.Arrive h =
    let a : Arrival = arrival_by (length m.arrivals)
    (route_by m (packet_hash m.setup (length m.arrivals))) in
    let e : HopEvent = event.Arrive a.queue a.id in
    good-if (nat_lt (length m.arrivals) (length m.setup.packets)) (arrives m a, says.Done)
    (m, says.Idle idle.NothingLeft)
    (λ more. record {
      rx = staged-happens m.rx e h.rx;
      tx = h.tx;
      notes = noted-happens m.notes m.rx e refl h.notes;
    })
    (λ none. h)
good-simple m (act.Take q) h =
    good-if (is_asking (note_of m q)) (m, says.Idle idle.HandFull) (by_rx m (event.Take q))
    (λ asks. h)
    (λ free. good-take m q free h)
good-simple m (act.Enter q) h = good-rx m (event.Enter q) refl h
good-simple m (act.Look q) h =
    good-if (not (inside_of m.rx q)) (m, says.Idle idle.NotInside) _ (λ outside. h)
    (λ inside. good-if (is_nothing (note_of m q)) _ (m, says.Idle idle.WrongStage)
    (λ nothing. good-look m q (next_of m.rx q) (weighs_next m.rx q) refl h) (λ some. h))
good-simple m (act.Weigh q) h =
    good-if (not (inside_of m.rx q)) (m, says.Idle idle.NotInside) _ (λ outside. h)
    (λ inside. good-weigh m q (note_of m q) (to_weigh m.rx q) h)
good-simple m (act.Put q) h = good-put m q h
good-simple m (act.Ask q) h =
    good-if (not (inside_of m.rx q)) (m, says.Idle idle.NotInside) _ (λ outside. h)
    (λ inside. good-ask m q (note_of m q) h)
good-simple m (act.Leave q) h =
    good-if (not (inside_of m.rx q)) (m, says.Idle idle.NotInside) _ (λ outside. h)
    (λ inside. good-if (is_nothing (note_of m q)) (by_rx m (event.Leave q))
    (m, says.Idle idle.MidPacket)
    (λ nothing. good-rx m (event.Leave q) refl h) (λ some. h))
good-simple m (act.Pull c) h = good-rx m (event.Pull c) refl h
good-simple m (act.Deliver c) h = good-rx m (event.Deliver c (app_for m.setup (in_lane m.rx c)))
    refl h
good-simple m (act.Retire c) h = good-rx m (event.Retire c) refl h
good-simple m (act.Record flow) h = good-record m (flow_hash m.setup flow) h
good-simple m (act.Send a) h =
    good-if (nat_lt (placed_of m.tx a) (taken_of m.tx a)) (m, says.Idle idle.HandFull)
    (send_by m a (next_in m a))
    (λ full. h) (λ free. good-send m a (next_in m a) h)
good-simple m (act.TEnter a) h = good-tx m (event.Enter a) h
good-simple m (act.TLeave a) h = good-tx m (event.Leave a) h
good-simple m (act.TWeigh a) h = good-tx m (sending m a (in_reply m a)) h
good-simple m (act.TPut a) h = good-tx m (event.Put a (packet_hash m.setup (last_chosen m.tx a).id))
    h
good-simple m (act.TPull t) h = good-tx m (event.Pull t) h
good-simple m (act.TDeliver t) h = good-tx m (event.Deliver t 0) h
good-simple m (act.TRetire t) h = good-tx m (event.Retire t) h
good-simple m (act.Give c) h = good-given m c h
good-simple m (act.Poll q) h = h
good-simple m (act.Drain c) h = h
good-simple m (act.Reply a) h = h
good-simple m (act.Serve a) h = h
good-simple m (act.Ship t) h = h
good-simple m act.Sweep h = h

good-new : (plan : Plan) (packets : List Packet) (cut : Option ℕ)
    → Good (new_machine plan packets cut)
good-new plan packets cut =
    let queues : ℕ = length plan.queues in
    record {
      rx = staged-fresh _ _ _ _ _;
      tx = staged-fresh _ _ _ _ 1;
      notes = record {
        looked = λ q want e. absurd (looked-nothing _ want (at_new {X = Note} queues q note.Nothing)
            e);
        asked = λ q filter e. absurd (asking-nothing _ filter
            (at_new {X = Note} queues q note.Nothing) e);
      };
    }

are-staged : (m : Machine) → Good m → AreStaged m
are-staged m g =
    record {
      rx = is-staged m.rx g.rx;
      tx = is-staged m.tx g.tx;
      looked = g.notes.looked;
      asking = g.notes.asked;
    }

of-all-staged : (m : Machine) → AreStaged m → Good m
of-all-staged m h =
    record {
      rx = of-staged m.rx h.rx;
      tx = of-staged m.tx h.tx;
      notes = record { looked = h.looked; asked = h.asking };
    }

pub new_is_staged : (plan : Plan) (packets : List Packet) (cut : Option ℕ) → AreStaged
    (new_machine plan packets cut)
new_is_staged plan packets cut = are-staged (new_machine plan packets cut)
    (good-new plan packets cut)

pub steps_keep_staged : (ss : List Step) (m : Machine) → AreStaged m → AreStaged (after ss m)
steps_keep_staged ss m h = are-staged (after ss m) (after-keeps Good good-simple ss m
    (of-all-staged m h))

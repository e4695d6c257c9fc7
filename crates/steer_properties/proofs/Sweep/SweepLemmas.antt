-- A sweep ends with an idle round: there is less work than its rounds.
use Rattle.std.proofs.Common.{ℕ, ◌+◌, ◌*◌, ◌≤◌, ◌<◌, ◌≡◌, Bool, true, false, not, cond, List, []}
use Rattle.std.proofs.Common.{◌∷◌, length, refl, ap, ◌∙◌, sym, subst, arith, inl, inr, suc, zero}
use Rattle.std.proofs.Common.{get_or}
use Rattle.std.specs.Prelude.{◌&&◌, ◌||◌}
use Rattle.std.specs.List.{sum_by}
use Rattle.std.proofs.lemmas.Bool.{cases_Bool}
use Rattle.std.proofs.lemmas.List.Sums.{sum_by-cons}
use Rattle.steer_base.specs.declared.choice.Chosen.{Chosen}
use Rattle.steer_base.specs.declared.step.Step.{Step}
use Rattle.hop_model.specs.Hop.{HopState, choices_of, taken_of}
use Rattle.hop_core.specs.Work.{sum_of, total, work}
use Rattle.hop_core.proofs.Work.{room-lists, work_is_bounded}
use Rattle.steer_model.specs.State.Machine.{Machine, note_of}
use Rattle.steer_model.specs.State.Setup.{Setup}
use Rattle.steer_model.specs.Steps.SingleSteps.{is_idle, is_work, simple}
use Rattle.steer_model.specs.Steps.CompoundSteps.{Progress, most_rounds, one_round, rounds, tried}
use Rattle.steer_model.specs.declared.note.Note.{Note}
use Rattle.steer_model.specs.declared.note.Note.TheVariants as note
use Rattle.steer_invariant.specs.StepInvariant.{IsNamed, StepInvariant}
use Rattle.steer_invariant.specs.HopInvariants.{IsNoted}
use Rattle.steer_properties.specs.Sweep.Rest.{AtRest}
use Rattle.steer_properties.specs.Sweep.SweepLaws.{IsIdleRound, SweepEndsAtRest, SweepEndsIdle}
use Rattle.steer_properties.proofs.Sweep.IdleTurnLemmas.{idle-leaves}
use Rattle.steer_invariant.proofs.StepInvariant.StepLemmas.{flow_small}
use Rattle.steer_invariant.proofs.StepInvariant.SingleStepLemmas.{goes-simple}
use Rattle.steer_properties.proofs.Sweep.RoundLemmas.{idle_round_rests}
use Rattle.steer_invariant.proofs.TurnLiftLemmas.{IsTried, round-keeps}
use Rattle.steer_properties.proofs.Sweep.WeightLemmas.{note_weight, rests-there, weight}
use Rattle.steer_properties.proofs.Sweep.WeightLemmas.{works-further}

-- ---- a turn adds to the work where it did some

-- the work, and one more as long as none was done
abbrev height : Progress → ℕ
height t = weight t.0 + cond t.1 0 1

rises-by : (done work idle : Bool) (w v : ℕ) → (work ≡ true → idle ≡ false → w + 1 ≤ v)
    → (idle ≡ true → v ≡ w) → (work ≡ false → v ≡ w)
    → w + cond done 0 1 ≤ v + cond (done || (work && not idle)) 0 1
rises-by true true true w v on same off = let e = same refl in omega (arith, e)
rises-by true true false w v on same off = let e = on refl refl in omega (arith, e)
rises-by true false idle w v on same off = let e = off refl in omega (arith, e)
rises-by false true true w v on same off = let e = same refl in omega (arith, e)
rises-by false true false w v on same off = let e = on refl refl in omega (arith, e)
rises-by false false idle w v on same off = let e = off refl in omega (arith, e)

record Rising (p : Setup) (from : ℕ) (t : Progress) : Type 0 where
  setup : t.0.setup ≡ p
  kept : StepInvariant t.0
  high : from ≤ height t

rising-tried : (p : Setup) (from : ℕ) (t : Progress) (s : Step) → IsTried p s → Rising p from t
    → Rising p from (tried t s)
rising-tried p from t s is r =
    let named : IsNamed t.0.setup s = subst (λ (q : Setup). IsNamed q s) (sym r.setup) is.named in
    let g = goes-simple t.0 r.kept s named in
    let rise =
    rises-by t.1 (is_work s) (is_idle (simple t.0 s).1) (weight t.0) (weight (simple t.0 s).0)
    (λ on busy. works-further t.0 r.kept s named on is.event busy)
    (λ idle. ap (λ (m : Machine). weight m) (idle-leaves t.0 s is.event idle))
    (λ off. rests-there t.0 s off) in
    let high = r.high in
    record { setup = g.setup ∙ r.setup; kept = g.kept; high = omega (arith, high, rise) }

rising-round : (m : Machine) → StepInvariant m → Rising m.setup (weight m + 1)
    (one_round (m, false))
rising-round m k =
    round-keeps m.setup (Rising m.setup (weight m + 1)) (λ t r. r.setup)
    (λ x. flow_small m.setup x k.given)
    (λ t s is r. rising-tried m.setup (weight m + 1) t s is r) (m, false)
    (record { setup = refl; kept = k; high = omega arith })

-- ---- how much work there can be

sum-le : {X : Type 0} (ns : List ℕ) (ls : List (List X)) → length ns ≡ length ls
    → ((i : ℕ) → get_or ns i 0 ≤ length (get_or ls i [])) → sum_of ns ≤ total ls
unfolding total sum_of
sum-le [] ls e h = omega arith
sum-le (n ∷ ns) [] e h = absurd (omega (arith, e))
sum-le (n ∷ ns) (l ∷ ls) e h =
    let a = h 0 in let b = sum-le ns ls (omega (arith, e)) (λ i. h (suc i)) in omega (arith, a, b)

-- choices and notes are no more than what was taken up and one for each poller
notes-le : (cs : List (List Chosen)) (ts : List ℕ) (ns : List Note) → length ts ≡ length cs
    → length ns ≡ length cs
    → ((i : ℕ)
    → length (get_or cs i []) + note_weight (get_or ns i note.Nothing) ≤ get_or ts i 0 + 1)
    → total cs + sum_by note_weight ns ≤ sum_of ts + length ns
unfolding total sum_of
notes-le [] [] [] e f h = omega arith
notes-le [] (t ∷ ts) ns e f h = absurd (omega (arith, e))
notes-le [] [] (n ∷ ns) e f h = absurd (omega (arith, f))
notes-le (c ∷ cs) [] ns e f h = absurd (omega (arith, e))
notes-le (c ∷ cs) (t ∷ ts) [] e f h = absurd (omega (arith, f))
notes-le (c ∷ cs) (t ∷ ts) (n ∷ ns) e f h =
    let a = h 0 in
    let b = notes-le cs ts ns (omega (arith, e)) (omega (arith, f)) (λ i. h (suc i)) in
    let s = sum_by-cons note_weight n ns in omega (arith, a, b, s)

note-le : (s : HopState) (q : ℕ) (n : Note) → length (choices_of s q) ≤ taken_of s q → IsNoted s q n
    → length (choices_of s q) + note_weight n ≤ taken_of s q + 1
note-le s q note.Nothing le is = omega (arith, le)
note-le s q (note.Looked want) le is = omega (arith, is)
note-le s q (note.Asking filter) le is = omega (arith, le)

bounded : (m : Machine) → StepInvariant m → weight m ≤ 16 * length m.setup.packets + 16
bounded m k =
    let h = k.rx.sound in let w = h.wide in let z = k.rx.sizes in let l = k.lists in
    let rx = work_is_bounded m.rx h in let tx = work_is_bounded m.tx k.tx.sound in
    let room = z.room in let tx_room = k.tx.sizes.room in
    let arrivals : total m.rx.arrivals ≤ m.rx.fixed.room =
    room-lists m.rx.fixed.room m.rx.arrivals h.small.below h.once in
    let taken : sum_of m.rx.taken ≤ total m.rx.arrivals =
    sum-le m.rx.taken m.rx.arrivals w.taken h.hands.arrived in
    let placed : sum_of m.rx.placed ≤ total m.rx.arrivals =
    sum-le m.rx.placed m.rx.arrivals w.placed
    (λ q. let a = h.hands.put q in let b = h.hands.chosen q in let c = h.hands.arrived q in
    omega (arith, a, b, c)) in
    let looked = notes-le m.rx.choices m.rx.taken m.notes (w.taken ∙ sym w.choices)
    (l.notes_long ∙ sym z.queues ∙ sym w.choices)
    (λ q. note-le m.rx q (note_of m q) (h.hands.chosen q) (k.noted q)) in
    let few = k.given.few_queues in let long = l.notes_long in
    omega (arith, rx, tx, room, tx_room, arrivals, taken, placed, looked, few, long)

-- ---- rounds

record Ended (p : Setup) (t u : Progress) : Type 0 where
  last : Machine
  kept : StepInvariant last
  idle : IsIdleRound last
  ends : u.0 ≡ (one_round (last, false)).0

ends-idle : (p : Setup) (n : ℕ) (t : Progress) → t.0.setup ≡ p → StepInvariant t.0
    → 16 * length p.packets + 16 < weight t.0 + n → Ended p t (rounds n t)
unfolding rounds
ends-idle p zero t is k more =
    absurd (
    let b = bounded t.0 k in
    let e = ap (λ (q : Setup). length q.packets) is in omega (arith, b, more, e))
ends-idle p (suc n) t is k more =
    let next : Progress = one_round (t.0, false) in
    let r = rising-round t.0 k in
    elim (cases_Bool next.1) [
      | inl work ↦ (
          let high = r.high in
          let none : ◌≡◌ {A = ℕ} (cond next.1 0 1) 0 = ap (λ b. cond b 0 1) work in
          let rest =
          ends-idle p n (next.0, true) (r.setup ∙ is) r.kept (omega (arith, high, none, more)) in
          record {
            last = rest.last;
            kept = rest.kept;
            idle = rest.idle;
            ends = ap (λ b. (cond b (rounds n (next.0, true)) (next.0, t.1)).0) work ∙ rest.ends;
          })
      | inr idle ↦ record {
        last = t.0;
        kept = k;
        idle = idle;
        ends = ap (λ b. (cond b (rounds n (next.0, true)) (next.0, t.1)).0) idle;
      }
    ]

swept : (m : Machine) → StepInvariant m
    → Ended m.setup (m, false) (rounds (most_rounds (length m.setup.packets)) (m, false))
swept m k = ends-idle m.setup (most_rounds (length m.setup.packets)) (m, false) refl k (omega arith)

pub sweep_ends_idle : SweepEndsIdle
sweep_ends_idle m k = let s = swept m k in record { last = s.last; idle = s.idle; ends = s.ends }

pub sweep_ends_at_rest : SweepEndsAtRest
sweep_ends_at_rest m k =
    let s = swept m k in
    subst (λ (n : Machine). AtRest n) (sym s.ends) (idle_round_rests s.last s.kept s.idle)

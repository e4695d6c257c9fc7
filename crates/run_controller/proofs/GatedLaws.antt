-- A gated try keeps the coupling invariants of tries.
use Rattle.std.proofs.lemmas.List.Elements.{All-contains, Contains-append_right}
use Rattle.steer_base.specs.Sets.{has}
use Rattle.steer_base.specs.declared.command.Answer.TheVariants as says
use Rattle.steer_base.specs.declared.command.Busy.{Busy}
use Rattle.steer_base.proofs.SetsLemmas.{those_below-below, those_below-passes}
use Rattle.history.specs.declared.lane_list.LaneList.{LaneList}
use Rattle.hop_rule.specs.Gates.{openings}
use Rattle.hop_rule.specs.declared.step.BoardStep.TheVariants.{Counted}
use Rattle.hop_rule.specs.declared.step.GateStep.TheVariants.{NotShut, Opened, Set, Shut}
use Rattle.board_api.specs.Calls.Results.{lanes_in}
use Rattle.board_api.specs.Calls.Rights.{IsOutside}
use Rattle.run_coupling.specs.Laws.Calls.{busy_steps}
use Rattle.run_coupling.specs.Coupling.EmptiedLanes.{FindsAllEmpty}
use Rattle.run_coupling.proofs.Tries.CallLemmas.{busy_calls, done_calls, inside_calls}
use Rattle.run_coupling.proofs.Tries.EmptiedLemmas.{gates-looking, looking-append, looking-split}
use Rattle.run_controller.specs.Gated.{HasAffected, KeepsTry}
use Rattle.run_controller.proofs.Names.{◌≡◌, inl, inr, ℕ, ◌*◌, ◌^◌, ◌<◌, true, List, [], ◌∷◌, ◌++◌}
use Rattle.run_controller.proofs.Names.{length, map, refl, sym, ap, subst, ◌∙◌, arith, Contains}
use Rattle.run_controller.proofs.Names.{Answer, Inside, NotEmpty, Command, CpuMask, gate_steps}
use Rattle.run_controller.proofs.Names.{visit, BoardSizes, BoardStep, Gate, Weighed, Looked}
use Rattle.run_controller.proofs.Names.{looking, BoardSeatView, SettingChange, Input, setup_in}
use Rattle.run_controller.proofs.Names.{GatedTriesKeep, IsGated}

-- the cases of an answer
busy_of : Answer → Busy → Busy
busy_of (says.Busy why) other = why
busy_of _ other = other

is_busy : Answer → ℕ
is_busy (says.Busy why) = 1
is_busy _ = 0

kind_of : Busy → ℕ
kind_of (Inside n) = 1
kind_of (NotEmpty lane head tail) = 2

count_of : Busy → ℕ
count_of (Inside n) = n
count_of _ = 0

numbers_of : Busy → ℕ × (ℕ × ℕ)
numbers_of (NotEmpty lane head tail) = (lane, (head, tail))
numbers_of _ = (0, (0, 0))

module _ (i : Input) (about : BoardSizes) (left : List LaneList) (lanes : CpuMask) (c : Command)
    (m : SettingChange) (counted : length left ≡ about.lanes)
    (affected : HasAffected i about c lanes) where
  abbrev Keeps : Answer → BoardSeatView → BoardSeatView → Type 0
  Keeps answer old new =
      (steps : List BoardStep) × (new.steps ≡ steps ++ old.steps)
      × KeepsTry i about left c m answer steps

  -- ---- done

  abbrev done_steps : List Looked → ℕ → List BoardStep
  done_steps looked word =
      Gate Opened ∷ Gate (Set m.word m.value) ∷ looking looked (Gate (Shut word) ∷ [])

  kept-done : (old new : BoardSeatView) → IsGated about lanes m.word m.value old new says.Done
      → Keeps says.Done old new
  unfolding is_busy
  kept-done old new (mid, (shut, closes, all), (set, sets, opens)) =
      let word : ℕ = openings (gate_steps old.steps) * 2 ^ 32 in
      let base : List BoardStep = Gate (Shut word) ∷ [] in
      let looked : List Looked = all.looked in
      let found : FindsAllEmpty about (setup_in i).homes (setup_in i).cpus (setup_in i).txs c m
      (done_steps looked word) =
      record {
        mask = lanes;
        looked = looked;
        word = word;
        lanes = all.lanes;
        empty = all.empty;
        wanted = λ l less is. affected l less ∙ is;
        are = refl;
      } in (
        done_steps looked word,
        ap (λ (s : BoardSeatView). s.steps) opens
            ∙ ap (λ ds. Gate Opened ∷ ds)
            (ap (λ (s : BoardSeatView). s.steps) sets
            ∙ ap (λ ds. Gate (Set m.word m.value) ∷ ds)
            (ap (λ (s : BoardSeatView). s.steps) all.step
            ∙ (ap (λ (s : BoardSeatView). looking looked s.steps) closes
            ∙ looking-append looked base old.steps))),
        record {
          sets = λ words changes one.
              inl (
                refl,
                m,
                one,
                done_calls about (setup_in i).homes (setup_in i).cpus
                    (setup_in i).txs c m (done_steps looked word) found,
              );
          finds = inr found;
          inside = λ n is. (let z = ap is_busy is in absurd (omega arith));
          busy = λ lane head tail is. (let z = ap is_busy is in absurd (omega arith));
        },
      )

  -- ---- visits open

  kept-inside : (old new : BoardSeatView) (n : ℕ)
      → IsGated about lanes m.word m.value old new (says.Busy (Inside n))
      → Keeps (says.Busy (Inside n)) old new
  unfolding busy_of kind_of count_of
  kept-inside old new n (word, is, some, few, adds) = (
    Gate (NotShut word) ∷ [],
    ap (λ (s : BoardSeatView). s.steps) adds,
    record {
      sets = λ words changes one. inr (inr (refl, inl (inside_calls word).0));
      finds = inl (inside_calls word).1;
      inside = λ k same.
          (let e : n ≡ k = ap (λ a. count_of (busy_of a (Inside n))) same in
          record {
            word = word;
            are = refl;
            counts = sym e ∙ is;
            some = omega arith;
            few = omega arith;
          });
      busy = λ lane head tail same.
          (let e = ap (λ a. kind_of (busy_of a (Inside n))) same in absurd (omega arith));
    },
  )

  -- ---- a lane that is not empty

  kept-busy : (old new : BoardSeatView) (lane head tail : ℕ)
      → IsGated about lanes m.word m.value old new (says.Busy (NotEmpty lane head tail))
      → Keeps (says.Busy (NotEmpty lane head tail)) old new
  unfolding busy_of kind_of numbers_of
  kept-busy old new lane head tail (mid, looked, closes, found, opens) =
      let word : ℕ = openings (gate_steps old.steps) * 2 ^ 32 in
      let base : List BoardStep = Gate (Shut word) ∷ [] in
      let steps : List BoardStep = busy_steps found.looked found.last word in
      let looks = busy_calls found.looked found.last word in
      let all : List Looked = found.looked ++ found.last ∷ [] in
      let among : Contains (lanes_in about lanes) lane =
      subst (λ ls. Contains ls lane) found.lanes
      (Contains-append_right (map (λ (x : Looked). x.lane) found.looked) (lane ∷ found.rest) lane
      (0, omega arith, refl)) in
      let less : lane < about.lanes =
      All-contains (λ l. l < about.lanes) (lanes_in about lanes) lane
      (those_below-below about.lanes (has lanes)) among in
      let is : has lanes lane ≡ true =
      All-contains (λ l. has lanes l ≡ true) (lanes_in about lanes) lane
      (those_below-passes about.lanes (has lanes)) among in (
        steps,
        ap (λ (s : BoardSeatView). s.steps) opens
            ∙ ap (λ ds. Gate Opened ∷ ds)
            (ap (λ (s : BoardSeatView). s.steps) found.step
            ∙ (ap (λ (s : BoardSeatView). looking all s.steps) closes
            ∙ looking-append all base old.steps)),
        record {
          sets = λ words changes one. inr (inr (refl, inr looks.opens));
          finds = inl looks.none;
          inside = λ k same.
              (let e = ap (λ a. kind_of (busy_of a (NotEmpty lane head tail))) same in
              absurd (omega arith));
          busy = λ l h t same.
              subst (λ (z : ℕ × (ℕ × ℕ)).
              Rattle.run_coupling.specs.Coupling.Answers.FindsOneBusy i left steps c z.0 z.1.0
              z.1.1)
              (ap (λ a. numbers_of (busy_of a (NotEmpty lane head tail))) same)
              (record {
                within = subst (λ n. lane < n) (sym counted) less;
                affected = sym (affected lane less) ∙ is;
                word = word;
                looked = found.looked;
                empty = found.empty;
                head_word = found.last.head;
                tail_word = found.last.tail;
                are = ap (λ ds. Gate Opened ∷ ds)
                    (looking-split found.looked found.last [] base)
                    ∙ ap (λ l. Gate Opened ∷ Counted l found.last.tail
                    ∷ Weighed l found.last.head ∷ looking found.looked base) found.lane_is;
                head_is = found.head_is;
                tail_is = found.tail_is;
                apart = found.apart;
              });
        },
      )

  kept : (answer : Answer) (old new : BoardSeatView)
      → IsGated about lanes m.word m.value old new answer → Keeps answer old new
  kept says.Done old new gated = kept-done old new gated
  kept (says.Busy (Inside n)) old new gated = kept-inside old new n gated
  kept (says.Busy (NotEmpty lane head tail)) old new gated =
      kept-busy old new lane head tail gated
  kept (says.Expired n) old new gated = absurd gated
  kept (says.Idle why) old new gated = absurd gated
  kept (says.CpuInUse user) old new gated = absurd gated
  kept says.CpuOffline old new gated = absurd gated

-- ---- the seat behind a try

-- a seat that closed a gate, looked, set and opened it is where it was
outside-again : (xs : List Looked) (w : ℕ) (newer older all : List BoardStep)
    → all ≡ Gate Opened ∷ (newer ++ looking xs (Gate (Shut w) ∷ older))
    → ((ds : List BoardStep) → visit (gate_steps (newer ++ ds)) ≡ visit (gate_steps ds))
    → IsOutside older → IsOutside all
outside-again xs w newer older all is quiet before =
    ap (λ ds. visit (gate_steps ds)) is
    ∙ (quiet (looking xs (Gate (Shut w) ∷ older))
    ∙ (ap visit (gates-looking xs (Gate (Shut w) ∷ older)) ∙ before))

pub gated_outside : (about : BoardSizes) (lanes : CpuMask) (number value : ℕ) (answer : Answer)
    (old new : BoardSeatView) → IsOutside old.steps
    → IsGated about lanes number value old new answer → IsOutside new.steps
gated_outside about lanes number value says.Done old new before
    (mid, (shut, closes, all), (set, sets, opens)) =
    outside-again all.looked (openings (gate_steps old.steps) * 2 ^ 32)
    (Gate (Set number value) ∷ []) old.steps new.steps
    (ap (λ (s : BoardSeatView). s.steps) opens
    ∙ ap (λ ds. Gate Opened ∷ ds)
    (ap (λ (s : BoardSeatView). s.steps) sets
    ∙ ap (λ ds. Gate (Set number value) ∷ ds)
    (ap (λ (s : BoardSeatView). s.steps) all.step
    ∙ ap (λ (s : BoardSeatView). looking all.looked s.steps) closes)))
    (λ ds. refl) before
gated_outside about lanes number value (says.Busy (Inside n)) old new before
    (word, is, some, few, adds) =
    ap (λ (s : BoardSeatView). visit (gate_steps s.steps)) adds ∙ before
gated_outside about lanes number value (says.Busy (NotEmpty lane head tail)) old new before
    (mid, looked, closes, found, opens) =
    outside-again (found.looked ++ found.last ∷ []) (openings (gate_steps old.steps) * 2 ^ 32) []
    old.steps new.steps
    (ap (λ (s : BoardSeatView). s.steps) opens
    ∙ ap (λ ds. Gate Opened ∷ ds)
    (ap (λ (s : BoardSeatView). s.steps) found.step
    ∙ ap (λ (s : BoardSeatView). looking (found.looked ++ found.last ∷ []) s.steps) closes))
    (λ ds. refl) before
gated_outside about lanes number value (says.Expired n) old new before gated = absurd gated
gated_outside about lanes number value (says.Idle why) old new before gated = absurd gated
gated_outside about lanes number value (says.CpuInUse user) old new before gated = absurd gated
gated_outside about lanes number value says.CpuOffline old new before gated = absurd gated

pub gated_tries_keep : GatedTriesKeep
gated_tries_keep i about left lanes c m answer old new counted affected gated =
    kept i about left lanes c m counted affected answer old new gated

-- What a step does to one lane, one out lane, one head, or one part of an order: something, or
-- nothing.
use Rattle.std.specs.List.{cons_option}
use Rattle.std.specs.Option.{option_map}
use Rattle.hop_rule.specs.Boards.{lane_step_in, gate_in}
use Rattle.hop_rule.specs.Lanes.{retired_after}
use Rattle.hop_rule.proofs.Names.{◌≡◌, ◌≢◌, ℕ, ◌+◌, ◌==◌, List, [], ◌∷◌, ◌++◌, if◌then◌else◌, sym}
use Rattle.hop_rule.proofs.Names.{refl, ap, subst, dite, ℕ_discrete, LaneLists, StepBy, step_by}
use Rattle.hop_rule.proofs.Names.{if_same, if_other, lane_changed, lane_after_step, out_after}
use Rattle.hop_rule.proofs.Names.{BoardStep, Lane, Gate, Weighed, Counted, LaneOut, LaneIn}
use Rattle.hop_rule.proofs.Names.{OutCounted, Change, GateStep, LaneStep, Held, Missed, Freed}
use Rattle.hop_rule.proofs.Names.{OutHeld, OutMissed, OutFreed, Given, Retired}

-- a choice by two numbers, each way
pub pick : {A : Type 0} (p q : ℕ) (a b : A) (F : A → Type 0) → (p ≡ q → F a) → (p ≢ q → F b)
    → F (if p == q then a else b)
pick p q a b F same other = dite (ℕ_discrete p q) (λ e. subst F (sym (if_same p q a b e)) (same e))
    (λ ne. subst F (sym (if_other p q a b ne)) (other ne))

pub lane_case : (P : LaneLists → Type 0) (l : ℕ) (d : LaneStep) (x : LaneLists)
    → ((c : Change) → d ≡ Freed l c → P (lane_changed c x)) → P x → P (lane_after_step l d x)
lane_case P l (Freed i c) x some same = pick i l (lane_changed c x) x P
    (λ e. some c (ap (λ (z : ℕ). Freed z c) e)) (λ _. same)
lane_case P l (Held i w y) x some same = same
lane_case P l (Missed i w) x some same = same
lane_case P l (OutHeld i w y) x some same = same
lane_case P l (OutMissed i w) x some same = same
lane_case P l (OutFreed i) x some same = same
lane_case P l (Given i from id place) x some same = same
lane_case P l (Retired i w) x some same = same

pub out_case : (P : List ℕ → Type 0) (o : ℕ) (d : LaneStep) (xs : List ℕ)
    → ((from id place : ℕ) → d ≡ Given o from id place → P (xs ++ id ∷ [])) → P xs
    → P (out_after o d xs)
out_case P o (Given i from id place) xs some same = pick i o (xs ++ id ∷ []) xs P
    (λ e. some from id place (ap (λ (z : ℕ). Given z from id place) e)) (λ _. same)
out_case P o (Freed i c) xs some same = same
out_case P o (Held i w y) xs some same = same
out_case P o (Missed i w) xs some same = same
out_case P o (OutHeld i w y) xs some same = same
out_case P o (OutMissed i w) xs some same = same
out_case P o (OutFreed i) xs some same = same
out_case P o (Retired i w) xs some same = same

pub retired_case : (P : ℕ → Type 0) (l : ℕ) (d : LaneStep) (n : ℕ) → P (n + 1) → P n
    → P (retired_after l d n)
retired_case P l (Retired i w) n more same = pick i l (n + 1) n P (λ _. more) (λ _. same)
retired_case P l (Freed i c) n more same = same
retired_case P l (Held i w y) n more same = same
retired_case P l (Missed i w) n more same = same
retired_case P l (OutHeld i w y) n more same = same
retired_case P l (OutMissed i w) n more same = same
retired_case P l (OutFreed i) n more same = same
retired_case P l (Given i from id place) n more same = same

-- ---- the parts of an order

abbrev pub lane_part : ℕ → BoardStep → List (StepBy LaneStep) → List (StepBy LaneStep)
lane_part p d es = cons_option (option_map (step_by p) (lane_step_in d)) es

abbrev pub gate_part : ℕ → BoardStep → List (StepBy GateStep) → List (StepBy GateStep)
gate_part p d es = cons_option (option_map (step_by p) (gate_in d)) es

pub lane_part_case : (P : List (StepBy LaneStep) → Type 0) (p : ℕ) (d : BoardStep)
    (es : List (StepBy LaneStep)) → ((s : LaneStep) → d ≡ Lane s → P (step_by p s ∷ es)) → P es
    → P (lane_part p d es)
lane_part_case P p (Lane s) es some same = some s refl
lane_part_case P p (Gate s) es some same = same
lane_part_case P p (Weighed l w) es some same = same
lane_part_case P p (Counted l w) es some same = same
lane_part_case P p (OutCounted l w) es some same = same
lane_part_case P p (LaneOut k) es some same = same
lane_part_case P p (LaneIn k) es some same = same

pub gate_part_case : (P : List (StepBy GateStep) → Type 0) (p : ℕ) (d : BoardStep)
    (es : List (StepBy GateStep)) → ((s : GateStep) → d ≡ Gate s → P (step_by p s ∷ es)) → P es
    → P (gate_part p d es)
gate_part_case P p (Gate s) es some same = some s refl
gate_part_case P p (Lane s) es some same = same
gate_part_case P p (Weighed l w) es some same = same
gate_part_case P p (Counted l w) es some same = same
gate_part_case P p (OutCounted l w) es some same = same
gate_part_case P p (LaneOut k) es some same = same
gate_part_case P p (LaneIn k) es some same = same

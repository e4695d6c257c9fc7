-- Who is inside has entered, by its own list, and not left since.
use Rattle.std.proofs.Common.{◌^◌, take, drop, length-drop}
use Rattle.std.proofs.lemmas.List.{take-append-drop}
use Rattle.hop_rule.specs.Gates.{Visit, backing, inside, outside}
use Rattle.hop_rule.specs.declared.step.GateStep.TheVariants.{Entered, Turned, Left}
use Rattle.hop_rule.proofs.Moments.{nth-old}
use Rattle.board_api.proofs.Names.{◌≡◌, inl, inr, ℕ, ◌-◌, ◌/◌, ◌<◌, ◌≤◌, List, [], ◌∷◌, length}
use Rattle.board_api.proofs.Names.{Some, sym, refl, ap, ◌∙◌, arith, cases_eq, if_same, if_other}
use Rattle.board_api.proofs.Names.{gate_steps, visit, visit_number, nth_step, past, BoardStep, Gate}
use Rattle.board_api.proofs.Names.{some-is, nth-inside, Has}

pub record EntryOf (ds : List BoardStep) : Type 0 where
  pub entry : ℕ
  pub word : ℕ
  pub enters : Has ds entry (Gate (Entered word))
  pub number : visit_number (gate_steps ds) ≡ word / 2 ^ 32
  pub stays : (m : ℕ) → entry < m → Has ds m (Gate Left) → ⊥

abbrev is_left : BoardStep → ℕ
is_left (Gate Left) = 1
is_left _ = 0

abbrev kind : Visit → ℕ
kind outside = 0
kind inside = 1
kind backing = 2

-- a step at which nobody enters or leaves
more : (d : BoardStep) (ds : List BoardStep)
    → visit_number (gate_steps (d ∷ ds)) ≡ visit_number (gate_steps ds) → is_left d ≡ 0
    → EntryOf ds → EntryOf (d ∷ ds)
more d ds same none t =
    let within = nth-inside ds t.entry (Gate (Entered t.word)) t.enters in
    record {
      entry = t.entry;
      word = t.word;
      enters =
          if_other (length ds) t.entry (Some d) (nth_step ds t.entry) (λ e. absurd (omega arith))
          ∙ t.enters;
      number = same ∙ t.number;
      stays = λ m after has. (
          elim (cases_eq (length ds) m) [
            | inl is ↦
                (let z : is_left d ≡ 1 =
                ap is_left
                (some-is d (Gate Left) (sym (if_same (length ds) m (Some d) (nth_step ds m) is)
                ∙ has)) in
                absurd (omega arith))
            | inr ne ↦
                t.stays m after (sym (if_other (length ds) m (Some d) (nth_step ds m) ne) ∙ has)
          ]);
    }

pub entry_of : (ds : List BoardStep) → visit (gate_steps ds) ≡ inside → EntryOf ds
entry_of [] is = let z : kind outside ≡ kind inside = ap kind is in absurd (omega arith)
entry_of (Gate (Entered w) ∷ ds) is =
    record {
      entry = length ds;
      word = w;
      enters =
          if_same (length ds) (length ds) (Some (Gate (Entered w))) (nth_step ds (length ds)) refl;
      number = refl;
      stays = λ m after has. (
          let within = nth-inside (Gate (Entered w) ∷ ds) m (Gate Left) has in
          absurd (omega arith));
    }
entry_of (Gate (Turned w) ∷ ds) is = let z : kind backing ≡ kind inside =
    ap kind is in absurd (omega arith)
entry_of (Gate Left ∷ ds) is = let z : kind outside ≡ kind inside =
    ap kind is in absurd (omega arith)
entry_of (d ∷ ds) is = more d ds refl refl (entry_of ds is)

-- ---- the first steps of a list

pub length-past : {X : Type 0} (k : ℕ) (xs : List X) → k ≤ length xs → length (past k xs) ≡ k
length-past k xs le = let n = length-drop (length xs - k) xs in omega arith

pub nth-past : {X : Type 0} (k j : ℕ) (xs : List X) → k ≤ length xs → j < k
    → nth_step (past k xs) j ≡ nth_step xs j
nth-past k j xs le less =
    let n : ℕ = length xs - k in
    let size = length-past k xs le in
    sym (nth-old (take n xs) (drop n xs) j (omega arith))
    ∙ ap (λ ys. nth_step ys j) (take-append-drop n xs)

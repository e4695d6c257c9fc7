-- Commands that are given until they are not busy or their tries are used up.
use Rattle.std.specs.Prelude.{slice_get}
use Rattle.steer_model.specs.Good.Commands.{AreGiven, AreTries, is_busy}
use Rattle.run_controller.proofs.Names.{◌≡◌, ℕ, zero, suc, ◌+◌, ◌<◌, ◌≤◌, true, false, List, []}
use Rattle.run_controller.proofs.Names.{◌∷◌, ◌++◌, Some, length, All, refl, sym, ap, subst, ◌∙◌}
use Rattle.run_controller.proofs.Names.{arith, length-append, append_assoc, All-cons, All-nil}
use Rattle.run_controller.proofs.Names.{Command, Commanded, some-is}
use Rattle.run_controller.proofs.ListLemmas.{append-none}

-- all these tries are of the command, and each was busy
abbrev pub AllBusy : Command → List Commanded → Type 0
AllBusy c [] = Unit {0}
AllBusy c (g ∷ gs) = (g.command ≡ c) × (is_busy g.answer ≡ true) × AllBusy c gs

pub busy-more : (c : Command) (gs : List Commanded) (g : Commanded) → AllBusy c gs
    → g.command ≡ c → is_busy g.answer ≡ true → AllBusy c (gs ++ g ∷ [])
busy-more c [] g all same busy = (same, busy, tt)
busy-more c (x ∷ xs) g all same busy = (all.0, all.1, busy-more c xs g all.2 same busy)

same-of : (c : Command) (gs rest : List Commanded) → AllBusy c gs
    → All (λ (g : Commanded). g.command ≡ c) rest
    → All (λ (g : Commanded). g.command ≡ c) (gs ++ rest)
same-of c [] rest all more = more
same-of c (g ∷ gs) rest all more =
    All-cons (λ (g : Commanded). g.command ≡ c) g (gs ++ rest) all.0 (same-of c gs rest all.2 more)

busy-at : (c : Command) (gs rest : List Commanded) (k : ℕ) (g : Commanded) → AllBusy c gs
    → k < length gs → slice_get (gs ++ rest) k ≡ Some g → is_busy g.answer ≡ true
busy-at c [] rest k g all less is = absurd (omega arith)
busy-at c (x ∷ xs) rest zero g all less is =
    subst (λ (z : Commanded). is_busy z.answer ≡ true) (some-is x g is) all.1
busy-at c (x ∷ xs) rest (suc k) g all less is = busy-at c xs rest k g all.2 (omega arith) is

last-at : (gs : List Commanded) (last : Commanded) (k : ℕ) (g : Commanded)
    → k + 1 ≡ length (gs ++ last ∷ []) → slice_get (gs ++ last ∷ []) k ≡ Some g → last ≡ g
last-at [] last zero g at is = some-is last g is
last-at [] last (suc k) g at is = absurd (omega arith)
last-at (x ∷ xs) last zero g at is =
    let n = length-append xs (last ∷ []) in absurd (omega arith)
last-at (x ∷ xs) last (suc k) g at is = last-at xs last k g (omega arith) is

-- a command whose last try was not busy
pub ends_done : (tries : ℕ) (c : Command) (gs : List Commanded) (last : Commanded) → AllBusy c gs
    → length gs < tries → last.command ≡ c → is_busy last.answer ≡ false
    → AreTries tries c (gs ++ last ∷ [])
ends_done tries c gs last all few same ends =
    let n = length-append gs (last ∷ []) in
    record {
      some = omega arith;
      few = omega arith;
      same = same-of c gs (last ∷ []) all
          (All-cons (λ (g : Commanded). g.command ≡ c) last [] same
          (All-nil (λ (g : Commanded). g.command ≡ c)));
      again = λ k g less is. busy-at c gs (last ∷ []) k g all (omega arith) is;
      last = λ k g short at is.
          subst (λ (z : Commanded). is_busy z.answer ≡ false) (last-at gs last k g at is) ends;
    }

-- a command whose tries are used up
pub ends_busy : (tries : ℕ) (c : Command) (gs : List Commanded) → AllBusy c gs → 1 ≤ tries
    → length gs ≡ tries → AreTries tries c gs
ends_busy tries c gs all some many =
    let same = append-none gs in
    record {
      some = omega arith;
      few = omega arith;
      same = subst (All (λ (g : Commanded). g.command ≡ c)) same
          (same-of c gs [] all (All-nil (λ (g : Commanded). g.command ≡ c)));
      again = λ k g less is.
          busy-at c gs [] k g all (omega arith) (ap (λ zs. slice_get zs k) same ∙ is);
      last = λ k g short at is. absurd (omega arith);
    }

-- a command more
pub given-more : (tries : ℕ) (cs : List Command) (c : Command) (given block : List Commanded)
    → AreGiven tries cs given → AreTries tries c block
    → AreGiven tries (cs ++ c ∷ []) (given ++ block)
given-more tries [] c given block none tried = (
  block,
  [],
  ap (λ zs. zs ++ block) none ∙ sym (append-none block),
  tried,
  refl,
)
given-more tries (d ∷ cs) c given block (b, rest, is, first, older) tried = (
  b,
  rest ++ block,
  ap (λ zs. zs ++ block) is ∙ append_assoc b rest block,
  first,
  given-more tries cs c rest block older tried,
)

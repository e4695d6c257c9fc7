-- What lasts in the machine through every step, and what no step changes that makes no choice and
-- gives no command.
use Rattle.std.proofs.Common.{ℕ, zero, suc, ◌≡◌, ◌⊎◌, true, false, cond, List, [], ◌∷◌}
use Rattle.std.proofs.Common.{◌++◌, Option, length, refl, ap, ◌∙◌, inl, inr}
use Rattle.std.specs.Prelude.{slice_index_or, slice_set}
use Rattle.steer_base.specs.declared.command.Answer.{Answer}
use Rattle.steer_base.specs.declared.command.Command.{Command}
use Rattle.steer_base.specs.declared.filter.Filter.{Filter}
use Rattle.hop_model.specs.declared.event.HopEvent.{HopEvent}
use Rattle.hop_model.specs.Events.{happens, run}
use Rattle.hop_model.specs.Hop.{HopState, choices_of, inside_of, since_of}
use Rattle.hop_core.specs.Leaves.{Field, changes}
use Rattle.hop_core.proofs.Leaves.{each_leaves}
use Rattle.history.specs.Lists.{list_at}
use Rattle.steer_model.specs.Steps.Commands.{is_done}
use Rattle.steer_model.specs.Good.Inputs.{is_resize}
use Rattle.steer_model.specs.State.Machine.{Machine, note_of}
use Rattle.steer_model.specs.State.Settings.{changed}
use Rattle.steer_model.specs.declared.note.Note.{Note}
use Rattle.steer_model.specs.declared.note.Note.TheVariants as note
use Rattle.steer_properties.proofs.Histories.ExtendLemmas.{Extends, extends-self}
use Rattle.steer_properties.proofs.Histories.HopGrowthLemmas.{Stays, stays-self}

-- ---- what lasts

-- Both hops stay, the lists only grow, and what is fixed is as it was.
pub record Lasts (m n : Machine) : Type 0 where
  pub setup : n.setup ≡ m.setup
  pub rx : Stays m.rx n.rx
  pub tx : Stays m.tx n.tx
  pub filters : length n.filters ≡ length m.filters
  pub arrivals : Extends m.arrivals n.arrivals
  pub sent : (a : ℕ) → Extends (list_at m.sent a) (list_at n.sent a)
  pub writes : (a : ℕ) → Extends (list_at m.writes a) (list_at n.writes a)
  pub commands : Extends m.commands n.commands

pub lasts-self : (m : Machine) → Lasts m m
lasts-self m =
    record {
      setup = refl;
      rx = stays-self m.rx;
      tx = stays-self m.tx;
      filters = refl;
      arrivals = extends-self m.arrivals;
      sent = λ a. extends-self (list_at m.sent a);
      writes = λ a. extends-self (list_at m.writes a);
      commands = extends-self m.commands;
    }

-- ---- hops in which no choice is made and no producer is resized

pub record SameTurns (s t : HopState) : Type 0 where
  pub choices : t.choices ≡ s.choices
  pub since : t.since ≡ s.since

pub same_turns : (s : HopState) → SameTurns s s
same_turns s = record { choices = refl; since = refl }

abbrev pub MakesNoTurn : HopEvent → Type 0
MakesNoTurn e = (changes e Field.choices ≡ false) × (changes e Field.since ≡ false)

pub turns-happens : (s : HopState) (e : HopEvent) → MakesNoTurn e → SameTurns s (happens s e).0
turns-happens s e off =
    record {
      choices = each_leaves s e Field.choices off.0;
      since = each_leaves s e Field.since off.1;
    }

abbrev pub MakeNoTurns : List HopEvent → Type 0
MakeNoTurns [] = Unit {0}
MakeNoTurns (e ∷ es) = MakesNoTurn e × MakeNoTurns es

pub turns-run : (es : List HopEvent) (s : HopState) → MakeNoTurns es → SameTurns s (run es s)
turns-run [] s off = same_turns s
turns-run (e ∷ es) s off =
    let one = turns-happens s e off.0 in
    let rest = turns-run es (happens s e).0 off.1 in
    record { choices = rest.choices ∙ one.choices; since = rest.since ∙ one.since }

-- ---- pollers that looked

-- whoever looked did so before, and is inside where it was
abbrev pub LookedStays : Machine → Machine → Type 0
LookedStays m n =
    (q : ℕ) (want : Option ℕ) → note_of n q ≡ note.Looked want
    → (note_of m q ≡ note.Looked want) × (inside_of m.rx q ≡ true → inside_of n.rx q ≡ true)

-- who looked is inside after an event where it was before
abbrev pub InsideStays : Machine → HopState → Type 0
InsideStays m t =
    (q : ℕ) (want : Option ℕ) → note_of m q ≡ note.Looked want → inside_of m.rx q ≡ true
    → inside_of t q ≡ true

-- a note that was written is at its place, and the others are as they were
pub looked-in : (ns : List Note) (q : ℕ) (x : Note) (p : ℕ) (want : Option ℕ)
    → slice_index_or (slice_set ns q x) p note.Nothing ≡ note.Looked want
    → ((p ≡ q) × (x ≡ note.Looked want))
    ⊎ (slice_index_or ns p note.Nothing ≡ note.Looked want)
looked-in [] q x p want is = inr is
looked-in (n ∷ ns) zero x zero want is = inl (refl, is)
looked-in (n ∷ ns) zero x (suc p) want is = inr is
looked-in (n ∷ ns) (suc q) x zero want is = inr is
looked-in (n ∷ ns) (suc q) x (suc p) want is =
    elim (looked-in ns q x p want is) [
      | inl new ↦ inl (ap suc new.0, new.1)
      | inr old ↦ inr old
    ]

-- ---- a step that makes no choice and gives no command

pub record Still (m n : Machine) : Type 0 where
  pub lasts : Lasts m n
  pub rx : SameTurns m.rx n.rx
  pub tx : SameTurns m.tx n.tx
  pub settings : n.settings ≡ m.settings
  pub commands : n.commands ≡ m.commands
  pub looked : LookedStays m n

pub still-self : (m : Machine) → Still m m
still-self m =
    record {
      lasts = lasts-self m;
      rx = same_turns m.rx;
      tx = same_turns m.tx;
      settings = refl;
      commands = refl;
      looked = λ q want is. (is, λ in'. in');
    }

-- another receive hop in its place, and another transmit hop
pub still-rx : (m : Machine) (t : HopState) → Stays m.rx t → SameTurns m.rx t → InsideStays m t
    → Still m (record m { rx = t })
still-rx m t stays turns inside =
    let same = still-self m in let l = lasts-self m in
    record {
      lasts = assumption (stays);
      rx = turns;
      tx = same.tx;
      settings = refl;
      commands = refl;
      looked = λ q want is. (is, inside q want is);
    }

pub still-tx : (m : Machine) (t : HopState) → Stays m.tx t → SameTurns m.tx t
    → Still m (record m { tx = t })
still-tx m t stays turns =
    let same = still-self m in let l = lasts-self m in
    assumption (stays, turns)

-- a note that is no look, and as many filters
pub still-noted : (m n : Machine) (q : ℕ) (x : Note) (filters : List (Option Filter)) → Still m n
    → ((want : Option ℕ) → x ≡ note.Looked want → ⊥) → length filters ≡ length n.filters
    → Still m (record n { notes = slice_set n.notes q x; filters = filters })
still-noted m n q x filters s quiet same =
    let l = s.lasts in
    record {
      lasts = assumption (same ∙ l.filters);
      rx = s.rx;
      tx = s.tx;
      settings = s.settings;
      commands = s.commands;
      looked = λ p want is. elim (looked-in n.notes q x p want is) [
        | inl new ↦ absurd (quiet want new.1)
        | inr old ↦ s.looked p want old
      ];
    }

-- ---- a step that makes no choice and gives no command, by which nothing arrives, no reply is
-- begun and no entry is written

pub record Quiet (m n : Machine) : Type 0 where
  pub still : Still m n
  pub arrivals : n.arrivals ≡ m.arrivals
  pub sent : n.sent ≡ m.sent
  pub writes : n.writes ≡ m.writes

-- ---- a command that is given with its answer

pub record Given (m : Machine) (c : Command) (a : Answer) (n : Machine) : Type 0 where
  pub lasts : Lasts m n
  pub commands : n.commands ≡ m.commands ++ record { command = c; answer = a } ∷ []
  pub settings : n.settings ≡ cond (is_done a) (changed m.settings c) m.settings
  pub choices : n.rx.choices ≡ m.rx.choices
  pub since : (q : ℕ)
      → since_of n.rx q
      ≡ cond (is_resize q (record { command = c; answer = a })) (length (choices_of m.rx q))
      (since_of m.rx q)
  pub tx : SameTurns m.tx n.tx
  pub arrivals : n.arrivals ≡ m.arrivals
  pub sent : n.sent ≡ m.sent
  pub writes : n.writes ≡ m.writes
  pub looked : LookedStays m n
  pub sock : (n.settings.sock ≡ m.settings.sock) ⊎ (m.rx.bare.inside ≡ 0)

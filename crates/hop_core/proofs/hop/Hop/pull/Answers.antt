use Rattle.std.proofs.Common.{◌≡◌, ℕ, ◌<◌, ◌≤◌, Some, None, length, refl, sym, ◌∙◌, inl, inr}
use Rattle.std.specs.List.{slice_get}
use Rattle.std.proofs.lemmas.Bool.{le-ltb, lt-ltb}
use Rattle.std.proofs.lemmas.Option.{get_or_from_slice_get, slice_get_cases, slice_get_within}
use Rattle.steer_base.specs.declared.idle.Idle.TheVariants as idle
use Rattle.hop_model.specs.Events.{pull}
use Rattle.hop_model.specs.Hop.{HopState, accepted_at, pulled_at, retired_at}
use Rattle.hop_model.specs.declared.event.HopAnswer.TheVariants as answer
use Rattle.hop_core.proofs.Wholes.{read-retired, whole-pull}
use Rattle.hop_core.proofs.hop.Hop.pull.Goals as goal
use Rattle.hop_core.proofs.hop.Hop.pull.Goals.{in-Some, in-None}

took : (s : HopState) (c x : ℕ) → pulled_at s.bare c ≤ retired_at s.bare c
    → slice_get (accepted_at s.bare c) (pulled_at s.bare c) ≡ Some x → (pull s c).1 ≡ answer.Took x
took s c x free is =
    let lt : pulled_at s.bare c < length (accepted_at s.bare c) =
    slice_get_within (accepted_at s.bare c) (pulled_at s.bare c) x is in
    rw (
      le-ltb (retired_at s.bare c) (pulled_at s.bare c) free,
      lt-ltb (pulled_at s.bare c) (length (accepted_at s.bare c)) lt,
      get_or_from_slice_get (accepted_at s.bare c) (pulled_at s.bare c) x 0 is,
    ) refl

found_none : (s : HopState) (c : ℕ) → pulled_at s.bare c ≤ retired_at s.bare c
    → slice_get (accepted_at s.bare c) (pulled_at s.bare c) ≡ None
    → (pull s c).1 ≡ answer.Idle idle.NothingWaiting
found_none s c free is =
    elim (slice_get_cases (accepted_at s.bare c) (pulled_at s.bare c)).1 [
      | inl found ↦ absurd (let e = sym found.2 ∙ is in cc)
      | inr past ↦ rw (
        le-ltb (retired_at s.bare c) (pulled_at s.bare c) free,
        le-ltb
            (pulled_at s.bare c) (length (accepted_at s.bare c)) past.0,
      ) refl
    ]

pub invariant_of-self : goal.invariant_of-self
invariant_of-self c =
    let w = c.self.invariant in
    let lane = rw (← c.self.view_is) at c.requires.lane in
    let retired = read-retired _ c.args.lane c.index.result.now w lane c.index.ensures in
    let free = rw (retired, c.pulled.ensures) at c.if-index-pulled.false in
    rw c.pull.ensures.lists (whole-pull _ c.args.lane lane free w)

pub returns-clause-answer : goal.returns-clause-answer
returns-clause-answer c =
    let w = c.self.invariant in
    let lane = rw (← c.self.view_is) at c.requires.lane in
    let retired = read-retired _ c.args.lane c.index.result.now w lane c.index.ensures in
    let free = rw (retired, c.pulled.ensures) at c.if-index-pulled.false in
    rw (← c.self.view_is) (elim c.match-pull.branch [
      | in-Some w ↦ w.result-is ∙ sym (took _ c.args.lane w.in-Some.id free
          (sym w.in-Some.ensures.packet))
      | in-None w ↦ w.result-is ∙ sym (found_none _ c.args.lane free (sym w.in-None.ensures.packet))
    ])

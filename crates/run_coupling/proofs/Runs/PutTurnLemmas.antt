-- The put of a turn, and the turn of an index of a journal.
use Rattle.std.proofs.lemmas.Option.{slice_get_within}
use Rattle.linearization.specs.Orders.{step_by}
use Rattle.hop_rule.specs.Moments.{moment_of}
use Rattle.hop_rule.proofs.Parts.{at_moment}
use Rattle.board_api.specs.OwnSteps.{put_step}
use Rattle.hop_delivery.proofs.Orders.TurnLemmas.{turns_have_places}
use Rattle.run_coupling.proofs.Names.{◌≡◌, ℕ, List, Some, sym, ◌∙◌, arith, slice_get, Chosen}
use Rattle.run_coupling.proofs.Names.{nth_step, BoardStep, nth-some, Has, Execution, turns_of, Turn}
use Rattle.run_coupling.proofs.Names.{KeepsTurns}
use Rattle.run_coupling.proofs.Runs.TurnListLemmas.{turn-chosen, turns-counted}
use Rattle.run_coupling.proofs.Turns.TableEntryLemmas.{nth-moment}

module _ (own : ℕ → List BoardStep) (t : Execution) (keeps : KeepsTurns own t) where
  -- each turn has its put in the own list of its seat
  pub put-of : (p k : ℕ) (u : Turn) → nth_step (turns_of t p) k ≡ Some u → (n : ℕ)
      × Has (own (t.seat p)) n (put_step u.chosen.choice.lane u.chosen.id u.hash u.answer)
  put-of p k u at =
      let q : ℕ = t.seat p in
      let m : ℕ = moment_of p (t.turns q) k in
      let e = nth-moment (t.turns q) m p u (at_moment p (t.turns q) k u at) in
      let places = turns_have_places (own q) (t.turns q) (keeps.explained q) in
      (places.put m, (places.visits m (step_by p u) e).puts)

  -- each choice has its turn
  pub turn-at : (p k : ℕ) (c : Chosen) → slice_get (t.choices p) k ≡ Some c
      → (u : Turn) × (nth_step (turns_of t p) k ≡ Some u) × (u.chosen ≡ c)
  turn-at p k c at =
      let inside = slice_get_within (t.choices p) k c at in
      let many = turns-counted own t keeps p in
      let u = nth-some (turns_of t p) k (omega arith) in (
        u.0,
        u.1,
        Rattle.hop_rule.proofs.Lists.some-is u.0.chosen c
            (sym (turn-chosen own t keeps p k u.0 u.1) ∙ at),
      )

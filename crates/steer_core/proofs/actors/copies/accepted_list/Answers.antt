use Rattle.std.proofs.Common.{◌∙◌, ◌++◌, ◌∷◌, [], List, ℕ, ap, sym}
use Rattle.hop_model.specs.Hop.{accepted_at}
use Rattle.steer_core.proofs.ListLemmas.{take-next}
use Rattle.steer_core.proofs.actors.copies.accepted_list.Goals as goal

pub loop-n-preserved : goal.loop-n-preserved
loop-n-preserved c =
    c.in_ok-push.ensures.items ∙ ap (λ (xs : List ℕ). xs ++ c.unwrap.result ∷ []) c.loop-n.invariant
    ∙ take-next (accepted_at c.args.hop.now.bare c.args.lane) c.loop-n.n c.unwrap.result
    (sym c.accepted_at.ensures ∙ c.unwrap.ensures)

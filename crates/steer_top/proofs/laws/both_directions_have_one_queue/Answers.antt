use Rattle.std.proofs.Common.{◌≡◌, ap}
use Rattle.ntuple_rules.specs.Folds.{swapped}
use Rattle.ntuple_rules.specs.Laws.{FoldsAlike}
use Rattle.rss_table.specs.Redirection.{even_table, queue_of}
use Rattle.toeplitz.specs.Flows.{hash_of_flow}
use Rattle.toeplitz.specs.Toeplitz.{verification_key}
use Rattle.steer_top.specs.Laws.{HasOneHash, HasOneQueue}
use Rattle.steer_top.specs.PlaceText.{hash_for}
use Rattle.steer_top.proofs.laws.both_directions_have_one_queue.Goals as goal

one_hash : FoldsAlike → HasOneHash
one_hash alike rules flow symmetric =
    rw symmetric (ap (λ folded. hash_of_flow verification_key folded rules.kinds) (alike flow))

one_queue : FoldsAlike → HasOneQueue
one_queue alike rules flow symmetric none =
    let same : hash_for rules (swapped flow) ≡ hash_for rules flow =
    one_hash alike rules flow symmetric in
    rw none (ap (queue_of (even_table rules.queues)) same)

pub returns-clause-hash : goal.returns-clause-hash
returns-clause-hash c = one_hash c.both_directions_fold_alike.ensures

pub returns-clause-queue : goal.returns-clause-queue
returns-clause-queue c = one_queue c.both_directions_fold_alike.ensures

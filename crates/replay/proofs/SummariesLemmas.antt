-- A summary by its parts.
use Rattle.std.proofs.Common.{◌≡◌, ℕ, List, ap, ◌∙◌}
use Rattle.history.specs.declared.history.History.{History}
use Rattle.steer_base.specs.declared.packet.Packet.{Packet}
use Rattle.replay.specs.Counts.{counts_of}
use Rattle.steer_model.specs.Capture.FlowCounts.{flow_count}
use Rattle.replay.specs.declared.counts.Counts.{Counts}
use Rattle.replay.specs.declared.summary.Summary.{Summary}

abbrev summary : ℕ → ℕ → ℕ → Counts → Summary
summary seed packets flows counts =
    record { seed = seed; packets = packets; flows = flows; counts = counts }

pub summary_is : (seed packets flows : ℕ) (counts : Counts) (list : List Packet) (h k : History)
    → flows ≡ flow_count list → counts ≡ counts_of h → h ≡ k
    → summary seed packets flows counts ≡ summary seed packets (flow_count list) (counts_of k)
summary_is seed packets flows counts list h k many counted same =
    ap (λ n. summary seed packets n counts) many
    ∙ ap (summary seed packets (flow_count list)) (counted ∙ ap counts_of same)

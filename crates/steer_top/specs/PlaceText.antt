-- The text of the command `place`: a line for each packet, and a line that counts them.
use Rattle.std.specs.Prelude.{ℕ, List, ◌++◌, codes, decimal, Option, Some, None, slice_get}
use Rattle.std.specs.Prelude.{if◌then◌else◌}
use Rattle.std.specs.Option.{option_map_or}
use Rattle.steer_base.specs.declared.flow.Flow.{Flow}
use Rattle.flow_dissector.specs.Frame.{flow_of}
use Rattle.tunnel_dissector.specs.Inner.{inner_of}
use Rattle.tunnel_dissector.specs.declared.inner.Inner.{Inner}
use Rattle.ntuple_rules.specs.Folds.{fold_of}
use Rattle.ntuple_rules.specs.Matches.{first_match}
use Rattle.ntuple_rules.specs.declared.rules.Rules.{Rules}
use Rattle.rss_table.specs.Redirection.{even_table, queue_of}
use Rattle.toeplitz.specs.Flows.{hash_of_flow}
use Rattle.toeplitz.specs.Toeplitz.{verification_key}
use Rattle.pcap_reader.specs.declared.capture.Capture.{Capture}
use Rattle.steer_top.specs.HashText.{all_lines, packet_text}

-- The flow of a frame and how many levels were entered: the inner flow where the rules ask for it,
-- else the frame's own.
abbrev pub placed_flow : Rules → List ℕ → Inner
placed_flow rules frame =
    if rules.inner then inner_of frame else record { flow = flow_of frame; depth = 0 }

-- The hash of a flow, or of its fold if both directions are to have one, by the verification key.
abbrev pub hash_for : Rules → Flow → Option ℕ
hash_for rules flow =
    hash_of_flow verification_key (if rules.symmetric then fold_of flow else flow) rules.kinds

-- The queue of the rule with this number, or else that of the hash in the even table.
abbrev pub queue_by : Rules → Option ℕ → Option ℕ → ℕ
queue_by rules None hash = queue_of (even_table rules.queues) hash
queue_by rules (Some number) hash =
    option_map_or (λ rule. rule.queue) (slice_get rules.rules number) 0

-- The queue of a flow: that of the first rule that matches it, else that of its hash.
abbrev pub queue_for : Rules → Flow → ℕ
queue_for rules flow = queue_by rules (first_match rules.rules flow) (hash_for rules flow)

-- The number of the rule that matched.
unfoldable pub rule_text : Option ℕ → List ℕ
rule_text None = codes " rule -"
rule_text (Some number) = codes " rule " ++ decimal number

-- The line of a flow that was found in so many levels.
unfoldable pub placed_line : Rules → ℕ → Inner → List ℕ
placed_line rules number placed =
    let found = first_match rules.rules placed.flow in
    packet_text number placed.flow (hash_for rules placed.flow) (queue_for rules placed.flow)
    ++ rule_text found ++ codes " depth " ++ decimal placed.depth ++ codes "\n"

-- The line of a frame.
unfoldable pub place_line : Rules → ℕ → List ℕ → List ℕ
place_line rules number frame =
    let placed = placed_flow rules frame in
    let found = first_match rules.rules placed.flow in
    packet_text number placed.flow (hash_for rules placed.flow) (queue_for rules placed.flow)
    ++ rule_text found ++ codes " depth " ++ decimal placed.depth ++ codes "\n"

-- The text of a capture by these rules.
abbrev pub place_text : Rules → List ℕ → Capture → List ℕ
place_text rules bytes capture = all_lines (place_line rules) bytes capture

-- The replies of an inbox and their choices, when they are looked up ahead: one packet more.
use Rattle.std.proofs.Common.{ℕ, ◌≡◌, ◌<◌, ◌≤◌, ◌+◌, ◌-◌, List, [], ◌++◌, Option, Some, None, refl}
use Rattle.std.proofs.Common.{ap, ◌∙◌, sym, arith, append_assoc}
use Rattle.std.specs.Prelude.{slice_index_or}
use Rattle.std.specs.List.{cons_option, filter_map}
use Rattle.std.specs.Option.{option_and_then, option_map}
use Rattle.history.specs.Lists.{packet_at}
use Rattle.history.specs.declared.sent.Sent.{Sent}
use Rattle.report_reader.specs.declared.packets.SeenReply.{SeenReply}
use Rattle.report_reader.specs.declared.slots.Seen.{Seen}
use Rattle.steer_base.specs.declared.packet.Packet.{Packet}
use Rattle.report_history.specs.Ahead.{AreAhead, ahead_of}
use Rattle.report_history.specs.Shown.{choice_with, line_sent, shown_reply, shown_sent}
use Rattle.report_history.specs.Shown.{shown_tx_choice, with_class, with_packet}
use Rattle.report_history.specs.declared.replies.Ahead.{Ahead}
use Rattle.report_history.proofs.PickedLemmas.{cons-append}

-- an item that may be in front of the rest is behind what is built
pub one-picked : {A : Type 0} (built new front rest all : List A) (o : Option A)
    → front ≡ cons_option o rest → built ++ front ≡ all → new ≡ built ++ cons_option o []
    → new ++ rest ≡ all
one-picked built new front rest all o at before is =
    ap (λ xs. xs ++ rest) is ∙ append_assoc built (cons_option o []) rest
    ∙ ap (λ xs. built ++ xs) (sym (cons-append o [] rest) ∙ sym at) ∙ before

module _ (seen : List Seen) (packets : List Packet) where
  -- what was looked up of a packet
  pub found-ahead : (ids : List ℕ) (first known x : ℕ) (ahead : List Ahead) (d : Ahead)
      → AreAhead seen packets ids first known ahead → first ≤ x → x - first < known
      → slice_index_or ahead (x - first) d ≡ ahead_of seen packets (slice_index_or ids x 0)
  found-ahead ids first known x ahead d are near below =
      let at : first + (x - first) ≡ x = omega (arith, near) in
      are.each (x - first) d below
      ∙ ap (λ i. ahead_of seen packets (slice_index_or ids i 0)) at

  -- the choice for the reply to a packet, if there is one, is in front of those for the rest
  module _ (x : ℕ) (rest : List Sent) where
    by-line : (r : Option SeenReply) → shown_reply seen x ≡ r
        → filter_map (shown_tx_choice seen packets)
        (cons_option (option_map (line_sent x) r) rest)
        ≡ cons_option (choice_with seen (packet_at packets x).flow_number x)
        (filter_map (shown_tx_choice seen packets) rest)
    by-line None e =
        ap (λ r. cons_option (option_map (λ c. with_packet x (with_class
        (packet_at packets x).flow_number c)) (option_and_then (λ l. l.choice) r))
        (filter_map (shown_tx_choice seen packets) rest)) (sym e)
    by-line (Some line) e = refl

    pub choice-first : filter_map (shown_tx_choice seen packets)
        (cons_option (shown_sent seen x) rest)
        ≡ cons_option (choice_with seen (packet_at packets x).flow_number x)
        (filter_map (shown_tx_choice seen packets) rest)
    choice-first = by-line (shown_reply seen x) refl

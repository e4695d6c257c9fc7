-- The lines of a report of a history, packet by packet, and what they show.
use Rattle.std.proofs.Common.{ℕ, ◌<◌, ◌≡◌, List, Option, Some, None, map}
use Rattle.std.proofs.Common.{length, ap, ◌∙◌, sym, arith, get_or}
use Rattle.std.specs.List.{range_with_len, slice_get}
use Rattle.std.specs.Option.{option_and_then, option_map}
use Rattle.std.proofs.lemmas.List.FromFn.{get_or-map-range_with_len, length-map-range_with_len}
use Rattle.steer_base.specs.declared.packet.Packet.{Packet}
use Rattle.history.specs.Lines.{choice_of, first_reply_to, line_of_sent, packet_line}
use Rattle.history.specs.Lines.{put_of, reply_line}
use Rattle.history.specs.declared.history.History.{History}
use Rattle.history.specs.declared.reply_line.ReplyLine.{ReplyLine}
use Rattle.history.specs.declared.sent.Sent.{Sent}
use Rattle.history.proofs.SamePlaces.{map_some}
use Rattle.report_reader.specs.Parts.{ArePartsOf, seen_packet, seen_reply}
use Rattle.report_reader.specs.declared.packets.SeenReply.{SeenReply}
use Rattle.report_reader.specs.declared.parts.Parts.{Parts}
use Rattle.report_reader.specs.declared.slots.Seen.{Seen}
use Rattle.report_reader.specs.Joined.{AreJoined}
use Rattle.report_history.specs.Shown.{shown_choice, shown_put, shown_reply}
use Rattle.report_history.proofs.PickedLemmas.{get-at, map-map, picked-map}

-- what a report shows of a packet
abbrev pub seen_at : List Packet → ℕ → History → ℕ → Seen
seen_at packets apps h x =
    record {
      packet = seen_packet (packet_line packets apps h x);
      reply = option_map seen_reply (reply_line packets apps h x);
    }

-- of all packets that arrived
abbrev pub seen_of : List Packet → ℕ → History → List Seen
seen_of packets apps h = map (seen_at packets apps h) (range_with_len 0 (length h.arrivals))

-- the packet of a line
abbrev line_id : Option ReplyLine → ℕ
line_id None = 0
line_id (Some l) = l.id

module _ (packets : List Packet) (apps : ℕ) (h : History) where
  pub seen-long : length (seen_of packets apps h) ≡ length h.arrivals
  seen-long = length-map-range_with_len (seen_at packets apps h) 0 (length h.arrivals)

  pub seen-is : (x : ℕ) (d : Seen) → x < length h.arrivals
      → get_or (seen_of packets apps h) x d ≡ seen_at packets apps h x
  seen-is x d l = get_or-map-range_with_len (seen_at packets apps h) 0 (length h.arrivals) x x d l
      (omega arith)

  pub seen-got : (x : ℕ) → x < length h.arrivals
      → slice_get (seen_of packets apps h) x ≡ Some (seen_at packets apps h x)
  seen-got x l =
      let d = seen_at packets apps h x in
      get-at (seen_of packets apps h) x d (omega (arith, l, seen-long))
      ∙ ap (λ s. Some s) (seen-is x d l)

  pub choice-shown : (x : ℕ) → x < length h.arrivals
      → shown_choice (seen_of packets apps h) x ≡ choice_of h x
  choice-shown x l = ap (option_and_then (λ s. s.packet.choice)) (seen-got x l)

  pub put-shown : (x : ℕ) → x < length h.arrivals
      → shown_put (seen_of packets apps h) x ≡ put_of h x
  put-shown x l = ap (option_and_then (λ s. s.packet.put)) (seen-got x l)

  pub reply-shown : (x : ℕ) → x < length h.arrivals
      → shown_reply (seen_of packets apps h) x ≡ option_map seen_reply (reply_line packets apps h x)
  reply-shown x l = ap (option_and_then (λ s. s.reply)) (seen-got x l)

  -- a reply is that to its packet
  reply-own : (x : ℕ) (s : Option Sent) (r : SeenReply)
      → option_map seen_reply (option_map (line_of_sent packets apps h x) s) ≡ Some r → r.id ≡ x
  reply-own x None r e = absurd (cc)
  reply-own x (Some s) r e =
      let line = map_some seen_reply (Some (line_of_sent packets apps h x s)) r e in
      ap (λ q. q.id) line.2 ∙ sym (ap line_id line.1)

  -- the lines of packets and of replies are put together to these
  pub joined : (shown : List (List ℕ)) (p : Parts) → ArePartsOf packets apps h shown p
      → AreJoined p.packets.items p.replies.items (seen_of packets apps h)
  joined shown p a =
      let ids = range_with_len 0 (length h.arrivals) in
      record {
        of_packets =
            a.packets ∙ map-map (packet_line packets apps h) seen_packet ids
            ∙ sym (map-map (seen_at packets apps h) (λ s. s.packet) ids);
        of_replies =
            a.replies
            ∙ picked-map (reply_line packets apps h) (λ line. option_map seen_reply line) ids
            ∙ sym (picked-map (seen_at packets apps h) (λ s. s.reply) ids);
        own = λ x d r l e.
            let n : x < length h.arrivals = omega (arith, l, seen-long) in
            reply-own x (first_reply_to h x) r
            (sym (ap (λ s. s.reply) (seen-is x d n)) ∙ e);
      }

-- Which packets have lines.
use Rattle.std.proofs.Common.{ℕ, ◌<◌, ◌≡◌, ◌∙◌, List, Some, length, ap, arith, sym, get_or}
use Rattle.std.specs.Option.{option_and_then, option_map}
use Rattle.std.proofs.lemmas.List.FromFn.{get_or-map-range_with_len, length-map-range_with_len}
use Rattle.std.proofs.lemmas.Option.{slice_get-get_or}
use Rattle.steer_base.specs.declared.packet.Packet.{Packet}
use Rattle.history.specs.InOrder.{lane_at}
use Rattle.history.specs.Lines.{LineLists, choice_of, lines_of, packet_line}
use Rattle.history.specs.declared.history.History.{History}

-- a packet that has a line arrived
pub arrived-line : (packets : List Packet) (apps x : ℕ) (h : History) (lines : LineLists)
    → lines_of packets apps h ≡ lines → x < length lines.packets → x < length h.arrivals
arrived-line packets apps x h lines same below =
    omega (
      arith,
      below,
      ap (λ l. length l.packets) same,
      length-map-range_with_len (packet_line packets apps h) 0 (length h.arrivals),
    )

-- the processor on the line of a packet is that of its choice
pub lane-on : (packets : List Packet) (apps x : ℕ) (h : History) (lines : LineLists)
    → lines_of packets apps h ≡ lines → x < length h.arrivals
    → lane_at lines.packets x ≡ option_map (λ c. c.lane) (choice_of h x)
lane-on packets apps x h lines same here =
    let line = packet_line packets apps h in
    let own = (lines_of packets apps h).packets in
    let long = length-map-range_with_len line 0 (length h.arrivals) in
    sym (ap (λ l. lane_at l.packets x) same)
    ∙ ap (option_and_then (λ l. option_map (λ c. c.lane) l.choice))
    (slice_get-get_or own x (line x) (omega (arith, here, long))
    ∙ ap (λ l. Some l) (get_or-map-range_with_len line 0 (length h.arrivals) x x (line x) here
    (omega arith)))

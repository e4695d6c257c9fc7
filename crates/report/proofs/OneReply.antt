-- A report that is known from outside: one packet that was steered without a flow table, delivered
-- and replied to. Its history meets all that the laws over reports ask, so they speak of some
-- histories.
use Rattle.std.proofs.Common.{◌≡◌, ◌<◌, ◌^◌, List, [], ◌∷◌, ◌++◌, Some, None, length, refl}
use Rattle.std.proofs.Common.{arith}
use Rattle.std.specs.Prelude.{ℕ, codes}
use Rattle.std.specs.Fmt.{digits}
use Rattle.std.specs.List.{All}
use Rattle.std.proofs.lemmas.List.Elements.{All-nil, All-cons}
use Rattle.steer_base.specs.Arrivals.{IsRoute}
use Rattle.steer_base.specs.Packets.{flow_shown}
use Rattle.steer_base.specs.declared.flow.Flow.TheVariants.{Four}
use Rattle.steer_base.specs.declared.flow.Pair.TheVariants.{V4}
use Rattle.steer_base.specs.declared.flow.Proto.TheVariants.{Tcp}
use Rattle.steer_base.specs.declared.packet.Packet.{Packet}
use Rattle.history.proofs.Examples.{one_packet}
use Rattle.history.specs.Lists.{no_lane, packet_at}
use Rattle.history.specs.Ranges.{HistoryFits, ArrivalFits, ChosenFits, LaneFits, SentFits}
use Rattle.history.specs.Ranges.{WriteFits, CommandedFits, DropFits}
use Rattle.history.specs.Regular.{AreQueued, route_of}
use Rattle.history.specs.declared.history.History.{History}
use Rattle.history.specs.declared.lane_list.LaneList.{LaneList}
use Rattle.history.proofs.ExampleLemmas.{one-regular}
use Rattle.report.specs.Laws.{IsReportOf}
use Rattle.report.specs.Report.{report}

-- a TCP segment from 66.9.149.187:2794 to 161.142.100.80:1766
abbrev packet : Packet
packet = record {
  flow = flow_shown (Four (V4 1107924411 2710463568) Tcp 2794 1766);
  hash = Some 1372373368;
  len = 54;
  flow_number = 0;
}

abbrev pub packets : List Packet
packets = packet ∷ []

abbrev pub history : History
history = one_packet 0

-- its report, written by hand
abbrev text : List ℕ
text =
    codes "steer 1\n"
    ++ codes "p 0 q 0 via reta class - want - head - tail - cpu 1 why plain at 1 app 0 in 1 "
    ++ codes "place inbox\n"
    ++ codes "r 0 app 0 rxq 0 cpu 2 pick 0 head - tail 0 tx 0 why unset at 1 port 1\n"
    ++ codes "queue 0 arrived 1 taken 1\n"
    ++ codes "cpu 0 accepted 0 pulled 0 delivered 0 retired 0 dropped 0\n"
    ++ codes "cpu 1 accepted 1 pulled 1 delivered 1 retired 1 dropped 0\n"
    ++ codes "cpu 2 accepted 0 pulled 0 delivered 0 retired 0 dropped 0\n"
    ++ codes "tx 0 accepted 1 pulled 1 delivered 1 retired 1\n"
    ++ codes "end 1 of 1\n"

known : report packets 1 history [] ≡ text
unfolding digits
known = refl

-- the same where counters start at their last number: the positions wrap, and counts and places do
-- not
wrapped : report packets 1
    (one_packet 4294967295) [] ≡
    codes "steer 1\n"
    ++ codes "p 0 q 0 via reta class - want - head - tail - cpu 1 why plain at 0 app 0 in 1 "
    ++ codes "place inbox\n"
    ++ codes "r 0 app 0 rxq 0 cpu 2 pick 0 head - tail 4294967295 tx 0 why unset at 0 port 1\n"
    ++ codes "queue 0 arrived 1 taken 1\n"
    ++ codes "cpu 0 accepted 0 pulled 0 delivered 0 retired 0 dropped 0\n"
    ++ codes "cpu 1 accepted 1 pulled 1 delivered 1 retired 1 dropped 0\n"
    ++ codes "cpu 2 accepted 0 pulled 0 delivered 0 retired 0 dropped 0\n"
    ++ codes "tx 0 accepted 1 pulled 1 delivered 1 retired 1\n"
    ++ codes "end 1 of 1\n"
unfolding digits
wrapped = refl

one : {A : Type 0} (P : A → Type 0) (a : A) → P a → All P (a ∷ [])
one P a h = All-cons P a [] h (All-nil P)

queued : AreQueued packets history
queued = one (λ a. IsRoute (packet_at packets a.id).hash (route_of a)) _ (None, 0, refl)

abbrev pub lane : LaneList
lane = record { accepted = 0 ∷ []; drops = []; pulled = 1; delivered = 1; retired = 1 }

no_lane-fits : LaneFits no_lane
no_lane-fits = record {
  accepted = All-nil (λ x. x < 2 ^ 32);
  drops = All-nil DropFits;
  pulled = omega arith;
  delivered = omega arith;
  retired = omega arith;
}

lane-fits : LaneFits lane
lane-fits = record {
  accepted = one (λ x. x < 2 ^ 32) 0 (omega arith);
  drops = All-nil DropFits;
  pulled = omega arith;
  delivered = omega arith;
  retired = omega arith;
}

numbers : HistoryFits history
numbers = record {
  total = omega arith;
  cut = tt;
  arrivals = one ArrivalFits _ (record {
    id = omega arith;
    queue = omega arith;
    filter = tt;
    entry = omega arith;
  });
  taken = one (λ n. n < 2 ^ 32) 1 (omega arith);
  choices = one (All ChosenFits) _
      (one ChosenFits _ (record {
        id = omega arith;
        choice = record {
          class = tt;
          want = tt;
          head = tt;
          tail = tt;
          lane = omega arith;
        };
      }));
  lanes = All-cons LaneFits no_lane (lane ∷ no_lane ∷ []) no_lane-fits
      (All-cons LaneFits lane (no_lane ∷ []) lane-fits (one LaneFits no_lane no_lane-fits));
  inboxes = one (All (λ x. x < 2 ^ 32)) _ (one (λ x. x < 2 ^ 32) 0 (omega arith));
  sent = one (All SentFits) _ (one SentFits _ (record {
    id = omega arith;
    rxq = omega arith;
    cpu = omega arith;
  }));
  tx_choices =
      one (All ChosenFits) _
      (one ChosenFits _ (record {
        id = omega arith;
        choice = record {
          class = omega arith;
          want = omega arith;
          head = tt;
          tail = omega arith;
          lane = omega arith;
        };
      }));
  tx_lanes = one LaneFits lane lane-fits;
  port = one (λ x. x < 2 ^ 32) 0 (omega arith);
  writes = one (All WriteFits) [] (All-nil WriteFits);
  commands = All-nil CommandedFits;
  start = omega arith;
}

one_reply : IsReportOf packets 1 0 history [] text
one_reply = record {
  regular = one-regular packet 0 refl;
  queued = queued;
  numbers = numbers;
  taps = record { count = omega arith; bytes = All-nil (λ bytes. length bytes < 2 ^ 64) };
  starts = refl;
  text = known;
}

-- The history of a machine that is held can be reported.
use Rattle.std.proofs.Common.{◌≡◌, length, ◌∙◌, arith}
use Rattle.std.proofs.lemmas.List.FromFn.{length-map-range_with_len}
use Rattle.history.proofs.PlaceLemmas.{in-reach}
use Rattle.steer_model.specs.State.Machine.{history_of, lane_list}
use Rattle.steer_invariant.specs.InvariantLaws.{InvariantIsReportable}
use Rattle.steer_invariant.proofs.RegularLemmas.{Delivered-of, Places-of, Queued-of, Regular-of}

pub held_is_reportable : InvariantIsReportable
held_is_reportable m h =
    let k = h.kept in let g = k.given in let s = k.rx.sound in let z = k.rx.sizes in
    let lanes : length (history_of m).lanes ≡ m.setup.cpus =
    length-map-range_with_len (lane_list m.rx.bare) 0 (length m.rx.bare.accepted) ∙ z.cpus in
    record {
      regular = Regular-of m k h.recorded;
      queued = Queued-of m h.recorded;
      delivered = Delivered-of m s;
      places = Places-of m s;
      in_reach = λ x. in-reach (history_of m) x (omega (arith, lanes, g.few_cpus))
          (omega (arith, z.apps, g.few_apps));
      some_app = g.some_app;
      few_apps = g.few_apps;
      few_packets = g.few_packets;
      few_arrivals = omega (arith, k.came.of_the_capture, g.few_packets);
    }

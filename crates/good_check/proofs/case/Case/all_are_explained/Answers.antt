use Rattle.std.proofs.Common.{◌≡◌, ◌≤◌, ◌<◌, ◌+◌, ◌∙◌, arith, false, length, subst, sym, true}
use Rattle.std.proofs.lemmas.List.{get_or_default}
use Rattle.steer_base.specs.Sets.{has}
use Rattle.backlog.specs.Offers.{AllExplained}
use Rattle.history.specs.Lists.{lane_at, no_lane}
use Rattle.history.proofs.RegularLemmas.{arrived-accepted, arrived-dropped}
use Rattle.steer_model.specs.Good.Drops.{DropsRise}
use Rattle.steer_model.specs.State.Setup.{packet_hash}
use Rattle.good_check.specs.Drops.{limited_lane}
use Rattle.good_check.proofs.DropsLemmas.{lane-room}
use Rattle.good_check.proofs.case.Case.all_are_explained.Goals as goal

pub are_explained-requires-clause-rise : goal.are_explained-requires-clause-rise
are_explained-requires-clause-rise c =
    let here : c.loop-cpu.cpu < length c.args.self.now.h.now.lanes =
    omega (arith, c.loop-cpu-test.true, c.requires.lanes) in
    subst DropsRise (sym c.get.ensures) (c.requires.rise c.loop-cpu.cpu c.get.result.now here)

pub are_explained-requires-clause-room : goal.are_explained-requires-clause-room
are_explained-requires-clause-room c =
    let case = c.args.self.now in
    let h = case.h.now in
    let r = c.requires.plain.regular in
    let cpu = c.loop-cpu.cpu in
    let here : cpu < length h.lanes = omega (arith, c.loop-cpu-test.true, c.requires.lanes) in
    let lane : c.get.result.now ≡ lane_at h.lanes cpu =
    c.get.ensures ∙ get_or_default h.lanes cpu c.get.result.now no_lane here in
    let apps = length case.plan.now.apps in
    let packets = case.given.now.packets in
    let room : length (lane_at h.lanes cpu).accepted + length (lane_at h.lanes cpu).drops
    ≤ length h.arrivals =
    lane-room h.lanes r.steered.once (length h.arrivals) cpu here
    (λ x s. arrived-accepted packets apps h r cpu x s)
    (λ x s. arrived-dropped packets apps h r cpu x s) in
    let few : length h.arrivals ≤ 262144 =
    omega (arith, r.arrived.of_the_capture, c.requires.plain.few) in
    subst (λ l. length l.accepted + length l.drops ≤ 262144) (sym lane) (omega (arith, room, few))

pub returns-then-not-branch-clause-no : goal.returns-then-not-branch-clause-no
returns-then-not-branch-clause-no c = λ all.
    let case = c.args.self.now in
    let h = case.h.now in
    let cpu = c.loop-cpu.cpu in
    let here : cpu < length h.lanes = omega (arith, c.loop-cpu-test.true, c.requires.lanes) in
    let lane : c.get.result.now ≡ lane_at h.lanes cpu =
    c.get.ensures ∙ get_or_default h.lanes cpu c.get.result.now no_lane here in
    let limited = has case.plan.now.limited cpu in
    let t : c.in_ok-are_explained.field-0 ≡ true =
    c.in_ok-are_explained.ensures.no (subst (λ l. AllExplained (packet_hash case.given.now)
    (limited_lane case.plan.now.backlog limited l)) (sym lane) (all cpu c.loop-cpu-test.true)) in
    let f : c.in_ok-are_explained.field-0 ≡ false = c.if-not-branch.true in
    cc

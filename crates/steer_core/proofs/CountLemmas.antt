-- There is room for every step that a run may make.
use Rattle.std.proofs.Common.{ℕ, Option, ◌+◌, ◌<◌, ◌≡◌, List, [], length, refl, ap, ◌∙◌, sym}
use Rattle.std.proofs.Common.{arith, replicate}
use Rattle.steer_base.specs.declared.packet.Packet.{Packet}
use Rattle.steer_base.specs.declared.step.Step.{Step}
use Rattle.steer_base.specs.declared.step.Step.TheVariants as act
use Rattle.hop_model.specs.Hop.{placed_of}
use Rattle.hop_core.proofs.New.{at_new}
use Rattle.history.specs.Lists.{list_at}
use Rattle.history.specs.declared.sock_write.SockWrite.{SockWrite}
use Rattle.plan_reader.specs.Plans.{step_count}
use Rattle.plan_reader.specs.declared.plan.Plan.{Plan}
use Rattle.steer_model.specs.State.Machine.{Machine}
use Rattle.steer_model.specs.Steps.CompoundSteps.{step}
use Rattle.steer_invariant.specs.Invariant.{Invariant}
use Rattle.steer_invariant.specs.StepInvariant.{IsNamed}
use Rattle.steer_core.specs.Rooms.{HasRoomFor, HasSpare}
use Rattle.steer_core.specs.Running.{Rooms, Running}
use Rattle.steer_core.specs.Runs.{HaveRoomForSteps}
use Rattle.steer_core.specs.Starting.{started}
use Rattle.steer_core.proofs.PacedSteps.{step-paced}

module _ (r : Running) (made steps : ℕ) (left : made < steps) (k : HaveRoomForSteps r made steps)
  where
    spare : HasSpare r.rooms r.machine
    spare a = let w = k.writes a in let room = k.room_for_writes in omega (arith, w, room, left)

    listed : length r.machine.commands < r.rooms.commands
    listed = let c = k.commands in let room = k.room_for_commands in omega (arith, c, room, left)

    -- what a step appends has room
    pub room_for : (s : Step) → HasRoomFor r.rooms r.machine s
    room_for act.Arrive = tt
    room_for (act.Take q) = tt
    room_for (act.Enter q) = tt
    room_for (act.Look q) = tt
    room_for (act.Weigh q) = tt
    room_for (act.Put q) = tt
    room_for (act.Ask q) = tt
    room_for (act.Leave q) = tt
    room_for (act.Pull c) = tt
    room_for (act.Deliver c) = tt
    room_for (act.Retire c) = tt
    room_for (act.Record flow) = spare
    room_for (act.Send a) = tt
    room_for (act.TEnter a) = tt
    room_for (act.TLeave a) = tt
    room_for (act.TWeigh a) = tt
    room_for (act.TPut a) = tt
    room_for (act.TPull t) = tt
    room_for (act.TDeliver t) = tt
    room_for (act.TRetire t) = tt
    room_for (act.Poll q) = tt
    room_for (act.Drain c) = tt
    room_for (act.Reply a) = tt
    room_for (act.Serve a) = spare
    room_for (act.Ship t) = tt
    room_for act.Sweep = spare
    room_for (act.Give c) = listed

    -- and then the lists are no longer than one step more allows
    pub counted_step : (n : Running) (s : Step) → IsNamed r.machine.setup s → Invariant r.machine
        → n.machine ≡ (step r.machine s).0 → n.rooms ≡ r.rooms → HaveRoomForSteps n (made + 1) steps
    counted_step n s named h is rooms =
        let p = step-paced r.machine s named h in
        let commands = k.commands in let listed = p.listed in
        let many : length n.machine.commands ≡ length (step r.machine s).0.commands =
        ap (λ (m : Machine). length m.commands) is in
        record {
          within = omega (arith, left);
          room_for_commands = ap (λ (x : Rooms). x.commands) rooms ∙ k.room_for_commands;
          room_for_writes = ap (λ (x : Rooms). x.writes) rooms ∙ k.room_for_writes
              ∙ ap (λ q. steps + length q.packets)
              (sym (ap (λ (m : Machine). m.setup) is ∙ p.setup));
          commands = omega (arith, many, commands, listed);
          writes = λ a. (
              let old = k.writes a in let new = p.written a in
              let w : length (list_at n.machine.writes a) ≡ length
              (list_at (step r.machine s).0.writes a) =
              ap (λ (m : Machine). length (list_at m.writes a)) is in
              let t : placed_of n.machine.tx a ≡ placed_of (step r.machine s).0.tx a =
              ap (λ (m : Machine). placed_of m.tx a) is in
              omega (arith, old, new, w, t));
        }

-- the machine of a plan has made no step
pub counted_new : (plan : Plan) (packets : List Packet) (cut : Option ℕ)
    → HaveRoomForSteps (started plan packets cut) 0 (step_count plan)
counted_new plan packets cut =
    record {
      within = omega arith;
      room_for_commands = refl;
      room_for_writes = refl;
      commands = omega arith;
      writes = λ a. (
          let e : list_at (replicate (length plan.apps) []) a ≡ [] = at_new {X = List SockWrite}
          (length plan.apps) a [] in
          let n = ap length e in omega (arith, n));
    }

-- How the workers of a run begin.
use Rattle.std.specs.Prelude.{ℕ, List, Option, length}
use Rattle.steer_base.specs.declared.packet.Packet.{Packet}
use Rattle.plan_reader.specs.declared.plan.Plan.{Plan}
use Rattle.workers.specs.Boards.{AreBoardsOf, AreSeatsOf}
use Rattle.workers.specs.declared.boards.AllSeats.{AllSeats}
use Rattle.workers.specs.declared.boards.RunBoards.{RunBoards}
use Rattle.run_crew.specs.declared.seated.Seated.{Seated}
use Rattle.workers.specs.Actors.{AreFirst, ArePaired, RingEnd}
use Rattle.workers.specs.Crews.{IsCrewOf}
use Rattle.workers.specs.Seats.{AreSeated}
use Rattle.workers.specs.Starts.{HaveRings, IsFirstCrew}
use Rattle.workers.specs.declared.actors.Actors.{Actors}
use Rattle.workers.specs.declared.seats.RunSeats.{RunSeats}

-- Workers with the first actors of a plan, dealt out to the first seats of its boards, are a run's
-- first ones, and each queue's poller has the other end of its ring.
abbrev pub CrewsBegin : Type 0
CrewsBegin =
    (plan : Plan) (packets : List Packet) (cut : Option ℕ) (s : RunBoards) (all : AllSeats)
    (seats : RunSeats) (rings : List RingEnd) (actors : Actors) (crew : List Seated)
    → AreBoardsOf plan packets cut s → AreSeatsOf plan s all → AreSeated all plan.workers seats
    → AreFirst plan packets actors → ArePaired (length packets) rings actors.pollers.items
    → IsCrewOf actors seats.workers.items crew
    → IsFirstCrew plan s crew × HaveRings rings crew

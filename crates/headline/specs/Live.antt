-- What the program promises of a run with threads, in the words of the headline of a replay.
use Rattle.std.specs.Prelude.{ℕ, ◌≡◌, ◌<◌, List, length}
use Rattle.history.specs.Lists.{app_at, list_at}
use Rattle.history.specs.declared.history.History.{History}
use Rattle.pcap_reader.specs.declared.capture.Capture.{Capture}
use Rattle.steer_model.specs.Good.GoodHistory.{Good}
use Rattle.steer_model.specs.Good.Inputs.{Input}
use Rattle.headline.specs.ByRun.{IsByRun}
use Rattle.headline.specs.Headline.{IsRight, Reports, Says}
use Rattle.headline.specs.Orders.{AreAllInOrder}

-- Of each flow from each receive queue all packets that no processor dropped were delivered, in the
-- order of their arrival, to the inbox of their application; and so were their replies to the port.
pub record IsWhole (i : Input) (h : History) : Type 0 where
  pub inboxes : (q x : ℕ) → x < length i.packets
      → AreAllInOrder i.packets h q x
      (list_at h.inboxes (app_at i.packets (length i.plan.apps) x))
  pub port : (q x : ℕ) → x < length i.packets → AreAllInOrder i.packets h q x h.port

-- The text that was written is the report of just one history. That history meets the eleven
-- clauses of a good history of the plan and of the packets of the capture, its lists are those of
-- one order at each hop, it is as it should be, and all is done in it.
pub record LiveHeadline (plan_bytes capture_bytes : List ℕ) (capture : Capture) (text : List ℕ)
    : Type 0 where
  pub input : Input
  pub says : Says plan_bytes capture_bytes capture input
  pub history : History
  pub reports : Reports input history text
  pub only : (i : Input) (h : History) → Says plan_bytes capture_bytes capture i
      → Reports i h text → h ≡ history
  pub good : Good input history
  pub by_run : IsByRun input history
  pub right : IsRight input history
  pub whole : IsWhole input history

-- Why a report's history has to be regular, within its ranges and of a known start: without one of
-- these, two histories that differ have one report.
use Rattle.std.proofs.Common.{◌≡◌, [], ◌∷◌, Some, None, refl}
use Rattle.std.specs.Fmt.{digits}
use Rattle.steer_base.specs.Sets.{those_below}
use Rattle.steer_base.specs.declared.choice.Why.TheVariants.{Unset}
use Rattle.steer_base.specs.declared.command.Command.TheVariants as command
use Rattle.steer_base.specs.declared.command.Answer.TheVariants as answer
use Rattle.steer_base.specs.declared.idle.Idle.TheVariants as idle
use Rattle.steer_base.specs.declared.put.DropCause.TheVariants.{Full}
use Rattle.history.specs.Lists.{no_lane}
use Rattle.history.specs.declared.history.History.{History}
use Rattle.report.specs.Report.{report}
use Rattle.report.proofs.OneReply.{packets, history, lane}

abbrev Same : History → History → Type 0
Same h k = report packets 1 h [] ≡ report packets 1 k []

-- the queue rule: the entry that led to the queue is not printed
queue_rule : Same history (record history {
  arrivals = record {
    id = 0;
    queue = 0;
    filter = None;
    entry = Some 5;
  } ∷ [];
})
unfolding digits
queue_rule = refl

-- the class of a reply is not printed
class : Same history
    (record history {
      tx_choices =
          (record {
            id = 0;
            choice = record {
              class = Some 9;
              want = Some 0;
              head = None;
              tail = Some 0;
              lane = 0;
              why = Unset;
            };
          } ∷ []) ∷ [];
    })
unfolding digits
class = refl

-- nor drops at transmit queues
tx_drops : Same history
    (record history {
      tx_lanes = record lane {
        drops = record {
          id = 0;
          accepted = 0;
          pulled = 0;
          cause = Full;
        } ∷ [];
      } ∷ [];
    })
unfolding digits
tx_drops = refl

-- nor a second copy in an inbox, or on the port
inbox_once : Same history (record history { inboxes = (0 ∷ 0 ∷ []) ∷ [] })
unfolding digits
inbox_once = refl

port_once : Same history (record history { port = 0 ∷ 0 ∷ [] })
unfolding digits
port_once = refl

-- nor an inbox that has a packet which the capture has not
strange : Same history (record history { inboxes = (0 ∷ 3 ∷ []) ∷ [] })
unfolding digits
strange = refl

-- an idle answer without a text
answers : Same (record history {
  commands = record {
    command = command.Expire;
    answer = answer.Idle idle.NoFlow;
  } ∷ [];
}) (record history {
  commands = record {
    command =
        command.Expire;
    answer = answer.Idle idle.NoHash;
  } ∷ [];
})
unfolding digits
answers = refl

-- a set beyond its bits
numbers : Same (record history {
  commands = record {
    command = command.Mask 0 (record { 0 = 0 });
    answer = answer.Done;
  } ∷ [];
}) (record history {
  commands = record {
    command =
        command.Mask 0 (record { 0 = 4294967296 });
    answer = answer.Done;
  } ∷ [];
})
unfolding digits those_below
numbers = refl

-- two starts, where nothing was put
abbrev idle_history : History
idle_history = record {
  total = 0;
  cut = None;
  arrivals = [];
  taken = 0 ∷ [];
  choices = [] ∷ [];
  lanes = no_lane ∷ [];
  inboxes = [] ∷ [];
  sent = [] ∷ [];
  tx_choices = [] ∷ [];
  tx_lanes = no_lane ∷ [];
  port = [];
  writes = [] ∷ [];
  commands = [];
  start = 0;
}

start : Same idle_history (record idle_history { start = 5 })
unfolding digits
start = refl

-- numbers of applications: inboxes are not printed
abbrev wider : History
wider = record idle_history {
  inboxes = [] ∷ [] ∷ [];
  sent = [] ∷ [] ∷ [];
  tx_choices = [] ∷ []
      ∷ [];
  writes = [] ∷ [] ∷ [];
}

apps : Same idle_history wider
unfolding digits
apps = refl

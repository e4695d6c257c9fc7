-- The coupling invariants can be met with loads: a run in which an application's write makes a
-- packet go to another processor, a flow table is resized between two choices, a filter that one
-- packet stored leads the next to another queue, and its reply moves the flow to another transmit
-- queue.
use Rattle.std.specs.Prelude.{◌≡◌, ℕ, ◌+◌, ◌^◌, ◌++◌, List, [], ◌∷◌, Some, None, replicate}
use Rattle.atomic_table.specs.Seated.{TableId}
use Rattle.linearization.specs.Orders.{StepBy, step_by, steps_of}
use Rattle.linearization.specs.Seats.{SeatView, seat_view}
use Rattle.steer_base.specs.Packets.{flow_shown}
use Rattle.steer_base.specs.declared.choice.Chosen.{Chosen}
use Rattle.steer_base.specs.declared.choice.Why.TheVariants.{Passed, Plain, Same, Unset}
use Rattle.steer_base.specs.declared.command.Answer.TheVariants.{Done}
use Rattle.steer_base.specs.declared.command.Command.{Command}
use Rattle.steer_base.specs.declared.command.Command.TheVariants.{Flows}
use Rattle.steer_base.specs.declared.filter.Filter.{Filter}
use Rattle.steer_base.specs.declared.flow.Flow.TheVariants.{Bare}
use Rattle.steer_base.specs.declared.packet.Packet.{Packet}
use Rattle.steer_base.specs.declared.step.Step.TheVariants.{Give}
use Rattle.hint_words.specs.declared.step.HintStep.{HintStep}
use Rattle.hint_words.specs.declared.step.HintStep.TheVariants.{Load, Store}
use Rattle.hop_model.specs.declared.shape.TheConstants.{MAX_HOP_ROOM}
use Rattle.history.specs.Lists.{lane_at, list_at}
use Rattle.history.specs.declared.history.History.{History}
use Rattle.history.specs.declared.sock_write.SockWrite.{SockWrite}
use Rattle.hop_rule.specs.declared.sizes.BoardSizes.{BoardSizes}
use Rattle.hop_rule.specs.declared.step.BoardStep.{BoardStep}
use Rattle.hop_rule.specs.declared.step.BoardStep.TheVariants.{Lane}
use Rattle.hop_rule.specs.declared.step.LaneStep.TheVariants.{OutFreed}
use Rattle.board_api.specs.Closings.Finals.{lists_of}
use Rattle.run_example.specs.Plays as play
use Rattle.run_example.specs.Plays.{Move, plays_rows}
use Rattle.plan_reader.specs.Settings.{IsWithin, PlanSettings}
use Rattle.plan_reader.specs.declared.plan.QueuePlan.{QueuePlan}
use Rattle.plan_reader.specs.declared.plan.Steps.TheVariants as steps
use Rattle.run_words.specs.Numbers.{hint_number}
use Rattle.run_words.specs.Values.{filter_word, place_word}
use Rattle.run_words.specs.declared.hint_word.HintWord.TheVariants as word
use Rattle.run_words.specs.declared.values.TheConstants.{STEERED}
use Rattle.steer_model.specs.Good.Inputs.{Input}
use Rattle.run_example.specs.Moves.{choice_for, drains, reads, resizes}
use Rattle.run_example.specs.Plans.{plan_with}
use Rattle.run_coupling.specs.Coupling.Runs.{IsRun}

-- ---- the input

-- The one command: the flow table of queue 0 gets four entries.
abbrev pub to_four : Command
to_four = Flows 0 4

-- Processor 0 is its home and in its mask, and its flow table has two entries.
abbrev pub table_queue : QueuePlan
table_queue = record { home = 0; mask = record { 0 = 1 }; flows = 2 }

-- Processor 1 is its home, with no processor in its mask and no flow table.
abbrev pub other_queue : QueuePlan
other_queue = record { home = 1; mask = record { 0 = 0 }; flows = 0 }

-- Two processors, these queues, two entries in the socket flow table and two filters. The one
-- application runs on processor 1. Each transmit queue is for the replies of one receive queue.
abbrev pub moving : PlanSettings
moving =
    record {
      cpus = 2;
      queues = table_queue ∷ other_queue ∷ [];
      key = replicate 40 0;
      kinds = 63;
      reta = replicate 128 0;
      sock = 2;
      filters = 2;
      backlog = 1;
      start = 0;
      limited = record { 0 = 0 };
      apps = 1 ∷ [];
      tx = record { cpus = record { 0 = 0 }; queues = 1 }
          ∷ record { cpus = record { 0 = 0 }; queues = 2 } ∷ [];
      workers = 1;
      tries = 1;
      detach = [];
      steps = steps.List (Give to_four ∷ []);
    }

-- A packet of the one flow, with the hash 2.
abbrev pub of_the_flow : Packet
of_the_flow = record { flow = flow_shown Bare; hash = Some 2; len = 0; flow_number = 0 }

-- The plan with these settings, and a capture of three packets.
abbrev pub moving_input : IsWithin moving → Input
moving_input within =
    record {
      plan = plan_with moving within;
      packets = of_the_flow ∷ of_the_flow ∷ of_the_flow ∷ [];
      cut = None;
    }

-- ---- the boards: the worker has seat 0, the controller seat 1

abbrev pub moving_rx : BoardSizes
moving_rx = record {
  lanes = 2;
  outs = 1;
  limit = 1;
  room = 3;
  start = 0;
  limited = record { 0 = 0 };
  settings = 1 ∷ 0 ∷ 2 ∷ 0 ∷ 2 ∷ 3 ∷ [];
  seats = 2;
}

abbrev pub moving_tx : BoardSizes
moving_tx = record {
  lanes = 2;
  outs = 1;
  limit = MAX_HOP_ROOM;
  room = 3;
  start = 0;
  limited = record { 0 = 0 };
  settings = 0 ∷ 0 ∷ 1 ∷ 2 ∷ [];
  seats = 2;
}

-- In a visit for the queue p the worker reads the settings and puts a packet to the lane l.
abbrev pub polls : (producer lane id : ℕ) → List Move
polls p l id =
    play.enters moving_rx 0 ∷ reads moving_rx p ∷ reads moving_rx (2 + p) ∷ reads moving_rx 4
    ∷ reads moving_rx 5 ∷ play.holds moving_rx 0 l ∷ play.puts moving_rx 0 l id (Some 2)
    ∷ play.leaves moving_rx 0 ∷ []

-- The worker holds the inbox and gives it back.
abbrev pub looks_into_inbox : List Move
looks_into_inbox = play.out_holds moving_rx 0 0 ∷ (λ es. step_by 0 (Lane (OutFreed 0))) ∷ []

-- The value of the flow table's word after the command: four entries, in generation 1.
abbrev pub four_again : ℕ
four_again = 4 + 2 ^ 32

-- Packet 0 goes to processor 0, and is replied to. The flow table is resized. Packet 1, for whose
-- flow processor 1 is wanted, goes there, and packet 2, of queue 1, too.
abbrev pub moving_rx_rows : List (List Move)
moving_rx_rows =
    polls 0 0 0 ∷ drains moving_rx 0 0 0 ∷ looks_into_inbox
    ∷ resizes moving_rx 2 four_again
    ∷ polls 0 1 1 ∷ drains moving_rx 1 0 1
    ∷ polls 1 1 2 ∷ drains moving_rx 1 0 2 ∷ looks_into_inbox ∷ []

-- In a visit of the transmit board the worker reads all maps, looks as it does and puts a reply.
abbrev pub replies : List Move → ℕ → ℕ → List Move
replies looks l id =
    (play.enters moving_tx 0 ∷ reads moving_tx 0 ∷ reads moving_tx 1 ∷ reads moving_tx 2
    ∷ reads moving_tx 3 ∷ [])
    ++ looks
    ++ play.holds moving_tx 0 l ∷ play.puts moving_tx 0 l id (Some 2) ∷ play.leaves moving_tx 0
    ∷ []

-- The replies to packets of queue 0 go to transmit queue 0, and that to the packet of queue 1 goes
-- to transmit queue 1 once those are shipped.
abbrev pub moving_tx_rows : List (List Move)
moving_tx_rows =
    replies [] 0 0 ∷ drains moving_tx 0 0 0 ∷ replies [] 0 1 ∷ drains moving_tx 0 0 1
    ∷ replies (play.weighs moving_tx 0 0 ∷ []) 1 2 ∷ drains moving_tx 1 0 2 ∷ []

-- The order of all steps on the receive board.
abbrev pub moving_rx_order : List (StepBy BoardStep)
moving_rx_order = plays_rows moving_rx_rows []

-- The order of all steps on the transmit board.
abbrev pub moving_tx_order : List (StepBy BoardStep)
moving_tx_order = plays_rows moving_tx_rows []

-- ---- the hint words: the wire has seat 0, the worker seat 1

-- Packets of the flow go to queue 1, whose home is processor 1, where packet 1 was accepted first.
abbrev pub to_other_queue : Filter
to_other_queue = record { queue = 1; cpu = 1; mark = 1 }

-- The word of the flow's entry in the socket flow table.
abbrev pub flow_entry : ℕ
flow_entry = hint_number (word.Socket 0)

-- The word of the flow's filter.
abbrev pub flow_filter : ℕ
flow_filter = hint_number (word.Filter 0)

-- The word of the flow's entry in the redirection table.
abbrev pub flow_queue : ℕ
flow_queue = hint_number (word.Redirection 2)

-- The word of the application.
abbrev pub its_stand : ℕ
its_stand = hint_number (word.Stand 0)

-- The word of a packet's queue.
abbrev pub its_queue : ℕ → ℕ
its_queue id = hint_number (word.Queue id)

-- The word of whether a packet is steered.
abbrev pub its_mark : ℕ → ℕ
its_mark id = hint_number (word.Steered id)

-- The wire and the worker load or store.
abbrev pub by_wire : HintStep → StepBy HintStep
by_wire d = step_by 0 d

abbrev pub by_worker : HintStep → StepBy HintStep
by_worker d = step_by 1 d

-- Each packet is announced by the wire, found announced and marked as steered by the worker, found
-- marked by its application, written for and replied to. The application stands on processor 1 by
-- the plan. The steps are in the order of the packets, the newest first.

-- For packet 2 the wire loads the filter. It has no class, so nothing is wanted.
abbrev pub third_order : List (StepBy HintStep)
third_order =
    by_worker (Load its_stand 0) ∷ by_worker (Load (its_queue 2) (place_word 1))
    ∷ by_worker (Store flow_entry (place_word 1)) ∷ by_worker (Load its_stand 0)
    ∷ by_worker (Load (its_mark 2) STEERED)
    ∷ by_worker (Store (its_mark 2) STEERED)
    ∷ by_worker (Load (its_queue 2) (place_word 1))
    ∷ by_wire (Store (its_queue 2) (place_word 1))
    ∷ by_wire (Load flow_filter (filter_word to_other_queue)) ∷ []

-- For packet 1 the wire finds no filter, and no entry but the plan's. The worker wants what it
-- wrote, and stores the filter once the packet is accepted.
abbrev pub second_order : List (StepBy HintStep)
second_order =
    by_worker (Load its_stand 0) ∷ by_worker (Load (its_queue 1) (place_word 0))
    ∷ by_worker (Store flow_entry (place_word 1)) ∷ by_worker (Load its_stand 0)
    ∷ by_worker (Load (its_mark 1) STEERED)
    ∷ by_worker (Store flow_filter (filter_word to_other_queue))
    ∷ by_worker (Store (its_mark 1) STEERED)
    ∷ by_worker (Load flow_entry (place_word 1))
    ∷ by_worker (Load (its_queue 1) (place_word 0))
    ∷ by_wire (Store (its_queue 1) (place_word 0))
    ∷ by_wire (Load flow_queue 0) ∷ by_wire (Load flow_filter 0) ∷ []

-- For packet 0 the wire finds no filter either, and the worker finds nothing wanted.
abbrev pub first_order : List (StepBy HintStep)
first_order =
    by_worker (Load its_stand 0) ∷ by_worker (Load (its_queue 0) (place_word 0))
    ∷ by_worker (Store flow_entry (place_word 1)) ∷ by_worker (Load its_stand 0)
    ∷ by_worker (Load (its_mark 0) STEERED)
    ∷ by_worker (Store (its_mark 0) STEERED)
    ∷ by_worker (Load flow_entry 0)
    ∷ by_worker (Load (its_queue 0) (place_word 0))
    ∷ by_wire (Store (its_queue 0) (place_word 0))
    ∷ by_wire (Load flow_queue 0) ∷ by_wire (Load flow_filter 0) ∷ []

-- The order of all steps at the hint words.
abbrev pub moving_hint_order : List (StepBy HintStep)
moving_hint_order = third_order ++ (second_order ++ first_order)

abbrev pub wire_steps : List HintStep
wire_steps = steps_of 0 moving_hint_order

abbrev pub worker_steps : List HintStep
worker_steps = steps_of 1 moving_hint_order

abbrev pub moving_seats : TableId → List (SeatView HintStep)
moving_seats table = seat_view table 0 wire_steps ∷ seat_view table 1 worker_steps ∷ []

-- ---- the history

-- Without a class packet 2 goes to the home of its queue.
abbrev pub other_chosen : Chosen
other_chosen = record {
  id = 2;
  choice = record {
    class = None;
    want = None;
    head = None;
    tail = None;
    lane = 1;
    why = Plain;
  };
}

-- The choices of queue 0: the first of its class, and the first again after the resize.
abbrev pub table_choices : List Chosen
table_choices = choice_for 0 0 None None 0 0 Unset ∷ choice_for 1 2 (Some 1) None 0 1 Unset ∷ []

-- The choices for the replies: the last one moves.
abbrev pub moving_replies : List Chosen
moving_replies =
    choice_for 0 0 (Some 0) None 0 0 Unset ∷ choice_for 1 0 (Some 0) None 1 0 Same
    ∷ choice_for 2 0 (Some 1) (Some 2) 2 1 Passed ∷ []

-- The write of the application.
abbrev pub its_write : SockWrite
its_write = record { entry = 0; cpu = 1 }

abbrev pub moving_history : History
moving_history = record {
  total = 3;
  cut = None;
  arrivals = record { id = 0; queue = 0; filter = None; entry = Some 0 }
      ∷ record { id = 1; queue = 0; filter = None; entry = Some 0 }
      ∷ record { id = 2; queue = 1; filter = Some 1; entry = None } ∷ [];
  taken = 2 ∷ 1 ∷ [];
  choices = table_choices ∷ (other_chosen ∷ []) ∷ [];
  lanes = (lists_of moving_rx moving_rx_order).lanes;
  inboxes = (lists_of moving_rx moving_rx_order).outs;
  sent = (record { id = 0; rxq = 0; cpu = 1 } ∷ record { id = 1; rxq = 0; cpu = 1 }
      ∷ record { id = 2; rxq = 1; cpu = 1 } ∷ []) ∷ [];
  tx_choices = moving_replies ∷ [];
  tx_lanes = (lists_of moving_tx moving_tx_order).lanes;
  port = list_at (lists_of moving_tx moving_tx_order).outs 0;
  writes = (its_write ∷ its_write ∷ its_write ∷ []) ∷ [];
  commands = record { command = to_four; answer = Done } ∷ [];
  start = 0;
}

-- The settings are those of a plan, this is a run, packet 1 is the first of its class again and
-- goes where it was wanted, the last reply moved to transmit queue 1, and all replies are on the
-- port.
pub record MovingRunExists : Type 0 where
  pub within : IsWithin moving
  pub runs : TableId → IsRun (moving_input within) moving_history
  pub wanted : (lane_at moving_history.lanes 1).accepted ≡ 1 ∷ 2 ∷ []
  pub moved : (lane_at moving_history.tx_lanes 1).accepted ≡ 2 ∷ []
  pub port : moving_history.port ≡ 0 ∷ 1 ∷ 2 ∷ []

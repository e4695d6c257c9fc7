-- The plan, the boards and the tries of the run with loads.
use Rattle.std.proofs.Common.{◌≡◌, ℕ, zero, suc, ◌+◌, ◌*◌, ◌^◌, ◌<◌, inl, inr, true, List, []}
use Rattle.std.proofs.Common.{◌∷◌, Some, refl, arith}
use Rattle.std.specs.Prelude.{slice_index, slice_index_or, take}
use Rattle.std.proofs.lemmas.List.Elements.{All-cons, All-nil, All-replicate}
use Rattle.linearization.specs.Orders.{StepBy, steps_of}
use Rattle.steer_base.specs.Commands.{is_affected}
use Rattle.steer_base.specs.Counters.{first_power}
use Rattle.steer_base.specs.Sets.{has, those_below}
use Rattle.steer_base.specs.declared.command.Answer.TheVariants.{Done}
use Rattle.steer_base.specs.declared.step.Step.{Step}
use Rattle.steer_base.specs.declared.step.Step.TheVariants.{Give}
use Rattle.history.specs.declared.commanded.Commanded.{Commanded}
use Rattle.hop_rule.specs.Boards.{IsLawful, lanes_of}
use Rattle.hop_rule.specs.Lanes.{out_holding}
use Rattle.hop_rule.specs.OutLanes.{OutList, out_list}
use Rattle.hop_rule.specs.Owns.{own_of}
use Rattle.hop_rule.specs.declared.step.BoardStep.{BoardStep}
use Rattle.board_api.specs.Calls.Results.{IsEmpty, Looked}
use Rattle.hop_delivery.specs.Orders.Commands.{made}
use Rattle.run_example.specs.Plays as play
use Rattle.run_example.specs.Plays.{plays_rows}
use Rattle.run_example.proofs.PlayLemmas.{rows_lawfully}
use Rattle.plan_reader.specs.Ranges.{DetachIsWithin, QueueIsWithin, TxIsWithin, step_is_within}
use Rattle.plan_reader.specs.Settings.{IsWithin}
use Rattle.plan_reader.specs.declared.settings.sizes.Sizes.{Sizes}
use Rattle.steer_model.specs.Good.Inputs.{Input}
use Rattle.steer_model.specs.State.Settings.{mask_of}
use Rattle.steer_model.specs.State.Start.{initial_settings}
use Rattle.xps_map.specs.Maps.{no_cpus}
use Rattle.run_example.specs.MovingRun.{four_again, moving, moving_history, moving_input}
use Rattle.run_example.specs.MovingRun.{moving_rx, moving_rx_order, moving_rx_rows, moving_tx}
use Rattle.run_example.specs.MovingRun.{moving_tx_order, moving_tx_rows, other_queue}
use Rattle.run_example.specs.MovingRun.{table_queue, to_four}
use Rattle.run_coupling.specs.Coupling.EmptiedLanes.{AllFindLanes}
use Rattle.run_coupling.specs.Coupling.Inputs.{AreReceiveWords, AreTransmitWords, receive_queues}
use Rattle.run_coupling.specs.Coupling.Runs.{KeepsCommands}
use Rattle.run_coupling.specs.Coupling.Tries.{KeepsReceiveTries, KeepsTransmitTries, Try}
use Rattle.run_coupling.specs.Coupling.Tries.{at_receive}
use Rattle.run_example.proofs.FrameLemmas.{MayEnd, ends_with}
use Rattle.run_example.proofs.ListLemmas.{by-visit}

abbrev sizes : Sizes
sizes = record { cpus = 2; queues = 2; apps = 1; tx = 2 }

pub within : IsWithin moving
within =
    record {
      some_cpu = omega arith;
      cpus_within = omega arith;
      queues_length = record { at_least = omega arith; at_most = omega arith };
      queues_within =
          All-cons (QueueIsWithin 2) table_queue (other_queue ∷ [])
          (record { home = omega arith; mask = omega arith; flows = omega arith })
          (All-cons (QueueIsWithin 2) other_queue []
          (record { home = omega arith; mask = omega arith; flows = omega arith })
          (All-nil (QueueIsWithin 2)));
      kinds_within = omega arith;
      reta_length = record { at_least = omega arith; at_most = omega arith };
      reta_within = All-replicate (λ q. q < 2) 128 0 (omega arith);
      sock_within = omega arith;
      filters_within = omega arith;
      some_backlog = omega arith;
      backlog_within = omega arith;
      limited_within = omega arith;
      apps_length = record { at_least = omega arith; at_most = omega arith };
      apps_within = All-cons (λ cpu. cpu < 2) 1 [] (omega arith) (All-nil (λ cpu. cpu < 2));
      tx_length = record { at_least = omega arith; at_most = omega arith };
      tx_within =
          All-cons (TxIsWithin 2 2) _ (_ ∷ [])
          (record { cpus_below = omega arith; queues_below = omega arith })
          (All-cons (TxIsWithin 2 2) _ []
          (record { cpus_below = omega arith; queues_below = omega arith })
          (All-nil (TxIsWithin 2 2)));
      some_worker = omega arith;
      workers_within = omega arith;
      some_try = omega arith;
      tries_within = omega arith;
      detach_length = record { at_least = omega arith; at_most = omega arith };
      detach_within = All-nil DetachIsWithin;
      steps_within = record {
        list_length = omega arith;
        list_within =
            All-cons (λ (s : Step). step_is_within sizes s ≡ true) (Give to_four) [] refl
            (All-nil (λ (s : Step). step_is_within sizes s ≡ true));
        count = omega arith;
      };
    }

abbrev pub i : Input
i = moving_input within

-- ---- the orders

one-out : 0 < moving_rx.outs
one-out = omega arith

-- before the worker gives the inbox back, for the first time and for the last
abbrev replied : List (StepBy BoardStep)
replied = plays_rows (take 2 moving_rx_rows) []

first-held : (x : OutList)
    × (out_holding 0 (steps_of 0 (lanes_of (play.out_holds moving_rx 0 0 replied ∷ replied)))
    ≡ Some x)
first-held = (out_list (0 ∷ []) 3, refl)

abbrev drained : List (StepBy BoardStep)
drained = plays_rows (take 8 moving_rx_rows) []

last-held : (x : OutList)
    × (out_holding 0 (steps_of 0 (lanes_of (play.out_holds moving_rx 0 0 drained ∷ drained)))
    ≡ Some x)
last-held = (out_list (0 ∷ 1 ∷ 2 ∷ []) 3, refl)

pub rx-lawful : IsLawful moving_rx moving_rx_order
rx-lawful =
    rows_lawfully moving_rx moving_rx_rows []
    (assumption (by-visit 0, one-out, first-held, last-held)) tt

pub tx-lawful : IsLawful moving_tx moving_tx_order
tx-lawful = rows_lawfully moving_tx moving_tx_rows [] (assumption (by-visit 0, one-out)) tt

pub rx-ends : MayEnd moving_rx moving_rx_order
rx-ends = ends_with moving_rx moving_rx_order refl rx-lawful

pub tx-ends : MayEnd moving_tx moving_tx_order
tx-ends = ends_with moving_tx moving_tx_order refl tx-lawful

abbrev pub rx_own : ℕ → List BoardStep
rx_own = own_of moving_rx_order

abbrev pub tx_own : ℕ → List BoardStep
tx_own = own_of moving_tx_order

-- ---- the first settings

pub first-words : AreReceiveWords (receive_queues i) (initial_settings i.plan) (λ p. 0)
    (λ k. slice_index moving_rx.settings k)
unfolding first_power
first-words =
    record {
      masks = refl;
      counts = refl;
      mask = mask;
      flows = flows;
      small = small;
      sock = refl;
      online = refl;
    }
  where
    mask : (p : ℕ) → p < 2 → slice_index moving_rx.settings p
        ≡ (mask_of (initial_settings i.plan) p).0
    mask zero less = refl
    mask (suc zero) less = refl
    mask (suc (suc p)) less = absurd (omega arith)

    flows : (p : ℕ) → p < 2 → slice_index moving_rx.settings (2 + p)
        ≡ slice_index (initial_settings i.plan).counts p + 2 ^ 32 * 0
    flows zero less = refl
    flows (suc zero) less = refl
    flows (suc (suc p)) less = absurd (omega arith)

    small : (p : ℕ) → p < 2 → slice_index (initial_settings i.plan).counts p < 2 ^ 32
    small zero less = omega arith
    small (suc zero) less = omega arith
    small (suc (suc p)) less = absurd (omega arith)

pub first-maps : AreTransmitWords 2 (initial_settings i.plan)
    (λ k. slice_index moving_tx.settings k)
first-maps =
    record {
      many = refl;
      cpu_maps = refl;
      queue_maps = refl;
      cpus = cpus;
      queues = queues;
    }
  where
    cpus : (tx : ℕ) → tx < 2 → slice_index moving_tx.settings tx
        ≡ (slice_index_or (initial_settings i.plan).maps.cpus tx no_cpus).0
    cpus zero less = refl
    cpus (suc zero) less = refl
    cpus (suc (suc tx)) less = absurd (omega arith)

    queues : (tx : ℕ) → tx < 2 → slice_index moving_tx.settings (2 + tx)
        ≡ slice_index (initial_settings i.plan).maps.queues tx
    queues zero less = refl
    queues (suc zero) less = refl
    queues (suc (suc tx)) less = absurd (omega arith)

-- ---- the one try

abbrev given : Commanded
given = record { command = to_four; answer = Done }

abbrev pub tries : List Try
tries = record { given = given; rx_steps = rx_own 1; tx_steps = [] } ∷ []

pub rx-tries : KeepsReceiveTries i moving_history moving_rx rx_own tries
unfolding first_power
rx-tries =
    record {
      commands = refl;
      own_list = refl;
      are = (inl (refl, made 2 four_again, refl, refl), tt);
    }

pub tx-tries : KeepsTransmitTries i moving_history moving_tx tx_own tries 2
tx-tries =
    record {
      commands = refl;
      own_list = refl;
      are = (inr (inl (refl, refl, refl)), tt);
    }

abbrev looked_first : Looked
looked_first = record { lane = 0; head = 1; tail = 2 }

abbrev looked_second : Looked
looked_second = record { lane = 1; head = 0; tail = 0 }

pub finds : AllFindLanes moving_rx (receive_queues i) 2 2 at_receive tries
unfolding those_below first_power
finds = (
  inr (
    made 2 four_again,
    refl,
    record {
      mask = record { 0 = 3 };
      looked = looked_first ∷ looked_second ∷ [];
      word = 0;
      lanes = refl;
      empty = All-cons IsEmpty looked_first (looked_second ∷ []) refl
          (All-cons IsEmpty looked_second [] refl (All-nil IsEmpty));
      wanted = wanted;
      are = refl;
    },
  ),
  tt,
)
  where
    wanted : (l : ℕ) → l < 2 → is_affected to_four (receive_queues i).homes 2 2 l ≡ true
        → has (record { 0 = 3 }) l ≡ true
    wanted zero less affected = refl
    wanted (suc zero) less affected = refl
    wanted (suc (suc l)) less affected = absurd (omega arith)

pub commands-kept : KeepsCommands i moving_history tries
commands-kept =
    record {
      given = (
        given ∷ [],
        [],
        refl,
        record {
          some = omega arith;
          few = omega arith;
          same = All-cons (λ (c : Commanded). c.command ≡ to_four) given [] refl
              (All-nil (λ (c : Commanded). c.command ≡ to_four));
          again = λ k c more at. absurd (omega arith);
          last = λ k c few end at. absurd (omega arith);
        },
        refl,
      );
      answered = (inl refl, tt);
    }

-- A history for tests: one packet is steered by plain RPS to processor 1, delivered, replied to
-- from processor 2, and sent.
use Rattle.std.specs.Prelude.{ℕ, [], ◌∷◌, Some, None}
use Rattle.steer_base.specs.declared.choice.Why.TheVariants.{Plain, Unset}
use Rattle.history.specs.Lists.{no_lane}
use Rattle.history.specs.declared.history.History.{History}

-- the history of one packet that is steered, delivered, replied to and sent, with this counter
-- start
abbrev pub one_packet : ℕ → History
one_packet start =
    record {
      total = 1;
      cut = None;
      arrivals = record { id = 0; queue = 0; filter = None; entry = Some 0 } ∷ [];
      taken = 1 ∷ [];
      choices =
          (record {
            id = 0;
            choice = record {
              class = None;
              want = None;
              head = None;
              tail = None;
              lane = 1;
              why = Plain;
            };
          } ∷ []) ∷ [];
      lanes =
          no_lane ∷ record { accepted = 0 ∷ []; drops = []; pulled = 1; delivered = 1; retired = 1 }
          ∷ no_lane ∷ [];
      inboxes = (0 ∷ []) ∷ [];
      sent = (record { id = 0; rxq = 0; cpu = 2 } ∷ []) ∷ [];
      tx_choices =
          (record {
            id = 0;
            choice = record {
              class = Some 0;
              want = Some 0;
              head = None;
              tail = Some start;
              lane = 0;
              why = Unset;
            };
          } ∷ []) ∷ [];
      tx_lanes =
          record { accepted = 0 ∷ []; drops = []; pulled = 1; delivered = 1; retired = 1 } ∷ [];
      port = 0 ∷ [];
      writes = [] ∷ [];
      commands = [];
      start = start;
    }

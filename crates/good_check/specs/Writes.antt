-- The writes of an application, if no command was given.
use Rattle.std.specs.Prelude.{ℕ, List, Option}
use Rattle.std.specs.List.{filter_map}
use Rattle.std.specs.Option.{option_map}
use Rattle.steer_base.specs.Choices.{class_of}
use Rattle.history.specs.declared.sock_write.SockWrite.{SockWrite}
use Rattle.steer_model.specs.State.Setup.{Setup, packet_hash}

-- the write for a packet: at the entry of its hash, if it has one and the table has entries
abbrev pub write_for : Setup → (size cpu packet : ℕ) → Option SockWrite
write_for p size cpu x =
    option_map (λ place. record { entry = place; cpu = cpu }) (class_of size (packet_hash p x))

-- the writes for the packets of an inbox, in their order
abbrev pub writes_for : Setup → ℕ → ℕ → List ℕ → List SockWrite
writes_for p size cpu inbox = filter_map (write_for p size cpu) inbox

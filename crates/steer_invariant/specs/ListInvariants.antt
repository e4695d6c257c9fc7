-- What holds of the machine's own lists after any steps.
use Rattle.std.specs.Prelude.{ℕ, ◌<◌, ◌≤◌, ◌≡◌, List, Option, None, Some, length, map}
use Rattle.std.specs.Prelude.{slice_index_or}
use Rattle.std.specs.List.{range_with_len}
use Rattle.steer_base.specs.Orders.{IsPrefix}
use Rattle.steer_base.specs.declared.filter.Filter.{Filter}
use Rattle.steer_base.specs.declared.packet.Packet.{Packet}
use Rattle.history.specs.Lists.{arrivals_at}
use Rattle.history.specs.declared.arrival.Arrival.{Arrival}
use Rattle.history.specs.declared.sent.Sent.{Sent}
use Rattle.history.specs.declared.sock_write.SockWrite.{SockWrite}
use Rattle.rss_table.specs.Redirection.{IsRedirection, Redirection}
use Rattle.steer_model.specs.State.Settings.{Settings}
use Rattle.steer_model.specs.State.Setup.{Setup}
use Rattle.steer_model.specs.declared.note.Note.{Note}
use Rattle.steer_model.specs.declared.note.Note.TheVariants as note

-- There is a note for each poller, and a list of replies and one of writes for each application.
pub record ListSizes (p : Setup) (notes : List Note) (sent : List (List Sent))
    (writes : List (List SockWrite)) : Type 0 where
  pub notes_long : length notes ≡ length p.homes
  pub sent_long : length sent ≡ p.apps
  pub writes_long : length writes ≡ p.apps

-- There is a set of processors for each receive queue, a processor for each application, maps for
-- each transmit queue, and as many entries of the socket flow table as the size says.
pub record SettingSizes (p : Setup) (now : Settings) (socket : List (Option ℕ)) : Type 0 where
  pub masks : length now.masks ≡ length p.homes
  pub stands : length now.stands ≡ p.apps
  pub maps : now.maps.count ≡ p.txs
  pub sock : now.sock ≡ length socket

-- Routes lead to queues that exist: those of the redirection table, of each filter that is set, and
-- of each that a poller asks for.
pub record Routes (homes : List ℕ) (reta : Redirection) (filters : List (Option Filter))
    (notes : List Note) : Type 0 where
  pub table : IsRedirection reta
  pub queues : reta.queues ≡ length homes
  pub set : (i : ℕ) (filter : Filter) → slice_index_or filters i None ≡ Some filter
      → filter.queue < length homes
  pub asked : (q : ℕ) (filter : Filter) → slice_index_or notes q note.Nothing ≡ note.Asking filter
      → filter.queue < length homes

-- The arrivals are the packets 0, 1, 2 and so on of the capture, and each queue has its own of
-- them.
pub record Came (packets : List Packet) (arrivals : List Arrival) (queues : ℕ → List ℕ)
    : Type 0 where
  pub numbered : map (λ a. a.id) arrivals ≡ range_with_len 0 (length arrivals)
  pub of_the_capture : length arrivals ≤ length packets
  pub own : (q : ℕ) → queues q ≡ arrivals_at arrivals q

-- Each application began its replies to the first packets of its inbox, in order, and these reached
-- the transmit hop.
pub record Replied (sent : ℕ → List Sent) (inbox begun : ℕ → List ℕ) : Type 0 where
  pub first : (a : ℕ) → IsPrefix (map (λ s. s.id) (sent a)) (inbox a)
  pub came : (a : ℕ) → begun a ≡ map (λ s. s.id) (sent a)

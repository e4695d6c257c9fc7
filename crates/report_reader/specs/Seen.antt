-- What the fields of a line show of a packet and of a reply.
use Rattle.std.specs.Prelude.{ℕ, ◌≡◌, ◌<◌, ◌^◌, ◌+◌, List, [], ◌∷◌, Option, Some, None, codes}
use Rattle.std.specs.Prelude.{decimal}
use Rattle.std.specs.Prelude.{slice_index_or}
use Rattle.std.specs.Option.{IfSome}
use Rattle.steer_base.specs.declared.choice.Choice.{Choice}
use Rattle.steer_base.specs.declared.put.DropCause.{DropCause}
use Rattle.steer_base.specs.declared.put.DropCause.TheVariants.{Full, Flow}
use Rattle.steer_base.specs.declared.put.Put.{Put}
use Rattle.steer_base.specs.declared.put.Put.TheVariants.{At, Dropped}
use Rattle.history.specs.Ranges.{ChoiceFits, FitsIn}
use Rattle.report.specs.Lines.{class_in, head_in, lane_in, or_dash, tail_in, via_word, want_in}
use Rattle.report.specs.Lines.{why_in, why_word}
use Rattle.report_reader.specs.declared.packets.SeenPacket.{SeenPacket}
use Rattle.report_reader.specs.declared.packets.SeenReply.{SeenReply}
use Rattle.report_reader.specs.Values.{HasSteps, values_of}

-- the field with this number; the first word of a line has the number 0
abbrev pub field_at : List (List ℕ) → ℕ → List ℕ
field_at fs i = slice_index_or fs i []

-- the values of a packet or of a reply show this choice with this class
pub record ShowsChoice (fs : List (List ℕ)) (class : Option ℕ) (o : Option Choice) : Type 0 where
  pub fits : IfSome o ChoiceFits
  pub is_class : class_in o ≡ class
  pub want : field_at fs 4 ≡ or_dash (want_in o)
  pub head : field_at fs 5 ≡ or_dash (head_in o)
  pub tail : field_at fs 6 ≡ or_dash (tail_in o)
  pub lane : field_at fs 7 ≡ or_dash (lane_in o)
  pub why : field_at fs 8 ≡ why_word (why_in o)

-- the values of a packet, those behind the drop, show why it was dropped
abbrev pub ShowsCause : List (List ℕ) → DropCause → Type 0
ShowsCause fs Full = field_at fs 13 ≡ codes "app"
ShowsCause fs (Flow offers) = (field_at fs 13 ≡ codes "flow")
    × (field_at fs 14 ≡ decimal offers) × (offers < 2 ^ 32)

-- the values of a packet show what became of it at its lane
abbrev pub ShowsPut : List (List ℕ) → Option Put → Type 0
ShowsPut fs None = field_at fs 9 ≡ codes "-"
ShowsPut fs (Some (At position)) = (field_at fs 9 ≡ decimal position) × (position < 2 ^ 32)
ShowsPut fs (Some (Dropped number accepted pulled cause)) =
    (field_at fs 9 ≡ codes "drop")
    × (field_at fs 10 ≡ decimal number) × (number < 2 ^ 32)
    × (field_at fs 11 ≡ decimal accepted) × (accepted < 2 ^ 32)
    × (field_at fs 12 ≡ decimal pulled) × (pulled < 2 ^ 32)
    × ShowsCause fs cause

-- how many values there are before the word of the application
abbrev pub cause_end : DropCause → ℕ
cause_end Full = 13
cause_end (Flow offers) = 15

abbrev pub put_end : Option Put → ℕ
put_end None = 10
put_end (Some (At position)) = 10
put_end (Some (Dropped number accepted pulled cause)) = cause_end cause

-- the bytes of the words before the first values of a packet, each with the space behind it: p, q,
-- via, class, want, head, tail, cpu, why and at
abbrev pub packet_steps : List ℕ
packet_steps = 2 ∷ 2 ∷ 4 ∷ 6 ∷ 5 ∷ 5 ∷ 5 ∷ 4 ∷ 4 ∷ 3 ∷ []

-- the same of a reply: r, app, rxq, cpu, pick, head, tail, tx, why, at and port
abbrev pub reply_steps : List ℕ
reply_steps = 2 ∷ 4 ∷ 4 ∷ 4 ∷ 5 ∷ 5 ∷ 5 ∷ 3 ∷ 4 ∷ 3 ∷ 5 ∷ []

-- the values of a packet show what is kept of it
pub record GivesPacket (s : SeenPacket) (fs : List (List ℕ)) : Type 0 where
  pub queue_fits : s.queue < 2 ^ 8
  pub queue : field_at fs 1 ≡ decimal s.queue
  pub via : field_at fs 2 ≡ via_word s.via
  pub class_fits : FitsIn 32 (class_in s.choice)
  pub class : field_at fs 3 ≡ or_dash (class_in s.choice)
  pub choice : ShowsChoice fs (class_in s.choice) s.choice
  pub put : ShowsPut fs s.put
  pub app_fits : s.app < 2 ^ 8
  pub app : field_at fs (put_end s.put + 1) ≡ decimal s.app
  pub inbox_fits : FitsIn 32 s.inbox
  pub inbox : field_at fs (put_end s.put + 3) ≡ or_dash s.inbox

-- the fields of a packet show what is kept of it
pub record ShowsPacket (s : SeenPacket) (fs : List (List ℕ)) : Type 0 where
  pub steps : HasSteps packet_steps fs
  pub values : GivesPacket s (values_of packet_steps fs)

-- the values of a reply show what is kept of it
pub record GivesReply (s : SeenReply) (fs : List (List ℕ)) : Type 0 where
  pub id_fits : s.id < 2 ^ 32
  pub id : field_at fs 0 ≡ decimal s.id
  pub rxq_fits : s.rxq < 2 ^ 8
  pub rxq : field_at fs 2 ≡ decimal s.rxq
  pub cpu_fits : s.cpu < 2 ^ 8
  pub cpu : field_at fs 3 ≡ decimal s.cpu
  pub choice : ShowsChoice fs None s.choice
  pub put_fits : FitsIn 32 s.put
  pub put : field_at fs 9 ≡ or_dash s.put
  pub port_fits : FitsIn 32 s.port
  pub port : field_at fs 10 ≡ or_dash s.port

-- the fields of a reply show what is kept of it
pub record ShowsReply (s : SeenReply) (fs : List (List ℕ)) : Type 0 where
  pub steps : HasSteps reply_steps fs
  pub values : GivesReply s (values_of reply_steps fs)

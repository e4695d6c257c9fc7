-- Rows in pieces: the fields after the first one of a row.
use Rattle.std.specs.Prelude.{ℕ, Bool, true, false, List, [], ◌∷◌, ◌++◌, Option, Some, None, codes}
use Rattle.std.specs.Prelude.{decimal}
use Rattle.steer_base.specs.declared.choice.Choice.{Choice}
use Rattle.history.specs.declared.packet_line.PacketLine.{PacketLine}
use Rattle.history.specs.declared.reply_line.ReplyLine.{ReplyLine}
use Rattle.report.specs.Lines.{or_dash, via_word, class_in, want_in, head_in, tail_in, lane_in}
use Rattle.report.specs.Lines.{why_in, why_word, reply_row}
use Rattle.report.specs.Texts.{row_text}

-- the text of fields, each after a space
abbrev pub spaced : List (List ℕ) → List ℕ
spaced [] = []
spaced (f ∷ fs) = 32 ∷ (f ++ spaced fs)

-- the fields of a packet up to its choice
abbrev pub front_fields : PacketLine → List (List ℕ)
front_fields l = decimal l.id ∷ codes "q" ∷ decimal l.queue ∷ codes "via" ∷ via_word l.via ∷ []

-- the fields of a processor choice
abbrev pub choice_fields : Option Choice → List (List ℕ)
choice_fields o =
    codes "class" ∷ or_dash (class_in o) ∷ codes "want" ∷ or_dash (want_in o)
    ∷ codes "head" ∷ or_dash (head_in o)
    ∷ codes "tail" ∷ or_dash (tail_in o) ∷ codes "cpu" ∷ or_dash (lane_in o)
    ∷ codes "why" ∷ why_word (why_in o) ∷ []

-- the fields of a reply up to its choice
abbrev pub reply_front_fields : ReplyLine → List (List ℕ)
reply_front_fields r =
    decimal r.id ∷ codes "app" ∷ decimal r.app ∷ codes "rxq" ∷ decimal r.rxq
    ∷ codes "cpu" ∷ decimal r.cpu ∷ []

-- the fields of a transmit queue choice
abbrev pub pick_fields : Option Choice → List (List ℕ)
pick_fields o =
    codes "pick" ∷ or_dash (want_in o) ∷ codes "head" ∷ or_dash (head_in o)
    ∷ codes "tail" ∷ or_dash (tail_in o)
    ∷ codes "tx" ∷ or_dash (lane_in o) ∷ codes "why" ∷ why_word (why_in o) ∷ []

-- the fields of a reply after its choice
abbrev pub reply_last_fields : ReplyLine → List (List ℕ)
reply_last_fields r = codes "at" ∷ or_dash r.put ∷ codes "port" ∷ or_dash r.port ∷ []

-- the text line of a reply, nothing if none was begun
abbrev pub reply_text : Option ReplyLine → List ℕ
reply_text None = []
reply_text (Some line) = row_text (reply_row line)

-- the separator before a member of a set: a space before the first, a comma before each other
abbrev pub separator : Bool → ℕ
separator true = 32
separator false = 44

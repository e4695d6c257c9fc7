-- What a poller keeps beside the packet in its hand.
use Rattle.std.specs.Prelude.{Bool, true, false, Option, Some, None}
use Rattle.steer_base.specs.declared.filter.Filter.{Filter}
use Rattle.steer_model.specs.declared.note.Note.{Note}
use Rattle.steer_model.specs.declared.note.Note.TheVariants as note

-- whether a poller keeps nothing
abbrev pub is_nothing : Note → Bool
is_nothing note.Nothing = true
is_nothing (note.Looked want) = false
is_nothing (note.Asking filter) = false

-- whether a poller asks for a filter next
abbrev pub is_asking : Note → Bool
is_asking note.Nothing = false
is_asking (note.Looked want) = false
is_asking (note.Asking filter) = true

-- the note that asks for a filter, if there is one
abbrev pub asking : Option Filter → Note
asking (Some filter) = note.Asking filter
asking None = note.Nothing

-- The parts of a desk over the files of the operating system.
use Rattle.std.specs.Prelude.{ℕ, List, Option}
use Rattle.outside_io.specs.declared.file_desk.FileDesk.{FileDesk}

-- the file that is begun on a file desk, if any
abbrev pub file_of : {R F D : Type 0} → FileDesk R F D → Option F
file_of desk = desk.file

-- the name that a file desk was asked for last, if any
abbrev pub file_desk_asked : {R F D : Type 0} → FileDesk R F D → Option (List ℕ)
file_desk_asked desk = desk.asked

-- the number of failed calls of a file desk
abbrev pub file_desk_faults : {R F D : Type 0} → FileDesk R F D → ℕ
file_desk_faults desk = desk.faults

-- What a desk in memory holds, and which of its calls fail.
use Rattle.std.specs.Prelude.{List, ℕ, Bool, ◌||◌, Option, is_none}
use Rattle.outside_io.specs.Failures.{next_fails}
use Rattle.outside_io.specs.Folder.{asked_in, held_in, left_in}
use Rattle.outside_io.specs.declared.failures.Failures.{Failures}
use Rattle.outside_io.specs.declared.memory_desk.MemoryDesk.{MemoryDesk}

-- the bytes of the file with this name on a desk in memory, if there is one
abbrev pub memory_desk_held : MemoryDesk → List ℕ → Option (List ℕ)
memory_desk_held desk = held_in desk.folder

-- the bytes left of the file that is begun on a desk in memory, none if no file is begun
abbrev pub memory_desk_left : MemoryDesk → List ℕ
memory_desk_left desk = left_in desk.folder

-- the name of the file that is begun on a desk in memory, if one is
abbrev pub asked_on : MemoryDesk → Option (List ℕ)
asked_on desk = asked_in desk.folder

-- the calls of a desk in memory, and which of them fail
abbrev pub memory_desk_failures : MemoryDesk → Failures
memory_desk_failures desk = desk.failures

-- the number of failed calls of a desk in memory
abbrev pub memory_desk_faults : MemoryDesk → ℕ
memory_desk_faults desk = desk.failures.faults

-- a `begin` fails if its number is listed or the name is unknown
abbrev pub begin_fails : MemoryDesk → List ℕ → Bool
begin_fails desk name = next_fails (memory_desk_failures desk) || is_none
    (memory_desk_held desk name)

-- a `read` fails if its number is listed
abbrev pub read_fails : MemoryDesk → Bool
read_fails desk = next_fails (memory_desk_failures desk)

-- the number of reads made on a desk in memory
abbrev pub reads_of : MemoryDesk → ℕ
reads_of desk = desk.reads

-- the number of bytes that its reads returned
abbrev pub taken_of : MemoryDesk → ℕ
taken_of desk = desk.taken

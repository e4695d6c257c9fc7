-- Files in memory: pairs of a name and its bytes. If a name occurs more than once, its first file
-- counts.
use Rattle.std.specs.Prelude.{ℕ, List, [], drop, Option, slice_get, position, bytes_eq, String}
use Rattle.std.specs.Prelude.{string_bytes, Vec, option_and_then}
use Rattle.std.specs.Option.{option_map, option_map_or}
use Rattle.std.specs.declared.alloc.Global.{Global}
use Rattle.outside_io.specs.declared.folder.Folder.{Folder}

-- the index of the first file with this name
abbrev pub place_of : List (String Global × Vec ℕ Global) → List ℕ → Option ℕ
place_of files name = position (λ f. bytes_eq (string_bytes f.0) name) files

-- the bytes of the file at an index
abbrev pub bytes_at : List (String Global × Vec ℕ Global) → ℕ → Option (List ℕ)
bytes_at files place = option_map (λ f. f.1.items) (slice_get files place)

-- the bytes of the file with this name, if there is one
abbrev pub bytes_of : List (String Global × Vec ℕ Global) → List ℕ → Option (List ℕ)
bytes_of files name = option_and_then (bytes_at files) (place_of files name)

-- the bytes from an offset on of the file at an index, and none if there is no index
abbrev pub bytes_from : List (String Global × Vec ℕ Global) → Option ℕ → ℕ → List ℕ
bytes_from files place at = option_map_or (drop at) (option_and_then (bytes_at files) place) []

-- the bytes of the file with this name in a folder, if there is one
abbrev pub held_in : Folder → List ℕ → Option (List ℕ)
held_in folder = bytes_of folder.files.items

-- the bytes left of the file that is begun in a folder, none if no file is begun
abbrev pub left_in : Folder → List ℕ
left_in folder = bytes_from folder.files.items folder.begun folder.at

-- the name of the file at an index
abbrev pub name_at : List (String Global × Vec ℕ Global) → ℕ → Option (List ℕ)
name_at files place = option_map (λ f. string_bytes f.0) (slice_get files place)

-- the name of the file that is begun in a folder, if one is
abbrev pub asked_in : Folder → Option (List ℕ)
asked_in folder = option_and_then (name_at folder.files.items) folder.begun

-- The files of a desk that never fails.
use Rattle.std.specs.Prelude.{List, ℕ, [], Option, Some, unwrap_or}
use Rattle.outside_io.specs.Folder.{held_in, left_in}
use Rattle.outside_io.specs.declared.sure_desk.SureDesk.{SureDesk}

-- the bytes of the file with this name, none if there is no such file
abbrev pub sure_desk_held : SureDesk → List ℕ → Option (List ℕ)
sure_desk_held desk name = Some (unwrap_or (held_in desk.folder name) [])

-- the bytes left of the file that is begun on a sure desk, none if no file is begun
abbrev pub sure_desk_left : SureDesk → List ℕ
sure_desk_left desk = left_in desk.folder

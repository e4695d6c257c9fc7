-- Looking at lanes, up to the first that is not empty.
use Rattle.std.specs.Prelude.{Bool, true}
use Rattle.board_api.specs.declared.answers.Emptied.{Emptied}
use Rattle.board_api.specs.declared.answers.Emptied.TheVariants as emptied

-- Whether lanes have been found empty, after a look at some lanes.
abbrev pub emptied_after : Bool → Emptied → Bool
emptied_after e emptied.Ok = true
emptied_after e (emptied.NotEmpty lane head tail) = e

-- What a write of an application to the socket flow table keeps.
use Rattle.std.proofs.Common.{ℕ, ◌+◌, ◌<◌, ◌≡◌, List, Option, Some, None, length, refl, ◌∙◌, sym}
use Rattle.std.proofs.Common.{arith}
use Rattle.std.specs.Prelude.{slice_set}
use Rattle.std.proofs.Math.ListN.{length-set}
use Rattle.steer_base.specs.HashTables.{place_in_rows, with_row}
use Rattle.hop_model.specs.declared.event.HopEvent.TheVariants as event
use Rattle.hop_model.specs.Events.{happens}
use Rattle.hop_model.specs.Hop.{HopState}
use Rattle.history.specs.declared.sock_write.SockWrite.{SockWrite}
use Rattle.steer_model.specs.State.Machine.{Machine}
use Rattle.steer_invariant.specs.StepInvariant.{StepInvariant}
use Rattle.steer_invariant.proofs.StepInvariant.PollerLemmas.{kept_visit-in, kept_visit-out}

-- an application is an actor of the receive gate
pub guest_below : (m : Machine) (a : ℕ) → a < m.setup.apps → StepInvariant m
    → length m.setup.homes + a < length m.rx.visits
guest_below m a named k = let z = k.rx.sizes in omega (arith, named, z.visits)

-- it goes in and out
pub kept_visited : (m : Machine) (a : ℕ) (t u : HopState) → a < m.setup.apps
    → t ≡ (happens m.rx (event.Enter (length m.setup.homes + a))).0
    → u ≡ (happens t (event.Leave (length m.setup.homes + a))).0 → StepInvariant m
    → StepInvariant (record m { rx = u })
kept_visited m a t u named is then' k =
    let g : ℕ = length m.setup.homes + a in
    let first : StepInvariant (record m { rx = t }) =
    kept_visit-in m g t (guest_below m a named k) is k in
    kept_visit-out (record m { rx = t }) g u
    (guest_below (record m { rx = t }) a named first) then' first

row-long : (entries : List (Option ℕ)) (place : Option ℕ) (cpu : ℕ)
    → length (with_row entries place (Some cpu)) ≡ length entries
row-long entries None cpu = refl
row-long entries (Some place) cpu = length-set entries place (Some cpu)

-- the table has as many entries after a write
pub noted-long : (entries : List (Option ℕ)) (hash cpu : ℕ)
    → length (with_row entries (place_in_rows entries (Some hash)) (Some cpu)) ≡ length entries
noted-long entries hash cpu = row-long entries (place_in_rows entries (Some hash)) cpu

-- other entries of the table, as many, and one list of writes changed
pub kept_wrote : (m : Machine) (socket : List (Option ℕ)) (a : ℕ) (writes : List SockWrite)
    → length socket ≡ length m.socket → StepInvariant m
    → StepInvariant (record m { socket = socket; writes = slice_set m.writes a writes })
kept_wrote m socket a writes same k =
    let l = k.lists in let z = k.sizes in
    assumption (length-set m.writes a writes ∙ l.writes_long, z.sock ∙ sym same)

-- The name of a file that was found.
use Rattle.std.proofs.Common.{◌≡◌, ℕ, List, Bool, true, Option, Some, None, Vec, sym, ap}
use Rattle.std.proofs.Common.{refl}
use Rattle.std.proofs.Common.{◌∙◌}
use Rattle.std.specs.Prelude.{IfSome, String, string_bytes, bytes_eq}
use Rattle.std.specs.declared.alloc.Global.{Global}
use Rattle.std.specs.List.{slice_get}
use Rattle.std.specs.Option.{option_and_then, option_map}
use Rattle.std.proofs.lemmas.List.Quantifiers.{position-Some}
use Rattle.std.proofs.lemmas.Option.{get_or_from_slice_get}
use Rattle.std.proofs.lemmas.Slice.Eq.{bytes_eq-Decides}
use Rattle.outside_io.specs.Folder.{name_at, place_of}

abbrev File : Type 0
File = String Global × Vec ℕ Global

module _ (files : List File) (name : List ℕ) where
  found : (place : ℕ) (file : Option File) → place_of files name ≡ Some place
      → slice_get files place ≡ file
      → IfSome (option_map (λ (f : File). string_bytes f.0) file) (λ asked. asked ≡ name)
  found place None is at = tt
  found place (Some file) is at =
      let test : File → Bool = λ f. bytes_eq (string_bytes f.0) name in
      let passes = (position-Some test files place file is).1 in
      let here = get_or_from_slice_get files place file file at in
      let same : test file ≡ true = ap test (sym here) ∙ passes in
      (bytes_eq-Decides (string_bytes file.0) name).0 same

  -- the name at the place of a name is that name
  pub name_of_place : (place : Option ℕ) → place ≡ place_of files name
      → IfSome (option_and_then (name_at files) place) (λ asked. asked ≡ name)
  name_of_place None is = tt
  name_of_place (Some place) is = found place (slice_get files place) (sym is) refl

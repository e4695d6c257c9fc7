-- A walk begins with the first bytes of a file.
use Rattle.std.proofs.Common.{◌≡◌, ℕ, List, [], Option, drop, subst, sym}
use Rattle.pcapng_reader.specs.Captures.{BeginsNg}
use Rattle.pcapng_reader.specs.Walkers.{Passed}
use Rattle.pcapng_reader.specs.declared.walker.NgWalker.{NgWalker}
use Rattle.capture_stream.specs.Classic.{PassedClassic}
use Rattle.capture_stream.specs.Pcapng.{HasPassed}
use Rattle.capture_stream.specs.Streams.{IsBegun, IsUnderWay}
use Rattle.capture_stream.specs.Windows.{content}
use Rattle.capture_stream.specs.declared.classic.ClassicWalker.{ClassicWalker}
use Rattle.capture_stream.specs.declared.window.Window.{Window}
use Rattle.capture_stream.proofs.PieceLemmas.{read-still}

-- of a pcapng file nothing is passed
pub ng-begun : {F : Type 0} (takes : F → List (List ℕ) → F → Type 0)
    (named left : Option (List ℕ)) (first : F) (walker : NgWalker) (window : Window)
    → IsBegun named left window → BeginsNg (content window)
    → ((bytes : List ℕ) → Passed walker bytes [] bytes) → takes first [] first
    → IsUnderWay HasPassed takes named left first walker window first
ng-begun takes named left first walker window begun begins passed taken =
    record {
      bytes = begun.bytes;
      frames = [];
      are_read = begun.are_read;
      is_passed = (
        subst BeginsNg begun.all begins,
        subst (Passed walker begun.bytes []) (sym begun.all) (passed begun.bytes),
      );
      taken = taken;
    }

-- of a classic pcap file the header is passed
pub classic-begun : {F : Type 0} (takes : F → List (List ℕ) → F → Type 0)
    (named left : Option (List ℕ)) (first : F) (walker : ClassicWalker) (old new : Window)
    → IsBegun named left old
    → PassedClassic walker (content old) [] (drop 24 (content old))
    → content new ≡ drop 24 (content old) → new.taken ≡ old.taken → new.limit ≡ old.limit
    → takes first [] first
    → IsUnderWay PassedClassic takes named left first walker new first
classic-begun takes named left first walker old new begun passed content_is read limit taken =
    record {
      bytes = begun.bytes;
      frames = [];
      are_read = read-still named left old new begun.bytes begun.are_read read limit;
      is_passed = subst (λ bytes. PassedClassic walker bytes [] (content new)) begun.all
          (subst (PassedClassic walker (content old) []) (sym content_is) passed);
      taken = taken;
    }

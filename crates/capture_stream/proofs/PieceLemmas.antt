-- Pieces of a file, one after another.
use Rattle.std.proofs.Common.{◌≡◌, ◌≤◌, ◌<◌, ℕ, ◌+◌, List, [], ◌++◌, Option, Some, None, IfSome}
use Rattle.std.proofs.Common.{Err, length, ◌∙◌, ap, sym, arith, length-append, length-drop, subst}
use Rattle.std.proofs.lemmas.Bool.{false≢true}
use Rattle.std.proofs.lemmas.List.{append_assoc, append-nil}
use Rattle.std.specs.Io.KnownBytes.{Consumes, IsAtEnd, Keeps}
use Rattle.outside_io.specs.Desk.{GoesOnTelling}
use Rattle.outside_io.specs.declared.reading.TheConstants.{MAX_FILE}
use Rattle.capture_stream.specs.Captures.{TellsOf}
use Rattle.capture_stream.specs.Streams.{AreRead, IsBegun, IsFaultOf}
use Rattle.capture_stream.specs.Windows.{Grows, content}
use Rattle.capture_stream.specs.declared.fault.StreamFault.{StreamFault}
use Rattle.capture_stream.specs.declared.fault.StreamFault.TheVariants as fault
use Rattle.capture_stream.specs.declared.window.Window.{Window}

-- the bytes of two reads are read one after the other
pub consumes-more : (named left rest : Option (List ℕ)) (xs ys : List ℕ)
    → Consumes named left xs → Consumes left rest ys → Consumes named rest (xs ++ ys)
consumes-more None left rest xs ys one more = tt
consumes-more (Some all) (Some behind) (Some last) xs ys one more =
    one ∙ ap (λ l. xs ++ l) more ∙ sym (append_assoc xs ys last)
consumes-more (Some all) None rest xs ys one more = absurd one
consumes-more (Some all) (Some behind) None xs ys one more = absurd more

-- a desk that goes on telling what is left does so later
pub told-on : (first left rest : Option (List ℕ)) → GoesOnTelling first left
    → GoesOnTelling left rest → GoesOnTelling first rest
told-on None left rest one more = tt
told-on (Some all) (Some behind) rest one more = more
told-on (Some all) None rest one more = absurd (false≢true one)

-- one piece more is read
pub read-more : (named left rest : Option (List ℕ)) (old new : Window) (bytes piece : List ℕ)
    → AreRead named left old bytes → Consumes left rest piece
    → new.taken ≡ old.taken + length piece → new.taken ≤ new.limit
    → AreRead named rest new (bytes ++ piece)
read-more named left rest old new bytes piece are more taken few =
    record {
      read = consumes-more named left rest bytes piece are.read more;
      taken = omega (arith, taken, are.taken, length-append bytes piece);
      few = few;
    }

-- nothing more is read
pub read-still : (named left : Option (List ℕ)) (old new : Window) (bytes : List ℕ)
    → AreRead named left old bytes → new.taken ≡ old.taken → new.limit ≡ old.limit
    → AreRead named left new bytes
read-still named left old new bytes are taken limit =
    record {
      read = are.read;
      taken = taken ∙ are.taken;
      few = omega (arith, taken, limit, are.few);
    }

-- a file that has ended was read whole
pub whole-read : (named left : Option (List ℕ)) (bytes : List ℕ) → Consumes named left bytes
    → IsAtEnd left → Keeps named (Some bytes)
whole-read None left bytes read end = tt
whole-read (Some all) None bytes read end = absurd read
whole-read (Some all) (Some behind) bytes read end =
    sym (read ∙ ap (λ l. bytes ++ l) end ∙ append-nil bytes)

-- a file of which more was read than the limit is too long
pub too-long : (named left rest : Option (List ℕ)) (limit : ℕ) (bytes piece : List ℕ)
    → Consumes named left bytes → Consumes left rest piece
    → limit < length bytes + length piece → IfSome named (λ all. limit < length all)
too-long None left rest limit bytes piece read more long = tt
too-long (Some all) None rest limit bytes piece read more long = absurd read
too-long (Some all) (Some behind) None limit bytes piece read more long = absurd more
too-long (Some all) (Some behind) (Some last) limit bytes piece read more long =
    omega (
      arith,
      long,
      ap length read,
      ap length more,
      length-append bytes behind,
      length-append piece last,
    )

-- the fault of the bytes with which a file begins is that of the file
pub fault-is : (named : Option (List ℕ)) (limit : ℕ) (bytes more : List ℕ) (e : StreamFault)
    → Keeps named (Some (bytes ++ more)) → length (bytes ++ more) ≤ limit → TellsOf bytes e
    → IsFaultOf named limit e
fault-is named limit bytes more fault.Unread whole few tells = tt
fault-is named limit bytes more fault.OutOfMemory whole few tells = tt
fault-is named limit bytes more fault.TooLong whole few tells = absurd (tells [])
fault-is named limit bytes more (fault.Classic e) whole few tells =
    (bytes ++ more, whole, few, tells more)
fault-is named limit bytes more (fault.Ng e) whole few tells =
    (bytes ++ more, whole, few, tells more)

-- the reason why no more of a file was read is true of its bytes
pub stop-is : (named left rest : Option (List ℕ)) (old new : Window) (bytes : List ℕ)
    (e : StreamFault) → AreRead named left old bytes → Grows (Err e) old new left rest
    → IsFaultOf named old.limit e
stop-is named left rest old new bytes fault.Unread are stops = tt
stop-is named left rest old new bytes fault.OutOfMemory are stops = tt
stop-is named left rest old new bytes fault.TooLong are (piece, more, long) =
    too-long named left rest old.limit bytes piece are.read more (omega (arith, long, are.taken))
stop-is named left rest old new bytes (fault.Classic e) are stops = absurd stops
stop-is named left rest old new bytes (fault.Ng e) are stops = absurd stops

-- a window holds no more bytes than a file may have
pub window-small : (window : Window) → length (content window) ≤ MAX_FILE
window-small window = omega (
  arith,
  length-drop window.start window.buffer.items,
  window.begun,
  window.read,
  window.few,
  window.small,
)

-- what is left is kept when nothing more is read
pub consumes-kept : (named left rest : Option (List ℕ)) (bytes : List ℕ)
    → Consumes named left bytes → Keeps left rest → Consumes named rest bytes
consumes-kept None left rest bytes read kept = tt
consumes-kept (Some all) (Some behind) (Some last) bytes read kept =
    read ∙ ap (λ l. bytes ++ l) (sym kept)
consumes-kept (Some all) None rest bytes read kept = absurd read
consumes-kept (Some all) (Some behind) None bytes read kept = absurd kept

-- the same bytes are kept
pub keeps-content : (named : Option (List ℕ)) (bytes others : List ℕ) → others ≡ bytes
    → Keeps named (Some bytes) → Keeps named (Some others)
keeps-content named bytes others same kept =
    subst (λ l. Keeps named (Some l)) (sym same) kept

-- of a file that was begun nothing is read
pub consumes-none : (named left : Option (List ℕ)) → Keeps named left → Consumes named left []
consumes-none None left kept = tt
consumes-none (Some all) (Some behind) kept = sym kept
consumes-none (Some all) None kept = absurd kept

pub begun-empty : (named left : Option (List ℕ)) (window : Window) → Keeps named left
    → content window ≡ [] → window.taken ≡ 0 → IsBegun named left window
begun-empty named left window kept empty none =
    record {
      bytes = [];
      are_read = record {
        read = consumes-none named left kept;
        taken = none;
        few = omega (arith, none);
      };
      all = empty;
    }

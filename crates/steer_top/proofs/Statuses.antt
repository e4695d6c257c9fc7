-- What each status says, from how the call ended.
use Rattle.std.proofs.Common.{◌≡◌, ◌≢◌, ◌⊎◌, ℕ, List, [], ◌∷◌, ◌++◌, Option, Some, None, Ok, inl}
use Rattle.std.proofs.Common.{inr, refl, sym, ap, subst, ◌∙◌, arith}
use Rattle.std.specs.Prelude.{⊤}
use Rattle.std.specs.Io.KnownBytes.{Keeps, Appends}
use Rattle.outside_io.specs.Sink.{AppendsSome}
use Rattle.steer_top.specs.Captures.{HasAnyCapture}
use Rattle.steer_top.specs.Checks.{IsVerdictLine}
use Rattle.steer_top.specs.Files.{Files, IsGood, IsBad, Accepted, Refused, IsRefusedOnce, IsNotBoth}
use Rattle.steer_top.specs.HashText.{capture_text}
use Rattle.steer_top.specs.PlaceText.{place_text}
use Rattle.ntuple_rules.specs.Readings.{rules_of}
use Rattle.replay.specs.Meanings.{Meaning}
use Rattle.replay.specs.Reports.{IsReportOfPlan, IsReportOfRun}
use Rattle.steer_top.specs.Outcomes.{FilesAreKnown, Writes, roles_of, file_bytes}
use Rattle.steer_top.specs.Words.{CommandWords}
use Rattle.steer_top.specs.Words.CommandWords.{Check, Gen, Hash, Place, Replay, Run}
use Rattle.steer_top.specs.Endings.{Course, DeskFailed, OutFailed, Gave, EndsCommand, IsRefusal}
use Rattle.steer_top.specs.Endings.{IsUnread, status_of, status_of_refusal}
use Rattle.steer_top.specs.declared.ending.Role.{Role}
use Rattle.steer_top.specs.declared.ending.Role.TheVariants as role
use Rattle.steer_top.specs.declared.ending.Refusal.{Refusal}
use Rattle.steer_top.specs.declared.ending.Refusal.TheVariants as refusal
use Rattle.steer_top.specs.declared.ending.Ending.{Ending}
use Rattle.steer_top.specs.declared.ending.Ending.TheVariants as ending

-- a refusal has a status of refusals, and no other number is one
pub is_refusal : (reason : Refusal) → IsRefusal (status_of_refusal reason)
is_refusal (refusal.Plan f) = inl refl
is_refusal (refusal.Rules f) = inl refl
is_refusal (refusal.Capture f) = inr (inl refl)
is_refusal (refusal.Pcapng f) = inr (inl refl)
is_refusal (refusal.TooLong r) = inr (inr refl)

no_refusal : (n : ℕ) → n ≢ 3 → n ≢ 4 → n ≢ 8 → IsRefusal n → ⊥
no_refusal n three four eight (inl is) = three is
no_refusal n three four eight (inr (inl is)) = four is
no_refusal n three four eight (inr (inr is)) = eight is

-- a status that is none of refusals is no refusal's
pub other_status : {A : Type 0} (reason : Refusal) (n : ℕ) → status_of_refusal reason ≡ n → n ≢ 3
    → n ≢ 4 → n ≢ 8 → A
other_status (refusal.Plan f) n is three four eight = absurd (three (sym is))
other_status (refusal.Rules f) n is three four eight = absurd (three (sym is))
other_status (refusal.Capture f) n is three four eight = absurd (four (sym is))
other_status (refusal.Pcapng f) n is three four eight = absurd (four (sym is))
other_status (refusal.TooLong r) n is three four eight = absurd (eight (sym is))

-- bytes that are told are those that were given
given_is : (told : Option (List ℕ)) (bytes given : List ℕ) → told ≡ Some bytes
    → Keeps told (Some given) → given ≡ bytes
given_is None bytes given is kept = absurd (cc)
given_is (Some xs) bytes given is kept = let same : xs ≡ bytes = cc in kept ∙ same

abbrev Same : List Role → Files → Files → Type 0
Same [] given told = ⊤
Same (r ∷ roles) given told = (given r ≡ told r) × Same roles given told

same_files : (tells : Role → Option (List ℕ)) (told given : Files) (roles : List Role)
    → FilesAreKnown tells roles told → Gave tells given → Same roles given told
same_files tells told given [] all gave = tt
same_files tells told given (r ∷ roles) (is, all) gave =
    (given_is (tells r) (told r) (given r) is (gave r), same_files tells told given roles all gave)

-- the first of some files are the same
same_front : (given told : Files) (front back : List Role) → Same (front ++ back) given told
    → Same front given told
same_front given told [] back same = tt
same_front given told (r ∷ front) back (is, same) = (is, same_front given told front back same)

same_accepted : (roles : List Role) (given told : Files) → Same roles given told
    → Accepted roles given → Accepted roles told
same_accepted [] given told same all = all
same_accepted (r ∷ roles) given told (is, same) (good, all) =
    (subst (IsGood r) is good, same_accepted roles given told same all)

same_refused : (roles : List Role) (given told : Files) (reason : Refusal) → Same roles given told
    → Refused roles given reason → Refused roles told reason
same_refused [] given told reason same refused = refused
same_refused (r ∷ roles) given told reason (is, same) (inl bad) =
    inl (subst (λ bytes. IsBad r bytes reason) is bad)
same_refused (r ∷ roles) given told reason (is, same) (inr (good, later)) =
    inr (subst (IsGood r) is good, same_refused roles given told reason same later)

same_writes : (taps : List Meaning) (command : CommandWords) (given told : Files) (text : List ℕ)
    → Same (roles_of command) given told
    → Writes taps command given text → Writes taps command told text
same_writes taps (Hash words) given told text (same, rest) (capture, has, is) = (
  capture,
  subst (λ bytes. HasAnyCapture bytes capture) same has,
  is ∙ ap (λ bytes. capture_text words.queues words.kinds bytes capture) same,
)
same_writes taps (Replay words) given told text (first, (second, rest)) (capture, has, report) = (
  capture,
  subst (λ bytes. HasAnyCapture bytes capture) second has,
  subst (λ bytes. IsReportOfPlan bytes (told role.Capture) capture taps text) first
      (subst (λ bytes. IsReportOfPlan (given role.Plan) bytes capture taps text) second report),
)
same_writes taps (Run words) given told text (first, (second, rest)) (capture, has, report) = (
  capture,
  subst (λ bytes. HasAnyCapture bytes capture) second has,
  subst (λ bytes. IsReportOfRun bytes (told role.Capture) capture taps text) first
      (subst (λ bytes. IsReportOfRun (given role.Plan) bytes capture taps text) second report),
)
same_writes taps (Gen words) given told text same writes = writes
same_writes taps (Check words) given told text (first, (second, (third, rest)))
    (capture, has, line) = (
      capture,
      subst (λ bytes. HasAnyCapture bytes capture) second has,
      subst (λ bytes. IsVerdictLine bytes (told role.Capture) capture (told role.Report) text) first
          (subst (λ bytes. IsVerdictLine (given role.Plan) bytes capture (told role.Report) text)
          second
          (subst (λ bytes. IsVerdictLine (given role.Plan) (given role.Capture) capture bytes text)
          third line)),
    )
same_writes taps (Place words) given told text (first, (second, rest))
    (rules, capture, reads, has, is) = (
      rules,
      capture,
      subst (λ bytes. rules_of bytes ≡ Ok rules) first reads,
      subst (λ bytes. HasAnyCapture bytes capture) second has,
      is ∙ ap (λ bytes. place_text rules bytes capture) second,
    )

-- status 0 is that of one ending
pub done_of : (e : Ending) → status_of e ≡ 0 → e ≡ ending.Done
done_of ending.Done s = refl
done_of (ending.Refuses reason) s =
    other_status reason 0 s (omega arith) (omega arith) (omega arith)
done_of ending.Usage s = absurd (omega (arith, s))
done_of ending.ReadFault s = absurd (omega (arith, s))
done_of ending.WriteFault s = absurd (omega (arith, s))
done_of ending.OutOfMemory s = absurd (omega (arith, s))

-- what is true of a command whose files are told
module _ (once : IsRefusedOnce) (apart : IsNotBoth) (command : CommandWords) (told : Files)
    (course : Course)
    (tells : FilesAreKnown (file_bytes course.held command) (roles_of command) told) where
  same : (files : Files) → Gave (file_bytes course.held command) files
      → Same (roles_of command) files told
  same files gave = same_files (file_bytes course.held command) told files
      (roles_of command) tells gave

  pub refuses_of : (e : Ending) → EndsCommand e command course → IsRefusal (status_of e)
      → (reason : Refusal) × Refused (roles_of command) told reason
      × (status_of e ≡ status_of_refusal reason)
  refuses_of (ending.Refuses reason) (files, gave, (refused, kept)) s =
      (reason, same_refused (roles_of command) files told reason (same files gave) refused, refl)
  refuses_of ending.Done h s = absurd (no_refusal 0 (omega arith) (omega arith) (omega arith) s)
  refuses_of ending.Usage h s = absurd (no_refusal 2 (omega arith) (omega arith) (omega arith) s)
  refuses_of ending.ReadFault h s =
      absurd (no_refusal 5 (omega arith) (omega arith) (omega arith) s)
  refuses_of ending.WriteFault h s =
      absurd (no_refusal 6 (omega arith) (omega arith) (omega arith) s)
  refuses_of ending.OutOfMemory h s =
      absurd (no_refusal 7 (omega arith) (omega arith) (omega arith) s)

  pub refused_of : (e : Ending) → EndsCommand e command course → (reason : Refusal)
      → Refused (roles_of command) told reason
      → (DeskFailed course → ⊥) → (status_of e ≡ status_of_refusal reason) ⊎ (status_of e ≡ 7)
  refused_of ending.Done (files, gave, (all, text, is_text, took)) reason is read =
      absurd (apart (roles_of command) told reason
      (same_accepted (roles_of command) files told (same files gave) all) is)
  refused_of ending.Usage (files, gave, by) reason is read = absurd by
  refused_of (ending.Refuses other) (files, gave, (refused, kept)) reason is read =
      inl (ap status_of_refusal
      (once (roles_of command) told other reason
      (same_refused (roles_of command) files told other (same files gave) refused) is))
  refused_of ending.ReadFault (files, gave, (at, failed, kept)) reason is read =
      absurd (read failed)
  refused_of ending.WriteFault (files, gave, (all, failed, text, is_text, took)) reason is read =
      absurd (apart (roles_of command) told reason
      (same_accepted (roles_of command) files told (same files gave) all) is)
  refused_of ending.OutOfMemory h reason is read = inr refl

  pub complete_of : (e : Ending) → EndsCommand e command course → Accepted (roles_of command) told
      → (DeskFailed course → ⊥) → (OutFailed course → ⊥) → (status_of e ≡ 0) ⊎ (status_of e ≡ 7)
  complete_of ending.Done h all read write = inl refl
  complete_of ending.Usage (files, gave, by) all read write = absurd by
  complete_of (ending.Refuses reason) (files, gave, (refused, kept)) all read write =
      absurd (apart (roles_of command) told reason all
      (same_refused (roles_of command) files told reason (same files gave) refused))
  complete_of ending.ReadFault (files, gave, (at, failed, kept)) all read write =
      absurd (read failed)
  complete_of ending.WriteFault (files, gave, (good, failed, text, is_text, took)) all read write =
      absurd (write failed)
  complete_of ending.OutOfMemory h all read write = inr refl

  pub accepted_of : (e : Ending) → EndsCommand e command course → status_of e ≡ 0
      → Accepted (roles_of command) told
  accepted_of ending.Done (files, gave, (all, text, is_text, took)) s =
      same_accepted (roles_of command) files told (same files gave) all
  accepted_of (ending.Refuses reason) h s =
      other_status reason 0 s (omega arith) (omega arith) (omega arith)
  accepted_of ending.Usage h s = absurd (omega (arith, s))
  accepted_of ending.ReadFault h s = absurd (omega (arith, s))
  accepted_of ending.WriteFault h s = absurd (omega (arith, s))
  accepted_of ending.OutOfMemory h s = absurd (omega (arith, s))

  pub text_of : (e : Ending) → EndsCommand e command course → status_of e ≡ 0
      → (text : List ℕ) × Writes course.taps command told text
      × Appends course.written_before course.written_after text
  text_of ending.Done (files, gave, (all, text, is_text, took)) s =
      (text, same_writes course.taps command files told text (same files gave) is_text, took)
  text_of (ending.Refuses reason) h s =
      other_status reason 0 s (omega arith) (omega arith) (omega arith)
  text_of ending.Usage h s = absurd (omega (arith, s))
  text_of ending.ReadFault h s = absurd (omega (arith, s))
  text_of ending.WriteFault h s = absurd (omega (arith, s))
  text_of ending.OutOfMemory h s = absurd (omega (arith, s))

  pub unread_of : (e : Ending) → EndsCommand e command course → status_of e ≡ 5
      → IsUnread command told course.asked
  unread_of ending.ReadFault (files, gave, (unread, failed, kept)) s = record {
    earlier = unread.earlier;
    r = unread.r;
    later = unread.later;
    roles = unread.roles;
    accepted = same_accepted unread.earlier files told
        (same_front (files) told unread.earlier (unread.r ∷ unread.later)
        (subst (λ roles. Same roles files told) unread.roles (same files gave))) unread.accepted;
    last = unread.last;
  }
  unread_of (ending.Refuses reason) h s =
      other_status reason 5 s (omega arith) (omega arith) (omega arith)
  unread_of ending.Usage h s = absurd (omega (arith, s))
  unread_of ending.Done h s = absurd (omega (arith, s))
  unread_of ending.WriteFault h s = absurd (omega (arith, s))
  unread_of ending.OutOfMemory h s = absurd (omega (arith, s))

  pub part_of : (e : Ending) → EndsCommand e command course → status_of e ≡ 6
      → (text : List ℕ) × Writes course.taps command told text
      × AppendsSome course.written_before course.written_after text
  part_of ending.WriteFault (files, gave, (all, failed, text, is_text, took)) s =
      (text, same_writes course.taps command files told text (same files gave) is_text, took)
  part_of (ending.Refuses reason) h s =
      other_status reason 6 s (omega arith) (omega arith) (omega arith)
  part_of ending.Usage h s = absurd (omega (arith, s))
  part_of ending.Done h s = absurd (omega (arith, s))
  part_of ending.ReadFault h s = absurd (omega (arith, s))
  part_of ending.OutOfMemory h s = absurd (omega (arith, s))

  -- an ending with a status of refusals is that of the one reason
  pub refused_is : (e : Ending) → EndsCommand e command course → IsRefusal (status_of e)
      → (reason : Refusal)
      → Refused (roles_of command) told reason → e ≡ ending.Refuses reason
  refused_is (ending.Refuses other) (files, gave, (refused, kept)) s reason is =
      ap ending.Refuses (once (roles_of command) told other reason
      (same_refused (roles_of command) files told other (same files gave) refused) is)
  refused_is ending.Done h s reason is =
      absurd (no_refusal 0 (omega arith) (omega arith) (omega arith) s)
  refused_is ending.Usage h s reason is =
      absurd (no_refusal 2 (omega arith) (omega arith) (omega arith) s)
  refused_is ending.ReadFault h s reason is =
      absurd (no_refusal 5 (omega arith) (omega arith) (omega arith) s)
  refused_is ending.WriteFault h s reason is =
      absurd (no_refusal 6 (omega arith) (omega arith) (omega arith) s)
  refused_is ending.OutOfMemory h s reason is =
      absurd (no_refusal 7 (omega arith) (omega arith) (omega arith) s)

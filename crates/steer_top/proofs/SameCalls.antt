-- Two calls of the same words and bytes come to the same.
use Rattle.std.proofs.Common.{◌≡◌, ℕ, List, inl, inr, ap, ◌∙◌, sym, subst, arith}
use Rattle.steer_top.specs.Endings.{Ends, EndsCommand, IsRefusal, line_of_refusal, line_of_status}
use Rattle.steer_top.specs.Endings.{status_of, status_of_refusal}
use Rattle.steer_top.specs.Files.{Accepted, Files, IsDecided, IsNotBoth, IsRefusedOnce, Refused}
use Rattle.steer_top.specs.Functions.{AsksFor, Call, IsOfBytes, TextsAreFunctions}
use Rattle.steer_top.specs.Functions.{TookLine, TookText, Wrote}
use Rattle.steer_top.specs.Outcomes.{Writes, roles_of}
use Rattle.steer_top.specs.Words.{CommandWords}
use Rattle.steer_top.specs.declared.ending.Ending.{Ending}
use Rattle.steer_top.specs.declared.ending.Ending.TheVariants as ending
use Rattle.steer_top.specs.declared.ending.Refusal.{Refusal}
use Rattle.steer_top.proofs.Functions.{OneOfEach, one_text}
use Rattle.steer_top.proofs.Statuses.{is_refusal}

pub zero_refuses_none : IsRefusal 0 → ⊥
zero_refuses_none (inl three) = omega (arith, three)
zero_refuses_none (inr (inl four)) = omega (arith, four)
zero_refuses_none (inr (inr eight)) = omega (arith, eight)

module _ (once : IsRefusedOnce) (apart : IsNotBoth) (command : CommandWords) (files : Files) where
  -- a call that nothing but the bytes decide is done where they are accepted
  done_at : (call : Call) → AsksFor command files call → IsOfBytes call.status
      → Accepted (roles_of command) files
      → (e : Ending) → call.status ≡ status_of e → EndsCommand e command call.course
      → call.status ≡ 0
  done_at call asks of all ending.Done is ends = is
  done_at call asks of all ending.Usage is (given, gave, by) = absurd by
  done_at call asks of all (ending.Refuses reason) is ends =
      let (other, refused, same) =
      call.answered.refuses (subst IsRefusal (sym is) (is_refusal reason)) command files asks in
      absurd (apart (roles_of command) files other all refused)
  done_at call asks of all ending.ReadFault is ends = absurd (of.read is)
  done_at call asks of all ending.WriteFault is ends = absurd (of.wrote is)
  done_at call asks of all ending.OutOfMemory is ends = absurd (of.had_memory is)

  -- and refused where they are refused
  refused_at : (call : Call) → AsksFor command files call → IsOfBytes call.status
      → (reason : Refusal) → Refused (roles_of command) files reason
      → (e : Ending) → call.status ≡ status_of e → EndsCommand e command call.course
      → call.status ≡ status_of_refusal reason
  refused_at call asks of reason bad ending.Done is ends =
      absurd (apart (roles_of command) files reason (call.answered.accepted is command files asks)
      bad)
  refused_at call asks of reason bad ending.Usage is (given, gave, by) = absurd by
  refused_at call asks of reason bad (ending.Refuses ended) is ends =
      let (other, refused, same) =
      call.answered.refuses (subst IsRefusal (sym is) (is_refusal ended)) command files asks in
      same ∙ ap status_of_refusal (once (roles_of command) files other reason refused bad)
  refused_at call asks of reason bad ending.ReadFault is ends = absurd (of.read is)
  refused_at call asks of reason bad ending.WriteFault is ends = absurd (of.wrote is)
  refused_at call asks of reason bad ending.OutOfMemory is ends = absurd (of.had_memory is)

  done : (call : Call) → AsksFor command files call → IsOfBytes call.status
      → Accepted (roles_of command) files → call.status ≡ 0
  done call asks of all =
      let (e, is, ends, told) = call.answered.ends in
      done_at call asks of all e is (subst (λ a. Ends e a call.course) asks.is ends)

  refused : (call : Call) → AsksFor command files call → IsOfBytes call.status
      → (reason : Refusal) → Refused (roles_of command) files reason
      → call.status ≡ status_of_refusal reason
  refused call asks of reason bad =
      let (e, is, ends, told) = call.answered.ends in
      refused_at call asks of reason bad e is (subst (λ a. Ends e a call.course) asks.is ends)

  -- ---- status and line

  one_status : IsDecided → (first second : Call) → AsksFor command files first
      → AsksFor command files second → IsOfBytes first.status → IsOfBytes second.status
      → first.status ≡ second.status
  one_status decided first second asks also of by = elim (decided (roles_of command) files) [
    | inl all ↦ done first asks of all ∙ sym (done second also by all)
    | inr (reason, bad) ↦ refused first asks of reason bad
        ∙ sym (refused second also by reason bad)
  ]

  no_line : (call : Call) → call.status ≡ 0 → TookLine call.err (line_of_status 0)
  no_line call is =
      subst (λ n. TookLine call.err (line_of_status n)) is
      (call.answered.line (λ some. zero_refuses_none (subst IsRefusal is some)))

  line_for : (call : Call) → AsksFor command files call → (reason : Refusal)
      → Refused (roles_of command) files reason → call.status ≡ status_of_refusal reason
      → TookLine call.err (line_of_refusal reason)
  line_for call asks reason bad is =
      call.answered.refusal_line (subst IsRefusal (sym is) (is_refusal reason)) command files reason
      asks bad

  one_answer : IsDecided → (first second : Call) → AsksFor command files first
      → AsksFor command files second → IsOfBytes first.status → IsOfBytes second.status
      → (line : List ℕ) × TookLine first.err line × TookLine second.err line
  one_answer decided first second asks also of by = elim (decided (roles_of command) files) [
    | inl all ↦ (
      line_of_status 0,
      no_line first (done first asks of all),
      no_line second (done second also by all),
    )
    | inr (reason, bad) ↦ (
      line_of_refusal reason,
      line_for first asks reason bad (refused first asks of reason bad),
      line_for second also reason bad (refused second also by reason bad),
    )
  ]

-- ---- the text

took : (command : CommandWords) (files : Files) (call : Call) → AsksFor command files call
    → Wrote call
    → (text : List ℕ) × Writes call.course.taps command files text × TookText text call
took command files call asks (inl is) =
    let (text, writes, all) = call.answered.text is command files asks in (
      text,
      writes,
      record { whole = λ zero. all; part = λ six. absurd (omega (arith, is, six)) },
    )
took command files call asks (inr is) =
    let (text, writes, some) = call.answered.part is command files asks in (
      text,
      writes,
      record { whole = λ zero. absurd (omega (arith, is, zero)); part = λ six. some },
    )

pub texts-are-functions : OneOfEach → IsDecided → IsRefusedOnce → IsNotBoth → TextsAreFunctions
texts-are-functions law decided once apart = record {
  text = one_text law;
  wrote = λ command files first second may asks also is was. (
      let (text, writes, whole) = took command files first asks is in
      let (other, written, all) = took command files second also was in
      let same = one_text law command files first.course.taps second.course.taps may text other
      writes written in
      (text, whole, subst (λ t. TookText t second) (sym same) all));
  status = λ command files first second. one_status once apart command files decided first second;
  line = λ command files first second. one_answer once apart command files decided first second;
}

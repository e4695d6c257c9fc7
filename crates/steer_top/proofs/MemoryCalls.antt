-- What a call over files and sinks in memory comes to, by what is promised of every call.
use Rattle.std.proofs.Common.{◌≡◌, ◌⊎◌, ℕ, List, [], Option, Some, inl, inr, sym, subst, ◌∙◌, arith}
use Rattle.std.proofs.Math.Seq.{take-nil}
use Rattle.outside_io.specs.Counts.{Rose}
use Rattle.outside_io.specs.MemoryDesk.{asked_on, memory_desk_faults}
use Rattle.outside_io.specs.MemorySink.{memory_sink_faults, unsent_by, written_to}
use Rattle.replay.specs.Meanings.{Meaning}
use Rattle.steer_top.specs.Calls.{IsAnswered}
use Rattle.steer_top.specs.Endings.{IsRefusal, Told, course_of, line_of_refusal, line_of_status}
use Rattle.steer_top.specs.Endings.{status_of_refusal}
use Rattle.steer_top.specs.Files.{Files, Refused}
use Rattle.steer_top.specs.InMemory.{HasLine, IsCalled, NoneFailed, course_in_memory}
use Rattle.steer_top.specs.Outcomes.{Asks, Writes, roles_of}
use Rattle.steer_top.specs.Words.{CommandWords}
use Rattle.steer_top.specs.declared.ending.Refusal.{Refusal}
use Rattle.steer_top.specs.declared.in_memory.InMemory.{InMemory}
use Rattle.steer_top.proofs.SameCalls.{zero_refuses_none}
use Rattle.steer_top.proofs.Statuses.{is_refusal, other_status}

-- a count that began at 0 and is 0 did not rise
did_not_rise : (count : ℕ) → count ≡ 0 → Rose 0 count → ⊥
did_not_rise count none rose = omega (arith, none, rose)

-- the whole line, or a prefix of it, of a sink that did not fail is the line
whole_line : (faults : ℕ) (written line : List ℕ) → faults ≡ 0
    → Told 0 faults (Some []) (Some written) line → written ≡ line
whole_line faults written line none told = elim told.took [
  | inl all ↦ all
  | inr (rose, some) ↦ absurd (did_not_rise faults none rose)
]

-- no line is written of an empty one
no_line : (faults : ℕ) (written : List ℕ) → Told 0 faults (Some []) (Some written) []
    → written ≡ []
no_line faults written told = elim told.took [
  | inl all ↦ all
  | inr (rose, (n, few, some)) ↦ some ∙ take-nil n
]

module _ (asked : Option CommandWords) (held : List ℕ → Option (List ℕ)) (taps : List Meaning)
    (called : InMemory)
    (answered : IsAnswered asked (course_in_memory held taps called) (HasLine called)
    called.status) where
  text_is : called.status ≡ 0 → (command : CommandWords) (files : Files)
      → Asks held asked command files → Writes taps command files (written_to called.out)
  text_is is command files asks =
      let (text, writes, took) = answered.text is command files asks in
      subst (Writes taps command files) (sym took) writes

  quiet_is : called.status ≡ 0 → written_to called.err ≡ []
  quiet_is is =
      no_line (memory_sink_faults called.err) (written_to called.err)
      (subst (λ n. HasLine called (line_of_status n)) is
      (answered.line (λ some. zero_refuses_none (subst IsRefusal is some))))

  refused_with : NoneFailed called → (command : CommandWords) (files : Files) (reason : Refusal)
      → Asks held asked command files → Refused (roles_of command) files reason
      → called.status ≡ status_of_refusal reason
      → (called.status ≡ status_of_refusal reason)
      × (written_to called.err ≡ line_of_refusal reason) × (written_to called.out ≡ [])
  refused_with none command files reason asks bad is =
      let refuses : IsRefusal called.status = subst IsRefusal (sym is) (is_refusal reason) in (
        is,
        whole_line (memory_sink_faults called.err) (written_to called.err) (line_of_refusal reason)
            none.err (answered.refusal_line refuses command files reason asks bad),
        answered.nothing
            (λ zero.
            other_status reason 0 (sym is ∙ zero) (omega arith) (omega arith) (omega arith))
            (λ six. other_status reason 6 (sym is ∙ six) (omega arith) (omega arith) (omega arith)),
      )

  refused_is : NoneFailed called → (command : CommandWords) (files : Files) (reason : Refusal)
      → Asks held asked command files → Refused (roles_of command) files reason
      → ((called.status ≡ status_of_refusal reason)
      × (written_to called.err ≡ line_of_refusal reason) × (written_to called.out ≡ []))
      ⊎ (called.status ≡ 7)
  refused_is none command files reason asks bad =
      elim (answered.refused command files reason asks bad
      (did_not_rise (memory_desk_faults called.desk) none.desk)) [
        | inl is ↦ inl (refused_with none command files reason asks bad is)
        | inr is ↦ inr is
      ]

  is_called : (called.status ≡ 0 → unsent_by called.out ≡ []) → IsCalled asked held taps called
  is_called sent = record {
    answered = answered;
    text = text_is;
    sent = sent;
    quiet = quiet_is;
    complete = λ none command files asks all.
        answered.complete command files asks all
        (did_not_rise (memory_desk_faults called.desk) none.desk)
        (did_not_rise (memory_sink_faults called.out) none.out);
    refused = refused_is;
  }

-- ---- what the files and the sinks began with

module _ (asked : Option CommandWords) (held : List ℕ → Option (List ℕ)) (taps : List Meaning)
    (called : InMemory) where
  -- what is promised of a call over a desk and sinks that began so
  abbrev Began : (List ℕ → Option (List ℕ)) → (desk out err : ℕ) → (text line : List ℕ) → Type 0
  Began told desk out err text line =
      IsAnswered asked
      (course_of told taps (asked_on called.desk) desk (memory_desk_faults called.desk) out
      (memory_sink_faults called.out) (Some text) (Some (written_to called.out)))
      (Told err (memory_sink_faults called.err) (Some line) (Some (written_to called.err)))
      called.status

  pub called_from : (told : List ℕ → Option (List ℕ)) (desk out err : ℕ) (text line : List ℕ)
      → told ≡ held → desk ≡ 0 → out ≡ 0 → err ≡ 0 → text ≡ [] → line ≡ []
      → Began told desk out err text line → (called.status ≡ 0 → unsent_by called.out ≡ [])
      → IsCalled asked held taps called
  called_from told desk out err text line of no_desk no_out no_err empty blank began sent =
      is_called asked held taps called
      (subst (λ l. Began held 0 0 0 [] l) blank
      (subst (λ t. Began held 0 0 0 t line) empty
      (subst (λ e. Began held 0 0 e text line) no_err
      (subst (λ o. Began held 0 o err text line) no_out
      (subst (λ d. Began held d out err text line) no_desk
      (subst (λ h. Began h desk out err text line) of began))))))
      sent

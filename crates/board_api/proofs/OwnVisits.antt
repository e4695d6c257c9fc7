-- The laws of visits and settings, by own steps.
use Rattle.hop_rule.specs.Gates.{inside, opened, own_settings}
use Rattle.hop_rule.specs.Sizes.{closer}
use Rattle.hop_rule.specs.declared.step.GateStep.TheVariants.{Entered, Left}
use Rattle.hop_rule.proofs.Boards.{lawful_past}
use Rattle.hop_rule.proofs.Numbers.{none_between}
use Rattle.hop_rule.proofs.Openings.{settings_are_the_closers, visits_are_numbered}
use Rattle.hop_rule.proofs.Openings.{visits_read_settings}
use Rattle.board_api.specs.Laws.Heads.{NumberedReadsAreSettings, ReadsAreSettings}
use Rattle.board_api.specs.Laws.Heads.{VisitNumbersRise}
use Rattle.board_api.specs.OwnSteps.{ReadsIn, visit_before}
use Rattle.board_api.proofs.Names.{◌≡◌, ℕ, List, sym, ap, ◌∙◌, arith, StepBy, IsLawful, gate_steps}
use Rattle.board_api.proofs.Names.{visit, past, FitSizes, BoardSizes, BoardStep, Gate, Read}
use Rattle.board_api.proofs.Names.{step_lawful, nth-inside, lists_of, Has}
use Rattle.board_api.proofs.Entries.{entry_of, length-past, nth-past}
use Rattle.board_api.proofs.OwnTimes.{moments, own, rise, step_is, when}

module _ (about : BoardSizes) (order : List (StepBy BoardStep)) (fit : FitSizes about)
    (lawful : IsLawful about order) where
  pub visit_numbers_rise : VisitNumbersRise about (own order) (lists_of about order)
  visit_numbers_rise =
      record {
        rise = λ q j k before word less enters enters'. (
            (visits_are_numbered about order fit lawful (when order q k) q word
            (step_is order q k (Gate (Entered word)) enters')).2 (when order q j) q before
            (rise order q j k (Gate (Entered word)) less enters')
            (step_is order q j (Gate (Entered before)) enters));
        made = λ q k word enters. (
            visits_are_numbered about order fit lawful (when order q k) q word
            (step_is order q k (Gate (Entered word)) enters)).1;
      }

  visit_reads : (q k i v : ℕ) → Has (own order q) k (Gate (Read i v))
      → visit (gate_steps (past k (own order q))) ≡ inside
      → v ≡ own_settings about
      (opened (visit_before (own order q) k) (gate_steps (own order (closer about)))) i
  visit_reads q k i v reads is =
      let ds : List BoardStep = own order q in
      let t = entry_of (past k ds) is in
      let last = nth-inside ds k (Gate (Read i v)) reads in
      let size = length-past k ds (omega arith) in
      let first = nth-inside (past k ds) t.entry (Gate (Entered t.word)) t.enters in
      let enters : Has ds t.entry (Gate (Entered t.word)) =
      sym (nth-past k t.entry ds (omega arith) (omega arith)) ∙ t.enters in
      let read =
      visits_read_settings about order fit lawful (when order q t.entry) (when order q k) q t.word
      i v (rise order q t.entry k (Gate (Read i v)) (omega arith) reads)
      (step_is order q t.entry (Gate (Entered t.word)) enters)
      (λ m from to left.
      none_between about order q t.entry k m (Gate (Entered t.word)) (Gate (Read i v))
      (Gate Left) enters reads
      (λ j after before has.
      t.stays j after (nth-past k j ds (omega arith) before ∙ has))
      from to left)
      (step_is order q k (Gate (Read i v)) reads) in
      read
      ∙ ap (λ n. own_settings about (opened n (gate_steps (own order (closer about)))) i)
      (sym t.number)

  closer_reads : (k i v : ℕ) → Has (own order (closer about)) k (Gate (Read i v))
      → v ≡ own_settings about (gate_steps (past k (own order (closer about)))) i
  closer_reads k i v reads =
      let c : ℕ = closer about in
      let n : ℕ = when order c k in
      let may = (step_lawful about order n c (Gate (Read i v)) lawful
      (step_is order c k (Gate (Read i v)) reads)).1 in
      may.0
      ∙ (ap (λ s. s i)
      (settings_are_the_closers about (past n order) (lawful_past about order n lawful))
      ∙ ap (λ ds. own_settings about (gate_steps ds) i)
      (sym ((moments order c).before k (Gate (Read i v)) reads)))

  pub reads_are_settings : ReadsAreSettings about (own order) (lists_of about order)
  reads_are_settings = record { in_visit = visit_reads; by_closer = closer_reads }

  setting_read : (q number i v : ℕ) → ReadsIn (own order q) number i v
      → v ≡ own_settings about (opened number (gate_steps (own order (closer about)))) i
  setting_read q number i v r =
      visit_reads q r.step i v r.reads r.visits
      ∙ ap (λ n. own_settings about (opened n (gate_steps (own order (closer about)))) i)
      r.number_is

  pub numbered_reads_are_settings : NumberedReadsAreSettings about (own order)
      (lists_of about order)
  numbered_reads_are_settings =
      record {
        reads = setting_read;
        alike = λ p q number i v w r s. (setting_read p number i v r
            ∙ sym (setting_read q number i w s));
      }

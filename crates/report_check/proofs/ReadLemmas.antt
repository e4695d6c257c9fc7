-- The history that was built from the parts of a report is the only one that bytes may be the
-- report of.
use Rattle.std.proofs.Common.{ℕ, ◌≡◌, ◌≤◌, ◌<◌, ◌^◌, List, length, sym, subst}
use Rattle.steer_base.specs.declared.limits.TheConstants.{MAX_PACKETS}
use Rattle.steer_base.specs.declared.packet.Packet.{Packet}
use Rattle.history.specs.declared.history.History.{History}
use Rattle.report.specs.Laws.{IsReportOf}
use Rattle.report.specs.Report.{report}
use Rattle.report_reader.specs.Parts.{AreParts}
use Rattle.report_reader.specs.declared.parts.Parts.{Parts}
use Rattle.report_history.specs.Printed.{IsOnlyHistory}
use Rattle.report_check.specs.Reading.{IsCandidate, IsNoReport, IsOnlyReport}

module _ (packets : List Packet) (apps start : ℕ) (bytes : List ℕ) (found : History)
    (shown : List (List ℕ)) where
  pub only-report : (p : Parts) → 1 ≤ apps → apps < 2 ^ 8 → length packets ≤ MAX_PACKETS
      → length packets ≤ length packets → AreParts bytes (length packets) p
      → IsOnlyHistory packets apps start p found shown
      → IsOnlyReport packets apps start found shown bytes
  only-report p some low small all are only h texts r = only h texts (record {
    regular = r.regular;
    queued = r.queued;
    numbers = r.numbers;
    starts = r.starts;
    parts = are packets apps start h texts some low all small r;
  })

  -- if the bytes are not the report of this one, they are that of none
  pub no-report : IsOnlyReport packets apps start found shown bytes
      → (IsReportOf packets apps start found shown bytes → ⊥)
      → IsNoReport packets apps start bytes
  no-report only other h texts r =
      let e = only h texts r in
      other (subst (λ k. IsReportOf packets apps start k shown bytes) (sym e.0)
      (subst (λ t. IsReportOf packets apps start h t bytes) (sym e.1) r))

  pub may-be-report : IsReportOf packets apps start found shown bytes
      → IsCandidate packets apps start found shown
  may-be-report r = record {
    regular = r.regular;
    queued = r.queued;
    numbers = r.numbers;
    taps = r.taps;
    starts = r.starts;
  }

  pub report-by-text : IsCandidate packets apps start found shown
      → report packets apps found shown ≡ bytes
      → IsReportOf packets apps start found shown bytes
  report-by-text m text = record {
    regular = m.regular;
    queued = m.queued;
    numbers = m.numbers;
    taps = m.taps;
    starts = m.starts;
    text = text;
  }

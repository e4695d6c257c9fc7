-- The files of a call: what each is read as, and for what reason one is refused.
use Rattle.std.specs.Prelude.{◌≡◌, ◌≤◌, ◌<◌, ◌⊎◌, ℕ, List, [], ◌∷◌, length, ⊤, Ok, Err}
use Rattle.outside_io.specs.declared.reading.TheConstants.{MAX_FILE}
use Rattle.pcap_reader.specs.Faults.{HasFault}
use Rattle.pcap_reader.specs.declared.capture.Capture.{Capture}
use Rattle.pcapng_reader.specs.Captures.{BeginsNg, HasNgFault}
use Rattle.plan_reader.specs.PlanTexts.{plan_of}
use Rattle.plan_reader.specs.Settings.{PlanSettings}
use Rattle.ntuple_rules.specs.Readings.{rules_of}
use Rattle.ntuple_rules.specs.declared.rules.Rules.{Rules}
use Rattle.steer_top.specs.Captures.{HasAnyCapture}
use Rattle.steer_top.specs.declared.ending.TheConstants.{MAX_TEXT_FILE}
use Rattle.steer_top.specs.declared.ending.Role.{Role}
use Rattle.steer_top.specs.declared.ending.Role.TheVariants as role
use Rattle.steer_top.specs.declared.ending.Refusal.{Refusal}
use Rattle.steer_top.specs.declared.ending.Refusal.TheVariants as refusal

-- The most bytes that a file of a role may have.
abbrev pub limit_of : Role → ℕ
limit_of role.Plan = MAX_TEXT_FILE
limit_of role.Rules = MAX_TEXT_FILE
limit_of role.Capture = MAX_FILE
limit_of role.Report = MAX_FILE

-- The bytes are what they are read as. Any bytes may be read as a report.
abbrev pub IsRead : Role → List ℕ → Type 0
IsRead role.Plan bytes = (plan : PlanSettings) × (plan_of bytes ≡ Ok plan)
IsRead role.Rules bytes = (rules : Rules) × (rules_of bytes ≡ Ok rules)
IsRead role.Capture bytes = (capture : Capture) × HasAnyCapture bytes capture
IsRead role.Report bytes = ⊤

-- The bytes are not what they are read as, for this reason.
abbrev pub IsNot : Role → List ℕ → Refusal → Type 0
IsNot role.Plan bytes (refusal.Plan fault) = plan_of bytes ≡ Err fault
IsNot role.Rules bytes (refusal.Rules fault) = rules_of bytes ≡ Err fault
IsNot role.Capture bytes (refusal.Capture fault) = (BeginsNg bytes → ⊥) × HasFault bytes fault
IsNot role.Capture bytes (refusal.Pcapng fault) = HasNgFault bytes fault
IsNot r bytes reason = ⊥

-- A file is good where it is no longer than its limit, and what it is read as.
abbrev pub IsGood : Role → List ℕ → Type 0
IsGood r bytes = (length bytes ≤ limit_of r) × IsRead r bytes

-- A file is asked for its length first, and then for what it is read as.
abbrev pub IsBad : Role → List ℕ → Refusal → Type 0
IsBad r bytes reason =
    ((limit_of r < length bytes) × (reason ≡ refusal.TooLong r))
    ⊎ ((length bytes ≤ limit_of r) × IsNot r bytes reason)

-- The bytes of each file, by its role.
abbrev pub Files : Type 0
Files = Role → List ℕ

-- All files of these roles are good.
abbrev pub Accepted : List Role → Files → Type 0
Accepted [] files = ⊤
Accepted (r ∷ roles) files = IsGood r (files r) × Accepted roles files

-- The files are asked in this order, and the first that is bad is refused.
abbrev pub Refused : List Role → Files → Refusal → Type 0
Refused [] files reason = ⊥
Refused (r ∷ roles) files reason =
    IsBad r (files r) reason ⊎ (IsGood r (files r) × Refused roles files reason)

-- Files are accepted, or refused for some reason.
abbrev pub IsDecided : Type 0
IsDecided =
    (roles : List Role) (files : Files)
    → Accepted roles files ⊎ ((reason : Refusal) × Refused roles files reason)

-- Files are refused for one reason at most.
abbrev pub IsRefusedOnce : Type 0
IsRefusedOnce =
    (roles : List Role) (files : Files) (reason other : Refusal)
    → Refused roles files reason → Refused roles files other → reason ≡ other

-- No files are both accepted and refused.
abbrev pub IsNotBoth : Type 0
IsNotBoth =
    (roles : List Role) (files : Files) (reason : Refusal)
    → Accepted roles files → Refused roles files reason → ⊥

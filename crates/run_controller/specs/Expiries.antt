-- An expiry: the filters of the network card that may go are cleared, each in its word.
use Rattle.std.specs.Prelude.{◌≡◌, ℕ, ◌+◌, Bool, true, false, List, [], ◌∷◌, Option, None, Some}
use Rattle.std.specs.Prelude.{length, if◌then◌else◌}
use Rattle.steer_base.specs.Filters.{may_expire}
use Rattle.steer_base.specs.declared.filter.Filter.{Filter}
use Rattle.hint_words.specs.declared.step.HintStep.TheVariants.{ClearIf, Load}
use Rattle.hop_rule.specs.declared.step.BoardStep.TheVariants.{Gate, Weighed}
use Rattle.hop_rule.specs.declared.step.GateStep.TheVariants.{Entered, Left, Read}
use Rattle.board_api.specs.Seats.{BoardSeatView, Adds}
use Rattle.board_api.specs.StepWords.{is_marked, low_half}
use Rattle.run_words.specs.Numbers.{hint_number, receive_number}
use Rattle.run_words.specs.Values.{filter_in, flows_in}
use Rattle.run_words.specs.declared.hint_word.HintWord.TheVariants as word
use Rattle.run_words.specs.declared.setting.ReceiveSetting.TheVariants as receive
use Rattle.run_words.specs.declared.shared.Shared.{Shared}
use Rattle.run_words.specs.HintViews.{HintView, after_step}

-- The word was cleared if it still had the value, where the filter may go; else nothing was done.
abbrev pub ClearsIf : Bool → ℕ → ℕ → HintView → HintView → Bool → Type 0
ClearsIf true number value old new cleared =
    new ≡ after_step (ClearIf number value cleared) old
ClearsIf false number value old new cleared = (new ≡ old) × (cleared ≡ false)

-- What was done by a filter that was loaded: the head of its processor and the flow count of its
-- queue were read, and the filter was cleared if by these it may go; without a filter nothing was
-- done.
abbrev pub LooksAt : Shared → ℕ → ℕ → Option Filter → BoardSeatView → BoardSeatView → HintView
    → HintView → Bool → Type 0
LooksAt shared place value None old new hint_old hint_new cleared =
    (new ≡ old) × (hint_new ≡ hint_old) × (cleared ≡ false)
LooksAt shared place value (Some f) old new hint_old hint_new cleared =
    (head : ℕ) × (flows : ℕ)
    × Adds (Gate (Read (receive_number (length shared.given.homes) (receive.Flows f.queue)) flows)
    ∷ Weighed f.cpu head ∷ []) old new
    × ClearsIf (may_expire f (low_half head) (flows_in flows)) (hint_number (word.Filter place))
    value hint_old hint_new cleared

-- The word of a place was loaded, and its filter was cleared if it may go.
abbrev pub ExpiresOne : Shared → ℕ → BoardSeatView → BoardSeatView → HintView → HintView → Bool
    → Type 0
ExpiresOne shared place old new hint_old hint_new cleared =
    (value : ℕ)
    × LooksAt shared place value (filter_in value (length shared.given.homes) shared.given.cpus)
    old new (after_step (Load (hint_number (word.Filter place)) value) hint_old) hint_new cleared

-- These are the outcomes at the first places, the last place first: whether each was cleared.
abbrev pub ExpiresFirst : Shared → List Bool → BoardSeatView → BoardSeatView → HintView → HintView
    → Type 0
ExpiresFirst shared [] old new hint_old hint_new = (new ≡ old) × (hint_new ≡ hint_old)
ExpiresFirst shared (cleared ∷ rest) old new hint_old hint_new =
    (mid : BoardSeatView) × (hint_mid : HintView)
    × ExpiresFirst shared rest old mid hint_old hint_mid
    × ExpiresOne shared (length rest) mid new hint_mid hint_new cleared

-- How many of these outcomes are that a filter was cleared.
abbrev pub cleared_in : List Bool → ℕ
cleared_in [] = 0
cleared_in (cleared ∷ rest) = if cleared then cleared_in rest + 1 else cleared_in rest

-- Each of so many places was looked at once, in their order, and so many filters were cleared.
pub record ExpiresAll (shared : Shared) (places : ℕ) (old new : BoardSeatView)
    (hint_old hint_new : HintView) (count : ℕ) : Type 0 where
  pub outcomes : List Bool
  pub all : length outcomes ≡ places
  pub expires : ExpiresFirst shared outcomes old new hint_old hint_new
  pub counted : count ≡ cleared_in outcomes

-- The places of all filters were looked at in one visit of the receive board, and so many filters
-- were cleared.
pub record Expires (shared : Shared) (old new : BoardSeatView) (hint_old hint_new : HintView)
    (count : ℕ) : Type 0 where
  pub word : ℕ
  pub first : BoardSeatView
  pub last : BoardSeatView
  pub unmarked : is_marked word ≡ false
  pub enters : Adds (Gate (Entered word) ∷ []) old first
  pub all : ExpiresAll shared shared.filters first last hint_old hint_new count
  pub leaves : Adds (Gate Left ∷ []) last new

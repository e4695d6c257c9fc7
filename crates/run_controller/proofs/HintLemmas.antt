-- What a try may write at the hint words: what it stores, and which words it clears by a step that
-- compares.
use Rattle.steer_base.specs.declared.command.Answer.TheVariants as says
use Rattle.steer_base.specs.declared.command.Command.TheVariants as give
use Rattle.hint_words.specs.declared.step.HintStep.TheVariants.{Load}
use Rattle.run_words.specs.Values.{place_word}
use Rattle.run_words.specs.declared.hint_word.HintWord.TheVariants as word
use Rattle.run_controller.specs.Attempts.{AreClears, ClearsByAnswer, HintsBehind}
use Rattle.run_controller.proofs.Names.{◌≡◌, ◌⊎◌, inl, inr, ℕ, ◌<◌, ◌≤◌, Bool, List, [], ◌∷◌, ◌++◌}
use Rattle.run_controller.proofs.Names.{length, refl, sym, ap, subst, arith, ◌∙◌, Contains, Answer}
use Rattle.run_controller.proofs.Names.{Command, MAX_SOCKET_SIZE, HintStep, ClearIf, Store}
use Rattle.run_controller.proofs.Names.{Commanded, HintView, hint_number}
use Rattle.run_controller.proofs.ListLemmas.{contains-cases}

-- ---- steps

abbrev pub word_of : HintStep → ℕ
word_of (Load n v) = n
word_of (Store n v) = n
word_of (ClearIf n v done) = n

abbrev pub value_of : HintStep → ℕ
value_of (Load n v) = v
value_of (Store n v) = v
value_of (ClearIf n v done) = v

pub past-step : (d e : HintStep) (steps : List HintStep) → (d ≡ e → ⊥) → Contains (d ∷ steps) e
    → Contains steps e
past-step d e steps apart has = elim (contains-cases d steps e has) [
  | inl same ↦ absurd (apart same)
  | inr older ↦ older
]

pub load-no-store : (m w n v : ℕ) → Load m w ≡ Store n v → ⊥
load-no-store m w n v e = cc

pub load-no-clear : (m w n v : ℕ) (done : Bool) → Load m w ≡ ClearIf n v done → ⊥
load-no-clear m w n v done e = cc

pub clear-no-store : (m w n v : ℕ) (done : Bool) → ClearIf m w done ≡ Store n v → ⊥
clear-no-store m w n v done e = cc

pub store-no-clear : (m w n v : ℕ) (done : Bool) → Store m w ≡ ClearIf n v done → ⊥
store-no-clear m w n v done e = cc

-- ---- stores

-- a done command stored this value in this word, or cleared an entry of the socket flow table
abbrev pub IsStoredBy : Commanded → ℕ → ℕ → Type 0
IsStoredBy g number value =
    ((entry : ℕ) × (q : ℕ) × (number ≡ hint_number (word.Redirection entry))
    × (value ≡ place_word q) × (g ≡ record { command = give.Reta entry q; answer = says.Done }))
    ⊎ ((app : ℕ) × (cpu : ℕ) × (number ≡ hint_number (word.Stand app))
    × (value ≡ place_word cpu) × (g ≡ record { command = give.Stand app cpu; answer = says.Done }))
    ⊎ ((place : ℕ) × (size : ℕ) × (place < MAX_SOCKET_SIZE)
    × (number ≡ hint_number (word.Socket place)) × (value ≡ 0)
    × (g ≡ record { command = give.Sock size; answer = says.Done }))

-- each store of the seat is an older one or one of the try
abbrev pub StoresFor : Commanded → HintView → HintView → Type 0
StoresFor g old new =
    (n v : ℕ) → Contains new.steps (Store n v) → Contains old.steps (Store n v) ⊎ IsStoredBy g n v

pub stores-none : (g : Commanded) (old new : HintView) → new ≡ old → StoresFor g old new
stores-none g old new same n v has =
    inl (subst (λ (s : HintView). Contains s.steps (Store n v)) same has)

among-clears : (stores older : List HintStep) (n v : ℕ) → AreClears stores
    → Contains (stores ++ older) (Store n v)
    → Contains older (Store n v)
    ⊎ ((place : ℕ) × (place < length stores) × (n ≡ hint_number (word.Socket place)) × (v ≡ 0))
among-clears [] older n v are has = inl has
among-clears (d ∷ ds) older n v are has =
    elim (contains-cases d (ds ++ older) (Store n v) has) [
      | inl e ↦
          inr (length ds, omega arith, ap word_of (sym e ∙ are.0), ap value_of (sym e ∙ are.0))
      | inr more ↦ elim (among-clears ds older n v are.1 more) [
        | inl oldest ↦ inl oldest
        | inr (place, low, number, value) ↦ inr (place, omega (arith, low), number, value)
      ]
    ]

abbrev of-sock : ℕ → Answer → Commanded
of-sock size answer = record { command = give.Sock size; answer = answer }

sock-stores : (size : ℕ) (answer : Answer) (old new : HintView) → ClearsByAnswer answer old new
    → StoresFor (of-sock size answer) old new
sock-stores size says.Done old new (stores, are, all, is) = λ n v among.
    elim (among-clears stores old.steps n v are
    (subst (λ (s : HintView). Contains s.steps (Store n v)) is among)) [
      | inl older ↦ inl older
      | inr (place, low, number, value) ↦
          inr (inr (inr (place, size, omega (arith, low, all), number, value, refl)))
    ]
sock-stores size (says.Busy why) old new is = stores-none (of-sock size (says.Busy why)) old new is
sock-stores size (says.Expired n) old new is =
    stores-none (of-sock size (says.Expired n)) old new is
sock-stores size (says.Idle why) old new is = stores-none (of-sock size (says.Idle why)) old new is
sock-stores size (says.CpuInUse user) old new is =
    stores-none (of-sock size (says.CpuInUse user)) old new is
sock-stores size says.CpuOffline old new is = stores-none (of-sock size says.CpuOffline) old new is

pub behind-stores : (c : Command) (answer : Answer) (old new : HintView)
    → HintsBehind c answer old new → StoresFor (record { command = c; answer = answer }) old new
behind-stores (give.Sock size) answer old new is = sock-stores size answer old new is
behind-stores (give.Mask q mask) answer old new is = stores-none _ old new is
behind-stores (give.Flows q count) answer old new is = stores-none _ old new is
behind-stores (give.Offline cpu) answer old new is = stores-none _ old new is
behind-stores (give.Online cpu) answer old new is = stores-none _ old new is
behind-stores (give.XCpus tx mask) answer old new is = stores-none _ old new is
behind-stores (give.XQueues tx rxqs) answer old new is = stores-none _ old new is
behind-stores (give.Reta entry q) answer old new is = stores-none _ old new is
behind-stores (give.Stand app cpu) answer old new is = stores-none _ old new is
behind-stores give.Expire answer old new is = stores-none _ old new is

-- ---- clears

-- the word of a filter, of so many
abbrev pub IsFilterBelow : (filters number : ℕ) → Type 0
IsFilterBelow filters number =
    (place : ℕ) × (place < filters) × (number ≡ hint_number (word.Filter place))

-- each step of the seat that clears is an older one or at the word of a filter, of so many
abbrev pub ClearsFilters : (filters : ℕ) → HintView → HintView → Type 0
ClearsFilters filters old new =
    (n v : ℕ) (done : Bool) → Contains new.steps (ClearIf n v done)
    → Contains old.steps (ClearIf n v done) ⊎ IsFilterBelow filters n

pub clears-none : (filters : ℕ) (old new : HintView) → new ≡ old → ClearsFilters filters old new
clears-none filters old new same n v done has =
    inl (subst (λ (s : HintView). Contains s.steps (ClearIf n v done)) same has)

pub clears-more : (few many : ℕ) (old new : HintView) → few ≤ many → ClearsFilters few old new
    → ClearsFilters many old new
clears-more few many old new within clears n v done has = elim (clears n v done has) [
  | inl older ↦ inl older
  | inr (place, less, is) ↦ inr (place, omega (arith, less, within), is)
]

pub clears-on : (filters : ℕ) (old mid new : HintView) → ClearsFilters filters old mid
    → ClearsFilters filters mid new → ClearsFilters filters old new
clears-on filters old mid new first second n v done has = elim (second n v done has) [
  | inl older ↦ first n v done older
  | inr filter ↦ inr filter
]

none-clears : (stores older : List HintStep) (n v : ℕ) (done : Bool) → AreClears stores
    → Contains (stores ++ older) (ClearIf n v done) → Contains older (ClearIf n v done)
none-clears [] older n v done are has = has
none-clears (d ∷ ds) older n v done are has =
    none-clears ds older n v done are.1
    (past-step d (ClearIf n v done) (ds ++ older)
    (λ e. store-no-clear (hint_number (word.Socket (length ds))) 0 n v done (sym are.0 ∙ e)) has)

sock-clears : (filters : ℕ) (answer : Answer) (old new : HintView) → ClearsByAnswer answer old new
    → ClearsFilters filters old new
sock-clears filters says.Done old new (stores, are, all, is) = λ n v done among.
    inl (none-clears stores old.steps n v done are
    (subst (λ (s : HintView). Contains s.steps (ClearIf n v done)) is among))
sock-clears filters (says.Busy why) old new is = clears-none filters old new is
sock-clears filters (says.Expired n) old new is = clears-none filters old new is
sock-clears filters (says.Idle why) old new is = clears-none filters old new is
sock-clears filters (says.CpuInUse user) old new is = clears-none filters old new is
sock-clears filters says.CpuOffline old new is = clears-none filters old new is

pub behind-clears : (filters : ℕ) (c : Command) (answer : Answer) (old new : HintView)
    → HintsBehind c answer old new → ClearsFilters filters old new
behind-clears filters (give.Sock size) answer old new is = sock-clears filters answer old new is
behind-clears filters (give.Mask q mask) answer old new is = clears-none filters old new is
behind-clears filters (give.Flows q count) answer old new is = clears-none filters old new is
behind-clears filters (give.Offline cpu) answer old new is = clears-none filters old new is
behind-clears filters (give.Online cpu) answer old new is = clears-none filters old new is
behind-clears filters (give.XCpus tx mask) answer old new is = clears-none filters old new is
behind-clears filters (give.XQueues tx rxqs) answer old new is = clears-none filters old new is
behind-clears filters (give.Reta entry q) answer old new is = clears-none filters old new is
behind-clears filters (give.Stand app cpu) answer old new is = clears-none filters old new is
behind-clears filters give.Expire answer old new is = clears-none filters old new is

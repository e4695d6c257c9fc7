-- The numbers and values of the hint words that the threads share (`run_words`) are such codes as
-- the coupling invariants ask for.
use Rattle.std.specs.Prelude.{◌≡◌, ℕ, ◌<◌, ◌^◌, Some}
use Rattle.steer_base.specs.declared.filter.Filter.{Filter}
use Rattle.run_words.specs.Numbers.{IsHintWord, hint_number}
use Rattle.run_words.specs.Values.{filter_in, filter_word, place_in, place_word}
use Rattle.run_words.specs.declared.hint_word.HintWord.{HintWord}
use Rattle.run_words.specs.declared.hint_word.HintWord.TheVariants as word
use Rattle.run_coupling.specs.Coupling.Hints.{HintCodes}

-- The codes are the numbers of the threads' words, and their values for a place and for a filter.
pub record AreShared (c : HintCodes) : Type 0 where
  pub socket : (place : ℕ) → c.socket place ≡ hint_number (word.Socket place)
  pub entry : (place : ℕ) → c.entry place ≡ hint_number (word.Redirection place)
  pub stand : (app : ℕ) → c.stand app ≡ hint_number (word.Stand app)
  pub filter : (place : ℕ) → c.filter place ≡ hint_number (word.Filter place)
  pub packet : (id : ℕ) → c.packet id ≡ hint_number (word.Queue id)
  pub steered : (id : ℕ) → c.steered id ≡ hint_number (word.Steered id)
  pub place : (place : ℕ) → c.place place ≡ place_word place
  pub filter_value : (f : Filter) → c.filter_value f ≡ filter_word f

-- The number of a word, by the codes.
abbrev pub code_of : HintCodes → HintWord → ℕ
code_of c (word.Socket place) = c.socket place
code_of c (word.Redirection place) = c.entry place
code_of c (word.Stand app) = c.stand app
code_of c (word.Filter place) = c.filter place
code_of c word.Done = hint_number word.Done
code_of c (word.Queue id) = c.packet id
code_of c (word.Steered id) = c.steered id

-- By its number and value a store is of one word, and for one processor, queue or filter. What a
-- load means, it has the code of.
pub record TellApart (c : HintCodes) (packets : ℕ) : Type 0 where
  pub words : (v w : HintWord) → IsHintWord packets v → IsHintWord packets w
      → code_of c v ≡ code_of c w → v ≡ w
  pub places : (m n : ℕ) → c.place m ≡ c.place n → m ≡ n
  pub filters : (f g : Filter) → f.queue < 16 → f.cpu < 32 → f.mark < 2 ^ 32 → g.queue < 16
      → g.cpu < 32 → g.mark < 2 ^ 32 → c.filter_value f ≡ c.filter_value g → f ≡ g
  pub place_loaded : (value count place : ℕ) → place_in value count ≡ Some place
      → value ≡ c.place place
  pub filter_loaded : (value queues cpus : ℕ) (f : Filter)
      → filter_in value queues cpus ≡ Some f → value ≡ c.filter_value f

-- The threads' words have such codes, and by them stores and loads are told apart.
abbrev pub SharedCodesExist : Type 0
SharedCodesExist =
    (c : HintCodes) × AreShared c × ((packets : ℕ) → TellApart c packets)

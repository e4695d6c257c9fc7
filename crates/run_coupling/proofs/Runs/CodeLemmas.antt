-- The words that the threads share, as codes of hint words.
use Rattle.std.specs.Prelude.{◌||◌}
use Rattle.std.proofs.lemmas.Bool.Decides.{eqb_tells, nat_tests}
use Rattle.steer_base.specs.declared.filter.Filter.{Filter}
use Rattle.run_words.specs.Numbers.{hint_number}
use Rattle.run_words.specs.Values.{filter_in, filter_word, place_in, place_word}
use Rattle.run_words.specs.declared.hint_word.HintWord.{HintWord}
use Rattle.run_words.specs.declared.hint_word.HintWord.TheVariants as word
use Rattle.run_words.proofs.ValueLemmas.{only_coded, read_back}
use Rattle.run_words.proofs.WordNumbers.{hint_words_apart}
use Rattle.run_coupling.specs.Laws.SharedCodes.{AreShared, SharedCodesExist, TellApart, code_of}
use Rattle.run_coupling.specs.Coupling.Hints.{HintCodes, Says, SaysNoFilter}
use Rattle.run_coupling.proofs.Names.{◌≡◌, ℕ, ◌-◌, ◌^◌, ◌<◌, ◌≤◌, ◌==◌, Bool, true, false, Option}
use Rattle.run_coupling.proofs.Names.{None, Some, if◌then◌else◌, sym, refl, ap, ◌∙◌, arith, nat_lt}
use Rattle.run_coupling.proofs.Names.{none-some, some-is}

abbrev pub shared : HintCodes
shared = record {
  socket = λ place. hint_number (word.Socket place);
  entry = λ place. hint_number (word.Redirection place);
  stand = λ app. hint_number (word.Stand app);
  filter = λ place. hint_number (word.Filter place);
  packet = λ id. hint_number (word.Queue id);
  steered = λ id. hint_number (word.Steered id);
  place = place_word;
  filter_value = filter_word;
  place_is_set = λ n e. absurd (omega arith);
  filter_is_set = λ f e. absurd (omega arith);
}

code-is : (w : HintWord) → code_of shared w ≡ hint_number w
code-is (word.Socket place) = refl
code-is w = refl

pub are-shared : AreShared shared
are-shared =
    record {
      socket = λ place. refl;
      entry = λ place. refl;
      stand = λ app. refl;
      filter = λ place. refl;
      packet = λ id. refl;
      steered = λ id. refl;
      place = λ place. refl;
      filter_value = λ f. refl;
    }

abbrev value-of : Filter → Option Filter → Filter
value-of f None = f
value-of f (Some g) = g

one-filter : (f g : Filter) → f.queue < 16 → f.cpu < 32 → f.mark < 2 ^ 32 → g.queue < 16
    → g.cpu < 32 → g.mark < 2 ^ 32 → filter_word f ≡ filter_word g → f ≡ g
one-filter f g fq fc fm gq gc gm same =
    let a = read_back.filter 16 32 f (omega arith) (omega arith) fq fc fm in
    let b = read_back.filter 16 32 g (omega arith) (omega arith) gq gc gm in
    ap (value-of f) (sym a ∙ (ap (λ n. filter_in n 16 32) same ∙ b))

one-place : (m n : ℕ) → place_word m ≡ place_word n → m ≡ n
one-place m n same = omega arith

tell-apart : (packets : ℕ) → TellApart shared packets
tell-apart packets =
    record {
      words = λ v w is-v is-w same.
          (hint_words_apart packets).apart v w is-v is-w
          (sym (code-is v) ∙ (same ∙ code-is w));
      places = one-place;
      filters = one-filter;
      place_loaded = only_coded.place;
      filter_loaded = only_coded.filter;
    }

pub shared_codes : SharedCodesExist
shared_codes = (shared, are-shared, tell-apart)

-- ---- what a word says that was loaded

-- a place that a word means is one of so many
place-below : (word count place : ℕ) → place_in word count ≡ Some place → place < count
place-below word count place is = by-test ((word == 0) || nat_lt count word) refl is
  where
    or-parts : (a b : Bool) → (a || b) ≡ false → (a ≡ false) × (b ≡ false)
    or-parts true b e = absurd (cc)
    or-parts false b e = (refl, e)

    by-test : (b : Bool) → ((word == 0) || nat_lt count word) ≡ b
        → (if b then None else Some (word - 1)) ≡ Some place → place < count
    by-test true test says = none-some place says
    by-test false test says =
        let e : word - 1 ≡ place = some-is (word - 1) place says in
        let zero : (word == 0) ≡ false = (or-parts (word == 0) (nat_lt count word) test).0 in
        let few : nat_lt count word ≡ false = (or-parts (word == 0) (nat_lt count word) test).1 in
        grind (arith, nat_tests, eqb_tells)

-- a word says by the codes the place that it means, or that there is none
pub word-says : (c : HintCodes) → AreShared c → (word count : ℕ) (place : Option ℕ)
    → place_in word count ≡ place → Says c count word place
word-says c codes word count (Some p) is =
    (place-below word count p is, only_coded.place word count p is ∙ sym (codes.place p))
word-says c codes word count None is = λ p less same.
    none-some p
    (sym is ∙ (ap (λ w. place_in w count) (same ∙ codes.place p) ∙ read_back.place count p less))

-- a word that means no filter is the word of none
pub no-filter-says : (c : HintCodes) → AreShared c → (word queues cpus : ℕ) → queues ≤ 16
    → cpus ≤ 32 → filter_in word queues cpus ≡ None → SaysNoFilter c queues cpus word
no-filter-says c codes word queues cpus few small is f queue cpu mark same =
    none-some f
    (sym is
    ∙ (ap (λ w. filter_in w queues cpus) (same ∙ codes.filter_value f)
    ∙ read_back.filter queues cpus f few small queue cpu mark))

-- What follows from loads of heads and of lanes' words, and from lanes that were found empty.
use Rattle.std.specs.Prelude.{◌≡◌, ◌↔◌, ℕ, ◌+◌, ◌/◌, ◌<◌, ◌≤◌, List, Some, length}
use Rattle.history.specs.Lists.{lane_at, list_at}
use Rattle.hop_rule.specs.Boards.{gate_steps}
use Rattle.hop_rule.specs.Deliveries.{Delivery}
use Rattle.hop_rule.specs.Gates.{inside, openings, opened, own_settings, visit}
use Rattle.hop_rule.specs.Moments.{nth_step, past}
use Rattle.hop_rule.specs.Sizes.{closer, puller}
use Rattle.hop_rule.specs.declared.sizes.BoardSizes.{BoardSizes}
use Rattle.hop_rule.specs.declared.step.BoardStep.{BoardStep}
use Rattle.hop_rule.specs.declared.step.BoardStep.TheVariants.{Gate, Weighed, Counted}
use Rattle.hop_rule.specs.declared.step.BoardStep.TheVariants.{OutCounted}
use Rattle.hop_rule.specs.declared.step.GateStep.TheVariants.{Entered, Opened, Read, Shut}
use Rattle.board_api.specs.OwnSteps.{Has, ReadsIn, delivered_by, visit_before}
use Rattle.board_api.specs.Laws.Puts.{WasPut}
use Rattle.board_api.specs.StepWords.{low_half, openings_in, tail_in}
use Rattle.board_api.specs.declared.lists.BoardLists.{BoardLists}

module _ (about : BoardSizes) (own : ℕ → List BoardStep) (lists : BoardLists) where
  -- ---- heads

  -- The head words that one seat loads of one lane never fall, and none counts more retires than
  -- the lane has in the end.
  pub record HeadsRise : Type 0 where
    pub rise : (q j k l before word : ℕ) → j < k → Has (own q) j (Weighed l before)
        → Has (own q) k (Weighed l word) → before ≤ word
    pub from_start : (q k l word : ℕ) → Has (own q) k (Weighed l word) → about.start ≤ word
    pub reached : (q k l word : ℕ) → Has (own q) k (Weighed l word)
        → word ≤ about.start + (lane_at lists.lanes l).retired

  -- A head that a seat loaded before it loaded the word of the same lane counts at most the packets
  -- that this word counts, and these are at most those of the lane in the end.
  abbrev pub HeadsAreBelowTails : Type 0
  HeadsAreBelowTails =
      (q j k l head tail : ℕ) → j < k → Has (own q) j (Weighed l head)
      → Has (own q) k (Counted l tail)
      → (head ≤ tail / 2)
      × (tail / 2 ≤ about.start + length (lane_at lists.lanes l).accepted)

  -- The words that one seat loads of one middle lane never count fewer packets, and none counts
  -- more than the lane accepted in the end.
  pub record TailsRise : Type 0 where
    pub rise : (q j k l before word : ℕ) → j < k → Has (own q) j (Counted l before)
        → Has (own q) k (Counted l word) → before / 2 ≤ word / 2
    pub from_start : (q k l word : ℕ) → Has (own q) k (Counted l word) → about.start ≤ word / 2
    pub reached : (q k l word : ℕ) → Has (own q) k (Counted l word)
        → word / 2 ≤ about.start + length (lane_at lists.lanes l).accepted

  -- The words that one seat loads of one out lane never count fewer packets, and none counts more
  -- than were delivered to it in the end.
  pub record OutTailsRise : Type 0 where
    pub rise : (q j k o before word : ℕ) → j < k → Has (own q) j (OutCounted o before)
        → Has (own q) k (OutCounted o word) → before / 2 ≤ word / 2
    pub from_start : (q k o word : ℕ) → Has (own q) k (OutCounted o word) → about.start ≤ word / 2
    pub reached : (q k o word : ℕ) → Has (own q) k (OutCounted o word)
        → word / 2 ≤ about.start + length (list_at lists.outs o)

  -- Each packet that a loaded head counts was delivered, and is in its out lane below each that the
  -- seat put to any lane after the load and that went to the same out lane.
  pub record StandsFirst (q k l count : ℕ) : Type 0 where
    pub delivered : count ≤ length (delivered_by l (own (puller about l)))
    pub below : (i to j id : ℕ) (g late : Delivery) (u : WasPut about own lists to j id)
        → i < count → u.seat ≡ q → k < u.step
        → nth_step (delivered_by l (own (puller about l))) i ≡ Some g
        → nth_step (delivered_by to (own (puller about to))) j ≡ Some late → g.to ≡ late.to
        → g.place < late.place

  -- The packets that a loaded head counts come first, as `StandsFirst` says.
  abbrev pub HeadsArePassed : Type 0
  HeadsArePassed =
      (q k l count : ℕ) → Has (own q) k (Weighed l (about.start + count)) → StandsFirst q k l count

  -- ---- visits and settings

  -- The numbers of one seat's visits never fall, and count at most the closer's openings.
  pub record VisitNumbersRise : Type 0 where
    pub rise : (q j k before word : ℕ) → j < k → Has (own q) j (Gate (Entered before))
        → Has (own q) k (Gate (Entered word)) → openings_in before ≤ openings_in word
    pub made : (q k word : ℕ) → Has (own q) k (Gate (Entered word))
        → openings_in word ≤ openings (gate_steps (own (closer about)))

  -- A visit reads the settings after the closer's own sets before the last opening that its number
  -- counts, or those at the start if it counts none; the closer reads what its own sets have left.
  pub record ReadsAreSettings : Type 0 where
    pub in_visit : (q k i v : ℕ) → Has (own q) k (Gate (Read i v))
        → visit (gate_steps (past k (own q))) ≡ inside
        → v ≡ own_settings about
        (opened (visit_before (own q) k) (gate_steps (own (closer about)))) i
    pub by_closer : (k i v : ℕ) → Has (own (closer about)) k (Gate (Read i v))
        → v ≡ own_settings about (gate_steps (past k (own (closer about)))) i

  -- What is read in a visit with some number is the setting after the closer's own sets before that
  -- opening; so visits with one number, of one seat or of two, read one value of each setting.
  pub record NumberedReadsAreSettings : Type 0 where
    pub reads : (q number i v : ℕ) → ReadsIn (own q) number i v
        → v ≡ own_settings about (opened number (gate_steps (own (closer about)))) i
    pub alike : (p q number i v w : ℕ) → ReadsIn (own p) number i v → ReadsIn (own q) number i w
        → v ≡ w

  -- ---- lanes that were found empty

  -- The closer closed the gate at its step `shut`, and before opening it loaded the head of the
  -- lane l and then its word, whose tail is that head.
  pub record FindsEmpty (shut weighed counted l : ℕ) : Type 0 where
    pub word : ℕ
    pub head : ℕ
    pub tail : ℕ
    pub after_shut : shut < weighed
    pub after_weighed : weighed < counted
    pub shuts : Has (own (closer about)) shut (Gate (Shut word))
    pub weighs : Has (own (closer about)) weighed (Weighed l head)
    pub counts : Has (own (closer about)) counted (Counted l tail)
    pub equal : low_half head ≡ tail_in tail
    pub stays : (m : ℕ) → shut < m → m < counted
        → Has (own (closer about)) m (Gate Opened) → ⊥

  -- After k openings the lane l was found empty with h packets accepted. These are the packets put
  -- there in visits with a number of at most k; all were delivered, and each is in its out lane
  -- below each packet that was put to any lane in a visit with a higher number and went to the same
  -- out lane.
  pub record EarlyStandFirst (l k h : ℕ) : Type 0 where
    pub early : (j id : ℕ) (u : WasPut about own lists l j id)
        → (j < h) ↔ (visit_before (own u.seat) u.step ≤ k)
    pub delivered : h ≤ length (delivered_by l (own (puller about l)))
    pub below : (i to j id : ℕ) (g late : Delivery) (u : WasPut about own lists to j id)
        → i < h → k < visit_before (own u.seat) u.step
        → nth_step (delivered_by l (own (puller about l))) i ≡ Some g
        → nth_step (delivered_by to (own (puller about to))) j ≡ Some late → g.to ≡ late.to
        → g.place < late.place

  -- The packets of a lane that the closer found empty come first, as `EarlyStandFirst` says.
  abbrev pub EmptiedLanesStandFirst : Type 0
  EmptiedLanesStandFirst =
      (shut weighed counted l h : ℕ) (e : FindsEmpty shut weighed counted l)
      → e.tail / 2 ≡ about.start + h → EarlyStandFirst l (openings_in e.word) h

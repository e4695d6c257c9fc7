-- The laws of a hop, over every list of events that may be asked.
use Rattle.std.specs.Prelude.{ℕ, ◌++◌, ◌≤◌, ◌<◌, ◌≡◌, ◌≢◌, ◌^◌, Bool, true, false, List, [], ◌∷◌}
use Rattle.std.specs.Prelude.{Option, unwrap_or, length, map, take, drop, filter}
use Rattle.steer_base.specs.Choices.{migrate}
use Rattle.steer_base.specs.Entries.{entry}
use Rattle.steer_base.specs.Orders.{Apart, IsPrefix}
use Rattle.steer_base.specs.Sets.{has}
use Rattle.steer_base.specs.declared.choice.Choice.{Choice}
use Rattle.steer_base.specs.declared.choice.Entry.{Entry}
use Rattle.steer_base.specs.declared.cpu_mask.CpuMask.{CpuMask}
use Rattle.backlog.specs.Offers.{AreOffers, AllExplained}
use Rattle.hop_model.specs.declared.shape.TheConstants.{MAX_HOP_ROOM}
use Rattle.hop_model.specs.declared.event.HopEvent.{HopEvent}
use Rattle.hop_model.specs.declared.event.HopEvent.TheVariants as event
use Rattle.hop_model.specs.declared.event.HopAnswer.TheVariants as answer
use Rattle.hop_model.specs.declared.shape.HopShape.{HopShape}
use Rattle.hop_model.specs.Hop.{Bare, Fixed, HopState, accepted_at, fell_at, drops_at, delivered_at}
use Rattle.hop_model.specs.Hop.{out_at, head_at, arrivals_of, choices_of, chosen_at, taken_of}
use Rattle.hop_model.specs.Hop.{placed_of, since_of, inside_of, in_hand, lane_of}
use Rattle.hop_model.specs.Events.{happens, MayAsk, AllMayAsk, run}
use Rattle.hop_model.specs.Shape.{IsShape, fresh_hop, new_hop}
use Rattle.hop_model.specs.Sound.{Sound, Places, Puts}
use Rattle.hop_core.specs.Order.{is_kept, IsInOrder, Tight, AllTight, Ordered}
use Rattle.hop_core.specs.Flows.{FlowOrdered, FlowAllowed, arrived_by}
use Rattle.hop_model.specs.Pairs.{Pairwise}

-- ---- what holds after any events

-- A new hop is sound.
abbrev pub NewIsSound : Type 0
NewIsSound = (shape : HopShape) → IsShape shape → Sound (new_hop shape)

-- A hop in which nothing has happened is sound, when it is given by plain lists.
abbrev pub FreshIsSound : Type 0
FreshIsSound =
    (fixed : Fixed) (counts : List ℕ) (guests lanes outs : ℕ) → fixed.room ≤ MAX_HOP_ROOM
    → fixed.start < 2 ^ 32
    → Sound (fresh_hop fixed counts guests lanes outs)

-- Every event leaves a sound hop sound.
abbrev pub EachKeepsSound : Type 0
EachKeepsSound = (s : HopState) (e : HopEvent) → MayAsk s e → Sound s → Sound (happens s e).0

-- the packets that each lane dropped
abbrev pub fallen : Bare → List (List ℕ)
fallen b = map (λ drops. map (λ d. d.id) drops) b.drops

-- Each packet is at most at one place, once: in one accepted or dropped list of all lanes, and in
-- one out lane. It is in an out lane only if it was accepted and delivered, and accepted or dropped
-- by a lane only if a choice sent it there.
pub record HasPlaces (s : HopState) : Type 0 where
  pub lanes : Apart (s.bare.accepted ++ fallen s.bare)
  pub outs : Apart s.bare.outs
  pub places : Places (accepted_at s.bare) (fell_at s.bare) (delivered_at s.bare) (out_at s.bare)
  pub accepted : Puts (accepted_at s.bare) (choices_of s) (placed_of s)
  pub dropped : Puts (fell_at s.bare) (choices_of s) (placed_of s)

-- From a new hop on, after any events, each packet is at most at one place, once.
abbrev pub KeepsPlaces : Type 0
KeepsPlaces =
    (shape : HopShape) (es : List HopEvent) → IsShape shape → AllMayAsk es (new_hop shape)
    → HasPlaces (run es (new_hop shape))

-- In every sound hop each packet is at most at one place, once.
abbrev pub SoundHasPlaces : Type 0
SoundHasPlaces = (s : HopState) → Sound s → HasPlaces s

-- While nobody is inside, no packet is between its choice and its put.
abbrev pub NobodyWeighsOutside : Type 0
NobodyWeighsOutside =
    (s : HopState) → Sound s → s.bare.inside ≡ 0 → (p : ℕ) → placed_of s p ≡ length (choices_of s p)

-- A close is answered with the number of those inside if and only if somebody is inside.
abbrev pub InsideIsExact : Type 0
InsideIsExact =
    (s : HopState)
    → ((n : ℕ) → (happens s event.Close).1 ≡ answer.Inside n → (s.bare.inside ≡ n) × (n ≢ 0))
    × (s.bare.inside ≢ 0 → (happens s event.Close).1 ≡ answer.Inside s.bare.inside)

-- An entry is answered that the gate is closed if and only if it is.
abbrev pub ClosedIsExact : Type 0
ClosedIsExact =
    (s : HopState) (a : ℕ) → Sound s
    → ((happens s (event.Enter a)).1 ≡ answer.Closed → s.bare.closed ≡ true)
    × (s.bare.closed ≡ true → (happens s (event.Enter a)).1 ≡ answer.Closed)

-- ---- delivery in order

-- The delivery theorem of a hop: from a new hop on, whatever events come, each tight set is
-- delivered in order.
abbrev pub KeepsOrder : Type 0
KeepsOrder =
    (shape : HopShape) (es : List HopEvent) (set : ℕ → Bool) (p o : ℕ) → IsShape shape
    → AllMayAsk es (new_hop shape) → AllTight set p o es (new_hop shape)
    → IsInOrder set p o (run es (new_hop shape))

-- Each set is ordered in a new hop.
abbrev pub NewIsOrdered : Type 0
NewIsOrdered = (shape : HopShape) (set : ℕ → Bool) (p o : ℕ) → Ordered set p o (new_hop shape)

-- Each set is ordered in a hop in which nothing has happened.
abbrev pub FreshIsOrdered : Type 0
FreshIsOrdered =
    (fixed : Fixed) (counts : List ℕ) (guests lanes outs : ℕ) (set : ℕ → Bool) (p o : ℕ)
    → Ordered set p o (fresh_hop fixed counts guests lanes outs)

-- An event leaves an ordered set ordered if the set is tight in it.
abbrev pub EachKeepsOrder : Type 0
EachKeepsOrder =
    (set : ℕ → Bool) (p o : ℕ) (s : HopState) (e : HopEvent) → MayAsk s e → Tight set p o s e
    → Sound s → Ordered set p o s → Ordered set p o (happens s e).0

-- An ordered set is delivered in order.
abbrev pub OrderedIsInOrder : Type 0
OrderedIsInOrder =
    (set : ℕ → Bool) (p o : ℕ) (s : HopState) → Ordered set p o s → IsInOrder set p o s

-- The flow of a producer is ordered in a hop in which nothing has happened.
abbrev pub FreshFlowIsOrdered : Type 0
FreshFlowIsOrdered =
    (fixed : Fixed) (counts : List ℕ) (guests lanes outs : ℕ) (test : ℕ → Bool) (p o : ℕ)
    → FlowOrdered test p o (fresh_hop fixed counts guests lanes outs)

-- An event that is allowed for a flow leaves it ordered.
abbrev pub EachKeepsFlows : Type 0
EachKeepsFlows =
    (test : ℕ → Bool) (p o : ℕ) (s : HopState) (e : HopEvent) → MayAsk s e
    → FlowAllowed test p o s e → Sound s → FlowOrdered test p o s
    → FlowOrdered test p o (happens s e).0

-- An ordered flow is delivered in order.
abbrev pub FlowIsInOrder : Type 0
FlowIsInOrder =
    (test : ℕ → Bool) (p o : ℕ) (s : HopState) → Sound s → FlowOrdered test p o s
    → IsInOrder (arrived_by test p s) p o s

-- Order from end to end: if a second hop gets a prefix of an out lane of the first and drops
-- nothing, what left the second is a prefix of what arrived at the first without what the first
-- dropped.
abbrev pub EndToEnd : Type 0
EndToEnd =
    (set : ℕ → Bool) (first second : HopState) (q a port : ℕ) (sent : List ℕ)
    → IsInOrder set q a first → IsPrefix sent (out_at first.bare a) → arrivals_of second a ≡ sent
    → ((c : ℕ) → drops_at second.bare c ≡ []) → IsInOrder set a port second
    → IsPrefix (filter set (out_at second.bare port))
    (filter (is_kept set first.bare) (arrivals_of first q))

-- An order that is known pair by pair is a prefix.
abbrev pub PairsMakePrefix : Type 0
PairsMakePrefix = (xs ys : List ℕ) → Pairwise xs ys → IsPrefix ys xs

-- ---- drops

-- Each put that is enabled carries the hash of its packet.
abbrev pub IsHashed : (ℕ → Option ℕ) → HopState → HopEvent → Type 0
IsHashed hash s (event.Put p h) =
    placed_of s p < length (choices_of s p) → h ≡ hash (in_hand s p).id
IsHashed hash s (event.Arrive p id) = Unit {0}
IsHashed hash s (event.Take p) = Unit {0}
IsHashed hash s (event.Enter a) = Unit {0}
IsHashed hash s (event.Leave a) = Unit {0}
IsHashed hash s (event.Weigh p class want desired online) = Unit {0}
IsHashed hash s (event.Pull c) = Unit {0}
IsHashed hash s (event.Deliver c to) = Unit {0}
IsHashed hash s (event.Retire c) = Unit {0}
IsHashed hash s (event.Resize p count) = Unit {0}
IsHashed hash s event.Close = Unit {0}
IsHashed hash s event.Reopen = Unit {0}

-- Each put of a list of events carries the hash of its packet.
abbrev pub AllHashed : (ℕ → Option ℕ) → List HopEvent → HopState → Type 0
AllHashed hash [] s = Unit {0}
AllHashed hash (e ∷ es) s = IsHashed hash s e × AllHashed hash es (happens s e).0

-- The offers to each lane are those of its accepted and dropped packets in the order of their puts,
-- and each drop has the cause that its two counts and the offers before it give.
pub record DropsExplained (hash : ℕ → Option ℕ) (s : HopState) : Type 0 where
  pub offers : (c : ℕ) → AreOffers hash (lane_of s.fixed s.bare c)
  pub causes : (c : ℕ) → AllExplained hash (lane_of s.fixed s.bare c)

-- From a new hop on, after any events, each drop is explained.
abbrev pub ExplainsDrops : Type 0
ExplainsDrops =
    (hash : ℕ → Option ℕ) (shape : HopShape) (es : List HopEvent) → IsShape shape
    → AllMayAsk es (new_hop shape) → AllHashed hash es (new_hop shape)
    → DropsExplained hash (run es (new_hop shape))

-- The drops of a hop in which nothing has happened are explained.
abbrev pub FreshIsExplained : Type 0
FreshIsExplained =
    (hash : ℕ → Option ℕ) (fixed : Fixed) (counts : List ℕ) (guests lanes outs : ℕ)
    → DropsExplained hash (fresh_hop fixed counts guests lanes outs)

-- Every event leaves the drops explained.
abbrev pub EachExplainsDrops : Type 0
EachExplainsDrops =
    (hash : ℕ → Option ℕ) (s : HopState) (e : HopEvent) → IsHashed hash s e → Sound s
    → DropsExplained hash s → DropsExplained hash (happens s e).0

-- If as many packets may wait as there can be and no lane has the flow limit, nothing is dropped.
abbrev pub NeverDrops : Type 0
NeverDrops =
    (shape : HopShape) (es : List HopEvent) → IsShape shape → shape.room ≤ shape.limit
    → ((c : ℕ) → c < shape.lanes → has shape.limited c ≡ false) → AllMayAsk es (new_hop shape)
    → (c : ℕ) → drops_at (run es (new_hop shape)).bare c ≡ []

-- The lanes of a hop have room for all packets and no flow limit, and dropped nothing.
pub record Ample (s : HopState) : Type 0 where
  pub room : s.fixed.room ≤ s.fixed.limit
  pub unlimited : (c : ℕ) → c < length s.bare.accepted → has s.fixed.limited c ≡ false
  pub none : (c : ℕ) → drops_at s.bare c ≡ []

-- A hop in which nothing has happened dropped nothing.
abbrev pub FreshIsAmple : Type 0
FreshIsAmple =
    (fixed : Fixed) (counts : List ℕ) (guests lanes outs : ℕ) → fixed.room ≤ fixed.limit
    → ((c : ℕ) → c < lanes → has fixed.limited c ≡ false)
    → Ample (fresh_hop fixed counts guests lanes outs)

-- After an event a hop whose lanes have room for all still dropped nothing.
abbrev pub EachKeepsAmple : Type 0
EachKeepsAmple = (s : HopState) (e : HopEvent) → Sound s → Ample s → Ample (happens s e).0

-- ---- choices

-- the entries that a producer's first i choices give, without those before a resize
abbrev pub entries_before : HopState → (producer from count class : ℕ) → Entry
entries_before s p from i =
    entry s.fixed.start (accepted_at s.bare) (drop from (take i (choices_of s p)))

-- A choice by the rule over the heads of all lanes is the choice over the one head that it kept.
abbrev pub KeptHeadDecides : Type 0
KeptHeadDecides =
    (class want : Option ℕ) (desired : ℕ) (entries : ℕ → Entry) (head : ℕ → ℕ) (online : ℕ → Bool)
    (c : Choice)
    → c ≡ migrate class want desired entries head online
    → c ≡ migrate class want desired entries (λ lane. unwrap_or c.head 0) online

-- Later events leave each choice as it was made, and the entries of the choices before it.
abbrev pub ChoicesStay : Type 0
ChoicesStay =
    (s : HopState) (es : List HopEvent) → Sound s → AllMayAsk es s → (p i : ℕ)
    → i < length (choices_of s p)
    → (chosen_at (choices_of (run es s) p) i ≡ chosen_at (choices_of s p) i)
    × ((from k : ℕ) → entries_before (run es s) p from i k ≡ entries_before s p from i k)

-- the state after a weigh
abbrev pub after_weigh : HopState → ℕ → Option ℕ → Option ℕ → ℕ → CpuMask → HopState
after_weigh s p class want desired online = (happens s (event.Weigh p class want desired online)).0

-- The choice that a weigh makes is the migration rule over the entries of the choices before it
-- since the last resize, with the heads of that moment, and stays so whatever events follow.
abbrev pub ChoiceIsByTheRule : Type 0
ChoiceIsByTheRule =
    (s : HopState) (p : ℕ) (class want : Option ℕ) (desired : ℕ) (online : CpuMask)
    (es : List HopEvent) → Sound s
    → MayAsk s (event.Weigh p class want desired online) → inside_of s p ≡ true
    → length (choices_of s p) < taken_of s p
    → AllMayAsk es (after_weigh s p class want desired online)
    → (chosen_at (choices_of (run es (after_weigh s p class want desired online)) p)
    (length (choices_of s p))).choice
    ≡ migrate class want desired
    (entries_before (run es (after_weigh s p class want desired online)) p (since_of s p)
    (length (choices_of s p)))
    (head_at s.fixed.start s.bare) (has online)

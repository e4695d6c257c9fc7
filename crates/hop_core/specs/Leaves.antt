-- What each event leaves alone, field by field.
use Rattle.std.specs.Prelude.{◌≡◌, Bool, true, false}
use Rattle.hop_model.specs.declared.event.HopEvent.{HopEvent}
use Rattle.hop_model.specs.declared.event.HopEvent.TheVariants as event
use Rattle.hop_model.specs.Events.{happens}
use Rattle.hop_model.specs.Hop.{HopState}

-- the fields of a state
pub data Field : Type 0 where
  fixed : Field
  accepted : Field
  offers : Field
  drops : Field
  pulled : Field
  delivered : Field
  retired : Field
  outs : Field
  inside : Field
  closed : Field
  counts : Field
  arrivals : Field
  taken : Field
  choices : Field
  placed : Field
  since : Field
  visits : Field

-- whether an event may change a field
abbrev pub changes : HopEvent → Field → Bool
changes (event.Arrive p id) arrivals = true
changes (event.Take p) taken = true
changes (event.Enter a) inside = true
changes (event.Enter a) visits = true
changes (event.Leave a) inside = true
changes (event.Leave a) visits = true
changes (event.Weigh p class want desired online) choices = true
changes (event.Put p hash) accepted = true
changes (event.Put p hash) offers = true
changes (event.Put p hash) drops = true
changes (event.Put p hash) placed = true
changes (event.Pull c) pulled = true
changes (event.Deliver c o) delivered = true
changes (event.Deliver c o) outs = true
changes (event.Retire c) retired = true
changes (event.Resize p count) since = true
changes (event.Resize p count) counts = true
changes event.Close closed = true
changes event.Reopen closed = true
changes _ _ = false

-- A field is the same in two states.
abbrev pub Same : Field → HopState → HopState → Type 0
Same fixed s t = t.fixed ≡ s.fixed
Same accepted s t = t.bare.accepted ≡ s.bare.accepted
Same offers s t = t.bare.offers ≡ s.bare.offers
Same drops s t = t.bare.drops ≡ s.bare.drops
Same pulled s t = t.bare.pulled ≡ s.bare.pulled
Same delivered s t = t.bare.delivered ≡ s.bare.delivered
Same retired s t = t.bare.retired ≡ s.bare.retired
Same outs s t = t.bare.outs ≡ s.bare.outs
Same inside s t = t.bare.inside ≡ s.bare.inside
Same closed s t = t.bare.closed ≡ s.bare.closed
Same counts s t = t.counts ≡ s.counts
Same arrivals s t = t.arrivals ≡ s.arrivals
Same taken s t = t.taken ≡ s.taken
Same choices s t = t.choices ≡ s.choices
Same placed s t = t.placed ≡ s.placed
Same since s t = t.since ≡ s.since
Same visits s t = t.visits ≡ s.visits

-- Each event leaves every field that it does not change.
abbrev pub EachLeaves : Type 0
EachLeaves =
    (s : HopState) (e : HopEvent) (f : Field) → changes e f ≡ false → Same f s (happens s e).0

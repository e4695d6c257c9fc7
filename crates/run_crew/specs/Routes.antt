-- What the wire does at its hint words and its rings: each packet comes to the receive queue of a
-- hardware filter, or else of an entry of the redirection table (kernel scaling chapter, sections
-- RSS and accelerated RFS).
use Rattle.std.specs.Prelude.{◌≡◌, ℕ, List, [], ◌∷◌, Option, Some, None, length, unwrap_or}
use Rattle.std.specs.List.{Contains}
use Rattle.steer_base.specs.Arrivals.{filter_place, route, table_place}
use Rattle.steer_base.specs.declared.filter.Filter.{Filter}
use Rattle.rss_table.specs.Redirection.{Redirection, queue_of}
use Rattle.hint_words.specs.declared.step.HintStep.{HintStep}
use Rattle.hint_words.specs.declared.step.HintStep.TheVariants.{Load, Store}
use Rattle.history.specs.Regular.{route_of}
use Rattle.history.specs.declared.arrival.Arrival.{Arrival}
use Rattle.steer_model.specs.State.Setup.{Setup, packet_hash}
use Rattle.run_words.specs.Numbers.{hint_number}
use Rattle.run_words.specs.Values.{filter_in, place_in, place_word}
use Rattle.run_words.specs.declared.hint_word.HintWord.TheVariants as word
use Rattle.run_words.specs.declared.values.TheConstants.{DONE}
use Rattle.run_words.specs.Lists.{oldest_first}
use Rattle.run_words.specs.HintViews.{HintView, after_step}

-- ---- the queue of a packet

-- The word of a filter's place was loaded, and this is what it says; without a place nothing was
-- loaded and there is no filter.
abbrev pub LooksUpFilter : Setup → Option ℕ → HintView → HintView → Option Filter → Type 0
LooksUpFilter given None old new filter = (filter ≡ None) × (new ≡ old)
LooksUpFilter given (Some place) old new filter =
    (value : ℕ) × (filter ≡ filter_in value (length given.homes) given.cpus)
    × (new ≡ after_step (Load (hint_number (word.Filter place)) value) old)

-- The word of the hash's entry in the redirection table was loaded, and this is the queue that it
-- says, or else that of the plan's table.
abbrev pub LooksUpEntry : Setup → Redirection → ℕ → ℕ → HintView → HintView → Type 0
LooksUpEntry given reta hash queue old new =
    (value : ℕ)
    × (queue ≡ unwrap_or (place_in value (length given.homes)) (queue_of reta (Some hash)))
    × (new ≡ after_step (Load (hint_number (word.Redirection (table_place hash))) value) old)

-- The packet came by this filter, or else by the entry of its hash.
abbrev pub ByFilter : Setup → Redirection → ℕ → Option Filter → Arrival → HintView → HintView
    → Type 0
ByFilter given reta hash (Some f) a old new =
    (route_of a ≡ route (Some hash) (Some f.queue) 0) × (new ≡ old)
ByFilter given reta hash None a old new =
    (queue : ℕ) × (route_of a ≡ route (Some hash) None queue)
    × LooksUpEntry given reta hash queue old new

-- A packet with this hash came this way, by the words that were loaded for it: the filter is asked
-- before the entry. Without a hash nothing was loaded, and it came to queue 0.
abbrev pub Routes : Setup → ℕ → Redirection → Option ℕ → Arrival → HintView → HintView → Type 0
Routes given filters reta None a old new = (route_of a ≡ route None None 0) × (new ≡ old)
Routes given filters reta (Some hash) a old new =
    (filter : Option Filter) × (mid : HintView)
    × LooksUpFilter given (filter_place filters (Some hash)) old mid filter
    × ByFilter given reta hash filter a mid new

-- ---- arrivals

-- the store by which an arrival is announced: its queue, in its word
abbrev pub announcement : Arrival → HintStep
announcement a = Store (hint_number (word.Queue a.id)) (place_word a.queue)

-- The arrival is announced.
abbrev pub HasAnnounced : Arrival → List HintStep → Type 0
HasAnnounced a steps = Contains steps (announcement a)

-- These arrivals, the newest first, are all that the seat did: for each it loaded what led the
-- packet, and announced it.
abbrev pub Leads : Setup → ℕ → Redirection → List Arrival → HintView → HintView → Type 0
Leads given filters reta [] old new = new ≡ old
Leads given filters reta (a ∷ rest) old new =
    (before : HintView) × (mid : HintView) × Leads given filters reta rest old before
    × Routes given filters reta (packet_hash given a.id) a before mid
    × (new ≡ after_step (announcement a) mid)

-- Behind all arrivals the word was written that says that all packets have arrived.
abbrev pub Ends : Setup → ℕ → Redirection → List Arrival → HintView → HintView → Type 0
Ends given filters reta arrivals old new =
    (late : List Arrival) × (mid : HintView) × (arrivals ≡ oldest_first late)
    × Leads given filters reta late old mid
    × (new ≡ after_step (Store (hint_number word.Done) DONE) mid)

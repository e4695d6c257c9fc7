-- The place of a packet.
use Rattle.std.specs.Prelude.{ℕ, ◌≡◌, ◌↔◌, Bool, true, false}
use Rattle.history.specs.Finding.{is_among, is_in}
use Rattle.history.specs.Lists.{drop_ids, lane_at, list_at}
use Rattle.history.specs.Places.{place_of, was_taken}
use Rattle.history.specs.declared.history.History.{History}
use Rattle.history.specs.declared.place.Place.{Place}
use Rattle.history.specs.declared.place.Place.TheVariants.{Backlog, Dropped, Hand}
use Rattle.history.specs.declared.place.Place.TheVariants.{Inbox, Poller, Ring}

-- Whether a processor accepted a packet.
abbrev pub was_accepted : History → ℕ → ℕ → Bool
was_accepted h c x = is_in x (lane_at h.lanes c).accepted

-- Whether a processor pulled a packet.
abbrev pub was_pulled : History → ℕ → ℕ → Bool
was_pulled h c x = is_among (lane_at h.lanes c).pulled x (lane_at h.lanes c).accepted

-- Whether a processor dropped a packet.
abbrev pub was_dropped_by : History → ℕ → ℕ → Bool
was_dropped_by h c x = is_in x (drop_ids (lane_at h.lanes c))

-- Whether an application has a packet in its inbox.
abbrev pub is_in_inbox : History → ℕ → ℕ → Bool
is_in_inbox h a x = is_in x (list_at h.inboxes a)

-- No processor accepted or dropped a packet.
abbrev pub WasNotPut : History → ℕ → Type 0
WasNotPut h x = (c : ℕ) → (was_accepted h c x ≡ false) × (was_dropped_by h c x ≡ false)

-- No application has a packet in its inbox.
abbrev pub IsInNoInbox : History → ℕ → Type 0
IsInNoInbox h x = (a : ℕ) → is_in_inbox h a x ≡ false

-- A packet that arrived is at a place, by the lists of the history.
abbrev pub IsAtPlace : History → ℕ → Place → Type 0
IsAtPlace h x Ring = (was_taken h x ≡ false) × WasNotPut h x
IsAtPlace h x Poller = (was_taken h x ≡ true) × WasNotPut h x
IsAtPlace h x (Backlog c) =
    (was_accepted h c x ≡ true) × (was_pulled h c x ≡ false) × IsInNoInbox h x
IsAtPlace h x (Hand c) = (was_pulled h c x ≡ true) × IsInNoInbox h x
IsAtPlace h x (Inbox a) = is_in_inbox h a x ≡ true
IsAtPlace h x (Dropped c) = was_dropped_by h c x ≡ true

-- A packet is at the place that its line in the report shows, and at no other.
abbrev pub IsAtOnePlace : History → ℕ → Type 0
IsAtOnePlace h x = (place : Place) → IsAtPlace h x place ↔ (place_of h x ≡ place)

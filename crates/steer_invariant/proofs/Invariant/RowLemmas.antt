-- What each step of one event keeps, by the values that code has: the hop after its event, and each
-- other part that it changes.
use Rattle.std.proofs.Common.{ℕ, ◌+◌, ◌≤◌, ◌<◌, ◌≡◌, true, false, List, [], ◌∷◌, ◌++◌, Option, Some}
use Rattle.std.proofs.Common.{length, refl, ap, ◌∙◌, sym, subst}
use Rattle.std.specs.Prelude.{slice_set}
use Rattle.steer_base.specs.declared.choice.Choice.{Choice}
use Rattle.steer_base.specs.declared.command.Answer.{Answer}
use Rattle.steer_base.specs.declared.command.Command.{Command}
use Rattle.steer_base.specs.declared.filter.Filter.{Filter}
use Rattle.hop_model.specs.declared.event.HopEvent.{HopEvent}
use Rattle.hop_model.specs.declared.event.HopEvent.TheVariants as event
use Rattle.hop_model.specs.Events.{happens}
use Rattle.hop_model.specs.Hop.{HopState, next_of, placed_of, taken_of}
use Rattle.hop_core.specs.Leaves.{Field, changes}
use Rattle.hop_model.specs.Reads.{to_weigh}
use Rattle.hop_core.proofs.Leaves.{each_leaves}
use Rattle.history.specs.Regular.{has_text}
use Rattle.history.specs.declared.arrival.Arrival.{Arrival}
use Rattle.history.specs.declared.sent.Sent.{Sent}
use Rattle.history.specs.declared.sock_write.SockWrite.{SockWrite}
use Rattle.steer_model.specs.Steps.Applications.{in_lane, in_reply, next_in, reply_to, sending}
use Rattle.steer_model.specs.Steps.Applications.{sent_of}
use Rattle.steer_model.specs.Steps.Commands.{answer_to, listed}
use Rattle.steer_model.specs.State.Machine.{Machine, last_chosen, note_of}
use Rattle.steer_model.specs.State.Notes.{asking, is_asking}
use Rattle.steer_model.specs.Steps.Pollers.{filter_for, with_note, put_position, weighing}
use Rattle.steer_model.specs.Steps.Pollers.{with_filter}
use Rattle.steer_model.specs.State.Setup.{app_for}
use Rattle.steer_model.specs.declared.note.Note.TheVariants as note
use Rattle.steer_invariant.specs.Invariant.{Invariant}
use Rattle.steer_invariant.specs.Ranges.{IsRanged}
use Rattle.steer_invariant.specs.RecordedLists.{IsRecorded}
use Rattle.steer_invariant.proofs.StepInvariant.ArrivalLemmas.{kept_arrive, next_arrival}
use Rattle.steer_invariant.proofs.StepInvariant.CommandLemmas.{StepInvariant-listed}
use Rattle.steer_invariant.proofs.StepInvariant.PollerLemmas.{kept_deliver, kept_enter, kept_leave}
use Rattle.steer_invariant.proofs.StepInvariant.PollerLemmas.{kept_look}
use Rattle.steer_invariant.proofs.StepInvariant.PollerLemmas.{kept_pull, kept_retire, kept_take}
use Rattle.steer_invariant.proofs.StepInvariant.PutLemmas.{kept_ask, kept_asking, kept_put}
use Rattle.steer_invariant.proofs.StepInvariant.RecordLemmas.{kept_visited, kept_wrote}
use Rattle.steer_invariant.proofs.StepInvariant.ReplyLemmas.{kept_send, kept_tdeliver, kept_tenter}
use Rattle.steer_invariant.proofs.StepInvariant.ReplyLemmas.{kept_tleave}
use Rattle.steer_invariant.proofs.StepInvariant.ReplyLemmas.{kept_tpull, kept_tput, kept_tretire}
use Rattle.steer_invariant.proofs.StepInvariant.ReplyLemmas.{kept_tweigh}
use Rattle.steer_invariant.proofs.StepInvariant.WeighLemmas.{kept_weigh}
use Rattle.steer_invariant.proofs.Ranges.RangeLemmas.{last_below, ranged-ask, ranged-asking}
use Rattle.steer_invariant.proofs.Ranges.RangeLemmas.{ranged-noted}
use Rattle.steer_invariant.proofs.Recorded.ArrivalLemmas.{recorded-arrives}
use Rattle.steer_invariant.proofs.Recorded.CommandLemmas.{recorded-listed, text-answer}
use Rattle.steer_invariant.proofs.Recorded.RowLemmas.{recorded-choices, recorded-deliver}
use Rattle.steer_invariant.proofs.Recorded.RowLemmas.{recorded-outs}
use Rattle.steer_invariant.proofs.Recorded.RowLemmas.{recorded-sends, recorded-tweigh}

-- an event of the receive hop that delivers nothing, and one of the transmit hop that weighs
-- nothing
rx-recorded : (m : Machine) (e : HopEvent) (t : HopState) → changes e Field.outs ≡ false
    → t ≡ (happens m.rx e).0 → IsRecorded m → IsRecorded (record m { rx = t })
rx-recorded m e t quiet is r =
    recorded-outs m t
    (ap (λ (s : HopState). s.bare.outs) is ∙ each_leaves m.rx e Field.outs quiet) r

tx-recorded : (m : Machine) (e : HopEvent) (t : HopState) → changes e Field.choices ≡ false
    → t ≡ (happens m.tx e).0 → IsRecorded m → IsRecorded (record m { tx = t })
tx-recorded m e t quiet is r =
    recorded-choices m t
    (ap (λ (s : HopState). s.choices) is ∙ each_leaves m.tx e Field.choices quiet) r

-- ---- the wire

pub held_arrive : (m : Machine) (a : Arrival) (t : HopState) → a ≡ next_arrival m
    → length m.arrivals < length m.setup.packets → t ≡ (happens m.rx (event.Arrive a.queue a.id)).0
    → Invariant m → Invariant (record m { rx = t; arrivals = m.arrivals ++ a ∷ [] })
held_arrive m a t which few is h =
    let n : Arrival = next_arrival m in
    let then' : t ≡ (happens m.rx (event.Arrive n.queue n.id)).0 =
    is ∙ ap (λ (b : Arrival). (happens m.rx (event.Arrive b.queue b.id)).0) which in
    let after : HopState → Arrival → Machine =
    λ s b. record m { rx = s; arrivals = m.arrivals ++ b ∷ [] } in
    let r = recorded-arrives m h.kept h.recorded in
    record {
      kept = kept_arrive m a t which few is h.kept;
      ranged = h.ranged;
      recorded = subst (λ (b : Arrival). IsRecorded (after t b)) (sym which)
          (subst (λ (s : HopState). IsRecorded (after s n)) (sym then') r);
    }

-- ---- a poller

pub held_take : (m : Machine) (q : ℕ) (t : HopState) → q < length m.setup.homes
    → is_asking (note_of m q) ≡ false → t ≡ (happens m.rx (event.Take q)).0
    → Invariant m → Invariant (record m { rx = t })
held_take m q t named quiet is h =
    record {
      kept = kept_take m q t named quiet is h.kept;
      ranged = h.ranged;
      recorded = rx-recorded m (event.Take q) t refl is h.recorded;
    }

pub held_enter : (m : Machine) (q : ℕ) (t : HopState) → q < length m.setup.homes
    → t ≡ (happens m.rx (event.Enter q)).0 → Invariant m → Invariant (record m { rx = t })
held_enter m q t named is h =
    record {
      kept = kept_enter m q t named is h.kept;
      ranged = h.ranged;
      recorded = rx-recorded m (event.Enter q) t refl is h.recorded;
    }

pub held_look : (m : Machine) (q x : ℕ) (want : Option ℕ) → q < length m.setup.homes
    → to_weigh m.rx q ≡ Some x → Invariant m → Invariant (with_note m q (note.Looked want))
held_look m q x want named some h =
    record {
      kept = kept_look m q x want named some h.kept;
      ranged = ranged-noted m q (note.Looked want) (λ f e. absurd (cc)) h.ranged;
      recorded = h.recorded;
    }

-- the code knows the event by its value
pub held_weigh : (m : Machine) (q : ℕ) (want : Option ℕ) (e : HopEvent) (t : HopState)
    → q < length m.setup.homes → e ≡ weighing m q (next_of m.rx q) want → t ≡ (happens m.rx e).0
    → Invariant m → Invariant (record (with_note m q note.Nothing) { rx = t })
held_weigh m q want e t named which is h =
    let w : HopEvent = weighing m q (next_of m.rx q) want in
    let then' : t ≡ (happens m.rx w).0 = is ∙ ap (λ (f : HopEvent). (happens m.rx f).0) which in
    record {
      kept = kept_weigh m q want t named then' h.kept;
      ranged = ranged-noted m q note.Nothing (λ f e. absurd (cc)) h.ranged;
      recorded = rx-recorded m w t refl then' h.recorded;
    }

pub held_put : (m : Machine) (q : ℕ) (hash : Option ℕ) (t : HopState) → q < length m.setup.homes
    → t ≡ (happens m.rx (event.Put q hash)).0 → Invariant m → Invariant (record m { rx = t })
held_put m q hash t named is h =
    record {
      kept = kept_put m q hash t named is h.kept;
      ranged = h.ranged;
      recorded = rx-recorded m (event.Put q hash) t refl is h.recorded;
    }

-- a put that was accepted, and the filter that is asked for by the choice
pub held_asking : (m : Machine) (q : ℕ) (hash : Option ℕ) (t : HopState) (position filters : ℕ)
    (c : Choice) → q < length m.setup.homes → t ≡ (happens m.rx (event.Put q hash)).0
    → put_position (happens m.rx (event.Put q hash)).1 ≡ Some position
    → c ≡ (last_chosen t q).choice → Invariant m
    → Invariant
    (with_note (record m { rx = t }) q (asking (filter_for m.setup.homes filters c position)))
held_asking m q hash t position filters c named is went last h =
    let n : Machine = record m { rx = t } in
    let below : c.lane < m.setup.cpus =
    subst (λ (d : Choice). d.lane < m.setup.cpus) (sym last)
    (last_below n q (kept_put m q hash t named is h.kept)) in
    record {
      kept = kept_asking m q hash t position filters c named is went h.kept;
      ranged = ranged-asking n q filters position c below h.ranged;
      recorded = rx-recorded m (event.Put q hash) t refl is h.recorded;
    }

pub held_ask : (m : Machine) (q : ℕ) (filter : Filter) (hash : Option ℕ)
    (filters : List (Option Filter)) → q < length m.setup.homes
    → note_of m q ≡ note.Asking filter → filters ≡ with_filter m.filters hash filter
    → Invariant m → Invariant (record (with_note m q note.Nothing) { filters = filters })
held_ask m q filter hash filters named asked is h =
    record {
      kept = kept_ask m q filter hash filters named asked is h.kept;
      ranged = subst
          (λ (fs : List (Option Filter)).
          IsRanged (record (with_note m q note.Nothing) { filters = fs }))
          (sym is) (ranged-ask m q filter hash asked h.ranged);
      recorded = h.recorded;
    }

pub held_leave : (m : Machine) (q : ℕ) (t : HopState) → q < length m.setup.homes
    → t ≡ (happens m.rx (event.Leave q)).0 → Invariant m → Invariant (record m { rx = t })
held_leave m q t named is h =
    record {
      kept = kept_leave m q t named is h.kept;
      ranged = h.ranged;
      recorded = rx-recorded m (event.Leave q) t refl is h.recorded;
    }

-- ---- a processor

pub held_pull : (m : Machine) (c : ℕ) (t : HopState) → c < m.setup.cpus
    → t ≡ (happens m.rx (event.Pull c)).0 → Invariant m → Invariant (record m { rx = t })
held_pull m c t named is h =
    record {
      kept = kept_pull m c t named is h.kept;
      ranged = h.ranged;
      recorded = rx-recorded m (event.Pull c) t refl is h.recorded;
    }

pub held_deliver : (m : Machine) (c : ℕ) (e : HopEvent) (t : HopState) → c < m.setup.cpus
    → e ≡ event.Deliver c (app_for m.setup (in_lane m.rx c)) → t ≡ (happens m.rx e).0
    → Invariant m → Invariant (record m { rx = t })
held_deliver m c e t named which is h =
    let then' = is ∙ ap (λ (f : HopEvent). (happens m.rx f).0) which in
    record {
      kept = kept_deliver m c (in_lane m.rx c) e t named which is h.kept;
      ranged = h.ranged;
      recorded = subst (λ (s : HopState). IsRecorded (record m { rx = s })) (sym then')
          (recorded-deliver m c h.recorded);
    }

pub held_retire : (m : Machine) (c : ℕ) (t : HopState) → c < m.setup.cpus
    → t ≡ (happens m.rx (event.Retire c)).0 → Invariant m → Invariant (record m { rx = t })
held_retire m c t named is h =
    record {
      kept = kept_retire m c t named is h.kept;
      ranged = h.ranged;
      recorded = rx-recorded m (event.Retire c) t refl is h.recorded;
    }

-- ---- a socket

-- an application goes in and out
pub held_visited : (m : Machine) (a : ℕ) (t u : HopState) → a < m.setup.apps
    → t ≡ (happens m.rx (event.Enter (length m.setup.homes + a))).0
    → u ≡ (happens t (event.Leave (length m.setup.homes + a))).0 → Invariant m
    → Invariant (record m { rx = u })
held_visited m a t u named is then' h =
    let g : ℕ = length m.setup.homes + a in
    record {
      kept = kept_visited m a t u named is then' h.kept;
      ranged = h.ranged;
      recorded = rx-recorded (record m { rx = t }) (event.Leave g) u refl then'
          (rx-recorded m (event.Enter g) t refl is h.recorded);
    }

-- other entries of the table, as many, and one list of writes changed
pub held_wrote : (m : Machine) (socket : List (Option ℕ)) (a : ℕ) (writes : List SockWrite)
    → length socket ≡ length m.socket → Invariant m
    → Invariant (record m { socket = socket; writes = slice_set m.writes a writes })
held_wrote m socket a writes same h =
    assumption (kept_wrote m socket a writes same h.kept)

-- ---- an application

pub held_send : (m : Machine) (a x : ℕ) (r : Sent) (t u : HopState) → a < m.setup.apps
    → taken_of m.tx a ≤ placed_of m.tx a → next_in m a ≡ Some x → r ≡ reply_to m a x
    → t ≡ (happens m.tx (event.Arrive a x)).0
    → u ≡ (happens t (event.Take a)).0 → Invariant m
    → Invariant (record m { tx = u; sent = slice_set m.sent a (sent_of m a ++ r ∷ []) })
held_send m a x r t u named free next which is then' h =
    let same : u.choices ≡ m.tx.choices =
    ap (λ (s : HopState). s.choices) then' ∙ each_leaves t (event.Take a) Field.choices refl
    ∙ ap (λ (s : HopState). s.choices) is in
    let sends : Sent → Machine =
    λ s. record m { tx = u; sent = slice_set m.sent a (sent_of m a ++ s ∷ []) } in
    record {
      kept = kept_send m a x r t u named free next (ap (λ (s : Sent). s.id) which) is then'
          h.kept;
      ranged = h.ranged;
      recorded = subst (λ (s : Sent). IsRecorded (sends s)) (sym which)
          (recorded-sends m a x u same h.recorded);
    }

pub held_tenter : (m : Machine) (a : ℕ) (t : HopState) → a < m.setup.apps
    → t ≡ (happens m.tx (event.Enter a)).0 → Invariant m → Invariant (record m { tx = t })
held_tenter m a t named is h =
    record {
      kept = kept_tenter m a t named is h.kept;
      ranged = h.ranged;
      recorded = tx-recorded m (event.Enter a) t refl is h.recorded;
    }

pub held_tleave : (m : Machine) (a : ℕ) (t : HopState) → a < m.setup.apps
    → t ≡ (happens m.tx (event.Leave a)).0 → Invariant m → Invariant (record m { tx = t })
held_tleave m a t named is h =
    record {
      kept = kept_tleave m a t named is h.kept;
      ranged = h.ranged;
      recorded = tx-recorded m (event.Leave a) t refl is h.recorded;
    }

pub held_tweigh : (m : Machine) (a : ℕ) (e : HopEvent) (t : HopState) → a < m.setup.apps
    → e ≡ sending m a (in_reply m a) → t ≡ (happens m.tx e).0 → Invariant m
    → Invariant (record m { tx = t })
held_tweigh m a e t named which is h =
    let then' = is ∙ ap (λ (f : HopEvent). (happens m.tx f).0) which in
    record {
      kept = kept_tweigh m a (in_reply m a) e t named which is h.kept;
      ranged = h.ranged;
      recorded = subst (λ (s : HopState). IsRecorded (record m { tx = s })) (sym then')
          (recorded-tweigh m a h.kept h.recorded);
    }

pub held_tput : (m : Machine) (a : ℕ) (hash : Option ℕ) (t : HopState) → a < m.setup.apps
    → t ≡ (happens m.tx (event.Put a hash)).0 → Invariant m → Invariant (record m { tx = t })
held_tput m a hash t named is h =
    record {
      kept = kept_tput m a hash t named is h.kept;
      ranged = h.ranged;
      recorded = tx-recorded m (event.Put a hash) t refl is h.recorded;
    }

-- ---- a transmit queue

pub held_tpull : (m : Machine) (x : ℕ) (t : HopState) → x < m.setup.txs
    → t ≡ (happens m.tx (event.Pull x)).0 → Invariant m → Invariant (record m { tx = t })
held_tpull m x t named is h =
    record {
      kept = kept_tpull m x t named is h.kept;
      ranged = h.ranged;
      recorded = tx-recorded m (event.Pull x) t refl is h.recorded;
    }

pub held_tdeliver : (m : Machine) (x : ℕ) (t : HopState) → x < m.setup.txs
    → t ≡ (happens m.tx (event.Deliver x 0)).0 → Invariant m → Invariant (record m { tx = t })
held_tdeliver m x t named is h =
    record {
      kept = kept_tdeliver m x t named is h.kept;
      ranged = h.ranged;
      recorded = tx-recorded m (event.Deliver x 0) t refl is h.recorded;
    }

pub held_tretire : (m : Machine) (x : ℕ) (t : HopState) → x < m.setup.txs
    → t ≡ (happens m.tx (event.Retire x)).0 → Invariant m → Invariant (record m { tx = t })
held_tretire m x t named is h =
    record {
      kept = kept_tretire m x t named is h.kept;
      ranged = h.ranged;
      recorded = tx-recorded m (event.Retire x) t refl is h.recorded;
    }

-- ---- commands

-- a command is listed with an answer that has a text, as each answer to it has
pub held_listed : (m : Machine) (c : Command) (a : Answer) → has_text a ≡ true → Invariant m
    → Invariant (listed m c a)
held_listed m c a text h =
    record {
      kept = StepInvariant-listed m c a h.kept;
      ranged = h.ranged;
      recorded = recorded-listed m c a text h.recorded;
    }

-- with the answer that some machine gives to it
pub held_answered : (m n : Machine) (c : Command) → Invariant n → Invariant
    (listed n c (answer_to m c))
held_answered m n c h = held_listed n c (answer_to m c) (text-answer m c) h

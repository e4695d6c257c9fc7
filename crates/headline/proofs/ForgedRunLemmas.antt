-- Forged reports of runs are refused by the order of their hop, and by that of the shared words.
use Rattle.std.proofs.Common.{inl, inr, ℕ, suc, ◌<◌, ap, ◌∙◌, arith}
use Rattle.std.proofs.lemmas.Bool.{cases_lt}
use Rattle.std.proofs.lemmas.Option.{slice_get_within}
use Rattle.history.specs.Lists.{list_at}
use Rattle.steer_base.specs.Choices.{class_of}
use Rattle.steer_base.specs.Counters.{rounded_up}
use Rattle.steer_model.specs.Good.Inputs.{setup_in}
use Rattle.steer_model.specs.State.Setup.{packet_hash}
use Rattle.headline.specs.ForgedRuns.{CircleOfQueuesIsForged, FutureHeadIsForged}
use Rattle.headline.specs.ForgedRuns.{FutureTransmitHeadIsForged, OverfullBacklogIsForged}
use Rattle.headline.specs.ForgedRuns.{OwnFilterIsForged, OwnWantIsForged}
use Rattle.headline.specs.ForgedRuns.{StaleDropIsForged, StaleSettingsAreForged}
use Rattle.headline.specs.ForgedRuns.{StalerDropIsForged, SwappedInboxIsForged}
use Rattle.headline.specs.ForgedRuns.{SwappedPortIsForged, SwappedPutsAreForged}
use Rattle.headline.specs.ForgedRuns.{UnpulledHeadIsForged, UnsetWantIsForged}
use Rattle.headline.specs.HopOrders.{AcceptedAs, HopLists, HopOrder, receive_lists}
use Rattle.headline.specs.HopOrders.{transmit_lists}
use Rattle.headline.proofs.ListOrderLemmas.{orders-show}

pub future-head-forged : FutureHeadIsForged
future-head-forged i h run saw put =
    let le = (orders-show (receive_lists h) run.receive).heads.accepted 0 2 3 1 4 2 (omega arith)
    saw put in
    absurd (omega arith)

pub swapped-puts-forged : SwappedPutsAreForged
swapped-puts-forged i h run first second =
    let less = (orders-show (receive_lists h) run.receive).own_puts.accepted 0 0 1 1 3 0
    (omega arith) first second in
    absurd (omega arith)

pub swapped-inbox-forged : SwappedInboxIsForged
swapped-inbox-forged i h run first second =
    let less = (orders-show (receive_lists h) run.receive).outs 1 0 1 0 3 0 (omega arith) first
    second in
    absurd (omega arith)

pub swapped-port-forged : SwappedPortIsForged
swapped-port-forged i h run first second =
    let less = (orders-show (transmit_lists h) run.transmit).outs 0 0 1 0 3 0 (omega arith) first
    second in
    absurd (omega arith)

pub stale-drop-forged : StaleDropIsForged
stale-drop-forged i h d run put drop is =
    let less = (orders-show (receive_lists h) run.receive).own_puts.before_drop 0 2 3 1 1 1 d
    (omega arith) put drop in
    absurd (omega arith)

pub staler-drop-forged : StalerDropIsForged
staler-drop-forged i h d run put drop is =
    let less = (orders-show (receive_lists h) run.receive).own_puts.before_drop 0 4 5 1 4 0 d
    (omega arith) put drop in
    absurd (omega arith)

pub unpulled-head-forged : UnpulledHeadIsForged
unpulled-head-forged i h d run saw drop is =
    let le = (orders-show (receive_lists h) run.receive).heads.dropped 0 4 4 1 2 0 d (omega arith)
    saw drop in
    absurd (omega arith)

pub future-transmit-head-forged : FutureTransmitHeadIsForged
future-transmit-head-forged i h run saw put =
    let le = (orders-show (transmit_lists h) run.transmit).heads.accepted 0 4 5 0 5 4 (omega arith)
    saw put in
    absurd (omega arith)

pub overfull-backlog-forged : OverfullBacklogIsForged
overfull-backlog-forged i h run limit put saw =
    let order = run.receive in
    let a = order.accepts 0 2 1 2 put in
    let s = order.heads 0 3 1 0 saw in
    let after = s.after 2 (omega arith) in
    let more = (order.rise (suc (order.put 0 2)) s.look (omega arith)).accepted 1 in
    let waits = run.room s.look 1 in
    let one = (order.served s.look 1).one in
    let now = a.after in
    let sees = s.sees in
    absurd (omega arith)

-- of two packets of a lane the first was put before the second
put-before : (o : HopLists) (order : HopOrder o) (p q j k l m n : ℕ) → m < n
    → AcceptedAs o p j l m → AcceptedAs o q k l n → order.put p j < order.put q k
put-before o order p q j k l m n less a b =
    let x = (order.accepts p j l m a).before in
    let y = (order.accepts q k l n b).before in
    elim (cases_lt (order.put p j) (order.put q k)) [
      | inl before ↦ before
      | inr after ↦
          (let more = (order.rise (order.put q k) (order.put p j) after).accepted l in
          absurd (omega arith))
    ]

pub circle-of-queues-forged : CircleOfQueuesIsForged
circle-of-queues-forged i h run a b c d =
    let o = receive_lists h in
    let order = run.receive in
    let one = put-before o order 1 0 1 0 1 0 1 (omega arith) d a in
    let two = put-before o order 0 1 1 0 2 0 1 (omega arith) b c in
    let first = order.in_turn 0 0 1 (omega arith)
    (slice_get_within (list_at o.choices 0) 1 b.chosen b.choice) in
    let second = order.in_turn 1 0 1 (omega arith)
    (slice_get_within (list_at o.choices 1) 1 d.chosen d.choice) in
    absurd (omega arith)

pub stale-settings-forged : StaleSettingsAreForged
stale-settings-forged i h run a b less =
    let o = receive_lists h in
    let order = run.receive in
    let before = put-before o order 0 1 0 0 1 0 1 (omega arith) a b in
    let first = run.settings.holds 0 0
    (slice_get_within (list_at o.choices 0) 0 a.chosen a.choice) in
    let second = run.settings.holds 1 0
    (slice_get_within (list_at o.choices 1) 0 b.chosen b.choice) in
    let up = run.settings.rise (order.put 0 0) (order.put 1 0) (omega arith) in
    absurd (omega arith)

pub own-want-forged : OwnWantIsForged
own-want-forged i h want run less sees own =
    let w = (run.wants.wants 0 0 want less sees).2 in
    let c = own w.app (run.wants.reply w.app w.index) w.sent w.for in
    w.older c.0 (omega arith) c.1 c.2

pub own-filter-forged : OwnFilterIsForged
own-filter-forged i h a hash queue run arrived first has came =
    let f = run.filters a hash queue arrived (ap (packet_hash (setup_in i)) first ∙ has) came in
    let older = f.1 in
    absurd (omega (arith, older, first))

pub unset-want-forged : UnsetWantIsForged
unset-want-forged i h want entry run less sees at same classed unset none =
    let done = run.stay 0 0 1 want entry (omega arith) less sees at
    (ap (class_of (rounded_up i.plan.sock)) same ∙ at) classed unset in
    none done.0 done.1

use Rattle.run_workers.specs.Hands.KeptMaps.{Kept}
use Rattle.run_workers.specs.Hands.Servers.{KeepsMaps}
use Rattle.run_workers.proofs.Names.{ℕ, ap, sym, subst, ◌∙◌, HasLanesBelow, Server}
use Rattle.run_workers.proofs.Hands.ReplyLemmas.{chooses_inside, keeps_maps, maps_inside}
use Rattle.run_workers.proofs.Hands.ReplyLemmas.{put_grows, replied_from}
use Rattle.run_workers.proofs.Hands.MapLemmas.{maps_later}
use Rattle.run_workers.proofs.server.Server.send.Goals as goal

pub choose-choice-requires-clause-inside : goal.choose-choice-requires-clause-inside
choose-choice-requires-clause-inside g c =
    maps_inside c.args.shared.now.given c.args.seat.now c.requires.inside
    c.args.shared.now.given.txs c.know_maps.new.kept.maps c.know_maps.new.seat
    c.know_maps.ensures.reads

pub put-requires-clause-inside : goal.put-requires-clause-inside
put-requires-clause-inside g c =
    chooses_inside c.flow_of-class.result c.pick.inside.0 c.args.self.now.table
    c.choose-choice.new.self.table c.choose-choice.result c.know_maps.new.seat
    c.choose-choice.new.seat c.choose-choice.ensures.chooses
    (maps_inside c.args.shared.now.given c.args.seat.now c.requires.inside
    c.args.shared.now.given.txs c.know_maps.new.kept.maps c.know_maps.new.seat
    c.know_maps.ensures.reads)

pub returns-clause-is : goal.returns-clause-is
returns-clause-is g c =
    replied_from c.args.shared.now.given
    (record c.args.self.now { kept = c.know_maps.new.kept }) c.choose-choice.new.self
    c.put.new.self
    c.args.sent.id c.choose-choice.result.class c.put.result c.args.sent
    (record { id = c.args.sent.id; choice = c.choose-choice.result }) c.push.new.self
    c.push-2.new.self
    (keeps_maps c.args.shared.now.given c.args.self.now c.know_maps.new.kept c.requires.is)
    c.requires.hand c.choose-choice.ensures.class
    (subst (λ (n : ℕ). HasLanesBelow n c.choose-choice.new.self.table) c.txs.ensures.value
    c.choose-choice.ensures.lanes) c.choose-choice.ensures.rows c.put.ensures.puts.table
    c.choose-choice.ensures.same c.put.ensures.same c.push.ensures c.push-2.ensures

pub returns-clause-kept : goal.returns-clause-kept
returns-clause-kept g c =
    subst (λ (k : Kept). KeepsMaps c.args.shared.now.given k c.put.new.seat.steps)
    (sym (ap (λ (s : Server). s.kept) c.put.ensures.same
    ∙ ap (λ (s : Server). s.kept) c.choose-choice.ensures.same))
    (maps_later c.know_maps.new.seat.steps c.put.new.seat.steps
    (put_grows c.args.shared.now.given c.flow_of-class.result c.pick.inside.0 c.args.sent.id
    c.args.self.now.table c.choose-choice.new.self.table c.put.new.self.table
    c.choose-choice.result c.put.result c.know_maps.new.seat c.choose-choice.new.seat
    c.put.new.seat c.choose-choice.ensures.chooses c.put.ensures.puts)
    c.args.shared.now.given c.know_maps.new.kept c.know_maps.ensures.kept)

use Rattle.run_workers.proofs.Names.{◌≡◌, ℕ, ◌<◌, true, subst, sym, unwrap_or, slice_index, has}
use Rattle.run_workers.proofs.Names.{IsClassOf, HasLanesBelow, Poller, ap, length, ◌∙◌, Option}
use Rattle.run_workers.proofs.Names.{Table, refreshed, weighed, packet_hash}
use Rattle.steer_base.specs.Choices.{desired_cpu, looks_at_head, migrate, rps_choice_of}
use Rattle.steer_base.specs.HashTables.{place_in_rows}
use Rattle.dev_flow_table.specs.Tables.{entries}
use Rattle.run_words.specs.Values.{cpus_in}
use Rattle.run_workers.specs.Hands.Pollers.{KeepsReading, LooksUp, LoadsHead, Reads, class_read}
use Rattle.run_workers.specs.Hands.Pollers.{socket_entry}
use Rattle.run_workers.proofs.Hands.ReadLemmas.{reread_same}
use Rattle.run_workers.proofs.Hands.VisitLemmas.{kept_loaded}
use Rattle.run_workers.proofs.Hands.ChoiceLemmas.{ChoiceHolds, choice_holds, class_is}
use Rattle.run_workers.proofs.Hands.ChoiceLemmas.{desired_below}
use Rattle.run_workers.proofs.Hands.ChoiceLemmas.{home_below, plain_below, refreshed_below}
use Rattle.run_workers.proofs.poller.Poller.choose.Given as given
use Rattle.run_workers.proofs.poller.Poller.choose.Goals as goal

holds : (g : given.Over) (c : goal.After-weigh g)
    → ChoiceHolds c.args.shared.now.given.cpus c.weigh.new.self c.weigh.result
holds g c =
    let cpus = c.args.shared.now.given.cpus in
    let ok : (cpu : ℕ) → has c.cpus_in-online.result cpu ≡ true → cpu < cpus =
    λ cpu is. subst (λ (n : ℕ). cpu < n) c.cpus-cpus.ensures.value
    (c.cpus_in-online.ensures.within cpu is) in
    let plain_low : c.rps_choice-plain.result < cpus =
    plain_below cpus c.home-home.result c.rps_choice-plain.result c.cpus_in.result
    c.cpus_in-online.result ok
    (subst (λ (n : ℕ). n < cpus) (sym c.home-home.ensures)
    (subst (λ (p : Poller). slice_index c.args.shared.now.given.homes p.queue < cpus)
    (sym c.read-reading.ensures.same)
    (home_below cpus c.args.shared.now.given.homes c.args.self.now.queue
    c.ranges-2.ensures.homes c.requires.queue)))
    c.rps_choice-plain.ensures.among in
    let goal_low : c.desired_cpu-desired.result < cpus =
    subst (λ (n : ℕ). n < cpus) (sym c.desired_cpu-desired.ensures)
    (desired_below cpus c.class-class.result c.look-want.result c.cpus_in-online.result
    c.plain.inside.0 ok
    (subst (λ (n : ℕ). n < cpus) (sym c.plain.view_is) plain_low)) in
    let below : HasLanesBelow cpus c.read-reading.new.self.table =
    subst (λ (p : Poller). HasLanesBelow cpus p.table) (sym c.read-reading.ensures.same)
    (refreshed_below cpus c.args.self.now.flows c.read-reading.result.flows
    c.args.self.now.table c.requires.lanes) in
    choice_holds cpus c.class-class.result c.look-want.result c.desired_cpu-desired.result
    c.read-reading.new.self.table c.weigh.new.self (λ _. unwrap_or c.head-head.result 0)
    (has c.cpus_in-online.result) c.weigh.result goal_low below
    (subst (IsClassOf c.read-reading.new.self.table) (sym c.class-class.ensures)
    (class_is c.read-reading.new.self.table c.hash_of-hash.result))
    c.weigh.ensures.choice c.weigh.ensures.table

pub returns-clause-lane : goal.returns-clause-lane
returns-clause-lane g c = (holds g c).lane

pub returns-clause-lanes : goal.returns-clause-lanes
returns-clause-lanes g c = (holds g c).lanes

pub returns-clause-class : goal.returns-clause-class
returns-clause-class g c = (holds g c).class

pub returns-clause-set : goal.returns-clause-set
returns-clause-set g c = (holds g c).set

pub returns-clause-reads : goal.returns-clause-reads
returns-clause-reads g c =
    let homes = length c.args.shared.now.given.homes in
    record {
      kept = kept_loaded homes c.read-reading.new.self c.read-reading.new.self.table
          c.class-class.result c.head-head.result c.read-reading.new.seat c.head-head.new.seat
          c.head-head.ensures.loads
          (subst (λ (n : ℕ). KeepsReading n c.read-reading.new.self
          c.read-reading.new.seat.steps) c.queues.ensures.value c.read-reading.ensures.kept);
      same = reread_same c.args.self.now c.read-reading.new.self c.read-reading.result.flows
          (refreshed c.args.self.now.flows c.read-reading.result.flows c.args.self.now.table)
          c.weigh.new.self c.read-reading.ensures.same;
    }

pub returns-clause-chooses : goal.returns-clause-chooses
returns-clause-chooses g c =
    let given = c.args.shared.now.given in
    let reading = c.read-reading.result in
    let after = c.read-reading.new.self in
    let before : Table = refreshed c.args.self.now.flows reading.flows c.args.self.now.table in
    let same = c.read-reading.ensures.same in
    let table : after.table ≡ before = ap (λ (p : Poller). p.table) same in
    let hash : c.hash_of-hash.result ≡ packet_hash given c.args.id = c.hash_of-hash.ensures in
    let class : c.class-class.result ≡ class_read given c.args.id before =
    c.class-class.ensures ∙ (λ i. place_in_rows (table i).rows (hash i)) in
    let cpus : c.cpus-cpus.result ≡ given.cpus = c.cpus-cpus.ensures.value in
    let online : c.cpus_in-online.result ≡ cpus_in reading.online given.cpus =
    c.cpus_in-online.ensures.value ∙ ap (cpus_in reading.online) cpus in
    let mask : c.cpus_in.result ≡ cpus_in reading.mask given.cpus =
    c.cpus_in.ensures.value ∙ ap (cpus_in reading.mask) cpus in
    let home : c.home-home.result ≡ slice_index given.homes c.args.self.now.queue =
    c.home-home.ensures ∙ ap (λ (p : Poller). slice_index given.homes p.queue) same in
    let plain : c.plain.inside.0 ≡ rps_choice_of (cpus_in reading.mask given.cpus)
    (packet_hash given c.args.id) (cpus_in reading.online given.cpus)
    (slice_index given.homes c.args.self.now.queue) =
    c.plain.view_is
    ∙ (c.rps_choice-plain.ensures.value
    ∙ (λ i. rps_choice_of (mask i) (hash i) (online i) (home i))) in
    let desired =
    c.desired_cpu-desired.ensures
    ∙ (λ i. desired_cpu (class i) c.look-want.result (online i) (plain i)) in
    record {
      reading = reading;
      want = c.look-want.result;
      head = c.head-head.result;
      mid = c.read-reading.new.seat;
      reads = subst (λ (n : ℕ). Reads n c.args.self.now.queue reading c.args.seat.now
          c.read-reading.new.seat) c.queues.ensures.value c.read-reading.ensures.reads;
      looks = subst (λ (e : Option ℕ). LooksUp given.cpus e c.args.hint.now
          c.look-want.new.seat c.look-want.result)
          (λ i. socket_entry (c.socket_size_in.ensures.value i) (class i) (hash i))
          c.look-want.ensures.looks;
      loads = subst (λ (z : Table × Option ℕ). LoadsHead z.0 z.1 c.read-reading.new.seat
          c.head-head.new.seat c.head-head.result) (λ i. (table i, class i))
          c.head-head.ensures.loads;
      looked = c.head-head.ensures.looks
          ∙ (λ i. looks_at_head (class i) (entries (table i)) (desired i) (has (online i)));
      rule = c.weigh.ensures.choice
          ∙ (λ i. migrate (class i) c.look-want.result (desired i) (entries (table i))
          (λ _. unwrap_or c.head-head.result 0) (has (online i)));
      table = c.weigh.ensures.table ∙ (λ i. weighed (table i) (class i) c.weigh.result);
      word = ap (λ (p : Poller). p.flows) same;
    }

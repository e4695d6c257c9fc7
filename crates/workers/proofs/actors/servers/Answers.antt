use Rattle.std.proofs.lemmas.Option.{slice_get_read}
use Rattle.workers.proofs.Names.{◌≡◌, ◌∷◌, [], Some, ap, refl, sym, ◌∙◌, arith, length, slice_get}
use Rattle.workers.proofs.Names.{length-append, IsFirstServer}
use Rattle.workers.proofs.EachLemmas.{each_end, each_of_none}
use Rattle.workers.proofs.actors.servers.Goals as goal

pub loop-app-init : goal.loop-app-init
loop-app-init c =
    let nobody = c.in_ok-all.ensures.items in
    record { count = ap length nobody; first = each_of_none _ _ nobody }

pub loop-app-preserved : goal.loop-app-preserved
loop-app-preserved c =
    let l = c.loop-app in
    let i = c.loop-app.invariant in
    let v = c.in_ok-make.field-0 in
    let m = c.in_ok-make.ensures in
    let pushed = c.in_ok-push.ensures.items in
    let less = c.loop-app-test.true in
    let all = c.len-count.ensures in
    let apps = c.args.plan.now.apps in
    let there : slice_get apps l.app ≡ Some c.get-home.result.now =
    slice_get_read apps (length apps) l.app c.get-home.result.now refl (omega (arith, less, all))
    c.get-home.ensures in
    record {
      count =
          let more = length-append l.all.items (v ∷ []) in
          let size = ap length pushed in
          let many = i.count in
          omega (arith, more, size, many);
      first =
          rw pushed
          (each_end (IsFirstServer c.args.plan.now c.args.room c.args.flows) l.all.items l.app v
          (sym i.count) i.first
          (record {
            app = m.app;
            home = there ∙ ap Some (sym m.home);
            start = m.start;
            hand = m.hand;
            table = m.table;
            sent = m.sent;
            choices = m.choices;
            writes = m.writes;
            kept = m.kept;
            is = m.is;
          }));
    }

pub returns : goal.returns
returns c =
    let i = c.loop-app.invariant in
    let end = c.loop-app.auto.app-end in
    let past = c.loop-app-test.false in
    let all = c.len-count.ensures in
    let many = i.count in
    record { count = omega (arith, end, past, all, many); first = i.first }

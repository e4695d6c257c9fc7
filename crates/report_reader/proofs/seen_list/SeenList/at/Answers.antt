use Rattle.std.proofs.Common.{◌≡◌, ◌<◌, ◌∙◌, ap, arith, get_or, length, sym}
use Rattle.report_reader.specs.Joined.{reply_by}
use Rattle.report_reader.specs.declared.slots.Seen.{Seen}
use Rattle.report_reader.proofs.JoinedLemmas.{lines-at, lines-long}
use Rattle.report_reader.proofs.seen_list.SeenList.at.Goals as goal

pub index-requires : goal.index-requires
index-requires c =
    let long = lines-long c.self.inside.replies.items c.self.inside.packets.items
    c.self.inside.numbers.items in
    let view = ap length c.self.view_is in
    omega (arith, c.requires, view, long)

pub index-requires-2 : goal.index-requires-2
index-requires-2 c =
    let long = lines-long c.self.inside.replies.items c.self.inside.packets.items
    c.self.inside.numbers.items in
    let view = ap length c.self.view_is in
    omega (arith, c.requires, view, long)

pub returns : goal.returns
returns c =
    let rs = c.self.inside.replies.items in
    let ps = c.self.inside.packets.items in
    let ns = c.self.inside.numbers.items in
    let x = c.args.x in
    let p = c.index.result.now in
    let n = c.index-2.result.now in
    let d : Seen = record { packet = p; reply = c.reply_by.result } in
    let long = lines-long rs ps ns in
    let view = ap length c.self.view_is in
    let few : x < length ps = omega (arith, c.requires, view, long) in
    let low : x < length ns = omega (arith, c.requires, view, long) in
    let packet : p ≡ get_or ps x p = c.index.ensures in
    let number : n ≡ get_or ns x n = c.index-2.ensures in
    let reply : c.reply_by.result ≡ reply_by rs (get_or ns x n) =
    c.reply_by.ensures ∙ ap (λ qs. reply_by qs n) c.deref.ensures.value
    ∙ ap (reply_by rs) number in
    let same : d ≡ record { packet = get_or ps x p; reply = reply_by rs (get_or ns x n) } =
    λ w. record { packet = packet w; reply = reply w } in
    same ∙ sym (lines-at rs ps ns x p n d few low) ∙ ap (λ xs. get_or xs x d) c.self.view_is

use Rattle.std.proofs.Common.{◌≡◌, ◌<◌, ◌∙◌, ap, arith, get_or, length, []}
use Rattle.std.specs.Prelude.{◌&&◌, nat_le, slice_index}
use Rattle.std.proofs.lemmas.Grind.{get_or_default_zero}
use Rattle.std.proofs.lemmas.List.{get_or_default}
use Rattle.std.proofs.lemmas.List.FromFn.{get_or-map-range_with_len, length-map-range_with_len}
use Rattle.history.specs.Lists.{arrivals_at, list_at}
use Rattle.history_check.proofs.MeetingLemmas.{all-met}
use Rattle.history_check.proofs.polling.is_polled.Goals as goal

pub index-requires : goal.index-requires
index-requires c =
    omega (
      arith,
      c.requires.queue,
      ap length c.requires.counted.arrived,
      length-map-range_with_len
          (λ q. length (arrivals_at c.args.h.now.arrivals q)) 0 (length c.args.h.now.taken),
    )

pub returns : goal.returns
returns c =
    let q = c.args.queue in
    let h = c.args.h.now in
    let here : q < length h.choices = omega (arith, c.requires.queue, c.requires.choices) in
    let taken : c.get.result.now ≡ slice_index h.taken q =
    c.get.ensures ∙ get_or_default_zero h.taken q c.get.result.now c.requires.queue in
    let arrived : c.index.result.now ≡ length (arrivals_at h.arrivals q) =
    c.index.ensures ∙ ap (λ counts. get_or counts q c.index.result.now) c.requires.counted.arrived
    ∙ get_or-map-range_with_len (λ p. length (arrivals_at h.arrivals p)) 0
    (length h.taken) q q c.index.result.now c.requires.queue (omega arith) in
    let count : c.len.result ≡ length (list_at h.choices q) = c.len.ensures
    ∙ ap length (c.get-2.ensures ∙ get_or_default h.choices q c.get-2.result.now [] here) in
    let own = slice_index c.args.met.now q in
    let some = slice_index h.taken q in
    c.is_polled_by.ensures
    ∙ ap (λ n. nat_le n c.index.result.now && nat_le c.len.result n && nat_le c.len.result own)
    taken
    ∙ ap (λ n. nat_le some n && nat_le c.len.result some && nat_le c.len.result own) arrived
    ∙ ap (λ n. nat_le some (length (arrivals_at h.arrivals q)) && nat_le n some && nat_le n own)
    count
    ∙ ap (λ b. nat_le some (length (arrivals_at h.arrivals q))
    && nat_le (length (list_at h.choices q)) some && b) (all-met h q own ∙ c.requires.met)

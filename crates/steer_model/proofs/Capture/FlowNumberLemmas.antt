-- The maps from flows to their numbers, and the packets that were numbered by them.
use Rattle.std.proofs.Common.{ℕ, ◌+◌, ◌<◌, ◌≡◌, List, [], ◌∷◌, ◌++◌, Some, None}
use Rattle.std.proofs.Common.{◌⊎◌, length, ap, ◌∙◌, sym, subst, arith, inl, inr, length-append}
use Rattle.std.specs.BTreeMap.{is_at}
use Rattle.std.specs.Map.{lookup}
use Rattle.std.proofs.lemmas.Bool.{cases_lt}
use Rattle.std.proofs.lemmas.Option.{none-some}
use Rattle.std.proofs.lemmas.List.{get_or_append_left, get_or-append-add}
use Rattle.history.specs.Lists.{no_packet, packet_at}
use Rattle.steer_base.specs.declared.flow.Flow.{Flow}
use Rattle.steer_base.specs.declared.packet.Packet.{Packet}
use Rattle.steer_model.specs.Capture.FlowKeys.{FlowFits, key_of}
use Rattle.steer_model.specs.Capture.FlowNumbers.{IsFresh, IsNumberOf, flow_total, long_order}
use Rattle.steer_model.specs.Capture.FlowNumbers.{number_at, number_in}
use Rattle.steer_model.specs.Capture.PacketLists.{HasNumbers}
use Rattle.steer_model.specs.Capture.Packets.{AreNumbered}
use Rattle.steer_model.specs.Capture.ShortNumbers.{short_order}
use Rattle.steer_model.specs.declared.flow_key.FlowKey.{FlowKey}
use Rattle.steer_model.specs.declared.flow_key.FlowKey.TheVariants.{Short, Long}
use Rattle.steer_model.specs.declared.flow_numbers.FlowNumbers.{FlowNumbers}

-- a list with a packet more
pub record IsLonger (packets : List Packet) (x : Packet) (more : List Packet) : Type 0 where
  pub many : length more ≡ length packets + 1
  pub old : (y : ℕ) → y < length packets → packet_at more y ≡ packet_at packets y
  pub last : packet_at more (length packets) ≡ x

pub longer : (packets : List Packet) (x : Packet) → IsLonger packets x (packets ++ x ∷ [])
longer packets x =
    record {
      many = length-append packets (x ∷ []);
      old = λ y lt. get_or_append_left packets (x ∷ []) no_packet y lt;
      last = (
          let at : length packets + 0 ≡ length packets = omega arith in
          ap (λ n. packet_at (packets ++ x ∷ []) n) (sym at) ∙ get_or-append-add packets
          (x ∷ []) 0 no_packet);
    }

-- a place of the longer list is one of the other, or the last one
place-of : {packets more : List Packet} {x : Packet} → IsLonger packets x more → (y : ℕ)
    → y < length more
    → (y < length packets) ⊎ (y ≡ length packets)
place-of {packets} {more} {x} l y lt =
    elim (cases_lt y (length packets)) [
      | inl below ↦ inl below
      | inr over ↦ inr (omega (arith, l.many))
    ]

-- the flows fit, with one more that does
fits-more : (packets : List Packet) (x : Packet) (more : List Packet) → IsLonger packets x more
    → ((y : ℕ) → y < length packets → FlowFits (packet_at packets y).flow.value)
    → FlowFits x.flow.value
    → (y : ℕ) → y < length more → FlowFits (packet_at more y).flow.value
fits-more packets x more l all fits y lt =
    elim (place-of l y lt) [
      | inl o ↦ subst (λ (p : Packet). FlowFits p.flow.value) (sym (l.old y o)) (all y o)
      | inr e ↦
          subst (λ (p : Packet). FlowFits p.flow.value)
          (sym (ap (λ n. packet_at more n) e ∙ l.last)) fits
    ]

-- one number for each flow, by the maps
same-by : (numbers : FlowNumbers) (packets : List Packet)
    → ((y : ℕ) → y < length packets
    → number_in numbers (packet_at packets y).flow.value ≡ Some (packet_at packets y).flow_number)
    → (x y : ℕ) → x < length packets → y < length packets
    → (packet_at packets x).flow.value ≡ (packet_at packets y).flow.value
    → (packet_at packets x).flow_number ≡ (packet_at packets y).flow_number
same-by numbers packets has x y lt within flow =
    let a = has x lt in
    let b = has y within in
    let c : number_in numbers (packet_at packets x).flow.value ≡ number_in numbers
    (packet_at packets y).flow.value =
    ap (λ f. number_in numbers f) flow in
    cc

-- the numbering with a packet more, whose number is that of its flow or the next one
numbered-more : (packets : List Packet) (x : Packet) (more : List Packet) → IsLonger packets x more
    → AreNumbered packets
    → ((a b : ℕ) → a < length more → b < length more
    → (packet_at more a).flow.value ≡ (packet_at more b).flow.value
    → (packet_at more a).flow_number ≡ (packet_at more b).flow_number)
    → ((a : ℕ) → a < length packets → (packet_at packets a).flow_number ≡ x.flow_number
    → (packet_at packets a).flow.value ≡ x.flow.value)
    → ((n : ℕ) → n < x.flow_number
    → (y : ℕ) × (y < length packets) × ((packet_at packets y).flow_number ≡ n))
    → AreNumbered more
numbered-more packets x more l numbered same apart_last first_last =
    record { same = same; apart = apart; first = first }
  where
    flow-old : (y : ℕ) → y < length packets
        → (packet_at more y).flow.value ≡ (packet_at packets y).flow.value
    flow-old y lt = ap (λ (p : Packet). p.flow.value) (l.old y lt)

    number-old : (y : ℕ) → y < length packets
        → (packet_at more y).flow_number ≡ (packet_at packets y).flow_number
    number-old y lt = ap (λ (p : Packet). p.flow_number) (l.old y lt)

    is-last : (y : ℕ) → y ≡ length packets → packet_at more y ≡ x
    is-last y e = ap (λ n. packet_at more n) e ∙ l.last

    apart : (a b : ℕ) → a < length more → b < length more
        → (packet_at more a).flow_number ≡ (packet_at more b).flow_number
        → (packet_at more a).flow.value ≡ (packet_at more b).flow.value
    apart a b la lb e =
        elim (place-of l a la) [
          | inl oa ↦ elim (place-of l b lb) [
            | inl ob ↦
                flow-old a oa
                ∙ numbered.apart a b oa ob (sym (number-old a oa) ∙ e ∙ number-old b ob)
                ∙ sym (flow-old b ob)
            | inr eb ↦
                let here = is-last b eb in
                flow-old a oa
                ∙ apart_last a oa (sym (number-old a oa) ∙ e
                ∙ ap (λ (p : Packet). p.flow_number) here)
                ∙ sym (ap (λ (p : Packet). p.flow.value) here)
          ]
          | inr ea ↦ elim (place-of l b lb) [
            | inl ob ↦
                let here = is-last a ea in
                ap (λ (p : Packet). p.flow.value) here
                ∙ sym (apart_last b ob (sym (number-old b ob) ∙ sym e
                ∙ ap (λ (p : Packet). p.flow_number) here))
                ∙ sym (flow-old b ob)
            | inr eb ↦ ap (λ (p : Packet). p.flow.value) (is-last a ea ∙ sym (is-last b eb))
          ]
        ]

    first : (a n : ℕ) → a < length more → n < (packet_at more a).flow_number
        → (y : ℕ) × (y < a) × ((packet_at more y).flow_number ≡ n)
    first a n la lt =
        elim (place-of l a la) [
          | inl oa ↦
              let before = numbered.first a n oa (subst (λ k. n < k) (number-old a oa) lt) in
              (before.0, before.1, number-old before.0 (omega (arith, before.1)) ∙ before.2)
          | inr ea ↦
              let at : (packet_at more a).flow_number ≡ x.flow_number =
              ap (λ (p : Packet). p.flow_number) (is-last a ea) in
              let before = first_last n (subst (λ k. n < k) at lt) in
              (before.0, omega (arith, before.1, ea), number-old before.0 before.1 ∙ before.2)
        ]

-- a packet of a flow that is known
known-step : (numbers : FlowNumbers) (packets : List Packet)
    (x : Packet)
    (more : List Packet) → IsLonger packets x more → FlowFits x.flow.value
    → HasNumbers numbers packets
    → number_in numbers x.flow.value ≡ Some x.flow_number → HasNumbers numbers more
known-step numbers packets x more l fits h known =
    record {
      fits = fits-more packets x more l h.fits fits;
      has = has;
      from = λ flow n there e. (let y = h.from flow n there e in (
        y.0,
        omega (arith, y.1, l.many),
        ap (λ (p : Packet). p.flow.value) (l.old y.0 y.1) ∙ y.2,
      ));
      below = below;
      every = λ n lt. (let y = h.every n lt in (
        y.0,
        omega (arith, y.1, l.many),
        ap (λ (p : Packet). p.flow_number) (l.old y.0 y.1)
            ∙ y.2,
      ));
      few = omega (arith, l.many, h.few);
      numbered = numbered-more packets x more l h.numbered (same-by numbers more has)
          (λ a la e. h.numbered.apart a twin.0 la twin.1 (e ∙ sym number) ∙ twin.2)
          (λ n lt. (
          let before = h.numbered.first twin.0 n twin.1 (omega (arith, number)) in
          (before.0, omega (arith, before.1, twin.1), before.2)));
    }
  where
    has : (y : ℕ) → y < length more
        → number_in numbers (packet_at more y).flow.value ≡ Some (packet_at more y).flow_number
    has y ly =
        elim (place-of l y ly) [
          | inl o ↦
              subst (λ (p : Packet). number_in numbers p.flow.value ≡ Some p.flow_number)
              (sym (l.old y o)) (h.has y o)
          | inr e ↦
              subst (λ (p : Packet). number_in numbers p.flow.value ≡ Some p.flow_number)
              (sym (ap (λ n. packet_at more n) e ∙ l.last)) known
        ]

    twin : (t : ℕ) × (t < length packets) × ((packet_at packets t).flow.value ≡ x.flow.value)
    twin = h.from x.flow.value x.flow_number fits known

    number : (packet_at packets twin.0).flow_number ≡ x.flow_number
    number =
        let a = h.has twin.0 twin.1 in
        let b : number_in numbers (packet_at packets twin.0).flow.value
        ≡ number_in numbers x.flow.value =
        ap (λ f. number_in numbers f) twin.2 in
        cc

    below : (y : ℕ) → y < length more → (packet_at more y).flow_number < flow_total numbers
    below y ly =
        elim (place-of l y ly) [
          | inl o ↦ subst (λ (p : Packet). p.flow_number < flow_total numbers) (sym (l.old y o))
              (h.below y o)
          | inr e ↦
              subst (λ (p : Packet). p.flow_number < flow_total numbers)
              (sym (ap (λ n. packet_at more n) e ∙ l.last))
              (subst (λ n. n < flow_total numbers) number (h.below twin.0 twin.1))
        ]

-- a packet of a new flow
fresh-step : (old new : FlowNumbers)
    (packets : List Packet)
    (x : Packet) (more : List Packet) → IsLonger packets x more → FlowFits x.flow.value
    → HasNumbers old packets
    → IsFresh old new x.flow.value x.flow_number → HasNumbers new more
fresh-step old new packets x more l fits h fresh =
    record {
      fits = fits-more packets x more l h.fits fits;
      has = has;
      from = from;
      below = below;
      every = every;
      few = omega (arith, l.many, h.few, fresh.longer);
      numbered = numbered-more packets x more l h.numbered (same-by new more has)
          (λ a la e. absurd (omega (arith, h.below a la, e, fresh.next)))
          (λ n lt. h.every n (omega (arith, fresh.next)));
    }
  where
    known : (flow : Flow) (n : ℕ) → FlowFits flow → number_in old flow ≡ Some n
        → number_in new flow ≡ Some n
    known flow n fits e =
        elim (fresh.others flow fits) [
          | inl s ↦ absurd (none-some n (sym fresh.unknown ∙ ap (number_in old) (sym s) ∙ e))
          | inr s ↦ s ∙ e
        ]

    has : (y : ℕ) → y < length more
        → number_in new (packet_at more y).flow.value ≡ Some (packet_at more y).flow_number
    has y ly =
        elim (place-of l y ly) [
          | inl o ↦
              subst (λ (p : Packet). number_in new p.flow.value ≡ Some p.flow_number)
              (sym (l.old y o))
              (known _ _ (h.fits y o) (h.has y o))
          | inr e ↦
              subst (λ (p : Packet). number_in new p.flow.value ≡ Some p.flow_number)
              (sym (ap (λ n. packet_at more n) e ∙ l.last)) fresh.own
        ]

    from : (flow : Flow) (n : ℕ) → FlowFits flow → number_in new flow ≡ Some n
        → (y : ℕ) × (y < length more) × ((packet_at more y).flow.value ≡ flow)
    from flow n fits e =
        elim (fresh.others flow fits) [
          | inl s ↦ (
            length packets,
            omega (arith, l.many),
            ap (λ (p : Packet). p.flow.value) l.last ∙ sym s,
          )
          | inr s ↦ (
              let y = h.from flow n fits (sym s ∙ e) in (
                y.0,
                omega (arith, y.1, l.many),
                ap (λ (p : Packet). p.flow.value) (l.old y.0 y.1) ∙ y.2,
              ))
        ]

    below : (y : ℕ) → y < length more → (packet_at more y).flow_number < flow_total new
    below y ly =
        elim (place-of l y ly) [
          | inl o ↦ (
              let at : (packet_at more y).flow_number ≡ (packet_at packets y).flow_number =
              ap (λ (p : Packet). p.flow_number) (l.old y o) in
              omega (arith, at, h.below y o, fresh.longer))
          | inr e ↦ (
              let at : (packet_at more y).flow_number ≡ x.flow_number =
              ap (λ (p : Packet). p.flow_number) (ap (λ n. packet_at more n) e ∙ l.last) in
              omega (arith, at, fresh.next, fresh.longer))
        ]

    every : (n : ℕ) → n < flow_total new
        → (y : ℕ) × (y < length more) × ((packet_at more y).flow_number ≡ n)
    every n lt =
        elim (cases_lt n (flow_total old)) [
          | inl before ↦ (
              let y = h.every n before in (
                y.0,
                omega (arith, y.1, l.many),
                ap (λ (p : Packet). p.flow_number) (l.old y.0 y.1)
                    ∙ y.2,
              ))
          | inr over ↦ (
              let at : x.flow_number ≡ n = omega (arith, fresh.next, fresh.longer) in (
                length packets,
                omega (arith, l.many),
                ap (λ (p : Packet). p.flow_number) l.last
                    ∙ at,
              ))
        ]

-- no packets, and empty maps
pub has-none : (numbers : FlowNumbers) → numbers.short.by_key.entries ≡ []
    → numbers.long.entries ≡ [] → HasNumbers numbers []
has-none numbers short long =
    let many : flow_total numbers ≡ 0 = omega (arith, ap length short, ap length long) in
    record {
      fits = λ y lt. absurd (omega arith);
      has = λ y lt. absurd (omega arith);
      from = λ flow n fits e. absurd (none-some n (sym (none (key_of flow)) ∙ e));
      below = λ y lt. absurd (omega arith);
      every = λ n lt. absurd (omega (arith, many));
      few = omega (arith, many);
      numbered = record {
        same = λ x y lt. absurd (omega arith);
        apart = λ x y lt. absurd (omega arith);
        first = λ x n lt. absurd (omega arith);
      };
    }
  where
    none : (key : FlowKey) → number_at numbers key ≡ None
    none (Short key) = ap (λ es. lookup (is_at (short_order key)) es) short
    none (Long key) = ap (λ es. lookup (is_at (long_order key)) es) long

-- the packets with one more, numbered by the maps
pub has-more : (old new : FlowNumbers) (packets : List Packet) (x : Packet)
    → HasNumbers old packets → FlowFits x.flow.value → IsNumberOf old new x.flow.value x.flow_number
    → HasNumbers new (packets ++ x ∷ [])
has-more old new packets x h fits (inl known) =
    subst (λ m. HasNumbers m (packets ++ x ∷ [])) (sym known.same)
    (known-step old packets x _ (longer packets x) fits h known.number_is)
has-more old new packets x h fits (inr fresh) =
    fresh-step old new packets x _ (longer packets x) fits h fresh

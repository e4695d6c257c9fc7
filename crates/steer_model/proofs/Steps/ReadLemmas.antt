-- The packets of frames, one by one.
use Rattle.std.proofs.Common.{ℕ, ◌+◌, ◌<◌, ◌≡◌, List, [], ◌∷◌, ◌++◌, length, get_or, ap, ◌∙◌, sym}
use Rattle.std.proofs.Common.{subst, arith, inl, inr, length-append}
use Rattle.std.proofs.lemmas.Bool.{cases_lt}
use Rattle.std.proofs.lemmas.List.{get_or_append_left, get_or-append-add}
use Rattle.history.specs.Lists.{packet_at}
use Rattle.steer_base.specs.declared.packet.Packet.{Packet}
use Rattle.steer_model.specs.Capture.FlowKeys.{FlowFits}
use Rattle.steer_model.specs.Capture.FlowNumbers.{IsNumberOf}
use Rattle.steer_model.specs.Capture.PacketLists.{HasNumbers, HasPackets, IsListOf, Takes}
use Rattle.steer_model.specs.Capture.Packets.{AreNumbered, ArePacketsOfFrames, IsOfFrame}
use Rattle.steer_model.specs.declared.numbered_packets.NumberedPackets.{NumberedPackets}
use Rattle.steer_model.specs.declared.packet_list.PacketList.{PacketList}
use Rattle.steer_model.proofs.Capture.FlowNumberLemmas.{IsLonger, has-more, longer}

-- the packets of frames, and one more
pub packets-more : (key kinds : ℕ) (frames : List (List ℕ)) (frame : List ℕ)
    (packets : List Packet) (x : Packet) → ArePacketsOfFrames key kinds frames packets
    → IsOfFrame key kinds frame x → AreNumbered (packets ++ x ∷ [])
    → ArePacketsOfFrames key kinds (frames ++ frame ∷ []) (packets ++ x ∷ [])
packets-more key kinds frames frame packets x are of numbered =
    record {
      many = length-append packets (x ∷ []) ∙ ap (λ k. k + 1) are.many
          ∙ sym (length-append frames (frame ∷ []));
      each = each;
      numbered = numbered;
    }
  where
    each : (y : ℕ) → y < length (frames ++ frame ∷ [])
        → IsOfFrame key kinds (get_or (frames ++ frame ∷ []) y [])
        (packet_at (packets ++ x ∷ []) y)
    each y within =
        let l : IsLonger packets x (packets ++ x ∷ []) = longer packets x in
        elim (cases_lt y (length frames)) [
          | inl before ↦
              subst (λ f. IsOfFrame key kinds f (packet_at (packets ++ x ∷ []) y))
              (sym (get_or_append_left frames (frame ∷ []) [] y before))
              (subst (λ p. IsOfFrame key kinds (get_or frames y []) p)
              (sym (l.old y (omega (arith, are.many, before)))) (are.each y before))
          | inr over ↦ (
              let here : y ≡ length frames = omega (
                arith,
                within,
                length-append frames (frame ∷ []),
                over,
              ) in
              let at : y ≡ length packets = omega (arith, are.many, here) in
              let last : get_or (frames ++ frame ∷ []) (length frames + 0) [] ≡ frame =
              get_or-append-add frames (frame ∷ []) 0 [] in
              let zero : length frames + 0 ≡ y = omega (arith, here) in
              subst (λ f. IsOfFrame key kinds f (packet_at (packets ++ x ∷ []) y))
              (sym last ∙ ap (λ n. get_or (frames ++ frame ∷ []) n []) zero)
              (subst (λ p. IsOfFrame key kinds frame p)
              (sym (ap (λ k. packet_at (packets ++ x ∷ []) k) at ∙ l.last)) of))
        ]

-- the packets of frames and the numbers of their flows, with the packet of one more frame
pub has-packets-more : (key kinds : ℕ) (frames : List (List ℕ)) (frame : List ℕ)
    (old new : NumberedPackets) (x : Packet) → HasPackets key kinds frames old
    → new.packets.items ≡ old.packets.items ++ x ∷ []
    → IsOfFrame key kinds frame x → FlowFits x.flow.value
    → IsNumberOf old.numbers new.numbers x.flow.value x.flow_number
    → HasPackets key kinds (frames ++ frame ∷ []) new
has-packets-more key kinds frames frame old new x has items of fits number =
    let numbers = has-more old.numbers new.numbers old.packets.items x has.numbers fits number in
    record {
      packets = subst (ArePacketsOfFrames key kinds (frames ++ frame ∷ [])) (sym items)
          (packets-more key kinds frames frame old.packets.items x has.packets of
          numbers.numbered);
      numbers = subst (HasNumbers new.numbers) (sym items) numbers;
    }

-- the packets that a list has taken are by the key with which it began
pub takes-by : (key kinds : ℕ) (first : PacketList) (frames : List (List ℕ)) (list : PacketList)
    → IsListOf key kinds [] first → Takes first frames list → IsListOf key kinds frames list
takes-by key kinds first frames list began taken =
    let same_key : taken.key ≡ key = sym taken.empty.key_is ∙ began.key_is in
    let same_kinds : taken.kinds ≡ kinds = sym taken.empty.kinds_are ∙ began.kinds_are in
    subst (λ k. IsListOf k kinds frames list) same_key
    (subst (λ k. IsListOf taken.key k frames list) same_kinds taken.is)

-- Frames whose flows wait for their numbers.
use Rattle.std.proofs.Common.{ℕ, ◌≡◌, Option, None, List, [], ◌∷◌}
use Rattle.std.proofs.Common.{◌++◌, length, ap, arith, ◌∙◌, sym, subst}
use Rattle.std.proofs.lemmas.List.{append_assoc, append-nil, map-append}
use Rattle.flow_dissector.specs.Frame.{flow_of}
use Rattle.steer_base.specs.declared.flow.Flow.{Flow}
use Rattle.steer_base.specs.declared.flow.Flow.TheVariants as flow
use Rattle.steer_model.specs.Capture.PacketLists.{HasPackets, IsListOf, IsSettledListOf}
use Rattle.steer_model.specs.Capture.PacketLists.{dissected_of}
use Rattle.steer_model.specs.State.Ranges.{AreOfFlows}
use Rattle.steer_model.specs.declared.numbered_packets.Dissected.{Dissected}
use Rattle.steer_model.specs.declared.numbered_packets.NumberedPackets.{NumberedPackets}
use Rattle.steer_model.specs.declared.packet_list.PacketList.{PacketList}
use Rattle.toeplitz.specs.Flows.{hash_of_flow}

-- what is read behind the last of the frames that wait
abbrev pub no_frame : Dissected
no_frame = record { flow = flow.Bare; hash = None; len = 0 }

-- a list of which no frame waits has the packets of all of them
pub settled-list : (key kinds : ℕ) (frames : List (List ℕ)) (list : PacketList)
    → IsSettledListOf key kinds frames list → IsListOf key kinds frames list
settled-list key kinds frames list is =
    record {
      key_is = is.key_is;
      kinds_are = is.kinds_are;
      done = frames;
      waiting = [];
      frames_are = append-nil frames;
      packets = is.packets;
      others = sym is.none;
    }

-- what is kept of a frame, by its parts
kept : Flow → Option ℕ → ℕ → Dissected
kept flow hash len = record { flow = flow; hash = hash; len = len }

-- it has the flow of the frame, the hash of the flow, and the length
dissected-is : (key kinds : ℕ) (frame : List ℕ) (x : Dissected) → x.flow ≡ flow_of frame
    → x.hash ≡ hash_of_flow key x.flow kinds → x.len ≡ length frame
    → dissected_of key kinds frame ≡ x
unfolding kept
dissected-is key kinds frame x flow hash len =
    ap (λ f. kept f (hash_of_flow key f kinds) (length frame)) (sym flow)
    ∙ ap (λ h. kept x.flow h (length frame)) (sym hash)
    ∙ ap (λ l. kept x.flow x.hash l) (sym len)

-- one more frame waits
pub list-waits : (key kinds : ℕ) (frames : List (List ℕ)) (frame : List ℕ) (old new : PacketList)
    (x : Dissected) → IsListOf key kinds frames old
    → new.key ≡ old.key → new.kinds.0 ≡ old.kinds.0 → new.numbered ≡ old.numbered
    → new.waiting.items ≡ old.waiting.items ++ x ∷ [] → x.flow ≡ flow_of frame
    → x.hash ≡ hash_of_flow key x.flow kinds → x.len ≡ length frame
    → IsListOf key kinds (frames ++ frame ∷ []) new
list-waits key kinds frames frame old new x is same_key same_kinds same items flow hash len =
    record {
      key_is = same_key ∙ is.key_is;
      kinds_are = same_kinds ∙ is.kinds_are;
      done = is.done;
      waiting = is.waiting ++ frame ∷ [];
      frames_are = sym (append_assoc is.done is.waiting (frame ∷ []))
          ∙ ap (λ fs. fs ++ frame ∷ []) is.frames_are;
      packets = subst (HasPackets key kinds is.done) (sym same) is.packets;
      others = map-append (dissected_of key kinds) is.waiting (frame ∷ [])
          ∙ ap (λ ds. ds ++ dissected_of key kinds frame ∷ []) is.others
          ∙ ap (λ d. old.waiting.items ++ d ∷ [])
          (dissected-is key kinds frame x flow hash len)
          ∙ sym items;
    }

-- packets that are numbered are of flows
pub numbered-of-flows : (key kinds : ℕ) (frames : List (List ℕ)) (n : NumberedPackets)
    → HasPackets key kinds frames n → AreOfFlows n.packets.items
numbered-of-flows key kinds frames n has =
    let are = has.packets in
    record {
      below = λ x lt. omega (arith, has.numbers.below x lt, has.numbers.few);
      one_hash = λ x y lt within same. (
          (are.each x (omega (arith, are.many))).hash
          ∙ ap (λ f. hash_of_flow key f kinds) (are.numbered.apart x y lt within same)
          ∙ sym (are.each y (omega (arith, are.many))).hash);
    }

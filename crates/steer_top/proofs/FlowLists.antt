-- A list of flows, and one more.
use Rattle.std.proofs.Common.{◌≡◌, ◌<◌, ℕ, List, [], ◌∷◌, ◌++◌, All, length, map, ap, refl, ◌∙◌}
use Rattle.std.proofs.lemmas.List.{get_or_append_left, map-append}
use Rattle.std.proofs.lemmas.List.Elements.{All-head, All-tail}
use Rattle.steer_base.specs.declared.flow.Flow.{Flow}
use Rattle.steer_base.specs.declared.flow.Flow.TheVariants as flow
use Rattle.steer_base.specs.declared.flow.Pair.TheVariants.{V6}
use Rattle.steer_top.specs.FlowLists.{IsEntryOf, IsWithin, flow_of_entry, pair_at}
use Rattle.steer_top.specs.declared.flow_list.Entry.{Entry}
use Rattle.steer_top.specs.declared.flow_list.Entry.TheVariants as entry
use Rattle.steer_top.specs.declared.flow_list.LongPair.{LongPair}

-- the addresses at a place stay where others are appended
pair-kept : (long more : List LongPair) (place : ℕ) → place < length long
    → pair_at (long ++ more) place ≡ pair_at long place
pair-kept long more place within =
    ap (λ (pair : LongPair). V6 pair.src pair.dst)
    (get_or_append_left long more (record { src = 0; dst = 0 }) place within)

-- and so does the flow of an entry
entry-kept : (long more : List LongPair) (e : Entry) → IsWithin long e
    → flow_of_entry (long ++ more) e ≡ flow_of_entry long e
entry-kept long more entry.Bare within = refl
entry-kept long more (entry.Two4 src dst) within = refl
entry-kept long more (entry.Four4 proto src dst sport dport) within = refl
entry-kept long more (entry.Two6 place) within = ap flow.Two (pair-kept long more place within)
entry-kept long more (entry.Four6 proto place sport dport) within =
    ap (λ pair. flow.Four pair proto sport dport) (pair-kept long more place within)

flows-kept : (long more : List LongPair) (entries : List Entry) → All (IsWithin long) entries
    → map (flow_of_entry (long ++ more)) entries ≡ map (flow_of_entry long) entries
flows-kept long more [] within = refl
flows-kept long more (e ∷ es) within =
    rw (
      entry-kept long more e (All-head (IsWithin long) e es within),
      flows-kept long more es (All-tail (IsWithin long) e es within),
    ) refl

-- the flows of a list, and the flow of an entry that was appended
pub flows-more : (old new : List LongPair) (before after : List Entry) (f : Flow) (e : Entry)
    → All (IsWithin old) before → IsEntryOf old new f e → after ≡ before ++ e ∷ []
    → map (flow_of_entry new) after ≡ map (flow_of_entry old) before ++ f ∷ []
flows-more old new before after f e within of pushed =
    let kept : map (flow_of_entry new) before ≡ map (flow_of_entry old) before =
    ap (λ long. map (flow_of_entry long) before) of.appended
    ∙ flows-kept old of.more before within in
    ap (map (flow_of_entry new)) pushed ∙ map-append (flow_of_entry new) before (e ∷ [])
    ∙ ap (λ fs. fs ++ flow_of_entry new e ∷ []) kept
    ∙ ap (λ g. map (flow_of_entry old) before ++ g ∷ []) of.is

-- The first pollers with their rings, and the first applications.
use Rattle.rtrb.specs.Ring.{known_free}
use Rattle.dev_flow_table.specs.Tables.{cleared}
use Rattle.run_words.specs.Values.{flows_word}
use Rattle.run_workers.specs.Hands.Pollers.{IsPoller}
use Rattle.workers.proofs.Names.{◌≡◌, ℕ, zero, suc, ◌<◌, false, List, [], ◌∷◌, ◌++◌, None, Some}
use Rattle.workers.proofs.Names.{length, map, refl, sym, ap, ◌∙◌, arith, slice_get, slice_index_or}
use Rattle.workers.proofs.Names.{slice_index, length-append, slice_get_within, IsPair, received}
use Rattle.workers.proofs.Names.{sent, rounded_up, journal, none-some, some-is, Plan, QueuePlan}
use Rattle.workers.proofs.Names.{Poller, ArePaired, IsFirstPoller, RingEnd}
use Rattle.workers.proofs.EachLemmas.{each_end, each_none}

-- ---- rings

no_pairs : (room : ℕ) → ArePaired room [] []
no_pairs room =
    record {
      count = refl;
      empty = each_none _;
      free = each_none _;
      pairs = each_none _;
    }

-- no ring and no poller yet
pub unpaired : (room : ℕ) (rings : List RingEnd) (pollers : List Poller) → rings ≡ []
    → pollers ≡ [] → ArePaired room rings pollers
unpaired room rings pollers none nobody = rw (none, nobody) (no_pairs room)

at_end : (ps : List Poller) (p x : Poller) (k : ℕ) → slice_get (ps ++ p ∷ []) k ≡ Some x
    → k ≡ length ps → x ≡ p
at_end [] p x zero got here = sym (some-is p x got)
at_end [] p x (suc k) got here = none-some x got
at_end (q ∷ ps) p x zero got here = absurd (omega (arith, here))
at_end (q ∷ ps) p x (suc k) got here = at_end ps p x k got (omega (arith, here))

before_end : (ps : List Poller) (p x : Poller) (k : ℕ) → k < length ps
    → slice_get (ps ++ p ∷ []) k ≡ Some x → slice_get ps k ≡ Some x
before_end [] p x k less got = absurd (omega (arith, less))
before_end (q ∷ ps) p x zero less got = got
before_end (q ∷ ps) p x (suc k) less got = before_end ps p x k (omega (arith, less)) got

-- one ring and its poller more
pub paired_end : (room : ℕ) (rings : List RingEnd) (pollers : List Poller) (r : RingEnd)
    (p : Poller) → ArePaired room rings pollers → sent r ≡ [] → known_free r ≡ room
    → IsPair r p.ring → ArePaired room (rings ++ r ∷ []) (pollers ++ p ∷ [])
paired_end room rings pollers r p are none free pair =
    record {
      count =
          let more = length-append rings (r ∷ []) in
          let too = length-append pollers (p ∷ []) in
          let same = are.count in
          omega (arith, more, too, same);
      empty = each_end (λ q x. sent x ≡ []) rings (length rings) r refl are.empty none;
      free = each_end (λ q x. known_free x ≡ room) rings (length rings) r refl are.free free;
      pairs =
          each_end
          (λ q x. (o : Poller) → slice_get (pollers ++ p ∷ []) q ≡ Some o → IsPair x o.ring)
          rings (length rings) r refl
          (λ q x got o there. are.pairs q x got o (before_end pollers p o q (below q x got) there))
          (λ o there. rw (at_end pollers p o (length rings) there are.count) pair);
    }
  where
    below : (q : ℕ) (x : RingEnd) → slice_get rings q ≡ Some x → q < length pollers
    below q x got =
        let less = slice_get_within rings q x got in
        let same = are.count in omega (arith, less, same)

-- ---- pollers

count_at : (qs : List QueuePlan) (q : ℕ) (x : QueuePlan) → q < length qs
    → x ≡ slice_index_or qs q x
    → slice_index (map (λ (queue : QueuePlan). rounded_up queue.flows) qs) q ≡ rounded_up x.flows
count_at [] q x less is = absurd (omega (arith, less))
count_at (y ∷ qs) zero x less is = ap (λ (queue : QueuePlan). rounded_up queue.flows) (sym is)
count_at (y ∷ qs) (suc q) x less is = count_at qs q x (omega (arith, less)) is

pub is_first_poller : (plan : Plan) (room q : ℕ) (x : QueuePlan) (p : Poller)
    → q < length plan.queues → x ≡ slice_index_or plan.queues q x → p.queue ≡ q
    → received p.ring ≡ [] → p.hand ≡ None → p.flows ≡ flows_word (rounded_up x.flows) 0
    → p.table ≡ cleared (rounded_up x.flows) plan.start false → p.choices ≡ journal [] room
    → p.accepted ≡ 0 → p.kept ≡ None → ((cpus : ℕ) → IsPoller cpus p)
    → IsFirstPoller plan room q p
is_first_poller plan room q x p less there queue ring hand flows table choices accepted kept is =
    let count = sym (count_at plan.queues q x less there) in
    record {
      queue = queue;
      ring = ring;
      hand = hand;
      flows = flows ∙ ap (λ n. flows_word n 0) count;
      table = table ∙ ap (λ n. cleared n plan.start false) count;
      choices = choices;
      accepted = accepted;
      kept = kept;
      is = is;
    }

-- Lists only grow: what was found of a lane is a front of what is left.
use Rattle.std.proofs.Common.{append_assoc, append-nil}
use Rattle.hop_rule.specs.Fronts.{Front, IsEarlier}
use Rattle.hop_rule.specs.Lanes as lanes
use Rattle.hop_rule.proofs.Names.{◌≡◌, ℕ, zero, suc, ◌≤◌, List, [], ◌∷◌, ◌++◌, length, Option, Some}
use Rattle.hop_rule.proofs.Names.{None, sym, refl, ap, ◌∙◌, subst, arith, length-append, slice_get}
use Rattle.hop_rule.proofs.Names.{bucket_of, lane_drop_cause, LaneLists, DropCause, put_by}
use Rattle.hop_rule.proofs.Names.{after_put, StepBy, lane_at, lanes_of, out, past, BoardSizes}
use Rattle.hop_rule.proofs.Names.{BoardStep, Change, Nothing, Offered, Pulled, LaneStep}
use Rattle.hop_rule.proofs.Boards.{lanes_more}
use Rattle.hop_rule.proofs.Lists.{none-some}
use Rattle.hop_rule.proofs.Cases.{lane_case, out_case}

-- ---- lists

pub front-same : {A : Type 0} (xs : List A) → Front xs xs
front-same xs = ([], sym (append-nil xs))

pub front-more : {A : Type 0} (xs ys zs : List A) → Front xs ys → Front ys zs → Front xs zs
front-more xs ys zs a b = (a.0 ++ b.0, b.1 ∙ (ap (λ l. l ++ b.0) a.1 ∙ append_assoc xs a.0 b.0))

pub front-length : {A : Type 0} (xs ys : List A) → Front xs ys → length xs ≤ length ys
front-length xs ys f = let n = ap length f.1 in let m = length-append xs f.0 in omega arith

get-more : {A : Type 0} (xs more : List A) (i : ℕ) (x : A) → slice_get xs i ≡ Some x
    → slice_get (xs ++ more) i ≡ Some x
get-more [] more i x e = none-some x e
get-more (y ∷ xs) more zero x e = e
get-more (y ∷ xs) more (suc i) x e = get-more xs more i x e

pub front-get : {A : Type 0} (xs ys : List A) (i : ℕ) (x : A) → Front xs ys
    → slice_get xs i ≡ Some x → slice_get ys i ≡ Some x
front-get xs ys i x f at = ap (λ l. slice_get l i) f.1 ∙ get-more xs f.0 i x at

pub get-pushed : {A : Type 0} (xs : List A) (x : A) → slice_get (xs ++ x ∷ []) (length xs) ≡ Some x
get-pushed [] x = refl
get-pushed (y ∷ xs) x = get-pushed xs x

-- ---- lanes

pub earlier-same : (x : LaneLists) → IsEarlier x x
earlier-same x = record {
  accepted = front-same x.accepted;
  drops = front-same x.drops;
  offers =
      front-same x.offers;
  pulled = omega arith;
}

pub earlier-more : (x y z : LaneLists) → IsEarlier x y → IsEarlier y z → IsEarlier x z
earlier-more x y z a b = let p = a.pulled in let q = b.pulled in record {
  accepted = front-more x.accepted y.accepted z.accepted a.accepted b.accepted;
  drops = front-more x.drops y.drops z.drops a.drops b.drops;
  offers = front-more x.offers y.offers z.offers a.offers b.offers;
  pulled = omega arith;
}

put_later : (x : LaneLists) (id : ℕ) (hash : Option ℕ) → IsEarlier x (after_put x id hash)
put_later x id hash = by_cause (lane_drop_cause x hash)
  where
    by_cause : (cause : Option DropCause) → IsEarlier x (put_by cause x id (bucket_of hash))
    by_cause None = record {
      accepted = (id ∷ [], refl);
      drops = front-same x.drops;
      offers =
          (bucket_of hash ∷ [], refl);
      pulled = omega arith;
    }
    by_cause (Some cause) = record {
      accepted = front-same x.accepted;
      drops = (_, refl);
      offers =
          (bucket_of hash ∷ [], refl);
      pulled = omega arith;
    }

change_later : (c : Change) (x : LaneLists) → IsEarlier x (lanes.lane_changed c x)
change_later Nothing x = earlier-same x
change_later (Offered id hash answer) x = put_later x id hash
change_later (Pulled id) x = record {
  accepted = front-same x.accepted;
  drops =
      front-same x.drops;
  offers = front-same x.offers;
  pulled = omega arith;
}

module _ (about : BoardSizes) where
  lanes_later : (new old : List (StepBy LaneStep)) (l : ℕ) → IsEarlier (lanes.lane about l old)
      (lanes.lane about l (new ++ old))
  lanes_later [] old l = earlier-same (lanes.lane about l old)
  lanes_later (e ∷ es) old l = let x : LaneLists = lanes.lane about l (es ++ old) in
      earlier-more (lanes.lane about l old) x (lanes.lane_after_step l e.step x)
      (lanes_later es old l)
      (lane_case (IsEarlier x) l e.step x (λ c _. change_later c x) (earlier-same x))

  outs_later : (new old : List (StepBy LaneStep)) (o : ℕ) → Front (lanes.out o old)
      (lanes.out o (new ++ old))
  outs_later [] old o = front-same (lanes.out o old)
  outs_later (e ∷ es) old o = let xs : List ℕ = lanes.out o (es ++ old) in
      front-more (lanes.out o old) xs (lanes.out_after o e.step xs) (outs_later es old o)
      (out_case (Front xs) o e.step xs (λ from id place _. (id ∷ [], refl)) (front-same xs))

  pub lane_later : (order : List (StepBy BoardStep)) (m n l : ℕ) → m ≤ n
      → IsEarlier (lane_at about (past m order) l) (lane_at about (past n order) l)
  lane_later order m n l le = let t = lanes_more order m n le in
      subst (λ (z : List (StepBy LaneStep)). IsEarlier (lane_at about (past m order) l)
      (lanes.lane about l z)) (sym t.1) (lanes_later t.0 (lanes_of (past m order)) l)

  pub out_later : (order : List (StepBy BoardStep)) (m n o : ℕ) → m ≤ n
      → Front (out about (past m order) o) (out about (past n order) o)
  out_later order m n o le = let t = lanes_more order m n le in
      subst (λ (z : List (StepBy LaneStep)). Front (out about (past m order) o) (lanes.out o z))
      (sym t.1) (outs_later t.0 (lanes_of (past m order)) o)

  pub accepted_later : (order : List (StepBy BoardStep)) (m n l i x : ℕ) → m ≤ n
      → slice_get (lane_at about (past m order) l).accepted i ≡ Some x
      → slice_get (lane_at about (past n order) l).accepted i ≡ Some x
  accepted_later order m n l i x le at = front-get (lane_at about (past m order) l).accepted
      (lane_at about (past n order) l).accepted i x (lane_later order m n l le).accepted at

  pub count_later : (order : List (StepBy BoardStep)) (m n l : ℕ) → m ≤ n
      → length (lane_at about (past m order) l).accepted ≤ length
      (lane_at about (past n order) l).accepted
  count_later order m n l le = front-length (lane_at about (past m order) l).accepted
      (lane_at about (past n order) l).accepted (lane_later order m n l le).accepted

  pub out_count_later : (order : List (StepBy BoardStep)) (m n o : ℕ) → m ≤ n
      → length (out about (past m order) o) ≤ length (out about (past n order) o)
  out_count_later order m n o le = front-length (out about (past m order) o)
      (out about (past n order) o) (out_later order m n o le)

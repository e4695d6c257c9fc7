-- The actor that a worker plays, and what its call asks for.
use Rattle.std.proofs.Common.{Vec, slice_index_or, vec_len}
use Rattle.std.proofs.lemmas.Option.{slice_get_read}
use Rattle.run_words.specs.Numbers.{word_count}
use Rattle.run_workers.specs.Hands.Drains.{outs_of}
use Rattle.run_workers.specs.Stages.{HasSizes}
use Rattle.run_workers.proofs.Names.{◌≡◌, ℕ, ◌<◌, ◌≤◌, Some, slice_get, sym, subst, ◌∙◌, Setup}
use Rattle.run_workers.proofs.Names.{Exit, Server, KeepsServer, StageView, IsWorking, Seats, Worker}

-- the item that was read at an index is there
pub read_at : {A Z : Type 0} (v : Vec A Z) (i : ℕ) (x : A) → i < vec_len v
    → x ≡ slice_index_or v.items i x → slice_get v.items i ≡ Some x
read_at v i x less read = slice_get_read v.items (vec_len v) i x v.ok.0 less read

pub outs_within : (given : Setup) (exit out : Exit) (outs : ℕ) → exit ≡ out
    → outs_of out given ≤ outs → outs_of exit given ≤ outs
outs_within given exit out outs same within =
    subst (λ z. outs_of z given ≤ outs) (sym same) within

-- there are words for as many packets as an actor has room for
pub words_within : (t : StageView) (room : ℕ) → room ≡ t.rx.sizes.room → HasSizes t
    → word_count room ≤ t.shared.hints.words
words_within t room same sizes =
    subst (λ n. word_count n ≤ t.shared.hints.words) (sym same) sizes.words

pub reply_room : (t : StageView) (w : Worker) (s : Seats) (x : IsWorking t w s) (k : ℕ) (v : Server)
    → KeepsServer t s x.rows x.replies x.noted k v → v.sent.room ≡ t.tx.sizes.room
reply_room t w s x k v kept = kept.room ∙ sym x.sizes.room

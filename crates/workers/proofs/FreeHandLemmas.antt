-- If no worker has a packet in hand, no actor has.
use Rattle.std.specs.List.{list_all}
use Rattle.std.specs.Option.{is_none}
use Rattle.std.specs.Prelude.{◌&&◌, slice_get}
use Rattle.run_workers.specs.Workers.{drains_are_free, pollers_are_free, servers_are_free}
use Rattle.run_workers.specs.declared.worker.Worker.{Worker}
use Rattle.run_crew.proofs.ChoiceFunctions.{none-some, some-is}
use Rattle.workers.proofs.Names.{◌≡◌, ℕ, zero, suc, List, [], ◌∷◌, Bool, true, false, Option, None}
use Rattle.workers.proofs.Names.{Some, refl, ap, ◌∙◌, Drain, Poller, Server, is_free, all_free}
use Rattle.workers.proofs.Names.{Seated}

both-true : (b c : Bool) → (b && c) ≡ true → (b ≡ true) × (c ≡ true)
both-true true c is = (refl, is)
both-true false c is = cc

is-none : {A : Type 0} (o : Option A) → is_none o ≡ true → o ≡ None
is-none None is = refl
is-none (Some x) is = cc

all-at : {A : Type 0} (test : A → Bool) (xs : List A) (k : ℕ) (x : A)
    → list_all test xs ≡ true → slice_get xs k ≡ Some x → test x ≡ true
all-at test [] k x all there = none-some x there
all-at test (y ∷ ys) zero x all there =
    ap test (some-is x y (sym-some there)) ∙ (both-true (test y) (list_all test ys) all).0
  where
    sym-some : Some y ≡ Some x → Some x ≡ Some y
    sym-some same = cc
all-at test (y ∷ ys) (suc k) x all there =
    all-at test ys k x (both-true (test y) (list_all test ys) all).1 there

module _ (crew : List Seated) (free : all_free crew ≡ true) (w : ℕ) (x : Seated)
    (there : slice_get crew w ≡ Some x) where
  abbrev own : Worker
  own = x.worker

  is-free : is_free own ≡ true
  is-free = all-at (λ (y : Seated). is_free y.worker) crew w x free there

  parts : (pollers_are_free own.pollers.items ≡ true)
      × (drains_are_free own.drains.items ≡ true) × (servers_are_free own.servers.items ≡ true)
      × (drains_are_free own.ships.items ≡ true)
  parts =
      let a = both-true _ _ is-free in
      let b = both-true _ _ a.1 in
      let c = both-true _ _ b.1 in (a.0, b.0, c.0, c.1)

  pub poller-hand : (k : ℕ) (p : Poller) → slice_get own.pollers.items k ≡ Some p → p.hand ≡ None
  poller-hand k p at =
      is-none p.hand (all-at (λ (q : Poller). is_none q.hand) own.pollers.items k p parts.0 at)

  pub drain-hand : (k : ℕ) (d : Drain) → slice_get own.drains.items k ≡ Some d → d.hand ≡ None
  drain-hand k d at =
      is-none d.hand (all-at (λ (e : Drain). is_none e.hand) own.drains.items k d parts.1 at)

  pub server-hand : (k : ℕ) (v : Server) → slice_get own.servers.items k ≡ Some v → v.hand ≡ None
  server-hand k v at =
      is-none v.hand (all-at (λ (u : Server). is_none u.hand) own.servers.items k v parts.2 at)

  pub ship-hand : (k : ℕ) (d : Drain) → slice_get own.ships.items k ≡ Some d → d.hand ≡ None
  ship-hand k d at =
      is-none d.hand (all-at (λ (e : Drain). is_none e.hand) own.ships.items k d parts.3 at)

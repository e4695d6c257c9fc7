-- How far a step lets the lists of writes and of commands grow.
use Rattle.std.proofs.Common.{ℕ, ◌+◌, ◌≤◌, ◌≡◌, List, length, ap, ◌∙◌, sym, subst, arith, refl}
use Rattle.hop_model.specs.Hop.{placed_of}
use Rattle.history.specs.Lists.{list_at}
use Rattle.history.specs.declared.sock_write.SockWrite.{SockWrite}
use Rattle.steer_model.specs.State.Machine.{Machine}
use Rattle.steer_core.specs.Rooms.{HasSpare}
use Rattle.steer_core.specs.Running.{Rooms}
use Rattle.steer_core.proofs.QuietLemmas.{Quiet}

-- Between two machines each application has no more new writes than new puts, and there are no new
-- commands, but for so many of each.
pub record Paced (writes commands : ℕ) (m n : Machine) : Type 0 where
  pub setup : n.setup ≡ m.setup
  pub written : (a : ℕ)
      → length (list_at n.writes a) + placed_of m.tx a ≤ length
      (list_at m.writes a) + placed_of n.tx a + writes
  pub listed : length n.commands ≤ length m.commands + commands

pub paced-refl : (m : Machine) → Paced 0 0 m m
paced-refl m = record { setup = refl; written = λ a. omega arith; listed = omega arith }

pub paced-trans : (m n o : Machine) → Paced 0 0 m n → Paced 0 0 n o → Paced 0 0 m o
paced-trans m n o a b =
    let x = a.listed in let y = b.listed in
    record {
      setup = b.setup ∙ a.setup;
      written = λ p. let u = a.written p in let v = b.written p in omega (arith, u, v);
      listed = omega (arith, x, y);
    }

-- a quiet step is paced
pub quiet-paced : (m n : Machine) → Quiet m n → Paced 0 0 m n
quiet-paced m n q =
    record {
      setup = q.setup;
      written = λ a. (
          let w : length (list_at n.writes a) ≡ length (list_at m.writes a) =
          ap (λ (l : List (List SockWrite)). length (list_at l a)) q.writes in
          let p = q.placed a in omega (arith, w, p));
      listed = (let c = ap length q.commands in omega (arith, c));
    }

pub paced-more : (writes commands : ℕ) (m n : Machine) → Paced 0 0 m n → Paced writes commands m n
paced-more writes commands m n p =
    let l = p.listed in
    record {
      setup = p.setup;
      written = λ a. let w = p.written a in omega (arith, w);
      listed = omega (arith, l);
    }

-- the room for writes stays
pub spare-paced : (rooms : Rooms) (m n : Machine) → Paced 0 0 m n → HasSpare rooms m
    → HasSpare rooms n
spare-paced rooms m n p spare a =
    let e : length n.setup.packets ≡ length m.setup.packets = ap (λ q. length q.packets) p.setup in
    let w = p.written a in let s = spare a in omega (arith, e, w, s)

pub paced-listed : (m n : Machine) → Paced 1 0 m n → Paced 1 1 m n
paced-listed m n p =
    let l = p.listed in record { setup = p.setup; written = p.written; listed = omega (arith, l) }

-- also where the second machine and the rooms are known by equations
pub spare_at : (rooms now : Rooms) (m n o : Machine) → n ≡ o → now ≡ rooms → Paced 0 0 m o
    → HasSpare rooms m
    → HasSpare now n
spare_at rooms now m n o is same p spare =
    subst (λ (r : Rooms). HasSpare r n) (sym same)
    (subst (λ (k : Machine). HasSpare rooms k) (sym is) (spare-paced rooms m o p spare))

-- What a command's tries have done so far.
use Rattle.std.proofs.Common.{◌-◌}
use Rattle.steer_base.specs.Journals.{Journal, grown}
use Rattle.hop_rule.specs.declared.sizes.TheConstants.{MAX_OPENINGS}
use Rattle.steer_model.specs.Good.Commands.{is_busy}
use Rattle.run_controller.specs.Attempts.{Attempts}
use Rattle.run_controller.specs.Journals.{AllAttempted, Attempted, IsReady, known_by}
use Rattle.run_controller.specs.declared.controller.Controller.{Controller}
use Rattle.run_controller.proofs.Names.{◌≡◌, ℕ, ◌+◌, ◌^◌, ◌<◌, ◌≤◌, true, false, List, [], ◌∷◌}
use Rattle.run_controller.proofs.Names.{◌++◌, length, refl, sym, ap, subst, ◌∙◌, arith}
use Rattle.run_controller.proofs.Names.{append_assoc, length-append, Answer, Command, Commanded}
use Rattle.run_controller.proofs.Names.{oldest_first, IsGivenOnce, known_from, IsKnown}
use Rattle.run_controller.proofs.Names.{KnownSettings, AreSeated, IsNamed, Stage, Seats}
use Rattle.run_controller.proofs.GivingLemmas.{AllBusy, busy-more, ends_busy, ends_done}
use Rattle.run_controller.proofs.KnownLemmas.{known_later, known_more}
use Rattle.run_controller.proofs.ListLemmas.{append-none, journal-more}
use Rattle.run_controller.proofs.TryLemmas.{attempt_seated}

-- ---- journals

pub attempted_none : (s : Stage) (journal : List Commanded) (known : KnownSettings) (seats : Seats)
    → Attempted s journal journal known known seats seats
attempted_none s journal known seats =
    record { late = []; journal = sym (append-none journal); attempted = refl; known = refl }

-- a try more
pub attempted_more : (s : Stage) (before now after : List Commanded)
    (first mid last : KnownSettings) (old seats new : Seats) (g : Commanded)
    → Attempted s before now first mid old seats → after ≡ now ++ g ∷ []
    → Attempts s mid g.command g.answer seats new → last ≡ known_by mid g
    → Attempted s before after first last old new
attempted_more s before now after first mid last old seats new g a journal tried known =
    record {
      late = g ∷ a.late;
      journal = journal-more before a.late now after g a.journal journal;
      attempted = (
        seats,
        a.attempted,
        subst (λ k. Attempts s k g.command g.answer seats new) a.known tried,
      );
      known = known ∙ ap (λ k. known_by k g) a.known;
    }

-- tries behind tries
known-joined : (first : KnownSettings) (older newer : List Commanded)
    → known_from first (newer ++ older) ≡ known_from (known_from first older) newer
known-joined first older [] = refl
known-joined first older (g ∷ gs) = ap (λ k. known_by k g) (known-joined first older gs)

all_joined : (s : Stage) (first : KnownSettings) (older newer : List Commanded)
    (old mid new : Seats) → AllAttempted s first older old mid
    → AllAttempted s (known_from first older) newer mid new
    → AllAttempted s first (newer ++ older) old new
all_joined s first older [] old mid new a same =
    subst (AllAttempted s first older old) (sym same) a
all_joined s first older (g ∷ newer) old mid new a (seats, b, tried) = (
  seats,
  all_joined s first older newer old mid seats a b,
  subst (λ k. Attempts s k g.command g.answer seats new) (sym (known-joined first older newer))
      tried,
)

oldest-append : (xs ys : List Commanded)
    → oldest_first (xs ++ ys) ≡ oldest_first ys ++ oldest_first xs
oldest-append [] ys = sym (append-none (oldest_first ys))
oldest-append (x ∷ xs) ys =
    ap (λ z. z ++ x ∷ []) (oldest-append xs ys)
    ∙ append_assoc (oldest_first ys) (oldest_first xs) (x ∷ [])

pub attempted_joined : (s : Stage) (before now after : List Commanded)
    (first mid last : KnownSettings) (old seats new : Seats)
    → Attempted s before now first mid old seats → Attempted s now after mid last seats new
    → Attempted s before after first last old new
attempted_joined s before now after first mid last old seats new a b =
    record {
      late = b.late ++ a.late;
      journal =
          b.journal
          ∙ (ap (λ zs. zs ++ oldest_first b.late) a.journal
          ∙ (append_assoc before (oldest_first a.late) (oldest_first b.late)
          ∙ ap (λ zs. before ++ zs) (sym (oldest-append b.late a.late))));
      attempted =
          all_joined s first a.late b.late old seats new a.attempted
          (subst (λ k. AllAttempted s k b.late seats new) a.known b.attempted);
      known = b.known
          ∙ (ap (λ k. known_from k b.late) a.known ∙ sym (known-joined first a.late b.late));
    }

-- ---- one command

-- so many tries of a command were made, each of them busy
pub record Waits (s : Stage) (c : Command) (count : ℕ) (before now : Controller)
    (old new : Seats) : Type 0 where
  pub block : List Commanded
  pub journal : now.commands.items ≡ before.commands.items ++ block
  pub all : AllBusy c block
  pub size : length block ≡ count
  pub attempted : Attempted s before.commands.items now.commands.items before.known now.known old
      new
  pub ready : IsReady s now new
  pub room : now.commands.room ≡ before.commands.room

-- a command was given
pub record IsGiven (s : Stage) (tries : ℕ) (c : Command) (before after : Controller)
    (old new : Seats) : Type 0 where
  pub once : IsGivenOnce tries c before.commands.items after.commands.items
  pub attempted : Attempted s before.commands.items after.commands.items before.known after.known
      old new
  pub ready : IsReady s after new
  pub room : after.commands.room ≡ before.commands.room

pub waits_none : (s : Stage) (c : Command) (before : Controller) (old : Seats)
    → IsReady s before old → Waits s c 0 before before old old
waits_none s c before old ready =
    record {
      block = [];
      journal = sym (append-none before.commands.items);
      all = tt;
      size = refl;
      attempted = attempted_none s before.commands.items before.known old;
      ready = ready;
      room = refl;
    }

-- the journal is as long as the tries
waits-size : (s : Stage) (c : Command) (count : ℕ) (before now : Controller) (old new : Seats)
    → Waits s c count before now old new
    → length now.commands.items ≡ length before.commands.items + count
waits-size s c count before now old new w =
    let all = length-append before.commands.items w.block in
    let is : length now.commands.items ≡ length (before.commands.items ++ w.block) =
    ap length w.journal in
    let size = w.size in
    omega (arith, all, is, size)

pub seated_later : (s : Stage) (most more : ℕ) (seats : Seats) → most ≤ more
    → AreSeated s most seats → AreSeated s more seats
seated_later s most more seats least is =
    let rx = is.rx_opened in
    let tx = is.tx_opened in
    record {
      rx = is.rx;
      tx = is.tx;
      hint = is.hint;
      rx_opened = omega (arith, rx, least);
      tx_opened = omega (arith, tx, least);
    }

-- a try more may be made and noted
pub record MayTry (s : Stage) (now : Controller) (seats : Seats) : Type 0 where
  pub seated : AreSeated s (MAX_OPENINGS - 1) seats
  pub known : IsKnown s.shared.given (2 ^ 32 - 2) now.known
  pub room : length now.commands.items < now.commands.room

pub may_try : (s : Stage) (c : Command) (tries count : ℕ) (before now : Controller)
    (old new : Seats) → Waits s c count before now old new → count < tries
    → length before.commands.items + tries ≤ before.commands.room → MayTry s now new
may_try s c tries count before now old new w less enough =
    let size = waits-size s c count before now old new w in
    let room = w.room in
    let few = w.ready.few in
    record {
      seated = seated_later s (length now.commands.items) (MAX_OPENINGS - 1) new
          (omega (arith, size, room, few, less, enough)) w.ready.seated;
      known = known_later s.shared.given (length now.commands.items) (2 ^ 32 - 2) now.known
          (omega (arith, size, room, few, less, enough)) w.ready.known;
      room = omega (arith, size, room, less, enough);
    }

-- what a noted try adds
pub record IsNoted (s : Stage) (c : Command) (answer : Answer) (now after : Controller)
    (seats new : Seats) : Type 0 where
  pub tried : Attempts s now.known c answer seats new
  pub known : after.known ≡ known_by now.known (record { command = c; answer = answer })
  pub noted : after.commands ≡ grown now.commands (record { command = c; answer = answer })

module _ (s : Stage) (c : Command) (count : ℕ) (before now after : Controller)
    (old seats new : Seats) (answer : Answer) (named : IsNamed s.shared.given c)
    (w : Waits s c count before now old seats) (n : IsNoted s c answer now after seats new) where
  abbrev g : Commanded
  g = record { command = c; answer = answer }

  abbrev items-are : after.commands.items ≡ now.commands.items ++ g ∷ []
  items-are = ap (λ (j : Journal Commanded). j.items) n.noted

  noted_attempted : Attempted s before.commands.items after.commands.items before.known
      after.known old new
  noted_attempted =
      attempted_more s before.commands.items now.commands.items after.commands.items before.known
      now.known after.known old seats new g w.attempted items-are n.tried n.known

  noted_room : after.commands.room ≡ before.commands.room
  noted_room = ap (λ (j : Journal Commanded). j.room) n.noted ∙ w.room

  noted_ready : IsReady s after new
  noted_ready =
      let many = length-append now.commands.items (g ∷ []) in
      let is : length after.commands.items ≡ length (now.commands.items ++ g ∷ []) =
      ap length items-are in
      let size : length now.commands.items + 1 ≡ length after.commands.items =
      omega (arith, many, is) in
      record {
        seated = subst (λ k. AreSeated s k new) size
            (attempt_seated s (length now.commands.items) seats new w.ready.seated now.known c
            answer n.tried);
        known = subst (λ (z : ℕ × KnownSettings). IsKnown s.shared.given z.0 z.1)
            (λ j. (size j, sym n.known j))
            (known_more s.shared.given (length now.commands.items) now.known g named
            w.ready.known);
        few = subst (λ k. k ≤ 64000000) (sym (ap (λ (j : Journal Commanded). j.room) n.noted))
            w.ready.few;
      }

  noted_journal : after.commands.items ≡ before.commands.items ++ (w.block ++ g ∷ [])
  noted_journal =
      items-are
      ∙ (ap (λ zs. zs ++ g ∷ []) w.journal
      ∙ append_assoc before.commands.items w.block (g ∷ []))

  -- the command is still busy
  pub waits_more : is_busy answer ≡ true → Waits s c (count + 1) before after old new
  waits_more busy =
      let many = length-append w.block (g ∷ []) in
      let size = w.size in
      record {
        block = w.block ++ g ∷ [];
        journal = noted_journal;
        all = busy-more c w.block g w.all refl busy;
        size = omega (arith, many, size);
        attempted = noted_attempted;
        ready = noted_ready;
        room = noted_room;
      }

  -- the command is not busy any more
  pub given_done : (tries : ℕ) → count < tries → is_busy answer ≡ false
      → IsGiven s tries c before after old new
  given_done tries less ends =
      let size = w.size in
      record {
        once = record {
          block = w.block ++ g ∷ [];
          journal = noted_journal;
          tried = ends_done tries c w.block g w.all (omega (arith, size, less)) refl ends;
        };
        attempted = noted_attempted;
        ready = noted_ready;
        room = noted_room;
      }

-- its tries are used up
pub given_busy : (s : Stage) (c : Command) (tries count : ℕ) (before now : Controller)
    (old new : Seats) → Waits s c count before now old new → 1 ≤ tries → count ≡ tries
    → IsGiven s tries c before now old new
given_busy s c tries count before now old new w some all =
    record {
      once = record {
        block = w.block;
        journal = w.journal;
        tried = ends_busy tries c w.block w.all some (w.size ∙ all);
      };
      attempted = w.attempted;
      ready = w.ready;
      room = w.room;
    }

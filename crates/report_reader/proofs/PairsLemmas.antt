-- Commands by the words of their lines.
use Rattle.std.proofs.Common.{ℕ, ◌≡◌, ◌<◌, ◌^◌, true, false, List, decimal, refl, sym, ◌∙◌}
use Rattle.std.specs.Prelude.{codes}
use Rattle.std.specs.Str.{bytes_eq}
use Rattle.std.proofs.lemmas.Slice.Eq.{bytes_eq-Decides}
use Rattle.report.specs.Commands.{cpus_field, queues_field}
use Rattle.steer_base.specs.declared.command.Command.{Command}
use Rattle.steer_base.specs.declared.command.Command.TheVariants as command
use Rattle.steer_base.specs.declared.cpu_mask.CpuMask.{CpuMask}
use Rattle.report_reader.specs.Commands.{ShowsCommand, has_pair}
use Rattle.report_reader.specs.Seen.{field_at}

differ : (v w : List ℕ) → bytes_eq v w ≡ false → v ≡ w → ⊥
differ v w f e = let t : bytes_eq v w ≡ true = (bytes_eq-Decides v w).1 e in cc

module _ (fs : List (List ℕ)) (q : ℕ) (hq : (n : ℕ) → n < 2 ^ 8 → field_at fs 3 ≡ decimal n → q ≡ n)
  where
    pub pair-mask : (c : Command) (m : CpuMask) → ShowsCommand fs c → field_at fs 2 ≡ codes "mask"
        → ((k : CpuMask) → k.0 < 2 ^ 32 → field_at fs 4 ≡ cpus_field k → m ≡ k)
        → command.Mask q m ≡ c
    pair-mask (command.Mask p k) m s e h = let x : q ≡ p = hq p s.2 s.1 in let y : m ≡ k =
        h k s.4 s.3 in λ i. command.Mask (x i) (y i)
    pair-mask (command.Flows p k) m s e h =
        absurd (differ (codes "flows") (codes "mask") refl (sym s.0 ∙ e))
    pair-mask (command.Sock k) m s e h =
        absurd (differ (codes "sock") (codes "mask") refl (sym s.0 ∙ e))
    pair-mask (command.Offline k) m s e h =
        absurd (differ (codes "offline") (codes "mask") refl (sym s.0 ∙ e))
    pair-mask (command.Online k) m s e h =
        absurd (differ (codes "online") (codes "mask") refl (sym s.0 ∙ e))
    pair-mask (command.XCpus p k) m s e h =
        absurd (differ (codes "xcpus") (codes "mask") refl (sym s.0 ∙ e))
    pair-mask (command.XQueues p k) m s e h =
        absurd (differ (codes "xqueues") (codes "mask") refl (sym s.0 ∙ e))
    pair-mask (command.Reta p k) m s e h =
        absurd (differ (codes "reta") (codes "mask") refl (sym s.0 ∙ e))
    pair-mask (command.Stand p k) m s e h =
        absurd (differ (codes "stand") (codes "mask") refl (sym s.0 ∙ e))
    pair-mask command.Expire m s e h =
        absurd (differ (codes "expire") (codes "mask") refl (sym s ∙ e))

    pub pair-xcpus : (c : Command) (m : CpuMask) → ShowsCommand fs c → field_at fs 2 ≡ codes "xcpus"
        → ((k : CpuMask) → k.0 < 2 ^ 32 → field_at fs 4 ≡ cpus_field k → m ≡ k)
        → command.XCpus q m ≡ c
    pair-xcpus (command.XCpus p k) m s e h = let x : q ≡ p = hq p s.2 s.1 in let y : m ≡ k =
        h k s.4 s.3 in λ i. command.XCpus (x i) (y i)
    pair-xcpus (command.Mask p k) m s e h =
        absurd (differ (codes "mask") (codes "xcpus") refl (sym s.0 ∙ e))
    pair-xcpus (command.Flows p k) m s e h =
        absurd (differ (codes "flows") (codes "xcpus") refl (sym s.0 ∙ e))
    pair-xcpus (command.Sock k) m s e h =
        absurd (differ (codes "sock") (codes "xcpus") refl (sym s.0 ∙ e))
    pair-xcpus (command.Offline k) m s e h =
        absurd (differ (codes "offline") (codes "xcpus") refl (sym s.0 ∙ e))
    pair-xcpus (command.Online k) m s e h =
        absurd (differ (codes "online") (codes "xcpus") refl (sym s.0 ∙ e))
    pair-xcpus (command.XQueues p k) m s e h =
        absurd (differ (codes "xqueues") (codes "xcpus") refl (sym s.0 ∙ e))
    pair-xcpus (command.Reta p k) m s e h =
        absurd (differ (codes "reta") (codes "xcpus") refl (sym s.0 ∙ e))
    pair-xcpus (command.Stand p k) m s e h =
        absurd (differ (codes "stand") (codes "xcpus") refl (sym s.0 ∙ e))
    pair-xcpus command.Expire m s e h =
        absurd (differ (codes "expire") (codes "xcpus") refl (sym s ∙ e))

    pub pair-xqueues : (c : Command) (m : ℕ) → ShowsCommand fs c → field_at fs 2 ≡ codes "xqueues"
        → ((k : ℕ) → k < 2 ^ 16 → field_at fs 4 ≡ queues_field k → m ≡ k) → command.XQueues q m ≡ c
    pair-xqueues (command.XQueues p k) m s e h = let x : q ≡ p = hq p s.2 s.1 in let y : m ≡ k =
        h k s.4 s.3 in λ i. command.XQueues (x i) (y i)
    pair-xqueues (command.Mask p k) m s e h =
        absurd (differ (codes "mask") (codes "xqueues") refl (sym s.0 ∙ e))
    pair-xqueues (command.Flows p k) m s e h =
        absurd (differ (codes "flows") (codes "xqueues") refl (sym s.0 ∙ e))
    pair-xqueues (command.Sock k) m s e h =
        absurd (differ (codes "sock") (codes "xqueues") refl (sym s.0 ∙ e))
    pair-xqueues (command.Offline k) m s e h =
        absurd (differ (codes "offline") (codes "xqueues") refl (sym s.0 ∙ e))
    pair-xqueues (command.Online k) m s e h =
        absurd (differ (codes "online") (codes "xqueues") refl (sym s.0 ∙ e))
    pair-xqueues (command.XCpus p k) m s e h =
        absurd (differ (codes "xcpus") (codes "xqueues") refl (sym s.0 ∙ e))
    pair-xqueues (command.Reta p k) m s e h =
        absurd (differ (codes "reta") (codes "xqueues") refl (sym s.0 ∙ e))
    pair-xqueues (command.Stand p k) m s e h =
        absurd (differ (codes "stand") (codes "xqueues") refl (sym s.0 ∙ e))
    pair-xqueues command.Expire m s e h =
        absurd (differ (codes "expire") (codes "xqueues") refl (sym s ∙ e))

    pub pair-stand : (c : Command) (m : ℕ) → ShowsCommand fs c → has_pair c ≡ true
        → (field_at fs 2 ≡ codes "mask" → ⊥) → (field_at fs 2 ≡ codes "flows" → ⊥)
        → (field_at fs 2 ≡ codes "xcpus" → ⊥)
        → (field_at fs 2 ≡ codes "xqueues" → ⊥) → (field_at fs 2 ≡ codes "reta" → ⊥)
        → ((k : ℕ) → k < 2 ^ 8 → field_at fs 4 ≡ decimal k → m ≡ k) → command.Stand q m ≡ c
    pair-stand (command.Stand p k) m s e a b d f g h =
        let x : q ≡ p = hq p s.2 s.1 in
        let y : m ≡ k = h k s.4 s.3 in
        λ i. command.Stand (x i) (y i)
    pair-stand (command.Mask p k) m s e a b d f g h = absurd (a s.0)
    pair-stand (command.Flows p k) m s e a b d f g h = absurd (b s.0)
    pair-stand (command.XCpus p k) m s e a b d f g h = absurd (d s.0)
    pair-stand (command.XQueues p k) m s e a b d f g h = absurd (f s.0)
    pair-stand (command.Reta p k) m s e a b d f g h = absurd (g s.0)
    pair-stand (command.Sock k) m s e a b d f g h = absurd (cc)
    pair-stand (command.Offline k) m s e a b d f g h = absurd (cc)
    pair-stand (command.Online k) m s e a b d f g h = absurd (cc)
    pair-stand command.Expire m s e a b d f g h = absurd (cc)

pub pair-left : (fs : List (List ℕ)) (c : Command) → ShowsCommand fs c
    → (field_at fs 2 ≡ codes "sock" → ⊥) → (field_at fs 2 ≡ codes "offline" → ⊥)
    → (field_at fs 2 ≡ codes "online" → ⊥) → (field_at fs 2 ≡ codes "expire" → ⊥)
    → has_pair c ≡ true
pair-left fs (command.Stand p k) s a b d f = refl
pair-left fs (command.Mask p k) s a b d f = refl
pair-left fs (command.Flows p k) s a b d f = refl
pair-left fs (command.XCpus p k) s a b d f = refl
pair-left fs (command.XQueues p k) s a b d f = refl
pair-left fs (command.Reta p k) s a b d f = refl
pair-left fs (command.Sock k) s a b d f = absurd (a s.0)
pair-left fs (command.Offline k) s a b d f = absurd (b s.0)
pair-left fs (command.Online k) s a b d f = absurd (d s.0)
pair-left fs command.Expire s a b d f = absurd (f s)

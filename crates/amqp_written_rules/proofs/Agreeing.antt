-- What a session says keeps the numbers of its own tune-ok.
use Rattle.std.proofs.Common.{◌≡◌, ◌≢◌, ◌≤◌, ◌⊎◌, inl, inr, ℕ, zero, suc, ◌+◌, ◌-◌, ◌==◌, ◌&&◌, min, nat_lt, Bool, true, false, if◌then◌else◌, List, [], ◌∷◌, length, map, drop, refl, sym, ◌∙◌, subst, arith}
use Rattle.std.proofs.lemmas.Bool.Decides.{nat_tests}
use Rattle.std.proofs.lemmas.List.{length-take}
use Rattle.std.specs.Prelude.{unwrap_or}
use Rattle.std.specs.List.{AllByRecursion}
use Rattle.amqp_frame.specs.declared.frame.Frame.{Frame}
use Rattle.amqp_frame.specs.declared.frame.Frame.TheVariants.{Method, Raw}
use Rattle.amqp_frame.specs.declared.frame.RawKind.TheVariants.{Body}
use Rattle.amqp_frame.specs.declared.method.Method.TheVariants.{TuneOk}
use Rattle.amqp_uri.specs.Query.{kept_frame_max}
use Rattle.amqp_settings.specs.declared.configuration.Configuration.{Configuration}
use Rattle.amqp_settings.specs.Negotiation.{wish_or}
use Rattle.amqp_commands.specs.Publishing.{cut}
use Rattle.amqp_legal.specs.Agreed.{AgreedNumbers, unbounded, IsAgreed, agreed_after, KeepsNumbers, KeepsAgreed}
use Rattle.amqp_types.proofs.Small.{if-false, other-number}
use Rattle.amqp_written_rules.proofs.Spoken.{Sayings, IsSpoken}

-- the numbers of a connection, as they bound what is said
abbrev pub bounds : Configuration → AgreedNumbers
bounds n = record { channel_max = n.channel_max; frame_max = n.frame_max }

-- a frame keeps these numbers, and a tune-ok carries them
abbrev pub IsWithinBounds : Configuration → Frame → Type 0
IsWithinBounds n f = IsAgreed (bounds n) f × (agreed_after f (bounds n) ≡ bounds n)

-- no frame is allowed to be shorter than every peer takes
abbrev IsLarge : Configuration → Type 0
IsLarge n = n.frame_max ≢ 0 → 4096 ≤ n.frame_max

pub kept-large : (n : ℕ) → kept_frame_max n ≢ 0 → 4096 ≤ kept_frame_max n
kept-large n some = by (nat_lt 0 n) (nat_lt n 4096) refl refl some where
  by : (a b : Bool) → nat_lt 0 n ≡ a → nat_lt n 4096 ≡ b → (if a && b then 4096 else n) ≢ 0 → 4096 ≤ (if a && b then 4096 else n)
  by true true is below some = omega arith
  by true false is below some = grind (arith, nat_tests, below)
  by false b is below some = (let none : n ≡ 0 = grind (arith, nat_tests, is) in absurd (some none))

-- the pieces of a body are short enough
pub pieces-within : (n : Configuration) (m pieces size : ℕ) (octets : List ℕ) → m ≤ n.channel_max → (n.frame_max ≢ 0 → size + 8 ≤ n.frame_max)
    → AllByRecursion (IsWithinBounds n) (map (Raw m Body) (cut pieces size octets))
pieces-within n m zero size octets le small = tt
pieces-within n m (suc pieces) size [] le small = tt
pieces-within n m (suc pieces) size (o ∷ octets) le small = (
  (((λ some. le), (λ some. (let fits = small some in let long = length-take size (o ∷ octets) in omega (arith, fits, long)))), refl),
  pieces-within n m pieces size (drop size (o ∷ octets)) le small,
)

-- each frame that a rule queues keeps the numbers of the connection
unfoldable pub within-bounds : Sayings
within-bounds =
    record {
      Numbers = IsLarge;
      Makes = λ c. Unit {0};
      Heard = λ f. Unit {0};
      Answered = λ a. Unit {0};
      Told = λ c. Unit {0};
      Says = IsWithinBounds;
      own = λ c made. kept-large (unwrap_or c.uri.query.frame_max 0);
      tunes = λ own a b d large heard some. omega arith;
      header = λ n. (tt, refl);
      starts = λ n c mechanism response made named. ((λ some. omega arith), refl);
      secures = λ n response. ((λ some. omega arith), refl);
      agrees = λ n large. ((λ some. omega arith), refl);
      opens_vhost = λ n c made. ((λ some. omega arith), refl);
      answers_close = λ n. ((λ some. omega arith), refl);
      beats = λ n. (tt, refl);
      refreshes = λ n secret. ((λ some. omega arith), refl);
      tells_secret = λ n secret reason told. ((λ some. omega arith), refl);
      closes = λ n code text told. ((λ some. omega arith), refl);
      drops = λ n. ((λ some. omega arith), refl);
      opens = λ n m large le. ((λ some. le), refl);
      answers_flow = λ n m active large le. ((λ some. le), refl);
      flows = λ n m active large le. ((λ some. le), refl);
      answers_channel_close = λ n m large le. ((λ some. le), refl);
      closes_channel = λ n m code text r large le told. ((λ some. le), refl);
      drops_channel = λ n m large le. ((λ some. le), refl);
      sends = λ n m r method large le told. ((λ some. le), refl);
      publishes = λ n m capacity r method properties body large le told. (
        ((λ some. le), refl),
        (
          ((λ some. le), refl),
          pieces-within n m (length body) (min capacity (wish_or capacity n.frame_max) - 8) body le
              (λ some.
              (let wish : wish_or capacity n.frame_max ≡ n.frame_max = if-false (n.frame_max == 0) capacity n.frame_max (other-number n.frame_max 0 some) in
              let most = large some in
              omega (arith, wish, most))),
        ),
      );
    }

-- ---- what was said with some numbers keeps those of its tune-ok

after-either : (n : Configuration) (f : Frame) → (agreed_after f unbounded ≡ unbounded) ⊎ (agreed_after f unbounded ≡ agreed_after f (bounds n))
after-either n (Method m (TuneOk a b d)) = inr refl
after-either n f = inl refl

keeps-bounds : (n : Configuration) (fs : List Frame) → AllByRecursion (IsWithinBounds n) fs → KeepsNumbers (bounds n) fs
keeps-bounds n [] h = tt
keeps-bounds n (f ∷ fs) h =
    let Q : AgreedNumbers → Type 0 = λ a. KeepsNumbers a fs in
    (h.0.0, subst Q (sym h.0.1) (keeps-bounds n fs h.1))

unbounded-agrees : (f : Frame) → IsAgreed unbounded f
unbounded-agrees (Method m method) = λ some. absurd (some refl)
unbounded-agrees (Raw m Body body) = ((λ some. absurd (some refl)), (λ some. absurd (some refl)))
unbounded-agrees (Raw m kind payload) = λ some. absurd (some refl)
unbounded-agrees f = tt

pub keeps-agreed : (n : Configuration) (fs : List Frame) → AllByRecursion (IsWithinBounds n) fs → KeepsAgreed fs
keeps-agreed n [] h = tt
keeps-agreed n (f ∷ fs) h =
    let Q : AgreedNumbers → Type 0 = λ a. KeepsNumbers a fs in (
      unbounded-agrees f,
      elim (after-either n f) [
        | inl still ↦ subst Q (sym still) (keeps-agreed n fs h.1)
        | inr tuned ↦ subst Q (sym (tuned ∙ h.0.1)) (keeps-bounds n fs h.1)
      ],
    )

-- what a session says on a link does
pub spoken-agreed : (fs : List Frame) → IsSpoken within-bounds fs → KeepsAgreed fs
unfolding within-bounds
spoken-agreed fs h = keeps-agreed h.numbers fs h.says

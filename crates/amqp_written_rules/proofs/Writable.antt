-- What a session says can be written, and read again.
use Rattle.std.proofs.Common.{◌≢◌, ◌≤◌, ◌<◌, ◌^◌, ℕ, zero, suc, ◌+◌, ◌-◌, ◌==◌, min, if◌then◌else◌, List, [], ◌∷◌, ◌++◌, length, map, drop, refl, arith}
use Rattle.std.specs.Int.{w16, to_be_bytes}
use Rattle.std.specs.List.{AllByRecursion}
use Rattle.amqp_frame.specs.declared.frame.Frame.{Frame}
use Rattle.amqp_frame.specs.declared.frame.Frame.TheVariants.{Method, Raw}
use Rattle.amqp_frame.specs.declared.frame.RawKind.TheVariants.{Body}
use Rattle.amqp_frame.specs.declared.method.Method.TheVariants.{Tune}
use Rattle.amqp_frame.specs.Frames.{FrameOf, Writable, IsOtherMethod}
use Rattle.amqp_frame.specs.RawMethods.{OtherMethod, spell_raw_method}
use Rattle.amqp_frame.specs.Rules.{KeepsRules}
use Rattle.amqp_frame.proofs.Written.{frame_written}
use Rattle.amqp_commands.specs.declared.command.Cmd.{Cmd}
use Rattle.amqp_commands.specs.declared.command.Cmd.TheVariants.{Send, Publish}
use Rattle.amqp_settings.specs.declared.configuration.Configuration.{Configuration}
use Rattle.amqp_settings.specs.Negotiation.{tune, lesser_wish, wish_or}
use Rattle.amqp_commands.specs.Publishing.{cut, content_header}
use Rattle.amqp_types.proofs.Small.{if_case}
use Rattle.amqp_written_rules.specs.Sayable.{AreInRange, CanBeSaid, CanBeTold, CanBeAnswered}
use Rattle.amqp_written_rules.proofs.Spoken.{Sayings, IsSized, IsSpoken}

-- ---- what comes, and what is told

-- the numbers that the server wishes are in the range of their types
abbrev pub IsHeard : Frame → Type 0
IsHeard (Method n (Tune a b d)) = (a < 2 ^ 16) × (b < 2 ^ 32) × (d < 2 ^ 16)
IsHeard f = Unit {0}

-- a method that is passed through, and numbers in their range
abbrev pub IsPassed : OtherMethod → Type 0
IsPassed method = (method.class ≢ 10) × (method.class ≢ 20) × (method.class < 2 ^ 16) × (method.method < 2 ^ 16)

-- what a command carries fits on the wire
abbrev pub Fits : Cmd → Type 0
Fits (Send r method) = IsPassed method
Fits (Publish r method properties body) = IsPassed method × (2 ≤ length properties)
Fits c = CanBeTold c

-- ---- numbers

lesser-below : (most own server : ℕ) → own < most → server < most → lesser_wish own server < most
lesser-below most own server h k =
    if_case (λ (x : ℕ). x < most) (own == 0) server (if server == 0 then own else min own server) k
    (if_case (λ (x : ℕ). x < most) (server == 0) own (min own server) h (omega (arith, h)))

wish-below : (most greatest wish : ℕ) → greatest < most → wish < most → wish_or greatest wish < most
wish-below most greatest wish h k = if_case (λ (x : ℕ). x < most) (wish == 0) greatest wish h k

pub tuned-range : (own : Configuration) (a b d : ℕ) → AreInRange own → IsHeard (Method 0 (Tune a b d))
    → AreInRange (tune own (record { channel_max = a; frame_max = b; heartbeat = d }))
tuned-range own a b d h k =
    let frame = wish-below (2 ^ 32) 4294967295 (lesser_wish own.frame_max b) (omega arith) (lesser-below (2 ^ 32) own.frame_max b h.1 k.1) in (
      wish-below (2 ^ 16) 65535 (lesser_wish own.channel_max a) (omega arith) (lesser-below (2 ^ 16) own.channel_max a h.0 k.0),
      omega (arith, frame),
      lesser-below (2 ^ 16) own.heartbeat d h.2 k.2,
    )

-- a number of a channel that is at most the greatest
pub ranged : (n : Configuration) (m : ℕ) → AreInRange n → m ≤ n.channel_max → m < 2 ^ 16
ranged n m h le = (let most = h.0 in omega (arith, le, most))

-- ---- payloads

pub passed-payload : (method : OtherMethod) → IsPassed method → IsOtherMethod (spell_raw_method method)
passed-payload method h = (
  method.class,
  method.method,
  h.0,
  h.1,
  (
    to_be_bytes w16 method.class,
    to_be_bytes w16 method.method ++ method.arguments,
    refl,
    (h.2, refl),
    (to_be_bytes w16 method.method, method.arguments, refl, (h.3, refl), tt),
  ),
)

pub header-payload : (class size : ℕ) (properties : List ℕ) → 2 ≤ length properties → 14 ≤ length (content_header class size properties)
header-payload class size properties h = omega (arith, h)

pub bodies-keep : (m pieces size : ℕ) (octets : List ℕ) → m < 2 ^ 16 → AllByRecursion KeepsRules (map (Raw m Body) (cut pieces size octets))
bodies-keep m zero size octets le = tt
bodies-keep m (suc pieces) size [] le = tt
bodies-keep m (suc pieces) size (o ∷ octets) le = ((le, tt), bodies-keep m pieces size (drop size (o ∷ octets)) le)

-- ---- all that is said

-- each frame that a rule queues keeps the rules of frames
unfoldable pub by-rules : Sayings
by-rules =
    record {
      Numbers = AreInRange;
      Makes = CanBeSaid;
      Heard = IsHeard;
      Answered = CanBeAnswered;
      Told = Fits;
      Says = λ n f. KeepsRules f;
      own = λ c made. made.numbers;
      tunes = tuned-range;
      header = λ n. (omega arith, omega arith, omega arith);
      starts = λ n c mechanism response made named. (omega arith, (made.properties, named, made.locale));
      secures = λ n response. (omega arith, tt);
      agrees = λ n range. (omega arith, range);
      opens_vhost = λ n c made. (omega arith, made.vhost);
      answers_close = λ n. (omega arith, tt);
      beats = λ n. tt;
      refreshes = λ n secret. (omega arith, omega arith);
      tells_secret = λ n secret reason told. (omega arith, told);
      closes = λ n code text told. (omega arith, (told.0, told.1, omega arith, omega arith));
      drops = λ n. (omega arith, (omega arith, omega arith, omega arith, omega arith));
      opens = λ n m range le. (ranged n m range le, tt);
      answers_flow = λ n m active range le. (ranged n m range le, tt);
      flows = λ n m active range le. (ranged n m range le, tt);
      answers_channel_close = λ n m range le. (ranged n m range le, tt);
      closes_channel = λ n m code text r range le told. (ranged n m range le, (told.0, told.1, omega arith, omega arith));
      drops_channel = λ n m range le. (ranged n m range le, (omega arith, omega arith, omega arith, omega arith));
      sends = λ n m r method range le told. (ranged n m range le, passed-payload method told);
      publishes = λ n m capacity r method properties body range le told.
          (let low = ranged n m range le in
          ((low, passed-payload method told.0), ((low, header-payload method.class (length body) properties told.1), bodies-keep m (length body) (min capacity (wish_or capacity n.frame_max) - 8) body low)));
    }

-- what was said on a link can be written
written-each : (fs : List Frame) → AllByRecursion KeepsRules fs → AllByRecursion IsSized fs → AllByRecursion Writable fs
written-each [] h sized = tt
written-each (f ∷ fs) h sized =
    let size = sized.0 in
    ((frame_written f h.0 (omega (arith, size)), omega (arith, size)), written-each fs h.1 sized.1)

pub spoken-writable : (fs : List Frame) → IsSpoken by-rules fs → AllByRecursion Writable fs
unfolding by-rules
spoken-writable fs h = written-each fs h.says h.sized

-- ---- what is read

-- what octets spell has its numbers in the range of their types
pub spelled-heard : (f : Frame) (text : List ℕ) → FrameOf f text → IsHeard f
spelled-heard (Method n (Tune a b d)) text h = (let numbers = h.1.4.4 in (numbers.3.0, numbers.4.3.0, numbers.4.4.0))
spelled-heard f text h = tt

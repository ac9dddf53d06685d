-- The replies of the double have a written spelling, which every peer takes.
use Rattle.std.proofs.Common.{◌≤◌, ◌<◌, refl, ℕ, zero, suc, List, [], ◌∷◌, ◌++◌, length, arith}
use Rattle.std.specs.Prelude.{◌^◌}
use Rattle.std.specs.List.{flat_map, AllByRecursion}
use Rattle.amqp_frame.specs.declared.frame.Frame.{Frame}
use Rattle.amqp_frame.specs.declared.frame.Frame.TheVariants.{ProtocolHeader, Method}
use Rattle.amqp_frame.specs.declared.method.Method.{Method as AnyMethod}
use Rattle.amqp_frame.specs.declared.method.Method.TheVariants.{StartOk, Open, OpenOk, Close, CloseOk, UpdateSecret, UpdateSecretOk, ChannelOpen, ChannelOpenOk, ChannelFlow, ChannelFlowOk, ChannelClose, ChannelCloseOk}
use Rattle.amqp_frame.specs.Frames.{FrameOf, encoding, Writable}
use Rattle.amqp_frame.specs.Rules.{KeepsRules, KeepsTable}
use Rattle.amqp_frame.proofs.Written.{frame_written}
use Rattle.amqp_settings.specs.declared.configuration.Configuration.{Configuration}
use Rattle.amqp_written_rules.specs.Sayable.{AreInRange}
use Rattle.amqp_double.specs.Replies.{properties, start_frame, tune_frame, replies}

-- a frame has a written spelling, as long as every peer takes
abbrev pub Spells : Frame → Type 0
Spells f = FrameOf f (encoding f) × (length (encoding f) ≤ 4096)

spells-by : (f : Frame) → KeepsRules f → length (encoding f) ≤ 4096 → Spells f
spells-by f keeps most = (frame_written f keeps (omega (arith, most)), most)

properties-keep : KeepsTable properties
properties-keep = (
  (refl, (tt, tt)),
  (omega arith, ((tt, tt), (omega arith, tt, tt)), (omega arith, tt, tt)),
  omega arith,
)

start-spells : Spells start_frame
start-spells = spells-by start_frame (omega arith, (omega arith, omega arith, properties-keep)) (omega arith)

-- the channel of a frame that can be written
channel-of : (n : ℕ) (m : AnyMethod) → Writable (Method n m) → n < 2 ^ 16
channel-of n m h = h.0.2.4.3.0

pub replies-spell : (numbers : Configuration) → AreInRange numbers → (f : Frame) → Writable f → AllByRecursion Spells (replies numbers f)
replies-spell numbers range (ProtocolHeader v) w = (start-spells, tt)
replies-spell numbers range (Method zero (StartOk client mechanism response locale)) w = (spells-by (tune_frame numbers) (omega arith, range) (omega arith), tt)
replies-spell numbers range (Method zero (Open vhost)) w = (spells-by (Method 0 OpenOk) (omega arith, tt) (omega arith), tt)
replies-spell numbers range (Method zero (Close code text class method)) w = (spells-by (Method 0 CloseOk) (omega arith, tt) (omega arith), tt)
replies-spell numbers range (Method zero (UpdateSecret secret reason)) w = (spells-by (Method 0 UpdateSecretOk) (omega arith, tt) (omega arith), tt)
replies-spell numbers range (Method (suc n) ChannelOpen) w = (spells-by (Method (suc n) ChannelOpenOk) (channel-of (suc n) ChannelOpen w, tt) (omega arith), tt)
replies-spell numbers range (Method (suc n) (ChannelFlow active)) w = (spells-by (Method (suc n) (ChannelFlowOk active)) (channel-of (suc n) (ChannelFlow active) w, tt) (omega arith), tt)
replies-spell numbers range (Method (suc n) (ChannelClose code text class method)) w =
    (spells-by (Method (suc n) ChannelCloseOk) (channel-of (suc n) (ChannelClose code text class method) w, tt) (omega arith), tt)
replies-spell numbers range f w = tt

pub all-joined : {X : Type 0} (P : X → Type 0) (xs ys : List X) → AllByRecursion P xs → AllByRecursion P ys → AllByRecursion P (xs ++ ys)
all-joined P [] ys h k = k
all-joined P (x ∷ xs) ys h k = (h.0, all-joined P xs ys h.1 k)

pub all-spell : (numbers : Configuration) → AreInRange numbers → (fs : List Frame) → AllByRecursion Writable fs → AllByRecursion Spells (flat_map (replies numbers) fs)
all-spell numbers range [] h = tt
all-spell numbers range (f ∷ fs) h = all-joined Spells (replies numbers f) (flat_map (replies numbers) fs) (replies-spell numbers range f h.0) (all-spell numbers range fs h.1)

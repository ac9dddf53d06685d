-- How many octets frames take, with all that comes of them: the replies to them, and what the client says to those.
use Rattle.std.proofs.Common.{◌≡◌, ◌≤◌, ◌<◌, ◌∙◌, ap, sym, refl, ℕ, zero, suc, ◌+◌, ◌-◌, ◌*◌, min, Bool, List, [], ◌∷◌, ◌++◌, map, take, drop, length, length-append, length-drop, length-take, arith}
use Rattle.std.specs.List.{flat_map}
use Rattle.std.specs.Int.{w16, to_be_bytes}
use Rattle.amqp_types.specs.Value.{Pair}
use Rattle.amqp_frame.specs.declared.frame.Frame.{Frame}
use Rattle.amqp_frame.specs.declared.frame.Frame.TheVariants.{Method, Raw}
use Rattle.amqp_frame.specs.declared.frame.RawKind.{RawKind}
use Rattle.amqp_frame.specs.declared.frame.RawKind.TheVariants.{Body}
use Rattle.amqp_frame.specs.declared.method.Method.TheVariants.{Start, StartOk, Tune, TuneOk, Open, Close, UpdateSecret, ChannelOpen, ChannelFlow, ChannelClose}
use Rattle.amqp_frame.specs.Frames.{encoding}
use Rattle.amqp_legal.specs.Legal.{amqp_header}
use Rattle.amqp_settings.specs.declared.configuration.Configuration.{Configuration}
use Rattle.amqp_commands.specs.Publishing.{cut}
use Rattle.amqp_double.specs.Replies.{replies, reply_octets, all_replies}

-- what frames weigh, one after another
abbrev pub weigh : (Frame → ℕ) → List Frame → ℕ
weigh w [] = 0
weigh w (f ∷ fs) = w f + weigh w fs

pub weigh-joined : (w : Frame → ℕ) (fs gs : List Frame) → weigh w (fs ++ gs) ≡ weigh w fs + weigh w gs
weigh-joined w [] gs = omega arith
weigh-joined w (f ∷ fs) gs = let k = weigh-joined w fs gs in omega arith

pub weigh-both : (v w : Frame → ℕ) (fs : List Frame) → weigh (λ f. v f + w f) fs ≡ weigh v fs + weigh w fs
weigh-both v w [] = omega arith
weigh-both v w (f ∷ fs) = let k = weigh-both v w fs in omega arith

-- the octets of a frame
abbrev pub size : Frame → ℕ
size f = length (encoding f)

pub size-joined : (fs : List Frame) → length (flat_map encoding fs) ≡ weigh size fs
size-joined [] = refl
size-joined (f ∷ fs) = let k = size-joined fs in let sum = length-append (encoding f) (flat_map encoding fs) in omega arith

-- what a reply brings at most: what the client says to it, with the replies to that and what they bring
abbrev pub brings : Frame → ℕ
brings (Method zero (Start major minor properties mechanisms locales)) = 131395
brings (Method zero (Tune channel_max frame_max heartbeat)) = 303
brings r = 0

-- the octets of a reply, and what it brings
abbrev pub yields : Frame → ℕ
yields r = size r + brings r

-- so of the replies to a frame
abbrev pub earns : Configuration → Frame → ℕ
earns numbers f = weigh yields (replies numbers f)

-- all that is replied, and what that brings
pub replies-weigh : (numbers : Configuration) (fs : List Frame) → length (all_replies numbers fs) + weigh brings (flat_map (replies numbers) fs) ≡ weigh (earns numbers) fs
replies-weigh numbers [] = refl
replies-weigh numbers (f ∷ fs) =
    let rs = replies numbers f in
    let a = length-append (reply_octets numbers f) (all_replies numbers fs) in
    let b = weigh-joined brings rs (flat_map (replies numbers) fs) in
    let c = size-joined rs in
    let d = weigh-both size brings rs in
    let k = replies-weigh numbers fs in
    omega arith

-- ---- frames of the introduction

pub header-earns : (numbers : Configuration) → size amqp_header + earns numbers amqp_header ≡ 131508
header-earns numbers = omega arith

pub start-ok-earns : (numbers : Configuration) (client : List Pair) (mechanism response locale : List ℕ) → earns numbers (Method zero (StartOk client mechanism response locale)) ≡ 323
start-ok-earns numbers client mechanism response locale = omega arith

pub tune-weighs : (numbers : Configuration) (a b c : ℕ) (vhost : List ℕ) → length vhost ≤ 255
    → weigh size (Method zero (TuneOk a b c) ∷ Method zero (Open vhost) ∷ []) + weigh (earns numbers) (Method zero (TuneOk a b c) ∷ Method zero (Open vhost) ∷ []) ≤ 303
tune-weighs numbers a b c vhost short = omega (arith, short, length-append vhost (0 ∷ 0 ∷ []), length-append (vhost ++ 0 ∷ 0 ∷ []) (206 ∷ []))

-- ---- frames of commands

-- a frame, with all that comes of it
abbrev pub outlay : Configuration → Frame → ℕ
outlay numbers f = size f + earns numbers f

pub close-weighs : (numbers : Configuration) (code : ℕ) (text : List ℕ) → outlay numbers (Method zero (Close code text 0 0)) ≡ 31 + length text
close-weighs numbers code text =
    let tail : List ℕ = to_be_bytes w16 0 ++ to_be_bytes w16 0 in
    omega (arith, length-append text tail, length-append (text ++ tail) (206 ∷ []))

pub channel-close-weighs : (numbers : Configuration) (n code : ℕ) (text : List ℕ) → outlay numbers (Method n (ChannelClose code text 0 0)) ≤ 31 + length text
channel-close-weighs numbers zero code text =
    let tail : List ℕ = to_be_bytes w16 0 ++ to_be_bytes w16 0 in
    omega (arith, length-append text tail, length-append (text ++ tail) (206 ∷ []))
channel-close-weighs numbers (suc n) code text =
    let tail : List ℕ = to_be_bytes w16 0 ++ to_be_bytes w16 0 in
    omega (arith, length-append text tail, length-append (text ++ tail) (206 ∷ []))

pub channel-open-weighs : (numbers : Configuration) (n : ℕ) → outlay numbers (Method n ChannelOpen) ≤ 29
channel-open-weighs numbers zero = omega arith
channel-open-weighs numbers (suc n) = omega arith

pub channel-flow-weighs : (numbers : Configuration) (n : ℕ) (active : Bool) → outlay numbers (Method n (ChannelFlow active)) ≤ 26
channel-flow-weighs numbers zero active = omega arith
channel-flow-weighs numbers (suc n) active = omega arith

pub secret-weighs : (numbers : Configuration) (secret reason : List ℕ) → outlay numbers (Method zero (UpdateSecret secret reason)) ≡ 29 + (length secret + length reason)
secret-weighs numbers secret reason =
    let short : List ℕ = length reason ∷ reason in
    omega (arith, length-append secret short, length-append (secret ++ short) (206 ∷ []))

pub raw-weighs : (numbers : Configuration) (n : ℕ) (kind : RawKind) (payload : List ℕ) → outlay numbers (Raw n kind payload) ≡ 8 + length payload
raw-weighs numbers n kind payload = omega (arith, length-append payload (206 ∷ []))

-- a body in pieces
cut-none : (pieces most : ℕ) → cut pieces most [] ≡ []
cut-none zero most = refl
cut-none (suc pieces) most = refl

pub pieces-weigh : (numbers : Configuration) (n pieces most : ℕ) (octets : List ℕ) → 8 ≤ most
    → weigh (outlay numbers) (map (Raw n Body) (cut pieces most octets)) ≤ 8 + 2 * length octets
pieces-weigh numbers n zero most octets enough = omega arith
pieces-weigh numbers n (suc pieces) most [] enough = omega arith
pieces-weigh numbers n (suc pieces) most (o ∷ octets) enough = by (drop most (o ∷ octets)) refl (λ rest. pieces-weigh numbers n pieces most rest enough) where
  all : List ℕ
  all = o ∷ octets

  one : outlay numbers (Raw n Body (take most all)) ≡ 8 + min most (length all)
  one = raw-weighs numbers n Body (take most all) ∙ ap (λ (k : ℕ). 8 + k) (length-take most all)

  by : (rest : List ℕ) → drop most all ≡ rest → ((xs : List ℕ) → weigh (outlay numbers) (map (Raw n Body) (cut pieces most xs)) ≤ 8 + 2 * length xs)
      → outlay numbers (Raw n Body (take most all)) + weigh (outlay numbers) (map (Raw n Body) (cut pieces most rest)) ≤ 8 + 2 * length all
  by [] is more =
      let none : weigh (outlay numbers) (map (Raw n Body) (cut pieces most [])) ≡ 0 = ap (λ (xs : List (List ℕ)). weigh (outlay numbers) (map (Raw n Body) xs)) (cut-none pieces most) in
      omega (arith, one, none)
  by (p ∷ ps) is more =
      let k = more (p ∷ ps) in
      let left : length (p ∷ ps) ≡ length all - most = ap length (sym is) ∙ length-drop most all in
      let some : 0 < length (p ∷ ps) = omega arith in
      omega (arith, one, k, left, some, enough)

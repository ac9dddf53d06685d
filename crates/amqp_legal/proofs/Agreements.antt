-- Conversations that keep the numbers of their tune-ok, and some that do not.
use Rattle.std.proofs.Common.{refl, ℕ, ◌≤◌, List, [], ◌∷◌, ◌++◌, arith}
use Rattle.amqp_frame.specs.declared.frame.Frame.{Frame}
use Rattle.amqp_frame.specs.declared.frame.Frame.TheVariants.{Method, Raw, Heartbeat}
use Rattle.amqp_frame.specs.declared.frame.RawKind.TheVariants.{Body}
use Rattle.amqp_frame.specs.declared.method.Method.TheVariants.{TuneOk, ChannelOpen}
use Rattle.amqp_legal.specs.Agreed.{AgreedNumbers, KeepsNumbers, KeepsAgreed, agreed_after}

-- what begins a conversation that keeps its numbers keeps them
pub keeps-front : (agreed : AgreedNumbers) (fs gs : List Frame) → KeepsNumbers agreed (fs ++ gs) → KeepsNumbers agreed fs
keeps-front agreed [] gs h = tt
keeps-front agreed (f ∷ fs) gs h = (h.0, keeps-front (agreed_after f agreed) fs gs h.1)

pub agreed-front : (fs gs : List Frame) → KeepsAgreed (fs ++ gs) → KeepsAgreed fs
agreed-front fs gs h = keeps-front (record { channel_max = 0; frame_max = 0 }) fs gs h

-- ---- what is said in them

abbrev tune_ok : ℕ → ℕ → Frame
tune_ok channel_max frame_max = Method 0 (TuneOk channel_max frame_max 60)

abbrev opens : ℕ → Frame
opens n = Method n ChannelOpen

-- a body frame with a payload of 4 octets, which is 12 octets long
abbrev body : Frame
body = Raw 2 Body (1 ∷ 2 ∷ 3 ∷ 4 ∷ [])

-- ---- kept

-- a channel and a frame that are as great as they may be
at_the_bounds : KeepsAgreed (tune_ok 2 12 ∷ opens 2 ∷ body ∷ Heartbeat ∷ [])
at_the_bounds = ((λ bound. omega arith), ((λ bound. omega arith), (((λ bound. omega arith), (λ bound. omega arith)), (tt, tt))))

no_bounds : KeepsAgreed (tune_ok 0 0 ∷ opens 65535 ∷ body ∷ [])
no_bounds = ((λ bound. omega arith), ((λ bound. absurd (bound refl)), (((λ bound. absurd (bound refl)), (λ bound. absurd (bound refl))), tt)))

-- ---- not kept

another_channel : KeepsAgreed (tune_ok 2 12 ∷ opens 3 ∷ []) → ⊥
another_channel h = let above : 3 ≤ 2 = h.1.0 (λ e. omega (arith, e)) in omega (arith, above)

a_longer_frame : KeepsAgreed (tune_ok 2 11 ∷ body ∷ []) → ⊥
a_longer_frame h = let above : 12 ≤ 11 = h.1.0.1 (λ e. omega (arith, e)) in omega (arith, above)

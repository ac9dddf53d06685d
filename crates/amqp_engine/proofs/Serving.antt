-- What stands at the front of what is unread: a spelled frame of a faultless server, or the beginning of one.
use Rattle.std.proofs.Common.{◌≡◌, ◌≢◌, ◌≤◌, ℕ, ◌&&◌, not, Bool, true, false, true≢false, List, [], ◌++◌, length, refl, ap, sym, ◌∙◌}
use Rattle.amqp_frame.specs.declared.frame.Frame.{Frame}
use Rattle.amqp_frame.specs.declared.frame.Read.TheVariants.{Whole}
use Rattle.amqp_frame.specs.FrameReading.{front}
use Rattle.amqp_frame.specs.Frames.{FrameOf}
use Rattle.amqp_frame.proofs.FrontLaws.{front_again, within_all}
use Rattle.amqp_rules.specs.Talk.{is_open}
use Rattle.amqp_rules.specs.Negotiation.{frame_limit}
use Rattle.amqp_faultless.specs.Faultless.{Server}
use Rattle.amqp_engine.specs.Engine.{Engine, front_of, is_more, can_read}
use Rattle.amqp_engine.proofs.Follows.{front-begun}

-- the first spelled frame, whose octets have all come
pub front-whole : (s : Server) (e : Engine) (f : Frame) (octets more : List ℕ) → e.unread ≡ octets ++ more → FrameOf f octets → length octets ≤ frame_limit e.talk
    → front_of e ≡ Whole f (length octets)
front-whole s e f octets more is spelled short =
    ap (λ x. front x (frame_limit e.talk)) is ∙ front_again f octets more (frame_limit e.talk) spelled (within_all f (length octets) (frame_limit e.talk) short)

-- a first part of it, and no more
pub front-part : (e : Engine) (f : Frame) (rest : List ℕ) → FrameOf f (e.unread ++ rest) → length (e.unread ++ rest) ≤ frame_limit e.talk → rest ≢ [] → can_read e ≡ false
front-part e f rest spelled short some =
    let more = front-begun f e.unread rest (frame_limit e.talk) spelled (within_all f (length (e.unread ++ rest)) (frame_limit e.talk) short) some in
    by (is_open e.talk) (is_more (front_of e)) more
  where
    by : (a b : Bool) → b ≡ true → (a && not b) ≡ false
    by true true h = refl
    by false true h = refl
    by a false h = absurd (true≢false (sym h))

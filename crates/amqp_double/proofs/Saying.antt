-- What is said next in a conversation, and what is answered to it.
use Rattle.std.proofs.Common.{◌≡◌, ◌≢◌, ◌∙◌, ap, sym, refl, ℕ, ◌+◌, true, false, List, [], ◌∷◌, ◌++◌, drop, Some, None, is_some, arith, append-nil, append_assoc}
use Rattle.amqp_frame.specs.declared.frame.Frame.{Frame}
use Rattle.amqp_legal.specs.Decider.{say, is_amqp_header}
use Rattle.amqp_legal.specs.Legal.{Legal}
use Rattle.amqp_legal.specs.Speeches.{speech_of, HasSaid}
use Rattle.amqp_legal.specs.declared.speech.Speech.{Speech as Spoken}
use Rattle.amqp_legal.proofs.Saying.{all-said, one-more, gone-on}
use Rattle.amqp_settings.specs.declared.configuration.Configuration.{Configuration}
use Rattle.amqp_double.specs.Replies.{reply_octets, all_replies, closes_connection, ends_closed}
use Rattle.amqp_double.specs.Hearing.{HasRead}
use Rattle.amqp_double.specs.declared.heard.Heard.{Heard}

-- ---- what the client may say

-- the header begins it
pub said-first : (frames : List Frame) (g : Frame) (old : Heard) → old.frames ≡ 0 → HasRead frames old → is_amqp_header g ≡ true
    → Legal (frames ++ g ∷ []) × HasSaid (drop 1 (frames ++ g ∷ [])) old.speech
said-first [] g old zeroth h header = ((all-said g []).1 (header, refl), h.speech)
said-first (f ∷ frames) g old zeroth h header = absurd (omega (arith, zeroth, h.answered.count))

pub refused-first : (frames : List Frame) (g : Frame) (old : Heard) → old.frames ≡ 0 → HasRead frames old → is_amqp_header g ≡ false → Legal (frames ++ g ∷ []) → ⊥
refused-first [] g old zeroth h header legal = let is = ((all-said g []).0 legal).0 in absurd cc
refused-first (f ∷ frames) g old zeroth h header legal = absurd (omega (arith, zeroth, h.answered.count))

-- then one frame more
pub said-next : (frames : List Frame) (g : Frame) (old : Heard) (new : Spoken) → old.frames ≢ 0 → HasRead frames old
    → say g (speech_of old.speech) ≡ Some (speech_of new) → Legal (frames ++ g ∷ []) × HasSaid (drop 1 (frames ++ g ∷ [])) new
said-next [] g old new some h said = absurd (some h.answered.count)
said-next (f ∷ frames) g old new some h said =
    let on : HasSaid (frames ++ g ∷ []) new = gone-on frames g old.speech new h.speech said in
    ((all-said f (frames ++ g ∷ [])).1 (((all-said f frames).0 h.answered.legal).0, ap is_some on), on)

pub refused-next : (frames : List Frame) (g : Frame) (old : Heard) → old.frames ≢ 0 → HasRead frames old → say g (speech_of old.speech) ≡ None
    → Legal (frames ++ g ∷ []) → ⊥
refused-next [] g old some h refused legal = absurd (some h.answered.count)
refused-next (f ∷ frames) g old some h refused legal =
    let said = ((all-said f (frames ++ g ∷ [])).0 legal).1 in
    let none = ap is_some (one-more frames g (speech_of old.speech) h.speech ∙ refused) in
    absurd cc

-- ---- what is answered to one frame more

pub replies-push : (numbers : Configuration) (frames : List Frame) (f : Frame) → all_replies numbers (frames ++ f ∷ []) ≡ all_replies numbers frames ++ reply_octets numbers f
replies-push numbers [] f = append-nil (reply_octets numbers f)
replies-push numbers (g ∷ frames) f =
    ap (λ (xs : List ℕ). reply_octets numbers g ++ xs) (replies-push numbers frames f)
    ∙ sym (append_assoc (reply_octets numbers g) (all_replies numbers frames) (reply_octets numbers f))

pub closed-push : (frames : List Frame) (f : Frame) → ends_closed (frames ++ f ∷ []) ≡ closes_connection f
closed-push [] f = refl
closed-push (g ∷ []) f = refl
closed-push (g ∷ h ∷ frames) f = closed-push (h ∷ frames) f

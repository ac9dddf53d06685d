use Rattle.std.proofs.Common.{◌∙◌, ℕ, refl, sym, ap}
use Rattle.amqp_frame.specs.FrameReading.{front}
use Rattle.amqp_uses.specs.declared.driving.Client.{Client}
use Rattle.amqp_uses.proofs.Unasked.{unasked}
use Rattle.amqp_uses.proofs.driving.hear_next.Goals.{in-More, in-TooLarge+in_ok-misread-in-TooLarge, in-BadHeartbeat+in_ok-misread-in-BadHeartbeat, in-Bad+in_ok-misread-in-Bad}
use Rattle.amqp_uses.proofs.driving.hear_next.Goals as goal

pub returns-clause-ok : goal.returns-clause-ok
returns-clause-ok c =
    let stood = ap (λ (limit : ℕ). front c.args.unread.now limit) (sym c.frame_limit.ensures.octets) in elim c.match-read_frame.branch [
      | in-More w ↦
          unasked _ _ (stood ∙ w.in-More.ensures.exact) _ _ _ _ _ _ _ _ refl (ap (λ (x : Client). x.session) w.client-is)
          (ap (λ (x : Client). x.provider) w.client-is) (ap (λ (x : Client). x.auths.list) w.client-is)
      | in-TooLarge+in_ok-misread-in-TooLarge w ↦
          unasked _ _ (stood ∙ w.in-TooLarge.ensures.exact) _ _ _ _ _ _ _ _ refl
          (ap (λ (x : Client). x.session) w.client-is ∙ w.in_ok-misread-in-TooLarge.ensures.ok)
          (ap (λ (x : Client). x.provider) w.client-is) (ap (λ (x : Client). x.auths.list) w.client-is)
      | in-BadHeartbeat+in_ok-misread-in-BadHeartbeat w ↦
          unasked _ _ (stood ∙ w.in-BadHeartbeat.ensures.exact) _ _ _ _ _ _ _ _ refl
          (ap (λ (x : Client). x.session) w.client-is ∙ w.in_ok-misread-in-BadHeartbeat.ensures.ok)
          (ap (λ (x : Client). x.provider) w.client-is) (ap (λ (x : Client). x.auths.list) w.client-is)
      | in-Bad+in_ok-misread-in-Bad w ↦
          unasked _ _ (stood ∙ w.in-Bad.ensures.exact) _ _ _ _ _ _ _ _ refl
          (ap (λ (x : Client). x.session) w.client-is ∙ w.in_ok-misread-in-Bad.ensures.ok)
          (ap (λ (x : Client). x.provider) w.client-is) (ap (λ (x : Client). x.auths.list) w.client-is)
    ]

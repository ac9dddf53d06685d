use Rattle.std.proofs.Common.{◌≡◌, ◌∙◌, ◌-◌, ap, sym, length, arith}
use Rattle.amqp_rules.specs.Talk.{Talk}
use Rattle.amqp_rules.specs.Writing.{follow, sent_among}
use Rattle.amqp_session.proofs.Taken.{first-goes, sent-fewer}
use Rattle.amqp_session.proofs.session.Session.taken.Goals as goal

pub loop-mark-preserved : goal.loop-mark-preserved
loop-mark-preserved c =
    let left = c.loop-mark.left - c.in-Some.mark.left in
    let reached : c.follow.new.self ≡ _ = c.follow.ensures ∙ ap (follow c.in-Some.mark.then) c.in-Some.ensures.rest in
    record {
      goes_on = ap (λ (x : Talk). sent_among x.committed left x) reached
          ∙ first-goes c.loop-mark.left c.loop-mark.self c.in-Some.mark (sym c.in-Some.ensures.first)
          ∙ c.loop-mark.invariant.goes_on;
    }

pub loop-mark-smaller : goal.loop-mark-smaller
loop-mark-smaller c =
    let less = sent-fewer c.loop-mark.left c.loop-mark.self c.in-Some.mark (sym c.in-Some.ensures.first) in
    let reached : c.follow.new.self ≡ _ = c.follow.ensures ∙ ap (follow c.in-Some.mark.then) c.in-Some.ensures.rest in
    omega (arith, less, ap (λ (x : Talk). length x.committed) reached)

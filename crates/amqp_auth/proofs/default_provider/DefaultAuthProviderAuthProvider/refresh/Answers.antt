use Rattle.std.proofs.Common.{ap, Err}
use Rattle.amqp_types.specs.declared.text.Text.{Text}
use Rattle.amqp_auth.specs.declared.asked.Question.TheVariants as question
use Rattle.amqp_auth.specs.declared.asked.Asked.TheVariants as answer
use Rattle.amqp_auth.specs.DefaultAnswers.{DefaultAuth}
use Rattle.amqp_auth.proofs.Answering.{refuses}
use Rattle.amqp_auth.proofs.default_provider.DefaultAuthProviderAuthProvider.refresh.Goals as goal

pub returns-clause-answer : goal.returns-clause-answer
returns-clause-answer c =
    let p = c.args.self.now in
    refuses p.mechanism c.self.inside.mechanism p.login c.self.inside.credentials question.Refresh (λ x. answer.Refreshed x) c.in_ok-text.text c.refused.result
    (ap (λ (x : DefaultAuth). x.mechanism) c.self.view_is) (ap (λ (x : DefaultAuth). x.login) c.self.view_is) c.refused.ensures.said
    (ap (λ (t : Text). answer.Refreshed (Err t)) c.in_ok-text.ensures)

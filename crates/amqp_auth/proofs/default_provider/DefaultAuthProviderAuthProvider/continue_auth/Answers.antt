use Rattle.std.proofs.Common.{◌∙◌, ap, sym, Result}
use Rattle.amqp_types.specs.declared.strings.LongString.{LongString}
use Rattle.amqp_types.specs.declared.text.Text.{Text}
use Rattle.amqp_auth.specs.declared.asked.Question.TheVariants as question
use Rattle.amqp_auth.specs.declared.asked.Asked.TheVariants as answer
use Rattle.amqp_auth.specs.DefaultAnswers.{DefaultAuth}
use Rattle.amqp_auth.proofs.Answering.{refuses}
use Rattle.amqp_auth.proofs.default_provider.DefaultAuthProviderAuthProvider.continue_auth.Goals as goal

pub returns-clause-answer : goal.returns-clause-answer
returns-clause-answer c =
    let p = c.args.self.now in
    refuses p.mechanism c.self.inside.mechanism p.login c.self.inside.credentials (question.Challenge c.args.challenge) (λ x. answer.Challenge x) c.in-Err.text c.refused.result
    (ap (λ (x : DefaultAuth). x.mechanism) c.self.view_is) (ap (λ (x : DefaultAuth). x.login) c.self.view_is) c.refused.ensures.said
    (ap (λ (r : Result LongString Text). answer.Challenge r) (sym c.in-Err.is ∙ c.in_ok-answer.ensures))

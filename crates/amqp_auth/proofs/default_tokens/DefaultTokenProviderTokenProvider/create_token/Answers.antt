use Rattle.std.proofs.Common.{rules, of_calls}
use Rattle.std.specs.Fn.{FnReturnsAt}
use Rattle.amqp_auth.proofs.ByClosures.{ByClosures-at}
use Rattle.amqp_auth.proofs.default_tokens.DefaultTokenProviderTokenProvider.create_token.Goals as goal

pub returns-in_ok-try_clone-in-Ok-clause-answer : goal.returns-in_ok-try_clone-in-Ok-clause-answer
returns-in_ok-try_clone-in-Ok-clause-answer g c = λ rest h. (
  search (rules, of_calls),
  ByClosures-at (λ t n. FnReturnsAt g.VF.Fn c.args.self.now.valid_for t n) (λ r. goal.CT-post g c.args.self.now.create_token r) _ _ rest c.in_ok-try_clone-in-Ok.ensures h,
)

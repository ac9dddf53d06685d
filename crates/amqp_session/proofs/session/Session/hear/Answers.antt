use Rattle.std.proofs.Common.{◌∙◌, sym, ap, List}
use Rattle.amqp_auth.specs.declared.asked.Asked.{Asked}
use Rattle.amqp_rules.specs.Talk.{end_of}
use Rattle.amqp_rules.specs.Frames.{questions_in}
use Rattle.amqp_session.specs.Provided.{login_answers}
use Rattle.amqp_outbox.proofs.Cases.{on-ok}
use Rattle.amqp_types.proofs.Small.{on-err}
use Rattle.amqp_rules.proofs.FrameErrors.{refused-by}
use Rattle.amqp_rules.proofs.Hearing.{asked-all}
use Rattle.amqp_session.proofs.session.Session.hear.Goals as goal

pub returns-in-Ok-clause-unanswered : goal.returns-in-Ok-clause-unanswered
returns-in-Ok-clause-unanswered g c =
    let f = c.args.frame in
    on-err c.frame_rule.result
    (asked-all (λ (x : List Asked). questions_in f) (login_answers c.in-Ok.login) (g.A.AuthProvider.allows c.args.provider.now) (g.A.AuthProvider.allows c.ask.new.provider)
    c.args.self.now c.args.auths.now.list c.ask.new.auths.list c.in-Ok.ensures.ok)

pub returns-in-Ok-clause-counted : goal.returns-in-Ok-clause-counted
returns-in-Ok-clause-counted g c =
    let t = c.args.self.now in
    on-ok c.frame_rule.result
    (λ done text ends. c.in-Ok.ensures.counted text (refused-by text c.args.frame (login_answers c.in-Ok.login) t c.requires.acts (ap end_of (sym done) ∙ ends)))
    c.frame_rule.ensures.ok

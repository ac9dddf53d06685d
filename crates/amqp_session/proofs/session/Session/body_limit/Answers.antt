use Rattle.std.proofs.Common.{sym, subst, refl, arith}
use Rattle.std.specs.Prelude.{IsTrue}
use Rattle.amqp_promise.specs.declared.state.ConnectionState.{ConnectionState}
use Rattle.amqp_rules.specs.Sound.{is_agreed}
use Rattle.amqp_session.proofs.session.Session.body_limit.Goals as goal

pub overflow_sub-result : goal.overflow_sub-result
overflow_sub-result c =
    let agreed : IsTrue (is_agreed c.args.self.now.state c.args.self.now.phase) = subst (λ (s : ConnectionState). IsTrue (is_agreed s c.args.self.now.phase)) (sym c.requires) refl in
    let least = c.frame_limit.ensures.least agreed in
    omega (arith, least)

pub returns-clause-positive : goal.returns-clause-positive
returns-clause-positive c =
    let agreed : IsTrue (is_agreed c.args.self.now.state c.args.self.now.phase) = subst (λ (s : ConnectionState). IsTrue (is_agreed s c.args.self.now.phase)) (sym c.requires) refl in
    let least = c.frame_limit.ensures.least agreed in
    omega (arith, least)

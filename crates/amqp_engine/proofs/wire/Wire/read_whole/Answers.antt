use Rattle.std.proofs.Common.{◌≡◌, ◌∙◌, true, ap, sym, subst, arith}
use Rattle.amqp_rules.specs.Talk.{Talk, is_open}
use Rattle.amqp_outgoing.specs.Marks.{left_in}
use Rattle.amqp_rules.proofs.Keeping.{frame-committed}
use Rattle.amqp_auth.specs.Asking.{Unanswered}
use Rattle.amqp_frame.specs.declared.frame.Read.TheVariants.{Whole}
use Rattle.amqp_engine.specs.Engine.{Engine, row_questions}
use Rattle.amqp_engine.proofs.wire.Wire.read_whole.Goals as goal

pub invariant_of-self-2 : goal.invariant_of-self-2
invariant_of-self-2 g c =
    let t = c.self.inside.session in
    let h = c.in_default.ensures.ok in
    let opened : is_open t ≡ true = ap (λ (e : Engine). is_open e.talk) c.self.view_is ∙ c.requires.open in
    let after = ap (λ (y : Talk). y.capacity) h.talk ∙ sym (c.capacity_after-capacity.ensures.bytes h.answers c.args.at) in
    let same : c.frame.new.self.capacity ≡ t.capacity =
    omega (arith, after, c.capacity_after-capacity.ensures.grown, c.capacity.ensures.bytes, c.if-capacity.false) in (
      λ now.
          c.self.invariant.0 opened
          ∙ sym (ap left_in (ap (λ (y : Talk). y.committed) h.talk ∙ frame-committed c.args.frame h.answers c.args.at t (sym (ap is_open h.talk) ∙ now))),
      omega (arith, same, c.self.invariant.1),
      omega (arith, same, c.self.invariant.2),
      omega (arith, same, c.self.invariant.3),
    )

pub returns-in-Err-clause-unanswered : goal.returns-in-Err-clause-unanswered
returns-in-Err-clause-unanswered g c =
    let P : Engine → Type 0 = λ y. Unanswered (λ answers. row_questions c.args.at (Whole c.args.frame c.args.n) y) (g.A.AuthProvider.allows c.args.provider.now) c.args.auths.now.list c.frame.new.auths.list in
    subst P c.self.view_is c.in-Err.ensures.unanswered

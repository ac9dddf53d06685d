use Rattle.std.proofs.Common.{◌≡◌, ◌∙◌, true, false, true≢false, ap, sym, arith}
use Rattle.amqp_rules.specs.Talk.{has_ended}
use Rattle.amqp_joined.proofs.Taking.{taken-none, taken-more, runs-lent}
use Rattle.amqp_joined.proofs.joined_port.JoinedPort.take_turns.Goals as goal

pub turns-init : goal.turns-init
turns-init g c =
    record {
      turns = taken-none c.args.engine.now c.args.self.now (g.A.AuthProvider.allows c.args.provider.now) c.hold.ensures;
      can = c.requires;
    }

pub turns-preserved : goal.turns-preserved
turns-preserved g c =
    let running : has_ended c.turns.engine.talk ≡ false = sym (ap has_ended c.session.ensures) ∙ sym c.if-has_ended.ensures in
    record {
      turns = taken-more c.turns.counter c.args.engine.now c.turns.engine c.run.new.self c.args.self.now c.turns.self c.run.new.port (g.A.AuthProvider.allows c.args.provider.now)
          (g.A.AuthProvider.allows c.turns.provider) (g.A.AuthProvider.allows c.run.new.provider) c.turns.invariant.turns running c.run.ensures.turns c.run.ensures.kept c.hold-in-turns.ensures;
      can = c.run.ensures.can;
    }

pub returns-after-turns-clause-turns : goal.returns-after-turns-clause-turns
returns-after-turns-clause-turns g c =
    runs-lent c.turns.counter c.args.turns _ _ _ _ _ _ c.turns.invariant.turns (omega (arith, c.turns.auto)) (λ on. omega (arith, c.turns.auto))

pub returns-then-has_ended-clause-turns : goal.returns-then-has_ended-clause-turns
returns-then-has_ended-clause-turns g c =
    let over : has_ended c.turns.engine.talk ≡ true = sym (ap has_ended c.session.ensures) ∙ sym c.if-has_ended.ensures in
    runs-lent c.turns.counter c.args.turns _ _ _ _ _ _ c.turns.invariant.turns (omega (arith, c.turns.auto)) (λ on. absurd (true≢false (sym over ∙ on)))

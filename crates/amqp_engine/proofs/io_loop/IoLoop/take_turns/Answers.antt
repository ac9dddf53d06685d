use Rattle.std.proofs.Common.{◌≡◌, ◌∙◌, ◌++◌, [], ◌∷◌, true, false, true≢false, ap, sym, subst, length-append, arith}
use Rattle.amqp_rules.specs.Talk.{has_ended}
use Rattle.amqp_engine.specs.Engine.{Engine}
use Rattle.amqp_engine.specs.Turn.{asks, turns, exchange_of}
use Rattle.amqp_engine.specs.Tell.{MayCome}
use Rattle.amqp_engine.proofs.Running.{Leads-push, tells-push, told-append, fit-append, uncut, exchanged-push}
use Rattle.amqp_engine.proofs.io_loop.IoLoop.take_turns.Goals as goal

pub turns-preserved : goal.turns-preserved
turns-preserved g c =
    let lent = c.turn.ensures.turn in
    let f = lent.takes in
    let i = c.turns.invariant in
    let us = i.turns.0 in
    let leads = i.turns.3 in
    let start = c.args.self.now in
    let before = g.A.AuthProvider.allows c.args.provider.now in
    let between = g.A.AuthProvider.allows c.turns.provider in
    let after = g.A.AuthProvider.allows c.turn.new.provider in
    let running : has_ended (turns us start).talk ≡ false = ap (λ (x : Engine). has_ended x.talk) leads.leaves ∙ f.may.running in
    let E : Engine → Type 0 = λ x. MayCome f.u.notes.starved between after (exchange_of f.u (asks x)) in
    record {
      turns = (
        us ++ f.u ∷ [],
        omega (arith, length-append us (f.u ∷ []), i.turns.1),
        told-append us (f.u ∷ []) i.turns.2 (f.told, tt),
        Leads-push us f.u _ _ _ leads f.may f.leaves,
        tells-push us f.u _ _ _ _ _ leads.leaves i.turns.4 f.tells,
        exchanged-push us f.u start before between after (uncut us start leads.may running) i.turns.5 (subst E (sym leads.leaves) lent.exchanged),
        fit-append us (f.u ∷ []) i.turns.6 (f.fit, tt),
      );
      can = c.turn.ensures.can;
      never_falls = omega (arith, c.turn.ensures.never_falls, i.never_falls);
      faults = omega (arith, c.turn.ensures.faults, i.faults);
      kept = c.turn.ensures.kept ∙ i.kept;
      io_error_counted = λ fault running h counted. omega (arith, c.turn.ensures.io_error_counted fault h counted, i.faults);
      refusal_counted = λ text running h. omega (arith, c.turn.ensures.refusal_counted text h, i.never_falls);
    }

pub returns-after-turns-clause-turns : goal.returns-after-turns-clause-turns
returns-after-turns-clause-turns g c =
    let t = c.turns.invariant.turns in
    record {
      runs = record { us = t.0; leads = t.3; tells = t.4; told = t.2; fit = t.6; within = omega (arith, t.1, c.turns.auto); all = λ on. omega (arith, t.1, c.turns.auto) };
      exchanged = t.5;
    }

pub returns-then-has_ended-clause-turns : goal.returns-then-has_ended-clause-turns
returns-then-has_ended-clause-turns g c =
    let t = c.turns.invariant.turns in
    let over : has_ended c.turns.self.talk ≡ true = ap (λ (x : Engine). has_ended x.talk) (sym c.self.view_is) ∙ sym (ap has_ended c.session.ensures) ∙ sym c.if-has_ended.ensures in
    record {
      runs = record { us = t.0; leads = t.3; tells = t.4; told = t.2; fit = t.6; within = omega (arith, t.1, c.turns.auto); all = λ on. absurd (true≢false (sym over ∙ on)) };
      exchanged = t.5;
    }

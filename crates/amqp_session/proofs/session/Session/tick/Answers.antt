use Rattle.std.proofs.Common.{◌≡◌, sym, subst, List, false, true}
use Rattle.amqp_auth.specs.declared.asked.Asked.{Asked}
use Rattle.amqp_rules.specs.Talk.{Talk}
use Rattle.amqp_promise.specs.declared.error.ErrorKind.TheVariants.{MissingHeartbeatError}
use Rattle.amqp_rules.specs.Changes.{present_at, lose}
use Rattle.amqp_rules.specs.Asking.{Hears}
use Rattle.amqp_rules.specs.Ticks.{is_missed, link_due, tick, tick_questions}
use Rattle.amqp_rules.proofs.Hearing.{tick-heard, tick-missed}
use Rattle.amqp_session.proofs.session.Session.tick.Goals as goal

pub returns-in-Ok-clause-ok : goal.returns-in-Ok-clause-ok
returns-in-Ok-clause-ok g c =
    let t : Talk = present_at c.args.at c.args.self.now in
    let before = g.A.AuthProvider.allows c.args.provider.now in
    let after = g.A.AuthProvider.allows c.go_on.new.provider in
    let list : List Asked = c.args.auths.now.list in
    let same : c.advance.new.self ≡ t = c.advance.ensures in
    let heard : is_missed c.advance.new.self ≡ false = sym c.if-is_missed.ensures in
    let P : Talk → Talk → Type 0 = λ x y. Hears tick tick_questions before after x y list c.go_on.new.auths.list in
    subst (λ (y : Talk). P t y) (sym c.link_due-in-Ok.ensures)
    (subst (λ (x : Talk). P x (link_due c.go_on.new.self)) same
    (tick-heard before after c.advance.new.self c.go_on.new.self list c.go_on.new.auths.list heard c.in-Ok.ensures.ok))

pub returns-then-is_missed-clause-ok : goal.returns-then-is_missed-clause-ok
returns-then-is_missed-clause-ok g c =
    let t : Talk = present_at c.args.at c.args.self.now in
    let state = g.A.AuthProvider.allows c.args.provider.now in
    let list : List Asked = c.args.auths.now.list in
    let missed : is_missed c.advance.new.self ≡ true = sym c.if-is_missed.ensures in
    let P : Talk → Talk → Type 0 = λ x y. Hears tick tick_questions state state x y list list in
    subst (λ (y : Talk). P t y) (sym c.link_due.ensures)
    (subst (λ (y : Talk). P t (link_due y)) (sym c.lose.ensures)
    (subst (λ (x : Talk). P x (link_due (lose MissingHeartbeatError c.advance.new.self))) c.advance.ensures (tick-missed state c.advance.new.self list missed)))

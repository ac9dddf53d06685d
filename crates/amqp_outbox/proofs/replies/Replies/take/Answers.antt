use Rattle.std.proofs.Common.{sym, arith}
use Rattle.amqp_outbox.specs.Replies.{is_of}
use Rattle.amqp_outbox.proofs.FirstOfKind.{taken-found, taken-out}
use Rattle.amqp_outbox.proofs.Taking.{none-left_out}
use Rattle.amqp_outbox.proofs.replies.Replies.take.Goals as goal

pub returns-in_err-place-clause-rest : goal.returns-in_err-place-clause-rest
returns-in_err-place-clause-rest c =
    sym (none-left_out (is_of c.args.reply) c.args.self.now.list.items c.in_err-place.ensures.none)

pub returns-clause-first : goal.returns-clause-first
returns-clause-first c =
    let list = c.args.self.now.list in
    let first = c.in_ok-place.ensures.place in
    taken-found (is_of c.args.reply) list.items c.in_ok-place.place c.remove.result first
    (λ x. c.remove.ensures.succeeds x (omega (arith, first.1, list.ok.0)))

pub returns-clause-rest : goal.returns-clause-rest
returns-clause-rest c =
    let list = c.args.self.now.list in
    let first = c.in_ok-place.ensures.place in
    taken-out (is_of c.args.reply) list.items c.remove.new.self.items c.in_ok-place.place c.remove.result first
    (λ x. c.remove.ensures.succeeds x (omega (arith, first.1, list.ok.0))) c.remove.ensures.items

use Rattle.std.proofs.Common.{◌≡◌, sym, subst, Some}
use Rattle.amqp_answers.specs.declared.promises.Slot.{Slot}
use Rattle.std.specs.Option.{option_flatten}
use Rattle.amqp_answers.specs.Sharing.{error_at}
use Rattle.amqp_answers.specs.Settled.{IsRejected}
use Rattle.amqp_answers.specs.Seen.{slot_seen}
use Rattle.amqp_types.proofs.Small.{on-err}
use Rattle.amqp_answers.proofs.Seen.{error-rejects}
use Rattle.amqp_answers.proofs.promises.Slot.answer.Goals as goal

pub returns-in_err-try_clone-in-Some-clause-refused : goal.returns-in_err-try_clone-in-Some-clause-refused
returns-in_err-try_clone-in-Some-clause-refused c =
    let errors = c.args.errors.now.errors.entries in
    let k = c.in-Shared.number in
    let kept : error_at k errors ≡ Some c.in-Some.error.now = sym c.in-Some.ensures in
    on-err c.from_residual-in_err-try_clone-in-Some.result
    (subst (λ (s : Slot). IsRejected (option_flatten (slot_seen errors s))) (sym c.in-Shared.is)
    (error-rejects errors k c.in-Some.error.now kept))

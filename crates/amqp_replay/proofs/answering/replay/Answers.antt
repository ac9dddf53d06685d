use Rattle.std.proofs.Common.{◌≡◌, ℕ, List, take, is_some, IfSome, sym, subst}
use Rattle.amqp_replay.specs.declared.limits.TheConstants.{MOST_READ}
use Rattle.amqp_replay.specs.Top.{handed_state}
use Rattle.amqp_replay.proofs.Statuses.{ReplaysSome-read, Replays-told}
use Rattle.amqp_replay.proofs.answering.replay.Goals as goal

pub returns-in-Ok-clause-some_script : goal.returns-in-Ok-clause-some_script
returns-in-Ok-clause-some_script g c =
    let P : List ℕ → Type 0 = λ x. IfSome (g.S.Source.left c.args.source.now) (λ all. x ≡ take MOST_READ all) in
    ReplaysSome-read (is_some c.args.handed) (handed_state g.A.AuthProvider.allows c.args.handed) (g.S.Source.left c.args.source.now) (g.P.Port.log c.args.port.now) (g.P.Port.log c.answer.new.port) (g.K.Sink.held c.args.sink.now)
    (g.K.Sink.held c.answer.new.sink) c.answer.result c.deref.result.now
    (subst P (sym c.deref.ensures.value) c.in-Ok.ensures.text) c.answer.ensures.outcome

pub returns-in-Ok-clause-outcome : goal.returns-in-Ok-clause-outcome
returns-in-Ok-clause-outcome g c =
    let P : List ℕ → Type 0 = λ x. IfSome (g.S.Source.left c.args.source.now) (λ all. x ≡ take MOST_READ all) in
    Replays-told (is_some c.args.handed) (handed_state g.A.AuthProvider.allows c.args.handed) (g.S.Source.left c.args.source.now) (g.P.Port.log c.args.port.now) (g.P.Port.log c.answer.new.port) (g.K.Sink.held c.args.sink.now)
    (g.K.Sink.held c.answer.new.sink) c.answer.result c.deref.result.now
    (subst P (sym c.deref.ensures.value) c.in-Ok.ensures.text) c.answer.ensures.outcome

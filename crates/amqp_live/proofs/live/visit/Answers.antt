use Rattle.std.proofs.Common.{◌≡◌, ℕ, List, sym, subst}
use Rattle.std.proofs.lemmas.Result.{err_from_is_err_and}
use Rattle.amqp_live.specs.Said.{IsChannelLine, SaysFront, SaysSome}
use Rattle.amqp_live.proofs.Lines.{took-channel, says-channel, front-channel, visits-last}
use Rattle.amqp_live.proofs.live.visit.Goals as goal

pub returns-in_err-say-2-clause-visits : goal.returns-in_err-say-2-clause-visits
returns-in_err-say-2-clause-visits g c =
    let p = err_from_is_err_and c.from_residual-in_err-say-2.result c.from_residual-in_err-say-2.ensures.1 in
    let line : IsChannelLine c.as_bytes.result.now = subst IsChannelLine (sym c.as_bytes.ensures.value) c.in_ok-channel.ensures in
    let said : SaysFront (g.K.Sink.held c.args.sink.now) (g.K.Sink.held c.say-2.new.sink) =
    front-channel c.as_bytes.result.now (g.K.Sink.held c.args.sink.now) (g.K.Sink.held c.say.new.sink) (g.K.Sink.held c.say-2.new.sink)
    line c.in_ok-say.ensures.ok c.in_err-say-2.ensures.front in
    rw (p.1, p.2, c.in_err-say-2.ensures.only) said

pub returns-in_err-close-clause-visits : goal.returns-in_err-close-clause-visits
returns-in_err-close-clause-visits g c =
    let p = err_from_is_err_and c.from_residual-in_err-close.result c.from_residual-in_err-close.ensures.1 in
    let line : IsChannelLine c.as_bytes.result.now = subst IsChannelLine (sym c.as_bytes.ensures.value) c.in_ok-channel.ensures in
    let said : SaysSome (g.K.Sink.held c.args.sink.now) (g.K.Sink.held c.say-2.new.sink) =
    says-channel (g.K.Sink.held c.args.sink.now) (g.K.Sink.held c.say-2.new.sink)
    (took-channel c.as_bytes.result.now (g.K.Sink.held c.args.sink.now) (g.K.Sink.held c.say.new.sink) (g.K.Sink.held c.say-2.new.sink)
    line c.in_ok-say.ensures.ok c.in_ok-say-2.ensures.ok) in
    rw (p.1, p.2) said

pub returns-clause-visits : goal.returns-clause-visits
returns-clause-visits g c =
    let line : IsChannelLine c.as_bytes.result.now = subst IsChannelLine (sym c.as_bytes.ensures.value) c.in_ok-channel.ensures in
    visits-last (g.K.Sink.held c.args.sink.now) (g.K.Sink.held c.say-2.new.sink) (g.K.Sink.held c.say-3.new.sink) c.say-3.result
    (took-channel c.as_bytes.result.now (g.K.Sink.held c.args.sink.now) (g.K.Sink.held c.say.new.sink) (g.K.Sink.held c.say-2.new.sink)
    line c.in_ok-say.ensures.ok c.in_ok-say-2.ensures.ok)
    c.say-3.ensures.ok c.say-3.ensures.only c.say-3.ensures.front

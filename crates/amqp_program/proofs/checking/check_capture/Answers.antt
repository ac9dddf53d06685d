use Rattle.std.proofs.Common.{◌≡◌, ℕ, List, take, IfSome, sym, subst}
use Rattle.amqp_replay.specs.declared.limits.TheConstants.{MOST_READ}
use Rattle.amqp_program.proofs.Checked.{ChecksSomeCapture-read, ChecksCapture-told}
use Rattle.amqp_program.proofs.checking.check_capture.Goals as goal

pub returns-in-Ok-clause-checked : goal.returns-in-Ok-clause-checked
returns-in-Ok-clause-checked g c =
    let P : List ℕ → Type 0 = λ x. IfSome (g.S.Source.left c.args.source.now) (λ all. x ≡ take MOST_READ all) in
    ChecksCapture-told (g.S.Source.left c.args.source.now) (g.K.Sink.held c.args.sink.now) (g.K.Sink.held c.answer.new.sink) c.answer.result c.deref.result.now
    (subst P (sym c.deref.ensures.value) c.in-Ok.ensures.text) c.answer.ensures.checked

pub returns-in-Ok-clause-some_capture : goal.returns-in-Ok-clause-some_capture
returns-in-Ok-clause-some_capture g c =
    let P : List ℕ → Type 0 = λ x. IfSome (g.S.Source.left c.args.source.now) (λ all. x ≡ take MOST_READ all) in
    ChecksSomeCapture-read (g.S.Source.left c.args.source.now) (g.K.Sink.held c.args.sink.now) (g.K.Sink.held c.answer.new.sink) c.answer.result c.deref.result.now
    (subst P (sym c.deref.ensures.value) c.in-Ok.ensures.text) c.answer.ensures.checked

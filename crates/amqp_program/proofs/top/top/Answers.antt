use Rattle.std.proofs.Common.{◌≡◌, ◌∙◌, Some, ap, sym}
use Rattle.amqp_program.specs.declared.asked.Asked.{Asked}
use Rattle.amqp_program.specs.declared.asked.Asked.TheVariants.{Replay, Generate, Check}
use Rattle.amqp_program.proofs.Numbers.{asked-within, number-taken}
use Rattle.amqp_program.proofs.top.top.Goals as goal

pub returns-in-Replay-clause-some_capture : goal.returns-in-Replay-clause-some_capture
returns-in-Replay-clause-some_capture g c checks =
    let both : Some Replay ≡ Some Check =
    ap (λ (x : Asked). Some x) (sym c.in-Replay.is) ∙ sym c.in-Some.is ∙ c.asked_by.ensures ∙ checks in
    absurd cc

pub returns-in-Generate-clause-some_script : goal.returns-in-Generate-clause-some_script
returns-in-Generate-clause-some_script g c replays =
    let both : Some (Generate c.in-Generate.count) ≡ Some Replay =
    ap (λ (x : Asked). Some x) (sym c.in-Generate.is) ∙ sym c.in-Some.is ∙ c.asked_by.ensures ∙ replays in
    absurd cc

pub returns-in-Generate-clause-some_capture : goal.returns-in-Generate-clause-some_capture
returns-in-Generate-clause-some_capture g c checks =
    let both : Some (Generate c.in-Generate.count) ≡ Some Check =
    ap (λ (x : Asked). Some x) (sym c.in-Generate.is) ∙ sym c.in-Some.is ∙ c.asked_by.ensures ∙ checks in
    absurd cc

pub returns-in-Check-clause-some_script : goal.returns-in-Check-clause-some_script
returns-in-Check-clause-some_script g c replays =
    let both : Some Check ≡ Some Replay =
    ap (λ (x : Asked). Some x) (sym c.in-Check.is) ∙ sym c.in-Some.is ∙ c.asked_by.ensures ∙ replays in
    absurd cc

pub returns-in-Generate-clause-generated : goal.returns-in-Generate-clause-generated
returns-in-Generate-clause-generated g c count asked =
    let both : Some (Generate c.in-Generate.count) ≡ Some (Generate count) =
    ap (λ (x : Asked). Some x) (sym c.in-Generate.is) ∙ sym c.in-Some.is ∙ c.asked_by.ensures ∙ asked in
    let same : c.in-Generate.count ≡ count = cc in
    number-taken c.in-Generate.count count (g.P.Port.log c.args.port.now) (g.P.Port.log c.generate.new.port) (g.K.Sink.held c.args.sink.now) (g.K.Sink.held c.generate.new.sink)
    c.generate.result same (asked-within c.args.words.now count asked) c.generate.ensures.outcome

use Rattle.std.proofs.Common.{◌≡◌, ◌∙◌, Some, None, sym}
use Rattle.amqp_program.specs.declared.asked.Asked.TheVariants.{Replay, Generate, Check}
use Rattle.amqp_doubled.proofs.OtherWords.{no_other}
use Rattle.amqp_doubled.proofs.top.top_doubled.Goals as goal

pub returns-in-Some-clause-some_script : goal.returns-in-Some-clause-some_script
returns-in-Some-clause-some_script g c asked =
    let none = no_other c.args.words.now c.in-Some.count (sym c.doubled_number.ensures.value ∙ c.in-Some.is) in
    let both : None ≡ Some Replay = sym none ∙ asked in
    absurd cc

pub returns-in-Some-clause-generated : goal.returns-in-Some-clause-generated
returns-in-Some-clause-generated g c count asked =
    let none = no_other c.args.words.now c.in-Some.count (sym c.doubled_number.ensures.value ∙ c.in-Some.is) in
    let both : None ≡ Some (Generate count) = sym none ∙ asked in
    absurd cc

pub returns-in-Some-clause-some_capture : goal.returns-in-Some-clause-some_capture
returns-in-Some-clause-some_capture g c asked =
    let none = no_other c.args.words.now c.in-Some.count (sym c.doubled_number.ensures.value ∙ c.in-Some.is) in
    let both : None ≡ Some Check = sym none ∙ asked in
    absurd cc

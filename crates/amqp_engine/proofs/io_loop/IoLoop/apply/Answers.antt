use Rattle.std.proofs.Common.{◌≡◌, ◌⊎◌, ◌∙◌, false, Some, ap, subst, sym}
use Rattle.amqp_promise.specs.declared.io_fault.IoFault.TheVariants.{BrokenPipe}
use Rattle.amqp_rules.specs.Talk.{has_ended}
use Rattle.amqp_engine.specs.Engine.{Engine}
use Rattle.amqp_engine.specs.Turn.{Notes}
use Rattle.amqp_engine.specs.Noting.{notes_in}
use Rattle.amqp_engine.specs.Tell.{AppliesNoted, turn_of}
use Rattle.amqp_engine.specs.Account.{HasHistory, CarriesOnce}
use Rattle.amqp_engine.specs.Causes.{IsCause, brought}
use Rattle.amqp_types.specs.Counts.{Rose}
use Rattle.amqp_engine.proofs.LeftUnread.{Applies-read}
use Rattle.amqp_engine.proofs.TurnEnds.{applied-cause}
use Rattle.amqp_engine.proofs.Faults.{applied-fault}
use Rattle.amqp_engine.proofs.Running.{fit-of}
use Rattle.amqp_engine.proofs.Carrying.{turn-carried}
use Rattle.amqp_engine.proofs.Blaming.{blamed}
use Rattle.amqp_engine.proofs.io_loop.IoLoop.apply.Goals as goal

pub invariant_of-self-2 : goal.invariant_of-self-2
invariant_of-self-2 g c = (c.self.invariant.0, Applies-read _ _ _ _ _ _ _ _ c.apply-applied.ensures.turn.applies c.self.invariant.1)

pub returns-clause-read : goal.returns-clause-read
returns-clause-read g c = Applies-read _ _ _ _ _ _ _ _ c.apply-applied.ensures.turn.applies c.self.invariant.1

pub returns-clause-turn : goal.returns-clause-turn
returns-clause-turn g c =
    let P : Engine → Type 0 = λ x. AppliesNoted c.args.told.at c.args.told.step c.args.bytes.now (notes_in c.apply-applied.new.noted) x c.apply-applied.new.self (g.P.Port.log c.args.port.now) (g.P.Port.log c.apply-applied.new.port)
    (g.A.AuthProvider.allows c.args.provider.now) (g.A.AuthProvider.allows c.apply-applied.new.provider) in
    let Q : Notes → Type 0 = λ n. AppliesNoted c.args.told.at c.args.told.step c.args.bytes.now n c.args.self.now c.apply-applied.new.self (g.P.Port.log c.args.port.now) (g.P.Port.log c.apply-applied.new.port)
    (g.A.AuthProvider.allows c.args.provider.now) (g.A.AuthProvider.allows c.apply-applied.new.provider) in
    let t = c.apply-applied.ensures.turn in
    let fit = fit-of _ _ _ _ c.hold.ensures.can c.apply-applied.ensures.octets c.apply-applied.ensures.answered in
    subst Q (sym c.put.ensures) (subst P c.self.view_is (record { applies = t.applies; fit = fit; exchanged = t.exchanged }))

pub returns-in_err-applied-clause-turn : goal.returns-in_err-applied-clause-turn
returns-in_err-applied-clause-turn g c =
    let P : Engine → Type 0 = λ x. AppliesNoted c.args.told.at c.args.told.step c.args.bytes.now (notes_in c.apply-applied.new.noted) x c.apply-applied.new.self (g.P.Port.log c.args.port.now) (g.P.Port.log c.apply-applied.new.port)
    (g.A.AuthProvider.allows c.args.provider.now) (g.A.AuthProvider.allows c.apply-applied.new.provider) in
    let Q : Notes → Type 0 = λ n. AppliesNoted c.args.told.at c.args.told.step c.args.bytes.now n c.args.self.now c.apply-applied.new.self (g.P.Port.log c.args.port.now) (g.P.Port.log c.apply-applied.new.port)
    (g.A.AuthProvider.allows c.args.provider.now) (g.A.AuthProvider.allows c.apply-applied.new.provider) in
    let t = c.apply-applied.ensures.turn in
    let fit = fit-of _ _ _ _ c.hold.ensures.can c.apply-applied.ensures.octets c.apply-applied.ensures.answered in
    subst Q (sym c.put.ensures) (subst P c.self.view_is (record { applies = t.applies; fit = fit; exchanged = t.exchanged }))

pub returns-clause-cause : goal.returns-clause-cause
returns-clause-cause g c k running h =
    let P : Engine → Type 0 = λ x. IsCause k (turn_of c.args.told.at c.args.told.step c.args.bytes.now (notes_in c.apply-applied.new.noted)) x in
    let Q : Notes → Type 0 = λ n. IsCause k (turn_of c.args.told.at c.args.told.step c.args.bytes.now n) c.args.self.now in
    let cause = applied-cause _ _ _ _ _ _ _ _ k c.apply-applied.ensures.turn.applies (ap (λ (x : Engine). has_ended x.talk) c.self.view_is ∙ running) h in
    subst Q (sym c.put.ensures) (subst P c.self.view_is cause)

pub returns-in_err-applied-clause-cause : goal.returns-in_err-applied-clause-cause
returns-in_err-applied-clause-cause g c k running h =
    let P : Engine → Type 0 = λ x. IsCause k (turn_of c.args.told.at c.args.told.step c.args.bytes.now (notes_in c.apply-applied.new.noted)) x in
    let Q : Notes → Type 0 = λ n. IsCause k (turn_of c.args.told.at c.args.told.step c.args.bytes.now n) c.args.self.now in
    let cause = applied-cause _ _ _ _ _ _ _ _ k c.apply-applied.ensures.turn.applies (ap (λ (x : Engine). has_ended x.talk) c.self.view_is ∙ running) h in
    subst Q (sym c.put.ensures) (subst P c.self.view_is cause)

pub returns-clause-io_error_counted : goal.returns-clause-io_error_counted
returns-clause-io_error_counted g c fault running h =
    let P : Engine → Type 0 = λ x. (brought c.args.told.step x.talk ≡ Some fault)
    ⊎ ((fault ≡ BrokenPipe) × Rose (g.P.Port.faults c.args.port.now) (g.P.Port.faults c.apply-applied.new.port)) in
    subst P c.self.view_is (applied-fault _ _ _ _ _ _ _ _ _ _ _ _ fault c.apply-applied.ensures.turn (ap (λ (x : Engine). has_ended x.talk) c.self.view_is ∙ running) h)

pub returns-in_err-applied-clause-io_error_counted : goal.returns-in_err-applied-clause-io_error_counted
returns-in_err-applied-clause-io_error_counted g c fault running h =
    let P : Engine → Type 0 = λ x. (brought c.args.told.step x.talk ≡ Some fault)
    ⊎ ((fault ≡ BrokenPipe) × Rose (g.P.Port.faults c.args.port.now) (g.P.Port.faults c.apply-applied.new.port)) in
    subst P c.self.view_is (applied-fault _ _ _ _ _ _ _ _ _ _ _ _ fault c.apply-applied.ensures.turn (ap (λ (x : Engine). has_ended x.talk) c.self.view_is ∙ running) h)

pub returns-clause-refusal_counted : goal.returns-clause-refusal_counted
returns-clause-refusal_counted g c text running h =
    blamed c.self.inside.wire.talk c.apply-applied.new.self.talk _ _ text c.apply-applied.ensures.blames (ap (λ (x : Engine). has_ended x.talk) c.self.view_is ∙ running) h

pub returns-in_err-applied-clause-refusal_counted : goal.returns-in_err-applied-clause-refusal_counted
returns-in_err-applied-clause-refusal_counted g c text running h =
    blamed c.self.inside.wire.talk c.apply-applied.new.self.talk _ _ text c.apply-applied.ensures.blames (ap (λ (x : Engine). has_ended x.talk) c.self.view_is ∙ running) h

pub returns-clause-carried : goal.returns-clause-carried
returns-clause-carried g c h running has =
    let P : Engine → Type 0 = λ x. has_ended x.talk ≡ false → HasHistory x h → CarriesOnce (turn_of c.args.told.at c.args.told.step c.args.bytes.now (notes_in c.apply-applied.new.noted)) h x c.apply-applied.new.self (g.P.Port.log c.args.port.now) (g.P.Port.log c.apply-applied.new.port) in
    let Q : Notes → Type 0 = λ n. CarriesOnce (turn_of c.args.told.at c.args.told.step c.args.bytes.now n) h c.args.self.now c.apply-applied.new.self (g.P.Port.log c.args.port.now) (g.P.Port.log c.apply-applied.new.port) in
    let fit = fit-of _ _ _ _ c.hold.ensures.can c.apply-applied.ensures.octets c.apply-applied.ensures.answered in
    subst Q (sym c.put.ensures) (subst P c.self.view_is (turn-carried _ _ _ _ _ _ _ _ h c.apply-applied.ensures.turn.applies c.hold.ensures.told fit) running has)

pub returns-in_err-applied-clause-carried : goal.returns-in_err-applied-clause-carried
returns-in_err-applied-clause-carried g c h running has =
    let P : Engine → Type 0 = λ x. has_ended x.talk ≡ false → HasHistory x h → CarriesOnce (turn_of c.args.told.at c.args.told.step c.args.bytes.now (notes_in c.apply-applied.new.noted)) h x c.apply-applied.new.self (g.P.Port.log c.args.port.now) (g.P.Port.log c.apply-applied.new.port) in
    let Q : Notes → Type 0 = λ n. CarriesOnce (turn_of c.args.told.at c.args.told.step c.args.bytes.now n) h c.args.self.now c.apply-applied.new.self (g.P.Port.log c.args.port.now) (g.P.Port.log c.apply-applied.new.port) in
    let fit = fit-of _ _ _ _ c.hold.ensures.can c.apply-applied.ensures.octets c.apply-applied.ensures.answered in
    subst Q (sym c.put.ensures) (subst P c.self.view_is (turn-carried _ _ _ _ _ _ _ _ h c.apply-applied.ensures.turn.applies c.hold.ensures.told fit) running has)

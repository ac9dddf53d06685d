use Rattle.std.proofs.Common.{◌∙◌, sym, subst, Option}
use Rattle.amqp_legal.specs.Decider.{say}
use Rattle.amqp_types.proofs.Small.{if-true, if-false}
use Rattle.amqp_resumed.specs.Resumes.{Late, JudgedLate, late_of, opened_before, known_now, opens_channel, said_as}
use Rattle.amqp_resumed.proofs.resumed.Resumed.say_opening_or_use.Goals as goal

pub returns-then-is_opening : goal.returns-then-is_opening
returns-then-is_opening c =
    let f = c.args.frame.now in
    let l = late_of c.args.self.now in
    let channel = c.args.channel in
    let said = subst (λ (x : Late). JudgedLate (said_as x (say f x.said)) c.say_as.result c.say_as.new.self) c.note_known.ensures c.say_as.ensures in
    subst (λ (o : Option Late). JudgedLate o c.say_as.result c.say_as.new.self)
    (sym (if-true (opens_channel f) (said_as (known_now channel l) (say f l.said)) (said_as (opened_before channel l) (say f (opened_before channel l).said)) (sym c.is_opening.ensures ∙ c.if-is_opening.true))) said

pub returns : goal.returns
returns c =
    let f = c.args.frame.now in
    let l = late_of c.args.self.now in
    let channel = c.args.channel in
    let said = subst (λ (x : Late). JudgedLate (said_as x (say f x.said)) c.say_as-2.result c.say_as-2.new.self) c.open.ensures c.say_as-2.ensures in
    subst (λ (o : Option Late). JudgedLate o c.say_as-2.result c.say_as-2.new.self)
    (sym (if-false (opens_channel f) (said_as (known_now channel l) (say f l.said)) (said_as (opened_before channel l) (say f (opened_before channel l).said)) (sym c.is_opening.ensures ∙ c.if-is_opening.false)))
    said

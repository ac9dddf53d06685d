use Rattle.std.proofs.Common.{◌∙◌, sym}
use Rattle.amqp_double.proofs.Saying.{said-first, refused-first, said-next, refused-next}
use Rattle.amqp_double.proofs.heard.Heard.say.Goals as goal

pub returns-else-self-eq0-clause-said : goal.returns-else-self-eq0-clause-said
returns-else-self-eq0-clause-said c said frames h =
    said-next frames c.args.frame.now c.args.self.now c.say.new.self c.if-self-eq0.false h (c.say.ensures.said said)

pub returns-else-self-eq0-clause-refused : goal.returns-else-self-eq0-clause-refused
returns-else-self-eq0-clause-refused c refused frames h =
    refused-next frames c.args.frame.now c.args.self.now c.if-self-eq0.false h (c.say.ensures.refused refused)

pub returns-then-self-eq0-clause-said : goal.returns-then-self-eq0-clause-said
returns-then-self-eq0-clause-said c said frames h =
    said-first frames c.args.frame.now c.args.self.now c.if-self-eq0.true h (sym c.is_amqp_header.ensures ∙ said)

pub returns-then-self-eq0-clause-refused : goal.returns-then-self-eq0-clause-refused
returns-then-self-eq0-clause-refused c refused frames h =
    refused-first frames c.args.frame.now c.args.self.now c.if-self-eq0.true h (sym c.is_amqp_header.ensures ∙ refused)

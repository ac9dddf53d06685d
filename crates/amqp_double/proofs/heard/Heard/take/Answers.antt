use Rattle.std.proofs.Common.{◌≡◌, ◌+◌, ◌++◌, ap, rules}
use Rattle.amqp_double.specs.declared.heard.Heard.{Heard}
use Rattle.amqp_double.proofs.Taking.{read-more}
use Rattle.amqp_double.proofs.heard.Heard.take.Goals as goal

pub returns-clause-taken : goal.returns-clause-taken
returns-clause-taken c taken frames h =
    let same = c.say.ensures.same in
    let may = c.say.ensures.said c.if-not-say.false frames h in
    let said : c.extend_from_slice.new.self.items ≡ c.args.self.now.said.items ++ c.args.next.now.reply.items = search rules in
    read-more frames c.args.self.now _ c.args.next.now h c.requires.arrived (ap (λ (x : Heard). x.client.items) same) (ap (λ (x : Heard). x.numbers) same)
    (ap (λ (x : Heard). x.read + c.args.next.now.size) same) (ap (λ (x : Heard). x.frames + 1) same) said (ap (λ (x : Heard). x.sent) same) c.is_last-self.ensures may.0 may.1

use Rattle.std.proofs.Common.{◌∙◌, ap, sym, ◌++◌, ◌∷◌, [], map}
use Rattle.amqp_outbox.specs.Items.{plain_item, group_of}
use Rattle.amqp_outbox.proofs.Cases.{if-ok}
use Rattle.amqp_outbox.proofs.Groups.{group-ends}
use Rattle.amqp_outbox.proofs.group.Group.new.Goals as goal

pub returns-in-Ok : goal.returns-in-Ok
returns-in-Ok c =
    let channel = c.args.channel in
    let frames = c.pop.new.self.items in
    if-ok c.ended_by.result (λ g is.
    is ∙ ap (λ items. items ++ c.promised-last.result ∷ []) c.in-Ok.ensures
    ∙ ap (λ item. map (plain_item channel) frames ++ item ∷ []) c.promised-last.ensures
    ∙ group-ends channel c.args.promise frames c.in-Some.last
    ∙ ap (λ fs. group_of channel fs c.args.promise) (sym c.in-Some.ensures.items))
    c.ended_by.ensures

use Rattle.std.proofs.Common.{◌∙◌, ap, sym, Some}
use Rattle.amqp_resumed.specs.Resumes.{Late, late_of, say_within}
use Rattle.amqp_resumed.proofs.resumed.Resumed.begin_within.Goals as goal

pub returns-in-Some : goal.returns-in-Some
returns-in-Some c =
    let l = late_of c.args.self.now in
    ap (λ begun. say_within begun c.args.frame.now l) c.in-Some.is ∙ ap (λ (x : Late). Some (record x { heard = c.in-Some.heard })) (sym c.open.ensures)

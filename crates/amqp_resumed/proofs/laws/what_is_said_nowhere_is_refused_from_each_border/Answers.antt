use Rattle.std.proofs.Common.{Some, is_some, ap, sym, ◌∙◌}
use Rattle.amqp_resumed.proofs.Refusing.{each-none}
use Rattle.amqp_resumed.specs.Resumes.{heard_nothing}
use Rattle.amqp_resumed.proofs.laws.what_is_said_nowhere_is_refused_from_each_border.Goals as goal

pub returns : goal.returns
returns c = λ frame other none frames more taken.
    let no = sym taken ∙ ap is_some (each-none frame other none (Some heard_nothing) frames more) in
    cc

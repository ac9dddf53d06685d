use Rattle.std.proofs.Common.{◌∙◌, ◌+◌, ◌++◌, [], ◌∷◌, ℕ, Option, ap, sym}
use Rattle.amqp_commands.specs.declared.command.Cmd.{Cmd}
use Rattle.amqp_engine.specs.Plan.{at_most_64}
use Rattle.amqp_joined.specs.declared.marks.Marked.TheVariants as marked
use Rattle.amqp_joined.proofs.Steps.{tells_close}
use Rattle.amqp_joined.proofs.inside.Inside.close_or_tick.Goals as goal

pub returns-in-Some-clause-tells : goal.returns-in-Some-clause-tells
returns-in-Some-clause-tells c =
    let old = c.args.self.now in
    tells_close old c.mark.new.self c.in-Some.close c.requires.holds c.requires.linked c.requires.long c.requires.none c.requires.commands
    (sym c.take.ensures.value ∙ c.in-Some.is)
    (c.mark.ensures.same ∙ ap (λ (o : Option Cmd). record old { close = o; marks = c.mark.new.self.marks; told = at_most_64 (old.told + 1) }) c.take.ensures.after)
    (c.mark.ensures.marks ∙ ap (λ (n : ℕ). old.marks.items ++ record { before = old.told; what = marked.Command n } ∷ []) c.requires.number) c.mark.ensures.places

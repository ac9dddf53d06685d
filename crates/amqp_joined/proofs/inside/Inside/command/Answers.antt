use Rattle.std.proofs.Common.{◌∙◌, ◌≡◌, ◌+◌, ◌-◌, ◌++◌, [], ◌∷◌, ℕ, Option, length, ap, sym, rules}
use Rattle.std.specs.Option.{option_to_list}
use Rattle.amqp_commands.specs.declared.command.Cmd.{Cmd}
use Rattle.amqp_engine.specs.Plan.{at_most_64}
use Rattle.amqp_joined.specs.declared.inside.Inside.{Inside}
use Rattle.amqp_joined.specs.declared.marks.Marked.TheVariants as marked
use Rattle.amqp_joined.proofs.Steps.{tells_command}
use Rattle.amqp_joined.proofs.inside.Inside.command.Goals as goal

pub returns-in-Some-clause-tells : goal.returns-in-Some-clause-tells
returns-in-Some-clause-tells c =
    let old = c.args.self.now in
    let new = c.mark.new.self in
    let number : c.len.result - c.len-2.result ≡ length old.plan.commands.items - length old.commands.items = search rules in
    tells_command old new c.in-Some.command c.pop_front.new.self.items c.requires.holds c.requires.linked c.requires.long c.requires.none
    (c.pop_front.ensures.items ∙ ap (λ (o : Option Cmd). option_to_list o ++ c.pop_front.new.self.items) c.in-Some.is)
    (c.mark.ensures.same ∙ ap (λ v. record old { commands = v; marks = new.marks; told = at_most_64 (old.told + 1) }) (sym (ap (λ (x : Inside). x.commands) c.mark.ensures.same)))
    (ap (λ (x : Inside). x.commands.items) c.mark.ensures.same)
    (c.mark.ensures.marks ∙ ap (λ (n : ℕ). old.marks.items ++ record { before = old.told; what = marked.Command n } ∷ []) number) c.mark.ensures.places

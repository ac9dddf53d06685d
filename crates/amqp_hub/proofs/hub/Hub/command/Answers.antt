use Rattle.std.proofs.Common.{◌≡◌, ◌∙◌, ◌+◌, ◌≤◌, List, [], ◌∷◌, ◌++◌, Some, refl, ap, sym, arith, rules}
use Rattle.amqp_rules.specs.Commands.{command}
use Rattle.amqp_commands.specs.declared.command.Cmd.{Cmd}
use Rattle.amqp_engine.specs.Engine.{Engine, with_talk}
use Rattle.amqp_journal.specs.declared.entry.Entry.{Entry}
use Rattle.amqp_journal.specs.declared.entry.Entry.TheVariants.{Called}
use Rattle.amqp_hub.specs.Passes.{count_of}
use Rattle.amqp_hub.proofs.Keeping.{kept-called}
use Rattle.amqp_hub.proofs.hub.Hub.command.Goals as goal

pub invariant_of-self-in-Ok-command : goal.invariant_of-self-in-Ok-command
invariant_of-self-in-Ok-command c =
    let e : Engine = c.self.inside.engine in
    let e' : Engine = c.command.new.self in
    let n = c.args.pass.now.number in
    let made = c.args.pass.now.made in
    let kept = c.in-Ok.kept in
    let o = c.in-Ok-command.promise in
    let home : count_of n c.self.inside.counts.items ≡ Some made = search rules in
    let he : e' ≡ with_talk (command kept) e = c.in-Ok-command.ensures.ok ∙ ap (λ (x : Cmd). with_talk (command x) e) (sym c.in-Ok.ensures.kept) in
    let hj : c.enter-receipt.new.journal.items ≡ c.self.inside.journal.items ++ Called n (made + 1) kept o ∷ [] =
    c.enter-receipt.ensures.journal ∙ ap (λ (x : List Entry). x ++ Called n (made + 1) kept o ∷ []) c.kept_copy.ensures.items in (
      kept-called n made (made + 1) kept o e e' _ c.self.inside.journal.items c.enter-receipt.new.journal.items
          c.self.inside.counts.items c.enter-receipt.new.counts.items home refl he hj c.enter-receipt.ensures.counts c.self.invariant.0,
      λ running. omega (arith, c.enter-receipt.ensures.len, c.enter-receipt.ensures.capacity, c.in-Ok.ensures.room),
    )

use Rattle.std.proofs.Common.{◌≡◌, ◌∙◌, List, [], ◌∷◌, ◌++◌, true, false, ap, arith}
use Rattle.amqp_rules.specs.Talk.{has_ended}
use Rattle.amqp_engine.specs.Engine.{Engine}
use Rattle.amqp_journal.specs.declared.entry.Entry.{Entry}
use Rattle.amqp_journal.specs.declared.entry.Entry.TheVariants.{Turn}
use Rattle.amqp_journal.specs.declared.entry.Turn.{Turn as Taken}
use Rattle.amqp_hub.proofs.Keeping.{kept-starved, starved-ends}
use Rattle.amqp_hub.proofs.hub.Hub.starve.Goals as goal

pub invariant_of-self : goal.invariant_of-self
invariant_of-self c =
    let e : Engine = c.self.inside.engine in
    let e' : Engine = c.starve.new.self in
    let over : has_ended e'.talk ≡ true = ap (λ (y : Engine). has_ended y.talk) c.starve.ensures.engine ∙ starved-ends c.args.told.at e in
    let hj = c.push_reserved.ensures.items ∙ ap (λ (u : Taken). c.self.inside.journal.items ++ Turn u ∷ []) c.cut_turn-turn.ensures in (
      kept-starved c.args.told.at c.args.told.step e e' _ c.self.inside.journal.items c.push_reserved.new.self.items c.self.inside.counts.items
          (search arith) c.starve.ensures.engine hj c.self.invariant.0,
      λ running. grind (arith, over, running),
    )

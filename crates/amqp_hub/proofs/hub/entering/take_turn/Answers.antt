use Rattle.std.proofs.Common.{◌≡◌, ◌∙◌, [], ◌∷◌, ◌++◌, ap, sym}
use Rattle.amqp_rules.specs.Talk.{end_of}
use Rattle.amqp_engine.specs.Engine.{Engine}
use Rattle.amqp_journal.specs.declared.entry.Entry.TheVariants.{Turn}
use Rattle.amqp_journal.specs.declared.entry.Turn.{Turn as Taken}
use Rattle.amqp_journal.proofs.Asking.{asks-end}
use Rattle.amqp_hub.proofs.hub.entering.take_turn.Goals as goal

pub returns-clause-turn : goal.returns-clause-turn
returns-clause-turn g c =
    let x : Engine = c.apply-applied.new.self in
    record {
      notes = c.apply-applied.new.notes;
      cut = c.apply-applied.ensures.noted;
      engine = x;
      told = g.P.Port.log c.apply-applied.new.port;
      applies = c.apply-applied.ensures.turn;
      asked = c.ask.ensures.engine;
      entered = c.push_reserved.ensures.items
          ∙ ap (λ (u : Taken). c.args.journal.now.items ++ Turn (record u { notes = c.apply-applied.new.notes }) ∷ []) c.requires.copy;
      asks_told = c.ask.ensures.told;
      cause = λ k running ended. c.apply-applied.ensures.cause k running
          (sym (ap (λ (y : Engine). end_of y.talk) c.ask.ensures.engine ∙ asks-end x) ∙ ended);
    }

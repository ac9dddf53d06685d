-- What is done about marks that were found.
use Rattle.std.specs.Prelude.{Bool, true, false, [], ◌∷◌, ◌++◌}
use Rattle.amqp_rules.specs.Commands.{command}
use Rattle.amqp_engine.specs.Engine.{with_talk}
use Rattle.amqp_journal.specs.declared.entry.Entry.TheVariants.{Own}
use Rattle.amqp_hub.specs.declared.due.Owner.{Owner}
use Rattle.amqp_hub.specs.declared.due.Due.{Due}
use Rattle.amqp_hub.specs.declared.due.Due.TheVariants.{Now, Later, Never}
use Rattle.amqp_hub.specs.Guarded.{Guarded, guarded}
use Rattle.amqp_hub.specs.Due.{due_of}

-- a command that is due is told to the engine, and its entry goes last; else nothing is done
abbrev pub done : Due → Guarded → Guarded
done (Now c) h = guarded (with_talk (command c) h.engine) h.base (h.journal ++ Own c ∷ []) h.counts
done Later h = h
done Never h = h

-- what is due about what this owned is done
abbrev pub owned : Owner → Guarded → Guarded
owned o h = done (due_of h.engine.talk o) h

-- it is looked at again
abbrev pub is_later : Due → Bool
is_later (Now c) = false
is_later Later = true
is_later Never = false

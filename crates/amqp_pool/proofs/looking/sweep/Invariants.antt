-- What stays_idle of the channels so far stands in front.
use Rattle.std.proofs.lemmas.List.Filters.{FiltersInPlace}
use Rattle.amqp_pool.specs.Looking.{stays_idle}
use Rattle.amqp_pool.proofs.looking.sweep.Given as goal

abbrev pub invariant-idle : goal.invariant-idle
invariant-idle l = FiltersInPlace (stays_idle l.session l.taken) l.initial.idle.items l.idle.items l.kept l.place

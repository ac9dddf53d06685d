use Rattle.amqp_engine.proofs.SpelledLinks.{turns-spell}
use Rattle.amqp_engine.proofs.laws.the_links_spell_what_is_said.Goals as goal

pub returns : goal.returns
returns c = turns-spell

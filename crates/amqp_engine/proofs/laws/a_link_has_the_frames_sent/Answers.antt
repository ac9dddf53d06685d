use Rattle.amqp_engine.proofs.HistoryBegun.{turns-sendings}
use Rattle.amqp_engine.proofs.SpelledLinks.{holds-rest}
use Rattle.amqp_engine.proofs.Sends.{order}
use Rattle.amqp_engine.proofs.GoingOn.{sends-said, told-on}
use Rattle.amqp_engine.proofs.laws.a_link_has_the_frames_sent.Goals as goal

pub returns-clause-sent : goal.returns-clause-sent
returns-clause-sent c e h us = turns-sendings us e h

pub returns-clause-told : goal.returns-clause-told
returns-clause-told c e h us log has may tells = (told-on us e h.sent log may (sends-said e h has) tells).links

pub returns-clause-order : goal.returns-clause-order
returns-clause-order c e h us has may = order us e h.sent may (sends-said e h has)

pub returns-clause-unsent : goal.returns-clause-unsent
returns-clause-unsent c = holds-rest

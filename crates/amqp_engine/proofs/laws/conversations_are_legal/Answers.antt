use Rattle.amqp_engine.proofs.LegalLinks.{sent_legal, committed_legal, turns_sent_legal}
use Rattle.amqp_engine.proofs.ToldScripts.{script_legal}
use Rattle.amqp_engine.proofs.laws.conversations_are_legal.Goals as goal

pub returns-clause-sent : goal.returns-clause-sent
returns-clause-sent c = sent_legal

pub returns-clause-committed : goal.returns-clause-committed
returns-clause-committed c = committed_legal

pub returns-clause-turns : goal.returns-clause-turns
returns-clause-turns c = turns_sent_legal

pub returns-clause-script : goal.returns-clause-script
returns-clause-script c = script_legal

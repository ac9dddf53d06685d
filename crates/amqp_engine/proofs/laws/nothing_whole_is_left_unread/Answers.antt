use Rattle.amqp_rules.specs.Negotiation.{frame_limit}
use Rattle.amqp_frame.proofs.FrontStays.{front-none}
use Rattle.amqp_engine.proofs.LeftUnread.{turn-read}
use Rattle.amqp_engine.proofs.laws.nothing_whole_is_left_unread.Goals as goal

pub returns-clause-turn : goal.returns-clause-turn
returns-clause-turn c = λ u e h may. turn-read u e may h

pub returns-clause-begin : goal.returns-clause-begin
returns-clause-begin c t opened = front-none (frame_limit t)

use Rattle.amqp_engine.specs.Engine.{begin}
use Rattle.amqp_engine.specs.Log.{loaded}
use Rattle.amqp_engine.specs.Account.{nothing_told}
use Rattle.amqp_replay.specs.Top.{session_of, replayed_turns}
use Rattle.amqp_replay.proofs.Replaying.{silent, tells-nothing}
use Rattle.amqp_replay.proofs.laws.a_report_has_the_frames_sent.Goals as goal

pub returns-clause-bytes : goal.returns-clause-bytes
returns-clause-bytes c s answers answered =
    c.a_link_has_the_frames_sent.ensures.told (begin (session_of s)) nothing_told (replayed_turns s answers) (loaded s.steps) (silent s.listens s.config)
    (c.a_script_has_its_turns.ensures.turns (session_of s) s.steps answers answered) (tells-nothing s.listens s.config s.steps)

pub returns-clause-order : goal.returns-clause-order
returns-clause-order c s answers answered =
    c.a_link_has_the_frames_sent.ensures.order (begin (session_of s)) nothing_told (replayed_turns s answers) (silent s.listens s.config)
    (c.a_script_has_its_turns.ensures.turns (session_of s) s.steps answers answered)

use Rattle.amqp_engine_tests.proofs.ValidScripts.{closed_by_us-valid, listening-valid, in_pieces-valid, closed_by_them-valid, blocked_a_while-valid, heard_in_time-valid, messages_pass-valid, token_renewed-valid}
use Rattle.amqp_engine_tests.proofs.scripts.are_valid.Goals as goal

pub returns : goal.returns
returns c =
    record {
      closed_by_us = closed_by_us-valid;
      listens = listening-valid;
      in_pieces = in_pieces-valid;
      closed_by_them = closed_by_them-valid;
      blocked_a_while = blocked_a_while-valid;
      heard_in_time = heard_in_time-valid;
      messages_pass = messages_pass-valid;
      token_renewed = token_renewed-valid;
    }

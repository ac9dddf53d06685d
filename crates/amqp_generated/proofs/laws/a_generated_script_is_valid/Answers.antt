use Rattle.amqp_generated.proofs.Generated.{guest-may, parsed-valid, all-valid, generated-new, generated-status}
use Rattle.amqp_replay.specs.GeneratedScenario.{generated_scenario}
use Rattle.amqp_replay.specs.Top.{session_of}
use Rattle.amqp_generated.proofs.laws.a_generated_script_is_valid.Goals as goal

pub returns : goal.returns
returns c =
    record {
      login = guest-may;
      valid = λ count answers within may. parsed-valid count answers within (c.a_generated_script_is_taken.ensures count within) may;
      closed = λ count answers within may.
          c.a_valid_script_ends_closed.ensures.closed (session_of (generated_scenario count)) (generated_scenario count).steps answers (generated-new count) may.answered
          (all-valid count answers within may);
      status = generated-status;
    }

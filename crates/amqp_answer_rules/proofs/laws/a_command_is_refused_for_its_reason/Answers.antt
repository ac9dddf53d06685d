use Rattle.std.proofs.Common.{◌≡◌, ◌≤◌, ap, ℕ, true}
use Rattle.amqp_promise.specs.declared.state.ConnectionState.{ConnectionState}
use Rattle.amqp_promise.specs.declared.state.ConnectionState.TheVariants.{Connected}
use Rattle.amqp_rules.specs.Talk.{Talk}
use Rattle.amqp_rules.specs.Sound.{IsSound, is_agreed}
use Rattle.amqp_answer_rules.proofs.Refused.{refused-exactly}
use Rattle.amqp_answer_rules.proofs.laws.a_command_is_refused_for_its_reason.Goals as goal

pub returns : goal.returns
returns c = λ error cmd t sound takes.
    refused-exactly t (λ opened. sound.room (ap (λ (s : ConnectionState). is_agreed s t.phase) opened)) error cmd takes

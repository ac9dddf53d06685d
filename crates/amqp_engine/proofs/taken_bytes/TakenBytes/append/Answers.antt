use Rattle.std.proofs.Common.{append_assoc, arith}
use Rattle.std.proofs.lemmas.Grind.{common_steps}
use Rattle.amqp_engine.proofs.Bytes.{take-both}
use Rattle.amqp_engine.proofs.taken_bytes.TakenBytes.append.Goals as goal

pub returns-clause-ok : goal.returns-clause-ok
returns-clause-ok c =
    let both = take-both c.args.n c.args.first.now c.args.second.now in
    grind (arith, common_steps, both, append_assoc)

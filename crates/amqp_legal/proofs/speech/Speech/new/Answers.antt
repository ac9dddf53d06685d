use Rattle.std.proofs.Common.{ap, ℕ}
use Rattle.amqp_legal.specs.Decider.{Speech}
use Rattle.amqp_legal.specs.declared.progress.Stage.TheVariants.{HeaderSaid}
use Rattle.amqp_legal.specs.declared.progress.Usage.{Usage}
use Rattle.amqp_legal.specs.declared.progress.Content.TheVariants.{NoContent}
use Rattle.amqp_legal.proofs.Judging.{all-shut}
use Rattle.amqp_legal.proofs.speech.Speech.new.Goals as goal

pub returns : goal.returns
returns c =
    let shut = all-shut 65536 c.in_ok-from_elem.field-0.items (c.in_ok-from_elem.ensures.items_if_clones_equal (λ y same. same)) in
    ap (λ (usage : ℕ → Usage). let s : Speech = record { stage = HeaderSaid; usage = usage; content = NoContent } in s) shut

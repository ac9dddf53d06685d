use Rattle.std.proofs.Common.{ap₂, ℕ, Bool}
use Rattle.amqp_legal.specs.Decider.{Speech}
use Rattle.amqp_resumed.specs.Resumes.{Late}
use Rattle.amqp_resumed.specs.declared.resumed.Heard.TheVariants as heard
use Rattle.amqp_resumed.proofs.Fresh.{none-known}
use Rattle.amqp_resumed.proofs.resumed.Resumed.new.Goals as goal

pub returns : goal.returns
returns c =
    ap₂ (λ (s : Speech) (known : ℕ → Bool). let l : Late = record { heard = heard.Nothing; said = s; known = known } in l) c.in_ok-said.ensures
    (none-known 65536 c.in_ok-known.known.items (c.in_ok-known.ensures.items_if_clones_equal (λ y same. same)))

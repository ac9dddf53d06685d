use Rattle.std.proofs.Common.{◌≡◌, ◌∙◌, ◌+◌, ◌≤◌, ◌^◌, ℕ, List, ap, arith}
use Rattle.amqp_engine.specs.Engine.{Engine}
use Rattle.amqp_hub.specs.Guarded.{Beginning}
use Rattle.amqp_hub.proofs.Keeping.{kept-settled}
use Rattle.amqp_hub.proofs.hub.Hub.settle.Goals as goal

pub invariant_of-self : goal.invariant_of-self
invariant_of-self c =
    let e : Engine = c.self.inside.engine in
    let n : ℕ = c.entries.result + c.len-count.result in
    let begins : c.begin_anew.new.at ≡ record { engine = e; entries = n; made = c.self.inside.counts.items } =
    c.begin_anew.ensures.base ∙ c.in-Ok.ensures ∙ ap (λ (made : List ℕ). record { engine = e; entries = n; made = made }) c.deref.ensures.value in (
      kept-settled n e _ c.begin_anew.new.at c.self.inside.journal.items c.begin_anew.new.journal.items c.self.inside.counts.items
          (search arith) begins c.begin_anew.ensures.empty c.self.invariant.0,
      λ running. omega (arith, c.begin_anew.ensures.len, c.begin_anew.ensures.capacity, c.self.invariant.1 running),
    )

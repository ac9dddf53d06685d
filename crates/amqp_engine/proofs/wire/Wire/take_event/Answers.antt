use Rattle.std.proofs.Common.{◌≡◌, ℕ, List, Result, Ok, Err, OnOk, IfOk, sym, subst}
use Rattle.amqp_types.specs.declared.memory.NoMemory.{NoMemory}
use Rattle.amqp_auth.specs.declared.asked.Asked.{Asked}
use Rattle.amqp_engine.specs.declared.port.Step.{Step}
use Rattle.amqp_engine.specs.declared.port.Step.TheVariants.{Linked}
use Rattle.amqp_engine.specs.Engine.{Engine, step_engine, step_linked}
use Rattle.amqp_engine.specs.Turn.{is_part}
use Rattle.amqp_engine.specs.Making.{parts_of}
use Rattle.amqp_engine.proofs.wire.Wire.take_event.Goals as goal

-- a link that comes is the step that brings it
linked-step : (r : Result ℕ NoMemory) (at : ℕ) (e x : Engine) → OnOk r (x ≡ step_linked at e)
    → OnOk r ((bytes : List ℕ) (answers : List Asked) → x ≡ step_engine at Linked bytes answers e)
linked-step (Ok n) at e x h = λ bytes answers. h
linked-step (Err out) at e x h = tt

pub returns-in-Linked-clause-ok : goal.returns-in-Linked-clause-ok
returns-in-Linked-clause-ok c =
    let P : Step → Type 0 = λ s. OnOk c.take_link.result
    ((bytes : List ℕ) (answers : List Asked) → c.take_link.new.self ≡ step_engine c.args.at s bytes answers c.args.self.now) in
    subst P (sym c.in-Linked.is) (linked-step c.take_link.result c.args.at c.args.self.now c.take_link.new.self c.take_link.ensures.ok)

pub returns-in-Linked-clause-parts : goal.returns-in-Linked-clause-parts
returns-in-Linked-clause-parts c =
    let P : Step → Type 0 = λ s. IfOk c.take_link.result (λ n. n ≡ parts_of (is_part s c.args.self.now)) in
    subst P (sym c.in-Linked.is) c.take_link.ensures.parts

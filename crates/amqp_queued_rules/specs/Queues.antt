-- Which frames a rule queues: after it there waits a part of what waited before, and last of all these.
use Rattle.std.specs.Prelude.{◌≡◌, ◌⊎◌, List, [], ◌∷◌, ◌++◌}
use Rattle.std.specs.List.{AllByRecursion}
use Rattle.amqp_outbox.specs.declared.item.Item.{Item}
use Rattle.amqp_outbox.specs.Queued.{Queued}

-- a part of a list: some of its things, in the same order
abbrev pub IsPart : {X : Type 0} → List X → List X → Type 0
IsPart [] whole = Unit {0}
IsPart (x ∷ part) [] = ⊥
IsPart (x ∷ part) (y ∷ whole) = ((x ≡ y) × IsPart part whole) ⊎ IsPart (x ∷ part) whole

-- a part of what was there, and last of all these
abbrev pub EndsWith : {X : Type 0} → List X → List X → List X → Type 0
EndsWith {X} these before after = (part : List X) × IsPart part before × (after ≡ part ++ these)

-- what waits after a rule: a part of what waited before, last in the control lane these frames, and last in the publish
-- lane these groups
pub record Queues (frames : List Item) (groups : List (List Item)) (before after : Queued) : Type 0 where
  pub control : EndsWith frames before.control after.control
  pub publish : EndsWith groups before.publish after.publish
  pub begun : IsPart after.begun before.begun

-- nothing is queued
abbrev pub QueuesNothing : Queued → Queued → Type 0
QueuesNothing before after = Queues [] [] before after

-- nothing is queued, or these frames in the control lane, all of them, in this order
abbrev pub MayQueue : List Item → Queued → Queued → Type 0
MayQueue frames before after = QueuesNothing before after ⊎ Queues frames [] before after

-- all that waits is so
pub record Waits (P : Item → Type 0) (q : Queued) : Type 0 where
  pub control : AllByRecursion P q.control
  pub publish : AllByRecursion (AllByRecursion P) q.publish
  pub begun : AllByRecursion P q.begun

use Rattle.std.proofs.Common.{◌∙◌, ◌<◌, ◌+◌, ◌++◌, [], ◌∷◌, length, ap, sym, subst, rules}
use Rattle.std.specs.Prelude.{vec_capacity}
use Rattle.amqp_engine.specs.Plan.{at_most_64}
use Rattle.amqp_joined.specs.declared.inside.Inside.{Inside}
use Rattle.amqp_joined.specs.declared.marks.Marked.TheVariants as marked
use Rattle.amqp_joined.proofs.Steps.{place_linked}
use Rattle.amqp_joined.proofs.Called.{linked_by}
use Rattle.amqp_joined.proofs.inside.Inside.link.Goals as goal

pub add_room-requires : goal.add_room-requires
add_room-requires c = c.requires.holds.room

pub mark-requires : goal.mark-requires
mark-requires c =
    subst (λ (x : Inside). length x.marks.items < vec_capacity x.marks) (sym c.add_room.ensures) (place_linked c.args.self.now c.requires.holds c.requires.wanted)

pub returns : goal.returns
returns c =
    linked_by c.args.self.now c.mark.new.self _ c.requires.holds c.requires.wanted
    (c.mark.ensures.same ∙ ap (λ (x : Inside). record x { marks = c.mark.new.self.marks; told = at_most_64 (x.told + 1) }) c.add_room.ensures)
    (search rules)
    (c.mark.ensures.marks ∙ ap (λ (x : Inside). x.marks.items ++ record { before = x.told; what = marked.Linked } ∷ []) c.add_room.ensures)
    (c.mark.ensures.places ∙ ap (λ (x : Inside). vec_capacity x.marks) c.add_room.ensures)

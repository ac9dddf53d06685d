use Rattle.std.proofs.Common.{◌∙◌, ◌<◌, ◌+◌, ◌++◌, [], ◌∷◌, length, ap, sym, subst}
use Rattle.std.specs.Prelude.{vec_capacity}
use Rattle.amqp_engine.specs.Plan.{at_most_64}
use Rattle.amqp_joined.specs.declared.inside.Inside.{Inside}
use Rattle.amqp_joined.specs.declared.marks.Marked.TheVariants as marked
use Rattle.amqp_joined.proofs.Steps.{place_short, tells_room}
use Rattle.amqp_joined.proofs.inside.Inside.more_room.Goals as goal

pub add_room-requires : goal.add_room-requires
add_room-requires c = c.requires.holds.room

pub mark-requires : goal.mark-requires
mark-requires c =
    subst (λ (x : Inside). length x.marks.items < vec_capacity x.marks) (sym c.add_room.ensures) (place_short c.args.self.now c.requires.holds c.requires.short)

pub returns : goal.returns
returns c =
    tells_room c.args.self.now c.mark.new.self c.requires.holds c.requires.linked c.requires.short
    (c.mark.ensures.same ∙ ap (λ (x : Inside). record x { marks = c.mark.new.self.marks; told = at_most_64 (x.told + 1) }) c.add_room.ensures)
    (c.mark.ensures.marks ∙ ap (λ (x : Inside). x.marks.items ++ record { before = x.told; what = marked.Room } ∷ []) c.add_room.ensures)
    (c.mark.ensures.places ∙ ap (λ (x : Inside). vec_capacity x.marks) c.add_room.ensures)

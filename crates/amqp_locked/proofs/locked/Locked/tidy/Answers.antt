use Rattle.std.proofs.Common.{◌≡◌, map, ap}
use Rattle.amqp_hub.specs.declared.marks.Found.{Found}
use Rattle.amqp_hub.specs.declared.marks.Places.{Places}
use Rattle.amqp_hub.specs.Marks.{kept_in}
use Rattle.amqp_locked.specs.UnderLock.{contents}
use Rattle.amqp_locked.proofs.Tidying.{tidies}
use Rattle.amqp_locked.proofs.locked.Locked.tidy.Goals as goal

pub returns : goal.returns
returns c =
    let places : (contents c.let_go.new.self).places ≡ (contents c.look-looked.new.self).places =
    ap (λ (p : Places). map kept_in p.slots.items) c.let_go.ensures.rest.1 in
    let found : (contents c.let_go.new.self).found ≡ (contents c.look-looked.new.self).found =
    ap (λ (v : _). map (λ (f : Found). f.owner) v.items) c.let_go.ensures.rest.2 in
    tidies c.look-looked.result (contents c.args.self.now) (contents c.look-looked.new.self) (contents c.let_go.new.self) c.let_go.ensures.some.0
    c.look-looked.ensures.ok c.look-looked.ensures.err c.let_go.ensures.some.1 c.let_go.ensures.some.2 c.let_go.ensures.rest.0 places found c.let_go.ensures.rest.3

use Rattle.std.proofs.Common.{◌≡◌, ◌∙◌, List, [], ◌∷◌, ◌++◌, false, map, slice_get, Option, Some, ap, sym, rules}
use Rattle.std.specs.Prelude.{unwrap_or}
use Rattle.std.specs.List.{remove}
use Rattle.std.proofs.lemmas.Option.{slice_get_read}
use Rattle.amqp_hub.specs.declared.due.Owner.{Owner}
use Rattle.amqp_hub.specs.declared.marks.Found.{Found}
use Rattle.amqp_hub.specs.Due.{due_of}
use Rattle.amqp_hub.specs.Owning.{owned, is_later}
use Rattle.amqp_locked.specs.UnderLock.{UnderLock, contents}
use Rattle.amqp_locked.proofs.Looking.{acts_last, map_remove, owner_at, same_contents}
use Rattle.amqp_locked.proofs.locked.Locked.act_on.Goals as goal

pub returns-clause-ok : goal.returns-clause-ok
returns-clause-ok c =
    let l : UnderLock = contents c.args.self.now in
    let marks : List Found = c.args.self.now.found.items in
    let o : Owner = c.owner-owner.result in
    let there : slice_get marks c.args.at ≡ Some c.index.result.now = search (rules, slice_get_read) in
    let again : slice_get marks c.args.at ≡ Some c.index-2.result.now = search (rules, slice_get_read) in
    let whose : o ≡ c.index.result.now.owner = search rules in
    let same : c.index-2.result.now.owner ≡ o = ap (λ (x : Option Found). (unwrap_or x c.index.result.now).owner) (sym again ∙ there) ∙ sym whose in
    let left : c.in_ok-own.field-0 ≡ false = search rules in
    let gone : is_later (due_of l.hub.engine.talk o) ≡ false =
    sym (c.in_ok-own.ensures.again ∙ ap (λ (x : Owner). is_later (due_of l.hub.engine.talk x)) same) ∙ left in
    let hub : c.own.new.self ≡ owned o l.hub = c.in_ok-own.ensures.hub ∙ ap (λ (x : Owner). owned x l.hub) same in
    let found : map (λ (f : Found). f.owner) c.remove.new.self.items ≡ remove l.found c.args.at =
    ap (λ (xs : List Found). map (λ (f : Found). f.owner) xs) c.remove.ensures.items ∙ map_remove (λ (f : Found). f.owner) marks c.args.at in
    let unasked : c.push_back_reserved.new.self.items ≡ l.unasked ++ o ∷ [] =
    c.push_back_reserved.ensures.items ∙ ap (λ (xs : List Owner). xs ++ o ∷ []) c.reserve.ensures.items in
    acts_last c.args.at o l _ (owner_at marks c.args.at c.index.result.now there ∙ ap (λ (x : Owner). Some x) (sym whose)) gone
    (same_contents c.own.new.self (owned o l.hub) l.places _ (remove l.found c.args.at) _ (l.unasked ++ o ∷ []) l.watch hub found unasked)

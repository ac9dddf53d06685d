use Rattle.std.proofs.Common.{◌∙◌, ◌≡◌, ◌+◌, ◌-◌, ◌++◌, [], ◌∷◌, ℕ, List, min, length, ap, sym, subst, rules, length-append}
use Rattle.std.specs.Prelude.{nat_lt}
use Rattle.amqp_engine.specs.declared.port.Wrote.TheVariants.{Took}
use Rattle.amqp_joined.specs.Insides.{Feeds, OnlyRoomier}
use Rattle.amqp_joined.proofs.Steps.{writes_took, writes_none}
use Rattle.amqp_joined.proofs.inside.Inside.write.Goals as goal

pub returns-then-is_err : goal.returns-then-is_err
returns-then-is_err c =
    let kept : OnlyRoomier c.args.self.now c.feed-fed.new.self = search rules in
    writes_none c.args.self.now c.feed-fed.new.self (c.args.first.now ++ c.args.second.now) c.requires kept

pub returns : goal.returns
returns c =
    let old = c.args.self.now in
    let mid = c.feed-fed.new.self in
    let all = c.args.first.now ++ c.args.second.now in
    let k = c.fitting-count.result in
    let long : length c.args.first.now + length c.args.second.now ≡ length all = sym (length-append c.args.first.now c.args.second.now) in
    let fed : Feeds c.deref.result.now old mid = search rules in
    writes_took old mid _ all k c.requires (c.fitting-count.ensures ∙ ap (λ (n : ℕ). min old.room n) long)
    (subst (λ (xs : List ℕ). Feeds xs old mid) (c.deref.ensures.value ∙ c.in-Ok.ensures) fed)
    (ap (λ (n : ℕ). record mid { room = mid.room - k; short = nat_lt k n; writes = c.push_reserved.new.self }) long)
    (c.push_reserved.ensures.items ∙ ap (λ (n : ℕ). mid.writes.items ++ record { before = mid.told; offered = n; answer = Took k } ∷ []) long)

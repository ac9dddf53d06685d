use Rattle.std.proofs.Common.{◌≡◌, ◌∙◌, ◌≤◌, length, subst, ℕ, arith}
use Rattle.amqp_pool.specs.Pooled.{Pooled, empty_pool, opening_promises}
use Rattle.amqp_pool.specs.Moments.{Moment}
use Rattle.amqp_pool.proofs.Moments.{IsGood, IsGoodAt, all-good, good-new, all-by, open-call, found-later}
use Rattle.amqp_pool.proofs.laws.a_lost_channel_stays_lost.Goals as goal

pub returns-clause-few : goal.returns-clause-few
returns-clause-few c = λ limit h ms follow.
    all-by (λ m good. omega (arith, good.2.limited, good.2.pool.few)) ms (all-good limit (empty_pool limit) h ms follow (good-new limit h))

pub returns-clause-different : goal.returns-clause-different
returns-clause-different c = λ limit h ms follow.
    all-by (λ m good. good.2.pool.different) ms (all-good limit (empty_pool limit) h ms follow (good-new limit h))

pub returns-clause-ready : goal.returns-clause-ready
returns-clause-ready c = λ limit h ms follow.
    all-by (λ m good. open-call m.call m.pool m.next_pool m.hub m.next_hub good.1) ms (all-good limit (empty_pool limit) h ms follow (good-new limit h))

pub returns-clause-lost : goal.returns-clause-lost
returns-clause-lost c = λ limit h before m later r follow there.
    let found = found-later limit r (empty_pool limit) h before m later follow (good-new limit h) there in
    (found.0, all-by (λ l away. away.0) later found.1)

pub returns-clause-never_again : goal.returns-clause-never_again
returns-clause-never_again c = λ limit h before m later r follow there.
    let found = found-later limit r (empty_pool limit) h before m later follow (good-new limit h) there in
    all-by (λ l away. away.1) later found.1

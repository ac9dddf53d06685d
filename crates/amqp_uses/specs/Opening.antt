-- What a caller has said who opened a connection and a channel, and what can be seen of it.
use Rattle.std.specs.List.{AllByRecursion}
use Rattle.amqp_legal.specs.Legal.{Legal}
use Rattle.amqp_engine.specs.Engine.{Engine}
use Rattle.amqp_engine.specs.Sending.{Sending, frames_sent}
use Rattle.amqp_engine.specs.Carried.{Carried}
use Rattle.amqp_engine.specs.Account.{History, HasHistory, account}

-- what an engine that was new has said on each link since is a legal conversation
pub record SaysLegally (e : Engine) : Type 0 where
  pub history : History
  pub has : HasHistory e history
  pub legal : AllByRecursion (λ (s : Sending). Legal (frames_sent s)) history.sent

-- what can be seen of an engine that was new is carried: no send and no publish is torn, swapped or sent twice, and
-- nothing is handed out that did not come
pub record IsCarried (e : Engine) : Type 0 where
  pub history : History
  pub has : HasHistory e history
  pub carried : Carried (account e.talk history)

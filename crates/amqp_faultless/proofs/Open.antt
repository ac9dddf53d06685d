-- A session with an open link goes on.
use Rattle.std.proofs.Common.{◌≡◌, true, false, true≢false, is_some, refl, sym}
use Rattle.amqp_promise.specs.declared.error.ErrorKind.{ErrorKind}
use Rattle.amqp_rules.specs.declared.state.Link.{Link}
use Rattle.amqp_rules.specs.declared.state.Link.TheVariants.{Due, Wanted, Asked as AskedLink, Open, Ended}
use Rattle.amqp_rules.specs.Talk.{Talk, is_open, is_open_link, end_of_link, has_ended}

-- a session with an open link has not ended
pub open-runs : (t : Talk) → is_open t ≡ true → has_ended t ≡ false
open-runs t opened = by t.link opened where
  by : (l : Link ErrorKind) → is_open_link l ≡ true → is_some (end_of_link l) ≡ false
  by Open h = refl
  by Wanted h = refl
  by AskedLink h = refl
  by (Due moment) h = refl
  by (Ended result) h = absurd (true≢false (sym h))

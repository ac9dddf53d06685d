-- Links that are lacking, asked for, and come.
use Rattle.std.proofs.Common.{◌≡◌, Bool, true, false, [], is_some, refl}
use Rattle.amqp_outbox.specs.Items.{plain_item}
use Rattle.amqp_outbox.specs.Queued.{only}
use Rattle.amqp_promise.specs.declared.error.ErrorKind.{ErrorKind}
use Rattle.amqp_promise.specs.declared.state.ConnectionState.TheVariants.{Connecting}
use Rattle.amqp_rules.specs.declared.state.Input.TheVariants as input
use Rattle.amqp_rules.specs.declared.state.Link.{Link}
use Rattle.amqp_rules.specs.declared.state.Link.TheVariants.{Due, Wanted, Asked, Open, Ended}
use Rattle.amqp_rules.specs.declared.state.Phase.TheVariants.{AwaitStart}
use Rattle.amqp_rules.specs.Talk.{Talk, is_open_link, is_asked, is_asked_link, end_of_link}
use Rattle.amqp_rules.specs.Links.{asked_link, linked}
use Rattle.amqp_settings.specs.Handshake.{protocol_header}
use Rattle.amqp_types.proofs.Small.{if-true}

-- no link is open, and the session goes on
abbrev pub lacks_link : Link ErrorKind → Bool
lacks_link (Due moment) = true
lacks_link Wanted = true
lacks_link Asked = true
lacks_link _ = false

pub closed-link : (l : Link ErrorKind) → is_some (end_of_link l) ≡ true → (is_open_link l ≡ true → ⊥) × (lacks_link l ≡ true → ⊥)
closed-link Open h = absurd cc
closed-link (Due moment) h = absurd cc
closed-link Wanted h = absurd cc
closed-link Asked h = absurd cc
closed-link (Ended r) h = ((λ k. cc), (λ k. cc))

pub open-lacks : (l : Link ErrorKind) → is_open_link l ≡ true → lacks_link l ≡ true → ⊥
open-lacks (Due moment) h k = cc
open-lacks Open h k = cc
open-lacks Wanted h k = cc
open-lacks Asked h k = cc
open-lacks (Ended r) h k = cc

pub asked-open : (l : Link ErrorKind) → is_open_link (asked_link l) ≡ is_open_link l
asked-open (Due moment) = refl
asked-open Wanted = refl
asked-open Asked = refl
asked-open Open = refl
asked-open (Ended r) = refl

pub asked-lacks : (l : Link ErrorKind) → lacks_link (asked_link l) ≡ lacks_link l
asked-lacks (Due moment) = refl
asked-lacks Wanted = refl
asked-lacks Asked = refl
asked-lacks Open = refl
asked-lacks (Ended r) = refl

-- one that was asked for is lacking
pub asked-lacking : (l : Link ErrorKind) → is_asked_link l ≡ true → lacks_link l ≡ true
asked-lacking Asked asks = refl
asked-lacking _ asks = cc

-- ---- a link that has come

-- a session whose link has come
abbrev pub on_new_link : Talk → Talk
on_new_link t =
    record t {
      state = Connecting;
      phase = AwaitStart;
      link = Open;
      input = input.Acting;
      blocked = false;
      outbox = only (plain_item 0 protocol_header);
      committed = [];
      last_read = t.present;
      last_write = t.present;
      refreshing = false;
    }

pub is-linked : (t : Talk) → is_asked t ≡ true → linked t ≡ on_new_link t
is-linked t asked_t = if-true (is_asked t) (on_new_link t) t asked_t

-- What a session that is told to open a channel says of the channels that it had.
use Rattle.std.proofs.Common.{◌≡◌, ◌≢◌, ◌∙◌, ◌+◌, ◌<◌, ◌≤◌, ap, sym, refl, ℕ, Bool, true, false, cond, not, map, List, [], ◌∷◌, Option, Some, None, inl, inr, arith}
use Rattle.std.specs.Prelude.{find, filter, IsTrue, is_some, unwrap_or, if◌then◌else◌, nat_lt, ◌==◌, length}
use Rattle.std.proofs.lemmas.Bool.{cases_eq, ne_eqb}
use Rattle.amqp_types.proofs.Small.{if_case, if-false, from-not-true}
use Rattle.amqp_promise.specs.declared.state.ConnectionState.{ConnectionState}
use Rattle.amqp_promise.specs.declared.state.ConnectionState.TheVariants.{Initial, Connecting, Connected, Closing, Closed, Reconnecting, Error}
use Rattle.amqp_promise.specs.declared.error.ErrorKind.TheVariants.{ChannelsLimitReached, InvalidConnectionState}
use Rattle.amqp_channels.specs.declared.channels.Channel.{Channel}
use Rattle.amqp_commands.specs.declared.command.ChanRef.{ChanRef}
use Rattle.amqp_commands.specs.declared.command.Cmd.TheVariants.{OpenChannel}
use Rattle.amqp_maps.specs.Listed.{at, put, has}
use Rattle.amqp_rules.specs.Talk.{Talk}
use Rattle.amqp_channels.specs.Numbering.{first_number, cycle, drawn}
use Rattle.amqp_channels.specs.Channels.{new_channel}
use Rattle.amqp_rules.specs.Changes.{refuse}
use Rattle.amqp_rules.specs.Commands.{command, command_rule, open_channel, open_drawn, open_as, open_none, named, named_in, is_opening}
use Rattle.amqp_rules.specs.Queries.{channel_state, state_of, gone_in}
use Rattle.amqp_maps.proofs.Maps.{at-absent}
use Rattle.amqp_maps.proofs.Numbered.{put-same, put-other}
use Rattle.amqp_pool.specs.Lost.{is_lost, is_lost_state, without_lost}
use Rattle.amqp_pool.specs.Pooled.{opened_by, times, above, AreNamed}
use Rattle.amqp_pool.proofs.Counts.{times-cons, one-same}

-- ---- one promise more

drawn-one : (o : Option ℕ) (first : ℕ) (t : Talk) → (open_drawn o first t).made ≡ t.made + 1
drawn-one None first t = refl
drawn-one (Some n) first t = refl

pub opens-one : (t : Talk) → (command OpenChannel t).made ≡ t.made + 1
opens-one t = by t.state where
  by : (s : ConnectionState) → (command_rule s OpenChannel t).made ≡ t.made + 1
  by Connected = drawn-one (drawn t.configuration.channel_max (first_number t.configuration.channel_max t.cursor) t.channels)
      (first_number t.configuration.channel_max t.cursor) t
  by Initial = refl
  by Connecting = refl
  by Closing = refl
  by Closed = refl
  by Reconnecting = refl
  by Error = refl

-- ---- the channels that were there

-- a test that finds something finds what passes it
find-passes : {X : Type 0} (p : X → Bool) (x : X) (xs : List X) → find p xs ≡ Some x → p x ≡ true
find-passes p x [] h = absurd cc
find-passes p x (y ∷ ys) h = by (p y) refl h (find-passes p x ys) where
  by : (b : Bool) → p y ≡ b → cond b (Some y) (find p ys) ≡ Some x → (find p ys ≡ Some x → p x ≡ true) → p x ≡ true
  by true passes is rest = let same : y ≡ x = cc in sym (ap p same) ∙ passes
  by false passes is rest = rest is

-- the number that is drawn is not listed
drawn-free : (channel_max first n : ℕ) (channels : List (ℕ × Channel)) → drawn channel_max first channels ≡ Some n → has n channels ≡ false
drawn-free channel_max first n channels h = from-not-true (has n channels) (find-passes (λ m. not (has m channels)) n (cycle channel_max first) h)

-- the state of a channel is told by the entry of its number, and by the state of the connection
state-same : (t' t : Talk) → t'.state ≡ t.state → (c : Option Channel) → state_of c t' ≡ state_of c t
state-same t' t is None = ap gone_in is
state-same t' t is (Some c) = refl

-- a channel of another promise is not the one that is opened
module _ (r : ChanRef) (t : Talk) (is_named : IsTrue (is_some r.opened)) (before : opened_by r < t.made) where
  not-opened : (o : Option ℕ) → IsTrue (is_some o) → unwrap_or o 0 < t.made → named_in o (Some (new_channel t.made)) ≡ None
  not-opened None some under = absurd cc
  not-opened (Some k) some under =
      ap (λ b. if b then Some (new_channel t.made) else None) (ne_eqb k t.made (λ e. absurd (omega (arith, under, e))))

  named-as : (n : ℕ) → at n t.channels ≡ None → named_in r.opened (at r.id (put n (new_channel t.made) t.channels)) ≡ named_in r.opened (at r.id t.channels)
  named-as n free =
      elim (cases_eq r.id n) [
        | inl e ↦
            ap (λ m. named_in r.opened (at m (put n (new_channel t.made) t.channels))) e
            ∙ ap (named_in r.opened) (put-same n (new_channel t.made) t.channels)
            ∙ not-opened r.opened is_named before
            ∙ sym (ap (named_in r.opened) (ap (λ m. at m t.channels) e ∙ free))
        | inr ne ↦ ap (named_in r.opened) (put-other r.id n (new_channel t.made) t.channels ne)
      ]

  drawn-same : (o : Option ℕ) (first : ℕ) → ((n : ℕ) → o ≡ Some n → at n t.channels ≡ None) → channel_state r (open_drawn o first t) ≡ channel_state r t
  drawn-same None first free = state-same (open_none first t) t refl (named r t)
  drawn-same (Some n) first free =
      ap (λ c. state_of c (open_as n t)) (named-as n (free n refl)) ∙ state-same (open_as n t) t refl (named r t)

  refused-same : (s : ConnectionState) → channel_state r (refuse (InvalidConnectionState s) t) ≡ channel_state r t
  refused-same s = state-same (refuse (InvalidConnectionState s) t) t refl (named r t)

  -- the state of a channel stays where another is opened
  pub opening-same : channel_state r (command OpenChannel t) ≡ channel_state r t
  opening-same = by t.state where
    by : (s : ConnectionState) → channel_state r (command_rule s OpenChannel t) ≡ channel_state r t
    by Connected =
        let channel_max = t.configuration.channel_max in
        let first = first_number channel_max t.cursor in
        drawn-same (drawn channel_max first t.channels) first (λ n is. at-absent n t.channels (drawn-free channel_max first n t.channels is))
    by Initial = refused-same Initial
    by Connecting = refused-same Connecting
    by Closing = refused-same Closing
    by Closed = refused-same Closed
    by Reconnecting = refused-same Reconnecting
    by Error = refused-same Error

-- so those that are lost stay the same
pub opening-lost : (t : Talk) (rs : List ChanRef) → AreNamed rs → ((n : ℕ) → 1 ≤ times n (map opened_by rs) → n < t.made)
    → without_lost (command OpenChannel t) rs ≡ without_lost t rs
opening-lost t [] named below = refl
opening-lost t (r ∷ rs) named below =
    let here : opened_by r < t.made =
    below (opened_by r) (omega (arith, times-cons (opened_by r) (opened_by r) (map opened_by rs), one-same (opened_by r) (opened_by r) refl)) in
    let same : is_lost (command OpenChannel t) r ≡ is_lost t r = ap is_lost_state (opening-same r t named.0 here) in
    let rest : without_lost (command OpenChannel t) rs ≡ without_lost t rs =
    opening-lost t rs named.1 (λ n there. below n (omega (arith, there, times-cons n (opened_by r) (map opened_by rs)))) in
    ap (λ b. cond (not b) (r ∷ without_lost (command OpenChannel t) rs) (without_lost (command OpenChannel t) rs)) same
    ∙ ap (λ xs. cond (not (is_lost t r)) (r ∷ xs) xs) rest

-- What rules keep that neither open nor close a connection, nor block it: by each frame and command.
use Rattle.std.proofs.Common.{ap, ◌≡◌, ◌≤◌, ℕ, zero, suc, ◌==◌, ◌&&◌, not, Bool, true, false, true≢false, List, [], ◌∷◌, ◌++◌, Option, Some, None, Result, Err, refl, sym, ◌∙◌, arith}
use Rattle.std.specs.Prelude.{filter, map, codes}
use Rattle.std.specs.List.{AllByRecursion}
use Rattle.amqp_frame.specs.declared.frame.Frame.{Frame}
use Rattle.amqp_frame.specs.declared.frame.Frame.TheVariants.{Method, Raw}
use Rattle.amqp_frame.specs.declared.frame.RawKind.{RawKind}
use Rattle.amqp_frame.specs.declared.frame.RawKind.TheVariants.{Body}
use Rattle.amqp_frame.specs.declared.method.Method.{Method as AnyMethod}
use Rattle.amqp_frame.specs.declared.method.Method.TheVariants.{Close, ChannelCloseOk, ChannelFlowOk}
use Rattle.amqp_frame.specs.RawMethods.{OtherMethod}
use Rattle.amqp_outbox.specs.declared.item.Item.{Item}
use Rattle.amqp_outbox.specs.declared.reply.Reply.TheVariants.{ChannelClosed}
use Rattle.amqp_outbox.specs.Items.{plain_item, promised_item, group_of, promise_of_group}
use Rattle.amqp_outbox.specs.Queued.{Queued, without_awaited, is_on, goes_with}
use Rattle.amqp_promise.specs.declared.state.ConnectionState.{ConnectionState}
use Rattle.amqp_promise.specs.declared.state.ConnectionState.TheVariants.{Connected, Closing}
use Rattle.amqp_promise.specs.declared.state.ChannelState.TheVariants as channel
use Rattle.amqp_rules.specs.declared.state.Link.{Link}
use Rattle.amqp_rules.specs.declared.state.Input.{Input}
use Rattle.amqp_settings.specs.declared.configuration.Configuration.{Configuration}
use Rattle.amqp_commands.specs.declared.command.Cmd.{Cmd}
use Rattle.amqp_commands.specs.declared.command.Cmd.TheVariants.{CloseConnection, DropConnection}
use Rattle.amqp_answers.specs.declared.answer.Answer.{Answer}
use Rattle.amqp_types.specs.declared.word.Word.TheVariants as word
use Rattle.amqp_promise.specs.declared.error.ErrorKind.{ErrorKind}
use Rattle.amqp_promise.specs.declared.error.ErrorKind.TheVariants.{ChannelsLimitReached, InvalidChannelState, InvalidConnectionState}
use Rattle.amqp_maps.specs.Listed.{at, put}
use Rattle.amqp_rules.specs.Talk.{Talk, is_open, is_open_link}
use Rattle.amqp_answers.specs.Settled.{Promises, settled_by, settled, settled_to}
use Rattle.amqp_rules.specs.Changes.{next_promise, replies_on, promises_on, rejected_each, rejected, promise, refuse, lose}
use Rattle.amqp_rules.specs.ConnectionMethods.{secret_taken}
use Rattle.amqp_rules.specs.ChannelMethods.{remove_channel, hand_out, confirmed, raw_frame}
use Rattle.amqp_rules.specs.Frames.{method_on}
use Rattle.amqp_commands.specs.Publishing.{method_frame, body_pieces, publish_frames}
use Rattle.amqp_rules.specs.Commands.{leave_connection, body_limit, command_rule, listen}
use Rattle.amqp_settings.specs.Handshake.{new_secret, channel_open, channel_flow, our_channel_close}
use Rattle.amqp_rules.specs.Ticks.{is_connected}
use Rattle.amqp_maps.proofs.Numbered.{put-other}
use Rattle.amqp_rules.proofs.Keeping.{off-lost}
use Rattle.amqp_rules.proofs.Walk.{ChannelRows, PassedRows, CommandRows, channel-method-keeps, raw-keeps, refused-keeps, told-keeps}
use Rattle.amqp_channels.proofs.Walking.{all-append, all-filtered}
pub use Rattle.amqp_rules.proofs.Walk.{leaves}

-- ---- our close

-- a method that closes a connection
abbrev pub closes : AnyMethod → Bool
closes (Close code text class method) = true
closes _ = false

-- our close of the connection
abbrev pub is_close : Frame → Bool
is_close (Method n m) = closes m && n == 0
is_close _ = false

-- a frame that is another
abbrev pub IsOther : Item → Type 0
IsOther item = is_close item.frame ≡ false

-- each of some frames is another
abbrev pub AreOthers : List Item → Type 0
AreOthers items = AllByRecursion IsOther items

-- our close does not wait
pub record NoneClosesIn (lane rest : List Item) (groups : List (List Item)) : Type 0 where
  pub begun : AreOthers rest
  pub control : AreOthers lane
  pub publish : AllByRecursion AreOthers groups

abbrev pub NoneCloses : Queued → Type 0
NoneCloses q = NoneClosesIn q.control q.begun q.publish

-- ---- promises

-- the first promise has this, and it was made
pub record FirstIn (slot : Option (Result Answer ErrorKind)) (count : ℕ) (promises : Promises) : Type 0 where
  pub made : 1 ≤ count
  pub held : at 0 promises ≡ Some slot

abbrev pub First : Option (Result Answer ErrorKind) → Talk → Type 0
First slot t = FirstIn slot t.made t.promises

abbrev Given : Result Answer ErrorKind → Promises → Type 0
Given r ps = at 0 ps ≡ Some (Some r)

pub settled-given : (n : ℕ) (r answer : Result Answer ErrorKind) (ps : Promises) → Given r ps → Given r (settled n answer ps)
settled-given n r answer ps h = by n (at n ps) refl where
  by : (m : ℕ) (o : Option (Option (Result Answer ErrorKind))) → at m ps ≡ o → Given r (settled_by o m answer ps)
  by zero (Some None) is = absurd cc
  by (suc m) (Some None) is = put-other 0 (suc m) (Some answer) ps (λ same. absurd cc) ∙ h
  by m (Some (Some given)) is = h
  by m None is = h

pub to-given : (o : Option ℕ) (r answer : Result Answer ErrorKind) (ps : Promises) → Given r ps → Given r (settled_to o answer ps)
to-given None r answer ps h = h
to-given (Some n) r answer ps h = settled-given n r answer ps h

pub each-given : (e : ErrorKind) (os : List (Option ℕ)) (r : Result Answer ErrorKind) (ps : Promises) → Given r ps → Given r (rejected_each e os ps)
each-given e [] r ps h = h
each-given e (o ∷ os) r ps h = each-given e os r (settled_to o (Err e) ps) (to-given o r (Err e) ps h)

pub rejected-given : (e : ErrorKind) (groups : List (List Item)) (r : Result Answer ErrorKind) (ps : Promises) → Given r ps → Given r (rejected e groups ps)
rejected-given e [] r ps h = h
rejected-given e (g ∷ gs) r ps h = rejected-given e gs r (settled_to (promise_of_group g) (Err e) ps) (to-given (promise_of_group g) r (Err e) ps h)

made-first : (slot : Option (Result Answer ErrorKind)) (x : Option (Result Answer ErrorKind)) (t : Talk) → First slot t → at 0 (put t.made x t.promises) ≡ Some slot
made-first slot x t h = put-other 0 t.made x t.promises (λ same. omega (arith, h.made)) ∙ h.held

-- ---- what an ordinary rule keeps

-- of the first promise, which has this
pub record Ordinary (slot : Option (Result Answer ErrorKind)) (t u : Talk) : Type 0 where
  -- it opens no link
  pub opened : is_open u ≡ true → is_open t ≡ true
  pub state : u.state ≡ t.state
  pub input : u.input ≡ t.input
  pub blocked : u.blocked ≡ t.blocked
  pub room : t.capacity ≤ u.capacity
  pub agreed : u.configuration ≡ t.configuration
  pub first : First slot t → First slot u
  pub says : NoneCloses t.outbox → NoneCloses u.outbox

-- it is ordinary where a link is open then
abbrev pub Goes : Option (Result Answer ErrorKind) → Talk → Talk → Type 0
Goes slot t u = is_open u ≡ true → Ordinary slot t u

-- what an ordinary rule leaves, but for the first promise and what waits
abbrev Besides : Type 0
Besides = Link ErrorKind × ConnectionState × Input × Bool × ℕ × Configuration

abbrev besides : Talk → Besides
besides t = (t.link, t.state, t.input, t.blocked, t.capacity, t.configuration)

module _ (slot : Option (Result Answer ErrorKind)) where
  same-but : (t u : Talk) → besides u ≡ besides t → (First slot t → First slot u) → (NoneCloses t.outbox → NoneCloses u.outbox) → Ordinary slot t u
  same-but t u others first says =
      let link : u.link ≡ t.link = ap (λ (x : Besides). x.0) others in
      let capacity : u.capacity ≡ t.capacity = ap (λ (x : Besides). x.4) others in
      record {
        opened = λ o. ap is_open_link (sym link) ∙ o;
        state = ap (λ (x : Besides). x.1) others;
        input = ap (λ (x : Besides). x.2) others;
        blocked = ap (λ (x : Besides). x.3) others;
        room = omega (arith, capacity);
        agreed = ap (λ (x : Besides). x.5) others;
        first = first;
        says = says;
      }

  pub same : (t : Talk) → Ordinary slot t t
  same t = same-but t t refl (λ x. x) (λ x. x)

  pub both : (t u v : Talk) → Ordinary slot t u → Ordinary slot u v → Ordinary slot t v
  both t u v h k =
      record {
        opened = λ o. h.opened (k.opened o);
        state = k.state ∙ h.state;
        input = k.input ∙ h.input;
        blocked = k.blocked ∙ h.blocked;
        room = omega (arith, h.room, k.room);
        agreed = k.agreed ∙ h.agreed;
        first = λ x. k.first (h.first x);
        says = λ x. k.says (h.says x);
      }

  pub goes-on : (t u v : Talk) → Goes slot t u → Ordinary slot u v → Goes slot t v
  goes-on t u v h k o = both t u v (h (k.opened o)) k

  -- the same, where the next rule changes no more than the first promise and what waits
  goes-but : (t u v : Talk) → besides v ≡ besides u → (First slot u → First slot v) → (NoneCloses u.outbox → NoneCloses v.outbox) → Goes slot t u → Goes slot t v
  goes-but t u v others first says h = goes-on t u v h (same-but u v others first says)

  -- where the link is lost, it is not open then
  goes-lost : (t : Talk) (e : ErrorKind) (u : Talk) → Goes slot t u → Goes slot t (lose e u)
  goes-lost t e u h o = absurd (true≢false (sym o ∙ (off-lost e u).opened))

  pub goes-lose : (e : ErrorKind) (t : Talk) → Goes slot t (lose e t)
  goes-lose e t = goes-lost t e t (λ o. same t)

  -- a frame that is not our close goes last into the control lane
  pub pushed : (item : Item) (q : Queued) → IsOther item → NoneCloses q → NoneClosesIn (q.control ++ item ∷ []) q.begun q.publish
  pushed item q h k = record { begun = k.begun; control = all-append IsOther q.control (item ∷ []) k.control (h, tt); publish = k.publish }

  refused : (e : ErrorKind) (t : Talk) → Ordinary slot t (refuse e t)
  refused e t = same-but t _ refl (λ x. record { made = omega (arith, x.made); held = made-first slot (Some (Err e)) t x }) (λ x. x)

  promises : (t : Talk) → Ordinary slot t (promise t)
  promises t = same-but t _ refl (λ x. record { made = omega (arith, x.made); held = made-first slot None t x }) (λ x. x)

-- ---- frames on channels

-- where the first promise was answered
module _ (r : Result Answer ErrorKind) where
  abbrev GoesOn : Talk → Talk → Type 0
  GoesOn t u = Goes (Some r) t u

  -- the first promise was given before
  still : {made : ℕ} {ps qs : Promises} → (Given r ps → Given r qs) → FirstIn (Some r) made ps → FirstIn (Some r) made qs
  still given x = record { made = x.made; held = given x.held }

  on-channels : (t : Talk) → ChannelRows (GoesOn t)
  on-channels t = record {
    lost = goes-lost (Some r) t;
    opened = λ n c o u is. goes-but (Some r) t u _ refl (still (to-given o r _ u.promises)) (λ x. x);
    closed = λ n o u is. goes-but (Some r) t u _ refl (still (λ x. each-given _ (replies_on n (without_awaited n ChannelClosed u.outbox)) r _ (to-given o r _ u.promises x))) (λ x. x);
    answered = λ n c u. goes-but (Some r) t u _ refl (λ x. x) (λ x. x);
    removed = λ n u. goes-but (Some r) t u (remove_channel n u) refl (λ x. x) (λ x. x);
    flow = λ n c active u. goes-but (Some r) t u _ refl (λ x. x) (pushed (Some r) (plain_item n (Method n (ChannelFlowOk active))) u.outbox refl);
    flowed = λ n c active o u is. goes-but (Some r) t u _ refl (still (to-given o r _ u.promises)) (λ x. x);
    server_closed = λ n e c u. goes-but (Some r) t u _ refl (still (each-given e (promises_on n u.outbox) r u.promises)) (λ x. record {
      begun = x.begun;
      control = all-append IsOther _ _ (all-filtered IsOther (λ item. not (goes_with n item)) u.outbox.control x.control) (refl, tt);
      publish = all-filtered AreOthers (λ group. not (is_on n group)) u.outbox.publish x.publish;
    });
    crossed = λ n e c u. goes-but (Some r) t u _ refl (λ x. x) (pushed (Some r) (plain_item n (Method n ChannelCloseOk)) u.outbox refl);
  }

  passed : (t : Talk) → PassedRows (GoesOn t)
  passed t = record {
    confirms = λ n c u. goes-but (Some r) t u (confirmed n c u) refl (λ x. x) (λ x. x);
    hands = λ opened handed u. goes-but (Some r) t u (hand_out opened handed u) refl (λ x. x) (λ x. x);
  }

  -- a method on another channel than 0
  pub method-goes : (n : ℕ) (m : AnyMethod) (t : Talk) → GoesOn t (method_on n m t)
  method-goes n m t = channel-method-keeps (GoesOn t) (on-channels t) n m t (λ o. same (Some r) t)

  -- and a frame that is passed through
  pub raw-goes : (n : ℕ) (kind : RawKind) (bytes : List ℕ) (t : Talk) → GoesOn t (raw_frame n kind bytes t)
  raw-goes n kind bytes t = raw-keeps (GoesOn t) (goes-lost (Some r) t) (passed t) n kind bytes t (λ o. same (Some r) t)

  -- update-secret-ok
  pub secret-goes : (o : Option (Option ℕ)) (t : Talk) → GoesOn t (secret_taken o t)
  secret-goes None t = goes-lose (Some r) (InvalidConnectionState Connected) t
  secret-goes (Some None) t = λ _. same-but (Some r) t _ refl (λ x. x) (λ x. x)
  secret-goes (Some (Some n)) t = λ _. same-but (Some r) t _ refl (still (settled-given n r _ t.promises)) (λ x. x)

-- ---- commands

-- the frames of a publish
grouped : (n : ℕ) (fs : List Frame) (promise : ℕ) → AllByRecursion (λ (f : Frame). is_close f ≡ false) fs → AreOthers (group_of n fs promise)
grouped n [] promise h = tt
grouped n (f ∷ []) promise h = (h.0, tt)
grouped n (f ∷ g ∷ fs) promise h = (h.0, grouped n (g ∷ fs) promise h.1)

raw-others : (n : ℕ) (pieces : List (List ℕ)) → AllByRecursion (λ (f : Frame). is_close f ≡ false) (map (Raw n Body) pieces)
raw-others n [] = tt
raw-others n (p ∷ ps) = (refl, raw-others n ps)

published : (n : ℕ) (m : OtherMethod) (properties body : List ℕ) (size : ℕ) → AllByRecursion (λ (f : Frame). is_close f ≡ false) (publish_frames n m properties body size)
published n m properties body size = (refl, (refl, raw-others n (body_pieces size body)))

module _ (slot : Option (Result Answer ErrorKind)) where
  -- where no connection is open, a command is refused
  pub refused-command : (s : ConnectionState) (c : Cmd) (t : Talk) → is_connected s ≡ false → Ordinary slot t (command_rule s c t)
  refused-command s c t h =
      refused-keeps (Ordinary slot t) (λ e u k. both slot t u (refuse e u) k (refused slot e u))
      (λ u k. both slot t u (listen u) k (same-but slot u (listen u) refl (λ x. x) (λ x. x))) s c t h (same slot t)

module _ (r : Result Answer ErrorKind) where
  abbrev Stays : Talk → Talk → Type 0
  Stays t u = Ordinary (Some r) t u

  stays-but : (t u v : Talk) → besides v ≡ besides u → (First (Some r) u → First (Some r) v) → (NoneCloses u.outbox → NoneCloses v.outbox) → Stays t u → Stays t v
  stays-but t u v others first says h = both (Some r) t u v h (same-but (Some r) u v others first says)

  told : (t : Talk) → CommandRows (Stays t)
  told t = record {
    refuses = λ e u h. both (Some r) t u (refuse e u) h (refused (Some r) e u);
    promises = λ u h. both (Some r) t u (promise u) h (promises (Some r) u);
    opens = λ n u. stays-but t u _ refl (promises (Some r) u).first (pushed (Some r) (plain_item n (channel_open n)) u.outbox refl);
    opens_none = λ first u. stays-but t u _ refl (refused (Some r) ChannelsLimitReached u).first (λ x. x);
    leaves_channel = λ n code text c o u. stays-but t u _ refl
        (still r (rejected-given (InvalidChannelState channel.Closing word.ChannelClose) (filter (is_on n) u.outbox.publish) r u.promises))
        (λ x. record {
          begun = x.begun;
          control = all-append IsOther u.outbox.control (plain_item n (our_channel_close n code text) ∷ []) x.control (refl, tt);
          publish = all-filtered AreOthers (λ group. not (is_on n group)) u.outbox.publish x.publish;
        });
    sends = λ n m u. stays-but t u _ refl (promises (Some r) u).first (pushed (Some r) (promised_item n (method_frame n m) (next_promise u)) u.outbox refl);
    publishes = λ n m properties body u. stays-but t u _ refl (promises (Some r) u).first (λ x. record {
      begun = x.begun;
      control = x.control;
      publish = all-append AreOthers u.outbox.publish (group_of n (publish_frames n m properties body (body_limit u)) (next_promise u) ∷ []) x.publish
          (grouped n (publish_frames n m properties body (body_limit u)) (next_promise u) (published n m properties body (body_limit u)), tt);
    });
    flows = λ n active u. stays-but t u _ refl (promises (Some r) u).first (pushed (Some r) (plain_item n (channel_flow n active)) u.outbox refl);
    tells_secret = λ secret reason u. stays-but t u _ refl (promises (Some r) u).first (pushed (Some r) (plain_item 0 (new_secret secret reason)) u.outbox refl);
    listens = λ u. stays-but t u (listen u) refl (λ x. x) (λ x. x);
  }

  -- while the connection is open, any other command than one that closes it
  pub told-command : (c : Cmd) (t : Talk) → leaves c ≡ false → Stays t (command_rule Connected c t)
  told-command c t h = told-keeps (Stays t) (told t) c t (λ is. absurd (true≢false (sym is ∙ h))) (same (Some r) t)

  -- our close is told
  left-first : (code : ℕ) (text : List ℕ) (o : Option ℕ) (t : Talk) → First (Some r) t → First (Some r) (leave_connection code text o t)
  left-first code text o t x =
      still r (rejected-given (InvalidConnectionState Closing) t.outbox.publish r t.promises) x

  -- a command that closes the connection: the session is closing
  pub record Leaves (t u : Talk) : Type 0 where
    pub opened : is_open u ≡ true → is_open t ≡ true
    pub state : u.state ≡ Closing
    pub input : u.input ≡ t.input
    pub blocked : u.blocked ≡ t.blocked
    pub room : t.capacity ≤ u.capacity
    pub agreed : u.configuration ≡ t.configuration
    pub first : First (Some r) t → First (Some r) u

  pub left-command : (c : Cmd) (t : Talk) → leaves c ≡ true → Leaves t (command_rule Connected c t)
  left-command (CloseConnection code text) t h =
      let u : Talk = leave_connection code text (Some (next_promise t)) t in
      record {
        opened = λ o. o;
        state = refl;
        input = refl;
        blocked = refl;
        room = omega arith;
        agreed = refl;
        first = λ x. (promises (Some r) u).first (left-first code text (Some (next_promise t)) t x);
      }
  left-command DropConnection t h =
      record {
        opened = λ o. o;
        state = refl;
        input = refl;
        blocked = refl;
        room = omega arith;
        agreed = refl;
        first = left-first 200 (codes "OK") None t;
      }
  left-command c t h = absurd (true≢false (sym h))

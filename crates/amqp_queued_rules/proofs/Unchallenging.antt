-- A secure-ok waits only after a challenge was read.
use Rattle.std.proofs.Common.{◌≡◌, ◌⊎◌, inl, inr, ℕ, zero, suc, nat_le, Bool, true, false, true≢false, List, [], ◌∷◌, ◌++◌, map, drop, length, Option, Some, None, Ok, sym, subst}
use Rattle.std.specs.List.{AllByRecursion}
use Rattle.amqp_frame.specs.declared.frame.Frame.{Frame}
use Rattle.amqp_frame.specs.declared.frame.Frame.TheVariants.{Method, Raw, Heartbeat}
use Rattle.amqp_frame.specs.declared.frame.RawKind.TheVariants.{Body}
use Rattle.amqp_frame.specs.declared.method.Method.{Method as AnyMethod}
use Rattle.amqp_frame.specs.declared.method.Method.TheVariants.{Start, Secure, Tune, OpenOk, Close, ChannelFlow, ChannelClose}
use Rattle.amqp_outbox.specs.declared.item.Item.{Item}
use Rattle.amqp_outbox.specs.Items.{plain_item, group_of}
use Rattle.amqp_outbox.specs.Queued.{Queued, begin_group, after_control, after_begun}
use Rattle.amqp_promise.specs.declared.error.ErrorKind.TheVariants.{SerialisationError}
use Rattle.amqp_auth.specs.declared.asked.Asked.{Asked}
use Rattle.amqp_auth.specs.declared.asked.Asked.TheVariants as answer
use Rattle.amqp_channels.specs.declared.channels.Channel.{Channel}
use Rattle.amqp_commands.specs.declared.command.Cmd.{Cmd}
use Rattle.amqp_commands.specs.declared.command.Cmd.TheVariants.{OpenChannel, CloseChannel, CloseConnection, UpdateSecret, Send, Publish, Flow, DropChannel, DropConnection, Listen}
use Rattle.amqp_settings.specs.Config.{Config, Options}
use Rattle.amqp_rules.specs.Talk.{Talk, start}
use Rattle.amqp_rules.specs.Changes.{next_promise}
use Rattle.amqp_settings.specs.Handshake.{channel_open}
use Rattle.amqp_channels.specs.Numbering.{first_number, drawn}
use Rattle.amqp_commands.specs.Publishing.{cut, publish_frames}
use Rattle.amqp_rules.specs.Commands.{body_limit, command}
use Rattle.amqp_rules.specs.Ticks.{asks_validity, has_expired, is_heartbeat_due, is_missed}
use Rattle.amqp_rules.specs.Writing.{next_within, flows, committed_as, commit, overlong, end_overlong}
use Rattle.amqp_types.proofs.Small.{if_case}
use Rattle.amqp_queued_rules.specs.Queues.{Queues, QueuesNothing, Waits}
use Rattle.amqp_queued_rules.specs.Queued.{start_reply, reopenings, reply_to, opening_of, told_by, published_by, heartbeat_of, new_one, renewal, renewal_of, told_in_time, QueuesItsOwn}
use Rattle.amqp_queued_rules.specs.Challenges.{is_challenge, IsNoSecureOk, Unchallenged, StaysUnchallenged}
use Rattle.amqp_queued_rules.proofs.Parts.{waits-queued, waits-same, waits-either}
use Rattle.amqp_queued_rules.proofs.Replying.{silent-lose}
use Rattle.amqp_queued_rules.proofs.Telling.{queues-its-own}
use Rattle.amqp_channels.proofs.Walking.{all-append}

-- a frame that waits and is no secure-ok
abbrev Other : Item → Type 0
Other item = IsNoSecureOk item.frame

-- ---- what rules queue

other-start : (answers : List Asked) (options : Options) → AllByRecursion Other (start_reply answers options)
other-start (answer.Mechanism mechanism ∷ answer.Starter (Ok response) ∷ later) options = (tt, tt)
other-start _ options = tt

other-reopenings : (most : ℕ) (cs : List (ℕ × Channel)) → AllByRecursion Other (reopenings most cs)
other-reopenings most [] = tt
other-reopenings most (c ∷ cs) =
    if_case (AllByRecursion Other) (nat_le c.0 most) (plain_item c.0 (channel_open c.0) ∷ reopenings most cs) (reopenings most cs)
    (tt, other-reopenings most cs) (other-reopenings most cs)

other-on-0 : (m : AnyMethod) (answers : List Asked) (t : Talk) → is_challenge (Method 0 m) ≡ false → AllByRecursion Other (reply_to (Method 0 m) answers t)
other-on-0 (Start a b c d e) answers t is = other-start answers t.config.options
other-on-0 (Secure challenge) answers t is = absurd (true≢false is)
other-on-0 (Tune a b d) answers t is = (tt, (tt, tt))
other-on-0 OpenOk answers t is = other-reopenings t.configuration.channel_max t.channels
other-on-0 (Close code text class method) answers t is = (tt, tt)
other-on-0 m answers t is = tt

other-on : (n : ℕ) (m : AnyMethod) (answers : List Asked) (t : Talk) → AllByRecursion Other (reply_to (Method (suc n) m) answers t)
other-on n (ChannelFlow active) answers t = (tt, tt)
other-on n (ChannelClose code text class method) answers t = (tt, tt)
other-on n m answers t = tt

other-reply : (f : Frame) (answers : List Asked) (t : Talk) → is_challenge f ≡ false → AllByRecursion Other (reply_to f answers t)
other-reply (Method zero m) answers t is = other-on-0 m answers t is
other-reply (Method (suc n) m) answers t is = other-on n m answers t
other-reply f answers t is = tt

other-opening : (o : Option ℕ) → AllByRecursion Other (opening_of o)
other-opening None = tt
other-opening (Some n) = (tt, tt)

other-said : (c : Cmd) (t : Talk) → AllByRecursion Other (told_by c t)
other-said OpenChannel t = other-opening (drawn t.configuration.channel_max (first_number t.configuration.channel_max t.cursor) t.channels)
other-said (CloseChannel r code text) t = (tt, tt)
other-said (CloseConnection code text) t = (tt, tt)
other-said (UpdateSecret secret reason) t = (tt, tt)
other-said (Send r method) t = (tt, tt)
other-said (Publish r method properties body) t = tt
other-said (Flow r active) t = (tt, tt)
other-said (DropChannel r) t = (tt, tt)
other-said DropConnection t = (tt, tt)
other-said Listen t = tt

other-group : (n : ℕ) (fs : List Frame) (promise : ℕ) → AllByRecursion IsNoSecureOk fs → AllByRecursion Other (group_of n fs promise)
other-group n [] promise h = tt
other-group n (f ∷ []) promise h = (h.0, tt)
other-group n (f ∷ g ∷ fs) promise h = (h.0, other-group n (g ∷ fs) promise h.1)

other-pieces : (n pieces size : ℕ) (octets : List ℕ) → AllByRecursion IsNoSecureOk (map (Raw n Body) (cut pieces size octets))
other-pieces n zero size octets = tt
other-pieces n (suc pieces) size [] = tt
other-pieces n (suc pieces) size (o ∷ octets) = (tt, other-pieces n pieces size (drop size (o ∷ octets)))

other-published : (c : Cmd) (t : Talk) → AllByRecursion (AllByRecursion Other) (published_by c t)
other-published (Publish r method properties body) t =
    let fs : List Frame = publish_frames r.id method properties body (body_limit t) in
    (other-group r.id fs (next_promise t) (tt, (tt, other-pieces r.id (length body) (body_limit t) body)), tt)
other-published c t = tt

other-new : (answers : List Asked) → AllByRecursion Other (new_one answers)
other-new (answer.Refreshed (Ok secret) ∷ later) = (tt, tt)
other-new _ = tt

other-renewal : (answers : List Asked) (t : Talk) → AllByRecursion Other (renewal answers t)
other-renewal (answer.ValidFor time ∷ later) t = if_case (AllByRecursion Other) (has_expired time t) (new_one later) [] (other-new later) tt
other-renewal _ t = tt

other-timed : (answers : List Asked) (t : Talk) → AllByRecursion Other (told_in_time answers t)
other-timed answers t =
    if_case (AllByRecursion Other) (is_missed t) [] (heartbeat_of t ++ renewal_of answers t) tt
    (all-append Other (heartbeat_of t) (renewal_of answers t) (if_case (AllByRecursion Other) (is_heartbeat_due t) (plain_item 0 Heartbeat ∷ []) [] (tt, tt) tt)
    (if_case (AllByRecursion Other) (asks_validity t) (renewal answers t) [] (other-renewal answers t) tt))

-- ---- what is committed

waits-begun : (groups : List (List Item)) (q : Queued) → Waits Other q → AllByRecursion (AllByRecursion Other) groups → Waits Other (begin_group groups q)
waits-begun [] q h all = h
waits-begun ([] ∷ groups) q h all = record { control = h.control; publish = all.1; begun = tt }
waits-begun ((item ∷ items) ∷ groups) q h all = record { control = h.control; publish = all.1; begun = all.0.1 }

waits-control : (flow : Bool) (items : List Item) (q : Queued) → Waits Other q → AllByRecursion Other items → Waits Other (after_control flow items q)
waits-control flow (item ∷ items) q h all = record { control = all.1; publish = h.publish; begun = h.begun }
waits-control true [] q h all = waits-begun q.publish q h h.publish
waits-control false [] q h all = h

waits-next : (flow : Bool) (items : List Item) (q : Queued) → Waits Other q → AllByRecursion Other items → Waits Other (after_begun flow items q)
waits-next flow (item ∷ items) q h all = record { control = h.control; publish = h.publish; begun = all.1 }
waits-next flow [] q h all = waits-control flow q.control q h h.control

other-committed : (o : Option Item) (t : Talk) → Unchallenged t → Unchallenged (committed_as o t)
other-committed None t h = h
other-committed (Some item) t h = waits-next (flows t) t.outbox.begun t.outbox h h.begun

other-ended : (o : Option ℕ) (t : Talk) → Unchallenged t → Unchallenged (end_overlong o t)
other-ended None t h = h
other-ended (Some size) t h = waits-same Other t.outbox (end_overlong (Some size) t).outbox (silent-lose (SerialisationError size) t) h

-- ---- each rule

pub start-unchallenged : (c : Config) → Unchallenged (start c)
start-unchallenged c = record { control = tt; publish = tt; begun = tt }

pub stays-unchallenged : (t : Talk) → Unchallenged t → StaysUnchallenged t
stays-unchallenged t h =
    let own : QueuesItsOwn t = queues-its-own t in
    record {
      linked = waits-either Other _ t.outbox _ own.linked h (tt, tt);
      frame = λ f answers is. waits-either Other (reply_to f answers t) t.outbox _ (own.frame f answers) h (other-reply f answers t is);
      command = λ c. told c (own.command c);
      tick = λ answers. waits-queued Other (told_in_time answers t) [] t.outbox _ (own.tick answers) h (other-timed answers t) tt;
      moment = λ at. subst (λ (q : Queued). Waits Other q) (sym (own.moment at)) h;
      starve = waits-same Other t.outbox _ own.starve h;
      asked = h;
      link_failed = waits-same Other t.outbox _ own.link_failed h;
      piece = subst (λ (q : Queued). Waits Other q) (sym own.piece) h;
      misread = λ why. waits-same Other t.outbox _ (own.misread why) h;
      lost = λ fault. waits-same Other t.outbox _ (own.lost fault) h;
      next = λ space. other-ended (overlong t) (commit space t) (other-committed (next_within space t) t h);
      taken = λ n. waits-same Other t.outbox _ (own.taken n) h;
    }
  where
    told : (c : Cmd) → QueuesNothing t.outbox (command c t).outbox ⊎ Queues (told_by c t) (published_by c t) t.outbox (command c t).outbox → Unchallenged (command c t)
    told c (inl none) = waits-same Other t.outbox (command c t).outbox none h
    told c (inr queues) = waits-queued Other (told_by c t) (published_by c t) t.outbox (command c t).outbox queues h (other-said c t) (other-published c t)

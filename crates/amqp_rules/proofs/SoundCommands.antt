-- A command leads from a sound state to a sound one.
use Rattle.std.proofs.Common.{◌≡◌, ◌∙◌, ap, subst, refl, ℕ, ◌<◌, ◌≤◌, ◌&&◌, not, if◌then◌else◌, Bool, true, false, List, [], ◌∷◌, Option, Some, None, Result, Ok, Err, arith}
use Rattle.std.specs.Prelude.{filter, codes}
use Rattle.amqp_types.specs.declared.word.Word.{Word}
use Rattle.amqp_types.specs.declared.word.Word.TheVariants as word
use Rattle.amqp_frame.specs.declared.frame.Frame.{Frame}
use Rattle.amqp_frame.specs.RawMethods.{OtherMethod}
use Rattle.amqp_outbox.specs.declared.item.Item.{Item}
use Rattle.amqp_outbox.specs.declared.reply.Reply.TheVariants.{FlowDone, SecretDone, ConnectionClosed}
use Rattle.amqp_outbox.specs.Items.{plain_item, promised_item, group_of}
use Rattle.amqp_outbox.specs.Queued.{Queued, waiting_items, pushed_control, pushed_group, is_on}
use Rattle.amqp_channels.specs.declared.channels.Channel.{Channel}
use Rattle.amqp_promise.specs.declared.state.ConnectionState.{ConnectionState}
use Rattle.amqp_promise.specs.declared.state.ConnectionState.TheVariants.{Connected, Closing}
use Rattle.amqp_promise.specs.declared.state.ChannelState.{ChannelState}
use Rattle.amqp_promise.specs.declared.state.ChannelState.TheVariants as channel
use Rattle.amqp_rules.specs.declared.state.Link.{Link}
use Rattle.amqp_rules.specs.declared.state.Link.TheVariants.{Due, Wanted, Asked, Open, Ended}
use Rattle.amqp_commands.specs.declared.command.Cmd.{Cmd}
use Rattle.amqp_commands.specs.declared.command.Cmd.TheVariants.{OpenChannel, CloseChannel, CloseConnection, UpdateSecret, Send, Publish, Flow, DropChannel, DropConnection, Listen}
use Rattle.amqp_commands.specs.declared.command.ChanRef.{ChanRef}
use Rattle.amqp_promise.specs.declared.error.ErrorKind.TheVariants.{ChannelsLimitReached, InvalidChannelState, InvalidConnectionState}
use Rattle.amqp_promise.specs.declared.error.ErrorKind.{ErrorKind}
use Rattle.amqp_rules.specs.Talk.{Talk, acts, is_acting, is_open_link}
use Rattle.amqp_rules.specs.Changes.{next_promise, refuse, finish, promise}
use Rattle.amqp_settings.specs.Handshake.{our_close, new_secret, channel_open, channel_flow, our_channel_close}
use Rattle.amqp_channels.specs.Numbering.{first_number, drawn}
use Rattle.amqp_rules.specs.Channels.{channel_at}
use Rattle.amqp_channels.specs.Channels.{made_closing}
use Rattle.amqp_commands.specs.Publishing.{method_frame, publish_frames}
use Rattle.amqp_rules.specs.Commands.{is_opening, named_in, named, target_in, target_by, target, open_drawn, leave_channel, leave_connection, close_target, drop_target, flow_target, queue_secret, update_secret, too_long, unless_too_long, too_full, unless_full, queue_send, send_target, body_limit, queue_publish, publish_target, command, command_rule}
use Rattle.amqp_rules.specs.Sound.{IsSound, fits_link, goes_on, is_unopened}
use Rattle.amqp_rules.proofs.Ascending.{put-from, map_values-from}
use Rattle.amqp_rules.proofs.Finishing.{acting-finishes, close-goes_on, control-goes_on, flow-goes_on, group-goes_on, left-goes_on, open-goes_on, publish-goes_on, queue-finishes, ungrouped-goes_on}
use Rattle.amqp_outbox.specs.Replies.{expected}
use Rattle.amqp_maps.specs.Listed.{map_values}
use Rattle.amqp_channels.proofs.Drawn.{drawn-free}
use Rattle.amqp_rules.proofs.OpenedBy.{names-none, names-rejected, fits-made}
use Rattle.amqp_rules.proofs.Opening.{fits-awaited, fits-left, fits-listed, fits-closing}
use Rattle.amqp_rules.proofs.SoundChanges.{one-more, rejected-kept, sound-promise, sound-refuse, sound-noted, listed-some}
use Rattle.amqp_rules.proofs.SoundFrames.{closing-fits}

-- ---- commands

connected-open : (l : Link ErrorKind) → fits_link Connected l ≡ true → is_open_link l ≡ true
connected-open Open h = refl
connected-open (Due moment) h = absurd cc
connected-open Wanted h = absurd cc
connected-open Asked h = absurd cc
connected-open (Ended r) h = absurd cc

-- frames act while the connection is open
connected-acts : (t : Talk) → t.state ≡ Connected → is_acting t.input ≡ true → IsSound t → acts t ≡ true
connected-acts t hs acting s =
    ap (λ b. b && is_acting t.input) (connected-open t.link (subst (λ x. fits_link x t.link ≡ true) hs s.link)) ∙ acting

sound-drawn : (o : Option ℕ) (first : ℕ) (t : Talk) → ((n : ℕ) → o ≡ Some n → (0 < n) × (channel_at n t ≡ None)) → t.state ≡ Connected → is_acting t.input ≡ true → IsSound t
    → IsSound (open_drawn o first t)
sound-drawn None first t free hs acting s =
    let r : IsSound (refuse ChannelsLimitReached t) = sound-refuse ChannelsLimitReached t s in
    record { link = r.link; room = r.room; acting = s.acting; finish = s.finish; listed = r.listed; promises = r.promises; answers = r.answers; channels = r.channels }
sound-drawn (Some n) first t free hs acting s =
    record {
      link = s.link;
      room = s.room;
      acting = s.acting;
      finish = queue-finishes t.input t.committed t.outbox (plain_item n (channel_open n)) acting (open-goes_on n) s.finish;
      listed = put-from n _ 0 t.channels (free n refl).0 s.listed;
      promises = one-more t.made None t.promises s.promises;
      answers = names-none t.made t.promises s.answers;
      channels = fits-listed t.state (acts t) t.channels t.outbox.awaited t.made s.channels n (free n refl).1 (connected-acts t hs acting s) (ap is_unopened hs);
    }

sound-leave : (n code : ℕ) (text : List ℕ) (c : Channel) (answers : Option ℕ) (t : Talk) → channel_at n t ≡ Some c → t.state ≡ Connected → is_acting t.input ≡ true → IsSound t
    → IsSound (leave_channel n code text c answers t)
sound-leave n code text c answers t listed hs acting s =
    let said : Item = plain_item n (our_channel_close n code text) in
    let closed : ErrorKind = InvalidChannelState channel.Closing word.ChannelClose in
    let gone : List (List Item) = filter (is_on n) t.outbox.publish in
    let left : Queued = record (pushed_control said t.outbox) { publish = filter (λ group. not (is_on n group)) t.outbox.publish } in
    record {
      link = s.link;
      room = s.room;
      acting = s.acting;
      finish =
          acting-finishes t.input t.committed (waiting_items t.outbox) (waiting_items left) acting
          (λ goes. left-goes_on (pushed_control said t.outbox) (control-goes_on t.outbox goes said (close-goes_on n code text)) (λ group. not (is_on n group)))
          s.finish;
      listed = put-from n _ 0 t.channels (listed-some n c t.channels s.listed listed) s.listed;
      promises = rejected-kept closed gone t.made t.promises s.promises;
      answers = names-rejected closed gone t.promises s.answers;
      channels = fits-left t.state (acts t) t.channels t.outbox.awaited t.made s.channels n c answers listed (ap is_unopened hs);
    }

sound-close-target : (r : Result Channel ErrorKind) (n code : ℕ) (text : List ℕ) (t : Talk) → ((c : Channel) → r ≡ Ok c → channel_at n t ≡ Some c)
    → t.state ≡ Connected → is_acting t.input ≡ true → IsSound t
    → IsSound (close_target r n code text t)
sound-close-target (Err e) n code text t listed hs acting s = sound-refuse e t s
sound-close-target (Ok c) n code text t listed hs acting s =
    sound-promise _ (sound-leave n code text c (Some (next_promise t)) t (listed c refl) hs acting s)

sound-drop-target : (r : Result Channel ErrorKind) (n : ℕ) (t : Talk) → ((c : Channel) → r ≡ Ok c → channel_at n t ≡ Some c) → t.state ≡ Connected → is_acting t.input ≡ true → IsSound t
    → IsSound (drop_target r n t)
sound-drop-target (Err e) n t listed hs acting s = s
sound-drop-target (Ok c) n t listed hs acting s = sound-leave n 200 (codes "OK") c None t (listed c refl) hs acting s

sound-flow-target : (r : Result Channel ErrorKind) (n : ℕ) (active : Bool) (t : Talk) → t.state ≡ Connected → is_acting t.input ≡ true → IsSound t
    → IsSound (flow_target r n active t)
sound-flow-target (Err e) n active t hs acting s = sound-refuse e t s
sound-flow-target (Ok c) n active t hs acting s =
    record {
      link = s.link;
      room = s.room;
      acting = s.acting;
      finish = queue-finishes t.input t.committed t.outbox (plain_item n (channel_flow n active)) acting (flow-goes_on n active) s.finish;
      listed = s.listed;
      promises = one-more t.made None t.promises s.promises;
      answers = names-none t.made t.promises s.answers;
      channels =
          fits-made t.state (acts t) t.channels (expected n (record { reply = FlowDone; promise = Some t.made }) t.outbox.awaited) t.made
          (fits-awaited t.state (acts t) t.channels t.outbox.awaited t.made s.channels (record { reply = FlowDone; promise = Some t.made }) n refl (λ P. tt) (ap is_unopened hs));
    }

-- a frame that is too long is refused
sound-unless : (o : Option Frame) (rule : Talk → Talk) (t : Talk) → IsSound t → IsSound (rule t) → IsSound (unless_too_long o rule t)
sound-unless None rule t s said = said
sound-unless (Some frame) rule t s said = sound-refuse _ t s

-- where too many octets would wait, a command is refused
sound-room : (o : Option ℕ) (rule : Talk → Talk) (t : Talk) → IsSound t → IsSound (rule t) → IsSound (unless_full o rule t)
sound-room None rule t s said = said
sound-room (Some octets) rule t s said = sound-refuse _ t s

sound-send : (r : Result Channel ErrorKind) (n : ℕ) (m : OtherMethod) (t : Talk) → is_acting t.input ≡ true → IsSound t → IsSound (send_target r n m t)
sound-send (Err e) n m t acting s = sound-refuse e t s
sound-send (Ok c) n m t acting s =
    let frame = method_frame n m in
    sound-unless (too_long (frame ∷ []) t) (unless_full (too_full (frame ∷ []) t) (queue_send n frame)) t s
    (sound-room (too_full (frame ∷ []) t) (queue_send n frame) t s (record {
      link = s.link;
      room = s.room;
      acting = s.acting;
      finish = queue-finishes t.input t.committed t.outbox (promised_item n frame (next_promise t)) acting refl s.finish;
      listed = s.listed;
      promises = one-more t.made None t.promises s.promises;
      answers = names-none t.made t.promises s.answers;
      channels = fits-made t.state (acts t) t.channels t.outbox.awaited t.made s.channels;
    }))

sound-update-secret : (secret reason : List ℕ) (t : Talk) → t.state ≡ Connected → is_acting t.input ≡ true → IsSound t → IsSound (update_secret secret reason t)
sound-update-secret secret reason t hs acting s =
    let frame = new_secret secret reason in
    sound-unless (too_long (frame ∷ []) t) (queue_secret frame) t s
    (record {
      link = s.link;
      room = s.room;
      acting = s.acting;
      finish = queue-finishes t.input t.committed t.outbox (plain_item 0 frame) acting refl s.finish;
      listed = s.listed;
      promises = one-more t.made None t.promises s.promises;
      answers = names-none t.made t.promises s.answers;
      channels =
          fits-made t.state (acts t) t.channels (expected 0 (record { reply = SecretDone; promise = Some t.made }) t.outbox.awaited) t.made
          (fits-awaited t.state (acts t) t.channels t.outbox.awaited t.made s.channels (record { reply = SecretDone; promise = Some t.made }) 0 refl (λ P. tt) (ap is_unopened hs));
    })

sound-publish : (r : Result Channel ErrorKind) (n : ℕ) (m : OtherMethod) (properties body : List ℕ) (t : Talk) → is_acting t.input ≡ true → IsSound t
    → IsSound (publish_target r n m properties body t)
sound-publish (Err e) n m properties body t acting s = sound-refuse e t s
sound-publish (Ok c) n m properties body t acting s =
    let frames = publish_frames n m properties body (body_limit t) in
    let group = group_of n frames (next_promise t) in
    sound-unless (too_long frames t) (unless_full (too_full frames t) (queue_publish n frames)) t s
    (sound-room (too_full frames t) (queue_publish n frames) t s (record {
      link = s.link;
      room = s.room;
      acting = s.acting;
      finish =
          acting-finishes t.input t.committed (waiting_items t.outbox) (waiting_items (pushed_group group t.outbox)) acting
          (λ goes. group-goes_on t.outbox goes group (publish-goes_on n (next_promise t) m properties body (body_limit t))) s.finish;
      listed = s.listed;
      promises = one-more t.made None t.promises s.promises;
      answers = names-none t.made t.promises s.answers;
      channels = fits-made t.state (acts t) t.channels t.outbox.awaited t.made s.channels;
    }))

pub named-listed : (r : ChanRef) (o : Option Channel) (c : Channel) → named_in r.opened o ≡ Some c → o ≡ Some c
named-listed r None c h = absurd cc
named-listed r (Some d) c h = by (is_opening r.opened d.opened) h
  where
    by : (b : Bool) → (if b then Some d else None) ≡ Some c → Some d ≡ Some c
    by true h = h
    by false h = absurd cc

pub target-in : (held : ChannelState) (word : Word) (d c : Channel) → target_in held word d ≡ Ok c → d ≡ c
target-in channel.Connected word d c h = cc
target-in _ word d c h = absurd cc

pub target-named : (o : Option Channel) (n : ℕ) (word : Word) (c : Channel) → target_by o n word ≡ Ok c → o ≡ Some c
target-named None n word c h = absurd cc
target-named (Some d) n word c h = ap (λ (x : Channel). Some x) (target-in d.state word d c h)

-- a target is listed
pub target-listed : (r : ChanRef) (word : Word) (t : Talk) (c : Channel) → target r word t ≡ Ok c → channel_at r.id t ≡ Some c
target-listed r word t c h = named-listed r (channel_at r.id t) c (target-named (named r t) r.id word c h)

-- where the connection goes on, frames act
acts-on : (state : ConnectionState) (t : Talk) → t.state ≡ state → goes_on state ≡ true → IsSound t → is_acting t.input ≡ true
acts-on state t hs h s = s.acting (ap goes_on hs ∙ h)

sound-leave-connection : (code : ℕ) (text : List ℕ) (answers : Option ℕ) (t : Talk) → t.state ≡ Connected → IsSound t
    → IsSound (leave_connection code text answers t)
sound-leave-connection code text answers t hs s =
    let said : Item = plain_item 0 (our_close code text) in
    let closed : ErrorKind = InvalidConnectionState Closing in
    record {
      link = closing-fits t.link (subst (λ x. fits_link x t.link ≡ true) hs s.link);
      room = λ h. absurd cc;
      acting = λ h. absurd cc;
      finish =
          acting-finishes t.input t.committed (waiting_items t.outbox) (waiting_items (record (pushed_control said t.outbox) { publish = [] }))
          (acts-on Connected t hs refl s)
          (λ goes. ungrouped-goes_on (pushed_control said t.outbox) (control-goes_on t.outbox goes said refl)) s.finish;
      listed = map_values-from made_closing 0 t.channels s.listed;
      promises = rejected-kept closed t.outbox.publish t.made t.promises s.promises;
      answers = names-rejected closed t.outbox.publish t.promises s.answers;
      channels =
          fits-awaited Closing (acts t) (map_values made_closing t.channels) t.outbox.awaited t.made (fits-closing t.state (acts t) t.channels t.outbox.awaited t.made s.channels)
          (record { reply = ConnectionClosed; promise = answers }) 0 refl (λ P. tt) refl;
    }

sound-command-rule : (state : ConnectionState) (c : Cmd) (t : Talk) → t.state ≡ state → IsSound t → IsSound (command_rule state c t)
sound-command-rule Connected OpenChannel t hs s =
    let first = first_number t.configuration.channel_max t.cursor in
    sound-drawn (drawn t.configuration.channel_max first t.channels) first t
    (λ n h.
    let free = drawn-free t.configuration.channel_max t.cursor n t.channels h in
    let low : 1 ≤ n = free.0 in (omega (arith, low), free.2))
    hs (acts-on Connected t hs refl s) s
sound-command-rule Connected (CloseChannel r code text) t hs s =
    sound-close-target (target r word.ChannelClose t) r.id code text t (λ c h. target-listed r word.ChannelClose t c h) hs
    (acts-on Connected t hs refl s) s
sound-command-rule Connected (CloseConnection code text) t hs s =
    sound-promise _ (sound-leave-connection code text (Some (next_promise t)) t hs s)
sound-command-rule Connected (UpdateSecret secret reason) t hs s = sound-update-secret secret reason t hs (acts-on Connected t hs refl s) s
sound-command-rule Connected (Send r method) t hs s = sound-send (target r word.Send t) r.id method t (acts-on Connected t hs refl s) s
sound-command-rule Connected (Publish r method properties body) t hs s =
    sound-publish (target r word.Publish t) r.id method properties body t (acts-on Connected t hs refl s) s
sound-command-rule Connected (Flow r active) t hs s = sound-flow-target (target r word.ChannelFlow t) r.id active t hs (acts-on Connected t hs refl s) s
sound-command-rule Connected (DropChannel r) t hs s =
    sound-drop-target (target r word.ChannelClose t) r.id t (λ c h. target-listed r word.ChannelClose t c h) hs (acts-on Connected t hs refl s) s
sound-command-rule Connected DropConnection t hs s = sound-leave-connection 200 (codes "OK") None t hs s
sound-command-rule Connected Listen t hs s = sound-noted _ t s
sound-command-rule _ (DropChannel r) t hs s = s
sound-command-rule _ DropConnection t hs s = s
sound-command-rule _ Listen t hs s = sound-noted _ t s
sound-command-rule _ c t hs s = sound-refuse _ t s

pub sound-command : (c : Cmd) (t : Talk) → IsSound t → IsSound (command c t)
sound-command c t s = sound-command-rule t.state c t refl s

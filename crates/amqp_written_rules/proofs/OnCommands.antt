-- Each command, and time that goes by, leave a session that says nothing else.
use Rattle.std.proofs.Common.{◌≡◌, ◌≤◌, ℕ, not, nat_le, Bool, true, false, List, [], ◌∷◌, Option, Some, None, Result, Ok, Err, refl, ap, sym, ◌∙◌, subst}
use Rattle.std.specs.Prelude.{codes}
use Rattle.std.specs.List.{AllByRecursion}
use Rattle.amqp_frame.specs.declared.frame.Frame.{Frame}
use Rattle.amqp_frame.specs.declared.frame.Frame.TheVariants.{Heartbeat}
use Rattle.amqp_frame.specs.RawMethods.{OtherMethod}
use Rattle.amqp_outbox.specs.declared.item.Item.{Item}
use Rattle.amqp_outbox.specs.Items.{plain_item, promised_item, group_of}
use Rattle.amqp_outbox.specs.Queued.{pushed_group, is_on}
use Rattle.amqp_promise.specs.declared.error.ErrorKind.{ErrorKind}
use Rattle.amqp_promise.specs.declared.state.ConnectionState.{ConnectionState}
use Rattle.amqp_promise.specs.declared.state.ConnectionState.TheVariants.{Connected}
use Rattle.amqp_types.specs.declared.word.Word.TheVariants as word
use Rattle.amqp_channels.specs.declared.channels.Channel.{Channel}
use Rattle.amqp_commands.specs.declared.command.ChanRef.{ChanRef}
use Rattle.amqp_commands.specs.declared.command.Cmd.{Cmd}
use Rattle.amqp_commands.specs.declared.command.Cmd.TheVariants.{OpenChannel, CloseChannel, CloseConnection, UpdateSecret, Send, Publish, Flow, DropChannel, DropConnection, Listen}
use Rattle.amqp_settings.specs.declared.configuration.Configuration.{Configuration}
use Rattle.amqp_auth.specs.declared.asked.Asked.{Asked}
use Rattle.amqp_maps.specs.Listed.{put}
use Rattle.amqp_rules.specs.declared.state.Link.{Link}
use Rattle.amqp_rules.specs.declared.state.Link.TheVariants.{Due, Wanted}
use Rattle.amqp_rules.specs.Talk.{Talk, is_open, is_open_link}
use Rattle.amqp_rules.specs.Changes.{queue, queue_item, next_promise, without_groups_of}
use Rattle.amqp_settings.specs.Handshake.{our_close, our_channel_close, new_secret, channel_open, channel_flow, refresh_reason}
use Rattle.amqp_channels.specs.Numbering.{first_number, drawn}
use Rattle.amqp_rules.specs.Channels.{channel_at, set_channel}
use Rattle.amqp_channels.specs.Channels.{new_channel, made_leaving}
use Rattle.amqp_commands.specs.Publishing.{method_frame, publish_frames}
use Rattle.amqp_rules.specs.Commands.{target, open_drawn, leave_channel, close_target, drop_target, flow_target, queue_secret, too_long, unless_too_long, too_full, unless_full, queue_send, send_target, body_limit, queue_publish, publish_target, leave_connection, command, command_rule}
use Rattle.amqp_rules.specs.Ticks.{link_at, link_due, tick}
use Rattle.amqp_rules.proofs.Lacking.{lacks_link}
use Rattle.amqp_rules.proofs.Walk.{refused-keeps, tick-keeps}
use Rattle.amqp_channels.proofs.Drawn.{drawn-free}
use Rattle.amqp_types.proofs.Small.{if_case, all-push}
use Rattle.amqp_written_rules.proofs.Spoken.{Sayings, Spoken, requeued, spoken-closing, OfItem, OfItems, hears_channels, is_early}
use Rattle.amqp_written_rules.proofs.OnLinks.{Stays, stays-lose, at-within, put-within}
use Rattle.amqp_written_rules.proofs.OnChannels.{spoken-queue, spoken-agreed, spoken-channels}
use Rattle.amqp_rules.proofs.SoundCommands.{target-listed}
use Rattle.amqp_channels.proofs.Walking.{all-filtered}

-- ---- the frames of a publish

grouped : (k : Sayings) (n : Configuration) (m : ℕ) (fs : List Frame) (promise : ℕ) → AllByRecursion (k.Says n) fs → OfItems k n (group_of m fs promise)
grouped k n m [] promise h = tt
grouped k n m (f ∷ []) promise h = (h.0, tt)
grouped k n m (f ∷ g ∷ fs) promise h = (h.0, grouped k n m (g ∷ fs) promise h.1)

-- ---- commands

module _ (k : Sayings) (fs : List Frame) (t : Talk) (h : Stays k fs t) (open_state : t.state ≡ Connected) where
  agreed : is_early t.state t.phase ≡ false
  agreed = ap (λ s. is_early s t.phase) open_state

  module _ (n : ℕ) (c : Channel) (is : channel_at n t ≡ Some c) where
    within : is_open t ≡ true → n ≤ t.configuration.channel_max
    within o = at-within t.configuration.channel_max n c t.channels ((h.0 o).listed (ap hears_channels open_state)) is

    -- our close of a channel
    stays-leave : (code : ℕ) (text : List ℕ) (promise : Option ℕ)
        → ((c : Configuration) → k.Numbers c → n ≤ c.channel_max → k.Says c (our_channel_close n code text)) → Stays k fs (leave_channel n code text c promise t)
    stays-leave code text promise says = (
      (λ o.
          (let x : Talk = set_channel n (made_leaving c) t in
          let set : Spoken k fs x = spoken-channels k fs (put n (made_leaving c) t.channels) t (λ in_it. put-within t.configuration.channel_max n (made_leaving c) t.channels (within o) in_it) (h.0 o) in
          let said = spoken-agreed k fs (plain_item n (our_channel_close n code text)) x agreed (says t.configuration set.numbers (within o)) set in
          let y : Talk = queue n (our_channel_close n code text) x in
          requeued k fs y (without_groups_of n y.outbox)
          (λ m may all.
          record { committed = all.committed; lane = all.lane; rest = all.rest; groups = all-filtered (OfItems k m) (λ group. not (is_on n group)) t.outbox.publish all.groups }) said)),
      h.1,
    )

    -- a frame goes last into the control lane
    stays-said : (item : Item) → ((c : Configuration) → k.Numbers c → n ≤ c.channel_max → k.Says c item.frame) → Stays k fs (queue_item item t)
    stays-said item says = ((λ o. spoken-agreed k fs item t agreed (says t.configuration (h.0 o).numbers (within o)) (h.0 o)), h.1)

  stays-opened : (o : Option ℕ) (first : ℕ) → ((n : ℕ) → o ≡ Some n → n ≤ t.configuration.channel_max) → Stays k fs (open_drawn o first t)
  stays-opened None first up = h
  stays-opened (Some n) first up =
      let le : n ≤ t.configuration.channel_max = up n refl in
      let d : Channel = new_channel (next_promise t) in
      let x : Talk = set_channel n d t in (
        (λ o.
            spoken-agreed k fs (plain_item n (channel_open n)) x agreed (k.opens t.configuration n (h.0 o).numbers le)
            (spoken-channels k fs (put n d t.channels) t (λ in_it. put-within t.configuration.channel_max n d t.channels le in_it) (h.0 o))),
        h.1,
      )

  stays-unless : (o : Option Frame) (rule : Talk → Talk) → Stays k fs (rule t) → Stays k fs (unless_too_long o rule t)
  stays-unless None rule stays = stays
  stays-unless (Some f) rule stays = h

  stays-close-target : (r : ChanRef) (code : ℕ) (text : List ℕ) → k.Told (CloseChannel r code text) → (o : Result Channel ErrorKind)
      → target r word.ChannelClose t ≡ o → Stays k fs (close_target o r.id code text t)
  stays-close-target r code text told (Err e) is = h
  stays-close-target r code text told (Ok c) is =
      stays-leave r.id c (target-listed r word.ChannelClose t c is) code text (Some (next_promise t)) (λ n numbers le. k.closes_channel n r.id code text r numbers le told)

  stays-drop-target : (r : ChanRef) (o : Result Channel ErrorKind) → target r word.ChannelClose t ≡ o → Stays k fs (drop_target o r.id t)
  stays-drop-target r (Err e) is = h
  stays-drop-target r (Ok c) is =
      stays-leave r.id c (target-listed r word.ChannelClose t c is) 200 (codes "OK") None (λ n numbers le. k.drops_channel n r.id numbers le)

  stays-flow-target : (r : ChanRef) (active : Bool) (o : Result Channel ErrorKind) → target r word.ChannelFlow t ≡ o → Stays k fs (flow_target o r.id active t)
  stays-flow-target r active (Err e) is = h
  stays-flow-target r active (Ok c) is =
      stays-said r.id c (target-listed r word.ChannelFlow t c is) (plain_item r.id (channel_flow r.id active)) (λ n numbers le. k.flows n r.id active numbers le)

  -- where too much would wait, a command is refused
  stays-room : (o : Option ℕ) (rule : Talk → Talk) → Stays k fs (rule t) → Stays k fs (unless_full o rule t)
  stays-room None rule said = said
  stays-room (Some octets) rule said = h

  stays-send-target : (r : ChanRef) (method : OtherMethod) → k.Told (Send r method) → (o : Result Channel ErrorKind)
      → target r word.Send t ≡ o → Stays k fs (send_target o r.id method t)
  stays-send-target r method told (Err e) is = h
  stays-send-target r method told (Ok c) is =
      let f : Frame = method_frame r.id method in
      stays-unless (too_long (f ∷ []) t) (unless_full (too_full (f ∷ []) t) (queue_send r.id f))
      (stays-room (too_full (f ∷ []) t) (queue_send r.id f) (stays-said r.id c (target-listed r word.Send t c is) (promised_item r.id f (next_promise t)) (λ n numbers le. k.sends n r.id r method numbers le told)))

  stays-publish-target : (r : ChanRef) (method : OtherMethod) (properties body : List ℕ) → k.Told (Publish r method properties body)
      → (o : Result Channel ErrorKind) → target r word.Publish t ≡ o → Stays k fs (publish_target o r.id method properties body t)
  stays-publish-target r method properties body told (Err e) is = h
  stays-publish-target r method properties body told (Ok c) is =
      let frames : List Frame = publish_frames r.id method properties body (body_limit t) in
      let le = within r.id c (target-listed r word.Publish t c is) in
      stays-unless (too_long frames t) (unless_full (too_full frames t) (queue_publish r.id frames)) (stays-room (too_full frames t) (queue_publish r.id frames) (
        (λ o.
            (let said = h.0 o in
            let may : AllByRecursion (k.Says t.configuration) frames = k.publishes t.configuration r.id t.capacity r method properties body said.numbers (le o) told in
            let Q : Configuration → Type 0 = λ c. AllByRecursion (k.Says c) frames in
            requeued k fs t (pushed_group (group_of r.id frames (next_promise t)) t.outbox)
            (λ n still all.
            record {
              committed = all.committed;
              lane = all.lane;
              rest = all.rest;
              groups = all-push (OfItems k n) t.outbox.publish (group_of r.id frames (next_promise t)) all.groups
                  (grouped k n r.id frames (next_promise t) (subst Q (sym (still agreed)) may));
            }) said)),
        h.1,
      ))

  -- our close of the connection
  stays-left : (code : ℕ) (text : List ℕ) (promise : Option ℕ) → ((n : Configuration) → k.Says n (our_close code text))
      → Stays k fs (leave_connection code text promise t)
  stays-left code text promise says =
      let u : Talk = leave_connection code text promise t in (
        (λ o.
            spoken-closing k fs t u.channels u.outbox
            (λ n all.
            record { committed = all.committed; lane = all-push (OfItem k n) t.outbox.control (plain_item 0 (our_close code text)) all.lane (says n); rest = all.rest; groups = tt })
            (h.0 o)),
        h.1,
      )

  stays-told : (c : Cmd) → k.Told c → Stays k fs (command_rule Connected c t)
  stays-told OpenChannel told =
      let first = first_number t.configuration.channel_max t.cursor in
      stays-opened (drawn t.configuration.channel_max first t.channels) first (λ n is. (drawn-free t.configuration.channel_max t.cursor n t.channels is).1)
  stays-told (CloseChannel r code text) told = stays-close-target r code text told (target r word.ChannelClose t) refl
  stays-told (CloseConnection code text) told = stays-left code text (Some (next_promise t)) (λ n. k.closes n code text told)
  stays-told (UpdateSecret secret reason) told =
      let f : Frame = new_secret secret reason in
      stays-unless (too_long (f ∷ []) t) (queue_secret f) ((λ o. spoken-queue k fs 0 f t (λ n. k.tells_secret n secret reason told) (h.0 o)), h.1)
  stays-told (Send r method) told = stays-send-target r method told (target r word.Send t) refl
  stays-told (Publish r method properties body) told = stays-publish-target r method properties body told (target r word.Publish t) refl
  stays-told (Flow r active) told = stays-flow-target r active (target r word.ChannelFlow t) refl
  stays-told (DropChannel r) told = stays-drop-target r (target r word.ChannelClose t) refl
  stays-told DropConnection told = stays-left 200 (codes "OK") None (λ n. k.drops n)
  stays-told Listen told = h

module _ (k : Sayings) (fs : List Frame) where
  stays-in : (c : Cmd) (t : Talk) → k.Told c → Stays k fs t → (s : ConnectionState) → t.state ≡ s → Stays k fs (command_rule s c t)
  stays-in c t told h Connected is = stays-told k fs t h is c told
  stays-in c t told h s is = refused-keeps (Stays k fs) (λ e t h. h) (λ t h. h) s c t refl h

  -- a command
  pub stays-command : (c : Cmd) (t : Talk) → k.Told c → Stays k fs t → Stays k fs (command c t)
  stays-command c t told h = stays-in c t told h t.state refl

  -- ---- time

  stays-due : (t : Talk) → Stays k fs t → Stays k fs (link_due t)
  stays-due t h = ((λ o. h.0 (sym (opened t.link) ∙ o)), (λ w. h.1 (sym (lacking t.link) ∙ w)))
    where
      opened : (l : Link ErrorKind) → is_open_link (link_at t.present l) ≡ is_open_link l
      opened (Due moment) = if_case (λ (x : Link ErrorKind). is_open_link x ≡ false) (nat_le moment t.present) Wanted (Due moment) refl refl
      opened _ = refl

      lacking : (l : Link ErrorKind) → lacks_link (link_at t.present l) ≡ lacks_link l
      lacking (Due moment) = if_case (λ (x : Link ErrorKind). lacks_link x ≡ true) (nat_le moment t.present) Wanted (Due moment) refl refl
      lacking _ = refl

  -- time goes by
  pub stays-tick : (answers : List Asked) (t : Talk) → Stays k fs t → Stays k fs (tick answers t)
  stays-tick answers t h =
      tick-keeps (Stays k fs)
      (record {
        lost = stays-lose k fs;
        beats = λ t h. ((λ o. spoken-queue k fs 0 Heartbeat t (λ n. k.beats n) (h.0 o)), h.1);
        refreshes = λ secret t h. ((λ o. spoken-queue k fs 0 (new_secret secret refresh_reason) t (λ n. k.refreshes n secret) (h.0 o)), h.1);
        retains = λ text t h. h;
        wants = stays-due;
      }) answers t h

-- What comes on a channel leaves a session that says nothing else.
use Rattle.std.proofs.Common.{◌≡◌, ◌≤◌, ℕ, not, Bool, true, false, true≢false, List, Option, Some, None, refl, ap, sym, ◌∙◌, subst}
use Rattle.amqp_frame.specs.declared.frame.Frame.{Frame}
use Rattle.amqp_frame.specs.declared.frame.RawKind.{RawKind}
use Rattle.amqp_frame.specs.declared.method.Method.{Method as AnyMethod}
use Rattle.amqp_frame.specs.declared.method.Method.TheVariants.{ChannelOpenOk, ChannelClose, ChannelCloseOk, ChannelFlow, ChannelFlowOk}
use Rattle.amqp_frame.specs.Methods.{is_of_a_channel}
use Rattle.amqp_outbox.specs.declared.item.Item.{Item}
use Rattle.amqp_outbox.specs.declared.reply.Reply.TheVariants.{ChannelOpened, ChannelClosed, FlowDone}
use Rattle.amqp_outbox.specs.Items.{plain_item}
use Rattle.amqp_outbox.specs.Queued.{awaited_promise, pushed_control, is_on, goes_with}
use Rattle.amqp_promise.specs.declared.error.ErrorKind.{ErrorKind}
use Rattle.amqp_promise.specs.declared.error.ErrorKind.TheVariants.{InvalidChannel}
use Rattle.amqp_promise.specs.declared.state.ConnectionState.{ConnectionState}
use Rattle.amqp_promise.specs.declared.state.ConnectionState.TheVariants.{Connecting, Connected, Closing}
use Rattle.amqp_promise.specs.declared.state.ChannelState.{ChannelState}
use Rattle.amqp_promise.specs.declared.state.ChannelState.TheVariants as channel
use Rattle.amqp_channels.specs.declared.channels.Channel.{Channel}
use Rattle.amqp_channels.specs.declared.channels.Debt.{Debt}
use Rattle.amqp_channels.specs.declared.channels.Debt.TheVariants as debt
use Rattle.amqp_settings.specs.declared.configuration.Configuration.{Configuration}
use Rattle.amqp_rules.specs.declared.state.Phase.{Phase}
use Rattle.amqp_maps.specs.Listed.{put, without}
use Rattle.amqp_rules.specs.Talk.{Talk, is_open}
use Rattle.amqp_rules.specs.Changes.{queue, queue_item, misplaced, without_all_on}
use Rattle.amqp_settings.specs.Handshake.{flow_ok, channel_close_ok}
use Rattle.amqp_violations.specs.Violations.{channel_closed_with, unawaited, stray_connection_method}
use Rattle.amqp_rules.specs.Channels.{channel_at, set_channel}
use Rattle.amqp_channels.specs.Channels.{made_answered}
use Rattle.amqp_rules.specs.ChannelMethods.{heard_on, unawaited_channel_method, channel_opened, remove_channel, remove_unless_owed, channel_closed, on_channel_flow, channel_flowed, closed_by_server, crossing_close, channel_close_by, channel_rule, channel_method_by, channel_method, is_select_ok, confirmed, raw_by, raw_frame}
use Rattle.amqp_rules.specs.Frames.{method_on}
use Rattle.amqp_rules.proofs.Walk.{close_answered, misplaced-keeps}
use Rattle.amqp_types.proofs.Small.{if_case, all-push}
use Rattle.amqp_written_rules.proofs.Spoken.{Sayings, Spoken, relisted, requeued, OfItem, OfItems, IsWithin, hears_channels, is_early}
use Rattle.amqp_written_rules.proofs.OnLinks.{Stays, stays-lose, at-within, put-within, without-within}
use Rattle.amqp_channels.proofs.Walking.{all-filtered}

module _ (k : Sayings) (fs : List Frame) where
  -- a frame goes last into the control lane that may be said
  pub spoken-queue : (m : ℕ) (f : Frame) (t : Talk) → ((n : Configuration) → k.Says n f) → Spoken k fs t → Spoken k fs (queue m f t)
  spoken-queue m f t says h =
      requeued k fs t (pushed_control (plain_item m f) t.outbox)
      (λ n may all. record { committed = all.committed; lane = all-push (OfItem k n) t.outbox.control (plain_item m f) all.lane (says n); rest = all.rest; groups = all.groups }) h

  -- one that may be said with the numbers that are agreed, once they are
  pub spoken-agreed : (item : Item) (t : Talk) → is_early t.state t.phase ≡ false → k.Says t.configuration item.frame → Spoken k fs t
      → Spoken k fs (queue_item item t)
  spoken-agreed item t agreed says h =
      let Q : Configuration → Type 0 = λ c. k.Says c item.frame in
      requeued k fs t (pushed_control item t.outbox)
      (λ n may all.
      record {
        committed = all.committed;
        lane = all-push (OfItem k n) t.outbox.control item all.lane (subst Q (sym (may agreed)) says);
        rest = all.rest;
        groups = all.groups;
      }) h

  -- the channels change, and none is above the greatest number
  pub spoken-channels : (cs : List (ℕ × Channel)) (t : Talk) → (IsWithin t.configuration.channel_max t.channels → IsWithin t.configuration.channel_max cs)
      → Spoken k fs t → Spoken k fs (record t { channels = cs })
  spoken-channels cs t within h = relisted k fs t cs (λ hears. within (h.listed hears)) h

  -- ---- methods

  module _ (n : ℕ) (t : Talk) (h : Stays k fs t) where
    stays-unawaited : (s : ChannelState) (m : AnyMethod) → Stays k fs (unawaited_channel_method n s m t)
    stays-unawaited channel.Closing m = h
    stays-unawaited _ m = stays-lose k fs (unawaited m n) t h

    module _ (c : Channel) (is : channel_at n t ≡ Some c) (hears : hears_channels t.state ≡ true) where
      -- the channel is within the greatest number
      within : is_open t ≡ true → n ≤ t.configuration.channel_max
      within o = at-within t.configuration.channel_max n c t.channels ((h.0 o).listed hears) is

      early : is_early t.state t.phase ≡ false
      early = later t.state t.phase hears where
        later : (s : ConnectionState) (p : Phase) → hears_channels s ≡ true → is_early s p ≡ false
        later Connecting p on = absurd cc
        later Closing p on = refl
        later _ p on = refl

      -- it changes, or goes
      stays-set : (d : Channel) → Stays k fs (set_channel n d t)
      stays-set d = ((λ o. spoken-channels (put n d t.channels) t (λ in_it. put-within t.configuration.channel_max n d t.channels (within o) in_it) (h.0 o)), h.1)

      stays-removed : Stays k fs (remove_channel n t)
      stays-removed = ((λ o. spoken-channels (without n t.channels) t (λ in_it. without-within t.configuration.channel_max n t.channels in_it) (h.0 o)), h.1)

      stays-opened : (o : Option (Option ℕ)) → Stays k fs (channel_opened n c o t)
      stays-opened None = stays-unawaited c.state ChannelOpenOk
      stays-opened (Some promise) = stays-set (record c { state = channel.Connected })

      stays-unowed : (d : Debt) (x : Talk) → Stays k fs (set_channel n (made_answered c) x) → Stays k fs (remove_channel n x) → Stays k fs (remove_unless_owed d n c x)
      stays-unowed debt.Owed x stays gone = stays
      stays-unowed _ x stays gone = gone

      stays-closed : (o : Option (Option ℕ)) → Stays k fs (channel_closed n c o t)
      stays-closed None = stays-unawaited c.state ChannelCloseOk
      stays-closed (Some promise) = stays-unowed c.debt (close_answered n promise t) (stays-set (made_answered c)) stays-removed

      stays-flow : (s : ChannelState) (active : Bool) → Stays k fs (on_channel_flow s n c active t)
      stays-flow channel.Closing active = h
      stays-flow _ active =
          let x : Talk = set_channel n (record c { flow = active }) t in
          let set = stays-set (record c { flow = active }) in
          ((λ o. spoken-agreed (plain_item n (flow_ok n active)) x early (k.answers_flow t.configuration n active (h.0 o).numbers (within o)) (set.0 o)), h.1)

      stays-flowed : (active : Bool) (o : Option (Option ℕ)) → Stays k fs (channel_flowed n c active o t)
      stays-flowed active None = stays-unawaited c.state (ChannelFlowOk active)
      stays-flowed active (Some promise) = h

      -- the server's close
      spoken-dropped : (x : Talk) → Spoken k fs x → Spoken k fs (record x { outbox = without_all_on n x.outbox })
      spoken-dropped x said =
          requeued k fs x (without_all_on n x.outbox)
          (λ m may all.
          record {
            committed = all.committed;
            lane = all-filtered (OfItem k m) (λ item. not (goes_with n item)) x.outbox.control all.lane;
            rest = all.rest;
            groups = all-filtered (OfItems k m) (λ group. not (is_on n group)) x.outbox.publish all.groups;
          }) said

      stays-closed-by-server : (e : ErrorKind) → Stays k fs (closed_by_server n e c t)
      stays-closed-by-server e =
          let d : Channel = record c { state = channel.Closing; debt = debt.Owed } in
          let set = stays-set d in
          let x : Talk = set_channel n d t in (
            (λ o. spoken-agreed (plain_item n (channel_close_ok n)) (record x { outbox = without_all_on n x.outbox }) early
                (k.answers_channel_close t.configuration n (h.0 o).numbers (within o)) (spoken-dropped x (set.0 o))),
            h.1,
          )

      stays-crossing : (e : ErrorKind) → Stays k fs (crossing_close n e c t)
      stays-crossing e =
          let d : Channel = record c { debt = debt.Owed } in
          let set = stays-set d in (
            (λ o. spoken-agreed (plain_item n (channel_close_ok n)) (set_channel n d t) early
                (k.answers_channel_close t.configuration n (h.0 o).numbers (within o)) (set.0 o)),
            h.1,
          )

      stays-server-close : (d : Debt) (e : ErrorKind) → Stays k fs (channel_close_by d n e c t)
      stays-server-close debt.Nothing e =
          if_case (Stays k fs) c.awaits_close_ok (crossing_close n e c t) (closed_by_server n e c t) (stays-crossing e) (stays-closed-by-server e)
      stays-server-close _ e = h

      stays-channel : (s : ConnectionState) (m : AnyMethod) → Stays k fs (channel_rule s n c m t)
      stays-channel Closing m = h
      stays-channel _ ChannelOpenOk = stays-opened (awaited_promise n ChannelOpened t.outbox)
      stays-channel _ ChannelCloseOk = stays-closed (awaited_promise n ChannelClosed t.outbox)
      stays-channel _ (ChannelClose code text class method) = stays-server-close c.debt (channel_closed_with code text)
      stays-channel _ (ChannelFlow active) = stays-flow c.state active
      stays-channel _ (ChannelFlowOk active) = stays-flowed active (awaited_promise n FlowDone t.outbox)
      stays-channel _ m = stays-unawaited c.state m

      stays-passed : (kind : RawKind) (bytes : List ℕ) → Stays k fs (raw_by (Some c) n kind bytes t)
      stays-passed kind bytes = if_case (Stays k fs) (is_select_ok kind bytes) (confirmed n c t) t (stays-set (record c { confirm = true })) h

    pub stays-misplaced : (e : ErrorKind) → Stays k fs (misplaced e t)
    stays-misplaced e = misplaced-keeps (Stays k fs) (stays-lose k fs) e t h

    stays-by : (m : AnyMethod) (s : ConnectionState) → t.state ≡ s → (o : Option Channel) → channel_at n t ≡ o → Stays k fs (channel_method_by (heard_on s o) n m t)
    stays-by m Connecting same o is = stays-misplaced (InvalidChannel n)
    stays-by m Closing same None is = stays-misplaced (InvalidChannel n)
    stays-by m Closing same (Some c) is =
        let Q : ConnectionState → Type 0 = λ s. Stays k fs (channel_rule s n c m t) in
        subst Q (sym same) h
    stays-by m s same None is = stays-misplaced (InvalidChannel n)
    stays-by m s same (Some c) is = stays-channel c is (ap hears_channels same) t.state m

    -- a method on another channel than 0
    pub stays-method-on : (m : AnyMethod) → Stays k fs (method_on n m t)
    stays-method-on m =
        if_case (Stays k fs) (is_of_a_channel m) (channel_method n m t) (misplaced (stray_connection_method n) t)
        (stays-by m t.state refl (channel_at n t) refl) (stays-misplaced (stray_connection_method n))

    stays-raw-by : (kind : RawKind) (bytes : List ℕ) (s : ConnectionState) → t.state ≡ s → (o : Option Channel) → channel_at n t ≡ o
        → Stays k fs (raw_by (heard_on s o) n kind bytes t)
    stays-raw-by kind bytes Connecting same o is = stays-misplaced (InvalidChannel n)
    stays-raw-by kind bytes Closing same None is = stays-misplaced (InvalidChannel n)
    -- the numbers are not known to be within the greatest one, but nothing is said
    stays-raw-by kind bytes Closing same (Some c) is =
        if_case (Stays k fs) (is_select_ok kind bytes) (confirmed n c t) t
        ((λ o. relisted k fs t (put n (record c { confirm = true }) t.channels) (λ hears. absurd (true≢false (sym hears ∙ ap hears_channels same))) (h.0 o)), h.1) h
    stays-raw-by kind bytes s same None is = stays-misplaced (InvalidChannel n)
    stays-raw-by kind bytes s same (Some c) is = stays-passed c is (ap hears_channels same) kind bytes

    -- and a frame that is passed through
    pub stays-raw : (kind : RawKind) (bytes : List ℕ) → Stays k fs (raw_frame n kind bytes t)
    stays-raw kind bytes = stays-raw-by kind bytes t.state refl (channel_at n t) refl

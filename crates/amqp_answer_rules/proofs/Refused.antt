-- Which number is drawn, and why a command is refused: exactly for the reasons that are listed, command by command.
use Rattle.std.proofs.Common.{◌≡◌, ◌≢◌, ◌≤◌, ◌<◌, ◌↔◌, ◌==◌, ◌||◌, ◌++◌, ◌-◌, ◌+◌, ℕ, nat_lt, zero, suc, if◌then◌else◌, not, Bool, true, false, List, [], ◌∷◌, length, Option, Some, None, Result, Ok, Err, refl, ap, sym, ◌∙◌, subst, arith}
use Rattle.std.proofs.lemmas.Bool.Decides.{nat_tests}
use Rattle.amqp_types.specs.declared.word.Word.{Word}
use Rattle.amqp_types.specs.declared.word.Word.TheVariants as word
use Rattle.amqp_frame.specs.declared.frame.Frame.{Frame}
use Rattle.amqp_frame.specs.Frames.{encoding}
use Rattle.amqp_frame.specs.RawMethods.{OtherMethod}
use Rattle.amqp_promise.specs.declared.state.ConnectionState.{ConnectionState}
use Rattle.amqp_promise.specs.declared.state.ConnectionState.TheVariants.{Connected, Closing}
use Rattle.amqp_promise.specs.declared.state.ChannelState.{ChannelState}
use Rattle.amqp_promise.specs.declared.state.ChannelState.TheVariants as channel
use Rattle.amqp_promise.specs.declared.error.ErrorKind.{ErrorKind}
use Rattle.amqp_promise.specs.declared.error.ErrorKind.TheVariants.{ChannelsLimitReached, InvalidChannel, InvalidChannelState, InvalidConnectionState, OutboxFull, SerialisationError}
use Rattle.amqp_channels.specs.declared.channels.Channel.{Channel}
use Rattle.amqp_commands.specs.declared.command.ChanRef.{ChanRef}
use Rattle.amqp_commands.specs.declared.command.Cmd.{Cmd}
use Rattle.amqp_commands.specs.declared.command.Cmd.TheVariants.{OpenChannel, CloseChannel, CloseConnection, UpdateSecret, Send, Publish, Flow, DropChannel, DropConnection, Listen}
use Rattle.amqp_maps.specs.Listed.{at, put}
use Rattle.amqp_rules.specs.Talk.{Talk}
use Rattle.amqp_channels.specs.Numbering.{drawn, first_number}
use Rattle.amqp_channels.specs.Channels.{AllListed}
use Rattle.amqp_answers.specs.Settled.{Promises}
use Rattle.amqp_rules.specs.Changes.{refuse}
use Rattle.amqp_settings.specs.Handshake.{new_secret}
use Rattle.amqp_commands.specs.Publishing.{method_frame, publish_frames}
use Rattle.amqp_rules.specs.Commands.{body_limit, close_channel, close_target, command, command_rule, flow_target, named, open_as, open_drawn, open_none, publish_target, queue_publish, queue_secret, queue_send, send_target, takes_promise, target, target_by, target_in, tell_flow, too_full, too_long, unless_full, unless_too_long}
use Rattle.amqp_rules.specs.Laws.{IsAnsweredAtOnce, IsOutboxFull}
use Rattle.amqp_maps.proofs.Numbered.{put-same}
use Rattle.amqp_rules.proofs.Refusals.{refused-out}
use Rattle.amqp_rules.proofs.FullOutbox.{full-only, full-there}
use Rattle.amqp_channels.proofs.Drawing.{all-listed, none-drawn}
use Rattle.amqp_types.proofs.Small.{if_by, some_is}
use Rattle.amqp_answer_rules.specs.Refusals.{channel_told, frames_told, IsTargetOpen, IsRefusedOpen, IsRefusedWith}

-- ---- the cycle begins with a number that may be drawn

pub first-within : (top cursor : ℕ) → 1 ≤ top → (1 ≤ first_number top cursor) × (first_number top cursor ≤ top)
first-within top cursor room =
    if_by (λ (n : ℕ). (1 ≤ n) × (n ≤ top)) (cursor == 0 || nat_lt top cursor) 1 cursor (λ h. (omega arith, room)) inside
  where
    inside : (cursor == 0 || nat_lt top cursor) ≡ false → (1 ≤ cursor) × (cursor ≤ top)
    inside h = by (cursor == 0) refl (nat_lt top cursor) refl h where
      by : (a : Bool) → (cursor == 0) ≡ a → (b : Bool) → nat_lt top cursor ≡ b → (a || b) ≡ false → (1 ≤ cursor) × (cursor ≤ top)
      by true k b l h = cc
      by false k true l h = cc
      by false k false l h = (grind (arith, nat_tests, k), grind (arith, nat_tests, l))

-- ---- one command

module _ (t : Talk) where
  -- the promise that a command takes is answered at once with an error exactly for this reason
  abbrev pub Exactly : Type 0 → ErrorKind → Talk → Type 0
  Exactly R e u = (IsAnsweredAtOnce e t u → R) × (R → IsAnsweredAtOnce e t u)

  answered : (e : ErrorKind) (u : Talk) (before : Promises) → u.promises ≡ put t.made (Some (Err e)) before → IsAnsweredAtOnce e t u
  answered e u before is = ap (at t.made) is ∙ put-same t.made (Some (Err e)) before

  told-error : (e k : ErrorKind) (u : Talk) (before : Promises) → u.promises ≡ put t.made (Some (Err k)) before → IsAnsweredAtOnce e t u → k ≡ e
  told-error e k u before is h = let there : at t.made u.promises ≡ Some (Some (Err k)) = answered k u before is in cc

  waits-on : (e : ErrorKind) (u : Talk) (before : Promises) → u.promises ≡ put t.made None before → IsAnsweredAtOnce e t u → ⊥
  waits-on e u before is h =
      let there : at t.made u.promises ≡ Some None = ap (at t.made) is ∙ put-same t.made None before in cc

  told-other : (s : ChannelState) (w : Word) (c : Channel) → s ≢ channel.Connected → target_in s w c ≡ Err (InvalidChannelState s w)
  told-other channel.Connected w c other = absurd (other refl)
  told-other _ w c other = refl

  told-open : (s : ChannelState) (w : Word) (c : Channel) → s ≡ channel.Connected → target_in s w c ≡ Ok c
  told-open channel.Connected w c is = refl
  told-open _ w c is = cc

  -- a command on a channel, by what it does where that is opened
  module _ (cmd : Cmd) (r : ChanRef) (w : Word) (told : channel_told cmd ≡ Some (r, w)) (other : cmd ≢ OpenChannel)
      (by_target : Result Channel ErrorKind → Talk) (rule : Channel → Talk → Talk) (before : Promises)
      (refuses : (e : ErrorKind) → by_target (Err e) ≡ refuse e t)
      (full : Option ℕ)
      (goes : (c : Channel) → by_target (Ok c) ≡ unless_too_long (too_long (frames_told cmd t) t) (unless_full full (rule c)) t)
      (fills : (octets : ℕ) → IsAnsweredAtOnce (OutboxFull octets) t (by_target (target r w t)) → IsOutboxFull octets cmd t)
      (filled : (octets : ℕ) → IsOutboxFull octets cmd t → IsAnsweredAtOnce (OutboxFull octets) t (by_target (target r w t)))
      (waits : (c : Channel) → (rule c t).promises ≡ put t.made None before) where
    refused-by : (e k : ErrorKind) (o : Result Channel ErrorKind) → o ≡ Err k → IsRefusedOpen k cmd t → IsAnsweredAtOnce e t (by_target o) → IsRefusedOpen e cmd t
    refused-by e k o is reason h =
        let same : by_target o ≡ refuse k t = ap by_target is ∙ refuses k in
        subst (λ (x : ErrorKind). IsRefusedOpen x cmd t) (told-error e k (by_target o) t.promises (ap (λ (x : Talk). x.promises) same) h) reason

    same-told : (r2 : ChanRef) (w2 : Word) → channel_told cmd ≡ Some (r2, w2) → (r2 ≡ r) × (w2 ≡ w)
    same-told r2 w2 k =
        let pair : (r2, w2) ≡ (r, w) = some_is (r2, w2) (r, w) (sym k ∙ told) in
        (ap (λ (p : ChanRef × Word). p.0) pair, ap (λ (p : ChanRef × Word). p.1) pair)

    target-open : (c : Channel) → named r t ≡ Some c → c.state ≡ channel.Connected → IsTargetOpen cmd t
    target-open c is opened r2 w2 k = (c, ap (λ (x : ChanRef). named x t) (same-told r2 w2 k).0 ∙ is, opened)

    room-there : (e : ErrorKind) (c : Channel) (more : Option ℕ) → full ≡ more → too_long (frames_told cmd t) t ≡ None → target r w t ≡ Ok c
        → IsAnsweredAtOnce e t (unless_full more (rule c) t) → IsRefusedOpen e cmd t
    room-there e c None room fits ok h = absurd (waits-on e (rule c t) before (waits c) h)
    room-there e c (Some octets) room fits ok h =
        let k : ErrorKind = OutboxFull octets in
        let same : by_target (target r w t) ≡ refuse k t =
        ap by_target ok ∙ goes c ∙ ap (λ (o : Option Frame). unless_too_long o (unless_full full (rule c)) t) fits
        ∙ ap (λ (o : Option ℕ). unless_full o (rule c) t) room in
        subst (λ (x : ErrorKind). IsRefusedOpen x cmd t) (told-error e k (refuse k t) t.promises refl h)
        (fills octets (answered k (by_target (target r w t)) t.promises (ap (λ (x : Talk). x.promises) same)))

    open-there : (e : ErrorKind) (c : Channel) (long : Option Frame) → too_long (frames_told cmd t) t ≡ long → named r t ≡ Some c → c.state ≡ channel.Connected
        → IsAnsweredAtOnce e t (unless_too_long long (unless_full full (rule c)) t) → IsRefusedOpen e cmd t
    open-there e c None none is opened h =
        let ok : target r w t ≡ Ok c = ap (λ (o : Option Channel). target_by o r.id w) is ∙ told-open c.state w c opened in
        room-there e c full refl none ok h
    open-there e c (Some f) long is opened h =
        let k : ErrorKind = SerialisationError (length (encoding f)) in
        subst (λ (x : ErrorKind). IsRefusedOpen x cmd t) (told-error e k (refuse k t) t.promises refl h) (target-open c is opened, (f, long, refl))

    state-there : (e : ErrorKind) (c : Channel) (s : ChannelState) → c.state ≡ s → named r t ≡ Some c → IsAnsweredAtOnce e t (by_target (target_in s w c)) → IsRefusedOpen e cmd t
    state-there e c channel.Connected state is h =
        open-there e c (too_long (frames_told cmd t) t) refl is state (subst (IsAnsweredAtOnce e t) (goes c) h)
    state-there e c s state is h =
        refused-by e (InvalidChannelState s w) (target_in s w c) refl (r, told, (c, is, state, λ k. cc)) h

    there : (e : ErrorKind) (o : Option Channel) → named r t ≡ o → IsAnsweredAtOnce e t (by_target (target_by o r.id w)) → IsRefusedOpen e cmd t
    there e None none h = refused-by e (InvalidChannel r.id) (target_by None r.id w) refl (r, w, told, none, refl) h
    there e (Some c) is h = state-there e c c.state refl is h

    refused-answers : (k : ErrorKind) (o : Result Channel ErrorKind) → o ≡ Err k → IsAnsweredAtOnce k t (by_target o)
    refused-answers k o is = answered k (by_target o) t.promises (ap (λ (x : Talk). x.promises) (ap by_target is ∙ refuses k))

    named-told : (r2 : ChanRef) (w2 : Word) (c : Channel) → channel_told cmd ≡ Some (r2, w2) → named r2 t ≡ Some c → target r w t ≡ target_in c.state w c
    named-told r2 w2 c k is =
        ap (λ (o : Option Channel). target_by o r.id w) (ap (λ (x : ChanRef). named x t) (sym (same-told r2 w2 k).0) ∙ is)

    back : (e : ErrorKind) → IsRefusedOpen e cmd t → IsAnsweredAtOnce e t (by_target (target r w t))
    back (InvalidChannel n) (r2, w2, k, none, is) =
        let here : r2 ≡ r = (same-told r2 w2 k).0 in
        let lacks : named r t ≡ None = ap (λ (x : ChanRef). named x t) (sym here) ∙ none in
        let number : n ≡ r.id = is ∙ ap (λ (x : ChanRef). x.id) here in
        refused-answers (InvalidChannel n) (target r w t) (ap (λ (o : Option Channel). target_by o r.id w) lacks ∙ ap (λ (m : ℕ). Err (InvalidChannel m)) (sym number))
    back (InvalidChannelState held w2) (r2, k, (c, is, state, shut)) =
        let word_told : w2 ≡ w = (same-told r2 w2 k).1 in
        refused-answers (InvalidChannelState held w2) (target r w t)
        (named-told r2 w2 c k is ∙ ap (λ (s : ChannelState). target_in s w c) state ∙ told-other held w c shut ∙ ap (λ (x : Word). Err (InvalidChannelState held x)) (sym word_told))
    back ChannelsLimitReached (is, all) = absurd (other is)
    back (SerialisationError size) (opened, (f, long, is)) =
        let found = opened r w told in
        let ok : target r w t ≡ Ok found.0 = named-told r w found.0 told found.1 ∙ told-open found.0.state w found.0 found.2 in
        let k : ErrorKind = SerialisationError (length (encoding f)) in
        let same : by_target (target r w t) ≡ refuse k t =
        ap by_target ok ∙ goes found.0 ∙ ap (λ (o : Option Frame). unless_too_long o (unless_full full (rule found.0)) t) long in
        subst (λ (x : ErrorKind). IsAnsweredAtOnce x t (by_target (target r w t))) (ap SerialisationError (sym is))
        (answered k (by_target (target r w t)) t.promises (ap (λ (x : Talk). x.promises) same))
    back (OutboxFull octets) h = filled octets h
    back _ h = absurd h

    on-channel : (e : ErrorKind) → Exactly (IsRefusedOpen e cmd t) e (by_target (target r w t))
    on-channel e = (there e (named r t) refl, back e)

  -- a command on no channel that opens none
  module _ (cmd : Cmd) (none : channel_told cmd ≡ None) (other : cmd ≢ OpenChannel) (rule : Talk → Talk) (before : Promises)
      (waits : (rule t).promises ≡ put t.made None before)
      (filled : (octets : ℕ) → IsOutboxFull octets cmd t → IsAnsweredAtOnce (OutboxFull octets) t (unless_too_long (too_long (frames_told cmd t) t) rule t)) where
    plain-there : (e : ErrorKind) (long : Option Frame) → too_long (frames_told cmd t) t ≡ long → IsAnsweredAtOnce e t (unless_too_long long rule t) → IsRefusedOpen e cmd t
    plain-there e None is h = absurd (waits-on e (rule t) before waits h)
    plain-there e (Some f) is h =
        let k : ErrorKind = SerialisationError (length (encoding f)) in
        subst (λ (x : ErrorKind). IsRefusedOpen x cmd t) (told-error e k (refuse k t) t.promises refl h) ((λ r w told. let clash : None ≡ Some (r, w) = sym none ∙ told in absurd cc), (f, is, refl))

    plain-back : (e : ErrorKind) → IsRefusedOpen e cmd t → IsAnsweredAtOnce e t (unless_too_long (too_long (frames_told cmd t) t) rule t)
    plain-back (InvalidChannel n) (r, w, k, lacks, is) = let clash : None ≡ Some (r, w) = sym none ∙ k in absurd cc
    plain-back (InvalidChannelState held w) (r, k, rest) = let clash : None ≡ Some (r, w) = sym none ∙ k in absurd cc
    plain-back ChannelsLimitReached (is, all) = absurd (other is)
    plain-back (SerialisationError size) (opened, (f, long, is)) =
        let k : ErrorKind = SerialisationError (length (encoding f)) in
        let same : unless_too_long (too_long (frames_told cmd t) t) rule t ≡ refuse k t = ap (λ (o : Option Frame). unless_too_long o rule t) long in
        subst (λ (x : ErrorKind). IsAnsweredAtOnce x t (unless_too_long (too_long (frames_told cmd t) t) rule t)) (ap SerialisationError (sym is))
        (answered k (unless_too_long (too_long (frames_told cmd t) t) rule t) t.promises (ap (λ (x : Talk). x.promises) same))
    plain-back (OutboxFull octets) h = filled octets h
    plain-back _ h = absurd h

    on-none : (e : ErrorKind) → Exactly (IsRefusedOpen e cmd t) e (unless_too_long (too_long (frames_told cmd t) t) rule t)
    on-none e = (plain-there e (too_long (frames_told cmd t) t) refl, plain-back e)

  -- the opening of a channel
  module _ (room : 1 ≤ t.configuration.channel_max) where
    abbrev top : ℕ
    top = t.configuration.channel_max

    abbrev first : ℕ
    first = first_number top t.cursor

    open-by : (e : ErrorKind) (o : Option ℕ) → drawn top first t.channels ≡ o → IsAnsweredAtOnce e t (open_drawn o first t) → IsRefusedOpen e OpenChannel t
    open-by e None none h =
        subst (λ (x : ErrorKind). IsRefusedOpen x OpenChannel t) (told-error e ChannelsLimitReached (open_none first t) t.promises refl h)
        (refl, all-listed t.channels top first none)
    open-by e (Some n) is h = absurd (waits-on e (open_as n t) t.promises refl h)

    open-back : (e : ErrorKind) → IsRefusedOpen e OpenChannel t → IsAnsweredAtOnce e t (open_drawn (drawn top first t.channels) first t)
    open-back ChannelsLimitReached (is, all) =
        let within = first-within top t.cursor room in
        let none : drawn top first t.channels ≡ None = none-drawn t.channels top first within.0 within.1 all in
        subst (λ (o : Option ℕ). IsAnsweredAtOnce ChannelsLimitReached t (open_drawn o first t)) (sym none)
        (answered ChannelsLimitReached (open_none first t) t.promises refl)
    open-back (InvalidChannel n) (r, w, k, lacks, is) = absurd cc
    open-back (InvalidChannelState held w) (r, k, rest) = absurd cc
    open-back (SerialisationError size) (opened, (f, long, is)) = absurd cc
    open-back (OutboxFull octets) h = absurd h.channel
    open-back _ h = absurd h

    opening : (e : ErrorKind) → Exactly (IsRefusedOpen e OpenChannel t) e (command_rule Connected OpenChannel t)
    opening e = (open-by e (drawn top first t.channels) refl, open-back e)

  -- ---- all commands

  module _ (connected : t.state ≡ Connected) where
    -- by the law on what makes too much wait
    fills-by : (cmd : Cmd) → takes_promise cmd ≡ true → (octets : ℕ) → IsAnsweredAtOnce (OutboxFull octets) t (command_rule Connected cmd t) → IsOutboxFull octets cmd t
    fills-by cmd takes octets h =
        full-only octets t cmd takes (subst (λ (s : ConnectionState). IsAnsweredAtOnce (OutboxFull octets) t (command_rule s cmd t)) (sym connected) h)

    filled-by : (cmd : Cmd) → takes_promise cmd ≡ true → (octets : ℕ) → IsOutboxFull octets cmd t → IsAnsweredAtOnce (OutboxFull octets) t (command_rule Connected cmd t)
    filled-by cmd takes octets h =
        subst (λ (s : ConnectionState). IsAnsweredAtOnce (OutboxFull octets) t (command_rule s cmd t)) connected (full-there octets t cmd h)

    while-open : (1 ≤ t.configuration.channel_max) → (e : ErrorKind) (cmd : Cmd) → takes_promise cmd ≡ true → Exactly (IsRefusedOpen e cmd t) e (command_rule Connected cmd t)
    while-open room e OpenChannel takes = opening room e
    while-open room e (CloseChannel r code text) takes =
        let cmd : Cmd = CloseChannel r code text in
        on-channel cmd r word.ChannelClose refl (λ k. cc) (λ o. close_target o r.id code text t) (λ c u. close_channel r.id code text c u) _ (λ k. refl) None (λ c. refl)
        (fills-by cmd takes) (filled-by cmd takes) (λ c. refl) e
    while-open room e (CloseConnection code text) takes =
        let cmd : Cmd = CloseConnection code text in
        on-none cmd refl (λ k. cc) (λ u. command_rule Connected cmd u) _ refl (filled-by cmd takes) e
    while-open room e (UpdateSecret secret reason) takes =
        let cmd : Cmd = UpdateSecret secret reason in
        on-none cmd refl (λ k. cc) (queue_secret (new_secret secret reason)) _ refl (filled-by cmd takes) e
    while-open room e (Send r m) takes =
        let cmd : Cmd = Send r m in
        on-channel cmd r word.Send refl (λ k. cc) (λ o. send_target o r.id m t) (λ c. queue_send r.id (method_frame r.id m)) _ (λ k. refl)
        (too_full (method_frame r.id m ∷ []) t) (λ c. refl) (fills-by cmd takes) (filled-by cmd takes) (λ c. refl) e
    while-open room e (Publish r m properties body) takes =
        let cmd : Cmd = Publish r m properties body in
        let fs : List Frame = publish_frames r.id m properties body (body_limit t) in
        on-channel cmd r word.Publish refl (λ k. cc) (λ o. publish_target o r.id m properties body t) (λ c. queue_publish r.id fs) _ (λ k. refl)
        (too_full fs t) (λ c. refl) (fills-by cmd takes) (filled-by cmd takes) (λ c. refl) e
    while-open room e (Flow r active) takes =
        let cmd : Cmd = Flow r active in
        on-channel cmd r word.ChannelFlow refl (λ k. cc) (λ o. flow_target o r.id active t) (λ c. tell_flow r.id active) _ (λ k. refl) None (λ c. refl)
        (fills-by cmd takes) (filled-by cmd takes) (λ c. refl) e
    while-open room e (DropChannel r) takes = cc
    while-open room e DropConnection takes = cc
    while-open room e Listen takes = cc

  with-open : (e : ErrorKind) (cmd : Cmd) → t.state ≡ Connected → IsRefusedOpen e cmd t → IsRefusedWith e cmd t
  with-open (InvalidConnectionState held) cmd opened h = absurd h
  with-open _ cmd opened h = (opened, h)

  of-open : (e : ErrorKind) (cmd : Cmd) → t.state ≡ Connected → IsRefusedWith e cmd t → IsRefusedOpen e cmd t
  of-open (InvalidConnectionState held) cmd opened h = absurd (h.0 opened)
  of-open _ cmd opened h = h.1

  with-shut : (e : ErrorKind) (cmd : Cmd) → t.state ≢ Connected → IsRefusedWith e cmd t → InvalidConnectionState t.state ≡ e
  with-shut (InvalidConnectionState held) cmd shut h = ap InvalidConnectionState (sym h.1)
  with-shut _ cmd shut h = absurd (shut h.0)

  -- a command is refused with an error exactly for its reason
  pub refused-exactly : (t.state ≡ Connected → 1 ≤ t.configuration.channel_max) → (e : ErrorKind) (cmd : Cmd) → takes_promise cmd ≡ true
      → IsAnsweredAtOnce e t (command cmd t) ↔ IsRefusedWith e cmd t
  refused-exactly room e cmd takes = by t.state refl where
    shut : t.state ≢ Connected → IsAnsweredAtOnce e t (command cmd t) ↔ IsRefusedWith e cmd t
    shut out =
        let k : ErrorKind = InvalidConnectionState t.state in
        let same : command cmd t ≡ refuse k t = refused-out cmd t out takes in
        let is : (command cmd t).promises ≡ put t.made (Some (Err k)) t.promises = ap (λ (x : Talk). x.promises) same in (
          λ h. subst (λ (x : ErrorKind). IsRefusedWith x cmd t) (told-error e k (command cmd t) t.promises is h) (out, refl),
          λ h. subst (λ (x : ErrorKind). IsAnsweredAtOnce x t (command cmd t)) (with-shut e cmd out h) (answered k (command cmd t) t.promises is),
        )

    by : (s : ConnectionState) → t.state ≡ s → IsAnsweredAtOnce e t (command cmd t) ↔ IsRefusedWith e cmd t
    by Connected opened =
        let both = while-open opened (room opened) e cmd takes in
        let same : command cmd t ≡ command_rule Connected cmd t = ap (λ (s : ConnectionState). command_rule s cmd t) opened in (
          λ h. with-open e cmd opened (both.0 (subst (IsAnsweredAtOnce e t) same h)),
          λ h. subst (IsAnsweredAtOnce e t) (sym same) (both.1 (of-open e cmd opened h)),
        )
    by s is = shut (λ opened. cc)

-- Commands and ticks keep the tie of a faultless server with the session: what is said then is awaited.
use Rattle.std.proofs.Common.{◌≡◌, ◌≢◌, ◌≤◌, ℕ, zero, suc, ◌+◌, ◌==◌, not, max, if◌then◌else◌, Bool, true, false, true≢false, List, [], ◌∷◌, ◌++◌, Option, Some, None, Result, Ok, Err, refl, ap, sym, ◌∙◌, subst, arith}
use Rattle.std.specs.Prelude.{filter, map, codes}
use Rattle.std.specs.List.{AllByRecursion}
use Rattle.amqp_frame.specs.declared.frame.Frame.{Frame}
use Rattle.amqp_frame.specs.declared.frame.Frame.TheVariants.{Raw, Heartbeat}
use Rattle.amqp_frame.specs.declared.frame.RawKind.{RawKind}
use Rattle.amqp_frame.specs.declared.frame.RawKind.TheVariants.{RawMethod, Body}
use Rattle.amqp_frame.specs.RawMethods.{OtherMethod}
use Rattle.amqp_types.specs.declared.word.Word.{Word}
use Rattle.amqp_types.specs.declared.word.Word.TheVariants as word
use Rattle.amqp_outbox.specs.declared.item.Item.{Item}
use Rattle.amqp_outbox.specs.declared.reply.Awaited.{Awaited}
use Rattle.amqp_outbox.specs.declared.reply.Reply.TheVariants.{ChannelOpened, ChannelClosed, FlowDone, SecretDone}
use Rattle.amqp_outbox.specs.Items.{plain_item, promised_item, group_of}
use Rattle.amqp_outbox.specs.Replies.{awaited_on, expected}
use Rattle.amqp_outbox.specs.Queued.{Queued, is_on}
use Rattle.amqp_channels.specs.declared.channels.Channel.{Channel}
use Rattle.amqp_settings.specs.declared.configuration.Configuration.{Configuration}
use Rattle.amqp_outgoing.specs.declared.committed.Mark.{Mark}
use Rattle.amqp_commands.specs.declared.command.Cmd.{Cmd}
use Rattle.amqp_commands.specs.declared.command.Cmd.TheVariants.{OpenChannel, CloseChannel, CloseConnection, UpdateSecret as UpdateSecretCmd, Send, Publish, Flow, DropChannel, DropConnection, Listen}
use Rattle.amqp_commands.specs.declared.command.ChanRef.{ChanRef}
use Rattle.amqp_answers.specs.declared.answer.Answer.TheVariants.{Connected as AnswerConnected}
use Rattle.amqp_auth.specs.declared.asked.Asked.{Asked as ProviderAnswer}
use Rattle.amqp_rules.specs.declared.state.Link.{Link}
use Rattle.amqp_rules.specs.declared.state.Link.TheVariants.{Due, Wanted, Asked, Open, Ended}
use Rattle.amqp_rules.specs.declared.state.Phase.{Phase}
use Rattle.amqp_promise.specs.declared.state.ChannelState.TheVariants as channel
use Rattle.amqp_promise.specs.declared.state.ConnectionState.{ConnectionState}
use Rattle.amqp_promise.specs.declared.state.ConnectionState.TheVariants.{Initial, Connecting, Connected, Closing, Closed, Reconnecting, Error}
use Rattle.amqp_promise.specs.declared.error.ErrorKind.{ErrorKind}
use Rattle.amqp_promise.specs.declared.error.ErrorKind.TheVariants.{MissingHeartbeatError}
use Rattle.amqp_maps.specs.Listed.{at, put}
use Rattle.amqp_rules.specs.Talk.{Talk, is_open, is_open_link, is_acting, has_ended}
use Rattle.amqp_rules.specs.Links.{piece}
use Rattle.amqp_rules.specs.Channels.{channel_at}
use Rattle.amqp_channels.specs.Channels.{new_channel, made_leaving}
use Rattle.amqp_rules.specs.Changes.{next_promise, lose, queue, present_at}
use Rattle.amqp_settings.specs.Handshake.{new_secret, channel_open, channel_flow, our_channel_close, refresh_reason}
use Rattle.amqp_channels.specs.Numbering.{first_number, drawn}
use Rattle.amqp_commands.specs.Publishing.{method_frame, body_pieces, publish_frames}
use Rattle.amqp_rules.specs.Commands.{named, named_in, is_opening, target, target_by, open_drawn, close_target, drop_target, flow_target, too_long, unless_too_long, too_full, unless_full, queue_secret, update_secret, queue_send, send_target, queue_publish, publish_target, body_limit, command, command_rule}
use Rattle.amqp_rules.specs.Ticks.{is_connected, is_missed, is_heartbeat_due, missing_heartbeat, heartbeat_due, beat, refreshed, link_at, timed, tick}
use Rattle.amqp_outgoing.specs.Marks.{then_of}
use Rattle.amqp_faultless.specs.Faultless.{Server}
use Rattle.amqp_types.proofs.Small.{if_case, if_by, if-false, same-number, other-number}
use Rattle.amqp_rules.proofs.Heard.{secret-case}
use Rattle.amqp_rules.proofs.Keeping.{beats-connected, asks-connected, stays-command}
use Rattle.amqp_maps.proofs.Numbered.{put-same, put-other}
use Rattle.amqp_channels.proofs.Drawn.{drawn-free}
use Rattle.amqp_legal_rules.proofs.Ties.{pays, unpaid, owing}
use Rattle.amqp_legal_rules.proofs.Paying.{pays-none}
use Rattle.amqp_faultless.proofs.Ordinary.{NoneCloses, AreOthers, First, Ordinary, leaves, refused-command, told-command, left-command}
use Rattle.amqp_faultless.proofs.Uses.{waiting_for, expected-other, expected-count, expected-more, Act, Opens, Flows, Closes, Idle, act_on, acts, is_free, Along, along-map, along-push, along-open, stands-more}
use Rattle.amqp_faultless.proofs.Served.{Serves, IsServing, Channels, is_raw, AreRaw, secret_by, IsPlain, by-number, along-cast, idle-push, serves-push, serves-plain, put-owing, put-free}
use Rattle.amqp_faultless.proofs.Greeted.{Meets, slot_in, IsMet, IsLimited, limit-grow, limit-in, meets-in, first-in}
use Rattle.amqp_rules.proofs.SoundCommands.{target-in}
use Rattle.amqp_channels.proofs.Walking.{all-append, all-filtered}

-- ---- one frame more, and one reply more is awaited

own-act : (n : ℕ) (a : Act) → (if n == n then a else Idle) ≡ a
own-act n a = ap (λ b. if b then a else Idle) (same-number n)

other-act : (m n : ℕ) (a : Act) → m ≢ n → (if m == n then a else Idle) ≡ Idle
other-act m n a ne = ap (λ b. if b then a else Idle) (other-number m n ne)

-- a frame on a channel, whose reply is awaited there
module _ (s : Server) (q : Queued) (cs : Channels) (ms : List Mark) (h : Serves s q cs ms) (n : ℕ) (a : Awaited) where
  abbrev ws : List (ℕ × List Awaited)
  ws = expected n a q.awaited

  other-along : (m : ℕ) (act : Act) (cs' : Channels) → m ≢ n → act ≡ Idle → at m cs' ≡ at m cs → Along (acts m q.control ++ act ∷ []) (s.uses m) (at m cs') (awaited_on m ws)
  other-along m act cs' ne idle same =
      idle-push act (acts m q.control) (s.uses m) (at m cs') (awaited_on m ws) idle
      (along-cast (acts m q.control) (s.uses m) (at m cs) (at m cs') (awaited_on m q.awaited) (awaited_on m ws) same (expected-other m n a q.awaited ne) (h.each m))

  no-secret : (f : Frame) → secret_by f ≡ 0 → secret_by f + waiting_for SecretDone (awaited_on 0 q.awaited) ≤ waiting_for SecretDone (awaited_on 0 ws)
  no-secret f none = let b = expected-more 0 n a q.awaited SecretDone in omega (arith, none, b)

  act-cast : (m : ℕ) (act act' : Act) (cs' : Channels) → act ≡ act' → Along (acts m q.control ++ act' ∷ []) (s.uses m) (at m cs') (awaited_on m ws)
      → Along (acts m q.control ++ act ∷ []) (s.uses m) (at m cs') (awaited_on m ws)
  act-cast m act act' cs' is k = let P : Act → Type 0 = λ x. Along (acts m q.control ++ x ∷ []) (s.uses m) (at m cs') (awaited_on m ws) in subst P (sym is) k

secret-open : (k : ℕ) → secret_by (channel_open k) ≡ 0
secret-open zero = refl
secret-open (suc k) = refl

secret-flow : (k : ℕ) (active : Bool) → secret_by (channel_flow k active) ≡ 0
secret-flow zero active = refl
secret-flow (suc k) active = refl

secret-close : (k code : ℕ) (text : List ℕ) → secret_by (our_channel_close k code text) ≡ 0
secret-close zero code text = refl
secret-close (suc k) code text = refl

-- a channel is opened that is not listed
serves-open : (s : Server) (q : Queued) (cs : Channels) (ms : List Mark) (n number : ℕ) → at n cs ≡ None → Serves s q cs ms
    → Serves s (record q { control = q.control ++ plain_item n (channel_open n) ∷ []; awaited = expected n (record { reply = ChannelOpened; promise = Some number }) q.awaited })
    (put n (new_channel number) cs) ms
serves-open s q cs ms n number free h =
    let a : Awaited = record { reply = ChannelOpened; promise = Some number } in
    let c : Channel = new_channel number in
    let i : Item = plain_item n (channel_open n) in
    let ws = expected n a q.awaited in
    let waits : 1 ≤ waiting_for ChannelOpened (awaited_on n ws) = (let e = expected-count n a q.awaited ChannelOpened in omega (arith, e)) in
    let own : Along (acts n q.control) (s.uses n) None (awaited_on n q.awaited) =
    along-cast (acts n q.control) (s.uses n) (at n cs) None (awaited_on n q.awaited) (awaited_on n q.awaited) (sym free) refl (h.each n) in
    serves-push s q cs (put n c cs) ms i ws h refl (no-secret s q cs ms h n a (channel_open n) (secret-open n))
    (by-number (λ m. Along (acts m q.control ++ act_on m i.frame ∷ []) (s.uses m) (at m (put n c cs)) (awaited_on m ws)) n
    (act-cast s q cs ms h n a n (act_on n i.frame) Opens (put n c cs) (own-act n Opens)
    (along-open (at n (put n c cs)) (awaited_on n q.awaited) (awaited_on n ws) (ap is_free (put-same n c cs)) waits (acts n q.control) (s.uses n) own))
    (λ m ne. other-along s q cs ms h n a m (act_on m i.frame) (put n c cs) ne (other-act m n Opens ne) (put-other m n c cs ne)))
    (by-number (λ m. unpaid ms q.control m + pays m (then_of i) ≤ owing (at m (put n c cs))) n
    (let x = h.due n in let y = pays-none i n tt in let z : owing (at n cs) ≡ 0 = ap owing free in omega (arith, x, y, z))
    (λ m ne. (let x = h.due m in let y = pays-none i m tt in let z = ap owing (put-other m n c cs ne) in omega (arith, x, y, z))))

-- the server is told to start or to stop
serves-flow : (s : Server) (q : Queued) (cs : Channels) (ms : List Mark) (n : ℕ) (active : Bool) (promise : Option ℕ) → Serves s q cs ms
    → Serves s (record q { control = q.control ++ plain_item n (channel_flow n active) ∷ []; awaited = expected n (record { reply = FlowDone; promise = promise }) q.awaited }) cs ms
serves-flow s q cs ms n active promise h =
    let a : Awaited = record { reply = FlowDone; promise = promise } in
    let i : Item = plain_item n (channel_flow n active) in
    let ws = expected n a q.awaited in
    let one = expected-count n a q.awaited FlowDone in
    let more = expected-more n n a q.awaited in
    serves-push s q cs cs ms i ws h refl (no-secret s q cs ms h n a (channel_flow n active) (secret-flow n active))
    (by-number (λ m. Along (acts m q.control ++ act_on m i.frame ∷ []) (s.uses m) (at m cs) (awaited_on m ws)) n
    (act-cast s q cs ms h n a n (act_on n i.frame) Flows cs (own-act n Flows)
    (along-push (at n cs) (at n cs) (awaited_on n q.awaited) (awaited_on n ws) Flows refl
    (stands-more (at n cs) (at n cs) (awaited_on n q.awaited) (awaited_on n ws) (λ x. x) more)
    (λ v k l. (let y = k l in record {
      listed = y.listed;
      asked = λ x. (let z = y.asked x in let w = more ChannelOpened in omega (arith, z, w));
      flows = (let z = y.flows in omega (arith, z, one));
      closing = λ x. (let z = y.closing x in let w = more ChannelClosed in omega (arith, z, w));
      single = y.single;
    }))
    (acts n q.control) (s.uses n) (h.each n)))
    (λ m ne. other-along s q cs ms h n a m (act_on m i.frame) cs ne (other-act m n Flows ne) refl))
    (λ m. (let x = h.due m in let y = pays-none i m tt in omega (arith, x, y)))

-- we close a channel, and its groups that have not begun go
serves-leave : (s : Server) (q : Queued) (cs : Channels) (ms : List Mark) (n code : ℕ) (text : List ℕ) (c : Channel) (promise : Option ℕ) → at n cs ≡ Some c → Serves s q cs ms
    → Serves s
    (record q {
      control = q.control ++ plain_item n (our_channel_close n code text) ∷ [];
      awaited = expected n (record { reply = ChannelClosed; promise = promise }) q.awaited;
      publish = filter (λ group. not (is_on n group)) q.publish;
    }) (put n (made_leaving c) cs) ms
serves-leave s q cs ms n code text c promise listed h =
    let a : Awaited = record { reply = ChannelClosed; promise = promise } in
    let i : Item = plain_item n (our_channel_close n code text) in
    let cs' : Channels = put n (made_leaving c) cs in
    let ws = expected n a q.awaited in
    let one = expected-count n a q.awaited ChannelClosed in
    let more = expected-more n n a q.awaited in
    let free = put-free n c (made_leaving c) cs listed refl in
    let g = serves-push s q cs cs' ms i ws h refl (no-secret s q cs ms h n a (our_channel_close n code text) (secret-close n code text))
    (by-number (λ m. Along (acts m q.control ++ act_on m i.frame ∷ []) (s.uses m) (at m cs') (awaited_on m ws)) n
    (act-cast s q cs ms h n a n (act_on n i.frame) Closes cs' (own-act n Closes)
    (along-push (at n cs) (at n cs') (awaited_on n q.awaited) (awaited_on n ws) Closes refl
    (stands-more (at n cs) (at n cs') (awaited_on n q.awaited) (awaited_on n ws) free more)
    (λ v k l. (let y = k l in record {
      listed = free y.listed;
      asked = λ x. (let z = y.asked x in let w = more ChannelOpened in omega (arith, z, w));
      flows = (let z = y.flows in let w = more FlowDone in omega (arith, z, w));
      closing = λ x. omega (arith, one);
      single = y.single;
    }))
    (acts n q.control) (s.uses n) (h.each n)))
    (λ m ne. other-along s q cs ms h n a m (act_on m i.frame) cs' ne (other-act m n Closes ne) (put-other m n (made_leaving c) cs ne)))
    (λ m. (let x = h.due m in let y = pays-none i m tt in let z = put-owing n c (made_leaving c) cs listed refl m in omega (arith, x, y, z))) in
    record {
      stage = g.stage;
      staying = g.staying;
      ours = record { begun = g.ours.begun; control = g.ours.control; publish = all-filtered AreOthers (λ group. not (is_on n group)) q.publish h.ours.publish };
      secrets = g.secrets;
      each = g.each;
      due = g.due;
      begun = g.begun;
      groups = all-filtered AreRaw (λ group. not (is_on n group)) q.publish h.groups;
    }

-- a new secret is told
serves-new-secret : (s : Server) (q : Queued) (cs : Channels) (ms : List Mark) (secret reason : List ℕ) (promise : Option ℕ) → Serves s q cs ms
    → Serves s (record q { control = q.control ++ plain_item 0 (new_secret secret reason) ∷ []; awaited = expected 0 (record { reply = SecretDone; promise = promise }) q.awaited }) cs ms
serves-new-secret s q cs ms secret reason promise h =
    let a : Awaited = record { reply = SecretDone; promise = promise } in
    let i : Item = plain_item 0 (new_secret secret reason) in
    let ws = expected 0 a q.awaited in
    serves-push s q cs cs ms i ws h refl (let e = expected-count 0 a q.awaited SecretDone in omega (arith, e))
    (λ m.
    idle-push (act_on m i.frame) (acts m q.control) (s.uses m) (at m cs) (awaited_on m ws) refl
    (along-map (at m cs) (at m cs) (awaited_on m q.awaited) (awaited_on m ws)
    (stands-more (at m cs) (at m cs) (awaited_on m q.awaited) (awaited_on m ws) (λ x. x) (expected-more m 0 a q.awaited)) (acts m q.control) (s.uses m) (h.each m)))
    (λ m. (let x = h.due m in let y = pays-none i m tt in omega (arith, x, y)))

-- ---- what is sent and published

raw-plain : (n : ℕ) (kind : RawKind) (bytes : List ℕ) (channel : ℕ) (promise : ℕ) → IsPlain (promised_item channel (Raw n kind bytes) promise)
raw-plain n kind bytes channel promise =
    record { idle = λ m. refl; other = refl; secret = refl; unpaying = λ m. pays-none (promised_item channel (Raw n kind bytes) promise) m tt }

grouped-raw : (n : ℕ) (fs : List Frame) (promise : ℕ) → AllByRecursion (λ (f : Frame). is_raw f ≡ true) fs → AreRaw (group_of n fs promise)
grouped-raw n [] promise h = tt
grouped-raw n (f ∷ []) promise h = (h.0, tt)
grouped-raw n (f ∷ g ∷ fs) promise h = (h.0, grouped-raw n (g ∷ fs) promise h.1)

bodies-raw : (n : ℕ) (pieces : List (List ℕ)) → AllByRecursion (λ (f : Frame). is_raw f ≡ true) (map (Raw n Body) pieces)
bodies-raw n [] = tt
bodies-raw n (p ∷ ps) = (refl, bodies-raw n ps)

published-raw : (n : ℕ) (m : OtherMethod) (properties body : List ℕ) (size : ℕ) → AllByRecursion (λ (f : Frame). is_raw f ≡ true) (publish_frames n m properties body size)
published-raw n m properties body size = (refl, (refl, bodies-raw n (body_pieces size body)))

-- ---- commands

-- the channel that something is told of is listed
named-listed : (o : Option ℕ) (x : Option Channel) (c : Channel) → named_in o x ≡ Some c → x ≡ Some c
named-listed o None c h = absurd cc
named-listed o (Some x) c h = by (is_opening o x.opened) h where
  by : (b : Bool) → (if b then Some x else None) ≡ Some c → Some x ≡ Some c
  by true h = h
  by false h = absurd cc

target-listed : (r : ChanRef) (w : Word) (t : Talk) (x : Option Channel) (c : Channel) → named r t ≡ x → target_by x r.id w ≡ Ok c → channel_at r.id t ≡ Some c
target-listed r w t None c is h = absurd cc
target-listed r w t (Some x) c is h =
    named-listed r.opened (channel_at r.id t) x is ∙ ap (λ y. Some y) (target-in x.state w x c h)

module _ (s : Server) (t : Talk) (h : IsServing s t) where
  drawn-serving : (o : Option ℕ) (first : ℕ) → drawn t.configuration.channel_max first t.channels ≡ o → first ≡ first_number t.configuration.channel_max t.cursor
      → IsServing s (open_drawn o first t)
  drawn-serving None first is same = h
  drawn-serving (Some n) first is same =
      serves-open s t.outbox t.channels t.committed n (next_promise t)
      (drawn-free t.configuration.channel_max t.cursor n t.channels (ap (λ k. drawn t.configuration.channel_max k t.channels) (sym same) ∙ is)).2 h

  close-serving : (o : Result Channel ErrorKind) (r : ChanRef) (code : ℕ) (text : List ℕ) → target r word.ChannelClose t ≡ o → IsServing s (close_target o r.id code text t)
  close-serving (Err e) r code text is = h
  close-serving (Ok c) r code text is =
      serves-leave s t.outbox t.channels t.committed r.id code text c (Some (next_promise t)) (target-listed r word.ChannelClose t (named r t) c refl is) h

  drop-serving : (o : Result Channel ErrorKind) (r : ChanRef) → target r word.ChannelClose t ≡ o → IsServing s (drop_target o r.id t)
  drop-serving (Err e) r is = h
  drop-serving (Ok c) r is =
      serves-leave s t.outbox t.channels t.committed r.id 200 (codes "OK") c None (target-listed r word.ChannelClose t (named r t) c refl is) h

  flow-serving : (o : Result Channel ErrorKind) (n : ℕ) (active : Bool) → IsServing s (flow_target o n active t)
  flow-serving (Err e) n active = h
  flow-serving (Ok c) n active = serves-flow s t.outbox t.channels t.committed n active (Some (next_promise t)) h

  unless-serving : (o : Option Frame) (rule : Talk → Talk) → IsServing s (rule t) → IsServing s (unless_too_long o rule t)
  unless-serving None rule k = k
  unless-serving (Some f) rule k = h

  room-serving : (o : Option ℕ) (rule : Talk → Talk) → IsServing s (rule t) → IsServing s (unless_full o rule t)
  room-serving None rule k = k
  room-serving (Some octets) rule k = h

  secret-serving : (secret reason : List ℕ) → IsServing s (update_secret secret reason t)
  secret-serving secret reason =
      unless-serving (too_long (new_secret secret reason ∷ []) t) (queue_secret (new_secret secret reason))
      (serves-new-secret s t.outbox t.channels t.committed secret reason (Some (next_promise t)) h)

  send-serving : (o : Result Channel ErrorKind) (n : ℕ) (m : OtherMethod) → IsServing s (send_target o n m t)
  send-serving (Err e) n m = h
  send-serving (Ok c) n m =
      unless-serving (too_long (method_frame n m ∷ []) t) (unless_full (too_full (method_frame n m ∷ []) t) (queue_send n (method_frame n m)))
      (room-serving (too_full (method_frame n m ∷ []) t) (queue_send n (method_frame n m)) (serves-plain s t.outbox t.channels t.committed (promised_item n (method_frame n m) (next_promise t)) (raw-plain n RawMethod _ n (next_promise t)) h))

  publish-serving : (o : Result Channel ErrorKind) (n : ℕ) (m : OtherMethod) (properties body : List ℕ) → NoneCloses (publish_target o n m properties body t).outbox
      → IsServing s (publish_target o n m properties body t)
  publish-serving (Err e) n m properties body ours = h
  publish-serving (Ok c) n m properties body ours =
      by (too_long (publish_frames n m properties body (body_limit t)) t) (too_full (publish_frames n m properties body (body_limit t)) t) ours
    where
      by : (o : Option Frame) (full : Option ℕ) → NoneCloses (unless_too_long o (unless_full full (queue_publish n (publish_frames n m properties body (body_limit t)))) t).outbox
          → IsServing s (unless_too_long o (unless_full full (queue_publish n (publish_frames n m properties body (body_limit t)))) t)
      by (Some f) full ours = h
      by None (Some octets) ours = h
      by None None ours =
          record {
            stage = h.stage;
            staying = h.staying;
            ours = ours;
            secrets = h.secrets;
            each = h.each;
            due = h.due;
            begun = h.begun;
            groups = all-append AreRaw t.outbox.publish (group_of n (publish_frames n m properties body (body_limit t)) (next_promise t) ∷ []) h.groups
                (grouped-raw n (publish_frames n m properties body (body_limit t)) (next_promise t) (published-raw n m properties body (body_limit t)), tt);
          }

  -- any other command than one that closes the connection
  told-serving : (c : Cmd) → leaves c ≡ false → IsServing s (command_rule Connected c t)
  told-serving OpenChannel k =
      let first = first_number t.configuration.channel_max t.cursor in drawn-serving (drawn t.configuration.channel_max first t.channels) first refl refl
  told-serving (CloseChannel r code text) k = close-serving (target r word.ChannelClose t) r code text refl
  told-serving (CloseConnection code text) k = absurd (true≢false k)
  told-serving (UpdateSecretCmd secret reason) k = secret-serving secret reason
  told-serving (Send r method) k = send-serving (target r word.Send t) r.id method
  told-serving (Publish r method properties body) k =
      publish-serving (target r word.Publish t) r.id method properties body
      ((told-command (Ok AnswerConnected) (Publish r method properties body) t refl).says h.ours)
  told-serving (Flow r active) k = flow-serving (target r word.ChannelFlow t) r.id active
  told-serving (DropChannel r) k = drop-serving (target r word.ChannelClose t) r refl
  told-serving DropConnection k = absurd (true≢false k)
  told-serving Listen k = h

-- ---- each command

-- where no connection is open, nothing is told
refused-parts : (st : ConnectionState) (c : Cmd) (t : Talk) (M : Phase → Queued → Channels → List Mark → Type 0) → is_connected st ≡ false
    → M t.phase t.outbox t.channels t.committed
    → M (command_rule st c t).phase (command_rule st c t).outbox (command_rule st c t).channels (command_rule st c t).committed
refused-parts Connected c t M h k = absurd (true≢false h)
refused-parts st (DropChannel r) t M h k = k
refused-parts st DropConnection t M h k = k
refused-parts st Listen t M h k = k
refused-parts st c t M h k = k

-- a rule that leaves the link, and is ordinary
met-by : (s : Server) (t u : Talk) → IsMet s t → is_open u ≡ true → Ordinary (slot_in t.state) t u → IsLimited t.state u.phase t.capacity t.configuration.frame_max
    → Meets t.state u.phase s u.outbox u.channels u.committed → IsMet s u
met-by s t u m opened o lim meets =
    let P : ConnectionState → Type 0 = λ x. Meets x u.phase s u.outbox u.channels u.committed in
    let Q : ConnectionState → Type 0 = λ x. First (slot_in x) u in
    record {
      opened = opened;
      acting = ap is_acting o.input ∙ m.acting;
      blocked = o.blocked ∙ m.blocked;
      first = subst Q (sym o.state) (o.first m.first);
      limit =
          (let L : ConnectionState → Type 0 = λ x. IsLimited x u.phase u.capacity u.configuration.frame_max in
          subst L (sym o.state)
          (limit-grow t.state u.phase t.capacity u.capacity t.configuration.frame_max u.configuration.frame_max o.room (ap (λ (x : Configuration). x.frame_max) o.agreed) lim));
      meets = subst P (sym o.state) meets;
    }

pub met-command : (c : Cmd) (s : Server) (t : Talk) → IsMet s t → IsMet s (command c t)
met-command c s t m = by t.state refl where
  opened : is_open (command c t) ≡ true
  opened = ap is_open_link (stays-command c t).link ∙ m.opened

  connected : (b : Bool) → leaves c ≡ b → t.state ≡ Connected → IsMet s (command c t)
  connected false k is =
      let R : ConnectionState → Type 0 = λ x. Ordinary (slot_in x) t (command_rule x c t) in
      let P : ConnectionState → Type 0 = λ x. Meets x (command_rule x c t).phase s (command_rule x c t).outbox (command_rule x c t).channels (command_rule x c t).committed in
      met-by s t (command c t) m opened (subst R (sym is) (told-command (Ok AnswerConnected) c t k))
      (let L : ConnectionState → Type 0 = λ x. IsLimited x (command_rule x c t).phase t.capacity t.configuration.frame_max in subst L (sym is) (limit-in s t m Connected is)) (subst P (sym is) (told-serving s t (meets-in s t m Connected is) c k))
  connected true k is =
      let l = left-command (Ok AnswerConnected) c t k in
      let u : Talk = command_rule Connected c t in
      let serving : IsServing s t = meets-in s t m Connected is in
      let P : ConnectionState → Type 0 = λ x. Meets x u.phase s u.outbox u.channels u.committed in
      let Q : ConnectionState → Type 0 = λ x. First (slot_in x) u in
      let R : ConnectionState → Type 0 = λ x. IsMet s (command_rule x c t) in
      let S : ConnectionState → Type 0 = λ x. is_open (command_rule x c t) ≡ true in
      subst R (sym is)
      (record {
        opened = subst S is opened;
        acting = ap is_acting l.input ∙ m.acting;
        blocked = l.blocked ∙ m.blocked;
        first = subst Q (sym l.state) (l.first (first-in s t m Connected is));
        limit =
            (let L : ConnectionState → Type 0 = λ x. IsLimited x u.phase u.capacity u.configuration.frame_max in
            subst L (sym l.state)
            (limit-grow Closing u.phase t.capacity u.capacity t.configuration.frame_max u.configuration.frame_max l.room (ap (λ (x : Configuration). x.frame_max) l.agreed)
            (limit-in s t m Connected is)));
        meets = subst P (sym l.state) serving.stage;
      })

  refused : is_connected t.state ≡ false → IsMet s (command c t)
  refused k =
      met-by s t (command c t) m opened (refused-command (slot_in t.state) t.state c t k)
      (refused-parts t.state c t (λ p q cs ms. IsLimited t.state p t.capacity t.configuration.frame_max) k m.limit)
      (refused-parts t.state c t (λ p q cs ms. Meets t.state p s q cs ms) k m.meets)

  by : (st : ConnectionState) → t.state ≡ st → IsMet s (command c t)
  by Connected is = connected (leaves c) refl is
  by Initial is = refused (ap is_connected is)
  by Connecting is = refused (ap is_connected is)
  by Closing is = refused (ap is_connected is)
  by Closed is = refused (ap is_connected is)
  by Reconnecting is = refused (ap is_connected is)
  by Error is = refused (ap is_connected is)

-- ---- time

-- a moment
pub met-present : (at : ℕ) (s : Server) (t : Talk) → IsMet s t → IsMet s (present_at at t)
met-present at s t m =
    if_case (IsMet s) (has_ended t) t (record t { present = max t.present at }) m
    (record { opened = m.opened; acting = m.acting; blocked = m.blocked; first = m.first; limit = m.limit; meets = m.meets })

-- a piece
pub met-piece : (s : Server) (t : Talk) → IsMet s t → IsMet s (piece t)
met-piece s t m =
    if_case (IsMet s) (is_open t) (record t { last_read = t.present }) t
    (record { opened = m.opened; acting = m.acting; blocked = m.blocked; first = m.first; limit = m.limit; meets = m.meets }) m

heartbeat-plain : IsPlain (plain_item 0 Heartbeat)
heartbeat-plain = record { idle = λ m. refl; other = refl; secret = refl; unpaying = λ m. pays-none (plain_item 0 Heartbeat) m tt }

met-heartbeat : (s : Server) (t : Talk) → IsMet s t → IsMet s (heartbeat_due t)
met-heartbeat s t m =
    if_by (IsMet s) (is_heartbeat_due t) (record (queue 0 Heartbeat t) { last_write = t.present }) t
    (λ due.
    (let is = beats-connected t due in
    let q : Queued = record t.outbox { control = t.outbox.control ++ plain_item 0 Heartbeat ∷ [] } in
    let P : ConnectionState → Type 0 = λ x. Meets x t.phase s q t.channels t.committed in
    record {
      opened = m.opened;
      acting = m.acting;
      blocked = m.blocked;
      first = m.first;
      limit = m.limit;
      meets = subst P (sym is) (serves-plain s t.outbox t.channels t.committed (plain_item 0 Heartbeat) heartbeat-plain (meets-in s t m Connected is));
    }))
    (λ idle. m)

met-refreshed : (said : Result (List ℕ) (List ℕ)) (s : Server) (t : Talk) → IsMet s t → t.state ≡ Connected → IsMet s (refreshed said t)
met-refreshed (Ok secret) s t m is =
    let u : Talk = refreshed (Ok secret) t in
    let P : ConnectionState → Type 0 = λ x. Meets x t.phase s u.outbox t.channels t.committed in
    record {
      opened = m.opened;
      acting = m.acting;
      blocked = m.blocked;
      first = m.first;
      limit = m.limit;
      meets = subst P (sym is) (serves-new-secret s t.outbox t.channels t.committed secret refresh_reason None (meets-in s t m Connected is));
    }
met-refreshed (Err text) s t m is = record { opened = m.opened; acting = m.acting; blocked = m.blocked; first = m.first; limit = m.limit; meets = m.meets }

due-open : (now : ℕ) (l : Link ErrorKind) → is_open_link l ≡ true → is_open_link (link_at now l) ≡ true
due-open now Open h = refl
due-open now Wanted h = absurd (true≢false (sym h))
due-open now Asked h = absurd (true≢false (sym h))
due-open now (Due moment) h = absurd (true≢false (sym h))
due-open now (Ended r) h = absurd (true≢false (sym h))

-- a tick, where no heartbeat is missed
pub met-tick : (answers : List ProviderAnswer) (s : Server) (t : Talk) → is_missed t ≡ false → IsMet s t → IsMet s (tick answers t)
met-tick answers s t timely m =
    let P : Talk → Type 0 = IsMet s in
    let x : Talk = missing_heartbeat t in
    let a : IsMet s x = subst P (sym (if-false (is_missed t) (lose MissingHeartbeatError t) t timely)) m in
    let b : IsMet s (beat t) = met-heartbeat s x a in
    let d : IsMet s (timed answers t) = secret-case (IsMet s) answers (beat t) b (λ asks said. met-refreshed said s (beat t) b (asks-connected (beat t) asks)) in
    record {
      opened = due-open (timed answers t).present (timed answers t).link d.opened;
      acting = d.acting;
      blocked = d.blocked;
      first = d.first;
      limit = d.limit;
      meets = d.meets;
    }

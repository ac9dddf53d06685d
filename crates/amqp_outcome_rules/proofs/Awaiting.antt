-- That no promise waits for nothing while frames act.
use Rattle.std.proofs.Common.{◌≡◌, ◌≢◌, ◌⊎◌, inl, inr, ◌-◌, ◌==◌, ◌&&◌, not, ℕ, nat_le, Bool, true, false, true≢false, if◌then◌else◌, List, [], ◌∷◌, ◌++◌, map, Option, Some, None, is_some, Result, Ok, Err, refl, ap, sym, ◌∙◌, subst}
use Rattle.std.specs.Prelude.{codes, drop}
use Rattle.std.specs.List.{AllByRecursion}
use Rattle.amqp_types.specs.declared.word.Word.TheVariants as word
use Rattle.amqp_frame.specs.declared.frame.Frame.{Frame}
use Rattle.amqp_frame.specs.declared.frame.Frame.TheVariants.{Heartbeat}
use Rattle.amqp_frame.specs.RawMethods.{OtherMethod}
use Rattle.amqp_outbox.specs.declared.item.Item.{Item}
use Rattle.amqp_outbox.specs.declared.reply.Awaited.{Awaited}
use Rattle.amqp_outbox.specs.declared.reply.Reply.{Reply}
use Rattle.amqp_outbox.specs.declared.reply.Reply.TheVariants.{ChannelOpened, ChannelClosed, FlowDone, SecretDone, ConnectionClosed}
use Rattle.amqp_outbox.specs.Items.{plain_item, promised_item, group_of}
use Rattle.amqp_outbox.specs.Queued.{Queued, after_begun, after_control, after_next, begin_group, only, pushed_control, pushed_group, waiting_items, with_awaited, without_awaited}
use Rattle.amqp_outbox.specs.Replies.{awaited_on}
use Rattle.amqp_promise.specs.declared.io_fault.IoFault.{IoFault}
use Rattle.amqp_promise.specs.declared.io_fault.IoFault.TheVariants.{Refused}
use Rattle.amqp_promise.specs.declared.state.ConnectionState.{ConnectionState}
use Rattle.amqp_promise.specs.declared.state.ConnectionState.TheVariants.{Connected, Closing}
use Rattle.amqp_promise.specs.declared.state.ChannelState.TheVariants as channel
use Rattle.amqp_promise.specs.declared.error.ErrorKind.{ErrorKind}
use Rattle.amqp_promise.specs.declared.error.ErrorKind.TheVariants.{ChannelsLimitReached, InvalidChannelState, InvalidConnectionState, IOError, NoMemory, OutboxFull, ProtocolError, SerialisationError}
use Rattle.amqp_auth.specs.declared.asked.Asked.{Asked}
use Rattle.amqp_channels.specs.declared.channels.Channel.{Channel}
use Rattle.amqp_answers.specs.declared.answer.Answer.{Answer}
use Rattle.amqp_answers.specs.declared.answer.Answer.TheVariants.{Connected as AnswerConnected, Channel as AnswerChannel, Done, Flow as AnswerFlow, Sent}
use Rattle.amqp_commands.specs.declared.command.ChanRef.{ChanRef}
use Rattle.amqp_commands.specs.declared.command.Cmd.{Cmd}
use Rattle.amqp_commands.specs.declared.command.Cmd.TheVariants.{OpenChannel, CloseChannel, CloseConnection, UpdateSecret, Send, Publish, Flow, DropChannel, DropConnection, Listen}
use Rattle.amqp_outgoing.specs.declared.committed.Mark.{Mark}
use Rattle.amqp_outgoing.specs.declared.committed.Then.{Then}
use Rattle.amqp_outgoing.specs.declared.committed.Then.TheVariants.{Nothing, Answer as Answers, Pays, Finish}
use Rattle.amqp_answers.specs.declared.event.Event.{Event}
use Rattle.amqp_violations.specs.declared.server_close.ServerClose.{ServerClose}
use Rattle.amqp_violations.specs.declared.server_close.ServerClose.TheVariants.{WithoutError, WithError}
use Rattle.amqp_rules.specs.declared.state.Input.{Input}
use Rattle.amqp_rules.specs.declared.state.Input.TheVariants.{Acting, Closed, Dropped}
use Rattle.amqp_rules.specs.declared.state.Link.{Link}
use Rattle.amqp_rules.specs.declared.state.Link.TheVariants.{Asked as AskedFor, Due, Ended, Open, Wanted}
use Rattle.amqp_settings.specs.Config.{Config}
use Rattle.amqp_maps.specs.Listed.{at, put, without}
use Rattle.amqp_rules.specs.Talk.{Talk, acts, end_of, has_ended, is_acting, is_asked, is_asked_link, is_open, is_open_link, start}
use Rattle.amqp_rules.specs.Recovery.{next_delay, recovery_delay, reconnect}
use Rattle.amqp_answers.specs.Settled.{Promises, settled_to}
use Rattle.amqp_rules.specs.Changes.{fail, finish, finish_by, give, lose, lose_by, promises_on, refuse, rejected_each, without_all_on}
use Rattle.amqp_settings.specs.Handshake.{channel_close_ok, channel_flow, channel_open, flow_ok, new_secret, open_vhost, our_channel_close, our_close, protocol_header, secure_ok, start_ok, tune_ok}
use Rattle.amqp_settings.specs.Negotiation.{tune}
use Rattle.amqp_channels.specs.Numbering.{first_number, drawn}
use Rattle.amqp_commands.specs.Publishing.{method_frame, publish_frames}
use Rattle.amqp_rules.specs.Channels.{channel_at}
use Rattle.amqp_rules.specs.Commands.{body_limit, close_target, command_rule, drop_target, flow_target, leave_channel, leave_connection, open_drawn, publish_target, queue_publish, queue_secret, queue_send, send_target, target, too_full, too_long, unless_full, unless_too_long}
use Rattle.amqp_rules.specs.Links.{asked_link, dropped, link_failed, lost, refused_after}
use Rattle.amqp_rules.specs.Sound.{IsSound, fits_link, following}
use Rattle.amqp_rules.specs.Ticks.{link_at}
use Rattle.amqp_settings.specs.Handshake.{refresh_reason}
use Rattle.amqp_outgoing.specs.Marks.{answers, mark_of}
use Rattle.amqp_rules.specs.Writing.{commit, committed_as, end_overlong, flows, follow, next_frame, next_within, overlong, sent, sent_among, taken}
use Rattle.amqp_rules.specs.Answers.{answer_of, end_event, take_answer, without_event}
use Rattle.amqp_rules.proofs.Ascending.{at-gone}
use Rattle.amqp_rules.proofs.Finishing.{committed-follows}
use Rattle.amqp_rules.proofs.Keeping.{off-finish}
use Rattle.amqp_rules.proofs.LostLinks.{lose-answers}
use Rattle.amqp_maps.proofs.Numbered.{at-later, without-other}
use Rattle.amqp_rules.proofs.Recovering.{lose-by}
use Rattle.amqp_rules.proofs.Sending.{pay-keeps}
use Rattle.amqp_rules.proofs.Soundness.{next-awaits}
use Rattle.amqp_rules.proofs.Walk.{ChannelRows, ConnectionRows, PassedRows, TickRows, frame-keeps, misread-keeps, secure-keeps, start-keeps, tick-keeps}
use Rattle.amqp_types.proofs.Small.{and-right, if_by, if_case}
use Rattle.amqp_answer_rules.specs.Answering.{IsNamed}
use Rattle.amqp_answer_rules.proofs.Slots.{same-or-not, settles-lost}
use Rattle.amqp_outcome_rules.specs.Standing.{AnswersLast, IsAmong, IsAwaitedFor, StaysWaiting, WaitsForSome}
use Rattle.amqp_outcome_rules.proofs.Promising.{published-among, sent-among}
use Rattle.amqp_outcome_rules.proofs.StandingFor.{slot-lacking, last-group, Stands, NoneWaits, Rests, Rest, not-has, told-before, awaited-last, rest-to, rest-queue, rest-await, rest-group, rest-answered, rest-replies, rest-all, rest-groups-of, rest-groups, rest-refused, rest-made}

-- ---- losses and ends

reconnect-none : (e : ErrorKind) (t : Talk) (delay : ℕ) → recovery_delay e t ≡ Some delay → NoneWaits (reconnect e delay t).promises
reconnect-none e t delay is number other waits =
    by ((settles-lost (λ k b. Unit {0}) e t (λ k differs. tt)).each number) where
      same : lose e t ≡ reconnect e delay t
      same = ap (λ (o : Option ℕ). lose_by o e t) is

      after : at number (lose e t).promises ≡ Some None
      after = ap (λ (x : Talk). at number x.promises) same ∙ waits

      by : (at number (lose e t).promises ≡ at number t.promises)
          ⊎ ((at number t.promises ≡ Some None) × ((answer : Result Answer ErrorKind) × (at number (lose e t).promises ≡ Some (Some answer)) × Unit {0})) → ⊥
      by (inl k) =
          let answered : at number (lose e t).promises ≡ Some (Some (Err e)) = lose-answers e t delay number is other (sym k ∙ after) in
          not-has number (lose e t).promises after (Err e, answered)
      by (inr k) = not-has number (lose e t).promises after (k.1.0, k.1.1)

rest-ended : (r : Result (Unit {0}) ErrorKind) (i : Input) (ps : Promises) (q : Queued) (ms : List Mark) → AllByRecursion AnswersLast q.publish → Rests (Ended r) i ps q ms
rest-ended r i ps q ms groups = ((λ on. absurd (true≢false (sym on))), (λ shut going. absurd (true≢false going)), groups)

rest-lost : (e : ErrorKind) (t : Talk) → Rest t → Rest (lose e t)
rest-lost e t h =
    lose-by Rest e t (λ delay is. ((λ on. absurd (true≢false (sym on))), (λ shut going. reconnect-none e t delay is), tt))
    (λ none. rest-ended (Err e) t.input t.promises t.outbox t.committed h.2)

finish-rest : (o : Option ServerClose) (t : Talk) → Rest t → Rest (finish_by o t)
finish-rest None t h = rest-ended (Ok tt) t.input t.promises t.outbox t.committed h.2
finish-rest (Some WithoutError) t h = rest-ended (Ok tt) t.input t.promises t.outbox t.committed h.2
finish-rest (Some (WithError e)) t h = rest-lost (ProtocolError e) t h

-- ---- frames

rest-channels : ChannelRows Rest
rest-channels = record {
  lost = rest-lost;
  opened = λ n c promise u is h. rest-answered u.link u.input u.promises u.outbox u.committed h n ChannelOpened promise (Ok (AnswerChannel n c.opened)) is;
  closed = λ n promise u is h.
      let e : ErrorKind = InvalidChannelState channel.Closed word.ChannelCloseOkReceived in
      rest-replies u.link u.input (settled_to promise (Ok Done) u.promises) (without_awaited n ChannelClosed u.outbox) u.committed
      (rest-answered u.link u.input u.promises u.outbox u.committed h n ChannelClosed promise (Ok Done) is) n e;
  answered = λ n c u h. h;
  removed = λ n u h. h;
  flow = λ n c active u h. rest-queue u.link u.input u.promises u.outbox u.committed h (plain_item n (flow_ok n active));
  flowed = λ n c active promise u is h. rest-answered u.link u.input u.promises u.outbox u.committed h n FlowDone promise (Ok (AnswerFlow active)) is;
  server_closed = λ n e c u h.
      rest-queue u.link u.input (rejected_each e (promises_on n u.outbox) u.promises) (without_all_on n u.outbox) u.committed
      (rest-all u.link u.input u.promises u.outbox u.committed h n e) (plain_item n (channel_close_ok n));
  crossed = λ n e c u h. rest-queue u.link u.input u.promises u.outbox u.committed h (plain_item n (channel_close_ok n));
}

rest-passed : PassedRows Rest
rest-passed = record { confirms = λ n c u h. h; hands = λ opened h u k. k }

rest-connection : (answers : List Asked) → ConnectionRows Rest answers
rest-connection answers = record {
  starts = λ u held h.
      start-keeps Rest rest-lost answers u h
      (λ mechanism response. rest-queue u.link u.input u.promises u.outbox u.committed h (plain_item 0 (start_ok u.config.options mechanism response)));
  secures = λ u h.
      secure-keeps Rest rest-lost answers u h (λ response. rest-queue u.link u.input u.promises u.outbox u.committed h (plain_item 0 (secure_ok response)));
  tunes = λ server u h.
      let first : Item = plain_item 0 (tune_ok (tune u.configuration server)) in
      rest-queue u.link u.input u.promises (pushed_control first u.outbox) u.committed
      (rest-queue u.link u.input u.promises u.outbox u.committed h first) (plain_item 0 (open_vhost u.config.uri.vhost));
  connects = λ u held due h.
      rest-to u.link u.input u.promises u.outbox u.committed h (settled_to (Some 0) (Ok AnswerConnected) u.promises) u.outbox (λ number. ⊥)
      (λ number waits. ((told-before number (Some 0) (Ok AnswerConnected) u.promises waits).0, λ never. never)) (λ number x. inl x) h.2;
  reopens = λ n u h.
      rest-await u.link u.input u.promises (pushed_control (plain_item n (channel_open n)) u.outbox) u.committed
      (rest-queue u.link u.input u.promises u.outbox u.committed h (plain_item n (channel_open n))) n (record { reply = ChannelOpened; promise = None });
  blocks = λ reason u h. h;
  unblocks = λ u h. h;
  refreshes = λ u is h. rest-answered u.link u.input u.promises u.outbox u.committed h 0 SecretDone None (Ok Done) is;
  renews = λ number u is h. rest-answered u.link u.input u.promises u.outbox u.committed h 0 SecretDone (Some number) (Ok Done) is;
  server_closes = λ code text u h. ((λ on. absurd (true≢false (sym (and-right (is_open u) false on)))), h.1, tt);
  closes = λ u h. rest-ended (Ok tt) u.input u.promises u.outbox u.committed h.2;
  answers_close = λ promise u h. ((λ on. absurd (true≢false (sym on))), (λ shut going. absurd (true≢false going)), h.2);
}

-- ---- links

rest-wants : (now : ℕ) (l : Link ErrorKind) (i : Input) (ps : Promises) (q : Queued) (ms : List Mark) → Rests l i ps q ms → Rests (link_at now l) i ps q ms
rest-wants now (Due moment) i ps q ms h = if_case (λ (l : Link ErrorKind). Rests l i ps q ms) (nat_le moment now) Wanted (Due moment) h h
rest-wants now l i ps q ms h = h

rest-asked : (l : Link ErrorKind) (i : Input) (ps : Promises) (q : Queued) (ms : List Mark) → Rests l i ps q ms → Rests (asked_link l) i ps q ms
rest-asked Wanted i ps q ms h = h
rest-asked l i ps q ms h = h

rest-comes : (l : Link ErrorKind) (i : Input) (ps : Promises) (q q' : Queued) (ms ms' : List Mark) → is_asked_link l ≡ true → AllByRecursion AnswersLast q'.publish
    → Rests l i ps q ms → Rests Open Acting ps q' ms'
rest-comes AskedFor i ps q q' ms ms' asks groups h =
    ((λ on number other waits. absurd (h.1 refl refl number other waits)), (λ shut. absurd (true≢false shut)), groups)
rest-comes _ i ps q q' ms ms' asks groups h = absurd (true≢false (sym asks))

rest-waits : (l : Link ErrorKind) (i : Input) (ps : Promises) (q : Queued) (ms : List Mark) (moment : ℕ) → is_asked_link l ≡ true → Rests l i ps q ms → Rests (Due moment) i ps q ms
rest-waits AskedFor i ps q ms moment asks h = h
rest-waits _ i ps q ms moment asks h = absurd (true≢false (sym asks))

rest-drops : (l : Link ErrorKind) (i : Input) (ps : Promises) (q : Queued) (ms : List Mark) → Rests l i ps q ms → Rests l (dropped i) ps q ms
rest-drops l Acting ps q ms h = h
rest-drops l (Closed crossed) ps q ms h = h
rest-drops l (Dropped crossed) ps q ms h = h

rest-failed : (t : Talk) → Rest t → Rest (link_failed t)
rest-failed t h = if_by Rest (is_asked t) (refused_after (next_delay t) t) t (by (next_delay t)) (λ idle. h) where
  by : (o : Option ℕ) → is_asked t ≡ true → Rest (refused_after o t)
  by (Some delay) asks = rest-waits t.link t.input t.promises t.outbox t.committed 0 asks h
  by None asks = rest-ended (Err (IOError Refused)) t.input t.promises t.outbox t.committed h.2

rest-gone : (fault : IoFault) (t : Talk) → Rest t → Rest (lost fault t)
rest-gone fault t h =
    if_case Rest (acts t) (lose (IOError fault) t) (if is_open t then finish t else t) (rest-lost (IOError fault) t h)
    (if_case Rest (is_open t) (finish t) t (finish-rest t.server_close t h) h)

rest-ticks : TickRows Rest
rest-ticks = record {
  lost = rest-lost;
  beats = λ u h. rest-queue u.link u.input u.promises u.outbox u.committed h (plain_item 0 Heartbeat);
  refreshes = λ secret u h.
      let item : Item = plain_item 0 (new_secret secret refresh_reason) in
      rest-await u.link u.input u.promises (pushed_control item u.outbox) u.committed (rest-queue u.link u.input u.promises u.outbox u.committed h item) 0
      (record { reply = SecretDone; promise = None });
  retains = λ text u h. h;
  wants = λ u h. rest-wants u.present u.link u.input u.promises u.outbox u.committed h;
}

-- ---- writing

last-begun : (groups : List (List Item)) (q : Queued) → AllByRecursion AnswersLast groups → AllByRecursion AnswersLast q.publish → AllByRecursion AnswersLast (begin_group groups q).publish
last-begun [] q h k = k
last-begun (group ∷ groups) q h k = h.1

last-control : (flow : Bool) (control : List Item) (q : Queued) → AllByRecursion AnswersLast q.publish → AllByRecursion AnswersLast (after_control flow control q).publish
last-control flow (item ∷ items) q h = h
last-control true [] q h = last-begun q.publish q h h
last-control false [] q h = h

last-next : (flow : Bool) (begun : List Item) (q : Queued) → AllByRecursion AnswersLast q.publish → AllByRecursion AnswersLast (after_begun flow begun q).publish
last-next flow (item ∷ items) q h = h
last-next flow [] q h = last-control flow q.control q h

rest-committed : (o : Option Item) (space : ℕ) (t : Talk) → next_within space t ≡ o → Rest t → Rest (committed_as o t)
rest-committed None space t is h = h
rest-committed (Some item) space t is h =
    ((λ on number other waits. by number (h.0 on number other waits)), h.1, last-next (flows t) t.outbox.begun t.outbox h.2)
  where
    q' : Queued
    q' = after_next (flows t) t.outbox

    by : (number : ℕ) → Stands number t.outbox t.committed → Stands number q' (t.committed ++ mark_of item ∷ [])
    by number (inl (n, k)) =
        inl (n, subst (λ (ws : List (ℕ × List Awaited)). IsNamed number (map (λ (a : Awaited). a.promise) (awaited_on n ws))) (sym (next-awaits (flows t) t.outbox.begun t.outbox)) k)
    by number (inr k) = inr (subst (IsAmong (Answers number)) (committed-follows space t item is) k)

rest-next : (space : ℕ) (t : Talk) → Rest t → Rest (next_frame space t)
rest-next space t h = by (overlong t) (rest-committed (next_within space t) space t refl h) where
  by : (o : Option ℕ) → Rest (commit space t) → Rest (end_overlong o (commit space t))
  by None k = k
  by (Some size) k = rest-lost (SerialisationError size) (commit space t) k

-- the first committed frame was sent whole
module _ (th : Then) (ms : List Mark) (x : Talk) (is : x.committed ≡ ms)
    (all : (is_open x && is_acting x.input) ≡ true → (number : ℕ) → number ≢ 0 → at number x.promises ≡ Some None
    → IsAwaitedFor number x.outbox ⊎ ((th ≡ Answers number) ⊎ IsAmong (Answers number) (following ms (waiting_items x.outbox))))
    (none : is_open x ≡ false → has_ended x ≡ false → NoneWaits x.promises) (groups : AllByRecursion AnswersLast x.outbox.publish) where
  -- where it answers no promise
  rest-unanswered : ((number : ℕ) → th ≡ Answers number → ⊥) → Rest x
  rest-unanswered other =
      ((λ on number differs waits. by number (all on number differs waits)), none, groups)
    where
      by : (number : ℕ) → IsAwaitedFor number x.outbox ⊎ ((th ≡ Answers number) ⊎ IsAmong (Answers number) (following ms (waiting_items x.outbox)))
          → Stands number x.outbox x.committed
      by number (inl k) = inl k
      by number (inr (inl k)) = absurd (other number k)
      by number (inr (inr k)) = inr (subst (λ (marks : List Mark). IsAmong (Answers number) (following marks (waiting_items x.outbox))) (sym is) k)

  -- where it answers this promise
  rest-given : (j : ℕ) → th ≡ Answers j → Rest (give j (Ok Sent) x)
  rest-given j same = (
    (λ on number differs waits.
        let was = told-before number (Some j) (Ok Sent) x.promises waits in
        by number was.1 (all on number differs was.0)),
    (λ shut going number differs waits. none shut going number differs (told-before number (Some j) (Ok Sent) x.promises waits).0),
    groups,
  )
    where
      by : (number : ℕ) → (Some j ≡ Some number → ⊥)
          → IsAwaitedFor number x.outbox ⊎ ((th ≡ Answers number) ⊎ IsAmong (Answers number) (following ms (waiting_items x.outbox))) → Stands number x.outbox x.committed
      by number differs (inl k) = inl k
      by number differs (inr (inl k)) =
          (let one : Answers j ≡ Answers number = sym same ∙ k in
          let is_it : j ≡ number = cc in
          absurd (differs (ap (λ (m : ℕ). Some m) is_it)))
      by number differs (inr (inr k)) = inr (subst (λ (marks : List Mark). IsAmong (Answers number) (following marks (waiting_items x.outbox))) (sym is) k)

  rest-followed : (what : Then) → th ≡ what → Rest (follow what x)
  rest-followed Nothing e = rest-unanswered (λ number k. let clash : Nothing ≡ Answers number = sym e ∙ k in absurd cc)
  rest-followed (Answers j) e = rest-given j e
  rest-followed (Pays c) e =
      let before : Rest x = rest-unanswered (λ number k. let clash : Pays c ≡ Answers number = sym e ∙ k in absurd cc) in
      subst (λ (p : Link ErrorKind × Input × Promises × Queued × List Mark). Rests p.0 p.1 p.2 p.3 p.4)
      (sym (pay-keeps (λ (y : Talk). (y.link, y.input, y.promises, y.outbox, y.committed)) (λ y cs ns. refl) (channel_at c x) c x)) before
  rest-followed Finish e = finish-rest x.server_close x (rest-unanswered (λ number k. let clash : Finish ≡ Answers number = sym e ∙ k in absurd cc))

committed-follow : (th : Then) (x : Talk) → is_open (follow th x) ≡ true → (follow th x).committed ≡ x.committed
committed-follow Nothing x opened = refl
committed-follow (Answers j) x opened = refl
committed-follow (Pays c) x opened = pay-keeps (λ (y : Talk). y.committed) (λ y cs ns. refl) (channel_at c x) c x
committed-follow Finish x opened = absurd (true≢false (sym opened ∙ (off-finish x.server_close x).opened))

rest-sent : (ms : List Mark) (n : ℕ) (t : Talk) → (is_open t ≡ true → t.committed ≡ ms) → Rest t → Rest (sent_among ms n t)
rest-sent [] n t is h = h
rest-sent (m ∷ ms) n t is h =
    if_by Rest (is_open t) (if nat_le m.left n then sent_among ms (n - m.left) (sent m t) else record t { committed = record m { left = m.left - n } ∷ ms }) t
    (λ opened. if_case Rest (nat_le m.left n) (sent_among ms (n - m.left) (sent m t)) (record t { committed = record m { left = m.left - n } ∷ ms })
    (rest-sent ms (n - m.left) (sent m t)
    (λ still. committed-follow m.then (record t { committed = drop 1 t.committed }) still ∙ ap (drop 1) (is opened))
    (rest-followed m.then ms (record t { committed = drop 1 t.committed }) (ap (drop 1) (is opened))
    (λ on number other waits. first opened number (h.0 on number other waits)) h.1 h.2 m.then refl))
    ((λ on number other waits. part opened number (h.0 on number other waits)), h.1, h.2))
    (λ shut. h)
  where
    first : is_open t ≡ true → (number : ℕ) → Stands number t.outbox t.committed
        → IsAwaitedFor number t.outbox ⊎ ((m.then ≡ Answers number) ⊎ IsAmong (Answers number) (following ms (waiting_items t.outbox)))
    first opened number (inl k) = inl k
    first opened number (inr k) =
        inr (subst (λ (marks : List Mark). IsAmong (Answers number) (following marks (waiting_items t.outbox))) (is opened) k)

    part : is_open t ≡ true → (number : ℕ) → Stands number t.outbox t.committed → Stands number t.outbox (record m { left = m.left - n } ∷ ms)
    part opened number (inl k) = inl k
    part opened number (inr k) =
        inr (subst (λ (marks : List Mark). IsAmong (Answers number) (following marks (waiting_items t.outbox))) (is opened) k)

rest-taken : (n : ℕ) (t : Talk) → Rest t → Rest (taken n t)
rest-taken n t h =
    let u : Talk = record t { last_write = t.present } in
    if_case Rest (is_open t && not (n == 0)) (sent_among t.committed n u) t (rest-sent t.committed n u (λ opened. refl) h) h

-- ---- commands

connected-open : (l : Link ErrorKind) → fits_link Connected l ≡ true → is_open_link l ≡ true
connected-open Open h = refl
connected-open _ h = absurd (true≢false (sym h))

module _ (t : Talk) (h : Rest t) where
  rest-refuse : (e : ErrorKind) → Rest (refuse e t)
  rest-refuse e = rest-refused t.link t.input t.promises t.outbox t.committed h t.made e

  module _ (opened : is_open t ≡ true) where
    rest-drawn : (o : Option ℕ) (first : ℕ) → Rest (open_drawn o first t)
    rest-drawn None first = rest-refuse ChannelsLimitReached
    rest-drawn (Some n) first =
        let item : Item = plain_item n (channel_open n) in
        let a : Awaited = record { reply = ChannelOpened; promise = Some t.made } in
        rest-made t.link t.input t.promises (with_awaited n a (pushed_control item t.outbox)) t.committed
        (rest-await t.link t.input t.promises (pushed_control item t.outbox) t.committed
        (rest-queue t.link t.input t.promises t.outbox t.committed h item) n a)
        t.made opened (inl (awaited-last t.made (pushed_control item t.outbox) n a refl))

    rest-leave : (n code : ℕ) (text : List ℕ) (c : Channel) (promise : Option ℕ) → Rest (leave_channel n code text c promise t)
    rest-leave n code text c promise =
        let item : Item = plain_item n (our_channel_close n code text) in
        let a : Awaited = record { reply = ChannelClosed; promise = promise } in
        let q' : Queued = with_awaited n a (pushed_control item t.outbox) in
        rest-groups-of t.link t.input t.promises q' t.committed
        (rest-await t.link t.input t.promises (pushed_control item t.outbox) t.committed
        (rest-queue t.link t.input t.promises t.outbox t.committed h item) n a) n (InvalidChannelState channel.Closing word.ChannelClose)

    rest-left : (code : ℕ) (text : List ℕ) (promise : Option ℕ) → Rest (leave_connection code text promise t)
    rest-left code text promise =
        let item : Item = plain_item 0 (our_close code text) in
        let a : Awaited = record { reply = ConnectionClosed; promise = promise } in
        let q' : Queued = with_awaited 0 a (pushed_control item t.outbox) in
        rest-groups t.link t.input t.promises q' t.committed
        (rest-await t.link t.input t.promises (pushed_control item t.outbox) t.committed
        (rest-queue t.link t.input t.promises t.outbox t.committed h item) 0 a) (InvalidConnectionState Closing)

    rest-close : (o : Result Channel ErrorKind) (n code : ℕ) (text : List ℕ) → Rest (close_target o n code text t)
    rest-close (Err e) n code text = rest-refuse e
    rest-close (Ok c) n code text =
        let u : Talk = leave_channel n code text c (Some t.made) t in
        let item : Item = plain_item n (our_channel_close n code text) in
        rest-made u.link u.input u.promises u.outbox u.committed (rest-leave n code text c (Some t.made)) t.made opened
        (inl (awaited-last t.made (pushed_control item t.outbox) n (record { reply = ChannelClosed; promise = Some t.made }) refl))

    rest-closed : (code : ℕ) (text : List ℕ) → Rest (command_rule Connected (CloseConnection code text) t)
    rest-closed code text =
        let u : Talk = leave_connection code text (Some t.made) t in
        let item : Item = plain_item 0 (our_close code text) in
        rest-made u.link u.input u.promises u.outbox u.committed (rest-left code text (Some t.made)) t.made opened
        (inl (awaited-last t.made (pushed_control item t.outbox) 0 (record { reply = ConnectionClosed; promise = Some t.made }) refl))

    rest-drop : (o : Result Channel ErrorKind) (n : ℕ) → Rest (drop_target o n t)
    rest-drop (Err e) n = h
    rest-drop (Ok c) n = rest-leave n 200 (codes "OK") c None

    rest-unless : (o : Option Frame) (rule : Talk → Talk) → Rest (rule t) → Rest (unless_too_long o rule t)
    rest-unless None rule k = k
    rest-unless (Some f) rule k = rest-refuse _

    rest-room : (o : Option ℕ) (rule : Talk → Talk) → Rest (rule t) → Rest (unless_full o rule t)
    rest-room None rule k = k
    rest-room (Some octets) rule k = rest-refuse (OutboxFull octets)

    -- a reply is awaited for the promise that is made
    rest-told : (n : ℕ) (item : Item) (reply : Reply) → Rests t.link t.input (put t.made None t.promises)
        (with_awaited n (record { reply = reply; promise = Some t.made }) (pushed_control item t.outbox)) t.committed
    rest-told n item reply =
        let a : Awaited = record { reply = reply; promise = Some t.made } in
        rest-made t.link t.input t.promises (with_awaited n a (pushed_control item t.outbox)) t.committed
        (rest-await t.link t.input t.promises (pushed_control item t.outbox) t.committed
        (rest-queue t.link t.input t.promises t.outbox t.committed h item) n a)
        t.made opened (inl (awaited-last t.made (pushed_control item t.outbox) n a refl))

    rest-flow : (o : Result Channel ErrorKind) (n : ℕ) (active : Bool) → Rest (flow_target o n active t)
    rest-flow (Err e) n active = rest-refuse e
    rest-flow (Ok c) n active = rest-told n (plain_item n (channel_flow n active)) FlowDone

    rest-secret : (secret reason : List ℕ) → Rest (command_rule Connected (UpdateSecret secret reason) t)
    rest-secret secret reason =
        let f : Frame = new_secret secret reason in
        rest-unless (too_long (f ∷ []) t) (queue_secret f) (rest-told 0 (plain_item 0 f) SecretDone)

    rest-send : (o : Result Channel ErrorKind) (r : ChanRef) (m : OtherMethod) → Rest (send_target o r.id m t)
    rest-send (Err e) r m = rest-refuse e
    rest-send (Ok c) r m =
        let f : Frame = method_frame r.id m in
        let item : Item = promised_item r.id f t.made in
        rest-unless (too_long (f ∷ []) t) (unless_full (too_full (f ∷ []) t) (queue_send r.id f))
        (rest-room (too_full (f ∷ []) t) (queue_send r.id f)
        (rest-made t.link t.input t.promises (pushed_control item t.outbox) t.committed
        (rest-queue t.link t.input t.promises t.outbox t.committed h item) t.made opened (inr (sent-among t r m))))

    rest-publish : (o : Result Channel ErrorKind) (r : ChanRef) (m : OtherMethod) (properties body : List ℕ) → Rest (publish_target o r.id m properties body t)
    rest-publish (Err e) r m properties body = rest-refuse e
    rest-publish (Ok c) r m properties body =
        let fs : List Frame = publish_frames r.id m properties body (body_limit t) in
        let group : List Item = group_of r.id fs t.made in
        rest-unless (too_long fs t) (unless_full (too_full fs t) (queue_publish r.id fs))
        (rest-room (too_full fs t) (queue_publish r.id fs)
        (rest-made t.link t.input t.promises (pushed_group group t.outbox) t.committed
        (rest-group t.link t.input t.promises t.outbox t.committed h group (last-group r.id t.made fs)) t.made opened (inr (published-among t r m properties body))))

  rest-rule : (s : ConnectionState) (cmd : Cmd) → (s ≡ Connected → is_open t ≡ true) → Rest (command_rule s cmd t)
  rest-rule Connected OpenChannel opens =
      let first : ℕ = first_number t.configuration.channel_max t.cursor in
      rest-drawn (opens refl) (drawn t.configuration.channel_max first t.channels) first
  rest-rule Connected (CloseChannel r code text) opens = rest-close (opens refl) (target r word.ChannelClose t) r.id code text
  rest-rule Connected (CloseConnection code text) opens = rest-closed (opens refl) code text
  rest-rule Connected (UpdateSecret secret reason) opens = rest-secret (opens refl) secret reason
  rest-rule Connected (Send r m) opens = rest-send (opens refl) (target r word.Send t) r m
  rest-rule Connected (Publish r m properties body) opens = rest-publish (opens refl) (target r word.Publish t) r m properties body
  rest-rule Connected (Flow r active) opens = rest-flow (opens refl) (target r word.ChannelFlow t) r.id active
  rest-rule Connected (DropChannel r) opens = rest-drop (opens refl) (target r word.ChannelClose t) r.id
  rest-rule Connected DropConnection opens = rest-left (opens refl) 200 (codes "OK") None
  rest-rule Connected Listen opens = h
  rest-rule s (DropChannel r) opens = h
  rest-rule s DropConnection opens = h
  rest-rule s Listen opens = h
  rest-rule s cmd opens = rest-refuse (InvalidConnectionState s)

-- ---- what is taken

rest-answer : (number : ℕ) (t : Talk) → IsSound t → Rest t → Rest (take_answer number t)
rest-answer number t sound h =
    if_case Rest (is_some (answer_of number t)) (record t { promises = without number t.promises }) t
    (rest-to t.link t.input t.promises t.outbox t.committed h (without number t.promises) t.outbox (λ k. ⊥) (λ k waits. (by k (same-or-not k number) waits, λ never. never)) (λ k x. inl x) h.2) h
  where
    by : (k : ℕ) → (k ≡ number) ⊎ (k ≢ number) → at k (without number t.promises) ≡ Some None → at k t.promises ≡ Some None
    by k (inr other) waits = sym (without-other k number t.promises other) ∙ waits
    by k (inl same) waits =
        let gone : at number (without number t.promises) ≡ None = at-gone number t.promises sound.promises.0 in
        absurd (slot-lacking (at number (without number t.promises)) gone (ap (λ (j : ℕ). at j (without number t.promises)) (sym same) ∙ waits))

rest-event : (kept at_end : List Event) (t : Talk) → Rest t → Rest (without_event kept at_end t)
rest-event (event ∷ later) at_end t h = h
rest-event [] (event ∷ later) t h = h
rest-event [] [] t h = h

-- ---- all rules

some-waits : (t : Talk) → Rest t → WaitsForSome t
some-waits t h = record { acting = h.0; unlinked = h.1; groups = h.2 }

pub waits-first : (c : Config) → WaitsForSome (start c)
waits-first c =
    record {
      acting = λ on. absurd (true≢false (sym on));
      unlinked = λ shut going number other waits. slot-lacking (at number (start c).promises) (at-later number 0 None [] other) waits;
      groups = tt;
    }

pub stays-waiting : (t : Talk) → IsSound t → WaitsForSome t → StaysWaiting t
stays-waiting t sound w =
    let h : Rest t = (w.acting, w.unlinked, w.groups) in
    record {
      frame = λ f answers. some-waits _ (frame-keeps Rest answers rest-channels (rest-connection answers) rest-passed f t h);
      moment = λ at. some-waits _ (if_case Rest (has_ended t) t _ h h);
      asked = some-waits _ (rest-asked t.link t.input t.promises t.outbox t.committed h);
      linked = some-waits _ (if_by Rest (is_asked t) _ t (λ asks. rest-comes t.link t.input t.promises t.outbox (only (plain_item 0 protocol_header)) t.committed [] asks tt h) (λ idle. h));
      link_failed = some-waits _ (rest-failed t h);
      piece = some-waits _ (if_case Rest (is_open t) _ t h h);
      misread = λ why. some-waits _ (misread-keeps Rest rest-lost (λ u k. rest-drops u.link u.input u.promises u.outbox u.committed k) why t h);
      lost = λ fault. some-waits _ (rest-gone fault t h);
      tick = λ answers. some-waits _ (tick-keeps Rest rest-ticks answers t h);
      next_frame = λ space. some-waits _ (rest-next space t h);
      taken = λ n. some-waits _ (rest-taken n t h);
      starve = some-waits _ (if_case Rest (has_ended t) t (fail NoMemory t) h (rest-ended (Err NoMemory) t.input t.promises t.outbox t.committed h.2));
      command = λ cmd. some-waits _
          (rest-rule t h t.state cmd
          (λ held. connected-open t.link (subst (λ (s : ConnectionState). fits_link s t.link ≡ true) held sound.link)));
      answer = λ number. some-waits _ (rest-answer number t sound h);
      event = some-waits _ (rest-event t.noted.events (end_event t.noted.tells_end (end_of t)) t h);
      frames = λ opened. some-waits _ h;
    }

-- What each rule does to the link, to what is done with its frames, and to how the server closed.
use Rattle.std.proofs.Common.{◌≡◌, ℕ, zero, suc, ◌-◌, ◌==◌, ◌&&◌, not, nat_le, true, if◌then◌else◌, List, [], ◌∷◌, Option, Some, None, is_some, Ok, Err, refl, ap, sym, subst}
use Rattle.std.specs.Prelude.{drop}
use Rattle.amqp_frame.specs.declared.frame.Frame.{Frame}
use Rattle.amqp_frame.specs.declared.frame.Frame.TheVariants.{ProtocolHeader, Method, Raw, Heartbeat}
use Rattle.amqp_frame.specs.declared.frame.RawKind.TheVariants.{RawMethod}
use Rattle.amqp_frame.specs.declared.method.Method.{Method as AnyMethod}
use Rattle.amqp_frame.specs.declared.method.Method.TheVariants.{Start, Secure, Tune, OpenOk, Close, CloseOk, Blocked, Unblocked, UpdateSecretOk}
use Rattle.amqp_frame.specs.Methods.{is_of_a_channel}
use Rattle.amqp_outbox.specs.declared.item.Item.{Item}
use Rattle.amqp_outbox.specs.declared.reply.Reply.TheVariants.{ConnectionClosed, SecretDone}
use Rattle.amqp_outbox.specs.Queued.{awaited_promise}
use Rattle.amqp_promise.specs.declared.io_fault.IoFault.{IoFault}
use Rattle.amqp_promise.specs.declared.io_fault.IoFault.TheVariants.{Refused}
use Rattle.amqp_promise.specs.declared.state.ConnectionState.{ConnectionState}
use Rattle.amqp_promise.specs.declared.state.ConnectionState.TheVariants.{Connecting, Connected, Closing}
use Rattle.amqp_promise.specs.declared.error.ErrorKind.{ErrorKind}
use Rattle.amqp_promise.specs.declared.error.ErrorKind.TheVariants.{InvalidConnectionState, InvalidProtocolVersion, IOError, NoMemory, ProtocolError, SerialisationError}
use Rattle.amqp_auth.specs.declared.asked.Asked.{Asked}
use Rattle.amqp_commands.specs.declared.command.Cmd.{Cmd}
use Rattle.amqp_outgoing.specs.declared.committed.Mark.{Mark}
use Rattle.amqp_outgoing.specs.declared.committed.Then.{Then}
use Rattle.amqp_outgoing.specs.declared.committed.Then.TheVariants.{Nothing, Answer, Pays, Finish}
use Rattle.amqp_answers.specs.declared.event.Event.{Event}
use Rattle.amqp_violations.specs.declared.misread.Misread.{Misread}
use Rattle.amqp_violations.specs.declared.server_close.ServerClose.{ServerClose}
use Rattle.amqp_violations.specs.declared.server_close.ServerClose.TheVariants.{WithoutError, WithError}
use Rattle.amqp_rules.specs.declared.state.Input.{Input}
use Rattle.amqp_rules.specs.declared.state.Input.TheVariants.{Acting}
use Rattle.amqp_rules.specs.declared.state.Link.{Link}
use Rattle.amqp_rules.specs.declared.state.Link.TheVariants.{Due, Ended, Open}
use Rattle.amqp_rules.specs.declared.state.Phase.{Phase}
use Rattle.amqp_rules.specs.declared.state.Phase.TheVariants.{AwaitStart, AwaitTune, AwaitOpenOk}
use Rattle.amqp_rules.specs.Talk.{Talk, acts, end_of, has_ended, hears_on, is_asked, is_asked_link, is_open}
use Rattle.amqp_rules.specs.Recovery.{next_delay}
use Rattle.amqp_rules.specs.Changes.{close, fail, finish, finish_by, lose, misplaced, present_at, starve}
use Rattle.amqp_rules.specs.Channels.{channel_at}
use Rattle.amqp_rules.specs.Commands.{command}
use Rattle.amqp_rules.specs.ConnectionMethods.{connected, connection_closed, connection_rule, on_connection_close, on_open_ok, secret_taken}
use Rattle.amqp_rules.specs.Frames.{closed_rule, frame_rule, on_frame}
use Rattle.amqp_rules.specs.Links.{asked, asked_link, dropped, link_failed, linked, lost, misread, piece, refused_after}
use Rattle.amqp_rules.specs.Ticks.{link_at, tick}
use Rattle.amqp_violations.specs.Violations.{stray_channel_frame}
use Rattle.amqp_rules.specs.Writing.{commit, committed_as, end_overlong, follow, next_frame, next_within, overlong, sent, sent_among, taken}
use Rattle.amqp_rules.specs.Answers.{answer_of, end_event, take_answer, take_event, without_event}
use Rattle.amqp_rules.proofs.Recovering.{lose-case, reopened-keeps}
use Rattle.amqp_rules.proofs.Walk.{ChannelRows, CommandRows, PassedRows, TickRows, channel-method-keeps, command-keeps, misplaced-keeps, misread-keeps, pay-case, raw-keeps, secure-keeps, start-keeps, tick-keeps}
use Rattle.amqp_types.proofs.Small.{if_by, if_case}

-- the link, what is done with its frames, and how the server closed
abbrev pub Linked : Type 1
Linked = Link ErrorKind → Input → Option ServerClose → Type 0

-- so they are in a state
abbrev pub In : Linked → Talk → Type 0
In R t = R t.link t.input t.server_close

-- what links do
pub record LinkRows (R : Linked) : Type 0 where
  pub asks : (l : Link ErrorKind) (i : Input) (c : Option ServerClose) → R l i c → R (asked_link l) i c
  pub comes : (l : Link ErrorKind) (i : Input) (c : Option ServerClose) → is_asked_link l ≡ true → R l i c → R Open Acting c
  pub waits : (l : Link ErrorKind) (i : Input) (c : Option ServerClose) (moment : ℕ) → is_asked_link l ≡ true → R l i c → R (Due moment) i c
  pub wants : (now : ℕ) (l : Link ErrorKind) (i : Input) (c : Option ServerClose) → R l i c → R (link_at now l) i c
  pub drops : (l : Link ErrorKind) (i : Input) (c : Option ServerClose) → R l i c → R l (dropped i) c
  pub fails : (l : Link ErrorKind) (i : Input) (c : Option ServerClose) (e : ErrorKind) → R l i c → R (Ended (Err e)) i c
  pub reconnects : (l : Link ErrorKind) (i : Input) (c : Option ServerClose) (moment : ℕ) → R l i c → R (Due moment) i None

module _ (R : Linked) (rows : LinkRows R) where
  -- ---- losses

  pub in-lost : (e : ErrorKind) (t : Talk) → In R t → In R (lose e t)
  in-lost e t h =
      lose-case (In R) e t (λ delay. rows.reconnects t.link t.input t.server_close _ h) (rows.fails t.link t.input t.server_close e h)

  pub in-misread : (why : Misread) (t : Talk) → In R t → In R (misread why t)
  in-misread why t h = misread-keeps (In R) in-lost (λ u k. rows.drops u.link u.input u.server_close k) why t h

  pub in-next : (space : ℕ) (t : Talk) → In R t → In R (next_frame space t)
  in-next space t h = by (overlong t) (same (next_within space t)) where
    same : (o : Option Item) → In R (committed_as o t)
    same None = h
    same (Some item) = h

    by : (o : Option ℕ) → In R (commit space t) → In R (end_overlong o (commit space t))
    by None k = k
    by (Some size) k = in-lost (SerialisationError size) (commit space t) k

  pub in-starved : (t : Talk) → In R t → In R (starve t)
  in-starved t h = if_case (In R) (has_ended t) t (fail NoMemory t) h (rows.fails t.link t.input t.server_close NoMemory h)

  -- ---- links

  pub in-asked : (t : Talk) → In R t → In R (asked t)
  in-asked t h = rows.asks t.link t.input t.server_close h

  pub in-linked : (t : Talk) → In R t → In R (linked t)
  in-linked t h = if_by (In R) (is_asked t) _ t (λ asks. rows.comes t.link t.input t.server_close asks h) (λ idle. h)

  pub in-failed : (t : Talk) → In R t → In R (link_failed t)
  in-failed t h = if_by (In R) (is_asked t) (refused_after (next_delay t) t) t (by (next_delay t)) (λ idle. h) where
    by : (o : Option ℕ) → is_asked t ≡ true → In R (refused_after o t)
    by (Some delay) asks = rows.waits t.link t.input t.server_close _ asks h
    by None asks = rows.fails t.link t.input t.server_close (IOError Refused) h

  pub in-piece : (t : Talk) → In R t → In R (piece t)
  in-piece t h = if_case (In R) (is_open t) _ t h h

  pub in-moment : (at : ℕ) (t : Talk) → In R t → In R (present_at at t)
  in-moment at t h = if_case (In R) (has_ended t) t _ h h

  -- ---- time, commands and what is taken

  pub in-tick : (answers : List Asked) (t : Talk) → In R t → In R (tick answers t)
  in-tick answers t h = tick-keeps (In R) ticks answers t h where
    ticks : TickRows (In R)
    ticks = record {
      lost = in-lost;
      beats = λ u k. k;
      refreshes = λ secret u k. k;
      retains = λ text u k. k;
      wants = λ u k. rows.wants u.present u.link u.input u.server_close k;
    }

  told-rows : CommandRows (In R)
  told-rows = record {
    refuses = λ e u h. h;
    promises = λ u h. h;
    opens = λ n u h. h;
    opens_none = λ first u h. h;
    leaves_channel = λ n code text c answers u h. h;
    sends = λ n m u h. h;
    publishes = λ n m properties body u h. h;
    flows = λ n active u h. h;
    tells_secret = λ secret reason u h. h;
    listens = λ u h. h;
  }

  pub in-told : (cmd : Cmd) (t : Talk) → In R t → In R (command cmd t)
  in-told cmd t h = command-keeps (In R) told-rows (λ code text answers u k. k) cmd t h

  pub in-answer : (number : ℕ) (t : Talk) → In R t → In R (take_answer number t)
  in-answer number t h = if_case (In R) (is_some (answer_of number t)) _ t h h

  event-by : (kept at_end : List Event) (t : Talk) → In R t → In R (without_event kept at_end t)
  event-by (event ∷ later) at_end t h = h
  event-by [] (event ∷ later) t h = h
  event-by [] [] t h = h

  pub in-event : (t : Talk) → In R t → In R (take_event t)
  in-event t h = event-by t.noted.events (end_event t.noted.tells_end (end_of t)) t h

  -- ---- frames

  channels : ChannelRows (In R)
  channels = record {
    lost = in-lost;
    opened = λ n c promise u is h. h;
    closed = λ n promise u is h. h;
    answered = λ n c u h. h;
    removed = λ n u h. h;
    flow = λ n c active u h. h;
    flowed = λ n c active promise u is h. h;
    server_closed = λ n e c u h. h;
    crossed = λ n e c u h. h;
  }

  passed : PassedRows (In R)
  passed = record { confirms = λ n c u h. h; hands = λ opened h u k. k }

  module _ (answers : List Asked) (t : Talk) (h : In R t) where
    secret-in : (o : Option (Option ℕ)) → In R (secret_taken o t)
    secret-in None = in-lost (InvalidConnectionState Connected) t h
    secret-in (Some None) = h
    secret-in (Some (Some number)) = h

    closed-in : (o : Option (Option ℕ)) → In R (close t) → In R (connection_closed o t)
    closed-in None k = k
    closed-in (Some promise) k = k

    opened-in : In R (on_open_ok t)
    opened-in =
        let link : (on_open_ok t).link ≡ t.link = reopened-keeps (λ (x : Talk). x.link) (λ x q cs. refl) t.channels (connected t) in
        let input : (on_open_ok t).input ≡ t.input = reopened-keeps (λ (x : Talk). x.input) (λ x q cs. refl) t.channels (connected t) in
        let closed : (on_open_ok t).server_close ≡ t.server_close = reopened-keeps (λ (x : Talk). x.server_close) (λ x q cs. refl) t.channels (connected t) in
        subst (λ (c : Option ServerClose). R (on_open_ok t).link (on_open_ok t).input c) (sym closed)
        (subst (λ (i : Input). R (on_open_ok t).link i t.server_close) (sym input) (subst (λ (l : Link ErrorKind). R l t.input t.server_close) (sym link) h))

    connection-in : (s : ConnectionState) (p : Phase) (m : AnyMethod) → t.state ≡ s
        → ((code : ℕ) (text : List ℕ) (class method : ℕ) → m ≡ Close code text class method → In R (on_connection_close code text t))
        → (m ≡ CloseOk → t.state ≡ Closing → In R (close t)) → In R (connection_rule s p m answers t)
    connection-in s p (Close code text class method) is closes ends = closes code text class method refl
    connection-in s p (Blocked reason) is closes ends = h
    connection-in s p Unblocked is closes ends = h
    connection-in Closing p CloseOk is closes ends = closed-in (awaited_promise 0 ConnectionClosed t.outbox) (ends refl is)
    connection-in Closing p m is closes ends = h
    connection-in Connecting AwaitStart (Start a b c d e) is closes ends = start-keeps (In R) in-lost answers t h (λ mechanism response. h)
    connection-in Connecting AwaitTune (Secure challenge) is closes ends = secure-keeps (In R) in-lost answers t h (λ response. h)
    connection-in Connecting AwaitTune (Tune a b c) is closes ends = h
    connection-in Connecting AwaitOpenOk OpenOk is closes ends = opened-in
    connection-in Connected p UpdateSecretOk is closes ends = secret-in (awaited_promise 0 SecretDone t.outbox)
    connection-in held p m is closes ends = in-lost (InvalidConnectionState held) t h

    closed-rule-in : (f : Frame) → In R (closed_rule f t)
    closed-rule-in (Method zero (Blocked reason)) = h
    closed-rule-in (Method zero Unblocked) = h
    closed-rule-in f = h

    rule-in : (f : Frame)
        → ((code : ℕ) (text : List ℕ) (class method : ℕ) → f ≡ Method 0 (Close code text class method) → In R (on_connection_close code text t))
        → (f ≡ Method 0 CloseOk → t.state ≡ Closing → In R (close t)) → In R (frame_rule f answers t)
    rule-in (ProtocolHeader version) closes ends = in-lost (InvalidProtocolVersion version) t h
    rule-in Heartbeat closes ends = h
    rule-in (Method zero m) closes ends =
        if_case (In R) (is_of_a_channel m) (misplaced (stray_channel_frame RawMethod) t) (connection_rule t.state t.phase m answers t)
        (misplaced-keeps (In R) in-lost (stray_channel_frame RawMethod) t h)
        (connection-in t.state t.phase m refl (λ code text class method is. closes code text class method (ap (λ (x : AnyMethod). Method 0 x) is))
        (λ is. ends (ap (λ (x : AnyMethod). Method 0 x) is)))
    rule-in (Method (suc n) m) closes ends = channel-method-keeps (In R) channels (suc n) m t h
    rule-in (Raw zero kind bytes) closes ends = misplaced-keeps (In R) in-lost (stray_channel_frame kind) t h
    rule-in (Raw (suc n) kind bytes) closes ends = raw-keeps (In R) in-lost passed (suc n) kind bytes t h

    -- a frame, by what the two do that close the connection
    pub in-frame : (f : Frame)
        → ((code : ℕ) (text : List ℕ) (class method : ℕ) → acts t ≡ true → f ≡ Method 0 (Close code text class method) → In R (on_connection_close code text t))
        → (acts t ≡ true → f ≡ Method 0 CloseOk → t.state ≡ Closing → In R (close t)) → In R (on_frame f answers t)
    in-frame f closes ends =
        if_by (In R) (acts t) (frame_rule f answers t) (if hears_on t then closed_rule f t else t)
        (λ on. rule-in f (λ code text class method is. closes code text class method on is) (ends on))
        (λ off. if_case (In R) (hears_on t) (closed_rule f t) t (closed-rule-in f) h)

  -- ---- what may end the session Closed

  module _ (closes : (l : Link ErrorKind) (i : Input) (c : Option ServerClose) → R l i c → R (Ended (Ok tt)) i c) where
    finish-in : (o : Option ServerClose) (t : Talk) → In R t → In R (finish_by o t)
    finish-in None t h = closes t.link t.input t.server_close h
    finish-in (Some WithoutError) t h = closes t.link t.input t.server_close h
    finish-in (Some (WithError e)) t h = in-lost (ProtocolError e) t h

    pub in-gone : (fault : IoFault) (t : Talk) → In R t → In R (lost fault t)
    in-gone fault t h =
        if_case (In R) (acts t) (lose (IOError fault) t) (if is_open t then finish t else t) (in-lost (IOError fault) t h)
        (if_case (In R) (is_open t) (finish t) t (finish-in t.server_close t h) h)

    follow-in : (th : Then) (t : Talk) → In R t → In R (follow th t)
    follow-in Nothing t h = h
    follow-in (Answer number) t h = h
    follow-in (Pays n) t h =
        pay-case (In R) (channel_at n t) n t (λ none. h) (λ c found unowed. h) (λ c found owes awaits. h) (λ c found owes left. h)
    follow-in Finish t h = finish-in t.server_close t h

    sent-in : (ms : List Mark) (n : ℕ) (t : Talk) → In R t → In R (sent_among ms n t)
    sent-in [] n t h = h
    sent-in (m ∷ ms) n t h =
        let some : Talk = sent_among ms (n - m.left) (sent m t) in
        let part : Talk = record t { committed = record m { left = m.left - n } ∷ ms } in
        if_case (In R) (is_open t) (if nat_le m.left n then some else part) t
        (if_case (In R) (nat_le m.left n) some part
        (sent-in ms (n - m.left) (sent m t) (follow-in m.then (record t { committed = drop 1 t.committed }) h)) h) h

    pub in-taken : (n : ℕ) (t : Talk) → In R t → In R (taken n t)
    in-taken n t h =
        let u : Talk = record t { last_write = t.present } in
        if_case (In R) (is_open t && not (n == 0)) (sent_among t.committed n u) t (sent-in t.committed n u h) h

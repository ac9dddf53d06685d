-- The promise that opened a channel is that of a command which opens one, and it opens no other: so with the listed
-- channels, the promises, what is awaited and what was handed out, through every rule but commands.
use Rattle.std.proofs.Common.{◌≡◌, ◌≢◌, ◌≤◌, ◌⊎◌, inl, inr, ◌∙◌, ap, sym, subst, refl, ℕ, zero, suc, ◌-◌, ◌==◌, ◌&&◌, not, nat_le, max, if◌then◌else◌, cond, Bool, true, false, true≢false, List, [], ◌∷◌, ◌++◌, length, drop, Option, Some, None, Result, Ok, Err}
use Rattle.std.specs.Prelude.{filter, find}
use Rattle.std.specs.Option.{option_map}
use Rattle.std.specs.List.{AllByRecursion}
use Rattle.std.specs.Map.{keys_of}
use Rattle.amqp_types.specs.declared.word.Word.TheVariants as word
use Rattle.amqp_frame.specs.declared.frame.Frame.{Frame}
use Rattle.amqp_frame.specs.declared.frame.Frame.TheVariants.{ProtocolHeader, Method, Raw, Heartbeat}
use Rattle.amqp_frame.specs.declared.frame.RawKind.{RawKind}
use Rattle.amqp_frame.specs.declared.frame.RawKind.TheVariants.{RawMethod}
use Rattle.amqp_frame.specs.declared.method.Method.{Method as AnyMethod}
use Rattle.amqp_frame.specs.declared.method.Method.TheVariants.{Start, Secure, Tune, OpenOk, Close, CloseOk, Blocked, Unblocked, UpdateSecretOk, ChannelOpenOk, ChannelClose, ChannelCloseOk, ChannelFlow, ChannelFlowOk}
use Rattle.amqp_frame.specs.Methods.{is_of_a_channel}
use Rattle.amqp_outbox.specs.declared.item.Item.{Item}
use Rattle.amqp_outbox.specs.declared.reply.Awaited.{Awaited}
use Rattle.amqp_outbox.specs.declared.reply.Reply.{Reply}
use Rattle.amqp_outbox.specs.declared.reply.Reply.TheVariants.{ChannelOpened, ChannelClosed, FlowDone, SecretDone, ConnectionClosed}
use Rattle.amqp_outbox.specs.Items.{promise_of_group}
use Rattle.amqp_outbox.specs.Lists.{without_first}
use Rattle.amqp_outbox.specs.Replies.{method_of, is_of, awaited_on, left_on, expected, first_awaited, left_awaited}
use Rattle.amqp_outbox.specs.Queued.{Queued, after_next, awaited_promise, without_awaited}
use Rattle.amqp_promise.specs.declared.io_fault.IoFault.{IoFault}
use Rattle.amqp_promise.specs.declared.io_fault.IoFault.TheVariants.{Refused}
use Rattle.amqp_promise.specs.declared.state.ConnectionState.{ConnectionState}
use Rattle.amqp_promise.specs.declared.state.ConnectionState.TheVariants.{Connecting, Connected, Closing}
use Rattle.amqp_promise.specs.declared.state.ChannelState.{ChannelState}
use Rattle.amqp_promise.specs.declared.state.ChannelState.TheVariants as channel
use Rattle.amqp_promise.specs.declared.error.ErrorKind.{ErrorKind}
use Rattle.amqp_promise.specs.declared.error.ErrorKind.TheVariants.{InvalidProtocolVersion, InvalidChannel, InvalidChannelState, InvalidConnectionState, IOError, NoMemory, ProtocolError, SerialisationError}
use Rattle.amqp_auth.specs.declared.asked.Asked.{Asked as ProviderAnswer}
use Rattle.amqp_channels.specs.declared.channels.Channel.{Channel}
use Rattle.amqp_channels.specs.declared.channels.Debt.{Debt}
use Rattle.amqp_channels.specs.declared.channels.Debt.TheVariants as debt
use Rattle.amqp_rules.specs.declared.state.Phase.{Phase}
use Rattle.amqp_rules.specs.declared.state.Phase.TheVariants.{AwaitStart, AwaitTune, AwaitOpenOk}
use Rattle.amqp_outgoing.specs.declared.committed.Mark.{Mark}
use Rattle.amqp_outgoing.specs.declared.committed.Then.{Then}
use Rattle.amqp_outgoing.specs.declared.committed.Then.TheVariants.{Nothing, Answer, Pays, Finish}
use Rattle.amqp_violations.specs.declared.server_close.ServerClose.{ServerClose}
use Rattle.amqp_violations.specs.declared.server_close.ServerClose.TheVariants.{WithoutError, WithError}
use Rattle.amqp_commands.specs.declared.command.Cmd.{Cmd}
use Rattle.amqp_commands.specs.declared.command.Cmd.TheVariants.{OpenChannel}
use Rattle.amqp_answers.specs.declared.answer.Answer.{Answer as AnyAnswer}
use Rattle.amqp_answers.specs.declared.answer.Answer.TheVariants as says
use Rattle.amqp_answers.specs.declared.handed.Handed.{Handed}
use Rattle.amqp_violations.specs.declared.misread.Misread.{Misread}
use Rattle.amqp_maps.specs.Listed.{at, put, without}
use Rattle.amqp_rules.specs.Talk.{Talk, acts, hears_on, has_ended, is_asked, is_open}
use Rattle.amqp_answers.specs.Settled.{Promises, settled, settled_by, settled_to, rejected_slot, rejected_all}
use Rattle.amqp_rules.specs.Changes.{rejected, rejected_each, promises_on, replies_on, present_at, queue, await, fail, lose, misplaced, close, finish, finish_by, starve}
use Rattle.amqp_rules.specs.Channels.{channel_at}
use Rattle.amqp_channels.specs.Channels.{made_answered}
use Rattle.amqp_settings.specs.Handshake.{channel_open}
use Rattle.amqp_rules.specs.Links.{asked, linked, refused_after, link_failed, piece, misread, lost}
use Rattle.amqp_rules.specs.Recovery.{next_delay, reconnect}
use Rattle.amqp_channels.specs.Kept.{is_kept_in, reconnecting}
use Rattle.amqp_violations.specs.Violations.{channel_closed_with, stray_channel_frame, stray_connection_method, unawaited}
use Rattle.amqp_rules.specs.ConnectionMethods.{connected, reopen, reopen_each, secret_taken, connection_closed, connection_rule, on_start, on_secure}
use Rattle.amqp_rules.specs.ChannelMethods.{heard_on, unawaited_channel_method, channel_opened, remove_channel, remove_unless_owed, channel_closed, on_channel_flow, channel_flowed, closed_by_server, crossing_close, channel_close_by, channel_rule, channel_method_by, channel_method, is_select_ok, frames_of, hand_out, confirmed, raw_by}
use Rattle.amqp_rules.specs.Frames.{method_on, method_rule, frame_rule, closed_rule, on_frame}
use Rattle.amqp_rules.specs.Ticks.{tick}
use Rattle.amqp_rules.specs.Writing.{next_within, committed_as, commit, pay, follow, sent, sent_among, taken, end_overlong}
use Rattle.amqp_rules.specs.Answers.{take_frames}
use Rattle.amqp_rules.specs.Sound.{IsSound, Ascend}
use Rattle.amqp_types.proofs.Small.{if_case, some_is, all-push}
use Rattle.amqp_rules.proofs.AwaitedOn.{first-opening}
use Rattle.amqp_rules.proofs.Recovering.{lose-case}
use Rattle.amqp_rules.proofs.Walk.{TickRows, close_answered, misplaced-keeps, misread-keeps, start-keeps, secure-keeps, tick-keeps, pay-case}
use Rattle.amqp_carried_rules.proofs.Bearing.{command_at}
use Rattle.amqp_carried_rules.proofs.Borne.{all-out}
use Rattle.amqp_carried_rules.proofs.Entries.{Each, each-put, each-without, each-at, each-map, each-filter, each-list, each-gone, each-both}
use Rattle.amqp_rules.proofs.SoundFrames.{heard-listed}
use Rattle.amqp_rules.proofs.Soundness.{next-awaits}

-- ---- what is known

-- a promise is that of a command that opens a channel, and it opens this number
pub record IsOpener (cs : List Cmd) (opens : ℕ → ℕ) (n p : ℕ) : Type 0 where
  pub command : command_at cs p ≡ Some OpenChannel
  pub number : opens p ≡ n
  pub some : 1 ≤ n

-- it does, and is the last that does
pub record IsLatest (cs : List Cmd) (opens : ℕ → ℕ) (n p : ℕ) : Type 0 where
  pub opener : IsOpener cs opens n p
  pub last : (q : ℕ) → command_at cs q ≡ Some OpenChannel → opens q ≡ n → q ≤ p

-- a promise was made; and where it is that of a command that opens a channel, and is answered, but not with an error nor
-- Sent, the answer is that the channel is open
pub record AnswersOpening (cs : List Cmd) (opens : ℕ → ℕ) (p : ℕ) (slot : Option (Result AnyAnswer ErrorKind)) : Type 0 where
  pub made : p ≤ length cs
  pub answer : (x : AnyAnswer) → command_at cs p ≡ Some OpenChannel → slot ≡ Some (Ok x) → (x ≡ says.Channel (opens p) p) ⊎ (x ≡ says.Sent)

-- the same, and the answer was not taken
pub record HoldsOpening (cs : List Cmd) (opens : ℕ → ℕ) (gone : ℕ → Bool) (p : ℕ) (slot : Option (Result AnyAnswer ErrorKind)) : Type 0 where
  pub untaken : gone p ≡ false
  pub made : p ≤ length cs
  pub answer : (x : AnyAnswer) → command_at cs p ≡ Some OpenChannel → slot ≡ Some (Ok x) → (x ≡ says.Channel (opens p) p) ⊎ (x ≡ says.Sent)

-- the promise that awaits a reply was made; and where it is that of a command that opens a channel, the reply is open-ok
abbrev pub AwaitsAs : List Cmd → Reply → Option ℕ → Type 0
AwaitsAs cs reply None = Unit {0}
AwaitsAs cs reply (Some p) = (p ≤ length cs) × (command_at cs p ≡ Some OpenChannel → reply ≡ ChannelOpened)

abbrev pub AwaitsOpening : List Cmd → Awaited → Type 0
AwaitsOpening cs a = AwaitsAs cs a.reply a.promise

-- so it is with a session that was told these commands, and of which these answers were taken
pub record KnowsOpeners (cs : List Cmd) (opens : ℕ → ℕ) (gone : ℕ → Bool) (t : Talk) : Type 0 where
  pub listed : Each (λ n (c : Channel). IsLatest cs opens n c.opened) t.channels
  pub held : Each (HoldsOpening cs opens gone) t.promises
  pub awaited : Each (λ n list. AllByRecursion (AwaitsOpening cs) list) t.outbox.awaited
  pub handed : Each (λ p hs. AllByRecursion (λ (h : Handed). IsOpener cs opens h.channel p) hs) t.handed

-- ---- small cases

-- what the loss of a link leaves of an answer
slot-kept : (e : ErrorKind) (n : ℕ) (slot : Option (Result AnyAnswer ErrorKind)) (x : AnyAnswer) → rejected_slot e n slot ≡ Some (Ok x) → slot ≡ Some (Ok x)
slot-kept e zero slot x is = is
slot-kept e (suc n) None x is = absurd cc
slot-kept e (suc n) (Some answer) x is = is

pub next-awaited : (flow : Bool) (q : Queued) → (after_next flow q).awaited ≡ q.awaited
next-awaited flow q = next-awaits flow q.begun q

module _ (cs : List Cmd) (opens : ℕ → ℕ) (gone : ℕ → Bool) where
  abbrev Listed : ℕ → Channel → Type 0
  Listed n c = IsLatest cs opens n c.opened

  abbrev Waiting : ℕ → List Awaited → Type 0
  Waiting n list = AllByRecursion (AwaitsOpening cs) list

  abbrev Given : ℕ → List Handed → Type 0
  Given p hs = AllByRecursion (λ (h : Handed). IsOpener cs opens h.channel p) hs

  abbrev pub Knows : Talk → Type 0
  Knows t = KnowsOpeners cs opens gone t

  -- ---- promises

  -- an answer that a promise may get
  abbrev pub MayGet : ℕ → Result AnyAnswer ErrorKind → Type 0
  MayGet p x = (y : AnyAnswer) → command_at cs p ≡ Some OpenChannel → x ≡ Ok y → (y ≡ says.Channel (opens p) p) ⊎ (y ≡ says.Sent)

  held-by : (o : Option (Option (Result AnyAnswer ErrorKind))) (p : ℕ) (x : Result AnyAnswer ErrorKind) (ps : Promises) → at p ps ≡ o → MayGet p x → Each (HoldsOpening cs opens gone) ps
      → Each (HoldsOpening cs opens gone) (settled_by o p x ps)
  held-by None p x ps is may h = h
  held-by (Some None) p x ps is may h =
      let before : HoldsOpening cs opens gone p None = each-at (HoldsOpening cs opens gone) p ps None h is in
      each-put (HoldsOpening cs opens gone) p (Some x) ps (record { untaken = before.untaken; made = before.made; answer = λ y told e. may y told (some_is x (Ok y) e) }) h
  held-by (Some (Some y)) p x ps is may h = h

  -- a promise gets an answer
  pub held-give : (p : ℕ) (x : Result AnyAnswer ErrorKind) (ps : Promises) → MayGet p x → Each (HoldsOpening cs opens gone) ps → Each (HoldsOpening cs opens gone) (settled p x ps)
  held-give p x ps may h = held-by (at p ps) p x ps refl may h

  pub held-to : (o : Option ℕ) (x : Result AnyAnswer ErrorKind) (ps : Promises) → ((p : ℕ) → o ≡ Some p → MayGet p x) → Each (HoldsOpening cs opens gone) ps
      → Each (HoldsOpening cs opens gone) (settled_to o x ps)
  held-to None x ps may h = h
  held-to (Some p) x ps may h = held-give p x ps (may p refl) h

  any-error : (e : ErrorKind) (p : ℕ) → MayGet p (Err e)
  any-error e p y told is = absurd cc

  pub held-rejected : (e : ErrorKind) (groups : List (List Item)) (ps : Promises) → Each (HoldsOpening cs opens gone) ps → Each (HoldsOpening cs opens gone) (rejected e groups ps)
  held-rejected e [] ps h = h
  held-rejected e (g ∷ groups) ps h =
      held-rejected e groups (settled_to (promise_of_group g) (Err e) ps) (held-to (promise_of_group g) (Err e) ps (λ p is. any-error e p) h)

  pub held-each : (e : ErrorKind) (named : List (Option ℕ)) (ps : Promises) → Each (HoldsOpening cs opens gone) ps → Each (HoldsOpening cs opens gone) (rejected_each e named ps)
  held-each e [] ps h = h
  held-each e (o ∷ named) ps h = held-each e named (settled_to o (Err e) ps) (held-to o (Err e) ps (λ p is. any-error e p) h)

  held-all : (e : ErrorKind) (ps : Promises) → Each (HoldsOpening cs opens gone) ps → Each (HoldsOpening cs opens gone) (rejected_all e ps)
  held-all e ps h =
      each-map (HoldsOpening cs opens gone) (rejected_slot e) (λ p slot s. record { untaken = s.untaken; made = s.made; answer = λ y told is. s.answer y told (slot-kept e p slot y is) }) ps h

  -- ---- what is awaited

  waiting-on : (n : ℕ) (ws : List (ℕ × List Awaited)) → Each Waiting ws → AllByRecursion (AwaitsOpening cs) (awaited_on n ws)
  waiting-on n ws h = each-list (λ m. AwaitsOpening cs) n ws h

  -- one more reply is awaited
  pub waiting-more : (n : ℕ) (a : Awaited) (ws : List (ℕ × List Awaited)) → AwaitsOpening cs a → Each Waiting ws → Each Waiting (expected n a ws)
  waiting-more n a ws one h = each-put Waiting n (awaited_on n ws ++ a ∷ []) ws (all-push (AwaitsOpening cs) (awaited_on n ws) a (waiting-on n ws h) one) h

  waiting-left : (n : ℕ) (list : List Awaited) (ws : List (ℕ × List Awaited)) → AllByRecursion (AwaitsOpening cs) list → Each Waiting ws → Each Waiting (left_on n list ws)
  waiting-left n [] ws l h = each-without Waiting n ws h
  waiting-left n (a ∷ list) ws l h = each-put Waiting n (a ∷ list) ws l h

  -- a reply came
  waiting-less : (n : ℕ) (r : Reply) (ws : List (ℕ × List Awaited)) → Each Waiting ws → Each Waiting (left_awaited n r ws)
  waiting-less n r ws h =
      waiting-left n (without_first (is_of r) (awaited_on n ws)) ws (all-out (AwaitsOpening cs) (is_of r) (awaited_on n ws) (waiting-on n ws h)) h

  -- the first that awaits a reply
  first-of : (r : Reply) (list : List Awaited) (a : Awaited) → AllByRecursion (AwaitsOpening cs) list → find (is_of r) list ≡ Some a → AwaitsOpening cs a × (is_of r a ≡ true)
  first-of r [] a h is = absurd cc
  first-of r (x ∷ list) a h is = by (is_of r x) refl (first-of r list a h.1) is where
    by : (b : Bool) → is_of r x ≡ b → (find (is_of r) list ≡ Some a → AwaitsOpening cs a × (is_of r a ≡ true)) → cond b (Some x) (find (is_of r) list) ≡ Some a
        → AwaitsOpening cs a × (is_of r a ≡ true)
    by true here rest found = (let same : x ≡ a = cc in (subst (AwaitsOpening cs) same h.0, ap (is_of r) (sym same) ∙ here))
    by false here rest found = rest found

  -- who awaits another reply than open-ok is no command that opens a channel
  awaits-other : (n : ℕ) (r : Reply) (q : Queued) (promise : Option ℕ) (p : ℕ) → Each Waiting q.awaited → awaited_promise n r q ≡ Some promise → (method_of ChannelOpened == method_of r) ≡ false
      → promise ≡ Some p → command_at cs p ≡ Some OpenChannel → ⊥
  awaits-other n r q promise p h is apart named told = by (first_awaited n r q.awaited) refl is where
    by : (o : Option Awaited) → first_awaited n r q.awaited ≡ o → option_map (λ (a : Awaited). a.promise) o ≡ Some promise → ⊥
    by None first is = cc
    by (Some a) first is =
        let f = first-of r (awaited_on n q.awaited) a (waiting-on n q.awaited h) first in
        let same : a.promise ≡ Some p = some_is a.promise promise is ∙ named in
        let A : Option ℕ → Type 0 = λ o. AwaitsAs cs a.reply o in
        let fits : AwaitsAs cs a.reply (Some p) = subst A same f.0 in
        let reply : a.reply ≡ ChannelOpened = fits.1 told in
        let opens_it : (method_of ChannelOpened == method_of r) ≡ true = ap (λ x. method_of x == method_of r) (sym reply) ∙ f.1 in
        true≢false (sym opens_it ∙ apart)

  -- so it may get any answer
  gets-other : (n : ℕ) (r : Reply) (q : Queued) (promise : Option ℕ) (x : Result AnyAnswer ErrorKind) → Each Waiting q.awaited → awaited_promise n r q ≡ Some promise
      → (method_of ChannelOpened == method_of r) ≡ false → (p : ℕ) → promise ≡ Some p → MayGet p x
  gets-other n r q promise x h is apart p named y told e = absurd (awaits-other n r q promise p h is apart named told)

  -- ---- ends

  knows-fail : (e : ErrorKind) (t : Talk) → Knows t → Knows (fail e t)
  knows-fail e t h = record { listed = tt; held = h.held; awaited = h.awaited; handed = h.handed }

  knows-reconnect : (e : ErrorKind) (delay : ℕ) (t : Talk) → Knows t → Knows (reconnect e delay t)
  knows-reconnect e delay t h =
      let stays : ℕ × Channel → Bool = λ c. is_kept_in (c.1).state in
      record {
        listed = each-map Listed (λ n c. reconnecting c) (λ n c o. o) (filter stays t.channels) (each-filter Listed stays t.channels h.listed);
        held = held-all e t.promises h.held;
        awaited = tt;
        handed = h.handed;
      }

  pub knows-lose : (e : ErrorKind) (t : Talk) → Knows t → Knows (lose e t)
  knows-lose e t h = lose-case Knows e t (λ delay. knows-reconnect e delay t h) (knows-fail e t h)

  knows-close : (t : Talk) → Knows t → Knows (close t)
  knows-close t h = record { listed = tt; held = h.held; awaited = h.awaited; handed = h.handed }

  knows-finish : (o : Option ServerClose) (t : Talk) → Knows t → Knows (finish_by o t)
  knows-finish None t h = knows-close t h
  knows-finish (Some WithoutError) t h = knows-close t h
  knows-finish (Some (WithError e)) t h = knows-lose (ProtocolError e) t h

  pub knows-starve : (t : Talk) → Knows t → Knows (starve t)
  knows-starve t h = if_case Knows (has_ended t) t (fail NoMemory t) h (knows-fail NoMemory t h)

  pub knows-moment : (at : ℕ) (t : Talk) → Knows t → Knows (present_at at t)
  knows-moment at t h =
      if_case Knows (has_ended t) t (record t { present = max t.present at }) h (record { listed = h.listed; held = h.held; awaited = h.awaited; handed = h.handed })

  -- ---- channels

  -- a listed channel changes, and what opened it stays
  changed : (n : ℕ) (c c' : Channel) (t : Talk) → channel_at n t ≡ Some c → c'.opened ≡ c.opened → Knows t → Each Listed (put n c' t.channels)
  changed n c c' t there same h =
      let own : IsLatest cs opens n c.opened = each-at Listed n t.channels c h.listed there in
      each-put Listed n c' t.channels (subst (λ p. IsLatest cs opens n p) (sym same) own) h.listed

  knows-removed : (n : ℕ) (t : Talk) → Knows t → Knows (remove_channel n t)
  knows-removed n t h = record { listed = each-without Listed n t.channels h.listed; held = h.held; awaited = h.awaited; handed = h.handed }

  knows-unawaited : (n : ℕ) (s : ChannelState) (m : AnyMethod) (t : Talk) → Knows t → Knows (unawaited_channel_method n s m t)
  knows-unawaited n channel.Closing m t h = h
  knows-unawaited n _ m t h = knows-lose (unawaited m n) t h

  -- open-ok answers the promise that opened the channel
  knows-opened : (n : ℕ) (c : Channel) (o : Option (Option ℕ)) (t : Talk) → awaited_promise n ChannelOpened t.outbox ≡ o → channel_at n t ≡ Some c → IsSound t → Knows t → Knows (channel_opened n c o t)
  knows-opened n c None t is there s h = knows-unawaited n c.state ChannelOpenOk t h
  knows-opened n c (Some promise) t is there s h =
      record {
        listed = changed n c (record c { state = channel.Connected }) t there refl h;
        held = held-to promise (Ok (says.Channel n c.opened)) t.promises may h.held;
        awaited = waiting-less n ChannelOpened t.outbox.awaited h.awaited;
        handed = h.handed;
      }
    where
      own : IsOpener cs opens n c.opened
      own = (each-at Listed n t.channels c h.listed there).opener

      may : (p : ℕ) → promise ≡ Some p → MayGet p (Ok (says.Channel n c.opened))
      may p named y told e =
          let first : p ≡ c.opened =
          first-opening (λ k. k ≡ c.opened) (awaited_on n t.outbox.awaited) p (s.channels.opening n c there) (is ∙ ap (λ (o : Option ℕ). Some o) named) in
          let number : n ≡ opens p = sym own.number ∙ ap opens (sym first) in
          let same : says.Channel n c.opened ≡ y = cc in
          inl (sym same ∙ ap (λ m. says.Channel m c.opened) number ∙ ap (λ k. says.Channel (opens p) k) (sym first))

  -- close-ok answers our close
  knows-answered : (n : ℕ) (promise : Option ℕ) (t : Talk) → awaited_promise n ChannelClosed t.outbox ≡ Some promise → Knows t → Knows (close_answered n promise t)
  knows-answered n promise t is h =
      let e : ErrorKind = InvalidChannelState channel.Closed word.ChannelCloseOkReceived in
      record {
        listed = h.listed;
        held =
            held-each e (replies_on n (without_awaited n ChannelClosed t.outbox)) (settled_to promise (Ok says.Done) t.promises)
            (held-to promise (Ok says.Done) t.promises (gets-other n ChannelClosed t.outbox promise (Ok says.Done) h.awaited is refl) h.held);
        awaited = each-without Waiting n (left_awaited n ChannelClosed t.outbox.awaited) (waiting-less n ChannelClosed t.outbox.awaited h.awaited);
        handed = h.handed;
      }

  knows-owed : (d : Debt) (n : ℕ) (c : Channel) (t : Talk) → channel_at n t ≡ Some c → Knows t → Knows (remove_unless_owed d n c t)
  knows-owed debt.Owed n c t there h = record { listed = changed n c (made_answered c) t there refl h; held = h.held; awaited = h.awaited; handed = h.handed }
  knows-owed _ n c t there h = knows-removed n t h

  knows-closed : (n : ℕ) (c : Channel) (o : Option (Option ℕ)) (t : Talk) → awaited_promise n ChannelClosed t.outbox ≡ o → channel_at n t ≡ Some c → Knows t → Knows (channel_closed n c o t)
  knows-closed n c None t is there h = knows-unawaited n c.state ChannelCloseOk t h
  knows-closed n c (Some promise) t is there h = knows-owed c.debt n c (close_answered n promise t) there (knows-answered n promise t is h)

  knows-flow : (s : ChannelState) (n : ℕ) (c : Channel) (active : Bool) (t : Talk) → channel_at n t ≡ Some c → Knows t → Knows (on_channel_flow s n c active t)
  knows-flow channel.Closing n c active t there h = h
  knows-flow _ n c active t there h = record { listed = changed n c (record c { flow = active }) t there refl h; held = h.held; awaited = h.awaited; handed = h.handed }

  knows-flowed : (n : ℕ) (c : Channel) (active : Bool) (o : Option (Option ℕ)) (t : Talk) → awaited_promise n FlowDone t.outbox ≡ o → Knows t → Knows (channel_flowed n c active o t)
  knows-flowed n c active None t is h = knows-unawaited n c.state (ChannelFlowOk active) t h
  knows-flowed n c active (Some promise) t is h =
      record {
        listed = h.listed;
        held = held-to promise (Ok (says.Flow active)) t.promises (gets-other n FlowDone t.outbox promise (Ok (says.Flow active)) h.awaited is refl) h.held;
        awaited = waiting-less n FlowDone t.outbox.awaited h.awaited;
        handed = h.handed;
      }

  knows-server-close : (d : Debt) (n : ℕ) (e : ErrorKind) (c : Channel) (t : Talk) → channel_at n t ≡ Some c → Knows t → Knows (channel_close_by d n e c t)
  knows-server-close debt.Nothing n e c t there h =
      if_case Knows c.awaits_close_ok (crossing_close n e c t) (closed_by_server n e c t)
      (record { listed = changed n c (record c { debt = debt.Owed }) t there refl h; held = h.held; awaited = h.awaited; handed = h.handed })
      (record {
        listed = changed n c (record c { state = channel.Closing; debt = debt.Owed }) t there refl h;
        held = held-each e (promises_on n t.outbox) t.promises h.held;
        awaited = each-without Waiting n t.outbox.awaited h.awaited;
        handed = h.handed;
      })
  knows-server-close _ n e c t there h = h

  knows-channel : (s : ConnectionState) (n : ℕ) (c : Channel) (m : AnyMethod) (t : Talk) → channel_at n t ≡ Some c → IsSound t → Knows t → Knows (channel_rule s n c m t)
  knows-channel Closing n c m t there s h = h
  knows-channel _ n c ChannelOpenOk t there s h = knows-opened n c (awaited_promise n ChannelOpened t.outbox) t refl there s h
  knows-channel _ n c ChannelCloseOk t there s h = knows-closed n c (awaited_promise n ChannelClosed t.outbox) t refl there h
  knows-channel _ n c (ChannelClose code text class method) t there s h = knows-server-close c.debt n (channel_closed_with code text) c t there h
  knows-channel _ n c (ChannelFlow active) t there s h = knows-flow c.state n c active t there h
  knows-channel _ n c (ChannelFlowOk active) t there s h = knows-flowed n c active (awaited_promise n FlowDone t.outbox) t refl h
  knows-channel _ n c m t there s h = knows-unawaited n c.state m t h

  knows-channel-by : (o : Option Channel) (n : ℕ) (m : AnyMethod) (t : Talk) → heard_on t.state (channel_at n t) ≡ o → IsSound t → Knows t → Knows (channel_method_by o n m t)
  knows-channel-by None n m t heard s h = misplaced-keeps Knows knows-lose (InvalidChannel n) t h
  knows-channel-by (Some c) n m t heard s h = knows-channel t.state n c m t (heard-listed t.state (channel_at n t) c heard) s h

  -- a method on another channel than 0
  knows-method-on : (n : ℕ) (m : AnyMethod) (t : Talk) → IsSound t → Knows t → Knows (method_on n m t)
  knows-method-on n m t s h =
      if_case Knows (is_of_a_channel m) (channel_method n m t) (misplaced (stray_connection_method n) t)
      (knows-channel-by (heard_on t.state (channel_at n t)) n m t refl s h) (misplaced-keeps Knows knows-lose (stray_connection_method n) t h)

  -- ---- frames that are passed through

  knows-confirmed : (n : ℕ) (c : Channel) (t : Talk) → channel_at n t ≡ Some c → Knows t → Knows (confirmed n c t)
  knows-confirmed n c t there h = record { listed = changed n c (record c { confirm = true }) t there refl h; held = h.held; awaited = h.awaited; handed = h.handed }

  knows-hand : (opened : ℕ) (x : Handed) (t : Talk) → IsOpener cs opens x.channel opened → Knows t → Knows (hand_out opened x t)
  knows-hand opened x t own h =
      let own_channel : Handed → Type 0 = λ y. IsOpener cs opens y.channel opened in
      record {
        listed = h.listed;
        held = h.held;
        awaited = h.awaited;
        handed =
            each-put Given opened (frames_of opened t ++ x ∷ []) t.handed
            (all-push own_channel (frames_of opened t) x (each-list (λ p (y : Handed). IsOpener cs opens y.channel p) opened t.handed h.handed) own) h.handed;
      }

  knows-raw : (o : Option Channel) (n : ℕ) (kind : RawKind) (bytes : List ℕ) (t : Talk) → heard_on t.state (channel_at n t) ≡ o → Knows t → Knows (raw_by o n kind bytes t)
  knows-raw None n kind bytes t heard h = misplaced-keeps Knows knows-lose (InvalidChannel n) t h
  knows-raw (Some c) n kind bytes t heard h =
      let there : channel_at n t ≡ Some c = heard-listed t.state (channel_at n t) c heard in
      knows-hand c.opened (record { channel = n; kind = kind; bytes = bytes }) (if is_select_ok kind bytes then confirmed n c t else t)
      (each-at Listed n t.channels c h.listed there).opener (if_case Knows (is_select_ok kind bytes) (confirmed n c t) t (knows-confirmed n c t there h) h)

  -- ---- the connection

  knows-connected : (t : Talk) → Knows t → Knows (connected t)
  knows-connected t h =
      record { listed = h.listed; held = held-give 0 (Ok says.Connected) t.promises (λ y told e. absurd cc) h.held; awaited = h.awaited; handed = h.handed }

  knows-reopened : (channels : List (ℕ × Channel)) (t : Talk) → Knows t → Knows (reopen_each channels t)
  knows-reopened [] t h = h
  knows-reopened (c ∷ channels) t h =
      knows-reopened channels (reopen c.0 t)
      (if_case Knows (nat_le c.0 t.configuration.channel_max) (await c.0 ChannelOpened None (queue c.0 (channel_open c.0) t)) (remove_channel c.0 t)
      (record { listed = h.listed; held = h.held; awaited = waiting-more c.0 (record { reply = ChannelOpened; promise = None }) t.outbox.awaited tt h.awaited; handed = h.handed })
      (knows-removed c.0 t h))

  knows-start : (answers : List ProviderAnswer) (t : Talk) → Knows t → Knows (on_start answers t)
  knows-start answers t h =
      start-keeps Knows knows-lose answers t h (λ mechanism response. record { listed = h.listed; held = h.held; awaited = h.awaited; handed = h.handed })

  knows-secure : (answers : List ProviderAnswer) (t : Talk) → Knows t → Knows (on_secure answers t)
  knows-secure answers t h =
      secure-keeps Knows knows-lose answers t h (λ response. record { listed = h.listed; held = h.held; awaited = h.awaited; handed = h.handed })

  knows-secret : (o : Option (Option ℕ)) (t : Talk) → awaited_promise 0 SecretDone t.outbox ≡ o → Knows t → Knows (secret_taken o t)
  knows-secret None t is h = knows-lose (InvalidConnectionState Connected) t h
  knows-secret (Some None) t is h =
      record { listed = h.listed; held = h.held; awaited = waiting-less 0 SecretDone t.outbox.awaited h.awaited; handed = h.handed }
  knows-secret (Some (Some number)) t is h =
      record {
        listed = h.listed;
        held = held-give number (Ok says.Done) t.promises (gets-other 0 SecretDone t.outbox (Some number) (Ok says.Done) h.awaited is refl number refl) h.held;
        awaited = waiting-less 0 SecretDone t.outbox.awaited h.awaited;
        handed = h.handed;
      }

  knows-connection-closed : (o : Option (Option ℕ)) (t : Talk) → awaited_promise 0 ConnectionClosed t.outbox ≡ o → Knows t → Knows (connection_closed o t)
  knows-connection-closed None t is h = knows-close t h
  knows-connection-closed (Some promise) t is h =
      record {
        listed = tt;
        held = held-to promise (Ok says.Done) t.promises (gets-other 0 ConnectionClosed t.outbox promise (Ok says.Done) h.awaited is refl) h.held;
        awaited = waiting-less 0 ConnectionClosed t.outbox.awaited h.awaited;
        handed = h.handed;
      }

  knows-connection : (s : ConnectionState) (p : Phase) (m : AnyMethod) (answers : List ProviderAnswer) (t : Talk) → Knows t → Knows (connection_rule s p m answers t)
  knows-connection s p (Close code text class method) answers t h = record { listed = h.listed; held = h.held; awaited = tt; handed = h.handed }
  knows-connection s p (Blocked reason) answers t h = record { listed = h.listed; held = h.held; awaited = h.awaited; handed = h.handed }
  knows-connection s p Unblocked answers t h = record { listed = h.listed; held = h.held; awaited = h.awaited; handed = h.handed }
  knows-connection Closing p CloseOk answers t h = knows-connection-closed (awaited_promise 0 ConnectionClosed t.outbox) t refl h
  knows-connection Closing p m answers t h = h
  knows-connection Connecting AwaitStart (Start a b c d e) answers t h = knows-start answers t h
  knows-connection Connecting AwaitTune (Secure challenge) answers t h = knows-secure answers t h
  knows-connection Connecting AwaitTune (Tune a b c) answers t h = record { listed = h.listed; held = h.held; awaited = h.awaited; handed = h.handed }
  knows-connection Connecting AwaitOpenOk OpenOk answers t h = knows-reopened t.channels (connected t) (knows-connected t h)
  knows-connection Connected p UpdateSecretOk answers t h = knows-secret (awaited_promise 0 SecretDone t.outbox) t refl h
  knows-connection held p m answers t h = knows-lose (InvalidConnectionState held) t h

  -- ---- frames

  knows-method : (n : ℕ) (m : AnyMethod) (answers : List ProviderAnswer) (t : Talk) → IsSound t → Knows t → Knows (method_rule n m answers t)
  knows-method zero m answers t s h =
      if_case Knows (is_of_a_channel m) (misplaced (stray_channel_frame RawMethod) t) (connection_rule t.state t.phase m answers t)
      (misplaced-keeps Knows knows-lose (stray_channel_frame RawMethod) t h) (knows-connection t.state t.phase m answers t h)
  knows-method (suc n) m answers t s h = knows-method-on (suc n) m t s h

  knows-rule : (f : Frame) (answers : List ProviderAnswer) (t : Talk) → IsSound t → Knows t → Knows (frame_rule f answers t)
  knows-rule (ProtocolHeader version) answers t s h = knows-lose (InvalidProtocolVersion version) t h
  knows-rule Heartbeat answers t s h = h
  knows-rule (Method n m) answers t s h = knows-method n m answers t s h
  knows-rule (Raw zero kind bytes) answers t s h = misplaced-keeps Knows knows-lose (stray_channel_frame kind) t h
  knows-rule (Raw (suc n) kind bytes) answers t s h = knows-raw (heard_on t.state (channel_at (suc n) t)) (suc n) kind bytes t refl h

  knows-closed-rule : (f : Frame) (t : Talk) → Knows t → Knows (closed_rule f t)
  knows-closed-rule (Method zero (Blocked reason)) t h = record { listed = h.listed; held = h.held; awaited = h.awaited; handed = h.handed }
  knows-closed-rule (Method zero Unblocked) t h = record { listed = h.listed; held = h.held; awaited = h.awaited; handed = h.handed }
  knows-closed-rule f t h = h

  -- a frame
  pub knows-frame : (f : Frame) (answers : List ProviderAnswer) (t : Talk) → IsSound t → Knows t → Knows (on_frame f answers t)
  knows-frame f answers t s h =
      if_case Knows (acts t) (frame_rule f answers t) (if hears_on t then closed_rule f t else t) (knows-rule f answers t s h)
      (if_case Knows (hears_on t) (closed_rule f t) t (knows-closed-rule f t h) h)

  -- ---- links

  pub knows-asked : (t : Talk) → Knows t → Knows (asked t)
  knows-asked t h = record { listed = h.listed; held = h.held; awaited = h.awaited; handed = h.handed }

  pub knows-linked : (t : Talk) → Knows t → Knows (linked t)
  knows-linked t h = if_case Knows (is_asked t) _ t (record { listed = h.listed; held = h.held; awaited = tt; handed = h.handed }) h

  knows-refused : (delay : Option ℕ) (t : Talk) → Knows t → Knows (refused_after delay t)
  knows-refused None t h = knows-fail (IOError Refused) t h
  knows-refused (Some delay) t h = record { listed = h.listed; held = h.held; awaited = h.awaited; handed = h.handed }

  pub knows-failed : (t : Talk) → Knows t → Knows (link_failed t)
  knows-failed t h = if_case Knows (is_asked t) (refused_after (next_delay t) t) t (knows-refused (next_delay t) t h) h

  pub knows-piece : (t : Talk) → Knows t → Knows (piece t)
  knows-piece t h =
      if_case Knows (is_open t) (record t { last_read = t.present }) t (record { listed = h.listed; held = h.held; awaited = h.awaited; handed = h.handed }) h

  pub knows-misread : (why : Misread) (t : Talk) → Knows t → Knows (misread why t)
  knows-misread why t h = misread-keeps Knows knows-lose (λ x k. record { listed = k.listed; held = k.held; awaited = k.awaited; handed = k.handed }) why t h

  pub knows-lost : (fault : IoFault) (t : Talk) → Knows t → Knows (lost fault t)
  knows-lost fault t h =
      if_case Knows (acts t) (lose (IOError fault) t) (if is_open t then finish t else t)
      (knows-lose (IOError fault) t h) (if_case Knows (is_open t) (finish t) t (knows-finish t.server_close t h) h)

  -- ---- time

  due : TickRows Knows
  due = record {
    lost = knows-lose;
    beats = λ t h. record { listed = h.listed; held = h.held; awaited = h.awaited; handed = h.handed };
    refreshes = λ secret t h. record { listed = h.listed; held = h.held; awaited = waiting-more 0 (record { reply = SecretDone; promise = None }) t.outbox.awaited tt h.awaited; handed = h.handed };
    retains = λ text t h. record { listed = h.listed; held = h.held; awaited = h.awaited; handed = h.handed };
    wants = λ t h. record { listed = h.listed; held = h.held; awaited = h.awaited; handed = h.handed };
  }

  pub knows-tick : (answers : List ProviderAnswer) (t : Talk) → Knows t → Knows (tick answers t)
  knows-tick answers t h = tick-keeps Knows due answers t h

  -- ---- frames that go out

  knows-pay : (o : Option Channel) (n : ℕ) (t : Talk) → channel_at n t ≡ o → Knows t → Knows (pay o n t)
  knows-pay o n t there h =
      pay-case Knows o n t (λ is. h) (λ c is unowed. h)
      (λ c is owes awaits. record { listed = changed n c (record c { debt = debt.Paid }) t (there ∙ is) refl h; held = h.held; awaited = h.awaited; handed = h.handed })
      (λ c is owes gone. record { listed = each-without Listed n t.channels h.listed; held = h.held; awaited = h.awaited; handed = h.handed })

  knows-follow : (th : Then) (t : Talk) → Knows t → Knows (follow th t)
  knows-follow Nothing t h = h
  knows-follow (Answer p) t h =
      record {
        listed = h.listed;
        held = held-give p (Ok says.Sent) t.promises (λ y told e. (let same : says.Sent ≡ y = cc in inr (sym same))) h.held;
        awaited = h.awaited;
        handed = h.handed;
      }
  knows-follow (Pays n) t h = knows-pay (channel_at n t) n t refl h
  knows-follow Finish t h = knows-finish t.server_close t h

  knows-among : (ms : List Mark) (n : ℕ) (t : Talk) → Knows t → Knows (sent_among ms n t)
  knows-among [] n t h = h
  knows-among (m ∷ ms) n t h =
      let on : Talk = sent_among ms (n - m.left) (sent m t) in
      let rest : Talk = record t { committed = record m { left = m.left - n } ∷ ms } in
      if_case Knows (is_open t) (if nat_le m.left n then on else rest) t
      (if_case Knows (nat_le m.left n) on rest
      (knows-among ms (n - m.left) (sent m t)
      (knows-follow m.then (record t { committed = drop 1 t.committed }) (record { listed = h.listed; held = h.held; awaited = h.awaited; handed = h.handed })))
      (record { listed = h.listed; held = h.held; awaited = h.awaited; handed = h.handed })) h

  pub knows-taken : (n : ℕ) (t : Talk) → Knows t → Knows (taken n t)
  knows-taken n t h =
      let x : Talk = record t { last_write = t.present } in
      if_case Knows (is_open t && not (n == 0)) (sent_among t.committed n x) t
      (knows-among t.committed n x (record { listed = h.listed; held = h.held; awaited = h.awaited; handed = h.handed })) h

  -- frames are committed
  knows-committed : (o : Option Item) (t : Talk) → Knows t → Knows (committed_as o t)
  knows-committed None t h = h
  knows-committed (Some item) t h =
      record { listed = h.listed; held = h.held; awaited = subst (λ ws. Each Waiting ws) (sym (next-awaited _ t.outbox)) h.awaited; handed = h.handed }

  pub knows-commit : (space : ℕ) (t : Talk) → Knows t → Knows (commit space t)
  knows-commit space t h = knows-committed (next_within space t) t h

  pub knows-overlong : (o : Option ℕ) (t : Talk) → Knows t → Knows (end_overlong o t)
  knows-overlong None t h = h
  knows-overlong (Some size) t h = knows-lose (SerialisationError size) t h

  -- ---- what is taken

  pub knows-frames : (opened : ℕ) (t : Talk) → Knows t → Knows (take_frames opened t)
  knows-frames opened t h = record { listed = h.listed; held = h.held; awaited = h.awaited; handed = each-without Given opened t.handed h.handed }

-- an answer is taken
pub knows-answer : (cs : List Cmd) (opens : ℕ → ℕ) (gone gone' : ℕ → Bool) (number : ℕ) (t : Talk) → Ascend (keys_of t.promises) → ((p : ℕ) → p ≢ number → gone' p ≡ gone p)
    → KnowsOpeners cs opens gone t → KnowsOpeners cs opens gone' (record t { promises = without number t.promises })
knows-answer cs opens gone gone' number t sorted same h =
    record {
      listed = h.listed;
      held =
          each-both (HoldsOpening cs opens gone) (λ p slot. p ≢ number) (HoldsOpening cs opens gone')
          (λ p slot s ne. record { untaken = same p ne ∙ s.untaken; made = s.made; answer = s.answer }) (without number t.promises)
          (each-without (HoldsOpening cs opens gone) number t.promises h.held) (each-gone number t.promises sorted);
      awaited = h.awaited;
      handed = h.handed;
    }

-- ---- what was taken

-- so it is with the answers and the frames that were taken
pub record KnowsTaken (cs : List Cmd) (opens : ℕ → ℕ) (taken : ℕ → Option (Result AnyAnswer ErrorKind)) (given : ℕ → List Handed) : Type 0 where
  pub answers : (p : ℕ) (a : Result AnyAnswer ErrorKind) → taken p ≡ Some a → AnswersOpening cs opens p (Some a)
  pub frames : (p : ℕ) → AllByRecursion (λ (x : Handed). IsOpener cs opens x.channel p) (given p)

-- Each rule of a session but commands leaves it sound, makes no promise, and leaves what is known of who opened its channels.
use Rattle.std.proofs.Common.{◌≡◌, ◌⊎◌, ◌≤◌, ◌&&◌, arith, inl, inr, ◌∙◌, ℕ, zero, suc, ◌-◌, Bool, true, false, if◌then◌else◌, List, [], ◌∷◌, length, Option, Some, None, is_some, Result, Ok, Err, refl, ap, sym, subst}
use Rattle.amqp_frame.specs.declared.frame.Frame.{Frame}
use Rattle.amqp_frame.specs.declared.frame.Frame.TheVariants.{Method}
use Rattle.amqp_frame.specs.declared.method.Method.{Method as AnyMethod}
use Rattle.amqp_frame.specs.declared.method.Method.TheVariants.{OpenOk, CloseOk, UpdateSecretOk, ChannelClose, ChannelCloseOk}
use Rattle.amqp_types.specs.declared.word.Word.TheVariants as word
use Rattle.amqp_promise.specs.declared.state.ChannelState.TheVariants as channel
use Rattle.amqp_promise.specs.declared.state.ConnectionState.TheVariants as connection
use Rattle.amqp_outbox.specs.declared.item.Item.{Item}
use Rattle.amqp_promise.specs.declared.io_fault.IoFault.{IoFault}
use Rattle.amqp_promise.specs.declared.io_fault.IoFault.TheVariants.{BrokenPipe}
use Rattle.amqp_promise.specs.declared.error.ErrorKind.{ErrorKind}
use Rattle.amqp_promise.specs.declared.error.ErrorKind.TheVariants.{ChannelsLimitReached, InvalidChannelState, InvalidConnectionState, IOError, MissingHeartbeatError, ProtocolError, SerialisationError, NoMemory as NoMemoryKind}
use Rattle.amqp_auth.specs.declared.asked.Asked.{Asked as ProviderAnswer}
use Rattle.amqp_commands.specs.declared.command.Cmd.{Cmd}
use Rattle.amqp_commands.specs.declared.command.Cmd.TheVariants.{CloseChannel, CloseConnection, DropChannel, DropConnection}
use Rattle.amqp_answers.specs.declared.answer.Answer.{Answer}
use Rattle.amqp_answers.specs.declared.answer.Answer.TheVariants.{Sent}
use Rattle.amqp_outgoing.specs.declared.committed.Mark.{Mark}
use Rattle.amqp_maps.specs.Listed.{at}
use Rattle.amqp_violations.specs.Violations.{protocol_error, channel_closed_with, misread_error}
use Rattle.amqp_types.specs.Codes.{kind_of}
use Rattle.amqp_violations.specs.declared.misread.Misread.{Misread}
use Rattle.amqp_violations.specs.declared.misread.Misread.TheVariants.{TooLarge, BadHeartbeat, Bad}
use Rattle.amqp_rules.specs.Talk.{Talk, acts, has_ended, is_asked, is_open}
use Rattle.amqp_settings.specs.Capacities.{greatest_capacity}
use Rattle.amqp_rules.specs.Negotiation.{grown_capacity}
use Rattle.amqp_rules.specs.Parts.{capacity_after, is_opening_frame}
use Rattle.amqp_rules.specs.Changes.{present_at, fail, starve, lose}
use Rattle.amqp_rules.specs.Links.{asked, linked, link_failed, piece, lost, misread}
use Rattle.amqp_rules.specs.Frames.{on_frame}
use Rattle.amqp_rules.specs.Ticks.{tick}
use Rattle.amqp_rules.specs.Sound.{IsSound}
use Rattle.amqp_rules.specs.Writing.{frames_waiting, next_within, commit, committed_as, taken, end_overlong}
use Rattle.amqp_rules.proofs.Keeping.{present-keeps, failed-keeps, lost-keeps, loss-keeps, keeps-misread, keeps-frame, keeps-tick}
use Rattle.amqp_rules.proofs.Sending.{taken-keeps}
use Rattle.amqp_rules.proofs.SoundChanges.{sound-present, sound-starve, sound-lose}
use Rattle.amqp_rules.proofs.SoundFrames.{sound-frame}
use Rattle.amqp_rules.proofs.Soundness.{sound-commit, sound-taken, sound-asked, sound-linked, sound-link_failed, sound-piece, sound-lost, sound-misread, sound-tick}
use Rattle.amqp_answer_rules.specs.Answering.{Held, IsSettledFor, SettlesFor, LeavesPromises, IsConnectionAnswer, IsReplied, IsLost, IsFrameAnswer, IsSent, IsTakenAnswer, IsServerClose, IsLetGo}
use Rattle.amqp_answer_rules.proofs.OfRules.{keeps-promises}
use Rattle.amqp_answer_rules.proofs.Slots.{settles-lost}
use Rattle.amqp_carried_rules.proofs.Openers.{KnowsOpeners, knows-moment, knows-asked, knows-linked, knows-failed, knows-piece, knows-lost, knows-misread, knows-frame, knows-tick, knows-starve, knows-commit, knows-taken, knows-overlong}
use Rattle.amqp_engine.specs.declared.port.Wrote.{Wrote}
use Rattle.amqp_engine.specs.declared.port.Wrote.TheVariants.{Took, Failed, NoMemory}
use Rattle.amqp_engine.specs.Engine.{Engine, with_talk, rule_at, settle, commit_one, commits, commit_all, committed_with_bytes, fitting_next}
use Rattle.amqp_engine.specs.Turn.{asks, wants_ask, answered}
use Rattle.amqp_types.proofs.Small.{if_case}
use Rattle.amqp_engine.proofs.Settling.{settle-talk}

-- no promise counts as one whose answer was taken
abbrev pub untaken : ℕ → Bool
untaken n = false

-- a promise is not answered that no number is free for its channel
abbrev pub IsUnrefused : ℕ → Talk → Type 0
IsUnrefused p t = at p t.promises ≡ Some (Some (Err ChannelsLimitReached)) → ⊥

-- a promise that is given something else is not answered so
pub not-settled : (Given : Result Answer ErrorKind → Type 0) → (Given (Err ChannelsLimitReached) → ⊥) → (before after : Held) → IsSettledFor Given before after
    → (before ≡ Some (Some (Err ChannelsLimitReached)) → ⊥) → after ≡ Some (Some (Err ChannelsLimitReached)) → ⊥
not-settled Given none before after (inl same) not is = not (sym same ∙ is)
not-settled Given none before after (inr s) not is =
    let both : Some (Some s.1.0) ≡ Some (Some (Err ChannelsLimitReached)) = sym s.1.1 ∙ is in
    let answer : s.1.0 ≡ Err ChannelsLimitReached = cc in
    none (subst Given answer s.1.2)

pub settles-not : (Given : ℕ → Result Answer ErrorKind → Type 0) → ((p : ℕ) → Given p (Err ChannelsLimitReached) → ⊥) → (t t' : Talk) → SettlesFor Given t t'
    → (p : ℕ) → IsUnrefused p t → IsUnrefused p t'
settles-not Given none t t' h p not is = not-settled (Given p) (none p) (at p t.promises) (at p t'.promises) (h.each p) not is

leaves-not : (t t' : Talk) → LeavesPromises t t' → (p : ℕ) → IsUnrefused p t → IsUnrefused p t'
leaves-not t t' h p not is = not (ap (at p) (sym h.same) ∙ is)

-- ---- reasons

closed-not : (code : ℕ) (text : List ℕ) → ChannelsLimitReached ≡ channel_closed_with code text → ⊥
closed-not code text = by (is_some (kind_of code)) where
  by : (b : Bool) → ChannelsLimitReached ≡ (if b then protocol_error code text else InvalidChannelState channel.Closing word.ChannelCloseOkSent) → ⊥
  by true is = cc
  by false is = cc

connection-not : (m : AnyMethod) (t : Talk) (p : ℕ) → IsConnectionAnswer m t p (Err ChannelsLimitReached) → ⊥
connection-not OpenOk t p h = absurd h
connection-not CloseOk t p h = absurd h
connection-not UpdateSecretOk t p h = absurd h
connection-not _ t p h = absurd h

replied-not : (f : Frame) (t : Talk) (p : ℕ) → IsReplied f t p (Err ChannelsLimitReached) → ⊥
replied-not (Method (suc n) (ChannelClose code text class method)) t p (out, stays, (c, there, (owes, left, named, is))) = closed-not code text is
replied-not (Method (suc n) ChannelCloseOk) t p (out, stays, (c, there, (some, named, is))) =
    let clash : ChannelsLimitReached ≡ InvalidChannelState channel.Closed word.ChannelCloseOkReceived = is in cc
replied-not (Method (suc n) _) t p (out, stays, (c, there, h)) = absurd h
replied-not (Method zero m) t p h = connection-not m t p h
replied-not _ t p h = absurd h

frame-not : (f : Frame) (answers : List ProviderAnswer) (t : Talk) (p : ℕ) → IsFrameAnswer f answers t p (Err ChannelsLimitReached) → ⊥
frame-not f answers t p (inl h) = replied-not f t p h
frame-not f answers t p (inr h) = h.1.1

misread-not : (why : Misread) → ChannelsLimitReached ≡ misread_error why → ⊥
misread-not (TooLarge size) is = cc
misread-not (BadHeartbeat number) is = cc
misread-not (Bad place) is = cc

heartbeat-not : ChannelsLimitReached ≡ MissingHeartbeatError → ⊥
heartbeat-not is = cc

size-not : (size : ℕ) → ChannelsLimitReached ≡ SerialisationError size → ⊥
size-not size is = cc

close-not : (t : Talk) → IsServerClose t ChannelsLimitReached → ⊥
close-not t h = (let is : ChannelsLimitReached ≡ ProtocolError h.0 = h.2 in cc)

sent-not : (ms : List Mark) (n p : ℕ) → IsSent ms n p (Err ChannelsLimitReached) → ⊥
sent-not [] n p h = absurd h
sent-not (m ∷ ms) n p (fits, inl h) = (let is : Err ChannelsLimitReached ≡ Ok Sent = h.1 in cc)
sent-not (m ∷ ms) n p (fits, inr h) = sent-not ms (n - m.left) p h

taken-not : (n : ℕ) (t : Talk) (p : ℕ) → IsTakenAnswer n t p (Err ChannelsLimitReached) → ⊥
taken-not n t p (inl h) = sent-not t.committed n p h
taken-not n t p (inr h) = close-not t h.1

lost-not : (fault : IoFault) (t : Talk) → (ChannelsLimitReached ≡ IOError fault) ⊎ IsServerClose t ChannelsLimitReached → ⊥
lost-not fault t (inl is) = cc
lost-not fault t (inr h) = close-not t h

pub leaving-not : (c : Cmd) (t : Talk) (p : ℕ) → IsLetGo c t p (Err ChannelsLimitReached) → ⊥
leaving-not (CloseChannel r code text) t p h = (let is : ChannelsLimitReached ≡ InvalidChannelState channel.Closing word.ChannelClose = h.3 in cc)
leaving-not (DropChannel r) t p h = (let is : ChannelsLimitReached ≡ InvalidChannelState channel.Closing word.ChannelClose = h.3 in cc)
leaving-not (CloseConnection code text) t p h = (let is : ChannelsLimitReached ≡ InvalidConnectionState connection.Closing = h.2 in cc)
leaving-not DropConnection t p h = (let is : ChannelsLimitReached ≡ InvalidConnectionState connection.Closing = h.2 in cc)
leaving-not _ t p h = absurd h

-- no more octets can be unsent than the greatest capacity, so no longer frame is read
abbrev pub IsBounded : Talk → Type 0
IsBounded t = t.capacity ≤ greatest_capacity

-- it stays so where the capacity stays
pub room-kept : (t t' : Talk) → t'.capacity ≡ t.capacity → IsBounded t → IsBounded t'
room-kept t t' same h = subst (λ (n : ℕ). n ≤ greatest_capacity) (sym same) h

frame-room : (f : Frame) (answers : List ProviderAnswer) (t : Talk) → IsBounded t → IsBounded (on_frame f answers t)
frame-room f answers t h =
    let now : t.capacity ≤ greatest_capacity = h in
    let most : capacity_after f t ≤ greatest_capacity =
    if_case (λ (n : ℕ). n ≤ greatest_capacity) (acts t && is_opening_frame f t.state t.phase) (grown_capacity t) t.capacity (omega (arith, now)) now in
    subst (λ (n : ℕ). n ≤ greatest_capacity) (sym (keeps-frame f answers t).capacity) most

commit-room : (o : Option Item) (t : Talk) → (committed_as o t).capacity ≡ t.capacity
commit-room None t = refl
commit-room (Some item) t = refl

-- a change that leaves what is known
pub record KeepsKnown (t t' : Talk) : Type 0 where
  pub room : IsBounded t → IsBounded t'
  pub knows : (cs : List Cmd) (opens : ℕ → ℕ) → IsSound t → KnowsOpeners cs opens untaken t → KnowsOpeners cs opens untaken t'
  pub sound : IsSound t → IsSound t'
  pub made : t'.made ≡ t.made
  -- that no number was free is told at once
  pub unrefused : (p : ℕ) → IsUnrefused p t → IsUnrefused p t'

pub known-same : (t : Talk) → KeepsKnown t t
known-same t = record { room = λ b. b; knows = λ cs opens s k. k; sound = λ s. s; made = refl; unrefused = λ p h. h }

pub known-then : (t u v : Talk) → KeepsKnown t u → KeepsKnown u v → KeepsKnown t v
known-then t u v h k =
    record { room = λ b. k.room (h.room b); knows = λ cs opens s n. k.knows cs opens (h.sound s) (h.knows cs opens s n); sound = λ s. k.sound (h.sound s); made = k.made ∙ h.made; unrefused = λ p none. k.unrefused p (h.unrefused p none) }

-- ---- rules of the session

pub known-moment : (at : ℕ) (t : Talk) → KeepsKnown t (present_at at t)
known-moment at t =
    record { room = room-kept t (present_at at t) (present-keeps (λ (x : Talk). x.capacity) at t (λ n. refl)); knows = λ cs opens s k. knows-moment cs opens untaken at t k; sound = sound-present at t; made = ((keeps-promises t).moment at).made; unrefused = leaves-not t (present_at at t) ((keeps-promises t).moment at) }

pub known-asked : (t : Talk) → KeepsKnown t (asked t)
known-asked t = record { room = λ b. b; knows = λ cs opens s k. knows-asked cs opens untaken t k; sound = sound-asked t; made = refl; unrefused = λ p h. h }

known-linked : (t : Talk) → KeepsKnown t (linked t)
known-linked t = record { room = room-kept t (linked t) (if_case (λ (x : Talk). x.capacity ≡ t.capacity) (is_asked t) _ t refl refl); knows = λ cs opens s k. knows-linked cs opens untaken t k; sound = sound-linked t; made = (keeps-promises t).linked.made; unrefused = leaves-not t (linked t) (keeps-promises t).linked }

known-failed : (t : Talk) → KeepsKnown t (link_failed t)
known-failed t = record { room = room-kept t (link_failed t) (failed-keeps (λ (x : Talk). x.capacity) (λ y s l cs ps ns. refl) (λ y n. refl) t); knows = λ cs opens s k. knows-failed cs opens untaken t k; sound = sound-link_failed t; made = (keeps-promises t).link_failed.made; unrefused = leaves-not t (link_failed t) (keeps-promises t).link_failed }

known-piece : (t : Talk) → KeepsKnown t (piece t)
known-piece t = record { room = room-kept t (piece t) (if_case (λ (x : Talk). x.capacity ≡ t.capacity) (is_open t) _ t refl refl); knows = λ cs opens s k. knows-piece cs opens untaken t k; sound = sound-piece t; made = (keeps-promises t).piece.made; unrefused = leaves-not t (piece t) (keeps-promises t).piece }

known-lost : (fault : IoFault) (t : Talk) → KeepsKnown t (lost fault t)
known-lost fault t =
    record { room = room-kept t (lost fault t) (lost-keeps (λ (x : Talk). x.capacity) (λ y s l cs ps b q ms n o ns. refl) fault t); knows = λ cs opens s k. knows-lost cs opens untaken fault t k; sound = sound-lost fault t; made = ((keeps-promises t).lost fault).made; unrefused = settles-not (IsLost (λ error. (error ≡ IOError fault) ⊎ IsServerClose t error)) (λ p h. lost-not fault t h.1) t (lost fault t) ((keeps-promises t).lost fault) }

known-misread : (why : Misread) (t : Talk) → KeepsKnown t (misread why t)
known-misread why t =
    record { room = room-kept t (misread why t) (keeps-misread why t).capacity; knows = λ cs opens s k. knows-misread cs opens untaken why t k; sound = sound-misread why t; made = ((keeps-promises t).misread why).made; unrefused = settles-not (IsLost (λ error. error ≡ misread_error why)) (λ p h. misread-not why h.1) t (misread why t) ((keeps-promises t).misread why) }

known-frame : (f : Frame) (answers : List ProviderAnswer) (t : Talk) → KeepsKnown t (on_frame f answers t)
known-frame f answers t =
    record { room = frame-room f answers t; knows = λ cs opens s k. knows-frame cs opens untaken f answers t s k; sound = sound-frame f answers t; made = ((keeps-promises t).frame f answers).made; unrefused = settles-not (IsFrameAnswer f answers t) (frame-not f answers t) t (on_frame f answers t) ((keeps-promises t).frame f answers) }

known-tick : (answers : List ProviderAnswer) (t : Talk) → KeepsKnown t (tick answers t)
known-tick answers t =
    record { room = room-kept t (tick answers t) (keeps-tick answers t).capacity; knows = λ cs opens s k. knows-tick cs opens untaken answers t k; sound = sound-tick answers t; made = ((keeps-promises t).tick answers).made; unrefused = settles-not (IsLost (λ error. error ≡ MissingHeartbeatError)) (λ p h. heartbeat-not h.1) t (tick answers t) ((keeps-promises t).tick answers) }

known-starve : (t : Talk) → KeepsKnown t (starve t)
known-starve t = record { room = room-kept t (starve t) (if_case (λ (x : Talk). x.capacity ≡ t.capacity) (has_ended t) t (fail NoMemoryKind t) refl refl); knows = λ cs opens s k. knows-starve cs opens untaken t k; sound = sound-starve t; made = (keeps-promises t).starve.made; unrefused = leaves-not t (starve t) (keeps-promises t).starve }

known-taken : (n : ℕ) (t : Talk) → KeepsKnown t (taken n t)
known-taken n t =
    record { room = room-kept t (taken n t) (taken-keeps (λ (x : Talk). x.capacity) (record { ends = (λ y s l cs ps b q ms n o ns. refl); writes = λ y w ms. refl; moments = λ y n. refl }) n t); knows = λ cs opens s k. knows-taken cs opens untaken n t k; sound = sound-taken n t; made = ((keeps-promises t).taken n).made; unrefused = settles-not (IsTakenAnswer n t) (taken-not n t) t (taken n t) ((keeps-promises t).taken n) }

known-overlong : (size : ℕ) (t : Talk) → KeepsKnown t (end_overlong (Some size) t)
known-overlong size t =
    let Given : ℕ → Result Answer ErrorKind → Type 0 = IsLost (λ e. e ≡ SerialisationError size) in
    let h : SettlesFor Given t (lose (SerialisationError size) t) = settles-lost Given (SerialisationError size) t (λ p other. (other, refl)) in
    record {
      room = room-kept t (lose (SerialisationError size) t) (loss-keeps (λ (x : Talk). x.capacity) (λ y s l cs ps b q ms n o ns. refl) (SerialisationError size) t);
      knows = λ cs opens s k. knows-overlong cs opens untaken (Some size) t k;
      sound = sound-lose (SerialisationError size) t;
      made = h.made;
      unrefused = settles-not Given (λ p h. size-not size h.1) t (lose (SerialisationError size) t) h;
    }

known-commit : (space : ℕ) (t : Talk) → KeepsKnown t (commit space t)
known-commit space t = record { room = room-kept t (commit space t) (commit-room (next_within space t) t); knows = λ cs opens s k. knows-commit cs opens untaken space t k; sound = sound-commit space t; made = by (next_within space t); unrefused = λ p not is. not (sym (ap (at p) (same (next_within space t))) ∙ is) } where
  by : (o : Option Item) → (committed_as o t).made ≡ t.made
  by None = refl
  by (Some item) = refl

  same : (o : Option Item) → (committed_as o t).promises ≡ t.promises
  same None = refl
  same (Some item) = refl

-- ---- the engine

-- a rule at a moment
pub known-rule : (at : ℕ) (f : Talk → Talk) (e : Engine) → ((t : Talk) → KeepsKnown t (f t)) → KeepsKnown e.talk (f (present_at at e.talk))
known-rule at f e h = known-then e.talk (present_at at e.talk) (f (present_at at e.talk)) (known-moment at e.talk) (h (present_at at e.talk))

pub known-settled : (t : Talk) (x : Engine) → KeepsKnown t x.talk → KeepsKnown t (settle x).talk
known-settled t x h = subst (KeepsKnown t) (sym (settle-talk x)) h

pub known-link : (at : ℕ) (e : Engine) → KeepsKnown e.talk (linked (present_at at e.talk))
known-link at e = known-rule at linked e known-linked

pub known-refusal : (at : ℕ) (e : Engine) → KeepsKnown e.talk (settle (rule_at at link_failed e)).talk
known-refusal at e = known-settled e.talk (rule_at at link_failed e) (known-rule at link_failed e known-failed)

pub known-received : (at : ℕ) (bytes : List ℕ) (e : Engine) → KeepsKnown e.talk (settle (record e { talk = piece (present_at at e.talk); unread = bytes })).talk
known-received at bytes e = known-settled e.talk (record e { talk = piece (present_at at e.talk); unread = bytes }) (known-rule at piece e known-piece)

pub known-loss : (at : ℕ) (fault : IoFault) (e : Engine) → KeepsKnown e.talk (settle (rule_at at (lost fault) e)).talk
known-loss at fault e = known-settled e.talk (rule_at at (lost fault) e) (known-rule at (lost fault) e (known-lost fault))

pub known-time : (at : ℕ) (answers : List ProviderAnswer) (e : Engine) → KeepsKnown e.talk (settle (rule_at at (tick answers) e)).talk
known-time at answers e = known-settled e.talk (rule_at at (tick answers) e) (known-rule at (tick answers) e (known-tick answers))

pub known-no-frame : (at : ℕ) (why : Misread) (e : Engine) → KeepsKnown e.talk (settle (rule_at at (misread why) e)).talk
known-no-frame at why e = known-settled e.talk (rule_at at (misread why) e) (known-rule at (misread why) e (known-misread why))

pub known-heard : (at : ℕ) (f : Frame) (answers : List ProviderAnswer) (e : Engine) → KeepsKnown e.talk (on_frame f answers (present_at at e.talk))
known-heard at f answers e = known-rule at (on_frame f answers) e (known-frame f answers)

pub known-starved : (at : ℕ) (e : Engine) → KeepsKnown e.talk (starve (present_at at e.talk))
known-starved at e = known-rule at starve e known-starve

-- a link is asked for where one is wanted
pub known-asks : (e : Engine) → KeepsKnown e.talk (asks e).talk
known-asks e = if_case (λ (x : Engine). KeepsKnown e.talk x.talk) (wants_ask e) (with_talk asked e) e (known-asked e.talk) (known-same e.talk)

-- frames are committed
known-one : (e : Engine) → KeepsKnown e.talk (commit_one e).talk
known-one e = by (fitting_next e) where
  by : (o : Option Item) → KeepsKnown e.talk (committed_with_bytes o e).talk
  by None = known-same e.talk
  by (Some item) = known-commit (e.talk.capacity - length e.unsent) e.talk

known-commits : (n : ℕ) (e : Engine) → KeepsKnown e.talk (commits n e).talk
known-commits zero e = known-same e.talk
known-commits (suc n) e = known-then e.talk (commit_one e).talk (commits n (commit_one e)).talk (known-one e) (known-commits n (commit_one e))

pub known-all : (e : Engine) → KeepsKnown e.talk (commit_all e).talk
known-all e = known-commits (frames_waiting e.talk) e

-- and an offer is answered
pub known-answered : (at : ℕ) (w : Wrote) (e : Engine) → KeepsKnown e.talk (answered at w e).talk
known-answered at (Took k) e =
    let x = commit_all e in
    known-settled e.talk _ (known-then e.talk x.talk (taken k (present_at at x.talk)) (known-all e) (known-rule at (taken k) x (known-taken k)))
known-answered at NoMemory e =
    let x = commit_all e in
    known-settled e.talk _ (known-then e.talk x.talk (taken 0 (present_at at x.talk)) (known-all e) (known-rule at (taken 0) x (known-taken 0)))
known-answered at Failed e =
    let x = commit_all e in
    known-settled e.talk (rule_at at (lost BrokenPipe) x)
    (known-then e.talk x.talk (lost BrokenPipe (present_at at x.talk)) (known-all e) (known-rule at (lost BrokenPipe) x (known-lost BrokenPipe)))

pub known-ended : (size : ℕ) (e : Engine) → KeepsKnown e.talk (end_overlong (Some size) (commit_all e).talk)
known-ended size e = known-then e.talk (commit_all e).talk (end_overlong (Some size) (commit_all e).talk) (known-all e) (known-overlong size (commit_all e).talk)

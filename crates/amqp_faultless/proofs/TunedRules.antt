-- Once the connection is open, the first tune-ok that was said carries the numbers of the session: the link, commands and ticks leave it so, and what is
-- committed and sent.
use Rattle.std.proofs.Common.{◌≡◌, ◌≢◌, ◌≤◌, inl, inr, ℕ, zero, suc, ◌+◌, ◌-◌, ◌==◌, ◌&&◌, not, nat_le, max, if◌then◌else◌, Bool, true, false, true≢false, List, [], ◌∷◌, ◌++◌, drop, Option, Some, None, Result, Ok, Err, refl, ap, sym, ◌∙◌, subst, arith}
use Rattle.std.specs.Option.{option_or}
use Rattle.amqp_frame.specs.declared.frame.Frame.{Frame}
use Rattle.amqp_frame.specs.declared.frame.Frame.TheVariants.{Method, Heartbeat}
use Rattle.amqp_frame.specs.declared.method.Method.TheVariants.{StartOk, SecureOk, Open as OpenMethod, ChannelOpen}
use Rattle.amqp_outbox.specs.declared.item.Item.{Item}
use Rattle.amqp_outbox.specs.declared.reply.Awaited.{Awaited}
use Rattle.amqp_outbox.specs.Items.{plain_item}
use Rattle.amqp_outbox.specs.Queued.{Queued, after_next}
use Rattle.amqp_outbox.specs.Queued as queued
use Rattle.amqp_promise.specs.declared.state.ConnectionState.{ConnectionState}
use Rattle.amqp_promise.specs.declared.state.ConnectionState.TheVariants.{Initial, Connecting, Connected, Closing, Closed, Reconnecting, Error}
use Rattle.amqp_promise.specs.declared.error.ErrorKind.TheVariants.{MissingHeartbeatError}
use Rattle.amqp_channels.specs.declared.channels.Channel.{Channel}
use Rattle.amqp_settings.specs.declared.configuration.Configuration.{Configuration}
use Rattle.amqp_outgoing.specs.declared.committed.Mark.{Mark}
use Rattle.amqp_outgoing.specs.declared.committed.Then.{Then}
use Rattle.amqp_outgoing.specs.declared.committed.Then.TheVariants.{Nothing, Answer as AnswerThen, Pays, Finish}
use Rattle.amqp_answers.specs.declared.answer.Answer.TheVariants.{Connected as AnswerConnected}
use Rattle.amqp_commands.specs.declared.command.Cmd.{Cmd}
use Rattle.amqp_commands.specs.declared.command.Cmd.TheVariants.{DropChannel, DropConnection, Listen}
use Rattle.amqp_rules.specs.declared.state.Phase.{Phase}
use Rattle.amqp_rules.specs.declared.state.Phase.TheVariants.{AwaitStart, AwaitTune, AwaitOpenOk}
use Rattle.amqp_auth.specs.declared.asked.Asked.{Asked}
use Rattle.amqp_rules.specs.Talk.{Talk, is_asked, is_open, has_ended}
use Rattle.amqp_rules.specs.Channels.{channel_at}
use Rattle.amqp_rules.specs.Changes.{queue, lose, present_at}
use Rattle.amqp_rules.specs.Commands.{command, command_rule}
use Rattle.amqp_rules.specs.Sound.{is_finish}
use Rattle.amqp_rules.specs.Links.{linked, piece}
use Rattle.amqp_rules.specs.Ticks.{is_connected, is_missed, is_heartbeat_due, missing_heartbeat, beat, refreshed, timed, tick}
use Rattle.amqp_rules.specs.Writing.{writes, flows, next_out, pay, follow, sent, sent_among, taken}
use Rattle.amqp_outgoing.specs.Marks.{mark_of}
use Rattle.amqp_faultless.specs.Faultless.{Server, silent, said_to}
use Rattle.amqp_types.proofs.Small.{if_case, if_by, if-true, if-false}
use Rattle.amqp_rules.proofs.Heard.{secret-case}
use Rattle.amqp_rules.proofs.Keeping.{beats-connected, asks-connected, stays-command}
use Rattle.amqp_faultless.proofs.Ordinary.{leaves, told-command, left-command}
use Rattle.amqp_faultless.proofs.Greeted.{IsMet, Meets}
use Rattle.amqp_faultless.proofs.Speaks.{GoOn}
use Rattle.amqp_faultless.proofs.Tuned.{tune_in, first_tune, first-later, first-next, is_asking, as_one, asks-not, numbers_of, TunedIn, Tuned, tuned-open}
use Rattle.amqp_rules.proofs.Walk.{pay-case}

-- ---- the link, a moment and a piece

-- nothing was said on a new link
pub tuned-linked : (t : Talk) → is_asked t ≡ true → Tuned [] silent (linked t)
tuned-linked t is =
    let P : Talk → Type 0 = Tuned [] silent in
    subst P (sym (if-true (is_asked t) _ t is)) (refl, (refl, tt), refl, refl)

pub tuned-present : (at : ℕ) (fs : List Frame) (s : Server) (t : Talk) → Tuned fs s t → Tuned fs s (present_at at t)
tuned-present at fs s t h = if_case (Tuned fs s) (has_ended t) t (record t { present = max t.present at }) h h

pub tuned-piece : (fs : List Frame) (s : Server) (t : Talk) → Tuned fs s t → Tuned fs s (piece t)
tuned-piece fs s t h = if_case (Tuned fs s) (is_open t) (record t { last_read = t.present }) t h h

-- ---- commands

-- where no connection is open, nothing is told
refused-tuned : (fs : List Frame) (s : Server) (st : ConnectionState) (c : Cmd) (t : Talk) → is_connected st ≡ false → Tuned fs s t → Tuned fs s (command_rule st c t)
refused-tuned fs s Connected c t h k = absurd (true≢false h)
refused-tuned fs s st (DropChannel r) t h k = k
refused-tuned fs s st DropConnection t h k = k
refused-tuned fs s st Listen t h k = k
refused-tuned fs s st c t h k = k

pub tuned-command : (c : Cmd) (fs : List Frame) (s : Server) (t : Talk) → IsMet s t → Tuned fs s t → Tuned fs s (command c t)
tuned-command c fs s t m h = by t.state refl where
  u : Talk
  u = command c t

  other : (st : ConnectionState) → u.state ≡ st → st ≢ Connecting → t.state ≡ Connected → Tuned fs s u
  other st now not_connecting is =
      let P : ConnectionState → Type 0 = λ x. TunedIn x t.phase fs s.asked t.outbox.control t.configuration in
      let said : first_tune fs ≡ Some (numbers_of t.configuration) = subst P is h in
      tuned-open fs s.asked u.outbox.control u.configuration u.state u.phase (λ same. not_connecting (sym now ∙ same))
      (said ∙ ap (λ (x : Configuration). Some (numbers_of x)) (sym (stays-command c t).configuration))

  connected_command : (b : Bool) → leaves c ≡ b → t.state ≡ Connected → Tuned fs s u
  connected_command false k is =
      other Connected (ap (λ (x : ConnectionState). (command_rule x c t).state) is ∙ (told-command (Ok AnswerConnected) c t k).state ∙ is) (λ same. cc) is
  connected_command true k is =
      other Closing (ap (λ (x : ConnectionState). (command_rule x c t).state) is ∙ (left-command (Ok AnswerConnected) c t k).state) (λ same. cc) is

  by : (st : ConnectionState) → t.state ≡ st → Tuned fs s u
  by Connected is = connected_command (leaves c) refl is
  by Initial is = refused-tuned fs s t.state c t (ap is_connected is) h
  by Connecting is = refused-tuned fs s t.state c t (ap is_connected is) h
  by Closing is = refused-tuned fs s t.state c t (ap is_connected is) h
  by Closed is = refused-tuned fs s t.state c t (ap is_connected is) h
  by Reconnecting is = refused-tuned fs s t.state c t (ap is_connected is) h
  by Error is = refused-tuned fs s t.state c t (ap is_connected is) h

-- ---- ticks

-- what a connected session puts into its lane does not matter
module _ (fs : List Frame) (s : Server) (t : Talk) (is : t.state ≡ Connected) (h : Tuned fs s t) where
  tuned-lane : (lane : List Item) → TunedIn t.state t.phase fs s.asked lane t.configuration
  tuned-lane lane =
      let P : ConnectionState → Type 0 = λ x. TunedIn x t.phase fs s.asked t.outbox.control t.configuration in
      let Q : ConnectionState → Type 0 = λ x. TunedIn x t.phase fs s.asked lane t.configuration in
      let said : first_tune fs ≡ Some (numbers_of t.configuration) = subst P is h in
      subst Q (sym is) said

pub tuned-tick : (answers : List Asked) (fs : List Frame) (s : Server) (t : Talk) → is_missed t ≡ false → IsMet s t → Tuned fs s t → Tuned fs s (tick answers t)
tuned-tick answers fs s t timely m h =
    let P : Talk → Type 0 = Tuned fs s in
    let x : Talk = missing_heartbeat t in
    let a : P x = subst P (sym (if-false (is_missed t) (lose MissingHeartbeatError t) t timely)) h in
    let b : P (beat t) =
    if_by P (is_heartbeat_due x) (record (queue 0 Heartbeat x) { last_write = x.present }) x
    (λ due. tuned-lane fs s x (beats-connected x due) a (x.outbox.control ++ plain_item 0 Heartbeat ∷ [])) (λ idle. a) in
    let d : P (timed answers t) = secret-case P answers (beat t) b (λ asks said. refreshed-tuned said (asks-connected (beat t) asks) b) in
    d
  where
    refreshed-tuned : (said : Result (List ℕ) (List ℕ)) → (beat t).state ≡ Connected → Tuned fs s (beat t) → Tuned fs s (refreshed said (beat t))
    refreshed-tuned (Ok secret) is b = tuned-lane fs s (beat t) is b (refreshed (Ok secret) (beat t)).outbox.control
    refreshed-tuned (Err text) is b = b

-- ---- what a frame tells the server

said-asked : (f : Frame) (s : Server) → is_asking f ≡ false → (said_to f s).asked ≡ s.asked
said-asked (Method zero (StartOk a b c d)) s h = absurd (true≢false h)
said-asked (Method zero (SecureOk a)) s h = absurd (true≢false h)
said-asked (Method zero (OpenMethod a)) s h = absurd (true≢false h)
said-asked (Method zero ChannelOpen) s h = refl
said-asked (Method (suc k) ChannelOpen) s h = refl
said-asked (Method zero m) s h = refl
said-asked (Method (suc k) m) s h = refl
said-asked f s h = refl

as-one-most : (b : Bool) → as_one b ≤ 1
as-one-most true = omega arith
as-one-most false = omega arith

said-asking : (f : Frame) (s : Server) → as_one (said_to f s).asked ≤ as_one s.asked + as_one (is_asking f)
said-asking f s = by (is_asking f) refl where
  by : (b : Bool) → is_asking f ≡ b → as_one (said_to f s).asked ≤ as_one s.asked + as_one b
  by true is = let most = as-one-most (said_to f s).asked in omega (arith, most)
  by false is = let same = ap as_one (said-asked f s is) in omega (arith, same)

-- ---- a frame is committed

-- the next frame is the first of the lane, where nothing else waits
lane-next : (flow : Bool) (q : Queued) (i : Item) → queued.next_item flow q ≡ Some i → q.begun ≡ [] → q.publish ≡ [] → q.control ≡ i ∷ (after_next flow q).control
lane-next flow q i next begun groups = by q.begun q.control q.publish q.awaited flow next begun groups where
  by : (begun control : List Item) (publish : List (List Item)) (awaited : List (ℕ × List Awaited)) (flow : Bool)
      → queued.next_item flow (record { control = control; publish = publish; begun = begun; awaited = awaited }) ≡ Some i → begun ≡ [] → publish ≡ []
      → control ≡ i ∷ (after_next flow (record { control = control; publish = publish; begun = begun; awaited = awaited })).control
  by (b ∷ bs) control publish awaited flow next none empty = absurd cc
  by [] (j ∷ js) publish awaited flow next none empty = let same : j ≡ i = cc in ap (λ (x : Item). x ∷ js) same
  by [] [] (g ∷ gs) awaited true next none empty = absurd cc
  by [] [] [] awaited true next none empty = absurd cc
  by [] [] publish awaited false next none empty = absurd cc

module _ (fs : List Frame) (s : Server) (i : Item) (lane : List Item) (agreed : Configuration) where
  none-said : first_tune fs ≡ None → tune_in i.frame ≡ None → first_tune (fs ++ i.frame ∷ []) ≡ None
  none-said none other = first-next fs (i.frame ∷ []) none ∙ ap (λ (o : Option (ℕ × ℕ)). option_or o None) other

  commit-start : TunedIn Connecting AwaitStart fs s.asked (i ∷ lane) agreed → TunedIn Connecting AwaitStart (fs ++ i.frame ∷ []) (said_to i.frame s).asked lane agreed
  commit-start h =
      let idle = h.2 in
      let other : is_asking i.frame ≡ false = asks-not (is_asking i.frame) (omega (arith, idle)) in
      (none-said h.0 (h.1).0, (h.1).1, omega (arith, idle), said-asked i.frame s other ∙ h.3)

  commit-tune : TunedIn Connecting AwaitTune fs s.asked (i ∷ lane) agreed → TunedIn Connecting AwaitTune (fs ++ i.frame ∷ []) (said_to i.frame s).asked lane agreed
  commit-tune h =
      let most = h.2 in
      let said = said-asking i.frame s in
      (none-said h.0 (h.1).0, (h.1).1, omega (arith, most, said))

  commit-open : TunedIn Connecting AwaitOpenOk fs s.asked (i ∷ lane) agreed → TunedIn Connecting AwaitOpenOk (fs ++ i.frame ∷ []) (said_to i.frame s).asked lane agreed
  commit-open (inl said) = inl (first-later fs (i.frame ∷ []) (numbers_of agreed) said)
  commit-open (inr (none, idle, inl now)) = inl (first-next fs (i.frame ∷ []) none ∙ ap (λ (o : Option (ℕ × ℕ)). option_or o None) now)
  commit-open (inr (none, idle, inr (other, plain_frame, later))) = inr (none-said none other, said-asked i.frame s plain_frame ∙ idle, later)

pub tuned-commit : (fs : List Frame) (s : Server) (t : Talk) (i : Item) → next_out t ≡ Some i → IsMet s t → Tuned fs s t
    → Tuned (fs ++ i.frame ∷ []) (said_to i.frame s) (record t { outbox = after_next (flows t) t.outbox; committed = t.committed ++ mark_of i ∷ [] })
tuned-commit fs s t i next m h = by t.state t.phase m.meets h where
  may : (b : Bool) (x : Option Item) → (if b then x else None) ≡ Some i → x ≡ Some i
  may true x h = h
  may false x h = absurd cc

  out : queued.next_item (flows t) t.outbox ≡ Some i
  out = may (writes t) (queued.next_item (flows t) t.outbox) next

  later : List Item
  later = (after_next (flows t) t.outbox).control

  front : (st : ConnectionState) (p : Phase) → t.outbox.begun ≡ [] → t.outbox.publish ≡ [] → TunedIn st p fs s.asked t.outbox.control t.configuration
      → TunedIn st p fs s.asked (i ∷ later) t.configuration
  front st p begun groups k =
      let P : List Item → Type 0 = λ x. TunedIn st p fs s.asked x t.configuration in subst P (lane-next (flows t) t.outbox i out begun groups) k

  more : first_tune fs ≡ Some (numbers_of t.configuration)
      → first_tune (fs ++ i.frame ∷ []) ≡ Some (numbers_of t.configuration)
  more k = first-later fs (i.frame ∷ []) (numbers_of t.configuration) k

  by : (st : ConnectionState) (p : Phase) → Meets st p s t.outbox t.channels t.committed → TunedIn st p fs s.asked t.outbox.control t.configuration
      → TunedIn st p (fs ++ i.frame ∷ []) (said_to i.frame s).asked later t.configuration
  by Connecting AwaitStart g k = commit-start fs s i later t.configuration (front Connecting AwaitStart g.begun g.groups k)
  by Connecting AwaitTune g k = commit-tune fs s i later t.configuration (front Connecting AwaitTune g.begun g.groups k)
  by Connecting AwaitOpenOk g k = commit-open fs s i later t.configuration (front Connecting AwaitOpenOk g.begun g.groups k)
  by Connected p g k = more k
  by Closing p g k = more k
  by st p g k = absurd g

-- ---- bytes are taken

tuned-sent : (fs : List Frame) (s : Server) (k : Mark) (t : Talk) → is_finish k.then ≡ false → Tuned fs s t → Tuned fs s (sent k t)
tuned-sent fs s k t goes h = by k.then goes where
  x : Talk
  x = record t { committed = drop 1 t.committed }

  by-channel : (o : Option Channel) (n : ℕ) → Tuned fs s (pay o n x)
  by-channel o n = pay-case (Tuned fs s) o n x (λ is. h) (λ c is unowed. h) (λ c is owes awaits. h) (λ c is owes left. h)

  by : (th : Then) → is_finish th ≡ false → Tuned fs s (follow th x)
  by Nothing goes = h
  by (AnswerThen number) goes = h
  by (Pays n) goes = by-channel (channel_at n x) n
  by Finish goes = absurd (true≢false goes)

tuned-sent-among : (fs : List Frame) (s : Server) (ms : List Mark) (n : ℕ) (t : Talk) → GoOn ms → Tuned fs s t → Tuned fs s (sent_among ms n t)
tuned-sent-among fs s [] n t goes h = h
tuned-sent-among fs s (k ∷ ms) n t goes h =
    if_case (Tuned fs s) (is_open t)
    (if nat_le k.left n then sent_among ms (n - k.left) (sent k t) else record t { committed = record k { left = k.left - n } ∷ ms }) t
    (if_case (Tuned fs s) (nat_le k.left n) (sent_among ms (n - k.left) (sent k t)) (record t { committed = record k { left = k.left - n } ∷ ms })
    (tuned-sent-among fs s ms (n - k.left) (sent k t) goes.1 (tuned-sent fs s k t goes.0 h)) h)
    h

pub tuned-taken : (n : ℕ) (fs : List Frame) (s : Server) (t : Talk) → GoOn t.committed → Tuned fs s t → Tuned fs s (taken n t)
tuned-taken n fs s t goes h =
    let u : Talk = record t { last_write = t.present } in
    if_case (Tuned fs s) (is_open t && not (n == 0)) (sent_among t.committed n u) t (tuned-sent-among fs s t.committed n u goes h) h

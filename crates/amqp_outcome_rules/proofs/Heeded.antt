-- That the server's flow is heeded, and when the provider is asked about a secret.
use Rattle.std.proofs.Common.{◌≡◌, ◌≢◌, ◌-◌, ◌&&◌, not, ℕ, suc, nat_le, Bool, true, false, true≢false, if◌then◌else◌, List, [], ◌∷◌, Option, option_map, Some, None, refl, ap, sym, ◌∙◌, zero, inl, inr}
use Rattle.amqp_frame.specs.declared.frame.Frame.{Frame}
use Rattle.amqp_frame.specs.declared.frame.Frame.TheVariants.{Method, Heartbeat}
use Rattle.amqp_frame.specs.declared.method.Method.{Method as AnyMethod}
use Rattle.amqp_frame.specs.declared.method.Method.TheVariants.{Start, Secure, ChannelFlow}
use Rattle.amqp_promise.specs.declared.state.ConnectionState.{ConnectionState}
use Rattle.amqp_promise.specs.declared.state.ConnectionState.TheVariants.{Connecting, Connected, Closing}
use Rattle.amqp_promise.specs.declared.state.ChannelState.{ChannelState}
use Rattle.amqp_promise.specs.declared.state.ChannelState.TheVariants as channel
use Rattle.amqp_promise.specs.declared.error.ErrorKind.TheVariants.{MissingHeartbeatError}
use Rattle.amqp_auth.specs.declared.asked.Question.{Question}
use Rattle.amqp_auth.specs.declared.asked.Question.TheVariants as question
use Rattle.amqp_auth.specs.declared.asked.Asked.{Asked}
use Rattle.amqp_auth.specs.declared.asked.Asked.TheVariants as answer
use Rattle.amqp_channels.specs.declared.channels.Channel.{Channel}
use Rattle.amqp_rules.specs.declared.state.Phase.{Phase}
use Rattle.amqp_rules.specs.declared.state.Phase.TheVariants.{AwaitStart, AwaitTune}
use Rattle.amqp_rules.specs.Talk.{Talk, acts, hears_on}
use Rattle.amqp_rules.specs.Changes.{lose, queue}
use Rattle.amqp_rules.specs.Causes.{IsInUse}
use Rattle.amqp_rules.specs.Channels.{channel_at}
use Rattle.amqp_rules.specs.ChannelMethods.{heard_on, on_channel_flow, channel_rule, channel_method_by}
use Rattle.amqp_rules.specs.Frames.{closed_rule, frame_questions, frame_rule, method_questions, on_frame, questions_in}
use Rattle.amqp_rules.specs.Secrets.{HasExpired}
use Rattle.amqp_rules.specs.Ticks.{asks_validity, heartbeat_due, is_connected, is_heartbeat_due, is_missed, refresh_questions, secret_questions, tick_questions}
use Rattle.amqp_maps.proofs.Numbered.{put-same}
use Rattle.amqp_rules.proofs.Recovering.{lose-case}
use Rattle.amqp_types.proofs.Small.{at-most, if_by, if_case, if-false, if-true, is-at-most, some_is}
use Rattle.amqp_outcome_rules.specs.Heeding.{AsksAtFrames, AsksInTime, IsAskedAt, IsTimeAsked, challenge_of, flow_on, is_start}

-- ---- flow

-- the flow of a listed channel
abbrev flow_of : Option Channel → Option Bool
flow_of o = option_map (λ (c : Channel). c.flow) o

-- a listed channel is heard, once the connection is open
heard-some : (s : ConnectionState) (o : Option Channel) (c : Channel) → s ≢ Connecting → o ≡ Some c → heard_on s o ≡ Some c
heard-some Connecting o c out is = absurd (out refl)
heard-some _ o c out is = is

module _ (n : ℕ) (active : Bool) (t : Talk) where
  flow-in : (s : ChannelState) (c : Channel) → s ≢ channel.Closing → flow_on (suc n) (on_channel_flow s (suc n) c active t) ≡ Some active
  flow-in channel.Closing c used = absurd (used refl)
  flow-in _ c used = ap flow_of (put-same (suc n) (record c { flow = active }) t.channels)

  flow-by : (s : ConnectionState) (c : Channel) → s ≢ Closing → c.state ≢ channel.Closing
      → flow_on (suc n) (channel_rule s (suc n) c (ChannelFlow active) t) ≡ Some active
  flow-by Closing c going used = absurd (going refl)
  flow-by _ c going used = flow-in c.state c used

  flow-heard : (answers : List Asked) → t.state ≢ Closing → IsInUse (suc n) t → flow_on (suc n) (frame_rule (Method (suc n) (ChannelFlow active)) answers t) ≡ Some active
  flow-heard answers going (out, (c, there, used)) =
      ap (λ (o : Option Channel). flow_on (suc n) (channel_method_by o (suc n) (ChannelFlow active) t)) (heard-some t.state (channel_at (suc n) t) c out there)
      ∙ flow-by t.state c going used

-- after the server's flow its channel has that flow
pub flow-heeded : (t : Talk) (n : ℕ) (active : Bool) (answers : List Asked) → acts t ≡ true → t.state ≢ Closing → IsInUse (suc n) t
    → flow_on (suc n) (on_frame (Method (suc n) (ChannelFlow active)) answers t) ≡ Some active
flow-heeded t n active answers on going used =
    let f : Frame = Method (suc n) (ChannelFlow active) in
    ap (flow_on (suc n)) (if-true (acts t) (frame_rule f answers t) (if hears_on t then closed_rule f t else t) on) ∙ flow-heard n active t answers going used

-- and after our close of the channel nothing is done
flow-dropped-in : (s : ChannelState) (n : ℕ) (c : Channel) (active : Bool) (t : Talk) → s ≡ channel.Closing → on_channel_flow s n c active t ≡ t
flow-dropped-in s n c active t is = ap (λ (x : ChannelState). on_channel_flow x n c active t) is

flow-dropped-by : (s : ConnectionState) (n : ℕ) (c : Channel) (active : Bool) (t : Talk) → c.state ≡ channel.Closing → channel_rule s n c (ChannelFlow active) t ≡ t
flow-dropped-by Closing n c active t is = refl
flow-dropped-by _ n c active t is = flow-dropped-in c.state n c active t is

pub flow-dropped : (t : Talk) (n : ℕ) (c : Channel) (active : Bool) (answers : List Asked) → acts t ≡ true → t.state ≢ Connecting
    → channel_at (suc n) t ≡ Some c → c.state ≡ channel.Closing → on_frame (Method (suc n) (ChannelFlow active)) answers t ≡ t
flow-dropped t n c active answers on out there is =
    let f : Frame = Method (suc n) (ChannelFlow active) in
    if-true (acts t) (frame_rule f answers t) (if hears_on t then closed_rule f t else t) on
    ∙ ap (λ (o : Option Channel). channel_method_by o (suc n) (ChannelFlow active) t) (heard-some t.state (channel_at (suc n) t) c out there)
    ∙ flow-dropped-by t.state (suc n) c active t is

-- ---- time

connected-only : (s : ConnectionState) (b : Bool) → (is_connected s && not b) ≡ true → (s ≡ Connected) × (b ≡ false)
connected-only Connected false h = (refl, refl)
connected-only Connected true h = absurd (true≢false (sym h))
connected-only _ b h = absurd (true≢false (sym h))

module _ (answers : List Asked) (t : Talk) where
  -- where the secret has expired, a new one is asked for
  asks-renewed : HasExpired answers t → refresh_questions answers t ≡ question.Refresh ∷ []
  asks-renewed e =
      ap (λ (a : List Asked). refresh_questions a t) e.told
      ∙ ap (λ (b : Bool). if b then question.Refresh ∷ [] else []) (is-at-most e.time (t.present - t.secret_at) e.gone)

  asks-open : IsTimeAsked t → asks_validity t ≡ true
  asks-open a = ap (λ (s : ConnectionState). is_connected s && not t.refreshing) a.opened ∙ ap not a.idle

  -- the server was not silent for too long
  module _ (heard : is_missed t ≡ false) where
    abbrev beaten : Talk
    beaten = record (queue 0 Heartbeat t) { last_write = t.present }

    refresh-same : (a : List Asked) → refresh_questions a beaten ≡ refresh_questions a t
    refresh-same (answer.ValidFor None ∷ later) = refl
    refresh-same (answer.ValidFor (Some time) ∷ later) = refl
    refresh-same _ = refl

    secret-same : secret_questions answers beaten ≡ secret_questions answers t
    secret-same = ap (λ (q : List Question). if asks_validity t then question.ValidFor ∷ q else []) (refresh-same answers)

    -- a heartbeat is nothing to what is asked
    tick-same : tick_questions answers t ≡ secret_questions answers t
    tick-same =
        ap (λ (x : Talk). secret_questions answers (heartbeat_due x)) (if-false (is_missed t) (lose MissingHeartbeatError t) t heard)
        ∙ if_case (λ (x : Talk). secret_questions answers x ≡ secret_questions answers t) (is_heartbeat_due t) beaten t secret-same refl

    asked-heard : IsTimeAsked t → tick_questions answers t ≡ question.ValidFor ∷ refresh_questions answers t
    asked-heard a = tick-same ∙ if-true (asks_validity t) (question.ValidFor ∷ refresh_questions answers t) [] (asks-open a)

    unasked-heard : (IsTimeAsked t → ⊥) → tick_questions answers t ≡ []
    unasked-heard never =
        tick-same
        ∙ if_by (λ (q : List Question). q ≡ []) (asks_validity t) (question.ValidFor ∷ refresh_questions answers t) []
        (λ asks. let held = connected-only t.state t.refreshing asks in absurd (never (record { opened = held.0; idle = held.1; heard = heard }))) (λ idle. refl)

  -- after a loss nothing is asked
  unasked-missed : is_missed t ≡ true → tick_questions answers t ≡ []
  unasked-missed missed =
      ap (λ (x : Talk). secret_questions answers (heartbeat_due x)) (if-true (is_missed t) (lose MissingHeartbeatError t) t missed)
      ∙ lose-case (λ (x : Talk). secret_questions answers (heartbeat_due x) ≡ []) MissingHeartbeatError t (λ delay. refl) refl

-- where the secret is still valid, no new one is asked for
asks-none : (answers : List Asked) (t : Talk) → IsTimeAsked t → (HasExpired answers t → ⊥) → refresh_questions answers t ≡ []
asks-none (answer.ValidFor None ∷ later) t a never = refl
asks-none (answer.ValidFor (Some time) ∷ later) t a never =
    if_by (λ (q : List Question). q ≡ []) (nat_le time (t.present - t.secret_at)) (question.Refresh ∷ []) []
    (λ over. absurd (never (record {
      opened = a.opened;
      idle = a.idle;
      time = time;
      later = later;
      told = refl;
      gone = at-most time (t.present - t.secret_at) over;
    })))
    (λ valid. refl)
asks-none _ t a never = refl

pub asks-in-time : (answers : List Asked) (t : Talk) → AsksInTime answers t
asks-in-time answers t =
    record {
      unasked = λ never. by (is_missed t) refl never;
      valid = λ a never. asked-heard answers t a.heard a ∙ ap (λ (q : List Question). question.ValidFor ∷ q) (asks-none answers t a never);
      expired = λ a e. asked-heard answers t a.heard a ∙ ap (λ (q : List Question). question.ValidFor ∷ q) (asks-renewed answers t e);
    }
  where
    by : (b : Bool) → is_missed t ≡ b → (IsTimeAsked t → ⊥) → tick_questions answers t ≡ []
    by true missed never = unasked-missed answers t missed
    by false heard never = unasked-heard answers t heard never

-- ---- what frames ask

asked-in : (f : Frame) (t : Talk) → acts t ≡ true → frame_questions f t ≡ questions_in f t
asked-in f t on = if-true (acts t) (questions_in f t) [] on

started-asks : (f : Frame) (t : Talk) → t.state ≡ Connecting → t.phase ≡ AwaitStart → is_start f ≡ true → questions_in f t ≡ question.Mechanism ∷ question.Starter ∷ []
started-asks (Method zero (Start a b c d e)) t held due is =
    ap (λ (s : ConnectionState). method_questions s t.phase (Start a b c d e)) held
    ∙ ap (λ (p : Phase). method_questions Connecting p (Start a b c d e)) due
started-asks f t held due is = absurd (true≢false (sym is))

challenged-asks : (f : Frame) (challenge : List ℕ) (t : Talk) → t.state ≡ Connecting → t.phase ≡ AwaitTune → challenge_of f ≡ Some challenge
    → questions_in f t ≡ question.Challenge challenge ∷ []
challenged-asks (Method zero (Secure said)) challenge t held due is =
    ap (λ (s : ConnectionState). method_questions s t.phase (Secure said)) held
    ∙ ap (λ (p : Phase). method_questions Connecting p (Secure said)) due
    ∙ ap (λ (text : List ℕ). question.Challenge text ∷ []) (some_is said challenge is)
challenged-asks f challenge t held due is = absurd cc

-- a challenge is no start
two-kinds : (f : Frame) (challenge : List ℕ) → is_start f ≡ true → challenge_of f ≡ Some challenge → ⊥
two-kinds (Method zero (Start a b c d e)) challenge is said = (let clash : None ≡ Some challenge = said in absurd cc)
two-kinds f challenge is said = true≢false (sym is)

tuned-later : (p : Phase) → p ≡ AwaitStart → p ≡ AwaitTune → ⊥
tuned-later p is later = (let clash : AwaitStart ≡ AwaitTune = sym is ∙ later in absurd cc)

none-asked : (s : ConnectionState) (p : Phase) (m : AnyMethod) (t : Talk) → t.state ≡ s → t.phase ≡ p → acts t ≡ true → (IsAskedAt (Method zero m) t → ⊥)
    → method_questions s p m ≡ []
none-asked Connecting AwaitStart (Start a b c d e) t held due on never = absurd (never (record { acting = on; opening = held; due = inl (due, refl) }))
none-asked Connecting AwaitTune (Secure challenge) t held due on never = absurd (never (record { acting = on; opening = held; due = inr (due, refl) }))
none-asked s p m t held due on never = refl

unasked-in : (f : Frame) (t : Talk) → acts t ≡ true → (IsAskedAt f t → ⊥) → questions_in f t ≡ []
unasked-in (Method zero m) t on never = none-asked t.state t.phase m t refl refl on never
unasked-in f t on never = refl

pub asks-at-frames : (t : Talk) → AsksAtFrames t
asks-at-frames t =
    record {
      start = λ f a due. asked-in f t a.acting ∙ elim a.due [
        | inl k ↦ started-asks f t a.opening k.0 k.1
        | inr k ↦ absurd (tuned-later t.phase due k.0)
      ];
      secure = λ f challenge a said. asked-in f t a.acting ∙ elim a.due [
        | inl k ↦ absurd (two-kinds f challenge k.1 said)
        | inr k ↦ challenged-asks f challenge t a.opening k.0 said
      ];
      unasked = λ f never.
          if_by (λ (q : List Question). q ≡ []) (acts t) (questions_in f t) [] (λ on. unasked-in f t on never) (λ off. refl);
    }

-- What comes of answers: the rule is done with them, or memory was refused.
use Rattle.std.proofs.Common.{◌≡◌, ◌∙◌, sym, ap, subst, refl, true≢false, ℕ, zero, suc, take, length, List, [], ◌∷◌, ◌++◌, append-nil, Bool, true, false, if◌then◌else◌, Option, Some, None, Result}
use Rattle.amqp_frame.specs.declared.frame.Frame.TheVariants.{ProtocolHeader, Method, Raw, Heartbeat}
use Rattle.amqp_outbox.specs.Queued.{Queued}
use Rattle.amqp_auth.specs.declared.asked.Question.{Question}
use Rattle.amqp_auth.specs.declared.asked.Asked.{Asked}
use Rattle.amqp_auth.specs.declared.asked.Asked.TheVariants as answer
use Rattle.amqp_promise.specs.declared.error.ErrorKind.TheVariants.{MissingHeartbeatError}
use Rattle.amqp_frame.specs.declared.frame.Frame.{Frame}
use Rattle.amqp_frame.specs.declared.frame.RawKind.TheVariants.{RawMethod}
use Rattle.amqp_frame.specs.declared.method.Method.{Method as AnyMethod}
use Rattle.amqp_frame.specs.declared.method.Method.TheVariants.{Start, Secure, Tune, OpenOk, Close, CloseOk, Blocked, Unblocked, UpdateSecretOk}
use Rattle.amqp_auth.specs.declared.asked.Question.TheVariants as question
use Rattle.amqp_promise.specs.declared.state.ConnectionState.{ConnectionState}
use Rattle.amqp_promise.specs.declared.state.ConnectionState.TheVariants.{Connecting, Connected, Closing}
use Rattle.amqp_rules.specs.declared.state.Phase.{Phase}
use Rattle.amqp_rules.specs.declared.state.Phase.TheVariants.{AwaitStart, AwaitTune, AwaitOpenOk}
use Rattle.amqp_rules.specs.Talk.{Talk, acts, hears_on}
use Rattle.amqp_violations.specs.Violations.{stray_channel_frame}
use Rattle.amqp_rules.specs.ConnectionMethods.{on_start, on_secure, connection_rule}
use Rattle.amqp_frame.specs.Methods.{is_of_a_channel}
use Rattle.amqp_rules.specs.Frames.{method_questions, questions_in, frame_questions, frame_rule, closed_rule, on_frame}
use Rattle.amqp_rules.specs.Changes.{queue, lose, misplaced}
use Rattle.amqp_auth.specs.Providers.{Exchange, Allows}
use Rattle.amqp_auth.specs.Asking.{paired, Answer, Asks}
use Rattle.amqp_rules.specs.Asking.{Hears, Starves}
use Rattle.amqp_rules.specs.Ticks.{is_heartbeat_due, is_missed, missing_heartbeat, heartbeat_due, beat, asks_validity, has_expired, refreshed, refresh, refresh_questions, validity_told, secret_due, secret_questions, link_due, tick, tick_questions}
use Rattle.amqp_types.proofs.Small.{if_case, if-true, if-false}
use Rattle.amqp_rules.proofs.Recovering.{lose-case}

-- each answer answers its question, and there is no question beside
answers-front : (asked : List Question) (answers : List Asked) → Answer asked answers → Answer (take (length answers) asked) answers
answers-front [] [] h = tt
answers-front (a ∷ qs) (b ∷ bs) h = (h.0, answers-front qs bs h.1)
answers-front [] (b ∷ bs) h = absurd h
answers-front (a ∷ qs) [] h = absurd h

-- all was answered, and then memory was refused
pub asked-all : (asked : List Asked → Talk → List Question) (answers : List Asked) (before after : Exchange → Type 0) (t : Talk) (list list' : List Asked)
    → Asks (asked answers t) answers before after list list' → Starves asked before t list list'
asked-all asked answers before after t list list' a =
    record {
      answers = answers;
      listed = a.listed;
      fits = answers-front (asked answers t) answers a.all;
      allowed = subst (Allows before) (append-nil (paired (asked answers t) answers)) (a.allowed [] tt);
    }

-- ---- a tick

-- a heartbeat changes nothing of what is known of the secret
secret-same : (answers : List Asked) (t : Talk) (q : Queued) (n : ℕ)
    → secret_questions answers (record t { outbox = q; last_write = n }) ≡ secret_questions answers t
secret-same [] t q n = refl
secret-same (answer.Mechanism x ∷ later) t q n = refl
secret-same (answer.Starter x ∷ later) t q n = refl
secret-same (answer.Challenge x ∷ later) t q n = refl
secret-same (answer.ValidFor None ∷ later) t q n = refl
secret-same (answer.ValidFor (Some time) ∷ later) t q n = refl
secret-same (answer.Refreshed x ∷ later) t q n = refl

pub questions-beat : (answers : List Asked) (t : Talk) → secret_questions answers (heartbeat_due t) ≡ secret_questions answers t
questions-beat answers t =
    if_case (λ (x : Talk). secret_questions answers x ≡ secret_questions answers t) (is_heartbeat_due t) (record (queue 0 Heartbeat t) { last_write = t.present }) t
    (secret-same answers t _ t.present) refl

asks-beat : (t : Talk) → asks_validity (heartbeat_due t) ≡ asks_validity t
asks-beat t = if_case (λ (x : Talk). asks_validity x ≡ asks_validity t) (is_heartbeat_due t) (record (queue 0 Heartbeat t) { last_write = t.present }) t refl refl

expired-beat : (time : Option ℕ) (t : Talk) → has_expired time (heartbeat_due t) ≡ has_expired time t
expired-beat time t =
    if_case (λ (x : Talk). has_expired time x ≡ has_expired time t) (is_heartbeat_due t) (record (queue 0 Heartbeat t) { last_write = t.present }) t (same time) refl
  where
    same : (time : Option ℕ) → has_expired time (record (queue 0 Heartbeat t) { last_write = t.present }) ≡ has_expired time t
    same None = refl
    same (Some n) = refl

pub unasked-kept : (x : Talk) → secret_due [] x ≡ x
unasked-kept x = if_case (λ (y : Talk). y ≡ x) (asks_validity x) x x refl refl

pub valid-kept : (time : Option ℕ) (x : Talk) → secret_due (answer.ValidFor time ∷ []) x ≡ x
valid-kept time x =
    if_case (λ (y : Talk). y ≡ x) (asks_validity x) (if has_expired time x then x else x) x (if_case (λ (y : Talk). y ≡ x) (has_expired time x) x x refl refl) refl

pub expired-done : (time : Option ℕ) (said : Result (List ℕ) (List ℕ)) (t : Talk) → asks_validity t ≡ true → has_expired time t ≡ true
    → secret_due (answer.ValidFor time ∷ answer.Refreshed said ∷ []) (heartbeat_due t) ≡ refreshed said (heartbeat_due t)
expired-done time said t asks expired =
    let x : Talk = heartbeat_due t in
    if-true (asks_validity x) (if has_expired time x then refreshed said x else x) x (asks-beat t ∙ asks)
    ∙ if-true (has_expired time x) (refreshed said x) x (expired-beat time t ∙ expired)

-- where nothing was missed, a tick is what goes on
pub tick-heard : (before after : Exchange → Type 0) (t t' : Talk) (list list' : List Asked) → is_missed t ≡ false
    → Hears (λ answers t. secret_due answers (heartbeat_due t)) secret_questions before after t t' list list' → Hears tick tick_questions before after t (link_due t') list list'
tick-heard before after t t' list list' heard h =
    let same : missing_heartbeat t ≡ t = if-false (is_missed t) (lose MissingHeartbeatError t) t heard in
    let asked : tick_questions h.answers t ≡ secret_questions h.answers t = ap (λ (x : Talk). secret_questions h.answers (heartbeat_due x)) same ∙ questions-beat h.answers t in
    record {
      answers = h.answers;
      asks = subst (λ (q : List Question). Asks q h.answers before after list list') (sym asked) h.asks;
      talk = ap link_due (h.talk ∙ sym (ap (λ (x : Talk). secret_due h.answers (heartbeat_due x)) same));
    }

-- where the link was lost, nothing is due, and nothing is asked
lost-asks : (t : Talk) → secret_questions [] (heartbeat_due (lose MissingHeartbeatError t)) ≡ []
lost-asks t = lose-case (λ (x : Talk). secret_questions [] (heartbeat_due x) ≡ []) MissingHeartbeatError t (λ delay. refl) refl

lost-done : (t : Talk) → secret_due [] (heartbeat_due (lose MissingHeartbeatError t)) ≡ lose MissingHeartbeatError t
lost-done t = lose-case (λ (x : Talk). secret_due [] (heartbeat_due x) ≡ x) MissingHeartbeatError t (λ delay. refl) refl

-- where the server is missed, nothing is asked
pub tick-missed : (state : Exchange → Type 0) (t : Talk) (list : List Asked) → is_missed t ≡ true
    → Hears tick tick_questions state state t (link_due (lose MissingHeartbeatError t)) list list
tick-missed state t list missed =
    let x : Talk = lose MissingHeartbeatError t in
    let same : missing_heartbeat t ≡ x = if-true (is_missed t) x t missed in
    let asked : tick_questions [] t ≡ [] = ap (λ (y : Talk). secret_questions [] (heartbeat_due y)) same ∙ lost-asks t in
    record {
      answers = [];
      asks = subst (λ (q : List Question). Asks q [] state state list list) (sym asked) (record { listed = sym (append-nil list); all = tt; allowed = λ rest h. h });
      talk = ap link_due (sym (ap (λ (y : Talk). secret_due [] (heartbeat_due y)) same ∙ lost-done t));
    }

-- ---- more answers than were asked for

refresh-more : (answers more : List Asked) (t : Talk) → Answer (question.Refresh ∷ []) answers → refresh (answers ++ more) t ≡ refresh answers t
refresh-more (answer.Refreshed said ∷ later) more t h = refl
refresh-more [] more t h = absurd h
refresh-more (answer.Mechanism x ∷ later) more t h = absurd (true≢false (sym h.0))
refresh-more (answer.Starter x ∷ later) more t h = absurd (true≢false (sym h.0))
refresh-more (answer.Challenge x ∷ later) more t h = absurd (true≢false (sym h.0))
refresh-more (answer.ValidFor x ∷ later) more t h = absurd (true≢false (sym h.0))

validity-more : (answers more : List Asked) (t : Talk) → Answer (question.ValidFor ∷ refresh_questions answers t) answers
    → (validity_told (answers ++ more) t ≡ validity_told answers t) × (refresh_questions (answers ++ more) t ≡ refresh_questions answers t)
validity-more (answer.ValidFor time ∷ later) more t h = (by (has_expired time t) h.1, refl)
  where
    by : (b : Bool) → Answer (if b then question.Refresh ∷ [] else []) later → (if b then refresh (later ++ more) t else t) ≡ (if b then refresh later t else t)
    by true h = refresh-more later more t h
    by false h = refl
validity-more [] more t h = absurd h
validity-more (answer.Mechanism x ∷ later) more t h = absurd (true≢false (sym h.0))
validity-more (answer.Starter x ∷ later) more t h = absurd (true≢false (sym h.0))
validity-more (answer.Challenge x ∷ later) more t h = absurd (true≢false (sym h.0))
validity-more (answer.Refreshed x ∷ later) more t h = absurd (true≢false (sym h.0))

secret-more : (answers more : List Asked) (x : Talk) (b : Bool) → Answer (if b then question.ValidFor ∷ refresh_questions answers x else []) answers
    → ((if b then validity_told (answers ++ more) x else x) ≡ (if b then validity_told answers x else x))
    × ((if b then question.ValidFor ∷ refresh_questions (answers ++ more) x else []) ≡ (if b then question.ValidFor ∷ refresh_questions answers x else []))
secret-more answers more x true h = (let k = validity-more answers more x h in (k.0, ap (λ (q : List Question). question.ValidFor ∷ q) k.1))
secret-more answers more x false h = (refl, refl)

-- a tick goes by the answers to what it asks alone
pub tick-more : (answers more : List Asked) (t : Talk) → Answer (tick_questions answers t) answers
    → (tick (answers ++ more) t ≡ tick answers t) × (tick_questions (answers ++ more) t ≡ tick_questions answers t)
tick-more answers more t h = (let k = secret-more answers more (beat t) (asks_validity (beat t)) h in (ap link_due k.0, k.1))

starter-more : (mechanism : List ℕ) (answers more : List Asked) (t : Talk) → Answer (question.Starter ∷ []) answers
    → on_start (answer.Mechanism mechanism ∷ (answers ++ more)) t ≡ on_start (answer.Mechanism mechanism ∷ answers) t
starter-more mechanism (answer.Starter said ∷ later) more t h = refl
starter-more mechanism (answer.Mechanism x ∷ later) more t h = absurd (true≢false (sym h.0))
starter-more mechanism (answer.Challenge x ∷ later) more t h = absurd (true≢false (sym h.0))
starter-more mechanism (answer.ValidFor x ∷ later) more t h = absurd (true≢false (sym h.0))
starter-more mechanism (answer.Refreshed x ∷ later) more t h = absurd (true≢false (sym h.0))
starter-more mechanism [] more t h = absurd h

start-more : (answers more : List Asked) (t : Talk) → Answer (question.Mechanism ∷ question.Starter ∷ []) answers → on_start (answers ++ more) t ≡ on_start answers t
start-more (answer.Mechanism mechanism ∷ answers) more t h = starter-more mechanism answers more t h.1
start-more (answer.Starter x ∷ later) more t h = absurd (true≢false (sym h.0))
start-more (answer.Challenge x ∷ later) more t h = absurd (true≢false (sym h.0))
start-more (answer.ValidFor x ∷ later) more t h = absurd (true≢false (sym h.0))
start-more (answer.Refreshed x ∷ later) more t h = absurd (true≢false (sym h.0))
start-more [] more t h = absurd h

secure-more : (challenge : List ℕ) (answers more : List Asked) (t : Talk) → Answer (question.Challenge challenge ∷ []) answers → on_secure (answers ++ more) t ≡ on_secure answers t
secure-more challenge (answer.Challenge said ∷ later) more t h = refl
secure-more challenge (answer.Mechanism x ∷ later) more t h = absurd (true≢false (sym h.0))
secure-more challenge (answer.Starter x ∷ later) more t h = absurd (true≢false (sym h.0))
secure-more challenge (answer.ValidFor x ∷ later) more t h = absurd (true≢false (sym h.0))
secure-more challenge (answer.Refreshed x ∷ later) more t h = absurd (true≢false (sym h.0))
secure-more challenge [] more t h = absurd h

connection-more : (s : ConnectionState) (p : Phase) (m : AnyMethod) (answers more : List Asked) (t : Talk) → Answer (method_questions s p m) answers
    → connection_rule s p m (answers ++ more) t ≡ connection_rule s p m answers t
connection-more s p (Close code text class method) answers more t h = refl
connection-more s p (Blocked reason) answers more t h = refl
connection-more s p Unblocked answers more t h = refl
connection-more Closing p CloseOk answers more t h = refl
connection-more Closing p m answers more t h = refl
connection-more Connecting AwaitStart (Start a b c d e) answers more t h = start-more answers more t h
connection-more Connecting AwaitTune (Secure challenge) answers more t h = secure-more challenge answers more t h
connection-more Connecting AwaitTune (Tune a b c) answers more t h = refl
connection-more Connecting AwaitOpenOk OpenOk answers more t h = refl
connection-more Connected p UpdateSecretOk answers more t h = refl
connection-more s p m answers more t h = refl

rule-more : (f : Frame) (answers more : List Asked) (t : Talk) → Answer (questions_in f t) answers → frame_rule f (answers ++ more) t ≡ frame_rule f answers t
rule-more (Method zero m) answers more t h =
    ap (λ (x : Talk). if is_of_a_channel m then misplaced (stray_channel_frame RawMethod) t else x) (connection-more t.state t.phase m answers more t h)
rule-more (Method (suc n) m) answers more t h = refl
rule-more (ProtocolHeader version) answers more t h = refl
rule-more Heartbeat answers more t h = refl
rule-more (Raw zero kind bytes) answers more t h = refl
rule-more (Raw (suc n) kind bytes) answers more t h = refl

-- a frame goes by the answers to what it asks alone
pub frame-more : (f : Frame) (answers more : List Asked) (t : Talk) → Answer (frame_questions f t) answers → on_frame f (answers ++ more) t ≡ on_frame f answers t
frame-more f answers more t h = by (acts t) h
  where
    by : (b : Bool) → Answer (if b then questions_in f t else []) answers
        → (if b then frame_rule f (answers ++ more) t else (if hears_on t then closed_rule f t else t)) ≡ (if b then frame_rule f answers t else (if hears_on t then closed_rule f t else t))
    by true h = rule-more f answers more t h
    by false h = refl

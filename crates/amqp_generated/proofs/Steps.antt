-- The steps of a generated script, each with what is said in it, while the connection is open.
use Rattle.std.proofs.Common.{◌≡◌, ◌≤◌, ◌<◌, ℕ, zero, suc, ◌+◌, ◌*◌, ◌%◌, ◌==◌, true, false, List, [], ◌∷◌, ◌++◌, length, Some, None, Ok, refl, ap, ◌∙◌, subst, arith}
use Rattle.std.specs.Prelude.{codes, map, replicate}
use Rattle.std.specs.List.{AllByRecursion}
use Rattle.std.proofs.lemmas.Nat.{mod_below}
use Rattle.amqp_types.proofs.Small.{if-true, same-number}
use Rattle.amqp_frame.specs.declared.frame.Frame.{Frame}
use Rattle.amqp_frame.specs.declared.frame.Frame.TheVariants.{Method}
use Rattle.amqp_frame.specs.declared.method.Method.TheVariants.{CloseOk}
use Rattle.amqp_frame.specs.Frames.{encoding}
use Rattle.amqp_outbox.specs.declared.item.Item.{Item}
use Rattle.amqp_outbox.specs.Items.{plain_item}
use Rattle.amqp_promise.specs.declared.state.ConnectionState.TheVariants.{Connected}
use Rattle.amqp_channels.specs.declared.channels.Channel.{Channel}
use Rattle.amqp_answers.specs.declared.answer.Answer.TheVariants.{Channel as AnswerChannel}
use Rattle.amqp_commands.specs.declared.command.Cmd.TheVariants.{OpenChannel, CloseConnection}
use Rattle.amqp_answers.specs.Settled.{Promises, settled}
use Rattle.amqp_channels.specs.Channels.{new_channel, made_closing}
use Rattle.amqp_settings.specs.Handshake.{channel_open, our_close}
use Rattle.amqp_maps.specs.Listed.{put, map_values}
use Rattle.amqp_channels.specs.Numbering.{after}
use Rattle.amqp_maps.proofs.Numbered.{put-same}
use Rattle.amqp_faultless.specs.Faultless.{Use, unused, Server, used_as, said_to, provided, heard_from}
use Rattle.amqp_faultless.specs.Faultless.ServerStage.{Serving, Gone}
use Rattle.amqp_engine.specs.declared.given.Given.{Given}
use Rattle.amqp_engine.specs.declared.given.GivenStep.TheVariants.{Bytes, Command}
use Rattle.amqp_engine.specs.Plan.{at_most_64}
use Rattle.amqp_engine.specs.Log.{Log}
use Rattle.amqp_engine.specs.Sending.{Sending, frames}
use Rattle.amqp_engine.specs.Valid.{LinkSaying, Ours, after_sayings}
use Rattle.amqp_engine.proofs.PlayedOn.{IsOn}
use Rattle.amqp_replay.specs.GeneratedScenario.{publish_hello}
use Rattle.amqp_generated.proofs.OpenSession.{resting, now, open_ok, open-turn, opened-turn, close-turn, closed-turn}
use Rattle.amqp_generated.proofs.Publishing.{IsPassed, publish-turn}
use Rattle.amqp_generated.proofs.Ahead.{spelled_frames, hears-none, hears-one, Goes, gone-already, goes-on}
use Rattle.amqp_generated.proofs.Ready.{IsReady, ready-drawn, one_more, ready-more}

-- from a session with so many open channels these steps go on, where these frames are still to come
abbrev pub GoesFrom : ℕ → List Given → List Frame → Type 0
GoesFrom k gs fs =
    (channels : List (ℕ × Channel)) (cursor made place : ℕ) (promises : Promises) (a : Log) (x : Sending) (s : Server)
    → IsReady k channels cursor → IsOn gs a.plan → x.sent ≡ length x.committed → s.stage ≡ Serving
    → Goes gs (resting Connected channels cursor made promises [] place) a x s (spelled_frames fs)

-- ---- a channel is opened

-- the server that was asked to open a channel
abbrev asked_open : ℕ → Server → Server
asked_open n s = used_as n (record unused { asked = true }) s

-- and did so
abbrev has_opened : ℕ → Server → Server
has_opened n s = used_as n (record (s.uses n) { asked = false; opened = true }) s

-- it may
may-open : (k : ℕ) (s : Server) → s.stage ≡ Serving
    → heard_from (asked_open (suc k) s).stage (open_ok (suc k)) (asked_open (suc k) s) ≡ Some (has_opened (suc k) (asked_open (suc k) s))
may-open k s serving =
    let t = asked_open (suc k) s in
    ap (λ st. heard_from st (open_ok (suc k)) t) serving
    ∙ ap (λ (u : Use). provided u.asked (has_opened (suc k) t)) (if-true (suc k == suc k) (record unused { asked = true }) (s.uses (suc k)) (same-number (suc k)))

pub open-goes : (k : ℕ) (gs : List Given) (fs : List Frame) → k < 2000 → GoesFrom (suc k) gs fs
    → GoesFrom k (now (Command OpenChannel) ∷ now (Bytes (encoding (open_ok (suc k)))) ∷ gs) (open_ok (suc k) ∷ fs)
open-goes k gs fs within rest channels cursor made place promises a x s ready on all serving =
    goes-on (now (Command OpenChannel)) (now (Bytes (encoding (open_ok (suc k)))) ∷ gs) _ _ a x s (asked_open (suc k) s) (spelled_frames (open_ok (suc k) ∷ fs)) (spelled_frames (open_ok (suc k) ∷ fs))
    (plain_item (suc k) (channel_open (suc k)) ∷ []) on refl refl all
    (open-turn k cursor made place channels promises (ready-drawn k channels cursor (omega (arith, within)) ready))
    (hears-none (plain_item (suc k) (channel_open (suc k)) ∷ []) s (asked_open (suc k) s) (open_ok (suc k) ∷ fs) (λ more. refl))
    (λ b y on' all'.
    goes-on (now (Bytes (encoding (open_ok (suc k))))) gs _ _ b y (asked_open (suc k) s) (has_opened (suc k) (asked_open (suc k) s)) (spelled_frames (open_ok (suc k) ∷ fs)) (spelled_frames fs) [] on' refl refl all'
    (opened-turn k made (after 2047 (suc k)) (made + 1) place (new_channel made) (put (suc k) (new_channel made) channels) (put made None promises) (omega (arith, within)) (put-same (suc k) (new_channel made) channels))
    (hears-one (open_ok (suc k)) (asked_open (suc k) s) (has_opened (suc k) (asked_open (suc k) s)) fs (may-open k s serving))
    (λ c z on'' all''.
    rest (one_more k made channels) (after 2047 (suc k)) (made + 1) (at_most_64 (place + 16)) (settled made (Ok (AnswerChannel (suc k) made)) (put made None promises)) c z (has_opened (suc k) (asked_open (suc k) s))
    (ready-more k made channels cursor (omega (arith, within)) ready) on'' all'' serving))

-- ---- a message is published

-- what is published is nothing that the server learns from
passed-said : (items : List Item) (s : Server) (rest : List LinkSaying) → AllByRecursion IsPassed (frames items) → after_sayings (map Ours (frames items) ++ rest) (Some s) ≡ after_sayings rest (Some s)
passed-said [] s rest h = refl
passed-said (i ∷ items) s rest h =
    let same : said_to i.frame s ≡ s = ap (λ f. said_to f s) h.0.is in
    ap (λ t. after_sayings (map Ours (frames items) ++ rest) (Some t)) same ∙ passed-said items s rest h.1

length-zeros : (n : ℕ) → length {A = ℕ} (replicate n 0) ≡ n
length-zeros zero = refl
length-zeros (suc n) = ap suc (length-zeros n)

pub publish-goes : (k n size : ℕ) (gs : List Given) (fs : List Frame) → 1 ≤ n → n ≤ k → size ≤ 9000 → GoesFrom k gs fs
    → GoesFrom k (now (publish_hello n size) ∷ gs) fs
publish-goes k n size gs fs some listed short rest channels cursor made place promises a x s ready on all serving =
    let c = ready.opened n some listed in
    let count = length-zeros size in
    let few : 14 ≤ 9991 = omega arith in
    let p =
    publish-turn n (record { class = 60; method = 40; arguments = 0 ∷ 0 ∷ 0 ∷ 5 ∷ codes "hello" ++ 0 ∷ [] }) (0 ∷ 0 ∷ []) (replicate size 0)
    few few (omega (arith, short, count)) channels cursor made place promises c.held c.listed c.opened ready.flow in
    goes-on (now (publish_hello n size)) gs _ _ a x s s (spelled_frames fs) (spelled_frames fs) p.items on refl refl all p.turns
    (hears-none p.items s s fs (λ more. passed-said p.items s more p.passed))
    (λ b y on' all'. rest channels cursor (made + 1) place p.after b y s ready on' all' serving)

-- ---- the connection is closed

-- the server to which the client said so
abbrev asked_close : Server → Server
asked_close s = record s { closing = true }

pub close-goes : (k : ℕ) → GoesFrom k (now (Command (CloseConnection 200 (codes "OK"))) ∷ now (Bytes (encoding (Method 0 CloseOk))) ∷ []) (Method 0 CloseOk ∷ [])
close-goes k channels cursor made place promises a x s ready on all serving =
    let item = plain_item 0 (our_close 200 (codes "OK")) in
    let t = asked_close s in
    let end : Server = record t { stage = Gone } in
    let fs : List Frame = Method 0 CloseOk ∷ [] in
    let last = closed-turn (map_values made_closing channels) cursor (made + 1) made place (put made None promises) in
    goes-on (now (Command (CloseConnection 200 (codes "OK")))) (now (Bytes (encoding (Method 0 CloseOk))) ∷ []) _ _ a x s t (spelled_frames fs) (spelled_frames fs) (item ∷ []) on refl refl all
    (close-turn channels cursor made place promises)
    (hears-none (item ∷ []) s t fs (λ more. refl))
    (λ b y on' all'.
    goes-on (now (Bytes (encoding (Method 0 CloseOk)))) [] _ last.0 b y t end (spelled_frames fs) [] [] on' refl refl all' last.1
    (hears-one (Method 0 CloseOk) t end [] (ap (λ st. heard_from st (Method 0 CloseOk) t) serving))
    (λ c z on'' all''. gone-already last.0 c z end [] all'' refl))

-- ---- all of them

-- the steps by which channels are opened after so many, before others
abbrev pub opens_from : ℕ → ℕ → List Given → List Given
opens_from k zero gs = gs
opens_from k (suc j) gs = now (Command OpenChannel) ∷ now (Bytes (encoding (open_ok (suc k)))) ∷ opens_from (suc k) j gs

-- the frames that come in them
abbrev pub frames_from : ℕ → ℕ → List Frame → List Frame
frames_from k zero fs = fs
frames_from k (suc j) fs = open_ok (suc k) ∷ frames_from (suc k) j fs

-- the steps that publish on channels after so many, before others
abbrev pub publishes_from : ℕ → ℕ → List Given → List Given
publishes_from k zero gs = gs
publishes_from k (suc j) gs = now (publish_hello (suc k) (suc k * 7919 % 9000)) ∷ publishes_from (suc k) j gs

-- the last steps
abbrev pub last_steps : List Given
last_steps = now (Command (CloseConnection 200 (codes "OK"))) ∷ now (Bytes (encoding (Method 0 CloseOk))) ∷ []

-- the steps of the script of a number once its connection is open
abbrev pub open_steps : ℕ → List Given
open_steps count = opens_from 0 count (publishes_from 0 count last_steps)

-- the frames that come in them
abbrev pub open_frames : ℕ → List Frame
open_frames count = frames_from 0 count (Method 0 CloseOk ∷ [])

publishes-go : (k done left : ℕ) → done + left ≤ k → GoesFrom k (publishes_from done left last_steps) (Method 0 CloseOk ∷ [])
publishes-go k done zero within = close-goes k
publishes-go k done (suc left) within =
    let below = mod_below (suc done * 7919) 9000 (omega arith) in
    publish-goes k (suc done) (suc done * 7919 % 9000) (publishes_from (suc done) left last_steps) (Method 0 CloseOk ∷ []) (omega arith) (omega (arith, within)) (omega (arith, below))
    (publishes-go k (suc done) left (omega (arith, within)))

opens-go : (done left : ℕ) (gs : List Given) (fs : List Frame) → done + left ≤ 2000 → GoesFrom (done + left) gs fs → GoesFrom done (opens_from done left gs) (frames_from done left fs)
opens-go done zero gs fs within rest =
    let P : ℕ → Type 0 = λ k. GoesFrom k gs fs in
    let same : done + 0 ≡ done = omega arith in
    subst P same rest
opens-go done (suc left) gs fs within rest =
    let P : ℕ → Type 0 = λ k. GoesFrom k gs fs in
    let same : done + suc left ≡ suc done + left = omega arith in
    open-goes done (opens_from (suc done) left gs) (frames_from (suc done) left fs) (omega (arith, within))
    (opens-go (suc done) left gs fs (omega (arith, within)) (subst P same rest))

-- the script of a number goes on to its end once its connection is open
pub open-goes-on : (count : ℕ) → count ≤ 2000 → GoesFrom 0 (open_steps count) (open_frames count)
open-goes-on count within =
    let P : ℕ → Type 0 = λ k. GoesFrom k (publishes_from 0 count last_steps) (Method 0 CloseOk ∷ []) in
    let same : count ≡ 0 + count = omega arith in
    opens-go 0 count (publishes_from 0 count last_steps) (Method 0 CloseOk ∷ []) (omega (arith, within)) (subst P same (publishes-go count 0 count (omega arith)))

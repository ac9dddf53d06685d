-- How the connection of a generated script is opened: four turns, computed.
use Rattle.std.proofs.Common.{◌≡◌, false, List, [], ◌∷◌, ◌++◌, length, Option, Some, None, Ok, refl, ap, sym, ◌∙◌, subst}
use Rattle.std.specs.Prelude.{codes}
use Rattle.std.specs.List.{flat_map, AllByRecursion}
use Rattle.amqp_types.specs.Reading.{short_string_at, long_string_at, scalar_at, row_at, pair_with, table_with, value_at, table_at}
use Rattle.amqp_frame.specs.FrameReading.{front, framed, sized, ended, content, method_payload, connection_arguments_at, start_at, tune_at}
use Rattle.amqp_frame.specs.declared.frame.Frame.{Frame}
use Rattle.amqp_frame.specs.Frames.{encoding}
use Rattle.amqp_outbox.specs.declared.item.Item.{Item}
use Rattle.amqp_outbox.specs.Items.{plain_item}
use Rattle.amqp_promise.specs.declared.state.ConnectionState.TheVariants.{Connected}
use Rattle.amqp_uri.specs.Address.{local}
use Rattle.amqp_auth.specs.declared.asked.Question.TheVariants as question
use Rattle.amqp_auth.specs.declared.asked.Asked.{Asked}
use Rattle.amqp_auth.specs.declared.asked.Asked.TheVariants as answer
use Rattle.amqp_auth.specs.Providers.{Exchange}
use Rattle.amqp_settings.specs.declared.configuration.Configuration.{Configuration}
use Rattle.amqp_answers.specs.declared.answer.Answer.TheVariants.{Connected as AnswerConnected}
use Rattle.amqp_settings.specs.Config.{config_of, no_options}
use Rattle.amqp_settings.specs.Handshake.{protocol_header, start_ok, tune_ok, open_vhost}
use Rattle.amqp_rules.specs.Talk.{Talk, start, has_ended}
use Rattle.amqp_answers.specs.Settled.{Promises}
use Rattle.amqp_faultless.specs.Faultless.{Server, silent, heard_from}
use Rattle.amqp_faultless.specs.Faultless.ServerStage.{Serving, Gone}
use Rattle.amqp_engine.specs.declared.given.Given.{Given}
use Rattle.amqp_engine.specs.declared.port.Step.TheVariants.{Linked, Piece}
use Rattle.amqp_engine.specs.Plan.{coming_of}
use Rattle.amqp_engine.specs.Log.{Log, loaded}
use Rattle.amqp_engine.specs.Engine.{Engine, begin}
use Rattle.amqp_engine.specs.Turn.{Turn, no_notes, turns, exchanges}
use Rattle.amqp_engine.specs.Tell.{turn_of, log_turns}
use Rattle.amqp_engine.specs.Sending.{Sending, sendings, sendings_from}
use Rattle.amqp_engine.specs.SentWhole.{last_sending}
use Rattle.amqp_engine.specs.Play.{played_turns, replayed, AreAnswered}
use Rattle.amqp_engine.specs.Valid.{LinkSaying, Theirs, Ours, after_sayings, sayings_of, sent_by_turns, IsQuiet}
use Rattle.amqp_engine.proofs.PlayedOn.{IsOn}
use Rattle.amqp_replay.specs.GeneratedScenario.{frame_comes}
use Rattle.amqp_generated.specs.Login.{guest_login}
use Rattle.amqp_generated.proofs.Turning.{Turns, silent-turn}
use Rattle.amqp_generated.proofs.OpenSession.{resting, now, resting-idle}
use Rattle.amqp_generated.proofs.Ahead.{spelled_frames, turns_left, Goes, goes-on, hears-one}
use Rattle.amqp_generated.proofs.Ready.{ready-first}
use Rattle.amqp_generated.proofs.Steps.{GoesFrom}
use Rattle.amqp_generated.proofs.Scripts.{broker_start, broker_tune, broker_open_ok, first_steps}

-- the session of a generated script at its beginning
abbrev pub client : Talk
client = start (config_of local no_options)

-- what it says up to open-ok
abbrev pub tuned : Configuration
tuned = record { channel_max = 2047; frame_max = 131072; heartbeat = 60 }

abbrev pub login_frame : Frame
login_frame = start_ok no_options (codes "PLAIN") (0 ∷ codes "guest" ++ 0 ∷ codes "guest")

abbrev pub first_items : List Item
first_items =
    plain_item 0 protocol_header
    ∷ plain_item 0 login_frame
    ∷ plain_item 0 (tune_ok tuned)
    ∷ plain_item 0 (open_vhost (codes "/"))
    ∷ []

-- what is exchanged with its provider
abbrev pub guest_exchange : Exchange
guest_exchange =
    (question.Mechanism, answer.Mechanism (codes "PLAIN"))
    ∷ (question.Starter, answer.Starter (Ok (0 ∷ codes "guest" ++ 0 ∷ codes "guest")))
    ∷ []

-- the turns of its first steps
abbrev pub link_turn : Turn
link_turn = turn_of 0 Linked [] (record no_notes { tooks = length (encoding protocol_header) ∷ [] })

abbrev pub start_turn : Turn
start_turn =
    turn_of 0 (Piece (length (encoding broker_start))) (encoding broker_start)
    (record no_notes { tooks = length (encoding login_frame) ∷ []; auths = guest_login })

abbrev pub tune_turn : Turn
tune_turn =
    turn_of 0 (Piece (length (encoding broker_tune))) (encoding broker_tune)
    (record no_notes { tooks = length (encoding (tune_ok tuned) ++ encoding (open_vhost (codes "/"))) ∷ [] })

abbrev pub first_turns : List Turn → List Turn
first_turns us = link_turn ∷ start_turn ∷ tune_turn ∷ us

-- where they lead
abbrev pub tuned_engine : Engine
tuned_engine = turns (first_turns []) (begin client)

abbrev pub tuned_log : List Given → Log
tuned_log gs = log_turns (first_turns []) (begin client) (loaded (first_steps gs))

-- what was sent then
abbrev pub tuned_sending : Sending
tuned_sending = last_sending (sendings client (first_turns []))

-- what was said, and the server then
abbrev pub first_sayings : List LinkSaying
first_sayings =
    Ours protocol_header
    ∷ Theirs broker_start
    ∷ Ours login_frame
    ∷ Theirs broker_tune
    ∷ Ours (tune_ok tuned)
    ∷ Ours (open_vhost (codes "/"))
    ∷ []

abbrev server_or : Option Server → Server
server_or None = silent
server_or (Some s) = s

abbrev pub tuned_server : Server
tuned_server = server_or (after_sayings first_sayings (Some silent))

abbrev serving_server : Server
serving_server = record tuned_server { stage = Serving; asked = false }

-- the turns of the first steps, and those of the others
pub first-played : (gs : List Given) (answers : List Asked) → replayed client (first_steps gs) (guest_login ++ answers) ≡ first_turns (played_turns (length gs) answers tuned_engine (tuned_log gs))
unfolding front framed sized ended content method_payload connection_arguments_at start_at tune_at short_string_at long_string_at scalar_at row_at pair_with table_with value_at table_at
first-played gs answers = refl

-- the others are played on
first-on : (gs : List Given) → AllByRecursion (λ (g : Given). IsQuiet g.what) gs → IsOn gs (tuned_log gs).plan
unfolding front framed sized ended content method_payload connection_arguments_at start_at tune_at short_string_at long_string_at scalar_at row_at pair_with table_with value_at table_at
first-on gs quiet = record { plan = record { rest = gs; room = None; fails = false; moment = 0 }; played = refl; room = refl; works = refl; rest = refl; quiet = quiet }

-- all that was committed was sent
pub tuned-items : tuned_sending.committed ≡ first_items
unfolding front framed sized ended content method_payload connection_arguments_at start_at tune_at short_string_at long_string_at scalar_at row_at pair_with table_with value_at table_at
tuned-items = refl

tuned-all : tuned_sending.sent ≡ length tuned_sending.committed
unfolding front framed sized ended content method_payload connection_arguments_at start_at tune_at short_string_at long_string_at scalar_at row_at pair_with table_with value_at table_at
tuned-all = refl

-- ---- open-ok comes

abbrev connected : Promises
connected = (0, Some (Ok AnswerConnected)) ∷ []

open-ok-turn : Turns (coming_of (now (frame_comes broker_open_ok))) tuned_engine (resting Connected [] 0 1 connected [] 138) []
unfolding front framed sized ended content method_payload connection_arguments_at start_at tune_at short_string_at long_string_at scalar_at row_at pair_with table_with value_at table_at
open-ok-turn =
    silent-turn (coming_of (now (frame_comes broker_open_ok))) tuned_engine
    (record {
      at = 0;
      cut = None;
      answers = [];
      questions = [];
      engine = resting Connected [] 0 1 connected [] 138;
      done = 2;
    })
    refl (λ ss. refl) refl (resting-idle Connected [] 0 1 connected [] 138)

open-ok-hears : (s : Server) → s ≡ tuned_server → heard_from s.stage broker_open_ok s ≡ Some (record s { stage = Serving; asked = false })
open-ok-hears s is = subst (λ (x : Server). heard_from x.stage broker_open_ok x ≡ Some (record x { stage = Serving; asked = false })) (sym is) refl

tuned-running : has_ended tuned_engine.talk ≡ false
unfolding front framed sized ended content method_payload connection_arguments_at start_at tune_at short_string_at long_string_at scalar_at row_at pair_with table_with value_at table_at
tuned-running = refl

-- the steps from open-ok on go on
abbrev with_open_ok : List Given → List Given
with_open_ok gs = now (frame_comes broker_open_ok) ∷ gs

from-open-ok : (gs : List Given) (fs : List Frame) → AllByRecursion (λ (g : Given). IsQuiet g.what) gs → GoesFrom 0 gs fs
    → Goes (with_open_ok gs) tuned_engine (tuned_log (with_open_ok gs)) tuned_sending tuned_server (spelled_frames (broker_open_ok ∷ fs))
from-open-ok gs fs quiet rest =
    goes-on (now (frame_comes broker_open_ok)) gs tuned_engine (resting Connected [] 0 1 connected [] 138) (tuned_log (with_open_ok gs)) tuned_sending tuned_server serving_server
    (spelled_frames (broker_open_ok ∷ fs)) (spelled_frames fs) [] (first-on (with_open_ok gs) (tt, quiet)) tuned-running refl tuned-all open-ok-turn
    (hears-one broker_open_ok tuned_server serving_server fs (open-ok-hears tuned_server refl))
    (λ b y on all. rest [] 0 1 138 connected b y serving_server ready-first on all refl)

-- ---- the whole

-- of all turns of a script whose other steps go on
pub record Whole (gs : List Given) (fs : List Frame) : Type 0 where
  pub us : List Turn
  pub played : (answers : List Asked) → replayed client (first_steps gs) (guest_login ++ answers) ≡ us
  pub asked : flat_map (λ (u : Turn). u.notes.auths) us ≡ guest_login
  pub answered : AreAnswered us (begin client)
  pub exchanged : exchanges us (begin client) ≡ guest_exchange
  pub moments : AllByRecursion (λ (u : Turn). u.at ≡ 0) us
  pub sending : Sending
  pub more : List Item
  pub only : sendings client us ≡ sending ∷ []
  pub items_are : sending.committed ≡ first_items ++ more
  pub all : sending.sent ≡ length sending.committed
  pub server : Server
  pub said : after_sayings (sayings_of (first_steps gs) (sent_by_turns us (begin client) []) 0 (spelled_frames (broker_start ∷ broker_tune ∷ fs))) (Some silent) ≡ Some server
  pub gone : server.stage ≡ Gone

first-answered : (us : List Turn) → AreAnswered us tuned_engine → AreAnswered (first_turns us) (begin client)
unfolding front framed sized ended content method_payload connection_arguments_at start_at tune_at short_string_at long_string_at scalar_at row_at pair_with table_with value_at table_at
first-answered us h = (tt, ((refl, (refl, tt)), (tt, h)))

first-exchanged : (us : List Turn) → exchanges (first_turns us) (begin client) ≡ guest_exchange ++ exchanges us tuned_engine
unfolding front framed sized ended content method_payload connection_arguments_at start_at tune_at short_string_at long_string_at scalar_at row_at pair_with table_with value_at table_at
first-exchanged us = refl

first-sent : (us : List Turn) (sending : Sending) → sendings_from us tuned_engine (tuned_sending ∷ []) ≡ sending ∷ [] → sendings client (first_turns us) ≡ sending ∷ []
unfolding front framed sized ended content method_payload connection_arguments_at start_at tune_at short_string_at long_string_at scalar_at row_at pair_with table_with value_at table_at
first-sent us sending h = h

first-said : (us : List Turn) (gs : List Given) (fs : List Frame) (server : Server)
    → after_sayings (sayings_of (with_open_ok gs) (sent_by_turns us tuned_engine (tuned_sending ∷ [])) 0 (spelled_frames (broker_open_ok ∷ fs))) (Some tuned_server) ≡ Some server
    → after_sayings (sayings_of (first_steps (with_open_ok gs)) (sent_by_turns (first_turns us) (begin client) []) 0 (spelled_frames (broker_start ∷ broker_tune ∷ broker_open_ok ∷ fs))) (Some silent) ≡ Some server
unfolding front framed sized ended content method_payload connection_arguments_at start_at tune_at short_string_at long_string_at scalar_at row_at pair_with table_with value_at table_at
first-said us gs fs server h = h

pub whole-goes : (gs : List Given) (fs : List Frame) → AllByRecursion (λ (g : Given). IsQuiet g.what) gs → GoesFrom 0 gs fs → Whole (with_open_ok gs) (broker_open_ok ∷ fs)
whole-goes gs fs quiet goes =
    let rest = from-open-ok gs fs quiet goes in
    let us = turns_left (with_open_ok gs) tuned_engine (tuned_log (with_open_ok gs)) in
    record {
      us = first_turns us;
      played = λ answers. first-played (with_open_ok gs) answers ∙ ap first_turns (rest.played answers);
      asked = ap (λ given. guest_login ++ given) rest.unasked;
      answered = first-answered us rest.answered;
      exchanged = first-exchanged us ∙ ap (λ xs. guest_exchange ++ xs) rest.exchanged;
      moments = (refl, (refl, (refl, rest.moments)));
      sending = rest.sending;
      more = rest.more;
      only = first-sent us rest.sending rest.only;
      items_are = rest.items_are ∙ ap (λ xs. xs ++ rest.more) tuned-items;
      all = rest.all;
      server = rest.server;
      said = first-said us gs fs rest.server rest.said;
      gone = rest.gone;
    }

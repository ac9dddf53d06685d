-- The session of a generated script once its connection is open, and the turns by which a channel and the connection are
-- opened and closed.
use Rattle.std.proofs.Common.{◌≡◌, ◌≤◌, ◌<◌, ◌^◌, ℕ, suc, ◌+◌, not, nat_lt, Bool, true, false, cond, List, [], ◌∷◌, length, append-nil, Option, Some, None, is_some, Ok, refl, ap, sym, ◌∙◌, subst, arith}
use Rattle.std.specs.Prelude.{codes, find, unwrap_or, option_map}
use Rattle.std.specs.Ordering.{is_eq}
use Rattle.amqp_types.proofs.Small.{and-true, and-false, nat_cmp_self}
use Rattle.amqp_frame.specs.declared.frame.Frame.{Frame}
use Rattle.amqp_frame.specs.declared.frame.Frame.TheVariants.{Method}
use Rattle.amqp_frame.specs.declared.method.Method.TheVariants.{CloseOk, ChannelOpenOk}
use Rattle.amqp_frame.specs.Frames.{encoding, FrameOf}
use Rattle.amqp_frame.proofs.Written.{frame_written}
use Rattle.amqp_outbox.specs.declared.reply.Awaited.{Awaited}
use Rattle.amqp_outbox.specs.declared.reply.Reply.TheVariants.{ChannelOpened, ConnectionClosed}
use Rattle.amqp_outbox.specs.Items.{plain_item}
use Rattle.amqp_outbox.specs.Lists.{without_first}
use Rattle.amqp_outbox.specs.Replies.{expected, is_of, left_on}
use Rattle.amqp_outbox.specs.Queued.{Queued, nothing_queued, next_publish, without_awaited}
use Rattle.amqp_promise.specs.declared.state.ConnectionState.{ConnectionState}
use Rattle.amqp_promise.specs.declared.state.ConnectionState.TheVariants.{Connected, Closing}
use Rattle.amqp_promise.specs.declared.state.ChannelState.TheVariants as channel
use Rattle.amqp_uri.specs.Address.{local}
use Rattle.amqp_rules.specs.declared.state.Phase.TheVariants.{AwaitOpenOk}
use Rattle.amqp_rules.specs.declared.state.Link.TheVariants.{Open}
use Rattle.amqp_rules.specs.declared.state.Input.TheVariants.{Acting}
use Rattle.amqp_channels.specs.declared.channels.Channel.{Channel}
use Rattle.amqp_outgoing.specs.declared.committed.Mark.{Mark}
use Rattle.amqp_answers.specs.declared.answer.Answer.TheVariants.{Channel as AnswerChannel}
use Rattle.amqp_commands.specs.declared.command.Cmd.TheVariants.{OpenChannel, CloseConnection}
use Rattle.amqp_settings.specs.Config.{config_of, no_options}
use Rattle.amqp_answers.specs.Events.{unheard}
use Rattle.amqp_maps.specs.Listed.{at, put, without, map_values}
use Rattle.amqp_rules.specs.Talk.{Talk, is_open}
use Rattle.amqp_channels.specs.Numbering.{first_number, after, drawn}
use Rattle.amqp_channels.specs.Channels.{new_channel, made_closing, all_flow}
use Rattle.amqp_rules.specs.Channels.{set_channel}
use Rattle.amqp_answers.specs.Settled.{Promises, settled}
use Rattle.amqp_rules.specs.Changes.{give_to}
use Rattle.amqp_settings.specs.Handshake.{channel_open, our_close}
use Rattle.amqp_rules.specs.Commands.{open_drawn, command}
use Rattle.amqp_rules.specs.ChannelMethods.{channel_method_by, channel_opened}
use Rattle.amqp_rules.specs.Frames.{on_frame}
use Rattle.amqp_rules.specs.Writing.{longer_than}
use Rattle.amqp_maps.proofs.Numbered.{put-same}
use Rattle.amqp_faultless.specs.Faultless.{silent}
use Rattle.amqp_engine.specs.declared.given.Given.{Given}
use Rattle.amqp_engine.specs.declared.given.GivenStep.{GivenStep}
use Rattle.amqp_engine.specs.declared.given.GivenStep.TheVariants.{Bytes, Command}
use Rattle.amqp_engine.specs.Plan.{at_most_64, coming_of}
use Rattle.amqp_engine.specs.Engine.{Engine, can_read, overlong_next, can_write, commit_all, settle}
use Rattle.amqp_engine.specs.Turn.{Progress}
use Rattle.amqp_engine.proofs.Serving.{front-whole}
use Rattle.amqp_generated.proofs.Turning.{IsIdle, Turns, stands_before, silent-turn, offer-turn, once_read, read-once, nothing-left}

-- ---- the session

-- in this state, with these channels and the next number to be drawn, so many promises of which these were not taken,
-- and what waits, is awaited and is committed
abbrev pub talk_in : ConnectionState → List (ℕ × Channel) → ℕ → ℕ → Promises → Queued → List Mark → Talk
talk_in state channels cursor made promises queued marks =
    record {
      config = config_of local no_options;
      state = state;
      phase = AwaitOpenOk;
      link = Open;
      input = Acting;
      blocked = false;
      configuration = record { channel_max = 2047; frame_max = 131072; heartbeat = 60 };
      capacity = 4194304;
      channels = channels;
      cursor = cursor;
      outbox = queued;
      committed = marks;
      handed = [];
      made = made;
      promises = promises;
      server_close = None;
      noted = unheard;
      present = 0;
      last_read = 0;
      last_write = 0;
      secret_at = 0;
      refreshing = false;
      tried = 0;
    }

-- its engine
abbrev pub engine_in : ConnectionState → List (ℕ × Channel) → ℕ → ℕ → Promises → Queued → List Mark → ℕ → List ℕ → List ℕ → Engine
engine_in state channels cursor made promises queued marks place unread unsent =
    record {
      talk = talk_in state channels cursor made promises queued marks;
      unread = unread;
      place = place;
      unsent = unsent;
      starved = None;
    }

-- these replies are awaited, and nothing waits
abbrev pub awaiting : List (ℕ × List Awaited) → Queued
awaiting awaited = record nothing_queued { awaited = awaited }

-- where nothing waits
abbrev pub resting : ConnectionState → List (ℕ × Channel) → ℕ → ℕ → Promises → List (ℕ × List Awaited) → ℕ → Engine
resting state channels cursor made promises awaited place =
    engine_in state channels cursor made promises (awaiting awaited) [] place [] []

-- a given step at the moment 0
abbrev pub now : GivenStep → Given
now what = record { at = 0; what = what }

-- ---- what may be written

pub none-next : (b : Bool) → next_publish b [] ≡ None
none-next true = refl
none-next false = refl

pub can-write : (e : Engine) → is_open e.talk ≡ true → e.talk.blocked ≡ false → overlong_next e ≡ None → nat_lt 0 (length (commit_all e).unsent) ≡ true → can_write e ≡ true
can-write e opened free short some =
    and-true (is_open e.talk) _ opened
    (and-true (not e.talk.blocked) _ (ap not free)
    (and-true (not (is_some (overlong_next e))) _ (ap (λ o. not (is_some o)) short) some))

pub cannot-write : (e : Engine) → nat_lt 0 (length (commit_all e).unsent) ≡ false → can_write e ≡ false
cannot-write e none =
    and-false (is_open e.talk) _ (and-false (not e.talk.blocked) _ (and-false (not (is_some (overlong_next e))) _ none))

pub resting-idle : (state : ConnectionState) (channels : List (ℕ × Channel)) (cursor made : ℕ) (promises : Promises) (awaited : List (ℕ × List Awaited)) (place : ℕ)
    → IsIdle (resting state channels cursor made promises awaited place)
resting-idle state channels cursor made promises awaited place =
    record {
      nothing = cannot-write (resting state channels cursor made promises awaited place) refl;
      short = ap (longer_than 4194304) (none-next (all_flow channels));
    }

-- ---- a channel is opened

-- what awaits its open-ok
abbrev pub opening : ℕ → Awaited
opening number = record { reply = ChannelOpened; promise = Some number }

pub open-turn : (k cursor made place : ℕ) (channels : List (ℕ × Channel)) (promises : Promises) → drawn 2047 (first_number 2047 cursor) channels ≡ Some (suc k)
    → Turns (coming_of (now (Command OpenChannel))) (resting Connected channels cursor made promises [] place)
    (resting Connected (put (suc k) (new_channel made) channels) (after 2047 (suc k)) (made + 1) (put made None promises) (expected (suc k) (opening made) []) place)
    (plain_item (suc k) (channel_open (suc k)) ∷ [])
open-turn k cursor made place channels promises free =
    offer-turn (coming_of (now (Command OpenChannel))) e p 0 (ap told free) (λ ss. refl) refl
    (can-write p.engine refl refl short refl) (record { marks = refl; bytes = refl }) refl
    (resting-idle Connected (put (suc k) (new_channel made) channels) (after 2047 (suc k)) (made + 1) (put made None promises) (expected (suc k) (opening made) []) place)
  where
    e : Engine
    e = resting Connected channels cursor made promises [] place

    told : Option ℕ → Progress
    told o =
        record {
          at = 0;
          cut = None;
          answers = [];
          questions = [];
          engine = record e { talk = open_drawn o (first_number 2047 cursor) e.talk };
          done = 1;
        }

    p : Progress
    p = told (Some (suc k))

    short : overlong_next p.engine ≡ None
    short = ap (longer_than 4194304) (none-next (all_flow (put (suc k) (new_channel made) channels)))

-- what awaits the close-ok of the connection
abbrev pub closing_reply : ℕ → Awaited
closing_reply number = record { reply = ConnectionClosed; promise = Some number }

-- ---- its open-ok comes

-- what was put alone goes
put-gone : {X : Type 0} (n : ℕ) (x : X) → without n (put n x []) ≡ []
put-gone n x = ap (λ o. cond (is_eq o) [] ((n, x) ∷ [])) (nat_cmp_self n)

abbrev pub open_ok : ℕ → Frame
open_ok n = Method n ChannelOpenOk

pub open-ok-spells : (n : ℕ) → n < 2 ^ 16 → FrameOf (Method n ChannelOpenOk) (encoding (Method n ChannelOpenOk))
open-ok-spells n small = frame_written (Method n ChannelOpenOk) (small, tt) (omega arith)

-- the channel is open
opened-talk : (k number cursor made : ℕ) (c : Channel) (channels : List (ℕ × Channel)) (promises : Promises) → at (suc k) channels ≡ Some c
    → on_frame (Method (suc k) ChannelOpenOk) [] (talk_in Connected channels cursor made promises (awaiting (expected (suc k) (opening number) [])) [])
    ≡ talk_in Connected (put (suc k) (record c { state = channel.Connected }) channels) cursor made (settled number (Ok (AnswerChannel (suc k) c.opened)) promises) (awaiting []) []
opened-talk k number cursor made c channels promises listed =
    ap (λ o. channel_method_by o n ChannelOpenOk t) listed
    ∙ ap (λ o. channel_opened n c (option_map (λ (a : Awaited). a.promise) (find (is_of ChannelOpened) (unwrap_or o []))) t) (put-same n (opening number ∷ []) [])
    ∙ ap (λ (q : Queued). give_to (Some number) (Ok (AnswerChannel n c.opened)) (set_channel n (record c { state = channel.Connected }) (record t { outbox = q }))) left
  where
    n : ℕ
    n = suc k

    t : Talk
    t = talk_in Connected channels cursor made promises (awaiting (expected (suc k) (opening number) [])) []

    left : without_awaited n ChannelOpened t.outbox ≡ awaiting []
    left =
        ap (λ o. awaiting (left_on n (without_first (is_of ChannelOpened) (unwrap_or o [])) (put n (opening number ∷ []) []))) (put-same n (opening number ∷ []) [])
        ∙ ap awaiting (put-gone n (opening number ∷ []))

-- what stands before a frame whose octets came at once
abbrev came : ConnectionState → List (ℕ × Channel) → ℕ → ℕ → ℕ → Promises → List (ℕ × List Awaited) → Frame → Progress
came state channels cursor made place promises awaited f =
    record {
      at = 0;
      cut = None;
      answers = [];
      questions = [];
      engine = engine_in state channels cursor made promises (awaiting awaited) [] place (encoding f) [];
      done = 1;
    }

-- it is read
came-read : (state : ConnectionState) (channels : List (ℕ × Channel)) (cursor made place : ℕ) (promises : Promises) (awaited : List (ℕ × List Awaited)) (f : Frame) (m : ℕ)
    → FrameOf f (encoding f) → length (encoding f) ≡ suc m → length (encoding f) ≤ 131072
    → can_read (once_read f (length (encoding f)) (came state channels cursor made place promises awaited f)).engine ≡ false
    → stands_before (coming_of (now (Bytes (encoding f)))) (resting state channels cursor made promises awaited place)
    ≡ once_read f (length (encoding f)) (came state channels cursor made place promises awaited f)
came-read state channels cursor made place promises awaited f m spelled size short last =
    let p = came state channels cursor made place promises awaited f in
    read-once p f (length (encoding f)) m refl (front-whole silent p.engine f (encoding f) [] (sym (append-nil (encoding f))) spelled short) refl size last

pub opened-turn : (k number cursor made place : ℕ) (c : Channel) (channels : List (ℕ × Channel)) (promises : Promises) → suc k < 2 ^ 16 → at (suc k) channels ≡ Some c
    → Turns (coming_of (now (Bytes (encoding (open_ok (suc k)))))) (resting Connected channels cursor made promises (expected (suc k) (opening number) []) place)
    (resting Connected (put (suc k) (record c { state = channel.Connected }) channels) cursor made (settled number (Ok (AnswerChannel (suc k) c.opened)) promises) [] (at_most_64 (place + 16)))
    []
opened-turn k number cursor made place c channels promises small listed =
    silent-turn (coming_of (now (Bytes (encoding (open_ok (suc k)))))) (resting Connected channels cursor made promises awaited place) after
    (came-read Connected channels cursor made place promises awaited (open_ok (suc k)) 15 (open-ok-spells (suc k) small) refl short last ∙ is)
    (λ ss. refl) refl
    (resting-idle Connected (put (suc k) (record c { state = channel.Connected }) channels) cursor made (settled number (Ok (AnswerChannel (suc k) c.opened)) promises) [] (at_most_64 (place + 16)))
  where
    awaited : List (ℕ × List Awaited)
    awaited = expected (suc k) (opening number) []

    short : 16 ≤ 131072
    short = omega arith

    left : Talk → Progress
    left t =
        record {
          at = 0;
          cut = None;
          answers = [];
          questions = [];
          engine = settle (record { talk = t; unread = []; place = at_most_64 (place + 16); unsent = []; starved = None });
          done = 2;
        }

    after : Progress
    after = left (talk_in Connected (put (suc k) (record c { state = channel.Connected }) channels) cursor made (settled number (Ok (AnswerChannel (suc k) c.opened)) promises) (awaiting []) [])

    is : once_read (open_ok (suc k)) 16 (came Connected channels cursor made place promises awaited (open_ok (suc k))) ≡ after
    is = ap left (opened-talk k number cursor made c channels promises listed)

    last : can_read (once_read (open_ok (suc k)) 16 (came Connected channels cursor made place promises awaited (open_ok (suc k)))).engine ≡ false
    last =
        let P : Progress → Type 0 = λ q. can_read q.engine ≡ false in
        subst P (sym is) (nothing-left after.engine refl)

-- ---- the connection is closed

pub close-turn : (channels : List (ℕ × Channel)) (cursor made place : ℕ) (promises : Promises)
    → Turns (coming_of (now (Command (CloseConnection 200 (codes "OK"))))) (resting Connected channels cursor made promises [] place)
    (resting Closing (map_values made_closing channels) cursor (made + 1) (put made None promises) (expected 0 (closing_reply made) []) place)
    (plain_item 0 (our_close 200 (codes "OK")) ∷ [])
close-turn channels cursor made place promises =
    offer-turn (coming_of (now (Command (CloseConnection 200 (codes "OK"))))) e p 0 refl (λ ss. refl) refl
    (can-write p.engine refl refl short refl) (record { marks = refl; bytes = refl }) refl
    (resting-idle Closing (map_values made_closing channels) cursor (made + 1) (put made None promises) (expected 0 (closing_reply made) []) place)
  where
    e : Engine
    e = resting Connected channels cursor made promises [] place

    p : Progress
    p =
        record {
          at = 0;
          cut = None;
          answers = [];
          questions = [];
          engine = record e { talk = command (CloseConnection 200 (codes "OK")) e.talk };
          done = 1;
        }

    short : overlong_next p.engine ≡ None
    short = ap (longer_than 4194304) (none-next (all_flow (map_values made_closing channels)))

-- our close is answered
pub close-ok-spells : FrameOf (Method 0 CloseOk) (encoding (Method 0 CloseOk))
close-ok-spells = frame_written (Method 0 CloseOk) (omega arith, tt) (omega arith)

pub closed-turn : (channels : List (ℕ × Channel)) (cursor made number place : ℕ) (promises : Promises)
    → (e : Engine) × Turns (coming_of (now (Bytes (encoding (Method 0 CloseOk))))) (resting Closing channels cursor made promises (expected 0 (closing_reply number) []) place) e []
closed-turn channels cursor made number place promises =
    let awaited = expected 0 (closing_reply number) [] in
    let short : 12 ≤ 131072 = omega arith in
    let after = once_read (Method 0 CloseOk) 12 (came Closing channels cursor made place promises awaited (Method 0 CloseOk)) in (
      after.engine,
      silent-turn (coming_of (now (Bytes (encoding (Method 0 CloseOk))))) (resting Closing channels cursor made promises awaited place) after
          (came-read Closing channels cursor made place promises awaited (Method 0 CloseOk) 11 close-ok-spells refl short refl)
          (λ ss. refl) refl (record { nothing = refl; short = refl }),
    )

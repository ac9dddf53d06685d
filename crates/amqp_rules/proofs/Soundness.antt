-- Every rule leads from a sound state to a sound one.
use Rattle.std.proofs.Common.{◌≡◌, ◌∙◌, ap, sym, subst, refl, ℕ, ◌-◌, ◌==◌, ◌&&◌, not, nat_le, if◌then◌else◌, Bool, true, false, List, [], ◌∷◌, drop, Option, Some, None, Result, Ok, Err, is_some, arith, true≢false}
use Rattle.std.specs.Prelude.{IsTrue}
use Rattle.std.specs.Map.{keys_of}
use Rattle.amqp_frame.specs.declared.frame.Frame.TheVariants.{Heartbeat}
use Rattle.amqp_outbox.specs.declared.item.Item.{Item}
use Rattle.amqp_outbox.specs.declared.reply.Reply.TheVariants.{SecretDone}
use Rattle.amqp_outbox.specs.Items.{plain_item}
use Rattle.amqp_outbox.specs.Queued.{Queued, begin_group, after_control, after_begun, waiting_items}
use Rattle.amqp_channels.specs.declared.channels.Channel.{Channel}
use Rattle.amqp_channels.specs.declared.channels.Debt.TheVariants as debt
use Rattle.amqp_outgoing.specs.declared.committed.Mark.{Mark}
use Rattle.amqp_outgoing.specs.declared.committed.Then.{Then}
use Rattle.amqp_outgoing.specs.declared.committed.Then.TheVariants.{Nothing, Answer, Pays, Finish}
use Rattle.amqp_promise.specs.declared.state.ConnectionState.{ConnectionState}
use Rattle.amqp_promise.specs.declared.state.ConnectionState.TheVariants.{Initial, Reconnecting, Connecting, Connected, Closed, Error}
use Rattle.amqp_rules.specs.declared.state.Link.{Link}
use Rattle.amqp_rules.specs.declared.state.Link.TheVariants.{Due, Wanted, Asked, Open, Ended}
use Rattle.amqp_promise.specs.declared.io_fault.IoFault.{IoFault}
use Rattle.amqp_promise.specs.declared.io_fault.IoFault.TheVariants.{Refused}
use Rattle.amqp_answers.specs.declared.answer.Answer.TheVariants.{Sent}
use Rattle.amqp_violations.specs.declared.misread.Misread.{Misread}
use Rattle.amqp_promise.specs.declared.error.ErrorKind.TheVariants.{IOError, MissingHeartbeatError, SerialisationError}
use Rattle.amqp_promise.specs.declared.error.ErrorKind.{ErrorKind}
use Rattle.amqp_maps.specs.Listed.{at, without}
use Rattle.amqp_settings.specs.Config.{Config}
use Rattle.amqp_auth.specs.declared.asked.Asked.{Asked as ProviderAnswer}
use Rattle.amqp_rules.specs.Talk.{Talk, start, acts, has_ended, end_of, is_acting, is_asked, is_open, is_open_link, is_asked_link, end_of_link}
use Rattle.amqp_rules.specs.Changes.{queue, starve, lose, finish, promise}
use Rattle.amqp_rules.specs.Links.{asked, asked_link, linked, refused_after, link_failed, piece, dropped, misread, lost}
use Rattle.amqp_rules.specs.Recovery.{next_delay}
use Rattle.amqp_settings.specs.Handshake.{new_secret, refresh_reason}
use Rattle.amqp_violations.specs.Violations.{misread_error}
use Rattle.amqp_rules.specs.Channels.{channel_at}
use Rattle.amqp_rules.specs.Commands.{command}
use Rattle.amqp_rules.proofs.Walk.{pay-case}
use Rattle.amqp_rules.specs.Writing.{committed_as, next_within, commit, overlong, end_overlong, next_frame, flows, pay, follow, sent, sent_among, taken}
use Rattle.amqp_rules.specs.Ticks.{is_missed, is_heartbeat_due, missing_heartbeat, beat, refreshed, link_at, link_due, timed, tick}
use Rattle.amqp_answers.specs.declared.event.Event.{Event}
use Rattle.amqp_rules.specs.Answers.{answer_of, take_answer, end_event, without_event, take_event, take_frames}
use Rattle.amqp_rules.specs.Laws.{IsEnded, StaysSound, is_end}
use Rattle.amqp_rules.specs.Sound.{IsSound, FitsChannels, fits_link, Finishes, following, goes_on, is_unopened}
use Rattle.amqp_types.proofs.Small.{if_case, if_by}
use Rattle.amqp_rules.proofs.Heard.{secret-case}
use Rattle.amqp_rules.proofs.Keeping.{beats-connected, asks-connected}
use Rattle.amqp_rules.proofs.Sending.{sent_among-closed}
use Rattle.amqp_rules.proofs.Ascending.{put-from, without-ascends, without-from, without-below, ascend-from}
use Rattle.amqp_rules.proofs.Finishing.{committed-follows, dropped-acts, dropped-finishes, first-goes, queue-finishes, sent-committed}
use Rattle.amqp_rules.specs.declared.state.Input.{Input}
use Rattle.amqp_rules.specs.declared.state.Input.TheVariants as input
use Rattle.amqp_rules.proofs.OpenedBy.{names-new, names-none, names-taken, fits-later, fits-linked}
use Rattle.amqp_rules.proofs.Opening.{fits-awaited, fits-owing, fits-paid-gone, fits-new}
use Rattle.amqp_rules.proofs.SoundChanges.{sound-give, sound-fail, sound-lose, sound-finish, sound-starve, sound-present, sound-noted, listed-some}
use Rattle.amqp_rules.proofs.SoundFrames.{sound-frame}
use Rattle.amqp_rules.proofs.SoundCommands.{sound-command}

-- ---- links

asked-fits : (state : ConnectionState) (l : Link ErrorKind) → fits_link state l ≡ true → fits_link state (asked_link l) ≡ true
asked-fits Initial Wanted h = refl
asked-fits Reconnecting Wanted h = refl
asked-fits _ Wanted h = absurd cc
asked-fits state l h = h

asked-acts : (l : Link ErrorKind) (b : Bool) → (is_open_link (asked_link l) && b) ≡ true → (is_open_link l && b) ≡ true
asked-acts Wanted b h = h
asked-acts Asked b h = h
asked-acts Open b h = h
asked-acts (Due moment) b h = h
asked-acts (Ended r) b h = h

asked-unopened : (state : ConnectionState) (l : Link ErrorKind) → is_asked_link l ≡ true → fits_link state l ≡ true → is_unopened state ≡ true
asked-unopened Initial l h fits = refl
asked-unopened Connecting l h fits = refl
asked-unopened Reconnecting l h fits = refl
asked-unopened _ Asked h fits = absurd cc
asked-unopened _ Wanted h fits = absurd cc
asked-unopened _ Open h fits = absurd cc
asked-unopened _ (Due moment) h fits = absurd cc
asked-unopened _ (Ended r) h fits = absurd cc

pub sound-asked : (t : Talk) → IsSound t → IsSound (asked t)
sound-asked t s =
    record {
      link = asked-fits t.state t.link s.link;
      room = s.room;
      acting = s.acting;
      finish = s.finish;
      listed = s.listed;
      promises = s.promises;
      answers = s.answers;
      channels = fits-later t.state (acts t) t.channels t.outbox.awaited t.made s.channels t.state (acts (asked t)) (λ u. u) (asked-acts t.link (is_acting t.input));
    }

pub sound-linked : (t : Talk) → IsSound t → IsSound (linked t)
sound-linked t s =
    if_by IsSound (is_asked t) _ t
    (λ wanted.
    record {
      link = refl;
      room = λ h. absurd cc;
      acting = λ h. refl;
      finish = (refl, tt);
      listed = s.listed;
      promises = s.promises;
      answers = s.answers;
      channels = fits-linked t.state (acts t) t.channels t.outbox.awaited t.made s.channels (asked-unopened t.state t.link wanted s.link);
    })
    (λ other. s)

-- a link that was asked for may be one that is due
pub due-fits : (state : ConnectionState) (l : Link ErrorKind) (moment : ℕ) → is_asked_link l ≡ true → fits_link state l ≡ true → fits_link state (Due moment) ≡ true
due-fits Initial Asked moment h k = refl
due-fits Reconnecting Asked moment h k = refl
due-fits _ Asked moment h k = absurd cc
due-fits state (Due n) moment h k = absurd cc
due-fits state Wanted moment h k = absurd cc
due-fits state Open moment h k = absurd cc
due-fits state (Ended r) moment h k = absurd cc

sound-refused : (delay : Option ℕ) (t : Talk) → is_asked t ≡ true → IsSound t → IsSound (refused_after delay t)
sound-refused None t h s = sound-fail (IOError Refused) t s
sound-refused (Some delay) t h s =
    record {
      link = due-fits t.state t.link _ h s.link;
      room = s.room;
      acting = s.acting;
      finish = s.finish;
      listed = s.listed;
      promises = s.promises;
      answers = s.answers;
      channels = fits-later t.state (acts t) t.channels t.outbox.awaited t.made s.channels t.state false (λ u. u) (λ a. absurd (true≢false (sym a)));
    }

pub sound-link_failed : (t : Talk) → IsSound t → IsSound (link_failed t)
sound-link_failed t s = if_by IsSound (is_asked t) (refused_after (next_delay t) t) t (λ h. sound-refused (next_delay t) t h s) (λ h. s)

pub sound-piece : (t : Talk) → IsSound t → IsSound (piece t)
sound-piece t s =
    if_case IsSound (is_open t) (record t { last_read = t.present }) t (record { link = s.link; room = s.room; acting = s.acting; finish = s.finish; listed = s.listed; promises = s.promises; answers = s.answers; channels = s.channels }) s

dropped-acting : (b : Bool) (i : Input) → (b && is_acting (dropped i)) ≡ true → (b && is_acting i) ≡ true
dropped-acting b input.Acting h = h
dropped-acting b (input.Closed crossed) h = h
dropped-acting b (input.Dropped crossed) h = h

pub sound-misread : (why : Misread) (t : Talk) → IsSound t → IsSound (misread why t)
sound-misread why t s =
    if_case IsSound (acts t) (lose (misread_error why) t) (if is_open t then record t { input = dropped t.input } else t)
    (sound-lose (misread_error why) t s)
    (if_case IsSound (is_open t) (record t { input = dropped t.input }) t
    (record {
      link = s.link;
      room = s.room;
      acting = λ h. dropped-acts t.input (s.acting h);
      finish = dropped-finishes t.input (following t.committed (waiting_items t.outbox)) s.finish;
      listed = s.listed;
      promises = s.promises;
      answers = s.answers;
      channels = fits-later t.state (acts t) t.channels t.outbox.awaited t.made s.channels t.state (is_open t && is_acting (dropped t.input)) (λ u. u) (dropped-acting (is_open t) t.input);
    }) s)

pub sound-lost : (fault : IoFault) (t : Talk) → IsSound t → IsSound (lost fault t)
sound-lost fault t s =
    if_case IsSound (acts t) (lose (IOError fault) t) (if is_open t then finish t else t)
    (sound-lose (IOError fault) t s)
    (if_case IsSound (is_open t) (finish t) t (sound-finish t.server_close t s) s)

-- ---- writing

-- a frame that goes out leaves what is awaited
pub group-awaits : (groups : List (List Item)) (q : Queued) → (begin_group groups q).awaited ≡ q.awaited
group-awaits [] q = refl
group-awaits (group ∷ groups) q = refl

pub control-awaits : (flow : Bool) (control : List Item) (q : Queued) → (after_control flow control q).awaited ≡ q.awaited
control-awaits flow (item ∷ items) q = refl
control-awaits true [] q = group-awaits q.publish q
control-awaits false [] q = refl

pub next-awaits : (flow : Bool) (begun : List Item) (q : Queued) → (after_begun flow begun q).awaited ≡ q.awaited
next-awaits flow (item ∷ items) q = refl
next-awaits flow [] q = control-awaits flow q.control q

committed-as : (o : Option Item) (space : ℕ) (t : Talk) → next_within space t ≡ o → IsSound t → IsSound (committed_as o t)
committed-as None space t h s = s
committed-as (Some item) space t h s =
    record {
      link = s.link;
      room = s.room;
      acting = s.acting;
      finish = subst (Finishes t.input) (committed-follows space t item h) s.finish;
      listed = s.listed;
      promises = s.promises;
      answers = s.answers;
      channels =
          subst (λ awaited. FitsChannels t.state (acts t) t.channels awaited t.made)
          (sym (next-awaits (flows t) t.outbox.begun t.outbox)) s.channels;
    }

pub sound-commit : (space : ℕ) (t : Talk) → IsSound t → IsSound (commit space t)
sound-commit space t s = committed-as (next_within space t) space t refl s

sound-overlong : (o : Option ℕ) (t : Talk) → IsSound t → IsSound (end_overlong o t)
sound-overlong None t s = s
sound-overlong (Some size) t s = sound-fail (SerialisationError size) t s

sound-next : (space : ℕ) (t : Talk) → IsSound t → IsSound (next_frame space t)
sound-next space t s = sound-overlong (overlong t) (commit space t) (sound-commit space t s)

-- ---- time

sound-heartbeat : (t : Talk) → t.state ≡ Connected → IsSound t → IsSound (record (queue 0 Heartbeat t) { last_write = t.present })
sound-heartbeat t hs s =
    record {
      link = s.link;
      room = s.room;
      acting = s.acting;
      finish = queue-finishes t.input t.committed t.outbox (plain_item 0 Heartbeat) (s.acting (ap goes_on hs)) refl s.finish;
      listed = s.listed;
      promises = s.promises;
      answers = s.answers;
      channels = s.channels;
    }

sound-refreshed : (said : Result (List ℕ) (List ℕ)) (t : Talk) → t.state ≡ Connected → IsSound t → IsSound (refreshed said t)
sound-refreshed (Err text) t hs s = record { link = s.link; room = s.room; acting = s.acting; finish = s.finish; listed = s.listed; promises = s.promises; answers = s.answers; channels = s.channels }
sound-refreshed (Ok secret) t hs s =
    record {
      link = s.link;
      room = s.room;
      acting = s.acting;
      finish = queue-finishes t.input t.committed t.outbox (plain_item 0 (new_secret secret refresh_reason)) (s.acting (ap goes_on hs)) refl s.finish;
      listed = s.listed;
      promises = s.promises;
      answers = s.answers;
      channels = fits-awaited t.state (acts t) t.channels t.outbox.awaited t.made s.channels (record { reply = SecretDone; promise = None }) 0 refl (λ P. tt) (ap is_unopened hs);
    }

at-fits : (now : ℕ) (state : ConnectionState) (l : Link ErrorKind) → fits_link state l ≡ true → fits_link state (link_at now l) ≡ true
at-fits now Initial (Due moment) h = if_case (λ (l : Link ErrorKind). fits_link Initial l ≡ true) (nat_le moment now) Wanted (Due moment) refl refl
at-fits now Reconnecting (Due moment) h = if_case (λ (l : Link ErrorKind). fits_link Reconnecting l ≡ true) (nat_le moment now) Wanted (Due moment) refl refl
at-fits now _ (Due moment) h = absurd cc
at-fits now state l h = h

due-acts : (now : ℕ) (l : Link ErrorKind) (b : Bool) → (is_open_link (link_at now l) && b) ≡ true → (is_open_link l && b) ≡ true
due-acts now (Due moment) b h =
    let shut : is_open_link (link_at now (Due moment)) ≡ false = if_case (λ (l : Link ErrorKind). is_open_link l ≡ false) (nat_le moment now) Wanted (Due moment) refl refl in
    absurd (true≢false (sym h ∙ ap (λ c. c && b) shut))
due-acts now Wanted b h = h
due-acts now Asked b h = h
due-acts now Open b h = h
due-acts now (Ended r) b h = h

sound-due : (t : Talk) → IsSound t → IsSound (link_due t)
sound-due t s =
    record {
      link = at-fits t.present t.state t.link s.link;
      room = s.room;
      acting = s.acting;
      finish = s.finish;
      listed = s.listed;
      promises = s.promises;
      answers = s.answers;
      channels = fits-later t.state (acts t) t.channels t.outbox.awaited t.made s.channels t.state (acts (link_due t)) (λ u. u) (due-acts t.present t.link (is_acting t.input));
    }

sound-timed : (answers : List ProviderAnswer) (t : Talk) → IsSound t → IsSound (timed answers t)
sound-timed answers t s =
    let x : Talk = missing_heartbeat t in
    let after : IsSound x = if_case IsSound (is_missed t) (lose MissingHeartbeatError t) t (sound-lose MissingHeartbeatError t s) s in
    let beaten : IsSound (beat t) =
    if_by IsSound (is_heartbeat_due x) (record (queue 0 Heartbeat x) { last_write = x.present }) x (λ due. sound-heartbeat x (beats-connected x due) after) (λ rest. after) in
    secret-case IsSound answers (beat t) beaten (λ asks said. sound-refreshed said (beat t) (asks-connected (beat t) asks) beaten)

pub sound-tick : (answers : List ProviderAnswer) (t : Talk) → IsSound t → IsSound (tick answers t)
sound-tick answers t s = sound-due (timed answers t) (sound-timed answers t s)

sound-pay : (o : Option Channel) (n : ℕ) (t : Talk) → channel_at n t ≡ o → IsSound t → IsSound (pay o n t)
sound-pay o n t h s =
    pay-case IsSound o n t (λ is. s) (λ c is unowed. s)
    (λ c is owes awaits.
    record {
      link = s.link;
      room = s.room;
      acting = s.acting;
      finish = s.finish;
      listed = put-from n _ 0 t.channels (listed-some n c t.channels s.listed (h ∙ is)) s.listed;
      promises = s.promises;
      answers = s.answers;
      channels = fits-owing t.state (acts t) t.channels t.outbox.awaited t.made s.channels n c debt.Paid (h ∙ is) awaits;
    })
    (λ c is owes left.
    record {
      link = s.link;
      room = s.room;
      acting = s.acting;
      finish = s.finish;
      listed = without-from n 0 t.channels s.listed;
      promises = s.promises;
      answers = s.answers;
      channels = fits-paid-gone t.state (acts t) t.channels t.outbox.awaited t.made s.channels n c (h ∙ is) left owes (ascend-from 0 (keys_of t.channels) s.listed);
    })

sound-follow : (th : Then) (t : Talk) → IsSound t → IsSound (follow th t)
sound-follow Nothing t s = s
sound-follow (Answer n) t s = sound-give n (Ok Sent) t (λ id opened is. absurd cc) s
sound-follow (Pays n) t s = sound-pay (channel_at n t) n t refl s
sound-follow Finish t s = sound-finish t.server_close t s

-- the first committed frame was sent
pub sound-first : (m : Mark) (t : Talk) → IsSound t → IsSound (sent m t)
sound-first m t s =
    sound-follow m.then (record t { committed = drop 1 t.committed })
    (record {
      link = s.link;
      room = s.room;
      acting = s.acting;
      finish = first-goes t.input t.committed (waiting_items t.outbox) s.finish;
      listed = s.listed;
      promises = s.promises;
      answers = s.answers;
      channels = s.channels;
    })

-- once the first was sent, the others follow while the link is open
sound-on : (b : Bool) (m : Mark) (ms : List Mark) (n : ℕ) (t : Talk) → is_open (sent m t) ≡ b → t.committed ≡ m ∷ ms → IsSound (sent m t)
    → ((sent m t).committed ≡ ms → IsSound (sent m t) → IsSound (sent_among ms n (sent m t))) → IsSound (sent_among ms n (sent m t))
sound-on true m ms n t still h s on = on (sent-committed m ms t still h) s
sound-on false m ms n t shut h s on = subst IsSound (sym (sent_among-closed ms n (sent m t) shut)) s

sound-sent : (ms : List Mark) (n : ℕ) (t : Talk) → t.committed ≡ ms → IsSound t → IsSound (sent_among ms n t)
sound-sent [] n t h s = s
sound-sent (m ∷ ms) n t h s =
    let rest : Talk = record t { committed = record m { left = m.left - n } ∷ ms } in
    let on : Talk = sent_among ms (n - m.left) (sent m t) in
    if_case IsSound (is_open t) (if nat_le m.left n then on else rest) t
    (if_case IsSound (nat_le m.left n) on rest
    (sound-on (is_open (sent m t)) m ms (n - m.left) t refl h (sound-first m t s) (sound-sent ms (n - m.left) (sent m t)))
    (record {
      link = s.link;
      room = s.room;
      acting = s.acting;
      finish = subst (λ (xs : List Mark). Finishes t.input (following xs (waiting_items t.outbox))) h s.finish;
      listed = s.listed;
      promises = s.promises;
      answers = s.answers;
      channels = s.channels;
    }))
    s

pub sound-taken : (n : ℕ) (t : Talk) → IsSound t → IsSound (taken n t)
sound-taken n t s =
    let u : Talk = record t { last_write = t.present } in
    if_case IsSound (is_open t && not (n == 0)) (sent_among t.committed n u) t
    (sound-sent t.committed n u refl (record { link = s.link; room = s.room; acting = s.acting; finish = s.finish; listed = s.listed; promises = s.promises; answers = s.answers; channels = s.channels })) s

-- ---- answers and frames

pub sound-answer : (n : ℕ) (t : Talk) → IsSound t → IsSound (take_answer n t)
sound-answer n t s =
    if_case IsSound (is_some (answer_of n t)) (record t { promises = without n t.promises }) t
    (record { link = s.link; room = s.room; acting = s.acting; finish = s.finish; listed = s.listed; promises = (without-ascends n t.promises s.promises.0, without-below n t.made t.promises s.promises.1); answers = names-taken n t.promises s.promises.0 s.answers; channels = s.channels }) s

sound-event-by : (events at_end : List Event) (t : Talk) → IsSound t → IsSound (without_event events at_end t)
sound-event-by (event ∷ later) at_end t s = sound-noted _ t s
sound-event-by [] (event ∷ later) t s = sound-noted _ t s
sound-event-by [] [] t s = s

pub sound-event : (t : Talk) → IsSound t → IsSound (take_event t)
sound-event t s = sound-event-by t.noted.events (end_event t.noted.tells_end (end_of t)) t s

pub sound-frames : (opened : ℕ) (t : Talk) → IsSound t → IsSound (take_frames opened t)
sound-frames opened t s = record { link = s.link; room = s.room; acting = s.acting; finish = s.finish; listed = s.listed; promises = s.promises; answers = s.answers; channels = s.channels }

-- ---- all of them

pub sound-start : (config : Config) → IsSound (start config)
sound-start config =
    record {
      link = refl;
      room = λ h. absurd cc;
      acting = λ h. absurd cc;
      finish = tt;
      listed = tt;
      promises = (tt, (omega arith, tt));
      answers = names-none 0 [] names-new;
      channels = fits-new;
    }

pub keeps-sound : (t : Talk) → IsSound t → StaysSound t
keeps-sound t s =
    record {
      moment = λ at. sound-present at t s;
      asked = sound-asked t s;
      linked = sound-linked t s;
      link_failed = sound-link_failed t s;
      piece = sound-piece t s;
      frame = λ f answers. sound-frame f answers t s;
      misread = λ why. sound-misread why t s;
      lost = λ fault. sound-lost fault t s;
      tick = λ answers. sound-tick answers t s;
      next_frame = λ space. sound-next space t s;
      taken = λ n. sound-taken n t s;
      starve = sound-starve t s;
      command = λ cmd. sound-command cmd t s;
      answer = λ number. sound-answer number t s;
      event = sound-event t s;
      frames = λ opened. sound-frames opened t s;
    }

-- an end is one of these states
ended-fits : (state : ConnectionState) (l : Link ErrorKind) → fits_link state l ≡ true → is_some (end_of_link l) ≡ true → is_end state ≡ true
ended-fits Closed (Ended r) h k = refl
ended-fits Error (Ended r) h k = refl
ended-fits state (Due moment) h k = absurd cc
ended-fits state Wanted h k = absurd cc
ended-fits state Asked h k = absurd cc
ended-fits state Open h k = absurd cc
ended-fits _ (Ended (Ok u)) h k = absurd cc
ended-fits _ (Ended (Err e)) h k = absurd cc

pub sound-ended : (t : Talk) → IsSound t → IsTrue (has_ended t) → IsEnded t
sound-ended t s h = (h, ended-fits t.state t.link s.link h)

-- What a port tells of its links is what was sent on them.
use Rattle.std.proofs.Common.{◌≡◌, inl, inr, ℕ, ◌==◌, ◌&&◌, not, if◌then◌else◌, Bool, true, false, List, [], ◌∷◌, ◌++◌, length, take, map, is_some, Option, Some, None, ◌⊎◌, nat_le, Result, Ok, Err, refl, ap, sym, ◌∙◌, arith}
use Rattle.std.proofs.lemmas.Bool.Decides.{nat_tests}
use Rattle.std.proofs.lemmas.List.{append-nil, map-append}
use Rattle.amqp_promise.specs.declared.error.ErrorKind.{ErrorKind}
use Rattle.amqp_rules.specs.declared.state.Link.{Link}
use Rattle.amqp_rules.specs.declared.state.Link.TheVariants.{Due, Wanted, Asked, Open, Ended}
use Rattle.amqp_promise.specs.declared.error.ErrorKind.TheVariants.{IOError}
use Rattle.amqp_promise.specs.declared.io_fault.IoFault.{IoFault}
use Rattle.amqp_promise.specs.declared.io_fault.IoFault.TheVariants.{Aborted, Reset}
use Rattle.amqp_auth.specs.declared.asked.Asked.{Asked as ProviderAnswer}
use Rattle.amqp_rules.specs.Talk.{Talk, acts, is_acting, is_open, is_open_link, is_asked, is_asked_link, is_wanted_link, has_ended, end_of_link}
use Rattle.amqp_rules.specs.Changes.{present_at, queue, lose, finish}
use Rattle.amqp_rules.specs.Ticks.{is_missed, is_heartbeat_due, missing_heartbeat, beat, refreshed, link_at, timed, tick}
use Rattle.amqp_rules.specs.Writing.{end_overlong}
use Rattle.amqp_rules.specs.Recovery.{next_delay}
use Rattle.amqp_rules.specs.Links.{asked, asked_link, linked, refused_after, link_failed, piece, lost}
use Rattle.amqp_engine.specs.declared.port.Step.{Step}
use Rattle.amqp_engine.specs.declared.port.Step.TheVariants.{Linked, LinkFailed, Piece, End, Fault, Room, Tick, Command}
use Rattle.amqp_engine.specs.declared.port.Wrote.{Wrote}
use Rattle.amqp_engine.specs.declared.port.Wrote.TheVariants.{Took, Failed, NoMemory}
use Rattle.amqp_engine.specs.Log.{Log, on_last, log_ask, log_step, log_write, links_after, asked_after, TookAtMost}
use Rattle.amqp_engine.specs.Engine.{Engine, with_talk, rule_at, step_engine, step_linked, settle, commit_all, ended_overlong, can_write, read_one, taken_by, starve_at}
use Rattle.amqp_engine.specs.Turn.{Turn, write_answers, Progress, asks, wants_ask, goes, offer_part, offered, answered, read, turn}
use Rattle.amqp_engine.specs.Tell.{port_answer, offers_from, log_asks, log_offers, log_turns}
use Rattle.amqp_engine.specs.Sending.{Sending, nothing_sent, link_bytes, offer_sending, offers_sending, step_sending, sendings_from}
use Rattle.amqp_types.proofs.Small.{if_case, if-true, if-false, and-left}
use Rattle.amqp_rules.proofs.Heard.{secret-case}
use Rattle.amqp_frame.specs.declared.frame.Frame.TheVariants.{Heartbeat}
use Rattle.amqp_promise.specs.declared.error.ErrorKind.TheVariants.{MissingHeartbeatError}
use Rattle.amqp_engine.proofs.Settling.{settle-talk}
use Rattle.amqp_rules.proofs.Keeping.{LinkKept, present-keeps, stays-command, lost-link, starve-ends}
use Rattle.amqp_rules.proofs.Recovering.{lose-by, recovers-open}
use Rattle.amqp_engine.proofs.Over.{asks-end}
use Rattle.amqp_engine.proofs.Sent.{on_last-append}
use Rattle.amqp_engine.proofs.Agreeing.{offer-bytes}
use Rattle.amqp_engine.proofs.LinkKept.{leaves-read, kept-read, kept-answered}
use Rattle.amqp_engine.proofs.Sends.{Sends, sends-asks, sends-step, sends-left, sends-offer, sends-overlong, sends-starved, all-step}
use Rattle.amqp_engine.proofs.Lifting as lifting

-- ---- whether a link is asked for

both : (b : Bool) → b ≡ true → b ≡ false → ⊥
both true h k = cc
both false h k = cc

abbrev pub IsSynced : Engine → Log → Type 0
IsSynced e a = has_ended e.talk ≡ false → a.asked ≡ is_asked e.talk

wanted-asked : (l : Link ErrorKind) → (is_wanted_link l && not (is_asked_link l)) ≡ true → is_asked_link (asked_link l) ≡ true
wanted-asked (Due moment) h = cc
wanted-asked Wanted h = refl
wanted-asked Asked h = cc
wanted-asked Open h = cc
wanted-asked (Ended r) h = cc

synced-asks : (b : Bool) (e : Engine) (a : Log) → wants_ask e ≡ b → a.asked ≡ is_asked e.talk → (log_asks e a).asked ≡ is_asked (asks e).talk
synced-asks true e a h s =
    ap (λ (x : Log). x.asked) (if-true (wants_ask e) (log_ask a) a h) ∙ sym (wanted-asked e.talk.link h)
    ∙ sym (ap (λ (x : Engine). is_asked x.talk) (if-true (wants_ask e) (with_talk asked e) e h))
synced-asks false e a h s =
    ap (λ (x : Log). x.asked) (if-false (wants_ask e) (log_ask a) a h) ∙ s
    ∙ sym (ap (λ (x : Engine). is_asked x.talk) (if-false (wants_ask e) (with_talk asked e) e h))

linked-asked : (b : Bool) (at : ℕ) (e : Engine) → is_asked e.talk ≡ b → is_asked (step_linked at e).talk ≡ false
linked-asked true at e h =
    let x : Engine = record { talk = linked (present_at at e.talk); unread = []; place = 0; unsent = []; starved = e.starved } in
    let asked_then : is_asked (present_at at e.talk) ≡ true = present-keeps is_asked at e.talk (λ n. refl) ∙ h in
    ap (λ (y : Engine). is_asked y.talk) (if-true (is_asked e.talk) x (rule_at at (λ t. t) e) h)
    ∙ ap is_asked (if-true (is_asked (present_at at e.talk)) _ _ asked_then)
linked-asked false at e h =
    ap (λ (y : Engine). is_asked y.talk) (if-false (is_asked e.talk) _ (rule_at at (λ t. t) e) h) ∙ present-keeps is_asked at e.talk (λ n. refl) ∙ h

-- a link that is asked for and refused is asked for no more
refused-asked : (delay : Option ℕ) (t : Talk) → is_asked (refused_after delay t) ≡ false
refused-asked (Some delay) t = refl
refused-asked None t = refl

failed-asked : (b : Bool) (t : Talk) → is_asked t ≡ b → is_asked (link_failed t) ≡ false
failed-asked true t h = ap is_asked (if-true (is_asked t) (refused_after (next_delay t) t) t h) ∙ refused-asked (next_delay t) t
failed-asked false t h = ap is_asked (if-false (is_asked t) (refused_after (next_delay t) t) t h) ∙ h

open-unasked : (l : Link ErrorKind) → is_open_link l ≡ true → is_asked_link l ≡ false
open-unasked Open h = refl
open-unasked (Due moment) h = cc
open-unasked Wanted h = cc
open-unasked Asked h = cc
open-unasked (Ended r) h = cc

open-goes : (l : Link ErrorKind) → is_open_link l ≡ true → is_some (end_of_link l) ≡ false
open-goes Open h = refl
open-goes _ h = cc

-- a link is asked for where one was, or the session has ended
abbrev IsAskedAs : Talk → Talk → Type 0
IsAskedAs t y = (is_asked y ≡ is_asked t) ⊎ (has_ended y ≡ true)

-- where nothing was read for too long, an open link is lost
missed-asked : (t : Talk) → IsAskedAs t (lose MissingHeartbeatError t)
missed-asked t =
    lose-by (IsAskedAs t) MissingHeartbeatError t
    (λ delay is. inl (sym (open-unasked t.link (recovers-open MissingHeartbeatError t delay is)))) (λ none. inr refl)

-- what is due but a link asks for none
timed-asked : (answers : List ProviderAnswer) (t : Talk) → IsAskedAs t (timed answers t)
timed-asked answers t =
    let P : Talk → Type 0 = IsAskedAs t in
    let x : Talk = missing_heartbeat t in
    let after : P x = if_case P (is_missed t) (lose MissingHeartbeatError t) t (missed-asked t) (inl refl) in
    let beaten : P (beat t) = if_case P (is_heartbeat_due x) (record (queue 0 Heartbeat x) { last_write = x.present }) x after after in
    secret-case P answers (beat t) beaten (λ asks said. told said beaten)
  where
    told : (said : Result (List ℕ) (List ℕ)) → IsAskedAs t (beat t) → IsAskedAs t (refreshed said (beat t))
    told (Ok secret) h = h
    told (Err text) h = h

due-end : (now : ℕ) (l : Link ErrorKind) → is_some (end_of_link (link_at now l)) ≡ is_some (end_of_link l)
due-end now (Due moment) = if_case (λ (l : Link ErrorKind). is_some (end_of_link l) ≡ false) (nat_le moment now) Wanted (Due moment) refl refl
due-end now _ = refl

due-asked : (now : ℕ) (l : Link ErrorKind) → is_asked_link (link_at now l) ≡ is_asked_link l
due-asked now (Due moment) = if_case (λ (l : Link ErrorKind). is_asked_link l ≡ false) (nat_le moment now) Wanted (Due moment) refl refl
due-asked now _ = refl

-- time asks for no link, and lets none go that was asked for
ticked-asked : (answers : List ProviderAnswer) (t : Talk) → has_ended (tick answers t) ≡ false → is_asked (tick answers t) ≡ is_asked t
ticked-asked answers t on =
    let x : Talk = timed answers t in
    due-asked x.present x.link ∙ elim (timed-asked answers t) [
      | inl same ↦ same
      | inr ended ↦ absurd (both (has_ended x) ended (sym (due-end x.present x.link) ∙ on))
    ]

lost-asked : (b : Bool) (fault : IoFault) (t : Talk) → is_open t ≡ b → is_asked (lost fault t) ≡ is_asked t
lost-asked true fault t h =
    elim (lost-link fault t) [
      | inl same ↦ ap is_asked_link same
      | inr off ↦ off.asked ∙ sym (open-unasked t.link h)
    ]
lost-asked false fault t h =
    ap is_asked (if-false (acts t) (lose (IOError fault) t) (if is_open t then finish t else t) (idle (is_open t) (is_acting t.input) h)
    ∙ if-false (is_open t) (finish t) t h)
  where
    idle : (a b : Bool) → a ≡ false → (a && b) ≡ false
    idle true b h = cc
    idle false b h = refl

faulted-asked : (at : ℕ) (fault : IoFault) (e : Engine) → is_asked (settle (rule_at at (lost fault) e)).talk ≡ is_asked e.talk
faulted-asked at fault e =
    let t = present_at at e.talk in
    ap is_asked (settle-talk (rule_at at (lost fault) e)) ∙ lost-asked (is_open t) fault t refl ∙ present-keeps is_asked at e.talk (λ n. refl)

piece-link : (t : Talk) → (piece t).link ≡ t.link
piece-link t = if_case (λ (x : Talk). x.link ≡ t.link) (is_open t) (record t { last_read = t.present }) t refl refl

step-asked : (at : ℕ) (step : Step) (bytes : List ℕ) (answers : List ProviderAnswer) (e : Engine) → has_ended (step_engine at step bytes answers e).talk ≡ false
    → is_asked (step_engine at step bytes answers e).talk ≡ asked_after step (is_asked e.talk)
step-asked at Linked bytes answers e on = linked-asked (is_asked e.talk) at e refl
step-asked at LinkFailed bytes answers e on =
    let t = present_at at e.talk in
    ap is_asked (settle-talk (rule_at at link_failed e)) ∙ failed-asked (is_asked t) t refl
step-asked at (Piece n) bytes answers e on =
    let t = present_at at e.talk in
    let x : Engine = record e { talk = piece t; unread = e.unread ++ bytes } in
    if_case (λ (x : Engine). is_asked x.talk ≡ is_asked e.talk) (is_open e.talk) (settle x) (rule_at at (λ t. t) e)
    (ap is_asked (settle-talk x) ∙ ap is_asked_link (piece-link t) ∙ present-keeps is_asked at e.talk (λ n. refl)) (present-keeps is_asked at e.talk (λ n. refl))
step-asked at End bytes answers e on = faulted-asked at Aborted e
step-asked at Fault bytes answers e on = faulted-asked at Reset e
step-asked at Room bytes answers e on = present-keeps is_asked at e.talk (λ n. refl)
step-asked at Tick bytes answers e on =
    let t = present_at at e.talk in
    let after : Engine = rule_at at (tick answers) e in
    ap is_asked (settle-talk after) ∙ ticked-asked answers t (sym (ap has_ended (settle-talk after)) ∙ on) ∙ present-keeps is_asked at e.talk (λ n. refl)
step-asked at (Command c) bytes answers e on =
    ap is_asked_link (stays-command c (present_at at e.talk)).link ∙ present-keeps is_asked at e.talk (λ n. refl)

-- what leaves an open link as it was, or off
synced-kept : (e e' : Engine) (a : Log) → is_open e.talk ≡ true → LinkKept e.talk e'.talk → IsSynced e a → IsSynced e' a
synced-kept e e' a opened (inl same) s running =
    s (ap (λ (l : Link ErrorKind). is_some (end_of_link l)) (sym same) ∙ running) ∙ sym (ap is_asked_link same)
synced-kept e e' a opened (inr off) s running =
    s (open-goes e.talk.link opened) ∙ open-unasked e.talk.link opened ∙ sym off.asked

-- ---- links

told-links : (step : Step) (e : Engine) (ss : List Sending) (a : Log) → a.asked ≡ is_asked e.talk → a.links ≡ map link_bytes ss
    → links_after step a.asked a.links ≡ map link_bytes (step_sending step e ss)
told-links Linked e ss a asked links = linked-links (is_asked e.talk) asked where
  linked-links : (b : Bool) → a.asked ≡ b → (if a.asked then a.links ++ [] ∷ [] else a.links) ≡ map link_bytes (if b then ss ++ nothing_sent ∷ [] else ss)
  linked-links true h = if-true a.asked (a.links ++ [] ∷ []) a.links h ∙ ap (λ x. x ++ [] ∷ []) links ∙ sym (map-append link_bytes ss (nothing_sent ∷ []))
  linked-links false h = if-false a.asked (a.links ++ [] ∷ []) a.links h ∙ links
told-links LinkFailed e ss a asked links = links
told-links (Piece n) e ss a asked links = links
told-links End e ss a asked links = links
told-links Fault e ss a asked links = links
told-links Room e ss a asked links = links
told-links Tick e ss a asked links = links
told-links (Command c) e ss a asked links = links

-- what a port answered is as many bytes as are noted
answer-taken : (w : Wrote) (p : Progress) → taken_by (port_answer w p) ≡ taken_by w
answer-taken (Took k) p = by (k == 0) refl where
  by : (b : Bool) → (k == 0) ≡ b → taken_by (if b && not (goes (offer_part (Took k) p)) then NoMemory else Took k) ≡ k
  by true h =
      let none : k ≡ 0 = grind (arith, nat_tests) in
      if_case (λ (v : Wrote). taken_by v ≡ k) (not (goes (offer_part (Took k) p))) NoMemory (Took k) (sym none) refl
  by false h = refl
answer-taken Failed p = refl
answer-taken NoMemory p = refl

told-offer : (w v : Wrote) (e : Engine) (ss : List Sending) (a : Log) → taken_by v ≡ taken_by w → can_write e ≡ true → TookAtMost (length (offered e)) w
    → Sends e ss → a.links ≡ map link_bytes ss
    → (log_write (offered e) v a).links ≡ map link_bytes (on_last (offer_sending w e) ss)
told-offer w v e ss a same can fits h links =
    let l = h.last (and-left (is_open e.talk) _ can) in
    let s' = offer_sending w e l.1 in
    let after : link_bytes s' ≡ link_bytes l.1 ++ take (taken_by v) (offered e) =
    offer-bytes w e l.1 l.3 fits ∙ ap (λ n. link_bytes l.1 ++ take n (offered e)) (sym same) in
    let before : a.links ≡ map link_bytes l.0 ++ link_bytes l.1 ∷ [] = links ∙ ap (map link_bytes) l.2 ∙ map-append link_bytes l.0 (l.1 ∷ []) in
    let goal : map link_bytes (on_last (offer_sending w e) ss) ≡ map link_bytes l.0 ++ (link_bytes l.1 ++ take (taken_by v) (offered e)) ∷ [] =
    ap (map link_bytes) (ap (on_last (offer_sending w e)) l.2 ∙ on_last-append (offer_sending w e) l.0 l.1) ∙ map-append link_bytes l.0 (s' ∷ []) ∙ ap (λ x. map link_bytes l.0 ++ x ∷ []) after in
    written_as v (map link_bytes l.0) (link_bytes l.1) (map link_bytes (on_last (offer_sending w e) ss)) before goal
  where
    written_as : (v : Wrote) (xs : List (List ℕ)) (x : List ℕ) (ys : List (List ℕ)) → a.links ≡ xs ++ x ∷ []
        → ys ≡ xs ++ (x ++ take (taken_by v) (offered e)) ∷ [] → (log_write (offered e) v a).links ≡ ys
    written_as (Took k) xs x ys before goal =
        ap (on_last (λ link. link ++ take k (offered e))) before ∙ on_last-append (λ link. link ++ take k (offered e)) xs x ∙ sym goal
    written_as Failed xs x ys before goal = before ∙ ap (λ y. xs ++ y ∷ []) (sym (append-nil x)) ∙ sym goal
    written_as NoMemory xs x ys before goal = before ∙ ap (λ y. xs ++ y ∷ []) (sym (append-nil x)) ∙ sym goal

-- ---- turns

-- what was sent, and what is told
abbrev pub Both : Type 0
Both = List Sending × Log

abbrev pub asking : Engine → Both → Both
asking e x = (x.0, log_asks e x.1)

abbrev pub stepping : ℕ → Step → List ℕ → Engine → Both → Both
stepping at step bytes e x = (step_sending step e x.0, log_step at step bytes x.1)

abbrev pub offering : Wrote → Progress → Both → Both
offering w p x = (on_last (offer_sending w p.engine) x.0, log_write (offered p.engine) (port_answer w p) x.1)

pub record Told (e : Engine) (x : Both) : Type 0 where
  pub sends : Sends e x.0
  pub synced : IsSynced e x.1
  pub links : x.1.links ≡ map link_bytes x.0

told-asks : (e : Engine) (x : Both) → Told e x → Told (asks e) (asking e x)
told-asks e x h =
    record {
      sends = sends-asks e x.0 h.sends;
      synced = λ running. synced-asks (wants_ask e) e x.1 refl (h.synced (sym (ap is_some (asks-end e)) ∙ running));
      links = if_case (λ (b : Log). b.links ≡ map link_bytes x.0) (wants_ask e) (log_ask x.1) x.1 h.links h.links;
    }

told-step : (at : ℕ) (step : Step) (bytes : List ℕ) (answers : List ProviderAnswer) (e : Engine) (x : Both) → has_ended e.talk ≡ false → Told e x
    → Told (step_engine at step bytes answers e) (stepping at step bytes e x)
told-step at step bytes answers e x running h =
    let asked_is = h.synced running in
    record {
      sends = sends-step at step bytes answers e x.0 h.sends;
      synced = λ on. ap (asked_after step) asked_is ∙ sym (step-asked at step bytes answers e on);
      links = told-links step e x.0 x.1 asked_is h.links;
    }

told-offered : (w : Wrote) (p : Progress) (x : Both) → can_write p.engine ≡ true → TookAtMost (length (offered p.engine)) w → Told p.engine x
    → Told (answered p.at w p.engine) (offering w p x)
told-offered w p x can fits h =
    let e = p.engine in
    record {
      sends = sends-offer p.at w e x.0 can fits h.sends;
      synced = λ running. write-asked (offered e) (port_answer w p) x.1 ∙ synced-kept e (answered p.at w e) x.1 (and-left (is_open e.talk) _ can) (kept-answered p.at w e) h.synced running;
      links = told-offer w (port_answer w p) e x.0 x.1 (answer-taken w p) can fits h.sends h.links;
    }
  where
    write-asked : (bytes : List ℕ) (w : Wrote) (a : Log) → (log_write bytes w a).asked ≡ a.asked
    write-asked bytes (Took k) a = refl
    write-asked bytes Failed a = refl
    write-asked bytes NoMemory a = refl

told-starved : (at j : ℕ) (e : Engine) (x : Both) → Sends (starve_at at j e) x.0 → x.1.links ≡ map link_bytes x.0 → Told (starve_at at j e) x
told-starved at j e x sends links =
    record { sends = sends; synced = λ running. absurd (both _ (starve-ends (present_at at e.talk)) running); links = links }

told-overlong : (size : ℕ) (e : Engine) (x : Both) → Told e x → Told (ended_overlong (Some size) e) x
told-overlong size e x h =
    let y : Engine = with_talk (end_overlong (Some size)) (commit_all e) in
    let over : has_ended (settle y).talk ≡ true = ap has_ended (settle-talk y) in
    record { sends = sends-overlong size e x.0 h.sends.all; synced = λ running. absurd (both _ over running); links = h.links }

pub small : lifting.Simple Both asking stepping offering Told
small =
    record {
      asked = told-asks;
      step = told-step;
      read = λ at answers e x can h. record {
        sends = sends-left e (read_one at answers e) x.0 (leaves-read at answers e) h.sends;
        synced = synced-kept e (read_one at answers e) x.1 (and-left (is_open e.talk) _ can) (kept-read at answers e) h.synced;
        links = h.links;
      };
      offer = told-offered;
      overlong = λ size e x is h. told-overlong size e x h;
      starve = λ at j e x h. told-starved at j e x (sends-starved at j e x.0 h.sends.all) h.links;
      cut = λ at step bytes e x running part h.
          told-starved at 0 e (stepping at step bytes e x) (sends-starved at 0 e (step_sending step e x.0) (all-step step e x.0 h.sends.all))
          (told-links step e x.0 x.1 (h.synced running) h.links);
    }

pub offers-same : (ws : List Wrote) (p : Progress) (x : Both)
    → lifting.offers_on Both asking stepping offering ws p x ≡ (offers_sending ws p x.0, log_offers (offers_from ws p) x.1)
offers-same [] p x = refl
offers-same (w ∷ ws) p x = offers-same ws (offer_part w p) (offering w p x)

pub turns-same : (us : List Turn) (e : Engine) (x : Both) → lifting.turns_on Both asking stepping offering us e x ≡ (sendings_from us e x.0, log_turns us e x.1)
turns-same [] e x = refl
turns-same (u ∷ us) e x =
    let P : Both → Type 0 = λ y. lifting.turns_on Both asking stepping offering us (turn u e) y ≡ (sendings_from us (turn u e) y.0, log_turns us (turn u e) y.1) in
    let y = lifting.turn_on Both asking stepping offering u e x in
    let same = offers-same (write_answers u.notes) (read u (asks e)) (stepping u.at u.step u.bytes (asks e) (asking e x)) in
    turns-same us (turn u e) y ∙ ap (λ (z : Both). (sendings_from us (turn u e) z.0, log_turns us (turn u e) z.1)) same

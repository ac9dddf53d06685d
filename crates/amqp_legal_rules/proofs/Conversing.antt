-- What is known of a session while a link is open, and while one is wanted, and that it stays so where a link ends;
-- a conversation that goes on.
use Rattle.std.proofs.Common.{◌≡◌, ◌≢◌, ◌≤◌, ℕ, max, if◌then◌else◌, true, false, List, [], ◌∷◌, ◌++◌, drop, Option, Some, None, is_some, refl, ap, sym, ◌∙◌, subst, append_assoc, true≢false}
use Rattle.std.proofs.lemmas.List.{map-append}
use Rattle.std.specs.List.{AllByRecursion}
use Rattle.amqp_frame.specs.declared.frame.Frame.{Frame}
use Rattle.amqp_outbox.specs.declared.item.Item.{Item}
use Rattle.amqp_outbox.specs.Queued.{Queued, pushed_control}
use Rattle.amqp_outgoing.specs.declared.committed.Mark.{Mark}
use Rattle.amqp_promise.specs.declared.state.ConnectionState.{ConnectionState}
use Rattle.amqp_promise.specs.declared.state.ConnectionState.TheVariants.{Connecting, Connected, Closing}
use Rattle.amqp_rules.specs.declared.state.Phase.{Phase}
use Rattle.amqp_rules.specs.declared.state.Phase.TheVariants.{AwaitStart, AwaitTune, AwaitOpenOk}
use Rattle.amqp_rules.specs.declared.state.Input.{Input}
use Rattle.amqp_rules.specs.declared.state.Input.TheVariants as input
use Rattle.amqp_promise.specs.declared.io_fault.IoFault.{IoFault}
use Rattle.amqp_promise.specs.declared.io_fault.IoFault.TheVariants.{Refused}
use Rattle.amqp_violations.specs.declared.misread.Misread.{Misread}
use Rattle.amqp_violations.specs.declared.server_close.ServerClose.{ServerClose}
use Rattle.amqp_violations.specs.declared.server_close.ServerClose.TheVariants.{WithoutError, WithError}
use Rattle.amqp_promise.specs.declared.error.ErrorKind.{ErrorKind}
use Rattle.amqp_promise.specs.declared.error.ErrorKind.TheVariants.{IOError, ProtocolError}
use Rattle.amqp_rules.specs.Talk.{Talk, has_ended, is_open, is_asked, is_acting, acts}
use Rattle.amqp_rules.specs.Changes.{present_at, close, fail, lose, finish, finish_by, starve}
use Rattle.amqp_violations.specs.Violations.{misread_error}
use Rattle.amqp_settings.specs.Capacities.{frame_min_size}
use Rattle.amqp_settings.specs.Handshake.{close_ok}
use Rattle.amqp_rules.specs.Links.{asked, refused_after, link_failed, piece, lost, misread, dropped}
use Rattle.amqp_rules.specs.Recovery.{next_delay, reconnect}
use Rattle.amqp_rules.specs.Answers.{answer_of, take_answer, take_frames}
use Rattle.amqp_maps.specs.Listed.{without}
use Rattle.amqp_legal.specs.Legal.{amqp_header}
use Rattle.amqp_legal.specs.Decider.{Speech, greeted, say, say_all, is_amqp_header, is_legal}
use Rattle.amqp_legal.specs.declared.progress.Stage.TheVariants.{CloseOkSaid}
use Rattle.amqp_legal.specs.declared.progress.Usage.TheVariants.{Shut, InUse}
use Rattle.amqp_types.proofs.Small.{if_case, if_by, and-true, and-other}
use Rattle.amqp_rules.proofs.Recovering.{lose-by, recovers-open}
use Rattle.amqp_rules.proofs.Keeping.{starve-ends}
use Rattle.amqp_rules.proofs.Lacking.{lacks_link, closed-link, open-lacks, asked-open, asked-lacks, asked-lacking}
use Rattle.amqp_legal.proofs.Sayable.{say-append, front-said, over-stays, close-said}
use Rattle.amqp_legal_rules.proofs.Ties.{frames_in, LeadsTo, first_out, IsReady, IsOfControl, unpaid, TiesChannels, IsNew, TiesPhase, Ties, Speaks, IsTied, IsSilent}
use Rattle.amqp_legal_rules.proofs.OnChannels.{Listed, Replies, on-alike}
use Rattle.amqp_legal_rules.proofs.KeptChannels.{kept-from, all-kept}

-- what is known of a session: while a link is open, and while one is wanted
abbrev pub Now : Talk → List Frame → Type 0
Now t committed = (is_open t ≡ true → IsTied t committed) × (lacks_link t.link ≡ true → IsSilent t)

-- ---- conversations

-- a frame goes last
last-said : (items : List Item) (item : Item) (fs : List Frame) (v v' : Speech) → LeadsTo items fs v → say item.frame v ≡ Some v' → LeadsTo (items ++ item ∷ []) fs v'
last-said items item fs v v' r h =
    record {
      said = r.said ++ item.frame ∷ [];
      frames =
          ap (λ gs. fs ++ gs) (map-append (λ (i : Item). i.frame) items (item ∷ [])) ∙ sym (append_assoc fs (frames_in items) (item.frame ∷ []))
          ∙ ap (λ gs. gs ++ item.frame ∷ []) r.frames;
      may = say-append (Some greeted) r.said (item.frame ∷ []) ∙ ap (λ o. say_all o (item.frame ∷ [])) r.may ∙ ap (λ o. say_all o []) h ∙ some v';
    }
  where
    some : (s : Speech) → say_all (Some s) [] ≡ Some s
    some s = refl

-- a frame goes last into the control lane
pub pushed : (q : Queued) (item : Item) (fs : List Frame) (v v' : Speech) → LeadsTo (first_out q) fs v → say item.frame v ≡ Some v'
    → LeadsTo (first_out (pushed_control item q)) fs v'
pushed q item fs v v' r h =
    let Q : List Item → Type 0 = λ items. LeadsTo items fs v' in
    subst Q (append_assoc q.begun q.control (item ∷ [])) (last-said (first_out q) item fs v v' r h)

-- a frame goes out
pub went : (item : Item) (items : List Item) (fs : List Frame) (v : Speech) → LeadsTo (item ∷ items) fs v → LeadsTo items (fs ++ item.frame ∷ []) v
went item items fs v r = record { said = r.said; frames = append_assoc fs (item.frame ∷ []) (frames_in items) ∙ r.frames; may = r.may }

heads : {xs ys : List Frame} {x y : Frame} → x ∷ xs ≡ y ∷ ys → x ≡ y
heads h = cc

-- what was committed, without what waits
pub record Committed (g : Frame) (fs : List Frame) (items : List Item) (later : Speech) : Type 0 where
  pub header : g ≡ amqp_header
  pub now : Speech
  pub may : say_all (Some greeted) fs ≡ Some now
  pub rest : say_all (Some now) (frames_in items) ≡ Some later

pub committed-said : (items : List Item) (g : Frame) (fs : List Frame) (s : Speech) → LeadsTo items (g ∷ fs) s → Committed g fs items s
committed-said items g fs s r =
    let said : r.said ≡ fs ++ frames_in items = sym (ap (drop 1) r.frames) in
    let parts : say_all (say_all (Some greeted) fs) (frames_in items) ≡ Some s =
    sym (say-append (Some greeted) fs (frames_in items)) ∙ ap (say_all (Some greeted)) (sym said) ∙ r.may in
    let q = front-said (say_all (Some greeted) fs) (frames_in items) s parts in
    record { header = heads r.frames; now = q.0; may = q.1; rest = ap (λ o. say_all o (frames_in items)) (sym q.1) ∙ parts }

-- the lane becomes our close-ok alone
pub closed-over : (items : List Item) (item : Item) (g : Frame) (fs : List Frame) (s : Speech) → item.frame ≡ close_ok → LeadsTo items (g ∷ fs) s → s.stage ≢ CloseOkSaid
    → (s' : Speech) × LeadsTo (item ∷ []) (g ∷ fs) s'
closed-over items item g fs s is r h =
    let q = committed-said items g fs s r in
    let goes_on : q.now.stage ≢ CloseOkSaid = λ over. h (over-stays q.now s (frames_in items) over q.rest) in
    let last : say_all (Some q.now) (item.frame ∷ []) ≡ Some (record q.now { stage = CloseOkSaid }) =
    ap (λ f. say_all (Some q.now) (f ∷ [])) is ∙ ap (λ o. say_all o []) (close-said q.now.stage q.now goes_on) in (
      record q.now { stage = CloseOkSaid },
      record {
        said = fs ++ item.frame ∷ [];
        frames = ap (λ f. f ∷ fs ++ item.frame ∷ []) q.header;
        may = say-append (Some greeted) fs (item.frame ∷ []) ∙ ap (λ o. say_all o (item.frame ∷ [])) q.may ∙ last;
      },
    )

-- what was committed is legal
pub committed-legal : (t : Talk) (fs : List Frame) → IsTied t fs → is_legal fs ≡ true
committed-legal t [] h = refl
committed-legal t (g ∷ fs) h =
    let q = committed-said (first_out t.outbox) g fs h.later h.leads in
    and-true (is_amqp_header g) (is_some (say_all (Some greeted) fs)) (ap is_amqp_header q.header) (ap (λ o. is_some o) q.may)

-- ---- ends, of which nothing is claimed

pub now-ended : (t : Talk) (fs : List Frame) → has_ended t ≡ true → Now t fs
now-ended t fs h =
    let c = closed-link t.link h in ((λ k. absurd (c.0 k)), (λ k. absurd (c.1 k)))

-- a link is lost, and another is waited for
now-reconnect : (e : ErrorKind) (delay : ℕ) (t : Talk) (fs : List Frame) → is_open t ≡ true → Now t fs → Now (reconnect e delay t) fs
now-reconnect e delay t fs o h =
    let said : IsTied t fs = h.0 o in (
      (λ k. absurd (true≢false (sym k))),
      (λ w. record { rests = tt; listed = kept-from t.channels said.listed; kept = λ n. all-kept n t.channels; room = said.room }),
    )

pub now-lose : (e : ErrorKind) (t : Talk) (fs : List Frame) → Now t fs → Now (lose e t) fs
now-lose e t fs h =
    lose-by (λ (x : Talk). Now x fs) e t (λ delay is. now-reconnect e delay t fs (recovers-open e t delay is) h) (λ none. now-ended (fail e t) fs refl)

-- after the server's close a link is lost, or the session ends
pub now-finish : (o : Option ServerClose) (t : Talk) (fs : List Frame) → Now t fs → Now (finish_by o t) fs
now-finish None t fs h = now-ended (close t) fs refl
now-finish (Some WithoutError) t fs h = now-ended (close t) fs refl
now-finish (Some (WithError e)) t fs h = now-lose (ProtocolError e) t fs h

-- ---- links, moments and writing

pub now-moment : (at : ℕ) (t : Talk) (fs : List Frame) → Now t fs → Now (present_at at t) fs
now-moment at t fs h = if_case (λ (x : Talk). Now x fs) (has_ended t) t (record t { present = max t.present at }) h h

pub now-asked : (t : Talk) (fs : List Frame) → Now t fs → Now (asked t) fs
now-asked t fs h = ((λ o. h.0 (sym (asked-open t.link) ∙ o)), (λ w. h.1 (sym (asked-lacks t.link) ∙ w)))

pub now-failed : (t : Talk) (fs : List Frame) → Now t fs → Now (link_failed t) fs
now-failed t fs h = if_by (λ (x : Talk). Now x fs) (is_asked t) (refused_after (next_delay t) t) t (λ asked. by (next_delay t) asked) (λ other. h)
  where
    by : (delay : Option ℕ) → is_asked t ≡ true → Now (refused_after delay t) fs
    by (Some delay) asked = ((λ o. absurd (true≢false (sym o))), (λ w. h.1 (asked-lacking t.link asked)))
    by None asked = now-ended (fail (IOError Refused) t) fs refl

pub now-piece : (t : Talk) (fs : List Frame) → Now t fs → Now (piece t) fs
now-piece t fs h = if_case (λ (x : Talk). Now x fs) (is_open t) (record t { last_read = t.present }) t h h

pub now-lost : (fault : IoFault) (t : Talk) (fs : List Frame) → Now t fs → Now (lost fault t) fs
now-lost fault t fs h =
    let Q : Talk → Type 0 = λ x. Now x fs in
    if_case Q (acts t) (lose (IOError fault) t) (if is_open t then finish t else t) (now-lose (IOError fault) t fs h)
    (if_case Q (is_open t) (finish t) t (now-finish t.server_close t fs h) h)

-- ---- what can be no frame

ties-dropped : (i : Input) (s : ConnectionState) (p : Phase) (cs : Listed) (ws : Replies) (due : ℕ → ℕ) (v : Speech) → is_acting i ≡ false → Ties i s p cs ws due v
    → Ties (dropped i) s p cs ws due v
ties-dropped input.Acting s p cs ws due v h k = absurd cc
ties-dropped (input.Closed crossed) s p cs ws due v h k = k
ties-dropped (input.Dropped crossed) s p cs ws due v h k = k

pub now-open : (t : Talk) (fs : List Frame) → is_open t ≡ true → IsTied t fs → Now t fs
now-open t fs o h = ((λ k. h), (λ w. absurd (open-lacks t.link o w)))

pub now-misread : (why : Misread) (t : Talk) (fs : List Frame) → Now t fs → Now (misread why t) fs
now-misread why t fs h =
    let Q : Talk → Type 0 = λ x. Now x fs in
    let x : Talk = record t { input = dropped t.input } in
    if_by Q (acts t) (lose (misread_error why) t) (if is_open t then x else t) (λ acting. now-lose (misread_error why) t fs h)
    (λ idle. if_by Q (is_open t) x t
    (λ o. (let said = h.0 o in
    now-open x fs o
    (record {
      later = said.later;
      leads = said.leads;
      lane = said.lane;
      groups = said.groups;
      ties = ties-dropped t.input t.state t.phase t.channels t.outbox.awaited (unpaid t.committed (first_out t.outbox)) said.later (and-other (is_open t) (is_acting t.input) o idle) said.ties;
      agreed = said.agreed;
      listed = said.listed;
      room = said.room;
    })))
    (λ closed. h))

-- ---- the tie, by what is known of the state

-- the same, where state, phase and input are known
pub speaks-as : (s s' : ConnectionState) (p p' : Phase) (i i' : Input) (frame_max capacity : ℕ) (q : Queued) (cs : Listed) (ms : List Mark) (fs : List Frame)
    → s ≡ s' → p ≡ p' → i ≡ i' → Speaks s p i frame_max capacity q cs ms fs → Speaks s' p' i' frame_max capacity q cs ms fs
speaks-as s s' p p' i i' frame_max capacity q cs ms fs hs hp hi h =
    let A : ConnectionState → Type 0 = λ x. Speaks x p i frame_max capacity q cs ms fs in
    let B : Phase → Type 0 = λ x. Speaks s' x i frame_max capacity q cs ms fs in
    let C : Input → Type 0 = λ x. Speaks s' p' x frame_max capacity q cs ms fs in
    subst C hi (subst B hp (subst A hs h))

-- the same of a session
pub tied-as : (s : ConnectionState) (p : Phase) (i : Input) (t : Talk) (fs : List Frame) → t.state ≡ s → t.phase ≡ p → t.input ≡ i
    → Speaks s p i t.configuration.frame_max t.capacity t.outbox t.channels t.committed fs → IsTied t fs
tied-as s p i t fs hs hp hi h =
    speaks-as s t.state p t.phase i t.input t.configuration.frame_max t.capacity t.outbox t.channels t.committed fs (sym hs) (sym hp) (sym hi) h

-- while frames act, in this state
abbrev pub In : ConnectionState → Phase → Talk → List Frame → Type 0
In s p t fs = Speaks s p input.Acting t.configuration.frame_max t.capacity t.outbox t.channels t.committed fs

-- as many close-oks are on their way
pub still-new : (cs : Listed) (ws : Replies) (due due' : ℕ → ℕ) → ((n : ℕ) → due' n ≡ due n) → IsNew cs ws due → IsNew cs ws due'
still-new cs ws due due' same h = record { kept = h.kept; none_awaited = h.none_awaited; none_due = λ n. same n ∙ h.none_due n }

-- the close-oks of a session that are on their way
abbrev pub due_in : Talk → ℕ → ℕ
due_in t = unpaid t.committed (first_out t.outbox)

-- once the connection is open
pub now-ties : (t t' : Talk) (fs : List Frame) (v : Speech) → is_open t' ≡ true → t.input ≡ input.Acting → t'.input ≡ t.input → t'.state ≡ Connected
    → frame_min_size ≤ t'.configuration.frame_max → 8 ≤ t'.capacity → LeadsTo (first_out t'.outbox) fs v → AllByRecursion IsOfControl t'.outbox.control
    → AllByRecursion (IsReady v) t'.outbox.publish
    → TiesChannels t'.channels t'.outbox.awaited (unpaid t'.committed (first_out t'.outbox)) v → Now t' fs
now-ties t t' fs v o hi same hs agreed room r lane ready ties =
    now-open t' fs o
    (tied-as Connected t'.phase input.Acting t' fs hs refl (same ∙ hi)
    (record { later = v; leads = r; lane = lane; groups = ready; ties = ties; agreed = λ k. agreed; listed = ties.sorted; room = room }))

-- no channel is in use before the connection is open
shut-used : Shut ≡ InUse → ⊥
shut-used h = cc

pub ties-phase : (p : Phase) (n : ℕ) (v : Speech) → v.usage n ≡ InUse → TiesPhase p v → ⊥
ties-phase AwaitStart n v used h = shut-used (sym (ap (λ (x : Speech). x.usage n) h) ∙ used)
ties-phase AwaitTune n v used h = shut-used (sym (ap (λ (x : Speech). x.usage n) h) ∙ used)
ties-phase AwaitOpenOk n v used h = shut-used (sym (ap (λ (x : Speech). x.usage n) h) ∙ used)

-- close-oks are on their way as before
pub ties-due : (i : Input) (s : ConnectionState) (p : Phase) (cs : Listed) (ws : Replies) (due due' : ℕ → ℕ) (v : Speech) → ((n : ℕ) → due' n ≡ due n)
    → Ties i s p cs ws due v → Ties i s p cs ws due' v
ties-due input.Acting Connecting p cs ws due due' v same h = (h.0, still-new cs ws due due' same h.1)
ties-due input.Acting Connected p cs ws due due' v same h = on-alike cs ws ws due due' v h.awaited_sorted (λ m. refl) same h
ties-due input.Acting Closing p cs ws due due' v same h = h
ties-due input.Acting _ p cs ws due due' v same h = absurd h
ties-due (input.Closed crossed) s p cs ws due due' v same h = h
ties-due (input.Dropped crossed) s p cs ws due due' v same h = h

-- ---- what is taken between runs

pub now-answer : (number : ℕ) (t : Talk) (fs : List Frame) → Now t fs → Now (take_answer number t) fs
now-answer number t fs h = if_case (λ (x : Talk). Now x fs) (is_some (answer_of number t)) (record t { promises = without number t.promises }) t h h

pub now-frames : (opened : ℕ) (t : Talk) (fs : List Frame) → Now t fs → Now (take_frames opened t) fs
now-frames opened t fs h = h

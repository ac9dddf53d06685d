-- What each frame of a faultless server keeps of where it and the session stand, while the connection is open and after
-- our close.
use Rattle.std.proofs.Common.{◌≡◌, ◌≢◌, ◌≤◌, inl, inr, ℕ, zero, suc, ◌&&◌, not, if◌then◌else◌, Bool, true, false, true≢false, List, Option, Some, None, is_some, Ok, refl, ap, sym, ◌∙◌, subst, arith}
use Rattle.std.specs.Prelude.{find, option_map}
use Rattle.amqp_types.specs.Codes.{kind_of}
use Rattle.amqp_frame.specs.declared.frame.Frame.{Frame}
use Rattle.amqp_frame.specs.declared.frame.Frame.TheVariants.{Method, Raw, Heartbeat}
use Rattle.amqp_frame.specs.declared.frame.RawKind.{RawKind}
use Rattle.amqp_frame.specs.declared.method.Method.{Method as AnyMethod}
use Rattle.amqp_frame.specs.declared.method.Method.TheVariants.{Close, CloseOk, Blocked, Unblocked, UpdateSecretOk, ChannelOpenOk, ChannelFlow, ChannelFlowOk, ChannelClose, ChannelCloseOk}
use Rattle.amqp_outbox.specs.declared.reply.Awaited.{Awaited}
use Rattle.amqp_outbox.specs.declared.reply.Reply.TheVariants.{SecretDone, ConnectionClosed}
use Rattle.amqp_outbox.specs.Replies.{is_of, awaited_on, left_awaited}
use Rattle.amqp_outbox.specs.Queued.{Queued, awaited_promise}
use Rattle.amqp_channels.specs.declared.channels.Channel.{Channel}
use Rattle.amqp_outgoing.specs.declared.committed.Mark.{Mark}
use Rattle.amqp_rules.specs.declared.state.Phase.{Phase}
use Rattle.amqp_rules.specs.declared.state.Phase.TheVariants.{AwaitStart, AwaitTune, AwaitOpenOk}
use Rattle.amqp_violations.specs.declared.server_close.ServerClose.TheVariants.{WithoutError}
use Rattle.amqp_promise.specs.declared.state.ConnectionState.{ConnectionState}
use Rattle.amqp_promise.specs.declared.state.ConnectionState.TheVariants.{Initial, Connecting, Connected, Closing, Closed, Reconnecting, Error}
use Rattle.amqp_promise.specs.declared.error.ErrorKind.{ErrorKind}
use Rattle.amqp_promise.specs.declared.error.ErrorKind.TheVariants.{InvalidChannel}
use Rattle.amqp_answers.specs.declared.answer.Answer.TheVariants.{Connected as AnswerConnected, Done}
use Rattle.amqp_auth.specs.declared.asked.Asked.{Asked as ProviderAnswer}
use Rattle.amqp_maps.specs.Listed.{at}
use Rattle.amqp_rules.specs.Talk.{Talk, is_open, is_closing}
use Rattle.amqp_rules.specs.Channels.{channel_at}
use Rattle.amqp_rules.specs.Changes.{misplaced, lose}
use Rattle.amqp_rules.specs.ConnectionMethods.{connection_rule, secret_taken, connection_closed, on_connection_close, on_blocked, on_unblocked}
use Rattle.amqp_rules.specs.ChannelMethods.{confirmed, is_select_ok, heard_on, channel_rule, channel_method_by, channel_method, raw_by, raw_frame}
use Rattle.amqp_violations.specs.Violations.{channel_closed_with, stray_connection_method}
use Rattle.amqp_frame.specs.Methods.{is_of_a_channel}
use Rattle.amqp_rules.specs.Frames.{method_on, frame_rule}
use Rattle.amqp_faultless.specs.Faultless.{Use, unused, Server, used_as, provided, one_less, serves_on, serves}
use Rattle.amqp_faultless.specs.Faultless.ServerStage.{Serving, Gone}
use Rattle.amqp_types.proofs.Small.{if_case, if-true, if-false, from-not-true, some_is}
use Rattle.amqp_faultless.proofs.Ordinary.{First, Ordinary, method-goes, raw-goes, secret-goes, to-given, same}
use Rattle.amqp_faultless.proofs.Uses.{waiting_for, waiting-found, acts, lives, is_free, along-now}
use Rattle.amqp_faultless.proofs.Served.{Serves, IsServing, Goes, Channels, given-by, less-by, both-true, opened-lives, asked-lives, serves-secret}
use Rattle.amqp_faultless.proofs.ServedChannels.{goes-opened, goes-flow, goes-flowed, goes-raw, goes-closed, goes-server-close}
use Rattle.amqp_faultless.proofs.Greeted.{Meets, IsMet, IsOver, Heard, Ready, meets-in, first-in, met-again, connection-in}

-- ---- frames on channels

-- the session's rule where its state is known
pub in-state : (n : ℕ) (m : AnyMethod) (t : Talk) (c : Channel) → t.state ≡ Connected → channel_at n t ≡ Some c → channel_method n m t ≡ channel_rule Connected n c m t
in-state n m t c is listed =
    ap (λ (st : ConnectionState). channel_method_by (heard_on st (channel_at n t)) n m t) is
    ∙ ap (λ (x : Option Channel). channel_method_by x n m t) listed ∙ ap (λ (st : ConnectionState). channel_rule st n c m t) is

raw-in-state : (n : ℕ) (kind : RawKind) (bytes : List ℕ) (t : Talk) (c : Channel) → t.state ≡ Connected → channel_at n t ≡ Some c
    → raw_frame n kind bytes t ≡ raw_by (Some c) n kind bytes t
raw-in-state n kind bytes t c is listed =
    ap (λ (st : ConnectionState). raw_by (heard_on st (channel_at n t)) n kind bytes t) is ∙ ap (λ (x : Option Channel). raw_by x n kind bytes t) listed

free-some : (x : Option Channel) → is_free x ≡ true → (c : Channel) × (x ≡ Some c)
free-some None h = absurd (true≢false (sym h))
free-some (Some c) h = (c, refl)

-- what a server that serves says on a channel
module _ (k : ℕ) (s : Server) (t : Talk) (m : IsMet s t) (is : t.state ≡ Connected) where
  abbrev n : ℕ
  n = suc k

  abbrev held : Use
  held = s.uses n

  serving : IsServing s t
  serving = meets-in s t m Connected is

  listed-if : lives held ≡ true → (c : Channel) × (channel_at n t ≡ Some c)
  listed-if l =
      free-some (at n t.channels)
      (along-now (acts n t.outbox.control) held (at n t.channels) (awaited_on n t.outbox.awaited) (serving.each n) l).listed

  above : 0 ≢ n
  above h = absurd (omega (arith, h))

  by-rule : (s' : Server) (method : AnyMethod) (c : Channel) → channel_at n t ≡ Some c → Goes s' (channel_rule Connected n c method t) → Goes s' (channel_method n method t)
  by-rule s' method c listed h = let P : Talk → Type 0 = Goes s' in subst P (sym (in-state n method t c is listed)) h

  heard-opened : (s' : Server) → serves_on n held (Method n ChannelOpenOk) s ≡ Some s' → Goes s' (channel_method n ChannelOpenOk t)
  heard-opened s' h =
      let g = given-by held.asked (used_as n (record held { asked = false; opened = true }) s) s' h in
      let c = listed-if (asked-lives held g.0) in
      let P : Server → Type 0 = λ x. Goes x (channel_method n ChannelOpenOk t) in
      subst P g.1 (by-rule _ ChannelOpenOk c.0 c.1 (goes-opened n c.0 s t m.opened c.1 serving g.0))

  heard-flow : (active : Bool) (s' : Server) → serves_on n held (Method n (ChannelFlow active)) s ≡ Some s' → Goes s' (channel_method n (ChannelFlow active) t)
  heard-flow active s' h =
      let g = given-by held.opened s s' h in
      let c = listed-if (opened-lives held g.0) in
      let P : Server → Type 0 = λ x. Goes x (channel_method n (ChannelFlow active) t) in
      subst P g.1 (by-rule s (ChannelFlow active) c.0 c.1 (goes-flow n c.0 s t m.opened c.1 serving (c.0).state active))

  heard-flowed : (active : Bool) (s' : Server) → serves_on n held (Method n (ChannelFlowOk active)) s ≡ Some s' → Goes s' (channel_method n (ChannelFlowOk active) t)
  heard-flowed active s' h = by held.opened refl h where
    by : (b : Bool) → held.opened ≡ b → (if b then one_less held.flows (λ left. used_as n (record held { flows = left }) s) else None) ≡ Some s' → Goes s' (channel_method n (ChannelFlowOk active) t)
    by false opened h = absurd cc
    by true opened h =
        let g = less-by held.flows (λ left. used_as n (record held { flows = left }) s) s' h in
        let c = listed-if (opened-lives held opened) in
        let P : Server → Type 0 = λ x. Goes x (channel_method n (ChannelFlowOk active) t) in
        subst P g.2 (by-rule _ (ChannelFlowOk active) c.0 c.1 (goes-flowed n c.0 s t m.opened c.1 serving active g.0 opened g.1))

  heard-closed : (s' : Server) → serves_on n held (Method n ChannelCloseOk) s ≡ Some s' → Goes s' (channel_method n ChannelCloseOk t)
  heard-closed s' h =
      let g = given-by (held.opened && held.closing) (used_as n unused s) s' h in
      let b = both-true held.opened held.closing g.0 in
      let c = listed-if (opened-lives held b.0) in
      let P : Server → Type 0 = λ x. Goes x (channel_method n ChannelCloseOk t) in
      subst P g.1 (by-rule _ ChannelCloseOk c.0 c.1 (goes-closed n c.0 s t m.opened c.1 serving above b.0 b.1))

  heard-close : (code class method : ℕ) (text : List ℕ) (s' : Server) → serves_on n held (Method n (ChannelClose code text class method)) s ≡ Some s'
      → Goes s' (channel_method n (ChannelClose code text class method) t)
  heard-close code class method text s' h =
      let g = given-by (held.opened && not held.closing) (used_as n unused s) s' h in
      let b = both-true held.opened (not held.closing) g.0 in
      let c = listed-if (opened-lives held b.0) in
      let P : Server → Type 0 = λ x. Goes x (channel_method n (ChannelClose code text class method) t) in
      subst P g.1
      (by-rule _ (ChannelClose code text class method) c.0 c.1
      (goes-server-close n c.0 s t m.opened c.1 serving above b.0 (channel_closed_with code text) (c.0).debt refl))

  heard-raw : (kind : RawKind) (bytes : List ℕ) (s' : Server) → serves_on n held (Raw n kind bytes) s ≡ Some s' → Goes s' (raw_frame n kind bytes t)
  heard-raw kind bytes s' h =
      let g = given-by held.opened s s' h in
      let c = listed-if (opened-lives held g.0) in
      let P : Server → Type 0 = λ x. Goes x (raw_frame n kind bytes t) in
      let Q : Talk → Type 0 = Goes s in
      subst P g.1 (subst Q (sym (raw-in-state n kind bytes t c.0 is c.1)) (goes-raw n c.0 s t m.opened c.1 serving kind bytes))

  -- a method
  pub heard-method : (method : AnyMethod) (s' : Server) → serves_on n held (Method n method) s ≡ Some s' → Goes s' (method_on n method t)
  heard-method ChannelOpenOk s' h = heard-opened s' h
  heard-method (ChannelFlow active) s' h = heard-flow active s' h
  heard-method (ChannelFlowOk active) s' h = heard-flowed active s' h
  heard-method ChannelCloseOk s' h = heard-closed s' h
  heard-method (ChannelClose code text class method) s' h = heard-close code class method text s' h
  heard-method other s' h = absurd cc

-- ---- frames of the connection, while it is open

-- a new secret was answered
module _ (s : Server) (t : Talk) (m : IsMet s t) (is : t.state ≡ Connected) where
  goes-secret : (left : ℕ) → s.secrets ≡ suc left → Goes (record s { secrets = left }) (secret_taken (awaited_promise 0 SecretDone t.outbox) t)
  goes-secret left owed =
      by (awaited_promise 0 SecretDone t.outbox) found-one
    where
      serving-now : IsServing s t
      serving-now = meets-in s t m Connected is

      waits : 1 ≤ waiting_for SecretDone (awaited_on 0 t.outbox.awaited)
      waits = let a = serving-now.secrets in omega (arith, a, owed)

      found-one : is_some (awaited_promise 0 SecretDone t.outbox) ≡ true
      found-one = some-promise (find (is_of SecretDone) (awaited_on 0 t.outbox.awaited)) (waiting-found SecretDone (awaited_on 0 t.outbox.awaited) waits) where
        some-promise : (x : Option Awaited) → is_some x ≡ true → is_some (option_map (λ (a : Awaited). a.promise) x) ≡ true
        some-promise (Some a) found = refl
        some-promise None found = absurd (true≢false (sym found))

      after-secret : Serves (record s { secrets = left }) (record t.outbox { awaited = left_awaited 0 SecretDone t.outbox.awaited }) t.channels t.committed
      after-secret = serves-secret s t.outbox t.channels t.committed left owed serving-now

      by : (x : Option (Option ℕ)) → is_some x ≡ true → Goes (record s { secrets = left }) (secret_taken x t)
      by None found = absurd (true≢false (sym found))
      by (Some None) found = (m.opened, after-secret)
      by (Some (Some number)) found = (m.opened, after-secret)

-- that the server blocks changes nothing else
blocked-meets : (b : Bool) (st : ConnectionState) (p : Phase) (s : Server) (q : Queued) (cs : Channels) (ms : List Mark) → Meets st p s q cs ms → Meets st p (record s { blocked = b }) q cs ms
blocked-meets b Connecting AwaitStart s q cs ms h =
    record { at_stage = h.at_stage; uses = h.uses; secrets = h.secrets; staying = h.staying; none = h.none; begun = h.begun; groups = h.groups; lane = h.lane; marks = h.marks }
blocked-meets b Connecting AwaitTune s q cs ms h =
    record { at_stage = h.at_stage; uses = h.uses; secrets = h.secrets; staying = h.staying; none = h.none; begun = h.begun; groups = h.groups; lane = h.lane; marks = h.marks }
blocked-meets b Connecting AwaitOpenOk s q cs ms h =
    record { at_stage = h.at_stage; uses = h.uses; secrets = h.secrets; staying = h.staying; none = h.none; begun = h.begun; groups = h.groups; lane = h.lane; marks = h.marks }
blocked-meets b Connected p s q cs ms h =
    record { stage = h.stage; staying = h.staying; ours = h.ours; secrets = h.secrets; each = h.each; due = h.due; begun = h.begun; groups = h.groups }
blocked-meets b Closing p s q cs ms h = h
blocked-meets b Initial p s q cs ms h = absurd h
blocked-meets b Closed p s q cs ms h = absurd h
blocked-meets b Reconnecting p s q cs ms h = absurd h
blocked-meets b Error p s q cs ms h = absurd h

-- blocked, and unblocked
heard-blocked : (reason : List ℕ) (s : Server) (t : Talk) → IsMet s t → IsMet (record s { blocked = true }) (on_blocked reason t)
heard-blocked reason s t m =
    record { opened = m.opened; acting = m.acting; blocked = refl; first = m.first; limit = m.limit; meets = blocked-meets true t.state t.phase s t.outbox t.channels t.committed m.meets }

heard-unblocked : (s : Server) (t : Talk) → IsMet s t → IsMet (record s { blocked = false }) (on_unblocked t)
heard-unblocked s t m =
    record { opened = m.opened; acting = m.acting; blocked = refl; first = m.first; limit = m.limit; meets = blocked-meets false t.state t.phase s t.outbox t.channels t.committed m.meets }

heard-last : (code : ℕ) (text : List ℕ) (s s' : Server) (t : Talk) → IsMet s t → First Ready t
    → provided (not (is_some (kind_of code)) && (not s.blocked && not s.closing)) (record s { stage = Gone }) ≡ Some s' → Heard s' (on_connection_close code text t)
heard-last code text s s' t m first h =
    let g = given-by (not (is_some (kind_of code)) && (not s.blocked && not s.closing)) (record s { stage = Gone }) s' h in
    let a = both-true (not (is_some (kind_of code))) (not s.blocked && not s.closing) g.0 in
    let b = both-true (not s.blocked) (not s.closing) a.1 in
    let P : Server → Type 0 = λ x. Heard x (on_connection_close code text t) in
    subst P g.1
    (inr (
      refl,
      inr (record {
        opened = m.opened;
        crossed = is_closing t.state;
        input = refl;
        closed = ap Some (if-false (is_some (kind_of code)) _ WithoutError (from-not-true (is_some (kind_of code)) a.0));
        blocked = m.blocked ∙ from-not-true s.blocked b.0;
        only_close = refl;
        first = first;
      }),
    ))

-- what is heard on a channel leaves the rest of what the server knows
pub serves-on-keeps : (n : ℕ) (held : Use) (f : Frame) (s s' : Server) → serves_on n held f s ≡ Some s' → (s'.blocked ≡ s.blocked) × (s'.stage ≡ s.stage)
serves-on-keeps n held (Method m ChannelOpenOk) s s' h =
    let g = given-by held.asked (used_as n (record held { asked = false; opened = true }) s) s' h in
    let P : Server → Type 0 = λ x. (x.blocked ≡ s.blocked) × (x.stage ≡ s.stage) in subst P g.1 (refl, refl)
serves-on-keeps n held (Method m (ChannelFlow active)) s s' h =
    let g = given-by held.opened s s' h in
    let P : Server → Type 0 = λ x. (x.blocked ≡ s.blocked) × (x.stage ≡ s.stage) in subst P g.1 (refl, refl)
serves-on-keeps n held (Method m (ChannelFlowOk active)) s s' h = by held.opened h where
  by : (b : Bool) → (if b then one_less held.flows (λ left. used_as n (record held { flows = left }) s) else None) ≡ Some s' → (s'.blocked ≡ s.blocked) × (s'.stage ≡ s.stage)
  by false h = absurd cc
  by true h =
      let g = less-by held.flows (λ left. used_as n (record held { flows = left }) s) s' h in
      let P : Server → Type 0 = λ x. (x.blocked ≡ s.blocked) × (x.stage ≡ s.stage) in subst P g.2 (refl, refl)
serves-on-keeps n held (Method m ChannelCloseOk) s s' h =
    let g = given-by (held.opened && held.closing) (used_as n unused s) s' h in
    let P : Server → Type 0 = λ x. (x.blocked ≡ s.blocked) × (x.stage ≡ s.stage) in subst P g.1 (refl, refl)
serves-on-keeps n held (Method m (ChannelClose code text class method)) s s' h =
    let g = given-by (held.opened && not held.closing) (used_as n unused s) s' h in
    let P : Server → Type 0 = λ x. (x.blocked ≡ s.blocked) × (x.stage ≡ s.stage) in subst P g.1 (refl, refl)
serves-on-keeps n held (Raw m kind bytes) s s' h =
    let g = given-by held.opened s s' h in
    let P : Server → Type 0 = λ x. (x.blocked ≡ s.blocked) × (x.stage ≡ s.stage) in subst P g.1 (refl, refl)
serves-on-keeps n held other s s' h = absurd cc

-- while the connection is open
module _ (s : Server) (t : Talk) (m : IsMet s t) (is : t.state ≡ Connected) where
  met-serving : (s' : Server) (u : Talk) → s'.blocked ≡ s.blocked → Ordinary Ready t u → Goes s' u → Heard s' u
  met-serving s' u same o g = inl (met-again s s' t u Connected m is refl same o g.0 (λ p. g.1))

  in-connected : (s' : Server) (method : AnyMethod) (answers : List ProviderAnswer) → Heard s' (connection_rule Connected t.phase method answers t)
      → Heard s' (connection_rule t.state t.phase method answers t)
  in-connected s' method answers h = let P : Talk → Type 0 = Heard s' in subst P (sym (connection-in Connected t.phase method answers t is refl)) h

  ready : First Ready t
  ready = first-in s t m Connected is

  pub heard-connected : (f : Frame) (answers : List ProviderAnswer) (s' : Server) → serves f s ≡ Some s' → Heard s' (frame_rule f answers t)
  heard-connected Heartbeat answers s' h = let P : Server → Type 0 = λ x. Heard x t in subst P (some_is s s' h) (inl m)
  heard-connected (Method zero (Blocked reason)) answers s' h =
      in-connected s' (Blocked reason) answers
      (let P : Server → Type 0 = λ x. Heard x (on_blocked reason t) in subst P (some_is (record s { blocked = true }) s' h) (inl (heard-blocked reason s t m)))
  heard-connected (Method zero Unblocked) answers s' h =
      in-connected s' Unblocked answers
      (let P : Server → Type 0 = λ x. Heard x (on_unblocked t) in subst P (some_is (record s { blocked = false }) s' h) (inl (heard-unblocked s t m)))
  heard-connected (Method zero UpdateSecretOk) answers s' h =
      let g = less-by s.secrets (λ left. record s { secrets = left }) s' h in
      let u : Talk = secret_taken (awaited_promise 0 SecretDone t.outbox) t in
      let P : Server → Type 0 = λ x. Heard x u in
      let k = goes-secret s t m is g.0 g.1 in
      in-connected s' UpdateSecretOk answers
      (subst P g.2 (met-serving (record s { secrets = g.0 }) u refl (secret-goes (Ok AnswerConnected) (awaited_promise 0 SecretDone t.outbox) t k.0) k))
  heard-connected (Method zero CloseOk) answers s' h =
      absurd (true≢false (sym (given-by s.closing (record s { stage = Gone }) s' h).0 ∙ (meets-in s t m Connected is).staying))
  heard-connected (Method zero (Close code text class method)) answers s' h =
      in-connected s' (Close code text class method) answers (heard-last code text s s' t m ready h)
  heard-connected (Method (suc k) method) answers s' h =
      let g = heard-method k s t m is method s' h in
      met-serving s' (method_on (suc k) method t) (serves-on-keeps (suc k) (s.uses (suc k)) (Method (suc k) method) s s' h).0
      (method-goes (Ok AnswerConnected) (suc k) method t g.0) g
  heard-connected (Raw (suc k) kind bytes) answers s' h =
      let g = heard-raw k s t m is kind bytes s' h in
      met-serving s' (raw_frame (suc k) kind bytes t) (serves-on-keeps (suc k) (s.uses (suc k)) (Raw (suc k) kind bytes) s s' h).0
      (raw-goes (Ok AnswerConnected) (suc k) kind bytes t g.0) g
  heard-connected f answers s' h = absurd cc

-- ---- frames after our close

module _ (s : Server) (t : Talk) (m : IsMet s t) (is : t.state ≡ Closing) where
  closing-ready : First Ready t
  closing-ready = first-in s t m Closing is

  stage-now : s.stage ≡ Serving
  stage-now = meets-in s t m Closing is

  in-closing : (s' : Server) (method : AnyMethod) (answers : List ProviderAnswer) → Heard s' (connection_rule Closing t.phase method answers t)
      → Heard s' (connection_rule t.state t.phase method answers t)
  in-closing s' method answers h = let P : Talk → Type 0 = Heard s' in subst P (sym (connection-in Closing t.phase method answers t is refl)) h

  -- what is misplaced is dropped
  misplaced-open : (e : ErrorKind) → is_open (misplaced e t) ≡ true
  misplaced-open e = ap is_open (if-true (is_closing t.state) t (lose e t) (ap is_closing is)) ∙ m.opened

  channel-open : (n : ℕ) (method : AnyMethod) (x : Option Channel) → is_open (channel_method_by x n method t) ≡ true
  channel-open n method None = misplaced-open (InvalidChannel n)
  channel-open n method (Some c) = ap (λ (st : ConnectionState). is_open (channel_rule st n c method t)) is ∙ m.opened

  method-open : (n : ℕ) (method : AnyMethod) → is_open (method_on n method t) ≡ true
  method-open n method =
      if_case (λ (x : Talk). is_open x ≡ true) (is_of_a_channel method) (channel_method n method t) (misplaced (stray_connection_method n) t)
      (channel-open n method (heard_on t.state (channel_at n t))) (misplaced-open (stray_connection_method n))

  raw-open : (n : ℕ) (kind : RawKind) (bytes : List ℕ) (x : Option Channel) → is_open (raw_by x n kind bytes t) ≡ true
  raw-open n kind bytes None = misplaced-open (InvalidChannel n)
  raw-open n kind bytes (Some c) =
      if_case (λ (x : Talk). is_open x ≡ true) (is_select_ok kind bytes) (confirmed n c t) t m.opened m.opened

  closed-talk : (x : Option (Option ℕ)) → IsOver (connection_closed x t)
  closed-talk None = record { over = refl; first = closing-ready }
  closed-talk (Some promise) = record { over = refl; first = record { made = closing-ready.made; held = to-given promise (Ok AnswerConnected) (Ok Done) t.promises closing-ready.held } }

  met-closing : (s' : Server) (u : Talk) → s'.blocked ≡ s.blocked → s'.stage ≡ s.stage → Ordinary Ready t u → is_open u ≡ true → Heard s' u
  met-closing s' u same stage o opened = inl (met-again s s' t u Closing m is refl same o opened (λ p. stage ∙ stage-now))

  pub heard-closing : (f : Frame) (answers : List ProviderAnswer) (s' : Server) → serves f s ≡ Some s' → Heard s' (frame_rule f answers t)
  heard-closing Heartbeat answers s' h = let P : Server → Type 0 = λ x. Heard x t in subst P (some_is s s' h) (inl m)
  heard-closing (Method zero (Blocked reason)) answers s' h =
      in-closing s' (Blocked reason) answers
      (let P : Server → Type 0 = λ x. Heard x (on_blocked reason t) in subst P (some_is (record s { blocked = true }) s' h) (inl (heard-blocked reason s t m)))
  heard-closing (Method zero Unblocked) answers s' h =
      in-closing s' Unblocked answers
      (let P : Server → Type 0 = λ x. Heard x (on_unblocked t) in subst P (some_is (record s { blocked = false }) s' h) (inl (heard-unblocked s t m)))
  heard-closing (Method zero UpdateSecretOk) answers s' h =
      let g = less-by s.secrets (λ left. record s { secrets = left }) s' h in
      let P : Server → Type 0 = λ x. Heard x t in
      in-closing s' UpdateSecretOk answers
      (subst P g.2 (met-closing (record s { secrets = g.0 }) t refl refl (same Ready t) m.opened))
  heard-closing (Method zero CloseOk) answers s' h =
      let g = given-by s.closing (record s { stage = Gone }) s' h in
      let u : Talk = connection_closed (awaited_promise 0 ConnectionClosed t.outbox) t in
      let P : Server → Type 0 = λ x. Heard x u in
      in-closing s' CloseOk answers (subst P g.1 (inr (refl, inl (closed-talk (awaited_promise 0 ConnectionClosed t.outbox)))))
  heard-closing (Method zero (Close code text class method)) answers s' h =
      in-closing s' (Close code text class method) answers (heard-last code text s s' t m closing-ready h)
  heard-closing (Method (suc k) method) answers s' h =
      let keeps = serves-on-keeps (suc k) (s.uses (suc k)) (Method (suc k) method) s s' h in
      let opened = method-open (suc k) method in
      met-closing s' (method_on (suc k) method t) keeps.0 keeps.1 (method-goes (Ok AnswerConnected) (suc k) method t opened) opened
  heard-closing (Raw (suc k) kind bytes) answers s' h =
      let keeps = serves-on-keeps (suc k) (s.uses (suc k)) (Raw (suc k) kind bytes) s s' h in
      let opened = raw-open (suc k) kind bytes (heard_on t.state (channel_at (suc k) t)) in
      met-closing s' (raw_frame (suc k) kind bytes t) keeps.0 keeps.1 (raw-goes (Ok AnswerConnected) (suc k) kind bytes t opened) opened
  heard-closing f answers s' h = absurd cc

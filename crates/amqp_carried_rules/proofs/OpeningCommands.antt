-- The promise that opened a channel is that of a command which opens one, and it opens no other: so through every command.
use Rattle.std.proofs.lemmas.Bool.{cases_lt}
use Rattle.std.proofs.Common.{◌≡◌, ◌≤◌, ◌<◌, inl, inr, ◌∙◌, ap, sym, subst, refl, ℕ, suc, ◌==◌, if◌then◌else◌, Bool, false, List, [], ◌∷◌, ◌++◌, length, append-nil, Option, Some, None, Result, Ok, Err, arith}
use Rattle.std.specs.Prelude.{filter, codes}
use Rattle.std.specs.List.{AllByRecursion}
use Rattle.amqp_types.specs.declared.word.Word.TheVariants as word
use Rattle.amqp_frame.specs.declared.frame.Frame.{Frame}
use Rattle.amqp_frame.specs.RawMethods.{OtherMethod}
use Rattle.amqp_outbox.specs.declared.reply.Reply.{Reply}
use Rattle.amqp_outbox.specs.declared.reply.Reply.TheVariants.{ChannelOpened, ChannelClosed, FlowDone, SecretDone, ConnectionClosed}
use Rattle.amqp_outbox.specs.Items.{promised_item, group_of}
use Rattle.amqp_outbox.specs.Queued.{is_on}
use Rattle.amqp_promise.specs.declared.state.ConnectionState.{ConnectionState}
use Rattle.amqp_promise.specs.declared.state.ConnectionState.TheVariants.{Connected, Closing}
use Rattle.amqp_promise.specs.declared.state.ChannelState.TheVariants as channel
use Rattle.amqp_promise.specs.declared.error.ErrorKind.{ErrorKind}
use Rattle.amqp_promise.specs.declared.error.ErrorKind.TheVariants.{InvalidChannelState, InvalidConnectionState}
use Rattle.amqp_channels.specs.declared.channels.Channel.{Channel}
use Rattle.amqp_commands.specs.declared.command.ChanRef.{ChanRef}
use Rattle.amqp_commands.specs.declared.command.Cmd.{Cmd}
use Rattle.amqp_commands.specs.declared.command.Cmd.TheVariants.{OpenChannel, CloseChannel, CloseConnection, UpdateSecret, Send, Publish, Flow, DropChannel, DropConnection, Listen}
use Rattle.amqp_answers.specs.declared.answer.Answer.{Answer as AnyAnswer}
use Rattle.amqp_answers.specs.declared.answer.Answer.TheVariants as says
use Rattle.amqp_answers.specs.declared.handed.Handed.{Handed}
use Rattle.amqp_maps.specs.Listed.{at, put}
use Rattle.amqp_settings.specs.Config.{Config}
use Rattle.amqp_rules.specs.Talk.{Talk, start}
use Rattle.amqp_answers.specs.Settled.{Promises}
use Rattle.amqp_rules.specs.Changes.{await, queue, queue_item, queue_group, next_promise, promise, refuse}
use Rattle.amqp_rules.specs.Channels.{channel_at}
use Rattle.amqp_channels.specs.Channels.{new_channel, made_closing, made_leaving}
use Rattle.amqp_settings.specs.Handshake.{channel_flow, new_secret}
use Rattle.amqp_channels.specs.Numbering.{first_number, drawn}
use Rattle.amqp_commands.specs.Publishing.{method_frame, publish_frames}
use Rattle.amqp_rules.specs.Commands.{target, open_drawn, leave_channel, close_target, drop_target, too_long, unless_too_long, too_full, unless_full, queue_send, send_target, body_limit, queue_publish, publish_target, flow_target, queue_secret, update_secret, leave_connection, listen, command_rule, command}
use Rattle.amqp_types.proofs.Small.{some_is, same-number, other-number}
use Rattle.amqp_carried_rules.specs.CommandFrames.{answered_command}
use Rattle.amqp_carried_rules.proofs.Bearing.{command_at, told-made}
use Rattle.amqp_carried_rules.proofs.Commanding.{get-last, same-below, grows-more, one-more}
use Rattle.amqp_carried_rules.proofs.Handing.{at-put}
use Rattle.amqp_carried_rules.proofs.Entries.{Each, each-put, each-at, each-map, each-then, all-then, each-both, keys-there}
use Rattle.amqp_carried_rules.proofs.Openers.{IsOpener, IsLatest, AnswersOpening, HoldsOpening, AwaitsAs, AwaitsOpening, KnowsOpeners, held-rejected, waiting-more}
use Rattle.amqp_rules.proofs.SoundCommands.{target-listed}
use Rattle.amqp_channels.proofs.Drawn.{drawn-free}

-- ---- a channel or the connection is left

module _ (cs : List Cmd) (opens : ℕ → ℕ) (gone : ℕ → Bool) where
  -- a reply is awaited, and will answer this promise
  leaves-channel : (n code : ℕ) (text : List ℕ) (c : Channel) (answers : Option ℕ) (t : Talk) → channel_at n t ≡ Some c → AwaitsAs cs ChannelClosed answers → KnowsOpeners cs opens gone t
      → KnowsOpeners cs opens gone (leave_channel n code text c answers t)
  leaves-channel n code text c answers t there fits h =
      let Listed : ℕ → Channel → Type 0 = λ m d. IsLatest cs opens m d.opened in
      record {
        listed = each-put Listed n (made_leaving c) t.channels (each-at Listed n t.channels c h.listed there) h.listed;
        held = held-rejected cs opens gone (InvalidChannelState channel.Closing word.ChannelClose) (filter (is_on n) t.outbox.publish) t.promises h.held;
        awaited = waiting-more cs opens gone n (record { reply = ChannelClosed; promise = answers }) t.outbox.awaited fits h.awaited;
        handed = h.handed;
      }

  leaves-connection : (code : ℕ) (text : List ℕ) (answers : Option ℕ) (t : Talk) → AwaitsAs cs ConnectionClosed answers → KnowsOpeners cs opens gone t
      → KnowsOpeners cs opens gone (leave_connection code text answers t)
  leaves-connection code text answers t fits h =
      let Listed : ℕ → Channel → Type 0 = λ m d. IsLatest cs opens m d.opened in
      record {
        listed = each-map Listed (λ m d. made_closing d) (λ m d o. o) t.channels h.listed;
        held = held-rejected cs opens gone (InvalidConnectionState Closing) t.outbox.publish t.promises h.held;
        awaited = waiting-more cs opens gone 0 (record { reply = ConnectionClosed; promise = answers }) t.outbox.awaited fits h.awaited;
        handed = h.handed;
      }

  keeps-events : (t : Talk) → KnowsOpeners cs opens gone t → KnowsOpeners cs opens gone (listen t)
  keeps-events t h = record { listed = h.listed; held = h.held; awaited = h.awaited; handed = h.handed }

-- ---- a command more

module _ (cs : List Cmd) (c : Cmd) (opens opens' : ℕ → ℕ) (gone : ℕ → Bool) (same : (p : ℕ) → p ≤ length cs → opens' p ≡ opens p) where
  abbrev More : List Cmd
  More = cs ++ c ∷ []

  opener-grows : (n p : ℕ) → IsOpener cs opens n p → IsOpener More opens' n p
  opener-grows n p h =
      record { command = grows-more cs c p OpenChannel h.command; number = same p (told-made cs p OpenChannel h.command) ∙ h.number; some = h.some }

  -- no command that was told since opens this number
  abbrev NoneSince : ℕ → Type 0
  NoneSince n = (q : ℕ) → length cs < q → command_at More q ≡ Some OpenChannel → opens' q ≡ n → ⊥

  latest-grows : (n p : ℕ) → NoneSince n → IsLatest cs opens n p → IsLatest More opens' n p
  latest-grows n p none h =
      record {
        opener = opener-grows n p h.opener;
        last = λ q told is. elim (cases_lt (length cs) q) [
          | inl above ↦ absurd (none q above told is)
          | inr le ↦ h.last q (sym (same-below cs c q le) ∙ told) (sym (same q le) ∙ is)
        ];
      }

  answers-grow : (p : ℕ) (slot : Option (Result AnyAnswer ErrorKind)) → AnswersOpening cs opens p slot → AnswersOpening More opens' p slot
  answers-grow p slot h =
      record {
        made = omega (arith, h.made, one-more cs c);
        answer = λ x told is. elim (h.answer x (sym (same-below cs c p h.made) ∙ told) is) [
          | inl e ↦ inl (e ∙ ap (λ n. says.Channel n p) (sym (same p h.made)))
          | inr e ↦ inr e
        ];
      }

  held-grows : (p : ℕ) (slot : Option (Result AnyAnswer ErrorKind)) → HoldsOpening cs opens gone p slot → HoldsOpening More opens' gone p slot
  held-grows p slot h =
      let a : AnswersOpening More opens' p slot = answers-grow p slot (record { made = h.made; answer = h.answer }) in
      record { untaken = h.untaken; made = a.made; answer = a.answer }

  awaits-grows : (reply : Reply) (o : Option ℕ) → AwaitsAs cs reply o → AwaitsAs More reply o
  awaits-grows reply None h = tt
  awaits-grows reply (Some p) h = (omega (arith, h.0, one-more cs c), λ told. h.1 (sym (same-below cs c p h.0) ∙ told))

  all-grows : (t : Talk) → Each (λ n (d : Channel). NoneSince n) t.channels → KnowsOpeners cs opens gone t → KnowsOpeners More opens' gone t
  all-grows t none h =
      record {
        listed =
            each-both (λ n (d : Channel). NoneSince n) (λ n (d : Channel). IsLatest cs opens n d.opened) (λ n (d : Channel). IsLatest More opens' n d.opened)
            (λ n d none_since o. latest-grows n d.opened none_since o) t.channels none h.listed;
        held = each-then (HoldsOpening cs opens gone) (HoldsOpening More opens' gone) held-grows t.promises h.held;
        awaited =
            each-then (λ n list. AllByRecursion (AwaitsOpening cs) list) (λ n list. AllByRecursion (AwaitsOpening More) list)
            (λ n list all. all-then (AwaitsOpening cs) (AwaitsOpening More) (λ a o. awaits-grows a.reply a.promise o) list all) t.outbox.awaited h.awaited;
        handed =
            each-then (λ p hs. AllByRecursion (λ (x : Handed). IsOpener cs opens x.channel p) hs) (λ p hs. AllByRecursion (λ (x : Handed). IsOpener More opens' x.channel p) hs)
            (λ p hs all. all-then (λ (x : Handed). IsOpener cs opens x.channel p) (λ (x : Handed). IsOpener More opens' x.channel p) (λ x o. opener-grows x.channel p o) hs all) t.handed h.handed;
      }

  module _ (m : ℕ) (is : m ≡ suc (length cs)) (fresh : gone m ≡ false) where
    -- the command has the number of the promise that is made next
    newest : command_at More m ≡ Some c
    newest = ap (command_at More) is ∙ get-last cs c

    -- a reply that is awaited answers it
    awaits-new : (reply : Reply) → (c ≡ OpenChannel → reply ≡ ChannelOpened) → AwaitsAs More reply (Some m)
    awaits-new reply f = (omega (arith, is, one-more cs c), λ told. f (some_is c OpenChannel (sym newest ∙ told)))

    -- and it waits, or is answered with an error
    held-new : (slot : Option (Result AnyAnswer ErrorKind)) (ps : Promises) → ((x : AnyAnswer) → slot ≡ Some (Ok x) → ⊥) → Each (HoldsOpening More opens' gone) ps
        → Each (HoldsOpening More opens' gone) (put m slot ps)
    held-new slot ps none h =
        each-put (HoldsOpening More opens' gone) m slot ps (record { untaken = fresh; made = omega (arith, is, one-more cs c); answer = λ x told e. absurd (none x e) }) h

    promised : (t : Talk) → t.made ≡ m → KnowsOpeners More opens' gone t → KnowsOpeners More opens' gone (promise t)
    promised t made h =
        let P : ℕ → Type 0 = λ k. Each (HoldsOpening More opens' gone) (put k None t.promises) in
        record { listed = h.listed; held = subst P (sym made) (held-new None t.promises (λ x e. cc) h.held); awaited = h.awaited; handed = h.handed }

    refused : (e : ErrorKind) (t : Talk) → t.made ≡ m → KnowsOpeners More opens' gone t → KnowsOpeners More opens' gone (refuse e t)
    refused e t made h =
        let P : ℕ → Type 0 = λ k. Each (HoldsOpening More opens' gone) (put k (Some (Err e)) t.promises) in
        record { listed = h.listed; held = subst P (sym made) (held-new (Some (Err e)) t.promises (λ x is. cc) h.held); awaited = h.awaited; handed = h.handed }

-- ---- the table

-- once more commands were told: what was known of others is still
pub record KnowsMore (cs cs' : List Cmd) (before : ℕ → ℕ) (gone : ℕ → Bool) (t : Talk) : Type 0 where
  pub opens : ℕ → ℕ
  pub knows : KnowsOpeners cs' opens gone t
  pub openers : (n p : ℕ) → IsOpener cs before n p → IsOpener cs' opens n p
  pub answers : (p : ℕ) (slot : Option (Result AnyAnswer ErrorKind)) → AnswersOpening cs before p slot → AnswersOpening cs' opens p slot
  pub same : (p : ℕ) → p ≤ length cs → opens p ≡ before p
  -- a promise that opens a channel waits at first
  pub waits : (p : ℕ) → length cs < p → command_at cs' p ≡ Some OpenChannel → 1 ≤ opens p → at p t.promises ≡ Some None

module _ (cs : List Cmd) (opens : ℕ → ℕ) (gone : ℕ → Bool) (t : Talk) (is : t.made ≡ suc (length cs)) (fresh : gone t.made ≡ false) (h : KnowsOpeners cs opens gone t) where
  abbrev After : Cmd → Talk → Type 0
  After c u = KnowsMore cs (cs ++ answered_command c) opens gone u

  as-before : (u : Talk) → KnowsOpeners cs opens gone u → KnowsMore cs (cs ++ []) opens gone u
  as-before u k =
      let Q : List Cmd → Type 0 = λ xs. KnowsMore cs xs opens gone u in
      subst Q (sym (append-nil cs)) (record { opens = opens; knows = k; openers = λ n p o. o; answers = λ p slot a. a; same = λ p le. refl; waits = λ p above told some. absurd (omega (arith, above, told-made cs p OpenChannel told)) })

  -- a command that is not refused, and does open a channel, opens a number; others open none
  opens_0 : ℕ → ℕ
  opens_0 p = if p == t.made then 0 else opens p

  apart_0 : (p : ℕ) → p ≤ length cs → opens_0 p ≡ opens p
  unfolding opens_0
  apart_0 p le = ap (λ b. if b then 0 else opens p) (other-number p t.made (λ e. omega (arith, e, is, le)))

  -- the command that is told has the number of the promise that is made next
  number-new : (c : Cmd) (q : ℕ) → length cs < q → command_at (cs ++ c ∷ []) q ≡ Some OpenChannel → q ≡ t.made
  number-new c q above told = omega (arith, above, told-made (cs ++ c ∷ []) q OpenChannel told, one-more cs c, is)

  none-new : (c : Cmd) → Each (λ n (d : Channel). (q : ℕ) → length cs < q → command_at (cs ++ c ∷ []) q ≡ Some OpenChannel → opens_0 q ≡ n → ⊥) t.channels
  unfolding opens_0
  none-new c =
      each-then (λ n (d : Channel). IsLatest cs opens n d.opened)
      (λ n (d : Channel). (q : ℕ) → length cs < q → command_at (cs ++ c ∷ []) q ≡ Some OpenChannel → opens_0 q ≡ n → ⊥)
      (λ n d l q above told same. clash n l.opener.some q (number-new c q above told) same) t.channels h.listed
    where
      clash : (n : ℕ) → 1 ≤ n → (q : ℕ) → q ≡ t.made → opens_0 q ≡ n → ⊥
      clash n some q here same =
          let zero_is : opens_0 q ≡ 0 = ap opens_0 here ∙ ap (λ b. if b then 0 else opens t.made) (same-number t.made) in
          let nothing : n ≡ 0 = sym same ∙ zero_is in
          absurd (omega (arith, some, nothing))

  module _ (c : Cmd) where
    told : KnowsOpeners (cs ++ c ∷ []) opens_0 gone t
    told = all-grows cs c opens opens_0 gone apart_0 t (none-new c) h

    more : (u : Talk) → KnowsOpeners (cs ++ c ∷ []) opens_0 gone u → KnowsMore cs (cs ++ c ∷ []) opens gone u
    unfolding opens_0
    more u k =
        record {
          opens = opens_0;
          knows = k;
          openers = opener-grows cs c opens opens_0 gone apart_0;
          answers = answers-grow cs c opens opens_0 gone apart_0;
          same = apart_0;
          waits = λ p above said some. absurd (nothing p (number-new c p above said) some);
        }
      where
        nothing : (p : ℕ) → p ≡ t.made → 1 ≤ opens_0 p → ⊥
        nothing p here some =
            let zero_is : opens_0 p ≡ 0 = ap opens_0 here ∙ ap (λ b. if b then 0 else opens t.made) (same-number t.made) in
            absurd (omega (arith, some, zero_is))

    as-refused : (e : ErrorKind) → KnowsMore cs (cs ++ c ∷ []) opens gone (refuse e t)
    as-refused e = more (refuse e t) (refused cs c opens opens_0 gone apart_0 t.made is fresh e t refl told)

    as-promised : (u : Talk) → u.made ≡ t.made → KnowsOpeners (cs ++ c ∷ []) opens_0 gone u → KnowsMore cs (cs ++ c ∷ []) opens gone (promise u)
    as-promised u made k = more (promise u) (promised cs c opens opens_0 gone apart_0 t.made is fresh u made k)

    as-awaits : (reply : Reply) → (c ≡ OpenChannel → ⊥) → AwaitsAs (cs ++ c ∷ []) reply (Some t.made)
    as-awaits reply other = awaits-new cs c opens opens_0 gone apart_0 t.made is fresh reply (λ e. absurd (other e))

    -- a frame that is too long, or by which too much would wait, is refused
    unless-long : (o : Option Frame) (rule : Talk → Talk) → KnowsMore cs (cs ++ c ∷ []) opens gone (rule t) → KnowsMore cs (cs ++ c ∷ []) opens gone (unless_too_long o rule t)
    unless-long (Some frame) rule k = as-refused _
    unless-long None rule k = k

    unless-room : (o : Option ℕ) (rule : Talk → Talk) → KnowsMore cs (cs ++ c ∷ []) opens gone (rule t) → KnowsMore cs (cs ++ c ∷ []) opens gone (unless_full o rule t)
    unless-room (Some octets) rule k = as-refused _
    unless-room None rule k = k

  -- a channel is opened, by the promise of this command
  opens-drawn : (o : Option ℕ) (first : ℕ) → ((n : ℕ) → o ≡ Some n → (1 ≤ n) × (channel_at n t ≡ None)) → After OpenChannel (open_drawn o first t)
  opens-drawn None first free =
      let r = as-refused OpenChannel _ in
      let k = r.knows in
      record {
        opens = r.opens;
        knows = record { listed = k.listed; held = k.held; awaited = k.awaited; handed = k.handed };
        openers = r.openers;
        answers = r.answers;
        same = r.same;
        waits = r.waits;
      }
  opens-drawn (Some n) first free =
      let m : ℕ = t.made in
      let opens' : ℕ → ℕ = λ p. if p == m then n else opens p in
      let apart : (p : ℕ) → p ≤ length cs → opens' p ≡ opens p = λ p le. ap (λ b. if b then n else opens p) (other-number p m (λ e. omega (arith, e, is, le))) in
      let here : opens' m ≡ n = ap (λ b. if b then n else opens m) (same-number m) in
      let none : Each (λ k (d : Channel). (q : ℕ) → length cs < q → command_at (cs ++ OpenChannel ∷ []) q ≡ Some OpenChannel → opens' q ≡ k → ⊥) t.channels =
      each-then (λ k (d : Channel). channel_at k t ≡ None → ⊥)
      (λ k (d : Channel). (q : ℕ) → length cs < q → command_at (cs ++ OpenChannel ∷ []) q ≡ Some OpenChannel → opens' q ≡ k → ⊥)
      (λ k d there q above said same.
      let number : n ≡ k = sym here ∙ ap opens' (sym (number-new OpenChannel q above said)) ∙ same in
      there (ap (λ i. channel_at i t) (sym number) ∙ (free n refl).1)) t.channels (keys-there t.channels) in
      let k : KnowsOpeners (cs ++ OpenChannel ∷ []) opens' gone t = all-grows cs OpenChannel opens opens' gone apart t none h in
      let Listed : ℕ → Channel → Type 0 = λ i d. IsLatest (cs ++ OpenChannel ∷ []) opens' i d.opened in
      let last : (q : ℕ) → command_at (cs ++ OpenChannel ∷ []) q ≡ Some OpenChannel → opens' q ≡ n → q ≤ m =
      λ q said same. omega (arith, told-made (cs ++ OpenChannel ∷ []) q OpenChannel said, one-more cs OpenChannel, is) in
      record {
        opens = opens';
        knows = record {
          listed =
              each-put Listed n (new_channel m) t.channels
              (record { opener = record { command = newest cs OpenChannel opens opens' gone apart m is fresh; number = here; some = (free n refl).0 }; last = last }) k.listed;
          held = held-new cs OpenChannel opens opens' gone apart m is fresh None t.promises (λ x e. cc) k.held;
          awaited =
              waiting-more (cs ++ OpenChannel ∷ []) opens' gone n (record { reply = ChannelOpened; promise = Some m }) t.outbox.awaited
              (awaits-new cs OpenChannel opens opens' gone apart m is fresh ChannelOpened (λ e. refl)) k.awaited;
          handed = k.handed;
        };
        openers = opener-grows cs OpenChannel opens opens' gone apart;
        answers = answers-grow cs OpenChannel opens opens' gone apart;
        same = apart;
        waits = λ p above said some. ap (λ i. at i (put m None t.promises)) (number-new OpenChannel p above said) ∙ at-put m None t.promises;
      }

  closes-target : (x : Result Channel ErrorKind) (r : ChanRef) (n code : ℕ) (text : List ℕ) → ((d : Channel) → x ≡ Ok d → channel_at n t ≡ Some d) → After (CloseChannel r code text) (close_target x n code text t)
  closes-target (Err e) r n code text there = as-refused (CloseChannel r code text) e
  closes-target (Ok d) r n code text there =
      let c : Cmd = CloseChannel r code text in
      as-promised c (leave_channel n code text d (Some (next_promise t)) t) refl
      (leaves-channel (cs ++ c ∷ []) opens_0 gone n code text d (Some (next_promise t)) t (there d refl) (as-awaits c ChannelClosed (λ e. cc)) (told c))

  drops-target : (x : Result Channel ErrorKind) (n : ℕ) → ((d : Channel) → x ≡ Ok d → channel_at n t ≡ Some d) → KnowsOpeners cs opens gone (drop_target x n t)
  drops-target (Err e) n there = h
  drops-target (Ok d) n there = leaves-channel cs opens gone n 200 (codes "OK") d None t (there d refl) tt h

  flows-target : (x : Result Channel ErrorKind) (r : ChanRef) (n : ℕ) (active : Bool) → After (Flow r active) (flow_target x n active t)
  flows-target (Err e) r n active = as-refused (Flow r active) e
  flows-target (Ok d) r n active =
      let c : Cmd = Flow r active in
      let k : KnowsOpeners (cs ++ c ∷ []) opens_0 gone t = told c in
      as-promised c (await n FlowDone (Some (next_promise t)) (queue n (channel_flow n active) t)) refl
      (record {
        listed = k.listed;
        held = k.held;
        awaited = waiting-more (cs ++ c ∷ []) opens_0 gone n (record { reply = FlowDone; promise = Some t.made }) t.outbox.awaited (as-awaits c FlowDone (λ e. cc)) k.awaited;
        handed = k.handed;
      })

  tells-secret : (secret reason : List ℕ) → After (UpdateSecret secret reason) (update_secret secret reason t)
  tells-secret secret reason =
      let c : Cmd = UpdateSecret secret reason in
      let k : KnowsOpeners (cs ++ c ∷ []) opens_0 gone t = told c in
      let frame = new_secret secret reason in
      unless-long c (too_long (frame ∷ []) t) (queue_secret frame)
      (as-promised c (await 0 SecretDone (Some (next_promise t)) (queue 0 frame t)) refl
      (record {
        listed = k.listed;
        held = k.held;
        awaited = waiting-more (cs ++ c ∷ []) opens_0 gone 0 (record { reply = SecretDone; promise = Some t.made }) t.outbox.awaited (as-awaits c SecretDone (λ e. cc)) k.awaited;
        handed = k.handed;
      }))

  sends-target : (x : Result Channel ErrorKind) (r : ChanRef) (method : OtherMethod) → After (Send r method) (send_target x r.id method t)
  sends-target (Err e) r method = as-refused (Send r method) e
  sends-target (Ok d) r method =
      let c : Cmd = Send r method in
      let k : KnowsOpeners (cs ++ c ∷ []) opens_0 gone t = told c in
      let frame = method_frame r.id method in
      unless-long c (too_long (frame ∷ []) t) (unless_full (too_full (frame ∷ []) t) (queue_send r.id frame))
      (unless-room c (too_full (frame ∷ []) t) (queue_send r.id frame)
      (as-promised c (queue_item (promised_item r.id frame (next_promise t)) t) refl (record { listed = k.listed; held = k.held; awaited = k.awaited; handed = k.handed })))

  publishes-target : (x : Result Channel ErrorKind) (r : ChanRef) (method : OtherMethod) (properties body : List ℕ) → After (Publish r method properties body) (publish_target x r.id method properties body t)
  publishes-target (Err e) r method properties body = as-refused (Publish r method properties body) e
  publishes-target (Ok d) r method properties body =
      let c : Cmd = Publish r method properties body in
      let k : KnowsOpeners (cs ++ c ∷ []) opens_0 gone t = told c in
      let frames = publish_frames r.id method properties body (body_limit t) in
      unless-long c (too_long frames t) (unless_full (too_full frames t) (queue_publish r.id frames))
      (unless-room c (too_full frames t) (queue_publish r.id frames)
      (as-promised c (queue_group (group_of r.id frames (next_promise t)) t) refl (record { listed = k.listed; held = k.held; awaited = k.awaited; handed = k.handed })))

  closes-connection : (code : ℕ) (text : List ℕ) → After (CloseConnection code text) (promise (leave_connection code text (Some (next_promise t)) t))
  closes-connection code text =
      let c : Cmd = CloseConnection code text in
      as-promised c (leave_connection code text (Some (next_promise t)) t) refl (leaves-connection (cs ++ c ∷ []) opens_0 gone code text (Some (next_promise t)) t (as-awaits c ConnectionClosed (λ e. cc)) (told c))

  free : (n : ℕ) → (1 ≤ n) × (n ≤ t.configuration.channel_max) × (channel_at n t ≡ None) → (1 ≤ n) × (channel_at n t ≡ None)
  free n d = (d.0, d.2)

  -- the rule for a command
  knows-rule : (s : ConnectionState) (c : Cmd) → After c (command_rule s c t)
  knows-rule Connected OpenChannel =
      let first = first_number t.configuration.channel_max t.cursor in
      opens-drawn (drawn t.configuration.channel_max first t.channels) first (λ n h. free n (drawn-free t.configuration.channel_max t.cursor n t.channels h))
  knows-rule Connected (CloseChannel r code text) = closes-target (target r word.ChannelClose t) r r.id code text (λ d e. target-listed r word.ChannelClose t d e)
  knows-rule Connected (CloseConnection code text) = closes-connection code text
  knows-rule Connected (UpdateSecret secret reason) = tells-secret secret reason
  knows-rule Connected (Send r method) = sends-target (target r word.Send t) r method
  knows-rule Connected (Publish r method properties body) = publishes-target (target r word.Publish t) r method properties body
  knows-rule Connected (Flow r active) = flows-target (target r word.ChannelFlow t) r r.id active
  knows-rule Connected (DropChannel r) = as-before _ (drops-target (target r word.ChannelClose t) r.id (λ d e. target-listed r word.ChannelClose t d e))
  knows-rule Connected DropConnection = as-before _ (leaves-connection cs opens gone 200 (codes "OK") None t tt h)
  knows-rule Connected Listen = as-before _ (keeps-events cs opens gone t h)
  knows-rule _ (DropChannel r) = as-before _ h
  knows-rule _ DropConnection = as-before _ h
  knows-rule _ Listen = as-before _ (keeps-events cs opens gone t h)
  knows-rule _ OpenChannel = as-refused OpenChannel _
  knows-rule _ (CloseChannel r code text) = as-refused (CloseChannel r code text) _
  knows-rule _ (CloseConnection code text) = as-refused (CloseConnection code text) _
  knows-rule _ (UpdateSecret secret reason) = as-refused (UpdateSecret secret reason) _
  knows-rule _ (Send r method) = as-refused (Send r method) _
  knows-rule _ (Publish r method properties body) = as-refused (Publish r method properties body) _
  knows-rule _ (Flow r active) = as-refused (Flow r active) _

  -- a command
  pub knows-command : (c : Cmd) → After c (command c t)
  knows-command c = knows-rule t.state c

-- a session that was told nothing
pub knows-start : (config : Config) → KnowsOpeners [] (λ p. 0) (λ p. false) (start config)
knows-start config = record { listed = tt; held = (record { untaken = refl; made = omega arith; answer = λ x told is. absurd cc }, tt); awaited = tt; handed = tt }

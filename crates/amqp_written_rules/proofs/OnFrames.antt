-- Each frame that is read leaves a session that says nothing else.
use Rattle.std.proofs.Common.{◌≡◌, ◌≤◌, ◌<◌, ℕ, zero, suc, nat_le, true, false, true≢false, if◌then◌else◌, List, [], ◌∷◌, ◌++◌, Option, Some, None, Result, Ok, Err, refl, ap, sym, ◌∙◌, subst, append_assoc, append-nil, cond, arith}
use Rattle.std.proofs.lemmas.Bool.Decides.{nat_tests}
use Rattle.std.specs.List.{AllByRecursion}
use Rattle.amqp_frame.specs.declared.frame.Frame.{Frame}
use Rattle.amqp_frame.specs.declared.frame.Frame.TheVariants.{ProtocolHeader, Method, Raw, Heartbeat}
use Rattle.amqp_frame.specs.declared.frame.RawKind.TheVariants.{RawMethod}
use Rattle.amqp_frame.specs.declared.method.Method.{Method as AnyMethod}
use Rattle.amqp_frame.specs.declared.method.Method.TheVariants.{Start, Secure, Tune, OpenOk, Close, CloseOk, Blocked, Unblocked, UpdateSecretOk}
use Rattle.amqp_frame.specs.Methods.{is_of_a_channel}
use Rattle.amqp_outbox.specs.declared.reply.Reply.TheVariants.{SecretDone, ConnectionClosed, ChannelOpened}
use Rattle.amqp_outbox.specs.Items.{plain_item}
use Rattle.amqp_outbox.specs.Queued.{only, awaited_promise}
use Rattle.amqp_promise.specs.declared.error.ErrorKind.TheVariants.{InvalidProtocolVersion, InvalidConnectionState, AuthProviderError}
use Rattle.amqp_promise.specs.declared.state.ConnectionState.{ConnectionState}
use Rattle.amqp_promise.specs.declared.state.ConnectionState.TheVariants.{Connecting, Connected, Closing}
use Rattle.amqp_channels.specs.declared.channels.Channel.{Channel}
use Rattle.amqp_settings.specs.declared.configuration.Configuration.{Configuration}
use Rattle.amqp_rules.specs.declared.state.Phase.{Phase}
use Rattle.amqp_rules.specs.declared.state.Phase.TheVariants.{AwaitStart, AwaitTune, AwaitOpenOk}
use Rattle.amqp_auth.specs.declared.asked.Asked.{Asked}
use Rattle.amqp_auth.specs.declared.asked.Asked.TheVariants as answer
use Rattle.amqp_maps.specs.Listed.{without}
use Rattle.amqp_rules.proofs.Lacking.{lacks_link}
use Rattle.amqp_rules.specs.Talk.{Talk, acts, hears_on, is_open}
use Rattle.amqp_rules.specs.Changes.{queue, await, misplaced, close}
use Rattle.amqp_settings.specs.Negotiation.{tune}
use Rattle.amqp_rules.specs.Negotiation.{grown_capacity}
use Rattle.amqp_settings.specs.Handshake.{start_ok, secure_ok, tune_ok, open_vhost, close_ok, channel_open}
use Rattle.amqp_violations.specs.Violations.{stray_channel_frame}
use Rattle.amqp_rules.specs.ConnectionMethods.{started, on_start, challenged, on_tune, connected, reopen_each, on_open_ok, secret_taken, on_connection_close, connection_closed, connection_rule}
use Rattle.amqp_rules.specs.ChannelMethods.{remove_channel}
use Rattle.amqp_rules.specs.Frames.{method_rule, frame_rule, closed_rule, on_frame}
use Rattle.amqp_rules.proofs.Heard.{secure-case}
use Rattle.amqp_maps.proofs.Numbered.{is_itself, is_other}
use Rattle.amqp_types.proofs.Small.{if_case, if_by, all-push, at-most}
use Rattle.amqp_written_rules.proofs.Spoken.{Sayings, HasRoom, SaysAll, Spoken, Quiet, relisted, spoken-closing, OfItem, IsWithin, hears_channels, is_early}
use Rattle.amqp_written_rules.proofs.OnLinks.{Stays, stays-ended, stays-lose}
use Rattle.amqp_written_rules.proofs.OnChannels.{spoken-queue, spoken-agreed, stays-misplaced, stays-method-on, stays-raw}

-- ---- channels that were kept

-- those that were opened again, and then the others, the first of which goes
without-first : (most : ℕ) (e : ℕ × Channel) (rest before : List (ℕ × Channel)) → most < e.0 → IsWithin most before
    → without e.0 (before ++ e ∷ rest) ≡ before ++ rest
without-first most e rest [] above h = ap (λ b. cond b rest (e ∷ without e.0 rest)) (is_itself e.0 e.0 refl)
without-first most e rest (d ∷ before) above h =
    let le = h.0 in
    ap (λ b. cond b (before ++ e ∷ rest) (d ∷ without e.0 (before ++ e ∷ rest))) (is_other e.0 d.0 (λ same. omega (arith, same, le, above)))
    ∙ ap (λ es. d ∷ es) (without-first most e rest before above h.1)

module _ (k : Sayings) (fs : List Frame) where
  -- what is known of a session that opens its channels again, but of those that are still to come
  record Reopens (before : List (ℕ × Channel)) (t : Talk) : Type 0 where
    within : IsWithin t.configuration.channel_max before
    agreed : is_early t.state t.phase ≡ false
    spoken : is_open t ≡ true → Spoken k fs (record t { channels = before })
    quiet : lacks_link t.link ≡ true → Quiet k t

  spoken-reopened : (cs before : List (ℕ × Channel)) (t : Talk) → t.channels ≡ before ++ cs → Reopens before t → Stays k fs (reopen_each cs t)
  spoken-reopened [] before t is h =
      let Q : List (ℕ × Channel) → Type 0 = λ es. Stays k fs (record t { channels = es }) in
      subst Q (sym (is ∙ append-nil before)) (h.spoken, h.quiet)
  spoken-reopened (c ∷ cs) before t is h =
      if_by (λ (x : Talk). Stays k fs (reopen_each cs x)) (nat_le c.0 t.configuration.channel_max)
      (await c.0 ChannelOpened None (queue c.0 (channel_open c.0) t)) (remove_channel c.0 t)
      (λ within.
      (let le : c.0 ≤ t.configuration.channel_max = at-most c.0 t.configuration.channel_max within in
      let more : List (ℕ × Channel) = before ++ c ∷ [] in
      let all : IsWithin t.configuration.channel_max more = all-push (λ (e : ℕ × Channel). e.0 ≤ t.configuration.channel_max) before c h.within le in
      spoken-reopened cs more (await c.0 ChannelOpened None (queue c.0 (channel_open c.0) t)) (is ∙ sym (append_assoc before (c ∷ []) cs))
      (record {
        within = all;
        agreed = h.agreed;
        spoken = λ o.
            (let said = h.spoken o in
            spoken-agreed k fs (plain_item c.0 (channel_open c.0)) (record t { channels = more }) h.agreed (k.opens t.configuration c.0 said.numbers le)
            (relisted k fs (record t { channels = before }) more (λ hears. all) said));
        quiet = h.quiet;
      })))
      (λ above.
      spoken-reopened cs before (remove_channel c.0 t)
      (ap (without c.0) is ∙ without-first t.configuration.channel_max c cs before (grind (arith, nat_tests, above)) h.within)
      (record { within = h.within; agreed = h.agreed; spoken = h.spoken; quiet = h.quiet }))

early-open : (s : ConnectionState) → is_early s AwaitOpenOk ≡ false
early-open Connecting = refl
early-open _ = refl

module _ (k : Sayings) (fs : List Frame) (answers : List Asked) (given : AllByRecursion k.Answered answers) (t : Talk) (h : Stays k fs t) where
  -- ---- the handshake

  -- what was said before the numbers are agreed may be said with any
  spoken-early : (n : Configuration) → is_early t.state t.phase ≡ true → Spoken k fs t
      → SaysAll k n fs t.outbox.control t.outbox.begun t.outbox.publish
  spoken-early n early said = said.said n (λ agreed. absurd (true≢false (sym early ∙ agreed)))

  stays-started : is_early t.state t.phase ≡ true → (mechanism : List ℕ) (said : Result (List ℕ) (List ℕ)) → k.Answered (answer.Mechanism mechanism)
      → Stays k fs (started mechanism said t)
  stays-started early mechanism (Ok response) named = (
    (λ o.
        (let said = h.0 o in
        record {
          made = said.made;
          numbers = said.numbers;
          room = said.room;
          listed = said.listed;
          sized = said.sized;
          said = λ n agreed.
              (let all = spoken-early n early said in
              record {
                committed = all.committed;
                lane = all-push (OfItem k n) t.outbox.control (plain_item 0 (start_ok t.config.options mechanism response)) all.lane
                    (k.starts n t.config mechanism response said.made named);
                rest = all.rest;
                groups = all.groups;
              });
        })),
    h.1,
  )
  stays-started early mechanism (Err text) named = stays-lose k fs (AuthProviderError text) t h

  -- nothing is done by other answers than those that were asked for
  stays-start : is_early t.state t.phase ≡ true → (said : List Asked) → AllByRecursion k.Answered said → Stays k fs (on_start said t)
  stays-start early (answer.Mechanism mechanism ∷ answer.Starter said ∷ later) named = stays-started early mechanism said named.0
  stays-start early _ named = h

  stays-challenged : (said : Result (List ℕ) (List ℕ)) → Stays k fs (challenged said t)
  stays-challenged (Ok response) = ((λ o. spoken-queue k fs 0 (secure_ok response) t (λ n. k.secures n response) (h.0 o)), h.1)
  stays-challenged (Err text) = stays-lose k fs (AuthProviderError text) t h

  stays-tune : (a b d : ℕ) → k.Heard (Method 0 (Tune a b d)) → is_early t.state t.phase ≡ true → hears_channels t.state ≡ false
      → Stays k fs (on_tune (record { channel_max = a; frame_max = b; heartbeat = d }) t)
  stays-tune a b d heard early deaf =
      let agreed : Configuration = tune t.configuration (record { channel_max = a; frame_max = b; heartbeat = d }) in (
        (λ o.
            (let said = h.0 o in
            let numbers : k.Numbers agreed = k.tunes t.configuration a b d said.numbers heard in
            record {
              made = said.made;
              numbers = numbers;
              room = said.room;
              listed = λ hears. absurd (true≢false (sym hears ∙ deaf));
              sized = said.sized;
              said = λ n may.
                  (let all = spoken-early n early said in
                  let Q : Configuration → Type 0 = λ c. k.Says c (tune_ok agreed) in
                  let tuned : k.Says n (tune_ok agreed) = subst Q (sym (may (early-open t.state))) (k.agrees agreed numbers) in
                  record {
                    committed = all.committed;
                    lane = all-push (OfItem k n) (t.outbox.control ++ plain_item 0 (tune_ok agreed) ∷ []) (plain_item 0 (open_vhost t.config.uri.vhost))
                        (all-push (OfItem k n) t.outbox.control (plain_item 0 (tune_ok agreed)) all.lane tuned) (k.opens_vhost n t.config said.made);
                    rest = all.rest;
                    groups = all.groups;
                  });
            })),
        (λ w. (let quiet = h.1 w in record { made = quiet.made; numbers = k.tunes t.configuration a b d quiet.numbers heard; room = quiet.room })),
      )

  stays-open-ok : Stays k fs (on_open_ok t)
  stays-open-ok =
      let grown : HasRoom t.capacity → HasRoom (grown_capacity t) =
      λ room. (let least = room.0 in let most = room.1 in (omega (arith, least), omega (arith, most))) in
      spoken-reopened k fs t.channels [] (connected t) refl
      (record {
        within = tt;
        agreed = refl;
        spoken = λ o.
            (let said = h.0 o in
            record {
              made = said.made;
              numbers = said.numbers;
              room = grown said.room;
              listed = λ hears. tt;
              sized = said.sized;
              said = λ n may. said.said n (λ early. may refl);
            });
        quiet = λ w. (let quiet = h.1 w in record { made = quiet.made; numbers = quiet.numbers; room = grown quiet.room });
      })

  -- ---- the connection

  stays-secret : (o : Option (Option ℕ)) → Stays k fs (secret_taken o t)
  stays-secret None = stays-lose k fs (InvalidConnectionState Connected) t h
  stays-secret (Some None) = h
  stays-secret (Some (Some number)) = h

  stays-closed : (o : Option (Option ℕ)) → Stays k fs (connection_closed o t)
  stays-closed None = stays-ended k fs (close t) refl
  stays-closed (Some promise) = stays-ended k fs (connection_closed (Some promise) t) refl

  stays-server-close : (code : ℕ) (text : List ℕ) → Stays k fs (on_connection_close code text t)
  stays-server-close code text = (
    (λ o.
        spoken-closing k fs t t.channels (only (plain_item 0 close_ok))
        (λ n all. record { committed = all.committed; lane = (k.answers_close n, tt); rest = tt; groups = tt }) (h.0 o)),
    h.1,
  )

  in-early : (s : ConnectionState) (p : Phase) → t.state ≡ s → t.phase ≡ p → is_early t.state t.phase ≡ is_early s p
  in-early s p is phase = ap (λ x. is_early x t.phase) is ∙ ap (is_early s) phase

  stays-connection : (s : ConnectionState) (p : Phase) (m : AnyMethod) → t.state ≡ s → t.phase ≡ p → k.Heard (Method 0 m)
      → Stays k fs (connection_rule s p m answers t)
  stays-connection s p (Close code text class method) is phase heard = stays-server-close code text
  stays-connection s p (Blocked reason) is phase heard = h
  stays-connection s p Unblocked is phase heard = h
  stays-connection Closing p CloseOk is phase heard = stays-closed (awaited_promise 0 ConnectionClosed t.outbox)
  stays-connection Closing p m is phase heard = h
  stays-connection Connecting AwaitStart (Start a b c d e) is phase heard =
      stays-start (in-early Connecting AwaitStart is phase) answers given
  stays-connection Connecting AwaitTune (Secure challenge) is phase heard = secure-case (Stays k fs) answers t h (λ said. stays-challenged said)
  stays-connection Connecting AwaitTune (Tune a b d) is phase heard = stays-tune a b d heard (in-early Connecting AwaitTune is phase) (ap hears_channels is)
  stays-connection Connecting AwaitOpenOk OpenOk is phase heard = stays-open-ok
  stays-connection Connected p UpdateSecretOk is phase heard = stays-secret (awaited_promise 0 SecretDone t.outbox)
  stays-connection held p m is phase heard = stays-lose k fs (InvalidConnectionState held) t h

  stays-method : (n : ℕ) (m : AnyMethod) → k.Heard (Method n m) → Stays k fs (method_rule n m answers t)
  stays-method zero m heard =
      if_case (Stays k fs) (is_of_a_channel m) (misplaced (stray_channel_frame RawMethod) t) (connection_rule t.state t.phase m answers t)
      (stays-misplaced k fs 0 t h (stray_channel_frame RawMethod)) (stays-connection t.state t.phase m refl refl heard)
  stays-method (suc n) m heard = stays-method-on k fs (suc n) t h m

  stays-rule : (f : Frame) → k.Heard f → Stays k fs (frame_rule f answers t)
  stays-rule (ProtocolHeader version) heard = stays-lose k fs (InvalidProtocolVersion version) t h
  stays-rule Heartbeat heard = h
  stays-rule (Method n m) heard = stays-method n m heard
  stays-rule (Raw zero kind bytes) heard = stays-misplaced k fs 0 t h (stray_channel_frame kind)
  stays-rule (Raw (suc n) kind bytes) heard = stays-raw k fs (suc n) t h kind bytes

  stays-after-close : (f : Frame) → Stays k fs (closed_rule f t)
  stays-after-close (Method zero (Blocked reason)) = h
  stays-after-close (Method zero Unblocked) = h
  stays-after-close f = h

  -- a frame
  pub stays-frame : (f : Frame) → k.Heard f → Stays k fs (on_frame f answers t)
  stays-frame f heard =
      if_case (Stays k fs) (acts t) (frame_rule f answers t) (if hears_on t then closed_rule f t else t) (stays-rule f heard)
      (if_case (Stays k fs) (hears_on t) (closed_rule f t) t (stays-after-close f) h)

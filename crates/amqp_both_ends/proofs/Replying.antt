-- What a reply of the double queues where nothing waits: the next frames of the introduction, or nothing.
use Rattle.std.proofs.Common.{◌≡◌, ◌⊎◌, inl, inr, ◌∙◌, ap, sym, refl, subst, ℕ, zero, suc, List, [], ◌∷◌, ◌++◌, append-nil, Some, Ok}
use Rattle.amqp_frame.specs.declared.frame.Frame.{Frame}
use Rattle.amqp_frame.specs.declared.frame.Frame.TheVariants.{Method}
use Rattle.amqp_frame.specs.declared.method.Method.TheVariants.{Start, Tune, OpenOk, CloseOk, UpdateSecretOk, ChannelOpenOk, ChannelFlowOk, ChannelCloseOk}
use Rattle.amqp_outbox.specs.declared.item.Item.{Item}
use Rattle.amqp_outbox.specs.Queued.{waiting_items}
use Rattle.amqp_auth.specs.declared.asked.Asked.{Asked}
use Rattle.amqp_auth.specs.declared.asked.Asked.TheVariants as answer
use Rattle.amqp_settings.specs.declared.configuration.Configuration.{Configuration}
use Rattle.amqp_settings.specs.Config.{Options}
use Rattle.amqp_rules.specs.Talk.{Talk}
use Rattle.amqp_settings.specs.Handshake.{start_ok}
use Rattle.amqp_rules.specs.Frames.{on_frame}
use Rattle.amqp_legal.specs.Legal.{amqp_header}
use Rattle.amqp_legal.specs.Decider.{Speech, greeted, say_all}
use Rattle.amqp_legal_rules.proofs.Ties.{frames_in, first_out, IsTied}
use Rattle.amqp_legal_rules.proofs.Conversing.{Committed, committed-said}
use Rattle.amqp_faultless.specs.Faultless.{Server}
use Rattle.amqp_faultless.specs.Faultless.ServerStage.{BeforeTune, BeforeOpenOk}
use Rattle.amqp_owing.specs.Owed.{IsReply}
use Rattle.amqp_queued_rules.specs.Queues.{Queues, QueuesNothing}
use Rattle.amqp_queued_rules.specs.Queued.{start_reply, reopenings, reply_to}
use Rattle.amqp_queued_rules.proofs.Parts.{alone-control, alone-begun, alone-waiting}
use Rattle.amqp_queued_rules.proofs.Telling.{queues-its-own}
use Rattle.amqp_both_ends.proofs.Deals.{Spoken, later-of, spoken-queued}
use Rattle.amqp_both_ends.proofs.Commanding.{IsQuiet}

-- how far a reply brings the server, where the client goes on from it
abbrev pub BringsTo : Frame → Server → Type 0
BringsTo (Method zero (Start major minor properties mechanisms locales)) s = s.stage ≡ BeforeTune
BringsTo (Method zero (Tune channel_max frame_max heartbeat)) s = s.stage ≡ BeforeOpenOk
BringsTo r s = Unit {0}

-- and no channel was kept for open-ok to open again
abbrev pub ReopensNone : Frame → Talk → Type 0
ReopensNone (Method zero OpenOk) t = t.channels ≡ []
ReopensNone r t = Unit {0}

-- the reply to start is one start-ok, or nothing
start-frames : (answers : List Asked) (options : Options)
    → (start_reply answers options ≡ []) ⊎ ((mechanism response : List ℕ) × (frames_in (start_reply answers options) ≡ start_ok options mechanism response ∷ []))
start-frames (answer.Mechanism mechanism ∷ answer.Starter (Ok response) ∷ later) options = inr (mechanism, response, refl)
start-frames _ options = inl refl

module _ (numbers : Configuration) (r : Frame) (answers : List Asked) (t : Talk) (s : Server) (said : List Frame) (h : Spoken numbers said [] [] s) (quiet : IsQuiet t)
    (tied : IsTied (on_frame r answers t) (amqp_header ∷ said)) where
  abbrev after : Talk
  after = on_frame r answers t

  same-speech : (q : Speech) → say_all (Some greeted) said ≡ Some q → q ≡ h.p
  same-speech q is = let both : Some q ≡ Some h.p = sym is ∙ h.may in cc

  may-say : Queues (reply_to r answers t) [] t.outbox after.outbox → (q : Speech) × (say_all (Some h.p) (frames_in (reply_to r answers t)) ≡ Some q)
  may-say q =
      let k : Committed amqp_header said (first_out after.outbox) tied.later = committed-said (first_out after.outbox) amqp_header said tied.later tied.leads in
      let lane : first_out after.outbox ≡ reply_to r answers t =
      ap (λ (xs : List Item). xs ++ after.outbox.control) (alone-begun (reply_to r answers t) [] t.outbox after.outbox q quiet.begun)
      ∙ alone-control (reply_to r answers t) [] t.outbox after.outbox q quiet.control in (
        tied.later,
        ap (λ (p : Speech). say_all (Some p) (frames_in (reply_to r answers t))) (sym (same-speech k.now k.may))
            ∙ ap (λ (xs : List Item). say_all (Some k.now) (frames_in xs)) (sym lane) ∙ k.rest,
      )

  said-by : (items : List Item) → items ≡ [] → Spoken numbers said (frames_in items) [] s
  said-by items none = subst (λ (xs : List Item). Spoken numbers said (frames_in xs) [] s) (sym none) h

  started : (fs : List Frame) (mechanism response : List ℕ) (options : Options) (q : Speech) → fs ≡ start_ok options mechanism response ∷ [] → say_all (Some h.p) fs ≡ Some q → s.stage ≡ BeforeTune
      → Spoken numbers said fs [] s
  started fs mechanism response options q is may stage =
      let f = start_ok options mechanism response in
      subst (λ (xs : List Frame). Spoken numbers said xs [] s) (sym is)
      (spoken-queued numbers said (f ∷ []) s h (later-of (f ∷ []) h.p q s (ap (say_all (Some h.p)) (sym is) ∙ may) (stage, tt)) tt)

  each-reply : (f : Frame) → IsReply f → BringsTo f s → ReopensNone f t → (q : Speech) × (say_all (Some h.p) (frames_in (reply_to f answers t)) ≡ Some q) → Spoken numbers said (frames_in (reply_to f answers t)) [] s
  each-reply (Method zero (Start a b c d e)) is stage none k = by (start-frames answers t.config.options) where
    by : (start_reply answers t.config.options ≡ []) ⊎ ((mechanism response : List ℕ) × (frames_in (start_reply answers t.config.options) ≡ start_ok t.config.options mechanism response ∷ []))
        → Spoken numbers said (frames_in (start_reply answers t.config.options)) [] s
    by (inl nothing) = said-by (start_reply answers t.config.options) nothing
    by (inr (mechanism, response, one)) = started (frames_in (start_reply answers t.config.options)) mechanism response t.config.options k.0 one k.1 stage
  each-reply (Method zero (Tune a b c)) is stage none k =
      let fs : List Frame = frames_in (reply_to (Method zero (Tune a b c)) answers t) in
      spoken-queued numbers said fs s h (later-of fs h.p k.0 s k.1 (tt, (stage, tt))) (refl, tt)
  each-reply (Method zero OpenOk) is stage none k = said-by (reopenings t.configuration.channel_max t.channels) (ap (reopenings t.configuration.channel_max) none)
  each-reply (Method zero CloseOk) is stage none k = h
  each-reply (Method zero UpdateSecretOk) is stage none k = h
  each-reply (Method (suc n) ChannelOpenOk) is stage none k = h
  each-reply (Method (suc n) (ChannelFlowOk active)) is stage none k = h
  each-reply (Method (suc n) ChannelCloseOk) is stage none k = h
  each-reply f is stage none k = absurd is

  -- what waits then is what is still to be said
  pub replied : IsReply r → BringsTo r s → ReopensNone r t → Spoken numbers said (frames_in (waiting_items after.outbox)) [] s
  replied is stage none = by ((queues-its-own t).frame r answers) where
    by : QueuesNothing t.outbox after.outbox ⊎ Queues (reply_to r answers t) [] t.outbox after.outbox → Spoken numbers said (frames_in (waiting_items after.outbox)) [] s
    by (inl nothing) = subst (λ (xs : List Item). Spoken numbers said (frames_in xs) [] s) (sym (alone-waiting [] [] t.outbox after.outbox nothing quiet.control quiet.publish quiet.begun)) h
    by (inr q) =
        subst (λ (xs : List Item). Spoken numbers said (frames_in xs) [] s)
        (sym (alone-waiting (reply_to r answers t) [] t.outbox after.outbox q quiet.control quiet.publish quiet.begun ∙ append-nil (reply_to r answers t)))
        (each-reply r is stage none (may-say q))

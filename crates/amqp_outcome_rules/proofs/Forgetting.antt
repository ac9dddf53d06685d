-- That a reply which came is awaited no more.
use Rattle.std.proofs.Common.{◌≡◌, ◌≢◌, ◌∙◌, ap, sym, refl, subst, ℕ, suc, Bool, true, false, if◌then◌else◌, List, [], Option, Some, None, is_some}
use Rattle.std.specs.Map.{keys_of}
use Rattle.amqp_frame.specs.declared.frame.Frame.{Frame}
use Rattle.amqp_frame.specs.declared.frame.Frame.TheVariants.{Method}
use Rattle.amqp_frame.specs.declared.method.Method.{Method as AnyMethod}
use Rattle.amqp_frame.specs.declared.method.Method.TheVariants.{Close, UpdateSecretOk, ChannelOpenOk, ChannelClose, ChannelCloseOk, ChannelFlowOk}
use Rattle.amqp_outbox.specs.declared.reply.Reply.{Reply}
use Rattle.amqp_outbox.specs.declared.reply.Reply.TheVariants.{ChannelOpened, ChannelClosed, FlowDone, SecretDone}
use Rattle.amqp_outbox.specs.Queued.{Queued, awaited_promise}
use Rattle.amqp_outbox.specs.Replies.{awaited_on, left_awaited}
use Rattle.amqp_promise.specs.declared.state.ConnectionState.{ConnectionState}
use Rattle.amqp_promise.specs.declared.state.ConnectionState.TheVariants.{Connecting, Connected, Closing}
use Rattle.amqp_auth.specs.declared.asked.Asked.{Asked}
use Rattle.amqp_channels.specs.declared.channels.Channel.{Channel}
use Rattle.amqp_channels.specs.declared.channels.Debt.{Debt}
use Rattle.amqp_channels.specs.declared.channels.Debt.TheVariants as debt
use Rattle.amqp_maps.specs.Listed.{without}
use Rattle.amqp_rules.specs.Talk.{Talk, acts, hears_on}
use Rattle.amqp_rules.specs.Channels.{channel_at}
use Rattle.amqp_rules.specs.ChannelMethods.{channel_close_by, channel_closed, channel_flowed, channel_method_by, channel_opened, channel_rule, closed_by_server, crossing_close, heard_on, remove_unless_owed}
use Rattle.amqp_rules.specs.ConnectionMethods.{connection_rule, secret_taken}
use Rattle.amqp_rules.specs.Frames.{closed_rule, frame_rule, on_frame}
use Rattle.amqp_rules.specs.Sound.{Ascend, IsSound}
use Rattle.amqp_violations.specs.Violations.{channel_closed_with}
use Rattle.amqp_rules.proofs.AwaitedOn.{answered-ascend, answered-other, answered-same, gone-other, gone-same}
use Rattle.amqp_rules.proofs.Walk.{close_answered}
use Rattle.amqp_types.proofs.Small.{if-true}
use Rattle.amqp_outcome_rules.specs.Standing.{AwaitsNoneOn, AwaitsOneLess, ForgetsReplies, IsHeardOn}

-- ---- what is awaited

one-less : (n : ℕ) (r : Reply) (q q' : Queued) → Ascend (keys_of q.awaited) → q'.awaited ≡ left_awaited n r q.awaited → AwaitsOneLess n r q q'
one-less n r q q' sorted is =
    record {
      here = ap (awaited_on n) is ∙ answered-same n r q.awaited sorted;
      elsewhere = λ m other. ap (awaited_on m) is ∙ answered-other n r q.awaited m other;
    }

none-on : (n : ℕ) (q q' : Queued) → Ascend (keys_of q.awaited) → q'.awaited ≡ without n q.awaited → AwaitsNoneOn n q q'
none-on n q q' sorted is =
    record {
      here = ap (awaited_on n) is ∙ gone-same n q.awaited sorted;
      elsewhere = λ m other. ap (awaited_on m) is ∙ gone-other m n q.awaited other;
    }

-- one reply came, and then all others on the channel go
none-then : (n : ℕ) (r : Reply) (q q' : Queued) → Ascend (keys_of q.awaited) → q'.awaited ≡ without n (left_awaited n r q.awaited) → AwaitsNoneOn n q q'
none-then n r q q' sorted is =
    record {
      here = ap (awaited_on n) is ∙ gone-same n (left_awaited n r q.awaited) (answered-ascend n r q.awaited sorted);
      elsewhere = λ m other. ap (awaited_on m) is ∙ gone-other m n (left_awaited n r q.awaited) other ∙ answered-other n r q.awaited m other;
    }

-- ---- one frame

heard-listed : (s : ConnectionState) (o : Option Channel) (c : Channel) → s ≢ Connecting → o ≡ Some c → heard_on s o ≡ Some c
heard-listed Connecting o c out is = absurd (out refl)
heard-listed _ o c out is = is

module _ (t : Talk) (sorted : Ascend (keys_of t.outbox.awaited)) where
  -- where frames act, a frame goes by its rule
  acted : (f : Frame) (answers : List Asked) → acts t ≡ true → on_frame f answers t ≡ frame_rule f answers t
  acted f answers on = if-true (acts t) (frame_rule f answers t) (if hears_on t then closed_rule f t else t) on

  -- a method on a channel that is heard
  module _ (n : ℕ) (c : Channel) (heard : IsHeardOn (suc n) c t) where
    by-channel : (m : AnyMethod) → channel_method_by (heard_on t.state (channel_at (suc n) t)) (suc n) m t ≡ channel_rule t.state (suc n) c m t
    by-channel m = ap (λ (o : Option Channel). channel_method_by o (suc n) m t) (heard-listed t.state (channel_at (suc n) t) c heard.1 heard.3)

    opened-rule : (s : ConnectionState) → s ≢ Closing → channel_rule s (suc n) c ChannelOpenOk t ≡ channel_opened (suc n) c (awaited_promise (suc n) ChannelOpened t.outbox) t
    opened-rule Closing going = absurd (going refl)
    opened-rule _ going = refl

    flowed-rule : (s : ConnectionState) (active : Bool) → s ≢ Closing
        → channel_rule s (suc n) c (ChannelFlowOk active) t ≡ channel_flowed (suc n) c active (awaited_promise (suc n) FlowDone t.outbox) t
    flowed-rule Closing active going = absurd (going refl)
    flowed-rule _ active going = refl

    closed-rule : (s : ConnectionState) → s ≢ Closing → channel_rule s (suc n) c ChannelCloseOk t ≡ channel_closed (suc n) c (awaited_promise (suc n) ChannelClosed t.outbox) t
    closed-rule Closing going = absurd (going refl)
    closed-rule _ going = refl

    server-rule : (s : ConnectionState) (code : ℕ) (text : List ℕ) (class method : ℕ) → s ≢ Closing
        → channel_rule s (suc n) c (ChannelClose code text class method) t ≡ channel_close_by c.debt (suc n) (channel_closed_with code text) c t
    server-rule Closing code text class method going = absurd (going refl)
    server-rule _ code text class method going = refl

    less-opened : (o : Option (Option ℕ)) → is_some o ≡ true → AwaitsOneLess (suc n) ChannelOpened t.outbox (channel_opened (suc n) c o t).outbox
    less-opened None some = absurd cc
    less-opened (Some promise) some = one-less (suc n) ChannelOpened t.outbox (channel_opened (suc n) c (Some promise) t).outbox sorted refl

    less-flowed : (active : Bool) (o : Option (Option ℕ)) → is_some o ≡ true → AwaitsOneLess (suc n) FlowDone t.outbox (channel_flowed (suc n) c active o t).outbox
    less-flowed active None some = absurd cc
    less-flowed active (Some promise) some = one-less (suc n) FlowDone t.outbox (channel_flowed (suc n) c active (Some promise) t).outbox sorted refl

    removed-awaits : (d : Debt) (u : Talk) → (remove_unless_owed d (suc n) c u).outbox ≡ u.outbox
    removed-awaits debt.Owed u = refl
    removed-awaits _ u = refl

    none-closed : (o : Option (Option ℕ)) → is_some o ≡ true → AwaitsNoneOn (suc n) t.outbox (channel_closed (suc n) c o t).outbox
    none-closed None some = absurd cc
    none-closed (Some promise) some =
        none-then (suc n) ChannelClosed t.outbox (channel_closed (suc n) c (Some promise) t).outbox sorted
        (ap (λ (q : Queued). q.awaited) (removed-awaits c.debt (close_answered (suc n) promise t)))

    came-opened : (answers : List Asked) → is_some (awaited_promise (suc n) ChannelOpened t.outbox) ≡ true
        → AwaitsOneLess (suc n) ChannelOpened t.outbox (on_frame (Method (suc n) ChannelOpenOk) answers t).outbox
    came-opened answers some =
        subst (λ (x : Talk). AwaitsOneLess (suc n) ChannelOpened t.outbox x.outbox)
        (sym (acted (Method (suc n) ChannelOpenOk) answers heard.0 ∙ by-channel ChannelOpenOk ∙ opened-rule t.state heard.2))
        (less-opened (awaited_promise (suc n) ChannelOpened t.outbox) some)

    came-flowed : (active : Bool) (answers : List Asked) → is_some (awaited_promise (suc n) FlowDone t.outbox) ≡ true
        → AwaitsOneLess (suc n) FlowDone t.outbox (on_frame (Method (suc n) (ChannelFlowOk active)) answers t).outbox
    came-flowed active answers some =
        subst (λ (x : Talk). AwaitsOneLess (suc n) FlowDone t.outbox x.outbox)
        (sym (acted (Method (suc n) (ChannelFlowOk active)) answers heard.0 ∙ by-channel (ChannelFlowOk active) ∙ flowed-rule t.state active heard.2))
        (less-flowed active (awaited_promise (suc n) FlowDone t.outbox) some)

    came-closed : (answers : List Asked) → is_some (awaited_promise (suc n) ChannelClosed t.outbox) ≡ true
        → AwaitsNoneOn (suc n) t.outbox (on_frame (Method (suc n) ChannelCloseOk) answers t).outbox
    came-closed answers some =
        subst (λ (x : Talk). AwaitsNoneOn (suc n) t.outbox x.outbox)
        (sym (acted (Method (suc n) ChannelCloseOk) answers heard.0 ∙ by-channel ChannelCloseOk ∙ closed-rule t.state heard.2))
        (none-closed (awaited_promise (suc n) ChannelClosed t.outbox) some)

    came-server : (code : ℕ) (text : List ℕ) (class method : ℕ) (answers : List Asked) → c.debt ≡ debt.Nothing → c.awaits_close_ok ≡ false
        → AwaitsNoneOn (suc n) t.outbox (on_frame (Method (suc n) (ChannelClose code text class method)) answers t).outbox
    came-server code text class method answers free kept =
        let e = channel_closed_with code text in
        subst (λ (x : Talk). AwaitsNoneOn (suc n) t.outbox x.outbox)
        (sym (acted (Method (suc n) (ChannelClose code text class method)) answers heard.0
        ∙ by-channel (ChannelClose code text class method) ∙ server-rule t.state code text class method heard.2
        ∙ ap (λ (d : Debt). channel_close_by d (suc n) e c t) free
        ∙ ap (λ (b : Bool). if b then crossing_close (suc n) e c t else closed_by_server (suc n) e c t) kept))
        (none-on (suc n) t.outbox (closed_by_server (suc n) e c t).outbox sorted refl)

  less-secret : (o : Option (Option ℕ)) → is_some o ≡ true → AwaitsOneLess 0 SecretDone t.outbox (secret_taken o t).outbox
  less-secret None some = absurd cc
  less-secret (Some None) some = one-less 0 SecretDone t.outbox (secret_taken (Some None) t).outbox sorted refl
  less-secret (Some (Some number)) some = one-less 0 SecretDone t.outbox (secret_taken (Some (Some number)) t).outbox sorted refl

  came-secret : (answers : List Asked) → acts t ≡ true → t.state ≡ Connected → is_some (awaited_promise 0 SecretDone t.outbox) ≡ true
      → AwaitsOneLess 0 SecretDone t.outbox (on_frame (Method 0 UpdateSecretOk) answers t).outbox
  came-secret answers on held some =
      subst (λ (x : Talk). AwaitsOneLess 0 SecretDone t.outbox x.outbox)
      (sym (acted (Method 0 UpdateSecretOk) answers on ∙ ap (λ (s : ConnectionState). connection_rule s t.phase UpdateSecretOk answers t) held))
      (less-secret (awaited_promise 0 SecretDone t.outbox) some)

  came-end : (code : ℕ) (text : List ℕ) (class method : ℕ) (answers : List Asked) → acts t ≡ true
      → (on_frame (Method 0 (Close code text class method)) answers t).outbox.awaited ≡ []
  came-end code text class method answers on = ap (λ (x : Talk). x.outbox.awaited) (acted (Method 0 (Close code text class method)) answers on)

pub forgets-replies : (t : Talk) → IsSound t → ForgetsReplies t
forgets-replies t sound =
    let sorted : Ascend (keys_of t.outbox.awaited) = sound.channels.ascend in
    record {
      opened = λ n c answers heard some. came-opened t sorted n c heard answers some;
      flowed = λ n c active answers heard some. came-flowed t sorted n c heard active answers some;
      closed = λ n c answers heard some. came-closed t sorted n c heard answers some;
      closed_by_server = λ n c code text class method answers heard free kept. came-server t sorted n c heard code text class method answers free kept;
      renewed = λ answers on held some. came-secret t sorted answers on held some;
      ended = λ code text class method answers on. came-end t sorted code text class method answers on;
    }

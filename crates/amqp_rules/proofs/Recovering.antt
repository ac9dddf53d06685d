-- Where a link is lost: the session goes on without it, or ends.
use Rattle.std.proofs.Common.{◌≡◌, ℕ, Bool, true, false, ◌&&◌, nat_le, if◌then◌else◌, List, [], ◌∷◌, Option, Some, None, Result, refl, ap, ◌∙◌}
use Rattle.std.specs.Map.{keys_of}
use Rattle.amqp_outbox.specs.Queued.{Queued}
use Rattle.amqp_channels.specs.declared.channels.Channel.{Channel}
use Rattle.amqp_answers.specs.declared.answer.Answer.{Answer}
use Rattle.amqp_promise.specs.declared.error.ErrorKind.{ErrorKind}
use Rattle.amqp_rules.specs.Talk.{Talk, is_open}
use Rattle.amqp_promise.specs.Kinds.{can_be_recovered}
use Rattle.amqp_rules.specs.Recovery.{next_delay, was_up, recovery_delay, reconnect}
use Rattle.amqp_answers.specs.Settled.{rejected_all}
use Rattle.amqp_rules.specs.Changes.{fail, lose_by, lose}
use Rattle.amqp_rules.specs.ConnectionMethods.{reopen, reopen_each}
use Rattle.amqp_types.proofs.Small.{if_case}

-- by whether the session recovers
pub lose-by : (P : Talk → Type 0) (e : ErrorKind) (t : Talk) → ((delay : ℕ) → recovery_delay e t ≡ Some delay → P (reconnect e delay t))
    → (recovery_delay e t ≡ None → P (fail e t)) → P (lose e t)
lose-by P e t going over = by (recovery_delay e t) refl where
  by : (o : Option ℕ) → recovery_delay e t ≡ o → P (lose_by o e t)
  by (Some delay) is = going delay is
  by None is = over is

-- the same, where it does not matter why
pub lose-case : (P : Talk → Type 0) (e : ErrorKind) (t : Talk) → ((delay : ℕ) → P (reconnect e delay t)) → P (fail e t) → P (lose e t)
lose-case P e t going over = lose-by P e t (λ delay is. going delay) (λ is. over)

-- what neither looks at stays
pub lose-keeps : {A : Type 0} (f : Talk → A) (e : ErrorKind) (t : Talk) → ((delay : ℕ) → f (reconnect e delay t) ≡ f t) → f (fail e t) ≡ f t → f (lose e t) ≡ f t
lose-keeps f e t going over = lose-case (λ (x : Talk). f x ≡ f t) e t going over

-- a session recovers only where a link is open
pub recovers-open : (e : ErrorKind) (t : Talk) (delay : ℕ) → recovery_delay e t ≡ Some delay → is_open t ≡ true
recovers-open e t delay is = by (can_be_recovered e) t.config.options.recover (is_open t) refl is where
  by : (c r o : Bool) → is_open t ≡ o → (if c then (if r && (o && was_up t.state t.input) then next_delay t else None) else None) ≡ Some delay
      → is_open t ≡ true
  by true true true same h = same
  by true true false same h = cc
  by true false o same h = cc
  by false r o same h = cc

-- what looks neither at what waits nor at the channels stays, once channels were opened again
pub reopened-keeps : {A : Type 0} (f : Talk → A) → ((t : Talk) (q : Queued) (cs : List (ℕ × Channel)) → f (record t { outbox = q; channels = cs }) ≡ f t)
    → (cs : List (ℕ × Channel)) (t : Talk) → f (reopen_each cs t) ≡ f t
reopened-keeps f h [] t = refl
reopened-keeps f h (c ∷ cs) t =
    reopened-keeps f h cs (reopen c.0 t)
    ∙ if_case (λ (x : Talk). f x ≡ f t) (nat_le c.0 t.configuration.channel_max) _ _ (h t _ t.channels) (h t t.outbox _)

-- the promises keep their numbers
pub rejected_all-keys : (e : ErrorKind) (promises : List (ℕ × Option (Result Answer ErrorKind))) → keys_of (rejected_all e promises) ≡ keys_of promises
rejected_all-keys e [] = refl
rejected_all-keys e (p ∷ promises) = ap (λ ns. p.0 ∷ ns) (rejected_all-keys e promises)

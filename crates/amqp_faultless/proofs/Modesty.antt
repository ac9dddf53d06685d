-- What a session says is no longer than the capacity: at its beginning, once bytes were taken, and where a link or a piece comes.
use Rattle.std.proofs.Common.{◌≤◌, ℕ, ◌-◌, ◌==◌, ◌&&◌, not, nat_le, max, if◌then◌else◌, Bool, true, false, List, [], ◌∷◌, length, drop, Option, Some, None, refl, arith}
use Rattle.amqp_promise.specs.declared.error.ErrorKind.TheVariants.{ProtocolError}
use Rattle.amqp_channels.specs.declared.channels.Channel.{Channel}
use Rattle.amqp_outgoing.specs.declared.committed.Mark.{Mark}
use Rattle.amqp_outgoing.specs.declared.committed.Then.{Then}
use Rattle.amqp_outgoing.specs.declared.committed.Then.TheVariants.{Nothing, Answer, Pays, Finish}
use Rattle.amqp_violations.specs.declared.server_close.ServerClose.{ServerClose}
use Rattle.amqp_violations.specs.declared.server_close.ServerClose.TheVariants.{WithError, WithoutError}
use Rattle.amqp_settings.specs.Config.{Config, Options}
use Rattle.amqp_rules.specs.Talk.{Talk, start, is_open, is_asked, has_ended}
use Rattle.amqp_rules.specs.Channels.{channel_at}
use Rattle.amqp_rules.specs.Changes.{present_at, finish_by}
use Rattle.amqp_rules.specs.Links.{linked, piece}
use Rattle.amqp_rules.specs.Writing.{pay, follow, sent, sent_among, taken}
use Rattle.amqp_types.proofs.Small.{if_case}
use Rattle.amqp_faultless.proofs.Modest.{Modest, says-lose}
use Rattle.amqp_rules.proofs.Walk.{pay-case}

-- a session at its beginning
pub modest-start : (config : Config) → length config.uri.vhost ≤ 255 → Modest config.options (start config)
modest-start config le = (refl, le, omega arith, tt)

module _ (options : Options) where
  abbrev M : Talk → Type 0
  M t = Modest options t

  -- ---- what is sent

  modest-finish : (o : Option ServerClose) (t : Talk) → M t → M (finish_by o t)
  modest-finish None t h = h
  modest-finish (Some WithoutError) t h = h
  modest-finish (Some (WithError e)) t h = says-lose options (ProtocolError e) t h

  modest-pay : (o : Option Channel) (n : ℕ) (t : Talk) → M t → M (pay o n t)
  modest-pay o n t h = pay-case M o n t (λ is. h) (λ c is unowed. h) (λ c is owes awaits. h) (λ c is owes left. h)

  modest-follow : (th : Then) (t : Talk) → M t → M (follow th t)
  modest-follow Nothing t h = h
  modest-follow (Answer number) t h = h
  modest-follow (Pays n) t h = modest-pay (channel_at n t) n t h
  modest-follow Finish t h = modest-finish t.server_close t h

  modest-among : (ms : List Mark) (n : ℕ) (t : Talk) → M t → M (sent_among ms n t)
  modest-among [] n t h = h
  modest-among (m ∷ ms) n t h =
      if_case M (is_open t) (if nat_le m.left n then sent_among ms (n - m.left) (sent m t) else record t { committed = record m { left = m.left - n } ∷ ms }) t
      (if_case M (nat_le m.left n) (sent_among ms (n - m.left) (sent m t)) (record t { committed = record m { left = m.left - n } ∷ ms })
      (modest-among ms (n - m.left) (sent m t) (modest-follow m.then (record t { committed = drop 1 t.committed }) h)) h) h

  pub modest-taken : (n : ℕ) (t : Talk) → M t → M (taken n t)
  modest-taken n t h =
      if_case M (is_open t && not (n == 0)) (sent_among t.committed n (record t { last_write = t.present })) t
      (modest-among t.committed n (record t { last_write = t.present }) h) h

  -- a moment
  pub modest-present : (at : ℕ) (t : Talk) → Modest options t → Modest options (present_at at t)
  modest-present at t h = if_case M (has_ended t) t (record t { present = max t.present at }) h h

  -- ---- steps

  -- a link
  pub modest-linked : (t : Talk) → Modest options t → Modest options (linked t)
  modest-linked t h =
      let large = h.2 in
      if_case M (is_asked t) _ t (h.0, h.1, h.2, (omega (arith, large), tt)) h

  -- a piece
  pub modest-piece : (t : Talk) → Modest options t → Modest options (piece t)
  modest-piece t h = if_case M (is_open t) (record t { last_read = t.present }) t h h

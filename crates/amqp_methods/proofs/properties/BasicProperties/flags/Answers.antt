use Rattle.std.proofs.Common.{◌≡◌, ℕ, ◌+◌, ◌*◌, Bool, cond, List, [], ◌∷◌, Option, Some, None, option_map, is_some, refl, ap, ◌∙◌}
use Rattle.amqp_methods.specs.Said.{bits}
use Rattle.amqp_methods.proofs.properties.BasicProperties.flags.Goals as goal

some_seen : {A B : Type 0} (f : A → B) (o : Option A) → is_some o ≡ is_some (option_map f o)
some_seen f (Some x) = refl
some_seen f None = refl

-- one flag more, before those of higher bits
more :
    (is_set is_there : Bool) (before after : ℕ) (bs : List Bool) → is_set ≡ is_there → before ≡ bits bs →
    after ≡ cond is_set 1 0 + 2 * before → after ≡ bits (is_there ∷ bs)
more is_set is_there before after bs same below is =
    is ∙ ap (λ (b : Bool). cond b 1 0 + 2 * before) same ∙ ap (λ (n : ℕ). cond is_there 1 0 + 2 * n) below

pub returns : goal.returns
returns c =
    let s = c.args.self.now in
    let b0 : List Bool = is_some (option_map (λ x. x.now) s.content_type) ∷ [] in
    let e0 : c.flag-content_type.result ≡ bits b0 = more _ _ _ _ [] (c.is_some-has_content_type.ensures ∙ some_seen (λ x. x.now) s.content_type) refl c.flag-content_type.ensures.is in
    let b1 : List Bool = is_some (option_map (λ x. x.now) s.content_encoding) ∷ b0 in
    let e1 : c.flag-content_encoding.result ≡ bits b1 = more _ _ _ _ b0 (c.is_some-has_content_encoding.ensures ∙ some_seen (λ x. x.now) s.content_encoding) e0 c.flag-content_encoding.ensures.is in
    let b2 : List Bool = is_some (option_map (λ x. x.now) s.headers) ∷ b1 in
    let e2 : c.flag-headers.result ≡ bits b2 = more _ _ _ _ b1 (c.is_some-has_headers.ensures ∙ some_seen (λ x. x.now) s.headers) e1 c.flag-headers.ensures.is in
    let b3 : List Bool = is_some s.delivery_mode ∷ b2 in
    let e3 : c.flag-delivery_mode.result ≡ bits b3 = more _ _ _ _ b2 c.is_some-has_delivery_mode.ensures e2 c.flag-delivery_mode.ensures.is in
    let b4 : List Bool = is_some s.priority ∷ b3 in
    let e4 : c.flag-priority.result ≡ bits b4 = more _ _ _ _ b3 c.is_some-has_priority.ensures e3 c.flag-priority.ensures.is in
    let b5 : List Bool = is_some (option_map (λ x. x.now) s.correlation_id) ∷ b4 in
    let e5 : c.flag-correlation_id.result ≡ bits b5 = more _ _ _ _ b4 (c.is_some-has_correlation_id.ensures ∙ some_seen (λ x. x.now) s.correlation_id) e4 c.flag-correlation_id.ensures.is in
    let b6 : List Bool = is_some (option_map (λ x. x.now) s.reply_to) ∷ b5 in
    let e6 : c.flag-reply_to.result ≡ bits b6 = more _ _ _ _ b5 (c.is_some-has_reply_to.ensures ∙ some_seen (λ x. x.now) s.reply_to) e5 c.flag-reply_to.ensures.is in
    let b7 : List Bool = is_some (option_map (λ x. x.now) s.expiration) ∷ b6 in
    let e7 : c.flag-expiration.result ≡ bits b7 = more _ _ _ _ b6 (c.is_some-has_expiration.ensures ∙ some_seen (λ x. x.now) s.expiration) e6 c.flag-expiration.ensures.is in
    let b8 : List Bool = is_some (option_map (λ x. x.now) s.message_id) ∷ b7 in
    let e8 : c.flag-message_id.result ≡ bits b8 = more _ _ _ _ b7 (c.is_some-has_message_id.ensures ∙ some_seen (λ x. x.now) s.message_id) e7 c.flag-message_id.ensures.is in
    let b9 : List Bool = is_some s.timestamp ∷ b8 in
    let e9 : c.flag-timestamp.result ≡ bits b9 = more _ _ _ _ b8 c.is_some-has_timestamp.ensures e8 c.flag-timestamp.ensures.is in
    let b10 : List Bool = is_some (option_map (λ x. x.now) s.kind) ∷ b9 in
    let e10 : c.flag-kind.result ≡ bits b10 = more _ _ _ _ b9 (c.is_some-has_kind.ensures ∙ some_seen (λ x. x.now) s.kind) e9 c.flag-kind.ensures.is in
    let b11 : List Bool = is_some (option_map (λ x. x.now) s.user_id) ∷ b10 in
    let e11 : c.flag-user_id.result ≡ bits b11 = more _ _ _ _ b10 (c.is_some-has_user_id.ensures ∙ some_seen (λ x. x.now) s.user_id) e10 c.flag-user_id.ensures.is in
    let b12 : List Bool = is_some (option_map (λ x. x.now) s.app_id) ∷ b11 in
    let e12 : c.flag-app_id.result ≡ bits b12 = more _ _ _ _ b11 (c.is_some-has_app_id.ensures ∙ some_seen (λ x. x.now) s.app_id) e11 c.flag-app_id.ensures.is in
    let b13 : List Bool = is_some (option_map (λ x. x.now) s.cluster_id) ∷ b12 in
    let e13 : c.flag-cluster_id.result ≡ bits b13 = more _ _ _ _ b12 (c.is_some-has_cluster_id.ensures ∙ some_seen (λ x. x.now) s.cluster_id) e12 c.flag-cluster_id.ensures.is in
    ap (λ (n : ℕ). 4 * n) e13

-- No frame that is heard has one queued that is longer than the capacity, where what the provider answers can be said.
use Rattle.std.proofs.Common.{◌≡◌, ◌≤◌, ℕ, List, [], ◌∷◌, ◌++◌, length, length-append, Ok, Err, sym, subst, arith}
use Rattle.amqp_frame.specs.declared.frame.Frame.{Frame}
use Rattle.amqp_frame.specs.Frames.{encoding}
use Rattle.amqp_outbox.specs.Items.{plain_item}
use Rattle.amqp_outbox.specs.Queued.{Queued, waiting_items}
use Rattle.amqp_channels.specs.declared.channels.Channel.{Channel}
use Rattle.amqp_settings.specs.declared.configuration.Configuration.{Configuration}
use Rattle.amqp_promise.specs.declared.error.ErrorKind.{ErrorKind}
use Rattle.amqp_promise.specs.declared.error.ErrorKind.TheVariants.{AuthProviderError}
use Rattle.amqp_auth.specs.declared.asked.Asked.{Asked as ProviderAnswer}
use Rattle.amqp_auth.specs.declared.asked.Asked.TheVariants as answer
use Rattle.amqp_settings.specs.Config.{Config, Options}
use Rattle.amqp_rules.specs.Talk.{Talk}
use Rattle.amqp_rules.specs.Changes.{queue, lose, without_all_on}
use Rattle.amqp_settings.specs.Handshake.{start_ok, secure_ok, tune_ok, open_vhost, channel_open, flow_ok, channel_close_ok}
use Rattle.amqp_rules.specs.ConnectionMethods.{connected, on_start, on_secure, on_tune}
use Rattle.amqp_rules.specs.ChannelMethods.{closed_by_server}
use Rattle.amqp_rules.specs.Frames.{on_frame}
use Rattle.amqp_settings.specs.Negotiation.{tune}
use Rattle.amqp_rules.specs.Negotiation.{grown_capacity}
use Rattle.amqp_faultless.specs.Faultless.{AreSayable}
use Rattle.amqp_rules.proofs.Recovering.{lose-case}
use Rattle.amqp_rules.proofs.Walk.{ChannelRows, ConnectionRows, frame-keeps}
use Rattle.amqp_faultless.proofs.Fitting.{Fit, fit-more, fit-control, fit-channel}

-- ---- how long what is said of itself is

vhost-short : (vhost : List ℕ) → length vhost ≤ 255 → length (encoding (open_vhost vhost)) ≤ 131072
vhost-short vhost le = omega (arith, le, length-append vhost (0 ∷ 0 ∷ []), length-append (vhost ++ 0 ∷ 0 ∷ []) (206 ∷ []))

-- ---- a session that says nothing too long

-- the answers of the provider go by these options, the name of the host is a short string, and no frame that waits is longer
-- than the capacity, which is no less than so many octets
abbrev pub Says : Options → Config → ℕ → Queued → Type 0
Says options config capacity q =
    (config.options ≡ options) × (length config.uri.vhost ≤ 255) × (131072 ≤ capacity) × Fit capacity (waiting_items q)

abbrev pub Modest : Options → Talk → Type 0
Modest options t = Says options t.config t.capacity t.outbox

module _ (options : Options) where
  abbrev M : Talk → Type 0
  M t = Modest options t

  pub says-queue : (n : ℕ) (f : Frame) (t : Talk) → length (encoding f) ≤ 131072 → M t → M (queue n f t)
  says-queue n f t le h = let large = h.2 in (h.0, h.1, h.2, fit-control t.capacity t.outbox h.3 (plain_item n f) (omega (arith, le, large)))

  pub says-lose : (e : ErrorKind) (t : Talk) → M t → M (lose e t)
  says-lose e t h = lose-case M e t (λ delay. (h.0, h.1, h.2, tt)) h

  -- ---- frames

  says-start : (answers : List ProviderAnswer) (t : Talk) → AreSayable options answers → M t → M (on_start answers t)
  says-start (answer.Mechanism name ∷ answer.Starter (Ok text) ∷ rest) t k h =
      let P : Options → Type 0 = λ o. length (encoding (start_ok o name text)) ≤ 131072 in
      says-queue 0 (start_ok t.config.options name text) t (subst P (sym h.0) k.0) h
  says-start (answer.Mechanism name ∷ answer.Starter (Err text) ∷ rest) t k h = says-lose (AuthProviderError text) t h
  says-start _ t k h = h

  says-secure : (answers : List ProviderAnswer) (t : Talk) → AreSayable options answers → M t → M (on_secure answers t)
  says-secure (answer.Challenge (Ok text) ∷ rest) t k h = says-queue 0 (secure_ok text) t k.0 h
  says-secure (answer.Challenge (Err text) ∷ rest) t k h = says-lose (AuthProviderError text) t h
  says-secure _ t k h = h

  says-tune : (server : Configuration) (t : Talk) → M t → M (on_tune server t)
  says-tune server t h =
      let agreed = tune t.configuration server in
      says-queue 0 (open_vhost t.config.uri.vhost) (queue 0 (tune_ok agreed) t) (vhost-short t.config.uri.vhost h.1)
      (says-queue 0 (tune_ok agreed) t (omega arith) h)

  says-connected : (t : Talk) → M t → M (connected t)
  says-connected t h =
      let grows : t.capacity ≤ grown_capacity t = omega arith in
      let large = h.2 in
      (h.0, h.1, omega (arith, large, grows), fit-more t.capacity (grown_capacity t) (waiting_items t.outbox) grows h.3)

  says-server-closed : (n : ℕ) (e : ErrorKind) (c : Channel) (t : Talk) → M t → M (closed_by_server n e c t)
  says-server-closed n e c t h =
      let large = h.2 in (
        h.0,
        h.1,
        h.2,
        fit-control t.capacity (without_all_on n t.outbox) (fit-channel t.capacity t.outbox h.3 n) (plain_item n (channel_close_ok n)) (omega (arith, large)),
      )

  on-channels : ChannelRows M
  on-channels = record {
    lost = says-lose;
    opened = λ n c promise t is h. h;
    closed = λ n promise t is h. h;
    answered = λ n c t h. h;
    removed = λ n t h. h;
    flow = λ n c active t h. says-queue n (flow_ok n active) t (omega arith) h;
    flowed = λ n c active promise t is h. h;
    server_closed = says-server-closed;
    crossed = λ n e c t h. says-queue n (channel_close_ok n) t (omega arith) h;
  }

  on-connection : (answers : List ProviderAnswer) → AreSayable options answers → ConnectionRows M answers
  on-connection answers k = record {
    starts = λ t on h. says-start answers t k h;
    secures = λ t h. says-secure answers t k h;
    tunes = says-tune;
    connects = λ t on phase h. says-connected t h;
    reopens = λ n t h. says-queue n (channel_open n) t (omega arith) h;
    blocks = λ reason t h. h;
    unblocks = λ t h. h;
    refreshes = λ t is h. h;
    renews = λ number t is h. h;
    server_closes = λ code text t h. (let large = h.2 in (h.0, h.1, h.2, (omega (arith, large), tt)));
    closes = λ t h. h;
    answers_close = λ promise t h. h;
  }

  -- a frame that is read leaves it so
  pub modest-frame : (f : Frame) (answers : List ProviderAnswer) (t : Talk) → AreSayable options answers → Modest options t → Modest options (on_frame f answers t)
  modest-frame f answers t k h =
      frame-keeps M answers on-channels (on-connection answers k) (record { confirms = λ n c t h. h; hands = λ opened x t h. h }) f t h

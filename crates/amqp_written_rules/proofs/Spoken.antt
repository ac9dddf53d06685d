-- What is asked of each frame that a rule queues, by the numbers of the connection, and a session all of whose frames
-- have it.
use Rattle.std.proofs.Common.{◌≡◌, ◌≤◌, ℕ, ◌-◌, min, Bool, true, false, true≢false, List, length, refl, sym}
use Rattle.std.specs.Prelude.{codes}
use Rattle.std.specs.List.{AllByRecursion}
use Rattle.amqp_frame.specs.declared.frame.Frame.{Frame}
use Rattle.amqp_frame.specs.declared.frame.Frame.TheVariants.{Method, Heartbeat}
use Rattle.amqp_frame.specs.declared.method.Method.TheVariants.{Tune}
use Rattle.amqp_frame.specs.RawMethods.{OtherMethod}
use Rattle.amqp_frame.specs.Frames.{encoding}
use Rattle.amqp_auth.specs.declared.asked.Asked.{Asked}
use Rattle.amqp_auth.specs.declared.asked.Asked.TheVariants as answer
use Rattle.amqp_outbox.specs.declared.item.Item.{Item}
use Rattle.amqp_outbox.specs.Queued.{Queued}
use Rattle.amqp_promise.specs.declared.state.ConnectionState.{ConnectionState}
use Rattle.amqp_promise.specs.declared.state.ConnectionState.TheVariants.{Connecting, Closing}
use Rattle.amqp_channels.specs.declared.channels.Channel.{Channel}
use Rattle.amqp_commands.specs.declared.command.ChanRef.{ChanRef}
use Rattle.amqp_commands.specs.declared.command.Cmd.{Cmd}
use Rattle.amqp_commands.specs.declared.command.Cmd.TheVariants.{CloseChannel, CloseConnection, UpdateSecret, Send, Publish}
use Rattle.amqp_settings.specs.declared.configuration.Configuration.{Configuration}
use Rattle.amqp_rules.specs.declared.state.Phase.{Phase}
use Rattle.amqp_rules.specs.declared.state.Phase.TheVariants.{AwaitStart, AwaitTune}
use Rattle.amqp_settings.specs.Config.{Config, own_numbers}
use Rattle.amqp_settings.specs.Capacities.{greatest_capacity}
use Rattle.amqp_rules.specs.Talk.{Talk, is_open}
use Rattle.amqp_settings.specs.Negotiation.{tune, wish_or}
use Rattle.amqp_settings.specs.Handshake.{protocol_header, start_ok, secure_ok, tune_ok, open_vhost, our_close, close_ok, new_secret, channel_open, channel_flow, flow_ok, channel_close_ok, our_channel_close, refresh_reason}
use Rattle.amqp_commands.specs.Publishing.{method_frame, publish_frames}
use Rattle.amqp_rules.proofs.Lacking.{lacks_link}

-- ---- what is asked

-- a frame may be said while the connection has these numbers: each that a rule queues may, by what is known of what the
-- session is made from, of what it hears, of what a provider answers, and of what it is told
pub record Sayings : Type 1 where
  pub Numbers : Configuration → Type 0
  pub Makes : Config → Type 0
  pub Heard : Frame → Type 0
  pub Answered : Asked → Type 0
  pub Told : Cmd → Type 0
  pub Says : Configuration → Frame → Type 0
  pub own : (c : Config) → Makes c → Numbers (own_numbers c.uri.query)
  pub tunes : (own : Configuration) (a b d : ℕ) → Numbers own → Heard (Method 0 (Tune a b d))
      → Numbers (tune own (record { channel_max = a; frame_max = b; heartbeat = d }))
  pub header : (n : Configuration) → Says n protocol_header
  pub starts : (n : Configuration) (c : Config) (mechanism response : List ℕ) → Makes c → Answered (answer.Mechanism mechanism)
      → Says n (start_ok c.options mechanism response)
  pub secures : (n : Configuration) (response : List ℕ) → Says n (secure_ok response)
  pub agrees : (n : Configuration) → Numbers n → Says n (tune_ok n)
  pub opens_vhost : (n : Configuration) (c : Config) → Makes c → Says n (open_vhost c.uri.vhost)
  pub answers_close : (n : Configuration) → Says n close_ok
  pub beats : (n : Configuration) → Says n Heartbeat
  pub refreshes : (n : Configuration) (secret : List ℕ) → Says n (new_secret secret refresh_reason)
  pub tells_secret : (n : Configuration) (secret reason : List ℕ) → Told (UpdateSecret secret reason) → Says n (new_secret secret reason)
  pub closes : (n : Configuration) (code : ℕ) (text : List ℕ) → Told (CloseConnection code text) → Says n (our_close code text)
  pub drops : (n : Configuration) → Says n (our_close 200 (codes "OK"))
  -- on a channel
  pub opens : (n : Configuration) (m : ℕ) → Numbers n → m ≤ n.channel_max → Says n (channel_open m)
  pub answers_flow : (n : Configuration) (m : ℕ) (active : Bool) → Numbers n → m ≤ n.channel_max → Says n (flow_ok m active)
  pub flows : (n : Configuration) (m : ℕ) (active : Bool) → Numbers n → m ≤ n.channel_max → Says n (channel_flow m active)
  pub answers_channel_close : (n : Configuration) (m : ℕ) → Numbers n → m ≤ n.channel_max → Says n (channel_close_ok m)
  pub closes_channel : (n : Configuration) (m code : ℕ) (text : List ℕ) (r : ChanRef) → Numbers n → m ≤ n.channel_max
      → Told (CloseChannel r code text) → Says n (our_channel_close m code text)
  pub drops_channel : (n : Configuration) (m : ℕ) → Numbers n → m ≤ n.channel_max → Says n (our_channel_close m 200 (codes "OK"))
  pub sends : (n : Configuration) (m : ℕ) (r : ChanRef) (method : OtherMethod) → Numbers n → m ≤ n.channel_max
      → Told (Send r method) → Says n (method_frame m method)
  pub publishes : (n : Configuration) (m capacity : ℕ) (r : ChanRef) (method : OtherMethod) (properties body : List ℕ) → Numbers n
      → m ≤ n.channel_max → Told (Publish r method properties body)
      → AllByRecursion (Says n) (publish_frames m method properties body (min capacity (wish_or capacity n.frame_max) - 8))

-- ---- a session that says nothing else

-- before the numbers are agreed
abbrev pub is_early : ConnectionState → Phase → Bool
is_early Connecting AwaitStart = true
is_early Connecting AwaitTune = true
is_early _ _ = false

-- frames of channels act, which are listed up to the greatest that was agreed
abbrev pub hears_channels : ConnectionState → Bool
hears_channels Connecting = false
hears_channels Closing = false
hears_channels _ = true

-- no listed channel has a greater number
abbrev pub IsWithin : ℕ → List (ℕ × Channel) → Type 0
IsWithin most channels = AllByRecursion (λ (e : ℕ × Channel). e.0 ≤ most) channels

-- the frames were committed, so none is longer than the greatest capacity
abbrev pub IsSized : Frame → Type 0
IsSized f = length (encoding f) ≤ greatest_capacity

-- the header will fit, and no frame that fits is longer than the greatest capacity
abbrev pub HasRoom : ℕ → Type 0
HasRoom capacity = (8 ≤ capacity) × (capacity ≤ greatest_capacity)

module _ (k : Sayings) where
  abbrev pub OfItem : Configuration → Item → Type 0
  OfItem n item = k.Says n item.frame

  abbrev pub OfItems : Configuration → List Item → Type 0
  OfItems n items = AllByRecursion (OfItem n) items

  -- all that was committed on the link, and all that waits
  pub record SaysAll (n : Configuration) (fs : List Frame) (control begun : List Item) (publish : List (List Item)) : Type 0 where
    pub committed : AllByRecursion (k.Says n) fs
    pub lane : OfItems n control
    pub rest : OfItems n begun
    pub groups : AllByRecursion (OfItems n) publish

  -- these frames were committed on the open link; before the numbers are agreed all that is said may be said with any
  pub record SpokenIn (fs : List Frame) (config : Config) (state : ConnectionState) (phase : Phase) (agreed : Configuration) (capacity : ℕ)
      (channels : List (ℕ × Channel)) (control begun : List Item) (publish : List (List Item)) : Type 0 where
    pub made : k.Makes config
    pub numbers : k.Numbers agreed
    pub room : HasRoom capacity
    pub listed : hears_channels state ≡ true → IsWithin agreed.channel_max channels
    pub sized : AllByRecursion IsSized fs
    pub said : (n : Configuration) → (is_early state phase ≡ false → n ≡ agreed) → SaysAll n fs control begun publish

  abbrev pub Spoken : List Frame → Talk → Type 0
  Spoken fs t = SpokenIn fs t.config t.state t.phase t.configuration t.capacity t.channels t.outbox.control t.outbox.begun t.outbox.publish

  -- other channels are listed
  pub relisted : (fs : List Frame) (t : Talk) (cs : List (ℕ × Channel)) → (hears_channels t.state ≡ true → IsWithin t.configuration.channel_max cs)
      → Spoken fs t → Spoken fs (record t { channels = cs })
  relisted fs t cs within h = record { made = h.made; numbers = h.numbers; room = h.room; listed = within; sized = h.sized; said = h.said }

  -- other frames wait
  pub requeued : (fs : List Frame) (t : Talk) (q : Queued)
      → ((n : Configuration) → (is_early t.state t.phase ≡ false → n ≡ t.configuration)
      → SaysAll n fs t.outbox.control t.outbox.begun t.outbox.publish → SaysAll n fs q.control q.begun q.publish)
      → Spoken fs t → Spoken fs (record t { outbox = q })
  requeued fs t q says h =
      record { made = h.made; numbers = h.numbers; room = h.room; listed = h.listed; sized = h.sized; said = λ n may. says n may (h.said n may) }

  -- it is closing, and no channel is heard any more
  pub spoken-closing : (fs : List Frame) (t : Talk) (cs : List (ℕ × Channel)) (q : Queued)
      → ((n : Configuration) → SaysAll n fs t.outbox.control t.outbox.begun t.outbox.publish → SaysAll n fs q.control q.begun q.publish)
      → Spoken fs t → Spoken fs (record t { state = Closing; channels = cs; outbox = q })
  spoken-closing fs t cs q says h =
      record {
        made = h.made;
        numbers = h.numbers;
        room = h.room;
        listed = λ hears. absurd (true≢false (sym hears));
        sized = h.sized;
        said = λ n may. says n (h.said n (λ early. may refl));
      }

  -- what is known while no link is open
  pub record QuietIn (config : Config) (agreed : Configuration) (capacity : ℕ) : Type 0 where
    pub made : k.Makes config
    pub numbers : k.Numbers agreed
    pub room : HasRoom capacity

  abbrev pub Quiet : Talk → Type 0
  Quiet t = QuietIn t.config t.configuration t.capacity

  -- of the frames committed on its link while it is open, and of the session while a link is wanted
  abbrev pub Now : Talk → List Frame → Type 0
  Now t fs = (is_open t ≡ true → Spoken fs t) × (lacks_link t.link ≡ true → Quiet t)

  -- what was said on a link is said with some numbers
  pub record IsSpoken (fs : List Frame) : Type 0 where
    pub numbers : Configuration
    pub says : AllByRecursion (k.Says numbers) fs
    pub sized : AllByRecursion IsSized fs

  pub spoken-is : (t : Talk) (fs : List Frame) → Spoken fs t → IsSpoken fs
  spoken-is t fs h = record { numbers = t.configuration; says = (h.said t.configuration (λ agreed. refl)).committed; sized = h.sized }

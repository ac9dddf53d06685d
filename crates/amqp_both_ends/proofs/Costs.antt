-- What a reply of the double or a command queues takes no more octets, with all that comes of it, than is allowed for it.
use Rattle.std.proofs.Common.{◌≡◌, ◌≤◌, ◌⊎◌, inl, inr, ◌∙◌, ap, refl, ℕ, zero, suc, ◌+◌, ◌*◌, List, [], ◌∷◌, ◌++◌, length, append-nil, Option, Some, None, Ok, arith}
use Rattle.std.specs.Prelude.{codes}
use Rattle.amqp_frame.specs.declared.frame.Frame.{Frame}
use Rattle.amqp_frame.specs.declared.frame.Frame.TheVariants.{Method}
use Rattle.amqp_frame.specs.declared.frame.RawKind.TheVariants.{RawMethod, Header}
use Rattle.amqp_frame.specs.declared.method.Method.TheVariants.{Start, Tune, OpenOk, CloseOk, UpdateSecretOk, ChannelOpenOk, ChannelFlowOk, ChannelCloseOk}
use Rattle.amqp_frame.specs.RawMethods.{OtherMethod, spell_raw_method}
use Rattle.amqp_outbox.specs.declared.item.Item.{Item}
use Rattle.amqp_outbox.specs.Items.{group_of, items_of_groups}
use Rattle.amqp_outbox.specs.Queued.{waiting_items}
use Rattle.amqp_auth.specs.declared.asked.Asked.{Asked}
use Rattle.amqp_auth.specs.declared.asked.Asked.TheVariants as answer
use Rattle.amqp_settings.specs.declared.configuration.Configuration.{Configuration}
use Rattle.amqp_commands.specs.declared.command.Cmd.{Cmd}
use Rattle.amqp_commands.specs.declared.command.Cmd.TheVariants.{OpenChannel, CloseChannel, CloseConnection, UpdateSecret as UpdateSecretCommand, Send, Publish, Flow, DropChannel, DropConnection, Listen}
use Rattle.amqp_settings.specs.Config.{Options}
use Rattle.amqp_rules.specs.Talk.{Talk}
use Rattle.amqp_rules.specs.Commands.{command, body_limit}
use Rattle.amqp_rules.specs.Frames.{on_frame}
use Rattle.amqp_settings.specs.Negotiation.{tune}
use Rattle.amqp_channels.specs.Numbering.{first_number, drawn}
use Rattle.amqp_commands.specs.Publishing.{content_header, publish_frames}
use Rattle.amqp_legal_rules.proofs.Ties.{frames_in}
use Rattle.amqp_faultless.specs.Faultless.{AreSayable}
use Rattle.amqp_owing.specs.Owed.{IsReply}
use Rattle.amqp_queued_rules.specs.Queues.{Queues, QueuesNothing}
use Rattle.amqp_queued_rules.specs.Queued.{start_reply, reopenings, reply_to, opening_of, told_by, published_by}
use Rattle.amqp_queued_rules.proofs.Parts.{alone-waiting}
use Rattle.amqp_queued_rules.proofs.Telling.{queues-its-own}
use Rattle.amqp_joining.specs.Plans.{command_turns}
use Rattle.amqp_both_ends.proofs.Commanding.{IsQuiet}
use Rattle.amqp_both_ends.proofs.Replying.{ReopensNone}
use Rattle.amqp_both_ends.proofs.Weights.{weigh, brings, outlay, start-ok-earns, tune-weighs, close-weighs, channel-close-weighs, channel-open-weighs, channel-flow-weighs, secret-weighs, raw-weighs, pieces-weigh}

-- ---- replies

start-weighs : (numbers : Configuration) (answers : List Asked) (options : Options) → AreSayable options answers → weigh (outlay numbers) (frames_in (start_reply answers options)) ≤ 131395
start-weighs numbers (answer.Mechanism mechanism ∷ answer.Starter (Ok response) ∷ later) options h =
    let short = h.0 in
    let one = start-ok-earns numbers options.properties mechanism response options.locale in
    omega (arith, short, one)
start-weighs numbers _ options h = omega arith

module _ (numbers : Configuration) (answers : List Asked) (t : Talk) (quiet : IsQuiet t) where
  each-weighs : (r : Frame) → IsReply r → ReopensNone r t → AreSayable t.config.options answers → length t.config.uri.vhost ≤ 255 → weigh (outlay numbers) (frames_in (reply_to r answers t)) ≤ brings r
  each-weighs (Method zero (Start a b c d e)) is none sayable short = start-weighs numbers answers t.config.options sayable
  each-weighs (Method zero (Tune a b c)) is none sayable short =
      let server : Configuration = record { channel_max = a; frame_max = b; heartbeat = c } in
      let agreed = tune t.configuration server in
      let k = tune-weighs numbers agreed.channel_max agreed.frame_max agreed.heartbeat t.config.uri.vhost short in
      omega (arith, k)
  each-weighs (Method zero OpenOk) is none sayable short =
      let nothing : weigh (outlay numbers) (frames_in (reopenings t.configuration.channel_max t.channels)) ≡ 0 =
      ap (λ cs. weigh (outlay numbers) (frames_in (reopenings t.configuration.channel_max cs))) none in
      omega (arith, nothing)
  each-weighs (Method zero CloseOk) is none sayable short = omega arith
  each-weighs (Method zero UpdateSecretOk) is none sayable short = omega arith
  each-weighs (Method (suc n) ChannelOpenOk) is none sayable short = omega arith
  each-weighs (Method (suc n) (ChannelFlowOk active)) is none sayable short = omega arith
  each-weighs (Method (suc n) ChannelCloseOk) is none sayable short = omega arith
  each-weighs f is none sayable short = absurd is

  -- what waits once a reply was read, where nothing waited
  pub replied-weighs : (r : Frame) → IsReply r → ReopensNone r t → AreSayable t.config.options answers → length t.config.uri.vhost ≤ 255
      → weigh (outlay numbers) (frames_in (waiting_items (on_frame r answers t).outbox)) ≤ brings r
  replied-weighs r is none sayable short = by ((queues-its-own t).frame r answers) where
    after : Talk
    after = on_frame r answers t

    by : QueuesNothing t.outbox after.outbox ⊎ Queues (reply_to r answers t) [] t.outbox after.outbox → weigh (outlay numbers) (frames_in (waiting_items after.outbox)) ≤ brings r
    by (inl nothing) =
        let waits : weigh (outlay numbers) (frames_in (waiting_items after.outbox)) ≡ 0 =
        ap (λ (xs : List Item). weigh (outlay numbers) (frames_in xs)) (alone-waiting [] [] t.outbox after.outbox nothing quiet.control quiet.publish quiet.begun) in
        omega (arith, waits)
    by (inr q) =
        let waits : weigh (outlay numbers) (frames_in (waiting_items after.outbox)) ≡ weigh (outlay numbers) (frames_in (reply_to r answers t)) =
        ap (λ (xs : List Item). weigh (outlay numbers) (frames_in xs))
        (alone-waiting (reply_to r answers t) [] t.outbox after.outbox q quiet.control quiet.publish quiet.begun ∙ append-nil (reply_to r answers t)) in
        let most = each-weighs r is none sayable short in
        omega (arith, waits, most)

-- ---- commands

-- the frames of a group
group-frames : (n : ℕ) (frames : List Frame) (promise : ℕ) → frames_in (group_of n frames promise) ≡ frames
group-frames n [] promise = refl
group-frames n (f ∷ []) promise = refl
group-frames n (f ∷ g ∷ frames) promise = ap (λ (xs : List Frame). f ∷ xs) (group-frames n (g ∷ frames) promise)

method-long : (m : OtherMethod) → length (spell_raw_method m) ≡ 4 + length m.arguments
method-long m = omega arith

header-long : (class size : ℕ) (properties : List ℕ) → length (content_header class size properties) ≡ 12 + length properties
header-long class size properties = omega arith

publish-weighs : (numbers : Configuration) (n : ℕ) (m : OtherMethod) (properties body : List ℕ) (most : ℕ) → 8 ≤ most
    → weigh (outlay numbers) (publish_frames n m properties body most) ≤ 40 + (length m.arguments + (length properties + 2 * length body))
publish-weighs numbers n m properties body most enough =
    let a = raw-weighs numbers n RawMethod (spell_raw_method m) in
    let b = raw-weighs numbers n Header (content_header m.class (length body) properties) in
    let c = pieces-weigh numbers n (length body) most body enough in
    let d = method-long m in
    let e = header-long m.class (length body) properties in
    omega (arith, a, b, c, d, e)

-- what a command queues, with all that comes of it
abbrev pub weight : Configuration → Talk → Cmd → ℕ
weight numbers t c = weigh (outlay numbers) (frames_in (told_by c t ++ items_of_groups (published_by c t)))

module _ (numbers : Configuration) (t : Talk) (enough : 8 ≤ body_limit t) where
  opening-weighs : (o : Option ℕ) → weigh (outlay numbers) (frames_in (opening_of o ++ [])) ≤ 29
  opening-weighs None = omega arith
  opening-weighs (Some n) = let k = channel-open-weighs numbers n in omega (arith, k)

  pub told-weighs : (c : Cmd) → weight numbers t c + 1 ≤ command_turns c
  told-weighs OpenChannel =
      let k = opening-weighs (drawn t.configuration.channel_max (first_number t.configuration.channel_max t.cursor) t.channels) in omega (arith, k)
  told-weighs (CloseChannel r code text) = let k = channel-close-weighs numbers r.id code text in omega (arith, k)
  told-weighs (CloseConnection code text) = let k = close-weighs numbers code text in omega (arith, k)
  told-weighs (UpdateSecretCommand secret reason) = let k = secret-weighs numbers secret reason in omega (arith, k)
  told-weighs (Send r method) =
      let k = raw-weighs numbers r.id RawMethod (spell_raw_method method) in
      let d = method-long method in
      omega (arith, k, d)
  told-weighs (Publish r method properties body) =
      let group = group_of r.id (publish_frames r.id method properties body (body_limit t)) _ in
      let same : weight numbers t (Publish r method properties body) ≡ weigh (outlay numbers) (publish_frames r.id method properties body (body_limit t)) =
      ap (λ (xs : List Item). weigh (outlay numbers) (frames_in xs)) (append-nil group) ∙ ap (weigh (outlay numbers)) (group-frames r.id (publish_frames r.id method properties body (body_limit t)) _) in
      let k = publish-weighs numbers r.id method properties body (body_limit t) enough in
      omega (arith, same, k)
  told-weighs (Flow r active) = let k = channel-flow-weighs numbers r.id active in omega (arith, k)
  told-weighs (DropChannel r) = let k = channel-close-weighs numbers r.id 200 (codes "OK") in omega (arith, k)
  told-weighs DropConnection = let k = close-weighs numbers 200 (codes "OK") in omega (arith, k)
  told-weighs Listen = omega arith

  -- the last close
  pub last-weighs : weight numbers t (CloseConnection 200 (79 ∷ 75 ∷ [])) + 1 ≤ 34
  last-weighs = let k = close-weighs numbers 200 (79 ∷ 75 ∷ []) in omega (arith, k)

  -- what waits once a command was told, where nothing waited
  pub commanded-weighs : (c : Cmd) (turns : ℕ) → weight numbers t c + 1 ≤ turns → IsQuiet t → weigh (outlay numbers) (frames_in (waiting_items (command c t).outbox)) + 1 ≤ turns
  commanded-weighs c turns most quiet = by ((queues-its-own t).command c) where
    by : QueuesNothing t.outbox (command c t).outbox ⊎ Queues (told_by c t) (published_by c t) t.outbox (command c t).outbox
        → weigh (outlay numbers) (frames_in (waiting_items (command c t).outbox)) + 1 ≤ turns
    by (inl none) =
        let waits : weigh (outlay numbers) (frames_in (waiting_items (command c t).outbox)) ≡ 0 =
        ap (λ (xs : List Item). weigh (outlay numbers) (frames_in xs)) (alone-waiting [] [] t.outbox (command c t).outbox none quiet.control quiet.publish quiet.begun) in
        omega (arith, waits, most)
    by (inr q) =
        let waits : weigh (outlay numbers) (frames_in (waiting_items (command c t).outbox)) ≡ weight numbers t c =
        ap (λ (xs : List Item). weigh (outlay numbers) (frames_in xs))
        (alone-waiting (told_by c t) (published_by c t) t.outbox (command c t).outbox q quiet.control quiet.publish quiet.begun) in
        omega (arith, waits, most)

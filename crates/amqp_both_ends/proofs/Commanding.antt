-- What a command queues where nothing waits and nothing is owed: frames that a faultless server answers, the last of them alone.
use Rattle.std.proofs.Common.{◌≡◌, ◌⊎◌, inl, inr, ◌∙◌, ap, sym, refl, subst, ℕ, zero, suc, Bool, List, [], ◌∷◌, ◌++◌, append-nil, Option, Some, None}
use Rattle.std.specs.Prelude.{codes}
use Rattle.std.specs.List.{AllByRecursion}
use Rattle.amqp_frame.specs.declared.frame.Frame.{Frame}
use Rattle.amqp_frame.specs.declared.frame.Frame.TheVariants.{Method, Raw}
use Rattle.amqp_frame.specs.declared.frame.RawKind.{RawKind}
use Rattle.amqp_frame.specs.declared.frame.RawKind.TheVariants.{RawMethod, Header, Body}
use Rattle.amqp_frame.specs.declared.method.Method.{Method as AnyMethod}
use Rattle.amqp_frame.specs.declared.method.Method.TheVariants.{ChannelOpen, ChannelFlow, ChannelClose}
use Rattle.amqp_outbox.specs.declared.item.Item.{Item}
use Rattle.amqp_outbox.specs.Items.{items_of_groups}
use Rattle.amqp_outbox.specs.Queued.{waiting_items}
use Rattle.amqp_settings.specs.declared.configuration.Configuration.{Configuration}
use Rattle.amqp_commands.specs.declared.command.Cmd.{Cmd}
use Rattle.amqp_commands.specs.declared.command.Cmd.TheVariants.{OpenChannel, CloseChannel, CloseConnection, UpdateSecret, Send, Publish, Flow, DropChannel, DropConnection, Listen}
use Rattle.amqp_rules.specs.Talk.{Talk}
use Rattle.amqp_rules.specs.Commands.{command}
use Rattle.amqp_channels.specs.Numbering.{first_number, drawn}
use Rattle.amqp_legal.specs.Legal.{amqp_header, body_frames}
use Rattle.amqp_legal.specs.declared.progress.Content.{Content}
use Rattle.amqp_legal.specs.declared.progress.Content.TheVariants.{NoContent, MethodSaid, BodyMissing}
use Rattle.amqp_legal.specs.declared.progress.Stage.TheVariants.{OpenSaid}
use Rattle.amqp_legal.specs.Decider.{Speech, greeted, say, say_all, in_stage, in_content}
use Rattle.amqp_legal.proofs.Sayable.{none-said, no-some, say-group}
use Rattle.amqp_legal_rules.proofs.Ties.{frames_in, first_out, IsReady, IsTied}
use Rattle.amqp_legal_rules.proofs.Conversing.{Committed, committed-said}
use Rattle.amqp_faultless.specs.Faultless.{Server, said_to}
use Rattle.amqp_double.specs.Replies.{replies}
use Rattle.amqp_owing.specs.Owed.{Fits}
use Rattle.amqp_queued_rules.specs.Queues.{Queues, QueuesNothing}
use Rattle.amqp_queued_rules.specs.Queued.{opening_of, told_by, published_by}
use Rattle.amqp_queued_rules.proofs.Parts.{alone-control, alone-publish, alone-begun, alone-waiting}
use Rattle.amqp_queued_rules.proofs.Telling.{queues-its-own}
use Rattle.amqp_both_ends.proofs.Apart.{some-same}
use Rattle.amqp_both_ends.proofs.Deals.{OnlyLast, Spoken, FitAll, later-of, spoken-queued, IsOfCommand, command-fits}

-- ---- frames of contents

-- these are frames of contents
abbrev AreRaw : List Frame → Type 0
AreRaw fs = AllByRecursion (λ (f : Frame). (n : ℕ) × (kind : RawKind) × (bytes : List ℕ) × (f ≡ Raw n kind bytes)) fs

module _ (numbers : Configuration) where
  raws-fit : (fs : List Frame) (s : Server) → AreRaw fs → FitAll fs s
  raws-fit [] s h = tt
  raws-fit (f ∷ fs) s h =
      let r = h.0 in
      (subst (λ (x : Frame). Fits x s) (sym r.3) tt, raws-fit fs (said_to f s) h.1)

  raws-last : (fs : List Frame) → AreRaw fs → OnlyLast numbers fs
  raws-last [] h = tt
  raws-last (f ∷ []) h = tt
  raws-last (f ∷ g ∷ fs) h = (ap (replies numbers) h.0.3, raws-last (g ∷ fs) h.1)

bodies-raw : (n : ℕ) (bodies : List (List ℕ)) → AreRaw (body_frames n bodies)
bodies-raw n [] = tt
bodies-raw n (body ∷ bodies) = ((n, Body, body, refl), bodies-raw n bodies)

-- ---- where nothing waits

-- nothing waits
pub record IsQuiet (t : Talk) : Type 0 where
  pub begun : t.outbox.begun ≡ []
  pub control : t.outbox.control ≡ []
  pub publish : t.outbox.publish ≡ []

-- a channel that may be spoken of is not 0
above-zero : (n : ℕ) (m : AnyMethod) (p p' : Speech) → p.stage ≡ OpenSaid → in_stage OpenSaid (Method zero m) p ≡ None → IsOfCommand (Method (suc zero) m)
    → ((k : ℕ) → IsOfCommand (Method (suc k) m)) → say (Method n m) p ≡ Some p' → IsOfCommand (Method n m)
above-zero zero m p p' is_opened none one more said =
    let nothing : say (Method zero m) p ≡ None = ap (λ st. in_stage st (Method zero m) p) is_opened ∙ none in
    absurd (no-some (say (Method zero m) p) p' nothing said)
above-zero (suc k) m p p' is_opened none one more said = more k

never-open : (p : Speech) (c : Content) → in_content c (Method zero ChannelOpen) p ≡ None
never-open p NoContent = refl
never-open p (MethodSaid n class) = refl
never-open p (BodyMissing n zero) = refl
never-open p (BodyMissing n (suc k)) = refl

never-flow : (active : Bool) (p : Speech) (c : Content) → in_content c (Method zero (ChannelFlow active)) p ≡ None
never-flow active p NoContent = refl
never-flow active p (MethodSaid n class) = refl
never-flow active p (BodyMissing n zero) = refl
never-flow active p (BodyMissing n (suc k)) = refl

never-close : (code : ℕ) (text : List ℕ) (class method : ℕ) (p : Speech) (c : Content) → in_content c (Method zero (ChannelClose code text class method)) p ≡ None
never-close code text class method p NoContent = refl
never-close code text class method p (MethodSaid n class') = refl
never-close code text class method p (BodyMissing n zero) = refl
never-close code text class method p (BodyMissing n (suc k)) = refl

module _ (numbers : Configuration) (t : Talk) (s : Server) (said : List Frame) (h : Spoken numbers said [] [] s) (is_opened : h.p.stage ≡ OpenSaid) (quiet : IsQuiet t) where
  abbrev t' : Cmd → Talk
  t' c = command c t

  -- what was said led here
  same-speech : (q : Speech) → say_all (Some greeted) said ≡ Some q → q ≡ h.p
  same-speech q is = let both : Some q ≡ Some h.p = sym is ∙ h.may in cc

  -- one frame, which a command says
  one-told : (f : Frame) (q : Speech) → say_all (Some h.p) (f ∷ []) ≡ Some q → ((p' : Speech) → say f h.p ≡ Some p' → IsOfCommand f) → Spoken numbers said (f ∷ []) [] s
  one-told f q is of = by (say f h.p) refl is where
    by : (o : Option Speech) → say f h.p ≡ o → say_all o [] ≡ Some q → Spoken numbers said (f ∷ []) [] s
    by None none k = absurd (no-some (say_all None []) q (none-said []) k)
    by (Some v) some k =
        let fits = command-fits f h.p v s (of v some) is_opened h.owes some in
        spoken-queued numbers said (f ∷ []) s h (v, some, fits, tt) tt

  none-told : Spoken numbers said [] [] s
  none-told = h

  -- the frames of the control lane may be said
  may-say : (c : Cmd) → Queues (told_by c t) (published_by c t) t.outbox (command c t).outbox → (tied : IsTied (command c t) (amqp_header ∷ said)) → say_all (Some h.p) (frames_in (told_by c t)) ≡ Some tied.later
  may-say c q tied =
      let k : Committed amqp_header said (first_out (command c t).outbox) tied.later = committed-said (first_out (command c t).outbox) amqp_header said tied.later tied.leads in
      let lane : first_out (command c t).outbox ≡ told_by c t =
      ap (λ (xs : List Item). xs ++ (command c t).outbox.control) (alone-begun (told_by c t) (published_by c t) t.outbox (command c t).outbox q quiet.begun)
      ∙ alone-control (told_by c t) (published_by c t) t.outbox (command c t).outbox q quiet.control in
      ap (λ (p : Speech). say_all (Some p) (frames_in (told_by c t))) (sym (same-speech k.now k.may))
      ∙ ap (λ (xs : List Item). say_all (Some k.now) (frames_in xs)) (sym lane) ∙ k.rest

  may-told : (c : Cmd) → Queues (told_by c t) (published_by c t) t.outbox (command c t).outbox → IsTied (command c t) (amqp_header ∷ said) → (q : Speech) × (say_all (Some h.p) (frames_in (told_by c t)) ≡ Some q)
  may-told c q tied = (tied.later, may-say c q tied)

  -- a publish
  group-told : (group : List Item) (v : Speech) → v ≡ h.p → IsReady v group → Spoken numbers said (frames_in (group ++ [])) [] s
  group-told group v is ready =
      let fs : List Frame = Raw ready.channel RawMethod ready.method ∷ Raw ready.channel Header ready.head ∷ body_frames ready.channel ready.bodies in
      let raws : AreRaw fs = ((ready.channel, RawMethod, ready.method, refl), ((ready.channel, Header, ready.head, refl), bodies-raw ready.channel ready.bodies)) in
      let same : fs ≡ frames_in (group ++ []) = sym ready.frames ∙ ap frames_in (sym (append-nil group)) in
      let goes = say-group ready.channel ready.method ready.head ready.bodies v ready.not_zero ready.speaking ready.complete ready.used ready.passed ready.content in
      let from : say_all (Some h.p) fs ≡ Some _ = ap (λ (p : Speech). say_all (Some p) fs) (sym is) ∙ goes in
      subst (λ (xs : List Frame). Spoken numbers said xs [] s) same
      (spoken-queued numbers said fs s h (later-of fs h.p _ s from (raws-fit numbers fs s raws)) (raws-last numbers fs raws))

  -- each command
  each-told : (c : Cmd) → Queues (told_by c t) (published_by c t) t.outbox (command c t).outbox → IsTied (command c t) (amqp_header ∷ said)
      → Spoken numbers said (frames_in (told_by c t ++ items_of_groups (published_by c t))) [] s
  each-told OpenChannel q tied =
      by (drawn t.configuration.channel_max (first_number t.configuration.channel_max t.cursor) t.channels) (may-told OpenChannel q tied)
    where
      by : (o : Option ℕ) → (v : Speech) × (say_all (Some h.p) (frames_in (opening_of o)) ≡ Some v) → Spoken numbers said (frames_in (opening_of o ++ [])) [] s
      by None k = h
      by (Some n) k = one-told (Method n ChannelOpen) k.0 k.1 (λ p' is. above-zero n ChannelOpen h.p p' is_opened (never-open h.p h.p.content) tt (λ i. tt) is)
  each-told (CloseChannel r code text) q tied =
      let k = may-told (CloseChannel r code text) q tied in
      one-told (Method r.id (ChannelClose code text 0 0)) k.0 k.1 (λ p' is. above-zero r.id (ChannelClose code text 0 0) h.p p' is_opened (never-close code text 0 0 h.p h.p.content) tt (λ i. tt) is)
  each-told (CloseConnection code text) q tied = let k = may-told (CloseConnection code text) q tied in one-told _ k.0 k.1 (λ p' is. tt)
  each-told (UpdateSecret secret reason) q tied = let k = may-told (UpdateSecret secret reason) q tied in one-told _ k.0 k.1 (λ p' is. tt)
  each-told (Send r method) q tied = let k = may-told (Send r method) q tied in one-told _ k.0 k.1 (λ p' is. tt)
  each-told (Flow r active) q tied =
      let k = may-told (Flow r active) q tied in
      one-told (Method r.id (ChannelFlow active)) k.0 k.1 (λ p' is. above-zero r.id (ChannelFlow active) h.p p' is_opened (never-flow active h.p h.p.content) tt (λ i. tt) is)
  each-told (DropChannel r) q tied =
      let k = may-told (DropChannel r) q tied in
      one-told (Method r.id (ChannelClose 200 (codes "OK") 0 0)) k.0 k.1 (λ p' is. above-zero r.id (ChannelClose 200 (codes "OK") 0 0) h.p p' is_opened (never-close 200 (codes "OK") 0 0 h.p h.p.content) tt (λ i. tt) is)
  each-told DropConnection q tied = let k = may-told DropConnection q tied in one-told _ k.0 k.1 (λ p' is. tt)
  each-told Listen q tied = h
  each-told (Publish r method properties body) q tied =
      let c : Cmd = Publish r method properties body in
      let same : tied.later ≡ h.p = sym (some-same h.p tied.later (may-say c q tied)) in
      let groups = subst (λ (gs : List (List Item)). AllByRecursion (IsReady tied.later) gs) (alone-publish (told_by c t) (published_by c t) t.outbox (command c t).outbox q quiet.publish) tied.groups in
      group-told _ tied.later same groups.0

  -- what waits then is what is still to be said
  pub commanded : (c : Cmd) → IsTied (command c t) (amqp_header ∷ said) → Spoken numbers said (frames_in (waiting_items (command c t).outbox)) [] s
  commanded c tied = by ((queues-its-own t).command c) where
    by : QueuesNothing t.outbox (command c t).outbox ⊎ Queues (told_by c t) (published_by c t) t.outbox (command c t).outbox
        → Spoken numbers said (frames_in (waiting_items (command c t).outbox)) [] s
    by (inl none) = subst (λ (xs : List Item). Spoken numbers said (frames_in xs) [] s) (sym (alone-waiting [] [] t.outbox (command c t).outbox none quiet.control quiet.publish quiet.begun)) h
    by (inr q) =
        subst (λ (xs : List Item). Spoken numbers said (frames_in xs) [] s) (sym (alone-waiting (told_by c t) (published_by c t) t.outbox (command c t).outbox q quiet.control quiet.publish quiet.begun))
        (each-told c q tied)

-- What is said on channels keeps what ties them to the conversation.
use Rattle.std.proofs.Common.{◌≡◌, ◌≢◌, ◌<◌, ℕ, zero, suc, if◌then◌else◌, false, List, [], ◌∷◌, ◌++◌, Option, Some, None, inl, inr, refl, ap, sym, ◌∙◌, subst, arith, append-nil}
use Rattle.std.proofs.lemmas.Bool.{cases_eq}
use Rattle.std.specs.Map.{keys_of}
use Rattle.amqp_frame.specs.declared.frame.Frame.TheVariants.{Method, Raw}
use Rattle.amqp_frame.specs.declared.frame.RawKind.TheVariants.{RawMethod}
use Rattle.amqp_frame.specs.declared.method.Method.{Method as AnyMethod}
use Rattle.amqp_frame.specs.declared.method.Method.TheVariants.{ChannelOpen, ChannelClose}
use Rattle.amqp_outbox.specs.declared.reply.Awaited.{Awaited}
use Rattle.amqp_outbox.specs.declared.reply.Reply.{Reply}
use Rattle.amqp_outbox.specs.declared.reply.Reply.TheVariants.{ChannelOpened, ChannelClosed}
use Rattle.amqp_outbox.specs.Replies.{expected, left_awaited}
use Rattle.amqp_channels.specs.declared.channels.Channel.{Channel}
use Rattle.amqp_channels.specs.declared.channels.Debt.{Debt}
use Rattle.amqp_promise.specs.declared.state.ChannelState.{ChannelState}
use Rattle.amqp_promise.specs.declared.state.ChannelState.TheVariants as channel
use Rattle.amqp_settings.specs.Handshake.{channel_open, our_channel_close}
use Rattle.amqp_maps.specs.Listed.{at, put}
use Rattle.amqp_channels.specs.Channels.{new_channel, made_leaving}
use Rattle.amqp_legal.specs.Octets.{class_in}
use Rattle.amqp_legal.specs.Decider.{Speech, say, say_open, say_use, say_close, now_on}
use Rattle.amqp_legal.specs.declared.progress.Stage.TheVariants.{OpenSaid}
use Rattle.amqp_legal.specs.declared.progress.Usage.{Usage}
use Rattle.amqp_legal.specs.declared.progress.Usage.TheVariants.{Shut, InUse, Left}
use Rattle.amqp_legal.specs.declared.progress.Content.{Content}
use Rattle.amqp_legal.specs.declared.progress.Content.TheVariants.{MethodSaid}
use Rattle.amqp_legal.specs.Legal.{IsPassedThrough}
use Rattle.amqp_types.proofs.Small.{same-number, other-number}
use Rattle.amqp_legal.proofs.Sayable.{IsComplete, say-on, say-raw}
use Rattle.amqp_rules.specs.Sound.{AscendFrom, Ascend}
use Rattle.amqp_rules.proofs.Ascending.{put-from, none-below}
use Rattle.amqp_maps.proofs.Numbered.{put-same, put-other}
use Rattle.amqp_legal_rules.proofs.Ties.{is_tied, tied_on, owing, TiesClosing, TiesState, TiesOn, TiesChannels, is_close_among}
use Rattle.amqp_legal_rules.proofs.Expecting.{expected-same, expected-other, expected-ascend, answered-ascend, untied-answered}

-- the awaited replies, by channel
abbrev pub Replies : Type 0
Replies = List (ℕ × List Awaited)

abbrev pub Listed : Type 0
Listed = List (ℕ × Channel)

-- ---- what changes on one channel

pub above-zero : (n : ℕ) → n ≢ 0 → 0 < n
above-zero zero some = absurd (some refl)
above-zero (suc n) some = omega arith

pub ascends : (cs : Listed) → AscendFrom 0 (keys_of cs) → Ascend (keys_of cs)
ascends [] h = tt
ascends (c ∷ cs) h = h.1

pub ties-as : (o o' : Option Channel) (rs rs' : List Reply) (u u' : Usage) → o' ≡ o → rs' ≡ rs → u' ≡ u → TiesOn o rs u → TiesOn o' rs' u'
ties-as o o' rs rs' u u' ho hr hu h =
    let A : Option Channel → Type 0 = λ x. TiesOn x rs u in
    let B : List Reply → Type 0 = λ x. TiesOn o' x u in
    let C : Usage → Type 0 = λ x. TiesOn o' rs' x in
    subst C (sym hu) (subst B (sym hr) (subst A (sym ho) h))

-- another channel than this one is as it was
pub record Others (n : ℕ) (cs cs' : Listed) (ws ws' : Replies) (due due' : ℕ → ℕ) (v v' : Speech) : Type 0 where
  pub sorted : AscendFrom 0 (keys_of cs')
  pub awaited_sorted : Ascend (keys_of ws')
  pub listed : (m : ℕ) → m ≢ n → at m cs' ≡ at m cs
  pub awaited : (m : ℕ) → m ≢ n → tied_on m ws' ≡ tied_on m ws
  pub owed : (m : ℕ) → m ≢ n → due' m ≡ due m
  pub used : (m : ℕ) → m ≢ n → v'.usage m ≡ v.usage m

pub on-change : (n : ℕ) (cs cs' : Listed) (ws ws' : Replies) (due due' : ℕ → ℕ) (v v' : Speech) → TiesChannels cs ws due v → v'.stage ≡ OpenSaid → IsComplete v'.content
    → TiesOn (at n cs') (tied_on n ws') (v'.usage n) → due' n ≡ owing (at n cs') → Others n cs cs' ws ws' due due' v v' → TiesChannels cs' ws' due' v'
on-change n cs cs' ws ws' due due' v v' h speaking complete here owed others =
    record {
      speaking = speaking;
      complete = complete;
      sorted = others.sorted;
      awaited_sorted = others.awaited_sorted;
      each = λ m.
          (let Q : ℕ → Type 0 = λ k. TiesOn (at k cs') (tied_on k ws') (v'.usage k) in
          elim (cases_eq m n) [
            | inl is ↦ subst Q (sym is) here
            | inr ne ↦
                ties-as (at m cs) (at m cs') (tied_on m ws) (tied_on m ws') (v.usage m) (v'.usage m)
                (others.listed m ne) (others.awaited m ne) (others.used m ne) (h.each m)
          ]);
      owes = λ m.
          (let Q : ℕ → Type 0 = λ k. due' k ≡ owing (at k cs') in
          elim (cases_eq m n) [
            | inl is ↦ subst Q (sym is) owed
            | inr ne ↦ others.owed m ne ∙ h.owes m ∙ ap owing (sym (others.listed m ne))
          ]);
    }

-- the same is awaited of what ties, and as many close-oks are on their way
pub on-alike : (cs : Listed) (ws ws' : Replies) (due due' : ℕ → ℕ) (v : Speech) → Ascend (keys_of ws') → ((m : ℕ) → tied_on m ws' ≡ tied_on m ws)
    → ((m : ℕ) → due' m ≡ due m) → TiesChannels cs ws due v → TiesChannels cs ws' due' v
on-alike cs ws ws' due due' v sorted awaited owed h =
    record {
      speaking = h.speaking;
      complete = h.complete;
      sorted = h.sorted;
      awaited_sorted = sorted;
      each = λ m. ties-as (at m cs) (at m cs) (tied_on m ws) (tied_on m ws') (v.usage m) (v.usage m) refl (awaited m) refl (h.each m);
      owes = λ m. owed m ∙ h.owes m;
    }

-- as many octets of a content are missing, and each channel is used so
pub on-usages : (cs : Listed) (ws : Replies) (due : ℕ → ℕ) (v w : Speech) → w.stage ≡ v.stage → IsComplete w.content → ((n : ℕ) → w.usage n ≡ v.usage n)
    → TiesChannels cs ws due v → TiesChannels cs ws due w
on-usages cs ws due v w stage complete usages h =
    record {
      speaking = stage ∙ h.speaking;
      complete = complete;
      sorted = h.sorted;
      awaited_sorted = h.awaited_sorted;
      each = λ m. ties-as (at m cs) (at m cs) (tied_on m ws) (tied_on m ws) (v.usage m) (w.usage m) refl refl (usages m) (h.each m);
      owes = h.owes;
    }

-- ---- what is said of a channel

pub used-same : (n : ℕ) (u : Usage) (v : Speech) → (now_on n u v).usage n ≡ u
used-same n u v = ap (λ b. if b then u else v.usage n) (same-number n)

pub used-other : (n : ℕ) (u : Usage) (v : Speech) (m : ℕ) → m ≢ n → (now_on n u v).usage m ≡ v.usage m
used-other n u v m ne = ap (λ b. if b then u else v.usage m) (other-number m n ne)

open-free : (u : Usage) (n : ℕ) (v : Speech) → u ≢ InUse → say_open u n v ≡ Some (now_on n InUse v)
open-free Shut n v h = refl
open-free Left n v h = refl
open-free InUse n v h = absurd (h refl)

-- a number that is not 0
pub above : (n : ℕ) → n ≢ 0 → (k : ℕ) × (n ≡ suc k)
above zero h = absurd (h refl)
above (suc k) h = (k, refl)

-- ---- what is known of a listed channel

-- what ties it
pub ties-of : (n : ℕ) (cs : Listed) (ws : Replies) (due : ℕ → ℕ) (v : Speech) (c : Channel) (s : ChannelState) → at n cs ≡ Some c → c.state ≡ s → TiesChannels cs ws due v
    → TiesState s c.debt (tied_on n ws) (v.usage n)
ties-of n cs ws due v c s listed is h =
    let Q : Option Channel → Type 0 = λ o. TiesOn o (tied_on n ws) (v.usage n) in
    let R : ChannelState → Type 0 = λ x. TiesState x c.debt (tied_on n ws) (v.usage n) in
    subst R is (subst Q listed (h.each n)).0

-- it knows whether close-ok is awaited
pub awaits-of : (n : ℕ) (cs : Listed) (ws : Replies) (due : ℕ → ℕ) (v : Speech) (c : Channel) → at n cs ≡ Some c → TiesChannels cs ws due v
    → c.awaits_close_ok ≡ is_close_among (tied_on n ws)
awaits-of n cs ws due v c listed h =
    let Q : Option Channel → Type 0 = λ o. TiesOn o (tied_on n ws) (v.usage n) in (subst Q listed (h.each n)).1

-- it is no channel 0
pub never-zero : (n : ℕ) (cs : Listed) (c : Channel) → at n cs ≡ Some c → AscendFrom 0 (keys_of cs) → n ≢ 0
never-zero n cs c listed sorted is = clash (at 0 cs) c (none-below 0 cs sorted) (ap (λ k. at k cs) (sym is) ∙ listed) where
  clash : (o : Option Channel) (c : Channel) → o ≡ None → o ≡ Some c → ⊥
  clash o c g k = cc

pub listed-some : (n : ℕ) (cs : Listed) (ws : Replies) (due : ℕ → ℕ) (v : Speech) (c : Channel) → at n cs ≡ Some c → TiesChannels cs ws due v → n ≢ 0
listed-some n cs ws due v c listed h = never-zero n cs c listed h.sorted

-- an open one is in use
pub used-open : (n : ℕ) (cs : Listed) (ws : Replies) (due : ℕ → ℕ) (v : Speech) (c : Channel) → at n cs ≡ Some c → c.state ≡ channel.Connected → TiesChannels cs ws due v
    → v.usage n ≡ InUse
used-open n cs ws due v c listed is h = (ties-of n cs ws due v c channel.Connected listed is h).1

-- how many close-oks of it are on their way
pub owed-of : (n : ℕ) (cs : Listed) (ws : Replies) (due : ℕ → ℕ) (v : Speech) (c : Channel) → at n cs ≡ Some c → TiesChannels cs ws due v → due n ≡ owing (Some c)
owed-of n cs ws due v c listed h = h.owes n ∙ ap owing listed

-- it changes in what does not count for how many are
pub owed-put : (n : ℕ) (cs : Listed) (ws : Replies) (due : ℕ → ℕ) (v : Speech) (c c' : Channel) → at n cs ≡ Some c → owing (Some c') ≡ owing (Some c) → TiesChannels cs ws due v
    → due n ≡ owing (at n (put n c' cs))
owed-put n cs ws due v c c' listed is h = owed-of n cs ws due v c listed h ∙ sym is ∙ ap owing (sym (put-same n c' cs))

pub debt-owing : (c c' : Channel) → c'.debt ≡ c.debt → owing (Some c') ≡ owing (Some c)
debt-owing c c' is = ap (λ (d : Debt). owing (Some (record c { debt = d }))) is

pub owing-by : (c : Channel) (d : Debt) → c.debt ≡ d → owing (Some c) ≡ owing (Some (record c { debt = d }))
owing-by c d is = sym (debt-owing c (record c { debt = d }) (sym is))

-- ---- what is told

-- the opening of a channel that is not in use may be said
pub say-opening : (n : ℕ) (v : Speech) → n ≢ 0 → v.stage ≡ OpenSaid → IsComplete v.content → v.usage n ≢ InUse → say (channel_open n) v ≡ Some (now_on n InUse v)
say-opening n v some speaking complete unused =
    let k = above n some in
    let said : say (Method n ChannelOpen) v ≡ say_open (v.usage n) n v =
    (let Q : ℕ → Type 0 = λ i. say (Method i ChannelOpen) v ≡ say_open (v.usage i) i v in subst Q (sym k.1) (say-on k.0 ChannelOpen v speaking complete)) in
    said ∙ open-free (v.usage n) n v unused

-- the channel of a number that is not listed is opened
pub record Opens (n : ℕ) (cs : Listed) (ws : Replies) (due : ℕ → ℕ) (v : Speech) (number : ℕ) : Type 0 where
  pub may : say (channel_open n) v ≡ Some (now_on n InUse v)
  pub ties : TiesChannels (put n (new_channel number) cs) (expected n (record { reply = ChannelOpened; promise = Some number }) ws) due (now_on n InUse v)

pub on-open : (n : ℕ) (cs : Listed) (ws : Replies) (due : ℕ → ℕ) (v : Speech) (number : ℕ) → n ≢ 0 → at n cs ≡ None → TiesChannels cs ws due v → Opens n cs ws due v number
on-open n cs ws due v number some absent h =
    let c : Channel = new_channel number in
    let a : Awaited = record { reply = ChannelOpened; promise = Some number } in
    let ties : TiesOn None (tied_on n ws) (v.usage n) = (let Q : Option Channel → Type 0 = λ o. TiesOn o (tied_on n ws) (v.usage n) in subst Q absent (h.each n)) in
    let replies : tied_on n (expected n a ws) ≡ ChannelOpened ∷ [] = expected-same n a ws ∙ ap (λ rs. rs ++ ChannelOpened ∷ []) ties.0 in
    record {
      may = say-opening n v some h.speaking h.complete ties.1;
      ties =
          on-change n cs (put n c cs) ws (expected n a ws) due due v (now_on n InUse v) h h.speaking tt
          (ties-as (Some c) (at n (put n c cs)) (ChannelOpened ∷ []) (tied_on n (expected n a ws)) InUse ((now_on n InUse v).usage n)
          (put-same n c cs) replies (used-same n InUse v) ((refl, refl, refl), refl))
          (h.owes n ∙ ap owing absent ∙ ap owing (sym (put-same n c cs)))
          (record {
            sorted = put-from n c 0 cs (above-zero n some) h.sorted;
            awaited_sorted = expected-ascend n a ws h.awaited_sorted;
            listed = λ m ne. put-other m n c cs ne;
            awaited = λ m ne. expected-other m n a ws ne;
            owed = λ m ne. refl;
            used = λ m ne. used-other n InUse v m ne;
          });
    }

-- an open channel is closed
pub record Closes (n : ℕ) (cs : Listed) (ws : Replies) (due : ℕ → ℕ) (v : Speech) (c : Channel) (code : ℕ) (text : List ℕ) (promise : Option ℕ) : Type 0 where
  pub may : say (our_channel_close n code text) v ≡ Some (now_on n Left v)
  pub ties : TiesChannels (put n (made_leaving c) cs) (expected n (record { reply = ChannelClosed; promise = promise }) ws) due (now_on n Left v)

pub on-close : (n : ℕ) (cs : Listed) (ws : Replies) (due : ℕ → ℕ) (v : Speech) (c : Channel) (code : ℕ) (text : List ℕ) (promise : Option ℕ)
    → at n cs ≡ Some c → c.state ≡ channel.Connected → TiesChannels cs ws due v → Closes n cs ws due v c code text promise
on-close n cs ws due v c code text promise listed is h =
    let a : Awaited = record { reply = ChannelClosed; promise = promise } in
    let c' : Channel = made_leaving c in
    let m : AnyMethod = ChannelClose code text 0 0 in
    let some : n ≢ 0 = listed-some n cs ws due v c listed h in
    let ties : TiesState channel.Connected c.debt (tied_on n ws) (v.usage n) = ties-of n cs ws due v c channel.Connected listed is h in
    let k = above n some in
    let said : say (Method n m) v ≡ say_close (v.usage n) n v =
    (let Q : ℕ → Type 0 = λ i. say (Method i m) v ≡ say_close (v.usage i) i v in subst Q (sym k.1) (say-on k.0 m v h.speaking h.complete)) in
    let replies : tied_on n (expected n a ws) ≡ ChannelClosed ∷ [] = expected-same n a ws ∙ ap (λ rs. rs ++ ChannelClosed ∷ []) ties.0 in
    let here : TiesClosing c.debt (ChannelClosed ∷ []) Left = (let Q : Debt → Type 0 = λ d. TiesClosing d (ChannelClosed ∷ []) Left in subst Q (sym ties.2) (refl, refl)) in
    record {
      may = said ∙ ap (λ u. say_close u n v) ties.1;
      ties =
          on-change n cs (put n c' cs) ws (expected n a ws) due due v (now_on n Left v) h h.speaking tt
          (ties-as (Some c') (at n (put n c' cs)) (ChannelClosed ∷ []) (tied_on n (expected n a ws)) Left ((now_on n Left v).usage n)
          (put-same n c' cs) replies (used-same n Left v) (here, refl))
          (owed-put n cs ws due v c c' listed (debt-owing c c' refl) h)
          (record {
            sorted = put-from n c' 0 cs (above-zero n some) h.sorted;
            awaited_sorted = expected-ascend n a ws h.awaited_sorted;
            listed = λ m ne. put-other m n c' cs ne;
            awaited = λ m ne. expected-other m n a ws ne;
            owed = λ m ne. refl;
            used = λ m ne. used-other n Left v m ne;
          });
    }

-- what ties channels looks at no content
pub with-content : (cs : Listed) (ws : Replies) (due : ℕ → ℕ) (v : Speech) (next : Content) → IsComplete next → TiesChannels cs ws due v
    → TiesChannels cs ws due (record v { content = next })
with-content cs ws due v next complete h =
    record { speaking = h.speaking; complete = complete; sorted = h.sorted; awaited_sorted = h.awaited_sorted; each = h.each; owes = h.owes }

-- an open channel is used
pub record Sends (n : ℕ) (cs : Listed) (ws : Replies) (due : ℕ → ℕ) (v : Speech) (method : List ℕ) : Type 0 where
  pub may : say (Raw n RawMethod method) v ≡ Some (record v { content = MethodSaid n (class_in method) })
  pub ties : TiesChannels cs ws due (record v { content = MethodSaid n (class_in method) })

pub on-send : (n : ℕ) (cs : Listed) (ws : Replies) (due : ℕ → ℕ) (v : Speech) (c : Channel) (method : List ℕ) → IsPassedThrough method
    → at n cs ≡ Some c → c.state ≡ channel.Connected → TiesChannels cs ws due v → Sends n cs ws due v method
on-send n cs ws due v c method passed listed is h =
    let some : n ≢ 0 = listed-some n cs ws due v c listed h in
    let k = above n some in
    let said : say (Raw n RawMethod method) v ≡ say_use (v.usage n) (MethodSaid n (class_in method)) v =
    (let Q : ℕ → Type 0 = λ i. say (Raw i RawMethod method) v ≡ say_use (v.usage i) (MethodSaid i (class_in method)) v in
    subst Q (sym k.1) (say-raw k.0 method v passed h.speaking h.complete)) in
    record {
      may = said ∙ ap (λ u. say_use u (MethodSaid n (class_in method)) v) (used-open n cs ws due v c listed is h);
      ties = with-content cs ws due v (MethodSaid n (class_in method)) tt h;
    }

-- a listed channel changes in what does not tie it
pub on-same : (n : ℕ) (cs : Listed) (ws : Replies) (due : ℕ → ℕ) (v : Speech) (c c' : Channel) → at n cs ≡ Some c → c'.state ≡ c.state → c'.debt ≡ c.debt
    → c'.awaits_close_ok ≡ c.awaits_close_ok → TiesChannels cs ws due v → TiesChannels (put n c' cs) ws due v
on-same n cs ws due v c c' listed is owes awaits h =
    let ties : TiesState c'.state c'.debt (tied_on n ws) (v.usage n) =
    (let Q : Debt → Type 0 = λ d. TiesState c'.state d (tied_on n ws) (v.usage n) in subst Q (sym owes) (ties-of n cs ws due v c c'.state listed (sym is) h)) in
    on-change n cs (put n c' cs) ws ws due due v v h h.speaking h.complete
    (ties-as (Some c') (at n (put n c' cs)) (tied_on n ws) (tied_on n ws) (v.usage n) (v.usage n) (put-same n c' cs) refl refl
    (ties, awaits ∙ awaits-of n cs ws due v c listed h))
    (owed-put n cs ws due v c c' listed (debt-owing c c' owes) h)
    (record {
      sorted = put-from n c' 0 cs (above-zero n (listed-some n cs ws due v c listed h)) h.sorted;
      awaited_sorted = h.awaited_sorted;
      listed = λ m ne. put-other m n c' cs ne;
      awaited = λ m ne. refl;
      owed = λ m ne. refl;
      used = λ m ne. refl;
    })

-- a reply that ties no channel is awaited, and it came
pub on-await-untied : (n : ℕ) (reply : Reply) (cs : Listed) (ws : Replies) (due : ℕ → ℕ) (v : Speech) (promise : Option ℕ) → is_tied reply ≡ false → TiesChannels cs ws due v
    → TiesChannels cs (expected n (record { reply = reply; promise = promise }) ws) due v
on-await-untied n reply cs ws due v promise untied h =
    let a : Awaited = record { reply = reply; promise = promise } in
    on-alike cs ws (expected n a ws) due due v (expected-ascend n a ws h.awaited_sorted)
    (λ m.
    elim (cases_eq m n) [
      | inl is ↦
          ap (λ k. tied_on k (expected n a ws)) is ∙ expected-same n a ws
          ∙ ap (λ b. tied_on n ws ++ (if b then reply ∷ [] else [])) untied ∙ append-nil (tied_on n ws)
          ∙ ap (λ k. tied_on k ws) (sym is)
      | inr ne ↦ expected-other m n a ws ne
    ])
    (λ m. refl) h

pub on-answered-untied : (n : ℕ) (reply : Reply) (cs : Listed) (ws : Replies) (due : ℕ → ℕ) (v : Speech) → is_tied reply ≡ false → TiesChannels cs ws due v
    → TiesChannels cs (left_awaited n reply ws) due v
on-answered-untied n reply cs ws due v untied h =
    on-alike cs ws (left_awaited n reply ws) due due v (answered-ascend n reply ws h.awaited_sorted)
    (λ m. untied-answered m n reply ws untied h.awaited_sorted) (λ m. refl) h

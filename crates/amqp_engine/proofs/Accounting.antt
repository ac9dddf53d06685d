-- What can be seen of a client is carried: what it was told to send is what went out, and what was handed out came.
use Rattle.std.proofs.Common.{◌≡◌, ◌≤◌, ◌⊎◌, inl, inr, ◌∙◌, ap, sym, subst, refl, ℕ, suc, ◌==◌, ◌||◌, Bool, true, false, true≢false, List, [], ◌∷◌, ◌++◌, length, map, Option, Some, None, is_some, Result, Ok, Err, slice_get, append-nil, arith}
use Rattle.std.specs.Option.{option_or}
use Rattle.std.specs.List.{AllByRecursion}
use Rattle.amqp_frame.specs.declared.frame.Frame.{Frame}
use Rattle.amqp_promise.specs.declared.error.ErrorKind.{ErrorKind}
use Rattle.amqp_promise.specs.declared.error.ErrorKind.TheVariants.{ChannelsLimitReached}
use Rattle.amqp_commands.specs.declared.command.Cmd.{Cmd}
use Rattle.amqp_commands.specs.declared.command.Cmd.TheVariants.{OpenChannel}
use Rattle.amqp_answers.specs.declared.answer.Answer.{Answer}
use Rattle.amqp_answers.specs.declared.answer.Answer.TheVariants as says
use Rattle.amqp_answers.specs.declared.handed.Handed.{Handed}
use Rattle.amqp_maps.specs.Listed.{at}
use Rattle.amqp_rules.specs.Talk.{Talk, end_of, has_ended}
use Rattle.amqp_rules.specs.Answers.{answer_of}
use Rattle.amqp_carried_rules.specs.CommandFrames.{is_send, is_publish, is_sent}
use Rattle.amqp_carried_rules.proofs.Bearing.{carries, told-made, command_at}
use Rattle.amqp_carried_rules.specs.HandingOut.{handed_on}
use Rattle.amqp_carried_rules.proofs.Entries.{each-at, all-then}
use Rattle.amqp_carried_rules.proofs.Openers.{IsOpener, HoldsOpening}
use Rattle.amqp_engine.specs.Engine.{Engine}
use Rattle.amqp_engine.specs.Carried.{concatenated, Account, says_sent, answered_sent, AreSent, AreCut, Merges, WentOut, IsOpenedBy, IsParted, Carried}
use Rattle.amqp_engine.specs.Turn.{Turn, asks, applied, IsApplied}
use Rattle.amqp_engine.specs.Account.{History, HasHistory, add_turn, account}
use Rattle.amqp_engine.proofs.History.{same-sent, kind-front}
use Rattle.amqp_engine.proofs.Departing.{AreOver}
use Rattle.amqp_engine.proofs.Conveying.{raws, Carries, renew}
use Rattle.amqp_engine.proofs.WentOut.{carries-asks, carries-applied}
use Rattle.amqp_engine.proofs.Knowing.{untaken, known-asks}
use Rattle.amqp_engine.proofs.Parting.{kept_of, IsBy, Openings}
use Rattle.amqp_engine.proofs.CameIn.{Came, came-stays, asks-stays}
use Rattle.amqp_engine.proofs.CameRead.{came-applied}
use Rattle.amqp_engine.proofs.Answered.{says-as, answer-held, answer-not}
use Rattle.amqp_engine.proofs.HistoryKept.{carries-history, came-history, never-ends, or-false}
use Rattle.amqp_engine.proofs.Over.{asks-end}
use Rattle.amqp_engine.proofs.TurnEnds.{never-limit}
use Rattle.amqp_types.proofs.Small.{the-number}
use Rattle.std.specs.Prelude.{filter, cond}

-- ---- what went out

-- what was sent, by the promises as they are at the end
same-at : (is_kind : Cmd → Bool) (cs : List Cmd) (answered answered' : ℕ → Bool) (fss : List (List Frame)) → ((n : ℕ) → n ≤ length cs → answered' n ≡ answered n)
    → AreSent is_kind answered 1 cs fss → AreSent is_kind answered' 1 cs fss
same-at is_kind cs answered answered' fss f h =
    same-sent is_kind answered answered' 1 cs fss
    (λ j d m g t e. (let is : m ≡ suc j = omega (arith, e) in f m (told-made cs m d (ap (command_at cs) is ∙ g)))) h

-- links that are over are cut
cut-from : (a : Account) (answered : ℕ → Bool) (low : ℕ) → ((n : ℕ) → n ≤ length a.commands → answered_sent a n ≡ answered n) → (links kept : List (List Frame))
    → AreOver a.commands answered low links kept → AreCut a links kept
cut-from a answered low f [] [] h = tt
cut-from a answered low f (fs ∷ links) (ks ∷ kept) h = (
  record {
    part = h.0.part;
    frames = h.0.frames;
    torn = elim h.0.torn [
      | inl e ↦ inl e
      | inr x ↦
          let front = kind-front a.commands x.number x.command x.told in
          inr (record {
            before = front.0;
            command = x.command;
            told = front.2;
            publish = x.publish;
            unanswered = ap (answered_sent a) (sym front.1) ∙ f x.number (told-made a.commands x.number x.command x.told) ∙ x.unanswered;
            rest = x.rest;
            proper = x.proper;
            frames = x.frames;
          })
    ];
  },
  cut-from a answered low f links kept h.1,
)
cut-from a answered low f [] (ks ∷ kept) h = absurd h
cut-from a answered low f (fs ∷ links) [] h = absurd h

-- a command that opens a channel has no frames
opens-none : (o : Option Cmd) → o ≡ Some OpenChannel → carries o ≡ true → ⊥
opens-none o is carry = true≢false (sym carry ∙ ap carries is)

module _ (t : Talk) (h : History) (k : Carries h.taken h.given h.commands t h.sent) where
  abbrev a : Account
  a = account t h

  abbrev cs : List Cmd
  cs = h.commands

  -- an answer that was taken is held no more
  not-held : (n : ℕ) → is_some (h.taken n) ≡ true → is_sent (at n t.promises) ≡ false
  not-held n gone = by (at n t.promises) refl where
    by : (o : Option (Option (Result Answer ErrorKind))) → at n t.promises ≡ o → is_sent o ≡ false
    by None here = refl
    by (Some slot) here =
        let holds : HoldsOpening cs k.opens (λ m. is_some (h.taken m)) n slot = each-at (HoldsOpening cs k.opens (λ m. is_some (h.taken m))) n t.promises slot k.knows.held here in
        absurd (true≢false (sym gone ∙ holds.untaken))

  -- what was answered Sent, whether it was taken or not
  ever-sent : (n : ℕ) → n ≤ length cs → answered_sent a n ≡ k.ever n
  ever-sent n le = by (h.taken n) refl where
    by : (o : Option (Result Answer ErrorKind)) → h.taken n ≡ o → says_sent (option_or o (answer_of n t)) ≡ k.ever n
    by None is =
        says-as (end_of t) (at n t.promises) ∙ k.at.agrees n le ∙ sym (k.both n ∙ ap (λ o. says_sent o || k.answered n) is)
    by (Some x) is =
        let off : k.answered n ≡ false = sym (k.at.agrees n le) ∙ not-held n (ap is_some is) in
        sym (k.both n ∙ ap (λ o. says_sent o || k.answered n) is ∙ or-false (says_sent (Some x)) (k.answered n) off)

  went-out : WentOut a
  went-out =
      let n = renew cs k.ever k.reading k.before k.sofar (raws h.sent) k.known k.at.low k.links in
      let x = n.known in
      let p = x.past in
      let M : List (List Frame) → Type 0 = λ xs. Merges p.sends p.publishes xs in
      let all : concatenated x.order ++ x.last ≡ concatenated x.order = ap (λ xs. concatenated x.order ++ xs) n.none_last ∙ append-nil (concatenated x.order) in
      record {
        order = x.order;
        cut = cut-from a k.ever n.reading.publishes ever-sent (raws h.sent) (map concatenated x.order) x.over;
        sends = p.sends;
        publishes = p.publishes;
        are_sends = same-at is_send cs k.ever (answered_sent a) p.sends ever-sent p.are_sends;
        are_publishes = same-at is_publish cs k.ever (answered_sent a) p.publishes ever-sent p.are_publishes;
        in_turns = subst M all p.in_turns;
      }

  -- ---- by which promise a frame was handed out

  -- what was handed out, and who opened its channels
  module _ (handed : List (ℕ × Handed)) (o : Openings (kept_of h) t handed) (ended : end_of t ≡ Some (Err ChannelsLimitReached) → ⊥) where
    -- what a command that opens a channel was answered, where that is no error
    answer-known : (number : ℕ) (y : Answer) → command_at cs number ≡ Some OpenChannel → a.answers number ≡ Some (Ok y) → y ≡ says.Channel (o.opens number) number
    answer-known number y told is = elim (by (h.taken number) refl is) [
      | inl e ↦ e
      | inr e ↦
          let sent : answered_sent a number ≡ true = ap says_sent is ∙ ap (λ z. says_sent (Some (Ok z))) e in
          let ever : k.ever number ≡ true = sym (ever-sent number (told-made cs number OpenChannel told)) ∙ sent in
          absurd (opens-none (command_at cs number) told (k.known.past.only number ever))
    ] where
      by : (x : Option (Result Answer ErrorKind)) → h.taken number ≡ x → option_or x (answer_of number t) ≡ Some (Ok y) → (y ≡ says.Channel (o.opens number) number) ⊎ (y ≡ says.Sent)
      by (Some x) gone given = (o.answers number (Ok y) (gone ∙ given)).answer y told refl
      by None gone given =
          let held : at number t.promises ≡ Some (Some (Ok y)) = answer-held (end_of t) (at number t.promises) y given in
          (each-at (HoldsOpening cs o.opens untaken) number t.promises (Some (Ok y)) o.knows.held held).answer y told refl

    -- and where it opened one, it was not answered that no number was free
    not-refused : (number : ℕ) → command_at cs number ≡ Some OpenChannel → 1 ≤ o.opens number → a.answers number ≡ Some (Err ChannelsLimitReached) → ⊥
    not-refused number told some is = by (h.taken number) refl is where
      by : (x : Option (Result Answer ErrorKind)) → h.taken number ≡ x → option_or x (answer_of number t) ≡ Some (Err ChannelsLimitReached) → ⊥
      by (Some x) gone given = o.untold number told some (gone ∙ given)
      by None gone given = answer-not (end_of t) (at number t.promises) ended (o.unrefused number told some) given

    -- a frame was handed out by the promise that opened its channel
    opener-is : (number : ℕ) (x : Handed) → IsOpener cs o.opens x.channel number → IsOpenedBy a number x
    opener-is number x p =
        let front = kind-front cs number OpenChannel p.command in
        let some : 1 ≤ o.opens number = omega (arith, p.some, p.number) in
        record {
          before = front.0;
          number = front.1;
          command = front.2;
          answer = λ y is. answer-known number y p.command is ∙ ap (λ n. says.Channel n number) p.number;
          listed = not-refused number p.command some;
        }

    -- of all that was handed out, what a promise did
    openers-on : (number : ℕ) (hs : List (ℕ × Handed)) → AllByRecursion (IsBy cs o.opens) hs → AllByRecursion (λ (x : Handed). IsOpener cs o.opens x.channel number) (handed_on number hs)
    openers-on number [] all = tt
    openers-on number (x ∷ hs) all = by (x.0 == number) refl (openers-on number hs all.1) where
      P : Handed → Type 0
      P y = IsOpener cs o.opens y.channel number

      by : (b : Bool) → (x.0 == number) ≡ b → AllByRecursion P (handed_on number hs)
          → AllByRecursion P (map (λ (y : ℕ × Handed). y.1) (cond b (x ∷ filter (λ (y : ℕ × Handed). y.0 == number) hs) (filter (λ (y : ℕ × Handed). y.0 == number) hs)))
      by true is rest = (subst (λ p. IsOpener cs o.opens (x.1).channel p) (the-number x.0 number is) all.0, rest)
      by false is rest = rest

    module _ (each : (opened : ℕ) → handed_on opened handed ≡ a.handed opened) where
      openers : (number : ℕ) → AllByRecursion (λ (x : Handed). IsOpener cs o.opens x.channel number) (a.handed number)
      openers number =
          subst (λ (hs : List Handed). AllByRecursion (λ (x : Handed). IsOpener cs o.opens x.channel number) hs) (each number) (openers-on number handed o.shown.openers)

      opened-by : (number : ℕ) → AllByRecursion (IsOpenedBy a number) (a.handed number)
      opened-by number = all-then (λ (x : Handed). IsOpener cs o.opens x.channel number) (IsOpenedBy a number) (opener-is number) (a.handed number) (openers number)

      -- the promise of a command opens one channel
      one-channel : (number : ℕ) → (channel : ℕ) × AllByRecursion (λ (x : Handed). x.channel ≡ channel) (a.handed number)
      one-channel number = (
        o.opens number,
        all-then (λ (x : Handed). IsOpener cs o.opens x.channel number) (λ (x : Handed). x.channel ≡ o.opens number) (λ x p. sym p.number) (a.handed number) (openers number),
      )

    -- an opening parts what was handed out
    parted-by : (before channel : ℕ) → slice_get cs before ≡ Some OpenChannel → a.answers (suc before) ≡ Some (Ok (says.Channel channel (suc before)))
        → IsParted (h.came_before (suc before)) channel (suc before) handed
    parted-by before channel told is =
        let number : ℕ = suc before in
        let P : ℕ → Type 0 = λ n. IsParted (h.came_before number) n number handed in
        let known : says.Channel channel number ≡ says.Channel (o.opens number) number = answer-known number (says.Channel channel number) told is in
        let same : channel ≡ o.opens number = cc in
        subst P (sym same) (o.shown.parts number told)

-- what is known of an engine with a history
pub record Knows (e : Engine) (h : History) : Type 0 where
  pub carries : Carries h.taken h.given h.commands e.talk h.sent
  pub came : Came true (kept_of h) e h.came
  pub ended : end_of e.talk ≡ Some (Err ChannelsLimitReached) → ⊥

pub knows-asks : (e : Engine) (h : History) → Knows e h → Knows (asks e) h
knows-asks e h k =
    record {
      carries = carries-asks h.taken h.given e h.commands h.sent k.carries;
      came = came-stays (kept_of h) h.came true e (asks e) (asks-stays e) (known-asks e) k.came;
      ended = λ is. k.ended (sym (asks-end e) ∙ is);
    }

pub knows-applied : (u : Turn) (e : Engine) (h : History) → has_ended e.talk ≡ false → IsApplied u e → Knows e h → Knows (applied u e) (add_turn u e h)
knows-applied u e h running may k =
    record {
      carries = carries-applied h.taken h.given u e h.commands h.sent may k.carries;
      came = came-applied (kept_of h) h.came u e running may k.came;
      ended = never-limit u e running;
    }

pub knows-history : (e : Engine) (h : History) → HasHistory e h → Knows e h
knows-history e h has = record { carries = carries-history e h has; came = came-history e h has; ended = never-ends e h has }

-- what can be seen of it is carried
pub knows-carried : (e : Engine) (h : History) → Knows e h → Carried (account e.talk h)
knows-carried e h k =
    let c = k.came in
    record {
      went_out = went-out e.talk h k.carries;
      came_in =
          record {
            handed = c.handed;
            each = c.each;
            came = record { read = c.read; stand = c.links; order = c.order };
            opened = opened-by e.talk h k.carries c.handed c.openings k.ended c.each;
            one = one-channel e.talk h k.carries c.handed c.openings k.ended c.each;
            parted = parted-by e.talk h k.carries c.handed c.openings k.ended;
          };
    }

pub history-carried : (e : Engine) (h : History) → HasHistory e h → Carried (account e.talk h)
history-carried e h has = knows-carried e h (knows-history e h has)

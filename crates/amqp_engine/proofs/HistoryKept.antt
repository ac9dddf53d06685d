-- What is known of a client through its whole history: what it was told, its turns, and what was taken of it.
use Rattle.std.proofs.Common.{◌≡◌, ◌≢◌, ◌≤◌, ◌⊎◌, inl, inr, ◌∙◌, ap, sym, subst, refl, ℕ, zero, suc, ◌==◌, ◌||◌, if◌then◌else◌, Bool, true, false, true≢false, List, [], ◌++◌, length, append-nil, unwrap_or, Option, Some, None, is_some, Result, Ok, Err, arith}
use Rattle.std.proofs.lemmas.Bool.{cases_eq, cases_lt}
use Rattle.std.specs.Option.{option_or}
use Rattle.std.specs.List.{AllByRecursion}
use Rattle.amqp_promise.specs.declared.error.ErrorKind.{ErrorKind}
use Rattle.amqp_promise.specs.declared.error.ErrorKind.TheVariants.{ChannelsLimitReached}
use Rattle.amqp_commands.specs.declared.command.Cmd.{Cmd}
use Rattle.amqp_answers.specs.declared.answer.Answer.{Answer}
use Rattle.amqp_answers.specs.declared.answer.Answer.TheVariants as says
use Rattle.amqp_commands.specs.declared.command.Cmd.TheVariants.{OpenChannel}
use Rattle.amqp_answers.specs.declared.handed.Handed.{Handed}
use Rattle.amqp_settings.specs.Config.{Config}
use Rattle.amqp_answers.specs.Events.{Noted}
use Rattle.amqp_maps.specs.Listed.{at, without}
use Rattle.amqp_rules.specs.Talk.{Talk, start, end_of, end_of_link}
use Rattle.amqp_rules.proofs.Keeping.{stays-command}
use Rattle.amqp_rules.specs.ChannelMethods.{frames_of}
use Rattle.amqp_rules.specs.Answers.{answer_of, take_answer, take_event, take_frames}
use Rattle.amqp_rules.specs.Sound.{IsSound}
use Rattle.amqp_types.proofs.Small.{if_case, if-true, none-from, equal-numbers, other-number}
use Rattle.amqp_rules.proofs.Ascending.{at-gone, none-above, without-ascends}
use Rattle.amqp_maps.proofs.Numbered.{without-other}
use Rattle.amqp_rules.proofs.SoundChanges.{sound-noted}
use Rattle.amqp_rules.proofs.Soundness.{sound-answer, sound-frames, sound-start}
use Rattle.amqp_carried_rules.specs.CommandFrames.{is_sent}
use Rattle.amqp_carried_rules.specs.HandingOut.{handed_on}
use Rattle.amqp_carried_rules.proofs.Bearing.{command_at}
use Rattle.amqp_carried_rules.proofs.Entries.{each-at, each-list}
use Rattle.amqp_carried_rules.proofs.Openers.{IsOpener, AnswersOpening, HoldsOpening, knows-answer, knows-frames}
use Rattle.amqp_carried_rules.proofs.OpeningCommands.{knows-start}
use Rattle.amqp_carried_rules.proofs.Taking.{at-answer, at-noted, at-frames}
use Rattle.amqp_engine.specs.Sending.{Sending}
use Rattle.amqp_engine.specs.Engine.{Engine, begin, with_talk}
use Rattle.amqp_engine.specs.Turn.{asks}
use Rattle.amqp_engine.specs.Carried.{says_sent, AreSent, Merges, IsSubsequence}
use Rattle.amqp_engine.specs.Account.{History, nothing_told, HasHistory, new, asked, applies, told, answer_taken, event_taken, frames_taken}
use Rattle.amqp_engine.proofs.Answered.{says-as, answer-held, there}
use Rattle.amqp_engine.proofs.EventTaken.{event-case}
use Rattle.amqp_channels.proofs.Walking.{all-append}
use Rattle.amqp_engine.proofs.Conveying.{Carries, same-last, carries-given, carries-rule, carries-command}
use Rattle.amqp_engine.proofs.WentOut.{carries-asks, carries-applied}
use Rattle.amqp_engine.proofs.Knowing.{IsBounded, known-asks}
use Rattle.amqp_engine.proofs.Parting.{Kept, kept_of, Openings, openings-start, openings-answer, openings-noted, openings-frames}
use Rattle.amqp_engine.proofs.CameIn.{Came, Stays, last-kept, plain-stays, came-stays, came-with, came-told, asks-stays}
use Rattle.amqp_engine.proofs.CameRead.{came-applied}
use Rattle.amqp_engine.proofs.Over.{asks-end}
use Rattle.amqp_engine.proofs.TurnEnds.{never-limit}

-- ---- answers

or-none : (o : Option (Result Answer ErrorKind)) → option_or o None ≡ o
or-none None = refl
or-none (Some a) = refl

pub or-false : (b c : Bool) → c ≡ false → (b || c) ≡ b
or-false true c is = refl
or-false false c is = is

none-or : (o p : Option (Result Answer ErrorKind)) → o ≡ None → option_or o p ≡ p
none-or None p is = refl
none-or (Some a) p is = absurd cc

module _ (taken : ℕ → Option (Result Answer ErrorKind)) (given : ℕ → List Handed) (cs : List Cmd) (ss : List Sending) (number : ℕ) (t : Talk) (h : Carries taken given cs t ss) where
  abbrev with_answer : Option (Result Answer ErrorKind) → ℕ → Option (Result Answer ErrorKind)
  with_answer o n = if n == number then option_or (taken n) o else taken n

  abbrev left : Talk
  left = record t { promises = without number t.promises }

  -- the promises that are answered Sent, whether they were made or not
  agrees-all : (n : ℕ) → is_sent (at n t.promises) ≡ h.answered n
  agrees-all n = elim (cases_lt (length cs) n) [
    | inl above ↦
        (let none_there : at n t.promises ≡ None = none-above n t.made t.promises (omega (arith, above, h.at.made)) h.sound.promises.1 in
        ap is_sent none_there ∙ sym (h.at.fresh n above))
    | inr le ↦ h.at.agrees n le
  ]

  module _ (a : Result Answer ErrorKind) (is : answer_of number t ≡ Some a) where
    slot : (x : Option (Result Answer ErrorKind)) × (at number t.promises ≡ Some x)
    slot = there (end_of t) (at number t.promises) a is

    holds : HoldsOpening cs h.opens (λ n. is_some (taken n)) number slot.0
    holds = each-at (HoldsOpening cs h.opens (λ n. is_some (taken n))) number t.promises slot.0 h.knows.held slot.1

    untaken : taken number ≡ None
    untaken = none-from (taken number) holds.untaken

    here : (n : ℕ) → n ≡ number → with_answer (Some a) n ≡ Some a
    here n e =
        ap (λ b. if b then option_or (taken n) (Some a) else taken n) (equal-numbers n number e)
        ∙ none-or (taken n) (Some a) (ap taken e ∙ untaken)

    elsewhere : (n : ℕ) → n ≢ number → with_answer (Some a) n ≡ taken n
    elsewhere n ne = ap (λ b. if b then option_or (taken n) (Some a) else taken n) (other-number n number ne)

    both-taken : (n : ℕ) → h.ever n ≡ (says_sent (with_answer (Some a) n) || is_sent (at n left.promises))
    both-taken n = elim (cases_eq n number) [
      | inl e ↦
          (let off : is_sent (at n left.promises) ≡ false = taken-gone n e in
          let before : h.ever n ≡ is_sent (at n t.promises) = h.both n ∙ ap (λ o. says_sent o || h.answered n) (ap taken e ∙ untaken) ∙ sym (agrees-all n) in
          let now : is_sent (at n t.promises) ≡ says_sent (Some a) = ap (λ m. is_sent (at m t.promises)) e ∙ sym (says-as (end_of t) (at number t.promises)) ∙ ap says_sent is in
          before ∙ now ∙ sym (ap (λ o. says_sent o || is_sent (at n left.promises)) (here n e) ∙ or-false (says_sent (Some a)) (is_sent (at n left.promises)) off))
      | inr ne ↦
          h.both n ∙ ap (λ o. says_sent o || h.answered n) (sym (elsewhere n ne))
          ∙ ap (λ b. says_sent (with_answer (Some a) n) || b) (sym (agrees-all n) ∙ ap is_sent (sym (without-other n number t.promises ne)))
    ] where
      taken-gone : (n : ℕ) → n ≡ number → is_sent (at n left.promises) ≡ false
      taken-gone n e = ap (λ m. is_sent (at m left.promises)) e ∙ ap is_sent (at-gone number t.promises h.sound.promises.0)

    own : AnswersOpening cs h.opens number (Some a)
    own = record { made = holds.made; answer = λ x opened e. answers x opened (is ∙ e) } where
      answers : (x : Answer) → command_at cs number ≡ Some OpenChannel → answer_of number t ≡ Some (Ok x) → (x ≡ says.Channel (h.opens number) number) ⊎ (x ≡ says.Sent)
      answers x opened e =
          let held : at number t.promises ≡ Some (Some (Ok x)) = answer-held (end_of t) (at number t.promises) x e in
          (each-at (HoldsOpening cs h.opens (λ n. is_some (taken n))) number t.promises (Some (Ok x)) h.knows.held held).answer x opened refl

    took-it : Carries (with_answer (Some a)) given cs left ss
    took-it =
        let same : take_answer number t ≡ left = if-true (is_some (answer_of number t)) left t (ap is_some is) in
        record {
          answered = λ n. is_sent (at n left.promises);
          ever = h.ever;
          both = both-taken;
          reading = h.reading;
          left = h.left;
          before = h.before;
          sofar = h.sofar;
          at = at-answer cs h.answered h.reading h.left number a t h.sound is h.at;
          known = h.known;
          opens = h.opens;
          knows = knows-answer cs h.opens (λ n. is_some (taken n)) (λ n. is_some (with_answer (Some a) n)) number t h.sound.promises.0 (λ p ne. ap is_some (elsewhere p ne)) h.knows;
          takes = record { answers = answers; frames = h.takes.frames };
          sound = subst IsSound same (sound-answer number t h.sound);
          last = λ o. same-last h.left h.before h.sofar t left ss (o, refl) (h.last o);
          links = h.links;
        }
      where
        answers : (p : ℕ) (b : Result Answer ErrorKind) → with_answer (Some a) p ≡ Some b → AnswersOpening cs h.opens p (Some b)
        answers p b e = elim (cases_eq p number) [
          | inl k ↦
              (let same : Some a ≡ Some b = sym (here p k) ∙ e in
              let P : Option (Result Answer ErrorKind) → Type 0 = λ o. AnswersOpening cs h.opens number o in
              let Q : ℕ → Type 0 = λ m. AnswersOpening cs h.opens m (Some b) in
              subst Q (sym k) (subst P same own))
          | inr ne ↦ h.takes.answers p b (sym (elsewhere p ne) ∙ e)
        ]

  -- an answer is taken, where there is one
  by-answer : (o : Option (Result Answer ErrorKind)) → answer_of number t ≡ o → Carries (with_answer o) given cs (if is_some o then left else t) ss
  by-answer None is =
      let same : (n : ℕ) → taken n ≡ with_answer None n = λ n. if_case (λ o. taken n ≡ o) (n == number) (option_or (taken n) None) (taken n) (sym (or-none (taken n))) refl in
      let P : (ℕ → Option (Result Answer ErrorKind)) → Type 0 = λ f. Carries f given cs t ss in
      subst P (λ i n. same n i) h
  by-answer (Some a) is = took-it a is

  pub carries-answer : Carries (with_answer (answer_of number t)) given cs (take_answer number t) ss
  carries-answer = by-answer (answer_of number t) refl

module _ (taken : ℕ → Option (Result Answer ErrorKind)) (given : ℕ → List Handed) (cs : List Cmd) (ss : List Sending) (t : Talk) (h : Carries taken given cs t ss) where
  -- an event is taken
  pub carries-event : Carries taken given cs (take_event t) ss
  carries-event = event-case (λ (x : Talk). Carries taken given cs x ss) t noted h where
    noted : (ns : Noted) → Carries taken given cs (record t { noted = ns }) ss
    noted ns =
        carries-rule taken given cs t (record t { noted = ns }) ss (λ answered r left a. at-noted cs answered r left ns t a)
        (λ opens k. record { listed = k.listed; held = k.held; awaited = k.awaited; handed = k.handed }) (λ o. (o, refl)) (sound-noted ns t) h

  -- frames are taken
  pub carries-frames : (opened : ℕ) → Carries taken (λ n. if n == opened then given n ++ frames_of opened t else given n) cs (take_frames opened t) ss
  carries-frames opened =
      carries-given taken given (λ n. if n == opened then given n ++ frames_of opened t else given n) cs t (take_frames opened t) ss
      (λ answered r left a. at-frames cs answered r left opened t a) (λ opens k. knows-frames cs opens (λ n. is_some (taken n)) opened t k)
      (λ o. (o, refl)) (sound-frames opened t) h frames
    where
      frames : (p : ℕ) → AllByRecursion (λ (x : Handed). IsOpener cs h.opens x.channel p) (if p == opened then given p ++ frames_of opened t else given p)
      frames p = elim (cases_eq p opened) [
        | inl e ↦
            (let P : List Handed → Type 0 = λ xs. AllByRecursion (λ (x : Handed). IsOpener cs h.opens x.channel p) xs in
            let Q : ℕ → Type 0 = λ m. AllByRecursion (λ (x : Handed). IsOpener cs h.opens x.channel p) (frames_of m t) in
            let now : AllByRecursion (λ (x : Handed). IsOpener cs h.opens x.channel p) (frames_of p t) = each-list (λ m (x : Handed). IsOpener cs h.opens x.channel m) p t.handed h.knows.handed in
            subst P (sym (ap (λ b. if b then given p ++ frames_of opened t else given p) (equal-numbers p opened e)))
            (all-append (λ (x : Handed). IsOpener cs h.opens x.channel p) (given p) (frames_of opened t) (h.takes.frames p) (subst Q e now)))
        | inr ne ↦
            (let P : List Handed → Type 0 = λ xs. AllByRecursion (λ (x : Handed). IsOpener cs h.opens x.channel p) xs in
            subst P (sym (ap (λ b. if b then given p ++ frames_of opened t else given p) (other-number p opened ne))) (h.takes.frames p))
      ]

-- ---- a new client

zero-only : (n : ℕ) (config : Config) → n ≤ 0 → is_sent (at n (start config).promises) ≡ false
zero-only zero config le = refl
zero-only (suc n) config le = absurd (omega (arith, le))

carries-start : (config : Config) → Carries (λ n. None) (λ opened. []) [] (start config) []
carries-start config =
    record {
      answered = λ n. false;
      ever = λ n. false;
      both = λ n. refl;
      reading = record { part = []; sends = 0; publishes = 0 };
      left = [];
      before = [];
      sofar = [];
      at = record { made = refl; agrees = λ n le. zero-only n config le; fresh = λ n le. refl; sized = λ k. absurd cc; low = (omega arith, omega arith); bears = λ o. absurd cc };
      known = record {
        order = [];
        last = [];
        some = tt;
        over = tt;
        past = record {
          sends = [];
          publishes = [];
          are_sends = AreSent.none;
          are_publishes = AreSent.none;
          in_turns = Merges.none;
          sends_over = λ k c told s le. refl;
          publishes_over = λ k c told s le. refl;
          only = λ k is. absurd (true≢false (sym is));
        };
        unclosed = inl refl;
        split = refl;
      };
      opens = λ p. 0;
      knows = knows-start config;
      takes = record { answers = λ p a is. absurd cc; frames = λ p. tt };
      sound = sound-start config;
      last = λ o. absurd cc;
      links = inr (refl, refl);
    }

-- ---- the whole history

pub carries-history : (e : Engine) (h : History) → HasHistory e h → Carries h.taken h.given h.commands e.talk h.sent
carries-history e h (new config) = carries-start config
carries-history e h (asked {e = e'} {h = h'} k) = carries-asks h'.taken h'.given e' h'.commands h'.sent (carries-history e' h' k)
carries-history e h (applies {e = e'} {h = h'} u running may is_told fit k) = carries-applied h'.taken h'.given u e' h'.commands h'.sent may (carries-history e' h' k)
carries-history e h (told {e = e'} {h = h'} c may can k) = carries-command h'.taken h'.given h'.commands c e'.talk h'.sent (carries-history e' h' k)
carries-history e h (answer_taken {e = e'} {h = h'} number k) = carries-answer h'.taken h'.given h'.commands h'.sent number e'.talk (carries-history e' h' k)
carries-history e h (event_taken {e = e'} {h = h'} k) = carries-event h'.taken h'.given h'.commands h'.sent e'.talk (carries-history e' h' k)
carries-history e h (frames_taken {e = e'} {h = h'} opened k) = carries-frames h'.taken h'.given h'.commands h'.sent e'.talk (carries-history e' h' k) opened

-- ---- what came

came-start : (config : Config) → Came true (kept_of nothing_told) (begin (start config)) []
came-start config =
    record {
      room = omega arith;
      read = [];
      handed = [];
      each = λ opened. refl;
      order = IsSubsequence.none;
      sorted = tt;
      links = tt;
      last = λ is o. absurd cc;
      openings = openings-start config;
    }

answer-stays : (number : ℕ) (e : Engine) → Stays e (with_talk (take_answer number) e)
answer-stays number e =
    if_case (λ (t : Talk). Stays e (record e { talk = t })) (is_some (answer_of number e.talk)) (record e.talk { promises = without number e.talk.promises }) e.talk
    (plain-stays e (record e.talk { promises = without number e.talk.promises }) refl (λ o. o) refl) (plain-stays e e.talk refl (λ o. o) refl)

event-stays : (e : Engine) → Stays e (with_talk take_event e)
event-stays e =
    event-case (λ (t : Talk). Stays e (record e { talk = t })) e.talk (λ ns. plain-stays e (record e.talk { noted = ns }) refl (λ o. o) refl) (plain-stays e e.talk refl (λ o. o) refl)

-- an answer is taken
came-answer : (given : Kept) (came : List (List ℕ)) (number : ℕ) (e : Engine) → (end_of e.talk ≡ Some (Err ChannelsLimitReached) → ⊥) → Came true given e came
    → Came true (record given { taken = λ n. if n == number then option_or (given.taken n) (answer_of number e.talk) else given.taken n }) (with_talk (take_answer number) e) came
came-answer given came number e ended h =
    came-with given came (record given { taken = λ n. if n == number then option_or (given.taken n) (answer_of number e.talk) else given.taken n }) true e (with_talk (take_answer number) e) refl (answer-stays number e)
    (if_case IsBounded (is_some (answer_of number e.talk)) (record e.talk { promises = without number e.talk.promises }) e.talk h.room h.room) h (openings-answer given number e.talk h.handed ended h.openings)

-- an event is taken
came-event : (given : Kept) (came : List (List ℕ)) (e : Engine) → Came true given e came → Came true given (with_talk take_event e) came
came-event given came e h =
    came-with given came given true e (with_talk take_event e) refl (event-stays e) (event-case IsBounded e.talk (λ ns. h.room) h.room) h
    (event-case (λ (t : Talk). Openings given t h.handed) e.talk (λ ns. openings-noted given e.talk ns h.handed h.openings) h.openings)

-- frames are taken
came-frames : (given : Kept) (came : List (List ℕ)) (opened : ℕ) (e : Engine) → Came true given e came
    → Came true (record given { given = λ n. if n == opened then given.given n ++ frames_of opened e.talk else given.given n }) (with_talk (take_frames opened) e) came
came-frames given came opened e h =
    record {
      room = h.room;
      read = h.read;
      handed = h.handed;
      each = each;
      order = h.order;
      sorted = without-ascends opened e.talk.handed h.sorted;
      links = h.links;
      last = λ is o. (let l = h.last is o in last-kept e (with_talk (take_frames opened) e) came h.read l l.unread l.dropped);
      openings = openings-frames given more opened e.talk h.handed h.openings;
    }
  where
    t : Talk
    t = take_frames opened e.talk

    more : ℕ → List Handed
    more n = if n == opened then given.given n ++ frames_of opened e.talk else given.given n

    each : (n : ℕ) → handed_on n h.handed ≡ more n ++ frames_of n t
    each n = elim (cases_eq n opened) [
      | inl k ↦
          (let none_left : frames_of n t ≡ [] =
          ap (λ m. frames_of m t) k ∙ ap (λ (o : Option (List Handed)). unwrap_or o []) (at-gone opened e.talk.handed h.sorted) in
          let now : more n ≡ given.given n ++ frames_of opened e.talk = ap (λ b. if b then given.given n ++ frames_of opened e.talk else given.given n) (equal-numbers n opened k) in
          h.each n ∙ ap (λ m. given.given n ++ frames_of m e.talk) k ∙ sym now ∙ sym (append-nil (more n)) ∙ ap (λ fs. more n ++ fs) (sym none_left))
      | inr ne ↦
          (let now : more n ≡ given.given n = ap (λ b. if b then given.given n ++ frames_of opened e.talk else given.given n) (other-number n opened ne) in
          let same : frames_of n t ≡ frames_of n e.talk = ap (λ (o : Option (List Handed)). unwrap_or o []) (without-other n opened e.talk.handed ne) in
          h.each n ∙ ap (λ fs. fs ++ frames_of n e.talk) (sym now) ∙ ap (λ fs. more n ++ fs) (sym same))
    ]

-- no session ends since no number was free
pub never-ends : (e : Engine) (h : History) → HasHistory e h → end_of e.talk ≡ Some (Err ChannelsLimitReached) → ⊥
never-ends e h (new config) is = absurd cc
never-ends e h (asked {e = e'} {h = h'} k) is = never-ends e' h' k (sym (asks-end e') ∙ is)
never-ends e h (applies {e = e'} {h = h'} u running may is_told fit k) is = never-limit u e' running is
never-ends e h (told {e = e'} {h = h'} c may can k) is = never-ends e' h' k (sym (ap end_of_link (stays-command c e'.talk).link) ∙ is)
never-ends e h (answer_taken {e = e'} {h = h'} number k) is =
    let same : end_of (take_answer number e'.talk) ≡ end_of e'.talk =
    if_case (λ (t : Talk). end_of t ≡ end_of e'.talk) (is_some (answer_of number e'.talk)) (record e'.talk { promises = without number e'.talk.promises }) e'.talk refl refl in
    never-ends e' h' k (sym same ∙ is)
never-ends e h (event_taken {e = e'} {h = h'} k) is =
    let same : end_of (take_event e'.talk) ≡ end_of e'.talk = event-case (λ (t : Talk). end_of t ≡ end_of e'.talk) e'.talk (λ ns. refl) refl in
    never-ends e' h' k (sym same ∙ is)
never-ends e h (frames_taken {e = e'} {h = h'} opened k) is = never-ends e' h' k is

pub came-history : (e : Engine) (h : History) → HasHistory e h → Came true (kept_of h) e h.came
came-history e h (new config) = came-start config
came-history e h (asked {e = e'} {h = h'} k) = came-stays (kept_of h') h'.came true e' (asks e') (asks-stays e') (known-asks e') (came-history e' h' k)
came-history e h (applies {e = e'} {h = h'} u running may is_told fit k) = came-applied (kept_of h') h'.came u e' running may (came-history e' h' k)
came-history e h (told {e = e'} {h = h'} c may can k) = came-told (kept_of h') c e' h'.came (came-history e' h' k)
came-history e h (answer_taken {e = e'} {h = h'} number k) = came-answer (kept_of h') h'.came number e' (never-ends e' h' k) (came-history e' h' k)
came-history e h (event_taken {e = e'} {h = h'} k) = came-event (kept_of h') h'.came e' (came-history e' h' k)
came-history e h (frames_taken {e = e'} {h = h'} opened k) = came-frames (kept_of h') h'.came opened e' (came-history e' h' k)

-- What was handed out, parted by each command that opens a channel: what is known of it once more is handed out, and once a command is told.
use Rattle.std.proofs.Common.{◌≡◌, ◌<◌, ◌≤◌, ◌⊎◌, inl, inr, ◌∙◌, ap, sym, subst, refl, ℕ, zero, suc, ◌==◌, Bool, true, false, if◌then◌else◌, nat_lt, List, [], ◌∷◌, ◌++◌, length, Option, Some, None, is_some, Result, Ok, Err, append_assoc, append-nil, arith}
use Rattle.std.proofs.lemmas.Bool.{cases_eq, cases_lt}
use Rattle.std.specs.Option.{option_or}
use Rattle.std.proofs.lemmas.Bool.Decides.{nat_tests}
use Rattle.std.specs.List.{AllByRecursion}
use Rattle.amqp_promise.specs.declared.error.ErrorKind.{ErrorKind}
use Rattle.amqp_promise.specs.declared.error.ErrorKind.TheVariants.{ChannelsLimitReached}
use Rattle.amqp_commands.specs.declared.command.Cmd.{Cmd}
use Rattle.amqp_commands.specs.declared.command.Cmd.TheVariants.{OpenChannel}
use Rattle.amqp_answers.specs.declared.answer.Answer.{Answer}
use Rattle.amqp_answers.specs.declared.answer.Answer.TheVariants as says
use Rattle.amqp_answers.specs.declared.handed.Handed.{Handed}
use Rattle.amqp_settings.specs.Config.{Config}
use Rattle.amqp_answers.specs.Events.{Noted}
use Rattle.amqp_maps.specs.Listed.{at, without}
use Rattle.amqp_rules.specs.Talk.{Talk, start, end_of}
use Rattle.amqp_rules.specs.Commands.{command, takes_promise}
use Rattle.amqp_rules.specs.Answers.{answer_of, take_answer, take_frames}
use Rattle.amqp_rules.specs.Sound.{IsSound}
use Rattle.amqp_rules.proofs.Ascending.{at-gone}
use Rattle.amqp_answer_rules.specs.Answering.{IsLetGo}
use Rattle.amqp_rules.proofs.SoundChanges.{sound-noted}
use Rattle.amqp_rules.proofs.SoundCommands.{sound-command}
use Rattle.amqp_rules.proofs.Soundness.{sound-answer, sound-frames, sound-start}
use Rattle.amqp_answer_rules.proofs.OneMade.{makes-one}
use Rattle.amqp_answer_rules.proofs.OfRules.{keeps-promises}
use Rattle.amqp_types.proofs.Small.{if_case, equal-numbers, other-number, not-below}
use Rattle.amqp_carried_rules.proofs.Bearing.{command_at, told-made}
use Rattle.amqp_carried_rules.proofs.Commanding.{same-below, one-more}
use Rattle.amqp_carried_rules.proofs.Entries.{all-then, each-at}
use Rattle.amqp_carried_rules.proofs.Openers.{IsOpener, IsLatest, AnswersOpening, HoldsOpening, KnowsOpeners, knows-answer, knows-frames}
use Rattle.amqp_carried_rules.specs.CommandFrames.{answered_command}
use Rattle.amqp_carried_rules.proofs.OpeningCommands.{KnowsMore, knows-command, knows-start}
use Rattle.amqp_engine.specs.Carried.{AreSome, IsParted}
use Rattle.amqp_engine.specs.Account.{History, nothing_told, noted_before}
use Rattle.amqp_engine.proofs.Answered.{there, answer-held, answer-not}
use Rattle.amqp_engine.proofs.Knowing.{untaken, IsUnrefused, not-settled, leaving-not, KeepsKnown}
use Rattle.amqp_channels.proofs.Walking.{all-append}

-- what was told to a client, and taken of it
pub record Kept : Type 0 where
  pub commands : List Cmd
  pub came_before : ℕ → List (List ℕ)
  pub taken : ℕ → Option (Result Answer ErrorKind)
  pub given : ℕ → List Handed

abbrev pub kept_of : History → Kept
kept_of h = record { commands = h.commands; came_before = h.came_before; taken = h.taken; given = h.given }

-- some commands more were told, when so much had come
abbrev pub told_more : List Cmd → List (List ℕ) → Kept → Kept
told_more cs came k =
    record k { commands = k.commands ++ cs; came_before = noted_before cs (length k.commands) came k.came_before }

-- a frame was handed out by the promise that opened its channel
abbrev pub IsBy : List Cmd → (ℕ → ℕ) → ℕ × Handed → Type 0
IsBy cs opens h = IsOpener cs opens (h.1).channel h.0

-- and that was the last to open it
abbrev pub IsByLatest : List Cmd → (ℕ → ℕ) → ℕ × Handed → Type 0
IsByLatest cs opens h = IsLatest cs opens (h.1).channel h.0

-- all that was handed out, with the number that each promise opened
pub record Shown (cs : List Cmd) (opens : ℕ → ℕ) (noted : ℕ → List (List ℕ)) (handed : List (ℕ × Handed)) : Type 0 where
  pub openers : AllByRecursion (IsBy cs opens) handed
  pub parts : (p : ℕ) → command_at cs p ≡ Some OpenChannel → IsParted (noted p) (opens p) p handed

none-told : (p : ℕ) → command_at [] p ≡ Some OpenChannel → ⊥
none-told zero told = absurd cc
none-told (suc i) told = absurd (omega (arith, told-made [] (suc i) OpenChannel told))

-- nothing was told, and nothing handed out
pub shown-none : (opens : ℕ → ℕ) (noted : ℕ → List (List ℕ)) → Shown [] opens noted []
shown-none opens noted = record { openers = tt; parts = λ p told. absurd (none-told p told) }

-- more is handed out
pub shown-more : (cs : List Cmd) (opens : ℕ → ℕ) (noted : ℕ → List (List ℕ)) (handed more : List (ℕ × Handed)) → AllByRecursion (IsByLatest cs opens) more → Shown cs opens noted handed
    → Shown cs opens noted (handed ++ more)
shown-more cs opens noted handed more latest h =
    record {
      openers = all-append (IsBy cs opens) handed more h.openers (all-then (IsByLatest cs opens) (IsBy cs opens) (λ x l. l.opener) more latest);
      parts = parts;
    }
  where
    parts : (p : ℕ) → command_at cs p ≡ Some OpenChannel → IsParted (noted p) (opens p) p (handed ++ more)
    parts p told =
        let d = h.parts p told in
        let NotOlder : ℕ × Handed → Type 0 = λ x. (x.1).channel ≡ opens p → p ≤ x.0 in
        record {
          before = d.before;
          after = d.after ++ more;
          all = ap (λ xs. xs ++ more) d.all ∙ append_assoc d.before d.after more;
          had_come = d.had_come;
          earlier = d.earlier;
          later = all-append NotOlder d.after more d.later (all-then (IsByLatest cs opens) NotOlder (λ x l is. l.last p told (sym is)) more latest);
        }

-- commands are told: what was handed out so far had come
pub shown-told : (cs xs : List Cmd) (opens opens' : ℕ → ℕ) (noted : ℕ → List (List ℕ)) (came : List (List ℕ)) (handed : List (ℕ × Handed)) → AreSome came handed
    → ((n p : ℕ) → IsOpener cs opens n p → IsOpener (cs ++ xs) opens' n p) → ((p : ℕ) → p ≤ length cs → opens' p ≡ opens p)
    → ((p : ℕ) → p ≤ length cs → command_at (cs ++ xs) p ≡ command_at cs p)
    → Shown cs opens noted handed → Shown (cs ++ xs) opens' (noted_before xs (length cs) came noted) handed
shown-told cs [] opens opens' noted came handed some grows same below h =
    record {
      openers = all-then (IsBy cs opens) (IsBy (cs ++ []) opens') (λ x o. grows (x.1).channel x.0 o) handed h.openers;
      parts = λ p told.
          (let le : p ≤ length cs = omega (arith, told-made (cs ++ []) p OpenChannel told, ap length (append-nil cs)) in
          let P : ℕ → Type 0 = λ n. IsParted (noted p) n p handed in
          subst P (sym (same p le)) (h.parts p (sym (below p le) ∙ told)));
    }
shown-told cs (c ∷ xs) opens opens' noted came handed some grows same below h =
    record {
      openers = all-then (IsBy cs opens) (IsBy (cs ++ c ∷ xs) opens') (λ x o. grows (x.1).channel x.0 o) handed h.openers;
      parts = parts;
    }
  where
    now : ℕ → List (List ℕ)
    now n = if nat_lt (length cs) n then came else noted n

    parts : (p : ℕ) → command_at (cs ++ c ∷ xs) p ≡ Some OpenChannel → IsParted (now p) (opens' p) p handed
    parts p told = elim (cases_lt (length cs) p) [
      | inl above ↦
          (let is : nat_lt (length cs) p ≡ true = grind (arith, nat_tests, above) in
          let here : now p ≡ came = ap (λ b. if b then came else noted p) is in
          let P : List (List ℕ) → Type 0 = λ x. IsParted x (opens' p) p handed in
          subst P (sym here) (record {
            before = handed;
            after = [];
            all = sym (append-nil handed);
            had_come = some;
            earlier =
                all-then (IsBy cs opens) (λ (x : ℕ × Handed). x.0 < p)
                (λ x o. omega (arith, above, told-made cs x.0 OpenChannel o.command)) handed h.openers;
            later = tt;
          }))
      | inr le ↦
          (let is : now p ≡ noted p = ap (λ b. if b then came else noted p) (not-below (length cs) p le) in
          let P : List (List ℕ) → Type 0 = λ x. IsParted x (opens' p) p handed in
          let Q : ℕ → Type 0 = λ n. IsParted (noted p) n p handed in
          subst P (sym is) (subst Q (sym (same p le)) (h.parts p (sym (below p le) ∙ told))))
    ]

-- ---- who opened the channels

-- what is known of a session that was told these commands, and of which these answers were taken, and of what was handed out
pub record Openings (given : Kept) (t : Talk) (handed : List (ℕ × Handed)) : Type 0 where
  -- by the promise of a command that opens a channel, the number of the channel
  pub opens : ℕ → ℕ
  pub knows : KnowsOpeners given.commands opens untaken t
  pub sound : IsSound t
  pub made : t.made ≡ suc (length given.commands)
  pub answers : (p : ℕ) (a : Result Answer ErrorKind) → given.taken p ≡ Some a → AnswersOpening given.commands opens p (Some a)
  pub shown : Shown given.commands opens given.came_before handed
  -- a promise that opened a channel is not answered that no number was free
  pub unrefused : (p : ℕ) → command_at given.commands p ≡ Some OpenChannel → 1 ≤ opens p → IsUnrefused p t
  pub untold : (p : ℕ) → command_at given.commands p ≡ Some OpenChannel → 1 ≤ opens p → given.taken p ≡ Some (Err ChannelsLimitReached) → ⊥

-- a new session
pub openings-start : (config : Config) → Openings (kept_of nothing_told) (start config) []
openings-start config =
    record {
      opens = λ p. 0;
      knows = knows-start config;
      sound = sound-start config;
      made = refl;
      answers = λ p a is. absurd cc;
      shown = shown-none (λ p. 0) (λ n. []);
      unrefused = λ p told. absurd (none-told p told);
      untold = λ p told. absurd (none-told p told);
    }

-- a rule but a command leaves it
pub openings-kept : (given : Kept) (t t' : Talk) (handed : List (ℕ × Handed)) → KeepsKnown t t' → Openings given t handed → Openings given t' handed
openings-kept given t t' handed n h =
    record {
      opens = h.opens;
      knows = n.knows given.commands h.opens h.sound h.knows;
      sound = n.sound h.sound;
      made = n.made ∙ h.made;
      answers = h.answers;
      shown = h.shown;
      unrefused = λ p told some. n.unrefused p (h.unrefused p told some);
      untold = h.untold;
    }

-- so does a rule by which more is handed out, by the promises that opened their channels last
pub openings-more : (given : Kept) (t t' : Talk) (handed more : List (ℕ × Handed)) → KeepsKnown t t'
    → ((opens : ℕ → ℕ) → KnowsOpeners given.commands opens untaken t → AllByRecursion (IsByLatest given.commands opens) more)
    → Openings given t handed → Openings given t' (handed ++ more)
openings-more given t t' handed more n latest h =
    record {
      opens = h.opens;
      knows = n.knows given.commands h.opens h.sound h.knows;
      sound = n.sound h.sound;
      made = n.made ∙ h.made;
      answers = h.answers;
      shown = shown-more given.commands h.opens given.came_before handed more (latest h.opens h.knows) h.shown;
      unrefused = λ p told some. n.unrefused p (h.unrefused p told some);
      untold = h.untold;
    }

-- a command is told
pub openings-told : (given : Kept) (c : Cmd) (t : Talk) (handed : List (ℕ × Handed)) (came : List (List ℕ)) → AreSome came handed → Openings given t handed
    → Openings (told_more (answered_command c) came given) (command c t) handed
openings-told given c t handed came some h =
    let more : KnowsMore given.commands (given.commands ++ answered_command c) h.opens untaken (command c t) = knows-command given.commands h.opens untaken t h.made refl h.knows c in
    record {
      opens = more.opens;
      knows = more.knows;
      sound = sound-command c t h.sound;
      made = made (takes_promise c) refl;
      answers = λ p a is. more.answers p (Some a) (h.answers p a is);
      shown = shown-told given.commands (answered_command c) h.opens more.opens given.came_before came handed some more.openers more.same below h.shown;
      unrefused = λ p told some. unrefused more.opens more.same more.waits p told some;
      untold = λ p told some is. untold more.opens more.same p told some is;
    }
  where
    cs : List Cmd
    cs = given.commands

    now : List Cmd
    now = cs ++ answered_command c

    made : (b : Bool) → takes_promise c ≡ b → (command c t).made ≡ suc (length (cs ++ (if b then c ∷ [] else [])))
    made true takes = omega (arith, (makes-one c t takes).0, h.made, one-more cs c)
    made false none = omega (arith, ((keeps-promises t).unmade c none).made, h.made, ap length (append-nil cs))

    below : (p : ℕ) → p ≤ length cs → command_at (cs ++ answered_command c) p ≡ command_at cs p
    below p le =
        if_case (λ (xs : List Cmd). command_at (cs ++ xs) p ≡ command_at cs p) (takes_promise c) (c ∷ []) [] (same-below cs c p le)
        (ap (λ (xs : List Cmd). command_at xs p) (append-nil cs))

    unrefused : (opens : ℕ → ℕ) → ((p : ℕ) → p ≤ length cs → opens p ≡ h.opens p)
        → ((p : ℕ) → length cs < p → command_at now p ≡ Some OpenChannel → 1 ≤ opens p → at p (command c t).promises ≡ Some None)
        → (p : ℕ) → command_at now p ≡ Some OpenChannel → 1 ≤ opens p → IsUnrefused p (command c t)
    unrefused opens same waits p told some is = elim (cases_lt (length cs) p) [
      | inl above ↦
          (let clash : Some None ≡ Some (Some (Err ChannelsLimitReached)) = sym (waits p above told some) ∙ is in
          absurd cc)
      | inr le ↦
          (let before : IsUnrefused p t = h.unrefused p (sym (below p le) ∙ told) (omega (arith, some, same p le)) in
          not-settled (IsLetGo c t p) (leaving-not c t p) (at p t.promises) (at p (command c t).promises)
          ((keeps-promises t).command c p (λ e. omega (arith, e, le, h.made))) before is)
    ]

    untold : (opens : ℕ → ℕ) → ((p : ℕ) → p ≤ length cs → opens p ≡ h.opens p)
        → (p : ℕ) → command_at now p ≡ Some OpenChannel → 1 ≤ opens p → given.taken p ≡ Some (Err ChannelsLimitReached) → ⊥
    untold opens same p told some is =
        let le : p ≤ length cs = (h.answers p (Err ChannelsLimitReached) is).made in
        h.untold p (sym (below p le) ∙ told) (omega (arith, some, same p le)) is

-- ---- what is taken

-- an answer is taken, where there is one
pub openings-answer : (given : Kept) (number : ℕ) (t : Talk) (handed : List (ℕ × Handed)) → (end_of t ≡ Some (Err ChannelsLimitReached) → ⊥) → Openings given t handed
    → Openings (record given { taken = λ n. if n == number then option_or (given.taken n) (answer_of number t) else given.taken n }) (take_answer number t) handed
openings-answer given number t handed ended h =
    record {
      opens = h.opens;
      knows =
          if_case (λ (x : Talk). KnowsOpeners given.commands h.opens untaken x) (is_some (answer_of number t)) (record t { promises = without number t.promises }) t
          (knows-answer given.commands h.opens untaken untaken number t h.sound.promises.0 (λ p ne. refl) h.knows) h.knows;
      sound = sound-answer number t h.sound;
      made = (keeps-promises t).answer_makes number ∙ h.made;
      answers = answers;
      shown = h.shown;
      unrefused = λ p told some. left p (h.unrefused p told some);
      untold = λ p told some is. untold p told some is;
    }
  where
    -- what is left of the promises
    left : (p : ℕ) → IsUnrefused p t → IsUnrefused p (take_answer number t)
    left p none is = elim (cases_eq p number) [
      | inl e ↦
          by_answer (is_some (answer_of number t)) none
          (ap (λ m. at m (take_answer number t).promises) (sym e) ∙ is) e
      | inr ne ↦ none (sym ((keeps-promises t).answer number p ne) ∙ is)
    ] where
      by_answer : (b : Bool) → IsUnrefused p t → at number (if b then record t { promises = without number t.promises } else t).promises ≡ Some (Some (Err ChannelsLimitReached)) → p ≡ number → ⊥
      by_answer true none_there taken e =
          let nothing : at number (without number t.promises) ≡ None = at-gone number t.promises h.sound.promises.0 in
          let clash : None ≡ Some (Some (Err ChannelsLimitReached)) = sym nothing ∙ taken in
          absurd cc
      by_answer false none_there kept e = none_there (ap (λ m. at m t.promises) e ∙ kept)

    -- an answer that is taken
    untold : (p : ℕ) → command_at given.commands p ≡ Some OpenChannel → 1 ≤ h.opens p
        → (if p == number then option_or (given.taken p) (answer_of number t) else given.taken p) ≡ Some (Err ChannelsLimitReached) → ⊥
    untold p told some is = elim (cases_eq p number) [
      | inl e ↦
          by_taken (given.taken p) refl
          (sym (ap (λ b. if b then option_or (given.taken p) (answer_of number t) else given.taken p) (equal-numbers p number e)) ∙ is)
      | inr ne ↦ h.untold p told some (sym (ap (λ b. if b then option_or (given.taken p) (answer_of number t) else given.taken p) (other-number p number ne)) ∙ is)
    ] where
      by_taken : (o : Option (Result Answer ErrorKind)) → given.taken p ≡ o → option_or o (answer_of number t) ≡ Some (Err ChannelsLimitReached) → ⊥
      by_taken (Some a) was now = h.untold p told some (was ∙ now)
      by_taken None was now = elim (cases_eq p number) [
        | inl e ↦
            (let given_so : answer_of p t ≡ Some (Err ChannelsLimitReached) = ap (λ m. answer_of m t) e ∙ now in
            answer-not (end_of t) (at p t.promises) ended (h.unrefused p told some) given_so)
        | inr ne ↦ h.untold p told some (sym (ap (λ b. if b then option_or (given.taken p) (answer_of number t) else given.taken p) (other-number p number ne)) ∙ is)
      ]

    -- what is answered is held, or comes of the end
    own : (a : Result Answer ErrorKind) → answer_of number t ≡ Some a → AnswersOpening given.commands h.opens number (Some a)
    own a is =
        let o = there (end_of t) (at number t.promises) a is in
        let holds : HoldsOpening given.commands h.opens untaken number o.0 = each-at (HoldsOpening given.commands h.opens untaken) number t.promises o.0 h.knows.held o.1 in
        record { made = holds.made; answer = λ x opened e. said x opened (is ∙ e) }
      where
        said : (x : Answer) → command_at given.commands number ≡ Some OpenChannel → answer_of number t ≡ Some (Ok x) → (x ≡ says.Channel (h.opens number) number) ⊎ (x ≡ says.Sent)
        said x opened e =
            let held : at number t.promises ≡ Some (Some (Ok x)) = answer-held (end_of t) (at number t.promises) x e in
            (each-at (HoldsOpening given.commands h.opens untaken) number t.promises (Some (Ok x)) h.knows.held held).answer x opened refl

    by : (p : ℕ) (o : Option (Result Answer ErrorKind)) (a : Result Answer ErrorKind) → given.taken p ≡ o → option_or o (answer_of number t) ≡ Some a → p ≡ number
        → AnswersOpening given.commands h.opens p (Some a)
    by p (Some b) a was is here =
        let same : Some b ≡ Some a = is in
        h.answers p a (was ∙ same)
    by p None a was is here =
        let Q : ℕ → Type 0 = λ m. AnswersOpening given.commands h.opens m (Some a) in
        subst Q (sym here) (own a is)

    answers : (p : ℕ) (a : Result Answer ErrorKind) → (if p == number then option_or (given.taken p) (answer_of number t) else given.taken p) ≡ Some a
        → AnswersOpening given.commands h.opens p (Some a)
    answers p a is = elim (cases_eq p number) [
      | inl e ↦
          by p (given.taken p) a refl
          (sym (ap (λ b. if b then option_or (given.taken p) (answer_of number t) else given.taken p) (equal-numbers p number e)) ∙ is) e
      | inr ne ↦
          h.answers p a (sym (ap (λ b. if b then option_or (given.taken p) (answer_of number t) else given.taken p) (other-number p number ne)) ∙ is)
    ]

-- an event is taken
pub openings-noted : (given : Kept) (t : Talk) (ns : Noted) (handed : List (ℕ × Handed)) → Openings given t handed → Openings given (record t { noted = ns }) handed
openings-noted given t ns handed h =
    let k = h.knows in
    record {
      opens = h.opens;
      knows = record { listed = k.listed; held = k.held; awaited = k.awaited; handed = k.handed };
      sound = sound-noted ns t h.sound;
      made = h.made;
      answers = h.answers;
      shown = h.shown;
      unrefused = h.unrefused;
      untold = h.untold;
    }

-- frames are taken
pub openings-frames : (given : Kept) (more : ℕ → List Handed) (opened : ℕ) (t : Talk) (handed : List (ℕ × Handed)) → Openings given t handed
    → Openings (record given { given = more }) (take_frames opened t) handed
openings-frames given more opened t handed h =
    record {
      opens = h.opens;
      knows = knows-frames given.commands h.opens untaken opened t h.knows;
      sound = sound-frames opened t h.sound;
      made = h.made;
      answers = h.answers;
      shown = h.shown;
      unrefused = h.unrefused;
      untold = h.untold;
    }

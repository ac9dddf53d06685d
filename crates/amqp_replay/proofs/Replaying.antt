-- A replay, from the contracts of the port and the engine.
use Rattle.std.proofs.Common.{◌≡◌, inl, inr, ℕ, List, [], ◌∷◌, Bool, true, false, Option, Some, None, IfSome, IfOk, Result, Ok, Err, length, if◌then◌else◌, ap, sym, subst, refl, ◌∙◌}
use Rattle.std.specs.Prelude.{IsSome, MatchBool}
use Rattle.amqp_auth.specs.Providers.{Exchange, Allows}
use Rattle.amqp_auth.specs.DefaultAnswers.{DefaultAuth}
use Rattle.amqp_settings.specs.Config.{Config}
use Rattle.amqp_rules.specs.Talk.{Talk, has_ended}
use Rattle.amqp_engine.specs.declared.given.Given.{Given}
use Rattle.amqp_engine.specs.Log.{Log, loaded}
use Rattle.amqp_engine.specs.Engine.{Engine, begin}
use Rattle.amqp_engine.specs.Turn.{AreTurns}
use Rattle.amqp_engine.specs.Play.{IsPlayed}
use Rattle.amqp_written_rules.specs.Sayable.{CanBeSaid}
use Rattle.amqp_engine.specs.Saying.{TellsLinks}
use Rattle.amqp_engine.specs.Account.{IsNew, nothing_told, HasHistory}
use Rattle.amqp_engine.proofs.HistoryBegun.{new-history}
use Rattle.amqp_engine.proofs.Carrying.{all-carried}
use Rattle.amqp_engine.proofs.Playing.{played-are-turns}
use Rattle.amqp_engine.proofs.SpelledLinks.{turns-spell}
use Rattle.amqp_engine.proofs.TurnEnds.{turns-cause}
use Rattle.amqp_replay.specs.Grammar.{Scenario}
use Rattle.amqp_replay.specs.Top.{set_up, session_of, engine_of, replayed_turns, replayed_log, replayed_links, replayed_exchange, handed_state, AreProvidersAnswers, reported, summed, printout}
use Rattle.amqp_replay.specs.Runs.{IsReplayed, IsMade, made_of_generated}
use Rattle.amqp_replay.specs.Report.{Printout}

-- its session was told nothing, but perhaps to listen
pub is-new : (listens : Bool) (config : Config) → IsNew (set_up listens config)
is-new true config = (config, inr refl)
is-new false config = (config, inl refl)

-- its engine has no history before its first step
pub silent : (listens : Bool) (config : Config) → HasHistory (begin (set_up listens config)) nothing_told
silent listens config = new-history (set_up listens config) (is-new listens config)

-- listening does not change what it is made from
set-up-said : (listens : Bool) (config : Config) → CanBeSaid config → CanBeSaid (set_up listens config).config
set-up-said true config can = can
set-up-said false config can = can

-- and has not ended
has-begun : (listens : Bool) (config : Config) → has_ended (set_up listens config) ≡ false
has-begun true config = refl
has-begun false config = refl

-- and a port that was loaded tells so
pub tells-nothing : (listens : Bool) (config : Config) (gs : List Given) → TellsLinks (begin (set_up listens config)) [] (loaded gs)
tells-nothing true config gs = record { links = refl; asked = λ running. refl }
tells-nothing false config gs = record { links = refl; asked = λ running. refl }

-- a run of a loaded script, where memory was not refused
abbrev pub Plays : ℕ → Engine → Engine → Option Log → Option Log → (Exchange → Type 0) → Type 0
Plays n e e' before after state = IfSome before (λ log. IsSome log.plan → e'.starved ≡ None → IsPlayed n e e' log after state)

ties_at : (log : Option Log) (a : Log) (links : List (List ℕ)) → log ≡ Some a → IfSome log (λ x. x.links ≡ links) → a.links ≡ links
ties_at log a links h ties =
    let P : Option Log → Type 0 = λ o. IfSome o (λ x. x.links ≡ links) in
    subst P h ties

-- it leads to the state and the links of the replay, and the port tells of it
pub IsReplayed-run : (s : Scenario) (n : ℕ) (e e' : Engine) (before after : Option Log) (links : List (List ℕ)) (state : Exchange → Type 0)
    → n ≡ length s.steps → e ≡ engine_of s → before ≡ Some (loaded s.steps) → Plays n e e' before after state → e'.starved ≡ None
    → IfSome after (λ a. a.links ≡ links) → IsReplayed state s e'.talk links after
IsReplayed-run s n e e' before after links state count fresh loads plays whole ties =
    let A : ℕ → Type 0 = λ x. Plays x e e' before after state in
    let B : Engine → Type 0 = λ x. Plays (length s.steps) x e' before after state in
    let C : Option Log → Type 0 = λ x. Plays (length s.steps) (engine_of s) e' x after state in
    let played : IsPlayed (length s.steps) (engine_of s) e' (loaded s.steps) after state =
    subst C loads (subst B fresh (subst A count plays)) refl whole in
    let answers = played.answers in
    let may : AreTurns (replayed_turns s answers) (engine_of s) = played-are-turns (length s.steps) answers (engine_of s) (loaded s.steps) played.answered in
    record {
      answers = answers;
      may = record { answered = played.answered; allowed = played.exchanged };
      talk_is = sym (ap (λ (x : Engine). x.talk) played.engine);
      links_are = sym (ties_at after (replayed_log s answers) links played.told ties);
      told = λ can. record {
        told = played.told;
        legal = turns-spell (session_of s) (replayed_turns s answers) (loaded s.steps) (is-new s.listens s.config)
            (tells-nothing s.listens s.config s.steps) (set-up-said s.listens s.config can) may played.steps_told played.fit;
        carried = all-carried (session_of s) (replayed_turns s answers) (is-new s.listens s.config) may played.steps_told;
        cause = λ k h. turns-cause (replayed_turns s answers) (engine_of s) k (has-begun s.listens s.config) may h;
      };
    }

-- ---- who authenticates

Allows-more : (state more : Exchange → Type 0) (exchange : Exchange) → ((x : Exchange) → state x → more x) → Allows state exchange → Allows more exchange
Allows-more state more [] f h = tt
Allows-more state more (first ∷ rest) f h = f (first ∷ rest) h

-- what one state allows another allows too
pub IsReplayed-more : (state more : Exchange → Type 0) (s : Scenario) (t : Talk) (links : List (List ℕ)) (log : Option Log)
    → ((x : Exchange) → state x → more x) → IsReplayed state s t links log → IsReplayed more s t links log
IsReplayed-more state more s t links log f is =
    record {
      answers = is.answers;
      may = record {
        answered = is.may.answered;
        allowed = Allows-more state more (replayed_exchange s is.answers) f is.may.allowed;
      };
      talk_is = is.talk_is;
      links_are = is.links_are;
      told = is.told;
    }

-- the same of a run that had the memory that it needs
pub IsReplayed-ran : {E : Type 0} (ran : Result Engine E) (state more : Exchange → Type 0) (s : Scenario) (links : List (List ℕ)) (log : Option Log)
    → ((x : Exchange) → state x → more x) → IfOk ran (λ e. IsReplayed state s e.talk links log) → IfOk ran (λ e. IsReplayed more s e.talk links log)
IsReplayed-ran (Ok e) state more s links log f is = IsReplayed-more state more s e.talk links log f is
IsReplayed-ran (Err e) state more s links log f is = tt

-- the provider that was handed was chosen
pub chosen-handed : {A : Type 0} (allows : A → Exchange → Type 0) (said : Bool) (handed : Option A) (a : A) (own : Exchange → Type 0)
    → Some a ≡ (if said then handed else None) → (x : Exchange) → allows a x → MatchBool said (handed_state allows handed x) (own x)
chosen-handed allows false handed a own is x h = cc
chosen-handed allows true handed a own is x h =
    let P : Option _ → Type 0 = λ o. handed_state allows o x in
    subst P is h

-- none was
pub chosen-own : {A : Type 0} (allows : A → Exchange → Type 0) (said : Bool) (handed : Option A) (own : Exchange → Type 0)
    → None ≡ (if said then handed else None) → (x : Exchange) → own x → MatchBool said (handed_state allows handed x) (own x)
chosen-own allows false handed own is x h = h
chosen-own allows true handed own is x h =
    let P : Option _ → Type 0 = λ o. handed_state allows o x in
    subst P is tt

-- the provider that goes by an address
pub by-address : {E : Type 0} (ran : Result Engine E) (own made : DefaultAuth) (s : Scenario) (links : List (List ℕ)) (log : Option Log)
    → own ≡ made → IfOk ran (λ e. IsReplayed (AreProvidersAnswers own) s e.talk links log) → IfOk ran (λ e. IsReplayed (AreProvidersAnswers made) s e.talk links log)
by-address ran own made s links log is h =
    let P : DefaultAuth → Type 0 = λ d. IfOk ran (λ e. IsReplayed (AreProvidersAnswers d) s e.talk links log) in
    subst P is h

-- ---- what is printed of it

pub IsMade-reported : (state : Scenario → Exchange → Type 0) (s : Scenario) (t : Talk) (links : List (List ℕ)) (log log' : Option Log) (p : Printout)
    → p ≡ reported links t → IsReplayed (state s) s t links log' → IsMade state (Ok s) printout log log' p
IsMade-reported state s t links log log' p made is =
    record {
      answers = is.answers;
      may = is.may;
      told = is.told;
      is = made ∙ ap (λ (x : List (List ℕ)). reported x t) is.links_are ∙ ap (reported (replayed_links s is.answers)) is.talk_is;
    }

pub IsMade-summed : (state : Scenario → Exchange → Type 0) (script : List ℕ) (s : Scenario) (t : Talk) (links : List (List ℕ)) (log log' : Option Log)
    (p : Printout) → p ≡ summed script links t → IsReplayed (state s) s t links log' → IsMade state (Ok s) (made_of_generated script) log log' p
IsMade-summed state script s t links log log' p made is =
    record {
      answers = is.answers;
      may = is.may;
      told = is.told;
      is = made ∙ ap (λ (x : List (List ℕ)). summed script x t) is.links_are ∙ ap (summed script (replayed_links s is.answers)) is.talk_is;
    }

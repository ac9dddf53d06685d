-- Through runs, turns, and what is told and taken between them an engine has its history, which is carried.
use Rattle.std.proofs.Common.{◌≡◌, ℕ, false, List, [], ◌∷◌, Option, IfSome, sym, subst}
use Rattle.amqp_auth.specs.Providers.{Exchange}
use Rattle.amqp_rules.specs.Talk.{Talk, has_ended}
use Rattle.amqp_engine.specs.declared.port.Step.{Step}
use Rattle.amqp_engine.specs.Engine.{Engine, begin}
use Rattle.amqp_engine.specs.Log.{Log}
use Rattle.amqp_engine.specs.Turn.{Turn, Notes, IsTold, AreTold, IsFit, asks, turn, turns, talk, AreTurns}
use Rattle.amqp_engine.specs.Tell.{Applies, Runs, RunsLent, turn_of}
use Rattle.amqp_engine.specs.Sending.{Sending}
use Rattle.amqp_engine.specs.Saying.{TellsLinks}
use Rattle.amqp_engine.specs.Carried.{Carried}
use Rattle.amqp_engine.specs.Account.{IsNew, History, nothing_told, add_turn, add_turns, HasHistory, applies, account, history_of, CarriesOn, CarriesOnce, Ran}
use Rattle.amqp_engine.proofs.Over.{asks-running}
use Rattle.amqp_engine.proofs.GoingOn.{sends-said, tells-on, tells-once}
use Rattle.amqp_engine.proofs.LegalLinks.{sent_legal}
use Rattle.amqp_engine.proofs.TurnEnds.{runs-cause}
use Rattle.amqp_engine.proofs.HistoryBegun.{new-history, turns-history, turns-sendings}
use Rattle.amqp_engine.proofs.Accounting.{Knows, knows-asks, knows-applied, knows-history, knows-carried, history-carried}

-- what is known goes on through turns
turns-carry : (us : List Turn) (e : Engine) (h : History) → AreTurns us e → Knows e h → Knows (turns us e) (add_turns us e h)
turns-carry [] e h may k = k
turns-carry (u ∷ us) e h may k = turns-carry us (turn u e) (add_turn u (asks e) h) may.1 (knows-applied u (asks e) h (asks-running e may.0.running) may.0.applied (knows-asks e h k))

-- all turns of an engine that was new are carried
pub all-carried : (t : Talk) (us : List Turn) → IsNew t → AreTurns us (begin t) → AreTold us → Carried (account (talk t us) (history_of t us))
all-carried t us is may is_told =
    knows-carried (turns us (begin t)) (history_of t us) (turns-carry us (begin t) nothing_told may (knows-history (begin t) nothing_told (new-history t is)))

-- a run goes on with a history
pub run-carried : (n : ℕ) (e e' : Engine) (log log' : Option Log) (r : Runs n e e' log log') (h : History) → HasHistory e h → CarriesOn r.us h e e' log log'
run-carried n e e' log log' r h has =
    let now : History = add_turns r.us e h in
    let P : Engine → Type 0 = λ x. HasHistory x now in
    let history : HasHistory e' now = subst P r.leads.leaves (turns-history r.us e h r.leads.may r.told r.fit has) in
    let T : List Sending → Type 0 = λ ss. IfSome log (λ a. TellsLinks e h.sent a → IfSome log' (λ b. TellsLinks e' ss b)) in
    record {
      history = history;
      order = (sends-said e' now history).all;
      legal = sent_legal e' now history;
      carried = history-carried e' now history;
      tells = subst T (sym (turns-sendings r.us e h)) (tells-on log log' r.us e e' h.sent r.tells.told r.leads.may r.leads.leaves (sends-said e h has));
    }

-- all that is claimed of a run
pub run-ran : (n : ℕ) (e e' : Engine) (log log' : Option Log) (before after : Exchange → Type 0) → RunsLent n e e' log log' before after → Ran n e e' log log' before after
run-ran n e e' log log' before after r =
    record {
      runs = r.runs;
      exchanged = r.exchanged;
      cause = λ k running h. runs-cause n e e' log log' k r.runs running h;
      carried = λ h has. run-carried n e e' log log' r.runs h has;
    }

-- the rest of a turn goes on with it
pub turn-carried : (at : ℕ) (step : Step) (bytes : List ℕ) (notes : Notes) (e e' : Engine) (log log' : Option Log) (h : History) → Applies at step bytes notes e e' log log'
    → IsTold step → IsFit (turn_of at step bytes notes) → has_ended e.talk ≡ false → HasHistory e h → CarriesOnce (turn_of at step bytes notes) h e e' log log'
turn-carried at step bytes notes e e' log log' h f may fit running has =
    let u = turn_of at step bytes notes in
    let now : History = add_turn u e h in
    let P : Engine → Type 0 = λ x. HasHistory x now in
    let history : HasHistory e' now = subst P f.leaves (applies u running f.may may fit has) in
    record {
      history = history;
      order = (sends-said e' now history).all;
      legal = sent_legal e' now history;
      carried = history-carried e' now history;
      tells = tells-once u e e' log log' h.sent f.tells.told f.may f.leaves running (sends-said e h has);
    }

use Rattle.std.proofs.Common.{◌≡◌, ◌∙◌, List, Result, Ok, Err, OnOk, OnErr, MatchResult, is_some, ap, sym, subst}
use Rattle.amqp_rules.specs.Commands.{command}
use Rattle.amqp_commands.specs.declared.command.Cmd.{Cmd}
use Rattle.amqp_rules.specs.declared.state.Link.{Link}
use Rattle.amqp_promise.specs.declared.error.ErrorKind.{ErrorKind}
use Rattle.amqp_rules.specs.Talk.{is_asked_link, end_of_link}
use Rattle.amqp_rules.proofs.Keeping.{stays-command}
use Rattle.amqp_written_rules.specs.Sayable.{CanBeTold}
use Rattle.amqp_engine.specs.Log.{Log}
use Rattle.amqp_engine.specs.Engine.{Engine, with_talk}
use Rattle.amqp_engine.specs.Turn.{IsToldCommand}
use Rattle.amqp_engine.specs.Sending.{Sending}
use Rattle.amqp_engine.specs.Saying.{TellsLinks}
use Rattle.amqp_engine.specs.Account.{History, add_command, HasHistory, told}
use Rattle.amqp_engine.proofs.Obeying.{obeyed-read}
use Rattle.amqp_engine.proofs.io_loop.IoLoop.command.Goals as goal

pub invariant_of-self : goal.invariant_of-self
invariant_of-self c = (
  c.self.invariant.0,
  obeyed-read c.command.result c.args.command c.self.inside.wire c.command.new.self c.command.ensures.ok c.command.ensures.err c.self.invariant.1,
)

-- a command leaves the link as it is
links-told : (c : Cmd) (e : Engine) (ss : List Sending) (log : Log) → TellsLinks e ss log → TellsLinks (with_talk (command c) e) ss log
links-told c e ss log h =
    let same : (command c e.talk).link ≡ e.talk.link = (stays-command c e.talk).link in
    record {
      links = h.links;
      asked =
          λ running.
          h.asked (sym (ap (λ (l : Link ErrorKind). is_some (end_of_link l)) same) ∙ running) ∙ ap is_asked_link (sym same);
    }

tells-or-not : {A E : Type 0} (r : Result A E) (c : Cmd) (e e' : Engine) (ss : List Sending) (log : Log)
    → OnOk r (e' ≡ with_talk (command c) e) → OnErr r (e' ≡ e) → TellsLinks e ss log → TellsLinks e' ss log
tells-or-not (Ok x) c e e' ss log ok err h =
    let Q : Engine → Type 0 = λ x. TellsLinks x ss log in
    subst Q (sym ok) (links-told c e ss log h)
tells-or-not (Err x) c e e' ss log ok err h =
    let Q : Engine → Type 0 = λ x. TellsLinks x ss log in
    subst Q (sym err) h

pub returns-clause-links : goal.returns-clause-links
returns-clause-links c ss log h =
    let Q : Engine → Type 0 = λ x. TellsLinks x ss log in
    tells-or-not c.command.result c.args.command c.self.inside.wire c.command.new.self ss log c.command.ensures.ok c.command.ensures.err
    (subst Q (sym c.self.view_is) h)

-- it was told, and its history has it, or nothing changed
history-or-not : {A E : Type 0} (r : Result A E) (c : Cmd) (e e' : Engine) (h : History) → IsToldCommand c → CanBeTold c → OnOk r (e' ≡ with_talk (command c) e) → OnErr r (e' ≡ e)
    → HasHistory e h → MatchResult r (λ x. HasHistory e' (add_command c h)) (λ x. HasHistory e' h)
history-or-not (Ok x) c e e' h may can ok err has =
    let Q : Engine → Type 0 = λ x. HasHistory x (add_command c h) in
    subst Q (sym ok) (told c may can has)
history-or-not (Err x) c e e' h may can ok err has =
    let Q : Engine → Type 0 = λ x. HasHistory x h in
    subst Q (sym err) has

pub returns-clause-carried : goal.returns-clause-carried
returns-clause-carried c h has =
    let Q : Engine → Type 0 = λ x. HasHistory x h in
    history-or-not c.command.result c.args.command c.self.inside.wire c.command.new.self h c.hold.ensures.told c.hold.ensures.can c.command.ensures.ok c.command.ensures.err
    (subst Q (sym c.self.view_is) has)

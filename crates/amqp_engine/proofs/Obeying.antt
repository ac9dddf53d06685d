-- What is left where a command was obeyed, or was not and changed nothing, and where an event was taken.
use Rattle.std.proofs.Common.{◌≡◌, Option, Result, Ok, Err, OnOk, OnErr, refl, sym, subst}
use Rattle.amqp_commands.specs.declared.command.Cmd.{Cmd}
use Rattle.amqp_answers.specs.declared.event.Event.{Event}
use Rattle.amqp_rules.specs.Talk.{Talk}
use Rattle.amqp_rules.specs.Commands.{command}
use Rattle.amqp_rules.specs.Answers.{TakesEvent}
use Rattle.amqp_rules.proofs.Keeping.{Stays, stays-command}
use Rattle.amqp_engine.specs.Engine.{Engine, with_talk}
use Rattle.amqp_engine.specs.Unread.{IsRead}
use Rattle.amqp_engine.proofs.EventTaken.{taken-case}
use Rattle.amqp_engine.proofs.LeftUnread.{command-read}

pub obeyed-stays : {A E : Type 0} (r : Result A E) (c : Cmd) (t t' : Talk) → OnOk r (t' ≡ command c t) → OnErr r (t' ≡ t) → Stays t t'
obeyed-stays (Ok x) c t t' ok err =
    let P : Talk → Type 0 = λ y. Stays t y in
    subst P (sym ok) (stays-command c t)
obeyed-stays (Err e) c t t' ok err =
    let P : Talk → Type 0 = λ y. Stays t y in
    subst P (sym err) (record { config = refl; link = refl; committed = refl; configuration = refl; capacity = refl; input = refl; server_close = refl; handed = refl; secret_at = refl })

-- an event is no part of the link
pub event-stays : (given : Option Event) (t t' : Talk) → TakesEvent given t t' → Stays t t'
event-stays given t t' takes =
    taken-case (Stays t) given t t' takes
    (λ noted. record { config = refl; link = refl; committed = refl; configuration = refl; capacity = refl; input = refl; server_close = refl; handed = refl; secret_at = refl })
    (record { config = refl; link = refl; committed = refl; configuration = refl; capacity = refl; input = refl; server_close = refl; handed = refl; secret_at = refl })

pub obeyed-read : {A E : Type 0} (r : Result A E) (c : Cmd) (e e' : Engine) → OnOk r (e' ≡ with_talk (command c) e) → OnErr r (e' ≡ e)
    → IsRead e → IsRead e'
obeyed-read (Ok x) c e e' ok err h = subst IsRead (sym ok) (command-read c e h)
obeyed-read (Err x) c e e' ok err h = subst IsRead (sym err) h

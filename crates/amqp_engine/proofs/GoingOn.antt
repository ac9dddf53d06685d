-- The links are in order, and the port tells of them.
use Rattle.std.proofs.Common.{◌≡◌, ◌∙◌, ℕ, false, List, Option, Some, None, IfSome, is_some, inl, refl, ap, sym, subst}
use Rattle.std.specs.Prelude.{option_map}
use Rattle.amqp_commands.specs.declared.command.Cmd.{Cmd}
use Rattle.amqp_rules.specs.Talk.{Talk, has_ended}
use Rattle.amqp_rules.specs.Commands.{command}
use Rattle.amqp_rules.specs.Answers.{answer_of, take_answer, take_event, take_frames}
use Rattle.amqp_maps.specs.Listed.{without}
use Rattle.amqp_rules.proofs.Keeping.{stays-command}
use Rattle.amqp_engine.specs.Log.{Log, log_step}
use Rattle.amqp_engine.specs.Engine.{Engine, with_talk}
use Rattle.amqp_engine.specs.Turn.{Turn, write_answers, read, turns, applied, AreTurns, IsApplied}
use Rattle.amqp_engine.specs.Tell.{offers_of, log_offers, log_turns}
use Rattle.amqp_engine.specs.Sending.{Sending, step_sending, sendings_from}
use Rattle.amqp_engine.specs.Saying.{applied_sending, TellsLinks}
use Rattle.amqp_engine.specs.Account.{History, HasHistory, new, asked, applies, told, answer_taken, event_taken, frames_taken}
use Rattle.amqp_types.proofs.Small.{if_case}
use Rattle.amqp_engine.proofs.LinkKept.{Leaves}
use Rattle.amqp_engine.proofs.EventTaken.{event-case}
use Rattle.amqp_rules.proofs.Keeping.{kept-open}
use Rattle.amqp_engine.proofs.Sends as sending
use Rattle.amqp_engine.proofs.Sends.{Sends, sends-left, sends-asks}
use Rattle.amqp_engine.proofs.LinkTold as telling
use Rattle.amqp_engine.proofs.LinkTold.{Told, Both}
use Rattle.amqp_engine.proofs.Lifting as lifting

-- ---- in order

leaves-told : (c : Cmd) (e : Engine) → Leaves e (with_talk (command c) e)
leaves-told c e now =
    let k = stays-command c e.talk in
    record { opened = kept-open e.talk (command c e.talk) (inl k.link) now; committed = k.committed; unsent = refl }

leaves-answer : (number : ℕ) (e : Engine) → Leaves e (with_talk (take_answer number) e)
leaves-answer number e =
    if_case (λ (t : Talk). Leaves e (record e { talk = t })) (is_some (answer_of number e.talk)) (record e.talk { promises = without number e.talk.promises }) e.talk
    (λ now. record { opened = now; committed = refl; unsent = refl }) (λ now. record { opened = now; committed = refl; unsent = refl })

leaves-event : (e : Engine) → Leaves e (with_talk take_event e)
leaves-event e =
    event-case (λ (t : Talk). Leaves e (record e { talk = t })) e.talk (λ noted now. record { opened = now; committed = refl; unsent = refl })
    (λ now. record { opened = now; committed = refl; unsent = refl })

-- what is known of what was sent
pub sends-said : (e : Engine) (h : History) → HasHistory e h → Sends e h.sent
sends-said e h (new config) = record { all = tt; last = λ now. cc }
sends-said e h (asked {e = e'} {h = h'} k) = sends-asks e' h'.sent (sends-said e' h' k)
sends-said e h (applies {e = e'} {h = h'} u running may told_step fit k) =
    let Q : List Sending → Type 0 = λ xs. Sends (applied u e') xs in
    subst Q (sending.offers-same (write_answers u.notes) (read u e') (step_sending u.step e' h'.sent))
    (lifting.lift-applied (List Sending) sending.asking sending.stepping sending.offering Sends (λ b. Sends) Sends
    (lifting.simply (List Sending) sending.asking sending.stepping sending.offering Sends sending.small) u e' h'.sent running may (sends-said e' h' k))
sends-said e h (told {e = e'} {h = h'} c may can k) = sends-left e' (with_talk (command c) e') h'.sent (leaves-told c e') (sends-said e' h' k)
sends-said e h (answer_taken {e = e'} {h = h'} number k) = sends-left e' (with_talk (take_answer number) e') h'.sent (leaves-answer number e') (sends-said e' h' k)
sends-said e h (event_taken {e = e'} {h = h'} k) = sends-left e' (with_talk take_event e') h'.sent (leaves-event e') (sends-said e' h' k)
sends-said e h (frames_taken {e = e'} {h = h'} opened k) =
    sends-left e' (with_talk (take_frames opened) e') h'.sent (λ now. record { opened = now; committed = refl; unsent = refl }) (sends-said e' h' k)

-- ---- told

-- turns are told, whatever was sent before them
pub told-on : (us : List Turn) (e : Engine) (ss : List Sending) (a : Log) → AreTurns us e → Sends e ss → TellsLinks e ss a
    → TellsLinks (turns us e) (sendings_from us e ss) (log_turns us e a)
told-on us e ss a may sends tells =
    let P : Both → Type 0 = λ x. Told (turns us e) x in
    let k = subst P (telling.turns-same us e (ss, a))
    (lifting.lift-turns Both telling.asking telling.stepping telling.offering Told (λ b. Told) Told
    (lifting.simply Both telling.asking telling.stepping telling.offering Told telling.small) us e (ss, a) may
    (record { sends = sends; synced = tells.asked; links = tells.links })) in
    record { links = k.links; asked = k.synced }

-- of a port that may tell
pub tells-on : (log log' : Option Log) (us : List Turn) (e e' : Engine) (ss : List Sending) → log' ≡ option_map (log_turns us e) log → AreTurns us e → turns us e ≡ e'
    → Sends e ss → IfSome log (λ a. TellsLinks e ss a → IfSome log' (λ b. TellsLinks e' (sendings_from us e ss) b))
tells-on None log' us e e' ss is may leaves sends = tt
tells-on (Some a) log' us e e' ss is may leaves sends = λ tells.
    (let Q : Option Log → Type 0 = λ o. IfSome o (λ b. TellsLinks e' (sendings_from us e ss) b) in
    let R : Engine → Type 0 = λ x. TellsLinks x (sendings_from us e ss) (log_turns us e a) in
    subst Q (sym is) (subst R leaves (told-on us e ss a may sends tells)))

-- ---- the rest of a turn

told-applied : (u : Turn) (e : Engine) (ss : List Sending) (a : Log) → has_ended e.talk ≡ false → IsApplied u e → Sends e ss → TellsLinks e ss a
    → TellsLinks (applied u e) (applied_sending u e ss) (log_offers (offers_of u e) (log_step u.at u.step u.bytes a))
told-applied u e ss a running may sends tells =
    let P : Both → Type 0 = λ x. Told (applied u e) x in
    let k = subst P (telling.offers-same (write_answers u.notes) (read u e) (telling.stepping u.at u.step u.bytes e (ss, a)))
    (lifting.lift-applied Both telling.asking telling.stepping telling.offering Told (λ b. Told) Told
    (lifting.simply Both telling.asking telling.stepping telling.offering Told telling.small) u e (ss, a) running may
    (record { sends = sends; synced = tells.asked; links = tells.links })) in
    record { links = k.links; asked = k.synced }

-- of a port that may tell
pub tells-once : (u : Turn) (e e' : Engine) (log log' : Option Log) (ss : List Sending) → log' ≡ option_map (log_offers (offers_of u e)) log → IsApplied u e → applied u e ≡ e'
    → has_ended e.talk ≡ false → Sends e ss
    → (a : Log) → log ≡ Some (log_step u.at u.step u.bytes a) → TellsLinks e ss a → IfSome log' (λ b. TellsLinks e' (applied_sending u e ss) b)
tells-once u e e' log log' ss tells may leaves running sends a is before =
    let now : List Sending = applied_sending u e ss in
    let stepped : Log = log_step u.at u.step u.bytes a in
    let after : log' ≡ Some (log_offers (offers_of u e) stepped) = tells ∙ ap (option_map (log_offers (offers_of u e))) is in
    let T : Option Log → Type 0 = λ o. IfSome o (λ b. TellsLinks e' now b) in
    let R : Engine → Type 0 = λ x. TellsLinks x now (log_offers (offers_of u e) stepped) in
    subst T (sym after) (subst R leaves (told-applied u e ss a running may sends before))

-- An end with an error was brought by a turn of the journal: no command ends a session, and what has ended stays so.
use Rattle.std.proofs.Common.{◌≡◌, Bool, true, false, List, [], ◌∷◌, ◌++◌, Option, Some, None, Result, Ok, Err, is_some, true≢false, refl, ap, sym, ◌∙◌, subst}
use Rattle.amqp_promise.specs.declared.error.ErrorKind.{ErrorKind}
use Rattle.amqp_commands.specs.declared.command.Cmd.{Cmd}
use Rattle.amqp_rules.specs.declared.state.Link.{Link}
use Rattle.amqp_rules.specs.Talk.{Talk, has_ended, end_of, end_of_link}
use Rattle.amqp_rules.specs.Commands.{command}
use Rattle.amqp_rules.specs.Sound.{IsSound}
use Rattle.amqp_engine.specs.declared.port.Step.{Step}
use Rattle.amqp_engine.specs.declared.port.Step.TheVariants.{Linked, LinkFailed, Piece, End, Fault, Room, Tick, Command}
use Rattle.amqp_engine.specs.Engine.{Engine, with_talk}
use Rattle.amqp_engine.specs.Turn.{Turn, is_before, asks, applied, turn}
use Rattle.amqp_engine.proofs.TurnEnds.{applied-cause}
use Rattle.amqp_journal.specs.declared.entry.Entry.{Entry}
use Rattle.amqp_journal.specs.declared.entry.Entry.TheVariants as entry
use Rattle.amqp_journal.specs.declared.entry.Turn.{Turn as Taken}
use Rattle.amqp_journal.specs.Journal.{turn_in, entered, stands_for, AllMay, StandsSince, EndsBy}
use Rattle.amqp_journal.proofs.Ended.{Over, over_step, step-stays-over, applied-over, asks-over}
use Rattle.amqp_journal.proofs.Asking.{command-link, asks-end}
use Rattle.amqp_journal.proofs.Sounding.{sound-journal, ends-right}

end-command : (c : Cmd) (t : Talk) → end_of (command c t) ≡ end_of t
end-command c t = ap (λ (l : Link ErrorKind). end_of_link l) (command-link c t)

end-step : (step : Step) (g : Bool) (t : Talk) → end_of (over_step step g t) ≡ end_of t
end-step (Command c) true t = end-command c t
end-step (Command c) false t = refl
end-step Linked g t = refl
end-step LinkFailed g t = refl
end-step (Piece n) g t = refl
end-step End g t = refl
end-step Fault g t = refl
end-step Room g t = refl
end-step Tick g t = refl

-- what has ended stays so through an entry
over-entered : (x : Entry) (e : Engine) → Over e.talk → (end_of (entered x e).talk ≡ end_of e.talk) × Over (entered x e).talk
over-entered (entry.Turn u) e over =
    let v : Turn = turn_in u in
    let g : Bool = is_before v.notes.starved 0 in
    let is : (turn v e).talk ≡ over_step v.step g e.talk = ap (λ (y : Engine). (applied v y).talk) (asks-over e over) ∙ applied-over v e over in
    (ap end_of is ∙ end-step v.step g e.talk, subst Over (sym is) (step-stays-over v.step g e.talk over))
over-entered (entry.Called pass nth c promise) e over = (end-command c e.talk, step-stays-over (Command c) true e.talk over)
over-entered (entry.Own c) e over = (end-command c e.talk, step-stays-over (Command c) true e.talk over)

over-journal : (js : List Entry) (e : Engine) → Over e.talk → end_of (stands_for js e).talk ≡ end_of e.talk
over-journal [] e over = refl
over-journal (x ∷ js) e over =
    let after = over-entered x e over in
    over-journal js (entered x e) after.1 ∙ after.0

-- an end that is there
some-ended : (o : Option (Result (Unit {0}) ErrorKind)) (k : ErrorKind) → is_some o ≡ false → o ≡ Some (Err k) → ⊥
some-ended None k running h = absurd cc
some-ended (Some r) k running h = absurd cc

-- the entry that ended it is a turn, which brought that about
by-entry : (x : Entry) (js : List Entry) (e : Engine) (k : ErrorKind) → AllMay (x ∷ js) e → has_ended e.talk ≡ false
    → end_of (entered x e).talk ≡ Some (Err k) → EndsBy k (x ∷ js) e
by-entry (entry.Turn u) js e k may running h =
    let v : Turn = turn_in u in
    record {
      before = [];
      last = u;
      after = js;
      split = refl;
      running = running;
      cause = applied-cause v.at v.step v.bytes v.notes (asks e) (turn v e) None None k
          (record { may = may.0; leaves = refl; tells = record { told = refl; plays = tt } }) (ap is_some (asks-end e) ∙ running) h;
    }
by-entry (entry.Called pass nth c promise) js e k may running h = absurd (some-ended (end_of e.talk) k running (sym (end-command c e.talk) ∙ h))
by-entry (entry.Own c) js e k may running h = absurd (some-ended (end_of e.talk) k running (sym (end-command c e.talk) ∙ h))

ends-by : (js : List Entry) (e : Engine) (k : ErrorKind) → IsSound e.talk → AllMay js e → has_ended e.talk ≡ false
    → end_of (stands_for js e).talk ≡ Some (Err k) → EndsBy k js e
ends-by [] e k sound may running h = absurd (some-ended (end_of e.talk) k running h)
ends-by (x ∷ js) e k sound may running h =
    by (λ goes. ends-by js (entered x e) k (sound-journal (x ∷ []) e sound) may.1 goes h) (has_ended (entered x e).talk) refl
  where
    after : IsSound (entered x e).talk
    after = sound-journal (x ∷ []) e sound

    by : (has_ended (entered x e).talk ≡ false → EndsBy k js (entered x e)) → (b : Bool) → has_ended (entered x e).talk ≡ b → EndsBy k (x ∷ js) e
    by go false goes =
        let later = go goes in
        record {
          before = x ∷ later.before;
          last = later.last;
          after = later.after;
          split = ap (λ (ys : List Entry). x ∷ ys) later.split;
          running = later.running;
          cause = later.cause;
        }
    by go true ended =
        let over : Over (entered x e).talk = (ended, ends-right (entered x e) after ended) in
        by-entry x js e k may running (sym (over-journal js (entered x e) over) ∙ h)

pub stands-ended : (base x : Engine) (js : List Entry) (k : ErrorKind) → IsSound base.talk → StandsSince base js x → AllMay js base
    → has_ended base.talk ≡ false → end_of x.talk ≡ Some (Err k) → EndsBy k js base
stands-ended base x js k sound h may running ended =
    ends-by js base k sound may running (sym (asks-end (stands_for js base)) ∙ sym (ap end_of h.left.rest) ∙ ended)

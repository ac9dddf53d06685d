-- A turn: one step that was taken, with all that follows it. The engine is a fold of its turns, whatever its port
-- tells.
use Rattle.std.specs.Prelude.{◌≡◌, ◌≢◌, ◌<◌, ◌≤◌, ℕ, zero, suc, ◌+◌, ◌^◌, not, ◌&&◌, ◌==◌, if◌then◌else◌, nat_lt, Bool, true, false, IsTrue, IsFalse, MatchBool, List, [], ◌∷◌, ◌++◌, length, take, drop, map, Option, Some, None}
use Rattle.std.specs.Option.{option_or}
use Rattle.std.specs.List.{AllByRecursion}
use Rattle.amqp_types.specs.Forms.{IsOctets}
use Rattle.amqp_rules.specs.Talk.{Talk, wants_link, is_asked, is_open, has_ended}
use Rattle.amqp_rules.specs.Links.{asked}
use Rattle.amqp_auth.specs.declared.asked.Question.{Question}
use Rattle.amqp_auth.specs.declared.asked.Asked.{Asked}
use Rattle.amqp_auth.specs.Providers.{Exchange}
use Rattle.amqp_auth.specs.Asking.{Answer, paired}
use Rattle.amqp_frame.specs.RawMethods.{OtherMethod}
use Rattle.amqp_commands.specs.declared.command.Cmd.{Cmd}
use Rattle.amqp_commands.specs.declared.command.Cmd.TheVariants.{Send, Publish}
use Rattle.amqp_written_rules.specs.Sayable.{CanBeTold, CanBeAnswered}
use Rattle.amqp_engine.specs.declared.port.Step.{Step}
use Rattle.amqp_engine.specs.declared.port.Step.TheVariants.{Linked, LinkFailed, Piece, End, Fault, Room, Tick, Command}
use Rattle.amqp_engine.specs.declared.port.Wrote.{Wrote}
use Rattle.amqp_engine.specs.declared.port.Wrote.TheVariants.{Took, Failed, NoMemory}
use Rattle.amqp_engine.specs.Log.{TookAtMost}
use Rattle.amqp_engine.specs.Engine.{Engine, begin, with_talk, step_engine, step_questions, read_one, read_questions, can_read, commit_all, refuse_overlong, can_write, wrote, starve_at}

-- what is noted of a turn: how many bytes each of its writes took, in order, and whether one more write failed; what
-- the provider answered, in order; and where memory was refused, how many of its parts were done. Where the port itself
-- found no memory, the last of these parts is a write that took nothing
pub record Notes : Type 0 where
  pub tooks : List ℕ
  pub failed : Bool
  pub auths : List Asked
  pub starved : Option ℕ

-- nothing is noted
abbrev pub no_notes : Notes
no_notes = record { tooks = []; failed = false; auths = []; starved = None }

-- a turn was cut before its first part
abbrev pub cut_notes : Notes
cut_notes = record no_notes { starved = Some 0 }

-- the answers to writes: so many bytes were taken by each, and then one failed, where this says so
abbrev pub answers_of_writes : List ℕ → Bool → List Wrote
answers_of_writes tooks failed = map Took tooks ++ (if failed then Failed ∷ [] else [])

-- the answers to the writes of a turn
abbrev pub write_answers : Notes → List Wrote
write_answers n = answers_of_writes n.tooks n.failed

-- a step that was taken at a moment, with the bytes of its piece
pub record Turn : Type 0 where
  pub at : ℕ
  pub step : Step
  pub bytes : List ℕ
  pub notes : Notes

-- ---- before the step

-- a link is wanted, and was not yet asked for
abbrev pub wants_ask : Engine → Bool
wants_ask e = wants_link e.talk && not (is_asked e.talk)

-- a link is asked for where one is wanted and was not yet asked for
abbrev pub asks : Engine → Engine
asks e = if wants_ask e then with_talk asked e else e

-- ---- the parts of a turn

-- a turn in the making: its moment, after how many parts it is cut, what the provider is still to answer and what it
-- was asked so far, the engine so far, and how many parts are done
pub record Progress : Type 0 where
  pub at : ℕ
  pub cut : Option ℕ
  pub answers : List Asked
  pub questions : List Question
  pub engine : Engine
  pub done : ℕ

-- a turn at its beginning
abbrev pub begun : ℕ → Option ℕ → List Asked → Engine → Progress
begun at cut answers e = record { at = at; cut = cut; answers = answers; questions = []; engine = e; done = 0 }

-- so many parts come before the cut, where there is one
abbrev pub is_before : Option ℕ → ℕ → Bool
is_before None n = true
is_before (Some j) n = nat_lt n j

-- the next part may be done: the turn is not cut before it
abbrev pub goes : Progress → Bool
goes p = is_before p.cut p.done

-- one part more is done
abbrev pub part : Engine → Progress → Progress
part e p = record p { engine = e; done = p.done + 1 }

-- these questions are asked, and as many of the answers are taken
abbrev pub questioned : List Question → Progress → Progress
questioned questions p =
    record p { answers = drop (length questions) p.answers; questions = p.questions ++ questions }

-- whether a step is a part: the reading of a piece, a link that was asked for or its refusal, the loss of an open
-- link, a command, or the rules of a tick; what changes the present alone is none
abbrev pub is_part : Step → Engine → Bool
is_part Linked e = is_asked e.talk
is_part LinkFailed e = is_asked e.talk
is_part (Piece n) e = is_open e.talk
is_part End e = is_open e.talk
is_part Fault e = is_open e.talk
is_part Room e = false
is_part Tick e = true
is_part (Command c) e = true

-- the step is taken, and counted where it is a part
abbrev pub step_part : Step → List ℕ → Progress → Progress
step_part step bytes p =
    let after = step_engine p.at step bytes p.answers p.engine in
    if is_part step p.engine
    then (if goes p then part after (questioned (step_questions p.at step p.answers p.engine) p) else p)
    else record p { engine = after }

-- a frame that is read is a part
abbrev pub read_part : Progress → Progress
read_part p = part (read_one p.at p.answers p.engine) (questioned (read_questions p.at p.engine) p)

-- frames are read while there is one, and at most so many
abbrev pub reads : ℕ → Progress → Progress
reads zero p = p
reads (suc most) p = if goes p && can_read p.engine then reads most (read_part p) else p

-- a step that brings a piece
abbrev pub is_piece : Step → Bool
is_piece (Piece n) = true
is_piece _ = false

-- after a piece frames are read
abbrev pub reading : Bool → Progress → Progress
reading piece p = if piece then reads (length p.engine.unread) p else p

-- what is offered: all that is unsent when frames were committed while they fit
abbrev pub offered : Engine → List ℕ
offered e = (commit_all e).unsent

-- frames are committed while they fit, and this answers the offer of their bytes
abbrev pub answered : ℕ → Wrote → Engine → Engine
answered at w e = wrote at w (commit_all e)

-- an offer, with the commits before it, is a part
abbrev pub offer_part : Wrote → Progress → Progress
offer_part w p = part (answered p.at w p.engine) p

-- frames are committed and their bytes offered, with these answers
abbrev pub drain : List Wrote → Progress → Progress
drain [] p = p
drain (w ∷ ws) p = drain ws (offer_part w p)

-- frames go on to be committed, where the turn goes on: one that can't go out ends the session
abbrev pub closing : Progress → Progress
closing p = if goes p then record p { engine = refuse_overlong p.engine } else p

-- all of so many bytes were taken
abbrev pub is_all : Wrote → ℕ → Bool
is_all (Took k) n = k == n
is_all Failed n = false
is_all NoMemory n = false

-- the same to the end: it goes on where all was taken
abbrev pub drained : List Wrote → Progress → Progress
drained [] p = closing p
drained (w ∷ ws) p =
    if is_all w (length (offered p.engine)) then drained ws (offer_part w p) else offer_part w p

-- these are the answers to the offers that are due, and to no others: one is due while something is to be written,
-- and all was taken of what was offered before
abbrev pub AreAnswers : List Wrote → Progress → Type 0
AreAnswers [] p = IsFalse (goes p && can_write p.engine)
AreAnswers (w ∷ ws) p =
    IsTrue (goes p && can_write p.engine)
    × TookAtMost (length (offered p.engine)) w
    × MatchBool (is_all w (length (offered p.engine))) (AreAnswers ws (offer_part w p)) (ws ≡ [])

-- ---- a turn

-- up to its writes: the step, and the frames that are read
abbrev pub read : Turn → Engine → Progress
read u e = reading (is_piece u.step) (step_part u.step u.bytes (begun u.at u.notes.starved u.notes.auths e))

-- a turn up to the end of its writes
abbrev pub after_writes : Turn → Engine → Progress
after_writes u e = drained (write_answers u.notes) (read u e)

-- the session ends, where memory was refused after so many parts
abbrev pub starved_after : Option ℕ → ℕ → Engine → Engine
starved_after None at e = e
starved_after (Some j) at e = starve_at at j e

-- a turn from its step on; where it was cut, a session that had not ended before ends, since memory was refused
abbrev pub applied : Turn → Engine → Engine
applied u e =
    let after = (after_writes u e).engine in
    if has_ended e.talk then after else starved_after u.notes.starved u.at after

-- a turn: a link is asked for where one is wanted, then the step is taken, with all that follows it
abbrev pub turn : Turn → Engine → Engine
turn u e = applied u (asks e)

-- turns, one after another
abbrev pub turns : List Turn → Engine → Engine
turns [] e = e
turns (u ∷ us) e = turns us (turn u e)

-- the state of this session that these turns of a new engine of it lead to
abbrev pub talk : Talk → List Turn → Talk
talk t us = (turns us (begin t)).talk

-- ---- which turns there may be

-- a turn that was cut after so many parts has done so many
abbrev pub IsCut : Option ℕ → ℕ → Type 0
IsCut None n = Unit {0}
IsCut (Some j) n = n ≡ j

-- what the part asks before which a turn was cut, where it asks something: its step, or the frame that stands at the
-- front of the bytes of its piece
abbrev pub cut_questions : Turn → Engine → List Question
cut_questions u e =
    let p = read u e in
    if goes (begun u.at u.notes.starved u.notes.auths e)
    then (if is_piece u.step && can_read p.engine then read_questions p.at p.engine else [])
    else step_questions u.at u.step u.notes.auths e

-- each question that was asked has its answer, in order; where the turn was cut, answers to the first of what the next
-- part asks may follow
abbrev pub IsAnswered : Option ℕ → List Question → List Question → List Asked → Type 0
IsAnswered None questions next answers = Answer questions answers
IsAnswered (Some j) questions next answers =
    (length questions ≤ length answers) × Answer (take (length answers) (questions ++ next)) answers

-- the writes are those that are due, the provider answered what it was asked, and where the turn was cut, so many of
-- its parts were done
pub record IsApplied (u : Turn) (e : Engine) : Type 0 where
  pub answers : AreAnswers (write_answers u.notes) (read u e)
  pub asked : IsAnswered u.notes.starved (read u e).questions (cut_questions u e) u.notes.auths
  pub cut : IsCut u.notes.starved (after_writes u e).done

-- what was asked in a turn, from its step on, with the answers; where it was cut, also by the part before which it was
abbrev pub exchange_of : Turn → Engine → Exchange
exchange_of u e = paired ((read u e).questions ++ cut_questions u e) u.notes.auths

-- what was asked in these turns, with the answers
abbrev pub exchanges : List Turn → Engine → Exchange
exchanges [] e = []
exchanges (u ∷ us) e = exchange_of u (asks e) ++ exchanges us (turn u e)

-- after how many parts the first of these turns was cut that was, if one was
abbrev pub cut_of : List Turn → Option ℕ
cut_of [] = None
cut_of (u ∷ us) = option_or u.notes.starved (cut_of us)

-- a turn is one of a session that has not ended
pub record IsTurn (u : Turn) (e : Engine) : Type 0 where
  pub running : has_ended e.talk ≡ false
  pub applied : IsApplied u (asks e)

-- each of these is a turn of the engine that those before it lead to
abbrev pub AreTurns : List Turn → Engine → Type 0
AreTurns [] e = Unit {0}
AreTurns (u ∷ us) e = IsTurn u e × AreTurns us (turn u e)

-- a method that is sent is of a class that is passed through, its numbers fit their types, and its length is that of a
-- machine
abbrev pub IsToldMethod : OtherMethod → Type 0
IsToldMethod method =
    (method.class ≢ 10) × (method.class ≢ 20) × (method.class < 2 ^ 16) × (method.method < 2 ^ 16)
    × (length method.arguments < 2 ^ 63)

-- what a command carries fits on the wire: a method, the flags of the properties of a content and the length of its
-- body; what a close and a new secret say is asked apart (`IsFit`), since the conversation is legal whatever it is
abbrev pub IsToldCommand : Cmd → Type 0
IsToldCommand (Send channel method) = IsToldMethod method
IsToldCommand (Publish channel method properties body) =
    IsToldMethod method × (2 ≤ length properties) × (length body < 2 ^ 64)
IsToldCommand _ = Unit {0}

-- a step as it can be told: what it names is what it can carry
abbrev pub IsTold : Step → Type 0
IsTold (Command c) = IsToldCommand c
IsTold _ = Unit {0}

-- the steps of these turns are told
abbrev pub AreTold : List Turn → Type 0
AreTold [] = Unit {0}
AreTold (u ∷ us) = IsTold u.step × AreTold us

-- what a step says of its own can be written
abbrev pub StepCanBeTold : Step → Type 0
StepCanBeTold (Command c) = CanBeTold c
StepCanBeTold _ = Unit {0}

-- what a turn brings is what its types can hold: what its command says can be written, its bytes are octets, and so of
-- what the provider answers
pub record IsFit (u : Turn) : Type 0 where
  pub step : StepCanBeTold u.step
  pub bytes : IsOctets u.bytes
  pub auths : AllByRecursion CanBeAnswered u.notes.auths

-- so of each of these turns
abbrev pub AreFit : List Turn → Type 0
AreFit us = AllByRecursion IsFit us

-- these turns lead from here to there
pub record Leads (us : List Turn) (before after : Engine) : Type 0 where
  pub may : AreTurns us before
  pub leaves : turns us before ≡ after

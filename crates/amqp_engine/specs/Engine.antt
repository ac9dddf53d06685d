-- The engine: the session, with the bytes of its link that are not yet read, and those that are not yet taken.
use Rattle.std.specs.Prelude.{ℕ, zero, suc, ◌+◌, ◌-◌, not, ◌&&◌, if◌then◌else◌, nat_lt, Bool, List, [], ◌++◌, length, drop, Option, Some, None, is_some}
use Rattle.amqp_frame.specs.declared.frame.Read.{Read}
use Rattle.amqp_frame.specs.declared.frame.Read.TheVariants as reading
use Rattle.amqp_frame.specs.FrameReading.{front}
pub use Rattle.amqp_frame.specs.Sequences.{is_more}
use Rattle.amqp_frame.specs.Frames.{encoding}
use Rattle.amqp_outbox.specs.declared.item.Item.{Item}
use Rattle.amqp_promise.specs.declared.io_fault.IoFault.TheVariants.{Aborted, Reset, BrokenPipe}
use Rattle.amqp_violations.specs.declared.misread.Misread.{Misread}
use Rattle.amqp_violations.specs.declared.misread.Misread.TheVariants.{TooLarge, BadHeartbeat, Bad}
use Rattle.amqp_auth.specs.declared.asked.Question.{Question}
use Rattle.amqp_auth.specs.declared.asked.Asked.{Asked}
use Rattle.amqp_rules.specs.Talk.{Talk, is_open, is_asked, drops_input, has_ended}
use Rattle.amqp_rules.specs.Negotiation.{frame_limit}
use Rattle.amqp_rules.specs.Changes.{present_at, starve}
use Rattle.amqp_rules.specs.Links.{linked, link_failed, piece, misread, lost}
use Rattle.amqp_rules.specs.Frames.{on_frame, frame_questions}
use Rattle.amqp_rules.specs.Ticks.{tick, tick_questions}
use Rattle.amqp_rules.specs.Commands.{command}
use Rattle.amqp_rules.specs.Writing.{frames_waiting, next_within, commit, overlong, end_overlong, taken}
use Rattle.amqp_engine.specs.declared.port.Step.{Step}
use Rattle.amqp_engine.specs.declared.port.Step.TheVariants.{Linked, LinkFailed, Piece, End, Fault, Room, Tick, Command}
use Rattle.amqp_engine.specs.declared.port.Wrote.{Wrote}
use Rattle.amqp_engine.specs.declared.port.Wrote.TheVariants.{Took, Failed, NoMemory}
use Rattle.amqp_engine.specs.Plan.{at_most_64}

-- the state of the engine
pub record Engine : Type 0 where
  -- the state of the session
  pub talk : Talk
  -- the bytes that were received on the open link and not yet read
  pub unread : List ℕ
  -- how many bytes of the link were received before them, a number that stays at the greatest of 64 bits
  pub place : ℕ
  -- the bytes of the committed frames that are not yet taken
  pub unsent : List ℕ
  -- how many parts of a turn were done when memory was refused, where it was
  pub starved : Option ℕ

-- a new engine of a session
abbrev pub begin : Talk → Engine
begin t = record { talk = t; unread = []; place = 0; unsent = []; starved = None }

-- a change of the session alone
abbrev pub with_talk : (Talk → Talk) → Engine → Engine
with_talk f e = record e { talk = f e.talk }

-- a rule of the session at a moment, which the present follows
abbrev pub rule_at : ℕ → (Talk → Talk) → Engine → Engine
rule_at at f e = with_talk (λ t. f (present_at at t)) e

-- where the link is not open, nothing is left of what was received on it or is unsent; and where its input is
-- dropped, nothing is unread
abbrev pub settle : Engine → Engine
settle e =
    if is_open e.talk
    then (if drops_input e.talk then record e { unread = []; place = 0 } else e)
    else record e { unread = []; place = 0; unsent = [] }

-- ---- the step

-- the link that was asked for is there, and nothing was received or committed on it
abbrev pub step_linked : ℕ → Engine → Engine
step_linked at e =
    if is_asked e.talk
    then record { talk = linked (present_at at e.talk); unread = []; place = 0; unsent = []; starved = e.starved }
    else rule_at at (λ t. t) e

-- a piece joins the unread bytes of the open link, unless its input is dropped
abbrev pub step_piece : ℕ → List ℕ → Engine → Engine
step_piece at bytes e =
    if is_open e.talk
    then settle (record e { talk = piece (present_at at e.talk); unread = e.unread ++ bytes })
    else rule_at at (λ t. t) e

-- the rule of a step, with what the provider answers to what it asks
abbrev pub step_engine : ℕ → Step → List ℕ → List Asked → Engine → Engine
step_engine at Linked bytes answers e = step_linked at e
step_engine at LinkFailed bytes answers e = settle (rule_at at link_failed e)
step_engine at (Piece n) bytes answers e = step_piece at bytes e
step_engine at End bytes answers e = settle (rule_at at (lost Aborted) e)
step_engine at Fault bytes answers e = settle (rule_at at (lost Reset) e)
step_engine at Room bytes answers e = rule_at at (λ t. t) e
step_engine at Tick bytes answers e = settle (rule_at at (tick answers) e)
step_engine at (Command c) bytes answers e = rule_at at (command c) e

-- what a step asks of the provider, by what is answered to the first question
abbrev pub step_questions : ℕ → Step → List Asked → Engine → List Question
step_questions at Tick answers e = tick_questions answers (present_at at e.talk)
step_questions at step answers e = []

-- ---- reading

-- what stands at the front of the unread bytes
abbrev pub front_of : Engine → Read
front_of e = front e.unread (frame_limit e.talk)

-- there is a frame to be read, or what can be none
abbrev pub can_read : Engine → Bool
can_read e = is_open e.talk && not (is_more (front_of e))

-- what is no frame
abbrev pub read_badly : ℕ → Misread → Engine → Engine
read_badly at why e = settle (rule_at at (misread why) e)

-- what stood at the front is read, with what the provider answers to what it asks; that memory was refused is never
-- what stands there
abbrev pub read_row : ℕ → Read → List Asked → Engine → Engine
read_row at (reading.Whole f n) answers e =
    settle (record e {
      talk = on_frame f answers (present_at at e.talk);
      unread = drop n e.unread;
      place = at_most_64 (e.place + n);
    })
read_row at (reading.TooLarge size) answers e = read_badly at (TooLarge size) e
read_row at (reading.BadHeartbeat channel) answers e = read_badly at (BadHeartbeat channel) e
read_row at reading.More answers e = e
read_row at _ answers e = read_badly at (Bad e.place) e

-- what stands at the front of the unread bytes is read
abbrev pub read_one : ℕ → List Asked → Engine → Engine
read_one at answers e = read_row at (front_of e) answers e

-- what is asked by what stands at the front
abbrev pub row_questions : ℕ → Read → Engine → List Question
row_questions at (reading.Whole f n) e = frame_questions f (present_at at e.talk)
row_questions at other e = []

-- what is asked of the provider where that is read
abbrev pub read_questions : ℕ → Engine → List Question
read_questions at e = row_questions at (front_of e) e

-- ---- writing

-- the next frame, where it and the unsent bytes together fit the capacity
abbrev pub fitting_next : Engine → Option Item
fitting_next e = next_within (e.talk.capacity - length e.unsent) e.talk

-- the frame that is to go out, where there is one, is committed, and its bytes are unsent
abbrev pub committed_with_bytes : Option Item → Engine → Engine
committed_with_bytes None e = e
committed_with_bytes (Some item) e =
    record e { talk = commit (e.talk.capacity - length e.unsent) e.talk; unsent = e.unsent ++ encoding item.frame }

-- the next frame is committed, where it fits
abbrev pub commit_one : Engine → Engine
commit_one e = committed_with_bytes (fitting_next e) e

-- frames are committed while there is one that fits, and at most so many
abbrev pub commits : ℕ → Engine → Engine
commits zero e = e
commits (suc n) e = commits n (commit_one e)

-- frames are committed while there is one that fits
abbrev pub commit_all : Engine → Engine
commit_all e = commits (frames_waiting e.talk) e

-- the length of the frame that is next then, where it is longer than the whole capacity
abbrev pub overlong_next : Engine → Option ℕ
overlong_next e = overlong (commit_all e).talk

-- frames were committed while one fits, and then the next one can't go out, which ends the session
abbrev pub ended_overlong : Option ℕ → Engine → Engine
ended_overlong None e = e
ended_overlong (Some size) e = settle (with_talk (end_overlong (Some size)) (commit_all e))

-- where the frame that is next can't go out, the session ends
abbrev pub refuse_overlong : Engine → Engine
refuse_overlong e = ended_overlong (overlong_next e) e

-- something is to be written: the server does not block, and no frame is in the way that can't go out
abbrev pub can_write : Engine → Bool
can_write e =
    is_open e.talk
    && (not e.talk.blocked && (not (is_some (overlong_next e)) && nat_lt 0 (length (commit_all e).unsent)))

-- how many bytes an answer takes
abbrev pub taken_by : Wrote → ℕ
taken_by (Took k) = k
taken_by Failed = 0
taken_by NoMemory = 0

-- bytes were taken
abbrev pub took : ℕ → ℕ → Engine → Engine
took at k e = settle (record e { talk = taken k (present_at at e.talk); unsent = drop k e.unsent })

-- a write was answered: bytes were taken, or it failed, and the link is lost
abbrev pub wrote : ℕ → Wrote → Engine → Engine
wrote at Failed e = settle (rule_at at (lost BrokenPipe) e)
wrote at (Took k) e = took at k e
wrote at NoMemory e = took at 0 e

-- ---- where memory was refused

-- memory was refused when so many parts of the turn were done, and the session ends
abbrev pub starve_at : ℕ → ℕ → Engine → Engine
starve_at at j e =
    record e { talk = starve (present_at at e.talk); unread = []; place = 0; unsent = []; starved = Some j }

-- memory was refused before a turn, and a session that had not ended ends
abbrev pub starved_before : ℕ → Engine → Engine
starved_before at e = if has_ended e.talk then e else starve_at at 0 e

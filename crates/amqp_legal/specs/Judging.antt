-- What may be said next, by what a frame is.
use Rattle.std.specs.Prelude.{◌≡◌, ℕ, ◌-◌, ◌==◌, ◌&&◌, nat_le, if◌then◌else◌}
use Rattle.std.specs.Prelude.{Bool, true, false, Option, Some, None}
use Rattle.amqp_legal.specs.Decider.{Speech}
use Rattle.amqp_legal.specs.declared.progress.Stage.{Stage}
use Rattle.amqp_legal.specs.declared.progress.Stage.TheVariants.{OpenSaid, CloseSaid, CloseOkSaid}
use Rattle.amqp_legal.specs.declared.progress.Content.{Content}
use Rattle.amqp_legal.specs.declared.progress.Content.TheVariants.{NoContent, MethodSaid, BodyMissing}
use Rattle.amqp_legal.specs.Decider.{say_open, say_use, say_close, say_close_ok}
use Rattle.amqp_legal.specs.declared.speech.Speech.{Speech as Spoken}
use Rattle.amqp_legal.specs.declared.kind.Kind.{Kind}
use Rattle.amqp_legal.specs.declared.kind.Kind.TheVariants as k
use Rattle.amqp_legal.specs.Kinds.{introduced, is_close_ok_kind}
use Rattle.amqp_legal.specs.Speeches.{speech_of}

-- a frame may be said, and this was said then; or it may not, and nothing changes
abbrev pub Judged : Option Speech → Bool → Spoken → Spoken → Type 0
Judged next true old new = next ≡ Some (speech_of new)
Judged next false old new = (next ≡ None) × (new ≡ old)

-- a frame is judged by a rule
abbrev pub Follows : (Speech → Option Speech) → Bool → Spoken → Spoken → Type 0
Follows rule said old new = Judged (rule (speech_of old)) said old new

-- ---- what may be said on a channel

-- open
abbrev pub open_on : ℕ → Speech → Option Speech
open_on n s = say_open (s.usage n) n s

-- flow, flow-ok or a method that is passed through, with what content may go on after it
abbrev pub use_on : ℕ → Content → Speech → Option Speech
use_on n next s = say_use (s.usage n) next s

-- close
abbrev pub close_on : ℕ → Speech → Option Speech
close_on n s = say_close (s.usage n) n s

-- close-ok
abbrev pub close_ok_on : ℕ → Speech → Option Speech
close_ok_on n s = say_close_ok (s.usage n) n s

-- ---- what may be said, by what a frame is

-- where no octets of a body are missing
abbrev pub block_by_kind : Kind → Speech → Option Speech
block_by_kind k.Quiet s = Some (record s { content = NoContent })
block_by_kind k.Close s = Some (record s { stage = CloseSaid; content = NoContent })
block_by_kind (k.ChannelOpen n) s = open_on n s
block_by_kind (k.ChannelFlow n) s = use_on n NoContent s
block_by_kind (k.ChannelClose n) s = close_on n s
block_by_kind (k.ChannelCloseOk n) s = close_ok_on n s
block_by_kind (k.Passed n class) s = use_on n (MethodSaid n class) s
block_by_kind _ s = None

-- behind a method, which its content may follow
abbrev pub behind_method : ℕ → ℕ → Kind → Speech → Option Speech
behind_method n class (k.Header m other size) s =
    if m == n && other == class then Some (record s { content = BodyMissing n size }) else None
behind_method n class kind s = block_by_kind kind s

-- in a body of which octets are missing
abbrev pub in_body : ℕ → ℕ → Kind → Speech → Option Speech
in_body n missing (k.Body m size) s =
    if m == n && (nat_le 1 size && nat_le size missing)
    then Some (record s { content = BodyMissing n (missing - size) })
    else None
in_body n missing _ s = None

-- once the connection is opened, by the content that may go on
abbrev pub open_by_kind : Content → Kind → Speech → Option Speech
open_by_kind NoContent kind s = block_by_kind kind s
open_by_kind (MethodSaid n class) kind s = behind_method n class kind s
open_by_kind (BodyMissing n missing) kind s =
    if missing == 0 then block_by_kind kind s else in_body n missing kind s

-- once the connection is opened
abbrev pub once_open : Kind → Speech → Option Speech
once_open kind s = open_by_kind s.content kind s

-- a turning point of the introduction, where there is one
abbrev pub to_stage : Option Stage → Speech → Option Speech
to_stage (Some stage) s = Some (record s { stage = stage })
to_stage None s = None

-- at any stage, what is not our close-ok of the connection
abbrev pub stage_by_kind : Stage → Kind → Speech → Option Speech
stage_by_kind OpenSaid kind s = once_open kind s
stage_by_kind stage kind s = to_stage (introduced stage kind) s

-- our close-ok of the connection, by the stage
abbrev pub close_ok_at : Stage → Speech → Option Speech
close_ok_at CloseOkSaid s = None
close_ok_at _ s = Some (record s { stage = CloseOkSaid })

-- our close-ok of the connection
abbrev pub our_close_ok : Speech → Option Speech
our_close_ok s = close_ok_at s.stage s

-- the next frame, by what it is, where it may be said
abbrev pub say_by_kind : Kind → Speech → Option Speech
say_by_kind kind s = if is_close_ok_kind kind then our_close_ok s else stage_by_kind s.stage kind s

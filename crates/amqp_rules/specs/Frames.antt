-- Frames: which rule a frame that was read goes by.
use Rattle.std.specs.Prelude.{ℕ, zero, suc, if◌then◌else◌, List, [], ◌∷◌}
use Rattle.amqp_types.specs.declared.version.ProtocolVersion.{ProtocolVersion}
use Rattle.amqp_frame.specs.declared.frame.Frame.{Frame}
use Rattle.amqp_frame.specs.declared.frame.Frame.TheVariants.{ProtocolHeader, Method, Raw, Heartbeat}
use Rattle.amqp_frame.specs.declared.frame.RawKind.TheVariants.{RawMethod}
use Rattle.amqp_frame.specs.declared.method.Method.{Method as AnyMethod}
use Rattle.amqp_frame.specs.declared.method.Method.TheVariants.{Start, Secure, Blocked, Unblocked}
use Rattle.amqp_frame.specs.Methods.{is_of_a_channel}
use Rattle.amqp_promise.specs.declared.error.ErrorKind.TheVariants.{InvalidProtocolVersion}
use Rattle.amqp_promise.specs.declared.state.ConnectionState.{ConnectionState}
use Rattle.amqp_promise.specs.declared.state.ConnectionState.TheVariants.{Connecting}
use Rattle.amqp_rules.specs.declared.state.Phase.{Phase}
use Rattle.amqp_rules.specs.declared.state.Phase.TheVariants.{AwaitStart, AwaitTune}
use Rattle.amqp_auth.specs.declared.asked.Question.{Question}
use Rattle.amqp_auth.specs.declared.asked.Question.TheVariants as question
use Rattle.amqp_auth.specs.declared.asked.Asked.{Asked}
use Rattle.amqp_rules.specs.Talk.{Talk, acts, hears_on}
use Rattle.amqp_violations.specs.Violations.{stray_connection_method, stray_channel_frame}
use Rattle.amqp_rules.specs.Changes.{lose, misplaced}
use Rattle.amqp_rules.specs.ConnectionMethods.{on_blocked, on_unblocked, connection_rule}
use Rattle.amqp_rules.specs.ChannelMethods.{channel_method, raw_frame}

-- ---- the table

-- a protocol header is fatal, whatever version it names
abbrev pub on_protocol_header : ProtocolVersion → Talk → Talk
on_protocol_header version t = lose (InvalidProtocolVersion version) t

-- a heartbeat does nothing more
abbrev pub on_heartbeat : Talk → Talk
on_heartbeat t = t

-- a method on channel 0
abbrev pub method_on_0 : AnyMethod → List Asked → Talk → Talk
method_on_0 m answers t =
    if is_of_a_channel m then misplaced (stray_channel_frame RawMethod) t
    else connection_rule t.state t.phase m answers t

-- a method on another channel
abbrev pub method_on : ℕ → AnyMethod → Talk → Talk
method_on n m t = if is_of_a_channel m then channel_method n m t else misplaced (stray_connection_method n) t

-- the rule for a method
abbrev pub method_rule : ℕ → AnyMethod → List Asked → Talk → Talk
method_rule zero m answers t = method_on_0 m answers t
method_rule (suc n) m answers t = method_on (suc n) m t

-- the rule for a frame, with what the provider answers to what it asks
abbrev pub frame_rule : Frame → List Asked → Talk → Talk
frame_rule (ProtocolHeader version) answers t = on_protocol_header version t
frame_rule Heartbeat answers t = on_heartbeat t
frame_rule (Method n m) answers t = method_rule n m answers t
frame_rule (Raw zero kind bytes) answers t = misplaced (stray_channel_frame kind) t
frame_rule (Raw (suc n) kind bytes) answers t = raw_frame (suc n) kind bytes t

-- the rule for a frame after the server's close: only blocked and unblocked act
abbrev pub closed_rule : Frame → Talk → Talk
closed_rule (Method zero (Blocked reason)) t = on_blocked reason t
closed_rule (Method zero Unblocked) t = on_unblocked t
closed_rule f t = t

-- a frame was read on the open link, with what the provider answers to what it asks
abbrev pub on_frame : Frame → List Asked → Talk → Talk
on_frame f answers t =
    if acts t then frame_rule f answers t
    else if hears_on t then closed_rule f t
    else t

-- ---- what is asked of the provider

-- what a method of the connection class asks: start by which mechanism, and what is said first by it, and secure what
-- is said to its challenge
abbrev pub method_questions : ConnectionState → Phase → AnyMethod → List Question
method_questions Connecting AwaitStart (Start major minor properties mechanisms locales) =
    question.Mechanism ∷ question.Starter ∷ []
method_questions Connecting AwaitTune (Secure challenge) = question.Challenge challenge ∷ []
method_questions state phase method = []

-- what a frame asks where frames act
abbrev pub questions_in : Frame → Talk → List Question
questions_in (Method zero m) t = method_questions t.state t.phase m
questions_in f t = []

-- what a frame asks
abbrev pub frame_questions : Frame → Talk → List Question
frame_questions f t = if acts t then questions_in f t else []

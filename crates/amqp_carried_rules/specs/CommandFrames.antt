-- The frames of a command; and which commands are answered, and which answer says Sent.
use Rattle.std.specs.Prelude.{◌≡◌, ◌≤◌, ℕ, Bool, true, false, List, [], ◌∷◌, length, map, take, drop, Some, if◌then◌else◌, Option, Result, Ok}
use Rattle.std.specs.List.{flat_map, AllByRecursion}
use Rattle.std.specs.Int.{w16, w64, to_be_bytes}
use Rattle.amqp_frame.specs.declared.frame.Frame.{Frame}
use Rattle.amqp_frame.specs.declared.frame.Frame.TheVariants.{Raw}
use Rattle.amqp_frame.specs.declared.frame.RawKind.TheVariants.{RawMethod, Header, Body}
use Rattle.amqp_frame.specs.RawMethods.{OtherMethod, spell_raw_method}
use Rattle.amqp_promise.specs.declared.error.ErrorKind.{ErrorKind}
use Rattle.amqp_commands.specs.declared.command.Cmd.{Cmd}
use Rattle.amqp_commands.specs.declared.command.Cmd.TheVariants.{Send, Publish}
use Rattle.amqp_answers.specs.declared.answer.Answer.{Answer}
use Rattle.amqp_answers.specs.declared.answer.Answer.TheVariants.{Sent}
use Rattle.amqp_rules.specs.Commands.{takes_promise}

-- a method, one content header, and the body in frames, none of which is empty. The header has the class of the method,
-- weight 0, how long the body is, and the properties (AMQP 0-9-1, 2.3.5.2 and 4.2.6.1)
pub record AreContentFrames (n : ℕ) (method : OtherMethod) (properties body : List ℕ) (fs : List Frame) : Type 0 where
  pub head : List ℕ
  pub class : take 2 head ≡ to_be_bytes w16 method.class
  pub weight : take 2 (drop 2 head) ≡ to_be_bytes w16 0
  pub size : take 8 (drop 4 head) ≡ to_be_bytes w64 (length body)
  pub behind : drop 12 head ≡ properties
  pub pieces : List (List ℕ)
  pub not_empty : AllByRecursion (λ piece. 1 ≤ length piece) pieces
  pub joined : flat_map (λ piece. piece) pieces ≡ body
  pub frames : fs ≡ Raw n RawMethod (spell_raw_method method) ∷ Raw n Header head ∷ map (Raw n Body) pieces

-- the frames of a send, and of a publish; other commands have none
abbrev pub AreFramesOf : Cmd → List Frame → Type 0
AreFramesOf (Send channel method) fs = fs ≡ Raw channel.id RawMethod (spell_raw_method method) ∷ []
AreFramesOf (Publish channel method properties body) fs = AreContentFrames channel.id method properties body fs
AreFramesOf _ fs = ⊥

-- a command that sends one method
abbrev pub is_send : Cmd → Bool
is_send (Send channel method) = true
is_send _ = false

-- a command that publishes
abbrev pub is_publish : Cmd → Bool
is_publish (Publish channel method properties body) = true
is_publish _ = false

-- a frame that is passed through
abbrev pub is_raw : Frame → Bool
is_raw (Raw n kind bytes) = true
is_raw _ = false

-- a command that is answered
abbrev pub answered_command : Cmd → List Cmd
answered_command c = if takes_promise c then c ∷ [] else []

-- a promise that was answered Sent
abbrev pub is_sent : Option (Option (Result Answer ErrorKind)) → Bool
is_sent (Some (Some (Ok Sent))) = true
is_sent _ = false

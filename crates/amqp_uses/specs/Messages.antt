-- A message that is published, and one that is delivered (AMQP 0-9-1, class basic; 4.2.6).
use Rattle.std.specs.Prelude.{◌≡◌, ◌++◌, ◌&&◌, if◌then◌else◌, ℕ, nat_eq, nat_le, Bool, IsTrue, true, false, List, [], ◌∷◌, length, take, drop, Option, Some, None}
use Rattle.std.specs.List.{AllByRecursion, flat_map}
use Rattle.std.specs.Int.{w64, from_be_bytes}
use Rattle.std.specs.Cmp.Lexicographic.{pointwise}
use Rattle.amqp_types.specs.Forms.{spell_short_string}
use Rattle.amqp_frame.specs.RawMethods.{OtherMethod}
use Rattle.amqp_frame.specs.declared.frame.RawKind.{RawKind}
use Rattle.amqp_frame.specs.declared.frame.RawKind.TheVariants.{RawMethod, Header}
use Rattle.amqp_commands.specs.declared.command.ChanRef.{ChanRef}
use Rattle.amqp_commands.specs.declared.command.Cmd.{Cmd}
use Rattle.amqp_commands.specs.declared.command.Cmd.TheVariants.{Publish}
use Rattle.amqp_answers.specs.declared.handed.Handed.{Handed}
use Rattle.amqp_uses.specs.Driving.{is_body}

-- basic.publish to the queue of a name: through the exchange that has no name, neither mandatory nor immediate
abbrev pub publish_to : List ℕ → OtherMethod
publish_to queue =
    record {
      class = 60;
      method = 40;
      arguments = 0 ∷ 0 ∷ (spell_short_string [] ++ (spell_short_string queue ++ 0 ∷ []));
    }

-- a text that is published to a queue, without properties
abbrev pub publication : ChanRef → List ℕ → List ℕ → Cmd
publication channel queue text = Publish channel (publish_to queue) (0 ∷ 0 ∷ []) text

-- the kind of a method's frame
abbrev pub is_method_kind : RawKind → Bool
is_method_kind RawMethod = true
is_method_kind _ = false

-- the kind of a content header
abbrev pub is_header_kind : RawKind → Bool
is_header_kind Header = true
is_header_kind _ = false

-- a frame is basic.deliver
abbrev pub is_deliver : Handed → Bool
is_deliver frame = is_method_kind frame.kind && pointwise nat_eq (take 4 frame.bytes) (0 ∷ 60 ∷ 0 ∷ 60 ∷ [])

-- a frame is a content header that has the size of its body
abbrev pub is_sized_header : Handed → Bool
is_sized_header frame = is_header_kind frame.kind && nat_le 12 (length frame.bytes)

-- how many octets a body has, by its content header
abbrev pub size_in : Handed → ℕ
size_in header = from_be_bytes w64 (take 8 (drop 4 header.bytes))

-- how many octets are to come as bodies, where frames begin with basic.deliver and a content header
abbrev pub announced : List Handed → Option ℕ
announced (deliver ∷ header ∷ frames) =
    if is_deliver deliver && is_sized_header header then Some (size_in header) else None
announced frames = None

-- the payloads of frames, joined
abbrev pub payloads : List Handed → List ℕ
payloads frames = flat_map (λ (frame : Handed). frame.bytes) frames

-- frames are bodies, and these octets joined
abbrev pub AreBodies : List ℕ → List Handed → Type 0
AreBodies body frames =
    AllByRecursion (λ (frame : Handed). IsTrue (is_body frame)) frames × (payloads frames ≡ body)

-- some frames are one message with this body: basic.deliver, a content header, and bodies that are together as long as
-- the header says
pub record IsMessage (body : List ℕ) (frames : List Handed) : Type 0 where
  pub begins : announced frames ≡ Some (length body)
  pub bodies : AreBodies body (drop 2 frames)

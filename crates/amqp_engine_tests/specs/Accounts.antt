-- What can be seen of some clients, as it may be and as it may not.
use Rattle.std.specs.Prelude.{ℕ, ◌==◌, ◌||◌, if◌then◌else◌, Bool, false, List, [], ◌∷◌, ◌++◌, map, Option, Some, None, Result, Ok, Err}
use Rattle.amqp_frame.specs.declared.frame.Frame.{Frame}
use Rattle.amqp_frame.specs.declared.frame.Frame.TheVariants.{Heartbeat, Method, Raw}
use Rattle.amqp_frame.specs.declared.frame.RawKind.TheVariants.{RawMethod, Header, Body}
use Rattle.amqp_frame.specs.declared.method.Method.TheVariants.{ChannelOpen}
use Rattle.amqp_frame.specs.RawMethods.{OtherMethod, spell_raw_method}
use Rattle.amqp_promise.specs.declared.error.ErrorKind.{ErrorKind}
use Rattle.amqp_promise.specs.declared.error.ErrorKind.TheVariants.{ChannelsLimitReached}
use Rattle.amqp_commands.specs.declared.command.ChanRef.{ChanRef}
use Rattle.amqp_commands.specs.declared.command.Cmd.{Cmd}
use Rattle.amqp_commands.specs.declared.command.Cmd.TheVariants.{OpenChannel, Send, Publish}
use Rattle.amqp_answers.specs.declared.answer.Answer.{Answer}
use Rattle.amqp_answers.specs.declared.answer.Answer.TheVariants as says
use Rattle.amqp_answers.specs.declared.handed.Handed.{Handed}
use Rattle.amqp_engine.specs.Carried.{Account}

-- channel 1
abbrev pub one : ChanRef
one = record { id = 1; opened = None }

-- basic.qos
abbrev pub qos : OtherMethod
qos = record { class = 60; method = 10; arguments = 0 ∷ 0 ∷ 0 ∷ 0 ∷ 0 ∷ 1 ∷ 0 ∷ [] }

-- basic.get
abbrev pub get : OtherMethod
get = record { class = 60; method = 70; arguments = 0 ∷ 0 ∷ 1 ∷ 113 ∷ 0 ∷ [] }

-- basic.publish
abbrev pub basic_publish : OtherMethod
basic_publish = record { class = 60; method = 40; arguments = 0 ∷ 0 ∷ 0 ∷ 1 ∷ 113 ∷ 0 ∷ [] }

-- what is published
abbrev pub body : List ℕ
body = 1 ∷ 2 ∷ 3 ∷ []

-- flags of no properties
abbrev pub no_properties : List ℕ
no_properties = 0 ∷ 0 ∷ []

-- ---- frames

-- a method on channel 1
abbrev pub said : OtherMethod → Frame
said method = Raw 1 RawMethod (spell_raw_method method)

-- the octets of its header: class 60, weight 0, a body of three octets, and no properties
abbrev pub head : List ℕ
head = 0 ∷ 60 ∷ 0 ∷ 0 ∷ 0 ∷ 0 ∷ 0 ∷ 0 ∷ 0 ∷ 0 ∷ 0 ∷ 3 ∷ no_properties

-- the header of the content
abbrev pub header : Frame
header = Raw 1 Header head

-- what is published, its body in these pieces
abbrev pub content : List (List ℕ) → List Frame
content pieces = said basic_publish ∷ header ∷ map (Raw 1 Body) pieces

-- ---- octets

-- those of a heartbeat
abbrev pub heartbeat_octets : List ℕ
heartbeat_octets = 8 ∷ 0 ∷ 0 ∷ 0 ∷ 0 ∷ 0 ∷ 0 ∷ 206 ∷ []

-- those of basic.qos on channel 1
abbrev pub qos_octets : List ℕ
qos_octets =
    1 ∷ 0 ∷ 1 ∷ 0 ∷ 0 ∷ 0 ∷ 11 ∷ 0 ∷ 60 ∷ 0 ∷ 10 ∷ 0 ∷ 0 ∷ 0 ∷ 0 ∷ 0 ∷ 1 ∷ 0 ∷ 206 ∷ []

-- those of the body of the content on channel 1, in one piece
abbrev pub body_octets : List ℕ
body_octets = 3 ∷ 0 ∷ 1 ∷ 0 ∷ 0 ∷ 0 ∷ 3 ∷ 1 ∷ 2 ∷ 3 ∷ 206 ∷ []

-- those of the same body on channel 2
abbrev pub body_octets_2 : List ℕ
body_octets_2 = 3 ∷ 0 ∷ 2 ∷ 0 ∷ 0 ∷ 0 ∷ 3 ∷ 1 ∷ 2 ∷ 3 ∷ 206 ∷ []

-- the first of those on channel 1
abbrev pub body_begun : List ℕ
body_begun = 3 ∷ 0 ∷ 1 ∷ 0 ∷ 0 ∷ 0 ∷ 3 ∷ 1 ∷ 2 ∷ []

-- ---- commands

-- the publish
abbrev pub publish : Cmd
publish = Publish one basic_publish no_properties body

-- no command was answered Sent
abbrev pub no_number : ℕ → Bool
no_number n = false

-- these were answered Sent
abbrev pub sent_where : Bool → Option (Result Answer ErrorKind)
sent_where sent = if sent then Some (Ok says.Sent) else None

-- a client that was told these things, which were answered Sent where so, and that sent this
abbrev pub sent_by : List Cmd → (ℕ → Bool) → List (List Frame) → Account
sent_by commands answered links =
    record {
      commands = commands;
      answers = λ n. sent_where (answered n);
      came_before = λ n. [];
      sent = links;
      came = [];
      handed = λ opened. [];
    }

-- a frame that came
abbrev pub delivery : Handed
delivery = record { channel = 1; kind = Body; bytes = body }

-- the same on channel 2
abbrev pub delivery_2 : Handed
delivery_2 = record { channel = 2; kind = Body; bytes = body }

-- the first was handed out by the promise of this number
abbrev pub by_promise : ℕ → ℕ → List Handed
by_promise number opened = if opened == number then delivery ∷ [] else []

-- two sends with a publish between them, all answered Sent, and a frame that came and was handed out
abbrev pub all_sent : Account
all_sent =
    record {
      commands = OpenChannel ∷ Send one qos ∷ publish ∷ Send one get ∷ [];
      answers = λ n.
          if n == 1 then Some (Ok (says.Channel 1 1)) else sent_where (n == 2 || (n == 3 || n == 4));
      came_before = λ n. [];
      sent =
          (Method 1 ChannelOpen ∷ said qos ∷ content ((1 ∷ 2 ∷ []) ∷ (3 ∷ []) ∷ []) ++ Heartbeat ∷ said get ∷ []) ∷ [];
      came = (heartbeat_octets ++ qos_octets ++ body_octets ++ body_begun) ∷ [];
      handed = by_promise 1;
    }

-- the link is lost while a publish goes out, which is not answered Sent; on the next link a send follows
abbrev pub cut_off : Account
cut_off =
    sent_by (publish ∷ Send one qos ∷ []) (λ n. n == 2) ((said basic_publish ∷ header ∷ []) ∷ (said qos ∷ []) ∷ [])

-- the same publish, answered Sent
abbrev pub torn_and_sent : Account
torn_and_sent = sent_by (publish ∷ []) (λ n. n == 1) ((said basic_publish ∷ header ∷ []) ∷ [])

-- two sends that went out the other way round
abbrev pub swapped : Account
swapped = sent_by (Send one qos ∷ Send one get ∷ []) (λ n. n == 1 || n == 2) ((said get ∷ said qos ∷ []) ∷ [])

-- a send that went out twice
abbrev pub twice : Account
twice = sent_by (Send one qos ∷ []) (λ n. n == 1) ((said qos ∷ said qos ∷ []) ∷ [])

-- and so on two links
abbrev pub on_two_links : Account
on_two_links = sent_by (Send one qos ∷ []) (λ n. n == 1) ((said qos ∷ []) ∷ (said qos ∷ []) ∷ [])

-- a publish whose first frames went out on one link, and whose body on the next
abbrev pub torn_over_links : Account
torn_over_links =
    sent_by (publish ∷ []) (λ n. n == 1) ((said basic_publish ∷ header ∷ []) ∷ (Raw 1 Body body ∷ []) ∷ [])

-- a publish with another body
abbrev pub other_body : Account
other_body = sent_by (publish ∷ []) (λ n. n == 1) (content ((9 ∷ 9 ∷ 9 ∷ []) ∷ []) ∷ [])

-- a frame is handed out that did not come
abbrev pub made_up : Account
made_up = record (sent_by [] no_number []) { handed = by_promise 1 }

-- a frame is handed out of which only the first octets came
abbrev pub not_whole : Account
not_whole =
    record {
      commands = OpenChannel ∷ [];
      answers = λ n. if n == 1 then Some (Ok (says.Channel 1 1)) else None;
      came_before = λ n. [];
      sent = (Method 1 ChannelOpen ∷ []) ∷ [];
      came = body_begun ∷ [];
      handed = by_promise 1;
    }

-- a frame came, and was handed out by a promise that opened nothing
abbrev pub opened_by_none : Account
opened_by_none =
    record (sent_by [] no_number []) { came = body_octets ∷ []; handed = by_promise 1 }

-- a frame came on channel 1, and was handed out by the promise that opened channel 2
abbrev pub by_another : Account
by_another =
    record {
      commands = OpenChannel ∷ OpenChannel ∷ [];
      answers = λ n.
          if n == 1 then Some (Ok (says.Channel 1 1)) else if n == 2 then Some (Ok (says.Channel 2 2)) else None;
      came_before = λ n. [];
      sent = (Method 1 ChannelOpen ∷ Method 2 ChannelOpen ∷ []) ∷ [];
      came = body_octets ∷ [];
      handed = by_promise 2;
    }

-- channel 1 was opened twice, and after that a frame came, and was handed out by the promise that opened it first
abbrev pub by_an_earlier : Account
by_an_earlier =
    record {
      commands = OpenChannel ∷ OpenChannel ∷ [];
      answers = λ n.
          if n == 1 then Some (Ok (says.Channel 1 1)) else if n == 2 then Some (Ok (says.Channel 1 2)) else None;
      came_before = λ n. [];
      sent = (Method 1 ChannelOpen ∷ Method 1 ChannelOpen ∷ []) ∷ [];
      came = body_octets ∷ [];
      handed = by_promise 1;
    }

-- no number was free for the channel that a promise was to open, and yet it handed out a frame that came
abbrev pub by_a_refused : Account
by_a_refused =
    record {
      commands = OpenChannel ∷ [];
      answers = λ n. if n == 1 then Some (Err ChannelsLimitReached) else None;
      came_before = λ n. [];
      sent = [];
      came = body_octets ∷ [];
      handed = by_promise 1;
    }

-- a promise hands out frames of two channels, and is not answered
abbrev pub of_two_channels : Account
of_two_channels =
    record {
      commands = OpenChannel ∷ [];
      answers = λ n. None;
      came_before = λ n. [];
      sent = [];
      came = (body_octets ++ body_octets_2) ∷ [];
      handed = λ opened. if opened == 1 then delivery ∷ delivery_2 ∷ [] else [];
    }

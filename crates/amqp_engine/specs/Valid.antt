-- Valid scripts: those of a faultless server, on one link that takes all and is never lost, which closes the connection
-- in the end (AMQP 0-9-1, 2.2.4, 2.3.7 and 4.2.3).
use Rattle.std.specs.Prelude.{◌≡◌, ◌≢◌, ◌≤◌, ℕ, ◌+◌, ◌-◌, ◌*◌, nat_le, min, unwrap_or, if◌then◌else◌, List, [], ◌∷◌, ◌++◌, length, map, Option, Some, None, Ok}
use Rattle.std.specs.List.{flat_map, AllByRecursion}
use Rattle.std.specs.Option.{option_or}
use Rattle.amqp_frame.specs.declared.frame.Frame.{Frame}
use Rattle.amqp_frame.specs.declared.frame.Frame.TheVariants.{Method}
use Rattle.amqp_frame.specs.declared.method.Method.TheVariants.{TuneOk}
use Rattle.amqp_frame.specs.Frames.{FrameOf}
use Rattle.amqp_auth.specs.declared.asked.Asked.{Asked}
use Rattle.amqp_answers.specs.declared.answer.Answer.TheVariants.{Connected}
use Rattle.amqp_maps.specs.Listed.{at}
use Rattle.amqp_rules.specs.Talk.{Talk, end_of}
use Rattle.amqp_auth.specs.Providers.{Exchange}
use Rattle.amqp_faultless.specs.Faultless.{Server, silent, said_to, heard_from, opens_connection, AreSayable, IsShortCommand}
use Rattle.amqp_faultless.specs.Faultless.ServerStage.{Gone}
use Rattle.amqp_engine.specs.declared.given.Given.{Given}
use Rattle.amqp_engine.specs.declared.given.GivenStep.{GivenStep}
use Rattle.amqp_engine.specs.declared.given.GivenStep.TheVariants as given
use Rattle.amqp_engine.specs.declared.port.Step.TheVariants.{Tick}
use Rattle.amqp_engine.specs.Plan.{bytes_of}
use Rattle.amqp_engine.specs.Log.{Log, loaded}
use Rattle.amqp_engine.specs.Engine.{Engine, begin}
use Rattle.amqp_engine.specs.Turn.{Turn, is_piece, turn}
use Rattle.amqp_engine.specs.Sending.{Sending, frames_sent, turn_sending, sendings}
use Rattle.amqp_engine.specs.Play.{replayed, IsPlayed}
use Rattle.amqp_engine.specs.SentWhole.{said_of}

-- ---- what a server may say, after what was said to it

-- what is said on a link
pub data LinkSaying : Type 0 where
  -- by the server
  Theirs : Frame → LinkSaying
  -- by the client
  Ours : Frame → LinkSaying

-- one thing more was said
abbrev pub after_saying : LinkSaying → Server → Option Server
after_saying (Theirs f) s = heard_from s.stage f s
after_saying (Ours f) s = Some (said_to f s)

-- all this was said, and the server may say what it said
abbrev pub after_sayings : List LinkSaying → Option Server → Option Server
after_sayings sayings None = None
after_sayings [] (Some s) = Some s
after_sayings (saying ∷ sayings) (Some s) = after_sayings sayings (after_saying saying s)

-- the server said what it may, and is gone
pub record IsServed (sayings : List LinkSaying) : Type 0 where
  pub server : Server
  pub said : after_sayings sayings (Some silent) ≡ Some server
  pub gone : server.stage ≡ Gone

-- ---- the frames of the bytes

-- the bytes of a script, joined
abbrev pub all_bytes : List Given → List ℕ
all_bytes gs = flat_map (λ (g : Given). bytes_of g.what) gs

-- a frame, and the octets that spell it
pub record SpelledFrame : Type 0 where
  pub octets : List ℕ
  pub frame : Frame

-- octets spell frames of at most so many: 4096 up to open-ok, and then as many as were agreed
abbrev pub AreSpelled : ℕ → ℕ → List SpelledFrame → Type 0
AreSpelled most agreed [] = Unit {0}
AreSpelled most agreed (s ∷ rest) =
    FrameOf s.frame s.octets × (length s.octets ≤ most)
    × AreSpelled (if opens_connection s.frame then agreed else most) agreed rest

-- bytes are spellings of frames, and nothing else
pub record AreFrames (agreed : ℕ) (bytes : List ℕ) (spelled : List SpelledFrame) : Type 0 where
  pub joined : bytes ≡ flat_map (λ (s : SpelledFrame). s.octets) spelled
  pub frames : AreSpelled 4096 agreed spelled

-- ---- what is said on the link, step by step: the server's frames come with their last byte, and then the client says
-- its own

-- the first of these frames, as many as are whole in so many bytes
abbrev pub whole_in : ℕ → List SpelledFrame → List Frame
whole_in n [] = []
whole_in n (s ∷ rest) = if nat_le (length s.octets) n then s.frame ∷ whole_in (n - length s.octets) rest else []

-- those that are not
abbrev pub later_than : ℕ → List SpelledFrame → List SpelledFrame
later_than n [] = []
later_than n (s ∷ rest) = if nat_le (length s.octets) n then later_than (n - length s.octets) rest else s ∷ rest

-- how many bytes of the first of those came already
abbrev pub begun_in : ℕ → List SpelledFrame → ℕ
begun_in n [] = n
begun_in n (s ∷ rest) = if nat_le (length s.octets) n then begun_in (n - length s.octets) rest else n

-- the frames that each of these turns sends
abbrev pub sent_by_turns : List Turn → Engine → List Sending → List (List Frame)
sent_by_turns [] e ss = []
sent_by_turns (u ∷ us) e ss =
    said_of u e ss ∷ sent_by_turns us (turn u e) (turn_sending u e ss)

-- what is said in these steps, where so many bytes of the first frame came already and each step sends this; steps
-- after the session's end send nothing
abbrev pub sayings_of : List Given → List (List Frame) → ℕ → List SpelledFrame → List LinkSaying
sayings_of [] sent n spelled = []
sayings_of (g ∷ gs) [] n spelled =
    let came = n + length (bytes_of g.what) in
    map Theirs (whole_in came spelled) ++ sayings_of gs [] (begun_in came spelled) (later_than came spelled)
sayings_of (g ∷ gs) (fs ∷ sent) n spelled =
    let came = n + length (bytes_of g.what) in
    map Theirs (whole_in came spelled) ++ map Ours fs
    ++ sayings_of gs sent (begun_in came spelled) (later_than came spelled)

-- ---- the steps

-- a step that leaves the link as it is
abbrev pub IsQuiet : GivenStep → Type 0
IsQuiet (given.Link room) = ⊥
IsQuiet given.Refuse = ⊥
IsQuiet given.End = ⊥
IsQuiet given.Fault = ⊥
IsQuiet given.WriteFail = ⊥
IsQuiet _ = Unit {0}

-- first comes a link that takes all, and no other, and nothing fails
abbrev pub IsLinkedOnce : List Given → Type 0
IsLinkedOnce [] = ⊥
IsLinkedOnce (g ∷ gs) = (g.what ≡ given.Link None) × AllByRecursion (λ (h : Given). IsQuiet h.what) gs

-- no moment falls, from this one on
abbrev pub MomentsRise : ℕ → List Given → Type 0
MomentsRise moment [] = Unit {0}
MomentsRise moment (g ∷ gs) = (moment ≤ g.at) × MomentsRise g.at gs

-- bytes come last
abbrev pub EndsWithBytes : List Given → Type 0
EndsWithBytes gs = (before : List Given) × (last : Given) × (gs ≡ before ++ last ∷ []) × (bytes_of last.what ≢ [])

-- the heartbeat that a frame of ours agrees to
abbrev pub heartbeat_in : Frame → Option ℕ
heartbeat_in (Method n (TuneOk channel_max frame_max heartbeat)) = Some heartbeat
heartbeat_in _ = None

-- the heartbeat that is agreed on a link, in seconds, once we said so
abbrev pub agreed_heartbeat : List Frame → Option ℕ
agreed_heartbeat [] = None
agreed_heartbeat (f ∷ fs) = option_or (heartbeat_in f) (agreed_heartbeat fs)

-- the moment of the last piece of these turns
abbrev pub last_piece : ℕ → List Turn → ℕ
last_piece moment [] = moment
last_piece moment (u ∷ us) = last_piece (if is_piece u.step then u.at else moment) us

-- once a heartbeat is agreed that is not 0, no tick is more than two of them after the last piece
abbrev pub IsTimely : Talk → List Turn → Type 0
IsTimely t us =
    (before later : List Turn) (u : Turn) (heartbeat : ℕ) → us ≡ before ++ u ∷ later → u.step ≡ Tick
    → agreed_heartbeat (flat_map frames_sent (sendings t before)) ≡ Some heartbeat
    → heartbeat ≢ 0 → u.at - last_piece 0 before ≤ 2000 * heartbeat

-- what a close says why, in a short string: at most 255 octets
abbrev pub IsShort : GivenStep → Type 0
IsShort (given.Command c) = IsShortCommand c
IsShort _ = Unit {0}

-- ---- a valid script

-- the greatest frame that tune-ok agrees to
abbrev pub frame_max_in : Frame → Option ℕ
frame_max_in (Method n (TuneOk channel_max frame_max heartbeat)) = Some frame_max
frame_max_in _ = None

-- the same of the first tune-ok among frames; what every peer takes, where there is none
abbrev pub agreed_frame_max : List Frame → ℕ
agreed_frame_max [] = 4096
agreed_frame_max (f ∷ fs) = unwrap_or (frame_max_in f) (agreed_frame_max fs)

-- how long a frame may be once the connection is open: as long as was agreed, and as can be received at once
abbrev pub agreed_limit : Talk → List Turn → ℕ
agreed_limit t us = min 134217728 (agreed_frame_max (flat_map frames_sent (sendings t us)))

-- what the provider answered in these turns, in order
abbrev pub answered_in : List Turn → List Asked
answered_in us = flat_map (λ (u : Turn). u.notes.auths) us

-- the steps of a script are those of a faultless server, for this session and what its provider answers, whatever links
-- there are
pub record IsFaultless (t : Talk) (gs : List Given) (answers : List Asked) : Type 0 where
  pub sayable : AreSayable t.config.options (answered_in (replayed t gs answers))
  pub vhost : length t.config.uri.vhost ≤ 255
  pub short : AllByRecursion (λ (g : Given). IsShort g.what) gs
  pub moments : MomentsRise 0 gs
  pub timely : IsTimely t (replayed t gs answers)
  pub spelled : List SpelledFrame
  pub frames : AreFrames (agreed_limit t (replayed t gs answers)) (all_bytes gs) spelled
  pub served : IsServed (sayings_of gs (sent_by_turns (replayed t gs answers) (begin t) []) 0 spelled)
  pub last : EndsWithBytes gs

-- a script is a valid one: its steps are those of a faultless server, on one link that takes all
pub record Valid (t : Talk) (gs : List Given) (answers : List Asked) : Type 0 where
  pub linked : IsLinkedOnce gs
  pub faultless : IsFaultless t gs answers

-- a run of a new session over a port that plays these steps, of at least as many turns: where the script is a valid one
-- for what was answered, the connection was opened, and the session ended Closed
pub record RunsValid (allowed : ℕ) (t : Talk) (gs : List Given) (e : Engine) (log : Option Log)
    (before : Exchange → Type 0) : Type 0 where
  pub played : IsPlayed allowed (begin t) e (loaded gs) log before
  pub opened : Valid t gs played.answers → at 0 e.talk.promises ≡ Some (Some (Ok Connected))
  pub closed : Valid t gs played.answers → end_of e.talk ≡ Some (Ok tt)

-- No send and no publish is torn, swapped or sent twice: what a client was told to send is what went out, and what was
-- handed out came. It is said of what can be seen, and shares nothing with the rules of the session.
use Rattle.std.specs.Prelude.{◌≡◌, ◌≢◌, ◌⊎◌, ◌<◌, ◌≤◌, ℕ, suc, ◌&&◌, Bool, true, false, List, [], ◌∷◌, ◌++◌, map, filter, slice_get, Option, Some, Result, Ok, Err}
use Rattle.std.specs.List.{flat_map, AllByRecursion}
use Rattle.amqp_frame.specs.declared.frame.Frame.{Frame}
use Rattle.amqp_frame.specs.declared.frame.Frame.TheVariants.{Raw}
use Rattle.amqp_frame.specs.Sequences.{Stand}
use Rattle.amqp_promise.specs.declared.error.ErrorKind.{ErrorKind}
use Rattle.amqp_promise.specs.declared.error.ErrorKind.TheVariants.{ChannelsLimitReached}
use Rattle.amqp_commands.specs.declared.command.Cmd.{Cmd}
use Rattle.amqp_commands.specs.declared.command.Cmd.TheVariants.{OpenChannel}
use Rattle.amqp_answers.specs.declared.answer.Answer.{Answer}
use Rattle.amqp_answers.specs.declared.answer.Answer.TheVariants as says
use Rattle.amqp_answers.specs.declared.handed.Handed.{Handed}
use Rattle.amqp_carried_rules.specs.CommandFrames.{AreFramesOf, is_send, is_publish, is_raw}
use Rattle.amqp_carried_rules.specs.HandingOut.{handed_on}

-- what can be seen of a client and its links
pub record Account : Type 0 where
  -- what it was told that is answered, in order: the first has the number 1
  pub commands : List Cmd
  -- by number, what a command was answered, where it was, and the octets that had come on each link when it was told
  pub answers : ℕ → Option (Result Answer ErrorKind)
  pub came_before : ℕ → List (List ℕ)
  -- the frames that were sent on each link, in order
  pub sent : List (List Frame)
  -- the octets that came on each link
  pub came : List (List ℕ)
  -- by the promise that opened their channel, the frames that were handed out, in order
  pub handed : ℕ → List Handed

-- an answer says Sent
abbrev pub says_sent : Option (Result Answer ErrorKind) → Bool
says_sent (Some (Ok says.Sent)) = true
says_sent _ = false

-- by number, whether a command was answered Sent
abbrev pub answered_sent : Account → ℕ → Bool
answered_sent a number = says_sent (a.answers number)

-- ---- the frames of the commands that were answered Sent

-- the frames of the commands of a kind that were answered Sent, in order of number, command after command; the first of
-- the commands has this number
pub data AreSent (is_kind : Cmd → Bool) (answered : ℕ → Bool) : ℕ → List Cmd → List (List Frame) → Type 0 where
  none : {n : ℕ} → AreSent is_kind answered n [] []
  other : {n : ℕ} {c : Cmd} {cs : List Cmd} {fss : List (List Frame)} → (is_kind c && answered n) ≡ false
      → AreSent is_kind answered (suc n) cs fss → AreSent is_kind answered n (c ∷ cs) fss
  sent : {n : ℕ} {c : Cmd} {cs : List Cmd} {fs : List Frame} {fss : List (List Frame)}
      → (is_kind c && answered n) ≡ true → AreFramesOf c fs
      → AreSent is_kind answered (suc n) cs fss → AreSent is_kind answered n (c ∷ cs) (fs ∷ fss)

-- ---- what is set aside

-- the frames that are passed through
abbrev pub raw_frames : List Frame → List Frame
raw_frames fs = filter is_raw fs

-- the first frames of a publish that was not answered Sent, but not all of its frames
pub record IsTorn (a : Account) (part : List Frame) : Type 0 where
  -- how many commands came before it
  pub before : ℕ
  pub command : Cmd
  pub told : slice_get a.commands before ≡ Some command
  pub publish : is_publish command ≡ true
  pub unanswered : answered_sent a (suc before) ≡ false
  pub rest : List Frame
  pub proper : rest ≢ []
  pub frames : AreFramesOf command (part ++ rest)

-- of the frames of a link the last are set aside: none, or such a part of a publish
pub record IsCutOff (a : Account) (fs kept : List Frame) : Type 0 where
  pub part : List Frame
  pub frames : fs ≡ kept ++ part
  pub torn : (part ≡ []) ⊎ IsTorn a part

-- so on each link
abbrev pub AreCut : Account → List (List Frame) → List (List Frame) → Type 0
AreCut a [] [] = Unit {0}
AreCut a (fs ∷ links) (kept ∷ more) = IsCutOff a fs kept × AreCut a links more
AreCut a _ _ = ⊥

-- ---- what is claimed

-- the elements of two lists, in the order of each
pub data Merges {A : Type 0} : List A → List A → List A → Type 0 where
  none : Merges [] [] []
  left : {x : A} {xs ys zs : List A} → Merges xs ys zs → Merges (x ∷ xs) ys (x ∷ zs)
  right : {y : A} {xs ys zs : List A} → Merges xs ys zs → Merges xs (y ∷ ys) (y ∷ zs)

-- the elements of a list without some of them, in order
pub data IsSubsequence {A : Type 0} : List A → List A → Type 0 where
  none : IsSubsequence [] []
  kept : {x : A} {xs ys : List A} → IsSubsequence xs ys → IsSubsequence (x ∷ xs) (x ∷ ys)
  left_out : {y : A} {xs ys : List A} → IsSubsequence xs ys → IsSubsequence xs (y ∷ ys)

-- one list after another
abbrev pub concatenated : {A : Type 0} → List (List A) → List A
concatenated xss = flat_map (λ xs. xs) xss

-- on each link whole commands went out, one after another, and nothing else of what is passed through but what is set
-- aside: the frames of the sends that were answered Sent and those of the publishes that were answered Sent, each in
-- order of number
pub record WentOut (a : Account) : Type 0 where
  -- link by link, the frames of each command that went out on it
  pub order : List (List (List Frame))
  pub cut : AreCut a (map raw_frames a.sent) (map concatenated order)
  pub sends : List (List Frame)
  pub publishes : List (List Frame)
  pub are_sends : AreSent is_send (answered_sent a) 1 a.commands sends
  pub are_publishes : AreSent is_publish (answered_sent a) 1 a.commands publishes
  pub in_turns : Merges sends publishes (concatenated order)

-- a frame that was handed out, as it was read
abbrev pub frame_of : Handed → Frame
frame_of h = Raw h.channel h.kind h.bytes

-- a frame was handed out by the promise of a command that opens a channel; and where that was answered, but not with an
-- error, the answer is that the channel of the frame is open, and names the promise. It is not that no number was free
pub record IsOpenedBy (a : Account) (opened : ℕ) (h : Handed) : Type 0 where
  -- how many commands came before it
  pub before : ℕ
  pub number : opened ≡ suc before
  pub command : slice_get a.commands before ≡ Some OpenChannel
  pub answer : (answer : Answer) → a.answers opened ≡ Some (Ok answer) → answer ≡ says.Channel h.channel opened
  pub listed : a.answers opened ≢ Some (Err ChannelsLimitReached)

-- the greatest limit that a reader of frames can be given
abbrev pub longest_frame : ℕ
longest_frame = 4294967295

-- in the octets of each link these frames stand first, one after another
abbrev pub StandOnLinks : List (List ℕ) → List (List Frame) → Type 0
StandOnLinks [] [] = Unit {0}
StandOnLinks (octets ∷ links) (fs ∷ read) =
    (place : ℕ) × Stand octets longest_frame 0 fs place × StandOnLinks links read
StandOnLinks _ _ = ⊥

-- frames that were handed out, with the promises that opened their channels, are some of those that stand in octets
-- that came link by link, in order
pub record AreSome (came : List (List ℕ)) (handed : List (ℕ × Handed)) : Type 0 where
  pub read : List (List Frame)
  pub stand : StandOnLinks came read
  pub order : IsSubsequence (map (λ h. frame_of h.1) handed) (raw_frames (concatenated read))

-- once a channel is opened, an earlier opening of its number is over: what was handed out before had come when that was
-- told, and is by earlier promises; and of what is handed out after, nothing of this channel is by an earlier one
pub record IsParted (came : List (List ℕ)) (channel opened : ℕ) (handed : List (ℕ × Handed)) : Type 0 where
  pub before : List (ℕ × Handed)
  pub after : List (ℕ × Handed)
  pub all : handed ≡ before ++ after
  pub had_come : AreSome came before
  pub earlier : AllByRecursion (λ (h : ℕ × Handed). h.0 < opened) before
  pub later : AllByRecursion (λ (h : ℕ × Handed). (h.1).channel ≡ channel → opened ≤ h.0) after

-- what was handed out came, once each and in order, by the promise that opened its channel last
pub record CameIn (a : Account) : Type 0 where
  -- all that was handed out, in order, with the promise that opened its channel
  pub handed : List (ℕ × Handed)
  pub each : (opened : ℕ) → handed_on opened handed ≡ a.handed opened
  pub came : AreSome a.came handed
  pub opened : (number : ℕ) → AllByRecursion (IsOpenedBy a number) (a.handed number)
  -- a promise opens one channel
  pub one : (number : ℕ) → (channel : ℕ) × AllByRecursion (λ (h : Handed). h.channel ≡ channel) (a.handed number)
  -- an opening parts it, where its answer says which channel is open: so many commands came before it
  pub parted : (before channel : ℕ) → slice_get a.commands before ≡ Some OpenChannel →
      a.answers (suc before) ≡ Some (Ok (says.Channel channel (suc before))) →
      IsParted (a.came_before (suc before)) channel (suc before) handed

-- no send and no publish is torn, swapped or sent twice, and nothing is handed out that did not come
pub record Carried (a : Account) : Type 0 where
  pub went_out : WentOut a
  pub came_in : CameIn a

-- What is claimed of what was said on a link.
use Rattle.std.specs.Prelude.{◌≡◌, ◌≢◌, ℕ, false, List, [], ◌∷◌, ◌++◌, length, map}
use Rattle.std.specs.List.{AllByRecursion}
use Rattle.amqp_frame.specs.Frames.{encoding, Writable}
use Rattle.amqp_frame.specs.Fronts.{IsWithinLimit}
use Rattle.amqp_frame.specs.Sequences.{SequenceEnd, IsSequence}
use Rattle.amqp_frame.specs.Sequences.SequenceEnd.{Broken}
use Rattle.amqp_rules.specs.Talk.{is_asked, has_ended}
use Rattle.amqp_legal.specs.Legal.{Legal}
use Rattle.amqp_legal.specs.Agreed.{KeepsAgreed}
use Rattle.amqp_engine.specs.declared.given.Given.{Given}
use Rattle.amqp_engine.specs.Plan.{step_of}
use Rattle.amqp_engine.specs.Log.{Log}
use Rattle.amqp_engine.specs.Engine.{Engine}
use Rattle.amqp_engine.specs.Turn.{Turn, write_answers, IsTold, read}
use Rattle.amqp_engine.specs.Sending.{Sending, frames, encodings, items_sent, frames_sent, link_bytes, step_sending, offers_sending, SendsInOrder}

-- what was sent, once a turn was taken from its step on
abbrev pub applied_sending : Turn → Engine → List Sending → List Sending
applied_sending u e ss = offers_sending (write_answers u.notes) (read u e) (step_sending u.step e ss)

-- what is told in a script may be told
abbrev pub AreGivenTold : List Given → Type 0
AreGivenTold [] = Unit {0}
AreGivenTold (g ∷ gs) = IsTold (step_of g.what) × AreGivenTold gs

-- ---- what is claimed of a link

-- the frames that were sent are a legal conversation
abbrev pub SentLegal : Sending → Type 0
SentLegal s = Legal (frames_sent s)

-- with those that were committed and not yet sent they still are one
abbrev pub CommittedLegal : Sending → Type 0
CommittedLegal s = Legal (frames s.committed)

-- they keep the numbers of their own tune-ok
abbrev pub CommittedAgreed : Sending → Type 0
CommittedAgreed s = KeepsAgreed (frames s.committed)

-- each of them has a written spelling
abbrev pub CommittedWritable : Sending → Type 0
CommittedWritable s = AllByRecursion Writable (frames s.committed)

-- a reader with this limit takes each of them
abbrev pub CommittedWithin : ℕ → Sending → Type 0
CommittedWithin limit s = AllByRecursion (λ f. IsWithinLimit limit (length (encoding f)) f) (frames s.committed)

-- the octets of the link are exactly the frames that were sent, one after another, and end with the last of them or in
-- the midst of the next
pub record IsReadBack (limit : ℕ) (s : Sending) : Type 0 where
  pub ending : SequenceEnd
  pub not_broken : ending ≢ Broken
  pub reads : IsSequence (link_bytes s) limit (frames_sent s) (length (encodings (items_sent s))) ending

-- what the engine holds unsent is what is left of all that was committed on the last link
abbrev pub HoldsRest : Engine → List Sending → Type 0
HoldsRest e ss =
    (before : List Sending) × (s : Sending) × (ss ≡ before ++ s ∷ [])
    × (encodings s.committed ≡ link_bytes s ++ e.unsent)

-- ---- what a run says

-- the bytes of links, and what was committed on each: the bytes are those of the frames that were sent, in order, and
-- then of a part of one more; all that was committed is a legal conversation that keeps the numbers that were agreed,
-- and can be written
pub record SpellLegal (sendings : List Sending) (links : List (List ℕ)) : Type 0 where
  pub bytes : links ≡ map link_bytes sendings
  pub order : AllByRecursion SendsInOrder sendings
  pub legal : AllByRecursion SentLegal sendings
  pub committed : AllByRecursion CommittedLegal sendings
  pub agreed : AllByRecursion CommittedAgreed sendings
  pub writable : AllByRecursion CommittedWritable sendings

-- a port tells of the links of an engine, and whether one is asked for
pub record TellsLinks (e : Engine) (ss : List Sending) (log : Log) : Type 0 where
  pub links : log.links ≡ map link_bytes ss
  pub asked : has_ended e.talk ≡ false → log.asked ≡ is_asked e.talk

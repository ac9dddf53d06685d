-- What went out on each link: a third fold over turns.
use Rattle.std.specs.Prelude.{◌≡◌, ◌≢◌, ℕ, zero, suc, ◌+◌, ◌-◌, nat_le, if◌then◌else◌, List, [], ◌∷◌, ◌++◌, map, take, drop, option_to_list}
use Rattle.std.specs.List.{flat_map}
use Rattle.amqp_frame.specs.declared.frame.Frame.{Frame}
use Rattle.amqp_frame.specs.Frames.{encoding}
use Rattle.amqp_outbox.specs.declared.item.Item.{Item}
use Rattle.amqp_outgoing.specs.declared.committed.Mark.{Mark}
use Rattle.amqp_rules.specs.Talk.{Talk, is_asked}
use Rattle.amqp_rules.specs.Writing.{frames_waiting}
use Rattle.amqp_engine.specs.declared.port.Step.{Step}
use Rattle.amqp_engine.specs.declared.port.Step.TheVariants.{Linked}
use Rattle.amqp_engine.specs.declared.port.Wrote.{Wrote}
use Rattle.amqp_engine.specs.Log.{on_last}
use Rattle.amqp_engine.specs.Engine.{Engine, begin, fitting_next, commit_one, commit_all, taken_by}
use Rattle.amqp_engine.specs.Turn.{Turn, write_answers, Progress, asks, offer_part, read, turn}

-- what was committed on a link, and how far it was sent
pub record Sending : Type 0 where
  -- what was committed on the link, in order: frames, and what follows once they were sent
  pub committed : List Item
  -- how many of the frames were sent whole
  pub sent : ℕ
  -- how many of their bytes were taken
  pub taken : ℕ

-- nothing was committed on a link
abbrev pub nothing_sent : Sending
nothing_sent = record { committed = []; sent = 0; taken = 0 }

-- the frames of what was committed
abbrev pub frames : List Item → List Frame
frames items = map (λ (item : Item). item.frame) items

-- their written spellings, joined
abbrev pub encodings : List Item → List ℕ
encodings items = flat_map (λ (item : Item). encoding item.frame) items

-- what was sent on a link
abbrev pub items_sent : Sending → List Item
items_sent s = take s.sent s.committed

-- the frames that were sent on a link
abbrev pub frames_sent : Sending → List Frame
frames_sent s = frames (items_sent s)

-- the bytes of a link: those of the committed frames, as many as were taken
abbrev pub link_bytes : Sending → List ℕ
link_bytes s = take s.taken (encodings s.committed)

-- ---- the fold

-- what is committed, of at most so many frames that wait
abbrev pub committed_in : ℕ → Engine → List Item
committed_in zero e = []
committed_in (suc n) e = option_to_list (fitting_next e) ++ committed_in n (commit_one e)

-- what is committed before an offer
abbrev pub committed_before : Engine → List Item
committed_before e = committed_in (frames_waiting e.talk) e

-- how many of these frames have their last byte among so many
abbrev pub sent_in : ℕ → List Mark → ℕ
sent_in n [] = 0
sent_in n (m ∷ ms) = if nat_le m.left n then suc (sent_in (n - m.left) ms) else 0

-- an offer is made and answered
abbrev pub offer_sending : Wrote → Engine → Sending → Sending
offer_sending w e s =
    record {
      committed = s.committed ++ committed_before e;
      sent = s.sent + sent_in (taken_by w) (commit_all e).talk.committed;
      taken = s.taken + taken_by w;
    }

-- offers are made and answered
abbrev pub offers_sending : List Wrote → Progress → List Sending → List Sending
offers_sending [] p ss = ss
offers_sending (w ∷ ws) p ss = offers_sending ws (offer_part w p) (on_last (offer_sending w p.engine) ss)

-- on a link that was asked for nothing was sent yet
abbrev pub step_sending : Step → Engine → List Sending → List Sending
step_sending Linked e ss = if is_asked e.talk then ss ++ nothing_sent ∷ [] else ss
step_sending _ e ss = ss

-- what was sent, link by link, after one turn more
abbrev pub turn_sending : Turn → Engine → List Sending → List Sending
turn_sending u e ss = offers_sending (write_answers u.notes) (read u (asks e)) (step_sending u.step (asks e) ss)

-- what was sent, link by link, after these turns more
abbrev pub sendings_from : List Turn → Engine → List Sending → List Sending
sendings_from [] e ss = ss
sendings_from (u ∷ us) e ss = sendings_from us (turn u e) (turn_sending u e ss)

-- what these turns of a new engine of this session sent, link by link
abbrev pub sendings : Talk → List Turn → List Sending
sendings t us = sendings_from us (begin t) []

-- ---- what is claimed of it

-- a part of the next frame, and not the whole of it
abbrev pub IsBegun : List ℕ → List Item → Type 0
IsBegun bytes [] = bytes ≡ []
IsBegun bytes (item ∷ items) = (rest : List ℕ) × (rest ≢ []) × (encoding item.frame ≡ bytes ++ rest)

-- the bytes of the link are the spellings of the frames sent, in order, and then a part of the next committed one
pub record SendsInOrder (s : Sending) : Type 0 where
  pub last : List ℕ
  pub begun : IsBegun last (drop s.sent s.committed)
  pub bytes : link_bytes s ≡ encodings (items_sent s) ++ last

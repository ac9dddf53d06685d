-- The lines of the frames handed out, opening by opening.
use Rattle.std.proofs.Common.{◌≡◌, ◌≤◌, ◌<◌, ◌+◌, ℕ, List, [], ◌++◌, length, drop, get_or, unwrap_or, ap, ◌∙◌, arith}
use Rattle.std.specs.List.{flat_map}
use Rattle.amqp_answers.specs.declared.handed.Handed.{Handed}
use Rattle.amqp_rules.specs.Talk.{Talk, end_of}
use Rattle.amqp_rules.specs.ChannelMethods.{frames_of}
use Rattle.amqp_rules.specs.Answers.{take_frames, events_of}
use Rattle.amqp_replay.specs.Report.{frame_line}
use Rattle.amqp_replay.proofs.Entries.{at-without}
use Rattle.amqp_replay.proofs.Reports.{drop_from, lines_from}

-- ---- the frames of one opening

-- the lines of the frames from one on
abbrev pub frames_after : ℕ → List Handed → List ℕ
frames_after k frames = flat_map frame_line (drop k frames)

-- ---- opening by opening

abbrev pub lines_of_opening : Talk → ℕ → List ℕ
lines_of_opening t number = flat_map frame_line (frames_of number t)

-- the lines of so many openings from one on
abbrev pub frames_from : Talk → ℕ → ℕ → List ℕ
frames_from t number count = lines_from (lines_of_opening t) number count

-- the frames of the openings from one on are those of before, and so are the events and the end
pub record KeepsFrames (number : ℕ) (before now : Talk) : Type 0 where
  pub frames : (k : ℕ) → number ≤ k → frames_of k now ≡ frames_of k before
  pub events : events_of now ≡ events_of before
  pub end : end_of now ≡ end_of before

pub KeepsFrames-step : (number : ℕ) (before now : Talk) → KeepsFrames number before now
    → KeepsFrames (number + 1) before (take_frames number now)
KeepsFrames-step number before now keeps =
    record {
      frames = λ k le. ap (λ o. unwrap_or o []) (at-without number k now.handed (omega (arith, le))) ∙ keeps.frames k (omega (arith, le));
      events = keeps.events;
      end = keeps.end;
    }

use Rattle.std.proofs.Common.{◌≡◌, ◌∙◌, ◌+◌, ◌-◌, ◌++◌, ℕ, List, ap, sym, subst, append_assoc, arith}
use Rattle.std.specs.List.{flat_map}
use Rattle.std.specs.String.{string_bytes}
use Rattle.amqp_answers.specs.declared.handed.Handed.{Handed}
use Rattle.amqp_rules.specs.Talk.{Talk}
use Rattle.amqp_rules.specs.ChannelMethods.{frames_of}
use Rattle.amqp_replay.specs.Report.{frame_line}
use Rattle.amqp_replay.proofs.FrameLines.{frames_from, lines_of_opening, KeepsFrames, KeepsFrames-step}
use Rattle.amqp_replay.proofs.Reports.{lines_from-step}
use Rattle.amqp_replay.proofs.report.put_frames.Goals as goal

pub openings-preserved : goal.openings-preserved
openings-preserved c =
    let t = c.args.engine.now.talk in
    let now = c.openings.engine.talk in
    let out = string_bytes c.openings.out in
    let k = c.openings.number in
    let count = c.promises-count.result in
    let rest = frames_from t (k + 1) (count - (k + 1)) in
    let same : c.deref.result.now ≡ frames_of k t =
    c.deref.ensures.value ∙ c.in_ok-frames.ensures.frames ∙ c.openings.invariant.keeps.frames k (omega arith) in
    let P : Talk → Type 0 = λ x. KeepsFrames (k + 1) t x in
    record {
      whole = ap (λ (x : List ℕ). x ++ rest) (c.in_ok-put_each.ensures ∙ ap (λ (x : List Handed). out ++ flat_map frame_line x) same)
          ∙ append_assoc out (lines_of_opening t k) rest
          ∙ ap (λ (x : List ℕ). out ++ x) (sym (lines_from-step (lines_of_opening t) k count c.openings-test.true))
          ∙ c.openings.invariant.whole;
      count = c.openings.invariant.count;
      keeps = subst P (sym (ap (λ e. e.talk) c.in_ok-frames.ensures.taken)) (KeepsFrames-step k t now c.openings.invariant.keeps);
    }

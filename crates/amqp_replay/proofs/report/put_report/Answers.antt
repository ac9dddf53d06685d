use Rattle.std.proofs.Common.{◌∙◌, List, ap}
use Rattle.std.specs.List.{flat_map}
use Rattle.std.specs.String.{string_bytes}
use Rattle.amqp_answers.specs.declared.event.Event.{Event}
use Rattle.amqp_replay.specs.Report.{frame_lines, event_line, event_lines}
use Rattle.amqp_replay.proofs.Reports.{report-parts}
use Rattle.amqp_replay.proofs.report.put_report.Goals as goal

pub returns : goal.returns
returns g c =
    let links = g.P.ScriptedPort.links_taken c.args.port.now in
    report-parts links c.args.engine.now.talk (string_bytes c.args.out.now) (string_bytes c.put_links.new.out)
    (string_bytes c.put_answers.new.out) (string_bytes c.put_frames.new.out) (string_bytes c.put_events.new.out)
    (string_bytes c.put_end-put.new.out)
    (frame_lines c.put_answers.new.engine.talk) (event_lines c.put_frames.new.engine.talk) c.in_ok-end.end
    c.in_ok-put_links.ensures c.in_ok-put_answers.ensures.answers
    c.in_ok-put_answers.ensures.frames c.in_ok-put_frames.ensures.frames
    (ap (λ (x : List Event). flat_map event_line x) (c.in_ok-put_frames.ensures.events ∙ c.in_ok-put_answers.ensures.events))
    c.in_ok-put_events.ensures.events
    (c.in_ok-end.ensures ∙ c.in_ok-put_events.ensures.end ∙ c.in_ok-put_frames.ensures.end ∙ c.in_ok-put_answers.ensures.end) c.in_ok-put.ensures

use Rattle.std.proofs.Common.{◌∙◌, ◌++◌, List, ap, sym, append-nil}
use Rattle.std.specs.List.{flat_map}
use Rattle.std.specs.String.{string_bytes}
use Rattle.amqp_answers.specs.declared.event.Event.{Event}
use Rattle.amqp_replay.specs.Report.{event_line}
use Rattle.amqp_replay.proofs.EventLines.{took-event, end-stays, lines-go-on, fewer-left, no-event}
use Rattle.amqp_replay.proofs.report.put_events.Goals as goal

pub events-smaller : goal.events-smaller
events-smaller c =
    fewer-left c.in-Some.event c.events.engine.talk c.event.new.self.talk
    (took-event c.in-Some.event c.events.engine.talk c.event.new.self.talk c.in_ok-put.ensures.whole c.in-Some.ensures.taken)

pub events-preserved : goal.events-preserved
events-preserved c =
    let took = took-event c.in-Some.event c.events.engine.talk c.event.new.self.talk c.in_ok-put.ensures.whole c.in-Some.ensures.taken in
    record {
      whole = lines-go-on c.in-Some.event c.events.engine.talk c.event.new.self.talk (string_bytes c.events.out) (string_bytes c.put_event-put.new.out)
          took c.in_ok-put.ensures.line
          ∙ c.events.invariant.whole;
      end = took.end ∙ c.events.invariant.end;
    }

pub returns-in_err-put-clause-end : goal.returns-in_err-put-clause-end
returns-in_err-put-clause-end c =
    end-stays c.event.result c.events.engine.talk c.event.new.self.talk c.event.ensures.taken ∙ c.events.invariant.end

pub returns-clause-events : goal.returns-clause-events
returns-clause-events c =
    let out = string_bytes c.events.out in
    let none = no-event c.event.result c.events.engine.talk c.event.new.self.talk c.in_default.is c.event.ensures.taken in
    sym (append-nil out) ∙ ap (λ (x : List Event). out ++ flat_map event_line x) (sym none) ∙ c.events.invariant.whole

pub returns-clause-end : goal.returns-clause-end
returns-clause-end c =
    end-stays c.event.result c.events.engine.talk c.event.new.self.talk c.event.ensures.taken ∙ c.events.invariant.end

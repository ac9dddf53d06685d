use Rattle.std.proofs.Common.{◌≡◌, ◌∙◌, ap, sym, Some, None}
use Rattle.amqp_outbox.specs.Queued.{group_promise, frame_promise, without_frame, without_reply}
use Rattle.amqp_outbox.specs.Parts.{queued}
use Rattle.amqp_outbox.proofs.Dropping.{none-group, none-frame, without-frame, without-reply}
use Rattle.amqp_outbox.proofs.outbox.Outbox.drop_any.Goals as goal

pub returns-in-Some-drop_frame-clause-rest : goal.returns-in-Some-drop_frame-clause-rest
returns-in-Some-drop_frame-clause-rest c =
    let channel = c.args.channel in
    let q = queued c.args.self.now in
    let no_group : None ≡ group_promise channel q = sym c.in_default.is ∙ c.drop_group.ensures.promise in
    let same : queued c.drop_group.new.self ≡ q = c.drop_group.ensures.rest ∙ none-group channel q no_group in
    let some : Some c.in-Some-drop_frame.promise ≡ frame_promise channel q =
    sym c.in-Some-drop_frame.is ∙ c.drop_frame.ensures.promise ∙ ap (frame_promise channel) same in
    c.drop_frame.ensures.rest ∙ ap (without_frame channel) same ∙ without-frame channel q no_group c.in-Some-drop_frame.promise some

pub returns-clause-rest : goal.returns-clause-rest
returns-clause-rest c =
    let channel = c.args.channel in
    let q = queued c.args.self.now in
    let no_group : None ≡ group_promise channel q = sym c.in_default.is ∙ c.drop_group.ensures.promise in
    let same : queued c.drop_group.new.self ≡ q = c.drop_group.ensures.rest ∙ none-group channel q no_group in
    let no_frame : None ≡ frame_promise channel q =
    sym c.in_default-drop_frame.is ∙ c.drop_frame.ensures.promise ∙ ap (frame_promise channel) same in
    let still : queued c.drop_frame.new.self ≡ q = c.drop_frame.ensures.rest ∙ ap (without_frame channel) same ∙ none-frame channel q no_frame in
    c.drop_reply.ensures.rest ∙ ap (without_reply channel) still ∙ without-reply channel q no_group no_frame

pub returns-in-Some-drop_frame-clause-control : goal.returns-in-Some-drop_frame-clause-control
returns-in-Some-drop_frame-clause-control c k n octets has =
    c.drop_frame.ensures.control k n octets (c.drop_group.ensures.control k n octets has)

pub returns-clause-control : goal.returns-clause-control
returns-clause-control c k n octets has =
    c.drop_reply.ensures.control k n octets (c.drop_frame.ensures.control k n octets (c.drop_group.ensures.control k n octets has))

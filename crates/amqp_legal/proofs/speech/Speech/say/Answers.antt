use Rattle.std.proofs.Common.{◌≡◌, ◌∙◌, sym, Some, None, is_some, IsTrue, IsFalse, Bool, true, false, ap}
use Rattle.amqp_frame.specs.declared.frame.Frame.{Frame}
use Rattle.amqp_legal.specs.Decider.{Speech, say}
use Rattle.amqp_legal.specs.Kinds.{frame_kind}
use Rattle.amqp_legal.specs.Speeches.{speech_of}
use Rattle.amqp_legal.specs.Judging.{Judged, say_by_kind}
use Rattle.amqp_legal.specs.declared.speech.Speech.{Speech as Spoken}
use Rattle.amqp_legal.specs.declared.kind.Kind.{Kind}
use Rattle.amqp_legal.proofs.Judging.{kind-says}
use Rattle.amqp_legal.proofs.Saying.{answer-legal}
use Rattle.amqp_legal.proofs.speech.Speech.say.Goals as goal

-- what the frame's kind leads to is what the frame leads to
by_frame : (k : Kind) (f : Frame) (s : Speech) → k ≡ frame_kind f → say f s ≡ say_by_kind k s
by_frame k f s is = sym (kind-says f s) ∙ ap (λ x. say_by_kind x s) (sym is)

said : (r : Bool) (k : Kind) (f : Frame) (old new : Spoken) → k ≡ frame_kind f → Judged (say_by_kind k (speech_of old)) r old new
    → IsTrue r → say f (speech_of old) ≡ Some (speech_of new)
said true k f old new is h t = by_frame k f (speech_of old) is ∙ h
said false k f old new is h t = absurd cc

refused : (r : Bool) (k : Kind) (f : Frame) (old new : Spoken) → k ≡ frame_kind f → Judged (say_by_kind k (speech_of old)) r old new
    → IsFalse r → say f (speech_of old) ≡ None
refused false k f old new is h t = by_frame k f (speech_of old) is ∙ h.0
refused true k f old new is h t = absurd cc

answered : (r : Bool) (k : Kind) (f : Frame) (old new : Spoken) → k ≡ frame_kind f → Judged (say_by_kind k (speech_of old)) r old new
    → is_some (say f (speech_of old)) ≡ r
answered true k f old new is h = ap is_some (by_frame k f (speech_of old) is ∙ h)
answered false k f old new is h = ap is_some (by_frame k f (speech_of old) is ∙ h.0)

pub returns-clause-said : goal.returns-clause-said
returns-clause-said c = said _ _ c.args.frame.now c.args.self.now c.say_kind.new.self c.kind_of.ensures c.say_kind.ensures

pub returns-clause-refused : goal.returns-clause-refused
returns-clause-refused c = refused _ _ c.args.frame.now c.args.self.now c.say_kind.new.self c.kind_of.ensures c.say_kind.ensures

pub returns-clause-legal : goal.returns-clause-legal
returns-clause-legal c = λ frames has.
    answer-legal _ frames c.args.frame.now (speech_of c.args.self.now)
    (answered _ _ c.args.frame.now c.args.self.now c.say_kind.new.self c.kind_of.ensures c.say_kind.ensures) has

use Rattle.std.proofs.Common.{rules, ◌≡◌, ◌∙◌, ◌&&◌, true, Bool, IsFalse, [], ◌++◌, length, drop, Some, ap, refl, sym, arith}
use Rattle.amqp_rules.specs.Talk.{is_open}
use Rattle.amqp_engine.specs.Engine.{Engine, step_questions, starve_at}
use Rattle.amqp_engine.specs.Turn.{is_piece, begun, step_part, reading, cut_questions}
use Rattle.amqp_types.proofs.Small.{and-false, on-err-then}
use Rattle.amqp_outbox.proofs.Cases.{on-ok}
use Rattle.amqp_engine.specs.Making.{making, cut_turn, Broke}
use Rattle.amqp_engine.proofs.Cases.{Reaches-less}
use Rattle.amqp_engine.proofs.Applying.{starve_at-twice, step-read, step-refused, step-starved, piece-read, broke-piece}
use Rattle.amqp_engine.proofs.Blaming.{blames-step, blames-starve}
use Rattle.amqp_engine.proofs.wire.Wire.read_step.Goals as goal
use Rattle.amqp_engine.proofs.wire.Wire.read_step.Goals.{else-is_piece-via-then-is_piece+else-is_open, else-is_piece-via-else-is_piece}

pub returns-clause-ok : goal.returns-clause-ok
returns-clause-ok g c =
    let e = c.args.self.now in
    let step = c.args.step in
    let h = c.in_ok-parts.ensures.ok in
    let apart : IsFalse (is_piece step && is_open e.talk) = elim c.else-is_piece.branch [
      | else-is_piece-via-then-is_piece+else-is_open w ↦
          and-false (is_piece step) (is_open e.talk) (ap (λ (x : Engine). is_open x.talk) (sym w.self.view_is) ∙ sym w.is_open.ensures ∙ w.if-is_open.false)
      | else-is_piece-via-else-is_piece w ↦ ap (λ (b : Bool). b && is_open e.talk) (sym c.is_piece.ensures ∙ w.if-is_piece.false)
    ] in
    record {
      questions = step_questions c.args.at step h.answers e;
      answers = h.answers;
      asks = h.asks;
      leads = λ cut more allows.
          step-read c.args.at cut step c.args.bytes.now h.answers more e c.take_step.new.self c.in_ok-parts.field-0 apart c.in_ok-parts.ensures.parts
          (h.engine c.args.bytes.now) h.asks.all allows;
    }

pub returns-clause-starved : goal.returns-clause-starved
returns-clause-starved g c =
    let h = c.in_ok-parts.ensures.ok in
    ap (λ (x : Engine). x.starved) (h.engine c.args.bytes.now) ∙ step-starved c.args.at c.args.step c.args.bytes.now h.answers c.args.self.now

pub returns-then-is_open-clause-ok : goal.returns-then-is_open-clause-ok
returns-then-is_open-clause-ok g c =
    let e = c.args.self.now in
    let is : is_piece c.args.step ≡ true = sym c.is_piece.ensures ∙ c.if-is_piece.true in
    let opened : is_open e.talk ≡ true = ap (λ (x : Engine). is_open x.talk) (sym c.self.view_is) ∙ sym c.is_open.ensures ∙ c.if-is_open.true in
    let f = c.read_piece.ensures in
    on-ok c.read_piece.result
    (λ h. record {
      questions = h.questions;
      answers = h.answers;
      asks = h.asks;
      leads = λ cut more allows.
          piece-read c.args.at cut c.args.step c.args.bytes.now (h.answers ++ more) e is opened (Reaches-less cut 1 c.read_piece.new.parts f.some allows)
          ∙ h.leads cut more allows;
    })
    f.ok

pub returns-then-is_open-clause-err : goal.returns-then-is_open-clause-err
returns-then-is_open-clause-err g c =
    let e = c.args.self.now in
    let is : is_piece c.args.step ≡ true = sym c.is_piece.ensures ∙ c.if-is_piece.true in
    let opened : is_open e.talk ≡ true = ap (λ (x : Engine). is_open x.talk) (sym c.self.view_is) ∙ sym c.is_open.ensures ∙ c.if-is_open.true in
    let f = c.read_piece.ensures in
    on-err-then c.read_piece.result
    (broke-piece c.args.at c.args.step c.args.bytes.now e c.read_piece.new.self c.read_piece.new.parts (g.A.AuthProvider.allows c.args.provider.now)
    c.args.auths.now.list c.read_piece.new.auths.list is opened f.some)
    f.err

pub returns-in_err-parts-clause-err : goal.returns-in_err-parts-clause-err
returns-in_err-parts-clause-err g c =
    let e = c.args.self.now in
    let f = c.in_err-parts.ensures in
    let before = g.A.AuthProvider.allows c.args.provider.now in
    let un = f.unanswered in
    let more = un.answers in
    let fact : Broke 0 (λ answers questions next x.
    (starve_at c.args.at 0 c.take_step.new.self ≡ starve_at c.args.at 0 x)
    × (next ≡ cut_questions (cut_turn c.args.at c.args.step c.args.bytes.now answers 0) e)
    × (reading (is_piece c.args.step) (step_part c.args.step c.args.bytes.now (begun c.args.at (Some 0) answers e))
    ≡ making c.args.at (Some 0) (drop (length questions) answers) questions x 0)) before c.args.auths.now.list c.take_step.new.auths.list =
    record {
      questions = [];
      next = step_questions c.args.at c.args.step more e;
      answers = more;
      engine = e;
      listed = un.listed;
      all = (omega arith, un.fits);
      allowed = un.allowed;
      leads = (ap (starve_at c.args.at 0) f.err ∙ starve_at-twice c.args.at 0 e, refl, step-refused c.args.at c.args.step c.args.bytes.now more e f.refused);
    } in
    search (rules, fact, c.requires.parts)

pub returns-clause-blames : goal.returns-clause-blames
returns-clause-blames g c =
    let h = c.in_ok-parts.ensures.ok in
    blames-step c.args.at c.args.step c.args.bytes.now h.answers c.args.self.now c.take_step.new.self _ _ (h.engine c.args.bytes.now)

pub returns-in_err-parts-clause-blames : goal.returns-in_err-parts-clause-blames
returns-in_err-parts-clause-blames g c =
    blames-starve c.args.at c.args.self.now c.take_step.new.self _ _ (ap (λ (x : Engine). x.talk) c.in_err-parts.ensures.err)

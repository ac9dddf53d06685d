use Rattle.std.proofs.Common.{◌≡◌, ◌∙◌, false, option_map, length, take, ap, sym, subst, arith}
use Rattle.amqp_rules.specs.Talk.{has_ended}
use Rattle.amqp_engine.specs.Log.{piece_bytes, piece_len}
use Rattle.amqp_engine.specs.Engine.{Engine}
use Rattle.amqp_engine.specs.Turn.{asks}
use Rattle.amqp_engine.specs.Tell.{log_asks}
use Rattle.amqp_engine.specs.Unread.{IsRead}
use Rattle.amqp_engine.proofs.LeftUnread.{asks-read, Applies-read}
use Rattle.amqp_engine.proofs.Running.{turns-of, fit-of, take-written, length-written}
use Rattle.amqp_engine.proofs.Faults.{applied-fault, counted-rose}
use Rattle.amqp_engine.proofs.Over.{asks-running}
use Rattle.amqp_engine.proofs.Blaming.{blamed}
use Rattle.amqp_engine.proofs.io_loop.IoLoop.turn.Goals as goal

pub returns-clause-turn : goal.returns-clause-turn
returns-clause-turn g c =
    let told = c.next-told.result in
    let space = c.next-told.new.space in
    let old = c.self.inside.scratch.items in
    let n = c.piece_len-n.result in
    let sized : length space ≡ length old = omega (arith, c.next-told.auto.space, ap length c.deref_mut.ensures.value) in
    let bytes : take n c.deref.result.now ≡ piece_bytes told.step space =
    ap (take n) c.deref.ensures.value
    ∙ take-written space old c.self.inside.scratch.len n (piece_len told.step) sized (omega arith) c.piece_len-n.ensures in
    turns-of c.args.self.now c.ask.new.self _ (g.P.Port.log c.args.port.now) (g.P.Port.log c.ask.new.port) (g.P.Port.log c.next-told.new.self)
    _ told.at told.step (piece_bytes told.step space) (take n c.deref.result.now) _ _ _
    c.requires.running
    (c.ask.ensures.engine ∙ ap asks c.self.view_is)
    (c.ask.ensures.told ∙ ap (λ (m : Engine). option_map (log_asks m) (g.P.Port.log c.args.port.now)) c.self.view_is)
    c.next-told.ensures.told bytes c.next-told.ensures.plays c.hold.ensures.told
    (record { applies = c.apply.ensures.turn.applies; fit = fit-of _ _ _ _ c.hold.ensures.can c.apply.ensures.octets c.apply.ensures.answered; exchanged = c.apply.ensures.turn.exchanged })

pub invariant_of-self : goal.invariant_of-self
invariant_of-self g c =
    let space = c.next-told.new.space in
    let old = c.self.inside.scratch.items in
    let sized : length space ≡ length old = omega (arith, c.next-told.auto.space, ap length c.deref_mut.ensures.value) in
    let asked : IsRead c.ask.new.self = subst IsRead (sym c.ask.ensures.engine) (asks-read c.self.inside.wire c.self.invariant.1) in
    (length-written space old c.self.inside.scratch.len sized (omega arith) ∙ c.self.invariant.0, Applies-read _ _ _ _ _ _ _ _ c.apply.ensures.turn.applies asked)

pub returns-clause-io_error_counted : goal.returns-clause-io_error_counted
returns-clause-io_error_counted g c fault h counted =
    let asked = c.ask.ensures.engine ∙ ap asks c.self.view_is in
    let running : has_ended c.ask.new.self.talk ≡ false = ap (λ (x : Engine). has_ended x.talk) asked ∙ asks-running c.args.self.now c.requires.running in
    counted-rose c.next-told.result.step c.ask.new.self.talk fault _ _ _ _ c.ask.ensures.faults c.next-told.ensures.faults c.apply.ensures.faults
    c.next-told.ensures.cause (applied-fault _ _ _ _ _ _ _ _ _ _ _ _ fault c.apply.ensures.turn running h) counted

pub returns-clause-refusal_counted : goal.returns-clause-refusal_counted
returns-clause-refusal_counted g c text h =
    let asked = c.ask.ensures.engine ∙ ap asks c.self.view_is in
    let running : has_ended c.ask.new.self.talk ≡ false = ap (λ (x : Engine). has_ended x.talk) asked ∙ asks-running c.args.self.now c.requires.running in
    blamed c.ask.new.self.talk c.apply.new.self.talk _ _ text c.apply.ensures.blames running h

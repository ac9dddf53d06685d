use Rattle.std.proofs.Common.{◌≡◌, ◌∙◌, true, length, ap, sym, refl, arith}
use Rattle.amqp_rules.specs.Talk.{is_open}
use Rattle.amqp_rules.specs.Writing.{end_overlong}
use Rattle.amqp_engine.specs.Engine.{Engine, with_talk, wrote, commit_all, settle}
use Rattle.amqp_engine.proofs.Overlong.{Idle, closed-idles, blocked-idles, long-idles, none-idles, open-short, shut-long}
use Rattle.amqp_engine.proofs.wire.Wire.offer.Goals as goal
use Rattle.amqp_engine.proofs.wire.Wire.offer.Goals.{then-not-is_open-via-then-not-is_open, then-not-is_open-via-else-not-is_open+then-blocked}

pub returns-then-not-is_open-clause-none : goal.returns-then-not-is_open-clause-none
returns-then-not-is_open-clause-none g c =
    let e = c.args.self.now in
    let idle : Idle e e = elim c.then-not-is_open.branch [
      | then-not-is_open-via-then-not-is_open w ↦ closed-idles e (ap (λ (x : Engine). is_open x.talk) (sym c.self.view_is) ∙ sym w.if-not-is_open.ensures)
      | then-not-is_open-via-else-not-is_open+then-blocked w ↦ blocked-idles e (ap (λ (x : Engine). x.talk.blocked) (sym c.self.view_is) ∙ sym w.if-blocked.ensures)
    ] in
    (idle.0, idle.1, refl)

pub returns-then-not-is_open-2-clause-none : goal.returns-then-not-is_open-2-clause-none
returns-then-not-is_open-2-clause-none g c =
    let e = c.args.self.now in
    let opened : is_open e.talk ≡ true = ap (λ (x : Engine). is_open x.talk) (sym c.self.view_is) ∙ sym c.if-not-is_open.ensures in
    let shut = ap (λ (x : Engine). is_open x.talk) (sym c.commit_all.ensures ∙ sym c.self-2.view_is) ∙ sym c.if-not-is_open-2.ensures in
    let long = shut-long e opened shut in
    let idle = long-idles e c.settle.new.self long.0 long.1 (c.settle.ensures ∙ ap settle c.commit_all.ensures) in
    (idle.0, idle.1, refl)

pub returns-then-offered-eq0-clause-none : goal.returns-then-offered-eq0-clause-none
returns-then-offered-eq0-clause-none g c =
    let e = c.args.self.now in
    let still = ap (λ (x : Engine). is_open x.talk) (sym c.commit_all.ensures ∙ sym c.self-2.view_is) ∙ sym c.if-not-is_open-2.ensures in
    let after : length c.self-2.inside.unsent.kept ≡ length (commit_all e).unsent =
    ap (λ (x : Engine). length x.unsent) (c.self-2.view_is ∙ c.commit_all.ensures) in
    let empty : length c.self-2.inside.unsent.kept ≡ 0 = omega (arith, c.available_data-offered.ensures) in
    let idle = none-idles e c.commit_all.new.self (open-short e still) (sym after ∙ empty) c.commit_all.ensures in
    (idle.0, idle.1, refl)

pub returns-clause-engine : goal.returns-clause-engine
returns-clause-engine g c =
    let e = c.args.self.now in
    let still = ap (λ (x : Engine). is_open x.talk) (sym c.commit_all.ensures ∙ sym c.self-2.view_is) ∙ sym c.if-not-is_open-2.ensures in
    let all : c.commit_all.new.self ≡ commit_all e =
    c.commit_all.ensures ∙ ap (λ o. with_talk (end_overlong o) (commit_all e)) (open-short e still) in
    c.wrote.ensures ∙ ap (wrote c.args.at c.write-answer.result) all

use Rattle.std.proofs.Common.{◌≡◌, ◌∙◌, inr, ℕ, length, false, refl, ap, sym, arith}
use Rattle.amqp_locked.specs.UnderLock.{UnderLock, contents, with_hub, with_nudge, with_cleared}
use Rattle.amqp_locked.specs.Looking.{finds}
use Rattle.amqp_rules.specs.Talk.{Talk}
use Rattle.amqp_locked.specs.Turning.{noticed, cleared_after}
use Rattle.amqp_locked.proofs.Turns.{looked-grown, looked-nudged, starves, turns_ok, turns_err}
use Rattle.amqp_locked.proofs.locked.Locked.apply.Goals as goal

pub returns-in-Err-clause-promises : goal.returns-in-Err-clause-promises
returns-in-Err-clause-promises g c =
    let h = c.in-Err.ensures.err in
    omega (arith, looked-grown h.2 h.1 c.args.heard.told.at h.0 (with_nudge false (contents c.args.self.now)) (contents c.look.new.self) h.3, c.starve.ensures.promises)

pub returns-in-Err-clause-err : goal.returns-in-Err-clause-err
returns-in-Err-clause-err g c =
    let h = c.in-Err.ensures.err in
    let m : UnderLock = contents c.look.new.self in
    inr (
      starves c.args.heard.told.at c.args.heard.told.step h.0 h.1 h.2 (with_nudge false (contents c.args.self.now)) m
          (with_cleared c.cleared_after-self.result (with_hub c.starve.new.self m)) h.3
          (ap (λ (n : ℕ). with_cleared n (with_hub c.starve.new.self m))
          (c.cleared_after-self.ensures ∙ ap (λ (t : Talk). cleared_after t c.look.new.self.cleared) c.session.ensures)
          ∙ ap (λ (x : _). noticed (with_hub x m)) c.starve.ensures.hub),
      refl,
      refl,
    )

pub returns-in-Err-clause-nudged : goal.returns-in-Err-clause-nudged
returns-in-Err-clause-nudged g c =
    let h = c.in-Err.ensures.err in
    looked-nudged h.2 h.1 c.args.heard.told.at h.0 (with_nudge false (contents c.args.self.now)) (contents c.look.new.self) h.3

pub returns-clause-ok : goal.returns-clause-ok
returns-clause-ok g c =
    let h = c.in_default.ensures.ok in
    let m : UnderLock = contents c.look.new.self in
    let after : UnderLock = with_hub c.apply-applied.new.self m in
    turns_ok _ _ _ _ _ _ _ _ _ _ _ _ c.apply-applied.result h.0 (with_nudge false (contents c.args.self.now)) m (with_cleared c.cleared_after-self-2.result after) h.1
    c.apply-applied.ensures.ok (record { of_port = c.apply-applied.ensures.io_error_counted; of_provider = c.apply-applied.ensures.refusal_counted })
    c.apply-applied.ensures.base c.apply-applied.ensures.counts (ap (λ (n : ℕ). with_cleared n after)
    (c.cleared_after-self-2.ensures ∙ ap (λ (t : Talk). cleared_after t c.look.new.self.cleared) c.session-2.ensures))

pub returns-clause-err : goal.returns-clause-err
returns-clause-err g c =
    let h = c.in_default.ensures.ok in
    let m : UnderLock = contents c.look.new.self in
    let after : UnderLock = with_hub c.apply-applied.new.self m in
    turns_err _ _ _ _ _ _ _ _ _ _ _ _ c.apply-applied.result (c.apply-applied.new.port ≡ c.args.line.now.port) (c.apply-applied.new.provider ≡ c.args.provider.now) h.0
    (with_nudge false (contents c.args.self.now)) m (with_cleared c.cleared_after-self-2.result after) h.1 c.apply-applied.ensures.err
    (record { of_port = c.apply-applied.ensures.io_error_counted; of_provider = c.apply-applied.ensures.refusal_counted })
    c.apply-applied.ensures.base c.apply-applied.ensures.counts (ap (λ (n : ℕ). with_cleared n after)
    (c.cleared_after-self-2.ensures ∙ ap (λ (t : Talk). cleared_after t c.look.new.self.cleared) c.session-2.ensures))

pub returns-clause-promises : goal.returns-clause-promises
returns-clause-promises g c =
    let h = c.in_default.ensures.ok in
    let m : UnderLock = contents c.look.new.self in
    omega (
      arith,
      looked-grown 0 (length (finds c.args.heard.told.at h.0 (with_nudge false (contents c.args.self.now))).watch.late) c.args.heard.told.at h.0
          (with_nudge false (contents c.args.self.now)) m h.1,
      c.apply-applied.ensures.promises,
    )

pub returns-clause-nudged : goal.returns-clause-nudged
returns-clause-nudged g c =
    let h = c.in_default.ensures.ok in
    looked-nudged 0 (length (finds c.args.heard.told.at h.0 (with_nudge false (contents c.args.self.now))).watch.late) c.args.heard.told.at h.0
    (with_nudge false (contents c.args.self.now)) (contents c.look.new.self) h.1

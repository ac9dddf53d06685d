-- An engine none of whose frames that wait is longer than the capacity.
use Rattle.std.proofs.Common.{◌≡◌, ℕ, zero, suc, List, Option, Some, None, refl, sym, subst}
use Rattle.amqp_outbox.specs.declared.item.Item.{Item}
use Rattle.amqp_rules.specs.Writing.{frames_waiting}
use Rattle.amqp_rules.proofs.Finishing.{next-first}
use Rattle.amqp_faultless.proofs.Fitting.{Fit, IsFit, fit-next}
use Rattle.amqp_engine.specs.Engine.{Engine, fitting_next, commit_one, commits, commit_all, overlong_next}
use Rattle.amqp_engine.proofs.Commits.{with_frame, commit_one-is}

-- ---- no frame that waits is longer than the capacity

abbrev pub Short : Engine → Type 0
Short e = IsFit e.talk

-- ---- what is committed

short-framed : (o : Option Item) (e : Engine) → fitting_next e ≡ o → Short e → Short (with_frame o e)
short-framed None e is h = h
short-framed (Some i) e is h =
    let P : List Item → Type 0 = Fit e.talk.capacity in
    (subst P (next-first _ e.talk i is) h).1

short-one : (e : Engine) → Short e → Short (commit_one e)
short-one e h = subst Short (sym (commit_one-is e)) (short-framed (fitting_next e) e refl h)

short-commits : (n : ℕ) (e : Engine) → Short e → Short (commits n e)
short-commits zero e h = h
short-commits (suc n) e h = short-commits n (commit_one e) (short-one e h)

-- nothing is too long
pub short-fits : (e : Engine) → Short e → overlong_next e ≡ None
short-fits e h = fit-next (commit_all e).talk (short-commits (frames_waiting e.talk) e h)

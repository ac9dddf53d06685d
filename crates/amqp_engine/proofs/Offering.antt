-- What is committed and sent leaves no frame that waits longer than the capacity, and so does each step.
use Rattle.std.proofs.Common.{◌≡◌, ℕ, zero, suc, List, drop, Option, Some, None, refl, sym, subst}
use Rattle.amqp_outbox.specs.declared.item.Item.{Item}
use Rattle.amqp_settings.specs.Config.{Options}
use Rattle.amqp_rules.specs.Talk.{Talk}
use Rattle.amqp_rules.specs.Changes.{present_at}
use Rattle.amqp_rules.specs.Writing.{frames_waiting, taken}
use Rattle.amqp_rules.proofs.Finishing.{next-first}
use Rattle.amqp_faultless.proofs.Fitting.{Fit}
use Rattle.amqp_faultless.proofs.Modest.{Modest}
use Rattle.amqp_faultless.proofs.Modesty.{modest-taken, modest-present}
use Rattle.amqp_engine.specs.Engine.{Engine, fitting_next, commit_one, commits, commit_all, overlong_next, took}
use Rattle.amqp_engine.proofs.Commits.{with_frame, commit_one-is}
use Rattle.amqp_engine.proofs.Settling.{settle-talk}
use Rattle.amqp_engine.proofs.Short.{short-fits}

module _ (options : Options) where
  abbrev M : Talk → Type 0
  M t = Modest options t

  -- an engine that says nothing too long
  abbrev pub IsModest : Engine → Type 0
  IsModest e = Modest options e.talk

  -- ---- what is committed

  modest-framed : (o : Option Item) (e : Engine) → fitting_next e ≡ o → IsModest e → IsModest (with_frame o e)
  modest-framed None e is h = h
  modest-framed (Some i) e is h =
      let P : List Item → Type 0 = Fit e.talk.capacity in
      (h.0, h.1, h.2, (subst P (next-first _ e.talk i is) h.3).1)

  modest-one : (e : Engine) → IsModest e → IsModest (commit_one e)
  modest-one e h = subst IsModest (sym (commit_one-is e)) (modest-framed (fitting_next e) e refl h)

  modest-commits : (n : ℕ) (e : Engine) → IsModest e → IsModest (commits n e)
  modest-commits zero e h = h
  modest-commits (suc n) e h = modest-commits n (commit_one e) (modest-one e h)

  -- nothing is too long
  pub modest-fits : (e : Engine) → IsModest e → overlong_next e ≡ None
  modest-fits e h = short-fits e h.3

  -- ---- what is sent

  -- an offer leaves it so
  pub modest-kept : (at k : ℕ) (e : Engine) → IsModest e → IsModest (took at k (commit_all e))
  modest-kept at k e h =
      let x : Engine = commit_all e in
      let t : Talk = present_at at x.talk in
      let z : Engine = record x { talk = taken k t; unsent = drop k x.unsent } in
      let P : Talk → Type 0 = M in
      subst P (sym (settle-talk z)) (modest-taken options k t (modest-present options at x.talk (modest-commits (frames_waiting e.talk) e h)))

-- While the session is met, nothing that is committed ends it.
use Rattle.std.proofs.Common.{◌≡◌, ℕ, zero, suc, true, true≢false, List, [], ◌∷◌, Option, Some, None, refl, sym, subst}
use Rattle.amqp_outbox.specs.declared.item.Item.{Item}
use Rattle.amqp_outbox.specs.Queued.{waiting_items}
use Rattle.amqp_outgoing.specs.declared.committed.Mark.{Mark}
use Rattle.amqp_rules.specs.declared.state.Input.{Input}
use Rattle.amqp_rules.specs.declared.state.Input.TheVariants.{Acting, Closed, Dropped}
use Rattle.amqp_rules.specs.Sound.{IsSound, following, Finishes, NoneFinishes}
use Rattle.amqp_rules.specs.Talk.{Talk, is_acting}
use Rattle.amqp_rules.specs.Writing.{frames_waiting}
use Rattle.amqp_faultless.specs.Faultless.{Server}
use Rattle.amqp_rules.proofs.SoundChanges.{sound-present}
use Rattle.amqp_rules.proofs.Soundness.{sound-commit, sound-taken}
use Rattle.amqp_faultless.proofs.Greeted.{IsMet}
use Rattle.amqp_faultless.proofs.Speaks.{GoOn, said_all}
use Rattle.amqp_engine.specs.Engine.{Engine, fitting_next, committed_with_bytes, commit_one, commits, commit_all, took}
use Rattle.amqp_engine.proofs.Settling.{settle-talk}
use Rattle.amqp_engine.specs.Sending.{committed_before}
use Rattle.amqp_engine.proofs.SpeaksAll.{met-commit-all}
use Rattle.amqp_engine.proofs.Follows.{met-offer}

none-goes : (ms : List Mark) (items : List Item) → NoneFinishes (following ms items) → GoOn ms
none-goes [] items h = tt
none-goes (m ∷ ms) items h = (h.0, none-goes ms items h.1)

-- while frames act
pub sound-goes : (t : Talk) → IsSound t → is_acting t.input ≡ true → GoOn t.committed
sound-goes t sound acting = by t.input acting sound.finish where
  by : (i : Input) → is_acting i ≡ true → Finishes i (following t.committed (waiting_items t.outbox)) → GoOn t.committed
  by Acting h k = none-goes t.committed (waiting_items t.outbox) k
  by (Closed crossed) h k = absurd (true≢false (sym h))
  by (Dropped crossed) h k = absurd (true≢false (sym h))

-- what is committed leaves a sound state
sound-commit-one : (e : Engine) → IsSound e.talk → IsSound (commit_one e).talk
sound-commit-one e sound = by (fitting_next e) refl where
  by : (x : Option Item) → fitting_next e ≡ x → IsSound (committed_with_bytes x e).talk
  by None is = sound
  by (Some i) is = sound-commit _ e.talk sound

pub sound-commits : (n : ℕ) (e : Engine) → IsSound e.talk → IsSound (commits n e).talk
sound-commits zero e sound = sound
sound-commits (suc n) e sound = sound-commits n (commit_one e) (sound-commit-one e sound)

pub sound-commit-all : (e : Engine) → IsSound e.talk → IsSound (commit_all e).talk
sound-commit-all e sound = sound-commits (frames_waiting e.talk) e sound

-- an offer, of which so much is taken, says all that was committed
pub sound-offer : (at k : ℕ) (s : Server) (e : Engine) → IsSound e.talk → IsMet s e.talk
    → IsMet (said_all (committed_before e) s) (took at k (commit_all e)).talk × IsSound (took at k (commit_all e)).talk
sound-offer at k s e sound m =
    let x : Engine = commit_all e in
    let sound' : IsSound x.talk = sound-commit-all e sound in
    let P : Talk → Type 0 = IsSound in (
      met-offer at k s e (sound-goes x.talk sound' (met-commit-all e s m).acting) m,
      subst P (sym (settle-talk _)) (sound-taken k _ (sound-present at x.talk sound')),
    )

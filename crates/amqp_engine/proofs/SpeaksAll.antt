-- All that waits and fits is committed, and said to the server.
use Rattle.std.proofs.Common.{◌≡◌, ℕ, zero, suc, ◌-◌, length, Option, Some, None, refl, sym, subst}
use Rattle.std.specs.Prelude.{option_to_list}
use Rattle.amqp_outbox.specs.declared.item.Item.{Item}
use Rattle.amqp_rules.specs.Writing.{next_out, frames_waiting}
use Rattle.amqp_rules.specs.Writing.{committed_as as committed_in_session}
use Rattle.amqp_faultless.specs.Faultless.{Server, said_to}
use Rattle.amqp_faultless.proofs.Greeted.{IsMet}
use Rattle.amqp_faultless.proofs.Speaks.{met-commit, said_all, said_all-append}
use Rattle.amqp_engine.specs.Engine.{Engine, fitting_next, committed_with_bytes, commit_one, commits, commit_all}
use Rattle.amqp_engine.specs.Sending.{committed_in, committed_before}
use Rattle.amqp_rules.proofs.Finishing.{fitting-some}

-- ---- all that fits is committed

met-commit-one : (e : Engine) (s : Server) → IsMet s e.talk → IsMet (said_all (option_to_list (fitting_next e)) s) (commit_one e).talk
met-commit-one e s m = by (fitting_next e) refl where
  by : (x : Option Item) → fitting_next e ≡ x → IsMet (said_all (option_to_list x) s) (committed_with_bytes x e).talk
  by None is = m
  by (Some i) is =
      let P : Option Item → Type 0 = λ x. IsMet (said_to i.frame s) (committed_in_session x e.talk) in
      subst P (sym is) (met-commit s e.talk i (fitting-some (e.talk.capacity - length e.unsent) (next_out e.talk) i is) m)

pub met-commits : (n : ℕ) (e : Engine) (s : Server) → IsMet s e.talk → IsMet (said_all (committed_in n e) s) (commits n e).talk
met-commits zero e s m = m
met-commits (suc n) e s m =
    let P : Server → Type 0 = λ x. IsMet x (commits n (commit_one e)).talk in
    subst P (sym (said_all-append (option_to_list (fitting_next e)) (committed_in n (commit_one e)) s))
    (met-commits n (commit_one e) (said_all (option_to_list (fitting_next e)) s) (met-commit-one e s m))

-- all that waits and fits is committed
pub met-commit-all : (e : Engine) (s : Server) → IsMet s e.talk → IsMet (said_all (committed_before e) s) (commit_all e).talk
met-commit-all e s m = met-commits (frames_waiting e.talk) e s m

-- Both ends of the plan of a number close, and the status is that of a session that ended Closed.
use Rattle.std.proofs.Common.{◌≡◌, ◌≢◌, ◌≤◌, ◌⊎◌, inl, inr, ◌∙◌, ap, sym, refl, subst, ℕ, List, length, Option, None, Result, Ok, Err, IfOk, arith}
use Rattle.amqp_promise.specs.declared.error.ErrorKind.{ErrorKind}
use Rattle.amqp_promise.specs.declared.error.ErrorKind.TheVariants.{NoMemory}
use Rattle.amqp_uri.specs.Address.{local}
use Rattle.amqp_settings.specs.Config.{config_of, no_options}
use Rattle.amqp_rules.specs.Talk.{end_of}
use Rattle.amqp_engine.specs.Engine.{Engine}
use Rattle.amqp_replay.specs.declared.status.TheConstants.{CLOSED, SINK_FAILED, NO_MEMORY}
use Rattle.amqp_replay.specs.Report.{Printout}
use Rattle.amqp_replay.specs.Top.{end_status, Prints}
use Rattle.amqp_joining.specs.Plans.{turns_of}
use Rattle.amqp_joined.specs.Ports.{JoinedState, kept_plan}
use Rattle.amqp_joined.specs.JoinedRuns.{AreNewEnds, AreEnough, RunsClosed}
use Rattle.amqp_doubled.specs.Numbers.{doubled_plan, double_numbers}
use Rattle.amqp_doubled.specs.Doubling.{doubled_printout, doubled_port, doubled_talk, doubled_engine, IsDoubled}
use Rattle.amqp_doubled.proofs.Says.{local-said, doubled-counted, doubled-is}

-- they are new ends
pub new-ends : (count : ℕ) (e : Engine) (s : JoinedState) → e ≡ doubled_engine → s ≡ doubled_port count → AreNewEnds doubled_talk double_numbers (doubled_plan count) e s
new-ends count e s engine port =
    record {
      session = (config_of local no_options, inl refl);
      address = local-said;
      engine = engine;
      range = (omega arith, omega arith, omega arith);
      frame_max = refl;
      is_plan = doubled-is count;
      joined = port;
    }

-- where no memory was refused, it is answered Ok
pub answered-ok : (result : Result (Unit {0}) ErrorKind) (starved : Option ℕ) → starved ≡ None → (result ≡ Ok tt) ⊎ ((result ≡ Err NoMemory) × (starved ≢ None)) → result ≡ Ok tt
answered-ok result starved fed (inl ok) = ok
answered-ok result starved fed (inr refused) = absurd (refused.1 fed)

-- with turns enough
pub enough-turns : (count turns : ℕ) (s : JoinedState) → count ≤ 2000 → s ≡ doubled_port count → turns ≡ turns_of s.join.plan → AreEnough turns (doubled_plan count)
enough-turns count turns s few port is =
    let all : turns ≡ turns_of (doubled_plan count) = is ∙ ap (λ (x : JoinedState). turns_of x.join.plan) port in
    let less = doubled-counted count few in
    record { enough = omega (arith, all); counted = omega (arith, all, less) }

-- what is printed then
pub is-doubled : (count turns sent : ℕ) (e : Engine) (s0 s : JoinedState) (p : Printout) → s0 ≡ doubled_port count → turns ≡ turns_of s0.join.plan → RunsClosed turns doubled_talk e s0 s → kept_plan s ≡ kept_plan s0
    → sent ≡ length s.join.taken → p ≡ doubled_printout sent e.talk → IsDoubled count p
is-doubled count turns sent e s0 s p port is closed kept taken printed =
    let all : turns ≡ turns_of (doubled_plan count) = is ∙ ap (λ (x : JoinedState). turns_of x.join.plan) port in
    record {
      e = e;
      port = s;
      closed = subst (λ (n : ℕ). RunsClosed n doubled_talk e (doubled_port count) s) all (subst (λ (x : JoinedState). RunsClosed turns doubled_talk e x s) port closed);
      kept = kept ∙ ap kept_plan port;
      link = s.join.taken;
      links = closed.link;
      printed = printed ∙ ap (λ (n : ℕ). doubled_printout n e.talk) taken;
    }

-- its status
pub closed-status : (count : ℕ) (p : Printout) → IsDoubled count p → p.status ≡ CLOSED
closed-status count p is =
    ap (λ (x : Printout). x.status) is.printed ∙ ap end_status is.closed.over

-- and that of the program
pub closed-ends : (count status : ℕ) (p : Printout) (before after : Option (List ℕ)) → IsDoubled count p → Prints p before after status → (status ≡ CLOSED) ⊎ (status ≡ SINK_FAILED) ⊎ (status ≡ NO_MEMORY)
closed-ends count status p before after is (inl printed) = inl (printed.0 ∙ closed-status count p is)
closed-ends count status p before after is (inr printed) = inr (inl printed.0)

-- what holds of an answer, by what holds of another
pub if-ok : {A E : Type 0} (P Q : A → Type 0) (r : Result A E) → ((x : A) → P x → Q x) → IfOk r P → IfOk r Q
if-ok P Q (Ok x) more h = more x h
if-ok P Q (Err e) more h = h

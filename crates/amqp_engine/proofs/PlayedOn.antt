-- A script whose link takes all and is never lost is played on: each step that comes is the next given one.
use Rattle.std.proofs.Common.{◌≡◌, inl, inr, ℕ, Bool, true, false, List, [], ◌∷◌, Option, Some, None, option_map, refl, ap, sym, ◌∙◌, subst}
use Rattle.std.specs.List.{AllByRecursion}
use Rattle.amqp_auth.specs.declared.asked.Asked.{Asked}
use Rattle.amqp_rules.specs.Talk.{Talk}
use Rattle.amqp_types.proofs.Small.{if_case, if-true}
use Rattle.amqp_engine.specs.declared.given.Given.{Given}
use Rattle.amqp_engine.specs.declared.given.GivenStep.{GivenStep}
use Rattle.amqp_engine.specs.declared.given.GivenStep.TheVariants as given
use Rattle.amqp_engine.specs.declared.port.Step.{Step}
use Rattle.amqp_engine.specs.declared.port.Wrote.{Wrote}
use Rattle.amqp_engine.specs.declared.port.Wrote.TheVariants.{Took, Failed, NoMemory}
use Rattle.amqp_engine.specs.Account.{IsNew}
use Rattle.amqp_engine.specs.Plan.{Plan, Coming, coming_of, coming_from, room_after, fails_after, plan_of, plan_from, plan_step, plan_write, plan_failure, less_room, more_room}
use Rattle.amqp_engine.specs.Log.{Log, loaded, log_ask, log_step, log_write}
use Rattle.amqp_engine.specs.Engine.{Engine, begin}
use Rattle.amqp_engine.specs.Turn.{Turn, asks, wants_ask}
use Rattle.amqp_engine.specs.Tell.{Offer, offers_of, log_asks, log_stepped, log_offers, log_turn}
use Rattle.amqp_engine.specs.Play.{played_step, played_turn_of, played_turn}
use Rattle.amqp_engine.specs.Valid.{IsQuiet, IsLinkedOnce}
use Rattle.amqp_engine.proofs.Draining.{IsFree}

-- ---- the plan

-- these steps are left, all quiet, the link takes all, and no write fails
pub record IsOn (gs : List Given) (o : Option Plan) : Type 0 where
  pub plan : Plan
  pub played : o ≡ Some plan
  pub room : plan.room ≡ None
  pub works : plan.fails ≡ false
  pub rest : plan.rest ≡ gs
  pub quiet : AllByRecursion (λ (g : Given). IsQuiet g.what) gs

pub on-free : (gs : List Given) (o : Option Plan) → IsOn gs o → IsFree o
on-free gs o h = record { plan = h.plan; played = h.played; room = h.room; works = h.works }

-- the step that is played is the next given one
pub on-next : (g : Given) (gs : List Given) (o : Option Plan) → IsOn (g ∷ gs) o → played_step o ≡ coming_of g
on-next g gs o h = ap played_step h.played ∙ ap (λ rest. coming_from rest h.plan.moment) h.rest

-- ---- what keeps it

pub on-write : (bytes : List ℕ) (w : Wrote) (gs : List Given) (a : Log) → IsOn gs a.plan → IsOn gs (log_write bytes w a).plan
on-write bytes (Took k) gs a h =
    record { plan = plan_write k h.plan; played = ap (λ o. option_map (plan_write k) o) h.played; room = ap (less_room k) h.room; works = h.works; rest = h.rest; quiet = h.quiet }
on-write bytes Failed gs a h =
    record { plan = plan_failure h.plan; played = ap (λ o. option_map plan_failure o) h.played; room = h.room; works = refl; rest = h.rest; quiet = h.quiet }
on-write bytes NoMemory gs a h = h

pub on-offers : (os : List Offer) (gs : List Given) (a : Log) → IsOn gs a.plan → IsOn gs (log_offers os a).plan
on-offers [] gs a h = h
on-offers (o ∷ os) gs a h = on-offers os gs (log_write o.bytes o.answer a) (on-write o.bytes o.answer gs a h)

pub on-asks : (e : Engine) (gs : List Given) (a : Log) → IsOn gs a.plan → IsOn gs (log_asks e a).plan
on-asks e gs a h = if_case (λ (x : Log). IsOn gs x.plan) (wants_ask e) (log_ask a) a h h

quiet-room : (asked : Bool) (what : GivenStep) (room : Option ℕ) → IsQuiet what → room ≡ None → room_after asked what room ≡ None
quiet-room asked (given.Link r) room q h = absurd q
quiet-room asked given.Refuse room q h = absurd q
quiet-room asked (given.Bytes bytes) room q h = h
quiet-room asked given.End room q h = absurd q
quiet-room asked given.Fault room q h = absurd q
quiet-room asked (given.Room n) room q h = ap (more_room n) h
quiet-room asked given.WriteFail room q h = absurd q
quiet-room asked given.Tick room q h = h
quiet-room asked (given.Command c) room q h = h

quiet-works : (what : GivenStep) (fails : Bool) → IsQuiet what → fails ≡ false → fails_after what fails ≡ false
quiet-works (given.Link r) fails q h = absurd q
quiet-works given.Refuse fails q h = absurd q
quiet-works (given.Bytes bytes) fails q h = h
quiet-works given.End fails q h = absurd q
quiet-works given.Fault fails q h = absurd q
quiet-works (given.Room n) fails q h = h
quiet-works given.WriteFail fails q h = absurd q
quiet-works given.Tick fails q h = h
quiet-works (given.Command c) fails q h = h

-- a quiet step is told
pub on-step : (at : ℕ) (step : Step) (bytes : List ℕ) (g : Given) (gs : List Given) (a : Log) → IsOn (g ∷ gs) a.plan → IsOn gs (log_step at step bytes a).plan
on-step at step bytes g gs a h =
    let p = h.plan in
    record {
      plan = plan_from (g ∷ gs) a.asked p;
      played = ap (λ o. option_map (plan_step a.asked) o) h.played ∙ ap (λ rest. Some (plan_from rest a.asked p)) h.rest;
      room = quiet-room a.asked g.what p.room h.quiet.0 h.room;
      works = quiet-works g.what p.fails h.quiet.0 h.works;
      rest = refl;
      quiet = h.quiet.1;
    }

pub on-stepped : (u : Turn) (e : Engine) (g : Given) (gs : List Given) (a : Log) → IsOn (g ∷ gs) a.plan → IsOn gs (log_stepped u e a).plan
on-stepped u e g gs a h = on-step u.at u.step u.bytes g gs (log_asks e a) (on-asks e (g ∷ gs) a h)

pub on-turn : (u : Turn) (e : Engine) (g : Given) (gs : List Given) (a : Log) → IsOn (g ∷ gs) a.plan → IsOn gs (log_turn u e a).plan
on-turn u e g gs a h = on-offers (offers_of u (asks e)) gs (log_stepped u e a) (on-stepped u e g gs a h)

-- the turn that is played is one of the next given step
pub on-played : (answers : List Asked) (e : Engine) (g : Given) (gs : List Given) (a : Log) → IsOn (g ∷ gs) a.plan
    → played_turn answers e a ≡ played_turn_of (coming_of g) answers e a
on-played answers e g gs a h = ap (λ (c : Coming). played_turn_of c answers e a) (on-next g gs (log_asks e a).plan (on-asks e (g ∷ gs) a h))

-- ---- the link

-- the first step of a script is played first
pub first-next : (e : Engine) (g : Given) (gs : List Given) → played_step (log_asks e (loaded (g ∷ gs))).plan ≡ coming_of g
first-next e g gs =
    if_case (λ (x : Log). played_step x.plan ≡ coming_of g) (wants_ask e) (log_ask (loaded (g ∷ gs))) (loaded (g ∷ gs)) refl refl

pub first-played : (answers : List Asked) (e : Engine) (g : Given) (gs : List Given)
    → played_turn answers e (loaded (g ∷ gs)) ≡ played_turn_of (coming_of g) answers e (loaded (g ∷ gs))
first-played answers e g gs = ap (λ (c : Coming). played_turn_of c answers e (loaded (g ∷ gs))) (first-next e g gs)

-- a link that was asked for comes, takes all and stays
pub first-stepped : (u : Turn) (e : Engine) (g : Given) (gs : List Given) → IsLinkedOnce (g ∷ gs) → wants_ask e ≡ true → IsOn gs (log_stepped u e (loaded (g ∷ gs))).plan
first-stepped u e g gs linked wants =
    let a = loaded (g ∷ gs) in
    let P : Log → Type 0 = λ x. IsOn gs (log_step u.at u.step u.bytes x).plan in
    subst P (sym (if-true (wants_ask e) (log_ask a) a wants))
    (record {
      plan = plan_from (g ∷ gs) true (plan_of (g ∷ gs));
      played = refl;
      room = ap (λ (what : GivenStep). room_after true what (Some 0)) linked.0;
      works = ap (λ (what : GivenStep). fails_after what false) linked.0;
      rest = refl;
      quiet = linked.1;
    })

pub first-turn : (u : Turn) (e : Engine) (g : Given) (gs : List Given) → IsLinkedOnce (g ∷ gs) → wants_ask e ≡ true → IsOn gs (log_turn u e (loaded (g ∷ gs))).plan
first-turn u e g gs linked wants =
    on-offers (offers_of u (asks e)) gs (log_stepped u e (loaded (g ∷ gs))) (first-stepped u e g gs linked wants)

-- a new session asks for a link
pub new-wants : (t : Talk) → IsNew t → wants_ask (begin t) ≡ true
new-wants t new =
    elim new.1 [
      | inl same ↦ ap (λ (x : Talk). wants_ask (begin x)) same
      | inr same ↦ ap (λ (x : Talk). wants_ask (begin x)) same
    ]

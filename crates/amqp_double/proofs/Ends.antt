-- What stands behind the frames that were taken.
use Rattle.std.proofs.Common.{subst, ◌≡◌, ◌∙◌, ap, sym, refl, ℕ, List, Option, Some, None, IsTrue, is_some}
use Rattle.amqp_frame.specs.declared.frame.Frame.{Frame}
use Rattle.amqp_frame.specs.declared.frame.Read.TheVariants.{More}
use Rattle.amqp_frame.specs.Sequences.{front_at, IsNoFrame}
use Rattle.amqp_double.specs.Arrivals.{Arrive, AreArrivals, IsBehind}
use Rattle.amqp_double.specs.Doubles.{greatest_limit, StopsBehind}
use Rattle.amqp_double.specs.Hearing.{HasRead, HeardAll, HasTaken, Kept}
use Rattle.amqp_double.specs.declared.arrivals.Arrival.{Arrival as Came}
use Rattle.amqp_double.specs.declared.arrivals.Arrivals.{Arrivals}
use Rattle.amqp_double.specs.declared.arrivals.Behind.{Behind}
use Rattle.amqp_double.specs.declared.arrivals.Behind.TheVariants as behind
use Rattle.amqp_double.specs.declared.refusal.Refusal.{Refusal}
use Rattle.amqp_double.specs.declared.refusal.Refusal.TheVariants as refusals
use Rattle.amqp_double.specs.declared.heard.Heard.{Heard}
use Rattle.amqp_double.proofs.Taking.{still-read}

-- why no more is read, where a refusal is another's
taken-up-to : (old now : Heard) (list : List Came) (end : ℕ) → HasTaken old list now → now.refusal ≡ None → Arrive old.client.items old.numbers old.read list end
    → (frames : List Frame) × HasRead frames now × (now.read ≡ end)
taken-up-to old now list end taken none arrive = (taken.0, taken.1, taken.2.0 none end arrive)

pub more : (old now : Heard) (a : Arrivals) → HasTaken old a.list.items now → now.refusal ≡ None → AreArrivals old.client.items old.numbers old.read a → a.behind ≡ behind.More → Kept old now
    → HeardAll now
more old now a taken none came is same =
    let k = taken-up-to old now a.list.items came.end taken none came.arrive in
    let left : front_at old.client.items greatest_limit came.end ≡ More = subst (λ (b : Behind). IsBehind old.client.items came.end b) is came.behind in
    let here : front_at now.client.items greatest_limit now.read ≡ More =
    ap (λ (place : ℕ). front_at now.client.items greatest_limit place) k.2
    ∙ ap (λ (bytes : List ℕ). front_at bytes greatest_limit came.end) same.client ∙ left in
    (k.0, k.1, subst (λ (o : Option Refusal). StopsBehind now.client.items now.read k.0 o) (sym none) here)

pub no_frame : (old now : Heard) (a : Arrivals) → HasTaken old a.list.items now → now.refusal ≡ None → AreArrivals old.client.items old.numbers old.read a → a.behind ≡ behind.NoFrame
    → Kept old now → HeardAll (record now { refusal = Some (refusals.BadBytes now.read) })
no_frame old now a taken none came is same =
    let k = taken-up-to old now a.list.items came.end taken none came.arrive in
    let bad : IsNoFrame (front_at old.client.items greatest_limit came.end) = subst (λ (b : Behind). IsBehind old.client.items came.end b) is came.behind in
    let here : IsNoFrame (front_at now.client.items greatest_limit now.read) =
    subst (λ (place : ℕ). IsNoFrame (front_at now.client.items greatest_limit place)) (sym k.2)
    (subst (λ (bytes : List ℕ). IsNoFrame (front_at bytes greatest_limit came.end)) (sym same.client) bad) in
    (k.0, still-read k.0 now (Some (refusals.BadBytes now.read)) k.1, (refl, here))

pub refused : (old now : Heard) (list : List Came) → HasTaken old list now → IsTrue (is_some now.refusal) → HeardAll now
refused old now list taken some = (taken.0, taken.1, taken.2.1 some)

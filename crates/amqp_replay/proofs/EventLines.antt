-- The lines of the events, one by one.
use Rattle.std.proofs.Common.{◌≡◌, ◌<◌, ℕ, Bool, true, false, List, [], ◌∷◌, ◌++◌, length, Option, Some, None, Result, Ok, Err, slice_get, inl, inr, refl, ap, sym, ◌∙◌, subst, append_assoc, arith}
use Rattle.std.specs.List.{flat_map}
use Rattle.amqp_promise.specs.declared.error.ErrorKind.{ErrorKind}
use Rattle.amqp_promise.specs.declared.error.ErrorKind.TheVariants.{NoMemory}
use Rattle.amqp_answers.specs.declared.event.Event.{Event}
use Rattle.amqp_answers.specs.declared.event.Event.TheVariants as told
use Rattle.amqp_rules.specs.Talk.{Talk, end_of}
use Rattle.amqp_rules.specs.Answers.{end_event, events_of, event_of, without_event, take_event, TakesEvent}
use Rattle.amqp_engine.proofs.EventTaken.{taken-case}
use Rattle.amqp_replay.specs.Report.{event_line, event_lines}

-- an event that is not a refusal of memory was taken as it was kept
pub TakesEvent-told : (given : Option Event) (before after : Talk) → (given ≡ Some (told.Error NoMemory) → ⊥) → TakesEvent given before after
    → (given ≡ event_of before) × (after ≡ take_event before)
TakesEvent-told given before after whole (inl takes) = takes
TakesEvent-told given before after whole (inr refused) = absurd (whole refused.1)

-- ---- the first event, before those that are left

-- that of the end is the last
by_end : (tells : Bool) (ended : Option (Result (Unit {0}) ErrorKind)) (t : Talk) (event : Event) → t.noted.events ≡ [] → Some event ≡ slice_get (end_event tells ended) 0
    → end_event tells ended ≡ event ∷ events_of (without_event [] (end_event tells ended) t)
by_end true (Some (Err e)) t event none is =
    let same : told.Error e ≡ event = cc in
    ap (λ (x : Event). x ∷ []) same ∙ ap (λ (xs : List Event). event ∷ (xs ++ [])) (sym none)
by_end true (Some (Ok closed)) t event none is = cc
by_end true None t event none is = cc
by_end false ended t event none is = cc

by_events : (events : List Event) (t : Talk) (event : Event) → t.noted.events ≡ events → Some event ≡ slice_get (events ++ end_event t.noted.tells_end (end_of t)) 0
    → events ++ end_event t.noted.tells_end (end_of t) ≡ event ∷ events_of (without_event events (end_event t.noted.tells_end (end_of t)) t)
by_events (first ∷ later) t event same is =
    let is_first : first ≡ event = cc in
    ap (λ (x : Event). x ∷ (later ++ end_event t.noted.tells_end (end_of t))) is_first
by_events [] t event none is = by_end t.noted.tells_end (end_of t) t event none is

pub first-event : (t : Talk) (event : Event) → Some event ≡ event_of t → events_of t ≡ event ∷ events_of (take_event t)
first-event t event is = by_events t.noted.events t event refl is

none-left : (events : List Event) → None ≡ slice_get events 0 → events ≡ []
none-left [] is = refl
none-left (event ∷ later) is = cc

-- ---- what is left of the lines

-- an event was taken: the first of those that were left
pub record TookEvent (event : Event) (before after : Talk) : Type 0 where
  pub events : events_of before ≡ event ∷ events_of after
  pub end : end_of after ≡ end_of before

-- the end stays
pub end-stays : (given : Option Event) (before after : Talk) → TakesEvent given before after → end_of after ≡ end_of before
end-stays given before after takes = taken-case (λ (x : Talk). end_of x ≡ end_of before) given before after takes (λ noted. refl) refl

pub took-event : (event : Event) (before after : Talk) → (event ≡ told.Error NoMemory → ⊥) → TakesEvent (Some event) before after → TookEvent event before after
took-event event before after whole takes =
    let refused : Some event ≡ Some (told.Error NoMemory) → ⊥ = λ is. whole cc in
    let took = TakesEvent-told (Some event) before after refused takes in
    let P : Talk → Type 0 = λ x. TookEvent event before x in
    subst P (sym took.1) (record {
      events = first-event before event took.0;
      end = end-stays (Some event) before (take_event before) (inl (took.0, refl));
    })

-- it is written
pub lines-go-on : (event : Event) (before after : Talk) (out whole : List ℕ) → TookEvent event before after → whole ≡ out ++ event_line event
    → whole ++ event_lines after ≡ out ++ event_lines before
lines-go-on event before after out whole took is =
    ap (λ (x : List ℕ). x ++ event_lines after) is
    ∙ append_assoc out (event_line event) (event_lines after)
    ∙ ap (λ (x : List Event). out ++ flat_map event_line x) (sym took.events)

-- fewer are left
pub fewer-left : (event : Event) (before after : Talk) → TookEvent event before after → length (events_of after) < length (events_of before)
fewer-left event before after took =
    let same = ap length took.events in
    omega (arith, same)

-- none was left
pub no-event : (given : Option Event) (before after : Talk) → given ≡ None → TakesEvent given before after → events_of before ≡ []
no-event given before after none (inl took) = none-left (events_of before) (sym none ∙ took.0)
no-event given before after none (inr refused) =
    let both : None ≡ Some (told.Error NoMemory) = sym none ∙ refused.1 in
    cc

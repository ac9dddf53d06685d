-- What each call of a hub leaves is kept.
use Rattle.std.proofs.Common.{◌≡◌, ◌⊎◌, inl, inr, ◌≤◌, ◌<◌, ◌^◌, ℕ, suc, ◌+◌, nat_lt, Bool, true, false, if◌then◌else◌, List, [], ◌∷◌, ◌++◌, length, replicate, Option, Some, None, Result, Ok, Err, IsSome, is_some, IfNone, refl, ap, sym, ◌∙◌, subst, true≢false, arith}
use Rattle.std.proofs.lemmas.Bool.Decides.{nat_tests}
use Rattle.amqp_types.proofs.Small.{if_case, if-true, if-false}
use Rattle.amqp_promise.specs.declared.error.ErrorKind.{ErrorKind}
use Rattle.amqp_answers.specs.declared.answer.Answer.{Answer}
use Rattle.amqp_answers.specs.declared.answer.Answer.TheVariants.{Channel}
use Rattle.amqp_maps.specs.Listed.{at}
use Rattle.amqp_commands.specs.declared.command.Cmd.{Cmd}
use Rattle.amqp_answers.specs.declared.event.Event.{Event}
use Rattle.amqp_settings.specs.Config.{Config}
use Rattle.amqp_rules.specs.Talk.{Talk, start, has_ended}
use Rattle.amqp_rules.specs.Changes.{present_at, starve}
use Rattle.amqp_rules.specs.Commands.{command}
use Rattle.amqp_rules.specs.Answers.{Takes, TakesEvent, answer_in, answer_of, take_answer, take_event, take_frames, without_event, end_event}
use Rattle.amqp_rules.specs.Talk.{end_of, end_of_link}
use Rattle.amqp_rules.proofs.Soundness.{sound-start}
use Rattle.amqp_rules.proofs.Keeping.{starve-ends}
use Rattle.amqp_engine.specs.declared.port.Step.{Step}
use Rattle.amqp_engine.specs.Engine.{Engine, begin, with_talk, starve_at, starved_before}
use Rattle.amqp_engine.specs.Turn.{asks, IsApplied, applied}
use Rattle.amqp_journal.specs.declared.entry.Entry.{Entry}
use Rattle.amqp_journal.specs.declared.entry.Entry.TheVariants.{Turn, Called, Own}
use Rattle.amqp_journal.specs.declared.entry.Turn.{Turn as Taken}
use Rattle.amqp_journal.specs.Journal.{turn_in, cut_before, stands_for, MayEnter, StandsSince, WasTaken}
use Rattle.amqp_journal.proofs.Asking.{asks-ended}
use Rattle.amqp_journal.proofs.Starving.{starved-is, starved-may}
use Rattle.amqp_journal.proofs.Journal.{all-may-more, stands-new, stands-told, stands-turned, stands-answer, stands-frames, stands-event, stands-settled, stands-sound, stands-applied, stands-answered, applied-grown}
use Rattle.amqp_hub.specs.Passes.{own_place, places, gapless, count_of, made_of, set_made}
use Rattle.amqp_hub.specs.Guarded.{Beginning, Guarded, guarded, IsKept}
use Rattle.amqp_hub.proofs.Placing.{none-after, places-quiet, made-zeros, made-none, placed-called, counted-called}

-- ---- the beginning

pub kept-new : (c : Config) (e e' : Engine) (base : Beginning) (j : List Entry) (counts : List ℕ) → e ≡ begin (start c) → e' ≡ asks e
    → base ≡ record { engine = e; entries = 0; made = [] } → j ≡ [] → counts ≡ [] → IsKept (guarded e' base j counts)
kept-new c e e' base j counts new asked begins hj hc =
    let P : Engine → Type 0 = λ x. IsKept (guarded (asks x) (record { engine = x; entries = 0; made = [] }) [] []) in
    let Q : Engine → Type 0 = λ x. IsKept (guarded x base [] []) in
    let R : Beginning → Type 0 = λ b. IsKept (guarded (asks e) b [] []) in
    let J : List Entry → Type 0 = λ x. IsKept (guarded e' base x counts) in
    let C : List ℕ → Type 0 = λ x. IsKept (guarded e' base [] x) in
    subst J (sym hj) (subst C (sym hc) (subst Q (sym asked) (subst R (sym begins) (subst P (sym new) (record {
      stands = stands-new (begin (start c)) (tt, tt);
      sound = sound-start c;
      may = tt;
      placed = λ p. sym (ap (λ n. gapless n n) (made-none p));
      counted = λ p. omega arith;
      few = omega arith;
    })))))

-- ---- an entry more

-- a command of a pass
pub kept-called : (q n k : ℕ) (c : Cmd) (o : Option ℕ) (e e' : Engine) (base : Beginning) (j j' : List Entry) (counts counts' : List ℕ)
    → count_of q counts ≡ Some n → k ≡ n + 1 → e' ≡ with_talk (command c) e → j' ≡ j ++ Called q k c o ∷ [] → counts' ≡ set_made q k counts
    → IsKept (guarded e base j counts) → IsKept (guarded e' base j' counts')
kept-called q n k c o e e' base j j' counts counts' home next he hj hc kept =
    let P : Engine → Type 0 = λ x. IsKept (guarded x base j' counts') in
    let Q : List Entry → Type 0 = λ x. IsKept (guarded (with_talk (command c) e) base x counts') in
    let R : List ℕ → Type 0 = λ x. IsKept (guarded (with_talk (command c) e) base (j ++ Called q k c o ∷ []) x) in
    let more : k ≡ suc n = omega (arith, next) in
    subst P (sym he) (subst Q (sym hj) (subst R (sym hc) (record {
      stands = stands-told base.engine j e kept.stands (Called q k c o) c (λ x. refl) kept.sound;
      sound = kept.sound;
      may = all-may-more j (Called q k c o) base.engine kept.may tt;
      placed = placed-called base.made q n k c o j counts home more kept.placed kept.counted;
      counted = counted-called base.made q n k counts home more kept.counted;
      few = kept.few;
    })))

-- a turn
pub kept-turned : (u : Taken) (e x e' : Engine) (base : Beginning) (j j' : List Entry) (counts : List ℕ) → IsApplied (turn_in u) e → applied (turn_in u) e ≡ x
    → e' ≡ asks x → j' ≡ j ++ Turn u ∷ [] → IsKept (guarded e base j counts) → IsKept (guarded e' base j' counts)
kept-turned u e x e' base j j' counts may leaves asked hj kept =
    let P : Engine → Type 0 = λ y. IsKept (guarded y base j' counts) in
    let Q : List Entry → Type 0 = λ y. IsKept (guarded (asks (applied (turn_in u) e)) base y counts) in
    subst P (sym (asked ∙ ap asks (sym leaves))) (subst Q (sym hj) (record {
      stands = stands-turned base.engine j e kept.stands u kept.sound;
      sound = kept.sound;
      may = all-may-more j (Turn u) base.engine kept.may (stands-applied base.engine j e kept.stands (turn_in u) may);
      placed = λ p. places-quiet p (Turn u) j refl ∙ kept.placed p;
      counted = kept.counted;
      few = kept.few;
    }))

-- a session that starved has ended
pub starved-ends : (at : ℕ) (e : Engine) → has_ended (starved_before at e).talk ≡ true
starved-ends at e = by (has_ended e.talk) refl where
  by : (b : Bool) → has_ended e.talk ≡ b → has_ended (if b then e else starve_at at 0 e).talk ≡ true
  by true over = over
  by false running = starve-ends (present_at at e.talk)

-- a turn that was cut before its first part
pub kept-starved : (at : ℕ) (step : Step) (e e' : Engine) (base : Beginning) (j j' : List Entry) (counts : List ℕ) → has_ended e.talk ≡ false
    → e' ≡ starved_before at e → j' ≡ j ++ Turn (cut_before at step) ∷ [] → IsKept (guarded e base j counts) → IsKept (guarded e' base j' counts)
kept-starved at step e e' base j j' counts running he hj kept =
    let x : Engine = starve_at at 0 e in
    let is : e' ≡ x = he ∙ if-false (has_ended e.talk) e x running in
    let over : has_ended x.talk ≡ true = starve-ends (present_at at e.talk) in
    kept-turned (cut_before at step) e x e' base j j' counts (starved-may at step e) (starved-is at step e running) (is ∙ sym (asks-ended x over)) hj kept

-- ---- what is taken

taken : (e e' : Engine) (base : Beginning) (j : List Entry) (counts : List ℕ) → StandsSince base.engine j e' → IsKept (guarded e base j counts) → IsKept (guarded e' base j counts)
taken e e' base j counts stands kept =
    record { stands = stands; sound = kept.sound; may = kept.may; placed = kept.placed; counted = kept.counted; few = kept.few }

pub kept-answer : (n : ℕ) (given : Option (Result Answer ErrorKind)) (e e' : Engine) (base : Beginning) (j : List Entry) (counts : List ℕ)
    → Takes n given e.talk e'.talk → e' ≡ record e { talk = e'.talk } → IsKept (guarded e base j counts) → IsKept (guarded e' base j counts)
kept-answer n given e e' base j counts (inl h) rest kept =
    let P : Engine → Type 0 = λ x. StandsSince base.engine j x in
    taken e e' base j counts (subst P (sym (rest ∙ ap (λ (t : Talk). record e { talk = t }) h.1)) (stands-answer base.engine j e kept.stands n)) kept
kept-answer n given e e' base j counts (inr h) rest kept =
    let P : Engine → Type 0 = λ x. StandsSince base.engine j x in
    taken e e' base j counts (subst P (sym (rest ∙ ap (λ (t : Talk). record e { talk = t }) h.2)) kept.stands) kept

pub kept-event : (given : Option Event) (e e' : Engine) (base : Beginning) (j : List Entry) (counts : List ℕ)
    → TakesEvent given e.talk e'.talk → e' ≡ record e { talk = e'.talk } → IsKept (guarded e base j counts) → IsKept (guarded e' base j counts)
kept-event given e e' base j counts (inl h) rest kept =
    let P : Engine → Type 0 = λ x. StandsSince base.engine j x in
    taken e e' base j counts (subst P (sym (rest ∙ ap (λ (t : Talk). record e { talk = t }) h.1)) (stands-event base.engine j e kept.stands)) kept
kept-event given e e' base j counts (inr h) rest kept =
    let P : Engine → Type 0 = λ x. StandsSince base.engine j x in
    taken e e' base j counts (subst P (sym (rest ∙ ap (λ (t : Talk). record e { talk = t }) h.2)) kept.stands) kept

pub kept-frames : (n : ℕ) (e e' : Engine) (base : Beginning) (j : List Entry) (counts : List ℕ) → e' ≡ with_talk (take_frames n) e
    → IsKept (guarded e base j counts) → IsKept (guarded e' base j counts)
kept-frames n e e' base j counts he kept =
    let P : Engine → Type 0 = λ x. StandsSince base.engine j x in
    taken e e' base j counts (subst P (sym he) (stands-frames base.engine j e kept.stands n)) kept

-- ---- passes, and a new base

pub kept-zeros : (n : ℕ) (e : Engine) (base : Beginning) (j : List Entry) (counts counts' : List ℕ) → counts' ≡ counts ++ replicate n 0
    → IsKept (guarded e base j counts) → IsKept (guarded e base j counts')
kept-zeros n e base j counts counts' hc kept =
    let R : List ℕ → Type 0 = λ x. IsKept (guarded e base j x) in
    subst R (sym hc) (record {
      stands = kept.stands;
      sound = kept.sound;
      may = kept.may;
      placed = λ p. kept.placed p ∙ ap (gapless (made_of p base.made)) (sym (made-zeros p n counts));
      counted = λ p. omega (arith, kept.counted p, made-zeros p n counts);
      few = kept.few;
    })

pub kept-settled : (n : ℕ) (e : Engine) (base base' : Beginning) (j j' : List Entry) (counts : List ℕ) → n ≤ 2 ^ 63
    → base' ≡ record { engine = e; entries = n; made = counts } → j' ≡ [] → IsKept (guarded e base j counts) → IsKept (guarded e base' j' counts)
kept-settled n e base base' j j' counts few begins hj kept =
    let Q : List Entry → Type 0 = λ x. IsKept (guarded e base' x counts) in
    let R : Beginning → Type 0 = λ b. IsKept (guarded e b [] counts) in
    subst Q (sym hj) (subst R (sym begins) (record {
      stands = stands-settled base.engine j e kept.stands;
      sound = stands-sound base.engine j e kept.stands kept.sound;
      may = tt;
      placed = λ p. sym (none-after (made_of p counts));
      counted = λ p. omega arith;
      few = few;
    }))

-- ---- what the clauses say beside

-- no promise is pending once the session has ended
pub none-pending : (n : ℕ) (given : Option (Result Answer ErrorKind)) (e e' : Engine) (base : Beginning) (j : List Entry) (counts : List ℕ)
    → Takes n given e.talk e'.talk → IsKept (guarded e base j counts)
    → IfNone given (has_ended e.talk ≡ true → n < e.talk.made → WasTaken n base.engine j e)
none-pending n (Some a) e e' base j counts takes kept = tt
none-pending n None e e' base j counts (inl h) kept =
    λ over below.
    elim (stands-answered base.engine j e kept.stands n over below) [
      | inl some ↦ absurd (true≢false (sym some ∙ ap is_some (sym h.0)))
      | inr gone ↦ gone
    ]
none-pending n None e e' base j counts (inr h) kept = absurd cc

-- an answer that a channel is open names the promise
pub names-itself : (n : ℕ) (given : Option (Result Answer ErrorKind)) (e e' : Engine) (base : Beginning) (j : List Entry) (counts : List ℕ)
    → Takes n given e.talk e'.talk → IsKept (guarded e base j counts) → (id opened : ℕ) → given ≡ Some (Ok (Channel id opened)) → opened ≡ n
names-itself n given e e' base j counts (inr h) kept id opened is = absurd cc
names-itself n given e e' base j counts (inl h) kept id opened is =
    by (at n e.talk.promises) (end_of e.talk) refl (sym (sym is ∙ h.0))
  where
    by : (o : Option (Option (Result Answer ErrorKind))) (ended : Option (Result (Unit {0}) ErrorKind)) → at n e.talk.promises ≡ o
        → answer_in ended o ≡ Some (Ok (Channel id opened)) → opened ≡ n
    by None ended there gives = absurd cc
    by (Some None) None there gives = absurd cc
    by (Some None) (Some (Ok x)) there gives = absurd cc
    by (Some None) (Some (Err x)) there gives = absurd cc
    by (Some (Some a)) ended there gives =
        let s = stands-sound base.engine j e kept.stands kept.sound in
        s.answers n id opened (there ∙ ap Some gives)

-- the number of promises stays where an answer or an event is taken
pub made-taken : (n : ℕ) (given : Option (Result Answer ErrorKind)) (t t' : Talk) → Takes n given t t' → t'.made ≡ t.made
made-taken n given t t' (inl h) = ap (λ (x : Talk). x.made) h.1 ∙ if_case (λ (x : Talk). x.made ≡ t.made) (is_some (answer_of n t)) _ t refl refl
made-taken n given t t' (inr h) = ap (λ (x : Talk). x.made) h.2

without-made : (xs ys : List Event) (t : Talk) → (without_event xs ys t).made ≡ t.made
without-made (x ∷ xs) ys t = refl
without-made [] (y ∷ ys) t = refl
without-made [] [] t = refl

pub made-event : (given : Option Event) (t t' : Talk) → TakesEvent given t t' → t'.made ≡ t.made
made-event given t t' (inl h) = ap (λ (x : Talk). x.made) h.1 ∙ without-made t.noted.events (end_event t.noted.tells_end (end_of t)) t
made-event given t t' (inr h) = ap (λ (x : Talk). x.made) h.2

-- a turn makes no fewer
pub made-turned : (u : Taken) (e x e' : Engine) → applied (turn_in u) e ≡ x → e' ≡ asks x → e.talk.made ≤ e'.talk.made
made-turned u e x e' leaves asked =
    let P : Engine → Type 0 = λ y. e.talk.made ≤ y.talk.made in
    subst P (sym (asked ∙ ap asks (sym leaves))) (applied-grown (turn_in u) e)

-- what has ended, or not, where an answer, an event or frames are taken
without-link : (xs ys : List Event) (t : Talk) → (without_event xs ys t).link ≡ t.link
without-link (x ∷ xs) ys t = refl
without-link [] (y ∷ ys) t = refl
without-link [] [] t = refl

pub over-taken : (n : ℕ) (given : Option (Result Answer ErrorKind)) (t t' : Talk) → Takes n given t t' → has_ended t' ≡ has_ended t
over-taken n given t t' (inl h) = ap has_ended h.1 ∙ if_case (λ (x : Talk). has_ended x ≡ has_ended t) (is_some (answer_of n t)) _ t refl refl
over-taken n given t t' (inr h) = ap has_ended h.2

pub over-event : (given : Option Event) (t t' : Talk) → TakesEvent given t t' → has_ended t' ≡ has_ended t
over-event given t t' (inl h) =
    ap has_ended h.1 ∙ ap (λ l. is_some (end_of_link l)) (without-link t.noted.events (end_event t.noted.tells_end (end_of t)) t)
over-event given t t' (inr h) = ap has_ended h.2

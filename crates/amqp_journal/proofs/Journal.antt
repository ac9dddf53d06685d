-- The engine stands where its journal leads, less what was taken: what happens to it keeps that.
use Rattle.std.proofs.Common.{◌≡◌, ◌≢◌, ◌⊎◌, inl, inr, ℕ, ◌+◌, ◌<◌, ◌≤◌, IsSome, is_some, Bool, true, false, List, [], ◌∷◌, ◌++◌, Option, Some, None, refl, ap, sym, ◌∙◌, subst, arith}
use Rattle.amqp_commands.specs.declared.command.Cmd.{Cmd}
use Rattle.amqp_rules.specs.Talk.{Talk, has_ended}
use Rattle.amqp_settings.specs.Config.{Config}
use Rattle.amqp_rules.specs.Commands.{command}
use Rattle.amqp_maps.specs.Listed.{at}
use Rattle.amqp_rules.specs.Answers.{answer_of, take_answer, take_event, take_frames}
use Rattle.amqp_rules.specs.Sound.{IsSound}
use Rattle.amqp_types.proofs.Small.{if_case}
use Rattle.amqp_engine.specs.Engine.{Engine, with_talk}
use Rattle.amqp_engine.specs.Turn.{Turn, IsApplied, wants_ask, asks, applied}
use Rattle.amqp_rules.specs.Links.{asked}
use Rattle.amqp_journal.specs.declared.entry.Entry.{Entry}
use Rattle.amqp_journal.specs.declared.entry.Entry.TheVariants as entry
use Rattle.amqp_journal.specs.declared.entry.Turn.{Turn as Taken}
use Rattle.amqp_journal.specs.Untaken.{Untaken, untaken, IsClosed, AllThere}
use Rattle.amqp_journal.specs.Left.{IsOrdered, IsLeft, IsGone}
use Rattle.amqp_journal.specs.Journal.{turn_in, entered, stands_for, MayEnter, AllMay, IsLeftOf, StandsSince, WasTaken, EndsRight}
use Rattle.amqp_journal.proofs.Parts.{there-closed}
use Rattle.amqp_journal.proofs.Left.{left-none, left-answer, left-frames, left-event, ended-answered, gone-taken}
use Rattle.amqp_journal.proofs.Turns.{Keeps, of-told, of-asks, of-applied, of-turn, applies-of}
use Rattle.amqp_journal.proofs.Sounding.{sound-asks, sound-journal, ends-right, left-sound}
use Rattle.amqp_journal.proofs.Asking.{asks-told, asks-ended}
use Rattle.amqp_journal.proofs.Stepping.{any-closed, left-asked, left-told, left-applied, left-asks}

-- an entry more
pub journal-more : (js : List Entry) (j : Entry) (base : Engine) → stands_for (js ++ j ∷ []) base ≡ entered j (stands_for js base)
journal-more [] j base = refl
journal-more (i ∷ js) j base = journal-more js j (entered i base)

-- each turn of the journal may still be one, and so that of the entry more
pub all-may-more : (js : List Entry) (j : Entry) (base : Engine) → AllMay js base → MayEnter j (stands_for js base) → AllMay (js ++ j ∷ []) base
all-may-more [] j base all may = (may, tt)
all-may-more (i ∷ js) j base all may = (all.0, all-may-more js j (entered i base) all.1 may)

-- ---- what holds of one state, by these parts alone, through all entries

abbrev Alone : (ℕ → Config → Untaken → Type 0) → ℕ → Config → Untaken → Untaken → Type 0
Alone P made config v u = P made config v

module _ (P : ℕ → Config → Untaken → Type 0) (k : IsClosed (Alone P)) where
  abbrev Holds : Engine → Type 0
  Holds e = P e.talk.made e.talk.config (untaken e.talk)

  through : (rule : Engine → Engine) → Keeps (Alone P) k rule → (e : Engine) → Holds e → Holds (rule e)
  through rule keeps e h = (keeps e (untaken e.talk) h).talk.parts

  pub holds-asks : (e : Engine) → Holds e → Holds (asks e)
  holds-asks e h = through asks (of-asks (Alone P) k) e h

  holds-entry : (x : Entry) (e : Engine) → Holds e → Holds (entered x e)
  holds-entry (entry.Turn u) e h = through _ (of-turn (Alone P) k (turn_in u)) e h
  holds-entry (entry.Called pass nth c promise) e h = through _ (of-told (Alone P) k c) e h
  holds-entry (entry.Own c) e h = through _ (of-told (Alone P) k c) e h

  pub holds-journal : (js : List Entry) (e : Engine) → Holds e → Holds (stands_for js e)
  holds-journal [] e h = h
  holds-journal (x ∷ js) e h = holds-journal js (entered x e) (holds-entry x e h)

-- what the session was made from
made-from : (c : Config) → IsClosed (Alone (λ made config v. config ≡ c))
made-from c =
    record {
      settled = λ made config n a v u h. h;
      put = λ n config slot v u h. h;
      rejected = λ made config e v u h. h;
      handed = λ made config n x v u h. h;
      noted = λ made config listens e v u h. h;
      failed = λ made config listens v u h. h;
    }

-- at least so many promises were made
at-least : (m : ℕ) → IsClosed (Alone (λ made config v. m ≤ made))
at-least m =
    record {
      settled = λ made config n a v u h. h;
      put = λ n config slot v u h. omega (arith, h);
      rejected = λ made config e v u h. h;
      handed = λ made config n x v u h. h;
      noted = λ made config listens e v u h. h;
      failed = λ made config listens v u h. h;
    }

-- ---- each call keeps it

-- a base whose engine was asked for what it wants stands at its own beginning
pub stands-new : (base : Engine) → IsOrdered base.talk → StandsSince base [] (asks base)
stands-new base ordered =
    let Q : Engine → Type 0 = λ y. IsOrdered y.talk in
    record { rest = refl; left = left-none (asks base).talk (if_case Q (wants_ask base) (with_talk asked base) base ordered ordered) }

-- where the base is sound, so is what the journal leads to
stands-right : (base : Engine) (js : List Entry) → IsSound base.talk → EndsRight (asks (stands_for js base))
stands-right base js sound = ends-right (asks (stands_for js base)) (sound-asks (stands_for js base) (sound-journal js base sound))

module _ (base : Engine) (js : List Entry) (x : Engine) (h : StandsSince base js x) where
  -- a command
  pub stands-told : (j : Entry) (c : Cmd) → ((e : Engine) → entered j e ≡ with_talk (command c) e) → IsSound base.talk
      → StandsSince base (js ++ j ∷ []) (with_talk (command c) x)
  stands-told j c does sound =
      let g : Engine = stands_for js base in
      let P : Engine → Type 0 = λ y. IsLeftOf y (with_talk (command c) x) in
      subst P (sym (ap asks (journal-more js j base ∙ does g) ∙ asks-told c g)) (left-told c (asks g) x (stands-right base js sound) h)

  -- a turn
  pub stands-turned : (u : Taken) → IsSound base.talk → StandsSince base (js ++ entry.Turn u ∷ []) (asks (applied (turn_in u) x))
  stands-turned u sound =
      let g : Engine = stands_for js base in
      let v : Turn = turn_in u in
      let P : Engine → Type 0 = λ y. IsLeftOf y (asks (applied v x)) in
      subst P (sym (ap asks (journal-more js (entry.Turn u) base)))
      (left-asks (applied v (asks g)) (applied v x) (left-applied v (asks g) x (stands-right base js sound) h))

  taken-of : (rule : Talk → Talk) → ((f t : Talk) → IsLeft f t → IsLeft f (rule t)) → StandsSince base js (with_talk rule x)
  taken-of rule keeps =
      record { rest = ap (λ (y : Engine). record y { talk = rule x.talk }) h.rest; left = keeps (asks (stands_for js base)).talk x.talk h.left }

  pub stands-answer : (n : ℕ) → StandsSince base js (with_talk (take_answer n) x)
  stands-answer n = taken-of (take_answer n) (left-answer n)

  pub stands-frames : (n : ℕ) → StandsSince base js (with_talk (take_frames n) x)
  stands-frames n = taken-of (take_frames n) (left-frames n)

  pub stands-event : StandsSince base js (with_talk take_event x)
  stands-event = taken-of take_event left-event

  -- it stands at its own beginning, with an empty journal
  pub stands-settled : StandsSince x [] x
  stands-settled =
      let P : Engine → Type 0 = λ y. IsLeftOf y x in
      subst P (sym (left-asked (stands_for js base) x h)) (record { rest = refl; left = left-none x.talk h.left.ordered })

  -- ---- what it says

  -- the link that is wanted is asked for
  pub stands-asked : asks x ≡ x
  stands-asked = left-asked (stands_for js base) x h

  -- the engine is sound, where the base is
  pub stands-sound : IsSound base.talk → IsSound x.talk
  stands-sound sound = left-sound (asks (stands_for js base)).talk x.talk h.left (sound-asks (stands_for js base) (sound-journal js base sound))

  -- a turn of the engine is one of that for which the journal stands
  pub stands-applied : (v : Turn) → IsApplied v x → IsApplied v (asks (stands_for js base))
  stands-applied v may =
      let Any : ℕ → Config → Untaken → Untaken → Type 0 = λ made config w u. Unit {0} in
      applies-of Any any-closed v (asks (stands_for js base)) x (record { same = h.rest; talk = record { same = h.left.rest; parts = tt } }) may

  -- it was made from what the base was made from
  pub stands-config : x.talk.config ≡ base.talk.config
  stands-config =
      let c : Config = base.talk.config in
      ap (λ (t : Talk). t.config) h.left.rest
      ∙ holds-asks (λ made config v. config ≡ c) (made-from c) (stands_for js base) (holds-journal (λ made config v. config ≡ c) (made-from c) js base refl)

  -- at least as many promises were made
  pub stands-grown : base.talk.made ≤ x.talk.made
  stands-grown =
      let m : ℕ = base.talk.made in
      let P : ℕ → Type 0 = λ n. m ≤ n in
      subst P (sym (ap (λ (t : Talk). t.made) h.left.rest))
      (holds-asks (λ made config v. m ≤ made) (at-least m) (stands_for js base) (holds-journal (λ made config v. m ≤ made) (at-least m) js base (omega arith)))

  -- an answer that is gone was taken: it was there, or it was gone at the base
  pub stands-gone : (n : ℕ) → IsGone n x.talk → WasTaken n base js x
  stands-gone n gone =
      let Gone : ℕ → Type 0 = λ i. IsGone i base.talk in
      let P : ℕ → Config → Untaken → Type 0 = λ made config v. AllThere Gone made v.promises in
      let g : Engine = asks (stands_for js base) in
      let all : AllThere Gone g.talk.made g.talk.promises =
      holds-asks P (there-closed Gone) (stands_for js base) (holds-journal P (there-closed Gone) js base at-base) in
      (gone, gone-taken Gone n g.talk x.talk h.left all gone)
    where
      at-base : (i : ℕ) → i < base.talk.made → IsSome (at i base.talk.promises) ⊎ IsGone i base.talk
      at-base i below = by (at i base.talk.promises) refl where
        by : (o : Option _) → at i base.talk.promises ≡ o → IsSome (at i base.talk.promises) ⊎ IsGone i base.talk
        by (Some a) is = inl (ap is_some is)
        by None is = inr (below, is)

  -- where it has ended, each promise that was made has its answer, or it was taken
  pub stands-answered : (n : ℕ) → has_ended x.talk ≡ true → n < x.talk.made → IsSome (answer_of n x.talk) ⊎ WasTaken n base js x
  stands-answered n over below = by (at n x.talk.promises) refl where
    by : (o : Option _) → at n x.talk.promises ≡ o → IsSome (answer_of n x.talk) ⊎ WasTaken n base js x
    by (Some a) is = inl (ended-answered n x.talk over (ap is_some is))
    by None is = inr (stands-gone n (below, is))

-- a turn makes no fewer promises than there were
pub applied-grown : (v : Turn) (x : Engine) → x.talk.made ≤ (asks (applied v x)).talk.made
applied-grown v x =
    let m : ℕ = x.talk.made in
    let P : ℕ → Config → Untaken → Type 0 = λ made config w. m ≤ made in
    holds-asks P (at-least m) (applied v x) (through P (at-least m) (applied v) (of-applied (Alone P) (at-least m) v) x (omega arith))

-- nor does a command
pub told-grown : (c : Cmd) (x : Engine) → x.talk.made ≤ (command c x.talk).made
told-grown c x =
    let m : ℕ = x.talk.made in
    let P : ℕ → Config → Untaken → Type 0 = λ made config w. m ≤ made in
    through P (at-least m) (with_talk (command c)) (of-told (Alone P) (at-least m) c) x (omega arith)

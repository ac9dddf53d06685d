-- What is done where no turn comes any more.
use Rattle.std.proofs.Common.{◌≡◌, ◌≤◌, ◌∙◌, ℕ, List, length, min, Option, Result, Ok, Err, OnOk, OnErr, ap, subst}
use Rattle.amqp_hub.specs.declared.due.Owner.{Owner}
use Rattle.amqp_hub.specs.declared.marks.Mark.{Mark}
use Rattle.amqp_hub.specs.Guarded.{Guarded}
use Rattle.amqp_locked.specs.UnderLock.{UnderLock, under_lock, Watch, with_session}
use Rattle.amqp_locked.specs.Looking.{finds, released_times, looked_from}
use Rattle.amqp_locked.specs.Turning.{looked}
use Rattle.amqp_locked.specs.LettingGo.{LetsManyGo}
use Rattle.amqp_locked.specs.Tidying.{Tidies}

-- marks were met and found, and what is due about those from one on was done, whether memory was refused or not
looked-some : {A E : Type 0} (r : Result A E) (l m : UnderLock) → OnOk r ((found : List (ℕ × Mark)) × (m ≡ looked 0 found l))
    → OnErr r ((found : List (ℕ × Mark)) × (times : ℕ) × (left : ℕ) × (m ≡ looked_from left (released_times times 0 (finds 0 found l))))
    → (found : List (ℕ × Mark)) × (times : ℕ) × (left : ℕ) × (m ≡ looked_from left (released_times times 0 (finds 0 found l)))
looked-some (Ok x) l m ok err = (ok.0, length (finds 0 ok.0 l).watch.late, 0, ok.1)
looked-some (Err x) l m ok err = err

-- and then of what nobody will take so much was let go
pub tidies : {A E : Type 0} (r : Result A E) (l m l' : UnderLock) (many : ℕ) → OnOk r ((found : List (ℕ × Mark)) × (m ≡ looked 0 found l))
    → OnErr r ((found : List (ℕ × Mark)) × (times : ℕ) × (left : ℕ) × (m ≡ looked_from left (released_times times 0 (finds 0 found l))))
    → min 64 (length m.unasked) ≤ many → LetsManyGo many m.unasked m.hub.engine.talk l'.unasked l'.hub.engine.talk
    → l'.hub ≡ (with_session l'.hub.engine.talk m).hub → l'.places ≡ m.places → l'.found ≡ m.found → l'.watch ≡ m.watch → Tidies l l'
tidies r l m l' many ok err enough gone hub places found watch =
    let h = looked-some r l m ok err in
    record {
      found = h.0;
      times = h.1;
      left = h.2;
      many = many;
      enough = subst (λ (x : UnderLock). min 64 (length x.unasked) ≤ many) h.3 enough;
      gone = subst (λ (x : UnderLock). LetsManyGo many x.unasked x.hub.engine.talk l'.unasked l'.hub.engine.talk) h.3 gone;
      rest = subst (λ (x : UnderLock). l' ≡ under_lock (with_session l'.hub.engine.talk x).hub x.places x.found l'.unasked x.watch) h.3
          (ap (λ (g : Guarded). under_lock g l'.places l'.found l'.unasked l'.watch) hub
          ∙ ap (λ (ps : List (Option Owner)). under_lock (with_session l'.hub.engine.talk m).hub ps l'.found l'.unasked l'.watch) places
          ∙ ap (λ (fs : List Owner). under_lock (with_session l'.hub.engine.talk m).hub m.places fs l'.unasked l'.watch) found
          ∙ ap (λ (w : Watch). under_lock (with_session l'.hub.engine.talk m).hub m.places m.found l'.unasked w) watch);
    }

-- What comes of a frame that asks nothing.
use Rattle.std.proofs.Common.{◌≡◌, ℕ, List, [], append-nil, sym, subst}
use Rattle.amqp_frame.specs.declared.frame.Read.{Read}
use Rattle.amqp_auth.specs.declared.asked.Question.{Question}
use Rattle.amqp_auth.specs.declared.asked.Asked.{Asked}
use Rattle.amqp_rules.specs.Talk.{Talk}
use Rattle.amqp_auth.specs.Providers.{Exchange}
use Rattle.amqp_auth.specs.DefaultAnswers.{DefaultAuth, default_answer, AnswersEach}
use Rattle.amqp_auth.specs.Asking.{Asks}
use Rattle.amqp_rules.specs.Asking.{Hears}
use Rattle.amqp_uses.specs.Driving.{heard, asked_of}

abbrev May : DefaultAuth → Exchange → Type 0
May p = AnswersEach (default_answer p.mechanism p.login)

-- no question, and no answer
asks-none : (questions : List Question) (before : Exchange → Type 0) (list : List Asked) → questions ≡ []
    → Asks questions [] before before list list
asks-none questions before list none = subst (λ (asked : List Question). Asks asked [] before before list list) (sym none)
    (record { listed = sym (append-nil list); all = tt; allowed = λ rest may. may })

hears-nothing : (read : Read) (place at : ℕ) (t t' : Talk) (p : DefaultAuth) (list : List Asked)
    → asked_of read at t ≡ [] → t' ≡ heard read place at [] t
    → Hears (heard read place at) (λ answers. asked_of read at) (May p) (May p) t t' list list
hears-nothing read place at t t' p list none done =
    record { answers = []; asks = asks-none (asked_of read at t) (May p) list none; talk = done }

pub unasked : (stands read : Read) → stands ≡ read → (place at : ℕ) (t t' : Talk) (p p' : DefaultAuth) (list list' : List Asked)
    → asked_of read at t ≡ [] → t' ≡ heard read place at [] t → p' ≡ p → list' ≡ list
    → Hears (heard stands place at) (λ answers. asked_of stands at) (May p) (May p') t t' list list'
unasked stands read is place at t t' p p' list list' none done same kept =
    subst (λ (x : Read). Hears (heard x place at) (λ answers. asked_of x at) (May p) (May p') t t' list list') (sym is)
    (subst (λ (q : DefaultAuth). Hears (heard read place at) (λ answers. asked_of read at) (May p) (May q) t t' list list')
    (sym same)
    (subst (λ (l : List Asked). Hears (heard read place at) (λ answers. asked_of read at) (May p) (May p) t t' list l)
    (sym kept) (hears-nothing read place at t t' p list none done)))

-- What settling leaves as it is.
use Rattle.std.proofs.Common.{◌≡◌, ◌≤◌, ◌&&◌, not, if◌then◌else◌, Bool, true, false, [], ℕ, List, length, refl, ap, sym, ◌∙◌, arith}
use Rattle.amqp_rules.specs.Talk.{is_open, drops_input}
use Rattle.amqp_engine.specs.Engine.{Engine, settle}
use Rattle.amqp_engine.specs.Making.{keeps_unread, IsSettled}
use Rattle.amqp_types.proofs.Small.{if_case, if-true, if-false}

-- what is not looked at is what stays
settle-keeps : {A : Type 0} (f : Engine → A) → ((e : Engine) (bytes : List ℕ) → f (record e { unread = []; place = 0; unsent = bytes }) ≡ f e) → (e : Engine) → f (settle e) ≡ f e
settle-keeps f h e =
    let P : Engine → Type 0 = λ x. f x ≡ f e in
    if_case P (is_open e.talk) (if drops_input e.talk then record e { unread = []; place = 0 } else e) (record e { unread = []; place = 0; unsent = [] })
    (if_case P (drops_input e.talk) (record e { unread = []; place = 0 }) e (h e e.unsent) refl) (h e [])

pub settle-talk : (e : Engine) → (settle e).talk ≡ e.talk
settle-talk e = settle-keeps (λ x. x.talk) (λ x bytes. refl) e

pub settle-starved : (e : Engine) → (settle e).starved ≡ e.starved
settle-starved e = settle-keeps (λ x. x.starved) (λ x bytes. refl) e

-- what is unsent stays while the link is open
pub settle-unsent : (e : Engine) → is_open e.talk ≡ true → (settle e).unsent ≡ e.unsent
settle-unsent e opened =
    let P : Engine → Type 0 = λ x. x.unsent ≡ e.unsent in
    let kept : Engine = if drops_input e.talk then record e { unread = []; place = 0 } else e in
    ap (λ (x : Engine). x.unsent) (if-true (is_open e.talk) kept (record e { unread = []; place = 0; unsent = [] }) opened)
    ∙ if_case P (drops_input e.talk) (record e { unread = []; place = 0 }) e refl refl

-- and is no more in any case
pub settle-less : (e : Engine) → length (settle e).unsent ≤ length e.unsent
settle-less e =
    let P : Engine → Type 0 = λ x. length x.unsent ≤ length e.unsent in
    if_case P (is_open e.talk) (if drops_input e.talk then record e { unread = []; place = 0 } else e) (record e { unread = []; place = 0; unsent = [] })
    (if_case P (drops_input e.talk) (record e { unread = []; place = 0 }) e (omega arith) (omega arith)) (omega arith)

-- the unread bytes stay, or go
pub settle-unread : (e : Engine) → (settle e).unread ≡ (if keeps_unread e.talk then e.unread else [])
settle-unread e = by (is_open e.talk) (drops_input e.talk) where
  by : (b c : Bool) → (if b then (if c then record e { unread = []; place = 0 } else e) else record e { unread = []; place = 0; unsent = [] }).unread
      ≡ (if b && not c then e.unread else [])
  by true true = refl
  by true false = refl
  by false c = refl

pub settle-settled : (e : Engine) → IsSettled (settle e)
settle-settled e h = settle-unread e ∙ if-false (keeps_unread e.talk) e.unread [] (sym (ap keeps_unread (settle-talk e)) ∙ h)

-- where they are kept, nothing changes
pub settle-kept : (e : Engine) → keeps_unread e.talk ≡ true → settle e ≡ e
settle-kept e = by (is_open e.talk) (drops_input e.talk) where
  by : (b c : Bool) → (b && not c) ≡ true → (if b then (if c then record e { unread = []; place = 0 } else e) else record e { unread = []; place = 0; unsent = [] }) ≡ e
  by true true h = cc
  by true false h = refl
  by false c h = cc

-- and where they are not, it does not matter which they were
pub settle-bytes : (e : Engine) (bytes : List ℕ) → keeps_unread e.talk ≡ false → settle (record e { unread = bytes }) ≡ settle e
settle-bytes e bytes = by (is_open e.talk) (drops_input e.talk) where
  by : (b c : Bool) → (b && not c) ≡ false
      → (if b then (if c then record e { unread = []; place = 0 } else record e { unread = bytes }) else record e { unread = []; place = 0; unsent = [] })
      ≡ (if b then (if c then record e { unread = []; place = 0 } else e) else record e { unread = []; place = 0; unsent = [] })
  by true true h = refl
  by true false h = cc
  by false c h = refl

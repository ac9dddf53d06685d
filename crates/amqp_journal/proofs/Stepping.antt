-- An engine that is another, less what was taken, stays so through a command, a turn, and the asking for a link.
use Rattle.std.proofs.Common.{◌≡◌, ℕ, ◌&&◌, not, Bool, true, false, refl, ap, sym, ◌∙◌, subst}
use Rattle.amqp_commands.specs.declared.command.Cmd.{Cmd}
use Rattle.amqp_rules.specs.Talk.{Talk, has_ended, is_asked_link, is_wanted_link}
use Rattle.amqp_settings.specs.Config.{Config}
use Rattle.amqp_rules.specs.Commands.{command}
use Rattle.amqp_engine.specs.Engine.{Engine, with_talk}
use Rattle.amqp_engine.specs.Turn.{Turn, wants_ask, asks, is_before, applied}
use Rattle.amqp_journal.specs.Untaken.{Untaken, IsClosed}
use Rattle.amqp_journal.specs.Left.{PartsLeft, IsLeft}
use Rattle.amqp_journal.specs.Journal.{TiedEngines, IsLeftOf, EndsRight}
use Rattle.amqp_journal.proofs.Parts.{parts-closed}
use Rattle.amqp_journal.proofs.Left.{parts-of, left-of}
use Rattle.amqp_journal.proofs.Turns.{on, of-told, of-asks, of-applied}
use Rattle.amqp_journal.proofs.Asking.{asks-done, asks-again, asks-ended}
use Rattle.amqp_journal.proofs.Ended.{over-left, left-command-over, over_step, applied-over, left-step-over}

-- ---- engines

tied-of : (g x : Engine) → has_ended g.talk ≡ false → IsLeftOf g x → TiedEngines PartsLeft g x
tied-of g x running h = record { same = h.rest; talk = parts-of g.talk x.talk running h.left }

left-engine : (g x : Engine) → TiedEngines PartsLeft g x → IsLeftOf g x
left-engine g x h = record { rest = h.same; left = left-of g.talk x.talk h.talk }

-- once asked, nothing is to be asked of what is left either
pub left-asked : (g x : Engine) → IsLeftOf (asks g) x → asks x ≡ x
left-asked g x h =
    let same : wants_ask x ≡ wants_ask (asks g) = ap (λ (t : Talk). is_wanted_link t.link && not (is_asked_link t.link)) h.left.rest in
    asks-again x (same ∙ asks-done g)

-- ---- a command

pub left-told : (c : Cmd) (g x : Engine) → EndsRight g → IsLeftOf g x → IsLeftOf (with_talk (command c) g) (with_talk (command c) x)
left-told c g x right h = by (has_ended g.talk) refl where
  by : (b : Bool) → has_ended g.talk ≡ b → IsLeftOf (with_talk (command c) g) (with_talk (command c) x)
  by false running =
      left-engine _ _ (on PartsLeft parts-closed (with_talk (command c)) (of-told PartsLeft parts-closed c) g x (tied-of g x running h))
  by true over =
      record {
        rest = ap (λ (y : Engine). record y { talk = command c x.talk }) h.rest;
        left = left-command-over c g.talk x.talk (over, right over) h.left;
      }

-- ---- a turn from its step on

-- of these parts nothing need be known
pub any-closed : IsClosed (λ made config v u. Unit {0})
any-closed =
    record {
      settled = λ made config n a v u h. tt;
      put = λ n config slot v u h. tt;
      rejected = λ made config e v u h. tt;
      handed = λ made config n x v u h. tt;
      noted = λ made config listens e v u h. tt;
      failed = λ made config listens v u h. tt;
    }

pub left-applied : (v : Turn) (g x : Engine) → EndsRight g → IsLeftOf g x → IsLeftOf (applied v g) (applied v x)
left-applied v g x right h = by (has_ended g.talk) refl where
  by : (b : Bool) → has_ended g.talk ≡ b → IsLeftOf (applied v g) (applied v x)
  by false running = left-engine _ _ (on PartsLeft parts-closed (applied v) (of-applied PartsLeft parts-closed v) g x (tied-of g x running h))
  by true over =
      let Any : ℕ → Config → Untaken → Untaken → Type 0 = λ made config w u. Unit {0} in
      let tied : TiedEngines Any g x = record { same = h.rest; talk = record { same = h.left.rest; parts = tt } } in
      let all : TiedEngines Any (applied v g) (applied v x) = on Any any-closed (applied v) (of-applied Any any-closed v) g x tied in
      let goes : Bool = is_before v.notes.starved 0 in
      let there = applied-over v g (over, right over) in
      let here = applied-over v x (over-left g.talk x.talk h.left (over, right over)) in
      let P : Talk → Type 0 = λ f. IsLeft f (applied v x).talk in
      let Q : Talk → Type 0 = λ t. IsLeft (over_step v.step goes g.talk) t in
      record { rest = all.same; left = subst P (sym there) (subst Q (sym here) (left-step-over v.step goes g.talk x.talk (over, right over) h.left)) }

-- ---- the asking

pub left-asks : (g x : Engine) → IsLeftOf g x → IsLeftOf (asks g) (asks x)
left-asks g x h = by (has_ended g.talk) refl where
  by : (b : Bool) → has_ended g.talk ≡ b → IsLeftOf (asks g) (asks x)
  by false running = left-engine _ _ (on PartsLeft parts-closed asks (of-asks PartsLeft parts-closed) g x (tied-of g x running h))
  by true over =
      let there : asks g ≡ g = asks-ended g over in
      let here : asks x ≡ x = asks-ended x (ap has_ended h.left.rest ∙ over) in
      let P : Engine → Type 0 = λ y. IsLeftOf y (asks x) in
      let Q : Engine → Type 0 = λ y. IsLeftOf g y in
      subst P (sym there) (subst Q (sym here) h)

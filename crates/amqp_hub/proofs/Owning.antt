-- What is done about a mark that was found keeps what is kept of a hub.
use Rattle.std.proofs.Common.{◌≡◌, ◌≤◌, ◌+◌, List, [], ◌∷◌, ◌++◌, ℕ, suc, false, Result, Ok, Err, OnOk, OnErr, refl, ap, sym, subst, ◌∙◌, arith}
use Rattle.amqp_commands.specs.declared.command.Cmd.{Cmd}
use Rattle.amqp_rules.specs.Commands.{command}
use Rattle.amqp_rules.specs.Talk.{has_ended}
use Rattle.amqp_engine.specs.Engine.{Engine, with_talk}
use Rattle.amqp_journal.specs.declared.entry.Entry.{Entry}
use Rattle.amqp_journal.specs.declared.entry.Entry.TheVariants.{Own}
use Rattle.amqp_journal.proofs.Journal.{all-may-more, stands-told}
use Rattle.amqp_hub.specs.Guarded.{Beginning, guarded, IsKept, HasSpare}
use Rattle.amqp_hub.proofs.Placing.{places-quiet}

-- a command of the hub's own has no place
pub kept-own : (c : Cmd) (e e' : Engine) (base : Beginning) (j j' : List Entry) (counts : List ℕ) → e' ≡ with_talk (command c) e
    → j' ≡ j ++ Own c ∷ [] → IsKept (guarded e base j counts) → IsKept (guarded e' base j' counts)
kept-own c e e' base j j' counts he hj kept =
    let P : Engine → Type 0 = λ x. IsKept (guarded x base j' counts) in
    let Q : List Entry → Type 0 = λ x. IsKept (guarded (with_talk (command c) e) base x counts) in
    subst P (sym he) (subst Q (sym hj) (record {
      stands = stands-told base.engine j e kept.stands (Own c) c (λ x. refl) kept.sound;
      sound = kept.sound;
      may = all-may-more j (Own c) base.engine kept.may tt;
      placed = λ p. places-quiet p (Own c) j refl ∙ kept.placed p;
      counted = kept.counted;
      few = kept.few;
    }))

-- the same, whether or not memory for it was there
pub kept-entered : {A E : Type 0} (r : Result A E) (c : Cmd) (e e' : Engine) (base : Beginning) (j j' : List Entry) (counts : List ℕ)
    → OnOk r (e' ≡ with_talk (command c) e) → OnOk r (j' ≡ j ++ Own c ∷ []) → OnErr r (e' ≡ e) → OnErr r (j' ≡ j)
    → IsKept (guarded e base j counts) → IsKept (guarded e' base j' counts)
kept-entered (Ok x) c e e' base j j' counts told entered same left kept = kept-own c e e' base j j' counts told entered kept
kept-entered (Err x) c e e' base j j' counts told entered same left kept =
    let P : Engine → Type 0 = λ y. IsKept (guarded y base j' counts) in
    let Q : List Entry → Type 0 = λ ys. IsKept (guarded e base ys counts) in
    subst P (sym same) (subst Q (sym left) kept)

pub spare-entered : {A E : Type 0} (r : Result A E) (e e' : Engine) (len len' capacity capacity' : ℕ) → OnOk r (len' + 1 ≤ capacity') → OnErr r (e' ≡ e)
    → OnErr r ((len' ≡ len) × (capacity ≤ capacity')) → HasSpare e len capacity → HasSpare e' len' capacity'
spare-entered (Ok x) e e' len len' capacity capacity' room same left spare = λ running. omega (arith, room)
spare-entered (Err x) e e' len len' capacity capacity' room same left spare =
    λ running. (let s = spare (sym (ap (λ (y : Engine). has_ended y.talk) same) ∙ running) in let l = left.0 in let k = left.1 in omega arith)

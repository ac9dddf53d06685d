-- Small facts by cases.
use Rattle.std.proofs.Common.{◌≡◌, ◌≤◌, ◌<◌, ℕ, ◌+◌, Bool, true, false, not, ◌&&◌, ◌||◌, IsTrue, IsFalse, nat_lt, [], Option, Some, None, refl, arith, rules}
use Rattle.std.proofs.lemmas.Bool.Decides.{nat_tests}
use Rattle.amqp_types.specs.Counts.{Rose}
use Rattle.amqp_engine.specs.declared.port.Step.{Step}
use Rattle.amqp_engine.specs.declared.port.Step.TheVariants.{Linked, LinkFailed, Piece, End, Fault, Room, Tick, Command}
use Rattle.amqp_engine.specs.Engine.{Engine}
use Rattle.amqp_engine.specs.Turn.{is_before, is_part}
use Rattle.amqp_engine.specs.Account.{command_of}
use Rattle.amqp_engine.specs.Making.{Reaches}

pub or-true : (a : Bool) → (a || true) ≡ true
or-true true = refl
or-true false = refl

-- what is allowed after one part more may be done before it
pub is_before-Reaches : (cut : Option ℕ) (n : ℕ) → Reaches cut (n + 1) → is_before cut n ≡ true
is_before-Reaches None n h = refl
is_before-Reaches (Some j) n h = grind (arith, nat_tests)

pub Reaches-less : (cut : Option ℕ) (m n : ℕ) → m ≤ n → Reaches cut n → Reaches cut m
Reaches-less None m n le h = tt
Reaches-less (Some j) m n le h = omega arith

-- counts are between these
pub rose-between : (a b c d : ℕ) → a ≤ b → c ≤ d → Rose b c → Rose a d
rose-between a b c d h k r = omega arith

-- a turn is cut at its own number of parts
pub is_before-cut : (n : ℕ) → is_before (Some n) n ≡ false
is_before-cut n = grind (arith, nat_tests)

pub none-unsent : (a b c : Bool) (n : ℕ) → n ≡ 0 → IsFalse (a && (b && (c && nat_lt 0 n)))
none-unsent true true true n h = grind (arith, nat_tests)
none-unsent true true false n h = search rules
none-unsent true false c n h = search rules
none-unsent false b c n h = search rules

pub some-unsent : (a b c : Bool) (n : ℕ) → IsTrue (a && (b && (c && nat_lt 0 n))) → 0 < n
some-unsent true true true n h = grind (arith, nat_tests)
some-unsent true true false n h = cc
some-unsent true false c n h = cc
some-unsent false b c n h = cc

pub true-from : (b : Bool) → (b ≡ false → ⊥) → b ≡ true
true-from true h = refl
true-from false h = absurd (h refl)

pub from-not-false : (b : Bool) → not b ≡ false → b ≡ true
from-not-false true h = refl
from-not-false false h = cc

-- a step that is no part tells nothing
pub no-command : (step : Step) (e : Engine) → is_part step e ≡ false → command_of step ≡ []
no-command (Command c) e h = absurd cc
no-command Linked e h = refl
no-command LinkFailed e h = refl
no-command (Piece n) e h = refl
no-command End e h = refl
no-command Fault e h = refl
no-command Room e h = refl
no-command Tick e h = refl

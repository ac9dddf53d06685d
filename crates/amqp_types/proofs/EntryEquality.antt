-- The derived test of entries holds of equal ones alone.
use Rattle.std.proofs.Common.{◌≡◌, refl}
use Rattle.std.specs.Bool.{Decides}
use Rattle.amqp_types.specs.declared.value.Entry.{Entry}
use Rattle.amqp_types.specs.contracts.value.EntryPartialEq.TheImpl as entry_eq
use Rattle.amqp_types.proofs.EqualityTests.{Test, octets, last, next, through}
use Rattle.amqp_types.proofs.SameValues.{value_test}

abbrev entry_test : Test Entry
entry_test = through (λ (e : Entry). (e.name, (e.value, tt))) (λ p. record { name = p.0; value = p.1.0 }) (λ e. refl) (next octets (last value_test))

pub Entry_decides : (x y : Entry) → Decides (entry_eq.ghosts.eq x y) (x ≡ y)
Entry_decides = entry_test.tells

-- Two `AMQPValue`s of one field value are equal.
use Rattle.std.specs.Prelude.{◌≡◌, ℕ, List, refl}
use Rattle.std.specs.Bool.{Decides}
use mathlib.Core.Path.{sym, ap, ◌∙◌}
use Rattle.amqp_types.specs.Value.{FieldValue, scalar, array, table, list_of, pairs_of}
use Rattle.amqp_types.specs.Value as spec
use Rattle.amqp_types.specs.Equality.{same_value, same_list, same_table}
use Rattle.amqp_types.specs.EqualityLaws.{value_decides, list_decides, table_decides, list_back, pairs_back}
use Rattle.amqp_types.proofs.EqualityTests.{Test}
use Rattle.amqp_types.specs.declared.value.AMQPValue.{AMQPValue}
use Rattle.amqp_types.specs.declared.value.AMQPValue.TheVariants.{Boolean, ShortShortInt, ShortShortUInt, ShortInt, ShortUInt, LongInt, LongUInt, LongLongInt, Float, Double, DecimalValue, LongString, ByteArray, FieldArray, FieldTable, Timestamp, Void}
use Rattle.amqp_types.specs.View.{value_of}

from_value : FieldValue → AMQPValue
from_value (scalar (spec.boolean b)) = Boolean b
from_value (scalar (spec.short_short_int n)) = ShortShortInt n
from_value (scalar (spec.short_short_uint n)) = ShortShortUInt n
from_value (scalar (spec.short_int n)) = ShortInt n
from_value (scalar (spec.short_uint n)) = ShortUInt n
from_value (scalar (spec.long_int n)) = LongInt n
from_value (scalar (spec.long_uint n)) = LongUInt n
from_value (scalar (spec.long_long_int n)) = LongLongInt n
from_value (scalar (spec.float b)) = Float b
from_value (scalar (spec.double b)) = Double b
from_value (scalar (spec.decimal s n)) = DecimalValue s n
from_value (scalar (spec.long_string b)) = LongString b
from_value (scalar (spec.byte_array b)) = ByteArray b
from_value (scalar (spec.timestamp n)) = Timestamp n
from_value (scalar spec.void) = Void
from_value (array vs) = FieldArray (list_of vs)
from_value (table ps) = FieldTable (pairs_of ps)

from_value-value_of : (v : AMQPValue) → from_value (value_of v) ≡ v
unfolding from_value
from_value-value_of (Boolean b) = refl
from_value-value_of (ShortShortInt n) = refl
from_value-value_of (ShortShortUInt n) = refl
from_value-value_of (ShortInt n) = refl
from_value-value_of (ShortUInt n) = refl
from_value-value_of (LongInt n) = refl
from_value-value_of (LongUInt n) = refl
from_value-value_of (LongLongInt n) = refl
from_value-value_of (Float b) = refl
from_value-value_of (Double b) = refl
from_value-value_of (DecimalValue s n) = refl
from_value-value_of (LongString b) = refl
from_value-value_of (ByteArray b) = refl
from_value-value_of (FieldArray vs) = ap FieldArray (list_back vs)
from_value-value_of (FieldTable ps) = ap FieldTable (pairs_back ps)
from_value-value_of (Timestamp n) = refl
from_value-value_of Void = refl

pub same_AMQPValue : (x y : AMQPValue) → value_of x ≡ value_of y → x ≡ y
same_AMQPValue x y e = sym (from_value-value_of x) ∙ ap from_value e ∙ from_value-value_of y

pub AMQPValue_decides : (x y : AMQPValue) → Decides (same_value (value_of x) (value_of y)) (x ≡ y)
AMQPValue_decides x y = (λ h. same_AMQPValue x y ((value_decides (value_of x) (value_of y)).0 h), λ e. (value_decides (value_of x) (value_of y)).1 (ap value_of e))

-- the tests, for an enum or a struct with such fields
abbrev pub value_test : Test AMQPValue
value_test = record { same = λ x y. same_value (value_of x) (value_of y); tells = AMQPValue_decides }

abbrev pub array_test : Test (List FieldValue)
array_test = record { same = same_list; tells = list_decides }

abbrev pub table_test : Test (List (List ℕ × FieldValue))
table_test = record { same = same_table; tells = table_decides }

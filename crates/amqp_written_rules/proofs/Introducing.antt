-- What a client says of itself can be written, where its user's properties can.
use Rattle.std.proofs.Common.{◌≡◌, ◌≤◌, ◌<◌, ◌^◌, ℕ, List, [], ◌∷◌, length, refl, arith}
use Rattle.std.specs.Prelude.{codes}
use Rattle.std.specs.List.{AllByRecursion}
use Rattle.std.specs.declared.cmp.Ordering.{Ordering}
use Rattle.std.specs.declared.cmp.Ordering.TheVariants.{Less, Equal, Greater}
use Rattle.std.specs.Ordering.{match_ordering}
use Rattle.amqp_types.specs.Value.{FieldValue, Pair, table, pairs_from}
use Rattle.amqp_types.specs.Table.{name_cmp, IsInOrder, put}
use Rattle.amqp_types.proofs.Tables.{put_in_order}
use Rattle.amqp_types.proofs.Small.{if_case}
use Rattle.amqp_frame.specs.Rules.{KeepsValue, KeepsPairs, KeepsTable, value_depth, pairs_depth}
use Rattle.amqp_settings.specs.Config.{text_value}
use Rattle.amqp_settings.specs.Handshake.{capabilities, names_client, with_product, client_properties}

-- a property has a short name, and a value that can be written and holds no table in another
abbrev pub IsProperty : Pair → Type 0
IsProperty p = (length p.0 < 2 ^ 8) × KeepsValue p.1 × (value_depth p.1 ≤ 1)

abbrev pub AreProperties : List Pair → Type 0
AreProperties own = IsInOrder own × AllByRecursion IsProperty own

put-each : (own : List Pair) (name : List ℕ) (v : FieldValue) → AllByRecursion IsProperty own → length name < 2 ^ 8 → KeepsValue v → value_depth v ≤ 1
    → AllByRecursion IsProperty (put own name v)
put-each [] name v h short keeps flat = ((short, keeps, flat), tt)
put-each (p ∷ own) name v h short keeps flat = by (name_cmp name p.0) (put-each own name v h.1 short keeps flat) where
  by : (o : Ordering) → AllByRecursion IsProperty (put own name v) → AllByRecursion IsProperty (match_ordering o ((name, v) ∷ p ∷ own) ((p.0, v) ∷ own) (p ∷ put own name v))
  by Less rest = ((short, keeps, flat), h)
  by Equal rest = ((h.0.0, keeps, flat), h.1)
  by Greater rest = (h.0, rest)

-- a property more
pub put-property : (own : List Pair) (name : List ℕ) (v : FieldValue) → AreProperties own → length name < 2 ^ 8 → KeepsValue v → value_depth v ≤ 1
    → AreProperties (put own name v)
put-property own name v h short keeps flat = (put_in_order own name v h.0, put-each own name v h.1 short keeps flat)

-- with a text for its value
pub put-text : (own : List Pair) (name text : List ℕ) → AreProperties own → length name < 2 ^ 8 → AreProperties (put own name (text_value text))
put-text own name text h short = put-property own name (text_value text) h short tt (omega arith)

-- ---- what the client says of itself

with-product : (own : List Pair) → AreProperties own → AreProperties (with_product own)
with-product own h =
    if_case AreProperties (names_client own) own (put (put own (codes "product") (text_value (codes "lapin"))) (codes "version") (text_value (codes "4.4.0"))) h
    (put-text (put own (codes "product") (text_value (codes "lapin"))) (codes "version") (codes "4.4.0") (put-text own (codes "product") (codes "lapin") h (omega arith)) (omega arith))

capabilities-keep : KeepsValue (table (pairs_from capabilities))
capabilities-keep = (
  (refl, (refl, (refl, (refl, (refl, (refl, (refl, (refl, (tt, tt))))))))),
  (omega arith, tt, (omega arith, tt, (omega arith, tt, (omega arith, tt, (omega arith, tt, (omega arith, tt, (omega arith, tt, (omega arith, tt, (omega arith, tt, tt))))))))),
)

all-properties : (own : List Pair) → AllByRecursion IsProperty own → KeepsPairs (pairs_from own) × (pairs_depth (pairs_from own) ≤ 1)
all-properties [] h = (tt, omega arith)
all-properties (p ∷ own) h =
    let rest = all-properties own h.1 in
    let flat = h.0.2 in
    let later = rest.1 in
    ((h.0.0, h.0.1, rest.0), omega (arith, flat, later))

pub properties-said : (own : List Pair) → AreProperties own → KeepsTable (client_properties own)
properties-said own h =
    let platform : List Pair = put (with_product own) (codes "platform") (text_value (codes "rust")) in
    let all : AreProperties (client_properties own) =
    put-property platform (codes "capabilities") (table (pairs_from capabilities)) (put-text (with_product own) (codes "platform") (codes "rust") (with-product own h) (omega arith)) (omega arith)
    capabilities-keep (omega arith) in
    let each = all-properties (client_properties own) all.1 in
    let flat = each.1 in
    (all.0, each.0, omega (arith, flat))

-- That a query which is read pair by pair is read as a whole.
use Rattle.std.proofs.Common.{◌≡◌, List, [], ◌∷◌, refl, sym, ap, ◌∙◌}
use Rattle.std.specs.Prelude.{Option, None, Some, Result, Ok, Err, IfErr, ◌⊎◌}
use Rattle.std.specs.Result.{IsErrAnd}
use Rattle.std.proofs.Common.{inl, inr}
use Rattle.std.specs.Option.{option_or}
use Rattle.amqp_uri.specs.declared.fault.UriFault.{UriFault}
use Rattle.amqp_uri.specs.declared.query.AMQPQuery.{AMQPQuery}
use Rattle.amqp_uri.specs.Query.{QueryPair, pair_frame_max, pair_channel_max, pair_heartbeat, pair_mechanism, refusal_of, first_of, last_of, wishes_of, unless}
use Rattle.amqp_uri.specs.Parts.{onto, with_pair}

-- no wish
abbrev pub nothing : AMQPQuery
nothing = record { frame_max = None; channel_max = None; heartbeat = None; auth_mechanism = None }

-- what follows a query that was read, unless it was refused
abbrev pub and_on : Result AMQPQuery UriFault → (AMQPQuery → Result AMQPQuery UriFault) → Result AMQPQuery UriFault
and_on (Ok query) next = next query
and_on (Err fault) next = Err fault

-- the query after these pairs, one by one, up to the first that is refused
abbrev pub read_from : AMQPQuery → List QueryPair → Result AMQPQuery UriFault
read_from query [] = Ok query
read_from query (pair ∷ pairs) = and_on (with_pair query pair) (λ read. read_from read pairs)

-- what pairs wish, over what was wished before
abbrev over : AMQPQuery → List QueryPair → AMQPQuery
over query pairs = record {
  frame_max = option_or (last_of pair_frame_max pairs) query.frame_max;
  channel_max = option_or (last_of pair_channel_max pairs) query.channel_max;
  heartbeat = option_or (last_of pair_heartbeat pairs) query.heartbeat;
  auth_mechanism = option_or (last_of pair_mechanism pairs) query.auth_mechanism;
}

or_assoc : {A : Type 0} (a b c : Option A) → option_or a (option_or b c) ≡ option_or (option_or a b) c
or_assoc None b c = refl
or_assoc (Some x) b c = refl

or_none : {A : Type 0} (a : Option A) → option_or a None ≡ a
or_none None = refl
or_none (Some x) = refl

over-onto : (query : AMQPQuery) (pair : QueryPair) (pairs : List QueryPair) → over (onto query pair) pairs ≡ over query (pair ∷ pairs)
over-onto query pair pairs =
    rw (
      or_assoc (last_of pair_frame_max pairs) (pair_frame_max pair) query.frame_max,
      or_assoc (last_of pair_channel_max pairs) (pair_channel_max pair) query.channel_max,
      or_assoc (last_of pair_heartbeat pairs) (pair_heartbeat pair) query.heartbeat,
      or_assoc (last_of pair_mechanism pairs) (pair_mechanism pair) query.auth_mechanism,
    ) refl

over-nothing : (pairs : List QueryPair) → over nothing pairs ≡ wishes_of pairs
over-nothing pairs =
    rw (
      or_none (last_of pair_frame_max pairs),
      or_none (last_of pair_channel_max pairs),
      or_none (last_of pair_heartbeat pairs),
      or_none (last_of pair_mechanism pairs),
    ) refl

one_more : (refusal : Option UriFault) (query : AMQPQuery) (pair : QueryPair) (pairs : List QueryPair)
    → read_from (onto query pair) pairs ≡ unless (first_of refusal_of pairs) (over (onto query pair) pairs)
    → and_on (unless refusal (onto query pair)) (λ read. read_from read pairs)
    ≡ unless (option_or refusal (first_of refusal_of pairs)) (over query (pair ∷ pairs))
one_more (Some fault) query pair pairs later = refl
one_more None query pair pairs later = later ∙ ap (unless (first_of refusal_of pairs)) (over-onto query pair pairs)

read_from-all : (query : AMQPQuery) (pairs : List QueryPair)
    → read_from query pairs ≡ unless (first_of refusal_of pairs) (over query pairs)
read_from-all query [] = refl
read_from-all query (pair ∷ pairs) =
    one_more (refusal_of pair) query pair pairs (read_from-all (onto query pair) pairs)

-- pairs that are read one by one wish what they wish all together
pub read_from-nothing : (pairs : List QueryPair) → read_from nothing pairs ≡ unless (first_of refusal_of pairs) (wishes_of pairs)
read_from-nothing pairs = read_from-all nothing pairs ∙ ap (unless (first_of refusal_of pairs)) (over-nothing pairs)

-- a pair that is refused, after pairs that were not, refuses the query
pub refused : (query : AMQPQuery) (pair : QueryPair) (pairs all : List QueryPair) (fault : UriFault)
    → read_from query (pair ∷ pairs) ≡ read_from nothing all → with_pair query pair ≡ Err fault
    → unless (first_of refusal_of all) (wishes_of all) ≡ Err fault
refused query pair pairs all fault same is =
    sym (read_from-nothing all) ∙ sym same ∙ ap (λ read. and_on read (λ more. read_from more pairs)) is

-- the same where something else may have gone wrong
pub refused_or : {Other : Type 0} (query : AMQPQuery) (pair : QueryPair) (pairs all : List QueryPair) (fault : UriFault)
    → read_from query (pair ∷ pairs) ≡ read_from nothing all → Other ⊎ (with_pair query pair ≡ Err fault)
    → Other ⊎ (unless (first_of refusal_of all) (wishes_of all) ≡ Err fault)
refused_or query pair pairs all fault same (inl other) = inl other
refused_or query pair pairs all fault same (inr is) = inr (refused query pair pairs all fault same is)

-- what holds of an error that is passed on
pub passed_on : {T E : Type 0} {P Q : E → Type 0} (r : Result T E) → IsErrAnd r P → ((e : E) → P e → Q e) → IfErr r Q
passed_on (Ok x) is more = tt
passed_on (Err e) is more = more e is

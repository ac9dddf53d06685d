use Rattle.std.proofs.Common.{◌≡◌, map, option_copied}
use Rattle.form_urlencoded.specs.Parse.{raw_pairs_left}
use Rattle.amqp_uri.specs.Query.{decoded_pair, query_pairs}
use Rattle.amqp_uri.proofs.PairByPair.{nothing, read_from}
use Rattle.amqp_uri.proofs.query.AMQPQuery.read.Given as goal

abbrev pub invariant-loop-name : goal.invariant-loop-name
invariant-loop-name l =
    read_from l.read (map decoded_pair (raw_pairs_left l.name-iterator))
    ≡ read_from nothing (query_pairs (option_copied l.query))

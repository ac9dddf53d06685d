use Rattle.std.proofs.Common.{◌≡◌, ◌⊎◌, Err, option_copied, sym, subst, map, ap, ◌∙◌}
use Rattle.form_urlencoded.specs.Parse.{raw_pairs_left}
use Rattle.amqp_uri.specs.declared.fault.UriFault.TheVariants as fault
use Rattle.amqp_uri.specs.Decoding.{decoded}
use Rattle.amqp_uri.specs.Query.{QueryPair, query_of, query_pairs, decoded_pair}
use Rattle.amqp_uri.proofs.PairByPair.{read_from, read_from-nothing, refused_or, passed_on}
use Rattle.amqp_uri.proofs.query.AMQPQuery.read.Goals as goal

pub returns-in_err-read-clause-fault : goal.returns-in_err-read-clause-fault
returns-in_err-read-clause-fault c =
    let query = option_copied c.args.query in
    let left = ap (λ pairs. read_from c.loop-name.read (map decoded_pair pairs)) c.in-Some.ensures.steps in
    let pair : QueryPair = (decoded c.in-Some.name.now, decoded c.in-Some.value.now) in
    let told = refused_or c.loop-name.read pair (map decoded_pair (raw_pairs_left c.next.new.self)) (query_pairs query)
    c.in_err-read.field-0.0 (sym left ∙ c.loop-name.invariant) c.in_err-read.ensures.fault in
    passed_on c.from_residual.result c.from_residual.ensures.1
    (λ e same. subst (λ e. (e ≡ fault.NoMemory) ⊎ (query_of query ≡ Err e)) (sym same) told)

pub returns-clause-ok : goal.returns-clause-ok
returns-clause-ok c =
    let left = ap (λ pairs. read_from c.loop-name.read (map decoded_pair pairs)) c.in-None.ensures.steps.0 in
    sym (read_from-nothing (query_pairs (option_copied c.args.query))) ∙ sym c.loop-name.invariant ∙ left

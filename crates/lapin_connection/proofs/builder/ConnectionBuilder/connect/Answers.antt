use Rattle.std.proofs.Common.{ℕ, sym, subst, Err, Result}
use Rattle.amqp_promise.specs.declared.error.ErrorKind.{ErrorKind}
use Rattle.amqp_uri.specs.declared.uri.AMQPUri.{AMQPUri}
use Rattle.lapin_connection.specs.declared.builder.Address.{Address}
use Rattle.lapin_connection.specs.Building.{ReadsAs, Builds}
use Rattle.lapin_connection.specs.declared.connection.Connection.{Connection}
use Rattle.lapin_connection.proofs.Refusing.{refused-builds}
use Rattle.lapin_connection.proofs.builder.ConnectionBuilder.connect.Goals as goal

pub returns-in-Err-clause-refused : goal.returns-in-Err-clause-refused
returns-in-Err-clause-refused g c =
    let count : ℕ = g.S.Spawner.refusals c.args.self.now.runtime in
    let of_read : ReadsAs c.replace-address.result (Err c.in-Err.refused) = subst (λ (r : Result AMQPUri ErrorKind). ReadsAs c.replace-address.result r) c.in-Err.is c.read.ensures in
    let of_uri : ReadsAs c.args.self.now.uri (Err c.in-Err.refused) = subst (λ (a : Address). ReadsAs a (Err c.in-Err.refused)) c.replace-address.ensures.value of_read in
    subst (λ (e : ErrorKind). Builds {A = Connection} c.args.self.now.uri count count (Err e)) (sym c.into.ensures)
    (refused-builds Connection c.in-Err.refused count count c.args.self.now.uri of_uri)

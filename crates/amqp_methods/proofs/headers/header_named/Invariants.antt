-- What is left of the headers has the value that all of them have.
use Rattle.std.proofs.Common.{◌≡◌, ◌-◌, length, option_map}
use Rattle.amqp_methods.specs.Headers.{last_of_name, header_in}
use Rattle.amqp_methods.proofs.headers.header_named.Given as goal

abbrev pub invariant-pairs : goal.invariant-pairs
invariant-pairs l =
    last_of_name (length l.headers - l.counter) l.name (option_map (λ v. (v.0, v.1.now)) l.found) l.rest.bytes.now
    ≡ header_in l.name l.headers

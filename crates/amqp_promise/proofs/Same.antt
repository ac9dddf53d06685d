-- The derived test of kinds of errors holds of equal ones alone.
use Rattle.std.proofs.Common.{◌≡◌, refl}
use Rattle.std.specs.Bool.{Decides}
use Rattle.amqp_types.proofs.EqualityTests.{Test, number, octets, maybe, bare, no_field, last, next, enum_test, through}
use Rattle.amqp_types.specs.Codes.{NamedError}
use Rattle.amqp_types.specs.declared.version.ProtocolVersion.{ProtocolVersion}
use Rattle.amqp_types.specs.contracts.word.Word as word
use Rattle.amqp_promise.specs.declared.io_fault.IoFault.{IoFault}
use Rattle.amqp_promise.specs.declared.error.ErrorKind.{ErrorKind}
use Rattle.amqp_promise.specs.contracts.state.ConnectionState as connection_state
use Rattle.amqp_promise.specs.contracts.state.ChannelState as channel_state
use Rattle.amqp_promise.specs.contracts.io_fault.IoFault as fault
use Rattle.amqp_promise.specs.contracts.error.ErrorKind as kind
use Rattle.amqp_promise.specs.contracts.error.ErrorKindPartialEq.TheImpl as kind_eq

abbrev version_test : Test ProtocolVersion
version_test =
    through (λ (v : ProtocolVersion). (v.major, (v.minor, (v.revision, tt))))
    (λ p. record { major = p.0; minor = p.1.0; revision = p.1.1.0 }) (λ v. refl) (next number (next number (last number)))

abbrev named_test : Test NamedError
named_test =
    through (λ (e : NamedError). (e.code, (e.message, tt))) (λ p. record { code = p.0; message = p.1.0 }) (λ e. refl)
    (next number (last octets))

abbrev fault_test : Test IoFault
fault_test =
    enum_test fault.enum
    (no_field, (no_field, (no_field, (no_field, (no_field, (no_field, (last (bare word.the_type tt), tt)))))))

abbrev kind_test : Test ErrorKind
kind_test = enum_test kind.enum (
  no_field,
  (
    last version_test,
    (
      last number,
      (
        next (bare channel_state.the_type tt) (last (bare word.the_type tt)),
        (
          last (bare connection_state.the_type tt),
          (
            last fault_test,
            (
              last number,
              (
                last named_test,
                (
                  last number,
                  (
                    no_field,
                    (
                      no_field,
                      (next number (next number (last (maybe number))), (last number, (no_field, (last octets, tt)))),
                    ),
                  ),
                ),
              ),
            ),
          ),
        ),
      ),
    ),
  ),
)

pub ErrorKind_decides : (x y : ErrorKind) → Decides (kind_eq.ghosts.eq x y) (x ≡ y)
ErrorKind_decides = kind_test.tells

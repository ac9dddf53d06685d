-- What iterators over a context have left.
use Rattle.std.specs.Prelude.{ℕ, List}
use Rattle.std.specs.List.{enumerate_from}
use Rattle.amqp_ring.specs.Contexts.{context_bytes}
use Rattle.amqp_ring.specs.declared.elements.Elements.{Elements}
use Rattle.amqp_ring.specs.declared.indices.Indices.{Indices}

-- the bytes that are left
abbrev pub bytes_left : Elements → List ℕ
bytes_left it = context_bytes it.rest

-- the bytes that are left, each behind its place
abbrev pub pairs_left : Indices → List (ℕ × ℕ)
pairs_left it = enumerate_from it.place (context_bytes it.rest)

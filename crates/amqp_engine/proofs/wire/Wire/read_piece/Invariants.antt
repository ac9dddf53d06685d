-- What joined was read as far as it goes, and the rest of the piece is still to join.
use Rattle.std.proofs.Common.{◌≡◌, ◌+◌, ◌-◌, ◌*◌, ◌≤◌, if◌then◌else◌, ℕ, true, List, [], ◌++◌, Option, length, drop}
use Rattle.amqp_auth.specs.declared.asked.Asked.{Asked}
use Rattle.amqp_engine.specs.Engine.{can_read}
use Rattle.amqp_engine.specs.Turn.{reading}
use Rattle.amqp_engine.specs.Making.{making, keeps_unread, IsSettled, piece_joined, Reaches, Heard, Blames}
use Rattle.amqp_engine.proofs.wire.Wire.read_piece.Given as goal

abbrev pub invariant-parts : goal.invariant-parts
invariant-parts g l = record {
  heard : Heard (λ answers questions. (cut : Option ℕ) (more : List Asked) → Reaches cut l.parts
      → reading true (making l.at cut (answers ++ more) [] (piece_joined l.piece l.initial.self) 1)
      ≡ reading true (making l.at cut more questions (piece_joined (drop l.joined l.piece) l.self) l.parts))
      (g.A.AuthProvider.allows l.fn.provider) (g.A.AuthProvider.allows l.provider) l.fn.auths.list l.auths.list;
  can : g.A.AuthProvider.can l.provider;
  settled : IsSettled l.self;
  within : l.joined ≤ length l.piece;
  size : keeps_unread l.self.talk ≡ true → 8 * l.parts + length l.self.unread ≤ 8 + length l.initial.self.unread + l.joined;
  bound : 8 * l.parts ≤ 16 + length l.initial.self.unread + l.joined;
  some : 1 ≤ l.parts;
  starved : l.self.starved ≡ l.initial.self.starved;
  never_falls : g.A.AuthProvider.refusals l.fn.provider ≤ g.A.AuthProvider.refusals l.provider;
  blames : Blames l.fn.self.talk l.self.talk (g.A.AuthProvider.refusals l.fn.provider) (g.A.AuthProvider.refusals l.provider);
}

-- bytes join, but where the buffer is full of what can be read
abbrev pub decreases-parts : goal.decreases-parts
decreases-parts g l = (length l.piece - l.joined) + (if can_read l.self then 1 else 0)

-- Reading goes on from here as it did from the beginning, whatever is still to join and to be answered, and each part shortens what is unread.
use Rattle.std.proofs.Common.{◌≡◌, ◌+◌, ◌*◌, ◌≤◌, ℕ, true, List, ◌++◌, Option, length}
use Rattle.amqp_auth.specs.declared.asked.Question.{Question}
use Rattle.amqp_auth.specs.declared.asked.Asked.{Asked}
use Rattle.amqp_engine.specs.Turn.{reading}
use Rattle.amqp_engine.specs.Making.{making, keeps_unread, IsSettled, piece_joined, Reaches, Heard, Blames}
use Rattle.amqp_engine.proofs.wire.Wire.read_all.Given as goal

abbrev pub invariant-frames : goal.invariant-frames
invariant-frames g l = record {
  heard : Heard (λ answers questions. (rest : List ℕ) (cut : Option ℕ) (more : List Asked) (before : List Question) → Reaches cut l.parts
      → reading true (making l.at cut (answers ++ more) before (piece_joined rest l.fn.self) l.fn.parts)
      ≡ reading true (making l.at cut more (before ++ questions) (piece_joined rest l.self) l.parts))
      (g.A.AuthProvider.allows l.fn.provider) (g.A.AuthProvider.allows l.provider) l.fn.auths.list l.auths.list;
  can : g.A.AuthProvider.can l.provider;
  settled : IsSettled l.self;
  size : keeps_unread l.self.talk ≡ true → 8 * l.parts + length l.self.unread ≤ 8 * l.fn.parts + length l.fn.self.unread;
  bound : 8 * l.parts ≤ 8 * l.fn.parts + length l.fn.self.unread + 8;
  grows : l.fn.parts ≤ l.parts;
  starved : l.self.starved ≡ l.fn.self.starved;
  never_falls : g.A.AuthProvider.refusals l.fn.provider ≤ g.A.AuthProvider.refusals l.provider;
  blames : Blames l.fn.self.talk l.self.talk (g.A.AuthProvider.refusals l.fn.provider) (g.A.AuthProvider.refusals l.provider);
}

abbrev pub decreases-frames : goal.decreases-frames
decreases-frames g l = length l.self.unread

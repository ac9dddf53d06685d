use Rattle.std.proofs.Common.{ℕ, ◌≡◌, ◌+◌, ◌∙◌, List, length, ap, sym, subst}
use Rattle.amqp_rules.specs.Sound.{AscendFrom}
use Rattle.amqp_hub.proofs.Once.{once, gapless-ascends, gapless-length}
use Rattle.amqp_hub.proofs.laws.a_command_stands_once.Goals as goal

pub returns : goal.returns
returns g =
    record {
      once = λ pass low high journal same nth i j c d p q here there.
          let P : List ℕ → Type 0 = λ xs. AscendFrom low xs in
          once pass nth c d p q journal low i j (subst P (sym same) (gapless-ascends low high)) here there;
      all = λ pass low high journal same below. ap (λ (xs : List ℕ). low + length xs) same ∙ gapless-length low high below;
    }

use Rattle.std.proofs.Common.{◌≡◌, ◌∙◌, ◌≤◌, sym, ℕ, Bool, false, IsTrue, inl, inr, arith}
use Rattle.std.proofs.lemmas.Bool.{cases_eq}
use Rattle.amqp_channels.proofs.Drawing.{all-listed, none-drawn}
use Rattle.amqp_channels.proofs.channels.Channels.next_free.Goals as goal

not-zero : (n : ℕ) (allow_zero : Bool) → (n ≡ 0 → IsTrue allow_zero) → allow_zero ≡ false → 1 ≤ n
not-zero n allow_zero zero never =
    elim (cases_eq n 0) [
      | inl e ↦ let allowed = zero e in absurd cc
      | inr ne ↦ omega (arith, ne)
    ]

pub returns-clause-limit : goal.returns-clause-limit
returns-clause-limit c low =
    let top = c.args.channel_max in
    let first = c.next_up_to-first.result in
    let listed = c.args.self.now.listed in
    let positive : 1 ≤ first = not-zero first c.self.inside.sequence.allow_zero c.next_up_to-first.ensures.zero c.self.invariant.4 in (
      λ none. all-listed listed top first (sym c.draw.ensures.drawn ∙ none),
      λ all. c.draw.ensures.drawn ∙ none-drawn listed top first positive (c.next_up_to-first.ensures.within low) all,
    )

use Rattle.std.proofs.Common.{◌≡◌, ◌∙◌, ap, sym, length, arith, inl, inr}
use Rattle.std.proofs.lemmas.Bool.{cases_eq}
use Rattle.amqp_channels.specs.Channels.{Listing, opened_until}
use Rattle.amqp_channels.proofs.Openings.{until-last, until-none}
use Rattle.amqp_channels.proofs.channels.Channels.next_opening.Goals as goal

pub returns-in-Some-2 : goal.returns-in-Some-2
returns-in-Some-2 c =
    sym (until-last c.self.inside.openings.entries c.self.inside.listed.entries c.self.invariant.1 c.len.ensures.ordered
    c.in-Some.last.now _ c.in-Some.ensures.value c.in-Some.ensures.greatest)
    ∙ ap (λ (l : Listing). opened_until l.listed) c.self.view_is

pub returns-in-None : goal.returns-in-None
returns-in-None c =
    let openings = c.self.inside.openings.entries in
    let none : length openings ≡ 0 =
    elim (cases_eq (length openings) 0) [
      | inl e ↦ e
      | inr ne ↦ let some = c.in-None.ensures.variant.1 (omega (arith, ne)) in absurd cc
    ] in
    sym (until-none openings c.self.inside.listed.entries c.self.invariant.1 c.len.ensures.ordered none)
    ∙ ap (λ (l : Listing). opened_until l.listed) c.self.view_is

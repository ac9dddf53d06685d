use Rattle.std.proofs.Common.{rules, ap, sym, refl, ◌∙◌, ℕ, List}
use Rattle.std.proofs.lemmas.Map.Made.{map_same_pairs}
use Rattle.amqp_maps.specs.Listed.{has, map_values}
use Rattle.amqp_channels.specs.declared.channels.Channel.{Channel}
use Rattle.amqp_channels.specs.Channels.{Listing, made_closing, opened_until}
use Rattle.amqp_channels.specs.Stopped.{count_stopped}
use Rattle.amqp_channels.specs.Openings.{opener}
use Rattle.amqp_channels.proofs.Flowing.{stopped-closing}
use Rattle.amqp_maps.proofs.Maps.{has-map_values}
use Rattle.amqp_channels.proofs.Openings.{indexes-kept, opener-closing, until-closing}
use Rattle.amqp_channels.proofs.channels.Channels.close_all.Goals as goal

pub returns-clause-all : goal.returns-clause-all
returns-clause-all c =
    let as_listing : List (ℕ × Channel) → Listing = λ es. record { listed = es; cursor = c.self.inside.sequence.cursor } in
    ap as_listing (map_same_pairs _ made_closing _ (λ k v b w f' t. search rules) _ _ c.retain.ensures.filtered)
    ∙ ap (λ (l : Listing). record l { listed = map_values made_closing l.listed }) c.self.view_is

pub returns-clause-until : goal.returns-clause-until
returns-clause-until c =
    ap opened_until (map_same_pairs _ made_closing _ (λ k v b w f' t. search rules) _ _ c.retain.ensures.filtered)
    ∙ until-closing c.self.inside.listed.entries
    ∙ ap (λ (l : Listing). opened_until l.listed) c.self.view_is

pub invariant_of-self : goal.invariant_of-self
invariant_of-self c =
    let listed = c.self.inside.listed.entries in (
      λ n. c.self.invariant.0 n
          ∙ sym (has-map_values n made_closing listed)
          ∙ ap (has n) (sym (map_same_pairs _ made_closing _ (λ k v b w f' t. search rules) _ _ c.retain.ensures.filtered)),
      indexes-kept c.self.inside.openings.entries c.self.inside.openings.entries listed _ c.self.invariant.1 (λ q. refl)
          (λ n. ap (opener n) (map_same_pairs _ made_closing _ (λ k v b w f' t. search rules) _ _ c.retain.ensures.filtered) ∙ opener-closing listed n),
      c.self.invariant.2,
      c.self.invariant.3
          ∙ sym (stopped-closing listed)
          ∙ ap count_stopped (sym (map_same_pairs _ made_closing _ (λ k v b w f' t. search rules) _ _ c.retain.ensures.filtered)),
      c.self.invariant.4,
    )

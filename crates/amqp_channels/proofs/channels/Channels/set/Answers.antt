use Rattle.std.proofs.Common.{◌≡◌, ◌∙◌, ◌<◌, ◌≤◌, ap, sym, refl, Some, option_map, arith}
use Rattle.amqp_channels.specs.declared.channels.Channel.{Channel}
use Rattle.amqp_maps.specs.Listed.{at, put}
use Rattle.amqp_channels.specs.Channels.{Listing, opened_until}
use Rattle.amqp_channels.specs.Stopped.{count_stopped}
use Rattle.amqp_channels.specs.Openings.{opener}
use Rattle.amqp_channels.proofs.Flowing.{stopped-changed, stopped-without, stopped-within, at-most-one}
use Rattle.amqp_channels.proofs.Openings.{has-changed, opener-changed, indexes-kept, opener-before, until-put}
use Rattle.amqp_channels.proofs.channels.Channels.set.Goals as goal

pub overflow_sub-self : goal.overflow_sub-self
overflow_sub-self c =
    let es = c.self.inside.listed.entries in
    let told : at c.args.id es ≡ c.in-Ok-Some.field-0 = sym c.in-Ok-Some.ensures.old in
    let held : c.in-Ok-Some.field-0 ≡ Some c.in-Ok-Some.former = let is = c.in-Ok-Some.field-0-is in cc in
    let gone = stopped-without c.args.id es c.in-Ok-Some.former (told ∙ held) in
    omega (arith, c.stops.ensures, c.self.invariant.3, gone)

pub overflow_add-self : goal.overflow_add-self
overflow_add-self c =
    let within = stopped-within c.self.inside.listed.entries in
    let one = at-most-one c.args.channel in
    omega (arith, c.stops-in-Ok-Some.ensures, c.self.invariant.3, within, one, c.len.ensures.len, c.len.ensures.small)

pub invariant_of-self : goal.invariant_of-self
invariant_of-self c =
    let es = c.self.inside.listed.entries in
    let new = c.insert.new.self.entries in
    let id = c.args.id in
    let channel = c.args.channel in
    let former = c.in-Ok-Some.former in
    let openings = c.self.inside.openings.entries in
    let told : at id es ≡ c.in-Ok-Some.field-0 = sym c.in-Ok-Some.ensures.old in
    let held : c.in-Ok-Some.field-0 ≡ Some former = let is = c.in-Ok-Some.field-0-is in cc in
    let had : at id es ≡ Some former = told ∙ held in
    let update = c.in-Ok-Some.ensures.updates.0 in
    let opened : opener id es ≡ Some channel.opened = ap (λ (l : Listing). opener id l.listed) c.self.view_is ∙ c.requires in
    let before : opener id es ≡ Some former.opened = ap (option_map (λ (y : Channel). y.opened)) had in
    let same : channel.opened ≡ former.opened = cc in
    let gone = stopped-without id es former had in
    let changed = stopped-changed id es channel c.insert.ensures.was_ordered former had in
    let is : count_stopped new ≡ count_stopped (put id channel es) = ap count_stopped c.in-Ok-Some.ensures.entries in (
      λ n. c.self.invariant.0 n ∙ sym (has-changed es new id channel former had update n),
      indexes-kept openings openings es new c.self.invariant.1 (λ q. refl) (opener-changed es new id channel former had update same),
      c.self.invariant.2,
      omega (arith, c.stops.ensures, c.stops-in-Ok-Some.ensures, c.self.invariant.3, gone, changed, is),
      c.self.invariant.4,
    )

pub returns-in-Ok-Some-clause-until : goal.returns-in-Ok-Some-clause-until
returns-in-Ok-Some-clause-until c =
    let es = c.self.inside.listed.entries in
    let id = c.args.id in
    let channel = c.args.channel in
    let had : opener id es ≡ Some channel.opened = ap (λ (l : Listing). opener id l.listed) c.self.view_is ∙ c.requires in
    let before : channel.opened < opened_until es = opener-before id channel.opened es had in
    let until : opened_until (put id channel es) ≤ opened_until es = until-put id channel (opened_until es) es (omega (arith, before)) (omega arith) in
    let new : opened_until c.insert.new.self.entries ≡ opened_until (put id channel es) = ap opened_until c.in-Ok-Some.ensures.entries in
    let old : opened_until es ≡ opened_until c.args.self.now.listed = ap (λ (l : Listing). opened_until l.listed) c.self.view_is in
    omega (arith, new, until, old)

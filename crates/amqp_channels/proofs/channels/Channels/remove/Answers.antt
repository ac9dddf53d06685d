use Rattle.std.proofs.Common.{◌≡◌, ap, sym, None, arith}
use Rattle.amqp_maps.specs.Listed.{without}
use Rattle.amqp_channels.specs.Channels.{Listing, opened_until}
use Rattle.amqp_channels.specs.Stopped.{count_stopped}
use Rattle.amqp_channels.proofs.Flowing.{stopped-without}
use Rattle.amqp_channels.proofs.Openings.{members-changed, indexes-removed, until-without}
use Rattle.amqp_channels.proofs.channels.Channels.remove.Goals as goal

pub returns-in-Some-clause-until : goal.returns-in-Some-clause-until
returns-in-Some-clause-until c =
    let es = c.self.inside.listed.entries in
    let is : opened_until c.remove-2.new.self.entries ≡ opened_until (without c.args.id es) = ap opened_until c.remove-2.ensures.entries in
    let less = until-without c.args.id es in
    let old : opened_until es ≡ opened_until c.args.self.now.listed = ap (λ (l : Listing). opened_until l.listed) c.self.view_is in
    omega (arith, is, less, old)

pub overflow_sub-self : goal.overflow_sub-self
overflow_sub-self c =
    let gone = stopped-without c.args.id c.self.inside.listed.entries c.in-Some.channel (sym c.in-Some.ensures.value) in
    omega (arith, c.stops.ensures, c.self.invariant.3, gone)

pub invariant_of-self : goal.invariant_of-self
invariant_of-self c =
    let openings = c.self.inside.openings.entries in
    let listed = c.self.inside.listed.entries in
    let left = c.remove-2.new.self.entries in (
      members-changed c.self.inside.numbers c.remove.new.self c.args.id c.remove.ensures.others listed left None c.self.invariant.0 c.remove.ensures.gone c.remove-2.ensures.updates.0,
      indexes-removed openings c.remove-in-Some.new.self.entries listed left c.args.id c.in-Some.channel c.self.invariant.1 (sym c.in-Some.ensures.value)
          c.remove-in-Some.ensures.updates.0 c.remove-2.ensures.updates.0,
      λ n low high. absurd (omega (arith, low, high)),
      omega (arith, c.stops.ensures, c.self.invariant.3, stopped-without c.args.id listed c.in-Some.channel (sym c.in-Some.ensures.value), ap count_stopped c.remove-2.ensures.entries),
      c.self.invariant.4,
    )

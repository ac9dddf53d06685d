use Rattle.std.proofs.Common.{◌≡◌, ◌∙◌, ◌≢◌, ◌≤◌, ◌+◌, ap, sym, ℕ, None, Some, arith}
use Rattle.amqp_maps.specs.Listed.{at, put, has}
use Rattle.amqp_channels.specs.Channels.{Listing, opened_until}
use Rattle.amqp_channels.specs.Stopped.{count_stopped}
use Rattle.amqp_channels.specs.NumberSet.{is_member}
use Rattle.amqp_channels.specs.Openings.{opener}
use Rattle.amqp_channels.proofs.Flowing.{stopped-listed, stopped-within, at-most-one}
use Rattle.amqp_channels.proofs.Openings.{members-changed, up-to-more, indexes-kept, indexes-listed, undone, unopened, until-put}
use Rattle.amqp_channels.proofs.channels.Channels.list.Goals as goal

pub invariant_of-self-in-Err : goal.invariant_of-self-in-Err
invariant_of-self-in-Err c =
    let openings = c.self.inside.openings.entries in
    let listed = c.self.inside.listed.entries in
    let opened = c.args.channel.opened in
    let same : c.insert-2.new.self.entries ≡ listed = c.in-Err.ensures.err in
    let until : opened_until listed ≡ opened_until c.args.self.now.listed = ap (λ (l : Listing). opened_until l.listed) c.self.view_is in
    let none : at opened openings ≡ None = unopened opened openings listed c.self.invariant.1 (omega (arith, until, c.requires.later)) in (
      λ n. c.in_ok-reserve.ensures.members n ∙ c.self.invariant.0 n ∙ sym (ap (has n) same),
      indexes-kept openings c.remove.new.self.entries listed c.insert-2.new.self.entries c.self.invariant.1
          (undone opened c.args.id openings c.insert.new.self.entries c.remove.new.self.entries none c.in_ok-insert.ensures.updates.0 c.remove.ensures.updates.0)
          (λ n. ap (opener n) same),
      λ n low high. c.in_ok-reserve.ensures.members n ∙ c.self.invariant.2 n low high,
      c.self.invariant.3 ∙ ap count_stopped (sym same),
      c.self.invariant.4,
    )

pub overflow_add-self : goal.overflow_add-self
overflow_add-self c =
    let within = stopped-within c.self.inside.listed.entries in
    let one = at-most-one c.args.channel in
    omega (arith, c.stops.ensures, c.self.invariant.3, within, one, c.len.ensures.len, c.len.ensures.small)

pub invariant_of-self-2 : goal.invariant_of-self-2
invariant_of-self-2 c =
    let openings = c.self.inside.openings.entries in
    let listed = c.self.inside.listed.entries in
    let words = c.self.inside.numbers in
    let id = c.args.id in
    let channel = c.args.channel in
    let until : opened_until listed ≡ opened_until c.args.self.now.listed = ap (λ (l : Listing). opened_until l.listed) c.self.view_is in
    let none : at channel.opened openings ≡ None = unopened channel.opened openings listed c.self.invariant.1 (omega (arith, until, c.requires.later)) in
    let unlisted : at id listed ≡ None = ap (λ (l : Listing). at id l.listed) c.self.view_is ∙ c.requires.unlisted in
    let others : (m : ℕ) → m ≢ id → is_member c.insert-3.new.self m ≡ is_member words m = λ m ne. c.insert-3.ensures.others m ne ∙ c.in_ok-reserve.ensures.members m in (
      members-changed words c.insert-3.new.self id others listed c.insert-2.new.self.entries (Some channel) c.self.invariant.0 c.insert-3.ensures.added c.in_default.ensures.updates.0,
      indexes-listed openings c.insert.new.self.entries listed c.insert-2.new.self.entries id channel c.self.invariant.1 none unlisted c.in_ok-insert.ensures.updates.0 c.in_default.ensures.updates.0,
      up-to-more words c.insert-3.new.self id others c.self.inside.full c.insert-3.ensures.added c.self.invariant.2,
      omega (arith, c.stops.ensures, c.self.invariant.3, stopped-listed id listed channel c.len.ensures.ordered unlisted, ap count_stopped c.in_default.ensures.entries),
      c.self.invariant.4,
    )

pub returns-clause-until : goal.returns-clause-until
returns-clause-until c =
    let listed = c.self.inside.listed.entries in
    let channel = c.args.channel in
    let until : opened_until listed ≡ opened_until c.args.self.now.listed = ap (λ (l : Listing). opened_until l.listed) c.self.view_is in
    let more : opened_until (put c.args.id channel listed) ≤ channel.opened + 1 =
    until-put c.args.id channel (channel.opened + 1) listed (omega arith) (omega (arith, until, c.requires.later)) in
    let is : opened_until c.insert-2.new.self.entries ≡ opened_until (put c.args.id channel listed) = ap opened_until c.in_default.ensures.entries in
    omega (arith, more, is)

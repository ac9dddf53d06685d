use Rattle.std.proofs.Common.{◌≡◌, ◌∙◌, ap, sym, subst, ℕ, true, false, List, None, arith}
use Rattle.amqp_outbox.specs.Listed.{Ascends}
use Rattle.amqp_outbox.specs.Queued.{Queued}
use Rattle.amqp_outgoing.specs.Outgoings.{queue_of}
use Rattle.amqp_session.specs.contracts.session.Session.{the_view}
use Rattle.amqp_outgoing.specs.declared.committed.Mark.{Mark}
use Rattle.amqp_answers.specs.declared.event.Event.TheVariants as event
use Rattle.amqp_answers.specs.Events.{Noted, event_noted}
use Rattle.amqp_answers.specs.Seen.{noted_in}
use Rattle.amqp_rules.specs.Talk.{Talk}
use Rattle.amqp_channels.specs.Channels.{Listing}
use Rattle.amqp_rules.specs.ConnectionMethods.{connected, on_open_ok}
use Rattle.amqp_channels.specs.InOrder.{numbers_after}
use Rattle.amqp_session.specs.Reopening.{reopened_each}
use Rattle.amqp_outgoing.specs.Marks.{left_in}
use Rattle.amqp_session.proofs.Made.{unheard-made}
use Rattle.amqp_rules.proofs.Keeping.{reopened-noted}
use Rattle.amqp_session.proofs.Reopening.{on-open-ok, none-opened}
use Rattle.amqp_session.proofs.session.Session.on_open_ok.Goals as goal

pub returns-in_err-reserve-clause-idle : goal.returns-in_err-reserve-clause-idle
returns-in_err-reserve-clause-idle c m =
    let t = c.args.self.now in
    let same = sym (ap (λ (n : Noted). n.events) (reopened-noted t.channels (connected t))) ∙ m.events in
    let unheard = unheard-made t.noted.listens event.Connected t.noted.events same in
    let taken : false ≡ true = c.in_err-reserve.ensures.idle (ap (λ (x : Talk). x.noted.listens) c.self.view_is ∙ unheard) in
    absurd cc

pub returns-in_err-reserve_reopening-clause-idle :
    goal.returns-in_err-reserve_reopening-clause-idle
returns-in_err-reserve_reopening-clause-idle c m =
    let t = c.args.self.now in
    let P : Talk → Type 0 = λ x. Ascends x.channels in
    let sorted : Ascends t.channels = subst P c.self.view_is c.in_err-reserve_reopening.ensures.ordered in
    let taken : false ≡ true =
    c.in_err-reserve_reopening.ensures.idle
    (ap (λ (x : Talk). numbers_after None x.configuration.channel_max x.channels) c.self.view_is ∙ none-opened t sorted m) in
    absurd cc

pub invariant_of-self-2 : goal.invariant_of-self-2
invariant_of-self-2 c =
    let left = ap left_in (c.reopen.ensures.marks ∙ c.in_ok-reserve_reopening.ensures.marks) in
    let until = c.remove_above.ensures.until in
    let made = c.self.invariant.5 in (
      omega (arith, left, c.self.invariant.0),
      c.self.invariant.1,
      c.self.invariant.2,
      c.self.invariant.3,
      c.self.invariant.4,
      omega (arith, until, made),
    )

pub returns-clause-ok : goal.returns-clause-ok
returns-clause-ok c =
    let t : Talk = the_view c.self.inside in
    let ns : List ℕ = numbers_after None t.configuration.channel_max t.channels in
    let said : queue_of c.reopen.new.outgoing ≡ reopened_each ns t.outbox =
    c.reopen.ensures.said ∙ ap (reopened_each ns) c.in_ok-reserve_reopening.ensures.same in
    let state : Queued → List Mark → Listing → Noted → Talk =
    λ q ms l n. record t { outbox = q; committed = ms; channels = l.listed; cursor = l.cursor; noted = n } in
    let told : noted_in c.note_reserved.new.self ≡ event_noted event.Connected t.noted =
    c.note_reserved.ensures ∙ ap (event_noted event.Connected) c.in_ok-reserve.ensures.same in
    c.connected.ensures
    ∙ ap (λ (x : Talk). record (connected x) { noted = x.noted })
    (λ i. state (said i) ((c.reopen.ensures.marks ∙ c.in_ok-reserve_reopening.ensures.marks) i) (c.remove_above.ensures.agreed i) (told i))
    ∙ sym (on-open-ok t c.in_ok-reserve_reopening.ensures.ordered)
    ∙ ap on_open_ok c.self.view_is

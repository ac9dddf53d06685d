-- The rules of links, of moments and of writing leave a session that says nothing else.
use Rattle.std.proofs.Common.{◌≡◌, ◌≤◌, ◌<◌, ℕ, ◌-◌, ◌==◌, ◌&&◌, not, nat_le, max, Bool, true, false, true≢false, if◌then◌else◌, List, [], ◌∷◌, ◌++◌, Option, Some, None, is_some, refl, sym, ◌∙◌, subst, arith}
use Rattle.std.specs.Prelude.{cond, drop}
use Rattle.std.specs.declared.cmp.Ordering.{Ordering}
use Rattle.std.specs.declared.cmp.Ordering.TheVariants.{Less, Equal, Greater}
use Rattle.std.specs.Ordering.{nat_cmp, is_eq, match_ordering, MatchOrdering}
use Rattle.std.specs.Cmp.{ranks}
use Rattle.std.specs.BTreeMap.{is_at}
use Rattle.amqp_frame.specs.declared.frame.Frame.{Frame}
use Rattle.amqp_outbox.specs.declared.item.Item.{Item}
use Rattle.amqp_outbox.specs.Items.{size_of}
use Rattle.amqp_outbox.specs.Queued as queued
use Rattle.amqp_outbox.specs.Queued.{Queued, after_next}
use Rattle.amqp_promise.specs.declared.error.ErrorKind.{ErrorKind}
use Rattle.amqp_promise.specs.declared.error.ErrorKind.TheVariants.{IOError, ProtocolError}
use Rattle.amqp_promise.specs.declared.io_fault.IoFault.{IoFault}
use Rattle.amqp_promise.specs.declared.io_fault.IoFault.TheVariants.{Refused}
use Rattle.amqp_channels.specs.declared.channels.Channel.{Channel}
use Rattle.amqp_channels.specs.declared.channels.Debt.TheVariants as debt
use Rattle.amqp_outgoing.specs.declared.committed.Mark.{Mark}
use Rattle.amqp_outgoing.specs.declared.committed.Then.{Then}
use Rattle.amqp_outgoing.specs.declared.committed.Then.TheVariants.{Nothing, Answer, Pays, Finish}
use Rattle.amqp_settings.specs.declared.configuration.Configuration.{Configuration}
use Rattle.amqp_violations.specs.declared.misread.Misread.{Misread}
use Rattle.amqp_violations.specs.declared.server_close.ServerClose.{ServerClose}
use Rattle.amqp_violations.specs.declared.server_close.ServerClose.TheVariants.{WithoutError, WithError}
use Rattle.amqp_maps.specs.Listed.{at, put, without}
use Rattle.amqp_settings.specs.Config.{Config}
use Rattle.amqp_rules.specs.Talk.{Talk, start, acts, is_open, is_asked, has_ended}
use Rattle.amqp_rules.specs.Changes.{present_at, tell_owed, fail, lose, close, finish, finish_by}
use Rattle.amqp_rules.specs.Recovery.{next_delay}
use Rattle.amqp_rules.specs.Links.{asked, linked, refused_after, link_failed, piece, misread, lost}
use Rattle.amqp_rules.specs.Channels.{channel_at, set_channel}
use Rattle.amqp_rules.specs.ChannelMethods.{remove_channel}
use Rattle.amqp_rules.specs.Answers.{answer_of, take_answer, take_frames}
use Rattle.amqp_rules.specs.Writing.{flows, next_out, writes, pay, follow, sent, sent_among, taken}
use Rattle.amqp_outgoing.specs.Marks.{mark_of}
use Rattle.amqp_rules.proofs.Recovering.{lose-by, recovers-open}
use Rattle.amqp_rules.proofs.Walk.{misread-keeps, pay-case}
use Rattle.amqp_rules.proofs.Lacking.{closed-link, open-lacks, asked-open, asked-lacks, asked-lacking, is-linked}
use Rattle.amqp_types.proofs.Small.{if_case, if_by, all-push}
use Rattle.amqp_written_rules.proofs.Spoken.{Sayings, SaysAll, Spoken, Quiet, Now, relisted, IsWithin, IsSized}

-- ---- channels up to a number

-- the number of a listed channel
pub at-within : (most n : ℕ) (c : Channel) (es : List (ℕ × Channel)) → IsWithin most es → at n es ≡ Some c → n ≤ most
at-within most n c [] h is = absurd cc
at-within most n c (e ∷ es) h is = by (nat_cmp n e.0) refl is (at-within most n c es h.1) where
  by : (o : Ordering) → nat_cmp n e.0 ≡ o → cond (is_eq o) (Some e.1) (at n es) ≡ Some c → (at n es ≡ Some c → n ≤ most) → n ≤ most
  by Equal ord found rest = (let Q : Ordering → Type 0 = λ r. MatchOrdering r (n < e.0) (n ≡ e.0) (e.0 < n) in let same : n ≡ e.0 = subst Q ord (ranks n e.0) in let le = h.0 in omega (arith, same, le))
  by Less ord found rest = rest found
  by Greater ord found rest = rest found

pub put-within : (most n : ℕ) (c : Channel) (es : List (ℕ × Channel)) → n ≤ most → IsWithin most es → IsWithin most (put n c es)
put-within most n c [] le h = (le, tt)
put-within most n c (e ∷ es) le h = by (nat_cmp n e.0) (put-within most n c es le h.1) where
  by : (o : Ordering) → IsWithin most (put n c es) → IsWithin most (match_ordering o ((n, c) ∷ e ∷ es) ((e.0, c) ∷ es) (e ∷ put n c es))
  by Less rest = (le, h)
  by Equal rest = h
  by Greater rest = (h.0, rest)

pub without-within : (most n : ℕ) (es : List (ℕ × Channel)) → IsWithin most es → IsWithin most (without n es)
without-within most n [] h = tt
without-within most n (e ∷ es) h = by (is_at (nat_cmp n) e.0) (without-within most n es h.1) where
  by : (b : Bool) → IsWithin most (without n es) → IsWithin most (cond b es (e ∷ without n es))
  by true rest = h.1
  by false rest = (h.0, rest)

-- ---- ends and losses

module _ (k : Sayings) (fs : List Frame) where
  abbrev pub Stays : Talk → Type 0
  Stays t = Now k t fs

  pub stays-ended : (t : Talk) → has_ended t ≡ true → Stays t
  stays-ended t h =
      let c = closed-link t.link h in ((λ o. absurd (c.0 o)), (λ w. absurd (c.1 w)))

  pub stays-open : (t : Talk) → is_open t ≡ true → Spoken k fs t → Stays t
  stays-open t o h = ((λ w. h), (λ w. absurd (open-lacks t.link o w)))

  pub stays-lose : (e : ErrorKind) (t : Talk) → Stays t → Stays (lose e t)
  stays-lose e t h =
      lose-by Stays e t
      (λ delay is.
      (let said : Spoken k fs t = h.0 (recovers-open e t delay is) in
      ((λ o. absurd (true≢false (sym o))), (λ w. record { made = said.made; numbers = said.numbers; room = said.room }))))
      (λ none. stays-ended (fail e t) refl)

  pub stays-finish : (o : Option ServerClose) (t : Talk) → Stays t → Stays (finish_by o t)
  stays-finish None t h = stays-ended (close t) refl
  stays-finish (Some WithoutError) t h = stays-ended (close t) refl
  stays-finish (Some (WithError e)) t h = stays-lose (ProtocolError e) t h

  -- ---- links and moments

  pub stays-moment : (at : ℕ) (t : Talk) → Stays t → Stays (present_at at t)
  stays-moment at t h = if_case Stays (has_ended t) t (record t { present = max t.present at }) h h

  pub stays-asked : (t : Talk) → Stays t → Stays (asked t)
  stays-asked t h = ((λ o. h.0 (sym (asked-open t.link) ∙ o)), (λ w. h.1 (sym (asked-lacks t.link) ∙ w)))

  pub stays-failed : (t : Talk) → Stays t → Stays (link_failed t)
  stays-failed t h = if_by Stays (is_asked t) (refused_after (next_delay t) t) t (λ asks. by (next_delay t) asks) (λ other. h)
    where
      by : (delay : Option ℕ) → is_asked t ≡ true → Stays (refused_after delay t)
      by (Some delay) asks = ((λ o. absurd (true≢false (sym o))), (λ w. h.1 (asked-lacking t.link asks)))
      by None asks = stays-ended (fail (IOError Refused) t) refl

  pub stays-piece : (t : Talk) → Stays t → Stays (piece t)
  stays-piece t h = if_case Stays (is_open t) (record t { last_read = t.present }) t h h

  pub stays-lost : (fault : IoFault) (t : Talk) → Stays t → Stays (lost fault t)
  stays-lost fault t h =
      if_case Stays (acts t) (lose (IOError fault) t) (if is_open t then finish t else t) (stays-lose (IOError fault) t h)
      (if_case Stays (is_open t) (finish t) t (stays-finish t.server_close t h) h)

  pub stays-misread : (why : Misread) (t : Talk) → Stays t → Stays (misread why t)
  stays-misread why t h = misread-keeps Stays stays-lose (λ t h. h) why t h

  -- ---- what is taken

  stays-paid : (n : ℕ) (c : Channel) (t : Talk) → channel_at n t ≡ Some c → Stays t → Stays (set_channel n (record c { debt = debt.Paid }) t)
  stays-paid n c t is h =
      let most : ℕ = t.configuration.channel_max in
      let d : Channel = record c { debt = debt.Paid } in (
        (λ o.
            (let said : Spoken k fs t = h.0 o in
            relisted k fs t (put n d t.channels)
            (λ hears. put-within most n d t.channels (at-within most n c t.channels (said.listed hears) is) (said.listed hears)) said)),
        h.1,
      )

  stays-gone : (n : ℕ) (t : Talk) → Stays t → Stays (remove_channel n t)
  stays-gone n t h = (
    (λ o.
        (let said : Spoken k fs t = h.0 o in
        relisted k fs t (without n t.channels) (λ hears. without-within t.configuration.channel_max n t.channels (said.listed hears)) said)),
    h.1,
  )

  stays-pay : (o : Option Channel) (n : ℕ) (t : Talk) → channel_at n t ≡ o → Stays t → Stays (pay o n t)
  stays-pay o n t is h =
      pay-case Stays o n t (λ none. h) (λ c found unowed. h) (λ c found owes awaits. stays-paid n c (tell_owed n t) (is ∙ found) h)
      (λ c found owes left. stays-gone n (tell_owed n t) h)

  stays-follow : (what : Then) (t : Talk) → Stays t → Stays (follow what t)
  stays-follow Nothing t h = h
  stays-follow (Answer number) t h = h
  stays-follow (Pays n) t h = stays-pay (channel_at n t) n t refl h
  stays-follow Finish t h = stays-finish t.server_close t h

  stays-sent : (ms : List Mark) (n : ℕ) (t : Talk) → Stays t → Stays (sent_among ms n t)
  stays-sent [] n t h = h
  stays-sent (m ∷ ms) n t h =
      let some : Talk = sent_among ms (n - m.left) (sent m t) in
      let part : Talk = record t { committed = record m { left = m.left - n } ∷ ms } in
      if_case Stays (is_open t) (if nat_le m.left n then some else part) t
      (if_case Stays (nat_le m.left n) some part
      (stays-sent ms (n - m.left) (sent m t) (stays-follow m.then (record t { committed = drop 1 t.committed }) h)) h) h

  pub stays-taken : (n : ℕ) (t : Talk) → Stays t → Stays (taken n t)
  stays-taken n t h =
      let u : Talk = record t { last_write = t.present } in
      if_case Stays (is_open t && not (n == 0)) (sent_among t.committed n u) t (stays-sent t.committed n u h) h

  -- ---- what is taken between turns

  pub stays-answer : (number : ℕ) (t : Talk) → Stays t → Stays (take_answer number t)
  stays-answer number t h = if_case Stays (is_some (answer_of number t)) (record t { promises = without number t.promises }) t h h

  pub stays-frames : (opened : ℕ) (t : Talk) → Stays t → Stays (take_frames opened t)
  stays-frames opened t h = h

-- ---- a new session, and a new link

module _ (k : Sayings) where
  pub start-quiet : (c : Config) → k.Makes c → Quiet k (start c)
  start-quiet c made = record { made = made; numbers = k.own c made; room = (omega arith, omega arith) }

  -- nothing but the header is said on a new link
  pub linked-spoken : (t : Talk) → is_asked t ≡ true → Quiet k t → Spoken k [] (linked t)
  linked-spoken t asks h =
      let Q : Talk → Type 0 = λ x. Spoken k [] x in
      subst Q (sym (is-linked t asks))
      (record {
        made = h.made;
        numbers = h.numbers;
        room = h.room;
        listed = λ hears. absurd (true≢false (sym hears));
        sized = tt;
        said = λ n may. record { committed = tt; lane = (k.header n, tt); rest = tt; groups = tt };
      })

  -- ---- a frame is committed

  says-next : (n : Configuration) (flow : Bool) (fs : List Frame) (q : Queued) (item : Item) → queued.next_item flow q ≡ Some item
      → SaysAll k n fs q.control q.begun q.publish
      → SaysAll k n (fs ++ item.frame ∷ []) (after_next flow q).control (after_next flow q).begun (after_next flow q).publish
  says-next n flow fs q item is h = by flow q.begun q.control q.publish is h where
    by : (flow : Bool) (begun control : List Item) (publish : List (List Item))
        → queued.next_item flow (record q { control = control; publish = publish; begun = begun }) ≡ Some item
        → SaysAll k n fs control begun publish
        → (let q' : Queued = after_next flow (record q { control = control; publish = publish; begun = begun }) in
        SaysAll k n (fs ++ item.frame ∷ []) q'.control q'.begun q'.publish)
    by flow (x ∷ begun) control publish is h =
        let same : x ≡ item = cc in
        let P : Item → Type 0 = λ y. SaysAll k n (fs ++ y.frame ∷ []) control begun publish in
        subst P same (record { committed = all-push (k.Says n) fs x.frame h.committed h.rest.0; lane = h.lane; rest = h.rest.1; groups = h.groups })
    by flow [] (x ∷ control) publish is h =
        let same : x ≡ item = cc in
        let P : Item → Type 0 = λ y. SaysAll k n (fs ++ y.frame ∷ []) control [] publish in
        subst P same (record { committed = all-push (k.Says n) fs x.frame h.committed h.lane.0; lane = h.lane.1; rest = tt; groups = h.groups })
    by false [] [] publish is h = absurd cc
    by true [] [] [] is h = absurd cc
    by true [] [] ([] ∷ groups) is h = absurd cc
    by true [] [] ((x ∷ group) ∷ groups) is h =
        let same : x ≡ item = cc in
        let P : Item → Type 0 = λ y. SaysAll k n (fs ++ y.frame ∷ []) [] group groups in
        subst P same (record { committed = all-push (k.Says n) fs x.frame h.committed h.groups.0.0; lane = tt; rest = h.groups.0.1; groups = h.groups.1 })

  pub commit-spoken : (t : Talk) (fs : List Frame) (item : Item) → next_out t ≡ Some item → size_of item ≤ t.capacity → Spoken k fs t
      → Spoken k (fs ++ item.frame ∷ []) (record t { outbox = after_next (flows t) t.outbox; committed = t.committed ++ mark_of item ∷ [] })
  commit-spoken t fs item is size h =
      let room = h.room.1 in
      record {
        made = h.made;
        numbers = h.numbers;
        room = h.room;
        listed = h.listed;
        sized = all-push IsSized fs item.frame h.sized (omega (arith, size, room));
        said = λ n may. says-next n (flows t) fs t.outbox item (while-open (writes t) (queued.next_item (flows t) t.outbox) is) (h.said n may);
      }
    where
      while-open : (b : Bool) (o : Option Item) → (if b then o else None) ≡ Some item → o ≡ Some item
      while-open true o j = j
      while-open false o j = absurd cc

-- What the rules of a channel keep of where the server and the session stand while the connection is open.
use Rattle.std.proofs.Common.{◌≡◌, ◌≢◌, ◌≤◌, ℕ, zero, suc, ◌+◌, ◌==◌, not, if◌then◌else◌, Bool, true, false, true≢false, List, [], ◌∷◌, ◌++◌, Option, Some, None, is_some, Ok, refl, ap, sym, ◌∙◌, subst, arith}
use Rattle.std.specs.Prelude.{filter, find, unwrap_or, option_map}
use Rattle.std.proofs.lemmas.List.Sums.{sum_by-cons}
use Rattle.amqp_frame.specs.declared.frame.RawKind.{RawKind}
use Rattle.amqp_outbox.specs.declared.item.Item.{Item}
use Rattle.amqp_outbox.specs.declared.reply.Awaited.{Awaited}
use Rattle.amqp_outbox.specs.declared.reply.Reply.{Reply}
use Rattle.amqp_outbox.specs.declared.reply.Reply.TheVariants.{ChannelOpened, ChannelClosed, FlowDone, SecretDone}
use Rattle.amqp_outbox.specs.Items.{plain_item, outlives}
use Rattle.amqp_outbox.specs.Lists.{without_first}
use Rattle.amqp_outbox.specs.Replies.{method_of, is_of, awaited_on, left_awaited}
use Rattle.amqp_outbox.specs.Queued.{Queued, awaited_promise, is_on, goes_with}
use Rattle.amqp_outbox.specs.Queued as queued
use Rattle.amqp_channels.specs.declared.channels.Channel.{Channel}
use Rattle.amqp_channels.specs.declared.channels.Debt.{Debt}
use Rattle.amqp_channels.specs.declared.channels.Debt.TheVariants as debt
use Rattle.amqp_outgoing.specs.declared.committed.Mark.{Mark}
use Rattle.amqp_promise.specs.declared.state.ChannelState.{ChannelState}
use Rattle.amqp_promise.specs.declared.state.ChannelState.TheVariants as channel
use Rattle.amqp_promise.specs.declared.error.ErrorKind.{ErrorKind}
use Rattle.amqp_maps.specs.Listed.{at, put, without}
use Rattle.amqp_rules.specs.Talk.{Talk, is_open}
use Rattle.amqp_rules.specs.Channels.{channel_at}
use Rattle.amqp_channels.specs.Channels.{is_owed, made_answered}
use Rattle.amqp_rules.specs.Changes.{drop_replies_of, give_to}
use Rattle.amqp_answers.specs.declared.answer.Answer.TheVariants.{Done}
use Rattle.amqp_types.specs.declared.word.Word.TheVariants as word
use Rattle.amqp_promise.specs.declared.error.ErrorKind.TheVariants.{InvalidChannelState}
use Rattle.amqp_rules.specs.ChannelMethods.{channel_opened, channel_closed, channel_flowed, channel_close_by, closed_by_server, crossing_close, remove_unless_owed, on_channel_flow, confirmed, is_select_ok, pass_through}
use Rattle.amqp_settings.specs.Handshake.{flow_ok, channel_close_ok}
use Rattle.amqp_outgoing.specs.Marks.{then_of}
use Rattle.amqp_faultless.specs.Faultless.{Use, unused, Server, used_as}
use Rattle.amqp_types.proofs.Small.{the-number, if_case}
use Rattle.amqp_maps.proofs.Numbered.{put-same, put-other, without-other}
use Rattle.amqp_legal_rules.proofs.Ties.{pays, to_pay, unpaid, owing}
use Rattle.amqp_legal_rules.proofs.Paying.{pays-none, pays-own, pays-others, goes-on}
use Rattle.amqp_faultless.proofs.Ordinary.{IsOther, AreOthers}
use Rattle.amqp_faultless.proofs.Uses.{waiting_for, waiting-found, waiting-without, waiting-others, left-more, left-other, Act, Opens, Flows, Closes, Idle, act_on, acts, is_opens, use_by, lives, is_unowed, is_free, Holds, Stands, NoneOpens, Along, along-now, along-none, along-related, along-dead, less-same, none-filter, along-filter}
use Rattle.amqp_faultless.proofs.Served.{AreRaw, secret_by, secrets_in, Channels, Serves, IsServing, Goes, opened-lives, asked-lives, along-cast, differ, by-number, each-by, put-owing, put-free, serves-put, serves-push, IsPlain, idle-push, serves-plain}
use Rattle.amqp_channels.proofs.Walking.{all-filtered}

module _ (n : ℕ) (c : Channel) (s : Server) (t : Talk) (o : is_open t ≡ true) (listed : channel_at n t ≡ Some c) (h : IsServing s t) where
  abbrev u : Use
  u = s.uses n

  abbrev ws : List (ℕ × List Awaited)
  ws = t.outbox.awaited

  holds : lives u ≡ true → Holds u (at n t.channels) (awaited_on n ws)
  holds l = along-now (acts n t.outbox.control) u (at n t.channels) (awaited_on n ws) (h.each n) l

  none : lives u ≡ true → NoneOpens (acts n t.outbox.control)
  none l = along-none (acts n t.outbox.control) u (at n t.channels) (awaited_on n ws) (h.each n) l

  answered-others : (r q : Reply) → method_of q ≢ method_of r → waiting_for q (awaited_on n ws) ≤ waiting_for q (awaited_on n (left_awaited n r ws))
  answered-others r q ne =
      let a = waiting-others q r (awaited_on n ws) ne in
      let b = left-more n (without_first (is_of r) (awaited_on n ws)) ws q in omega (arith, a, b)

  answered-one : (r : Reply) → waiting_for r (awaited_on n ws) ≤ suc (waiting_for r (awaited_on n (left_awaited n r ws)))
  answered-one r =
      let a = waiting-without r (awaited_on n ws) in
      let b = left-more n (without_first (is_of r) (awaited_on n ws)) ws r in omega (arith, a, b)

  -- a reply came that ties nothing on channel 0
  answered-secrets : (r : Reply) → method_of SecretDone ≢ method_of r → waiting_for SecretDone (awaited_on 0 ws) ≤ waiting_for SecretDone (awaited_on 0 (left_awaited n r ws))
  answered-secrets r ne = by (0 == n) refl where
    by : (b : Bool) → (0 == n) ≡ b → waiting_for SecretDone (awaited_on 0 ws) ≤ waiting_for SecretDone (awaited_on 0 (left_awaited n r ws))
    by true is =
        let P : ℕ → Type 0 = λ k. waiting_for SecretDone (awaited_on k ws) ≤ waiting_for SecretDone (awaited_on k (left_awaited n r ws)) in
        subst P (sym (the-number 0 n is)) (answered-others r SecretDone ne)
    by false is = let same = ap (waiting_for SecretDone) (left-other 0 n (without_first (is_of r) (awaited_on n ws)) ws (differ 0 n is)) in omega (arith, same)

  others-answered : (r : Reply) (cs : Channels) → ((m : ℕ) → m ≢ n → at m cs ≡ at m t.channels)
      → (m : ℕ) → m ≢ n → Along (acts m t.outbox.control) (s.uses m) (at m cs) (awaited_on m (left_awaited n r ws))
  others-answered r cs same m ne =
      along-cast (acts m t.outbox.control) (s.uses m) (at m t.channels) (at m cs) (awaited_on m ws) (awaited_on m (left_awaited n r ws)) (same m ne)
      (left-other m n (without_first (is_of r) (awaited_on n ws)) ws ne) (h.each m)

  promise-found : (r : Reply) → 1 ≤ waiting_for r (awaited_on n ws) → is_some (awaited_promise n r t.outbox) ≡ true
  promise-found r waits = by (find (is_of r) (awaited_on n ws)) (waiting-found r (awaited_on n ws) waits) where
    by : (x : Option Awaited) → is_some x ≡ true → is_some (option_map (λ (a : Awaited). a.promise) x) ≡ true
    by (Some a) found = refl
    by None found = absurd (true≢false (sym found))

  -- a reply came, and the channel is used otherwise
  replied : (r : Reply) → method_of SecretDone ≢ method_of r → (u' : Use) (cs : Channels) → ((m : ℕ) → m ≢ n → at m cs ≡ at m t.channels)
      → ((m : ℕ) → owing (at m cs) ≡ owing (at m t.channels)) → Along (acts n t.outbox.control) u' (at n cs) (awaited_on n (left_awaited n r ws))
      → Serves (used_as n u' s) (record t.outbox { awaited = left_awaited n r ws }) cs t.committed
  replied r ne u' cs same owes own =
      record {
        stage = h.stage;
        staying = h.staying;
        ours = h.ours;
        secrets = (let a = h.secrets in let b = answered-secrets r ne in omega (arith, a, b));
        each = each-by n u' s t.outbox.control cs (left_awaited n r ws) own (others-answered r cs same);
        due = λ m. (let a = h.due m in let b = owes m in omega (arith, a, b));
        begun = h.begun;
        groups = h.groups;
      }

  -- open-ok
  record Opened (v v' : Use) : Type 0 where
    asked : v.asked ≡ true
    is : v' ≡ record v { asked = false; opened = true }

  opened-step : (a : Act) (v v' : Use) → is_opens a ≡ false → Opened v v' → Opened (use_by a v) (use_by a v')
  opened-step Opens v v' shut r = absurd (true≢false shut)
  opened-step Flows v v' shut r = record { asked = r.asked; is = ap (use_by Flows) r.is }
  opened-step Closes v v' shut r = record { asked = r.asked; is = ap (use_by Closes) r.is }
  opened-step Idle v v' shut r = r

  opened-stands : (x x' : Option Channel) (list list' : List Awaited) → (is_free x ≡ true → is_free x' ≡ true) → waiting_for FlowDone list ≤ waiting_for FlowDone list'
      → waiting_for ChannelClosed list ≤ waiting_for ChannelClosed list' → (v v' : Use) → Opened v v' → Stands v x list → Stands v' x' list'
  opened-stands x x' list list' free flow close v v' r stands =
      let P : Use → Type 0 = λ w. Stands w x' list' in
      let k = stands (asked-lives v r.asked) in
      subst P (sym r.is)
      (λ l.
      record {
        listed = free k.listed;
        asked = λ a. absurd (true≢false (sym a));
        flows = (let y = k.flows in omega (arith, y, flow));
        closing = λ a. (let y = k.closing a in omega (arith, y, close));
        single = λ a. refl;
      })

  pub goes-opened : u.asked ≡ true → Goes (used_as n (record u { asked = false; opened = true }) s) (channel_opened n c (awaited_promise n ChannelOpened t.outbox) t)
  goes-opened asked = by (awaited_promise n ChannelOpened t.outbox) (promise-found ChannelOpened ((holds (asked-lives u asked)).asked asked)) where
    c' : Channel
    c' = record c { state = channel.Connected }

    by : (x : Option (Option ℕ)) → is_some x ≡ true → Goes (used_as n (record u { asked = false; opened = true }) s) (channel_opened n c x t)
    by None found = absurd (true≢false (sym found))
    by (Some promise) found = (
      o,
      replied ChannelOpened (λ same. absurd (omega (arith, same))) (record u { asked = false; opened = true }) (put n c' t.channels) (λ m ne. put-other m n c' t.channels ne)
          (put-owing n c c' t.channels listed refl)
          (along-related (at n t.channels) (at n (put n c' t.channels)) (awaited_on n ws) (awaited_on n (left_awaited n ChannelOpened ws)) Opened opened-step
          (opened-stands (at n t.channels) (at n (put n c' t.channels)) (awaited_on n ws) (awaited_on n (left_awaited n ChannelOpened ws))
          (put-free n c c' t.channels listed refl)
          (answered-others ChannelOpened FlowDone (λ same. absurd (omega (arith, same))))
          (answered-others ChannelOpened ChannelClosed (λ same. absurd (omega (arith, same)))))
          (acts n t.outbox.control) u (record u { asked = false; opened = true }) (none (asked-lives u asked)) (record { asked = asked; is = refl }) (h.each n)),
    )

  -- flow-ok
  record Flowed (v v' : Use) : Type 0 where
    opened : v.opened ≡ true
    flows : v.flows ≡ suc v'.flows
    asked : v'.asked ≡ v.asked
    closing : v'.closing ≡ v.closing

  flowed-step : (a : Act) (v v' : Use) → is_opens a ≡ false → Flowed v v' → Flowed (use_by a v) (use_by a v')
  flowed-step Opens v v' shut r = absurd (true≢false shut)
  flowed-step Flows v v' shut r = record { opened = r.opened; flows = (let x = r.flows in omega (arith, x)); asked = r.asked; closing = r.closing }
  flowed-step Closes v v' shut r = record { opened = r.opened; flows = r.flows; asked = r.asked; closing = refl }
  flowed-step Idle v v' shut r = r

  flowed-stands : (x : Option Channel) (list list' : List Awaited) → waiting_for FlowDone list ≤ suc (waiting_for FlowDone list')
      → waiting_for ChannelClosed list ≤ waiting_for ChannelClosed list' → (v v' : Use) → Flowed v v' → Stands v x list → Stands v' x list'
  flowed-stands x list list' flow close v v' r stands l =
      let k = stands (opened-lives v r.opened) in
      record {
        listed = k.listed;
        asked = λ a. absurd (true≢false (sym a ∙ (r.asked ∙ k.single r.opened)));
        flows = (let y = k.flows in let z = r.flows in omega (arith, y, z, flow));
        closing = λ a. (let y = k.closing (sym r.closing ∙ a) in omega (arith, y, close));
        single = λ a. r.asked ∙ k.single r.opened;
      }

  pub goes-flowed : (active : Bool) (left : ℕ) → u.opened ≡ true → u.flows ≡ suc left
      → Goes (used_as n (record u { flows = left }) s) (channel_flowed n c active (awaited_promise n FlowDone t.outbox) t)
  goes-flowed active left opened flows =
      by (awaited_promise n FlowDone t.outbox)
      (promise-found FlowDone (let x = (holds (opened-lives u opened)).flows in omega (arith, x, flows)))
    where
      by : (x : Option (Option ℕ)) → is_some x ≡ true → Goes (used_as n (record u { flows = left }) s) (channel_flowed n c active x t)
      by None found = absurd (true≢false (sym found))
      by (Some promise) found = (
        o,
        replied FlowDone (λ same. absurd (omega (arith, same))) (record u { flows = left }) t.channels (λ m ne. refl) (λ m. refl)
            (along-related (at n t.channels) (at n t.channels) (awaited_on n ws) (awaited_on n (left_awaited n FlowDone ws)) Flowed flowed-step
            (flowed-stands (at n t.channels) (awaited_on n ws) (awaited_on n (left_awaited n FlowDone ws)) (answered-one FlowDone)
            (answered-others FlowDone ChannelClosed (λ same. absurd (omega (arith, same)))))
            (acts n t.outbox.control) u (record u { flows = left }) (none (opened-lives u opened))
            (record { opened = opened; flows = flows; asked = refl; closing = refl }) (h.each n)),
      )

  -- flow
  plain-flow-ok : (active : Bool) → IsPlain (plain_item n (flow_ok n active))
  plain-flow-ok active = record { idle = λ m. refl; other = refl; secret = secret-none n; unpaying = λ m. pays-none (plain_item n (flow_ok n active)) m tt } where
    secret-none : (k : ℕ) → secret_by (flow_ok k active) ≡ 0
    secret-none zero = refl
    secret-none (suc k) = refl

  pub goes-flow : (state : ChannelState) (active : Bool) → Goes s (on_channel_flow state n c active t)
  goes-flow channel.Closing active = (o, h)
  goes-flow _ active =
      let c' : Channel = record c { flow = active } in (
        o,
        serves-plain s t.outbox (put n c' t.channels) t.committed (plain_item n (flow_ok n active)) (plain-flow-ok active)
            (serves-put n c c' t.channels listed refl s t.outbox t.committed h),
      )

  -- a frame that is passed through
  pub goes-raw : (kind : RawKind) (bytes : List ℕ) → Goes s (pass_through n c kind bytes t)
  goes-raw kind bytes = by (is_select_ok kind bytes) where
    c' : Channel
    c' = record c { confirm = true }

    by : (b : Bool) → Goes s (if b then confirmed n c t else t)
    by true = (o, serves-put n c c' t.channels listed refl s t.outbox t.committed h)
    by false = (o, h)

  -- ---- closing

  module _ (some : 0 ≢ n) where
    -- close-ok
    gone-others : (cs : Channels) → ((m : ℕ) → m ≢ n → at m cs ≡ at m t.channels)
        → (m : ℕ) → m ≢ n → Along (acts m t.outbox.control) (s.uses m) (at m cs) (awaited_on m (without n (left_awaited n ChannelClosed ws)))
    gone-others cs same m ne =
        along-cast (acts m t.outbox.control) (s.uses m) (at m cs) (at m cs) (awaited_on m (left_awaited n ChannelClosed ws)) (awaited_on m (without n (left_awaited n ChannelClosed ws))) refl
        (ap (λ x. unwrap_or x []) (without-other m n (left_awaited n ChannelClosed ws) ne)) (others-answered ChannelClosed cs same m ne)

    gone : (cs : Channels) → ((m : ℕ) → m ≢ n → at m cs ≡ at m t.channels) → unpaid t.committed t.outbox.control n ≤ owing (at n cs) → lives u ≡ true
        → Serves (used_as n unused s) (record t.outbox { awaited = without n (left_awaited n ChannelClosed ws) }) cs t.committed
    gone cs same own l =
        record {
          stage = h.stage;
          staying = h.staying;
          ours = h.ours;
          secrets =
              (let a = h.secrets in let b = answered-secrets ChannelClosed (λ k. absurd (omega (arith, k))) in
              let e = ap (λ x. waiting_for SecretDone (unwrap_or x [])) (without-other 0 n (left_awaited n ChannelClosed ws) some) in omega (arith, a, b, e));
          each = each-by n unused s t.outbox.control cs (without n (left_awaited n ChannelClosed ws))
              (along-dead (at n cs) (awaited_on n (without n (left_awaited n ChannelClosed ws))) (acts n t.outbox.control) unused (none l) refl) (gone-others cs same);
          due = by-number (λ m. unpaid t.committed t.outbox.control m ≤ owing (at m cs)) n own
              (λ m ne. (let a = h.due m in let b = ap owing (same m ne) in omega (arith, a, b)));
          begun = h.begun;
          groups = h.groups;
        }

    -- a channel that the server uses owes nothing
    unowed : u.opened ≡ true → is_unowed c.debt ≡ true
    unowed opened = sym (ap is_free listed) ∙ (holds (opened-lives u opened)).listed

    unpaid-none : is_owed c.debt ≡ false → unpaid t.committed t.outbox.control n ≤ 0
    unpaid-none free =
        let a = h.due n in let b : owing (at n t.channels) ≡ owing (Some c) = ap owing listed in
        let e : owing (Some c) ≡ 0 = ap (λ x. if x then 1 else 0) free in omega (arith, a, b, e)

    abbrev closed_talk : Option ℕ → Talk
    closed_talk promise =
        drop_replies_of n (InvalidChannelState channel.Closed word.ChannelCloseOkReceived) (give_to promise (Ok Done) (record t { outbox = queued.without_awaited n ChannelClosed t.outbox }))

    goes-left : (promise : Option ℕ) → lives u ≡ true → (d : Debt) → c.debt ≡ d → Goes (used_as n unused s) (remove_unless_owed d n c (closed_talk promise))
    goes-left promise l debt.Owed is =
        let c' : Channel = made_answered c in
        let same : owing (at n (put n c' t.channels)) ≡ owing (Some c) = ap owing (put-same n c' t.channels) in
        let before : owing (at n t.channels) ≡ owing (Some c) = ap owing listed in
        (o, gone (put n c' t.channels) (λ m ne. put-other m n c' t.channels ne) (let a = h.due n in omega (arith, a, same, before)) l)
    goes-left promise l debt.Nothing is =
        (o, gone (without n t.channels) (λ m ne. without-other m n t.channels ne) (let a = unpaid-none (ap is_owed is) in omega (arith, a)) l)
    goes-left promise l debt.Paid is =
        (o, gone (without n t.channels) (λ m ne. without-other m n t.channels ne) (let a = unpaid-none (ap is_owed is) in omega (arith, a)) l)

    pub goes-closed : u.opened ≡ true → u.closing ≡ true → Goes (used_as n unused s) (channel_closed n c (awaited_promise n ChannelClosed t.outbox) t)
    goes-closed opened closing =
        by (awaited_promise n ChannelClosed t.outbox) (promise-found ChannelClosed ((holds (opened-lives u opened)).closing closing))
      where
        by : (x : Option (Option ℕ)) → is_some x ≡ true → Goes (used_as n unused s) (channel_closed n c x t)
        by None found = absurd (true≢false (sym found))
        by (Some promise) found = goes-left promise (opened-lives u opened) c.debt refl

    -- the server closes the channel
    pays-one : (m : ℕ) → m ≢ n → pays m (then_of (plain_item n (channel_close_ok n))) ≡ 0
    pays-one m ne = pays-others m n ne

    abbrev kept_item : Item → Bool
    kept_item item = not (goes_with n item)

    kept-outlives : (item : Item) → kept_item item ≡ false → outlives item.frame ≡ false
    kept-outlives item is = (goes-on n item (turned (goes_with n item) is)).1 where
      turned : (b : Bool) → not b ≡ false → b ≡ true
      turned true h = refl
      turned false h = absurd (true≢false h)

    fewer-secrets : (items : List Item) → secrets_in (filter kept_item items) ≤ secrets_in items
    fewer-secrets [] = omega arith
    fewer-secrets (i ∷ items) =
        let w : Item → ℕ = λ (item : Item). secret_by item.frame in
        let a : secrets_in (i ∷ items) ≡ secret_by i.frame + secrets_in items = sum_by-cons w i items in
        let b : secrets_in (i ∷ filter kept_item items) ≡ secret_by i.frame + secrets_in (filter kept_item items) = sum_by-cons w i (filter kept_item items) in
        by (kept_item i) (fewer-secrets items) a b
      where
        by : (b : Bool) → secrets_in (filter kept_item items) ≤ secrets_in items → secrets_in (i ∷ items) ≡ secret_by i.frame + secrets_in items
            → secrets_in (i ∷ filter kept_item items) ≡ secret_by i.frame + secrets_in (filter kept_item items)
            → secrets_in (if b then i ∷ filter kept_item items else filter kept_item items) ≤ secrets_in (i ∷ items)
        by true rest a b = omega (arith, rest, a, b)
        by false rest a b = omega (arith, rest, a)

    fewer-paying : (m : ℕ) (items : List Item) → to_pay (filter kept_item items) m ≤ to_pay items m
    fewer-paying m [] = omega arith
    fewer-paying m (i ∷ items) =
        let w : Item → ℕ = λ (item : Item). pays m (then_of item) in
        let a : to_pay (i ∷ items) m ≡ pays m (then_of i) + to_pay items m = sum_by-cons w i items in
        let b : to_pay (i ∷ filter kept_item items) m ≡ pays m (then_of i) + to_pay (filter kept_item items) m = sum_by-cons w i (filter kept_item items) in
        by (kept_item i) (fewer-paying m items) a b
      where
        by : (b : Bool) → to_pay (filter kept_item items) m ≤ to_pay items m → to_pay (i ∷ items) m ≡ pays m (then_of i) + to_pay items m
            → to_pay (i ∷ filter kept_item items) m ≡ pays m (then_of i) + to_pay (filter kept_item items) m
            → to_pay (if b then i ∷ filter kept_item items else filter kept_item items) m ≤ to_pay (i ∷ items) m
        by true rest a b = omega (arith, rest, a, b)
        by false rest a b = omega (arith, rest, a)

    abbrev closing_channel : Channel
    closing_channel = record c { state = channel.Closing; debt = debt.Owed }

    -- what goes with the channel is gone
    dropped-serves : lives u ≡ true → is_owed c.debt ≡ false
        → Serves (used_as n unused s)
        (record t.outbox {
          publish = filter (λ group. not (is_on n group)) t.outbox.publish;
          control = filter kept_item t.outbox.control;
          awaited = without n ws;
        }) (put n closing_channel t.channels) t.committed
    dropped-serves l free =
        record {
          stage = h.stage;
          staying = h.staying;
          ours = record {
            begun = h.ours.begun;
            control = all-filtered IsOther kept_item t.outbox.control h.ours.control;
            publish = all-filtered AreOthers (λ group. not (is_on n group)) t.outbox.publish h.ours.publish;
          };
          secrets =
              (let a = h.secrets in let b = fewer-secrets t.outbox.control in
              let e = ap (λ x. waiting_for SecretDone (unwrap_or x [])) (without-other 0 n ws some) in omega (arith, a, b, e));
          each = each-by n unused s (filter kept_item t.outbox.control) (put n closing_channel t.channels) (without n ws)
              (along-dead (at n (put n closing_channel t.channels)) (awaited_on n (without n ws)) (acts n (filter kept_item t.outbox.control)) unused
              (none-filter n kept_item kept-outlives t.outbox.control (none l)) refl)
              (λ m ne.
              along-cast (acts m (filter kept_item t.outbox.control)) (s.uses m) (at m t.channels) (at m (put n closing_channel t.channels)) (awaited_on m ws) (awaited_on m (without n ws))
              (put-other m n closing_channel t.channels ne) (ap (λ x. unwrap_or x []) (without-other m n ws ne))
              (along-filter m kept_item kept-outlives (at m t.channels) (awaited_on m ws) t.outbox.control (s.uses m) (s.uses m) (less-same (s.uses m)) (h.each m)));
          due = by-number (λ m. unpaid t.committed (filter kept_item t.outbox.control) m ≤ owing (at m (put n closing_channel t.channels))) n
              (let a = unpaid-none free in let b = fewer-paying n t.outbox.control in omega (arith, a, b))
              (λ m ne. (let a = h.due m in let b = fewer-paying m t.outbox.control in let e = ap owing (put-other m n closing_channel t.channels ne) in omega (arith, a, b, e)));
          begun = h.begun;
          groups = all-filtered AreRaw (λ group. not (is_on n group)) t.outbox.publish h.groups;
        }

    plain-close-ok : (s' : Server) (q : Queued) (cs : Channels) (ms : List Mark) → Serves s' q cs ms → unpaid ms q.control n ≡ 0 → owing (at n cs) ≡ 1
        → Serves s' (record q { control = q.control ++ plain_item n (channel_close_ok n) ∷ [] }) cs ms
    plain-close-ok s' q cs ms g unpaid_none owed =
        serves-push s' q cs cs ms (plain_item n (channel_close_ok n)) q.awaited g refl (let a = secret-none n in omega (arith, a))
        (λ m. idle-push (act_on m (channel_close_ok n)) (acts m q.control) (s'.uses m) (at m cs) (awaited_on m q.awaited) refl (g.each m))
        (by-number (λ m. unpaid ms q.control m + pays m (then_of (plain_item n (channel_close_ok n))) ≤ owing (at m cs)) n
        (let a = pays-own n in omega (arith, a, unpaid_none, owed))
        (λ m ne. (let a = g.due m in let b = pays-one m ne in omega (arith, a, b))))
      where
        secret-none : (k : ℕ) → secret_by (channel_close_ok k) ≡ 0
        secret-none zero = refl
        secret-none (suc k) = refl

    owed-now : (c' : Channel) → is_owed c'.debt ≡ true → owing (at n (put n c' t.channels)) ≡ 1
    owed-now c' owed = ap owing (put-same n c' t.channels) ∙ ap (λ b. if b then 1 else 0) owed

    -- both closed it
    crossing-serves : lives u ≡ true → is_owed c.debt ≡ false → Serves (used_as n unused s) t.outbox (put n (record c { debt = debt.Owed }) t.channels) t.committed
    crossing-serves l free =
        let c' : Channel = record c { debt = debt.Owed } in
        record {
          stage = h.stage;
          staying = h.staying;
          ours = h.ours;
          secrets = h.secrets;
          each = each-by n unused s t.outbox.control (put n c' t.channels) ws
              (along-dead (at n (put n c' t.channels)) (awaited_on n ws) (acts n t.outbox.control) unused (none l) refl)
              (λ m ne.
              along-cast (acts m t.outbox.control) (s.uses m) (at m t.channels) (at m (put n c' t.channels)) (awaited_on m ws) (awaited_on m ws)
              (put-other m n c' t.channels ne) refl (h.each m));
          due = by-number (λ m. unpaid t.committed t.outbox.control m ≤ owing (at m (put n c' t.channels))) n
              (let a = unpaid-none free in omega (arith, a))
              (λ m ne. (let a = h.due m in let e = ap owing (put-other m n c' t.channels ne) in omega (arith, a, e)));
          begun = h.begun;
          groups = h.groups;
        }

    none-unpaid : is_owed c.debt ≡ false → unpaid t.committed t.outbox.control n ≡ 0
    none-unpaid free = let a = unpaid-none free in omega (arith, a)

    none-unpaid-kept : is_owed c.debt ≡ false → unpaid t.committed (filter kept_item t.outbox.control) n ≡ 0
    none-unpaid-kept free = let a = unpaid-none free in let b = fewer-paying n t.outbox.control in omega (arith, a, b)

    pub goes-server-close : u.opened ≡ true → (e : ErrorKind) (d : Debt) → c.debt ≡ d → Goes (used_as n unused s) (channel_close_by d n e c t)
    goes-server-close opened e debt.Nothing is =
        let l = opened-lives u opened in
        let free : is_owed c.debt ≡ false = ap is_owed is in
        if_case (Goes (used_as n unused s)) c.awaits_close_ok (crossing_close n e c t) (closed_by_server n e c t) (
          o,
          plain-close-ok (used_as n unused s) t.outbox (put n (record c { debt = debt.Owed }) t.channels) t.committed (crossing-serves l free) (none-unpaid free)
              (owed-now (record c { debt = debt.Owed }) refl),
        )
        (o, plain-close-ok (used_as n unused s) _ (put n closing_channel t.channels) t.committed (dropped-serves l free) (none-unpaid-kept free) (owed-now closing_channel refl))
    goes-server-close opened e debt.Owed is = absurd (true≢false (sym (unowed opened) ∙ ap is_unowed is))
    goes-server-close opened e debt.Paid is = absurd (true≢false (sym (unowed opened) ∙ ap is_unowed is))

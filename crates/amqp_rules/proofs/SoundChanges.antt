-- The small changes that the rules are made of lead from a sound state to a sound one.
use Rattle.std.proofs.Common.{◌≡◌, sym, subst, refl, ℕ, zero, suc, ◌<◌, ◌+◌, ◌-◌, max, List, [], ◌∷◌, Option, Some, None, Result, Err, arith}
use Rattle.std.specs.Prelude.{filter}
use Rattle.std.specs.Map.{keys_of}
use Rattle.amqp_outbox.specs.declared.item.Item.{Item}
use Rattle.amqp_outbox.specs.Items.{promise_of_group}
use Rattle.amqp_channels.specs.declared.channels.Channel.{Channel}
use Rattle.amqp_promise.specs.declared.state.ConnectionState.TheVariants.{Closed, Error}
use Rattle.amqp_violations.specs.declared.server_close.ServerClose.{ServerClose}
use Rattle.amqp_violations.specs.declared.server_close.ServerClose.TheVariants.{WithoutError, WithError}
use Rattle.amqp_answers.specs.declared.answer.Answer.{Answer as AnyAnswer}
use Rattle.amqp_promise.specs.declared.error.ErrorKind.TheVariants.{NoMemory, ProtocolError}
use Rattle.amqp_promise.specs.declared.error.ErrorKind.{ErrorKind}
use Rattle.amqp_maps.specs.Listed.{at, put, has}
use Rattle.amqp_rules.specs.Talk.{Talk, acts, has_ended, is_closing}
use Rattle.amqp_answers.specs.Settled.{Promises, settled_by, settled_to}
use Rattle.amqp_rules.specs.Changes.{present_at, starve, refuse, give, give_to, rejected, rejected_each, fail, lose, misplaced, close, finish, finish_by, promise}
use Rattle.amqp_rules.specs.Links.{lost}
use Rattle.amqp_channels.specs.Kept.{is_kept_in, reconnecting}
use Rattle.amqp_rules.specs.Recovery.{reconnect}
use Rattle.amqp_rules.specs.Commands.{named}
use Rattle.amqp_answers.specs.Events.{Noted}
use Rattle.amqp_rules.specs.Sound.{Ascend, AscendFrom, IsSound, AllBelow}
use Rattle.amqp_types.proofs.Small.{if_case}
use Rattle.amqp_rules.proofs.Recovering.{lose-case, rejected_all-keys}
use Rattle.amqp_rules.proofs.Ascending.{filter-from, none-below, put-ascends, put-below, at-below, below-greater, map_values-from}
use Rattle.amqp_rules.proofs.Finishing.{none-finishes}
use Rattle.amqp_rules.proofs.OpenedBy.{Names, names-settled, names-to, names-none, names-error, names-all, fits-made}
use Rattle.amqp_rules.proofs.Opening.{fits-none, fits-kept}

-- ---- promises

-- promises in order, all of which were made
abbrev pub Promised : ℕ → Promises → Type 0
Promised made ps = Ascend (keys_of ps) × AllBelow made (keys_of ps)

-- one more is made, with the next number
pub one-more : (made : ℕ) (v : Option (Result AnyAnswer ErrorKind)) (ps : Promises) → Promised made ps → Promised (made + 1) (put made v ps)
one-more made v ps s =
    (put-ascends made v ps s.0, put-below made v (made + 1) ps (omega arith) (below-greater made (made + 1) (keys_of ps) (omega arith) s.1))

settled-kept : (o : Option (Option (Result AnyAnswer ErrorKind))) (n : ℕ) (answer : Result AnyAnswer ErrorKind) (made : ℕ) (ps : Promises)
    → at n ps ≡ o → Promised made ps → Promised made (settled_by o n answer ps)
settled-kept None n answer made ps h s = s
settled-kept (Some None) n answer made ps h s =
    (put-ascends n (Some answer) ps s.0, put-below n (Some answer) made ps (at-below n made ps None s.1 h) s.1)
settled-kept (Some (Some a)) n answer made ps h s = s

pub to-kept : (o : Option ℕ) (answer : Result AnyAnswer ErrorKind) (made : ℕ) (ps : Promises) → Promised made ps → Promised made (settled_to o answer ps)
to-kept None answer made ps s = s
to-kept (Some n) answer made ps s = settled-kept (at n ps) n answer made ps refl s

pub rejected-kept : (e : ErrorKind) (groups : List (List Item)) (made : ℕ) (ps : Promises) → Promised made ps → Promised made (rejected e groups ps)
rejected-kept e [] made ps s = s
rejected-kept e (group ∷ groups) made ps s =
    rejected-kept e groups made (settled_to (promise_of_group group) (Err e) ps) (to-kept (promise_of_group group) (Err e) made ps s)

pub each-kept : (e : ErrorKind) (named : List (Option ℕ)) (made : ℕ) (ps : Promises) → Promised made ps → Promised made (rejected_each e named ps)
each-kept e [] made ps s = s
each-kept e (promise ∷ others) made ps s =
    each-kept e others made (settled_to promise (Err e) ps) (to-kept promise (Err e) made ps s)

pub sound-give : (n : ℕ) (answer : Result AnyAnswer ErrorKind) (t : Talk) → Names n (Some answer) → IsSound t → IsSound (give n answer t)
sound-give n answer t names s =
    record {
      link = s.link;
      room = s.room;
      acting = s.acting;
      finish = s.finish;
      listed = s.listed;
      promises = settled-kept (at n t.promises) n answer t.made t.promises refl s.promises;
      answers = names-settled n answer t.promises names s.answers;
      channels = s.channels;
    }

pub sound-give_to : (o : Option ℕ) (answer : Result AnyAnswer ErrorKind) (t : Talk) → ((n : ℕ) → o ≡ Some n → Names n (Some answer)) → IsSound t → IsSound (give_to o answer t)
sound-give_to o answer t names s =
    record {
      link = s.link;
      room = s.room;
      acting = s.acting;
      finish = s.finish;
      listed = s.listed;
      promises = to-kept o answer t.made t.promises s.promises;
      answers = names-to o answer t.promises names s.answers;
      channels = s.channels;
    }

pub sound-promise : (t : Talk) → IsSound t → IsSound (promise t)
sound-promise t s = record { link = s.link; room = s.room; acting = s.acting; finish = s.finish; listed = s.listed; promises = one-more t.made None t.promises s.promises; answers = names-none t.made t.promises s.answers; channels = fits-made t.state (acts t) t.channels t.outbox.awaited t.made s.channels }

pub sound-refuse : (e : ErrorKind) (t : Talk) → IsSound t → IsSound (refuse e t)
sound-refuse e t s = record { link = s.link; room = s.room; acting = s.acting; finish = s.finish; listed = s.listed; promises = one-more t.made (Some (Err e)) t.promises s.promises; answers = names-error t.made e t.promises s.answers; channels = fits-made t.state (acts t) t.channels t.outbox.awaited t.made s.channels }

-- ---- ends

pub sound-fail : (e : ErrorKind) (t : Talk) → IsSound t → IsSound (fail e t)
sound-fail e t s = record { link = refl; room = λ h. absurd cc; acting = λ h. absurd cc; finish = s.finish; listed = tt; promises = s.promises; answers = s.answers; channels = fits-none t.state (acts t) t.channels t.outbox.awaited t.made s.channels Error refl }

-- a session whose link is lost waits for another, or ends
sound-reconnect : (e : ErrorKind) (delay : ℕ) (t : Talk) → IsSound t → IsSound (reconnect e delay t)
sound-reconnect e delay t s =
    record {
      link = refl;
      room = λ h. absurd cc;
      acting = λ h. absurd cc;
      finish = none-finishes t.input [] tt;
      listed = map_values-from reconnecting 0 (filter (λ e. is_kept_in (e.1).state) t.channels) (filter-from (λ e. is_kept_in (e.1).state) 0 t.channels s.listed);
      promises = subst (λ ks. Ascend ks × AllBelow t.made ks) (sym (rejected_all-keys e t.promises)) s.promises;
      answers = names-all e t.promises s.answers;
      channels = fits-kept t.state (acts t) t.channels t.outbox.awaited t.made s.channels s.listed;
    }

pub sound-lose : (e : ErrorKind) (t : Talk) → IsSound t → IsSound (lose e t)
sound-lose e t s = lose-case IsSound e t (λ delay. sound-reconnect e delay t s) (sound-fail e t s)

pub sound-close : (t : Talk) → IsSound t → IsSound (close t)
sound-close t s = record { link = refl; room = λ h. absurd cc; acting = λ h. absurd cc; finish = s.finish; listed = tt; promises = s.promises; answers = s.answers; channels = fits-none t.state (acts t) t.channels t.outbox.awaited t.made s.channels Closed refl }

pub sound-finish : (o : Option ServerClose) (t : Talk) → IsSound t → IsSound (finish_by o t)
sound-finish None t s = sound-close t s
sound-finish (Some WithoutError) t s = sound-close t s
sound-finish (Some (WithError e)) t s = sound-lose (ProtocolError e) t s

pub sound-misplaced : (e : ErrorKind) (t : Talk) → IsSound t → IsSound (misplaced e t)
sound-misplaced e t s = if_case IsSound (is_closing t.state) t (lose e t) s (sound-lose e t s)

pub sound-starve : (t : Talk) → IsSound t → IsSound (starve t)
sound-starve t s = if_case IsSound (has_ended t) t (fail NoMemory t) s (sound-fail NoMemory t s)

pub sound-present : (at : ℕ) (t : Talk) → IsSound t → IsSound (present_at at t)
sound-present at t s =
    if_case IsSound (has_ended t) t (record t { present = max t.present at }) s (record { link = s.link; room = s.room; acting = s.acting; finish = s.finish; listed = s.listed; promises = s.promises; answers = s.answers; channels = s.channels })

-- what is kept for those who listen is looked at by none
pub sound-noted : (ns : Noted) (t : Talk) → IsSound t → IsSound (record t { noted = ns })
sound-noted ns t s = record { link = s.link; room = s.room; acting = s.acting; finish = s.finish; listed = s.listed; promises = s.promises; answers = s.answers; channels = s.channels }

-- ---- listed numbers

-- a channel that is listed has a number of at least 1
pub listed-some : (n : ℕ) (c : Channel) (es : List (ℕ × Channel)) → AscendFrom 0 (keys_of es) → at n es ≡ Some c → 0 < n
listed-some zero c es s h = let none : at 0 es ≡ None = none-below 0 es s in absurd cc
listed-some (suc n) c es s h = omega arith

-- Lines that are said one after another.
use Rattle.std.proofs.Common.{◌≡◌, ◌⊎◌, ◌+◌, ℕ, List, [], ◌++◌, length, take, Option, Some, None, option_map, Result, Ok, Err, IfErr, OnOk, OnErr, refl, sym, ap, ◌∙◌, subst, inl, inr, append_assoc, append-nil, arith}
use Rattle.std.proofs.Math.Seq.{take-append-add}
use Rattle.amqp_promise.specs.declared.error.ErrorKind.{ErrorKind}
use Rattle.amqp_replay.specs.Top.{TookAll, TookFront}
use Rattle.amqp_replay.specs.declared.status.TheConstants.{SINK_FAILED, FAILED, NO_MEMORY}
use Rattle.amqp_live.specs.Said.{connected_line, channel_line, closed_line, error_line, two_lines, all_lines, AreFrontLines, AreLines, IsChannelLine, SaysAll, SaysSome, SaysError, SaysFront}
use Rattle.amqp_uri.specs.declared.fault.UriFault.{UriFault}
use Rattle.amqp_uri.specs.declared.uri.AMQPUri.{AMQPUri}
use Rattle.amqp_live.specs.Ends.{IsReached, RefusesToConnect, Visits, Goes, TellsError}
use Rattle.amqp_live.specs.declared.live.Stop.{Stop}
use Rattle.amqp_live.specs.declared.live.Stop.TheVariants.{Unsaid, Unconnected, Failed}

-- one text after another
pub took-then : (a b : List ℕ) (before now later : Option (List ℕ)) → TookAll a before now → TookAll b now later
    → TookAll (a ++ b) before later
took-then a b None now later first more = more ∙ ap (option_map (λ held. held ++ b)) first
took-then a b (Some held) now later first more =
    more ∙ ap (option_map (λ held. held ++ b)) first ∙ ap Some (append_assoc held a b)

-- a front of a text after another text
pub front-then : (a b : List ℕ) (before now later : Option (List ℕ)) → TookAll a before now → TookFront b now later
    → TookFront (a ++ b) before later
front-then a b before now later first (k, more) =
    let P : List ℕ → Type 0 = λ x. TookAll x before later in
    (length a + k, subst P (sym (take-append-add a b k)) (took-then a (take k b) before now later first more))

-- nothing
pub took-nothing : (before now : Option (List ℕ)) → now ≡ before → TookAll [] before now
took-nothing None now same = same
took-nothing (Some held) now same = same ∙ ap Some (sym (append-nil held))

-- ---- the lines of a connection

pub says-connected : (before now : Option (List ℕ)) → TookAll connected_line before now → SaysSome before now
says-connected before now first = (connected_line, inr (inl refl), first)

-- the second line, whichever the channel's number is
pub took-channel : (line : List ℕ) (before now later : Option (List ℕ)) → IsChannelLine line
    → TookAll connected_line before now → TookAll line now later → (id : ℕ) × TookAll (two_lines id) before later
took-channel line before now later (id, is) first more =
    let P : List ℕ → Type 0 = λ x. TookAll x now later in
    (id, took-then connected_line (channel_line id) before now later first (subst P is more))

pub says-channel : (before now : Option (List ℕ)) → ((id : ℕ) × TookAll (two_lines id) before now) → SaysSome before now
says-channel before now (id, first) = (two_lines id, inr (inr (id, refl)), first)

pub front-channel : (line : List ℕ) (before now later : Option (List ℕ)) → IsChannelLine line
    → TookAll connected_line before now → TookFront line now later → SaysFront before later
front-channel line before now later (id, is) first more =
    let P : List ℕ → Type 0 = λ x. TookFront x now later in (
      two_lines id,
      inr (inl (inr (inr (id, refl)))),
      front-then connected_line (channel_line id) before now later first (subst P is more),
    )

-- the third line
pub says-closed : (before now later : Option (List ℕ)) → ((id : ℕ) × TookAll (two_lines id) before now)
    → TookAll closed_line now later → SaysAll before later
says-closed before now later (id, first) more = (id, took-then (two_lines id) closed_line before now later first more)

pub front-closed : (before now later : Option (List ℕ)) → ((id : ℕ) × TookAll (two_lines id) before now)
    → TookFront closed_line now later → SaysFront before later
front-closed before now later (id, first) more =
    (all_lines id, inl (id, refl), front-then (two_lines id) closed_line before now later first more)

pub visits-last : (before now later : Option (List ℕ)) (answer : Result (Unit {0}) Stop)
    → ((id : ℕ) × TookAll (two_lines id) before now) → OnOk answer (TookAll closed_line now later)
    → IfErr answer (λ stop. stop ≡ Unsaid) → OnErr answer (TookFront closed_line now later) → Visits before later answer
visits-last before now later (Ok done) first ok only front = says-closed before now later first ok
visits-last before now later (Err stop) first ok only front =
    let P : Stop → Type 0 = λ x. Visits before later (Err x) in
    subst P (sym only) (front-closed before now later first front)

-- ---- an error, after some of the lines

pub says-error : (e : ErrorKind) (before now later : Option (List ℕ)) (status : ℕ) → status ≡ FAILED
    → SaysSome before now → TellsError e now later status → SaysError e before later
says-error e before now later status is (text, some, first) (inl tells) =
    (text, some, took-then text (error_line e) before now later first tells.1)
says-error e before now later status is said (inr (inl tells)) = absurd (omega (arith, is, tells.0))
says-error e before now later status is said (inr (inr tells)) = absurd (omega (arith, is, tells.0))

pub says-no_more : (e : ErrorKind) (before now later : Option (List ℕ)) (status : ℕ) → status ≡ NO_MEMORY
    → SaysSome before now → TellsError e now later status → SaysSome before later
says-no_more e before now later status is said (inl tells) = absurd (omega (arith, is, tells.0))
says-no_more e before now later status is said (inr (inl tells)) =
    let P : Option (List ℕ) → Type 0 = λ x. SaysSome before x in
    subst P (sym tells.1) said
says-no_more e before now later status is said (inr (inr tells)) = absurd (omega (arith, is, tells.0))

-- or still nothing
pub still-nothing : (e : ErrorKind) (before now later : Option (List ℕ)) (status : ℕ) → status ≡ NO_MEMORY
    → now ≡ before → TellsError e now later status → later ≡ before
still-nothing e before now later status is same (inl tells) = absurd (omega (arith, is, tells.0))
still-nothing e before now later status is same (inr (inl tells)) = tells.1 ∙ same
still-nothing e before now later status is same (inr (inr tells)) = absurd (omega (arith, is, tells.0))

pub front-error : (e : ErrorKind) (before now later : Option (List ℕ)) (status : ℕ) → status ≡ SINK_FAILED
    → SaysSome before now → TellsError e now later status → SaysFront before later
front-error e before now later status is said (inl tells) = absurd (omega (arith, is, tells.0))
front-error e before now later status is said (inr (inl tells)) = absurd (omega (arith, is, tells.0))
front-error e before now later status is (text, some, first) (inr (inr tells)) = (
  text ++ error_line e,
  inr (inr (text, e, some, refl)),
  front-then text (error_line e) before now later first tells.1,
)

-- the same, of a sink that had taken nothing before
pub front-first : (e : ErrorKind) (before now later : Option (List ℕ)) (status : ℕ) → status ≡ SINK_FAILED
    → now ≡ before → TellsError e now later status → TookFront (error_line e) before later
front-first e before now later status is same (inl tells) = absurd (omega (arith, is, tells.0))
front-first e before now later status is same (inr (inl tells)) = absurd (omega (arith, is, tells.0))
front-first e before now later status is same (inr (inr tells)) =
    let P : Option (List ℕ) → Type 0 = λ x. TookFront (error_line e) x later in
    subst P same tells.1

-- ---- how connecting and a visit went, where it is known why they went no further

pub goes-failed : (known : Result AMQPUri UriFault) (n m k l : ℕ) (before now : Option (List ℕ)) (stop : Stop) (e : ErrorKind)
    → stop ≡ Failed e → Goes known n m k l before now (Err stop) → IsReached known k l × SaysSome before now
goes-failed known n m k l before now stop e is goes =
    let P : Stop → Type 0 = λ x. Goes known n m k l before now (Err x) in
    subst P is goes

pub goes-unsaid : (known : Result AMQPUri UriFault) (n m k l : ℕ) (before now : Option (List ℕ)) (stop : Stop)
    → stop ≡ Unsaid → Goes known n m k l before now (Err stop) → IsReached known k l × SaysFront before now
goes-unsaid known n m k l before now stop is goes =
    let P : Stop → Type 0 = λ x. Goes known n m k l before now (Err x) in
    subst P is goes

pub goes-unconnected : (known : Result AMQPUri UriFault) (n m k l : ℕ) (before now : Option (List ℕ)) (stop : Stop) (e : ErrorKind)
    → stop ≡ Unconnected e → Goes known n m k l before now (Err stop) → RefusesToConnect known n m e × (now ≡ before)
goes-unconnected known n m k l before now stop e is goes =
    let P : Stop → Type 0 = λ x. Goes known n m k l before now (Err x) in
    subst P is goes

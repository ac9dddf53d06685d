-- No heartbeat is missed where the server is timely.
use Rattle.std.proofs.Common.{◌≡◌, ◌≢◌, ◌≤◌, inl, inr, ℕ, zero, suc, ◌*◌, ◌-◌, ◌==◌, ◌&&◌, not, nat_lt, max, if◌then◌else◌, Bool, true, false, List, [], ◌∷◌, ◌++◌, Some, refl, ap, sym, ◌∙◌, subst, arith}
use Rattle.std.proofs.lemmas.Bool.Decides.{nat_tests}
use Rattle.std.specs.List.{flat_map}
use Rattle.amqp_rules.specs.Talk.{Talk, has_ended}
use Rattle.amqp_rules.specs.Changes.{present_at}
use Rattle.amqp_rules.specs.Ticks.{is_connected, is_missed, tick}
use Rattle.amqp_types.proofs.Small.{if-false}
use Rattle.amqp_faultless.proofs.Clock.{IsClock}
use Rattle.amqp_engine.specs.declared.port.Step.TheVariants.{Tick}
use Rattle.amqp_engine.specs.Turn.{Turn, is_piece}
use Rattle.amqp_engine.specs.Account.{IsNew}
use Rattle.amqp_engine.specs.Sending.{frames_sent, sendings}
use Rattle.amqp_engine.specs.Valid.{IsTimely, agreed_heartbeat, last_piece}

-- the moment of the last piece, once one more turn was taken
pub last-piece-next : (moment : ℕ) (us : List Turn) (u : Turn) → last_piece moment (us ++ u ∷ []) ≡ (if is_piece u.step then u.at else last_piece moment us)
last-piece-next moment [] u = refl
last-piece-next moment (v ∷ us) u = last-piece-next (if is_piece v.step then v.at else moment) us u

-- ---- a tick

-- so long a silence is not too long
not-missed : (connected : Bool) (heartbeat silence : ℕ) → (connected ≡ true → heartbeat ≢ 0 → silence ≤ 2000 * heartbeat)
    → ((connected && not (heartbeat == 0)) && nat_lt (heartbeat * 2000) silence) ≡ false
not-missed false heartbeat silence within = refl
not-missed true zero silence within = refl
not-missed true (suc n) silence within =
    let short : silence ≤ 2000 * suc n = within refl (λ is. absurd cc) in
    grind (arith, nat_tests, short)

-- a new session was told nothing
pub clock-new : (t : Talk) → IsNew t → IsClock 0 0 t
clock-new t (config, inl is) =
    let P : Talk → Type 0 = IsClock 0 0 in
    subst P (sym is) (omega arith, omega arith)
clock-new t (config, inr is) =
    let P : Talk → Type 0 = IsClock 0 0 in
    subst P (sym is) (omega arith, omega arith)

-- at a tick of timely turns no heartbeat is missed, where the last piece counts as read, and the heartbeat is the one that was agreed
pub timely-tick : (s : Talk) (us before later : List Turn) (u : Turn) (moment : ℕ) (t : Talk) → IsTimely s us → us ≡ before ++ u ∷ later → u.step ≡ Tick
    → has_ended t ≡ false → moment ≤ u.at → IsClock moment (last_piece 0 before) t
    → (is_connected t.state ≡ true → agreed_heartbeat (flat_map frames_sent (sendings s before)) ≡ Some t.configuration.heartbeat)
    → is_missed (present_at u.at t) ≡ false
timely-tick s us before later u moment t timely is tick running rise clock agreed =
    let short : (is_connected t.state ≡ true) → t.configuration.heartbeat ≢ 0 → max t.present u.at - t.last_read ≤ 2000 * t.configuration.heartbeat =
    λ connected some.
    let within : u.at - last_piece 0 before ≤ 2000 * t.configuration.heartbeat = timely before later u t.configuration.heartbeat is tick (agreed connected) some in
    omega (arith, within, rise, clock.0, clock.1) in
    ap is_missed (if-false (has_ended t) t (record t { present = max t.present u.at }) running)
    ∙ not-missed (is_connected t.state) t.configuration.heartbeat (max t.present u.at - t.last_read) short

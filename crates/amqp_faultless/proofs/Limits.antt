-- How long a frame may be, by how far the server is; and where the session is then.
use Rattle.std.proofs.Common.{◌≡◌, ◌≢◌, ◌≤◌, ◌⊎◌, inl, inr, ℕ, zero, suc, ◌==◌, if◌then◌else◌, Bool, true, false, true≢false, List, Some, None, refl, ap, sym, ◌∙◌, subst, arith}
use Rattle.std.specs.Prelude.{min}
use Rattle.amqp_frame.specs.declared.frame.Frame.{Frame}
use Rattle.amqp_frame.specs.declared.frame.Frame.TheVariants.{Method, Raw, Heartbeat}
use Rattle.amqp_frame.specs.declared.method.Method.TheVariants.{Start, Secure, Tune, OpenOk, Close, CloseOk, Blocked, Unblocked, UpdateSecretOk}
use Rattle.amqp_promise.specs.declared.state.ConnectionState.{ConnectionState}
use Rattle.amqp_promise.specs.declared.state.ConnectionState.TheVariants.{Initial, Connecting, Connected, Closing, Closed, Reconnecting, Error}
use Rattle.amqp_rules.specs.declared.state.Phase.{Phase}
use Rattle.amqp_rules.specs.declared.state.Phase.TheVariants.{AwaitStart, AwaitTune, AwaitOpenOk}
use Rattle.amqp_rules.specs.Talk.{Talk}
use Rattle.amqp_rules.specs.Negotiation.{frame_limit}
use Rattle.amqp_outbox.specs.Queued.{Queued}
use Rattle.amqp_outgoing.specs.declared.committed.Mark.{Mark}
use Rattle.amqp_faultless.specs.Faultless.{ServerStage, Server, opens_connection, is_frame_max, answers_to, serves, heard_from}
use Rattle.amqp_faultless.specs.Faultless.ServerStage.{BeforeStart, BeforeTune, BeforeOpenOk, Serving, Gone}
use Rattle.amqp_faultless.proofs.Served.{given-by, less-by, Channels}
use Rattle.amqp_faultless.proofs.Greeted.{IsMet, IsLimited, Meets}
use Rattle.amqp_faultless.proofs.WhileOpen.{serves-on-keeps}
use Rattle.amqp_types.proofs.Small.{some_is}

-- ---- how long a frame may be

limit-of : (t : Talk) (most : ℕ) → most ≤ t.capacity → (t.configuration.frame_max ≢ 0 → most ≤ t.configuration.frame_max) → most ≤ frame_limit t
limit-of t most room agreed = by (t.configuration.frame_max == 0) refl where
  by : (b : Bool) → (t.configuration.frame_max == 0) ≡ b → most ≤ min t.capacity (if b then t.capacity else t.configuration.frame_max)
  by true is = omega (arith, room)
  by false is =
      let some : t.configuration.frame_max ≢ 0 = λ none. true≢false (sym (ap (λ n. n == 0) none) ∙ is) in
      let a = agreed some in omega (arith, room, a)

-- as long as every peer takes
pub met-least : (s : Server) (t : Talk) → IsMet s t → 4096 ≤ frame_limit t
met-least s t m = by t.state t.phase m.limit where
  either : (f : ℕ) → (f ≡ 0) ⊎ (4096 ≤ f) → f ≢ 0 → 4096 ≤ f
  either f (inl none) some = absurd (some none)
  either f (inr least) some = least

  by : (st : ConnectionState) (p : Phase) → IsLimited st p t.capacity t.configuration.frame_max → 4096 ≤ frame_limit t
  by Connecting AwaitOpenOk h = limit-of t 4096 (let a = h.0 in omega (arith, a)) (λ some. h.1)
  by Connecting AwaitStart h = limit-of t 4096 (let a = h.0 in omega (arith, a)) (either t.configuration.frame_max h.1)
  by Connecting AwaitTune h = limit-of t 4096 (let a = h.0 in omega (arith, a)) (either t.configuration.frame_max h.1)
  by Initial p h = limit-of t 4096 (let a = h.1 in omega (arith, a)) (λ some. h.0)
  by Connected p h = limit-of t 4096 (let a = h.1 in omega (arith, a)) (λ some. h.0)
  by Closing p h = limit-of t 4096 (let a = h.1 in omega (arith, a)) (λ some. h.0)
  by Closed p h = limit-of t 4096 (let a = h.1 in omega (arith, a)) (λ some. h.0)
  by Reconnecting p h = limit-of t 4096 (let a = h.1 in omega (arith, a)) (λ some. h.0)
  by Error p h = limit-of t 4096 (let a = h.1 in omega (arith, a)) (λ some. h.0)

-- once the connection is open, as long as was agreed
pub met-agreed : (s : Server) (t : Talk) → IsMet s t → t.state ≢ Connecting → min 134217728 t.configuration.frame_max ≤ frame_limit t
met-agreed s t m opened = by t.state t.phase refl m.limit where
  by : (st : ConnectionState) (p : Phase) → t.state ≡ st → IsLimited st p t.capacity t.configuration.frame_max → min 134217728 t.configuration.frame_max ≤ frame_limit t
  by Connecting p is h = absurd (opened is)
  by Initial p is h = limit-of t (min 134217728 t.configuration.frame_max) h.2 (λ some. omega arith)
  by Connected p is h = limit-of t (min 134217728 t.configuration.frame_max) h.2 (λ some. omega arith)
  by Closing p is h = limit-of t (min 134217728 t.configuration.frame_max) h.2 (λ some. omega arith)
  by Closed p is h = limit-of t (min 134217728 t.configuration.frame_max) h.2 (λ some. omega arith)
  by Reconnecting p is h = limit-of t (min 134217728 t.configuration.frame_max) h.2 (λ some. omega arith)
  by Error p is h = limit-of t (min 134217728 t.configuration.frame_max) h.2 (λ some. omega arith)

-- ---- by how far the server is

-- how long its frames are at most
abbrev pub limit_at : ℕ → ServerStage → ℕ
limit_at agreed Serving = agreed
limit_at agreed Gone = agreed
limit_at agreed _ = 4096

-- a server that serves serves on, or is gone
pub serves-stage : (f : Frame) (s s' : Server) → s.stage ≡ Serving → serves f s ≡ Some s' → (s'.stage ≡ Serving) ⊎ (s'.stage ≡ Gone)
serves-stage Heartbeat s s' is h = let P : Server → Type 0 = λ x. (x.stage ≡ Serving) ⊎ (x.stage ≡ Gone) in subst P (some_is s s' h) (inl is)
serves-stage (Method zero (Blocked reason)) s s' is h =
    let P : Server → Type 0 = λ x. (x.stage ≡ Serving) ⊎ (x.stage ≡ Gone) in subst P (some_is (record s { blocked = true }) s' h) (inl is)
serves-stage (Method zero Unblocked) s s' is h =
    let P : Server → Type 0 = λ x. (x.stage ≡ Serving) ⊎ (x.stage ≡ Gone) in subst P (some_is (record s { blocked = false }) s' h) (inl is)
serves-stage (Method zero UpdateSecretOk) s s' is h =
    let P : Server → Type 0 = λ x. (x.stage ≡ Serving) ⊎ (x.stage ≡ Gone) in
    let g = less-by s.secrets (λ left. record s { secrets = left }) s' h in subst P g.2 (inl is)
serves-stage (Method zero CloseOk) s s' is h =
    let P : Server → Type 0 = λ x. (x.stage ≡ Serving) ⊎ (x.stage ≡ Gone) in
    let g = given-by s.closing (record s { stage = Gone }) s' h in subst P g.1 (inr refl)
serves-stage (Method zero (Close code text class method)) s s' is h =
    let P : Server → Type 0 = λ x. (x.stage ≡ Serving) ⊎ (x.stage ≡ Gone) in
    let g = given-by _ (record s { stage = Gone }) s' h in subst P g.1 (inr refl)
serves-stage (Method (suc k) m) s s' is h = inl ((serves-on-keeps (suc k) (s.uses (suc k)) (Method (suc k) m) s s' h).1 ∙ is)
serves-stage (Raw (suc k) kind bytes) s s' is h = inl ((serves-on-keeps (suc k) (s.uses (suc k)) (Raw (suc k) kind bytes) s s' h).1 ∙ is)
serves-stage f s s' is h = absurd cc

-- what is said after it is gone
pub gone-none : (f : Frame) (s : Server) → s.stage ≡ Gone → heard_from s.stage f s ≡ None
gone-none f s is = ap (λ x. heard_from x f s) is ∙ none f where
  none : (f : Frame) → heard_from Gone f s ≡ None
  none f = refl

-- open-ok alone changes how long frames are
pub stage-limit : (agreed : ℕ) (f : Frame) (s s' : Server) → heard_from s.stage f s ≡ Some s' → (if opens_connection f then agreed else limit_at agreed s.stage) ≡ limit_at agreed s'.stage
stage-limit agreed f s s' h = by s.stage refl h where
  start : (f : Frame) → heard_from BeforeStart f s ≡ Some s' → (if opens_connection f then agreed else 4096) ≡ limit_at agreed s'.stage
  start (Method zero (Start a b c d e)) h = let Q : Server → Type 0 = λ x. 4096 ≡ limit_at agreed x.stage in subst Q (some_is (record s { stage = BeforeTune }) s' h) refl
  start f h = absurd cc

  tune : (f : Frame) → heard_from BeforeTune f s ≡ Some s' → (if opens_connection f then agreed else 4096) ≡ limit_at agreed s'.stage
  tune (Method zero (Secure a)) h =
      let Q : Server → Type 0 = λ x. 4096 ≡ limit_at agreed x.stage in subst Q (given-by s.asked (record s { stage = BeforeTune; asked = false }) s' h).1 refl
  tune (Method zero (Tune a b c)) h = may (is_frame_max b) h where
    may : (x : Bool) → (if x then answers_to BeforeOpenOk s else None) ≡ Some s' → 4096 ≡ limit_at agreed s'.stage
    may true h = let Q : Server → Type 0 = λ x. 4096 ≡ limit_at agreed x.stage in subst Q (given-by s.asked (record s { stage = BeforeOpenOk; asked = false }) s' h).1 refl
    may false h = absurd cc
  tune f h = absurd cc

  open_ok : (f : Frame) → s.stage ≡ BeforeOpenOk → heard_from BeforeOpenOk f s ≡ Some s' → (if opens_connection f then agreed else 4096) ≡ limit_at agreed s'.stage
  open_ok Heartbeat is h = let Q : Server → Type 0 = λ x. 4096 ≡ limit_at agreed x.stage in subst Q (some_is s s' h) (sym (ap (limit_at agreed) is))
  open_ok (Method zero OpenOk) is h =
      let Q : Server → Type 0 = λ x. agreed ≡ limit_at agreed x.stage in subst Q (given-by s.asked (record s { stage = Serving; asked = false }) s' h).1 refl
  open_ok f is h = absurd cc

  either : (b : Bool) (st : ServerStage) → (st ≡ Serving) ⊎ (st ≡ Gone) → (if b then agreed else agreed) ≡ limit_at agreed st
  either true st (inl is) = sym (ap (limit_at agreed) is)
  either true st (inr is) = sym (ap (limit_at agreed) is)
  either false st (inl is) = sym (ap (limit_at agreed) is)
  either false st (inr is) = sym (ap (limit_at agreed) is)

  by : (st : ServerStage) → s.stage ≡ st → heard_from st f s ≡ Some s' → (if opens_connection f then agreed else limit_at agreed st) ≡ limit_at agreed s'.stage
  by BeforeStart is h = start f h
  by BeforeTune is h = tune f h
  by BeforeOpenOk is h = open_ok f is h
  by Serving is h = either (opens_connection f) s'.stage (serves-stage f s s' is h)
  by Gone is h = absurd (let k : None ≡ Some s' = sym (ap (λ x. heard_from x f s) (sym is) ∙ gone-none f s is) ∙ h in cc)

-- ---- where the session is, by how far the server is

-- while it serves, the connection is open
pub met-open : (st : ConnectionState) (p : Phase) (s : Server) (q : Queued) (cs : Channels) (ms : List Mark) → Meets st p s q cs ms → s.stage ≡ Serving → st ≢ Connecting
met-open Connecting AwaitStart s q cs ms h serves same = absurd (let bad : BeforeStart ≡ Serving = sym h.at_stage ∙ serves in cc)
met-open Connecting AwaitTune s q cs ms h serves same = absurd (let bad : BeforeTune ≡ Serving = sym h.at_stage ∙ serves in cc)
met-open Connecting AwaitOpenOk s q cs ms h serves same = absurd (let bad : BeforeOpenOk ≡ Serving = sym h.at_stage ∙ serves in cc)
met-open Connected p s q cs ms h serves same = cc
met-open Closing p s q cs ms h serves same = cc
met-open st p s q cs ms h serves same = absurd h

-- a server that is gone is not met
pub met-gone : (st : ConnectionState) (p : Phase) (s : Server) (q : Queued) (cs : Channels) (ms : List Mark) → Meets st p s q cs ms → s.stage ≢ Gone
met-gone Connecting AwaitStart s q cs ms h gone = absurd (let bad : BeforeStart ≡ Gone = sym h.at_stage ∙ gone in cc)
met-gone Connecting AwaitTune s q cs ms h gone = absurd (let bad : BeforeTune ≡ Gone = sym h.at_stage ∙ gone in cc)
met-gone Connecting AwaitOpenOk s q cs ms h gone = absurd (let bad : BeforeOpenOk ≡ Gone = sym h.at_stage ∙ gone in cc)
met-gone Connected p s q cs ms h gone = absurd (let bad : Serving ≡ Gone = sym h.stage ∙ gone in cc)
met-gone Closing p s q cs ms h gone = absurd (let bad : Serving ≡ Gone = sym h ∙ gone in cc)
met-gone st p s q cs ms h gone = absurd h

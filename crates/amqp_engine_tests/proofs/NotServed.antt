-- How a server is shown to be none that is faultless.
use Rattle.std.proofs.Common.{◌≡◌, ◌≢◌, List, Some, None, ap, sym, ◌∙◌}
use Rattle.amqp_faultless.specs.Faultless.{Server, silent}
use Rattle.amqp_faultless.specs.Faultless.ServerStage.{Gone}
use Rattle.amqp_engine.specs.Valid.{LinkSaying, after_sayings, IsServed}

-- a server said what it may not
pub not-served : (sayings : List LinkSaying) → after_sayings sayings (Some silent) ≡ None → IsServed sayings → ⊥
not-served sayings never served =
    let both : Some served.server ≡ None = sym served.said ∙ never in
    cc

-- it said what it may, and is not gone
pub not-gone : (sayings : List LinkSaying) (server : Server) → after_sayings sayings (Some silent) ≡ Some server → server.stage ≢ Gone
    → IsServed sayings → ⊥
not-gone sayings server is here served =
    let both : Some served.server ≡ Some server = sym served.said ∙ is in
    let same : served.server ≡ server = cc in
    here (ap (λ (s : Server). s.stage) (sym same) ∙ served.gone)

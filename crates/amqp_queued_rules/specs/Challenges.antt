-- A secure-ok waits only after a challenge was read.
use Rattle.std.specs.Prelude.{◌≡◌, ℕ, Bool, true, false, List}
use Rattle.amqp_frame.specs.declared.frame.Frame.{Frame}
use Rattle.amqp_frame.specs.declared.frame.Frame.TheVariants.{Method}
use Rattle.amqp_frame.specs.declared.method.Method.TheVariants.{Secure, SecureOk}
use Rattle.amqp_outbox.specs.declared.item.Item.{Item}
use Rattle.amqp_auth.specs.declared.asked.Asked.{Asked}
use Rattle.amqp_promise.specs.declared.io_fault.IoFault.{IoFault}
use Rattle.amqp_commands.specs.declared.command.Cmd.{Cmd}
use Rattle.amqp_violations.specs.declared.misread.Misread.{Misread}
use Rattle.amqp_rules.specs.Talk.{Talk}
use Rattle.amqp_rules.specs.Changes as change
use Rattle.amqp_rules.specs.Links as link
use Rattle.amqp_rules.specs.Frames.{on_frame}
use Rattle.amqp_rules.specs.Commands as told
use Rattle.amqp_rules.specs.Ticks as ticks
use Rattle.amqp_rules.specs.Writing as writing
use Rattle.amqp_queued_rules.specs.Queues.{Waits}

-- a challenge of the server
abbrev pub is_challenge : Frame → Bool
is_challenge (Method n (Secure challenge)) = true
is_challenge f = false

-- a frame that is no secure-ok
abbrev pub IsNoSecureOk : Frame → Type 0
IsNoSecureOk (Method n (SecureOk response)) = ⊥
IsNoSecureOk f = Unit {0}

-- no secure-ok waits
abbrev pub Unchallenged : Talk → Type 0
Unchallenged t = Waits (λ (item : Item). IsNoSecureOk item.frame) t.outbox

-- where no secure-ok waits, none waits after any rule but that of a challenge
pub record StaysUnchallenged (t : Talk) : Type 0 where
  pub linked : Unchallenged (link.linked t)
  pub frame : (f : Frame) (answers : List Asked) → is_challenge f ≡ false → Unchallenged (on_frame f answers t)
  pub command : (c : Cmd) → Unchallenged (told.command c t)
  pub tick : (answers : List Asked) → Unchallenged (ticks.tick answers t)
  pub moment : (at : ℕ) → Unchallenged (change.present_at at t)
  pub starve : Unchallenged (change.starve t)
  pub asked : Unchallenged (link.asked t)
  pub link_failed : Unchallenged (link.link_failed t)
  pub piece : Unchallenged (link.piece t)
  pub misread : (why : Misread) → Unchallenged (link.misread why t)
  pub lost : (fault : IoFault) → Unchallenged (link.lost fault t)
  pub next : (space : ℕ) → Unchallenged (writing.next_frame space t)
  pub taken : (n : ℕ) → Unchallenged (writing.taken n t)

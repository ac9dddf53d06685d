-- What is seen of idle channels, and which of them stay.
use Rattle.std.specs.Prelude.{◌≡◌, ◌&&◌, ℕ, Bool, false, not, List, find, length, Option, Some, None}
use Rattle.amqp_commands.specs.declared.command.ChanRef.{ChanRef}
use Rattle.amqp_rules.specs.Talk.{Talk}
use Rattle.amqp_pool.specs.declared.looking.Seen.{Seen}
use Rattle.amqp_pool.specs.declared.looking.Seen.TheVariants.{Ready, Waiting}
use Rattle.amqp_pool.specs.Lost.{is_lost, is_ready, without_lost}
use Rattle.amqp_pool.specs.Pooled.{is_same_channel}

-- what is seen: the first that is ready, or that none is and how many are not lost
abbrev pub Sees : Talk → List ChanRef → Seen → Type 0
Sees t idle (Ready r) = find (is_ready t) (without_lost t idle) ≡ Some r
Sees t idle (Waiting n) = (find (is_ready t) (without_lost t idle) ≡ None) × (n ≡ length (without_lost t idle))

-- a channel is the one that is taken, where one is
abbrev pub is_taken : Option ChanRef → ChanRef → Bool
is_taken None r = false
is_taken (Some s) r = is_same_channel s r

-- a channel stays among the idle: it is not lost, and not taken
abbrev pub stays_idle : Talk → Option ChanRef → ChanRef → Bool
stays_idle t taken r = not (is_lost t r) && not (is_taken taken r)

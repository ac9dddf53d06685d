-- Errors that several promises share: each is kept once, by a number, with the count of the promises that hold it. One
-- may be awaited: that by which the link will be lost. A promise that shares it waits.
use Rattle.std.specs.Prelude.{◌≡◌, ℕ, zero, suc, ◌≤◌, ◌==◌, not, if◌then◌else◌, Bool, true, false, List, Option, Some, None, option_map, unwrap_or}
use Rattle.std.specs.Option.{is_none}
use Rattle.std.specs.List.{sum_by}
use Rattle.std.specs.Map.{values_of}
use Rattle.amqp_promise.specs.declared.error.ErrorKind.{ErrorKind}
use Rattle.amqp_answers.specs.declared.shared_errors.SharedError.{SharedError}
use Rattle.amqp_answers.specs.declared.promises.Slot.{Slot}
use Rattle.amqp_answers.specs.declared.promises.Slot.TheVariants.{Waiting, Shared}
use Rattle.amqp_maps.specs.Listed.{at}

-- ---- what is kept

-- what is kept under a number: an error, or none yet where it is awaited
abbrev pub shared_at : ℕ → List (ℕ × SharedError) → Option (Option ErrorKind)
shared_at n errors = option_map (λ shared. shared.error) (at n errors)

-- the error of a number, where it is kept
abbrev pub error_at : ℕ → List (ℕ × SharedError) → Option ErrorKind
error_at n errors = unwrap_or (shared_at n errors) None

-- the error of a number is awaited
abbrev pub is_error_awaited : ℕ → List (ℕ × SharedError) → Bool
is_error_awaited n errors = unwrap_or (option_map is_none (shared_at n errors)) false

-- what stays of what is kept, where no promise holds it: an error goes
abbrev pub unheld : Option (Option ErrorKind) → Option (Option ErrorKind)
unheld (Some None) = Some None
unheld _ = None

-- how many promises hold the error of a number
abbrev pub holders_at : ℕ → List (ℕ × SharedError) → ℕ
holders_at n errors = unwrap_or (option_map (λ shared. shared.holders) (at n errors)) 0

-- how often a promise holds the error of a number: once, where it shares it
abbrev pub holds : ℕ → Slot → ℕ
holds n (Shared number) = if number == n then 1 else 0
holds n slot = 0

-- the same of a promise that may be none
abbrev pub holds_any : ℕ → Option Slot → ℕ
holds_any n slot = unwrap_or (option_map (holds n) slot) 0

-- as many hold an error as promises share it
abbrev pub AreCounted : List (ℕ × Slot) → List (ℕ × SharedError) → Type 0
AreCounted slots errors = (n : ℕ) → holders_at n errors ≡ sum_by (holds n) (values_of slots)

-- what is held is what it was
abbrev pub KeepsHeld : List (ℕ × SharedError) → List (ℕ × SharedError) → Type 0
KeepsHeld before after = (n : ℕ) → 1 ≤ holders_at n after → shared_at n after ≡ shared_at n before

-- an error that lost its last holder is kept no more
abbrev pub FreesUnheld : List (ℕ × SharedError) → List (ℕ × SharedError) → Type 0
FreesUnheld before after = (n : ℕ) → 1 ≤ holders_at n before → holders_at n after ≡ 0 → error_at n after ≡ None

-- ---- what is awaited

-- a number is that of the error by which the link will be lost
abbrev pub is_loss_number : Option ℕ → ℕ → Bool
is_loss_number None n = false
is_loss_number (Some loss) n = loss == n

-- the error by which the link will be lost is awaited, and no other
abbrev pub AwaitsLoss : Option ℕ → List (ℕ × SharedError) → Type 0
AwaitsLoss loss errors = (n : ℕ) → is_error_awaited n errors ≡ is_loss_number loss n

-- a promise waits: of itself, or for an error
abbrev pub waits : List (ℕ × SharedError) → Slot → Bool
waits errors Waiting = true
waits errors (Shared number) = is_error_awaited number errors
waits errors slot = false

-- the same of a promise that may be none
abbrev pub any_waits : List (ℕ × SharedError) → Option Slot → Bool
any_waits errors slot = unwrap_or (option_map (waits errors) slot) false

-- a promise suits its number: where it waits it shares the error by which the link will be lost, but that of the
-- connection, number 0, waits of itself
abbrev pub suits : List (ℕ × SharedError) → Option Slot → ℕ → Bool
suits errors (Some Waiting) (suc n) = false
suits errors (Some (Shared number)) zero = not (is_error_awaited number errors)
suits errors slot n = true

-- each promise suits its number
abbrev pub AllSuit : List (ℕ × Slot) → List (ℕ × SharedError) → Type 0
AllSuit slots errors = (n : ℕ) → suits errors (at n slots) n ≡ true

-- what a promise is that is made: it waits
abbrev pub new_slot : ℕ → Option ℕ → Slot
new_slot (suc number) (Some loss) = Shared loss
new_slot number loss = Waiting

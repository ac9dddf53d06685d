-- What is known of both ends before they are joined: their address and numbers can be said, a login is short, and the
-- turns of the plan can be counted.
use Rattle.std.proofs.Common.{◌≡◌, ◌≤◌, ◌<◌, sym, refl, subst, ℕ, zero, suc, ◌+◌, ◌-◌, ◌*◌, ◌%◌, ◌^◌, [], length, map, replicate, sum_by, arith}
use Rattle.std.specs.List.{range_with_len}
use Rattle.std.proofs.Math.Nat.{mod-lt}
use Rattle.std.proofs.lemmas.List.{length-replicate}
use Rattle.std.proofs.lemmas.List.Sums.{sum_by-cons, sum_by-append}
use Rattle.amqp_uri.specs.Address.{local}
use Rattle.amqp_auth.specs.DefaultAnswers.{DefaultAuth, default_of, default_answer, AnswersEach}
use Rattle.amqp_commands.specs.declared.command.Cmd.TheVariants.{OpenChannel}
use Rattle.amqp_settings.specs.Config.{config_of, no_options}
use Rattle.amqp_written_rules.specs.Sayable.{CanBeSaid}
use Rattle.amqp_written_rules.proofs.Introducing.{properties-said}
use Rattle.amqp_joining.specs.Plans.{IsPlan, command_turns, turns_of}
use Rattle.amqp_both_ends.specs.Logins.{SaysLogins}
use Rattle.amqp_both_ends.proofs.DefaultLogins.{default-says}
use Rattle.amqp_doubled.specs.Numbers.{hello_command, doubled_plan}

-- ---- what the provider answers

-- the provider of the address of this machine
pub guest-says : (p : DefaultAuth) → p ≡ default_of local → SaysLogins no_options (AnswersEach (default_answer p.mechanism p.login))
guest-says p is =
    let d = default_of local in
    subst (λ (x : DefaultAuth). SaysLogins no_options (AnswersEach (default_answer x.mechanism x.login))) (sym is) (default-says no_options d.mechanism d.login (omega arith))

-- ---- the address

pub local-said : CanBeSaid (config_of local no_options)
local-said = record { numbers = (omega arith, omega arith, omega arith); vhost = omega arith; locale = omega arith; properties = properties-said [] (tt, tt) }

-- ---- the turns

hello-most : (id : ℕ) → command_turns (hello_command id) ≤ 20000
hello-most id =
    let zero_octet : ℕ = 0 in
    let size : length (replicate (id * 7919 % 9000) zero_octet) ≡ id * 7919 % 9000 = length-replicate (id * 7919 % 9000) zero_octet in
    let less : id * 7919 % 9000 < 9000 = mod-lt (id * 7919) (omega arith) in
    omega (arith, size, less)

hellos-most : (n from : ℕ) → sum_by command_turns (map hello_command (range_with_len from n)) ≤ 20000 * n
hellos-most zero from = omega arith
hellos-most (suc n) from =
    let one = sum_by-cons command_turns (hello_command from) (map hello_command (range_with_len (from + 1) n)) in
    let first = hello-most from in
    let rest = hellos-most n (from + 1) in
    omega (arith, one, first, rest)

openings : (n : ℕ) → sum_by command_turns (replicate n OpenChannel) ≡ 81 * n
openings zero = refl
openings (suc n) =
    let one = sum_by-cons command_turns OpenChannel (replicate n OpenChannel) in
    let rest = openings n in
    omega (arith, one, rest)

pub doubled-counted : (count : ℕ) → count ≤ 2000 → turns_of (doubled_plan count) < 2 ^ 64 - 1
doubled-counted count few =
    let all = sum_by-append command_turns (replicate count OpenChannel) (map hello_command (range_with_len 1 count)) in
    let first = openings count in
    let rest = hellos-most count 1 in
    omega (arith, all, first, rest, few)

pub doubled-is : (count : ℕ) → IsPlan (doubled_plan count)
doubled-is count = record { some_cuts = λ h. cc; some_rooms = λ h. cc; cuts = ((omega arith, omega arith), ((omega arith, omega arith), ((omega arith, omega arith), tt))); rooms = (omega arith, (omega arith, (omega arith, tt))) }

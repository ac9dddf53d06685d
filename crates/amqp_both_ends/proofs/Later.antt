-- What a joined port tells once its link was told: room, a piece, a command, or a tick.
use Rattle.std.proofs.Common.{◌≡◌, ◌∙◌, ap, sym, refl, ◌==◌, ◌&&◌, not, if◌then◌else◌, Bool, true, false, List, [], ◌∷◌, length, take}
use Rattle.amqp_types.proofs.Small.{if_case, if-false, and-false}
use Rattle.amqp_commands.specs.declared.command.Cmd.{Cmd}
use Rattle.amqp_engine.specs.declared.port.Step.{Step}
use Rattle.amqp_engine.specs.declared.port.Step.TheVariants.{Linked, LinkFailed, Piece, Room}
use Rattle.amqp_engine.specs.Plan.{Coming}
use Rattle.amqp_engine.specs.Engine.{Engine}
use Rattle.amqp_engine.specs.Turn.{Turn}
use Rattle.amqp_joining.specs.Joining.{Join, JoinsTurn, output, comes, next_cut, next_command, roomier, sent_on, commanded, asked_now}

-- ---- the step after the link

-- what is told where no link is
abbrev pub later_step : Join → Coming
later_step j =
    if j.short then comes Room [] else
    if not (length (output j) == 0) then comes (Piece (next_cut j)) (take (next_cut j) (output j)) else
    next_command j.commands j.closing

abbrev pub after_later : Join → Join
after_later j =
    if j.short then roomier j else
    if not (length (output j) == 0) then sent_on j else
    commanded j.commands j

-- a step that is no link, nor the refusal of one
abbrev pub IsLater : Step → Type 0
IsLater Linked = ⊥
IsLater LinkFailed = ⊥
IsLater _ = Unit {0}

command-later : (commands : List Cmd) (closing : Bool) → IsLater (next_command commands closing).step
command-later (c ∷ commands) closing = tt
command-later [] false = tt
command-later [] true = tt

pub is-later : (j : Join) → IsLater (later_step j).step
is-later j =
    let P : Coming → Type 0 = λ x. IsLater x.step in
    if_case P j.short (comes Room []) (if not (length (output j) == 0) then comes (Piece (next_cut j)) (take (next_cut j) (output j)) else next_command j.commands j.closing) tt
    (if_case P (not (length (output j) == 0)) (comes (Piece (next_cut j)) (take (next_cut j) (output j))) (next_command j.commands j.closing) tt (command-later j.commands j.closing))

command-linked : (commands : List Cmd) (j : Join) → (commanded commands j).linked ≡ j.linked
command-linked [] j = refl
command-linked (c ∷ commands) j = refl

pub later-linked : (j : Join) → (after_later j).linked ≡ j.linked
later-linked j =
    let P : Join → Type 0 = λ x. x.linked ≡ j.linked in
    if_case P j.short (roomier j) (if not (length (output j) == 0) then sent_on j else commanded j.commands j) refl
    (if_case P (not (length (output j) == 0)) (sent_on j) (commanded j.commands j) refl (command-linked j.commands j))

-- and nothing was cut short since
command-short : (commands : List Cmd) (j : Join) → (commanded commands j).short ≡ j.short
command-short [] j = refl
command-short (c ∷ commands) j = refl

pub later-full : (j : Join) → (after_later j).short ≡ false
later-full j = by j.short refl where
  by : (b : Bool) → j.short ≡ b → (if b then roomier j else (if not (length (output j) == 0) then sent_on j else commanded j.commands j)).short ≡ false
  by true is = refl
  by false is =
      if_case (λ (x : Join). x.short ≡ false) (not (length (output j) == 0)) (sent_on j) (commanded j.commands j) is (command-short j.commands j ∙ is)

-- once the link was told, the step of a turn is one of these
pub later-told : (u : Turn) (e : Engine) (flag : Bool) (j last : Join) → j.linked ≡ true → JoinsTurn u e flag j last → later_step j ≡ record { at = u.at; step = u.step; bytes = u.bytes }
later-told u e flag j last linked joins =
    sym (if-false (asked_now e flag && not j.linked) (comes Linked []) (later_step j) (and-false (asked_now e flag) (not j.linked) (ap not linked))) ∙ joins.0

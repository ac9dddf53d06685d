-- What may be done with a hub that is lent: its calls go on, and so do several.
use Rattle.std.proofs.Common.{◌≡◌, ◌≤◌, ◌∙◌, ◌+◌, inl, inr, ap, sym, refl, subst, if◌then◌else◌, Bool, true, false, ℕ, List, [], ◌∷◌, ◌++◌, length, length-append, append-nil, append_assoc, arith}
use Rattle.amqp_types.proofs.Small.{if_case}
use Rattle.amqp_commands.specs.declared.command.Cmd.{Cmd}
use Rattle.amqp_rules.specs.Commands.{promise_of}
use Rattle.amqp_engine.specs.Engine.{Engine}
use Rattle.amqp_journal.specs.declared.entry.Entry.{Entry}
use Rattle.amqp_journal.specs.declared.entry.Entry.TheVariants.{Turn, Called, Own}
use Rattle.amqp_hub.specs.Guarded.{Guarded}
use Rattle.amqp_hub.specs.Entering.{called, with_engine, next_entry, begun_anew, is_past}
use Rattle.amqp_hub.specs.Lending.{HasNoTurn, Extends, BeganAnew, GoesOn}

-- entries without a turn behind others
pub no-turns : (xs ys : List Entry) → HasNoTurn xs → HasNoTurn ys → HasNoTurn (xs ++ ys)
no-turns [] ys none more = more
no-turns (Turn t ∷ xs) ys none more = absurd none
no-turns (Called p n c q ∷ xs) ys none more = no-turns xs ys none more
no-turns (Own c ∷ xs) ys none more = no-turns xs ys none more

-- where all but the engine is as before
pub goes_taken : (e : Engine) (h : Guarded) → GoesOn h (with_engine e h)
goes_taken e h = inl (record { rest = []; base = refl; journal = sym (append-nil h.journal); no_turn = tt })

-- nothing at all
pub goes_still : (h : Guarded) → GoesOn h h
goes_still h = inl (record { rest = []; base = refl; journal = sym (append-nil h.journal); no_turn = tt })

-- a command of a caller
pub goes_called : (pass nth : ℕ) (c : Cmd) (h : Guarded) → GoesOn h (called pass nth c h)
goes_called pass nth c h =
    inl (record { rest = Called pass nth c (promise_of c h.engine.talk) ∷ []; base = refl; journal = refl; no_turn = tt })

-- A frame that is handed out is something new.
use Rattle.std.proofs.Common.{◌≡◌, ◌∙◌, refl, ap, sym, ℕ, Bool, List, [], ◌∷◌, ◌++◌, true, false, Option, Some, unwrap_or, append-nil}
use Rattle.std.proofs.lemmas.List.{append_cancel_left}
use Rattle.amqp_frame.specs.declared.frame.RawKind.{RawKind}
use Rattle.amqp_channels.specs.declared.channels.Channel.{Channel}
use Rattle.amqp_answers.specs.declared.handed.Handed.{Handed}
use Rattle.amqp_answers.specs.declared.event.Event.{Event}
use Rattle.amqp_answers.specs.Events.{events_kept}
use Rattle.amqp_maps.specs.Listed.{at, put}
use Rattle.amqp_rules.specs.Talk.{Talk}
use Rattle.amqp_rules.specs.Memory.{MakesNothing, owes, owes_on}
use Rattle.amqp_rules.specs.Channels.{channel_at}
use Rattle.amqp_channels.specs.Channels.{is_owed}
use Rattle.amqp_channels.specs.declared.channels.Debt.TheVariants.{Nothing, Owed}
use Rattle.amqp_promise.specs.declared.state.ChannelState.TheVariants as channel
use Rattle.amqp_promise.specs.declared.error.ErrorKind.{ErrorKind}
use Rattle.amqp_rules.specs.ChannelMethods.{closed_by_server, confirmed, hand_out, is_select_ok, pass_through}
use Rattle.amqp_types.proofs.Small.{if_case}
use Rattle.amqp_maps.proofs.Numbered.{put-same}

-- what is added to a list that stays as it is
pub none-added : {A : Type 0} (xs ys : List A) → xs ++ ys ≡ xs → ys ≡ []
none-added xs ys h = append_cancel_left xs ys [] (h ∙ sym (append-nil xs))

-- frames of which one is handed out more
more-handed : (opened : ℕ) (h : Handed) (handed : List (ℕ × List Handed)) → put opened (unwrap_or (at opened handed) [] ++ h ∷ []) handed ≡ handed → ⊥
more-handed opened h handed same =
    let frames = unwrap_or (at opened handed) [] in
    let there : at opened handed ≡ Some (frames ++ h ∷ []) = sym (ap (at opened) same) ∙ put-same opened (frames ++ h ∷ []) handed in
    let no = none-added frames (h ∷ []) (sym (ap (λ (o : Option (List Handed)). unwrap_or o []) there)) in
    cc

pub handed-made : (n : ℕ) (c : Channel) (kind : RawKind) (bytes : List ℕ) (t : Talk) → MakesNothing t (pass_through n c kind bytes t) → ⊥
handed-made n c kind bytes t m =
    if_case (λ (x : Talk). (hand_out c.opened (record { channel = n; kind = kind; bytes = bytes }) x).handed ≡ t.handed → ⊥)
    (is_select_ok kind bytes) (confirmed n c t) t (more-handed c.opened _ t.handed) (more-handed c.opened _ t.handed) m.handed

-- an event is something new, where someone listens
pub unheard-made : (listens : Bool) (event : Event) (events : List Event) → events_kept listens event events ≡ events → listens ≡ false
unheard-made true event events same = let no = none-added events (event ∷ []) same in absurd cc
unheard-made false event events same = refl

-- a close of the server that is new makes that close-ok is owed
pub owed-made : (n : ℕ) (e : ErrorKind) (c : Channel) (t : Talk) → channel_at n t ≡ Some c → c.debt ≡ Nothing
    → MakesNothing t (closed_by_server n e c t) → ⊥
owed-made n e c t listed none m =
    let owing : Channel = record c { state = channel.Closing; debt = Owed } in
    let there : owes n (closed_by_server n e c t) ≡ true = ap owes_on (put-same n owing t.channels) in
    let before : owes n t ≡ true = m.owed n there in
    let not_before : owes n t ≡ false = ap owes_on listed ∙ ap is_owed none in
    cc

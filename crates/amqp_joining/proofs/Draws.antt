-- The writes of a turn keep the tie of both ends, however little of each is taken.
use Rattle.std.proofs.Common.{◌≡◌, if◌then◌else◌, Bool, true, false, List, [], ◌∷◌, ◌++◌, length, append-nil, refl, ap, sym, subst}
use Rattle.amqp_outbox.specs.declared.item.Item.{Item}
use Rattle.amqp_settings.specs.Config.{Options}
use Rattle.amqp_rules.specs.Sound.{IsSound}
use Rattle.amqp_faultless.specs.Faultless.{Server}
use Rattle.amqp_types.proofs.Small.{if_case}
use Rattle.amqp_faultless.proofs.Greeted.{IsMet}
use Rattle.amqp_faultless.proofs.Speaks.{said_all, said_all-append}
use Rattle.amqp_faultless.proofs.Modest.{Modest}
use Rattle.amqp_engine.specs.declared.port.Wrote.{Wrote}
use Rattle.amqp_engine.specs.declared.port.Wrote.TheVariants.{Took, Failed, NoMemory}
use Rattle.amqp_engine.specs.Engine.{Engine, ended_overlong, refuse_overlong}
use Rattle.amqp_engine.specs.Turn.{Progress, goes, offered, offer_part, closing, is_all, drained}
use Rattle.amqp_engine.specs.Sending.{committed_before}
use Rattle.amqp_joining.specs.Writes.{AreTooks, committed_through}
use Rattle.amqp_engine.proofs.Goes.{sound-offer}
use Rattle.amqp_engine.proofs.Offering.{modest-fits, modest-kept}

module _ (options : Options) where
  -- the tie is kept with a server that was told what was committed, also where it was not yet taken
  pub record Drawn (items : List Item) (s : Server) (q : Progress) : Type 0 where
    pub met : IsMet (said_all items s) q.engine.talk
    pub sound : IsSound q.engine.talk
    pub modest : Modest options q.engine.talk

  pub drawn : (ws : List Wrote) (p : Progress) (s : Server) → AreTooks ws → IsSound p.engine.talk → Modest options p.engine.talk → IsMet s p.engine.talk
      → Drawn (committed_through ws p) s (drained ws p)
  drawn [] p s tooks sound modest met =
      let same : (closing p).engine ≡ p.engine =
      if_case (λ (q : Progress). q.engine ≡ p.engine) (goes p) (record p { engine = refuse_overlong p.engine }) p
      (ap (λ o. ended_overlong o p.engine) (modest-fits options p.engine modest)) refl in
      let M : Engine → Type 0 = λ e. IsMet s e.talk in
      let S : Engine → Type 0 = λ e. IsSound e.talk in
      let O : Engine → Type 0 = λ e. Modest options e.talk in
      record { met = subst M (sym same) met; sound = subst S (sym same) sound; modest = subst O (sym same) modest }
  drawn (Took k ∷ ws) p s tooks sound modest met =
      by (is_all (Took k) (length (offered p.engine))) (drawn ws (offer_part (Took k) p) (said_all (committed_before p.engine) s) tooks after.1 later after.0)
    where
      after : IsMet (said_all (committed_before p.engine) s) (offer_part (Took k) p).engine.talk × IsSound (offer_part (Took k) p).engine.talk
      after = sound-offer p.at k s p.engine sound met

      later : Modest options (offer_part (Took k) p).engine.talk
      later = modest-kept options p.at k p.engine modest

      by : (b : Bool) → Drawn (committed_through ws (offer_part (Took k) p)) (said_all (committed_before p.engine) s) (drained ws (offer_part (Took k) p))
          → Drawn (committed_before p.engine ++ (if b then committed_through ws (offer_part (Took k) p) else [])) s (if b then drained ws (offer_part (Took k) p) else offer_part (Took k) p)
      by true rest =
          let M : Server → Type 0 = λ x. IsMet x (drained ws (offer_part (Took k) p)).engine.talk in
          record { met = subst M (sym (said_all-append (committed_before p.engine) (committed_through ws (offer_part (Took k) p)) s)) rest.met; sound = rest.sound; modest = rest.modest }
      by false rest =
          let M : List Item → Type 0 = λ xs. IsMet (said_all xs s) (offer_part (Took k) p).engine.talk in
          record { met = subst M (sym (append-nil (committed_before p.engine))) after.0; sound = after.1; modest = later }
  drawn (Failed ∷ ws) p s tooks sound modest met = absurd tooks
  drawn (NoMemory ∷ ws) p s tooks sound modest met = absurd tooks

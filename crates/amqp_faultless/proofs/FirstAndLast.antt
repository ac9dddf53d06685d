-- The link that comes first, and our close-ok that goes last.
use Rattle.std.proofs.Common.{◌≡◌, ◌≤◌, ◌⊎◌, inl, inr, ℕ, ◌-◌, ◌==◌, ◌&&◌, not, nat_le, if◌then◌else◌, Bool, true, false, [], ◌∷◌, drop, Option, Some, None, Ok, refl, ap, sym, ◌∙◌, subst, arith}
use Rattle.std.specs.Prelude.{nat_lt}
use Rattle.std.proofs.lemmas.Bool.Decides.{nat_tests}
use Rattle.amqp_uri.specs.Query.{kept_frame_max}
use Rattle.amqp_outbox.specs.Items.{plain_item}
use Rattle.amqp_answers.specs.declared.answer.Answer.TheVariants.{Connected as AnswerConnected}
use Rattle.amqp_outgoing.specs.declared.committed.Mark.{Mark}
use Rattle.amqp_outgoing.specs.declared.committed.Then.TheVariants.{Finish}
use Rattle.amqp_types.proofs.Small.{is-at-most, and-true, if-true}
use Rattle.amqp_outbox.specs.Queued as queued
use Rattle.amqp_violations.specs.declared.server_close.ServerClose.{ServerClose}
use Rattle.amqp_violations.specs.declared.server_close.ServerClose.TheVariants.{WithoutError}
use Rattle.amqp_rules.specs.Talk.{Talk, is_open, is_asked, is_wanted_link}
use Rattle.amqp_rules.specs.Changes.{finish, finish_by, close}
use Rattle.amqp_rules.specs.Links.{linked}
use Rattle.amqp_settings.specs.Handshake.{close_ok}
use Rattle.amqp_rules.specs.Writing.{taken, writes, flows, next_out, sent_among}
use Rattle.amqp_faultless.specs.Faultless.{silent}
use Rattle.amqp_faultless.proofs.Ordinary.{First}
use Rattle.amqp_faultless.proofs.Greeted.{IsMet, IsOver, Leaves}

-- ---- the link

-- a session that has not been linked
pub record IsFresh (t : Talk) : Type 0 where
  pub wanted : is_wanted_link t.link ≡ true
  pub first : First None t
  pub none : t.channels ≡ []
  pub room : 131072 ≤ t.capacity
  pub agreed : (t.configuration.frame_max ≡ 0) ⊎ (4096 ≤ t.configuration.frame_max)

pub kept-least : (n : ℕ) → (kept_frame_max n ≡ 0) ⊎ (4096 ≤ kept_frame_max n)
kept-least n = by (nat_lt 0 n) (nat_lt n 4096) refl refl where
  by : (a b : Bool) → nat_lt 0 n ≡ a → nat_lt n 4096 ≡ b → ((if a && b then 4096 else n) ≡ 0) ⊎ (4096 ≤ (if a && b then 4096 else n))
  by true true ha hb = inr (omega arith)
  by false b ha hb = inl (grind (arith, nat_tests))
  by true false ha hb = inr (grind (arith, nat_tests))

-- the link that was asked for comes, and the server is silent
pub met-linked : (t : Talk) → is_asked t ≡ true → IsFresh t → IsMet silent (linked t)
met-linked t is h =
    let P : Talk → Type 0 = IsMet silent in
    subst P (sym (if-true (is_asked t) _ t is))
    (record {
      opened = refl;
      acting = refl;
      blocked = refl;
      first = record { made = h.first.made; held = h.first.held };
      limit = (h.room, h.agreed);
      meets = record {
        at_stage = refl;
        uses = λ n. refl;
        secrets = refl;
        staying = refl;
        none = h.none;
        begun = refl;
        groups = refl;
        lane = ((refl, refl), tt);
        marks = tt;
      };
    })

-- ---- the end

-- our close-ok is next, where the server does not block
pub leaves-next : (t : Talk) → Leaves t → next_out t ≡ Some (plain_item 0 close_ok)
leaves-next t h =
    if-true (writes t) (queued.next_item (flows t) t.outbox) None (and-true (is_open t) (not t.blocked) h.opened (ap not h.blocked))
    ∙ ap (queued.next_item (flows t)) h.only_close

-- it is sent, and the session ends Closed
pub finish-sent : (t : Talk) (k : ℕ) → is_open t ≡ true → t.server_close ≡ Some WithoutError → First (Some (Ok AnswerConnected)) t → not (k == 0) ≡ true
    → t.committed ≡ record { left = k; then = Finish } ∷ [] → IsOver (taken k t)
finish-sent t k opened closed first some is =
    let u : Talk = record t { last_write = t.present } in
    let m : Mark = record { left = k; then = Finish } in
    let x : Talk = record u { committed = drop 1 u.committed } in
    let P : Talk → Type 0 = IsOver in
    let over : IsOver (close x) = record { over = refl; first = record { made = first.made; held = first.held } } in
    let Q : Option ServerClose → Type 0 = λ o. IsOver (finish_by o x) in
    let finished : IsOver (finish x) = subst Q (sym closed) over in
    let one : sent_among (m ∷ []) k u ≡ finish x =
    if-true (is_open u) (if nat_le k k then finish x else record u { committed = record m { left = k - k } ∷ [] }) u opened
    ∙ if-true (nat_le k k) (finish x) (record u { committed = record m { left = k - k } ∷ [] }) (is-at-most k k (omega arith)) in
    subst P
    (sym (if-true (is_open t && not (k == 0)) (sent_among t.committed k u) t (and-true (is_open t) (not (k == 0)) opened some) ∙ ap (λ ms. sent_among ms k u) is ∙ one)) finished

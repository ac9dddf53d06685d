-- A publish none of whose frames is too long.
use Rattle.std.proofs.Common.{◌≡◌, ◌∙◌, ap, sym, refl, ℕ, ◌+◌, ◌-◌, ◌≤◌, nat_lt, false, cond, List, ◌∷◌, length, Option, Some, None, IfNone, arith}
use Rattle.std.specs.Prelude.{find, map}
use Rattle.std.specs.Option.{option_or}
use Rattle.std.proofs.lemmas.Bool.Decides.{nat_tests}
use Rattle.amqp_frame.specs.declared.frame.Frame.{Frame}
use Rattle.amqp_frame.specs.declared.frame.Frame.TheVariants.{Raw}
use Rattle.amqp_frame.specs.declared.frame.RawKind.TheVariants.{RawMethod, Header, Body}
use Rattle.amqp_frame.specs.Frames.{encoding}
use Rattle.amqp_frame.specs.RawMethods.{OtherMethod, spell_raw_method}
use Rattle.amqp_rules.specs.Talk.{Talk}
use Rattle.amqp_commands.specs.Publishing.{content_header, body_pieces, publish_frames}
use Rattle.amqp_rules.specs.Commands.{too_long, unless_too_long, too_full, unless_full, body_limit, queue_publish, publish}
use Rattle.amqp_commands.proofs.Cutting.{bodies-fit}

-- a frame that is not too long is not found
none-long : (cap : ℕ) (frame : Frame) (frames : List Frame) → length (encoding frame) ≤ cap
    → find (λ frame. nat_lt cap (length (encoding frame))) frames ≡ None
    → find (λ frame. nat_lt cap (length (encoding frame))) (frame ∷ frames) ≡ None
none-long cap frame frames fits none =
    let short : nat_lt cap (length (encoding frame)) ≡ false = grind (arith, nat_tests, fits) in
    ap (λ b. cond b (Some frame) (find (λ frame. nat_lt cap (length (encoding frame))) frames)) short ∙ none

module _ (n : ℕ) (m : OtherMethod) (properties body : List ℕ) (t : Talk) (method header : List ℕ) (is_method : method ≡ spell_raw_method m)
    (is_header : header ≡ content_header m.class (length body) properties) where
  abbrev made : List ℕ → List ℕ → List Frame
  made method header = Raw n RawMethod method ∷ Raw n Header header ∷ map (Raw n Body) (body_pieces (body_limit t) body)

  same-frames : made method header ≡ publish_frames n m properties body (body_limit t)
  same-frames = ap (λ p. made p header) is_method ∙ ap (λ h. made (spell_raw_method m) h) is_header

  -- a publish none of whose frames is too long is queued, unless too many octets would wait
  pub publish-fits : 8 ≤ t.capacity → length (encoding (Raw n RawMethod method)) ≤ t.capacity → length (encoding (Raw n Header header)) ≤ t.capacity
      → publish n m properties body t ≡ unless_full (too_full (made method header) t) (queue_publish n (made method header)) t
  publish-fits large first second =
      let room : body_limit t + 8 ≤ t.capacity = omega (arith, large) in
      let none : too_long (made method header) t ≡ None =
      none-long t.capacity (Raw n RawMethod method) (Raw n Header header ∷ map (Raw n Body) (body_pieces (body_limit t) body)) first
      (none-long t.capacity (Raw n Header header) (map (Raw n Body) (body_pieces (body_limit t) body)) second
      (bodies-fit (length body) (body_limit t) n t.capacity body room)) in
      ap (λ frames. unless_too_long (too_long frames t) (unless_full (too_full frames t) (queue_publish n frames)) t) (sym same-frames)
      ∙ ap (λ o. unless_too_long o (unless_full (too_full (made method header) t) (queue_publish n (made method header))) t) none

-- ---- one of two

-- where there is neither
pub neither : {X : Type 0} (a b : Option X) → option_or a b ≡ None → (a ≡ None) × (b ≡ None)
neither None b h = (refl, h)
neither (Some x) b h = absurd cc

pub none-gives : {X : Type 0} {P : Type 0} (o : Option X) → o ≡ None → IfNone o P → P
none-gives None h p = p
none-gives (Some x) h p = absurd cc

-- Frames that stand one after another stay when more octets come, and are the only ones.
use Rattle.std.proofs.Common.{◌≡◌, ◌≢◌, ◌⊎◌, inl, inr, ◌≤◌, ◌<◌, ◌∙◌, ap, sym, subst, refl, ℕ, ◌+◌, false, List, [], ◌∷◌, ◌++◌, length, drop, arith}
use Rattle.std.proofs.lemmas.Bool.{cases_lt}
use Rattle.std.proofs.lemmas.List.{append-nil, drop-append-le, drop_all}
use Rattle.amqp_frame.specs.declared.frame.Frame.{Frame}
use Rattle.amqp_frame.specs.declared.frame.Read.{Read}
use Rattle.amqp_frame.specs.declared.frame.Read.TheVariants.{Whole, More, TooLarge, BadHeartbeat, Bad, NoMemory}
use Rattle.amqp_frame.specs.FrameReading.{front}
use Rattle.amqp_frame.specs.Sequences.{is_more, front_at, IsNoFrame, Stand, SequenceEnd, EndsAt, IsSequence}
use Rattle.amqp_frame.specs.Sequences.SequenceEnd.{Complete, Cut, Broken}
use Rattle.amqp_frame.proofs.FrontStays.{says-front, front-none}

-- ---- one frame

not-more : (r : Read) → r ≢ More → is_more r ≡ false
not-more (Whole f n) h = refl
not-more More h = absurd (h refl)
not-more (TooLarge size) h = refl
not-more (BadHeartbeat channel) h = refl
not-more Bad h = refl
not-more NoMemory h = refl

pub front-stays : (bytes more : List ℕ) (limit : ℕ) → front bytes limit ≢ More → front (bytes ++ more) limit ≡ front bytes limit
front-stays bytes more limit some = (says-front limit).stays bytes more (not-more (front bytes limit) some)

-- a frame has eight octets at least, all of them there
pub frame-size : (bytes : List ℕ) (limit n : ℕ) (f : Frame) → front bytes limit ≡ Whole f n → (8 ≤ n) × (n ≤ length bytes)
frame-size bytes limit n f is = let size = (says-front limit).size bytes f n is in (size.0, omega (arith, size.1))

-- behind all octets nothing stands
none-behind : (bytes : List ℕ) (limit place : ℕ) → length bytes ≤ place → front_at bytes limit place ≡ More
none-behind bytes limit place past = ap (λ (xs : List ℕ). front xs limit) (drop_all place bytes past) ∙ front-none limit

frame-stays : (bytes more : List ℕ) (limit place n : ℕ) (f : Frame) → front_at bytes limit place ≡ Whole f n → front_at (bytes ++ more) limit place ≡ Whole f n
frame-stays bytes more limit place n f is = by (cases_lt (length bytes) place)
  where
    by : (length bytes < place) ⊎ (place ≤ length bytes) → front_at (bytes ++ more) limit place ≡ Whole f n
    by (inl past) = absurd (let none = none-behind bytes limit place (omega (arith, past)) in cc)
    by (inr within) =
        ap (λ (xs : List ℕ). front xs limit) (drop-append-le place bytes more within)
        ∙ front-stays (drop place bytes) more limit (λ none. cc) ∙ is

-- ---- frames one after another

pub stand-stays : (bytes more : List ℕ) (limit start end : ℕ) (frames : List Frame) → Stand bytes limit start frames end → Stand (bytes ++ more) limit start frames end
stand-stays bytes more limit start end [] s = s
stand-stays bytes more limit start end (f ∷ frames) s =
    (s.0, frame-stays bytes more limit start s.0 f s.1, stand-stays bytes more limit (start + s.0) end frames s.2)

-- more frames behind them
pub stand-join : (bytes : List ℕ) (limit start middle end : ℕ) (frames others : List Frame) → Stand bytes limit start frames middle → Stand bytes limit middle others end
    → Stand bytes limit start (frames ++ others) end
stand-join bytes limit start middle end [] others s t = subst (λ (p : ℕ). Stand bytes limit p others end) (sym s) t
stand-join bytes limit start middle end (f ∷ frames) others s t = (s.0, s.1, stand-join bytes limit (start + s.0) middle end frames others s.2 t)

-- one frame more
pub stand-push : (bytes : List ℕ) (limit start end n : ℕ) (frames : List Frame) (f : Frame) → Stand bytes limit start frames end → front_at bytes limit end ≡ Whole f n
    → Stand bytes limit start (frames ++ f ∷ []) (end + n)
stand-push bytes limit start end n frames f s next = stand-join bytes limit start end (end + n) frames (f ∷ []) s (n, next, refl)

stand-grows : (bytes : List ℕ) (limit start end : ℕ) (frames : List Frame) → Stand bytes limit start frames end → start ≤ end
stand-grows bytes limit start end [] s = omega (arith, s)
stand-grows bytes limit start end (f ∷ frames) s = omega (arith, stand-grows bytes limit (start + s.0) end frames s.2)

-- ---- they are the only ones

whole-length : (f g : Frame) (m n : ℕ) → Whole f m ≡ Whole g n → m ≡ n
whole-length f g m n h = cc

whole-frame : (f g : Frame) (m n : ℕ) → Whole f m ≡ Whole g n → f ≡ g
whole-frame f g m n h = cc

pub stand-begins : (bytes : List ℕ) (limit start end later : ℕ) (frames others : List Frame) → Stand bytes limit start frames end → Stand bytes limit start others later
    → end ≤ later → (rest : List Frame) × (others ≡ frames ++ rest) × Stand bytes limit end rest later
stand-begins bytes limit start end later [] others s t less = (others, refl, subst (λ (p : ℕ). Stand bytes limit p others later) s t)
stand-begins bytes limit start end later (f ∷ frames) [] s t less =
    absurd (omega (arith, t, less, (frame-size (drop start bytes) limit s.0 f s.1).0, stand-grows bytes limit (start + s.0) end frames s.2))
stand-begins bytes limit start end later (f ∷ frames) (g ∷ others) s t less =
    let both : Whole g t.0 ≡ Whole f s.0 = sym t.1 ∙ s.1 in
    let moved : Stand bytes limit (start + s.0) others later = subst (λ (n : ℕ). Stand bytes limit (start + n) others later) (whole-length g f t.0 s.0 both) t.2 in
    let next = stand-begins bytes limit (start + s.0) end later frames others s.2 moved less in
    (next.0, ap (λ x. x ∷ others) (whole-frame g f t.0 s.0 both) ∙ ap (λ xs. f ∷ xs) next.1, next.2)

-- ---- and so is how the octets end

no-frame-whole : (r : Read) (f : Frame) (n : ℕ) → IsNoFrame r → r ≡ Whole f n → ⊥
no-frame-whole (Whole g m) f n h is = h
no-frame-whole More f n h is = h
no-frame-whole (TooLarge size) f n h is = cc
no-frame-whole (BadHeartbeat channel) f n h is = cc
no-frame-whole Bad f n h is = cc
no-frame-whole NoMemory f n h is = h

no-frame-more : (r : Read) → IsNoFrame r → r ≡ More → ⊥
no-frame-more (Whole g m) h is = h
no-frame-more More h is = h
no-frame-more (TooLarge size) h is = cc
no-frame-more (BadHeartbeat channel) h is = cc
no-frame-more Bad h is = cc
no-frame-more NoMemory h is = h

-- where the octets end no frame stands
end-stands : (bytes : List ℕ) (limit place n : ℕ) (ending : SequenceEnd) (f : Frame) → EndsAt bytes limit place ending → front_at bytes limit place ≡ Whole f n → ⊥
end-stands bytes limit place n Complete f h is = let none = none-behind bytes limit place (omega (arith, h)) in cc
end-stands bytes limit place n Cut f h is = let more = h.1 in cc
end-stands bytes limit place n Broken f h is = no-frame-whole (front_at bytes limit place) f n h is

ending-same : (bytes : List ℕ) (limit place : ℕ) (ending another : SequenceEnd) → EndsAt bytes limit place ending → EndsAt bytes limit place another → ending ≡ another
ending-same bytes limit place Complete Complete h k = refl
ending-same bytes limit place Complete Cut h k = absurd (omega (arith, h, k.0))
ending-same bytes limit place Complete Broken h k = absurd (no-frame-more (front_at bytes limit place) k (none-behind bytes limit place (omega (arith, h))))
ending-same bytes limit place Cut Complete h k = absurd (omega (arith, k, h.0))
ending-same bytes limit place Cut Cut h k = refl
ending-same bytes limit place Cut Broken h k = absurd (no-frame-more (front_at bytes limit place) k h.1)
ending-same bytes limit place Broken Complete h k = absurd (no-frame-more (front_at bytes limit place) h (none-behind bytes limit place (omega (arith, k))))
ending-same bytes limit place Broken Cut h k = absurd (no-frame-more (front_at bytes limit place) h k.1)
ending-same bytes limit place Broken Broken h k = refl

-- behind an end no frame stands
no-rest : (bytes : List ℕ) (limit place later : ℕ) (frames others rest : List Frame) (ending : SequenceEnd) → EndsAt bytes limit place ending → others ≡ frames ++ rest
    → Stand bytes limit place rest later → (frames ≡ others) × (place ≡ later)
no-rest bytes limit place later frames others [] ending h is s = (sym (is ∙ append-nil frames), s)
no-rest bytes limit place later frames others (g ∷ rest) ending h is s = absurd (end-stands bytes limit place s.0 ending g h s.1)

stand-same : (bytes : List ℕ) (limit start place other : ℕ) (frames others : List Frame) (ending another : SequenceEnd) → Stand bytes limit start frames place
    → EndsAt bytes limit place ending → Stand bytes limit start others other → EndsAt bytes limit other another → (frames ≡ others) × (place ≡ other)
stand-same bytes limit start place other frames others ending another s h t k = by (cases_lt other place)
  where
    by : (other < place) ⊎ (place ≤ other) → (frames ≡ others) × (place ≡ other)
    by (inl less) =
        let rest = stand-begins bytes limit start other place others frames t s (omega (arith, less)) in
        let same = no-rest bytes limit other place others frames rest.0 another k rest.1 rest.2 in
        (sym same.0, sym same.1)
    by (inr most) =
        let rest = stand-begins bytes limit start place other frames others s t most in
        no-rest bytes limit place other frames others rest.0 ending h rest.1 rest.2

pub sequence-same : (bytes : List ℕ) (limit place other : ℕ) (frames others : List Frame) (ending another : SequenceEnd) → IsSequence bytes limit frames place ending
    → IsSequence bytes limit others other another → (frames ≡ others) × (place ≡ other) × (ending ≡ another)
sequence-same bytes limit place other frames others ending another s t =
    let same = stand-same bytes limit 0 place other frames others ending another s.0 s.1 t.0 t.1 in
    (same.0, same.1, ending-same bytes limit place ending another s.1 (subst (λ (p : ℕ). EndsAt bytes limit p another) (sym same.1) t.1))

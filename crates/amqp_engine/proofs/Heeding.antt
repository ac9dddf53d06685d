-- All frames of a faultless server that have come are read, one by one.
use Rattle.std.proofs.Common.{◌≡◌, ◌≢◌, ◌<◌, ◌≤◌, ◌⊎◌, inl, inr, ℕ, zero, suc, ◌+◌, ◌-◌, ◌&&◌, not, nat_le, Bool, true, false, List, [], ◌∷◌, ◌++◌, length, drop, length-append, Option, Some, None, refl, ap, sym, ◌∙◌, subst, arith}
use Rattle.std.specs.Prelude.{map}
use Rattle.std.specs.List.{flat_map}
use Rattle.std.proofs.lemmas.Bool.Decides.{nat_tests}
use Rattle.amqp_frame.specs.declared.frame.Frame.{Frame}
use Rattle.amqp_frame.specs.declared.frame.Read.TheVariants.{Whole}
use Rattle.amqp_frame.specs.Frames.{FrameOf}
use Rattle.amqp_rules.specs.Talk.{is_open}
use Rattle.amqp_rules.specs.Changes.{present_at}
use Rattle.amqp_rules.specs.Frames.{frame_questions}
use Rattle.amqp_rules.specs.Negotiation.{frame_limit}
use Rattle.amqp_faultless.specs.Faultless.{Server, heard_from}
use Rattle.amqp_faultless.specs.Faultless.ServerStage.{Gone}
use Rattle.amqp_types.proofs.Small.{if_case, if-true, if-false, and-true, at-most}
use Rattle.amqp_faultless.proofs.Greeted.{IsMet, IsOver, Leaves, Heard, AreSaid}
use Rattle.amqp_faultless.proofs.Limits.{limit_at, stage-limit}
use Rattle.amqp_engine.specs.Engine.{Engine, front_of, is_more, can_read, settle, read_row, read_one}
use Rattle.amqp_engine.specs.Turn.{Progress, is_before, goes, read_part, reads}
use Rattle.amqp_engine.specs.Valid.{SpelledFrame, LinkSaying, Theirs, AreSpelled, after_sayings, whole_in, later_than, begun_in}
use Rattle.amqp_engine.specs.Making.{keeps_unread}
use Rattle.amqp_frame.proofs.FrontStays.{says-front}
use Rattle.amqp_engine.proofs.Reading.{reads-rest, none-read}
use Rattle.amqp_engine.proofs.Settling.{settle-unread}
use Rattle.amqp_engine.proofs.Follows.{read-heard, read-unread, read_whole}
use Rattle.amqp_engine.proofs.Serving.{front-whole, front-part}

-- ---- octets that begin alike

pub split-longer : (a b c d : List ℕ) → a ++ b ≡ c ++ d → length c ≤ length a → (r : List ℕ) × (a ≡ c ++ r) × (r ++ b ≡ d)
split-longer a b [] d h short = (a, refl, h)
split-longer [] b (x ∷ c) d h short = absurd (omega (arith, short))
split-longer (y ∷ a) b (x ∷ c) d h short =
    let heads : y ≡ x = cc in
    let tails : a ++ b ≡ c ++ d = cc in
    let k = split-longer a b c d tails (omega (arith, short)) in
    (k.0, ap (λ z. z ∷ a) heads ∙ ap (λ zs. x ∷ zs) k.1, k.2)

pub split-shorter : (a b c d : List ℕ) → a ++ b ≡ c ++ d → length a < length c → (r : List ℕ) × (a ++ r ≡ c) × (r ≢ [])
split-shorter [] b [] d h short = absurd (omega (arith, short))
split-shorter [] b (x ∷ c) d h short = (x ∷ c, refl, (λ none. absurd cc))
split-shorter (y ∷ a) b [] d h short = absurd (omega (arith, short))
split-shorter (y ∷ a) b (x ∷ c) d h short =
    let heads : y ≡ x = cc in
    let tails : a ++ b ≡ c ++ d = cc in
    let k = split-shorter a b c d tails (omega (arith, short)) in
    (k.0, ap (λ z. z ∷ (a ++ k.0)) heads ∙ ap (λ zs. x ∷ zs) k.1, k.2)

drop-front : (c r : List ℕ) → drop (length c) (c ++ r) ≡ r
drop-front [] r = refl
drop-front (x ∷ c) r = drop-front c r

none-front : (a b : List ℕ) → a ++ b ≡ [] → length a ≤ 0
none-front [] b h = omega arith
none-front (x ∷ a) b h = absurd cc

-- ---- reading

abbrev pub flat : List SpelledFrame → List ℕ
flat spelled = flat_map (λ (s : SpelledFrame). s.octets) spelled

-- so it stands once all that has come was read: the session is met, what holds while frames are read holds, and it has the beginning of the next frame; or
-- the server said its last frame
pub record Heeded (agreed : ℕ) (rest : List ℕ) (later : ℕ → List SpelledFrame → List LinkSaying) (end : Server) (K : ℕ → Server → Progress → Type 0) (G : Progress → Type 0)
    (p : Progress) (m : ℕ) (spelled : List SpelledFrame) : Type 0 where
  pub server : Server
  pub left : List SpelledFrame
  pub is_left : later_than m spelled ≡ left
  pub begun : ℕ
  pub is_begun : begun_in m spelled ≡ begun
  pub after : after_sayings (later begun left) (Some server) ≡ Some end
  pub stands :
      (IsMet server p.engine.talk × ((n : ℕ) × K n server p) × (p.engine.unread ++ rest ≡ flat left) × (length p.engine.unread ≡ begun)
      × AreSpelled (limit_at agreed server.stage) agreed left)
      ⊎ ((server.stage ≡ Gone) × (left ≡ []) × G p × (IsOver p.engine.talk ⊎ Leaves p.engine.talk))

module _ (agreed : ℕ) (later : ℕ → List SpelledFrame → List LinkSaying) (end : Server) (rest : List ℕ) (K : ℕ → Server → Progress → Type 0) (G : Progress → Type 0)
    (enough : (n : ℕ) (p : Progress) (s : Server) → K n s p → IsMet s p.engine.talk → limit_at agreed s.stage ≤ frame_limit p.engine.talk)
    (said : (n : ℕ) (p : Progress) (s s' : Server) (f : Frame) (size : ℕ) → K (suc n) s p → IsMet s p.engine.talk → front_of p.engine ≡ Whole f size
    → heard_from s.stage f s ≡ Some s' → AreSaid (frame_questions f (present_at p.at p.engine.talk)) p.answers)
    (kept : (n : ℕ) (p : Progress) (s s' : Server) (f : Frame) (size : ℕ) → K (suc n) s p → IsMet s p.engine.talk → front_of p.engine ≡ Whole f size
    → heard_from s.stage f s ≡ Some s' → IsMet s' (read_part p).engine.talk → K n s' (read_part p))
    (gives : (n : ℕ) (p : Progress) (s s' : Server) (f : Frame) (size : ℕ) → K (suc n) s p → IsMet s p.engine.talk → front_of p.engine ≡ Whole f size
    → heard_from s.stage f s ≡ Some s' → G (read_part p))
    (ends : (m : ℕ) (ys : List SpelledFrame) (s' : Server) → s'.stage ≡ Gone → m + length rest ≡ length (flat ys)
    → after_sayings (map Theirs (whole_in m ys) ++ later (begun_in m ys) (later_than m ys)) (Some s') ≡ Some end → ys ≡ [])
  where
    abbrev Reads : Progress → ℕ → List SpelledFrame → Type 0
    Reads p m spelled = Heeded agreed rest later end K G p m spelled

    -- what remains to be said
    abbrev Remains : ℕ → List SpelledFrame → Option Server → Type 0
    Remains m spelled o = after_sayings (map Theirs (whole_in m spelled) ++ later (begun_in m spelled) (later_than m spelled)) o ≡ Some end

    -- nothing more can be read
    rests : (n : ℕ) (p : Progress) (s : Server) (m : ℕ) (spelled : List SpelledFrame) → can_read p.engine ≡ false → whole_in m spelled ≡ [] → later_than m spelled ≡ spelled
        → begun_in m spelled ≡ m → length p.engine.unread ≡ m → IsMet s p.engine.talk → K n s p → p.engine.unread ++ rest ≡ flat spelled
        → AreSpelled (limit_at agreed s.stage) agreed spelled → Remains m spelled (Some s) → Reads (reads n p) m spelled
    rests n p s m spelled over none same begun size met k bytes spells remains =
        let P : Progress → Type 0 = λ q. Reads q m spelled in
        let a : Remains m spelled (Some s) = remains in
        subst P (sym (reads-rest n p over))
        (record {
          server = s;
          left = spelled;
          is_left = same;
          begun = m;
          is_begun = begun;
          after = sym (ap (λ fs. after_sayings (map Theirs fs ++ later (begun_in m spelled) (later_than m spelled)) (Some s)) none
              ∙ ap (λ k. after_sayings (later k (later_than m spelled)) (Some s)) begun ∙ ap (λ ys. after_sayings (later m ys) (Some s)) same) ∙ remains;
          stands = inl (met, (n, k), bytes, size, spells);
        })

    -- the first frame is read
    one-more : (n : ℕ) (p : Progress) → p.cut ≡ None → can_read p.engine ≡ true → reads (suc n) p ≡ reads n (read_part p)
    one-more n p whole can =
        if-true (goes p && can_read p.engine) (reads n (read_part p)) p (and-true (goes p) (can_read p.engine) (ap (λ c. is_before c p.done) whole) can)

    pub reads-all : (spelled : List SpelledFrame) (n : ℕ) (p : Progress) (s : Server) → p.cut ≡ None → length p.engine.unread ≤ n → IsMet s p.engine.talk → K n s p
        → p.engine.unread ++ rest ≡ flat spelled → AreSpelled (limit_at agreed s.stage) agreed spelled → Remains (length p.engine.unread) spelled (Some s)
        → Reads (reads n p) (length p.engine.unread) spelled
    reads-all [] n p s whole fuel met k bytes spells remains =
        rests n p s (length p.engine.unread) [] (none-read p.engine (none-front p.engine.unread rest bytes)) refl refl refl refl met k bytes spells remains
    reads-all (x ∷ xs) n p s whole fuel met k bytes spells remains =
        by (nat_le (length x.octets) (length p.engine.unread)) refl n fuel k
        (λ n' q s'. reads-all xs n' q s')
      where
        by : (b : Bool) → nat_le (length x.octets) (length p.engine.unread) ≡ b → (n : ℕ) → length p.engine.unread ≤ n → K n s p
            → ((n' : ℕ) (q : Progress) (s' : Server) → q.cut ≡ None → length q.engine.unread ≤ n' → IsMet s' q.engine.talk → K n' s' q
            → q.engine.unread ++ rest ≡ flat xs → AreSpelled (limit_at agreed s'.stage) agreed xs → Remains (length q.engine.unread) xs (Some s')
            → Reads (reads n' q) (length q.engine.unread) xs)
            → Reads (reads n p) (length p.engine.unread) (x ∷ xs)
        by false is n fuel k again =
            let m = length p.engine.unread in
            let short : m < length x.octets = grind (arith, nat_tests) in
            let part = split-shorter p.engine.unread rest x.octets (flat xs) bytes short in
            let limit = enough n p s k met in
            let F : List ℕ → Type 0 = λ o. FrameOf x.frame o in
            let size = ap length part.1 in
            let most : length x.octets ≤ limit_at agreed s.stage = spells.1 in
            rests n p s m (x ∷ xs)
            (front-part p.engine x.frame part.0 (subst F (sym part.1) spells.0) (omega (arith, size, most, limit)) part.2)
            (if-false (nat_le (length x.octets) m) (x.frame ∷ whole_in (m - length x.octets) xs) [] is)
            (if-false (nat_le (length x.octets) m) (later_than (m - length x.octets) xs) (x ∷ xs) is)
            (if-false (nat_le (length x.octets) m) (begun_in (m - length x.octets) xs) m is) refl met k bytes spells remains
        by true is n fuel k again =
            let m = length p.engine.unread in
            let len = length x.octets in
            let long : len ≤ m = at-most len m is in
            let part = split-longer p.engine.unread rest x.octets (flat xs) bytes long in
            let limit = enough n p s k met in
            let most : len ≤ limit_at agreed s.stage = spells.1 in
            let front : front_of p.engine ≡ Whole x.frame len = front-whole s p.engine x.frame x.octets part.0 part.1 spells.0 (omega (arith, most, limit)) in
            let now : Remains m (x ∷ xs) (Some s) = remains in
            let w = if-true (nat_le len m) (x.frame ∷ whole_in (m - len) xs) [] is in
            let l = if-true (nat_le len m) (later_than (m - len) xs) (x ∷ xs) is in
            let b = if-true (nat_le len m) (begun_in (m - len) xs) m is in
            let next : Remains (m - len) xs (heard_from s.stage x.frame s) =
            sym (ap (λ fs. after_sayings (map Theirs fs ++ later (begun_in m (x ∷ xs)) (later_than m (x ∷ xs))) (Some s)) w
            ∙ ap (λ i. after_sayings (map Theirs (x.frame ∷ whole_in (m - len) xs) ++ later i (later_than m (x ∷ xs))) (Some s)) b
            ∙ ap (λ ys. after_sayings (map Theirs (x.frame ∷ whole_in (m - len) xs) ++ later (begun_in (m - len) xs) ys) (Some s)) l) ∙ now in
            first n fuel k part.0 part.1 part.2 front l b (heard_from s.stage x.frame s) refl next again
          where
            first : (n : ℕ) → length p.engine.unread ≤ n → K n s p → (r : List ℕ) → p.engine.unread ≡ x.octets ++ r → r ++ rest ≡ flat xs
                → front_of p.engine ≡ Whole x.frame (length x.octets)
                → later_than (length p.engine.unread) (x ∷ xs) ≡ later_than (length p.engine.unread - length x.octets) xs
                → begun_in (length p.engine.unread) (x ∷ xs) ≡ begun_in (length p.engine.unread - length x.octets) xs
                → (o : Option Server) → heard_from s.stage x.frame s ≡ o → Remains (length p.engine.unread - length x.octets) xs o
                → ((n' : ℕ) (q : Progress) (s' : Server) → q.cut ≡ None → length q.engine.unread ≤ n' → IsMet s' q.engine.talk → K n' s' q
                → q.engine.unread ++ rest ≡ flat xs → AreSpelled (limit_at agreed s'.stage) agreed xs → Remains (length q.engine.unread) xs (Some s')
                → Reads (reads n' q) (length q.engine.unread) xs)
                → Reads (reads n p) (length p.engine.unread) (x ∷ xs)
            first zero fuel k r begins ends_so front l b o is next again =
                let eight = ((says-front (frame_limit p.engine.talk)).size p.engine.unread x.frame (length x.octets) front) in
                let a = eight.0 in let c = eight.1 in absurd (omega (arith, a, c, fuel))
            first (suc n) fuel k r begins ends_so front l b None is next again = absurd (let bad : None ≡ Some end = next in cc)
            first (suc n) fuel k r begins ends_so front l b (Some s') is next again =
                heard (read-heard p.at p.answers p.engine x.frame (length x.octets) s s' met front is (said n p s s' x.frame (length x.octets) k met front is))
              where
                can : can_read p.engine ≡ true
                can = and-true (is_open p.engine.talk) (not (is_more (front_of p.engine))) met.opened (ap (λ y. not (is_more y)) front)

                sizes : length p.engine.unread ≡ length x.octets + length r
                sizes = ap length begins ∙ length-append x.octets r

                heard : Heard s' (read_one p.at p.answers p.engine).talk → Reads (reads (suc n) p) (length p.engine.unread) (x ∷ xs)
                heard (inl met') =
                    let q : Progress = read_part p in
                    let unread : q.engine.unread ≡ r =
                    read-unread p.at p.answers p.engine x.frame (length x.octets) s' front met' ∙ ap (drop (length x.octets)) begins ∙ drop-front x.octets r in
                    let size : length q.engine.unread ≡ length p.engine.unread - length x.octets = (let a = ap length unread in omega (arith, a, sizes)) in
                    let eight = (says-front (frame_limit p.engine.talk)).size p.engine.unread x.frame (length x.octets) front in
                    let e8 = eight.0 in
                    let R : ℕ → Type 0 = λ i. Remains i xs (Some s') in
                    let S : ℕ → Type 0 = λ i. AreSpelled i agreed xs in
                    let done = again n q s' whole (omega (arith, size, fuel, sizes, e8)) met' (kept n p s s' x.frame (length x.octets) k met front is met')
                    (ap (λ z. z ++ rest) unread ∙ ends_so) (subst S (stage-limit agreed x.frame s s' is) spells.2) (subst R (sym size) next) in
                    let P : Progress → Type 0 = λ z. Reads z (length p.engine.unread) (x ∷ xs) in
                    subst P (sym (one-more n p whole can))
                    (record {
                      server = done.server;
                      left = done.left;
                      is_left = l ∙ ap (λ i. later_than i xs) (sym size) ∙ done.is_left;
                      begun = done.begun;
                      is_begun = b ∙ ap (λ i. begun_in i xs) (sym size) ∙ done.is_begun;
                      after = done.after;
                      stands = done.stands;
                    })
                heard (inr (gone, closed)) =
                    let q : Progress = read_part p in
                    let m = length p.engine.unread - length x.octets in
                    let sum = length-append r rest in
                    let flat_size = ap length ends_so in
                    let none : xs ≡ [] = ends m xs s' gone (omega (arith, sizes, sum, flat_size)) next in
                    let left : List ℕ → ℕ = length in
                    let empty : length r ≤ 0 = none-front r rest (ends_so ∙ ap flat none) in
                    let z : Engine = read_whole p.at p.answers p.engine x.frame (length x.octets) in
                    let told : q.engine ≡ settle z = ap (λ y. read_row p.at y p.answers p.engine) front in
                    let dropped : drop (length x.octets) p.engine.unread ≡ r = ap (drop (length x.octets)) begins ∙ drop-front x.octets r in
                    let L : List ℕ → Type 0 = λ y. length y ≤ 0 in
                    let D : List ℕ → Type 0 = λ y. length y ≤ 0 in
                    let shut : length q.engine.unread ≤ 0 =
                    subst L (sym (ap (λ (y : Engine). y.unread) told ∙ settle-unread z))
                    (if_case L (keeps_unread z.talk) z.unread [] (subst D (sym dropped) empty) (omega arith)) in
                    let P : Progress → Type 0 = λ y. Reads y (length p.engine.unread) (x ∷ xs) in
                    let no_more = ap (λ ys. whole_in m ys) none in
                    subst P (sym (one-more n p whole can ∙ reads-rest n q (none-read q.engine shut)))
                    (record {
                      server = s';
                      left = [];
                      is_left = l ∙ ap (later_than m) none;
                      begun = m;
                      is_begun = b ∙ ap (begun_in m) none;
                      after =
                          sym (ap (λ fs. after_sayings (map Theirs fs ++ later (begun_in m xs) (later_than m xs)) (Some s')) no_more
                          ∙ ap (λ ys. after_sayings (later (begun_in m ys) (later_than m ys)) (Some s')) none) ∙ next;
                      stands = inr (gone, refl, gives n p s s' x.frame (length x.octets) k met front is, closed);
                    })

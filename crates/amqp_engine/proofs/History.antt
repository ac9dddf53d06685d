-- What was sent so far, of the commands that were told.
use Rattle.std.proofs.Common.{◌≡◌, ◌≢◌, ◌≤◌, ◌<◌, inl, inr, ◌∙◌, ap, sym, subst, refl, ℕ, zero, suc, ◌+◌, ◌==◌, ◌&&◌, Bool, true, false, true≢false, if◌then◌else◌, List, [], ◌∷◌, ◌++◌, length, Option, Some, None, slice_get, arith}
use Rattle.std.proofs.lemmas.Bool.{cases_eq, cases_lt}
use Rattle.amqp_frame.specs.declared.frame.Frame.{Frame}
use Rattle.amqp_commands.specs.declared.command.Cmd.{Cmd}
use Rattle.amqp_commands.specs.declared.command.Cmd.TheVariants.{Send, Publish}
use Rattle.amqp_carried_rules.specs.CommandFrames.{AreFramesOf, is_send, is_publish}
use Rattle.amqp_types.proofs.Small.{and-false, and-true, same-number, other-number, and-left, and-right}
use Rattle.amqp_carried_rules.proofs.Bearing.{command_at, carries, Reading, closed, told-made, same-command}
use Rattle.amqp_carried_rules.proofs.Commanding.{same-below}
use Rattle.amqp_engine.specs.Carried.{AreSent, none, other, sent, Merges, left, right}

-- a promise more that was answered Sent
abbrev pub marked : ℕ → (ℕ → Bool) → ℕ → Bool
marked k answered n = if n == k then true else answered n

-- it was answered Sent
pub marked-here : (k : ℕ) (answered : ℕ → Bool) → marked k answered k ≡ true
marked-here k answered = ap (λ b. if b then true else answered k) (same-number k)

-- the others are as they were
pub marked-other : (n k : ℕ) (answered : ℕ → Bool) → n ≢ k → marked k answered n ≡ answered n
marked-other n k answered ne = ap (λ b. if b then true else answered n) (other-number n k ne)

module _ (is_kind : Cmd → Bool) (answered : ℕ → Bool) where
  -- where none of the kind was answered Sent, there are no frames
  none-sent : (n : ℕ) (cs : List Cmd) (fss : List (List Frame)) → ((j : ℕ) (d : Cmd) (m : ℕ) → slice_get cs j ≡ Some d → is_kind d ≡ true → m ≡ n + j → answered m ≡ false)
      → AreSent is_kind answered n cs fss → fss ≡ []
  none-sent n [] [] f none = refl
  none-sent n [] (fs ∷ fss) f x = elim x [ ]
  none-sent n (c ∷ cs) fss f (other a l) = none-sent (suc n) cs fss (λ j d m g t e. f (suc j) d m g t (omega (arith, e))) l
  none-sent n (c ∷ cs) (fs ∷ fss) f (sent a w l) =
      let kind : is_kind c ≡ true = and-left (is_kind c) (answered n) a in
      let yes : answered n ≡ true = and-right (is_kind c) (answered n) a in
      let no : answered n ≡ false = f 0 c n refl kind (omega arith) in
      absurd cc

  -- what was sent is the same, where the answers are
  pub same-sent : (answered' : ℕ → Bool) (n : ℕ) (cs : List Cmd) (fss : List (List Frame)) → ((j : ℕ) (d : Cmd) (m : ℕ) → slice_get cs j ≡ Some d → is_kind d ≡ true → m ≡ n + j → answered' m ≡ answered m)
      → AreSent is_kind answered n cs fss → AreSent is_kind answered' n cs fss
  same-sent answered' n [] [] f none = none
  same-sent answered' n [] (fs ∷ fss) f x = elim x [ ]
  same-sent answered' n (c ∷ cs) fss f (other a l) =
      other (by (is_kind c) (λ kind. f 0 c n refl kind (omega arith)) a) (same-sent answered' (suc n) cs fss (λ j d m g t e. f (suc j) d m g t (omega (arith, e))) l) where
        by : (b : Bool) → (b ≡ true → answered' n ≡ answered n) → (b && answered n) ≡ false → (b && answered' n) ≡ false
        by true g a = g refl ∙ a
        by false g a = a
  same-sent answered' n (c ∷ cs) (fs ∷ fss) f (sent a w l) =
      let kind : is_kind c ≡ true = and-left (is_kind c) (answered n) a in
      sent (and-true (is_kind c) (answered' n) kind (f 0 c n refl kind (omega arith) ∙ and-right (is_kind c) (answered n) a)) w
      (same-sent answered' (suc n) cs fss (λ j d m g t e. f (suc j) d m g t (omega (arith, e))) l)

  -- a command more, that was not answered Sent
  grow-sent : (c : Cmd) (n : ℕ) (cs : List Cmd) (fss : List (List Frame)) → ((m : ℕ) → m ≡ n + length cs → answered m ≡ false) → AreSent is_kind answered n cs fss
      → AreSent is_kind answered n (cs ++ c ∷ []) fss
  grow-sent c n [] (fs ∷ fss) f x = elim x [ ]
  grow-sent c n [] [] f none = other (and-false (is_kind c) (answered n) (f n (omega arith))) none
  grow-sent c n (d ∷ cs) fss f (other a l) = other a (grow-sent c (suc n) cs fss (λ m e. f m (omega (arith, e))) l)
  grow-sent c n (d ∷ cs) (fs ∷ fss) f (sent a w l) = sent a w (grow-sent c (suc n) cs fss (λ m e. f m (omega (arith, e))) l)

  -- one more is answered Sent, behind all of its kind that were
  more-sent : (k : ℕ) (c : Cmd) (fs : List Frame) → is_kind c ≡ true → AreFramesOf c fs
      → (i n : ℕ) (cs : List Cmd) (fss : List (List Frame)) → slice_get cs i ≡ Some c → k ≡ n + i
      → ((j : ℕ) (d : Cmd) (m : ℕ) → slice_get cs j ≡ Some d → is_kind d ≡ true → m ≡ n + j → k ≤ m → answered m ≡ false)
      → AreSent is_kind answered n cs fss → AreSent is_kind (marked k answered) n cs (fss ++ fs ∷ [])
  more-sent k c fs kind w i n [] [] told e f none = absurd cc
  more-sent k c fs kind w i n [] (gs ∷ fss) told e f x = elim x [ ]
  more-sent k c fs kind w zero n (d ∷ cs) fss told e f (other a l) =
      let none_left : fss ≡ [] = none-sent (suc n) cs fss (λ j x m g t q. f (suc j) x m g t (omega (arith, q)) (omega (arith, q, e))) l in
      let same : d ≡ c = cc in
      let A : List (List Frame) → Type 0 = λ xs. AreSent is_kind answered (suc n) cs xs in
      let B : List (List Frame) → Type 0 = λ xs. AreSent is_kind (marked k answered) n (d ∷ cs) (xs ++ fs ∷ []) in
      let here : k ≡ n = omega (arith, e) in
      let yes : marked k answered n ≡ true = ap (marked k answered) (sym here) ∙ marked-here k answered in
      let C : Cmd → Type 0 = λ x. AreFramesOf x fs in
      subst B (sym none_left)
      (sent (and-true (is_kind d) (marked k answered n) (ap is_kind same ∙ kind) yes) (subst C (sym same) w)
      (same-sent (marked k answered) (suc n) cs [] (λ j x m g t q. marked-other m k answered (λ z. omega (arith, z, q, e))) (subst A none_left l)))
  more-sent k c fs kind w zero n (d ∷ cs) (gs ∷ fss) told e f (sent a v l) =
      let same : d ≡ c = cc in
      let yes : answered n ≡ true = and-right (is_kind d) (answered n) a in
      let no : answered n ≡ false = f 0 d n refl (ap is_kind same ∙ kind) (omega arith) (omega (arith, e)) in
      absurd cc
  more-sent k c fs kind w (suc i) n (d ∷ cs) fss told e f (other a l) =
      let apart : marked k answered n ≡ answered n = marked-other n k answered (λ z. omega (arith, z, e)) in
      other (ap (λ b. is_kind d && b) apart ∙ a) (more-sent k c fs kind w i (suc n) cs fss told (omega (arith, e)) (λ j x m g t q. f (suc j) x m g t (omega (arith, q))) l)
  more-sent k c fs kind w (suc i) n (d ∷ cs) (gs ∷ fss) told e f (sent a v l) =
      let apart : marked k answered n ≡ answered n = marked-other n k answered (λ z. omega (arith, z, e)) in
      sent (ap (λ b. is_kind d && b) apart ∙ a) v (more-sent k c fs kind w i (suc n) cs fss told (omega (arith, e)) (λ j x m g t q. f (suc j) x m g t (omega (arith, q))) l)

-- ---- what was sent

-- one more comes last
merges-left : {A : Type 0} (x : A) (xs ys zs : List A) → Merges xs ys zs → Merges (xs ++ x ∷ []) ys (zs ++ x ∷ [])
merges-left x [] [] [] none = left none
merges-left x [] (y ∷ ys) [] m = elim m [ ]
merges-left x (y ∷ xs) ys [] m = elim m [ ]
merges-left x (y ∷ xs) ys (z ∷ zs) (left m) = left (merges-left x xs ys zs m)
merges-left x xs (y ∷ ys) (z ∷ zs) (right m) = right (merges-left x xs ys zs m)

merges-right : {A : Type 0} (x : A) (xs ys zs : List A) → Merges xs ys zs → Merges xs (ys ++ x ∷ []) (zs ++ x ∷ [])
merges-right x [] [] [] none = right none
merges-right x [] (y ∷ ys) [] m = elim m [ ]
merges-right x (y ∷ xs) ys [] m = elim m [ ]
merges-right x (y ∷ xs) ys (z ∷ zs) (left m) = left (merges-right x xs ys zs m)
merges-right x xs (y ∷ ys) (z ∷ zs) (right m) = right (merges-right x xs ys zs m)

-- the frames of the sends and the publishes that were answered Sent, command after command, and no others of these
-- numbers were; no other command was answered so
pub record Past (cs : List Cmd) (answered : ℕ → Bool) (r : Reading) (order : List (List Frame)) : Type 0 where
  pub sends : List (List Frame)
  pub publishes : List (List Frame)
  pub are_sends : AreSent is_send answered 1 cs sends
  pub are_publishes : AreSent is_publish answered 1 cs publishes
  pub in_turns : Merges sends publishes order
  pub sends_over : (k : ℕ) (c : Cmd) → command_at cs k ≡ Some c → is_send c ≡ true → r.sends ≤ k → answered k ≡ false
  pub publishes_over : (k : ℕ) (c : Cmd) → command_at cs k ≡ Some c → is_publish c ≡ true → r.publishes ≤ k → answered k ≡ false
  pub only : (k : ℕ) → answered k ≡ true → carries (command_at cs k) ≡ true

-- the same, from greater numbers on
pub past-flow : (cs : List Cmd) (answered : ℕ → Bool) (r r' : Reading) (order order' : List (List Frame)) → r.sends ≤ r'.sends → r.publishes ≤ r'.publishes → order ≡ order' → Past cs answered r order
    → Past cs answered r' order'
past-flow cs answered r r' order order' le le' is p =
    let M : List (List Frame) → Type 0 = λ xs. Merges p.sends p.publishes xs in
    record {
      sends = p.sends;
      publishes = p.publishes;
      are_sends = p.are_sends;
      are_publishes = p.are_publishes;
      in_turns = subst M is p.in_turns;
      sends_over = λ k c told t h. p.sends_over k c told t (omega (arith, le, h));
      publishes_over = λ k c told t h. p.publishes_over k c told t (omega (arith, le', h));
      only = p.only;
    }

-- no promise that was not made was answered Sent
never : (cs : List Cmd) (answered : ℕ → Bool) → ((k : ℕ) → answered k ≡ true → carries (command_at cs k) ≡ true) → (n : ℕ) → length cs < n → answered n ≡ false
never cs answered only n above = by (answered n) refl where
  none : (o : Option Cmd) → command_at cs n ≡ o → carries o ≡ true → ⊥
  none None here carry = true≢false (sym carry)
  none (Some c) here carry = absurd (omega (arith, told-made cs n c here, above))

  by : (b : Bool) → answered n ≡ b → b ≡ false
  by true is = absurd (none (command_at cs n) refl (only n is))
  by false is = refl

-- a command more was told
pub past-grows : (cs : List Cmd) (c : Cmd) (answered : ℕ → Bool) (r : Reading) (order : List (List Frame)) → Past cs answered r order → Past (cs ++ c ∷ []) answered r order
past-grows cs c answered r order p =
    record {
      sends = p.sends;
      publishes = p.publishes;
      are_sends = grow-sent is_send answered c 1 cs p.sends (λ m e. fresh m (omega (arith, e))) p.are_sends;
      are_publishes = grow-sent is_publish answered c 1 cs p.publishes (λ m e. fresh m (omega (arith, e))) p.are_publishes;
      in_turns = p.in_turns;
      sends_over = over is_send r.sends p.sends_over;
      publishes_over = over is_publish r.publishes p.publishes_over;
      only = λ k is. elim (cases_lt (length cs) k) [
        | inl h ↦ absurd (true≢false (sym is ∙ fresh k h))
        | inr h ↦ ap carries (same-below cs c k h) ∙ p.only k is
      ];
    } where
      fresh : (n : ℕ) → length cs < n → answered n ≡ false
      fresh = never cs answered p.only

      over : (is_kind : Cmd → Bool) (low : ℕ) → ((k : ℕ) (d : Cmd) → command_at cs k ≡ Some d → is_kind d ≡ true → low ≤ k → answered k ≡ false)
          → (k : ℕ) (d : Cmd) → command_at (cs ++ c ∷ []) k ≡ Some d → is_kind d ≡ true → low ≤ k → answered k ≡ false
      over is_kind low f k d told t le = elim (cases_lt (length cs) k) [
        | inl h ↦ fresh k h
        | inr h ↦ f k d (sym (same-below cs c k h) ∙ told) t le
      ]

-- a command has a place in the list
pub kind-front : (cs : List Cmd) (k : ℕ) (c : Cmd) → command_at cs k ≡ Some c → (i : ℕ) × (k ≡ suc i) × (slice_get cs i ≡ Some c)
kind-front cs zero c h = absurd cc
kind-front cs (suc i) c h = (i, refl, h)

told-at : (cs : List Cmd) (m j : ℕ) (d : Cmd) → m ≡ 1 + j → slice_get cs j ≡ Some d → command_at cs m ≡ Some d
told-at cs m j d q g =
    let e : m ≡ suc j = omega (arith, q) in
    ap (command_at cs) e ∙ g

-- a command of a kind is none of another
apart : (is_kind : Cmd → Bool) (cs : List Cmd) (n k : ℕ) (d c : Cmd) → command_at cs n ≡ Some d → command_at cs k ≡ Some c → is_kind d ≡ true → (is_kind c ≡ true → ⊥) → n ≢ k
apart is_kind cs n k d c g told t differs z = differs (ap is_kind (sym (same-command cs n k d c g told z)) ∙ t)

-- only commands with frames are answered Sent, where one more of them is
only-marked : (cs : List Cmd) (answered : ℕ → Bool) (c : Cmd) (k : ℕ) → command_at cs k ≡ Some c → carries (Some c) ≡ true → ((n : ℕ) → answered n ≡ true → carries (command_at cs n) ≡ true)
    → (n : ℕ) → marked k answered n ≡ true → carries (command_at cs n) ≡ true
only-marked cs answered c k told carry only n is = elim (cases_eq n k) [
  | inl e ↦ ap (λ m. carries (command_at cs m)) e ∙ ap carries told ∙ carry
  | inr ne ↦ only n (sym (marked-other n k answered ne) ∙ is)
]

-- a command more was answered Sent, and its frames were sent
pub past-whole : (cs : List Cmd) (answered : ℕ → Bool) (r : Reading) (order : List (List Frame)) (fs : List Frame) (c : Cmd) (k : ℕ) → command_at cs k ≡ Some c → AreFramesOf c fs → Past cs answered r order
    → (is_send c ≡ true → r.sends ≤ k) → (is_publish c ≡ true → r.publishes ≤ k) → Past cs (marked k answered) (closed c k r) (order ++ fs ∷ [])
past-whole cs answered r order fs (Send a b) k told w p low low' =
    let c : Cmd = Send a b in
    let at_front = kind-front cs k c told in
    record {
      sends = p.sends ++ fs ∷ [];
      publishes = p.publishes;
      are_sends =
          more-sent is_send answered k c fs refl w at_front.0 1 cs p.sends at_front.2 (omega (arith, at_front.1))
          (λ j d m g t q le. p.sends_over m d (told-at cs m j d q g) t (omega (arith, low refl, le))) p.are_sends;
      are_publishes = same-sent is_publish answered (marked k answered) 1 cs p.publishes (λ j d m g t q. marked-other m k answered (apart is_publish cs m k d c (told-at cs m j d q g) told t (λ h. cc))) p.are_publishes;
      in_turns = merges-left fs p.sends p.publishes order p.in_turns;
      only = only-marked cs answered c k told refl p.only;
      sends_over = λ n d g t le. marked-other n k answered (λ z. omega (arith, z, le)) ∙ p.sends_over n d g t (omega (arith, low refl, le));
      publishes_over = λ n d g t le. marked-other n k answered (apart is_publish cs n k d c g told t (λ h. cc)) ∙ p.publishes_over n d g t le;
    }
past-whole cs answered r order fs (Publish a b x y) k told w p low low' =
    let c : Cmd = Publish a b x y in
    let at_front = kind-front cs k c told in
    record {
      sends = p.sends;
      publishes = p.publishes ++ fs ∷ [];
      are_publishes =
          more-sent is_publish answered k c fs refl w at_front.0 1 cs p.publishes at_front.2 (omega (arith, at_front.1))
          (λ j d m g t q le. p.publishes_over m d (told-at cs m j d q g) t (omega (arith, low' refl, le))) p.are_publishes;
      are_sends = same-sent is_send answered (marked k answered) 1 cs p.sends (λ j d m g t q. marked-other m k answered (apart is_send cs m k d c (told-at cs m j d q g) told t (λ h. cc))) p.are_sends;
      in_turns = merges-right fs p.sends p.publishes order p.in_turns;
      only = only-marked cs answered c k told refl p.only;
      publishes_over = λ n d g t le. marked-other n k answered (λ z. omega (arith, z, le)) ∙ p.publishes_over n d g t (omega (arith, low' refl, le));
      sends_over = λ n d g t le. marked-other n k answered (apart is_send cs n k d c g told t (λ h. cc)) ∙ p.sends_over n d g t le;
    }
past-whole cs answered r order fs _ k told w p low low' = absurd w

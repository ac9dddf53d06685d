-- What a reply does to a server, and what is said before it or after it.
use Rattle.std.proofs.Common.{◌-◌, ◌≡◌, ◌≢◌, ◌⊎◌, inl, inr, ℕ, zero, suc, ◌+◌, ◌==◌, ◌&&◌, if◌then◌else◌, Bool, true, false, List, [], ◌∷◌, ◌++◌, Option, Some, None, option_map, refl, ap, sym, ◌∙◌, subst, arith}
use Rattle.std.proofs.Math.Path.{fun_ext}
use Rattle.std.proofs.lemmas.Bool.Decides.{nat_tests}
use Rattle.std.proofs.lemmas.Bool.{cases_eq}
use Rattle.amqp_frame.specs.declared.frame.Frame.{Frame}
use Rattle.amqp_frame.specs.declared.frame.Frame.TheVariants.{Method}
use Rattle.amqp_frame.specs.declared.method.Method.{Method as AnyMethod}
use Rattle.amqp_frame.specs.declared.method.Method.TheVariants.{Start, Tune, OpenOk, CloseOk, UpdateSecretOk, ChannelOpenOk, ChannelFlowOk, ChannelCloseOk}
use Rattle.amqp_faultless.specs.Faultless.{Use, unused, ServerStage, Server, used_as, provided, one_less, serves_on, heard_from, is_frame_max, answers_to}
use Rattle.amqp_faultless.specs.Faultless.ServerStage.{BeforeStart, BeforeTune, BeforeOpenOk, Serving, Gone}
use Rattle.amqp_legal.specs.Decider.{Speech}
use Rattle.amqp_owing.specs.Owed.{IsReply, hears, hears_all, Owes}

-- ---- small facts

pub plus-one : (n : ℕ) → n + 1 ≡ suc n
plus-one n = omega arith

pub same-number : (n : ℕ) → (n == n) ≡ true
same-number n = grind (arith, nat_tests)

pub if-true : {A : Type 0} → (b : Bool) (x y : A) → b ≡ true → (if b then x else y) ≡ x
if-true {A} b x y h = ap (λ c. if c then x else y) h

pub if-false : {A : Type 0} → (b : Bool) (x y : A) → b ≡ false → (if b then x else y) ≡ y
if-false {A} b x y h = ap (λ c. if c then x else y) h

pub other-number : (m n : ℕ) → m ≢ n → (m == n) ≡ false
other-number m n ne = by (m == n) refl where
  by : (b : Bool) → (m == n) ≡ b → b ≡ false
  by false is = refl
  by true is = absurd (ne (grind (arith, nat_tests)))

-- ---- frames that are heard, one after another

pub none-heard : (rs : List Frame) → hears_all rs None ≡ None
none-heard [] = refl
none-heard (r ∷ rs) = none-heard rs

pub hears-append : (rs qs : List Frame) (o : Option Server) → hears_all (rs ++ qs) o ≡ hears_all qs (hears_all rs o)
hears-append [] qs o = refl
hears-append (r ∷ rs) qs o = hears-append rs qs (hears r o)

-- the first is heard, and then the others
pub first-heard : (r : Frame) (rs : List Frame) (s last : Server) → hears_all (r ∷ rs) (Some s) ≡ Some last
    → (s' : Server) × (heard_from s.stage r s ≡ Some s') × (hears_all rs (Some s') ≡ Some last)
first-heard r rs s last h = by (heard_from s.stage r s) refl h where
  by : (o : Option Server) → heard_from s.stage r s ≡ o → hears_all rs o ≡ Some last
      → (s' : Server) × (heard_from s.stage r s ≡ Some s') × (hears_all rs (Some s') ≡ Some last)
  by None is h = absurd (let bad : None ≡ Some last = sym (none-heard rs) ∙ h in cc)
  by (Some s') is h = (s', is, h)

-- what is owed may be said
pub owed-heard : (p : Speech) (rs : List Frame) (s : Server) (r : Frame) → Owes p (r ∷ rs) s → (s' : Server) × (heard_from s.stage r s ≡ Some s') × Owes p rs s'
owed-heard p rs s r h =
    let k = first-heard r rs s h.last h.says in
    (k.0, k.1, record { are = h.are.1; last = h.last; says = k.2; answered = h.answered })

-- ---- what a reply does

pub provided-by : (b : Bool) (x y : Server) → provided b x ≡ Some y → (b ≡ true) × (x ≡ y)
provided-by true x y h = (refl, (let k : x ≡ y = cc in k))
provided-by false x y h = absurd cc

-- it may be said of a changed server too
pub provided-too : (b : Bool) (x y : Server) (F : Server → Server) → provided b x ≡ Some y → provided b (F x) ≡ Some (F y)
provided-too true x y F h = let k : x ≡ y = cc in ap (λ z. Some (F z)) k
provided-too false x y F h = absurd cc

-- one less, where there is one
abbrev pub less : ℕ → (ℕ → Use) → Option Use
less zero after = None
less (suc n) after = Some (after n)

-- what a reply does to its channel
abbrev pub on_use : AnyMethod → Use → Option Use
on_use ChannelOpenOk u = if u.asked then Some (record u { asked = false; opened = true }) else None
on_use (ChannelFlowOk active) u = if u.opened then less u.flows (λ left. record u { flows = left }) else None
on_use ChannelCloseOk u = if u.opened && u.closing then Some unused else None
on_use _ u = None

abbrev pub IsChannelReply : AnyMethod → Type 0
IsChannelReply ChannelOpenOk = Unit {0}
IsChannelReply (ChannelFlowOk active) = Unit {0}
IsChannelReply ChannelCloseOk = Unit {0}
IsChannelReply _ = ⊥

module _ (k : ℕ) (s : Server) where
  abbrev pub as_used : Use → Server
  as_used u = used_as k u s

  pub guarded : (b : Bool) (u : Use) → provided b (as_used u) ≡ option_map as_used (if b then Some u else None)
  guarded true u = refl
  guarded false u = refl

  pub lessened : (n : ℕ) (after : ℕ → Use) → one_less n (λ left. as_used (after left)) ≡ option_map as_used (less n after)
  lessened zero after = refl
  lessened (suc n) after = refl

  pub flowed : (b : Bool) (n : ℕ) (after : ℕ → Use) → (if b then one_less n (λ left. as_used (after left)) else None) ≡ option_map as_used (if b then less n after else None)
  flowed true n after = lessened n after
  flowed false n after = refl

  pub serves-use : (m : AnyMethod) (held : Use) → IsChannelReply m → serves_on k held (Method k m) s ≡ option_map as_used (on_use m held)
  serves-use ChannelOpenOk held i = guarded held.asked (record held { asked = false; opened = true })
  serves-use (ChannelFlowOk active) held i = flowed held.opened held.flows (λ left. record held { flows = left })
  serves-use ChannelCloseOk held i = guarded (held.opened && held.closing) unused
  serves-use m held i = absurd i

  pub mapped : (o : Option Use) (s' : Server) → option_map as_used o ≡ Some s' → (u : Use) × (o ≡ Some u) × (as_used u ≡ s')
  mapped None s' h = absurd cc
  mapped (Some u) s' h = (u, refl, (let k : as_used u ≡ s' = cc in k))

-- ---- a channel is changed by what is said, before or after a reply

abbrev pub updated : ℕ → Use → (ℕ → Use) → ℕ → Use
updated n u g m = if m == n then u else g m

abbrev pub with_uses : Server → (ℕ → Use) → Server
with_uses s g = record s { uses = g }

-- what is said changes the channel so
abbrev pub changed : ℕ → (Use → Use) → Server → Server
changed n G s = used_as n (G (s.uses n)) s

-- a change that a reply on the same channel does not meet
abbrev pub Agrees : AnyMethod → (Use → Use) → Use → Type 0
Agrees m G u = (v : Use) → on_use m u ≡ Some v → on_use m (G u) ≡ Some (G v)

pub updated-own : (n : ℕ) (u : Use) (g : ℕ → Use) → updated n u g n ≡ u
updated-own n u g = if-true (n == n) u (g n) (same-number n)

pub updated-other : (m n : ℕ) (u : Use) (g : ℕ → Use) → m ≢ n → updated n u g m ≡ g m
updated-other m n u g ne = if-false (m == n) u (g m) (other-number m n ne)

-- on one channel the later change counts
pub updated-again : (n : ℕ) (u v : Use) (g : ℕ → Use) → updated n v (updated n u g) ≡ updated n v g
updated-again n u v g = fun_ext (λ m. by m (m == n) refl) where
  by : (m : ℕ) (b : Bool) → (m == n) ≡ b → updated n v (updated n u g) m ≡ updated n v g m
  by m true is = if-true (m == n) v (updated n u g m) is ∙ sym (if-true (m == n) v (g m) is)
  by m false is = if-false (m == n) v (updated n u g m) is ∙ if-false (m == n) u (g m) is ∙ sym (if-false (m == n) v (g m) is)

-- on two channels the order does not count
pub updated-both : (n k : ℕ) (u v : Use) (g : ℕ → Use) → n ≢ k → updated k v (updated n u g) ≡ updated n u (updated k v g)
updated-both n k u v g ne = fun_ext (λ m. by m (m == k) (m == n) refl refl) where
  by : (m : ℕ) (b c : Bool) → (m == k) ≡ b → (m == n) ≡ c → updated k v (updated n u g) m ≡ updated n u (updated k v g) m
  by m true true hk hn = absurd (ne (let a : m ≡ k = grind (arith, nat_tests) in let b : m ≡ n = grind (arith, nat_tests) in sym b ∙ a))
  by m true false hk hn =
      if-true (m == k) v (updated n u g m) hk ∙ sym (if-true (m == k) v (g m) hk) ∙ sym (if-false (m == n) u (updated k v g m) hn)
  by m false true hk hn =
      if-false (m == k) v (updated n u g m) hk ∙ if-true (m == n) u (g m) hn ∙ sym (if-true (m == n) u (updated k v g m) hn)
  by m false false hk hn =
      if-false (m == k) v (updated n u g m) hk ∙ if-false (m == n) u (g m) hn
      ∙ sym (if-false (m == k) v (g m) hk) ∙ sym (if-false (m == n) u (updated k v g m) hn)

-- a reply on a channel, after a change of one
module _ (n k : ℕ) (G : Use → Use) (m : AnyMethod) (i : IsChannelReply m) (s s' : Server) where
  pub after-change : ((n ≡ k) → Agrees m G (s.uses n)) → serves_on k (s.uses k) (Method k m) s ≡ Some s'
      → serves_on k ((changed n G s).uses k) (Method k m) (changed n G s) ≡ Some (changed n G s')
  after-change agrees h = by (cases_eq n k) (mapped k s (on_use m (s.uses k)) s' (sym (serves-use k s m (s.uses k) i) ∙ h)) where
    t : Server
    t = changed n G s

    by : (n ≡ k) ⊎ (n ≢ k) → (u : Use) × (on_use m (s.uses k) ≡ Some u) × (used_as k u s ≡ s') → serves_on k (t.uses k) (Method k m) t ≡ Some (changed n G s')
    by (inr ne) (u, is, so) =
        let held : t.uses k ≡ s.uses k = updated-other k n (G (s.uses n)) s.uses (λ e. ne (sym e)) in
        let own : (used_as k u s).uses n ≡ s.uses n = updated-other n k u s.uses ne in
        let first : used_as k u t ≡ used_as n (G (s.uses n)) (used_as k u s) = ap (with_uses s) (updated-both n k (G (s.uses n)) u s.uses ne) in
        let then_so : used_as k u t ≡ changed n G (used_as k u s) = first ∙ ap (λ v. used_as n (G v) (used_as k u s)) (sym own) in
        serves-use k t m (t.uses k) i ∙ ap (λ v. option_map (λ (w : Use). used_as k w t) (on_use m v)) held
        ∙ ap (option_map (λ (w : Use). used_as k w t)) is ∙ ap (λ (x : Server). Some x) (then_so ∙ ap (changed n G) so)
    by (inl e) (u, is, so) =
        let held : t.uses k ≡ G (s.uses n) = ap t.uses (sym e) ∙ updated-own n (G (s.uses n)) s.uses in
        let before : on_use m (s.uses n) ≡ Some u = ap (λ j. on_use m (s.uses j)) e ∙ is in
        let own : (used_as n u s).uses n ≡ u = updated-own n u s.uses in
        let left : used_as n (G u) t ≡ used_as n (G u) s = ap (with_uses s) (updated-again n (G (s.uses n)) (G u) s.uses) in
        let right : changed n G (used_as n u s) ≡ used_as n (G u) s = ap (λ v. used_as n (G v) (used_as n u s)) own ∙ ap (with_uses s) (updated-again n u (G u) s.uses) in
        let K : ℕ → Type 0 = λ j. used_as j (G u) t ≡ changed n G (used_as j u s) in
        let then_so : used_as k (G u) t ≡ changed n G (used_as k u s) = subst K e (left ∙ sym right) in
        serves-use k t m (t.uses k) i ∙ ap (λ v. option_map (λ (w : Use). used_as k w t) (on_use m v)) held
        ∙ ap (option_map (λ (w : Use). used_as k w t)) (agrees e u before) ∙ ap (λ (x : Server). Some x) (then_so ∙ ap (changed n G) so)

-- ---- what is said, before or after a reply

-- a new secret
abbrev pub more_secret : Server → Server
more_secret s = record s { secrets = s.secrets + 1 }

pub less-more : (n : ℕ) (s s' : Server) → one_less n (λ left. record s { secrets = left }) ≡ Some s'
    → one_less (suc n) (λ left. record (more_secret s) { secrets = left }) ≡ Some (more_secret s')
less-more zero s s' h = absurd cc
less-more (suc n) s s' h =
    let same : record s { secrets = n } ≡ s' = cc in
    let one : record s { secrets = suc n } ≡ more_secret (record s { secrets = n }) = ap (λ j. record s { secrets = j }) (sym (plus-one n)) in
    ap (λ (x : Server). Some x) (one ∙ ap more_secret same)

pub secret-at : (st : ServerStage) (r : Frame) (s s' : Server) → IsReply r → heard_from st r s ≡ Some s' → heard_from st r (more_secret s) ≡ Some (more_secret s')
secret-at BeforeStart (Method zero (Start a b c d e)) s s' i h = let k : record s { stage = BeforeTune } ≡ s' = cc in ap (λ x. Some (more_secret x)) k
secret-at BeforeTune (Method zero (Tune a b c)) s s' i h = by (is_frame_max b) h where
  by : (x : Bool) → (if x then answers_to BeforeOpenOk s else None) ≡ Some s' → (if x then answers_to BeforeOpenOk (more_secret s) else None) ≡ Some (more_secret s')
  by true h = provided-too s.asked (record s { stage = BeforeOpenOk; asked = false }) s' more_secret h
  by false h = absurd cc
secret-at BeforeOpenOk (Method zero OpenOk) s s' i h = provided-too s.asked (record s { stage = Serving; asked = false }) s' more_secret h
secret-at Serving (Method zero UpdateSecretOk) s s' i h =
    ap (λ j. one_less j (λ left. record (more_secret s) { secrets = left })) (plus-one s.secrets) ∙ less-more s.secrets s s' h
secret-at Serving (Method zero CloseOk) s s' i h = provided-too s.closing (record s { stage = Gone }) s' more_secret h
secret-at Serving (Method (suc k) ChannelOpenOk) s s' i h =
    provided-too (s.uses (suc k)).asked (used_as (suc k) (record (s.uses (suc k)) { asked = false; opened = true }) s) s' more_secret h
secret-at Serving (Method (suc k) (ChannelFlowOk active)) s s' i h = by (s.uses (suc k)).opened (s.uses (suc k)).flows h where
  by : (b : Bool) (n : ℕ) → (if b then one_less n (λ left. used_as (suc k) (record (s.uses (suc k)) { flows = left }) s) else None) ≡ Some s'
      → (if b then one_less n (λ left. used_as (suc k) (record (s.uses (suc k)) { flows = left }) (more_secret s)) else None) ≡ Some (more_secret s')
  by true zero h = absurd cc
  by true (suc n) h = let e : used_as (suc k) (record (s.uses (suc k)) { flows = n }) s ≡ s' = cc in ap (λ x. Some (more_secret x)) e
  by false n h = absurd cc
secret-at Serving (Method (suc k) ChannelCloseOk) s s' i h =
    provided-too ((s.uses (suc k)).opened && (s.uses (suc k)).closing) (used_as (suc k) unused s) s' more_secret h
secret-at st r s s' i h = absurd (let bad : ⊥ = first_of (assumption, cc) in bad)

-- our close
abbrev pub closes : Server → Server
closes s = record s { closing = true }

pub close-at : (st : ServerStage) (r : Frame) (s s' : Server) → IsReply r → heard_from st r s ≡ Some s' → heard_from st r (closes s) ≡ Some (closes s')
close-at BeforeStart (Method zero (Start a b c d e)) s s' i h = let k : record s { stage = BeforeTune } ≡ s' = cc in ap (λ x. Some (closes x)) k
close-at BeforeTune (Method zero (Tune a b c)) s s' i h = by (is_frame_max b) h where
  by : (x : Bool) → (if x then answers_to BeforeOpenOk s else None) ≡ Some s' → (if x then answers_to BeforeOpenOk (closes s) else None) ≡ Some (closes s')
  by true h = provided-too s.asked (record s { stage = BeforeOpenOk; asked = false }) s' closes h
  by false h = absurd cc
close-at BeforeOpenOk (Method zero OpenOk) s s' i h = provided-too s.asked (record s { stage = Serving; asked = false }) s' closes h
close-at Serving (Method zero UpdateSecretOk) s s' i h = by s.secrets h where
  by : (n : ℕ) → one_less n (λ left. record s { secrets = left }) ≡ Some s' → one_less n (λ left. record (closes s) { secrets = left }) ≡ Some (closes s')
  by zero h = absurd cc
  by (suc n) h = let e : record s { secrets = n } ≡ s' = cc in ap (λ x. Some (closes x)) e
close-at Serving (Method zero CloseOk) s s' i h =
    let k = provided-by s.closing (record s { stage = Gone }) s' h in ap (λ x. Some (closes x)) k.1
close-at Serving (Method (suc k) ChannelOpenOk) s s' i h =
    provided-too (s.uses (suc k)).asked (used_as (suc k) (record (s.uses (suc k)) { asked = false; opened = true }) s) s' closes h
close-at Serving (Method (suc k) (ChannelFlowOk active)) s s' i h = by (s.uses (suc k)).opened (s.uses (suc k)).flows h where
  by : (b : Bool) (n : ℕ) → (if b then one_less n (λ left. used_as (suc k) (record (s.uses (suc k)) { flows = left }) s) else None) ≡ Some s'
      → (if b then one_less n (λ left. used_as (suc k) (record (s.uses (suc k)) { flows = left }) (closes s)) else None) ≡ Some (closes s')
  by true zero h = absurd cc
  by true (suc n) h = let e : used_as (suc k) (record (s.uses (suc k)) { flows = n }) s ≡ s' = cc in ap (λ x. Some (closes x)) e
  by false n h = absurd cc
close-at Serving (Method (suc k) ChannelCloseOk) s s' i h =
    provided-too ((s.uses (suc k)).opened && (s.uses (suc k)).closing) (used_as (suc k) unused s) s' closes h
close-at st r s s' i h = absurd (let bad : ⊥ = first_of (assumption, cc) in bad)

-- a channel is changed
pub change-at : (n : ℕ) (G : Use → Use) (st : ServerStage) (r : Frame) (s s' : Server) → IsReply r → ((m : AnyMethod) → IsChannelReply m → Agrees m G (s.uses n))
    → heard_from st r s ≡ Some s' → heard_from st r (changed n G s) ≡ Some (changed n G s')
change-at n G BeforeStart (Method zero (Start a b c d e)) s s' i agrees h = let k : record s { stage = BeforeTune } ≡ s' = cc in ap (λ x. Some (changed n G x)) k
change-at n G BeforeTune (Method zero (Tune a b c)) s s' i agrees h = by (is_frame_max b) h where
  by : (x : Bool) → (if x then answers_to BeforeOpenOk s else None) ≡ Some s' → (if x then answers_to BeforeOpenOk (changed n G s) else None) ≡ Some (changed n G s')
  by true h = provided-too s.asked (record s { stage = BeforeOpenOk; asked = false }) s' (changed n G) h
  by false h = absurd cc
change-at n G BeforeOpenOk (Method zero OpenOk) s s' i agrees h = provided-too s.asked (record s { stage = Serving; asked = false }) s' (changed n G) h
change-at n G Serving (Method zero UpdateSecretOk) s s' i agrees h = by s.secrets h where
  by : (j : ℕ) → one_less j (λ left. record s { secrets = left }) ≡ Some s' → one_less j (λ left. record (changed n G s) { secrets = left }) ≡ Some (changed n G s')
  by zero h = absurd cc
  by (suc j) h = let e : record s { secrets = j } ≡ s' = cc in ap (λ x. Some (changed n G x)) e
change-at n G Serving (Method zero CloseOk) s s' i agrees h = provided-too s.closing (record s { stage = Gone }) s' (changed n G) h
change-at n G Serving (Method (suc k) ChannelOpenOk) s s' i agrees h = after-change n (suc k) G ChannelOpenOk tt s s' (λ e. agrees ChannelOpenOk tt) h
change-at n G Serving (Method (suc k) (ChannelFlowOk active)) s s' i agrees h =
    after-change n (suc k) G (ChannelFlowOk active) tt s s' (λ e. agrees (ChannelFlowOk active) tt) h
change-at n G Serving (Method (suc k) ChannelCloseOk) s s' i agrees h = after-change n (suc k) G ChannelCloseOk tt s s' (λ e. agrees ChannelCloseOk tt) h
change-at n G st r s s' i agrees h = absurd (let bad : ⊥ = first_of (assumption, cc) in bad)

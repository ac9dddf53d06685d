-- How far replies lead a server, and what they leave of a channel.
use Rattle.std.proofs.Common.{◌-◌, ◌≡◌, ◌≢◌, ◌≤◌, ◌<◌, ◌⊎◌, inl, inr, ℕ, zero, suc, ◌+◌, ◌&&◌, if◌then◌else◌, Bool, true, false, List, [], ◌∷◌, Some, None, refl, ap, sym, ◌∙◌, subst, arith}
use Rattle.std.proofs.lemmas.Bool.{cases_eq}
use Rattle.std.specs.List.{AllByRecursion}
use Rattle.amqp_frame.specs.declared.frame.Frame.{Frame}
use Rattle.amqp_frame.specs.declared.frame.Frame.TheVariants.{Method}
use Rattle.amqp_frame.specs.declared.method.Method.{Method as AnyMethod}
use Rattle.amqp_frame.specs.declared.method.Method.TheVariants.{Start, Tune, OpenOk, CloseOk, UpdateSecretOk, ChannelOpenOk, ChannelFlowOk, ChannelCloseOk}
use Rattle.amqp_faultless.specs.Faultless.{Use, unused, ServerStage, Server, used_as, one_less, serves_on, heard_from, is_frame_max, answers_to}
use Rattle.amqp_faultless.specs.Faultless.ServerStage.{BeforeStart, BeforeTune, BeforeOpenOk, Serving, Gone}
use Rattle.amqp_owing.specs.Owed.{IsReply, hears_all}
use Rattle.amqp_owing.proofs.Changes.{plus-one, first-heard, provided-by, less, on_use, IsChannelReply, serves-use, mapped, Agrees, updated-own, updated-other}

-- ---- how far the server is

abbrev pub rank : ServerStage → ℕ
rank BeforeStart = 0
rank BeforeTune = 1
rank BeforeOpenOk = 2
rank Serving = 3
rank Gone = 4

-- each reply but those of an open connection leads on
abbrev pub LeadsOn : ServerStage → ServerStage → Type 0
LeadsOn Serving after = 3 ≤ rank after
LeadsOn st after = rank st < rank after

pub leads-on : (st : ServerStage) (r : Frame) (s s' : Server) → IsReply r → s.stage ≡ st → heard_from st r s ≡ Some s' → LeadsOn st s'.stage
leads-on BeforeStart (Method zero (Start a b c d e)) s s' i is h =
    let k : record s { stage = BeforeTune } ≡ s' = cc in let P : ServerStage → Type 0 = λ x. 0 < rank x in subst P (ap (λ (x : Server). x.stage) k) (omega arith)
leads-on BeforeTune (Method zero (Tune a b c)) s s' i is h = by (is_frame_max b) h where
  by : (x : Bool) → (if x then answers_to BeforeOpenOk s else None) ≡ Some s' → 1 < rank s'.stage
  by true h =
      let k = provided-by s.asked (record s { stage = BeforeOpenOk; asked = false }) s' h in
      let P : ServerStage → Type 0 = λ x. 1 < rank x in subst P (ap (λ (x : Server). x.stage) k.1) (omega arith)
  by false h = absurd cc
leads-on BeforeOpenOk (Method zero OpenOk) s s' i is h =
    let k = provided-by s.asked (record s { stage = Serving; asked = false }) s' h in
    let P : ServerStage → Type 0 = λ x. 2 < rank x in subst P (ap (λ (x : Server). x.stage) k.1) (omega arith)
leads-on Serving (Method zero UpdateSecretOk) s s' i is h = by s.secrets h where
  by : (n : ℕ) → one_less n (λ left. record s { secrets = left }) ≡ Some s' → 3 ≤ rank s'.stage
  by zero h = absurd cc
  by (suc n) h =
      let e : record s { secrets = n } ≡ s' = cc in
      let P : ServerStage → Type 0 = λ x. 3 ≤ rank x in subst P (sym is ∙ ap (λ (x : Server). x.stage) e) (omega arith)
leads-on Serving (Method zero CloseOk) s s' i is h =
    let k = provided-by s.closing (record s { stage = Gone }) s' h in
    let P : ServerStage → Type 0 = λ x. 3 ≤ rank x in subst P (ap (λ (x : Server). x.stage) k.1) (omega arith)
leads-on Serving (Method (suc k) m) s s' i is h = by m i h where
  on : (m : AnyMethod) → IsChannelReply m → serves_on (suc k) (s.uses (suc k)) (Method (suc k) m) s ≡ Some s' → 3 ≤ rank s'.stage
  on m i h =
      let e = mapped (suc k) s (on_use m (s.uses (suc k))) s' (sym (serves-use (suc k) s m (s.uses (suc k)) i) ∙ h) in
      let P : ServerStage → Type 0 = λ x. 3 ≤ rank x in subst P (sym is ∙ ap (λ (x : Server). x.stage) e.2) (omega arith)

  by : (m : AnyMethod) → IsReply (Method (suc k) m) → heard_from Serving (Method (suc k) m) s ≡ Some s' → 3 ≤ rank s'.stage
  by ChannelOpenOk i h = on ChannelOpenOk tt h
  by (ChannelFlowOk active) i h = on (ChannelFlowOk active) tt h
  by ChannelCloseOk i h = on ChannelCloseOk tt h
  by m i h = absurd i
leads-on st r s s' i is h = absurd (let bad : ⊥ = first_of (assumption, cc) in bad)

pub never-back : (st : ServerStage) (x : ServerStage) → LeadsOn st x → rank st ≤ rank x
never-back Serving x h = h
never-back BeforeStart x h = omega (arith, h)
never-back BeforeTune x h = omega (arith, h)
never-back BeforeOpenOk x h = omega (arith, h)
never-back Gone x h = omega (arith, h)

pub ranks : (rs : List Frame) (s last : Server) → AllByRecursion IsReply rs → hears_all rs (Some s) ≡ Some last → rank s.stage ≤ rank last.stage
ranks [] s last are h = let e : s ≡ last = cc in let k = ap (λ (x : Server). rank x.stage) e in omega (arith, k)
ranks (r ∷ rs) s last are h =
    let k = first-heard r rs s last h in
    let a = never-back s.stage k.0.stage (leads-on s.stage r s k.0 are.0 refl k.1) in
    let b = ranks rs k.0 last are.1 k.2 in
    omega (arith, a, b)

-- a server that is as far as before, and does not serve, said nothing
pub none-said : (rs : List Frame) (s last : Server) (st : ServerStage) → (LeadsOn st st → ⊥) → AllByRecursion IsReply rs → s.stage ≡ st → last.stage ≡ st
    → ((x : ServerStage) → LeadsOn st x → rank st < rank x) → hears_all rs (Some s) ≡ Some last → rs ≡ []
none-said [] s last st not are is after up h = refl
none-said (r ∷ rs) s last st not are is after up h =
    let k = first-heard r rs s last h in
    let H : ServerStage → Type 0 = λ x. heard_from x r s ≡ Some k.0 in
    let a = up k.0.stage (leads-on st r s k.0 are.0 is (subst H is k.1)) in
    let b = ranks rs k.0 last are.1 k.2 in
    let c = ap rank after in
    absurd (omega (arith, a, b, c))

-- ---- what a reply leaves of a channel

-- a channel, after any reply
pub kept-use : (Q : Use → Type 0) (n : ℕ) → ((m : AnyMethod) (u v : Use) → IsChannelReply m → Q u → on_use m u ≡ Some v → Q v)
    → (st : ServerStage) (r : Frame) (s s' : Server) → IsReply r → Q (s.uses n) → heard_from st r s ≡ Some s' → Q (s'.uses n)
kept-use Q n keeps BeforeStart (Method zero (Start a b c d e)) s s' i q h =
    let k : record s { stage = BeforeTune } ≡ s' = cc in subst (λ (x : Server). Q (x.uses n)) k q
kept-use Q n keeps BeforeTune (Method zero (Tune a b c)) s s' i q h = by (is_frame_max b) h where
  by : (x : Bool) → (if x then answers_to BeforeOpenOk s else None) ≡ Some s' → Q (s'.uses n)
  by true h = let k = provided-by s.asked (record s { stage = BeforeOpenOk; asked = false }) s' h in subst (λ (x : Server). Q (x.uses n)) k.1 q
  by false h = absurd cc
kept-use Q n keeps BeforeOpenOk (Method zero OpenOk) s s' i q h =
    let k = provided-by s.asked (record s { stage = Serving; asked = false }) s' h in subst (λ (x : Server). Q (x.uses n)) k.1 q
kept-use Q n keeps Serving (Method zero UpdateSecretOk) s s' i q h = by s.secrets h where
  by : (j : ℕ) → one_less j (λ left. record s { secrets = left }) ≡ Some s' → Q (s'.uses n)
  by zero h = absurd cc
  by (suc j) h = let e : record s { secrets = j } ≡ s' = cc in subst (λ (x : Server). Q (x.uses n)) e q
kept-use Q n keeps Serving (Method zero CloseOk) s s' i q h =
    let k = provided-by s.closing (record s { stage = Gone }) s' h in subst (λ (x : Server). Q (x.uses n)) k.1 q
kept-use Q n keeps Serving (Method (suc k) m) s s' i q h = by m i h where
  on : (m : AnyMethod) → IsChannelReply m → serves_on (suc k) (s.uses (suc k)) (Method (suc k) m) s ≡ Some s' → Q (s'.uses n)
  on m i h = at (cases_eq n (suc k)) (mapped (suc k) s (on_use m (s.uses (suc k))) s' (sym (serves-use (suc k) s m (s.uses (suc k)) i) ∙ h)) where
    at : (n ≡ suc k) ⊎ (n ≢ suc k) → (u : Use) × (on_use m (s.uses (suc k)) ≡ Some u) × (used_as (suc k) u s ≡ s') → Q (s'.uses n)
    at (inl e) (u, is, so) =
        let held : (used_as (suc k) u s).uses n ≡ u = ap (used_as (suc k) u s).uses e ∙ updated-own (suc k) u s.uses in
        let R : ℕ → Type 0 = λ j. Q (s.uses j) in
        subst (λ (x : Server). Q (x.uses n)) so (subst Q (sym held) (keeps m (s.uses (suc k)) u i (subst R e q) is))
    at (inr ne) (u, is, so) =
        subst (λ (x : Server). Q (x.uses n)) so (subst Q (sym (updated-other n (suc k) u s.uses ne)) q)

  by : (m : AnyMethod) → IsReply (Method (suc k) m) → heard_from Serving (Method (suc k) m) s ≡ Some s' → Q (s'.uses n)
  by ChannelOpenOk i h = on ChannelOpenOk tt h
  by (ChannelFlowOk active) i h = on (ChannelFlowOk active) tt h
  by ChannelCloseOk i h = on ChannelCloseOk tt h
  by m i h = absurd i
kept-use Q n keeps st r s s' i q h = absurd (let bad : ⊥ = first_of (assumption, cc) in bad)

-- one that is not used stays so
pub unused-stays : (m : AnyMethod) (u v : Use) → IsChannelReply m → u ≡ unused → on_use m u ≡ Some v → v ≡ unused
unused-stays m u v i is h = by m i (sym (ap (on_use m) is) ∙ h) where
  by : (m : AnyMethod) → IsChannelReply m → on_use m unused ≡ Some v → v ≡ unused
  by ChannelOpenOk i h = absurd cc
  by (ChannelFlowOk active) i h = absurd cc
  by ChannelCloseOk i h = absurd cc
  by m i h = absurd i

-- one that we did not close stays so
pub open-stays : (m : AnyMethod) (u v : Use) → IsChannelReply m → u.closing ≡ false → on_use m u ≡ Some v → v.closing ≡ false
open-stays ChannelOpenOk u v i is h = by u.asked h where
  by : (b : Bool) → (if b then Some (record u { asked = false; opened = true }) else None) ≡ Some v → v.closing ≡ false
  by true h = let k : record u { asked = false; opened = true } ≡ v = cc in sym (ap (λ (x : Use). x.closing) k) ∙ is
  by false h = absurd cc
open-stays (ChannelFlowOk active) u v i is h = by u.opened u.flows h where
  by : (b : Bool) (n : ℕ) → (if b then less n (λ left. record u { flows = left }) else None) ≡ Some v → v.closing ≡ false
  by true zero h = absurd cc
  by true (suc n) h = let k : record u { flows = n } ≡ v = cc in sym (ap (λ (x : Use). x.closing) k) ∙ is
  by false n h = absurd cc
open-stays ChannelCloseOk u v i is h = by u.opened h where
  by : (b : Bool) → (if b && u.closing then Some unused else None) ≡ Some v → v.closing ≡ false
  by true h = absurd (let bad : None ≡ Some v = sym (ap (λ c. if c then Some unused else None) is) ∙ h in cc)
  by false h = absurd cc
open-stays m u v i is h = absurd i

-- ---- what is said after replies, and what it changes before them

module _ (F : Server → Server) (Q : Server → Type 0) (same : (s : Server) → (F s).stage ≡ s.stage)
    (keeps : (r : Frame) (s s' : Server) → IsReply r → Q s → heard_from s.stage r s ≡ Some s' → Q s')
    (meets : (r : Frame) (s s' : Server) → IsReply r → Q s → heard_from s.stage r s ≡ Some s' → heard_from s.stage r (F s) ≡ Some (F s')) where
  pub after-replies : (rs : List Frame) (s last : Server) → AllByRecursion IsReply rs → Q s → hears_all rs (Some s) ≡ Some last
      → (hears_all rs (Some (F s)) ≡ Some (F last)) × Q last
  after-replies [] s last are q h = let e : s ≡ last = cc in (ap (λ x. Some (F x)) e, subst Q e q)
  after-replies (r ∷ rs) s last are q h =
      let k = first-heard r rs s last h in
      let rest = after-replies rs k.0 last are.1 (keeps r s k.0 are.0 q k.1) k.2 in
      (ap (λ st. hears_all rs (heard_from st r (F s))) (same s) ∙ ap (hears_all rs) (meets r s k.0 are.0 q k.1) ∙ rest.0, rest.1)

-- a flow, our close of a channel, and its opening
abbrev pub flows_more : Use → Use
flows_more u = record u { flows = u.flows + 1 }

abbrev pub is_closed : Use → Use
is_closed u = record u { closing = true }

abbrev pub is_opened : Use → Use
is_opened u = record unused { asked = true }

pub flow-agrees : (u : Use) → u.closing ≡ false → (m : AnyMethod) → IsChannelReply m → Agrees m flows_more u
flow-agrees u left_open ChannelOpenOk i v h = by u.asked h where
  by : (b : Bool) → (if b then Some (record u { asked = false; opened = true }) else None) ≡ Some v
      → (if b then Some (record (flows_more u) { asked = false; opened = true }) else None) ≡ Some (flows_more v)
  by true h = let k : record u { asked = false; opened = true } ≡ v = cc in ap (λ x. Some (flows_more x)) k
  by false h = absurd cc
flow-agrees u left_open (ChannelFlowOk active) i v h =
    ap (λ n. if u.opened then less n (λ left. record (flows_more u) { flows = left }) else None) (plus-one u.flows) ∙ by u.opened u.flows h
  where
    by : (b : Bool) (n : ℕ) → (if b then less n (λ left. record u { flows = left }) else None) ≡ Some v
        → (if b then less (suc n) (λ left. record (flows_more u) { flows = left }) else None) ≡ Some (flows_more v)
    by true zero h = absurd cc
    by true (suc n) h =
        let k : record u { flows = n } ≡ v = cc in
        ap (λ j. Some (record u { flows = j })) (sym (plus-one n)) ∙ ap (λ x. Some (flows_more x)) k
    by false n h = absurd cc
flow-agrees u left_open ChannelCloseOk i v h = absurd (let bad : None ≡ Some v = sym (shut u.opened) ∙ h in cc) where
  shut : (b : Bool) → (if b && u.closing then Some unused else None) ≡ None
  shut true = ap (λ c. if c then Some unused else None) left_open
  shut false = refl
flow-agrees u left_open m i v h = absurd i

pub close-agrees : (u : Use) → u.closing ≡ false → (m : AnyMethod) → IsChannelReply m → Agrees m is_closed u
close-agrees u left_open ChannelOpenOk i v h = by u.asked h where
  by : (b : Bool) → (if b then Some (record u { asked = false; opened = true }) else None) ≡ Some v
      → (if b then Some (record (is_closed u) { asked = false; opened = true }) else None) ≡ Some (is_closed v)
  by true h = let k : record u { asked = false; opened = true } ≡ v = cc in ap (λ x. Some (is_closed x)) k
  by false h = absurd cc
close-agrees u left_open (ChannelFlowOk active) i v h = by u.opened u.flows h where
  by : (b : Bool) (n : ℕ) → (if b then less n (λ left. record u { flows = left }) else None) ≡ Some v
      → (if b then less n (λ left. record (is_closed u) { flows = left }) else None) ≡ Some (is_closed v)
  by true zero h = absurd cc
  by true (suc n) h = let k : record u { flows = n } ≡ v = cc in ap (λ x. Some (is_closed x)) k
  by false n h = absurd cc
close-agrees u left_open ChannelCloseOk i v h = absurd (let bad : None ≡ Some v = sym (shut u.opened) ∙ h in cc) where
  shut : (b : Bool) → (if b && u.closing then Some unused else None) ≡ None
  shut true = ap (λ c. if c then Some unused else None) left_open
  shut false = refl
close-agrees u left_open m i v h = absurd i

pub open-agrees : (u : Use) → u ≡ unused → (m : AnyMethod) → IsChannelReply m → Agrees m is_opened u
open-agrees u is m i v h = absurd (by m i (sym (ap (on_use m) is) ∙ h)) where
  by : (m : AnyMethod) → IsChannelReply m → on_use m unused ≡ Some v → ⊥
  by ChannelOpenOk i h = cc
  by (ChannelFlowOk active) i h = cc
  by ChannelCloseOk i h = cc
  by m i h = absurd i

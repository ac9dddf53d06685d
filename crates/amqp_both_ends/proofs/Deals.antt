-- What both ends of a link owe each other: frames that are still to be sent, or one reply that is still to be read.
use Rattle.std.proofs.Common.{◌≡◌, ◌∙◌, ap, sym, refl, subst, ℕ, zero, suc, ◌||◌, true, false, List, [], ◌∷◌, ◌++◌, drop, append-nil, append_assoc, Option, Some, None}
use Rattle.std.specs.List.{flat_map}
use Rattle.amqp_frame.specs.declared.frame.Frame.{Frame}
use Rattle.amqp_frame.specs.declared.frame.Frame.TheVariants.{ProtocolHeader, Method, Raw}
use Rattle.amqp_frame.specs.declared.method.Method.TheVariants.{StartOk, Open, Close, UpdateSecret, ChannelOpen, ChannelFlow, ChannelClose}
use Rattle.amqp_settings.specs.declared.configuration.Configuration.{Configuration}
use Rattle.amqp_faultless.specs.Faultless.{Use, Server, silent, said_to, heard_from, is_frame_max}
use Rattle.amqp_faultless.specs.Faultless.ServerStage.{Gone}
use Rattle.amqp_legal.specs.Legal.{amqp_header}
use Rattle.amqp_legal.specs.declared.progress.Usage.{Usage}
use Rattle.amqp_legal.specs.declared.progress.Usage.TheVariants.{Shut, InUse, Left}
use Rattle.amqp_legal.specs.declared.progress.Stage.{Stage}
use Rattle.amqp_legal.specs.declared.progress.Stage.TheVariants.{OpenSaid, CloseSaid}
use Rattle.amqp_legal.specs.Decider.{Speech, greeted, say, say_all, say_open, in_stage, in_content}
use Rattle.amqp_legal.proofs.Sayable.{say-append, none-said, no-some}
use Rattle.amqp_double.specs.Replies.{replies}
use Rattle.amqp_owing.specs.Owed.{use_after, AllAnswered, IsAllAnswered, Owes, Fits, all_said, Later}
use Rattle.amqp_owing.proofs.Owing.{opened-answered, last-here, owed-said, owed-header}
use Rattle.amqp_owing.proofs.Changes.{owed-heard}
use Rattle.amqp_owing.proofs.Behind.{fits-so}
use Rattle.amqp_owing.proofs.Sayings.{block-said}

-- all of these but the last have no reply
abbrev pub OnlyLast : Configuration → List Frame → Type 0
OnlyLast numbers [] = Unit {0}
OnlyLast numbers (f ∷ []) = Unit {0}
OnlyLast numbers (f ∷ g ∷ fs) = (replies numbers f ≡ []) × OnlyLast numbers (g ∷ fs)

-- one reply is to be read, or frames are to be sent, and not both
abbrev pub TakesTurns : List Frame → List Frame → Type 0
TakesTurns [] fs = Unit {0}
TakesTurns (r ∷ []) [] = Unit {0}
TakesTurns _ _ = ⊥

-- once the header was said, and these frames behind it: what is owed, and what is still to be said
pub record Spoken (numbers : Configuration) (said fs rs : List Frame) (s : Server) : Type 0 where
  pub p : Speech
  pub may : say_all (Some greeted) said ≡ Some p
  pub owes : Owes p rs s
  pub later : Later p fs s
  pub only : OnlyLast numbers fs
  pub turns : TakesTurns rs fs

-- these were said, those are still to be said, and these replies are owed; at first the header is to be said
abbrev pub Deals : Configuration → List Frame → List Frame → List Frame → Server → Type 0
Deals numbers [] fs rs s = (s ≡ silent) × (rs ≡ []) × (fs ≡ amqp_header ∷ [])
Deals numbers (g ∷ said) fs rs s = (g ≡ amqp_header) × Spoken numbers said fs rs s

-- ---- a frame is said

one-reply : (numbers : Configuration) (f : Frame) → TakesTurns (replies numbers f) []
one-reply numbers (ProtocolHeader v) = tt
one-reply numbers (Method zero (StartOk client mechanism response locale)) = tt
one-reply numbers (Method zero (Open vhost)) = tt
one-reply numbers (Method zero (Close code text class method)) = tt
one-reply numbers (Method zero (UpdateSecret secret reason)) = tt
one-reply numbers (Method (suc n) ChannelOpen) = tt
one-reply numbers (Method (suc n) (ChannelFlow active)) = tt
one-reply numbers (Method (suc n) (ChannelClose code text class method)) = tt
one-reply numbers f = tt

turns-after : (numbers : Configuration) (rs fs : List Frame) (f : Frame) → TakesTurns rs (f ∷ fs) → OnlyLast numbers (f ∷ fs) → TakesTurns (rs ++ replies numbers f) fs
turns-after numbers [] [] f turns only = one-reply numbers f
turns-after numbers [] (g ∷ fs) f turns only = subst (λ (rs : List Frame). TakesTurns rs (g ∷ fs)) (sym only.0) tt
turns-after numbers (r ∷ []) fs f turns only = absurd turns
turns-after numbers (r ∷ q ∷ rs) fs f turns only = absurd turns

only-after : (numbers : Configuration) (fs : List Frame) (f : Frame) → OnlyLast numbers (f ∷ fs) → OnlyLast numbers fs
only-after numbers [] f only = tt
only-after numbers (g ∷ fs) f only = only.1

module _ (numbers : Configuration) (most : is_frame_max numbers.frame_max ≡ true) where
  spoken-sent : (said fs rs : List Frame) (f : Frame) (s : Server) → Spoken numbers said (f ∷ fs) rs s → Spoken numbers (said ++ f ∷ []) fs (rs ++ replies numbers f) (said_to f s)
  spoken-sent said fs rs f s h =
      let l = h.later in
      record {
        p = l.0;
        may = say-append (Some greeted) said (f ∷ []) ∙ ap (λ o. say_all o (f ∷ [])) h.may ∙ ap (λ o. say_all o []) l.1;
        owes = owed-said numbers h.p l.0 rs s h.owes f most l.1 l.2;
        later = l.3;
        only = only-after numbers fs f h.only;
        turns = turns-after numbers rs fs f h.turns h.only;
      }

  first-sent : Spoken numbers [] [] ([] ++ replies numbers amqp_header) (said_to amqp_header silent)
  first-sent = record { p = greeted; may = refl; owes = owed-header numbers; later = tt; only = tt; turns = tt }

  deals-sent : (sent fs rs : List Frame) (f : Frame) (s : Server) → Deals numbers sent (f ∷ fs) rs s → Deals numbers (sent ++ f ∷ []) fs (rs ++ replies numbers f) (said_to f s)
  deals-sent [] fs rs f s h =
      let all : f ∷ fs ≡ amqp_header ∷ [] = h.2 in
      let head : f ≡ amqp_header = cc in
      let none : fs ≡ [] = cc in (
        head,
        subst (λ (x : Server). Spoken numbers [] fs (rs ++ replies numbers f) (said_to f x)) (sym h.0)
            (subst (λ (xs : List Frame). Spoken numbers [] fs (xs ++ replies numbers f) (said_to f silent)) (sym h.1)
            (subst (λ (x : Frame). Spoken numbers [] fs ([] ++ replies numbers x) (said_to x silent)) (sym head)
            (subst (λ (xs : List Frame). Spoken numbers [] xs ([] ++ replies numbers amqp_header) (said_to amqp_header silent)) (sym none) first-sent))),
      )
  deals-sent (g ∷ said) fs rs f s h = (h.0, spoken-sent said fs rs f s h.1)

  -- frames are said, one after another
  pub deals-all : (gs sent fs rs : List Frame) (s : Server) → Deals numbers sent (gs ++ fs) rs s
      → Deals numbers (sent ++ gs) fs (rs ++ flat_map (replies numbers) gs) (all_said gs s)
  deals-all [] sent fs rs s h =
      subst (λ (xs : List Frame). Deals numbers xs fs (rs ++ []) s) (sym (append-nil sent))
      (subst (λ (xs : List Frame). Deals numbers sent fs xs s) (sym (append-nil rs)) h)
  deals-all (g ∷ gs) sent fs rs s h =
      subst (λ (xs : List Frame). Deals numbers xs fs (rs ++ (replies numbers g ++ flat_map (replies numbers) gs)) (all_said gs (said_to g s))) (append_assoc sent (g ∷ []) gs)
      (subst (λ (xs : List Frame). Deals numbers ((sent ++ g ∷ []) ++ gs) fs xs (all_said gs (said_to g s))) (append_assoc rs (replies numbers g) (flat_map (replies numbers) gs))
      (deals-all gs (sent ++ g ∷ []) fs (rs ++ replies numbers g) (said_to g s) (deals-sent sent (gs ++ fs) rs g s h)))

-- ---- a reply is read

-- nothing is still to be said, no other reply is owed, and the server may say this one
pub record HeardOne (numbers : Configuration) (sent fs rs : List Frame) (r : Frame) (s : Server) : Type 0 where
  pub nothing : fs ≡ []
  pub alone : rs ≡ []
  pub server : Server
  pub heard : heard_from s.stage r s ≡ Some server
  pub deals : Deals numbers sent [] [] server

pub deals-heard : (numbers : Configuration) (sent fs rs : List Frame) (r : Frame) (s : Server) → Deals numbers sent fs (r ∷ rs) s → HeardOne numbers sent fs rs r s
deals-heard numbers [] fs rs r s h = absurd (let none : r ∷ rs ≡ [] = h.1 in cc)
deals-heard numbers (g ∷ said) fs rs r s h = by fs rs h.1 where
  by : (fs rs : List Frame) → Spoken numbers said fs (r ∷ rs) s → HeardOne numbers (g ∷ said) fs rs r s
  by [] [] k =
      let o = owed-heard k.p [] s r k.owes in
      record {
        nothing = refl;
        alone = refl;
        server = o.0;
        heard = o.1;
        deals = (h.0, record { p = k.p; may = k.may; owes = o.2; later = tt; only = tt; turns = tt });
      }
  by [] (q ∷ rs) k = absurd k.turns
  by (f ∷ fs) [] k = absurd k.turns
  by (f ∷ fs) (q ∷ rs) k = absurd k.turns

-- ---- our close

-- our close was said, or is still to be
abbrev pub HasClosed : List Frame → Type 0
HasClosed fs = (q : Speech) × (say_all (Some greeted) (drop 1 fs) ≡ Some q) × (q.stage ≡ CloseSaid)

-- where it was said and answered, and nothing is still to be said, the server is gone
pub closed-gone : (numbers : Configuration) (sent : List Frame) (s : Server) → Deals numbers sent [] [] s → HasClosed (sent ++ []) → s.stage ≡ Gone
closed-gone numbers [] s h c = absurd (let none : [] ≡ amqp_header ∷ [] = h.2 in cc)
closed-gone numbers (g ∷ said) s h c =
    let k : Spoken numbers said [] [] s = h.1 in
    let both : Some k.p ≡ Some c.0 = sym k.may ∙ ap (say_all (Some greeted)) (sym (append-nil said)) ∙ c.1 in
    let same : k.p ≡ c.0 = cc in
    let closed : k.p.stage ≡ CloseSaid = ap (λ (p : Speech). p.stage) same ∙ c.2 in
    let here : s ≡ k.owes.last = last-here [] s k.owes.last refl k.owes.says in
    ap (λ (x : Server). x.stage) here ∙ subst (λ (st : Stage). IsAllAnswered st k.p k.owes.last) closed k.owes.answered

-- ---- frames are queued

-- each of these is said only where the server is so far
abbrev pub FitAll : List Frame → Server → Type 0
FitAll [] s = Unit {0}
FitAll (f ∷ fs) s = Fits f s × FitAll fs (said_to f s)

pub later-of : (fs : List Frame) (p q : Speech) (s : Server) → say_all (Some p) fs ≡ Some q → FitAll fs s → Later p fs s
later-of [] p q s h fits = tt
later-of (f ∷ fs) p q s h fits = by (say f p) refl h (λ v k. later-of fs v q (said_to f s) k fits.1) where
  by : (o : Option Speech) → say f p ≡ o → say_all o fs ≡ Some q → ((v : Speech) → say_all (Some v) fs ≡ Some q → Later v fs (said_to f s)) → Later p (f ∷ fs) s
  by None is k rest = absurd (no-some (say_all None fs) q (none-said fs) k)
  by (Some v) is k rest = (v, is, fits.0, rest v k)

pub spoken-queued : (numbers : Configuration) (said fs : List Frame) (s : Server) (h : Spoken numbers said [] [] s) → Later h.p fs s → OnlyLast numbers fs → Spoken numbers said fs [] s
spoken-queued numbers said fs s h later only = record { p = h.p; may = h.may; owes = h.owes; later = later; only = only; turns = tt }

-- ---- what a command says

-- what a command says but for contents
abbrev pub IsOfCommand : Frame → Type 0
IsOfCommand (Method zero (Close code text class method)) = Unit {0}
IsOfCommand (Method zero (UpdateSecret secret reason)) = Unit {0}
IsOfCommand (Method (suc k) ChannelOpen) = Unit {0}
IsOfCommand (Method (suc k) (ChannelFlow active)) = Unit {0}
IsOfCommand (Method (suc k) (ChannelClose code text class method)) = Unit {0}
IsOfCommand (Raw n kind bytes) = Unit {0}
IsOfCommand f = ⊥

shut-unused : (u : Usage) (n : ℕ) (p p' : Speech) (held : Use) → say_open u n p ≡ Some p' → held ≡ use_after u → (held.asked || held.opened) ≡ false
shut-unused InUse n p p' held h is = absurd cc
shut-unused Shut n p p' held h is = ap (λ (x : Use). x.asked || x.opened) is
shut-unused Left n p p' held h is = ap (λ (x : Use). x.asked || x.opened) is

-- where nothing is owed, it fits
pub command-fits : (f : Frame) (p p' : Speech) (s : Server) → IsOfCommand f → p.stage ≡ OpenSaid → Owes p [] s → say f p ≡ Some p' → Fits f s
command-fits f p p' s of is_opened owes said = by f of said where
  here : s ≡ owes.last
  here = last-here [] s owes.last refl owes.says

  all : AllAnswered p s
  all = subst (AllAnswered p) (sym here) (opened-answered p.stage p owes.last is_opened owes.answered)

  by : (f : Frame) → IsOfCommand f → say f p ≡ Some p' → Fits f s
  by (Method zero (Close code text class method)) of said = tt
  by (Method zero (UpdateSecret secret reason)) of said = tt
  by (Method (suc k) ChannelOpen) of said =
      let opened : in_content p.content (Method (suc k) ChannelOpen) p ≡ Some p' = sym (ap (λ st. in_stage st (Method (suc k) ChannelOpen) p) is_opened) ∙ said in
      let block = block-said p.content (Method (suc k) ChannelOpen) p p' tt opened in
      fits-so p p' [] s owes (Method (suc k) ChannelOpen) said (shut-unused (p.usage (suc k)) (suc k) p p' (s.uses (suc k)) block (all.uses (suc k)))
  by (Method (suc k) (ChannelFlow active)) of said = fits-so p p' [] s owes (Method (suc k) (ChannelFlow active)) said tt
  by (Method (suc k) (ChannelClose code text class method)) of said = fits-so p p' [] s owes (Method (suc k) (ChannelClose code text class method)) said tt
  by (Raw n kind bytes) of said = tt
  by f of said = absurd of

-- All that an engine commits on each link keeps the numbers of its tune-ok, and can be written.
use Rattle.std.proofs.Common.{◌≡◌, subst, ℕ, suc, zero, ◌+◌, List, [], ◌∷◌, ◌++◌, arith}
use Rattle.std.specs.List.{AllByRecursion}
use Rattle.amqp_types.specs.Forms.{IsOctets}
use Rattle.amqp_types.proofs.Readers.{IsOctets-drop}
use Rattle.amqp_frame.specs.declared.frame.Frame.{Frame}
use Rattle.amqp_frame.specs.declared.frame.Read.{Read}
use Rattle.amqp_frame.specs.declared.frame.Read.TheVariants.{Whole}
use Rattle.amqp_frame.specs.FrameReading.{front}
use Rattle.amqp_frame.specs.Fronts.{IsFront}
use Rattle.amqp_frame.specs.Frames.{Writable}
use Rattle.amqp_frame.proofs.FrontOnly.{front_holds}
use Rattle.amqp_auth.specs.declared.asked.Asked.{Asked}
use Rattle.amqp_commands.specs.declared.command.Cmd.{Cmd}
use Rattle.amqp_commands.specs.declared.command.Cmd.TheVariants.{OpenChannel, CloseChannel, CloseConnection, UpdateSecret, Send, Publish, Flow, DropChannel, DropConnection, Listen}
use Rattle.amqp_rules.specs.Talk.{Talk}
use Rattle.amqp_legal.specs.Agreed.{KeepsAgreed}
use Rattle.amqp_written_rules.specs.Sayable.{CanBeSaid, CanBeTold}
use Rattle.amqp_written_rules.proofs.Agreeing.{within-bounds, spoken-agreed}
use Rattle.amqp_written_rules.proofs.Writable.{Fits, IsHeard, by-rules, spoken-writable, spelled-heard}
use Rattle.amqp_engine.specs.declared.port.Step.TheVariants.{Command}
use Rattle.amqp_engine.specs.Engine.{Engine, begin}
use Rattle.amqp_engine.specs.Turn.{Turn, IsToldCommand, IsTold, AreTold, StepCanBeTold, IsFit, AreFit, AreTurns, turns}
use Rattle.amqp_engine.specs.Sending.{sendings}
use Rattle.amqp_engine.specs.Saying.{CommittedAgreed, CommittedWritable}
use Rattle.amqp_engine.specs.Account.{IsNew, History, HasHistory}
use Rattle.amqp_engine.proofs.SpokenLinks.{Fitting, kept-links, turns-keep, new-keeps, sent-keeps}

-- ---- the numbers that were agreed

all-asked : (answers : List Asked) → AllByRecursion (λ (a : Asked). Unit {0}) answers
all-asked [] = tt
all-asked (a ∷ answers) = (tt, all-asked answers)

all-turns : (us : List Turn) → AllByRecursion (λ (u : Turn). Unit {0}) us
all-turns [] = tt
all-turns (u ∷ us) = (tt, all-turns us)

-- nothing is asked
any-fitting : Fitting within-bounds
unfolding within-bounds
any-fitting =
    record {
      Octets = λ bytes. Unit {0};
      Asks = λ u. Unit {0};
      nothing = tt;
      joins = λ xs ys h k. tt;
      leaves = λ n xs h. tt;
      hears = λ bytes limit n f h is. tt;
      tells = λ u c is asks. tt;
      brings = λ u asks. tt;
      answers = λ u asks. all-asked u.notes.auths;
      fits = λ u told fit. tt;
      may = λ c told can. tt;
    }

pub sent_agreed : (e : Engine) (h : History) → HasHistory e h → AllByRecursion CommittedAgreed h.sent
unfolding within-bounds
sent_agreed e h k =
    kept-links within-bounds any-fitting KeepsAgreed tt spoken-agreed e h.sent (sent-keeps within-bounds any-fitting KeepsAgreed tt spoken-agreed e h k tt)

pub turns_agreed : (t : Talk) (us : List Turn) → IsNew t → AreTurns us (begin t) → AllByRecursion CommittedAgreed (sendings t us)
unfolding within-bounds any-fitting
turns_agreed t us new may =
    kept-links within-bounds any-fitting KeepsAgreed tt spoken-agreed (turns us (begin t)) (sendings t us)
    (turns-keep within-bounds any-fitting KeepsAgreed tt spoken-agreed us (begin t) [] may (all-turns us)
    (new-keeps within-bounds any-fitting KeepsAgreed tt spoken-agreed t new tt tt))

-- ---- what can be written

octets-join : (xs ys : List ℕ) → IsOctets xs → IsOctets ys → IsOctets (xs ++ ys)
octets-join [] ys h k i = k i
octets-join (x ∷ xs) ys h k zero = h 0
octets-join (x ∷ xs) ys h k (suc i) = octets-join xs ys (λ j. h (suc j)) k i

-- what is read has its numbers in the range of their types
read-heard : (bytes : List ℕ) (limit n : ℕ) (f : Frame) → IsOctets bytes → front bytes limit ≡ Whole f n → IsHeard f
read-heard bytes limit n f octets is =
    let P : Read → Type 0 = λ r. IsFront bytes limit r in
    let whole = subst P is (front_holds bytes limit octets) in
    spelled-heard f whole.0 whole.4

told-fits : (c : Cmd) → IsToldCommand c → CanBeTold c → Fits c
told-fits (Send channel method) h can = (h.0, h.1, h.2, h.3)
told-fits (Publish channel method properties body) h can = ((h.0.0, h.0.1, h.0.2, h.0.3), h.1)
told-fits OpenChannel h can = can
told-fits (CloseChannel channel code text) h can = can
told-fits (CloseConnection code text) h can = can
told-fits (UpdateSecret secret reason) h can = can
told-fits (Flow channel active) h can = can
told-fits (DropChannel channel) h can = can
told-fits DropConnection h can = can
told-fits Listen h can = can

-- what may be told
abbrev MayBe : Turn → Type 0
MayBe u = IsTold u.step × IsFit u

step-fits : (u : Turn) (c : Cmd) → u.step ≡ Command c → MayBe u → Fits c
step-fits u c is may =
    let told : IsToldCommand c = subst IsTold is may.0 in
    let can : CanBeTold c = subst StepCanBeTold is may.1.step in
    told-fits c told can

all-fitting : Fitting by-rules
unfolding by-rules
all-fitting =
    record {
      Octets = IsOctets;
      Asks = MayBe;
      nothing = λ i. omega arith;
      joins = octets-join;
      leaves = IsOctets-drop;
      hears = read-heard;
      tells = step-fits;
      brings = λ u may. may.1.bytes;
      answers = λ u may. may.1.auths;
      fits = λ u told fit. (told, fit);
      may = told-fits;
    }

both : (us : List Turn) → AreTold us → AreFit us → AllByRecursion MayBe us
both [] told fit = tt
both (u ∷ us) told fit = ((told.0, fit.0), both us told.1 fit.1)

abbrev AreWritable : List Frame → Type 0
AreWritable fs = AllByRecursion Writable fs

pub sent_writable : (e : Engine) (h : History) → HasHistory e h → CanBeSaid e.talk.config → AllByRecursion CommittedWritable h.sent
unfolding by-rules
sent_writable e h k can =
    kept-links by-rules all-fitting AreWritable tt spoken-writable e h.sent (sent-keeps by-rules all-fitting AreWritable tt spoken-writable e h k can)

pub turns_writable : (t : Talk) (us : List Turn) → IsNew t → CanBeSaid t.config → AreTurns us (begin t) → AreTold us → AreFit us
    → AllByRecursion CommittedWritable (sendings t us)
unfolding by-rules all-fitting
turns_writable t us new can may told fit =
    kept-links by-rules all-fitting AreWritable tt spoken-writable (turns us (begin t)) (sendings t us)
    (turns-keep by-rules all-fitting AreWritable tt spoken-writable us (begin t) [] may (both us told fit)
    (new-keeps by-rules all-fitting AreWritable tt spoken-writable t new tt can))

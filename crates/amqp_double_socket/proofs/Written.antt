-- What is written and what is fed, step by step.
use Rattle.std.proofs.Common.{◌≡◌, ◌≤◌, ◌+◌, ℕ, List, [], ◌++◌, length, take, drop, Option, None, ap, sym, refl, ◌∙◌, subst, arith, append_assoc, append-nil, length-append, length-drop, take-append-drop}
use Rattle.std.proofs.lemmas.Grind.{common_steps}
use Rattle.std.proofs.lemmas.List.{drop-drop}
use Rattle.std.proofs.KnownBytes.{Appends-nil, Appends-trans, Appends-kept, Consumes-nil, Consumes-trans}
use Rattle.std.specs.Io.KnownBytes.{Appends, Keeps}
use Rattle.amqp_double.specs.Doubles.{DoubleState, AnswersClient}
use Rattle.amqp_double_socket.specs.Serving.{HasSentAll, HasWritten, Sends, FeedsOn}

-- of a double of which so many octets more were sent
abbrev pub sent_more : ℕ → DoubleState → DoubleState
sent_more n d = record d { sent = d.sent + n }

-- nothing is sent at first
pub Sends-none : (d : DoubleState) (a : Option (List ℕ)) → Sends d d a a
Sends-none d a = record {
  octets = [];
  same = refl;
  front = refl;
  sent = omega arith;
  written = Appends-nil a;
}

-- some octets more
pub Sends-more : (d e : DoubleState) (a b c : Option (List ℕ)) (n : ℕ) → Sends d e a b → n ≤ length (drop e.sent e.said)
    → Appends b c (take n (drop e.sent e.said)) → Sends d (sent_more n e) a c
Sends-more d e a b c n sends within written =
    let rest = drop e.sent d.said in
    let said : e.said ≡ d.said = ap (λ x. x.said) sends.same in
    let P : List ℕ → Type 0 = λ x. n ≤ length (drop e.sent x) in
    let Q : List ℕ → Type 0 = λ x. Appends b c (take n (drop e.sent x)) in
    let fits : n ≤ length rest = subst P said within in
    let long : length (take n rest) ≡ n = grind (arith, common_steps) in
    record {
      octets = sends.octets ++ take n rest;
      same = ap (sent_more n) sends.same;
      front = sends.front ∙ ap (λ l. sends.octets ++ l) (sym (take-append-drop n rest)) ∙ sym (append_assoc sends.octets (take n rest) (drop n rest))
          ∙ ap (λ l. (sends.octets ++ take n rest) ++ l) (drop-drop n e.sent d.said);
      sent = omega (arith, sends.sent, long, length-append sends.octets (take n rest));
      written = Appends-trans a b c sends.octets (take n rest) sends.written (subst Q said written);
    }

-- the same, where the double is said by an equation
pub Sends-then : (d e f : DoubleState) (a b c : Option (List ℕ)) (n : ℕ) → f ≡ sent_more n e → Sends d e a b → n ≤ length (drop e.sent e.said)
    → Appends b c (take n (drop e.sent e.said)) → Sends d f a c
Sends-then d e f a b c n same sends within written = subst (λ x. Sends d x a c) (sym same) (Sends-more d e a b c n sends within written)

-- nothing more is sent
pub Sends-kept : (d e : DoubleState) (a b c : Option (List ℕ)) → Sends d e a b → Keeps b c → Sends d e a c
Sends-kept d e a b c sends kept = record {
  octets = sends.octets;
  same = sends.same;
  front = sends.front;
  sent = sends.sent;
  written = Appends-kept a b c sends.octets sends.written kept;
}

-- it still answers its client
pub AnswersClient-sent : (d : DoubleState) (n : ℕ) → n ≤ length (drop d.sent d.said) → AnswersClient d → AnswersClient (sent_more n d)
AnswersClient-sent d n within (frames, answered, stops) = (
  frames,
  record {
    stand = answered.stand;
    legal = answered.legal;
    count = answered.count;
    said = answered.said;
    sent = omega (arith, within, answered.sent, length-drop d.sent d.said);
    closed = answered.closed;
  },
  stops,
)

-- the same, where the double is said by an equation
pub AnswersClient-then : (d e : DoubleState) (n : ℕ) → e ≡ sent_more n d → n ≤ length (drop d.sent d.said) → AnswersClient d → AnswersClient e
AnswersClient-then d e n same within answers = subst AnswersClient (sym same) (AnswersClient-sent d n within answers)

-- nothing is written at first
pub HasWritten-none : (d : DoubleState) (a : Option (List ℕ)) → HasSentAll d → HasWritten d d a a
HasWritten-none d a all =
    let rest : drop d.sent d.said ≡ [] = grind (arith, common_steps) in
    record {
      more = [];
      octets = [];
      said = sym (append-nil d.said);
      front = sym rest;
      sent = omega arith;
      written = Appends-nil a;
    }

-- after it said more, some of that was sent
pub HasWritten-said : (d e f : DoubleState) (more : List ℕ) (a b : Option (List ℕ)) → HasSentAll d → e.said ≡ d.said ++ more → e.sent ≡ d.sent
    → Sends e f a b → HasWritten d f a b
HasWritten-said d e f more a b all said sent sends =
    let same : f.said ≡ e.said = ap (λ x. x.said) sends.same in
    let unsent : drop e.sent e.said ≡ more = grind (arith, common_steps) in
    record {
      more = more;
      octets = sends.octets;
      said = same ∙ said;
      front = sym unsent ∙ sends.front ∙ ap (λ l. sends.octets ++ drop f.sent l) (sym same);
      sent = sends.sent ∙ ap (λ n. n + length sends.octets) sent;
      written = sends.written;
    }

-- one after another
pub HasWritten-on : (d e f : DoubleState) (a b c : Option (List ℕ)) → HasSentAll e → HasWritten d e a b → HasWritten e f b c → HasWritten d f a c
HasWritten-on d e f a b c all one two =
    let none : drop e.sent e.said ≡ [] = grind (arith, common_steps) in
    let first : one.more ≡ one.octets = one.front ∙ ap (λ l. one.octets ++ l) none ∙ append-nil one.octets in
    record {
      more = one.more ++ two.more;
      octets = one.octets ++ two.octets;
      said = two.said ∙ ap (λ l. l ++ two.more) one.said ∙ append_assoc d.said one.more two.more;
      front = ap (λ l. l ++ two.more) first ∙ ap (λ l. one.octets ++ l) two.front ∙ sym (append_assoc one.octets two.octets (drop f.sent f.said));
      sent = omega (arith, one.sent, two.sent, length-append one.octets two.octets);
      written = Appends-trans a b c one.octets two.octets one.written two.written;
    }

-- nothing is fed at first
pub FeedsOn-none : (d : DoubleState) (a : Option (List ℕ)) → FeedsOn d d a a
FeedsOn-none d a = λ _. ([], sym (append-nil d.client), Consumes-nil a)

-- one after another
pub FeedsOn-on : (d e f : DoubleState) (a b c : Option (List ℕ)) → (d.refusal ≡ None → e.refusal ≡ None) → FeedsOn d e a b → FeedsOn e f b c → FeedsOn d f a c
FeedsOn-on d e f a b c unrefused one two = λ free.
    let (first, fed, read) = one free in
    let (second, fed', read') = two (unrefused free) in
    (first ++ second, fed' ∙ ap (λ l. l ++ second) fed ∙ append_assoc d.client first second, Consumes-trans a b c first second read read')

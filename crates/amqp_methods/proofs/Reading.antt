-- What a server says is read, and what is read was said so.
use Rattle.std.proofs.Common.{eq-eqb, ◌≡◌, ℕ, ◌%◌, ◌/◌, ◌==◌, ◌&&◌, eqb, Bool, true, false, cond, List, [], ◌++◌, length, Option, Some, None, refl, sym, ap, subst, ◌∙◌}
use Rattle.std.proofs.lemmas.Bool.{eqb-true}
use Rattle.std.proofs.lemmas.List.{append-nil, nil_from_length}
use Rattle.std.specs.Int.{w16, w64}
use Rattle.amqp_types.specs.Forms.{Form, IsOctets, ◌▸◌, OctetOf, NumberOf, ShortStringOf}
use Rattle.amqp_types.specs.Reading.{Reader, ◌>>=◌}
use Rattle.amqp_types.proofs.Readers.{IsReader, bind_some, octet_reader, number16_reader, number64_reader, both_reader, short_string_reader}
use Rattle.amqp_types.proofs.Small.{some_is, and-left, and-right}
use Rattle.amqp_frame.specs.FrameReading.{exactly}
use Rattle.amqp_methods.specs.declared.heard.Deliver.{Deliver}
use Rattle.amqp_methods.specs.declared.heard.Ack.{Ack}
use Rattle.amqp_methods.specs.declared.heard.Nack.{Nack}
use Rattle.amqp_methods.specs.Heard.{DeliverOf, AckOf, NackOf, method_at, basic_in, tag_and_flags_at, deliver_arguments_at, delivery_of, deliver_in, ack_in, nack_in}

-- what a test lets through
tested : {A : Type 0} (b : Bool) (x y : A) → cond b (Some x) None ≡ Some y → (b ≡ true) × (x ≡ y)
tested true x y e = (refl, some_is x y e)
tested false x y e = absurd cc

same_number : (n : ℕ) → eqb n n ≡ true
same_number n = eq-eqb n n refl

module _ {A : Type 0} {F : A → Form} {read : Reader A} (arguments : IsReader F read) (number : ℕ) where
  numbered : IsReader (λ m. NumberOf w16 m.0 ▸ NumberOf w16 m.1.0 ▸ F m.1.1) (method_at read)
  numbered = both_reader number16_reader (both_reader number16_reader arguments)

  basic_again :
      (x : A) (payload : List ℕ) → (NumberOf w16 60 ▸ NumberOf w16 number ▸ F x) payload →
      basic_in read number payload ≡ Some x
  basic_again x payload f =
      let again = numbered.again (60, (number, x)) payload [] f in
      let whole : method_at read payload ≡ Some ((60, (number, x)), []) =
      ap (method_at read) (sym (append-nil payload)) ∙ again in
      rw (whole, same_number number) refl

  basic_takes :
      (x : A) (payload : List ℕ) → IsOctets payload → basic_in read number payload ≡ Some x →
      (NumberOf w16 60 ▸ NumberOf w16 number ▸ F x) payload
  basic_takes x payload fits e =
      let a = bind_some (exactly (method_at read) payload) (λ m. cond ((m.0 == 60) && (m.1.0 == number)) (Some m.1.1) None) x e in
      let b = bind_some (method_at read payload) (λ y. cond (length y.1 == 0) (Some y.0) None) a.0 a.1 in
      let ends = tested (length b.0.1 == 0) b.0.0 a.0 b.2 in
      let named = tested ((a.0.0 == 60) && (a.0.1.0 == number)) a.0.1.1 x a.2 in
      let t = numbered.takes payload b.0.0 b.0.1 fits b.1 in
      let none : b.0.1 ≡ [] = nil_from_length b.0.1 (eqb-true _ _ ends.0) in
      let whole : payload ≡ t.0 = t.1 ∙ ap (λ (rest : List ℕ). t.0 ++ rest) none ∙ append-nil t.0 in
      let class_is : a.0.0 ≡ 60 = eqb-true _ _ (and-left (a.0.0 == 60) (a.0.1.0 == number) named.0) in
      let number_is : a.0.1.0 ≡ number = eqb-true _ _ (and-right (a.0.0 == 60) (a.0.1.0 == number) named.0) in
      let spelled = subst (λ (m : ℕ × (ℕ × A)). (NumberOf w16 m.0 ▸ NumberOf w16 m.1.0 ▸ F m.1.1) t.0) ends.1 t.2 in
      let first = subst (λ (n : ℕ). (NumberOf w16 n ▸ NumberOf w16 a.0.1.0 ▸ F a.0.1.1) t.0) class_is spelled in
      let second = subst (λ (n : ℕ). (NumberOf w16 60 ▸ NumberOf w16 n ▸ F a.0.1.1) t.0) number_is first in
      let third = subst (λ (y : A). (NumberOf w16 60 ▸ NumberOf w16 number ▸ F y) t.0) named.1 second in
      subst (NumberOf w16 60 ▸ NumberOf w16 number ▸ F x) (sym whole) third

-- ---- basic.deliver

delivers :
    IsReader
    (λ a. ShortStringOf a.0 ▸ NumberOf w64 a.1.0 ▸ OctetOf a.1.1.0 ▸ ShortStringOf a.1.1.1.0 ▸ ShortStringOf a.1.1.1.1)
    deliver_arguments_at
delivers =
    both_reader short_string_reader
    (both_reader number64_reader (both_reader octet_reader (both_reader short_string_reader short_string_reader)))

pub deliver_again : (d : Deliver) (payload : List ℕ) → DeliverOf d payload → deliver_in payload ≡ Some d
deliver_again d payload f =
    let s = f.4.4 in
    let n = s.4 in
    let o = n.4 in
    let a : List ℕ × (ℕ × (ℕ × (List ℕ × List ℕ))) = (d.consumer_tag, (d.delivery_tag, (o.3.0, (d.exchange, d.routing_key)))) in
    let read = basic_again delivers 60 a payload
    (f.0, f.1, f.2, f.3, (f.4.0, f.4.1, f.4.2, f.4.3, (s.0, s.1, s.2, s.3, (n.0, n.1, n.2, n.3, (o.0, o.1, o.2, o.3.2, o.4))))) in
    ap (λ (x : Option (List ℕ × (ℕ × (ℕ × (List ℕ × List ℕ))))). x >>= λ a. Some (delivery_of a)) read
    ∙ ap (λ (b : Bool). Some (record d { redelivered = b })) (sym o.3.1)

pub deliver_takes : (d : Deliver) (payload : List ℕ) → IsOctets payload → deliver_in payload ≡ Some d → DeliverOf d payload
deliver_takes d payload fits e =
    let b = bind_some (basic_in deliver_arguments_at 60 payload) (λ a. Some (delivery_of a)) d e in
    let f = basic_takes delivers 60 b.0 payload fits b.1 in
    let s = f.4.4 in
    let n = s.4 in
    let o = n.4 in
    subst (λ (d : Deliver). DeliverOf d payload) (some_is (delivery_of b.0) d b.2)
    (f.0, f.1, f.2, f.3, (f.4.0, f.4.1, f.4.2, f.4.3, (s.0, s.1, s.2, s.3, (n.0, n.1, n.2, n.3, (o.0, o.1, o.2, (b.0.1.1.0, refl, o.3), o.4)))))

-- ---- basic.ack and basic.nack

tags : IsReader (λ a. NumberOf w64 a.0 ▸ OctetOf a.1) tag_and_flags_at
tags = both_reader number64_reader octet_reader

abbrev ack_of : ℕ × ℕ → Ack
ack_of a = record { delivery_tag = a.0; multiple = a.1 % 2 == 1 }

abbrev nack_of : ℕ × ℕ → Nack
nack_of a = record { delivery_tag = a.0; multiple = a.1 % 2 == 1; requeue = a.1 / 2 % 2 == 1 }

pub ack_again : (a : Ack) (payload : List ℕ) → AckOf a payload → ack_in payload ≡ Some a
ack_again a payload f =
    let n = f.4.4 in
    let o = n.4 in
    let read = basic_again tags 80 (a.delivery_tag, o.0) payload
    (f.0, f.1, f.2, f.3, (f.4.0, f.4.1, f.4.2, f.4.3, (n.0, n.1, n.2, n.3, o.2))) in
    ap (λ (x : Option (ℕ × ℕ)). x >>= λ a. Some (ack_of a)) read
    ∙ ap (λ (b : Bool). Some (record a { multiple = b })) (sym o.1)

pub ack_takes : (a : Ack) (payload : List ℕ) → IsOctets payload → ack_in payload ≡ Some a → AckOf a payload
ack_takes a payload fits e =
    let b = bind_some (basic_in tag_and_flags_at 80 payload) (λ a. Some (ack_of a)) a e in
    let f = basic_takes tags 80 b.0 payload fits b.1 in
    let n = f.4.4 in
    subst (λ (a : Ack). AckOf a payload) (some_is (ack_of b.0) a b.2)
    (f.0, f.1, f.2, f.3, (f.4.0, f.4.1, f.4.2, f.4.3, (n.0, n.1, n.2, n.3, (b.0.1, refl, n.4))))

pub nack_again : (n : Nack) (payload : List ℕ) → NackOf n payload → nack_in payload ≡ Some n
nack_again a payload f =
    let n = f.4.4 in
    let o = n.4 in
    let read = basic_again tags 120 (a.delivery_tag, o.0) payload
    (f.0, f.1, f.2, f.3, (f.4.0, f.4.1, f.4.2, f.4.3, (n.0, n.1, n.2, n.3, o.3))) in
    ap (λ (x : Option (ℕ × ℕ)). x >>= λ a. Some (nack_of a)) read
    ∙ (ap (λ (b : Bool). Some (record a { multiple = b; requeue = o.0 / 2 % 2 == 1 })) (sym o.1)
    ∙ ap (λ (b : Bool). Some (record a { requeue = b })) (sym o.2))

pub nack_takes : (n : Nack) (payload : List ℕ) → IsOctets payload → nack_in payload ≡ Some n → NackOf n payload
nack_takes a payload fits e =
    let b = bind_some (basic_in tag_and_flags_at 120 payload) (λ a. Some (nack_of a)) a e in
    let f = basic_takes tags 120 b.0 payload fits b.1 in
    let n = f.4.4 in
    subst (λ (a : Nack). NackOf a payload) (some_is (nack_of b.0) a b.2)
    (f.0, f.1, f.2, f.3, (f.4.0, f.4.1, f.4.2, f.4.3, (n.0, n.1, n.2, n.3, (b.0.1, refl, refl, n.4))))

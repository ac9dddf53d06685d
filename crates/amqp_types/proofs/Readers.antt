-- A reader of a form: what the form spells is read, whatever follows, and what is read is spelled so.
use Rattle.std.proofs.Common.{◌≡◌, ℕ, zero, suc, ◌+◌, ◌^◌, ◌<◌, ◌≤◌, Bool, true, false, cond, ltb, List, [], ◌∷◌, ◌++◌, length, take, drop, Option, Some, None, option_map, refl, sym, ap, subst, ◌∙◌, append_assoc, arith, inl, inr}
use Rattle.std.specs.Int.{Width, w16, w32, w64, byte_len, from_be_bytes, to_be_bytes}
use Rattle.std.proofs.lemmas.Bool.{cases_lt, ltb-false, le-ltb}
use Rattle.std.proofs.lemmas.List.{take_at, drop_at, take-append-drop, length-append, length-take, get_or-drop, get_or-take, get_or_past, nil_from_length}
use Rattle.std.proofs.lemmas.Nat.{be_bytes_2, be_bytes_4, be_bytes_8, from_be_bytes-to_be_bytes_2, from_be_bytes-to_be_bytes_4, from_be_bytes-to_be_bytes_8}
use Rattle.amqp_types.specs.Forms.{Form, IsOctets, ◌▸◌, OctetOf, NumberOf, OctetsOf, ShortStringOf, LongStringOf, Row}
use Rattle.amqp_types.specs.Reading.{Reader, ◌>>=◌, octet_at, octets_at, number_at, short_string_at, long_string_at, ◌⊗◌, read_map, row_at}
use Rattle.amqp_types.proofs.Small.{some_is}

pub record IsReader {A : Type 0} (F : A → Form) (read : Reader A) : Type 0 where
  -- what is spelled is read
  pub again : (x : A) (text rest : List ℕ) → F x text → read (text ++ rest) ≡ Some (x, rest)
  -- what is read is spelled
  pub takes :
      (bytes : List ℕ) (x : A) (rest : List ℕ) → IsOctets bytes → read bytes ≡ Some (x, rest) →
      (text : List ℕ) × (bytes ≡ text ++ rest) × F x text

-- ---- octets
pub IsOctets-drop : (n : ℕ) (bytes : List ℕ) → IsOctets bytes → IsOctets (drop n bytes)
IsOctets-drop n bytes h i = rw get_or-drop (h (n + i))

pub IsOctets-take : (n : ℕ) (bytes : List ℕ) → IsOctets bytes → IsOctets (take n bytes)
IsOctets-take n bytes h i =
    elim (cases_lt i n) [
      | inl lt ↦ rw (get_or-take n bytes i 0 lt) (h i)
      | inr le ↦ rw (get_or_past (take n bytes) i 0 (omega (arith, length-take n bytes))) (omega arith)
    ]

-- of two parts, the first and the second
pub IsOctets-first : (a b : List ℕ) → IsOctets (a ++ b) → IsOctets a
IsOctets-first a b h = subst IsOctets (take_at a b (length a) refl) (IsOctets-take (length a) (a ++ b) h)

pub IsOctets-second : (a b : List ℕ) → IsOctets (a ++ b) → IsOctets b
IsOctets-second a b h = subst IsOctets (drop_at a b (length a) refl) (IsOctets-drop (length a) (a ++ b) h)

pub IsOctets-rest : (bytes text rest : List ℕ) → bytes ≡ text ++ rest → IsOctets bytes → IsOctets rest
IsOctets-rest bytes text rest e h = IsOctets-second text rest (subst IsOctets e h)

-- ---- options

pub bind_some :
    {A B : Type 0} (o : Option A) (f : A → Option B) (y : B) → (o >>= f) ≡ Some y →
    (x : A) × (o ≡ Some x) × (f x ≡ Some y)
bind_some (Some x) f y e = (x, refl, e)
bind_some None f y e = absurd cc

pub guard_some : {A : Type 0} (b : Bool) (x y : A) → cond b None (Some x) ≡ Some y → (b ≡ false) × (x ≡ y)
guard_some true x y e = absurd cc
guard_some false x y e = (refl, cc)

-- ---- the readers
pub octet_reader : IsReader OctetOf octet_at
octet_reader = record {
  again = λ n text rest f. ap (λ (t : List ℕ). octet_at (t ++ rest)) f.1;
  takes = λ bytes n rest fits e. octet_takes bytes n rest fits e;
}
  where
    octet_takes :
        (bytes : List ℕ) (n : ℕ) (rest : List ℕ) → IsOctets bytes → octet_at bytes ≡ Some (n, rest) →
        (text : List ℕ) × (bytes ≡ text ++ rest) × OctetOf n text
    octet_takes [] n rest fits e = absurd cc
    octet_takes (o ∷ bytes) n rest fits e =
        let both : ◌≡◌ {A = ℕ × List ℕ} (o, bytes) (n, rest) = some_is (o, bytes) (n, rest) e in
        let o-is : o ≡ n = ap (λ (p : ℕ × List ℕ). p.0) both in
        let rest-is : bytes ≡ rest = ap (λ (p : ℕ × List ℕ). p.1) both in
        (n ∷ [], rw (o-is, rest-is) refl, (subst (λ (k : ℕ). k < 256) o-is (fits 0), refl))

pub octets_reader : (n : ℕ) → IsReader (OctetsOf n) (octets_at n)
octets_reader n = record {
  again = λ content text rest f.
      let len : length text ≡ n = ap length f.1 ∙ f.0 in
      let long : ltb (length (text ++ rest)) n ≡ false = le-ltb _ _ (omega (arith, length-append text rest)) in
      rw (long, take_at text rest n len, drop_at text rest n len, f.1) refl;
  takes = λ bytes content rest fits e.
      let g = guard_some (ltb (length bytes) n) (take n bytes, drop n bytes) (content, rest) e in
      let long : n ≤ length bytes = ltb-false _ _ g.0 in
      let content-is : take n bytes ≡ content = ap (λ (p : List ℕ × List ℕ). p.0) g.1 in
      let rest-is : drop n bytes ≡ rest = ap (λ (p : List ℕ × List ℕ). p.1) g.1 in
      (take n bytes, rw (← rest-is) (sym (take-append-drop n bytes)), (ap length (sym content-is) ∙ omega (arith, length-take n bytes), content-is));
}

record IsWide (w : Width) : Type 0 where
  len : (n : ℕ) → length (to_be_bytes w n) ≡ byte_len w
  back : (bytes : List ℕ) → length bytes ≡ byte_len w → IsOctets bytes → to_be_bytes w (from_be_bytes w bytes) ≡ bytes
  again : (n : ℕ) → n < 256 ^ byte_len w → from_be_bytes w (to_be_bytes w n) ≡ n
  below : (bytes : List ℕ) → IsOctets bytes → from_be_bytes w bytes < 256 ^ byte_len w

wide16 : IsWide w16
wide16 = record {
  len = λ n. refl;
  back = λ bytes len fits. be_bytes_2 bytes _ len fits refl;
  again = λ n lt. from_be_bytes-to_be_bytes_2 n lt;
  below = λ bytes fits. omega (arith, fits 0, fits 1);
}

wide32 : IsWide w32
wide32 = record {
  len = λ n. refl;
  back = λ bytes len fits. be_bytes_4 bytes _ len fits refl;
  again = λ n lt. from_be_bytes-to_be_bytes_4 n lt;
  below = λ bytes fits. omega (arith, fits 0, fits 1, fits 2, fits 3);
}

wide64 : IsWide w64
wide64 = record {
  len = λ n. refl;
  back = λ bytes len fits. be_bytes_8 bytes _ len fits refl;
  again = λ n lt. from_be_bytes-to_be_bytes_8 n lt;
  below = λ bytes fits. omega (arith, fits 0, fits 1, fits 2, fits 3, fits 4, fits 5, fits 6, fits 7);
}

number_reader_of : (w : Width) → IsWide w → IsReader (NumberOf w) (number_at w)
number_reader_of w wide = record {
  again = λ n text rest f.
      let len : length text ≡ byte_len w = ap length f.1 ∙ wide.len n in
      let long : ltb (length (text ++ rest)) (byte_len w) ≡ false = le-ltb _ _ (omega (arith, length-append text rest)) in
      rw (long, take_at text rest (byte_len w) len, drop_at text rest (byte_len w) len, f.1, wide.again n f.0) refl;
  takes = λ bytes n rest fits e.
      let k = byte_len w in
      let g = guard_some (ltb (length bytes) (byte_len w)) (from_be_bytes w (take (byte_len w) bytes), drop (byte_len w) bytes) (n, rest) e in
      let long : byte_len w ≤ length bytes = ltb-false _ _ g.0 in
      let n-is : from_be_bytes w (take (byte_len w) bytes) ≡ n = ap (λ (p : ℕ × List ℕ). p.0) g.1 in
      let rest-is : drop (byte_len w) bytes ≡ rest = ap (λ (p : ℕ × List ℕ). p.1) g.1 in
      let front_fits = IsOctets-take (byte_len w) bytes fits in
      let len : length (take (byte_len w) bytes) ≡ byte_len w = omega (arith, length-take (byte_len w) bytes) in (
        take (byte_len w) bytes,
        rw (← rest-is) (sym (take-append-drop (byte_len w) bytes)),
        (
          subst (λ (m : ℕ). m < 256 ^ byte_len w) n-is (wide.below (take (byte_len w) bytes) front_fits),
          sym (wide.back (take (byte_len w) bytes) len front_fits) ∙ ap (to_be_bytes w) n-is,
        ),
      );
}

pub number16_reader : IsReader (NumberOf w16) (number_at w16)
number16_reader = number_reader_of w16 wide16

pub number32_reader : IsReader (NumberOf w32) (number_at w32)
number32_reader = number_reader_of w32 wide32

pub number64_reader : IsReader (NumberOf w64) (number_at w64)
number64_reader = number_reader_of w64 wide64

-- ---- one after the other, and under a function
module _ {A B : Type 0} (F : A → Form) (read : Reader A) (first : IsReader F read) where
  pub record FirstOf (next : A → Reader B) (bytes : List ℕ) (y : B) (rest : List ℕ) : Type 0 where
    pub x : A
    pub text : List ℕ
    pub middle : List ℕ
    pub parts : bytes ≡ text ++ middle
    pub form : F x text
    pub fits : IsOctets middle
    pub second : next x middle ≡ Some (y, rest)

  -- the second may go by what the first gave
  pub then_again :
      (next : A → Reader B) (x : A) (y : B) (G : Form) →
      ((text rest : List ℕ) → G text → next x (text ++ rest) ≡ Some (y, rest)) → (text rest : List ℕ) →
      (F x ▸ G) text → (read (text ++ rest) >>= λ p. next p.0 p.1) ≡ Some (y, rest)
  then_again next x y G second text rest f =
      let whole : text ++ rest ≡ f.0 ++ (f.1 ++ rest) = ap (λ (t : List ℕ). t ++ rest) f.2 ∙ append_assoc f.0 f.1 rest in
      ap (λ (t : List ℕ). read t >>= λ p. next p.0 p.1) whole ∙ ap (λ (o : Option (A × List ℕ)). o >>= λ p. next p.0 p.1) (first.again x f.0 (f.1 ++ rest) f.3) ∙ second f.1 rest f.4

  -- what the first gave, and what is left for the second
  pub then_takes :
      (next : A → Reader B) (bytes : List ℕ) (y : B) (rest : List ℕ) → IsOctets bytes →
      (read bytes >>= λ p. next p.0 p.1) ≡ Some (y, rest) → FirstOf next bytes y rest
  then_takes next bytes y rest fits e =
      let b = bind_some (read bytes) (λ p. next p.0 p.1) (y, rest) e in
      let t = first.takes bytes b.0.0 b.0.1 fits b.1 in
      record { x = b.0.0; text = t.0; middle = b.0.1; parts = t.1; form = t.2; fits = IsOctets-rest bytes t.0 b.0.1 t.1 fits; second = b.2 }

-- what two readers took, one after the other
pub joined :
    (bytes text middle text' rest : List ℕ) → bytes ≡ text ++ middle → middle ≡ text' ++ rest →
    bytes ≡ (text ++ text') ++ rest
joined bytes text middle text' rest p q = p ∙ ap (λ (t : List ℕ). text ++ t) q ∙ sym (append_assoc text text' rest)

module _ {A B : Type 0} {F : A → Form} {G : B → Form} {read : Reader A} {read' : Reader B} (first : IsReader F read) (second : IsReader G read') where
  both_again : (x : A × B) (text rest : List ℕ) → (F x.0 ▸ G x.1) text → (read ⊗ read') (text ++ rest) ≡ Some (x, rest)
  both_again x text rest f =
      then_again F read first (λ a bytes. read' bytes >>= λ y. Some ((a, y.0), y.1)) x.0 x (G x.1) (λ text' rest' g. ap (λ (o : Option (B × List ℕ)). o >>= λ y. Some ((x.0, y.0), y.1)) (second.again x.1 text' rest' g)) text rest f

  both_takes :
      (bytes : List ℕ) (x : A × B) (rest : List ℕ) → IsOctets bytes → (read ⊗ read') bytes ≡ Some (x, rest) →
      (text : List ℕ) × (bytes ≡ text ++ rest) × (F x.0 ▸ G x.1) text
  both_takes bytes x rest fits e =
      let t = then_takes F read first (λ a bytes. read' bytes >>= λ y. Some ((a, y.0), y.1)) bytes x rest fits e in
      let b = bind_some (read' t.middle) (λ y. Some ((t.x, y.0), y.1)) (x, rest) t.second in
      let u = second.takes t.middle b.0.0 b.0.1 t.fits b.1 in
      let is : ◌≡◌ {A = (A × B) × List ℕ} ((t.x, b.0.0), b.0.1) (x, rest) = some_is ((t.x, b.0.0), b.0.1) (x, rest) b.2 in
      subst (λ (p : (A × B) × List ℕ). (text : List ℕ) × (bytes ≡ text ++ p.1) × (F p.0.0 ▸ G p.0.1) text) is
      (t.text ++ u.0, joined bytes t.text t.middle u.0 b.0.1 t.parts u.1, (t.text, u.0, refl {a = t.text ++ u.0}, t.form, u.2))

  pub both_reader : IsReader (λ x. F x.0 ▸ G x.1) (read ⊗ read')
  both_reader = record { again = both_again; takes = both_takes }

module _ {A B : Type 0} {F : A → Form} {read : Reader A} (first : IsReader F read) (f : A → B) where
  pub map_again : (x : A) (text rest : List ℕ) → F x text → read_map f read (text ++ rest) ≡ Some (f x, rest)
  map_again x text rest g = ap (option_map (λ (y : A × List ℕ). (f y.0, y.1))) (first.again x text rest g)

  pub map_takes :
      (bytes : List ℕ) (y : B) (rest : List ℕ) → IsOctets bytes → read_map f read bytes ≡ Some (y, rest) →
      (x : A) × (text : List ℕ) × (f x ≡ y) × (bytes ≡ text ++ rest) × F x text
  map_takes bytes y rest fits e =
      let b = mapped (read bytes) y rest e in
      let t = first.takes bytes b.0 rest fits b.1 in
      (b.0, t.0, b.2, t.1, t.2)
    where
      mapped :
          (o : Option (A × List ℕ)) (y : B) (rest : List ℕ) →
          option_map {U = B × List ℕ} (λ (z : A × List ℕ). (f z.0, z.1)) o ≡ Some (y, rest) →
          (x : A) × (o ≡ Some (x, rest)) × (f x ≡ y)
      mapped None y rest e = absurd cc
      mapped (Some z) y rest e =
          let is : ◌≡◌ {A = B × List ℕ} (f z.0, z.1) (y, rest) = some_is (f z.0, z.1) (y, rest) e in
          (z.0, ap (λ (r : List ℕ). Some (z.0, r)) (ap (λ (p : B × List ℕ). p.1) is), ap (λ (p : B × List ℕ). p.0) is)

-- ---- strings
-- a number, and so many octets
module _ (N : ℕ → Form) (read : Reader ℕ) (first : IsReader N read) where
  counted_again :
      (content : List ℕ) (text rest : List ℕ) → (N (length content) ▸ OctetsOf (length content) content) text →
      (read (text ++ rest) >>= λ n. octets_at n.0 n.1) ≡ Some (content, rest)
  counted_again content = then_again N read first octets_at (length content) content (OctetsOf (length content) content) ((octets_reader (length content)).again content)

  counted_takes :
      (bytes content rest : List ℕ) → IsOctets bytes →
      (read bytes >>= λ n. octets_at n.0 n.1) ≡ Some (content, rest) →
      (text : List ℕ) × (bytes ≡ text ++ rest) × (N (length content) ▸ OctetsOf (length content) content) text
  counted_takes bytes content rest fits e =
      let t = then_takes N read first octets_at bytes content rest fits e in
      let u = (octets_reader t.x).takes t.middle content rest t.fits t.second in
      (t.text ++ u.0, joined bytes t.text t.middle u.0 rest t.parts u.1, (t.text, u.0, refl, subst (λ (n : ℕ). N n t.text) (sym u.2.0) t.form, (refl, u.2.1)))

pub short_string_reader : IsReader ShortStringOf short_string_at
unfolding short_string_at
short_string_reader = record { again = counted_again OctetOf octet_at octet_reader; takes = counted_takes OctetOf octet_at octet_reader }

-- what a string holds are octets
pub inner_fits :
    (content text rest bytes : List ℕ) → bytes ≡ text ++ rest → LongStringOf content text → IsOctets bytes →
    IsOctets content
inner_fits content text rest bytes e f fits =
    let text_fits = IsOctets-first text rest (subst IsOctets e fits) in
    subst IsOctets f.4.1 (IsOctets-second f.0 f.1 (subst IsOctets f.2 text_fits))

pub long_string_reader : IsReader LongStringOf long_string_at
unfolding long_string_at
long_string_reader = record { again = counted_again (NumberOf w32) (number_at w32) number32_reader; takes = counted_takes (NumberOf w32) (number_at w32) number32_reader }

-- ---- a row
module _ {A : Type 0} {F : A → Form} {read : Reader A} (each : IsReader F read) (something : read [] ≡ None) where
  -- no text is empty
  not_empty : (x : A) → F x [] → ⊥
  not_empty x f = let e : read [] ≡ Some (x, []) = each.again x [] [] f in absurd cc

  row_step :
      (n : ℕ) (x : A) (xs : List A) (text rest whole : List ℕ) → whole ≡ text ++ rest → length whole ≤ suc n →
      F x text → ((m : ℕ) → length rest ≤ m → row_at read m rest ≡ Some xs) →
      row_at read (suc n) whole ≡ Some (x ∷ xs)
  unfolding row_at
  row_step n x xs [] rest whole is le f others = absurd (not_empty x f)
  row_step n x xs (o ∷ text) rest whole is le f others =
      let short : length rest ≤ n = omega (arith, ap length is, length-append text rest) in
      let one : read ((o ∷ text) ++ rest) ≡ Some (x, rest) = each.again x (o ∷ text) rest f in
      ap (row_at read (suc n)) is ∙ ap (λ (p : Option (A × List ℕ)). p >>= λ first. row_at read n first.1 >>= λ others. Some (first.0 ∷ others)) one ∙ ap (λ (p : Option (List A)). p >>= λ others. Some (x ∷ others)) (others n short)

  pub row_again :
      (xs : List A) (n : ℕ) (text : List ℕ) → length text ≤ n → Row F xs text → row_at read n text ≡ Some xs
  unfolding row_at
  row_again [] n text le f = rw f refl
  row_again (x ∷ xs) zero text le f = absurd (no_room x xs text le f)
    where
      no_room : (x : A) (xs : List A) (text : List ℕ) → length text ≤ 0 → Row F (x ∷ xs) text → ⊥
      no_room x xs text le f =
          let none : f.0 ≡ [] = nil_from_length f.0 (omega (arith, ap length f.2, length-append f.0 f.1)) in
          not_empty x (subst (F x) none f.3)
  row_again (x ∷ xs) (suc n) text le f =
      row_step n x xs f.0 f.1 text f.2 le f.3 (λ m short. row_again xs m f.1 short f.4)

  pub row_takes :
      (n : ℕ) (bytes : List ℕ) (xs : List A) → IsOctets bytes → row_at read n bytes ≡ Some xs → Row F xs bytes
  unfolding row_at
  row_takes n [] xs fits e = subst (λ (ys : List A). Row F ys []) (some_is [] xs e) refl
  row_takes zero (o ∷ bytes) xs fits e = absurd cc
  row_takes (suc n) (o ∷ bytes) xs fits e =
      let a = bind_some (read (o ∷ bytes)) (λ first. row_at read n first.1 >>= λ others. Some (first.0 ∷ others)) xs e in
      let b = bind_some (row_at read n a.0.1) (λ others. Some (a.0.0 ∷ others)) xs a.2 in
      let t = each.takes (o ∷ bytes) a.0.0 a.0.1 fits a.1 in
      let others = row_takes n a.0.1 b.0 (IsOctets-rest (o ∷ bytes) t.0 a.0.1 t.1 fits) b.1 in
      subst (λ (ys : List A). Row F ys (o ∷ bytes)) (some_is (a.0.0 ∷ b.0) xs b.2) (t.0, a.0.1, t.1, t.2, others)

-- What is said of the front of octets: it stays when more come, a frame lies within them, needs no memory to be looked
-- for, and of as many as the limit something is said.
use Rattle.std.proofs.Common.{◌≡◌, ◌≤◌, ◌<◌, ◌∙◌, ℕ, ◌+◌, ◌==◌, ◌&&◌, max, not, nat_lt, if◌then◌else◌, Bool, true, false, List, [], ◌∷◌, ◌++◌, length, take, drop, Option, Some, None, refl, ap, arith, length-append, length-drop}
use Rattle.std.specs.Option.{option_map_or}
use Rattle.std.specs.Int.{Width, w16, w32, byte_len, from_be_bytes}
use Rattle.std.proofs.lemmas.Bool.{ltb-true, ltb-false, le-ltb}
use Rattle.std.proofs.lemmas.List.{take-append-le, drop-append-le}
use Rattle.amqp_types.specs.Reading.{Reader, ◌>>=◌, octet_at, octets_at, number_at, ◌⊗◌}
use Rattle.amqp_types.proofs.Readers.{bind_some, guard_some}
use Rattle.amqp_types.proofs.Small.{some_is}
use Rattle.amqp_frame.specs.declared.frame.Frame.{Frame}
use Rattle.amqp_frame.specs.declared.frame.Frame.TheVariants.{ProtocolHeader, Heartbeat}
use Rattle.amqp_frame.specs.declared.frame.Read.{Read}
use Rattle.amqp_frame.specs.declared.frame.Read.TheVariants.{Whole, More, TooLarge, BadHeartbeat, Bad, NoMemory}
use Rattle.amqp_frame.specs.FrameReading.{front, header, version, expect, framed, sized, ended, content, is_type_octet}
use Rattle.amqp_frame.specs.Sequences.{is_more}

-- ---- readers of so many octets

record Exact {A : Type 0} (n : ℕ) (read : Reader A) : Type 0 where
  -- what is read stays when more octets come
  stays : (bytes more : List ℕ) (x : A) (rest : List ℕ) → read bytes ≡ Some (x, rest) → read (bytes ++ more) ≡ Some (x, rest ++ more)
  -- so many octets are read
  takes : (bytes : List ℕ) (x : A) (rest : List ℕ) → read bytes ≡ Some (x, rest) → length bytes ≡ n + length rest
  -- and so many are enough
  needs : (bytes : List ℕ) → read bytes ≡ None → length bytes < n

exact-octet : Exact 1 octet_at
exact-octet = record { stays = octet-stays; takes = octet-takes; needs = octet-needs }
  where
    octet-stays : (bytes more : List ℕ) (x : ℕ) (rest : List ℕ) → octet_at bytes ≡ Some (x, rest) → octet_at (bytes ++ more) ≡ Some (x, rest ++ more)
    octet-stays [] more x rest e = cc
    octet-stays (o ∷ bytes) more x rest e =
        ap (λ (p : ℕ × List ℕ). Some (p.0, p.1 ++ more)) (some_is (o, bytes) (x, rest) e)

    octet-takes : (bytes : List ℕ) (x : ℕ) (rest : List ℕ) → octet_at bytes ≡ Some (x, rest) → length bytes ≡ 1 + length rest
    octet-takes [] x rest e = cc
    octet-takes (o ∷ bytes) x rest e = omega (arith, ap (λ (p : ℕ × List ℕ). length p.1) (some_is (o, bytes) (x, rest) e))

    octet-needs : (bytes : List ℕ) → octet_at bytes ≡ None → length bytes < 1
    octet-needs [] e = omega arith
    octet-needs (o ∷ bytes) e = cc

exact-part : {A : Type 0} (n : ℕ) (f : List ℕ → A) → Exact n (λ bytes. if nat_lt (length bytes) n then None else Some (f (take n bytes), drop n bytes))
exact-part {A} n f = record {
  stays = λ bytes more x rest e.
      let g = guard_some (nat_lt (length bytes) n) (f (take n bytes), drop n bytes) (x, rest) e in
      let long : n ≤ length bytes = ltb-false _ _ g.0 in
      let still : nat_lt (length (bytes ++ more)) n ≡ false = le-ltb _ _ (omega (arith, length-append bytes more)) in
      rw (still, take-append-le n bytes more long, drop-append-le n bytes more long) (ap (λ (p : A × List ℕ). Some (p.0, p.1 ++ more)) g.1);
  takes = λ bytes x rest e.
      let g = guard_some (nat_lt (length bytes) n) (f (take n bytes), drop n bytes) (x, rest) e in
      omega (arith, ltb-false _ _ g.0, length-drop n bytes, ap (λ (p : A × List ℕ). length p.1) g.1);
  needs = λ bytes e. part-needs bytes (nat_lt (length bytes) n) (f (take n bytes), drop n bytes) refl e;
}
  where
    part-needs : (bytes : List ℕ) (b : Bool) (x : A × List ℕ) → nat_lt (length bytes) n ≡ b → (if b then None else Some x) ≡ None → length bytes < n
    part-needs bytes true x is e = ltb-true _ _ is
    part-needs bytes false x is e = cc

exact-octets : (n : ℕ) → Exact n (octets_at n)
exact-octets n = exact-part n (λ part. part)

exact-number : (w : Width) → Exact (byte_len w) (number_at w)
exact-number w = exact-part (byte_len w) (from_be_bytes w)

abbrev paired : {A B : Type 0} → A → Option (B × List ℕ) → Option ((A × B) × List ℕ)
paired x o = o >>= λ q. Some ((x, q.0), q.1)

abbrev both_of : {A B : Type 0} → Reader B → Option (A × List ℕ) → Option ((A × B) × List ℕ)
both_of second o = o >>= λ p. paired p.0 (second p.1)

exact-both : {A B : Type 0} (m n : ℕ) (first : Reader A) (second : Reader B) → Exact m first → Exact n second → Exact (m + n) (first ⊗ second)
exact-both {A} {B} m n first second one two = record {
  stays = λ bytes more x rest e.
      let s = bind_some (first bytes) (λ p. paired p.0 (second p.1)) (x, rest) e in
      let t = bind_some (second s.0.1) (λ q. Some ((s.0.0, q.0), q.1)) (x, rest) s.2 in
      ap (both_of second) (one.stays bytes more s.0.0 s.0.1 s.1) ∙ ap (paired s.0.0) (two.stays s.0.1 more t.0.0 t.0.1 t.1)
      ∙ ap (λ (y : (A × B) × List ℕ). Some (y.0, y.1 ++ more)) (some_is ((s.0.0, t.0.0), t.0.1) (x, rest) t.2);
  takes = λ bytes x rest e.
      let s = bind_some (first bytes) (λ p. paired p.0 (second p.1)) (x, rest) e in
      let t = bind_some (second s.0.1) (λ q. Some ((s.0.0, q.0), q.1)) (x, rest) s.2 in
      omega (
        arith,
        one.takes bytes s.0.0 s.0.1 s.1,
        two.takes s.0.1 t.0.0 t.0.1 t.1,
        ap (λ (y : (A × B) × List ℕ). length y.1) (some_is ((s.0.0, t.0.0), t.0.1) (x, rest) t.2),
      );
  needs = λ bytes e. both-needs bytes (first bytes) refl e;
}
  where
    behind : (bytes rest : List ℕ) (x : A) (o : Option (B × List ℕ)) → length bytes ≡ m + length rest → second rest ≡ o → paired x o ≡ None → length bytes < m + n
    behind bytes rest x None len is e = omega (arith, len, two.needs rest is)
    behind bytes rest x (Some q) len is e = cc

    both-needs : (bytes : List ℕ) (o : Option (A × List ℕ)) → first bytes ≡ o → both_of second o ≡ None → length bytes < m + n
    both-needs bytes None is e = omega (arith, one.needs bytes is)
    both-needs bytes (Some p) is e = behind bytes p.1 p.0 (second p.1) (one.takes bytes p.0 p.1 is) refl e

-- ---- answers

abbrev pub is_memory : Read → Bool
is_memory NoMemory = true
is_memory _ = false

-- what is said behind k octets that were looked at
pub record Says (k limit : ℕ) (next : List ℕ → Read) : Type 0 where
  -- what is said stays when more octets come
  pub stays : (bytes more : List ℕ) → is_more (next bytes) ≡ false → next (bytes ++ more) ≡ next bytes
  -- a frame has eight octets at least, and lies within those that are there
  pub size : (bytes : List ℕ) (f : Frame) (n : ℕ) → next bytes ≡ Whole f n → (8 ≤ n) × (n ≤ k + length bytes)
  -- of as many as the limit, and of those of a header, something is said
  pub more : (bytes : List ℕ) → is_more (next bytes) ≡ true → k + length bytes < max 8 limit
  -- and no memory is needed
  pub held : (bytes : List ℕ) → is_memory (next bytes) ≡ false

-- an answer that looks at no more octets
record Leaf (k : ℕ) (r : Read) : Type 0 where
  some : is_more r ≡ false
  held : is_memory r ≡ false
  size : (f : Frame) (n : ℕ) → r ≡ Whole f n → (8 ≤ n) × (n ≤ k)

leaf-bad : (k : ℕ) → Leaf k Bad
leaf-bad k = record { some = refl; held = refl; size = λ f n h. absurd cc }

leaf-large : (k size : ℕ) → Leaf k (TooLarge size)
leaf-large k size = record { some = refl; held = refl; size = λ f n h. absurd cc }

leaf-whole : (k size : ℕ) (g : Frame) → 8 ≤ size → size ≤ k → Leaf k (Whole g size)
leaf-whole k size g least most = record { some = refl; held = refl; size = λ f n h. within n (last g f size n h) }
  where
    last : (g f : Frame) (m n : ℕ) → Whole g m ≡ Whole f n → m ≡ n
    last g f m n h = cc

    within : (n : ℕ) → size ≡ n → (8 ≤ n) × (n ≤ k)
    within n same = (omega arith, omega arith)

says-leaf : (k limit : ℕ) (r : Read) → Leaf k r → Says k limit (λ bytes. r)
says-leaf k limit r leaf = record {
  stays = λ bytes more h. refl;
  size = λ bytes f n h. let s = leaf.size f n h in (s.0, omega (arith, s.1));
  more = λ bytes h. absurd (let none = leaf.some in cc);
  held = λ bytes. leaf.held;
}

says-if : (b : Bool) (k limit : ℕ) (f g : List ℕ → Read) → (b ≡ true → Says k limit f) → (b ≡ false → Says k limit g)
    → Says k limit (λ bytes. if b then f bytes else g bytes)
says-if true k limit f g one other = one refl
says-if false k limit f g one other = other refl

-- behind what is read, where nothing more is said before it is there
says-behind : {A : Type 0} (n k limit : ℕ) (read : Reader A) (next : A → List ℕ → Read) → Exact n read → k + n ≤ max 8 limit
    → ((x : A) → Says (k + n) limit (next x)) → Says k limit (λ bytes. option_map_or (λ p. next p.0 p.1) (read bytes) More)
says-behind {A} n k limit read next exact few behind = record {
  stays = λ bytes more h. said-stays bytes more (read bytes) refl h;
  size = λ bytes f m h. said-size bytes f m (read bytes) refl h;
  more = λ bytes h. said-more bytes (read bytes) refl h;
  held = λ bytes. said-held bytes (read bytes);
}
  where
    said-stays : (bytes more : List ℕ) (o : Option (A × List ℕ)) → read bytes ≡ o → is_more (option_map_or (λ p. next p.0 p.1) o More) ≡ false
        → option_map_or (λ p. next p.0 p.1) (read (bytes ++ more)) More ≡ option_map_or (λ p. next p.0 p.1) o More
    said-stays bytes more None is h = cc
    said-stays bytes more (Some p) is h =
        ap (λ (o : Option (A × List ℕ)). option_map_or (λ p. next p.0 p.1) o More) (exact.stays bytes more p.0 p.1 is)
        ∙ (behind p.0).stays p.1 more h

    said-size : (bytes : List ℕ) (f : Frame) (m : ℕ) (o : Option (A × List ℕ)) → read bytes ≡ o → option_map_or (λ p. next p.0 p.1) o More ≡ Whole f m
        → (8 ≤ m) × (m ≤ k + length bytes)
    said-size bytes f m None is h = cc
    said-size bytes f m (Some p) is h =
        let s = (behind p.0).size p.1 f m h in
        (s.0, omega (arith, s.1, exact.takes bytes p.0 p.1 is))

    said-more : (bytes : List ℕ) (o : Option (A × List ℕ)) → read bytes ≡ o → is_more (option_map_or (λ p. next p.0 p.1) o More) ≡ true
        → k + length bytes < max 8 limit
    said-more bytes None is h = omega (arith, exact.needs bytes is, few)
    said-more bytes (Some p) is h = omega (arith, (behind p.0).more p.1 h, exact.takes bytes p.0 p.1 is)

    said-held : (bytes : List ℕ) (o : Option (A × List ℕ)) → is_memory (option_map_or (λ p. next p.0 p.1) o More) ≡ false
    said-held bytes None = refl
    said-held bytes (Some p) = (behind p.0).held p.1

-- behind one octet
says-octet : (k limit : ℕ) (next : List ℕ → Read) → next [] ≡ More → k < 8 → ((o : ℕ) → Says (k + 1) limit (λ rest. next (o ∷ rest)))
    → Says k limit next
says-octet k limit next none few behind = record { stays = behind-stays; size = behind-size; more = behind-more; held = behind-held }
  where
    behind-stays : (bytes more : List ℕ) → is_more (next bytes) ≡ false → next (bytes ++ more) ≡ next bytes
    behind-stays [] more h = let m : is_more (next []) ≡ true = ap is_more none in cc
    behind-stays (o ∷ rest) more h = (behind o).stays rest more h

    behind-size : (bytes : List ℕ) (f : Frame) (n : ℕ) → next bytes ≡ Whole f n → (8 ≤ n) × (n ≤ k + length bytes)
    behind-size [] f n h = cc
    behind-size (o ∷ rest) f n h = let s = (behind o).size rest f n h in (s.0, omega (arith, s.1))

    behind-more : (bytes : List ℕ) → is_more (next bytes) ≡ true → k + length bytes < max 8 limit
    behind-more [] h = omega arith
    behind-more (o ∷ rest) h = omega (arith, (behind o).more rest h)

    behind-held : (bytes : List ℕ) → is_memory (next bytes) ≡ false
    behind-held [] = ap is_memory none
    behind-held (o ∷ rest) = (behind o).held rest

-- ---- from what is read last to what is read first

leaf-ended : (type channel size : ℕ) (payload : List ℕ) → Leaf (size + 8) (ended type channel size payload)
unfolding ended
leaf-ended type channel size payload = row (type == 8) (channel == 0) (content type channel payload)
  where
    row : (a b : Bool) (o : Option Frame)
        → Leaf (size + 8) (if a then (if b then Whole Heartbeat 8 else BadHeartbeat channel) else option_map_or (λ frame. Whole frame (size + 8)) o Bad)
    row true true o = leaf-whole (size + 8) 8 Heartbeat (omega arith) (omega arith)
    row true false o = record { some = refl; held = refl; size = λ f n h. absurd cc }
    row false b None = leaf-bad (size + 8)
    row false b (Some f) = leaf-whole (size + 8) (size + 8) f (omega arith) (omega arith)

says-sized : (type limit channel size : ℕ) → Says 7 limit (sized type limit channel size)
unfolding sized
says-sized type limit channel size =
    says-if (nat_lt limit (size + 8)) 7 limit (λ bytes. TooLarge size)
    (λ bytes. if (type == 8) && not (size == 0) then Bad else
    option_map_or (λ p. if p.0.1 == 206 then ended type channel size p.0.0 else Bad) ((octets_at size ⊗ octet_at) bytes) More)
    (λ large. says-leaf 7 limit (TooLarge size) (leaf-large 7 size))
    (λ within. says-if ((type == 8) && not (size == 0)) 7 limit (λ bytes. Bad)
    (λ bytes. option_map_or (λ p. if p.0.1 == 206 then ended type channel size p.0.0 else Bad) ((octets_at size ⊗ octet_at) bytes) More)
    (λ full. says-leaf 7 limit Bad (leaf-bad 7))
    (λ empty. says-behind (size + 1) 7 limit (octets_at size ⊗ octet_at) (λ x rest. if x.1 == 206 then ended type channel size x.0 else Bad)
    (exact-both size 1 (octets_at size) octet_at (exact-octets size) exact-octet) (omega (arith, ltb-false _ _ within)) last))
  where
    -- seven octets, the payload, and the end
    all : 7 + (size + 1) ≡ size + 8
    all = omega arith

    last : (x : List ℕ × ℕ) → Says (7 + (size + 1)) limit (λ rest. if x.1 == 206 then ended type channel size x.0 else Bad)
    last x =
        let leaf : Leaf (7 + (size + 1)) (ended type channel size x.0) = rw all (leaf-ended type channel size x.0) in
        says-if (x.1 == 206) (7 + (size + 1)) limit (λ rest. ended type channel size x.0) (λ rest. Bad)
        (λ end. says-leaf (7 + (size + 1)) limit (ended type channel size x.0) leaf)
        (λ other. says-leaf (7 + (size + 1)) limit Bad (leaf-bad (7 + (size + 1))))

says-framed : (type limit : ℕ) → Says 1 limit (framed type limit)
unfolding framed
says-framed type limit =
    says-behind 6 1 limit (number_at w16 ⊗ number_at w32) (λ x. sized type limit x.0 x.1)
    (exact-both 2 4 (number_at w16) (number_at w32) (exact-number w16) (exact-number w32)) (omega arith) (λ x. says-sized type limit x.0 x.1)

says-version : (limit : ℕ) → Says 4 limit version
unfolding version
says-version limit =
    says-behind 4 4 limit (octet_at ⊗ octet_at ⊗ octet_at ⊗ octet_at)
    (λ x rest. Whole (ProtocolHeader (record { major = x.1.0; minor = x.1.1.0; revision = x.1.1.1 })) 8)
    (exact-both 1 3 octet_at (octet_at ⊗ octet_at ⊗ octet_at) exact-octet
    (exact-both 1 2 octet_at (octet_at ⊗ octet_at) exact-octet (exact-both 1 1 octet_at octet_at exact-octet exact-octet)))
    (omega arith)
    (λ x. says-leaf 8 limit (Whole (ProtocolHeader (record { major = x.1.0; minor = x.1.1.0; revision = x.1.1.1 })) 8)
    (leaf-whole 8 8 (ProtocolHeader (record { major = x.1.0; minor = x.1.1.0; revision = x.1.1.1 })) (omega arith) (omega arith)))

says-expect : (k limit octet : ℕ) (next : List ℕ → Read) → k < 8 → Says (k + 1) limit next → Says k limit (expect octet next)
says-expect k limit octet next few behind =
    says-octet k limit (expect octet next) refl few
    (λ o. says-if (o == octet) (k + 1) limit next (λ rest. Bad) (λ same. behind) (λ other. says-leaf (k + 1) limit Bad (leaf-bad (k + 1))))

says-header : (limit : ℕ) → Says 1 limit header
unfolding header
says-header limit =
    says-expect 1 limit 77 (expect 81 (expect 80 version)) (omega arith)
    (says-expect 2 limit 81 (expect 80 version) (omega arith) (says-expect 3 limit 80 version (omega arith) (says-version limit)))

pub says-front : (limit : ℕ) → Says 0 limit (λ bytes. front bytes limit)
unfolding front
says-front limit =
    says-octet 0 limit (λ bytes. front bytes limit) refl (omega arith)
    (λ o. says-if (o == 65) 1 limit header (λ rest. if is_type_octet o then framed o limit rest else Bad) (λ letter. says-header limit)
    (λ other. says-if (is_type_octet o) 1 limit (framed o limit) (λ rest. Bad) (λ type. says-framed o limit) (λ none. says-leaf 1 limit Bad (leaf-bad 1))))

-- of no octet nothing can be said
pub front-none : (limit : ℕ) → front [] limit ≡ More
unfolding front
front-none limit = refl

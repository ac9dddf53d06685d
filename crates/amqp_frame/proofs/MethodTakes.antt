-- What is read of a method or a payload is spelled so.
use Rattle.std.proofs.Common.{eq-eqb, ◌≡◌, ◌≢◌, ◌⊎◌, ℕ, ◌%◌, Bool, true, false, cond, eqb, ltb, List, [], ◌++◌, length, Option, Some, None, option_map, refl, sym, ap, subst, ◌∙◌, inl, inr}
use mathlib.Core.Bool.{false≢true}
use Rattle.std.proofs.lemmas.Bool.{eqb-true, ltb-false}
use Rattle.std.proofs.lemmas.List.{append-nil, nil_from_length}
use Rattle.std.specs.Int.{w16}
use Rattle.amqp_types.specs.Forms.{Form, IsOctets, NumberOf}
use Rattle.amqp_types.specs.Reading.{Reader, ◌>>=◌, number_at, read_map}
use Rattle.amqp_types.proofs.Readers.{IsReader, IsOctets-rest, bind_some, octet_reader, number16_reader, map_takes, short_string_reader, long_string_reader}
use Rattle.amqp_types.proofs.Small.{some_is}
use Rattle.amqp_types.proofs.FieldReaders.{pick}
use Rattle.amqp_frame.specs.declared.method.Method.{Method}
use Rattle.amqp_frame.specs.declared.method.Method.TheVariants as m
use Rattle.amqp_frame.specs.declared.frame.Frame.{Frame}
use Rattle.amqp_frame.specs.declared.frame.Frame.TheVariants as f
use Rattle.amqp_frame.specs.declared.frame.RawKind.TheVariants.{RawMethod, Header, Body}
use Rattle.amqp_frame.specs.Methods.{class_of, number_of, ArgumentsOf, MethodOf}
use Rattle.amqp_frame.specs.Frames.{Framed, FrameOf}
use Rattle.amqp_frame.specs.FrameReading.{start_at, start_ok_at, tune_at, tune_ok_at, open_at, close_at, channel_close_at, update_secret_at, done_at, connection_arguments_at, channel_arguments_at, exactly, method_content, method_payload, content}
use Rattle.amqp_frame.proofs.FrameReaders.{start_args, start_ok_args, numbers, open_args, reasons, secret_args}

-- the method that was taken, with its class and its number
abbrev pub TakesMethod : ℕ → ℕ → List ℕ → Method → List ℕ → Type 0
TakesMethod class number bytes mm rest =
    (class_of mm ≡ class) × (number_of mm ≡ number) × (text : List ℕ) × (bytes ≡ text ++ rest) × ArgumentsOf mm text

module _ (class id : ℕ) (bytes : List ℕ) (mm : Method) (rest : List ℕ) (fits : IsOctets bytes) where
  by_map :
      {A : Type 0} {F : A → Form} {read : Reader A} → IsReader F read → (g : A → Method) (k : ℕ) →
      ((x : A) → class_of (g x) ≡ class) → ((x : A) → number_of (g x) ≡ k) →
      ((x : A) (text : List ℕ) → F x text → ArgumentsOf (g x) text) → id ≡ k →
      read_map g read bytes ≡ Some (mm, rest) → TakesMethod class id bytes mm rest
  by_map r g k classes numbers_are spelled is e =
      let t = map_takes r g bytes mm rest fits e in
      subst (λ (z : Method). TakesMethod class id bytes z rest) t.2
      (classes t.0, numbers_are t.0 ∙ sym is, t.1, t.3, spelled t.0 t.1 t.4)

  by_none :
      (method : Method) (k : ℕ) → class_of method ≡ class → number_of method ≡ k → ArgumentsOf method [] → id ≡ k →
      done_at method bytes ≡ Some (mm, rest) → TakesMethod class id bytes mm rest
  by_none method k class_is number_is spelled is e =
      let same : ◌≡◌ {A = Method × List ℕ} (method, bytes) (mm, rest) = some_is (method, bytes) (mm, rest) e in
      subst (λ (p : Method × List ℕ). TakesMethod class id bytes p.0 p.1) same
      (class_is, number_is ∙ sym is, [], refl, spelled)

pub connection_takes :
    (id : ℕ) (bytes : List ℕ) (mm : Method) (rest : List ℕ) → IsOctets bytes →
    connection_arguments_at id bytes ≡ Some (mm, rest) → TakesMethod 10 id bytes mm rest
unfolding connection_arguments_at start_at start_ok_at tune_at tune_ok_at open_at close_at update_secret_at
connection_takes id bytes mm rest fits e =
    pick id 10 _ _ _ e
    (by_map 10 id bytes mm rest fits start_args (λ a. m.Start a.0 a.1.0 a.1.1.0 a.1.1.1.0 a.1.1.1.1) 10 (λ a. refl)
    (λ a. refl) (λ a text p. p))
    (λ e.
    pick id 11 _ _ _ e
    (by_map 10 id bytes mm rest fits start_ok_args (λ a. m.StartOk a.0 a.1.0 a.1.1.0 a.1.1.1) 11 (λ a. refl)
    (λ a. refl) (λ a text p. p))
    (λ e.
    pick id 20 _ _ _ e
    (by_map 10 id bytes mm rest fits long_string_reader m.Secure 20 (λ a. refl) (λ a. refl) (λ a text p. p)) (λ e.
    pick id 21 _ _ _ e
    (by_map 10 id bytes mm rest fits long_string_reader m.SecureOk 21 (λ a. refl) (λ a. refl) (λ a text p. p)) (λ e.
    pick id 30 _ _ _ e
    (by_map 10 id bytes mm rest fits numbers (λ a. m.Tune a.0 a.1.0 a.1.1) 30 (λ a. refl) (λ a. refl) (λ a text p. p))
    (λ e.
    pick id 31 _ _ _ e
    (by_map 10 id bytes mm rest fits numbers (λ a. m.TuneOk a.0 a.1.0 a.1.1) 31 (λ a. refl) (λ a. refl)
    (λ a text p. p))
    (λ e.
    pick id 40 _ _ _ e
    (by_map 10 id bytes mm rest fits open_args (λ a. m.Open a.0) 40 (λ a. refl) (λ a. refl)
    (λ a text p. (p.0, p.1, p.2, p.3, (p.4.0, p.4.1, p.4.2, (a.1.0, p.4.3), (a.1.1, p.4.4)))))
    (λ e.
    pick id 41 _ _ _ e
    (by_map 10 id bytes mm rest fits short_string_reader (λ a. m.OpenOk) 41 (λ a. refl) (λ a. refl)
    (λ a text p. (a, p)))
    (λ e.
    pick id 50 _ _ _ e
    (by_map 10 id bytes mm rest fits reasons (λ a. m.Close a.0 a.1.0 a.1.1.0 a.1.1.1) 50 (λ a. refl) (λ a. refl)
    (λ a text p. p))
    (λ e.
    pick id 51 _ _ _ e (by_none 10 id bytes mm rest fits m.CloseOk 51 refl refl refl) (λ e.
    pick id 60 _ _ _ e
    (by_map 10 id bytes mm rest fits short_string_reader m.Blocked 60 (λ a. refl) (λ a. refl) (λ a text p. p)) (λ e.
    pick id 61 _ _ _ e (by_none 10 id bytes mm rest fits m.Unblocked 61 refl refl refl) (λ e.
    pick id 70 _ _ _ e
    (by_map 10 id bytes mm rest fits secret_args (λ a. m.UpdateSecret a.0 a.1) 70 (λ a. refl) (λ a. refl)
    (λ a text p. p))
    (λ e.
    pick id 71 _ _ _ e (by_none 10 id bytes mm rest fits m.UpdateSecretOk 71 refl refl refl)
    (λ e. absurd (cc)))))))))))))))

pub channel_takes :
    (id : ℕ) (bytes : List ℕ) (mm : Method) (rest : List ℕ) → IsOctets bytes →
    channel_arguments_at id bytes ≡ Some (mm, rest) → TakesMethod 20 id bytes mm rest
unfolding channel_arguments_at channel_close_at
channel_takes id bytes mm rest fits e =
    pick id 10 _ _ _ e
    (by_map 20 id bytes mm rest fits short_string_reader (λ a. m.ChannelOpen) 10 (λ a. refl) (λ a. refl)
    (λ a text p. (a, p)))
    (λ e.
    pick id 11 _ _ _ e
    (by_map 20 id bytes mm rest fits long_string_reader (λ a. m.ChannelOpenOk) 11 (λ a. refl) (λ a. refl)
    (λ a text p. (a, p)))
    (λ e.
    pick id 20 _ _ _ e
    (by_map 20 id bytes mm rest fits octet_reader (λ n. m.ChannelFlow (eqb (n % 2) 1)) 20 (λ a. refl) (λ a. refl)
    (λ n text p. (n, refl, p)))
    (λ e.
    pick id 21 _ _ _ e
    (by_map 20 id bytes mm rest fits octet_reader (λ n. m.ChannelFlowOk (eqb (n % 2) 1)) 21 (λ a. refl) (λ a. refl)
    (λ n text p. (n, refl, p)))
    (λ e.
    pick id 40 _ _ _ e
    (by_map 20 id bytes mm rest fits reasons (λ a. m.ChannelClose a.0 a.1.0 a.1.1.0 a.1.1.1) 40 (λ a. refl)
    (λ a. refl) (λ a text p. p))
    (λ e.
    pick id 41 _ _ _ e (by_none 20 id bytes mm rest fits m.ChannelCloseOk 41 refl refl refl) (λ e. absurd (cc)))))))

differs : (a b : ℕ) → eqb a b ≡ false → a ≢ b
differs a b e same = absurd (false≢true (sym e ∙ eq-eqb a b same))

-- ---- what a payload holds
-- in a frame of that type, the payload makes it that frame
abbrev pub Makes : ℕ → ℕ → List ℕ → Frame → Type 0
Makes type channel payload frame = (text : List ℕ) → Framed type channel payload text → FrameOf frame text

-- a method that used the octets exactly
exact_takes :
    (channel class id : ℕ) (read : Reader Method) (bytes : List ℕ) (frame : Frame) →
    ((mm : Method) (rest : List ℕ) → read bytes ≡ Some (mm, rest) → TakesMethod class id bytes mm rest) →
    exactly (read_map (f.Method channel) read) bytes ≡ Some frame →
    (mm : Method) × (frame ≡ f.Method channel mm) × (class_of mm ≡ class) × (number_of mm ≡ id) × ArgumentsOf mm bytes
exact_takes channel class id read bytes frame takes e =
    let b =
    bind_some (read_map (f.Method channel) read bytes) (λ x. cond (eqb (length x.1) 0) (Some x.0) None) frame e in
    let g = mapped (read bytes) b.0 b.1 in
    let u = ended_exactly (eqb (length b.0.1) 0) b.0.0 frame b.2 in
    let t = takes g.0 b.0.1 g.1 in
    let none : b.0.1 ≡ [] = nil_from_length b.0.1 (eqb-true _ _ u.0) in
    let all : bytes ≡ t.2 = t.3 ∙ ap (λ (r : List ℕ). t.2 ++ r) none ∙ append-nil t.2 in
    (g.0, sym u.1 ∙ sym g.2, t.0, t.1, subst (ArgumentsOf g.0) (sym all) t.4)
  where
    ended_exactly : (t : Bool) (x y : Frame) → cond t (Some x) None ≡ Some y → (t ≡ true) × (x ≡ y)
    ended_exactly true x y e = (refl, some_is x y e)
    ended_exactly false x y e = absurd cc

    mapped :
        (o : Option (Method × List ℕ)) (y : Frame × List ℕ) →
        option_map {U = Frame × List ℕ} (λ (x : Method × List ℕ). (f.Method channel x.0, x.1)) o ≡ Some y →
        (mm : Method) × (o ≡ Some (mm, y.1)) × (f.Method channel mm ≡ y.0)
    mapped None y e = absurd cc
    mapped (Some x) y e =
        let is : ◌≡◌ {A = Frame × List ℕ} (f.Method channel x.0, x.1) y = some_is (f.Method channel x.0, x.1) y e in
        (x.0, ap (λ (p : Frame × List ℕ). Some (x.0, p.1)) is, ap (λ (p : Frame × List ℕ). p.0) is)

method_makes :
    (channel : ℕ) (payload : List ℕ) (frame : Frame) (mm : Method) → frame ≡ f.Method channel mm →
    MethodOf mm payload → Makes 1 channel payload frame
method_makes channel payload frame mm is spells text framed =
    subst (λ (z : Frame). FrameOf z text) (sym is) (payload, spells, framed)

pub payload_makes :
    (channel : ℕ) (payload : List ℕ) (frame : Frame) → IsOctets payload →
    method_payload channel payload ≡ Some frame → Makes 1 channel payload frame
unfolding method_payload
payload_makes channel payload frame fits e =
    let b =
    bind_some (number_at w16 payload) (λ c. number_at w16 c.1 >>= λ n. method_content channel payload c.0 n.0 n.1)
    frame e in
    let d = bind_some (number_at w16 b.0.1) (λ n. method_content channel payload b.0.0 n.0 n.1) frame b.2 in
    let t = number16_reader.takes payload b.0.0 b.0.1 fits b.1 in
    let fits1 = IsOctets-rest payload t.0 b.0.1 t.1 fits in
    let u = number16_reader.takes b.0.1 d.0.0 d.0.1 fits1 d.1 in
    let fits2 = IsOctets-rest b.0.1 u.0 d.0.1 u.1 fits1 in
    by_class b.0.0 d.0.0 b.0.1 d.0.1 t.0 u.0 t.1 t.2 u.1 u.2 fits2 d.2
  where
    by_class :
        (class id : ℕ) (middle last first second : List ℕ) → payload ≡ first ++ middle → NumberOf w16 class first →
        middle ≡ second ++ last → NumberOf w16 id second → IsOctets last →
        method_content channel payload class id last ≡ Some frame → Makes 1 channel payload frame
    by_class class id middle last first second p1 n1 p2 n2 fits2 e = by10 (eqb class 10) refl e
      where
        spells : (mm : Method) → class_of mm ≡ class → number_of mm ≡ id → ArgumentsOf mm last → MethodOf mm payload
        spells mm c n a = (
          first,
          middle,
          p1,
          subst (λ (k : ℕ). NumberOf w16 k first) (sym c) n1,
          (second, last, p2, subst (λ (k : ℕ). NumberOf w16 k second) (sym n) n2, a),
        )

        by20 :
            (t : Bool) → eqb class 10 ≡ false → eqb class 20 ≡ t →
            cond t (exactly (read_map (f.Method channel) (channel_arguments_at id)) last)
            (Some (f.Raw channel RawMethod payload)) ≡ Some frame →
            Makes 1 channel payload frame
        by20 true not10 is e =
            let x =
            exact_takes channel 20 id (channel_arguments_at id) last frame
            (λ mm rest h. channel_takes id last mm rest fits2 h) e in
            method_makes channel payload frame x.0 x.1 (spells x.0 (x.2 ∙ sym (eqb-true class 20 is)) x.3 x.4)
        by20 false not10 is e = λ text framed.
            subst (λ (z : Frame). FrameOf z text) (some_is (f.Raw channel RawMethod payload) frame e) (
              (
                class,
                id,
                differs class 10 not10,
                differs class 20 is,
                (first, middle, p1, n1, (second, last, p2, n2, tt)),
              ),
              framed,
            )

        by10 :
            (t : Bool) → eqb class 10 ≡ t →
            cond t (exactly (read_map (f.Method channel) (connection_arguments_at id)) last)
            (cond (eqb class 20) (exactly (read_map (f.Method channel) (channel_arguments_at id)) last)
            (Some (f.Raw channel RawMethod payload)))
            ≡ Some frame →
            Makes 1 channel payload frame
        by10 true is e =
            let x =
            exact_takes channel 10 id (connection_arguments_at id) last frame
            (λ mm rest h. connection_takes id last mm rest fits2 h) e in
            method_makes channel payload frame x.0 x.1 (spells x.0 (x.2 ∙ sym (eqb-true class 10 is)) x.3 x.4)
        by10 false is e = by20 (eqb class 20) is refl e

pub content_makes :
    (type channel : ℕ) (payload : List ℕ) (frame : Frame) → ((type ≡ 1) ⊎ ((type ≡ 2) ⊎ (type ≡ 3))) →
    IsOctets payload → content type channel payload ≡ Some frame → Makes type channel payload frame
unfolding content
content_makes type channel payload frame (inl is) fits e =
    subst (λ (k : ℕ). Makes k channel payload frame) (sym is)
    (payload_makes channel payload frame fits (ap (λ (k : ℕ). content k channel payload) (sym is) ∙ e))
content_makes type channel payload frame (inr (inl is)) fits e =
    by (ltb (length payload) 14) refl (ap (λ (k : ℕ). content k channel payload) (sym is) ∙ e)
  where
    by :
        (t : Bool) → ltb (length payload) 14 ≡ t → cond t None (Some (f.Raw channel Header payload)) ≡ Some frame →
        Makes type channel payload frame
    by true short e = absurd cc
    by false long e =
        λ text framed.
        subst (λ (z : Frame). FrameOf z text) (some_is (f.Raw channel Header payload) frame e)
        (ltb-false _ _ long, subst (λ (k : ℕ). Framed k channel payload text) is framed)
content_makes type channel payload frame (inr (inr is)) fits e = λ text framed.
    subst (λ (z : Frame). FrameOf z text)
    (some_is (f.Raw channel Body payload) frame (ap (λ (k : ℕ). content k channel payload) (sym is) ∙ e))
    (tt, subst (λ (k : ℕ). Framed k channel payload text) is framed)

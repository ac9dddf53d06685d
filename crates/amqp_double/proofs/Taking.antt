-- Frames that came are taken, one after another.
use Rattle.std.proofs.Common.{subst, ◌≡◌, ◌≤◌, ◌<◌, ◌∙◌, ap, sym, refl, ℕ, ◌+◌, false, List, [], ◌∷◌, ◌++◌, length, get_or, take, drop, Option, Some, None, IsTrue, is_some, Err, arith, append-nil, append_assoc, length-append, length-drop}
use Rattle.std.specs.Prelude.{vec_capacity}
use Rattle.std.proofs.lemmas.List.{drop_more, take-append-le}
use Rattle.std.proofs.lemmas.List.Sums.{sum_by-cons, sum_by_push}
use Rattle.amqp_frame.specs.declared.frame.Frame.{Frame}
use Rattle.amqp_frame.specs.declared.frame.Read.{Read}
use Rattle.amqp_frame.specs.declared.frame.Read.TheVariants.{Whole, More}
use Rattle.amqp_frame.specs.FrameReading.{Yields}
use Rattle.amqp_frame.specs.Sequences.{front_at, Stand}
use Rattle.amqp_frame.proofs.FrontStays.{front-none}
use Rattle.amqp_frame.proofs.Sequences.{frame-size, stand-push, stand-stays}
use Rattle.amqp_legal.specs.Decider.{greeted}
use Rattle.amqp_legal.specs.Legal.{Legal}
use Rattle.amqp_legal.specs.Speeches.{speech_of, HasSaid}
use Rattle.amqp_legal.proofs.TakenIsLegal.{sound}
use Rattle.amqp_legal.proofs.Saying.{begun}
use Rattle.amqp_settings.specs.declared.configuration.Configuration.{Configuration}
use Rattle.amqp_double.specs.Arrivals.{IsThere, IsArrival, Arrive, AreArrivals, Adds, IsBehind, reply_length, replies_length}
use Rattle.amqp_double.specs.declared.refusal.DoubleFault.TheVariants as faults
use Rattle.amqp_double.specs.Faults.{result_of}
use Rattle.amqp_double.specs.Doubles.{greatest_limit, DoubleState, with_client, HasAnswered, StopsBehind, AnswersClient, SaysMore}
use Rattle.amqp_double.specs.Replies.{reply_octets, all_replies, closes_connection}
use Rattle.amqp_double.specs.Hearing.{double_of, HasRead, HeardAll, HasTaken, Unchanged, Kept}
use Rattle.amqp_double.specs.declared.arrivals.Arrival.{Arrival as Came}
use Rattle.amqp_double.specs.declared.arrivals.Arrivals.{Arrivals}
use Rattle.amqp_double.specs.declared.refusal.Refusal.{Refusal}
use Rattle.amqp_double.specs.declared.refusal.Refusal.TheVariants as refusals
use Rattle.amqp_legal.specs.declared.speech.Speech.{Speech as Spoken}
use Rattle.amqp_double.specs.declared.heard.Heard.{Heard}
use Rattle.amqp_double.proofs.Saying.{replies-push, closed-push}

-- ---- one frame

-- a frame that stands at a place has some octets, all of them there
pub whole-arrival : (bytes : List ℕ) (numbers : Configuration) (place : ℕ) (a : Came) → place ≤ length bytes → front_at bytes greatest_limit place ≡ Whole a.frame a.size
    → a.reply.items ≡ reply_octets numbers a.frame → IsArrival bytes numbers place a
whole-arrival bytes numbers place a within is reply =
    let size = frame-size (drop place bytes) greatest_limit a.size a.frame is in
    record {
      stands = is;
      some = omega (arith, size.0);
      within = omega (arith, size.1, length-drop place bytes);
      reply = reply;
    }

pub whole_there : (r : Read) (bytes : List ℕ) (place : ℕ) → place ≤ length bytes → Yields r (front_at bytes greatest_limit place) → IsThere r place (length bytes)
whole_there (Whole f n) bytes place within is =
    let size = frame-size (drop place bytes) greatest_limit n f is in
    (omega (arith, size.0), omega (arith, size.1, length-drop place bytes))
whole_there _ bytes place within is = tt

-- it was taken
pub read-more : (frames : List Frame) (old new : Heard) (a : Came) → HasRead frames old → IsArrival old.client.items old.numbers old.read a → new.client.items ≡ old.client.items
    → new.numbers ≡ old.numbers → new.read ≡ old.read + a.size → new.frames ≡ old.frames + 1 → new.said.items ≡ old.said.items ++ a.reply.items → new.sent ≡ old.sent
    → new.closed ≡ closes_connection a.frame → Legal (frames ++ a.frame ∷ []) → HasSaid (drop 1 (frames ++ a.frame ∷ [])) new.speech → HasRead (frames ++ a.frame ∷ []) new
read-more frames old new a h came client numbers read count said sent closed legal speech = record {
  answered = record {
    stand =
        subst (λ (bytes : List ℕ). Stand bytes greatest_limit 0 (frames ++ a.frame ∷ []) new.read) (sym client)
        (subst (λ (place : ℕ). Stand old.client.items greatest_limit 0 (frames ++ a.frame ∷ []) place) (sym read)
        (stand-push old.client.items greatest_limit 0 old.read a.size frames a.frame h.answered.stand came.stands));
    legal = legal;
    count = omega (arith, count, h.answered.count, length-append frames (a.frame ∷ []));
    said =
        said ∙ ap (λ (xs : List ℕ). xs ++ a.reply.items) h.answered.said
        ∙ ap (λ (xs : List ℕ). all_replies old.numbers frames ++ xs) came.reply ∙ sym (replies-push old.numbers frames a.frame)
        ∙ ap (λ (c : Configuration). all_replies c (frames ++ a.frame ∷ [])) (sym numbers);
    sent = omega (arith, sent, h.answered.sent, ap length said, length-append old.said.items a.reply.items);
    closed = closed ∙ sym (closed-push frames a.frame);
  };
  speech = speech;
}

-- why nothing further is read is no part of what was read
pub still-read : (frames : List Frame) (h : Heard) (r : Option Refusal) → HasRead frames h → HasRead frames (record h { refusal = r })
still-read frames h r is = record {
  answered = record {
    stand = is.answered.stand;
    legal = is.answered.legal;
    count = is.answered.count;
    said = is.answered.said;
    sent = is.answered.sent;
    closed = is.answered.closed;
  };
  speech = is.speech;
}

-- ---- frames that are read

-- they stand one after another, up to the place where the next is looked for
pub record ReadSoFar (bytes : List ℕ) (numbers : Configuration) (start place : ℕ) (list : List Came) (replies : ℕ) : Type 0 where
  pub within : place ≤ length bytes
  pub arrive : Arrive bytes numbers start list place
  pub counted : replies ≡ replies_length list

arrive-push : (bytes : List ℕ) (numbers : Configuration) (start place : ℕ) (list : List Came) (a : Came) → Arrive bytes numbers start list place → IsArrival bytes numbers place a
    → Arrive bytes numbers start (list ++ a ∷ []) (place + a.size)
arrive-push bytes numbers start place [] a s next = (subst (λ (p : ℕ). IsArrival bytes numbers p a) (sym s) next, ap (λ (p : ℕ). p + a.size) s)
arrive-push bytes numbers start place (b ∷ list) a s next = (s.0, arrive-push bytes numbers (start + b.size) place list a s.1 next)

length-push : (list : List Came) (a : Came) → replies_length (list ++ a ∷ []) ≡ replies_length list + reply_length a
length-push list a = sum_by_push reply_length list a

-- one more is read
pub read-push : (bytes : List ℕ) (numbers : Configuration) (start place : ℕ) (list : List Came) (replies : ℕ) (a : Came) → ReadSoFar bytes numbers start place list replies
    → front_at bytes greatest_limit place ≡ Whole a.frame a.size → a.reply.items ≡ reply_octets numbers a.frame
    → ReadSoFar bytes numbers start (place + a.size) (list ++ a ∷ []) (replies + reply_length a)
read-push bytes numbers start place list replies a so is reply =
    let came = whole-arrival bytes numbers place a so.within is reply in
    record {
      within = came.within;
      arrive = arrive-push bytes numbers start place list a so.arrive came;
      counted = omega (arith, so.counted, length-push list a);
    }

-- one more is read
pub read_added : (bytes : List ℕ) (numbers : Configuration) (start place size : ℕ) (f : Frame) (old new : Arrivals) → ReadSoFar bytes numbers start place old.list.items old.replies
    → front_at bytes greatest_limit place ≡ Whole f size → Adds numbers f size old new → ReadSoFar bytes numbers start (place + size) new.list.items new.replies
read_added bytes numbers start place size f old new so is adds =
    let a : Came = adds.arrival in
    let here : front_at bytes greatest_limit place ≡ Whole a.frame a.size = is ∙ ap (λ (g : Frame). Whole g size) (sym adds.frame) ∙ ap (λ (n : ℕ). Whole a.frame n) (sym adds.octets) in
    let reply : a.reply.items ≡ reply_octets numbers a.frame = adds.reply ∙ ap (λ (g : Frame). reply_octets numbers g) (sym adds.frame) in
    let more = read-push bytes numbers start place old.list.items old.replies a so here reply in
    subst (λ (n : ℕ). ReadSoFar bytes numbers start (place + n) new.list.items new.replies) adds.octets
    (subst (λ (list : List Came). ReadSoFar bytes numbers start (place + a.size) list new.replies) (sym adds.list)
    (subst (λ (replies : ℕ). ReadSoFar bytes numbers start (place + a.size) (old.list.items ++ a ∷ []) replies) (sym adds.replies) more))

-- at first nothing is
pub none_read : (bytes : List ℕ) (numbers : Configuration) (start : ℕ) (a : Arrivals) → start ≤ length bytes → a.list.items ≡ [] → a.replies ≡ 0
    → ReadSoFar bytes numbers start start a.list.items a.replies
none_read bytes numbers start a within list replies =
    subst (λ (list : List Came). ReadSoFar bytes numbers start start list a.replies) (sym list)
    (record { within = within; arrive = refl; counted = replies })

-- and in the end all
pub all_read : (bytes : List ℕ) (numbers : Configuration) (start place : ℕ) (a : Arrivals) → ReadSoFar bytes numbers start place a.list.items a.replies → IsBehind bytes place a.behind
    → AreArrivals bytes numbers start a
all_read bytes numbers start place a so behind = record { end = place; arrive = so.arrive; replies = so.counted; behind = behind }

-- ---- frames that are taken

-- of so many octets all were said but so many
pub record Said (all left : ℕ) (old now : List ℕ) : Type 0 where
  pub more : List ℕ
  pub behind : now ≡ old ++ more
  pub counted : length more + left ≡ all

-- from the first up to one of them
pub record TakenSoFar (old now : Heard) (list : List Came) (i : ℕ) : Type 0 where
  pub going : now.refusal ≡ None
  pub room : length now.said.items + replies_length (drop i list) ≤ vec_capacity now.said
  pub arrive : (end : ℕ) → Arrive old.client.items old.numbers old.read list end → Arrive now.client.items now.numbers now.read (drop i list) end
  pub read : (frames : List Frame) → HasRead frames old → (more : List Frame) × HasRead more now
  pub said : Said (replies_length list) (replies_length (drop i list)) old.said.items now.said.items
  pub same : Kept old now

pub none_taken : (old : Heard) (list : List Came) → old.refusal ≡ None → length old.said.items + replies_length list ≤ vec_capacity old.said → TakenSoFar old old list 0
none_taken old list going room = record {
  going = going;
  room = room;
  arrive = λ end arrive. arrive;
  read = λ frames read. (frames, read);
  said = record { more = []; behind = sym (append-nil old.said.items); counted = omega arith };
  same = record { numbers = refl; client = refl; sent = refl };
}

-- the next that came
pub next-came : (old now : Heard) (list : List Came) (i end : ℕ) (a : Came) → i < length list → a ≡ get_or list i a → TakenSoFar old now list i
    → Arrive old.client.items old.numbers old.read list end
    → IsArrival now.client.items now.numbers now.read a × Arrive now.client.items now.numbers (now.read + a.size) (drop (i + 1) list) end
next-came old now list i end a less is so arrive =
    let next : drop i list ≡ a ∷ drop (i + 1) list = drop_more list i a less ∙ ap (λ (x : Came). x ∷ drop (i + 1) list) (sym is) in
    subst (λ (xs : List Came). Arrive now.client.items now.numbers now.read xs end) next (so.arrive end arrive)

pub next-room : (old now : Heard) (list : List Came) (i : ℕ) (a : Came) → i < length list → a ≡ get_or list i a → TakenSoFar old now list i
    → length now.said.items + (reply_length a + replies_length (drop (i + 1) list)) ≤ vec_capacity now.said
next-room old now list i a less is so =
    let next : drop i list ≡ a ∷ drop (i + 1) list = drop_more list i a less ∙ ap (λ (x : Came). x ∷ drop (i + 1) list) (sym is) in
    omega (arith, so.room, ap replies_length next, sum_by-cons reply_length a (drop (i + 1) list))

next-length : (old now : Heard) (list : List Came) (i : ℕ) (a : Came) → i < length list → a ≡ get_or list i a
    → replies_length (drop i list) ≡ reply_length a + replies_length (drop (i + 1) list)
next-length old now list i a less is =
    let next : drop i list ≡ a ∷ drop (i + 1) list = drop_more list i a less ∙ ap (λ (x : Came). x ∷ drop (i + 1) list) (sym is) in
    ap replies_length next ∙ sum_by-cons reply_length a (drop (i + 1) list)

said-on : (old now new : Heard) (list : List Came) (i : ℕ) (a : Came) → i < length list → a ≡ get_or list i a → TakenSoFar old now list i
    → new.said.items ≡ now.said.items ++ a.reply.items → Said (replies_length list) (replies_length (drop (i + 1) list)) old.said.items new.said.items
said-on old now new list i a less is so said =
    let k = so.said in
    record {
      more = k.more ++ a.reply.items;
      behind = said ∙ ap (λ (xs : List ℕ). xs ++ a.reply.items) k.behind ∙ append_assoc old.said.items k.more a.reply.items;
      counted = omega (arith, k.counted, length-append k.more a.reply.items, next-length old now list i a less is);
    }

pub kept-on : (a b c : Heard) → Kept a b → Kept b c → Kept a c
kept-on a b c one two = record {
  numbers = two.numbers ∙ one.numbers;
  client = two.client ∙ one.client;
  sent = two.sent ∙ one.sent;
}

-- it is taken
pub taken_more : (old now new : Heard) (list : List Came) (i : ℕ) (a : Came) → i < length list → a ≡ get_or list i a → TakenSoFar old now list i
    → new.refusal ≡ None → new.read ≡ now.read + a.size → new.said.items ≡ now.said.items ++ a.reply.items → vec_capacity now.said ≤ vec_capacity new.said → Kept now new
    → ((frames : List Frame) → HasRead frames now → HasRead (frames ++ a.frame ∷ []) new) → TakenSoFar old new list (i + 1)
taken_more old now new list i a less is so going read said room same more = record {
  going = going;
  room = omega (arith, next-room old now list i a less is so, ap length said, length-append now.said.items a.reply.items, room);
  arrive = λ end arrive.
      let behind = (next-came old now list i end a less is so arrive).1 in
      let P : List ℕ → Configuration → ℕ → Type 0 = λ bytes numbers place. Arrive bytes numbers place (drop (i + 1) list) end in
      subst (λ (place : ℕ). P new.client.items new.numbers place) (sym read)
      (subst (λ (numbers : Configuration). P new.client.items numbers (now.read + a.size)) (sym same.numbers)
      (subst (λ (bytes : List ℕ). P bytes now.numbers (now.read + a.size)) (sym same.client) behind));
  read = λ frames h. let k = so.read frames h in (k.0 ++ a.frame ∷ [], more k.0 k.1);
  said = said-on old now new list i a less is so said;
  same = kept-on old now new so.same same;
}

never-some : (o : Option Refusal) → o ≡ None → IsTrue (is_some o) → ⊥
never-some None none some = cc
never-some (Some r) none some = cc

-- all are taken
pub all_taken : (old now : Heard) (list : List Came) → TakenSoFar old now list (length list) → (frames : List Frame) → HasRead frames old → HasTaken old list now
all_taken old now list so frames h =
    let k = so.read frames h in (
      k.0,
      k.1,
      (
        λ none end arrive. subst (λ (xs : List Came). Arrive now.client.items now.numbers now.read xs end) (drop-all list) (so.arrive end arrive),
        λ some. absurd (never-some now.refusal so.going some),
      ),
    )
  where
    drop-all : (xs : List Came) → drop (length xs) xs ≡ []
    drop-all [] = refl
    drop-all (x ∷ xs) = drop-all xs

-- what was said then
pub said_then : (old now : Heard) (list : List Came) (i : ℕ) → TakenSoFar old now list i → SaysMore (replies_length list) old.said.items now.said.items
said_then old now list i so = record { more = so.said.more; behind = so.said.behind; within = omega (arith, so.said.counted) }

-- one is refused
pub one_refused : (old now new : Heard) (list : List Came) (i end : ℕ) (a : Came) → i < length list → a ≡ get_or list i a → TakenSoFar old now list i
    → Arrive old.client.items old.numbers old.read list end → new.refusal ≡ Some (refusals.Unexpected now.frames) → new.read ≡ now.read → Kept now new
    → ((frames : List Frame) → HasRead frames now → HasRead frames new × (Legal (frames ++ a.frame ∷ []) → ⊥))
    → (frames : List Frame) → HasRead frames old → HasTaken old list new
one_refused old now new list i end a less is so arrive refusal read same refused frames h =
    let k = so.read frames h in
    let r = refused k.0 k.1 in
    let came = (next-came old now list i end a less is so arrive).0 in
    let here : front_at new.client.items greatest_limit new.read ≡ Whole a.frame a.size =
    ap (λ (place : ℕ). front_at new.client.items greatest_limit place) read
    ∙ ap (λ (bytes : List ℕ). front_at bytes greatest_limit now.read) same.client ∙ came.stands in
    let stops : StopsBehind new.client.items new.read k.0 (Some (refusals.Unexpected now.frames)) =
    (k.1.answered.count, record { frame = a.frame; size = a.size; stands = here; illegal = r.1 }) in (
      k.0,
      r.0,
      (
        λ none end arrive. absurd (let some = refusal in cc),
        λ some. subst (λ (o : Option Refusal). StopsBehind new.client.items new.read k.0 o) (sym refusal) stops,
      ),
    )

-- ---- all that was heard

-- nothing
pub nothing-heard : (h : Heard) → h.client.items ≡ [] → h.read ≡ 0 → h.frames ≡ 0 → h.refusal ≡ None → h.said.items ≡ [] → h.sent ≡ 0 → h.closed ≡ false
    → speech_of h.speech ≡ greeted → HeardAll h
nothing-heard h client read frames refusal said sent closed speech =
    let none : front_at h.client.items greatest_limit h.read ≡ More =
    ap (λ (bytes : List ℕ). front_at bytes greatest_limit h.read) client ∙ ap (λ (n : ℕ). front_at [] greatest_limit n) read ∙ front-none greatest_limit in (
      [],
      record {
        answered = record {
          stand = sym read;
          legal = sound [] refl;
          count = frames;
          said = said;
          sent = omega (arith, sent);
          closed = closed;
        };
        speech = begun h.speech speech;
      },
      subst (λ (o : Option Refusal). StopsBehind h.client.items h.read [] o) (sym refusal) none,
    )

-- more octets come
pub read-longer : (frames : List Frame) (old new : Heard) (more : List ℕ) → HasRead frames old → new.client.items ≡ old.client.items ++ more → new.read ≡ old.read → new.frames ≡ old.frames
    → new.numbers ≡ old.numbers → new.said.items ≡ old.said.items → new.sent ≡ old.sent → new.closed ≡ old.closed → new.speech ≡ old.speech → HasRead frames new
read-longer frames old new more h client read count numbers said sent closed speech = record {
  answered = record {
    stand =
        subst (λ (bytes : List ℕ). Stand bytes greatest_limit 0 frames new.read) (sym client)
        (subst (λ (place : ℕ). Stand (old.client.items ++ more) greatest_limit 0 frames place) (sym read)
        (stand-stays old.client.items more greatest_limit 0 old.read frames h.answered.stand));
    legal = h.answered.legal;
    count = count ∙ h.answered.count;
    said = said ∙ h.answered.said ∙ ap (λ (c : Configuration). all_replies c frames) (sym numbers);
    sent = omega (arith, sent, h.answered.sent, ap length said);
    closed = closed ∙ h.answered.closed;
  };
  speech = subst (λ (s : Spoken). HasSaid (drop 1 frames) s) (sym speech) h.speech;
}

-- the same was heard
pub read_unchanged : (frames : List Frame) (old new : Heard) → HasRead frames old → Unchanged old new → HasRead frames new
read_unchanged frames old new h same = record {
  answered = subst (λ (d : DoubleState). HasAnswered frames d) (sym same.state) h.answered;
  speech = subst (λ (s : Spoken). HasSaid (drop 1 frames) s) (sym same.speech) h.speech;
}

-- more octets come, and what then is whole is taken
pub heard_on : (old mid kept new : Heard) (more : List ℕ) → double_of mid ≡ with_client (old.client.items ++ more) (double_of old) → mid.speech ≡ old.speech → Unchanged mid kept
    → ((frames : List Frame) → HasRead frames kept → HeardAll new) → HeardAll old → HeardAll new
heard_on old mid kept new more state speech same taken h =
    let longer = read-longer h.0 old mid more h.1 (ap (λ (d : DoubleState). d.client) state) (ap (λ (d : DoubleState). d.read) state) (ap (λ (d : DoubleState). d.frames) state)
    (ap (λ (d : DoubleState). d.numbers) state) (ap (λ (d : DoubleState). d.said) state) (ap (λ (d : DoubleState). d.sent) state) (ap (λ (d : DoubleState). d.closed) state) speech in
    taken h.0 (read_unchanged h.0 mid kept longer same)

-- or they are taken off again
pub taken_off : (old mid kept new : Heard) (more : List ℕ) → double_of mid ≡ with_client (old.client.items ++ more) (double_of old) → mid.speech ≡ old.speech → Unchanged mid kept
    → new.client.items ≡ take (length old.client.items) kept.client.items → double_of new ≡ with_client new.client.items (double_of kept) → new.speech ≡ kept.speech → Unchanged old new
taken_off old mid kept new more state speech same client rest spoken =
    let before : kept.client.items ≡ old.client.items ++ more = ap (λ (d : DoubleState). d.client) same.state ∙ ap (λ (d : DoubleState). d.client) state in
    let back : new.client.items ≡ old.client.items =
    client ∙ ap (λ (xs : List ℕ). take (length old.client.items) xs) before
    ∙ take-append-le (length old.client.items) old.client.items more (omega arith) ∙ whole old.client.items in
    record {
      state =
          rest ∙ ap (λ (xs : List ℕ). with_client xs (double_of kept)) back
          ∙ ap (λ (d : DoubleState). with_client old.client.items d) same.state
          ∙ ap (λ (d : DoubleState). with_client old.client.items d) state;
      speech = spoken ∙ same.speech ∙ speech;
    }
  where
    whole : (xs : List ℕ) → take (length xs) xs ≡ xs
    whole [] = refl
    whole (x ∷ xs) = ap (λ (ys : List ℕ). x ∷ ys) (whole xs)

-- what is seen of it from outside
pub heard_answers : (h : Heard) → HeardAll h → AnswersClient (double_of h)
heard_answers h is = (is.0, is.1.answered, is.2)

-- NoMemory is no refusal
pub never-memory : (o : Option Refusal) → result_of o ≡ Err faults.NoMemory → ⊥
never-memory None is = cc
never-memory (Some (refusals.BadBytes place)) is = cc
never-memory (Some (refusals.Unexpected number)) is = cc

-- What a setup line sets can be said: the numbers of an address are in the range of their types, and short texts are short.
use Rattle.std.proofs.Common.{◌≡◌, ◌≤◌, ◌<◌, ◌^◌, ℕ, ◌&&◌, nat_lt, nat_le, Bool, true, false, if◌then◌else◌, List, [], ◌∷◌, length, Option, Some, None, Result, Ok, Err, arith}
use Rattle.std.proofs.lemmas.Bool.Decides.{nat_tests}
use Rattle.std.specs.Prelude.{codes, bytes_eq, unwrap_or, option_map}
use Rattle.std.specs.List.{slice_split}
use Rattle.std.specs.Option.{option_or}
use Rattle.std.specs.Result.{result_ok}
use Rattle.std.specs.Str.{all_ascii_digits}
use Rattle.std.specs.Str.Parse.{digits_value}
use Rattle.url.specs.Parts.{Parts}
use Rattle.url.specs.Parser.{Parsed, parse_url}
use Rattle.amqp_uri.specs.declared.fault.UriFault.{UriFault}
use Rattle.amqp_uri.specs.declared.fault.UriFault.TheVariants.{NotAmqp, Amqps, VhostTooLong}
use Rattle.amqp_uri.specs.declared.query.AMQPQuery.{AMQPQuery}
use Rattle.amqp_uri.specs.declared.uri.AMQPUri.{AMQPUri}
use Rattle.amqp_uri.specs.Address.{vhost_of, with_query, address_of, address_by_scheme, address_in, address_of_text, most_octets}
use Rattle.amqp_uri.specs.Query.{QueryPair, query_pairs, number, kept_frame_max, under, pair_frame_max, pair_channel_max, pair_heartbeat, last_of, first_of, refusal_of, wishes_of, unless, query_of}
use Rattle.amqp_settings.specs.Config.{own_numbers}
use Rattle.amqp_written_rules.specs.Sayable.{AreInRange}
use Rattle.amqp_replay.specs.declared.limits.TheConstants.{TEXT_BYTES}
use Rattle.amqp_replay.specs.declared.setup.Setting.{Setting}
use Rattle.amqp_replay.specs.declared.setup.Setting.TheVariants.{Uri, Locale, Name, Property, Delays, Provider, Limit}
use Rattle.amqp_replay.specs.Decimals.{number_64}
use Rattle.amqp_replay.specs.Words.{first_word, after_word}
use Rattle.amqp_replay.specs.Setup.{uri_in, short_text, text_in, is_key, property_in, recover_in, is_blank, numbers_of, delays_in, provider_in, listen_in, limit_in, option_by, setting_of}
use Rattle.amqp_types.proofs.Small.{if_case, if_by, and-right, at-most}

-- what an address wishes can be said
abbrev pub IsSayableUri : AMQPUri → Type 0
IsSayableUri uri = AreInRange (own_numbers uri.query) × (length uri.vhost < 2 ^ 8)

-- so can what a line sets
abbrev pub IsSayable : Setting → Type 0
IsSayable (Uri uri) = IsSayableUri uri
IsSayable (Locale locale) = length locale < 2 ^ 8
IsSayable (Property key text) = length key < 2 ^ 8
IsSayable _ = Unit {0}

-- where it sets anything
abbrev pub MaySet : Option Setting → Type 0
MaySet None = Unit {0}
MaySet (Some setting) = IsSayable setting

-- ---- numbers

abbrev IsBelow : ℕ → Option ℕ → Type 0
IsBelow most None = Unit {0}
IsBelow most (Some n) = n < most

unwrapped : (most : ℕ) (o : Option ℕ) → 0 < most → IsBelow most o → unwrap_or o 0 < most
unwrapped most None some h = some
unwrapped most (Some n) some h = h

below : (m n : ℕ) → nat_lt m n ≡ true → m < n
below m n h = grind (arith, nat_tests)

third : (a b c : Bool) → (a && b && c) ≡ true → c ≡ true
third true true c h = h
third true false c h = cc
third false b c h = cc

number-below : (bits : ℕ) (value : List ℕ) → IsBelow (2 ^ bits) (number bits value)
number-below bits value =
    let n : ℕ = digits_value 10 value in
    if_by (IsBelow (2 ^ bits)) (all_ascii_digits value && nat_lt 0 (length value) && nat_lt n (2 ^ bits)) (Some n) None
    (λ is. below n (2 ^ bits) (third (all_ascii_digits value) (nat_lt 0 (length value)) (nat_lt n (2 ^ bits)) is)) (λ other. tt)

kept-below : (n : ℕ) → n < 2 ^ 32 → kept_frame_max n < 2 ^ 32
kept-below n h = if_case (λ (m : ℕ). m < 2 ^ 32) (nat_lt 0 n && nat_lt n 4096) 4096 n (omega arith) h

kept-map : (o : Option ℕ) → IsBelow (2 ^ 32) o → IsBelow (2 ^ 32) (option_map kept_frame_max o)
kept-map None h = tt
kept-map (Some n) h = kept-below n h

under-below : (most : ℕ) (name : List ℕ) (reading : List ℕ → Option ℕ) (pair : QueryPair) → IsBelow most (reading pair.1) → IsBelow most (under name reading pair)
under-below most name reading pair h = if_case (IsBelow most) (bytes_eq pair.0 name) (reading pair.1) None h tt

or-below : (most : ℕ) (first other : Option ℕ) → IsBelow most first → IsBelow most other → IsBelow most (option_or first other)
or-below most None other h k = k
or-below most (Some n) other h k = h

last-below : (most : ℕ) (says : QueryPair → Option ℕ) → ((pair : QueryPair) → IsBelow most (says pair)) → (pairs : List QueryPair) → IsBelow most (last_of says pairs)
last-below most says h [] = tt
last-below most says h (pair ∷ pairs) = or-below most (last_of says pairs) (says pair) (last-below most says h pairs) (h pair)

wishes-range : (pairs : List QueryPair) → AreInRange (own_numbers (wishes_of pairs))
wishes-range pairs = (
  unwrapped (2 ^ 16) (last_of pair_channel_max pairs) (omega arith)
      (last-below (2 ^ 16) pair_channel_max (λ pair. under-below (2 ^ 16) (codes "channel_max") (number 16) pair (number-below 16 pair.1)) pairs),
  kept-below (unwrap_or (last_of pair_frame_max pairs) 0)
      (unwrapped (2 ^ 32) (last_of pair_frame_max pairs) (omega arith)
      (last-below (2 ^ 32) pair_frame_max
      (λ pair. under-below (2 ^ 32) (codes "frame_max") (λ value. option_map kept_frame_max (number 32 value)) pair (kept-map (number 32 pair.1) (number-below 32 pair.1))) pairs)),
  unwrapped (2 ^ 16) (last_of pair_heartbeat pairs) (omega arith)
      (last-below (2 ^ 16) pair_heartbeat (λ pair. under-below (2 ^ 16) (codes "heartbeat") (number 16) pair (number-below 16 pair.1)) pairs),
)

-- ---- addresses

abbrev MayBeQuery : Result AMQPQuery UriFault → Type 0
MayBeQuery (Ok query) = AreInRange (own_numbers query)
MayBeQuery (Err fault) = Unit {0}

abbrev MayBeAddress : Result AMQPUri UriFault → Type 0
MayBeAddress (Ok uri) = IsSayableUri uri
MayBeAddress (Err fault) = Unit {0}

may-query : (query : Option (List ℕ)) → MayBeQuery (query_of query)
may-query query = by (first_of refusal_of (query_pairs query)) where
  by : (o : Option UriFault) → MayBeQuery (unless o (wishes_of (query_pairs query)))
  by None = wishes-range (query_pairs query)
  by (Some fault) = tt

may-with-query : (url : Parts) (r : Result AMQPQuery UriFault) → length (vhost_of url.path) < 2 ^ 8 → MayBeQuery r → MayBeAddress (with_query url r)
may-with-query url (Ok query) short h = (h, short)
may-with-query url (Err fault) short h = tt

short-enough : (n : ℕ) → nat_lt 255 n ≡ false → n < 2 ^ 8
short-enough n h = let most : n ≤ 255 = grind (arith, nat_tests) in omega (arith, most)

may-url : (url : Parts) → MayBeAddress (address_of url)
may-url url =
    if_by MayBeAddress (nat_lt 255 (length (vhost_of url.path))) (Err VhostTooLong) (with_query url (query_of url.query)) (λ long. tt)
    (λ short. may-with-query url (query_of url.query) (short-enough (length (vhost_of url.path)) short) (may-query url.query))

may-scheme : (url : Parts) → MayBeAddress (address_by_scheme url)
may-scheme url =
    if_case MayBeAddress (bytes_eq url.scheme (codes "amqp")) (address_of url) (if bytes_eq url.scheme (codes "amqps") then Err Amqps else Err NotAmqp) (may-url url)
    (if_case MayBeAddress (bytes_eq url.scheme (codes "amqps")) (Err Amqps) (Err NotAmqp) tt tt)

may-parsed : (p : Parsed Parts) → MayBeAddress (address_in p)
may-parsed (Ok url) = may-scheme url
may-parsed (Err error) = tt

may-text : (text : List ℕ) → MayBeAddress (address_of_text text)
may-text text =
    if_case MayBeAddress (nat_lt most_octets (length text)) (Err NotAmqp) (address_in (parse_url None text)) tt (may-parsed (parse_url None text))

-- ---- settings

set-uri : (r : Result AMQPUri UriFault) → MayBeAddress r → MaySet (option_map Uri (result_ok r))
set-uri (Ok uri) h = h
set-uri (Err fault) h = tt

abbrev IsShort : Option (List ℕ) → Type 0
IsShort None = Unit {0}
IsShort (Some text) = length text < 2 ^ 8

short-in : (text : List ℕ) → IsShort (short_text text)
short-in text =
    if_by IsShort (nat_le (length text) TEXT_BYTES) (Some text) None (λ is. let most : length text ≤ 255 = at-most (length text) TEXT_BYTES is in omega (arith, most)) (λ long. tt)

set-locale : (o : Option (List ℕ)) → IsShort o → MaySet (option_map Locale o)
set-locale None h = tt
set-locale (Some text) h = h

set-name : (o : Option (List ℕ)) → MaySet (option_map Name o)
set-name None = tt
set-name (Some text) = tt

set-key : (key : List ℕ) (o : Option (List ℕ)) → length key < 2 ^ 8 → MaySet (option_map (Property key) o)
set-key key None h = tt
set-key key (Some text) h = h

set-property : (rest : Option (List ℕ)) → MaySet (property_in rest)
set-property None = tt
set-property (Some words) =
    let key : List ℕ = first_word words in
    if_by MaySet (is_key key) (option_map (Property key) (text_in (after_word words))) None
    (λ is.
    let most : length key ≤ 255 = at-most (length key) TEXT_BYTES (and-right (nat_le 1 (length key)) (nat_le (length key) TEXT_BYTES) is) in
    set-key key (text_in (after_word words)) (omega (arith, most))) (λ other. tt)

set-recover : (rest : Option (List ℕ)) → MaySet (recover_in rest)
set-recover None = tt
set-recover (Some text) = tt

set-numbers : (o : Option (List ℕ)) → MaySet (option_map Delays o)
set-numbers None = tt
set-numbers (Some numbers) = tt

set-delays : (rest : Option (List ℕ)) → MaySet (delays_in rest)
set-delays None = tt
set-delays (Some text) = set-numbers (numbers_of (slice_split is_blank text))

set-provider : (rest : Option (List ℕ)) → MaySet (provider_in rest)
set-provider None = tt
set-provider (Some text) = if_case MaySet (bytes_eq text (codes "handed")) (Some Provider) None tt tt

set-listen : (rest : Option (List ℕ)) → MaySet (listen_in rest)
set-listen None = tt
set-listen (Some text) = tt

set-octets : (o : Option ℕ) → MaySet (option_map Limit o)
set-octets None = tt
set-octets (Some octets) = tt

set-limit : (rest : Option (List ℕ)) → MaySet (limit_in rest)
set-limit None = tt
set-limit (Some text) = set-octets (number_64 text)

set-option : (word : List ℕ) (rest : Option (List ℕ)) → MaySet (option_by word rest)
set-option word rest =
    if_case MaySet (bytes_eq word (codes "locale")) (option_map Locale (text_in rest)) _ (set-locale (text_in rest) (short-in (unwrap_or rest [])))
    (if_case MaySet (bytes_eq word (codes "name")) (option_map Name (text_in rest)) _ (set-name (text_in rest))
    (if_case MaySet (bytes_eq word (codes "property")) (property_in rest) _ (set-property rest)
    (if_case MaySet (bytes_eq word (codes "recover")) (recover_in rest) _ (set-recover rest)
    (if_case MaySet (bytes_eq word (codes "delays")) (delays_in rest) _ (set-delays rest)
    (if_case MaySet (bytes_eq word (codes "provider")) (provider_in rest) _ (set-provider rest)
    (if_case MaySet (bytes_eq word (codes "listen")) (listen_in rest) _ (set-listen rest)
    (if_case MaySet (bytes_eq word (codes "limit")) (limit_in rest) None (set-limit rest) tt)))))))

-- what a line sets can be said
pub set-line : (content : List ℕ) → MaySet (setting_of content)
set-line content =
    let word : List ℕ = first_word content in
    let rest : Option (List ℕ) = after_word content in
    if_case MaySet (bytes_eq word (codes "uri")) (uri_in rest) (option_by word rest) (set-uri (address_of_text (unwrap_or rest [])) (may-text (unwrap_or rest []))) (set-option word rest)

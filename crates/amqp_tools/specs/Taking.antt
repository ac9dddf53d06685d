-- Which messages of a queue were printed and acknowledged, over one link after another, and which are known to be.
use Rattle.std.specs.Prelude.{ℕ, ◌+◌, ◌-◌, ◌*◌, ◌%◌, ◌^◌, nat_le, nat_lt, nat_eq, min, Bool, false, not, ◌&&◌, ◌||◌, List, [], ◌∷◌, ◌++◌, length, take, drop, Option, Some, None, option_map, is_some, position, ◌==◌, if◌then◌else◌}
use Rattle.std.specs.List.{remove}
use Rattle.amqp_tools.specs.declared.tags.Deed.TheVariants.{Printed, Known, PassedOver, Flushed, Acknowledged}
use Rattle.amqp_tools.specs.declared.tags.Tags.{Tags}
use Rattle.amqp_tools.specs.declared.taking.Coming.{Coming}
use Rattle.amqp_tools.specs.declared.taking.Delivery.{Delivery as WholeDelivery}
use Rattle.amqp_tools.specs.declared.taking.Coming.TheVariants.{Wanted, Named, Unwanted, Astray}
use Rattle.amqp_tools.specs.Tags.{undelivered, after_deed}
use Rattle.amqp_tools.specs.Names.{PrintedNames, no_names}
use Rattle.amqp_tools.specs.Acknowledged.{NamedDeed, Standing, is_known, kept_with}

-- a number made of octets, of 64 bits, beginning with another
abbrev pub mark_from : ℕ → List ℕ → ℕ
mark_from mark [] = mark
mark_from mark (octet ∷ octets) = mark_from ((mark * 1099511628211 % 2 ^ 64 + octet) % 2 ^ 64) octets

-- the number made of the octets of a body, by which it is told from others
abbrev pub body_mark : List ℕ → ℕ
body_mark octets = mark_from 14695981039346656037 octets

-- what was taken of a queue
pub record Taken : Type 0 where
  -- how many are wanted, where that is said
  pub wanted : Option ℕ
  -- how many are known to be acknowledged
  pub counted : ℕ
  -- how far the deliveries of this link are
  pub tags : Tags
  -- the marks of those that were printed on this link and not acknowledged
  pub printed : List ℕ
  -- those whose acknowledgement was sent on this link, and of how many of them the broker is asked
  pub sent : List ℕ
  pub asked : ℕ
  -- those whose acknowledgement was sent on a lost link, on which the broker did not answer for it
  pub unknown : List ℕ
  -- those that were printed on a lost link and not acknowledged
  pub lost : List ℕ
  -- those that are known to be acknowledged on this link, of the last ones
  pub known : List ℕ
  -- the same of lost links: a broker that was killed may have forgotten it, and deliver them again
  pub past : List ℕ
  -- how many came again
  pub again : ℕ
  -- the names of those that were printed
  pub names : PrintedNames

-- nothing was taken of so many
abbrev pub nothing_taken : Option ℕ → Taken
nothing_taken wanted =
    record {
      wanted = wanted;
      counted = 0;
      tags = undelivered;
      printed = [];
      sent = [];
      asked = 0;
      unknown = [];
      lost = [];
      known = [];
      past = [];
      again = 0;
      names = no_names;
    }

-- how far it is, for who looks on
abbrev pub standing : Taken → Standing
standing t = record { tags = t.tags; names = t.names }

-- how many more may be printed, where a number is wanted
abbrev pub left : Taken → Option ℕ
left t =
    option_map (λ wanted. wanted - (t.counted + length t.sent + length t.printed + length t.unknown)) t.wanted

-- how many are wanted that are neither known to be acknowledged, nor sent to be on this link
abbrev pub still_unsent : Taken → Option ℕ
still_unsent t = option_map (λ wanted. wanted - (t.counted + length t.sent)) t.wanted

-- a count is as many as are wanted
abbrev pub reaches : ℕ → Option ℕ → Bool
reaches counted (Some wanted) = nat_le wanted counted
reaches counted None = false

-- some that were counted on a lost link may come again
abbrev pub may_come_again : Taken → Bool
may_come_again t = nat_lt 0 (length t.past)

-- as many as are wanted are known to be acknowledged, and none of them may come again
abbrev pub is_done : Taken → Bool
is_done t = reaches t.counted t.wanted && not (may_come_again t)

-- a count stays at the greatest number of 64 bits
abbrev pub counted_up : ℕ → ℕ → ℕ
counted_up count more = min (count + more) (2 ^ 64 - 1)

-- where a mark stands first among these
abbrev pub place_of_mark : ℕ → List ℕ → Option ℕ
place_of_mark mark marks = position (λ m. m == mark) marks

-- these without the one at a place
abbrev pub without_place : Option ℕ → List ℕ → List ℕ
without_place (Some place) marks = remove marks place
without_place None marks = marks

-- these without the first such mark
abbrev pub without_mark : ℕ → List ℕ → List ℕ
without_mark mark marks = without_place (place_of_mark mark marks) marks

-- such a mark is among these
abbrev pub has_mark : ℕ → List ℕ → Bool
has_mark mark marks = is_some (place_of_mark mark marks)

-- what is not known counts as acknowledged
abbrev pub settled_unknown : Taken → Taken
settled_unknown t =
    record t { counted = counted_up t.counted (length t.unknown); past = t.past ++ t.unknown; unknown = [] }

-- the same, and none of those that were counted comes again
abbrev pub settled_all : Taken → Taken
settled_all t = record (settled_unknown t) { past = [] }

-- one of those that were counted came again, where its mark is among these: it is not acknowledged, so it does not
-- count. One that is none of them says that none of them comes
abbrev pub found_forgotten : ℕ → Taken → Taken
found_forgotten mark t =
    if has_mark mark t.past
    then record t { past = without_mark mark t.past; counted = t.counted - 1; again = counted_up t.again 1 }
    else record t { past = [] }

-- one of those that were printed came again, where its mark is among those that were lost
abbrev pub found_again : ℕ → Taken → Taken
found_again mark t =
    if has_mark mark t.lost
    then record t { lost = without_mark mark t.lost; again = counted_up t.again 1 }
    else found_forgotten mark t

-- what a delivery tells of others: the broker delivers what comes again first, and in order. So one that is none of
-- those whose acknowledgement is not known says that they are acknowledged, and a new one that none comes again
abbrev pub looked_at : Bool → ℕ → Taken → Taken
looked_at redelivered mark t =
    if redelivered && has_mark mark t.unknown
    then record t { unknown = without_mark mark t.unknown; again = counted_up t.again 1 }
    else if redelivered then found_again mark (settled_unknown t)
    else record (settled_unknown t) { lost = []; past = [] }

-- no more are wanted
abbrev pub is_none_left : Option ℕ → Bool
is_none_left (Some number) = nat_eq number 0
is_none_left None = false

-- what a delivery is, whose tag is above the last
abbrev pub coming_at : Option (List ℕ) → Taken → Coming
coming_at name t =
    if is_none_left (left t) || t.tags.passed then Unwanted
    else if is_known t.names name then Named
    else Wanted

-- what a delivery with this tag, this mark and this name is
abbrev pub coming : ℕ → Bool → ℕ → Option (List ℕ) → Taken → Coming
coming tag redelivered mark name t =
    if nat_lt t.tags.last tag then coming_at name (looked_at redelivered mark t) else Astray

-- after a delivery that is that
abbrev pub come_as : Coming → ℕ → ℕ → Option (List ℕ) → Taken → Taken
come_as Wanted tag mark name t =
    record t {
      printed = t.printed ++ mark ∷ [];
      tags = after_deed t.tags (Printed tag);
      names = kept_with name t.names;
    }
come_as Named tag mark name t =
    record t { printed = t.printed ++ mark ∷ []; tags = after_deed t.tags (Known tag) }
come_as Unwanted tag mark name t = record t { tags = after_deed t.tags (PassedOver tag) }
come_as Astray tag mark name t = t

-- after a delivery
abbrev pub come : ℕ → Bool → ℕ → Option (List ℕ) → Taken → Taken
come tag redelivered mark name t =
    if nat_lt t.tags.last tag
    then come_as (coming tag redelivered mark name t) tag mark name (looked_at redelivered mark t)
    else t

-- the name of a delivery, where it has one
abbrev pub name_in : WholeDelivery → Option (List ℕ)
name_in d = option_map (λ n. n.now) d.name

-- what a delivery is
abbrev pub coming_by : WholeDelivery → Taken → Coming
coming_by d t = coming d.tag d.redelivered (body_mark d.body.now) (name_in d) t

-- what is taken after it
abbrev pub come_by : WholeDelivery → Taken → Taken
come_by d t = come d.tag d.redelivered (body_mark d.body.now) (name_in d) t

-- the deeds that a delivery is
abbrev pub steps_of : Coming → ℕ → Option (List ℕ) → List NamedDeed
steps_of Wanted tag name = (Printed tag, name) ∷ []
steps_of Named tag name = (Known tag, name) ∷ []
steps_of Unwanted tag name = (PassedOver tag, name) ∷ []
steps_of Astray tag name = []

-- the tag up to which all is acknowledged, once the sink took all
abbrev pub tag_to_acknowledge : Taken → Option ℕ
tag_to_acknowledge t = (after_deed t.tags Flushed).flushed

-- after that
abbrev pub acknowledged : Taken → Taken
acknowledged t =
    record t {
      sent = t.sent ++ t.printed;
      printed = [];
      tags = record (after_deed t.tags Flushed) { flushed = None };
    }

-- the deeds that this is
abbrev pub steps_to_acknowledge : Option ℕ → List NamedDeed
steps_to_acknowledge (Some tag) = (Flushed, None) ∷ (Acknowledged tag, None) ∷ []
steps_to_acknowledge None = (Flushed, None) ∷ []

-- the broker is not asked, and something was acknowledged on this link
abbrev pub wants_to_ask : Taken → Bool
wants_to_ask t = nat_eq t.asked 0 && nat_lt 0 (length t.sent)

-- the broker is asked for all that was acknowledged on this link
abbrev pub flow_asked : Taken → Taken
flow_asked t = record t { asked = length t.sent }

-- the last of these marks, 65,536 at least
abbrev pub recent : List ℕ → List ℕ
recent marks = if nat_le 131072 (length marks) then drop 65536 marks else marks

-- it answered
abbrev pub flow_answered : Taken → Taken
flow_answered t =
    record t {
      counted = counted_up t.counted (min t.asked (length t.sent));
      known = recent (t.known ++ take (min t.asked (length t.sent)) t.sent);
      sent = drop (min t.asked (length t.sent)) t.sent;
      asked = 0;
    }

-- the link is lost
abbrev pub lost_link : Taken → Taken
lost_link t =
    record t {
      unknown = t.unknown ++ t.sent;
      lost = t.lost ++ t.printed;
      past = t.past ++ t.known;
      known = [];
      sent = [];
      printed = [];
      asked = 0;
      tags = undelivered;
    }

-- What was acknowledged, over one link after another, and what whoever looks on saw of it.
use Rattle.std.specs.Prelude.{◌≡◌, ◌⊎◌, ◌≤◌, ℕ, Bool, true, false, ◌&&◌, List, [], ◌∷◌, ◌++◌, Option, Some, None, ⊤}
use Rattle.amqp_tools.specs.declared.tags.Deed.{Deed}
use Rattle.amqp_tools.specs.declared.tags.Deed.TheVariants.{Printed, Known, PassedOver, Flushed, Acknowledged, Lost}
use Rattle.amqp_tools.specs.declared.tags.Tags.{Tags}
use Rattle.amqp_tools.specs.Tags.{undelivered, may, after_deed}
use Rattle.amqp_tools.specs.Names.{PrintedNames, no_names, has_name, keep_name}

-- ---- what is done

-- a deed, and the name of the message that is printed or known, where it has one
abbrev pub NamedDeed : Type 0
NamedDeed = Deed × Option (List ℕ)

-- how far the deliveries of a link are, and the names that are kept
pub record Standing : Type 0 where
  pub tags : Tags
  pub names : PrintedNames

-- nothing was done
abbrev pub beginning : Standing
beginning = record { tags = undelivered; names = no_names }

-- a message with this name is known
abbrev pub is_known : PrintedNames → Option (List ℕ) → Bool
is_known names (Some name) = has_name names name
is_known names None = false

-- the names after a message with this one
abbrev pub kept_with : Option (List ℕ) → PrintedNames → PrintedNames
kept_with (Some name) names = keep_name name names
kept_with None names = names

-- what may be done next
abbrev pub may_named : Standing → NamedDeed → Bool
may_named s (Known tag, name) = may s.tags (Known tag) && is_known s.names name
may_named s (deed, name) = may s.tags deed

-- how far it is after that
abbrev pub after_named : Standing → NamedDeed → Standing
after_named s (Printed tag, name) =
    record { tags = after_deed s.tags (Printed tag); names = kept_with name s.names }
after_named s (deed, name) = record s { tags = after_deed s.tags deed }

-- each deed may be done where it is
abbrev pub allowed : Standing → List NamedDeed → Bool
allowed s [] = true
allowed s (deed ∷ deeds) = may_named s deed && allowed (after_named s deed) deeds

-- how far it is after deeds
abbrev pub after_deeds : Standing → List NamedDeed → Standing
after_deeds s [] = s
after_deeds s (deed ∷ deeds) = after_deeds (after_named s deed) deeds

-- these deeds may be done where it is, and lead there
abbrev pub Does : Standing → List NamedDeed → Standing → Type 0
Does before deeds after = (allowed before deeds ≡ true) × (after_deeds before deeds ≡ after)

-- ---- what whoever looks on sees

-- a delivery: its tag, and the name of its message where it has one
abbrev pub Delivery : Type 0
Delivery = ℕ × Option (List ℕ)

-- the deliveries that came on this link; the tags of those that the sink took, and of those that it was given since;
-- and the names of messages that the sink took and was given since, on any link
pub record Seen : Type 0 where
  pub came : List Delivery
  pub taken : List ℕ
  pub given : List ℕ
  pub names_taken : List (List ℕ)
  pub names_given : List (List ℕ)

-- nothing was seen
abbrev pub nothing_seen : Seen
nothing_seen = record { came = []; taken = []; given = []; names_taken = []; names_given = [] }

-- a name, where there is one, before others
abbrev pub name_before : Option (List ℕ) → List (List ℕ) → List (List ℕ)
name_before (Some name) names = name ∷ names
name_before None names = names

-- what is seen after a deed
abbrev pub see : NamedDeed → Seen → Seen
see (Printed tag, name) seen =
    record seen {
      came = (tag, name) ∷ seen.came;
      given = tag ∷ seen.given;
      names_given = name_before name seen.names_given;
    }
see (Known tag, name) seen = record seen { came = (tag, name) ∷ seen.came }
see (PassedOver tag, name) seen = record seen { came = (tag, name) ∷ seen.came }
see (Flushed, name) seen =
    record seen {
      taken = seen.given ++ seen.taken;
      given = [];
      names_taken = seen.names_given ++ seen.names_taken;
      names_given = [];
    }
see (Acknowledged tag, name) seen = seen
see (Lost, name) seen = record seen { came = []; taken = []; given = [] }

-- something is among those
abbrev pub Among : {A : Type 0} → A → List A → Type 0
Among x [] = ⊥
Among x (y ∷ ys) = (x ≡ y) ⊎ Among x ys

-- a name is among those
abbrev pub HasItsName : Option (List ℕ) → List (List ℕ) → Type 0
HasItsName (Some name) names = Among name names
HasItsName None names = ⊥

-- the sink took a delivery, or a message of its name
abbrev pub WasPrinted : Seen → Delivery → Type 0
WasPrinted seen d = Among d.0 seen.taken ⊎ HasItsName d.1 seen.names_taken

-- whatever is acknowledged, the sink took each delivery that this means, or one of its name
abbrev pub AckedIsPrinted : Seen → List NamedDeed → Type 0
AckedIsPrinted seen [] = ⊤
AckedIsPrinted seen ((Acknowledged tag, name) ∷ deeds) =
    ((d : Delivery) → Among d seen.came → d.0 ≤ tag → WasPrinted seen d) × AckedIsPrinted seen deeds
AckedIsPrinted seen (deed ∷ deeds) = AckedIsPrinted (see deed seen) deeds

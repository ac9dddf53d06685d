-- A step whose turn was cut exactly where it was refused.
use Rattle.std.proofs.Common.{Bool, true, false, Result, Ok, Err, is_err, OnOk, OnErr, ◌⊎◌, inl}

-- what holds of an answer by whether it is an error, holds of each that is none
pub of_ok : {A E : Type 0} (P : Bool → Type 0) (r : Result A E) → P (is_err r) → OnOk r (P false)
of_ok P (Ok x) h = h
of_ok P (Err x) h = tt

-- and of each that is one
pub of_err : {A E : Type 0} (P : Bool → Type 0) (Q : Type 0) (r : Result A E) → P (is_err r) → OnErr r (P true ⊎ Q)
of_err P Q (Ok x) h = tt
of_err P Q (Err x) h = inl h

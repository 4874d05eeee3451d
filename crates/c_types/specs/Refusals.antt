-- A refusal of the requirements, its number and its values, as the struct that C sees. Definitions only.
use Rattle.std.specs.Prelude.{ℕ, cond, List, [], ◌∷◌, eqb, ltb, ℤ, pos, nat_abs}
use Rattle.rules.specs.RefusalNumbers.{Refusal}
use Rattle.c_types.specs.declared.refusals.CRefusal.{CRefusal}

-- a number without values; 0 where the call was answered
abbrev pub plain : ℕ → CRefusal
plain number = record { number = number; values = 0; axes = 0; axis = 0; index = pos 0; extent = 0; place = 0; count = 0; needed = 0 }

abbrev pub on_grid : ℕ → ℕ → ℕ → ℤ → ℕ → ℕ → CRefusal
on_grid number values axis index extent axes =
    record { number = number; values = values; axes = axes; axis = axis; index = index; extent = extent; place = 0; count = 0; needed = 0 }

abbrev pub in_list : ℕ → ℕ → CRefusal
in_list place count = record { number = 7; values = 2; axes = 0; axis = 0; index = pos 0; extent = 0; place = place; count = count; needed = 0 }

abbrev pub at_place : ℕ → ℕ → CRefusal
at_place number place = record { number = number; values = 1; axes = 0; axis = 0; index = pos 0; extent = 0; place = place; count = 0; needed = 0 }

abbrev pub in_room : ℕ → CRefusal
in_room needed = record { number = 11; values = 1; axes = 0; axis = 0; index = pos 0; extent = 0; place = 0; count = 0; needed = needed }

-- 1 to 6, 8 and 9: "first axis, extent", "first axis, index, extent" and the set of the axes, "axis", or nothing
abbrev pub grid_values : ℕ → List ℤ → CRefusal
grid_values number [] = plain number
grid_values number (axis ∷ []) = on_grid number 1 (nat_abs axis) (pos 0) 0 0
grid_values number (axis ∷ extent ∷ []) = on_grid number 2 (nat_abs axis) (pos 0) (nat_abs extent) 0
grid_values number (axis ∷ index ∷ extent ∷ []) = on_grid number 3 (nat_abs axis) index (nat_abs extent) 0
grid_values number (axis ∷ index ∷ extent ∷ axes ∷ more) = on_grid number 4 (nat_abs axis) index (nat_abs extent) (nat_abs axes)

-- 7: "in a list: beam's place, from 0, and count so far"
abbrev pub list_values : List ℤ → CRefusal
list_values [] = plain 7
list_values (place ∷ []) = plain 7
list_values (place ∷ count ∷ more) = in_list (nat_abs place) (nat_abs count)

-- 11: "bytes needed", of a chart its numbers
abbrev pub room_values : List ℤ → CRefusal
room_values [] = plain 11
room_values (needed ∷ more) = in_room (nat_abs needed)

-- 10 and 12: "offset of the field", "with its offset"; 17: "with the column"; the others above 9 have no values
abbrev pub place_values : ℕ → List ℤ → CRefusal
place_values number [] = plain number
place_values number (place ∷ more) = at_place number (nat_abs place)

abbrev pub c_refusal : Refusal → CRefusal
c_refusal r =
    cond (eqb r.number 7) (list_values r.values)
    (cond (eqb r.number 11) (room_values r.values)
    (cond (ltb 9 r.number) (place_values r.number r.values) (grid_values r.number r.values)))

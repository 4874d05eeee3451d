-- Request 8, "The layer chart": "From a three-axis map it gives, per column, cover of the low, middle and high band in
-- eighths and the total." The column of (x, y) has the number x + y * extent x; a chart is a flat list of five numbers
-- a column: low, middle, high, the total by maximum overlap and, over 512, the total by random overlap. Over any number
-- of axes: the last is the height. Definitions only.
use Rattle.std.specs.Prelude.{ℕ, zero, suc, ◌+◌, ◌-◌, ◌*◌, Bool, true, false, cond, ◌&&◌, ◌||◌, List, [], ◌∷◌, ◌++◌, negsuc, ltb, leb, length, get_or, drop, Float}
use Rattle.std.proofs.Math.Option.{Option, some, none}
use Rattle.std.specs.Float.{nan, fin}
use Rattle.std.specs.Float.Ieee.{le, is_nan}
use Rattle.rules.specs.Floats.{zero_f}
use Rattle.rules.specs.RefusalNumbers.{Refusal, given, refused, bad_cuts, no_room, nan_column}
use Rattle.rules.specs.RefusalNumbers.Entries.{Outcome, Uses, unless_refused, answered, or_else, unless_holds, head_refusal}
use Rattle.rules.specs.TheGridAndItsBounds.{Model, Head, last_extent, layer_of}

-- "A cell's eighths are the number of these limits that its odds are at or above: -1.9459101490553132,
-- -1.0986122886681098, -0.5108256237659907, 0, 0.5108256237659907, 1.0986122886681098, 1.9459101490553132": each is the
-- binary64 nearest to its decimals, so many times 2^-52
abbrev pub limits : List Float
limits =
    fin true 8763600222181975 (negsuc 51) ∷ fin true 4947709893870347 (negsuc 51) ∷ fin true 2300554088843817 (negsuc 51) ∷ zero_f
    ∷ fin false 2300554088843817 (negsuc 51) ∷ fin false 4947709893870347 (negsuc 51) ∷ fin false 8763600222181975 (negsuc 51) ∷ []

abbrev pub reaches : Float → Float → ℕ
reaches odds limit = cond (le limit odds) 1 0

unfoldable pub reached : Float → List Float → ℕ
reached odds [] = 0
reached odds (l ∷ ls) = reaches odds l + reached odds ls

-- "with 8 when the odds are at or above the ceiling (the other grades run 0 to 7)"
unfoldable pub eighths : Float → Float → ℕ
eighths ceiling odds = cond (le ceiling odds) 8 (reached odds limits)

abbrev pub larger : ℕ → ℕ → ℕ
larger a b = cond (ltb a b) b a

-- "A band takes its largest cell."
unfoldable pub band_cover : Float → List Float → ℕ
band_cover ceiling [] = 0
band_cover ceiling (x ∷ xs) = larger (eighths ceiling x) (band_cover ceiling xs)

-- "Total by maximum overlap: the largest band."
abbrev pub maximum_overlap : ℕ → ℕ → ℕ → ℕ
maximum_overlap a b c = larger (larger a b) c

-- "total by random overlap as the exact fraction 512 - (8-a)(8-b)(8-c) over 512"
abbrev pub random_overlap : ℕ → ℕ → ℕ → ℕ
random_overlap a b c = 512 - (8 - a) * (8 - b) * (8 - c)

-- the odds of so many cells of a column, upwards from this place: a cell and the next lie as far apart as there are
-- columns
unfoldable pub stacked : ℕ → List Float → ℕ → ℕ → List Float
stacked apart odds zero place = []
stacked apart odds (suc n) place = get_or odds place nan ∷ stacked apart odds n (place + apart)

-- those of a column whose last index is at least `from` and below `to`
unfoldable pub cells_between : ℕ → List Float → ℕ → ℕ → ℕ → List Float
cells_between apart odds column from to = stacked apart odds (to - from) (column + from * apart)

-- request 6: "two cut heights along the last axis", "Cuts satisfy 0 < first < second < extent"
pub record Cuts : Type 0 where
  pub first : ℕ
  pub second : ℕ

-- a model's two cuts, which a map of three axes has
abbrev pub cuts_in : Model → Cuts
cuts_in m =
    let cut : ℕ → ℕ = λ i. (get_or m.above i (record { cut = 0; pair = m.lowest })).cut in
    record { first = cut 0; second = cut 1 }

unfoldable pub good_cuts : Cuts → ℕ → Bool
good_cuts cuts layers = ltb 0 cuts.first && ltb cuts.first cuts.second && ltb cuts.second layers

-- "A cell whose last index is below the first cut is in the low band, below the second in the middle, else in the high"
abbrev pub five_of : ℕ → ℕ → ℕ → List ℕ
five_of low middle high = low ∷ middle ∷ high ∷ maximum_overlap low middle high ∷ random_overlap low middle high ∷ []

-- of a map with so many columns and layers
unfoldable pub column_chart : ℕ → ℕ → Float → Cuts → List Float → ℕ → List ℕ
column_chart columns layers ceiling cuts odds column =
    let cover : ℕ → ℕ → ℕ = λ from to. band_cover ceiling (cells_between columns odds column from to) in
    five_of (cover 0 cuts.first) (cover cuts.first cuts.second) (cover cuts.second layers)

-- its first n columns, in order
unfoldable pub chart_of : ℕ → ℕ → Float → Cuts → List Float → ℕ → List ℕ
chart_of columns layers ceiling cuts odds zero = []
chart_of columns layers ceiling cuts odds (suc n) = chart_of columns layers ceiling cuts odds n ++ column_chart columns layers ceiling cuts odds n

-- "then 17 for the first column holding NaN, with the column": of n columns from one on
unfoldable pub any_nan : List Float → Bool
any_nan [] = false
any_nan (x ∷ xs) = is_nan x || any_nan xs

unfoldable pub first_nan : ℕ → ℕ → List Float → ℕ → ℕ → Option Refusal
first_nan columns layers odds zero column = none
first_nan columns layers odds (suc n) column =
    cond (any_nan (cells_between columns odds column 0 layers)) (some (nan_column column)) (first_nan columns layers odds n (suc column))

-- "then 11 for a chart list too short, with the entries needed; then 17 .. None writes any chart."
unfoldable pub chart_refusal : ℕ → ℕ → List Float → ℕ → Option Refusal
chart_refusal columns layers odds room =
    or_else (unless_holds true (leb (5 * columns) room) (no_room (5 * columns))) (first_nan columns layers odds columns 0)

-- a map whose head has passed: its chart from the first number of the list on; what follows it in the list stays
unfoldable pub charted : ℕ → ℕ → Float → Cuts → List Float → List ℕ → Outcome (Unit {0}) (List ℕ)
charted columns layers ceiling cuts odds chart =
    unless_refused (chart_refusal columns layers odds (length chart)) chart
    (record { answer = given tt; lent = chart_of columns layers ceiling cuts odds columns ++ drop (5 * columns) chart })

-- "checks 1, 2, 3, 4 as far as it uses them": the chart uses the ceiling and the cuts, which are the model's, and the
-- odds
abbrev pub chart_uses : Uses
chart_uses = record { model = true; odds = true; stamps = false; frame = false }

unfoldable pub layer_chart_entry : Head → List Float → List ℕ → Outcome (Unit {0}) (List ℕ)
layer_chart_entry h odds chart =
    unless_refused (head_refusal chart_uses h (length odds) 0) chart
    (charted (layer_of h.extents) (last_extent h.extents) h.model.ceiling (cuts_in h.model) odds chart)

-- "15 for a two-axis map, which has no cuts": it is found where they would be used, before the odds
abbrev pub no_chart_uses : Uses
no_chart_uses = record { model = true; odds = false; stamps = false; frame = false }

unfoldable pub no_cuts_entry : Head → List ℕ → Outcome (Unit {0}) (List ℕ)
no_cuts_entry h chart = record { answer = answered (head_refusal no_chart_uses h 0 0) (refused bad_cuts); lent = chart }

-- Three pairs, the ceiling of the first, and two numbers of two bytes.
use Prim.Native.Nat.{ℕ, ◌+◌}
use mathlib.Core.List.{List, [], ◌∷◌}
use mathlib.Core.Path.{◌≡◌, refl, sym, ap, ap₂, ◌∙◌}
use native.Mathlib.Omega.{arith}
use lib.ListN.{drop}
use lib.Seq.{drop-drop}
use Rattle.rules.specs.TheGridAndItsBounds.{Model}
use Rattle.rules.specs.Fields.{from_little_endian, short_size, head_size, field_size, contents}
use Rattle.rules.specs.MapRecord.{model_length, model_field, extents_in}
use Rattle.rules.specs.EditionTwo.{bands_size, cuts_for, bands_over, laid}
use Rattle.types.specs.Models.{model_of, bands_of}
use Rattle.types.specs.Points.{extents3}
use Rattle.types.specs.declared.model.Model as Plain
use Rattle.types.specs.declared.model.Pair as Pair
use Rattle.types.specs.declared.points.Extents3.{Extents3}
use Rattle.rows.specs.Rows.{rows_have}
use Rattle.edition_reader.specs.Editions.{bands_here}
use Rattle.edition_reader.proofs.loads.Extents3Loads.bands_at.Goals as goal

-- the pairs as they were read, laid on the extents with the cuts
laid_from : (e : Extents3) (low middle high : Plain.Model) (a b c : Pair.Pair) (first second : ℕ) (m m₁ m₂ : Model)
    → model_of low ≡ m → model_of middle ≡ m₁ → model_of high ≡ m₂
    → a ≡ record { occupied = low.occupied; free = low.free } → b ≡ record { occupied = middle.occupied; free = middle.free } → c ≡ record { occupied = high.occupied; free = high.free }
    → bands_of e (record { low = a; middle = b; high = c; ceiling = low.ceiling; cuts = record { first = first; second = second } })
    ≡ laid (extents3 e) m (m₁ ∷ m₂ ∷ []) (first ∷ second ∷ [])
unfolding bands_over
laid_from e low middle high a b c first second m m₁ m₂ i j k x y z = rw (sym i, sym j, sym k, x, y, z) refl

-- where the third pair and the cuts stand
module _ (at : ℕ) (bs : List ℕ) where
  abbrev size : ℕ
  size = field_size model_length

  third-is : drop (at + size + size) bs ≡ drop size (drop size (drop at bs))
  third-is = sym (ap (drop size) (drop-drop size at bs) ∙ drop-drop size (at + size) bs)

  first-is : drop (at + size + size + size + head_size) bs ≡ drop head_size (drop 81 (drop at bs))
  first-is =
      let k : at + 81 ≡ at + size + size + size = omega arith in
      sym (ap (drop head_size) (drop-drop 81 at bs ∙ ap (λ (j : ℕ). drop j bs) k) ∙ drop-drop head_size (at + size + size + size) bs)

  second_is : drop (at + size + size + size + head_size + short_size) bs ≡ drop short_size (drop head_size (drop 81 (drop at bs)))
  second_is = sym (drop-drop short_size (at + size + size + size + head_size) bs) ∙ ap (drop short_size) first-is

pub returns : goal.returns
unfolding bands_here cuts_for rows_have extents_in
returns c = let a = c.args in
    let bs = a.bytes.now in
    let low = c.model_field_at-low in
    let middle = c.model_field_at in
    let high = c.model_field_at-2 in
    let m = contents model_field (drop a.at bs) in
    let m₁ = contents model_field (drop (field_size model_length) (drop a.at bs)) in
    let m₂ = contents model_field (drop (field_size model_length) (drop (field_size model_length) (drop a.at bs))) in
    λ e. laid_from e low.result middle.result high.result _ _ _ _ _ m m₁ m₂ low.ensures
    (middle.ensures ∙ ap (contents model_field) (sym (drop-drop (field_size model_length) a.at bs)))
    (high.ensures ∙ ap (contents model_field) (third-is a.at bs))
    c.pair_of.ensures c.pair_of-2.ensures c.pair_of-3.ensures
    ∙ ap₂ (λ (x y : ℕ). laid (extents3 e) m (m₁ ∷ m₂ ∷ []) (x ∷ y ∷ []))
    (c.u16_at.ensures ∙ ap (from_little_endian short_size) (first-is a.at bs))
    (c.u16_at-2.ensures ∙ ap (from_little_endian short_size) (second_is a.at bs))

pub model_field_at-low-requires : goal.model_field_at-low-requires
unfolding bands_size cuts_for
model_field_at-low-requires c = let room = c.requires.whole in record { whole = omega arith }

pub model_field_at-requires : goal.model_field_at-requires
unfolding bands_size cuts_for
model_field_at-requires c = let room = c.requires.whole in record { whole = omega arith }

pub model_field_at-requires-2 : goal.model_field_at-requires-2
unfolding bands_size cuts_for
model_field_at-requires-2 c = let room = c.requires.whole in record { whole = omega arith }

pub u16_at-requires : goal.u16_at-requires
unfolding bands_size cuts_for
u16_at-requires c = let room = c.requires.whole in omega arith

pub u16_at-requires-2 : goal.u16_at-requires-2
unfolding bands_size cuts_for
u16_at-requires-2 c = let room = c.requires.whole in omega arith

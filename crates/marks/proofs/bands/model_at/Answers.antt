-- By the place, band after band; the products are those of extents and cuts that have passed.
use Prim.Native.Nat.{◌*◌}
use mathlib.Core.Path.{ap, ◌∙◌}
use mir.Facts.{Fits-le, Fits-lit}
use Rattle.rules.specs.TheGridAndItsBounds.{Model}
use Rattle.rules.specs.MarksAndFrames.{steps_at}
use Rattle.marks.proofs.Banding.{layer_most, cuts-most, steps_low, steps_middle, steps_high}
use Rattle.marks.proofs.bands.model_at.Goals as goal

pub overflow_mul-layer : goal.overflow_mul-layer
overflow_mul-layer c = Fits-le (layer_most _ _ _ c.requires.in_bounds) (Fits-lit {n = 4096 * 4096} tt)

pub overflow_mul-cuts : goal.overflow_mul-cuts
overflow_mul-cuts c = Fits-le (cuts-most _ _ _ c.requires.in_bounds _ _ _ _ _ _ c.requires.cuts).0 (Fits-lit {n = 4096 * (4096 * 4096)} tt)

pub returns-then-place-cuts : goal.returns-then-place-cuts
returns-then-place-cuts c = ap (λ (m : Model). steps_at m c.args.place) c.with.ensures ∙ steps_low _ _ _ c.requires.in_bounds _ _ _ _ _ _ c.args.place c.if-place-cuts.true

pub overflow_mul-cuts-2 : goal.overflow_mul-cuts-2
overflow_mul-cuts-2 c = Fits-le (cuts-most _ _ _ c.requires.in_bounds _ _ _ _ _ _ c.requires.cuts).1 (Fits-lit {n = 4096 * (4096 * 4096)} tt)

pub returns-then-place-cuts-2 : goal.returns-then-place-cuts-2
returns-then-place-cuts-2 c = ap (λ (m : Model). steps_at m c.args.place) c.with-then-place-cuts-2.ensures
    ∙ steps_middle _ _ _ c.requires.in_bounds _ _ _ _ _ _ c.args.place c.if-place-cuts.false c.if-place-cuts-2.true

pub returns : goal.returns
returns c = ap (λ (m : Model). steps_at m c.args.place) c.with-2.ensures
    ∙ steps_high _ _ _ c.requires.in_bounds _ _ _ _ _ _ c.args.place c.if-place-cuts.false c.if-place-cuts-2.false

-- Two lent lists side by side, as the rules' grid or slots. Assumes nothing.
use Rattle.std.specs.Prelude.{ℕ, refl, List, Float}
use Rattle.rules.specs.TheGridAndItsBounds.{Grid}
use Rattle.rules.specs.ManySamples.{Slots}
use Rattle.marks.specs.Marking.{grid_of}
use Rattle.sample_list.specs.Slots.{slots_of}
use Rattle.types.proofs.Injective.{Injective, of_back}

pub grid : Injective {A = List Float × List ℕ} {B = Grid} (λ l. grid_of l.0 l.1)
grid = of_back (λ (l : List Float × List ℕ). grid_of l.0 l.1) (λ (g : Grid). (g.odds, g.stamps)) (λ l. refl)

pub slots : Injective {A = List Float × List ℕ} {B = Slots} (λ l. slots_of l.0 l.1)
slots = of_back (λ (l : List Float × List ℕ). slots_of l.0 l.1) (λ (s : Slots). (s.samples, s.found)) (λ l. refl)

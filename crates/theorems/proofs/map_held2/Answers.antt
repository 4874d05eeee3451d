-- Number by number, as each call says; a map without cuts has the layer that stands for none.
use mathlib.Core.Path.{refl}
use borrow.Author.Rules.{rules}
use Rattle.theorems.proofs.map_held2.Goals as goal

pub numbers_held-requires : goal.numbers_held-requires
numbers_held-requires c = search rules

pub number_held-requires : goal.number_held-requires
number_held-requires c = search rules

pub number_held-requires-2 : goal.number_held-requires-2
number_held-requires-2 c = search rules

pub number_held-requires-3 : goal.number_held-requires-3
number_held-requires-3 c = search rules

pub returns : goal.returns
returns c = record {
  occupied = c.number_held.ensures;
  free = c.number_held-2.ensures;
  ceiling = c.number_held-3.ensures;
  above = tt;
  layer = refl;
  each_odds = c.numbers_held.ensures;
}

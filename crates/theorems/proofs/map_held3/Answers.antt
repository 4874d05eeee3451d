-- Pair by pair, as each call says; the layer of the bands is that of the extents.
use mathlib.Core.Path.{refl}
use borrow.Author.Rules.{rules}
use Rattle.theorems.proofs.map_held3.Goals as goal

pub numbers_held-requires : goal.numbers_held-requires
numbers_held-requires c = search rules

pub pair_held-requires : goal.pair_held-requires
pair_held-requires c = search rules

pub pair_held-requires-2 : goal.pair_held-requires-2
pair_held-requires-2 c = search rules

pub pair_held-requires-3 : goal.pair_held-requires-3
pair_held-requires-3 c = search rules

pub number_held-requires : goal.number_held-requires
number_held-requires c = search rules

pub returns : goal.returns
returns c = record {
  occupied = c.pair_held.ensures.0;
  free = c.pair_held.ensures.1;
  ceiling = c.number_held.ensures;
  above = (c.pair_held-2.ensures.0, c.pair_held-2.ensures.1, (c.pair_held-3.ensures.0, c.pair_held-3.ensures.1, tt));
  layer = refl;
  each_odds = c.numbers_held.ensures;
}

-- What is known of each number of a lent list.
use borrow.Author.Rules.{rules}
use lib.Ieee.Bits.{is_true}
use Rattle.theorems.proofs.numbers_held.Goals as goal

pub number_held-requires : goal.number_held-requires
number_held-requires c = search rules

pub returns : goal.returns
returns c i below = is_true _ (c.shared_slice_known-1.given i)

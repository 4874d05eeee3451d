-- What is known of each byte of a lent list.
use native.Mathlib.Omega.{arith}
use borrow.Author.Rules.{rules}
use Rattle.theorems.proofs.bytes_held.Goals as goal

pub number_held-requires : goal.number_held-requires
number_held-requires c = search rules

pub returns : goal.returns
returns c i below = let fits = c.shared_slice_known-1.given i in omega arith

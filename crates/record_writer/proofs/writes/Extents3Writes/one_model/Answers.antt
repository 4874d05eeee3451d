-- The lowest band's, where the two above it have its pair.
use Rattle.std.proofs.Common.{rules, sym, ◌∙◌, Bool, true, false, ◌&&◌, ◌≡◌, refl}
use Rattle.rules.specs.MapRecord.{equal_pairs}
use Rattle.record_writer.specs.Writing.{one_model}
use Rattle.record_writer.proofs.writes.Extents3Writes.one_model.Goals as goal

-- nothing comes after the second of them
last : (x : Bool) → (x && true) ≡ x
last true = refl
last false = refl

pub returns-then-equal_pairs : goal.returns-then-equal_pairs
unfolding one_model equal_pairs
returns-then-equal_pairs c = rw (last, sym c.equal_pairs.ensures ∙ c.if-equal_pairs.true) (search rules)

pub returns : goal.returns
unfolding one_model equal_pairs
returns c = rw (last, sym c.equal_pairs.ensures ∙ c.if-equal_pairs.false) (search rules)

-- Each entry's answer as the struct that C sees; and what a contract of the C face says of an entry that writes.
-- Definitions only.
use Rattle.std.specs.Prelude.{ℕ, ◌≡◌, Bool, true, false, List, [], ℤ, Float}
use Rattle.std.proofs.Math.Option.{Option, some, none}
use Rattle.rules.specs.Floats.{zero_f}
use Rattle.rules.specs.RefusalNumbers.{Answer, given, refused}
use Rattle.rules.specs.RefusalNumbers.Entries.{Outcome}
use Rattle.rules.specs.RefusalNumbers.Editions.{Loaded, Moved}
use Rattle.rules.specs.TheGridAndItsBounds.{Head}
use Rattle.rules.specs.Coordinates.{Sample}
use Rattle.rules.specs.SweepFile.{Swept}
use Rattle.c_types.specs.declared.refusals.CRefusal.{CRefusal}
use Rattle.c_types.specs.declared.answers.CMarkAnswer.{CMarkAnswer}
use Rattle.c_types.specs.declared.answers.CCountAnswer.{CCountAnswer}
use Rattle.c_types.specs.declared.answers.CSweepAnswer.{CSweepAnswer}
use Rattle.c_types.specs.declared.answers.CMoveAnswer.{CMoveAnswer}
use Rattle.c_types.specs.declared.answers.COddsAnswer.{COddsAnswer}
use Rattle.c_types.specs.declared.answers2.CMapAnswer2.{CMapAnswer2}
use Rattle.c_types.specs.declared.answers2.CLoadAnswer2.{CLoadAnswer2}
use Rattle.c_types.specs.declared.answers2.CCellAnswer2.{CCellAnswer2}
use Rattle.c_types.specs.declared.answers2.CSampleAnswer2.{CSampleAnswer2}
use Rattle.c_types.specs.declared.answers3.CMapAnswer3.{CMapAnswer3}
use Rattle.c_types.specs.declared.answers3.CLoadAnswer3.{CLoadAnswer3}
use Rattle.c_types.specs.declared.answers3.CCellAnswer3.{CCellAnswer3}
use Rattle.c_types.specs.declared.answers3.CSampleAnswer3.{CSampleAnswer3}
use Rattle.c_types.specs.Refusals.{plain, c_refusal}
use Rattle.c_types.specs.Structs.{cell_of2, cell_of3, map_of2, map_of3, cuts_from, sample_of2, sample_of3, no_map, no_sample}

abbrev pub c_mark : Answer Bool → CMarkAnswer
c_mark (given b) = record { refusal = plain 0; changed = b }
c_mark (refused r) = record { refusal = c_refusal r; changed = false }

abbrev pub c_count : Answer ℕ → CCountAnswer
c_count (given n) = record { refusal = plain 0; count = n }
c_count (refused r) = record { refusal = c_refusal r; count = 0 }

abbrev pub c_sweep : Answer Swept → CSweepAnswer
c_sweep (given s) = record { refusal = plain 0; station = s.station; count = s.count }
c_sweep (refused r) = record { refusal = c_refusal r; station = 0; count = 0 }

abbrev pub c_move : Answer Moved → CMoveAnswer
c_move (given m) = record { refusal = plain 0; count = m.size; cuts = cuts_from m.cuts }
c_move (refused r) = record { refusal = c_refusal r; count = 0; cuts = cuts_from [] }

abbrev pub c_set : Answer (Unit {0}) → CRefusal
c_set (given _) = plain 0
c_set (refused r) = c_refusal r

abbrev pub c_read : Option Float → COddsAnswer
c_read (some o) = record { refusal = plain 0; found = true; odds = o }
c_read none = record { refusal = plain 0; found = false; odds = zero_f }

abbrev pub c_odds : Answer (Option Float) → COddsAnswer
c_odds (given o) = c_read o
c_odds (refused r) = record { refusal = c_refusal r; found = false; odds = zero_f }

abbrev pub c_map2 : Answer Head → CMapAnswer2
c_map2 (given h) = record { refusal = plain 0; map = map_of2 h }
c_map2 (refused r) = record { refusal = c_refusal r; map = map_of2 no_map }

abbrev pub c_map3 : Answer Head → CMapAnswer3
c_map3 (given h) = record { refusal = plain 0; map = map_of3 h }
c_map3 (refused r) = record { refusal = c_refusal r; map = map_of3 no_map }

abbrev pub c_load2 : Answer Loaded → CLoadAnswer2
c_load2 (given l) = record { refusal = plain 0; map = map_of2 l.head; running = l.running }
c_load2 (refused r) = record { refusal = c_refusal r; map = map_of2 no_map; running = false }

abbrev pub c_load3 : Answer Loaded → CLoadAnswer3
c_load3 (given l) = record { refusal = plain 0; map = map_of3 l.head; running = l.running }
c_load3 (refused r) = record { refusal = c_refusal r; map = map_of3 no_map; running = false }

abbrev pub c_cell2 : Answer (List ℤ) → CCellAnswer2
c_cell2 (given c) = record { refusal = plain 0; cell = cell_of2 c }
c_cell2 (refused r) = record { refusal = c_refusal r; cell = cell_of2 [] }

abbrev pub c_cell3 : Answer (List ℤ) → CCellAnswer3
c_cell3 (given c) = record { refusal = plain 0; cell = cell_of3 c }
c_cell3 (refused r) = record { refusal = c_refusal r; cell = cell_of3 [] }

abbrev pub c_sample_read2 : Option Sample → CSampleAnswer2
c_sample_read2 (some s) = record { refusal = plain 0; found = true; sample = sample_of2 s }
c_sample_read2 none = record { refusal = plain 0; found = false; sample = sample_of2 no_sample }

abbrev pub c_sample_read3 : Option Sample → CSampleAnswer3
c_sample_read3 (some s) = record { refusal = plain 0; found = true; sample = sample_of3 s }
c_sample_read3 none = record { refusal = plain 0; found = false; sample = sample_of3 no_sample }

abbrev pub c_sample2 : Answer (Option Sample) → CSampleAnswer2
c_sample2 (given s) = c_sample_read2 s
c_sample2 (refused r) = record { refusal = c_refusal r; found = false; sample = sample_of2 no_sample }

abbrev pub c_sample3 : Answer (Option Sample) → CSampleAnswer3
c_sample3 (given s) = c_sample_read3 s
c_sample3 (refused r) = record { refusal = c_refusal r; found = false; sample = sample_of3 no_sample }

-- What an entry that writes has told C: the rule's answer as its struct, and the lent lists as the rule leaves them.
pub record Told {A L C : Type 0} (asStruct : Answer A → C) (rule : Outcome A L) (struct : C) (lists : L) : Type 0 where
  pub answer : struct ≡ asStruct rule.answer
  pub lent : lists ≡ rule.lent

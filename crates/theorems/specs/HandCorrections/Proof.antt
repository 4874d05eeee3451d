-- The laws of hand corrections, together. Assumes nothing.
use Rattle.std.specs.Float.{Format}
use Rattle.rules.specs.RefusalNumbers.Entries.{set_log_odds_entry}
use Rattle.theorems.specs.HandCorrections.{HandCorrections}
use Rattle.theorems.specs.HandCorrections.Sets.{set-length, second_set, set_answer_lem, sets_exchanged}
use Rattle.theorems.specs.HandCorrections.CheckedSets.{second_checked, checked_exchanged, checked-answers-alone}
use Rattle.theorems.specs.HandCorrections.EmptyFile.{no_file}
use Rattle.theorems.specs.HandCorrections.Resets.{reset_answers, reset_alone}
use Rattle.theorems.specs.HandCorrections.Sweeps.{lists}
use Rattle.theorems.specs.HandCorrections.FlatLists.{no_structs, no_numbers, flat_lists}

pub hand_corrections : (f : Format) → HandCorrections f
hand_corrections f =
    record {
      second_set = second_set;
      sets_exchanged = sets_exchanged;
      set-answers-alone = λ h c d x y odds. set_answer_lem h d y (set_log_odds_entry h c x odds).lent odds (set-length h c x odds);
      second_checked = second_checked;
      checked_exchanged = checked_exchanged;
      checked-answers-alone = checked-answers-alone;
      reset_answers = reset_answers f;
      reset_alone = reset_alone f;
      no_structs = no_structs f;
      no_numbers = no_numbers f;
      no_file = no_file f;
      lists = lists f;
      flat_lists = flat_lists f;
    }

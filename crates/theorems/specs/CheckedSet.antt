-- Change request 3: the checked setter "refuses NaN and otherwise does the same" as `set_log_odds`. Of any number of
-- axes. Assumes nothing.
use Rattle.std.specs.Prelude.{ℕ, ◌≡◌, refl, true, false, List, ℤ, length, Float}
use Rattle.std.proofs.Math.Option.{Option, some, none}
use Rattle.std.specs.Float.Ieee.{is_nan}
use Rattle.rules.specs.RefusalNumbers.{Refusal, Answer, given, refused, odds_not_a_number}
use Rattle.rules.specs.RefusalNumbers.Entries.{unless_refused, head_refusal, uses_of, set_log_odds, set_answer, set_log_odds_entry, checked_answer, set_log_odds_checked_entry}
use Rattle.rules.specs.TheGridAndItsBounds.{Head}
use Rattle.rules.specs.Coordinates.{flat_index}

-- A number: the same answer, and the same odds.
number_answer : (h : Head) (x : Float) (odds : List Float) (a : Answer ℕ) → is_nan x ≡ false → checked_answer h.model x odds a ≡ set_answer h x odds a
number_answer h x odds (refused r) e = refl
number_answer h x odds (given i) e = rw e refl

pub number_set : (h : Head) (cell : List ℤ) (x : Float) (odds : List Float) → is_nan x ≡ false → set_log_odds_checked_entry h cell x odds ≡ set_log_odds_entry h cell x odds
unfolding set_log_odds_checked_entry set_log_odds_entry
number_set h cell x odds e = rw (number_answer h x odds (flat_index h.extents cell) e) refl

-- NaN: no odds change, and the answer is what `set_log_odds` refuses, or 13 where it refuses nothing.
abbrev pub not_a_number : Answer (Unit {0}) → Answer (Unit {0})
not_a_number (refused r) = refused r
not_a_number (given t) = refused odds_not_a_number

nan_answer : (h : Head) (x : Float) (odds : List Float) (r : Option Refusal) (a : Answer ℕ) → is_nan x ≡ true
    → unless_refused {A = Unit {0}} r odds (checked_answer h.model x odds a)
    ≡ record { answer = not_a_number (unless_refused {A = Unit {0}} r odds (set_answer h x odds a)).answer; lent = odds }
nan_answer h x odds (some r) a e = refl
nan_answer h x odds none (refused r) e = refl
nan_answer h x odds none (given i) e = rw e refl

pub nan_refused : (h : Head) (cell : List ℤ) (x : Float) (odds : List Float) → is_nan x ≡ true
    → set_log_odds_checked_entry h cell x odds ≡ record { answer = not_a_number (set_log_odds_entry h cell x odds).answer; lent = odds }
unfolding set_log_odds_checked_entry set_log_odds_entry
nan_refused h cell x odds e = nan_answer h x odds (head_refusal (uses_of set_log_odds) h (length odds) 0) (flat_index h.extents cell) e

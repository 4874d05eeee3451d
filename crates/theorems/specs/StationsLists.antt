-- The order of the stations' lists: the words that it is said in, the steps of single calls, and examples. The theorems
-- stand in proofs/StationsLists.antt.
pub mod Words
pub mod OneCall
pub mod Calls
pub mod ChartWords
pub mod Examples
pub mod ChartExamples

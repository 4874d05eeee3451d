-- Theorems that rest on the words of specs/, and are proved apart from them.
pub mod OneAnswer
pub mod StationsLists

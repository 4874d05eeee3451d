-- Change request 7, edition 2 of the map record: what was read is written again (`Read`, `edition_again`), what was
-- written is read again (`Back`, `edition_back`), what is known of a record that was read (`Read`, `edition_sound`) and
-- where one that is refused is broken (`Broken`, `edition-broken`). Of any number of axes. Assumes nothing.
pub mod Words
pub mod Parts
pub mod Bands
pub mod Grids
pub mod Read
pub mod Broken
pub mod Written
pub mod BandsBack
pub mod Back

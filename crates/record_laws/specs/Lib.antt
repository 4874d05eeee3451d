-- Laws of the map record, of any number of axes: what was written is read again, what was read is written again, and
-- where a record that is refused is broken. `Words` has the words that they are said in, `Each` to `Heads` the steps,
-- `Back` and `Read` the laws of edition 1, `EditionTwo` those of edition 2.
pub mod Words
pub mod Each
pub mod Bytes
pub mod Numbers
pub mod Fields
pub mod Rows
pub mod Heads
pub mod Back
pub mod Read
pub mod EditionTwo

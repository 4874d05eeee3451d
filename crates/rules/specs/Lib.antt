-- The requirements, section by section; docs/BEHAVIOUR.md says them in our own words, and sentences in quotation marks
-- are the requirements' own. `Floats` is its opening; each other file has the name of its section. `Fields` is what
-- records and files are made of, `SweepFile` is change request 2.
pub mod Floats
pub mod RefusalNumbers
pub mod TheGridAndItsBounds
pub mod Coordinates
pub mod TheLine
pub mod MarksAndFrames
pub mod OneBeam
pub mod Fields
pub mod MapRecord
pub mod SweepFile
pub mod FiguresToTestOn
-- Change requests: a file for each request that adds an entry.
pub mod EditionTwo
pub mod ManySamples
pub mod VerticalBeam
pub mod LayerChart
pub mod SeasonReport

-- Theorems of every format and any number of axes, each with its statement, and the steps of its proof in the folder of
-- its name. `StationsLists` is what the chart's reader asked for; `OneAnswer`, that two answers allowed for one input
-- are equal, is of the contracts; `CountBound`, `WholeSample`, `PromiseThree`, `ZeroSign` and `MapRecord` are laws of
-- the requirements; `OffAxes`, `SweepFile`, `CheckedSet`, `ManySamples`, `EqualPairs`, `EditionTwo` with
-- `SweepResumes`, `LayerChart` with `ChartCells`, `FloorCost`, `HandCorrections`, `VerticalBeam` and `SeasonReport` of
-- change requests 1, 2, 3, 4, 6, 7, 8, 9, 10, 11 and 12. `FlatList` is what several of them share.
pub mod StationsLists
pub mod CountBound
pub mod WholeSample
pub mod PromiseThree
pub mod FloorCost
pub mod EqualPairs
pub mod ZeroSign
pub mod HandCorrections
pub mod CheckedSet
pub mod OffAxes
pub mod ManySamples
pub mod LayerChart
pub mod ChartCells
pub mod SeasonReport
pub mod MapRecord
pub mod EditionTwo
pub mod SweepResumes
pub mod SweepFile
pub mod VerticalBeam
pub mod FlatList
pub mod OneAnswer

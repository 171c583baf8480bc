-- The machine in flat memory ("level 2"): the search on the numbers of the lent table and work buffer, shaped as the code is.
-- Records is the layout; each definition from Words to Machine is a function of the code; Reading, ReadingStates and Simulation are the
-- statement, proved in proofs/Simulation (proofs/Proved: what holds of memory after a proved search).
pub mod Fields
pub mod Records
pub mod RegisterUpdates
pub mod Words
pub mod AssumptionChains
pub mod LinkedChains
pub mod Trail
pub mod Frames
pub mod ChoicePoints
pub mod Goals
pub mod Matching
pub mod Backchaining
pub mod Machine
pub mod Reading
pub mod ReadingStates
pub mod Simulation
pub mod Promises

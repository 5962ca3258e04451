-- Turn by turn, and the runs that end dry.
pub mod ClockMove
pub mod OneTurn
pub mod PartTurns
pub mod Taking
pub mod DryEnd
pub mod Simulation
pub mod DryRuns

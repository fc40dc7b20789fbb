pub mod Ranges
pub mod Seats
pub mod TickDone
pub mod Touched
pub mod SeatsStay
pub mod Asleep
pub mod SleepersStay
pub mod PickStep
pub mod Numbers
pub mod Frame
pub mod Commands
pub mod Rows
pub mod StepParts
pub mod StepCounts
mod StandsStay
mod GatesStay
mod ClassesStay
pub mod Boot
pub mod Waking
pub mod Turns
pub mod Threads
pub mod Conversing
pub mod Servers
pub mod Tasking
pub mod Ready
pub mod Taken
pub mod Kept
pub mod Finish
pub mod DuesKept
pub mod Counting
pub mod Rising
pub mod LastEnds
pub mod NextDues
pub mod FirstDue
pub mod Recorded
pub mod Pending
pub mod Scan
pub mod FlagAfter
mod FactsStay
mod Heights
mod PostsStay

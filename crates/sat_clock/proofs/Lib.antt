pub mod MotionLemmas
pub mod ClockLemmas
pub mod RelativityLemmas
pub mod ClockExists

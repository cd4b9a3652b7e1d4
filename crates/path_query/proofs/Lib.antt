pub mod Asking
pub mod Determined
pub mod OneAnswer
pub mod Sited
pub mod Sound
mod Standing
mod Collecting
mod Numbering
mod Ends
mod Ways
mod Numbered

pub mod Gathers
mod Parts
pub mod Outputs
mod Asks
mod Blame
mod Reading
mod Sending
mod Telling
mod Pends
mod Runs
mod Cuts

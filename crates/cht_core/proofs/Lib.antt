mod Abandons
mod AskCalls
mod Calls
pub mod Executions
mod FinishAllowed
mod FinishCalls
mod Found
mod Happened
mod InputTrees
mod Mine
mod PresenceShown
mod StartCalls
mod ToDo
mod Together

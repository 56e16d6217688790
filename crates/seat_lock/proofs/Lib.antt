mod Entries
mod Steps
mod Calls
mod Opening
mod Gathering

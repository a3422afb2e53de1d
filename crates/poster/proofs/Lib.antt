mod Leaving
mod Lines
mod Merges
mod Begins
mod Boards
mod Rows
mod Outcomes
